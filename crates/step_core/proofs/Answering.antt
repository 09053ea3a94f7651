-- What a finished net has given.
use Rattle.std.proofs.Common.{◌≡◌, ◌==◌, ◌&&◌, ◌||◌, not, ℕ, Bool, true, false, List, [], ◌∷◌, ◌++◌, length, filter, flat_map, map, cond, refl, sym, ap, subst, ◌∙◌, append-nil}
use Rattle.std.specs.List.{AllByRecursion, list_any}
use Rattle.std.proofs.lemmas.List.Elements.{All-from_recursion, filter-append}
use Rattle.std.proofs.lemmas.List.Folds.{list_any-append}
use Rattle.answer_theory.specs.Bags.{SameBag}
use Rattle.answer_theory.specs.Bindings.{Binding, glue, meet}
use Rattle.answer_theory.specs.Rows.{AreDistinct, glued_variables, over}
use Rattle.answer_theory.specs.Solutions.{joined_rows as joined_bindings, names, only}
use Rattle.answer_theory.specs.Trees.{IsPlaced, Join, Tree, given_rows as tree_rows, no_tables, variables as tree_variables}
use Rattle.answer_theory.proofs.Bags.{bag_filter, bag_from_same, bag_map, bag_trans}
use Rattle.answer_theory.proofs.Rows.{each_once_distinct, glued_distinct}
use Rattle.answer_theory.proofs.Tests.{reads_more}
use Rattle.answer_theory.proofs.Trees.{bag_joined, given_solutions}
use Rattle.med_base.specs.declared.outside.source.Source.{Ghosts as Source}
use Rattle.tuple_core.specs.Values.{RowList}
use Rattle.tuple_core.specs.declared.value.Value.{Value}
use Rattle.row_match.specs.Filters.{all_hold, comparison_variables}
use Rattle.row_match.specs.Patterns.{pattern_variables, term_variables, values_join}
use Rattle.row_match.specs.declared.shape.Side.TheVariants as side
use Rattle.row_match.proofs.Leaves.{leaf_binds}
use Rattle.tuple_core.specs.Order.{values_same}
use Rattle.row_match.proofs.Reading.{reads_comparisons}
use Rattle.join_core.specs.Given.{given_rows}
use Rattle.join_core.specs.State.{stored_rows}
use Rattle.join_core.proofs.Joined.{joined_bind}
use Rattle.collect_core.specs.Selecting.{Select}
use Rattle.collect_core.proofs.Leaves.{given_together, leaf_given}
use Rattle.step_core.specs.Edges.{IsEdge, Waits}
use Rattle.step_core.specs.Nets.{JoinState, LeafState, NetState, NetTree, leaf, fork, joined_variables, passed_rows, variables}
use Rattle.step_core.specs.Standing.{ArePlaced, FillTerms, HasSelected, IsDone, IsWhole, NetStands, Stands, TakesFrom}
use Rattle.step_core.specs.Wholes.{HasAnswered, StandsFor, leaf_of}
use Rattle.step_core.proofs.Pushing.{finished_parts}

-- ---- names

any_kept : (p test : ℕ → Bool) (vs : List ℕ) → list_any p (filter test vs) ≡ true → list_any p vs ≡ true
any_kept p test [] e = e
any_kept p test (v ∷ vs) e = go (test v) (any_kept p test vs) e
  where
    later : (b : Bool) → list_any p vs ≡ true → (b || list_any p vs) ≡ true
    later true h = refl
    later false h = h

    either : (b : Bool) → (list_any p (filter test vs) ≡ true → list_any p vs ≡ true) → (b || list_any p (filter test vs)) ≡ true → (b || list_any p vs) ≡ true
    either true ih h = refl
    either false ih h = ih h

    go : (b : Bool) → (list_any p (filter test vs) ≡ true → list_any p vs ≡ true) → list_any p (cond b (v ∷ filter test vs) (filter test vs)) ≡ true → (p v || list_any p vs) ≡ true
    go true ih h = either (p v) ih h
    go false ih h = later (p v) (ih h)

either_of : (a b c d : Bool) → (a ≡ true → c ≡ true) → (b ≡ true → d ≡ true) → (a || b) ≡ true → (c || d) ≡ true
either_of true b c d f g e = ap (λ x. x || d) (f refl)
either_of false b true d f g e = refl
either_of false b false d f g e = g e

glued_named : (us vs ws xs : List ℕ) (v : ℕ) → (names us v ≡ true → names ws v ≡ true) → (names vs v ≡ true → names xs v ≡ true) → names (glued_variables us vs) v ≡ true → names (ws ++ xs) v ≡ true
glued_named us vs ws xs v f g e = list_any-append (λ w. w == v) ws xs
    ∙ either_of (names us v) (names (filter (λ w. not (names us w)) vs) v) (names ws v) (names xs v) f (λ h. g (any_kept (λ w. w == v) (λ w. not (names us w)) vs h)) (sym (list_any-append (λ w. w == v) us (filter (λ w. not (names us w)) vs)) ∙ e)

-- ---- joined rows, with their test before or behind

test_behind : {X : Type 0} (joins : X → X → Bool) (test : Binding X → Bool) (l : Binding X) (rs : List (Binding X))
    → filter test (flat_map (λ r. only (meet joins l r && true) (glue l r)) rs) ≡ flat_map (λ r. only (meet joins l r && test (glue l r)) (glue l r)) rs
test_behind joins test l [] = refl
test_behind {X} joins test l (r ∷ rs) = filter-append test (only (meet joins l r && true) (glue l r)) (flat_map (λ x. only (meet joins l x && true) (glue l x)) rs) ∙ (ap (λ x. filter test (only (meet joins l r && true) (glue l r)) ++ x) (test_behind joins test l rs)
    ∙ ap (λ x. x ++ flat_map (λ y. only (meet joins l y && test (glue l y)) (glue l y)) rs) (one (meet joins l r) (test (glue l r)) refl))
  where
    kept : (t : Bool) → test (glue l r) ≡ t → filter test (glue l r ∷ []) ≡ cond t (glue l r ∷ []) []
    kept t e = ap (λ b. cond b (glue l r ∷ []) []) e

    one : (m t : Bool) → test (glue l r) ≡ t → filter test (only (m && true) (glue l r)) ≡ only (m && t) (glue l r)
    one true t e = kept t e
    one false t e = refl

tests_behind : {X : Type 0} (joins : X → X → Bool) (test : Binding X → Bool) (ls rs : List (Binding X)) → filter test (joined_bindings joins (λ b. true) ls rs) ≡ joined_bindings joins test ls rs
tests_behind joins test [] rs = refl
tests_behind joins test (l ∷ ls) rs = filter-append test (flat_map (λ r. only (meet joins l r && true) (glue l r)) rs) (joined_bindings joins (λ b. true) ls rs)
    ∙ (ap (λ x. x ++ filter test (joined_bindings joins (λ b. true) ls rs)) (test_behind joins test l rs) ∙ ap (λ x. flat_map (λ r. only (meet joins l r && test (glue l r)) (glue l r)) rs ++ x) (tests_behind joins test ls rs))

filter_mapped : {X Y : Type 0} (h : X → Y) (test : Y → Bool) (xs : List X) → map h (filter (λ x. test (h x)) xs) ≡ filter test (map h xs)
filter_mapped h test [] = refl
filter_mapped h test (x ∷ xs) = go (test (h x)) (filter_mapped h test xs)
  where
    go : (b : Bool) → map h (filter (λ y. test (h y)) xs) ≡ filter test (map h xs) → map h (cond b (x ∷ filter (λ y. test (h y)) xs) (filter (λ y. test (h y)) xs)) ≡ cond b (h x ∷ filter test (map h xs)) (filter test (map h xs))
    go true e = ap (λ ys. h x ∷ ys) e
    go false e = e

-- ---- variables

distinct : {S M : Type 0} (source : Source S M) (t : NetTree S) (gave : RowList) → Stands source t gave → AreDistinct (variables t)
distinct source (leaf l) gave h = each_once_distinct (term_variables l.collecting.select.terms)
distinct source (fork j a b) gave (from_left, from_right, (left, (right, (takes, is)))) =
    glued_distinct j.joining.shape.left j.joining.shape.right (subst AreDistinct (sym takes.left_variables) (distinct source a from_left left)) (subst AreDistinct (sym takes.right_variables) (distinct source b from_right right))

-- ---- the tree of joins

-- what an operator that gives no more has given
record Answers {S M : Type 0} (source : Source S M) (t : NetTree S) (gave : RowList) : Type 0 where
  pub tree : Tree Value
  pub stands_for : StandsFor source t tree
  pub placed : IsPlaced no_tables tree
  pub named : (v : ℕ) → names (variables t) v ≡ true → names (tree_variables tree) v ≡ true
  pub gives : SameBag (map (over (variables t)) gave) (tree_rows values_join no_tables tree)

all_rows : (select : Select) (accepted : List RowList) → FillTerms select accepted → AllByRecursion (λ row. length row ≡ length select.terms) (flat_map (λ rows. rows) accepted)
all_rows select [] h = tt
all_rows select (rows ∷ accepted) h = go rows h.0 (all_rows select accepted h.1)
  where
    go : (rows : RowList) → AllByRecursion (λ row. length row ≡ length select.terms) rows → AllByRecursion (λ row. length row ≡ length select.terms) (flat_map (λ rs. rs) accepted) → AllByRecursion (λ row. length row ≡ length select.terms) (rows ++ flat_map (λ rs. rs) accepted)
    go [] k rest = rest
    go (row ∷ rs) k rest = (k.0, go rs k.1 rest)

leaf_answers : {S M : Type 0} (source : Source S M) (l : LeafState S) (gave : RowList) → ArePlaced (leaf l) → HasSelected source l gave → Answers source (leaf l) gave
leaf_answers {S} {M} source l gave placed h = record {
  tree = leaf_of select rows;
  stands_for = record { accepted = h.accepted; has = h.has; told = h.told; sound = h.sound; leaf_is = refl };
  placed = (leaf_binds select.terms rows (All-from_recursion (λ row. length row ≡ length select.terms) rows wide), reads_more (comparison_variables select.comparisons) (pattern_variables select.terms) (all_hold select.comparisons) (reads_comparisons select.comparisons) placed);
  named = λ v e. e;
  gives = bag_from_same (ap (map (over (pattern_variables select.terms))) (h.selected ∙ given_together select h.accepted) ∙ leaf_given select rows wide);
}
  where
    select : Select
    select = l.collecting.select

    rows : RowList
    rows = flat_map (λ rs. rs) h.accepted

    wide : AllByRecursion (λ row. length row ≡ length l.collecting.select.terms) (flat_map (λ rs. rs) h.accepted)
    wide = all_rows l.collecting.select h.accepted h.fill

-- an edge whose end was taken: the giver is finished, and the taker has all its rows
all_taken : (w : Waits) (had gave : RowList) (D : Type 0) → IsEdge w had gave D → w.taken ≡ true → D × SameBag had gave
all_taken w had gave D h e = (h.closed (h.last e).0, bag_trans (bag_from_same (sym (append-nil had) ∙ ap (λ x. had ++ x) (sym (h.last e).1))) h.rows)

join_answers : {S M : Type 0} (source : Source S M) (j : JoinState) (a b : NetTree S) (from_left from_right : RowList) → TakesFrom j (variables a) (variables b) (IsDone a) (IsDone b) from_left from_right → IsWhole j.joining
    → ArePlaced (fork j a b) → AreDistinct (variables a) → AreDistinct (variables b) → SameBag (stored_rows side.Left j.joining) from_left → SameBag (stored_rows side.Right j.joining) from_right
    → Answers source a from_left → Answers source b from_right → Answers source (fork j a b) (passed_rows j)
join_answers {S} {M} source j a b from_left from_right takes whole placed da db had_left had_right ha hb = record {
  tree = Join test ha.tree hb.tree;
  stands_for = (ha.tree, (hb.tree, (ha.stands_for, (hb.stands_for, refl))));
  placed = (ha.placed, hb.placed, reads_more (comparison_variables j.comparisons) (tree_variables ha.tree ++ tree_variables hb.tree) test (reads_comparisons j.comparisons) (λ v e. named v (placed.1.1 v e)));
  named = named;
  gives = bag_trans (bag_from_same (filter_mapped (over vs) test (given_rows j.joining)))
      (bag_trans (bag_filter test (bag_trans (bag_map (over vs) whole.all) (bag_trans (bag_from_same (joined_bind j.joining.shape ls rs (subst AreDistinct (sym takes.left_variables) da) (subst AreDistinct (sym takes.right_variables) db) whole.left whole.right)) (bag_joined values_join (λ b. true) left right))))
      (bag_from_same (tests_behind values_join test (tree_rows values_join no_tables ha.tree) (tree_rows values_join no_tables hb.tree))));
}
  where
    test : Binding Value → Bool
    test = all_hold j.comparisons

    vs : List ℕ
    vs = joined_variables j.joining.shape

    ls : RowList
    ls = stored_rows side.Left j.joining

    rs : RowList
    rs = stored_rows side.Right j.joining

    left : SameBag (map (over j.joining.shape.left) (stored_rows side.Left j.joining)) (tree_rows values_join no_tables ha.tree)
    left = bag_trans (bag_map (over j.joining.shape.left) had_left) (bag_trans (bag_from_same (ap (λ us. map (over us) from_left) takes.left_variables)) ha.gives)

    right : SameBag (map (over j.joining.shape.right) (stored_rows side.Right j.joining)) (tree_rows values_join no_tables hb.tree)
    right = bag_trans (bag_map (over j.joining.shape.right) had_right) (bag_trans (bag_from_same (ap (λ us. map (over us) from_right) takes.right_variables)) hb.gives)

    named : (v : ℕ) → names (joined_variables j.joining.shape) v ≡ true → names (tree_variables ha.tree ++ tree_variables hb.tree) v ≡ true
    named v e = glued_named j.joining.shape.left j.joining.shape.right (tree_variables ha.tree) (tree_variables hb.tree) v
        (λ h. ha.named v (subst (λ us. names us v ≡ true) takes.left_variables h)) (λ h. hb.named v (subst (λ us. names us v ≡ true) takes.right_variables h)) e

answers : {S M : Type 0} (source : Source S M) (t : NetTree S) (gave : RowList) → Stands source t gave → IsDone t → ArePlaced t → Answers source t gave
answers source (leaf l) gave h done placed = leaf_answers source l gave placed h
answers source (fork j a b) gave (from_left, from_right, (left, (right, (takes, is)))) done placed =
    subst (λ g. Answers source (fork j a b) g) (sym is)
    (join_answers source j a b from_left from_right takes done placed (distinct source a from_left left) (distinct source b from_right right) on_left.1 on_right.1
    (answers source a from_left left on_left.0 placed.0) (answers source b from_right right on_right.0 placed.1.0))
  where
    on_left : IsDone a × SameBag (stored_rows side.Left j.joining) from_left
    on_left = all_taken j.left (stored_rows side.Left j.joining) from_left (IsDone a) takes.left (sym takes.left_ended ∙ (finished_parts j.joining done.finished).0.0)

    on_right : IsDone b × SameBag (stored_rows side.Right j.joining) from_right
    on_right = all_taken j.right (stored_rows side.Right j.joining) from_right (IsDone b) takes.right (sym takes.right_ended ∙ (finished_parts j.joining done.finished).0.1)

pub answered : {S M : Type 0} (source : Source S M) (n : NetState S) → NetStands source n → n.edge.taken ≡ true → HasAnswered source n
answered source n h e = go (all_taken n.edge n.rows h.gave (IsDone n.tree) h.edge e)
  where
    go : IsDone n.tree × SameBag n.rows h.gave → HasAnswered source n
    go (done, same) = found (answers source n.tree h.gave h.tree done h.placed)
      where
        found : Answers source n.tree h.gave → HasAnswered source n
        found a = record {
          tree = a.tree;
          stands_for = a.stands_for;
          placed = a.placed;
          gives = bag_trans (bag_map (over (variables n.tree)) same) a.gives;
          solves = bag_trans (bag_trans (bag_map (over (variables n.tree)) same) a.gives) (bag_from_same (given_solutions values_join values_same no_tables a.tree a.placed));
        }
