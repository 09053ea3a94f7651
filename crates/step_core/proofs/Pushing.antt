-- A net stands after each turn of one of its operators.
use Rattle.std.proofs.Common.{◌≡◌, inl, inr, ◌==◌, ◌&&◌, ℕ, Bool, true, false, List, [], ◌∷◌, ◌++◌, length, filter, cond, Option, Some, None, is_none, refl, sym, ap, subst, ◌∙◌, append-nil, arith}
use Rattle.std.specs.List.{AllByRecursion, list_all}
use Rattle.std.proofs.lemmas.Bool.{and_parts, false≢true}
use Rattle.std.proofs.lemmas.List.Elements.{filter-append}
use Rattle.answer_theory.specs.Bags.{SameBag}
use Rattle.answer_theory.specs.Rows.{over}
use Rattle.answer_theory.proofs.Bags.{bag_filter, bag_from_same, bag_refl, bag_sym, bag_trans}
use Rattle.med_base.specs.declared.outside.source.Source.{Ghosts as Source}
use Rattle.tuple_core.specs.Values.{RowList, RowValues}
use Rattle.tuple_core.specs.declared.columns.Column.{Column}
use Rattle.csv_wrap.specs.Ahead.{FillColumns}
use Rattle.row_match.specs.Filters.{all_hold}
use Rattle.row_match.specs.Patterns.{pattern_variables}
use Rattle.row_match.specs.Shapes.{Shape}
use Rattle.row_match.specs.declared.filter.Comparison.{Comparison}
use Rattle.row_match.specs.declared.shape.Side.{Side}
use Rattle.row_match.specs.declared.shape.Side.TheVariants as side
use Rattle.join_core.specs.Given.{given_rows, is_pending_in}
use Rattle.bucket_store.specs.Held.{Held}
use Rattle.join_core.specs.State.{Joining, Probing, stored_rows}
use Rattle.join_core.specs.Steps.{is_finished}
use Rattle.collect_core.specs.Collecting.{Collecting}
use Rattle.collect_core.specs.Members.{AreWithin, Member}
use Rattle.collect_core.specs.Selecting.{Select, selected_rows}
use Rattle.collect_core.specs.Steps.{Gathers, Steps, StepsHeld, given_rows as selected_of, gave as gave_by, with_rows}
use Rattle.collect_core.specs.declared.reader.Collected.{Collected}
use Rattle.collect_core.proofs.Leaves.{given_width}
use Rattle.step_core.specs.Edges.{PutsEnd, PutsRows, SameWaits, Waits}
use Rattle.step_core.specs.Joins.{ComesIn, EndComes, Feeds, FeedsOn, GivesRow, JoinTurn, Takes, TakesItem, at_rest}
use Rattle.step_core.specs.Going.{Pushes}
use Rattle.step_core.specs.Leaves.{ClosesLeaf, CollectorActs, MemberGives, MemberTurn, Pulls, TakesHeld}
use Rattle.step_core.specs.Nets.{JoinState, LeafState, NetTree, leaf, fork, joined_variables, passed_rows, passes, variables}
use Rattle.step_core.specs.Same.{SameJoin}
use Rattle.step_core.specs.Standing.{AreWide, FillTerms, HasSelected, IsDone, IsWhole, Stands, TakesFrom}
use Rattle.step_core.specs.Steps.{LeafActs, TreeActs}
use Rattle.step_core.specs.declared.actor.StepEnd.{StepEnd}
use Rattle.step_core.specs.declared.actor.StepEnd.TheVariants as step_end
use Rattle.step_core.specs.declared.actor.Turn.{Turn}
use Rattle.step_core.specs.declared.actor.Turn.TheVariants as turn
use Rattle.step_core.proofs.Edging.{bag_more, edge_ended, edge_given, edge_same, edge_taken, taken_goes_on}
use Rattle.step_core.proofs.Giving.{puts_none, same_waits}
use Rattle.step_core.proofs.Same.{operators_same, same_join, variables_same}
use Rattle.step_core.proofs.Wide.{wide_both, wide_parts, wide_same}

-- nothing was given, and the tree is the same
pub keeps : {S M : Type 0} (source : Source S M) (t : NetTree S) (w v : Waits) (gave : RowList) → SameWaits w v → Stands source t gave → Pushes source t t w v gave
keeps source t w v gave same h = record {
  more = [];
  now = gave;
  stands = h;
  bag = bag_from_same (sym (append-nil gave));
  rows = (puts_none w v same).rows;
  given = (puts_none w v same).given;
  taken = same.taken;
  put = λ e. same.put ∙ e;
  closed = λ done e. done (sym same.put ∙ e);
  quiet = λ e done. refl;
  wide = refl;
  same = operators_same t;
}

-- the end was put
pub ends : {S M : Type 0} (source : Source S M) (t : NetTree S) (w v : Waits) (gave : RowList) → PutsEnd w v → IsDone t → Stands source t gave → Pushes source t t w v gave
ends source t w v gave puts done h = subst (λ x. Pushes source t t w x gave) (sym puts.put) (record {
  more = [];
  now = gave;
  stands = h;
  bag = bag_from_same (sym (append-nil gave));
  rows = sym (append-nil w.rows);
  given = (puts_none w w (same_waits w)).given;
  taken = refl;
  put = λ e. refl;
  closed = λ before e. done;
  quiet = λ e d. refl;
  wide = refl;
  same = operators_same t;
})

-- ---- an atom

all_wide : (n : ℕ) (rows : RowList) → AllByRecursion (λ row. length row ≡ n) rows → list_all (λ row. length row == n) rows ≡ true
all_wide n [] h = refl
all_wide n (row ∷ rows) h = ap (λ b. b && list_all (λ r. length r == n) rows) (same (length row) n h.0) ∙ all_wide n rows h.1
  where
    same : (a b : ℕ) → a ≡ b → (a == b) ≡ true
    same a b e = Prim.grind (arith, e)

as_terms : (columns : List Column) (n : ℕ) (rows : RowList) → length columns ≡ n → FillColumns columns rows → AllByRecursion (λ row. length row ≡ n) rows
as_terms columns n [] e h = tt
as_terms columns n (row ∷ rows) e h = (h.0 ∙ e, as_terms columns n rows e h.1)

selected_wide : (select : Select) (columns : List Column) (accepted : List RowList) → length columns ≡ length select.terms → AreWithin columns accepted → AreWide (pattern_variables select.terms) (selected_of select accepted)
selected_wide select columns [] e h = refl
selected_wide select columns (rows ∷ accepted) e h =
    wide_both (pattern_variables select.terms) (selected_rows select rows) (selected_of select accepted)
    (all_wide (length (pattern_variables select.terms)) (selected_rows select rows) (given_width select rows (as_terms columns (length select.terms) rows e h.0.0)))
    (selected_wide select columns accepted e h.1)

terms_filled : (select : Select) (columns : List Column) (accepted : List RowList) → length columns ≡ length select.terms → AreWithin columns accepted → FillTerms select accepted
terms_filled select columns [] e h = tt
terms_filled select columns (rows ∷ accepted) e h = (as_terms columns (length select.terms) rows e h.0.0, terms_filled select columns accepted e h.1)

-- its members alone have changed
members_alone : {S : Type 0} (s t : Collecting S) {members : List (Member S)} → t ≡ record s { members = members } → t ≡ record s { members = t.members }
members_alone s t is = is ∙ ap (λ x. record s { members = x.members }) (sym is)

member_pushes : {S M : Type 0} (source : Source S M) (Acts : CollectorActs S) (l k : LeafState S) (index : ℕ) (w v : Waits) (end : StepEnd) (gave : RowList) → MemberGives source Acts l k index w v end → k.collecting ≡ record l.collecting { members = k.collecting.members }
    → HasSelected source l gave → Pushes source (leaf l) (leaf k) w v gave
member_pushes {S} {M} source Acts l k index w v end gave p changed h = record {
  more = more;
  now = now;
  stands = record { accepted = after; has = gathers.has; told = p.turn.told after gathers.has; sound = p.turn.sound; fill = terms_filled k.collecting.select k.collecting.columns after p.turn.width (p.turn.within after gathers.has); selected = ap (λ s. selected_of s after) (sym select_is); wide = wide_now };
  bag = bag;
  rows = p.put.rows;
  given = p.put.given;
  taken = p.put.taken;
  put = λ e. p.put.put ∙ e;
  closed = λ done e. absurd (false≢true (sym p.goes_on ∙ (sym p.put.put ∙ e)));
  quiet = λ e done. absurd (false≢true (sym p.goes_on ∙ e));
  wide = subst (λ s. AreWide (pattern_variables s.terms) more) select_is (wide_parts (pattern_variables k.collecting.select.terms) gave more (wide_same (pattern_variables k.collecting.select.terms) bag wide_now)).1;
  same = record { atom = p.atom; columns = columns_is; select = select_is };
}
  where
    select_is : k.collecting.select ≡ l.collecting.select
    select_is = ap (λ c. c.select) changed

    columns_is : k.collecting.columns ≡ l.collecting.columns
    columns_is = ap (λ c. c.columns) changed

    gathers : Gathers source l.collecting k.collecting index p.result h.accepted
    gathers = p.turn.gathers h.accepted h.has

    after : List RowList
    after = with_rows h.accepted index gathers.more

    more : RowList
    more = gave_by p.result

    now : RowList
    now = selected_of l.collecting.select after

    bag : SameBag now (gave ++ more)
    bag = subst (λ g. SameBag now (g ++ more)) (sym h.selected) gathers.step.given

    wide_now : AreWide (pattern_variables k.collecting.select.terms) now
    wide_now = subst (λ s. AreWide (pattern_variables k.collecting.select.terms) (selected_of s after)) select_is (selected_wide k.collecting.select k.collecting.columns after p.turn.width (p.turn.within after gathers.has))

-- a turn of a member, which leaves what its atom selects
turn_of_member : {S M : Type 0} (source : Source S M) (Acts : CollectorActs S) (l k : LeafState S) (index : ℕ) (w v : Waits) (end : StepEnd) (gave : RowList)
    → ((result : Collected) → Acts l.collecting k.collecting index result → k.collecting ≡ record l.collecting { members = k.collecting.members }) → MemberTurn source Acts l k index w v end → HasSelected source l gave → Pushes source (leaf l) (leaf k) w v gave
turn_of_member {S} {M} source Acts l k index w v end gave same p h = go end p
  where
    gives : (e : StepEnd) → MemberGives source Acts l k index w v e → Pushes source (leaf l) (leaf k) w v gave
    gives e g = member_pushes source Acts l k index w v e gave g (same g.result g.turn.acts) h

    go : (e : StepEnd) → MemberTurn source Acts l k index w v e → Pushes source (leaf l) (leaf k) w v gave
    go step_end.Moved g = gives step_end.Moved g
    go step_end.Still (inl o) = subst (λ x. Pushes source (leaf l) (leaf x) w v gave) (sym o.same) (subst (λ x. Pushes source (leaf l) (leaf l) w x gave) (sym o.out) (keeps source (leaf l) w w gave (same_waits w) h))
    go step_end.Still (inr g) = gives step_end.Still g
    go step_end.NoMemory (inl o) = subst (λ x. Pushes source (leaf l) (leaf x) w v gave) (sym o.same) (keeps source (leaf l) w v gave o.out h)
    go step_end.NoMemory (inr g) = gives step_end.NoMemory g

pub pull_pushes : {S M : Type 0} (source : Source S M) (l k : LeafState S) (index : ℕ) (w v : Waits) (end : StepEnd) (gave : RowList) → Pulls source l k index w v end → HasSelected source l gave → Pushes source (leaf l) (leaf k) w v gave
pull_pushes source l k index w v end gave p h = turn_of_member source (Steps source) l k index w v end gave (λ result acts. members_alone l.collecting k.collecting acts.changed) p h

pub held_pushes : {S M : Type 0} (source : Source S M) (l k : LeafState S) (index : ℕ) (w v : Waits) (end : StepEnd) (gave : RowList) → TakesHeld source l k index w v end → HasSelected source l gave → Pushes source (leaf l) (leaf k) w v gave
held_pushes source l k index w v end gave p h = turn_of_member source (StepsHeld source) l k index w v end gave (λ result acts. members_alone l.collecting k.collecting acts.changed) p h

pub close_pushes : {S M : Type 0} (source : Source S M) (l k : LeafState S) (w v : Waits) (end : StepEnd) (gave : RowList) → ClosesLeaf l k w v end → HasSelected source l gave → Pushes source (leaf l) (leaf k) w v gave
close_pushes source l k w v step_end.Moved gave p h = subst (λ x. Pushes source (leaf l) (leaf x) w v gave) (sym p.same) (ends source (leaf l) w v gave p.put p.settled h)
close_pushes source l k w v step_end.Still gave (same, why) h = subst (λ x. Pushes source (leaf l) (leaf x) w v gave) (sym same) (subst (λ x. Pushes source (leaf l) (leaf l) w x gave) (sym why.out) (keeps source (leaf l) w w gave (same_waits w) h))
close_pushes source l k w v step_end.NoMemory gave p h = absurd p

leaf_pushes : {S M : Type 0} (source : Source S M) (l k : LeafState S) (w v : Waits) (end : StepEnd) (gave : RowList) → LeafActs source l k w v end → HasSelected source l gave → Pushes source (leaf l) (leaf k) w v gave
leaf_pushes source l k w v end gave (inl (index, p)) h = pull_pushes source l k index w v end gave p h
leaf_pushes source l k w v end gave (inr p) h = close_pushes source l k w v end gave p h

-- ---- a join

filter_one : {X : Type 0} (test : X → Bool) (x : X) → filter test (x ∷ []) ≡ cond (test x) (x ∷ []) []
filter_one test x = one (test x)
  where
    one : (b : Bool) → cond b (x ∷ []) [] ≡ cond b (x ∷ []) []
    one b = refl

-- What a join's turn needs: it gave rows more, those that pass went out, and where all was given before, nothing changed.
record Turns (j k : JoinState) (us vs : List ℕ) (L R : Type 0) (from_left from_right : RowList) (w v : Waits) (rows : RowList) : Type 0 where
  pub takes : TakesFrom k us vs L R from_left from_right
  pub same : SameJoin j k
  pub given : SameBag (given_rows k.joining) (given_rows j.joining ++ rows)
  pub put : PutsRows w v (filter (passes j) rows)
  pub wide : AreWide (joined_variables j.joining.shape) rows
  pub stays : IsWhole j.joining → (rows ≡ []) × (k.joining ≡ j.joining)

abbrev passes_of : List Comparison → Shape → RowValues → Bool
passes_of cs s = λ row. all_hold cs (over (joined_variables s) row)

kept_wide : (vs : List ℕ) (test : RowValues → Bool) (rows : RowList) → AreWide vs rows → AreWide vs (filter test rows)
kept_wide vs test [] h = refl
kept_wide vs test (row ∷ rows) h = go (kept_wide vs test rows parts.1) (test row)
  where
    parts : ((length row == length vs) ≡ true) × (list_all (λ r. length r == length vs) rows ≡ true)
    parts = and_parts (length row == length vs) (list_all (λ r. length r == length vs) rows) h

    go : AreWide vs (filter test rows) → (b : Bool) → AreWide vs (cond b (row ∷ filter test rows) (filter test rows))
    go rest true = ap (λ b. b && list_all (λ r. length r == length vs) (filter test rows)) parts.0 ∙ rest
    go rest false = rest

turn_pushes : {S M : Type 0} (source : Source S M) (j k : JoinState) (a b : NetTree S) (from_left from_right : RowList) (w v : Waits) (rows : RowList)
    → Turns j k (variables a) (variables b) (IsDone a) (IsDone b) from_left from_right w v rows → Stands source a from_left → Stands source b from_right → Pushes source (fork j a b) (fork k a b) w v (passed_rows j)
turn_pushes source j k a b from_left from_right w v rows t left right = record {
  more = filter (passes j) rows;
  now = passed_rows k;
  stands = (from_left, from_right, (left, (right, (t.takes, refl))));
  bag = bag_trans (bag_filter (passes k) t.given) (bag_from_same (ap (λ p. filter p (given_rows j.joining ++ rows)) passes_is ∙ filter-append (passes j) (given_rows j.joining) rows));
  rows = t.put.rows;
  given = t.put.given;
  taken = t.put.taken;
  put = λ e. t.put.put ∙ e;
  closed = λ done e. subst IsWhole (sym (t.stays (done (sym t.put.put ∙ e))).1) (done (sym t.put.put ∙ e));
  quiet = λ e done. ap (λ x. filter (passes j) x) (t.stays done).0;
  wide = kept_wide (joined_variables j.joining.shape) (passes j) rows t.wide;
  same = (t.same, (operators_same a, operators_same b));
}
  where
    passes_is : passes k ≡ passes j
    passes_is = ap (λ cs. passes_of cs k.joining.shape) t.same.comparisons ∙ ap (λ s. passes_of j.comparisons s) t.same.shape

is_wide : (n m : ℕ) → n ≡ m → ((n == m) && true) ≡ true
is_wide n m e = Prim.grind (arith, e)

pub finished_parts : (s : Joining) → is_finished s ≡ true → ((s.left_ended ≡ true) × (s.right_ended ≡ true)) × (is_none s.probe ≡ true)
finished_parts s e = (and_parts s.left_ended s.right_ended (and_parts (s.left_ended && s.right_ended) _ e).0, (and_parts (is_none s.probe) _ (and_parts (s.left_ended && s.right_ended) _ e).1).0)

no_probe : (o : Option Probing) → is_none o ≡ true → o ≡ None
no_probe None e = refl
no_probe (Some p) e = absurd (false≢true e)

not_pending : (o : Option Probing) (n : ℕ) (l r : Held) → is_none o ≡ true → is_pending_in o n l r ≡ true → ⊥
not_pending None n l r e pending = false≢true pending
not_pending (Some p) n l r e pending = false≢true e

row_turns : (j k : JoinState) (us vs : List ℕ) (L R : Type 0) (from_left from_right : RowList) (w v : Waits) (r : GivesRow j k w v) → TakesFrom j us vs L R from_left from_right
    → Turns j k us vs L R from_left from_right w v (r.row ∷ [])
row_turns j k us vs L R from_left from_right w v r h = record {
  takes = subst (λ x. TakesFrom x us vs L R from_left from_right) (sym (r.same ∙ ap (λ s. record j { joining = s }) r.gives.same)) (record {
    left_variables = h.left_variables;
    right_variables = h.right_variables;
    left = h.left;
    right = h.right;
    left_ended = h.left_ended;
    right_ended = h.right_ended;
    left_wide = h.left_wide;
    right_wide = h.right_wide;
  });
  same = record { number = ap (λ x. x.number) r.same; shape = r.step.shape; comparisons = ap (λ x. x.comparisons) r.same };
  given = r.step.given;
  put = r.put;
  wide = is_wide (length r.row) (length (joined_variables j.joining.shape)) r.wide;
  stays = λ whole. absurd (not_pending j.joining.probe (length j.joining.left) r.gives.left r.gives.right (finished_parts j.joining whole.finished).1 r.gives.was_pending);
}

-- the join took an item of an edge, or nothing
record Fed (j k : JoinState) (us vs : List ℕ) (L R : Type 0) (from_left from_right : RowList) : Type 0 where
  pub takes : TakesFrom k us vs L R from_left from_right
  pub same : SameJoin j k
  pub given : SameBag (given_rows k.joining) (given_rows j.joining)
  pub stays : (j.joining.left_ended ≡ true) × (j.joining.right_ended ≡ true) → k.joining ≡ j.joining

comes_left : (j : JoinState) (us vs : List ℕ) (L R : Type 0) (from_left from_right : RowList) (t : Joining) (y : Waits) → ComesIn side.Left j.joining t j.left y → TakesFrom j us vs L R from_left from_right
    → Fed j (record j { joining = t; left = y }) us vs L R from_left from_right
comes_left j us vs L R from_left from_right t y c h = record {
  takes = record {
    left_variables = ap (λ s. s.left) c.step.shape ∙ h.left_variables;
    right_variables = ap (λ s. s.right) c.step.shape ∙ h.right_variables;
    left = edge_taken j.left y (stored_rows side.Left j.joining) (stored_rows side.Left t) from_left c.row L h.left c.first c.step.left;
    right = edge_same j.right j.right (stored_rows side.Right j.joining) (stored_rows side.Right t) from_right R h.right (same_waits j.right) (bag_more c.step.right);
    left_ended = ap (λ s. s.left_ended) c.came ∙ h.left_ended ∙ sym c.first.taken;
    right_ended = ap (λ s. s.right_ended) c.came ∙ h.right_ended;
    left_wide = h.left_wide;
    right_wide = h.right_wide;
  };
  same = record { number = refl; shape = c.step.shape; comparisons = refl };
  given = bag_more c.step.given;
  stays = λ both. absurd (taken_goes_on j.left y (stored_rows side.Left j.joining) from_left c.row L h.left c.first (sym h.left_ended ∙ both.0));
}

comes_right : (j : JoinState) (us vs : List ℕ) (L R : Type 0) (from_left from_right : RowList) (t : Joining) (y : Waits) → ComesIn side.Right j.joining t j.right y → TakesFrom j us vs L R from_left from_right
    → Fed j (record j { joining = t; right = y }) us vs L R from_left from_right
comes_right j us vs L R from_left from_right t y c h = record {
  takes = record {
    left_variables = ap (λ s. s.left) c.step.shape ∙ h.left_variables;
    right_variables = ap (λ s. s.right) c.step.shape ∙ h.right_variables;
    left = edge_same j.left j.left (stored_rows side.Left j.joining) (stored_rows side.Left t) from_left L h.left (same_waits j.left) (bag_more c.step.left);
    right = edge_taken j.right y (stored_rows side.Right j.joining) (stored_rows side.Right t) from_right c.row R h.right c.first c.step.right;
    left_ended = ap (λ s. s.left_ended) c.came ∙ h.left_ended;
    right_ended = ap (λ s. s.right_ended) c.came ∙ h.right_ended ∙ sym c.first.taken;
    left_wide = h.left_wide;
    right_wide = h.right_wide;
  };
  same = record { number = refl; shape = c.step.shape; comparisons = refl };
  given = bag_more c.step.given;
  stays = λ both. absurd (taken_goes_on j.right y (stored_rows side.Right j.joining) from_right c.row R h.right c.first (sym h.right_ended ∙ both.1));
}

ends_left : (j : JoinState) (us vs : List ℕ) (L R : Type 0) (from_left from_right : RowList) (t : Joining) (y : Waits) → EndComes side.Left j.joining t j.left y → TakesFrom j us vs L R from_left from_right
    → Fed j (record j { joining = t; left = y }) us vs L R from_left from_right
ends_left j us vs L R from_left from_right t y c h = record {
  takes = record {
    left_variables = ap (λ s. s.left) c.step.shape ∙ h.left_variables;
    right_variables = ap (λ s. s.right) c.step.shape ∙ h.right_variables;
    left = edge_ended j.left y (stored_rows side.Left j.joining) (stored_rows side.Left t) from_left L h.left c.last (bag_more c.step.left);
    right = edge_same j.right j.right (stored_rows side.Right j.joining) (stored_rows side.Right t) from_right R h.right (same_waits j.right) (bag_more c.step.right);
    left_ended = ap (λ s. s.left_ended) c.ended ∙ sym (ap (λ x. x.taken) c.last.taken);
    right_ended = ap (λ s. s.right_ended) c.ended ∙ h.right_ended;
    left_wide = h.left_wide;
    right_wide = h.right_wide;
  };
  same = record { number = refl; shape = c.step.shape; comparisons = refl };
  given = bag_more c.step.given;
  stays = λ both. absurd (false≢true (sym c.last.goes_on ∙ (sym h.left_ended ∙ both.0)));
}

ends_right : (j : JoinState) (us vs : List ℕ) (L R : Type 0) (from_left from_right : RowList) (t : Joining) (y : Waits) → EndComes side.Right j.joining t j.right y → TakesFrom j us vs L R from_left from_right
    → Fed j (record j { joining = t; right = y }) us vs L R from_left from_right
ends_right j us vs L R from_left from_right t y c h = record {
  takes = record {
    left_variables = ap (λ s. s.left) c.step.shape ∙ h.left_variables;
    right_variables = ap (λ s. s.right) c.step.shape ∙ h.right_variables;
    left = edge_same j.left j.left (stored_rows side.Left j.joining) (stored_rows side.Left t) from_left L h.left (same_waits j.left) (bag_more c.step.left);
    right = edge_ended j.right y (stored_rows side.Right j.joining) (stored_rows side.Right t) from_right R h.right c.last (bag_more c.step.right);
    left_ended = ap (λ s. s.left_ended) c.ended ∙ h.left_ended;
    right_ended = ap (λ s. s.right_ended) c.ended ∙ sym (ap (λ x. x.taken) c.last.taken);
    left_wide = h.left_wide;
    right_wide = h.right_wide;
  };
  same = record { number = refl; shape = c.step.shape; comparisons = refl };
  given = bag_more c.step.given;
  stays = λ both. absurd (false≢true (sym c.last.goes_on ∙ (sym h.right_ended ∙ both.1)));
}

-- the edges hold the same rows
same_edges : (j : JoinState) (us vs : List ℕ) (L R : Type 0) (from_left from_right : RowList) (x y : Waits) → SameWaits j.left x → SameWaits j.right y → TakesFrom j us vs L R from_left from_right
    → Fed j (record j { left = x; right = y }) us vs L R from_left from_right
same_edges j us vs L R from_left from_right x y a b h = record {
  takes = record {
    left_variables = h.left_variables;
    right_variables = h.right_variables;
    left = edge_same j.left x (stored_rows side.Left j.joining) (stored_rows side.Left j.joining) from_left L h.left a (bag_refl _);
    right = edge_same j.right y (stored_rows side.Right j.joining) (stored_rows side.Right j.joining) from_right R h.right b (bag_refl _);
    left_ended = h.left_ended ∙ sym a.taken;
    right_ended = h.right_ended ∙ sym b.taken;
    left_wide = h.left_wide;
    right_wide = h.right_wide;
  };
  same = same_join j x y;
  given = bag_refl _;
  stays = λ both. refl;
}

fed : (which : Side) (j k : JoinState) (end : StepEnd) (us vs : List ℕ) (L R : Type 0) (from_left from_right : RowList) → FeedsOn which j k end → TakesFrom j us vs L R from_left from_right → Fed j k us vs L R from_left from_right
fed side.Left j k end us vs L R from_left from_right f h = subst (λ x. Fed j x us vs L R from_left from_right) (sym f.same) (go end f.feeds)
  where
    go : (e : StepEnd) → Feeds side.Left j.joining k.joining j.left k.left e → Fed j (record j { joining = k.joining; left = k.left }) us vs L R from_left from_right
    go step_end.Moved (inl c) = comes_left j us vs L R from_left from_right k.joining k.left c h
    go step_end.Moved (inr c) = ends_left j us vs L R from_left from_right k.joining k.left c h
    go step_end.Still (same, rest) = subst (λ s. Fed j (record j { joining = s; left = k.left }) us vs L R from_left from_right) (sym same) (subst (λ x. Fed j (record j { left = x }) us vs L R from_left from_right) (sym rest.1) (same_edges j us vs L R from_left from_right j.left j.right (same_waits j.left) (same_waits j.right) h))
    go step_end.NoMemory (same, waits) = subst (λ s. Fed j (record j { joining = s; left = k.left }) us vs L R from_left from_right) (sym same) (same_edges j us vs L R from_left from_right k.left j.right waits (same_waits j.right) h)
fed side.Right j k end us vs L R from_left from_right f h = subst (λ x. Fed j x us vs L R from_left from_right) (sym f.same) (go end f.feeds)
  where
    go : (e : StepEnd) → Feeds side.Right j.joining k.joining j.right k.right e → Fed j (record j { joining = k.joining; right = k.right }) us vs L R from_left from_right
    go step_end.Moved (inl c) = comes_right j us vs L R from_left from_right k.joining k.right c h
    go step_end.Moved (inr c) = ends_right j us vs L R from_left from_right k.joining k.right c h
    go step_end.Still (same, rest) = subst (λ s. Fed j (record j { joining = s; right = k.right }) us vs L R from_left from_right) (sym same) (subst (λ x. Fed j (record j { right = x }) us vs L R from_left from_right) (sym rest.1) (same_edges j us vs L R from_left from_right j.left j.right (same_waits j.left) (same_waits j.right) h))
    go step_end.NoMemory (same, waits) = subst (λ s. Fed j (record j { joining = s; right = k.right }) us vs L R from_left from_right) (sym same) (same_edges j us vs L R from_left from_right j.left k.right (same_waits j.left) waits h)

item_turns : (which : Side) (j k : JoinState) (us vs : List ℕ) (L R : Type 0) (from_left from_right : RowList) (w v : Waits) (end : StepEnd) → TakesItem which j k w v end → TakesFrom j us vs L R from_left from_right
    → Turns j k us vs L R from_left from_right w v []
item_turns which j k us vs L R from_left from_right w v end i h = record {
  takes = on.takes;
  same = record { number = on.same.number; shape = on.same.shape ∙ i.no_match.step.shape; comparisons = on.same.comparisons };
  given = bag_trans on.given i.no_match.step.given;
  put = puts_none w v i.out;
  wide = refl;
  stays = λ whole. (refl, on.stays (ends_with (finished_parts j.joining whole.finished).0) ∙ (i.no_match.rests ∙ rested (no_probe j.joining.probe (finished_parts j.joining whole.finished).1)));
}
  where
    resting : TakesFrom (record j { joining = i.between }) us vs L R from_left from_right
    resting = subst (λ s. TakesFrom (record j { joining = s }) us vs L R from_left from_right) (sym i.no_match.rests) (record {
      left_variables = h.left_variables;
      right_variables = h.right_variables;
      left = h.left;
      right = h.right;
      left_ended = h.left_ended;
      right_ended = h.right_ended;
      left_wide = h.left_wide;
      right_wide = h.right_wide;
    })

    on : Fed (record j { joining = i.between }) k us vs L R from_left from_right
    on = fed which (record j { joining = i.between }) k end us vs L R from_left from_right i.feeds resting

    ends_with : (j.joining.left_ended ≡ true) × (j.joining.right_ended ≡ true) → (i.between.left_ended ≡ true) × (i.between.right_ended ≡ true)
    ends_with both = (ap (λ s. s.left_ended) i.no_match.rests ∙ both.0, ap (λ s. s.right_ended) i.no_match.rests ∙ both.1)

    rested : j.joining.probe ≡ None → at_rest j.joining ≡ j.joining
    rested e = ap (λ o. record j.joining { probe = o }) (sym e)

pub join_pushes : {S M : Type 0} (source : Source S M) (the_turn : Turn) (j k : JoinState) (a b : NetTree S) (from_left from_right : RowList) (w v : Waits) (end : StepEnd) → JoinTurn the_turn j k w v end
    → Stands source a from_left → Stands source b from_right → TakesFrom j (variables a) (variables b) (IsDone a) (IsDone b) from_left from_right → Pushes source (fork j a b) (fork k a b) w v (passed_rows j)
join_pushes {S} {M} source (turn.Take which) j k a b from_left from_right w v end acts left right h = go end acts
  where
    item : (e : StepEnd) → TakesItem which j k w v e → Pushes source (fork j a b) (fork k a b) w v (passed_rows j)
    item e i = turn_pushes source j k a b from_left from_right w v [] (item_turns which j k (variables a) (variables b) (IsDone a) (IsDone b) from_left from_right w v e i h) left right

    go : (e : StepEnd) → Takes which j k w v e → Pushes source (fork j a b) (fork k a b) w v (passed_rows j)
    go step_end.Moved (inl r) = turn_pushes source j k a b from_left from_right w v (r.row ∷ []) (row_turns j k (variables a) (variables b) (IsDone a) (IsDone b) from_left from_right w v r h) left right
    go step_end.Moved (inr i) = item step_end.Moved i
    go step_end.Still i = item step_end.Still i
    go step_end.NoMemory (inl o) = subst (λ x. Pushes source (fork j a b) (fork x a b) w v (passed_rows j)) (sym o.same) (keeps source (fork j a b) w v (passed_rows j) o.out (from_left, from_right, (left, (right, (h, refl)))))
    go step_end.NoMemory (inr i) = item step_end.NoMemory i
join_pushes {S} {M} source turn.Close j k a b from_left from_right w v end acts left right h = go end acts
  where
    stands : Stands source (fork j a b) (passed_rows j)
    stands = (from_left, from_right, (left, (right, (h, refl))))

    go : (e : StepEnd) → JoinTurn turn.Close j k w v e → Pushes source (fork j a b) (fork k a b) w v (passed_rows j)
    go step_end.Moved c = subst (λ x. Pushes source (fork j a b) (fork x a b) w v (passed_rows j)) (sym c.same) (ends source (fork j a b) w v (passed_rows j) c.put c.whole stands)
    go step_end.Still (same, why) = subst (λ x. Pushes source (fork j a b) (fork x a b) w v (passed_rows j)) (sym same) (subst (λ y. Pushes source (fork j a b) (fork j a b) w y (passed_rows j)) (sym why.out) (keeps source (fork j a b) w w (passed_rows j) (same_waits w) stands))
    go step_end.NoMemory c = absurd c

-- ---- the tree

pub left_pushes : {S M : Type 0} (source : Source S M) (j : JoinState) (a b c : NetTree S) (from_left from_right : RowList) (x w : Waits) → Pushes source a c j.left x from_left → Stands source b from_right
    → TakesFrom j (variables a) (variables b) (IsDone a) (IsDone b) from_left from_right → Pushes source (fork j a b) (fork (record j { left = x }) c b) w w (passed_rows j)
left_pushes source j a b c from_left from_right x w p right h = record {
  more = [];
  now = passed_rows j;
  stands = (
    p.now,
    from_right,
    (
      p.stands,
      (
        right,
        (
          record {
            left_variables = h.left_variables ∙ sym (variables_same a c p.same);
            right_variables = h.right_variables;
            left = edge_given j.left x (stored_rows side.Left j.joining) from_left p.now p.more (IsDone a) (IsDone c) h.left p.rows p.given p.taken p.put p.bag (p.closed h.left.closed) p.quiet;
            right = h.right;
            left_ended = h.left_ended ∙ sym p.taken;
            right_ended = h.right_ended;
            left_wide = subst (λ us. AreWide us p.now) (sym (variables_same a c p.same)) (wide_same (variables a) (bag_sym p.bag) (wide_both (variables a) from_left p.more h.left_wide p.wide));
            right_wide = h.right_wide;
          },
          refl,
        ),
      ),
    ),
  );
  bag = bag_from_same (sym (append-nil (passed_rows j)));
  rows = sym (append-nil w.rows);
  given = (puts_none w w (same_waits w)).given;
  taken = refl;
  put = λ e. e;
  closed = λ done e. done e;
  quiet = λ e done. refl;
  wide = refl;
  same = (same_join j x j.right, (p.same, operators_same b));
}

pub right_pushes : {S M : Type 0} (source : Source S M) (j : JoinState) (a b c : NetTree S) (from_left from_right : RowList) (x w : Waits) → Pushes source b c j.right x from_right → Stands source a from_left
    → TakesFrom j (variables a) (variables b) (IsDone a) (IsDone b) from_left from_right → Pushes source (fork j a b) (fork (record j { right = x }) a c) w w (passed_rows j)
right_pushes source j a b c from_left from_right x w p left h = record {
  more = [];
  now = passed_rows j;
  stands = (
    from_left,
    p.now,
    (
      left,
      (
        p.stands,
        (
          record {
            left_variables = h.left_variables;
            right_variables = h.right_variables ∙ sym (variables_same b c p.same);
            left = h.left;
            right = edge_given j.right x (stored_rows side.Right j.joining) from_right p.now p.more (IsDone b) (IsDone c) h.right p.rows p.given p.taken p.put p.bag (p.closed h.right.closed) p.quiet;
            left_ended = h.left_ended;
            right_ended = h.right_ended ∙ sym p.taken;
            left_wide = h.left_wide;
            right_wide = subst (λ us. AreWide us p.now) (sym (variables_same b c p.same)) (wide_same (variables b) (bag_sym p.bag) (wide_both (variables b) from_right p.more h.right_wide p.wide));
          },
          refl,
        ),
      ),
    ),
  );
  bag = bag_from_same (sym (append-nil (passed_rows j)));
  rows = sym (append-nil w.rows);
  given = (puts_none w w (same_waits w)).given;
  taken = refl;
  put = λ e. e;
  closed = λ done e. done e;
  quiet = λ e done. refl;
  wide = refl;
  same = (same_join j j.left x, (operators_same a, p.same));
}

pub pushes : {S M : Type 0} (source : Source S M) (t u : NetTree S) (w v : Waits) (end : StepEnd) (gave : RowList) → TreeActs source t u w v end → Stands source t gave → Pushes source t u w v gave
pushes source (leaf l) u w v end gave (k, (is, acts)) h = subst (λ x. Pushes source (leaf l) x w v gave) (sym is) (leaf_pushes source l k w v end gave acts h)
pushes source (fork j a b) u w v end gave (inl (k, (is, (the_turn, acts)))) (from_left, from_right, (left, (right, (takes, gave_is)))) =
    subst (λ x. Pushes source (fork j a b) x w v gave) (sym is) (subst (λ g. Pushes source (fork j a b) (fork k a b) w v g) (sym gave_is) (join_pushes source the_turn j k a b from_left from_right w v end acts left right takes))
pushes source (fork j a b) u w v end gave (inr (same, inl (c, (x, (is, acts))))) (from_left, from_right, (left, (right, (takes, gave_is)))) =
    subst (λ t. Pushes source (fork j a b) t w v gave) (sym is) (subst (λ y. Pushes source (fork j a b) (fork (record j { left = x }) c b) w y gave) (sym same) (subst (λ g. Pushes source (fork j a b) (fork (record j { left = x }) c b) w w g) (sym gave_is)
    (left_pushes source j a b c from_left from_right x w (pushes source a c j.left x end from_left acts left) right takes)))
pushes source (fork j a b) u w v end gave (inr (same, inr (c, (x, (is, acts))))) (from_left, from_right, (left, (right, (takes, gave_is)))) =
    subst (λ t. Pushes source (fork j a b) t w v gave) (sym is) (subst (λ y. Pushes source (fork j a b) (fork (record j { right = x }) a c) w y gave) (sym same) (subst (λ g. Pushes source (fork j a b) (fork (record j { right = x }) a c) w w g) (sym gave_is)
    (right_pushes source j a b c from_left from_right x w (pushes source b c j.right x end from_right acts right) left takes)))
