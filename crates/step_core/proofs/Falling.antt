-- What is left to do in a net falls with each step that moves.
use Rattle.std.proofs.Common.{◌≡◌, inl, inr, ℕ, ◌+◌, ◌-◌, ◌*◌, ◌<◌, ◌≤◌, false, List, [], ◌∷◌, ◌++◌, length, Option, Some, None, MatchOption, refl, sym, ap, subst, ◌∙◌, length-append, arith}
use Rattle.answer_theory.specs.Bags.{SameBag}
use Rattle.answer_theory.proofs.Bags.{bag_length}
use Rattle.med_base.specs.declared.outside.source.Source.{Ghosts as Source}
use Rattle.tuple_core.specs.Values.{RowList}
use Rattle.row_match.specs.declared.shape.Side.{Side}
use Rattle.row_match.specs.declared.shape.Side.TheVariants as side
use Rattle.join_core.specs.Given.{given_rows}
use Rattle.join_core.specs.State.{Joining, stored_rows}
use Rattle.collect_core.specs.Collecting.{work_left}
use Rattle.collect_core.specs.Steps.{Falls as CollectorFalls, Steps, gave as gave_by}
use Rattle.collect_core.specs.declared.reader.Collected.{Collected}
use Rattle.collect_core.specs.declared.reader.Collected.TheVariants as collected
use Rattle.step_core.specs.Edges.{PutsEnd, TakesEnd, Waits}
use Rattle.step_core.specs.Joins.{ComesIn, EndComes, Feeds, GivesRow, JoinTurn, Takes, TakesItem, with_edge}
use Rattle.step_core.specs.Going.{Lowers}
use Rattle.step_core.specs.Leaves.{ClosesLeaf, CollectorActs, MemberGives, MemberTurn, end_by}
use Rattle.step_core.specs.Names.{has_actor}
use Rattle.step_core.specs.Nets.{JoinState, LeafState, NetState, NetTree, edge_on, leaf, fork, passes, variables}
use Rattle.step_core.specs.Standing.{IsDone, NetStands, Stands, TakesFrom}
use Rattle.step_core.specs.Steps.{ListTurn, TreeActs, TreeObeys}
use Rattle.step_core.specs.Work.{Falls, ends_due, join_left, most_rows, net_left, tree_left, unless}
use Rattle.step_core.specs.declared.actor.Actor.{Actor}
use Rattle.step_core.specs.declared.actor.StepEnd.{StepEnd}
use Rattle.step_core.specs.declared.actor.StepEnd.TheVariants as step_end
use Rattle.step_core.specs.declared.actor.Turn.{Turn}
use Rattle.step_core.specs.declared.actor.Turn.TheVariants as turn
use Rattle.step_core.proofs.Counting.{given_at_most, kept_at_most, product_mono}
use Rattle.step_core.proofs.Obeying.{obeys_acts}

same_due : (w v : Waits) → v.put ≡ w.put → v.taken ≡ w.taken → ends_due v ≡ ends_due w
same_due w v p t = ap (λ b. unless b + unless v.taken) p ∙ ap (λ b. unless w.put + unless b) t

put_due : (w v : Waits) → PutsEnd w v → ends_due w ≡ ends_due v + 1
put_due w v h = ap (λ b. unless b + unless w.taken) h.goes_on ∙ (Prim.omega arith ∙ ap (λ x. ends_due x + 1) (sym h.put))

taken_due : (w v : Waits) → TakesEnd w v → ends_due w ≡ ends_due v + 1
taken_due w v h = ap (λ b. unless w.put + unless b) h.goes_on ∙ (plus (unless w.put) ∙ ap (λ x. ends_due x + 1) (sym h.taken))
  where
    plus : (n : ℕ) → n + 1 ≡ (n + 0) + 1
    plus n = Prim.omega arith

-- ---- an atom

leaf_lowers : {S M : Type 0} (source : Source S M) (Acts : CollectorActs S) (l k : LeafState S) (index : ℕ) (w v : Waits) (end : StepEnd) → MemberGives source Acts l k index w v end
    → Lowers end (most_rows source (leaf l) w) (most_rows source (leaf k) v) (tree_left source (leaf l) w) (tree_left source (leaf k) v)
leaf_lowers source Acts l k index w v end p = go p.result end p.end_is p.put.given p.turn.falls
  where
    due : ends_due v ≡ ends_due w
    due = same_due w v p.put.put p.put.taken

    go : (r : Collected) (e : StepEnd) → e ≡ end_by r → v.given ≡ w.given + length (gave_by r) → CollectorFalls r (work_left source l.collecting) (work_left source k.collecting)
        → Lowers e (most_rows source (leaf l) w) (most_rows source (leaf k) v) (tree_left source (leaf l) w) (tree_left source (leaf k) v)
    go (collected.Row row) e is given falls = subst (λ x. Lowers x (most_rows source (leaf l) w) (most_rows source (leaf k) v) (tree_left source (leaf l) w) (tree_left source (leaf k) v)) (sym is)
        (record { most_stays = Prim.omega (arith, given, falls); left_falls = Prim.omega (arith, due, falls) })
    go collected.Moved e is given falls = subst (λ x. Lowers x (most_rows source (leaf l) w) (most_rows source (leaf k) v) (tree_left source (leaf l) w) (tree_left source (leaf k) v)) (sym is)
        (record { most_stays = Prim.omega (arith, given, falls); left_falls = Prim.omega (arith, due, falls) })
    go collected.Still e is given falls = subst (λ x. Lowers x (most_rows source (leaf l) w) (most_rows source (leaf k) v) (tree_left source (leaf l) w) (tree_left source (leaf k) v)) (sym is)
        (record { most_stays = Prim.omega (arith, given, falls); left_falls = Prim.omega (arith, due, falls) })
    go collected.NoMemory e is given falls = subst (λ x. Lowers x (most_rows source (leaf l) w) (most_rows source (leaf k) v) (tree_left source (leaf l) w) (tree_left source (leaf k) v)) (sym is)
        (record { most_stays = tt; left_falls = tt })

pub still_lowers : (n m : ℕ) → Lowers step_end.Still n n m m
still_lowers n m = record { most_stays = Prim.omega arith; left_falls = Prim.omega arith }

no_memory_lowers : (n k m o : ℕ) → Lowers step_end.NoMemory n k m o
no_memory_lowers n k m o = record { most_stays = tt; left_falls = tt }

pub member_lowers : {S M : Type 0} (source : Source S M) (Acts : CollectorActs S) (l k : LeafState S) (index : ℕ) (w v : Waits) (end : StepEnd) → MemberTurn source Acts l k index w v end
    → Lowers end (most_rows source (leaf l) w) (most_rows source (leaf k) v) (tree_left source (leaf l) w) (tree_left source (leaf k) v)
member_lowers source Acts l k index w v step_end.Moved p = leaf_lowers source Acts l k index w v step_end.Moved p
member_lowers source Acts l k index w v step_end.Still (inl o) = subst (λ x. Lowers step_end.Still (most_rows source (leaf l) w) (most_rows source (leaf x) v) (tree_left source (leaf l) w) (tree_left source (leaf x) v)) (sym o.same)
    (subst (λ x. Lowers step_end.Still (most_rows source (leaf l) w) (most_rows source (leaf l) x) (tree_left source (leaf l) w) (tree_left source (leaf l) x)) (sym o.out) (still_lowers (most_rows source (leaf l) w) (tree_left source (leaf l) w)))
member_lowers source Acts l k index w v step_end.Still (inr p) = leaf_lowers source Acts l k index w v step_end.Still p
member_lowers source Acts l k index w v step_end.NoMemory p = no_memory_lowers (most_rows source (leaf l) w) (most_rows source (leaf k) v) (tree_left source (leaf l) w) (tree_left source (leaf k) v)

-- an operator that changes nothing, and one that puts its end
rests : {S M : Type 0} (source : Source S M) (t u : NetTree S) (w v : Waits) → u ≡ t → v ≡ w → Lowers step_end.Still (most_rows source t w) (most_rows source u v) (tree_left source t w) (tree_left source u v)
rests source t u w v same out = subst (λ x. Lowers step_end.Still (most_rows source t w) (most_rows source x v) (tree_left source t w) (tree_left source x v)) (sym same)
    (subst (λ x. Lowers step_end.Still (most_rows source t w) (most_rows source t x) (tree_left source t w) (tree_left source t x)) (sym out) (still_lowers (most_rows source t w) (tree_left source t w)))

-- what is left, but for the end of the edge out
abbrev pub base : {S M : Type 0} → Source S M → NetTree S → ℕ
base source (leaf l) = work_left source l.collecting
base source (fork j a b) = (tree_left source a j.left + tree_left source b j.right) + join_left j (most_rows source a j.left) (most_rows source b j.right)

pub tree_left_is : {S M : Type 0} (source : Source S M) (t : NetTree S) (w : Waits) → tree_left source t w ≡ base source t + ends_due w
tree_left_is source (leaf l) w = refl
tree_left_is source (fork j a b) w = refl

pub same_most : {S M : Type 0} (source : Source S M) (t : NetTree S) (w v : Waits) → v.given ≡ w.given → most_rows source t v ≡ most_rows source t w
same_most source (leaf l) w v e = ap (λ n. n + work_left source l.collecting) e
same_most source (fork j a b) w v e = refl

puts_end : {S M : Type 0} (source : Source S M) (t u : NetTree S) (w v : Waits) → u ≡ t → PutsEnd w v → Lowers step_end.Moved (most_rows source t w) (most_rows source u v) (tree_left source t w) (tree_left source u v)
puts_end source t u w v same h = subst (λ x. Lowers step_end.Moved (most_rows source t w) (most_rows source x v) (tree_left source t w) (tree_left source x v)) (sym same) (record {
  most_stays = Prim.omega (arith, same_most source t w v (ap (λ x. x.given) h.put));
  left_falls = Prim.omega (arith, tree_left_is source t w, tree_left_is source t v, put_due w v h);
})

pub close_lowers : {S M : Type 0} (source : Source S M) (l k : LeafState S) (w v : Waits) (end : StepEnd) → ClosesLeaf l k w v end
    → Lowers end (most_rows source (leaf l) w) (most_rows source (leaf k) v) (tree_left source (leaf l) w) (tree_left source (leaf k) v)
close_lowers {S} source l k w v step_end.Moved c = puts_end source (leaf l) (leaf k) w v (ap (λ (x : LeafState S). leaf x) c.same) c.put
close_lowers {S} source l k w v step_end.Still (same, why) = rests source (leaf l) (leaf k) w v (ap (λ (x : LeafState S). leaf x) same) why.out
close_lowers source l k w v step_end.NoMemory c = no_memory_lowers _ _ _ _

-- ---- how much an operator can give

pub given_most : {S M : Type 0} (source : Source S M) (t : NetTree S) (w : Waits) (gave : RowList) → Stands source t gave → w.given ≡ length gave → length gave ≤ most_rows source t w
given_most source (leaf l) w gave h counted = Prim.omega (arith, counted)
given_most source (fork j a b) w gave (from_left, from_right, (left, (right, (takes, is)))) counted =
    let l : length from_left ≤ most_rows source a j.left = given_most source a j.left from_left left takes.left.counted in
    let r : length from_right ≤ most_rows source b j.right = given_most source b j.right from_right right takes.right.counted in
    let on_left : length (stored_rows side.Left j.joining) + length j.left.rows ≡ length from_left = sym (length-append (stored_rows side.Left j.joining) j.left.rows) ∙ bag_length takes.left.rows in
    let on_right : length (stored_rows side.Right j.joining) + length j.right.rows ≡ length from_right = sym (length-append (stored_rows side.Right j.joining) j.right.rows) ∙ bag_length takes.right.rows in
    let product : length (stored_rows side.Left j.joining) * length (stored_rows side.Right j.joining) ≤ most_rows source a j.left * most_rows source b j.right =
    product_mono (length (stored_rows side.Left j.joining)) (most_rows source a j.left) (length (stored_rows side.Right j.joining)) (most_rows source b j.right) (Prim.omega (arith, l, on_left)) (Prim.omega (arith, r, on_right)) in
    subst (λ g. length g ≤ most_rows source a j.left * most_rows source b j.right) (sym is) (Prim.omega (arith, kept_at_most (passes j) (given_rows j.joining), given_at_most j.joining, product))

-- ---- a join

-- how many rows of each side a join has, and how many it may have
pub record Sized (j : JoinState) (ls rs : ℕ) : Type 0 where
  pub left : length (stored_rows side.Left j.joining) + length j.left.rows ≤ ls
  pub right : length (stored_rows side.Right j.joining) + length j.right.rows ≤ rs

pub sized : {S M : Type 0} (source : Source S M) (j : JoinState) (a b : NetTree S) (from_left from_right : RowList) → Stands source a from_left → Stands source b from_right
    → TakesFrom j (variables a) (variables b) (IsDone a) (IsDone b) from_left from_right → Sized j (most_rows source a j.left) (most_rows source b j.right)
sized source j a b from_left from_right left right takes = record {
  left = Prim.omega (arith, given_most source a j.left from_left left takes.left.counted, length-append (stored_rows side.Left j.joining) j.left.rows, bag_length takes.left.rows);
  right = Prim.omega (arith, given_most source b j.right from_right right takes.right.counted, length-append (stored_rows side.Right j.joining) j.right.rows, bag_length takes.right.rows);
}

-- as many as before, and so many more
counted_more : {X : Type 0} (xs ys zs : List X) → SameBag xs (ys ++ zs) → length xs ≡ length ys + length zs
counted_more xs ys zs h = bag_length h ∙ length-append ys zs

-- what a join has to do, with the ends of its edges
abbrev pub taking_left : JoinState → ℕ → ℕ → ℕ
taking_left j ls rs = join_left j ls rs + (ends_due j.left + ends_due j.right)

-- a turn that moved: less is to do, the edges had as many rows in all, and no more rows are there than may be
pub record TakesLess (j k : JoinState) (ls rs : ℕ) : Type 0 where
  pub less : taking_left k ls rs < taking_left j ls rs
  pub sized : Sized k ls rs
  pub left_given : k.left.given ≡ j.left.given
  pub right_given : k.right.given ≡ j.right.given

row_less : (j k : JoinState) (w v : Waits) (ls rs : ℕ) → Sized j ls rs → GivesRow j k w v → TakesLess j k ls rs
row_less j k w v ls rs h r =
    let l : length (stored_rows side.Left k.joining) ≡ length (stored_rows side.Left j.joining) + 0 = counted_more (stored_rows side.Left k.joining) (stored_rows side.Left j.joining) [] r.step.left in
    let m : length (stored_rows side.Right k.joining) ≡ length (stored_rows side.Right j.joining) + 0 = counted_more (stored_rows side.Right k.joining) (stored_rows side.Right j.joining) [] r.step.right in
    let g : length (given_rows k.joining) ≡ length (given_rows j.joining) + 1 = counted_more (given_rows k.joining) (given_rows j.joining) (r.row ∷ []) r.step.given in
    let product : length (stored_rows side.Left k.joining) * length (stored_rows side.Right k.joining) ≤ ls * rs =
    product_mono (length (stored_rows side.Left k.joining)) ls (length (stored_rows side.Right k.joining)) rs (Prim.omega (arith, l, h.left)) (Prim.omega (arith, m, h.right)) in
    subst (λ x. TakesLess j x ls rs) (sym r.same) (record {
      less = Prim.omega (arith, l, m, g, product, given_at_most k.joining);
      sized = record { left = Prim.omega (arith, l, h.left); right = Prim.omega (arith, m, h.right) };
      left_given = refl;
      right_given = refl;
    })

item_less : (which : Side) (j k : JoinState) (w v : Waits) (ls rs : ℕ) → Sized j ls rs → TakesItem which j k w v step_end.Moved → TakesLess j k ls rs
item_less which j k w v ls rs h i = subst (λ x. TakesLess j x ls rs) (sym i.feeds.same) (go which i.feeds.feeds)
  where
    rest_l : length (stored_rows side.Left i.between) ≡ length (stored_rows side.Left j.joining) + 0
    rest_l = counted_more (stored_rows side.Left i.between) (stored_rows side.Left j.joining) [] i.no_match.step.left

    rest_r : length (stored_rows side.Right i.between) ≡ length (stored_rows side.Right j.joining) + 0
    rest_r = counted_more (stored_rows side.Right i.between) (stored_rows side.Right j.joining) [] i.no_match.step.right

    rest_g : length (given_rows i.between) ≡ length (given_rows j.joining) + 0
    rest_g = counted_more (given_rows i.between) (given_rows j.joining) [] i.no_match.step.given

    came_left : (t : Joining) (y : Waits) → ComesIn side.Left i.between t j.left y → TakesLess j (record j { joining = t; left = y }) ls rs
    came_left t y c =
        let l : length (stored_rows side.Left t) ≡ length (stored_rows side.Left i.between) + 1 = counted_more (stored_rows side.Left t) (stored_rows side.Left i.between) (c.row ∷ []) c.step.left in
        let m : length (stored_rows side.Right t) ≡ length (stored_rows side.Right i.between) + 0 = counted_more (stored_rows side.Right t) (stored_rows side.Right i.between) [] c.step.right in
        let g : length (given_rows t) ≡ length (given_rows i.between) + 0 = counted_more (given_rows t) (given_rows i.between) [] c.step.given in
        let one : length j.left.rows ≡ length (c.row ∷ y.rows) = ap length c.first.first in
        record {
          less = Prim.omega (arith, l, m, g, one, same_due j.left y c.first.put c.first.taken, rest_l, rest_r, rest_g, h.left);
          sized = record { left = Prim.omega (arith, l, one, rest_l, h.left); right = Prim.omega (arith, m, rest_r, h.right) };
          left_given = c.first.given;
          right_given = refl;
        }

    came_right : (t : Joining) (y : Waits) → ComesIn side.Right i.between t j.right y → TakesLess j (record j { joining = t; right = y }) ls rs
    came_right t y c =
        let l : length (stored_rows side.Left t) ≡ length (stored_rows side.Left i.between) + 0 = counted_more (stored_rows side.Left t) (stored_rows side.Left i.between) [] c.step.left in
        let m : length (stored_rows side.Right t) ≡ length (stored_rows side.Right i.between) + 1 = counted_more (stored_rows side.Right t) (stored_rows side.Right i.between) (c.row ∷ []) c.step.right in
        let g : length (given_rows t) ≡ length (given_rows i.between) + 0 = counted_more (given_rows t) (given_rows i.between) [] c.step.given in
        let one : length j.right.rows ≡ length (c.row ∷ y.rows) = ap length c.first.first in
        record {
          less = Prim.omega (arith, l, m, g, one, same_due j.right y c.first.put c.first.taken, rest_l, rest_r, rest_g, h.right);
          sized = record { left = Prim.omega (arith, l, rest_l, h.left); right = Prim.omega (arith, m, one, rest_r, h.right) };
          left_given = refl;
          right_given = c.first.given;
        }

    ended_left : (t : Joining) (y : Waits) → EndComes side.Left i.between t j.left y → TakesLess j (record j { joining = t; left = y }) ls rs
    ended_left t y c =
        let l : length (stored_rows side.Left t) ≡ length (stored_rows side.Left i.between) + 0 = counted_more (stored_rows side.Left t) (stored_rows side.Left i.between) [] c.step.left in
        let m : length (stored_rows side.Right t) ≡ length (stored_rows side.Right i.between) + 0 = counted_more (stored_rows side.Right t) (stored_rows side.Right i.between) [] c.step.right in
        let g : length (given_rows t) ≡ length (given_rows i.between) + 0 = counted_more (given_rows t) (given_rows i.between) [] c.step.given in
        record {
          less = Prim.omega (arith, l, m, g, taken_due j.left y c.last, rest_l, rest_r, rest_g);
          sized = record { left = Prim.omega (arith, l, rest_l, ap (λ x. length x.rows) c.last.taken, h.left); right = Prim.omega (arith, m, rest_r, h.right) };
          left_given = ap (λ x. x.given) c.last.taken;
          right_given = refl;
        }

    ended_right : (t : Joining) (y : Waits) → EndComes side.Right i.between t j.right y → TakesLess j (record j { joining = t; right = y }) ls rs
    ended_right t y c =
        let l : length (stored_rows side.Left t) ≡ length (stored_rows side.Left i.between) + 0 = counted_more (stored_rows side.Left t) (stored_rows side.Left i.between) [] c.step.left in
        let m : length (stored_rows side.Right t) ≡ length (stored_rows side.Right i.between) + 0 = counted_more (stored_rows side.Right t) (stored_rows side.Right i.between) [] c.step.right in
        let g : length (given_rows t) ≡ length (given_rows i.between) + 0 = counted_more (given_rows t) (given_rows i.between) [] c.step.given in
        record {
          less = Prim.omega (arith, l, m, g, taken_due j.right y c.last, rest_l, rest_r, rest_g);
          sized = record { left = Prim.omega (arith, l, rest_l, h.left); right = Prim.omega (arith, m, rest_r, ap (λ x. length x.rows) c.last.taken, h.right) };
          left_given = refl;
          right_given = ap (λ x. x.given) c.last.taken;
        }

    go : (s : Side) → Feeds s i.between k.joining (edge_on s (record j { joining = i.between })) (edge_on s k) step_end.Moved → TakesLess j (with_edge s (record j { joining = k.joining }) (edge_on s k)) ls rs
    go side.Left (inl c) = came_left k.joining k.left c
    go side.Left (inr c) = ended_left k.joining k.left c
    go side.Right (inl c) = came_right k.joining k.right c
    go side.Right (inr c) = ended_right k.joining k.right c

pub takes_less : (which : Side) (j k : JoinState) (w v : Waits) (ls rs : ℕ) → Sized j ls rs → Takes which j k w v step_end.Moved → TakesLess j k ls rs
takes_less which j k w v ls rs h (inl r) = row_less j k w v ls rs h r
takes_less which j k w v ls rs h (inr i) = item_less which j k w v ls rs h i

-- the same for the operator
moved_lowers : {S M : Type 0} (source : Source S M) (j k : JoinState) (a b : NetTree S) (w v : Waits) → ends_due v ≡ ends_due w → TakesLess j k (most_rows source a j.left) (most_rows source b j.right)
    → Lowers step_end.Moved (most_rows source (fork j a b) w) (most_rows source (fork k a b) v) (tree_left source (fork j a b) w) (tree_left source (fork k a b) v)
moved_lowers source j k a b w v due h =
    let left : most_rows source a k.left ≡ most_rows source a j.left = same_most source a j.left k.left h.left_given in
    let right : most_rows source b k.right ≡ most_rows source b j.right = same_most source b j.right k.right h.right_given in
    record {
      most_stays = product_mono (most_rows source a k.left) (most_rows source a j.left) (most_rows source b k.right) (most_rows source b j.right) (Prim.omega (arith, left)) (Prim.omega (arith, right));
      left_falls = subst (λ n. (tree_left source a k.left + tree_left source b k.right) + join_left k n (most_rows source b k.right) + ends_due v < tree_left source (fork j a b) w) (sym left)
          (subst (λ n. (tree_left source a k.left + tree_left source b k.right) + join_left k (most_rows source a j.left) n + ends_due v < tree_left source (fork j a b) w) (sym right)
          (less (tree_left source a k.left) (tree_left source b k.right) (join_left k (most_rows source a j.left) (most_rows source b j.right)) (tree_left source a j.left) (tree_left source b j.right)
          (join_left j (most_rows source a j.left) (most_rows source b j.right)) (tree_left_is source a k.left) (tree_left_is source b k.right) (tree_left_is source a j.left) (tree_left_is source b j.right) h.less));
    }
  where
    less : (al bl jl am bm jm : ℕ) → al ≡ base source a + ends_due k.left → bl ≡ base source b + ends_due k.right → am ≡ base source a + ends_due j.left → bm ≡ base source b + ends_due j.right
        → jl + (ends_due k.left + ends_due k.right) < jm + (ends_due j.left + ends_due j.right) → (al + bl) + jl + ends_due v < (am + bm) + jm + ends_due w
    less al bl jl am bm jm a_is b_is c_is d_is falls = Prim.omega (arith, a_is, b_is, c_is, d_is, falls, due)

takes_due : (which : Side) (j k : JoinState) (w v : Waits) → Takes which j k w v step_end.Moved → ends_due v ≡ ends_due w
takes_due which j k w v (inl r) = same_due w v r.put.put r.put.taken
takes_due which j k w v (inr i) = same_due w v i.out.put i.out.taken

-- a turn without effect, but that no match is left
stood_lowers : {S M : Type 0} (source : Source S M) (which : Side) (j k : JoinState) (a b : NetTree S) (w v : Waits) → TakesItem which j k w v step_end.Still
    → Lowers step_end.Still (most_rows source (fork j a b) w) (most_rows source (fork k a b) v) (tree_left source (fork j a b) w) (tree_left source (fork k a b) v)
stood_lowers {S} source which j k a b w v i =
    subst (λ x. Lowers step_end.Still (most_rows source (fork j a b) w) (most_rows source (fork x a b) v) (tree_left source (fork j a b) w) (tree_left source (fork x a b) v)) (sym (i.feeds.same ∙ same which (edge_on which k) i.feeds.feeds.1.1))
    (record { most_stays = Prim.omega arith; left_falls = Prim.omega (arith, same_due w v i.out.put i.out.taken, rest (stored_rows side.Left k.joining) (stored_rows side.Left j.joining) (count side.Left), rest (stored_rows side.Right k.joining) (stored_rows side.Right j.joining) (count side.Right), given) })
  where
    is_between : k.joining ≡ i.between
    is_between = i.feeds.feeds.0

    rest : {X : Type 0} (xs ys : List X) → length xs ≡ length ys + 0 → length xs ≡ length ys
    rest xs ys e = Prim.omega (arith, e)

    count : (s : Side) → length (stored_rows s k.joining) ≡ length (stored_rows s j.joining) + 0
    count side.Left = subst (λ t. length (stored_rows side.Left t) ≡ length (stored_rows side.Left j.joining) + 0) (sym is_between) (counted_more (stored_rows side.Left i.between) (stored_rows side.Left j.joining) [] i.no_match.step.left)
    count side.Right = subst (λ t. length (stored_rows side.Right t) ≡ length (stored_rows side.Right j.joining) + 0) (sym is_between) (counted_more (stored_rows side.Right i.between) (stored_rows side.Right j.joining) [] i.no_match.step.right)

    given : length (given_rows k.joining) ≡ length (given_rows j.joining)
    given = rest (given_rows k.joining) (given_rows j.joining) (subst (λ t. length (given_rows t) ≡ length (given_rows j.joining) + 0) (sym is_between) (counted_more (given_rows i.between) (given_rows j.joining) [] i.no_match.step.given))

    same : (s : Side) (y : Waits) → y ≡ edge_on s (record j { joining = i.between }) → with_edge s (record j { joining = k.joining }) y ≡ record j { joining = k.joining }
    same side.Left y e = ap (λ x. record j { joining = k.joining; left = x }) e
    same side.Right y e = ap (λ x. record j { joining = k.joining; right = x }) e

pub join_lowers : {S M : Type 0} (source : Source S M) (the_turn : Turn) (j k : JoinState) (a b : NetTree S) (w v : Waits) (end : StepEnd) → Sized j (most_rows source a j.left) (most_rows source b j.right) → JoinTurn the_turn j k w v end
    → Lowers end (most_rows source (fork j a b) w) (most_rows source (fork k a b) v) (tree_left source (fork j a b) w) (tree_left source (fork k a b) v)
join_lowers source (turn.Take which) j k a b w v step_end.Moved h t = moved_lowers source j k a b w v (takes_due which j k w v t) (takes_less which j k w v (most_rows source a j.left) (most_rows source b j.right) h t)
join_lowers source (turn.Take which) j k a b w v step_end.Still h i = stood_lowers source which j k a b w v i
join_lowers source (turn.Take which) j k a b w v step_end.NoMemory h i = no_memory_lowers _ _ _ _
join_lowers source turn.Close j k a b w v step_end.Moved h c = puts_end source (fork j a b) (fork k a b) w v (ap (λ x. fork x a b) c.same) c.put
join_lowers source turn.Close j k a b w v step_end.Still h (same, why) = rests source (fork j a b) (fork k a b) w v (ap (λ x. fork x a b) same) why.out
join_lowers source turn.Close j k a b w v step_end.NoMemory h c = no_memory_lowers _ _ _ _

-- ---- the tree

left_mono : (j : JoinState) (ls ms rs ns : ℕ) → ls ≤ ms → rs ≤ ns → join_left j ls rs ≤ join_left j ms ns
left_mono j ls ms rs ns h k = Prim.omega (arith, h, k, product_mono ls ms rs ns h k)

pub below_left : {S M : Type 0} (source : Source S M) (j : JoinState) (a b c : NetTree S) (x w : Waits) (end : StepEnd) → Lowers end (most_rows source a j.left) (most_rows source c x) (tree_left source a j.left) (tree_left source c x)
    → Lowers end (most_rows source (fork j a b) w) (most_rows source (fork (record j { left = x }) c b) w) (tree_left source (fork j a b) w) (tree_left source (fork (record j { left = x }) c b) w)
below_left source j a b c x w step_end.Moved h = record {
  most_stays = product_mono (most_rows source c x) (most_rows source a j.left) (most_rows source b j.right) (most_rows source b j.right) h.most_stays (Prim.omega arith);
  left_falls = Prim.omega (arith, h.left_falls, left_mono j (most_rows source c x) (most_rows source a j.left) (most_rows source b j.right) (most_rows source b j.right) h.most_stays (Prim.omega arith));
}
below_left source j a b c x w step_end.Still h = record {
  most_stays = product_mono (most_rows source c x) (most_rows source a j.left) (most_rows source b j.right) (most_rows source b j.right) h.most_stays (Prim.omega arith);
  left_falls = Prim.omega (arith, h.left_falls, left_mono j (most_rows source c x) (most_rows source a j.left) (most_rows source b j.right) (most_rows source b j.right) h.most_stays (Prim.omega arith));
}
below_left source j a b c x w step_end.NoMemory h = no_memory_lowers _ _ _ _

pub below_right : {S M : Type 0} (source : Source S M) (j : JoinState) (a b c : NetTree S) (x w : Waits) (end : StepEnd) → Lowers end (most_rows source b j.right) (most_rows source c x) (tree_left source b j.right) (tree_left source c x)
    → Lowers end (most_rows source (fork j a b) w) (most_rows source (fork (record j { right = x }) a c) w) (tree_left source (fork j a b) w) (tree_left source (fork (record j { right = x }) a c) w)
below_right source j a b c x w step_end.Moved h = record {
  most_stays = product_mono (most_rows source a j.left) (most_rows source a j.left) (most_rows source c x) (most_rows source b j.right) (Prim.omega arith) h.most_stays;
  left_falls = Prim.omega (arith, h.left_falls, left_mono j (most_rows source a j.left) (most_rows source a j.left) (most_rows source c x) (most_rows source b j.right) (Prim.omega arith) h.most_stays);
}
below_right source j a b c x w step_end.Still h = record {
  most_stays = product_mono (most_rows source a j.left) (most_rows source a j.left) (most_rows source c x) (most_rows source b j.right) (Prim.omega arith) h.most_stays;
  left_falls = Prim.omega (arith, h.left_falls, left_mono j (most_rows source a j.left) (most_rows source a j.left) (most_rows source c x) (most_rows source b j.right) (Prim.omega arith) h.most_stays);
}
below_right source j a b c x w step_end.NoMemory h = no_memory_lowers _ _ _ _

tree_lowers : {S M : Type 0} (source : Source S M) (t u : NetTree S) (w v : Waits) (end : StepEnd) (gave : RowList) → TreeActs source t u w v end → Stands source t gave
    → Lowers end (most_rows source t w) (most_rows source u v) (tree_left source t w) (tree_left source u v)
tree_lowers source (leaf l) u w v end gave (k, (is, inl (index, p))) h = subst (λ x. Lowers end (most_rows source (leaf l) w) (most_rows source x v) (tree_left source (leaf l) w) (tree_left source x v)) (sym is) (member_lowers source (Steps source) l k index w v end p)
tree_lowers source (leaf l) u w v end gave (k, (is, inr p)) h = subst (λ x. Lowers end (most_rows source (leaf l) w) (most_rows source x v) (tree_left source (leaf l) w) (tree_left source x v)) (sym is) (close_lowers source l k w v end p)
tree_lowers source (fork j a b) u w v end gave (inl (k, (is, (the_turn, acts)))) (from_left, from_right, (left, (right, (takes, gave_is)))) =
    subst (λ x. Lowers end (most_rows source (fork j a b) w) (most_rows source x v) (tree_left source (fork j a b) w) (tree_left source x v)) (sym is) (join_lowers source the_turn j k a b w v end (sized source j a b from_left from_right left right takes) acts)
tree_lowers source (fork j a b) u w v end gave (inr (same, inl (c, (x, (is, acts))))) (from_left, from_right, (left, (right, (takes, gave_is)))) =
    subst (λ t. Lowers end (most_rows source (fork j a b) w) (most_rows source t v) (tree_left source (fork j a b) w) (tree_left source t v)) (sym is)
    (subst (λ y. Lowers end (most_rows source (fork j a b) w) (most_rows source (fork (record j { left = x }) c b) y) (tree_left source (fork j a b) w) (tree_left source (fork (record j { left = x }) c b) y)) (sym same)
    (below_left source j a b c x w end (tree_lowers source a c j.left x end from_left acts left)))
tree_lowers source (fork j a b) u w v end gave (inr (same, inr (c, (x, (is, acts))))) (from_left, from_right, (left, (right, (takes, gave_is)))) =
    subst (λ t. Lowers end (most_rows source (fork j a b) w) (most_rows source t v) (tree_left source (fork j a b) w) (tree_left source t v)) (sym is)
    (subst (λ y. Lowers end (most_rows source (fork j a b) w) (most_rows source (fork (record j { right = x }) a c) y) (tree_left source (fork j a b) w) (tree_left source (fork (record j { right = x }) a c) y)) (sym same)
    (below_right source j a b c x w end (tree_lowers source b c j.right x end from_right acts right)))

-- ---- the net

pub with_rows : (end : StepEnd) (most most_after left left_after rows : ℕ) → Lowers end most most_after left left_after → Falls end (left + (most - rows)) (left_after + (most_after - rows))
with_rows step_end.Moved most most_after left left_after rows h = Prim.omega (arith, h.most_stays, h.left_falls)
with_rows step_end.Still most most_after left left_after rows h = Prim.omega (arith, h.most_stays, h.left_falls)
with_rows step_end.NoMemory most most_after left left_after rows h = tt

acts_fall : {S M : Type 0} (source : Source S M) (t u : NetTree S) (w v : Waits) (rows : RowList) (end : StepEnd) → TreeActs source t u w v end → NetStands source (record { tree = t; edge = w; rows = rows })
    → Falls end (net_left source (record { tree = t; edge = w; rows = rows })) (net_left source (record { tree = u; edge = v; rows = rows }))
acts_fall source t u w v rows end acts h = with_rows end (most_rows source t w) (most_rows source u v) (tree_left source t w) (tree_left source u v) (length rows) (tree_lowers source t u w v end h.gave acts h.tree)

-- what a step of the tree is for the net, where the actor means one of its operators or none
pub falls_after : {S M : Type 0} (source : Source S M) (x : Actor) (s : NetState S) (t u : NetTree S) (w v : Waits) (rows : RowList) (result : Option StepEnd) (end : StepEnd)
    → MatchOption result ((has_actor x t ≡ false) × ((u ≡ t) × (v ≡ w))) (λ e. TreeObeys source x t u w v e) → MatchOption result (end ≡ step_end.Still) (λ e. end ≡ e)
    → record { tree = t; edge = w; rows = rows } ≡ s → NetStands source (record { tree = t; edge = w; rows = rows })
    → Falls end (net_left source s) (net_left source (record { tree = u; edge = v; rows = rows }))
falls_after source x s t u w v rows None end (absent, (tree, edge)) is same h = subst (λ e. Falls e (net_left source s) (net_left source (record { tree = u; edge = v; rows = rows }))) (sym is)
    (subst (λ n. Falls step_end.Still (net_left source n) (net_left source (record { tree = u; edge = v; rows = rows }))) same (subst (λ y. Falls step_end.Still (net_left source (record { tree = t; edge = w; rows = rows })) (net_left source (record { tree = y; edge = v; rows = rows }))) (sym tree)
    (subst (λ y. Falls step_end.Still (net_left source (record { tree = t; edge = w; rows = rows })) (net_left source (record { tree = t; edge = y; rows = rows }))) (sym edge) (Prim.omega arith))))
falls_after source x s t u w v rows (Some e) end obeys is same h = subst (λ y. Falls y (net_left source s) (net_left source (record { tree = u; edge = v; rows = rows }))) (sym is)
    (subst (λ n. Falls e (net_left source n) (net_left source (record { tree = u; edge = v; rows = rows }))) same (acts_fall source t u w v rows e (obeys_acts source x t u w v e obeys) h))

-- what the list's turn is for the net
list_falls_so : {S M : Type 0} (source : Source S M) (t : NetTree S) (w v : Waits) (rows more : RowList) (end : StepEnd) → ListTurn rows more w v end → NetStands source (record { tree = t; edge = w; rows = rows })
    → Falls end (net_left source (record { tree = t; edge = w; rows = rows })) (net_left source (record { tree = t; edge = v; rows = more }))
list_falls_so source t w v rows more step_end.Moved (inl r) h =
    let one : length w.rows ≡ length (r.row ∷ v.rows) = ap length r.first.first in
    let total : length rows + length w.rows ≡ length h.gave = sym (length-append rows w.rows) ∙ bag_length h.edge.rows in
    let took : length more ≡ length rows + 1 = ap length r.took ∙ length-append rows (r.row ∷ []) in
    Prim.omega (arith, one, total, took, given_most source t w h.gave h.tree h.edge.counted, same_most source t w v r.first.given, tree_left_is source t w, tree_left_is source t v, same_due w v r.first.put r.first.taken)
list_falls_so source t w v rows more step_end.Moved (inr (same, ended)) h =
    Prim.omega (arith, ap length same, same_most source t w v (ap (λ x. x.given) ended.taken), tree_left_is source t w, tree_left_is source t v, taken_due w v ended)
list_falls_so source t w v rows more step_end.Still (same, rest) h = subst (λ x. net_left source (record { tree = t; edge = v; rows = x }) ≤ net_left source (record { tree = t; edge = w; rows = rows })) (sym same)
    (subst (λ y. net_left source (record { tree = t; edge = y; rows = rows }) ≤ net_left source (record { tree = t; edge = w; rows = rows })) (sym rest.1) (Prim.omega arith))
list_falls_so source t w v rows more step_end.NoMemory f h = tt

pub list_falls : {S M : Type 0} (source : Source S M) (s : NetState S) (t : NetTree S) (w v : Waits) (rows more : RowList) (end : StepEnd) → ListTurn rows more w v end → record { tree = t; edge = w; rows = rows } ≡ s
    → NetStands source (record { tree = t; edge = w; rows = rows }) → Falls end (net_left source s) (net_left source (record { tree = t; edge = v; rows = more }))
list_falls source s t w v rows more end turns is h = subst (λ n. Falls end (net_left source n) (net_left source (record { tree = t; edge = v; rows = more }))) is (list_falls_so source t w v rows more end turns h)
