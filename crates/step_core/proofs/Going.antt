-- Turns of operators, one after another.
use Rattle.std.proofs.Common.{◌≡◌, inl, inr, refl, ℕ, zero, suc, ◌++◌, sym, ap, subst, ◌∙◌, append_assoc, length-append, arith}
use Rattle.answer_theory.proofs.Bags.{bag_append, bag_from_same, bag_refl, bag_trans}
use Rattle.med_base.specs.declared.outside.source.Source.{Ghosts as Source}
use Rattle.tuple_core.specs.Values.{RowList}
use Rattle.row_match.specs.declared.shape.Side.{Side}
use Rattle.row_match.specs.declared.shape.Side.TheVariants as side
use Rattle.step_core.specs.Edges.{Waits}
use Rattle.step_core.specs.Going.{Goes, Lowers, Pushes, then}
use Rattle.step_core.specs.Joins.{ClosesJoin, JoinTurn, MayTake}
use Rattle.step_core.specs.Leaves.{ClosesLeaf, Pulls, TakesHeld}
use Rattle.step_core.specs.Nets.{JoinState, LeafState, NetTree, leaf, fork, variables}
use Rattle.step_core.specs.Parts.{Stops, TakesSome, TakesWhile, moved}
use Rattle.step_core.specs.Standing.{AreWide, Stands}
use Rattle.step_core.specs.Work.{most_rows, tree_left}
use Rattle.step_core.specs.declared.actor.StepEnd.{StepEnd}
use Rattle.step_core.specs.declared.actor.StepEnd.TheVariants as step_end
use Rattle.step_core.specs.declared.actor.Turn.{Turn}
use Rattle.step_core.specs.declared.actor.Turn.TheVariants as turn
use Rattle.step_core.proofs.Falling.{below_left, below_right, close_lowers, join_lowers, member_lowers, sized, still_lowers}
use Rattle.step_core.proofs.Giving.{same_waits}
use Rattle.step_core.proofs.Pushing.{close_pushes, held_pushes, join_pushes, keeps, left_pushes, pull_pushes, right_pushes}
use Rattle.step_core.proofs.Same.{operators_then, variables_same}
use Rattle.step_core.proofs.Taking.{may_take}
use Rattle.step_core.proofs.Wide.{wide_both}

pushes_then : {S M : Type 0} (source : Source S M) (t u x : NetTree S) (w v y : Waits) (gave : RowList) (p : Pushes source t u w v gave) → Pushes source u x v y p.now → Pushes source t x w y gave
pushes_then source t u x w v y gave p q = record {
  more = p.more ++ q.more;
  now = q.now;
  stands = q.stands;
  bag = bag_trans q.bag (bag_trans (bag_append p.bag (bag_refl q.more)) (bag_from_same (append_assoc gave p.more q.more)));
  rows = q.rows ∙ ap (λ rows. rows ++ q.more) p.rows ∙ append_assoc w.rows p.more q.more;
  given = Prim.omega (arith, p.given, q.given, length-append p.more q.more);
  taken = q.taken ∙ p.taken;
  put = λ e. q.put (p.put e);
  closed = λ before. q.closed (p.closed before);
  quiet = λ e done. ap (λ rows. rows ++ q.more) (p.quiet e done) ∙ q.quiet (p.put e) (p.closed (λ same. done) (p.put e));
  wide = wide_both (variables t) p.more q.more p.wide (subst (λ vs. AreWide vs q.more) (variables_same t u p.same) q.wide);
  same = operators_then t u x p.same q.same;
}

lowers_then : (first next : StepEnd) (a b c l m n : ℕ) → Lowers first a b l m → Lowers next b c m n → Lowers (then first next) a c l n
lowers_then step_end.Moved step_end.Moved a b c l m n h k = record { most_stays = Prim.omega (arith, h.most_stays, k.most_stays); left_falls = Prim.omega (arith, h.left_falls, k.left_falls) }
lowers_then step_end.Moved step_end.Still a b c l m n h k = record { most_stays = Prim.omega (arith, h.most_stays, k.most_stays); left_falls = Prim.omega (arith, h.left_falls, k.left_falls) }
lowers_then step_end.Moved step_end.NoMemory a b c l m n h k = record { most_stays = tt; left_falls = tt }
lowers_then step_end.Still step_end.Moved a b c l m n h k = record { most_stays = Prim.omega (arith, h.most_stays, k.most_stays); left_falls = Prim.omega (arith, h.left_falls, k.left_falls) }
lowers_then step_end.Still step_end.Still a b c l m n h k = record { most_stays = Prim.omega (arith, h.most_stays, k.most_stays); left_falls = Prim.omega (arith, h.left_falls, k.left_falls) }
lowers_then step_end.Still step_end.NoMemory a b c l m n h k = record { most_stays = tt; left_falls = tt }
lowers_then step_end.NoMemory next a b c l m n h k = record { most_stays = tt; left_falls = tt }

pub goes_then : {S M : Type 0} (source : Source S M) (first next : StepEnd) (t u x : NetTree S) (w v y : Waits) → Goes source first t u w v → Goes source next u x v y → Goes source (then first next) t x w y
goes_then {S} {M} source first next t u x w v y a b gave h = both (a gave h)
  where
    both : Pushes source t u w v gave × Lowers first (most_rows source t w) (most_rows source u v) (tree_left source t w) (tree_left source u v)
        → Pushes source t x w y gave × Lowers (then first next) (most_rows source t w) (most_rows source x y) (tree_left source t w) (tree_left source x y)
    both (p, l) = (
      pushes_then source t u x w v y gave p (b p.now p.stands).0,
      lowers_then first next (most_rows source t w) (most_rows source u v) (most_rows source x y) (tree_left source t w) (tree_left source u v) (tree_left source x y) l (b p.now p.stands).1,
    )

-- what moved hasn't raised anything
pub goes_still : {S M : Type 0} (source : Source S M) (t u : NetTree S) (w v : Waits) → Goes source step_end.Moved t u w v → Goes source step_end.Still t u w v
goes_still {S} {M} source t u w v a gave h = both (a gave h)
  where
    both : Pushes source t u w v gave × Lowers step_end.Moved (most_rows source t w) (most_rows source u v) (tree_left source t w) (tree_left source u v)
        → Pushes source t u w v gave × Lowers step_end.Still (most_rows source t w) (most_rows source u v) (tree_left source t w) (tree_left source u v)
    both (p, l) = (p, record { most_stays = l.most_stays; left_falls = Prim.omega (arith, l.left_falls) })

pub goes_same : {S M : Type 0} (source : Source S M) (t : NetTree S) (w : Waits) → Goes source step_end.Still t t w w
goes_same source t w gave h = (keeps source t w w gave (same_waits w) h, still_lowers (most_rows source t w) (tree_left source t w))

still_goes : {S M : Type 0} (source : Source S M) (t u : NetTree S) (w v : Waits) → u ≡ t → v ≡ w → Goes source step_end.Still t u w v
still_goes source t u w v same out = subst (λ x. Goes source step_end.Still t x w v) (sym same) (subst (λ x. Goes source step_end.Still t t w x) (sym out) (goes_same source t w))

-- ---- an atom

pub goes_pull : {S M : Type 0} (source : Source S M) (l k : LeafState S) (index : ℕ) (w v : Waits) (end : StepEnd) → Pulls source l k index w v end → Goes source end (leaf l) (leaf k) w v
goes_pull source l k index w v end p gave h = (pull_pushes source l k index w v end gave p h, member_lowers source _ l k index w v end p)

pub goes_held : {S M : Type 0} (source : Source S M) (l k : LeafState S) (index : ℕ) (w v : Waits) (end : StepEnd) → TakesHeld source l k index w v end → Goes source end (leaf l) (leaf k) w v
goes_held source l k index w v end p gave h = (held_pushes source l k index w v end gave p h, member_lowers source _ l k index w v end p)

pub goes_close : {S M : Type 0} (source : Source S M) (l k : LeafState S) (w v : Waits) (end : StepEnd) → ClosesLeaf l k w v end → Goes source end (leaf l) (leaf k) w v
goes_close source l k w v end c gave h = (close_pushes source l k w v end gave c h, close_lowers source l k w v end c)

-- ---- a join

goes_turn : {S M : Type 0} (source : Source S M) (the_turn : Turn) (j k : JoinState) (a b : NetTree S) (w v : Waits) (end : StepEnd) → JoinTurn the_turn j k w v end → Goes source end (fork j a b) (fork k a b) w v
goes_turn source the_turn j k a b w v end acts gave (from_left, from_right, (left, (right, (takes, gave_is)))) = (
  subst (λ g. Pushes source (fork j a b) (fork k a b) w v g) (sym gave_is) (join_pushes source the_turn j k a b from_left from_right w v end acts left right takes),
  join_lowers source the_turn j k a b w v end (sized source j a b from_left from_right left right takes) acts,
)

moved_more : (n : ℕ) → step_end.Moved ≡ then (moved n) step_end.Moved
moved_more zero = refl
moved_more (suc n) = refl

pub ends_so : {S M : Type 0} (source : Source S M) (end so : StepEnd) (t u : NetTree S) (w v : Waits) → end ≡ so → Goes source so t u w v → Goes source end t u w v
ends_so source end so t u w v is goes = subst (λ e. Goes source e t u w v) (sym is) goes

goes_some : {S M : Type 0} (source : Source S M) (which : Side) (n : ℕ) (j k : JoinState) (a b : NetTree S) (w v : Waits) → TakesSome which n j k w v → Goes source (moved n) (fork j a b) (fork k a b) w v
goes_some source which zero j k a b w v (same, out) = still_goes source (fork j a b) (fork k a b) w v (ap (λ x. fork x a b) same) out
goes_some source which (suc n) j k a b w v (i, (x, (some, takes))) = ends_so source step_end.Moved (then (moved n) step_end.Moved) (fork j a b) (fork k a b) w v (moved_more n)
    (goes_then source (moved n) step_end.Moved (fork j a b) (fork i a b) (fork k a b) w x v (goes_some source which n j i a b w x some) (goes_turn source (turn.Take which) i k a b x v step_end.Moved takes))

goes_stop : {S M : Type 0} (source : Source S M) (which : Side) (j k : JoinState) (a b : NetTree S) (w v : Waits) (end : StepEnd) → Stops which j k w v end → Goes source end (fork j a b) (fork k a b) w v
goes_stop source which j k a b w v step_end.Moved h = absurd h
goes_stop source which j k a b w v step_end.Still (inl (full, (same, out))) = still_goes source (fork j a b) (fork k a b) w v (ap (λ x. fork x a b) same) out
goes_stop source which j k a b w v step_end.Still (inr takes) = goes_turn source (turn.Take which) j k a b w v step_end.Still takes
goes_stop source which j k a b w v step_end.NoMemory takes = goes_turn source (turn.Take which) j k a b w v step_end.NoMemory takes

pub goes_while : {S M : Type 0} (source : Source S M) (which : Side) (j k : JoinState) (a b : NetTree S) (w v : Waits) (end : StepEnd) → TakesWhile which j k w v end → Goes source end (fork j a b) (fork k a b) w v
goes_while source which j k a b w v end h = ends_so source end (then (moved h.count) h.last) (fork j a b) (fork k a b) w v h.ends
    (goes_then source (moved h.count) h.last (fork j a b) (fork h.between a b) (fork k a b) w h.out v (goes_some source which h.count j h.between a b w h.out h.some) (goes_stop source which h.between k a b h.out v h.last h.stops))

-- a join's part of a sweep
pub join_goes : {S M : Type 0} (source : Source S M) (j h i k : JoinState) (a b : NetTree S) (w x y v : Waits) (lefts rights closing : StepEnd) → TakesWhile side.Left j h w x lefts → TakesWhile side.Right h i x y rights → ClosesJoin i k y v closing
    → Goes source (then (then lefts rights) closing) (fork j a b) (fork k a b) w v
join_goes source j h i k a b w x y v lefts rights closing left right closes = goes_then source (then lefts rights) closing (fork j a b) (fork i a b) (fork k a b) w y v
    (goes_then source lefts rights (fork j a b) (fork h a b) (fork i a b) w x y (goes_while source side.Left j h a b w x lefts left) (goes_while source side.Right h i a b x y rights right))
    (goes_turn source turn.Close i k a b y v closing closes)

-- ---- the operators below a join

pub goes_left : {S M : Type 0} (source : Source S M) (j : JoinState) (a b c : NetTree S) (x w : Waits) (end : StepEnd) → Goes source end a c j.left x → Goes source end (fork j a b) (fork (record j { left = x }) c b) w w
goes_left source j a b c x w end g gave (from_left, from_right, (left, (right, (takes, gave_is)))) = (
  subst (λ rows. Pushes source (fork j a b) (fork (record j { left = x }) c b) w w rows) (sym gave_is) (left_pushes source j a b c from_left from_right x w (g from_left left).0 right takes),
  below_left source j a b c x w end (g from_left left).1,
)

pub goes_right : {S M : Type 0} (source : Source S M) (j : JoinState) (a b c : NetTree S) (x w : Waits) (end : StepEnd) → Goes source end b c j.right x → Goes source end (fork j a b) (fork (record j { right = x }) a c) w w
goes_right source j a b c x w end g gave (from_left, from_right, (left, (right, (takes, gave_is)))) = (
  subst (λ rows. Pushes source (fork j a b) (fork (record j { right = x }) a c) w w rows) (sym gave_is) (right_pushes source j a b c from_left from_right x w (g from_right right).0 left takes),
  below_right source j a b c x w end (g from_right right).1,
)

-- ---- an operator with those below it, of which these are what its parts hold

pub left_goes : {S M : Type 0} (source : Source S M) (end : StepEnd) (t : NetTree S) (j h : JoinState) (a b c d : NetTree S) (x w : Waits) → t ≡ fork j a b → h ≡ j → c ≡ a → Goes source end c d h.left x → Goes source end t (fork (record h { left = x }) d b) w w
left_goes source end t j h a b c d x w is j_is a_is g =
    subst (λ y. Goes source end y (fork (record h { left = x }) d b) w w) (sym is)
    (subst (λ i. Goes source end (fork i a b) (fork (record h { left = x }) d b) w w) j_is
    (subst (λ y. Goes source end (fork h y b) (fork (record h { left = x }) d b) w w) a_is (goes_left source h c b d x w end g)))

pub both_go : {S M : Type 0} (source : Source S M) (first next : StepEnd) (t : NetTree S) (j h : JoinState) (a b c d e f : NetTree S) (x y w : Waits) → t ≡ fork j a b → h ≡ j → c ≡ a → e ≡ b → Goes source first c d h.left x → Goes source next e f h.right y
    → Goes source (then first next) t (fork (record h { left = x; right = y }) d f) w w
both_go source first next t j h a b c d e f x y w is j_is a_is b_is left right =
    goes_then source first next t (fork (record h { left = x }) d b) (fork (record h { left = x; right = y }) d f) w w w (left_goes source first t j h a b c d x w is j_is a_is left)
    (subst (λ z. Goes source next (fork (record h { left = x }) d z) (fork (record h { left = x; right = y }) d f) w w) b_is (goes_right source (record h { left = x }) d e f y w next right))

-- rows may come to the join
pub may_after : {S M : Type 0} (source : Source S M) (which : Side) (end : StepEnd) (t : NetTree S) (j : JoinState) (a b : NetTree S) (w v : Waits) → Goes source end t (fork j a b) w v → ((gave : RowList) × Stands source t gave) → MayTake which j
may_after source which end t j a b w v goes (gave, stands) = may_take source which j a b ((goes gave stands).0.now, (goes gave stands).0.stands)

pub one_goes : {S M : Type 0} (source : Source S M) (which : Side) (first end : StepEnd) (t : NetTree S) (j k : JoinState) (a b : NetTree S) (w x v : Waits) → Goes source first t (fork j a b) w x → TakesWhile which j k x v end → Goes source (then first end) t (fork k a b) w v
one_goes source which first end t j k a b w x v goes takes = goes_then source first end t (fork j a b) (fork k a b) w x v goes (goes_while source which j k a b x v end takes)

-- a whole sweep
pub swept_goes : {S M : Type 0} (source : Source S M) (end first lefts rights closing : StepEnd) (t : NetTree S) (j h i k : JoinState) (a b : NetTree S) (w x y v : Waits) → end ≡ then first (then (then lefts rights) closing)
    → Goes source first t (fork j a b) w w → TakesWhile side.Left j h w x lefts → TakesWhile side.Right h i x y rights → ClosesJoin i k y v closing → Goes source end t (fork k a b) w v
swept_goes source end first lefts rights closing t j h i k a b w x y v is below left right closes = ends_so source end (then first (then (then lefts rights) closing)) t (fork k a b) w v is
    (goes_then source first (then (then lefts rights) closing) t (fork j a b) (fork k a b) w w v below (join_goes source j h i k a b w x y v lefts rights closing left right closes))
