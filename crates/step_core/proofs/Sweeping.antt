-- A join that takes all that waits for it.
use Rattle.std.proofs.Common.{◌≡◌, inl, inr, ℕ, zero, suc, ◌+◌, ◌==◌, true, false, nat_lt, List, [], ◌∷◌, length, None, refl, sym, ap, subst, ◌∙◌, arith}
use Rattle.std.specs.List.{list_all}
use Rattle.std.proofs.lemmas.Bool.{and_parts, false≢true}
use Rattle.tuple_core.specs.Values.{RowList, RowValues}
use Rattle.row_match.specs.Shapes.{vars_of}
use Rattle.row_match.specs.declared.shape.Side.{Side}
use Rattle.row_match.specs.declared.shape.Side.TheVariants as side
use Rattle.join_core.specs.State.{Joining, arrived, ended, has_ended, stored_rows}
use Rattle.step_core.specs.Edges.{IsEmpty, Waits}
use Rattle.step_core.specs.Going.{then}
use Rattle.step_core.specs.Joins.{ComesIn, EndComes, Feeds, FeedsOn, MayCome, MayTake, Takes, TakesItem, at_rest}
use Rattle.step_core.specs.Nets.{JoinState, edge_on}
use Rattle.step_core.specs.Parts.{Stops, TakesSome, TakesWhile, moved}
use Rattle.step_core.specs.Passes.{has_room, most_waiting}
use Rattle.step_core.specs.Standing.{AreWide}
use Rattle.step_core.specs.declared.actor.StepEnd.{StepEnd}
use Rattle.step_core.specs.declared.actor.StepEnd.TheVariants as step_end
use Rattle.step_core.proofs.Falling.{Sized, takes_less}
use Rattle.step_core.proofs.Ending.{moved_still, no_memory_still, then_still}

-- ---- rows may come after a turn that moved

wide_tail : (vs : List ℕ) (row : RowValues) (rows : RowList) → AreWide vs (row ∷ rows) → AreWide vs rows
wide_tail vs row rows wide = (and_parts (length row == length vs) (list_all (λ r. length r == length vs) rows) wide).1

some_rows : (row : RowValues) (rows : RowList) → row ∷ rows ≡ [] → ⊥
some_rows row rows e = Prim.omega (arith, ap length e)

arrived_ends : (which : Side) (s : Joining) (row : RowValues) → has_ended which (arrived which s row) ≡ has_ended which s
arrived_ends side.Left s row = refl
arrived_ends side.Right s row = refl

ended_ends : (which : Side) (s : Joining) → has_ended which (ended which s) ≡ true
ended_ends side.Left s = refl
ended_ends side.Right s = refl

may_after_row : (which : Side) (s t : Joining) (w v : Waits) → MayCome which s w → ComesIn which s t w v → MayCome which t v
may_after_row which s t w v h c = record {
  ended = ap (has_ended which) c.came ∙ arrived_ends which s c.row ∙ h.ended ∙ sym c.first.taken;
  last = λ e. absurd (some_rows c.row v.rows (sym c.first.first ∙ h.last (sym c.first.taken ∙ e)));
  wide = subst (λ x. AreWide (vars_of which x) v.rows) (sym c.step.shape) (wide_tail (vars_of which s.shape) c.row v.rows (subst (AreWide (vars_of which s.shape)) c.first.first h.wide));
}

may_after_end : (which : Side) (s t : Joining) (w v : Waits) → MayCome which s w → EndComes which s t w v → MayCome which t v
may_after_end which s t w v h c = record {
  ended = ap (has_ended which) c.ended ∙ ended_ends which s ∙ sym (ap (λ x. x.taken) c.last.taken);
  last = λ e. ap (λ x. x.rows) c.last.taken ∙ c.last.empty;
  wide = subst (λ x. AreWide (vars_of which x) v.rows) (sym c.step.shape) (subst (AreWide (vars_of which s.shape)) (sym (ap (λ x. x.rows) c.last.taken)) h.wide);
}

rest_ends : (which : Side) (s : Joining) (w : Waits) → MayCome which s w → MayCome which (at_rest s) w
rest_ends side.Left s w h = record { ended = h.ended; last = h.last; wide = h.wide }
rest_ends side.Right s w h = record { ended = h.ended; last = h.last; wide = h.wide }

probe_ends : (which : Side) (s t : Joining) (w : Waits) → t ≡ record s { probe = t.probe } → MayCome which s w → MayCome which t w
probe_ends side.Left s t w e h = record { ended = ap (λ x. x.left_ended) e ∙ h.ended; last = h.last; wide = subst (λ x. AreWide x w.rows) (sym (ap (λ x. x.shape.left) e)) h.wide }
probe_ends side.Right s t w e h = record { ended = ap (λ x. x.right_ended) e ∙ h.ended; last = h.last; wide = subst (λ x. AreWide x w.rows) (sym (ap (λ x. x.shape.right) e)) h.wide }

fed_may : (which : Side) (j k : JoinState) → FeedsOn which j k step_end.Moved → MayTake which j → MayTake which k
fed_may which j k f h = go f.feeds
  where
    go : Feeds which j.joining k.joining (edge_on which j) (edge_on which k) step_end.Moved → MayTake which k
    go (inl c) = may_after_row which j.joining k.joining (edge_on which j) (edge_on which k) h c
    go (inr c) = may_after_end which j.joining k.joining (edge_on which j) (edge_on which k) h c

same_edge : (which : Side) (j k : JoinState) → k ≡ record j { joining = k.joining } → edge_on which k ≡ edge_on which j
same_edge side.Left j k e = ap (λ x. x.left) e
same_edge side.Right j k e = ap (λ x. x.right) e

resting : (which : Side) (j : JoinState) (t : Joining) → t ≡ at_rest j.joining → MayTake which j → MayTake which (record j { joining = t })
resting side.Left j t e h = subst (λ x. MayCome side.Left x j.left) (sym e) (rest_ends side.Left j.joining j.left h)
resting side.Right j t e h = subst (λ x. MayCome side.Right x j.right) (sym e) (rest_ends side.Right j.joining j.right h)

may_again : (which : Side) (j k : JoinState) (w v : Waits) → Takes which j k w v step_end.Moved → MayTake which j → MayTake which k
may_again which j k w v (inl r) h = subst (λ w. MayCome which k.joining w) (sym (same_edge which j k r.same)) (probe_ends which j.joining k.joining (edge_on which j) r.gives.same h)
may_again which j k w v (inr i) h = fed_may which (record j { joining = i.between }) k i.feeds (resting which j i.between i.no_match.rests h)

-- ---- the turns one after another

-- so many rows a join may have of each side, at most
abbrev pub left_size : JoinState → ℕ
left_size j = length (stored_rows side.Left j.joining) + length j.left.rows

abbrev pub right_size : JoinState → ℕ
right_size j = length (stored_rows side.Right j.joining) + length j.right.rows

-- the join took some items of the edge, and may take more
pub record HasTaken (which : Side) (j k : JoinState) (w v : Waits) (end : StepEnd) : Type 0 where
  pub count : ℕ
  pub some : TakesSome which count j k w v
  pub ends : end ≡ moved count
  pub may : MayTake which k
  pub sized : Sized k (left_size j) (right_size j)

pub taken_none : (which : Side) (j : JoinState) (w : Waits) → MayTake which j → HasTaken which j j w w step_end.Still
taken_none which j w may = record { count = 0; some = (refl, refl); ends = refl; may = may; sized = record { left = Prim.omega arith; right = Prim.omega arith } }

pub taken_more : (which : Side) (j i k : JoinState) (w x v : Waits) (end : StepEnd) → HasTaken which j i w x end → Takes which i k x v step_end.Moved → HasTaken which j k w v step_end.Moved
taken_more which j i k w x v end h takes = record {
  count = suc h.count;
  some = (i, (x, (h.some, takes)));
  ends = refl;
  may = may_again which i k x v takes h.may;
  sized = (takes_less which i k x v (left_size j) (right_size j) h.sized takes).sized;
}

-- it took all, or memory ran out
still_last : (n : ℕ) → moved n ≡ then (moved n) step_end.Still
still_last zero = refl
still_last (suc n) = refl

no_memory_last : (n : ℕ) → step_end.NoMemory ≡ then (moved n) step_end.NoMemory
no_memory_last zero = refl
no_memory_last (suc n) = refl

pub taken_all : (which : Side) (j i k : JoinState) (w x v : Waits) (end : StepEnd) → HasTaken which j i w x end → Takes which i k x v step_end.Still → TakesWhile which j k w v end
taken_all which j i k w x v end h takes = record { count = h.count; between = i; out = x; last = step_end.Still; some = h.some; stops = inr takes; ends = h.ends ∙ still_last h.count }

pub taken_some : (which : Side) (j i k : JoinState) (w x v : Waits) (end : StepEnd) → HasTaken which j i w x end → Takes which i k x v step_end.NoMemory → TakesWhile which j k w v step_end.NoMemory
taken_some which j i k w x v end h takes = record { count = h.count; between = i; out = x; last = step_end.NoMemory; some = h.some; stops = takes; ends = no_memory_last h.count }

-- many rows wait on the edge out
pub taken_full : (which : Side) (j k : JoinState) (w v : Waits) (end : StepEnd) → HasTaken which j k w v end → has_room v ≡ false → TakesWhile which j k w v end
taken_full which j k w v end h full = record { count = h.count; between = k; out = v; last = step_end.Still; some = h.some; stops = inl (full, (refl, refl)); ends = h.ends ∙ still_last h.count }

-- ---- where nothing is left on the edge

abbrev other_edge : Side → JoinState → Waits
other_edge side.Left j = j.right
other_edge side.Right j = j.left

fed_other : (which : Side) (j k : JoinState) (end : StepEnd) → FeedsOn which j k end → other_edge which k ≡ other_edge which j
fed_other side.Left j k end f = ap (λ x. x.right) f.same
fed_other side.Right j k end f = ap (λ x. x.left) f.same

given_other : (which : Side) (j k : JoinState) → k ≡ record j { joining = k.joining } → other_edge which k ≡ other_edge which j
given_other side.Left j k e = ap (λ x. x.right) e
given_other side.Right j k e = ap (λ x. x.left) e

item_other : (which : Side) (j k : JoinState) (w v : Waits) (end : StepEnd) → TakesItem which j k w v end → other_edge which k ≡ other_edge which j
item_other which j k w v end i = fed_other which (record j { joining = i.between }) k end i.feeds ∙ sym (given_other which (record j { joining = i.between }) j refl)

fed_put : (which : Side) (j k : JoinState) (end : StepEnd) → FeedsOn which j k end → (edge_on which k).put ≡ (edge_on which j).put
fed_put which j k end f = go end f.feeds
  where
    go : (e : StepEnd) → Feeds which j.joining k.joining (edge_on which j) (edge_on which k) e → (edge_on which k).put ≡ (edge_on which j).put
    go step_end.Moved (inl c) = c.first.put
    go step_end.Moved (inr c) = ap (λ x. x.put) c.last.taken
    go step_end.Still (same, rest) = ap (λ x. x.put) rest.1
    go step_end.NoMemory (same, waits) = waits.put

item_put : (which : Side) (j k : JoinState) (w v : Waits) (end : StepEnd) → TakesItem which j k w v end → (edge_on which k).put ≡ (edge_on which j).put
item_put which j k w v end i = fed_put which (record j { joining = i.between }) k end i.feeds ∙ sym (ap (λ x. x.put) (same_edge which (record j { joining = i.between }) j refl))

-- The join took all that waited on the edge: nothing waits there, and no match is left; the other edge is the same.
pub record TookAll (which : Side) (j k : JoinState) : Type 0 where
  pub empty : IsEmpty (edge_on which k)
  pub no_match : k.joining.probe ≡ None
  pub put : (edge_on which k).put ≡ (edge_on which j).put
  pub other : other_edge which k ≡ other_edge which j

took_all : (which : Side) (j k : JoinState) (w v : Waits) → Takes which j k w v step_end.Still → TookAll which j k
took_all which j k w v h = record {
  empty = subst IsEmpty (sym h.feeds.feeds.1.1) h.feeds.feeds.1.0;
  no_match = ap (λ s. s.probe) (h.feeds.feeds.0 ∙ h.no_match.rests);
  put = item_put which j k w v step_end.Still h;
  other = item_other which j k w v step_end.Still h;
}

-- nothing moved, and few rows wait on the edge out: so it took all
pub record TookStill (which : Side) (j k : JoinState) (w : Waits) : Type 0 where
  pub all : TookAll which j k
  pub room : has_room w ≡ true
  pub was_room : has_room (edge_on which j) ≡ true

pub took_still : (which : Side) (j k : JoinState) (w v : Waits) (end : StepEnd) → end ≡ step_end.Still → has_room v ≡ true → TakesWhile which j k w v end → TookStill which j k w
took_still which j k w v end still room h = none h.count h.last (sym h.ends ∙ still) h.some h.stops
  where
    stopped : (i : JoinState) (x : Waits) → Stops which i k x v step_end.Still → TookStill which i k x
    stopped i x (inl (full, (same, out))) = absurd (false≢true (sym full ∙ ap has_room (sym out) ∙ room))
    stopped i x (inr takes) = record {
      all = took_all which i k x v takes;
      room = ap (λ rows. nat_lt (length rows) most_waiting) (sym takes.out.rows) ∙ room;
      was_room = ap (λ x. nat_lt (length x.rows) most_waiting) (sym (same_edge which i (record i { joining = takes.between }) refl)) ∙ ap (λ rows. nat_lt (length rows) most_waiting) takes.feeds.feeds.1.0.rows;
    }

    none : (n : ℕ) (last : StepEnd) → then (moved n) last ≡ step_end.Still → TakesSome which n j h.between w h.out → Stops which h.between k h.out v last → TookStill which j k w
    none zero step_end.Still e (same, out) stops = subst (λ i. TookStill which i k w) same (subst (λ x. TookStill which h.between k x) out (stopped h.between h.out stops))
    none zero step_end.Moved e some stops = absurd stops
    none zero step_end.NoMemory e some stops = absurd (no_memory_still e)
    none (suc n) last e some stops = absurd (moved_still (then_still step_end.Moved last e).0)
