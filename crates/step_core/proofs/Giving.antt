-- A join that gives its next match.
use Rattle.std.proofs.Common.{◌≡◌, ℕ, ◌+◌, Bool, List, [], ◌∷◌, ◌++◌, length, cond, Option, Some, None, refl, sym, ap, subst, ◌∙◌, append-nil, arith}
use Rattle.answer_theory.specs.Rows.{over}
use Rattle.row_match.specs.Filters.{all_hold}
use Rattle.tuple_core.specs.Values.{RowList, RowValues}
use Rattle.join_core.specs.State.{Joining}
use Rattle.join_core.specs.Steps.{GivesMatch, GivesNothing, JoinStep}
use Rattle.step_core.specs.Edges.{PutsRows, SameWaits, Waits}
use Rattle.step_core.specs.Joins.{GivesOut, GivesRow}
use Rattle.step_core.specs.Nets.{JoinState, joined_variables}
use Rattle.step_core.specs.declared.actor.StepEnd.{StepEnd}
use Rattle.step_core.specs.declared.actor.StepEnd.TheVariants as step_end

pub same_waits : (w : Waits) → SameWaits w w
same_waits w = record { rows = refl; given = refl; put = refl; taken = refl }

pub puts_none : (w v : Waits) → SameWaits w v → PutsRows w v []
puts_none w v h = record { rows = h.rows ∙ sym (append-nil w.rows); given = h.given ∙ zero_more w.given; put = h.put; taken = h.taken }
  where
    zero_more : (n : ℕ) → n ≡ n + 0
    zero_more n = Prim.omega arith

pub puts_after : (w x v : Waits) (more : RowList) → SameWaits w x → PutsRows x v more → PutsRows w v more
puts_after w x v more h p = record {
  rows = p.rows ∙ ap (λ rows. rows ++ more) h.rows;
  given = p.given ∙ ap (λ n. n + length more) h.given;
  put = p.put ∙ h.put;
  taken = p.taken ∙ h.taken;
}

gives_row : (s : JoinState) (t : Joining) (w v : Waits) (row : RowValues) (vars : List ℕ) (b : Bool) → vars ≡ joined_variables s.joining.shape → b ≡ all_hold s.comparisons (over vars row)
    → PutsRows w v (cond b (row ∷ []) []) → GivesMatch s.joining t row → JoinStep s.joining t [] [] (row ∷ []) → length row ≡ length (joined_variables s.joining.shape) → GivesRow s (record s { joining = t }) w v
gives_row s t w v row vars b is holds puts gives step wide = record {
  wide = wide;
  row = row;
  gives = gives;
  step = step;
  put = subst (λ x. PutsRows w v (cond x (row ∷ []) [])) (holds ∙ ap (λ us. all_hold s.comparisons (over us row)) is) puts;
  same = refl;
}

pub gives_out : (s now : JoinState) (t : Joining) (w x v out : Waits) (row : RowValues) (vars : List ℕ) (b : Bool) (result : Option StepEnd) → s ≡ now → result ≡ Some step_end.Moved → out ≡ v → SameWaits w x
    → PutsRows x v (cond b (row ∷ []) []) → vars ≡ joined_variables s.joining.shape → b ≡ all_hold s.comparisons (over vars row) → GivesMatch s.joining t row → JoinStep s.joining t [] [] (row ∷ []) → length row ≡ length (joined_variables s.joining.shape)
    → GivesOut now (record s { joining = t }) w out result
gives_out s now t w x v out row vars b result is ends out_is same puts vars_is holds gives step wide =
    subst (λ r. GivesOut now (record s { joining = t }) w out r) (sym ends)
    (subst (λ o. GivesRow now (record s { joining = t }) w o) (sym out_is)
    (subst (λ j. GivesRow j (record s { joining = t }) w v) is
    (gives_row s t w v row vars b vars_is holds (puts_after w x v (cond b (row ∷ []) []) same puts) gives step wide)))

pub gives_nothing : (s now : JoinState) (t : Joining) (w x out : Waits) (result : Option StepEnd) → s ≡ now → result ≡ None → out ≡ x → SameWaits w x → GivesNothing s.joining t → JoinStep s.joining t [] [] []
    → GivesOut now (record s { joining = t }) w out result
gives_nothing s now t w x out result is ends out_is same nothing step =
    subst (λ r. GivesOut now (record s { joining = t }) w out r) (sym ends)
    (subst (λ o. GivesOut now (record s { joining = t }) w o None) (sym out_is)
    (subst (λ j. GivesOut j (record s { joining = t }) w x None) is
    (record { none = nothing.none; rests = nothing.ended; step = step }, (refl, same))))

pub gives_no_memory : (s now : JoinState) (t : Joining) (w x out : Waits) (result : Option StepEnd) → s ≡ now → result ≡ Some step_end.NoMemory → out ≡ x → SameWaits w x → t ≡ s.joining
    → GivesOut now (record s { joining = t }) w out result
gives_no_memory s now t w x out result is ends out_is same kept =
    subst (λ r. GivesOut now (record s { joining = t }) w out r) (sym ends)
    (subst (λ o. GivesOut now (record s { joining = t }) w o (Some step_end.NoMemory)) (sym out_is)
    (subst (λ j. GivesOut j (record s { joining = t }) w x (Some step_end.NoMemory)) is
    (record { same = ap (λ u. record s { joining = u }) kept; out = same })))
