-- Each round of taking rows leaves less to be taken.
use Rattle.std.proofs.Common.{◌≡◌, ℕ, ◌+◌, ◌*◌, ◌-◌, ◌^◌, ◌<◌, ◌≤◌, Bool, true, false, List, [], ◌∷◌, ◌++◌, arith, refl, length-append}
use Rattle.med_base.specs.declared.outside.source.Source.{Ghosts as Source}
use Rattle.tuple_core.specs.Values.{RowList, RowValues}
use Rattle.csv_wrap.specs.Wrapped.{HasGiven, Wrapped}
use Rattle.med_top.specs.Taking.{ends_to_come}

-- a row more was given
pub given_more : {S M : Type 0} (source : Source S M) (old new : Wrapped S) (given : RowList) (row : RowValues)
    → HasGiven source old given → HasGiven source new (given ++ row ∷ []) → new.accepted ≤ 2 ^ 62 → 2 ^ 62 - new.accepted < 2 ^ 62 - old.accepted
given_more source old new given row before after few = omega (arith, before.0, after.0, length-append given (row ∷ []), few)

-- a pull waited
pub waited : (left less idle : ℕ) (ended later : Bool) → (ended ≡ true → ⊥) → later ≡ false → less ≤ left → idle < 100000
    → (less + ends_to_come later) * 100001 + (100000 - (idle + 1)) < (left + ends_to_come ended) * 100001 + (100000 - idle)
waited left less idle true later unseen told lower below = absurd (unseen refl)
waited left less idle false later unseen told lower below = rw told (omega (arith, lower, below))
