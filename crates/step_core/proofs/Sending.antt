-- A member's turn, of what its collector gave.
use Rattle.std.proofs.Common.{◌≡◌, inr, ℕ, false, refl, subst}
use Rattle.med_base.specs.declared.outside.source.Source.{Ghosts as Source}
use Rattle.collect_core.specs.Steps.{gave}
use Rattle.collect_core.specs.declared.reader.Collected.{Collected}
use Rattle.step_core.specs.Edges.{PutsRows, SameWaits, Waits}
use Rattle.step_core.specs.Leaves.{CollectorActs, CollectorTurn, MemberGives, MemberTurn, end_by}
use Rattle.step_core.specs.Nets.{LeafState}
use Rattle.step_core.specs.declared.actor.StepEnd.{StepEnd}
use Rattle.step_core.specs.declared.actor.StepEnd.TheVariants as step_end
use Rattle.step_core.proofs.Giving.{puts_after}

pub sends : {S M : Type 0} (source : Source S M) (Acts : CollectorActs S) (l k : LeafState S) (index : ℕ) (w x v : Waits) (result : Collected) (end : StepEnd) → w.put ≡ false → SameWaits w x
    → CollectorTurn source Acts l.collecting k.collecting index result → k.atom ≡ l.atom → end ≡ end_by result → PutsRows x v (gave result) → MemberTurn source Acts l k index w v end
sends {S} {M} source Acts l k index w x v result end goes_on same turn atom end_is puts = go end refl
  where
    gives : MemberGives source Acts l k index w v end
    gives = record { goes_on = goes_on; result = result; turn = turn; atom = atom; end_is = end_is; put = puts_after w x v (gave result) same puts }

    go : (e : StepEnd) → end ≡ e → MemberTurn source Acts l k index w v e
    go step_end.Moved is = subst (MemberGives source Acts l k index w v) is gives
    go step_end.Still is = inr (subst (MemberGives source Acts l k index w v) is gives)
    go step_end.NoMemory is = inr (subst (MemberGives source Acts l k index w v) is gives)
