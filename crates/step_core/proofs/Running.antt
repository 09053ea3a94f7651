-- Steps one after another.
use Rattle.std.proofs.Math.Seq.{drop-cons}
use Rattle.std.proofs.Common.{◌≡◌, List, [], ◌∷◌, length, drop, slice_index_or, suc, ℕ, ◌+◌, ◌<◌, ◌≤◌, refl, subst, arith}
use Rattle.std.specs.Prelude.{⊤}
use Rattle.med_base.specs.declared.outside.source.Source.{Ghosts as Source}
use Rattle.step_core.specs.Going.{then}
use Rattle.step_core.specs.Nets.{NetState}
use Rattle.step_core.specs.Standing.{NetStands}
use Rattle.step_core.specs.Steps.{NetRuns, NetSteps}
use Rattle.step_core.specs.Work.{Falls, net_left}
use Rattle.step_core.specs.declared.actor.Actor.{Actor}
use Rattle.step_core.specs.declared.actor.StepEnd.{StepEnd}
use Rattle.step_core.specs.declared.actor.StepEnd.TheVariants as step_end

-- the end isn't want of memory
abbrev pub GoesOnFrom : StepEnd → Type 0
GoesOnFrom step_end.Moved = ⊤
GoesOnFrom step_end.Still = ⊤
GoesOnFrom step_end.NoMemory = ⊥

-- The first steps of a schedule were made, and these are left.
pub record HasRun {S M : Type 0} (source : Source S M) (schedule left : List Actor) (s t : NetState S) (end : StepEnd) : Type 0 where
  pub goes_on : GoesOnFrom end
  pub stands : NetStands source t
  pub runs : (u : NetState S) (last : StepEnd) → NetRuns source left t u last → NetRuns source schedule s u (then end last)
  pub falls : Falls end (net_left source s) (net_left source t)

pub begins : {S M : Type 0} (source : Source S M) (schedule : List Actor) (s : NetState S) → NetStands source s → HasRun source schedule schedule s s step_end.Still
begins source schedule s h = record { goes_on = tt; stands = h; runs = λ u last r. r; falls = Prim.omega arith }

twice : (end last : StepEnd) → GoesOnFrom end → then end (then step_end.Moved last) ≡ then step_end.Moved last
twice step_end.Moved step_end.Moved g = refl
twice step_end.Moved step_end.Still g = refl
twice step_end.Moved step_end.NoMemory g = refl
twice step_end.Still last g = refl
twice step_end.NoMemory last g = absurd g

pub falls_on : (end : StepEnd) (n m k : ℕ) → GoesOnFrom end → Falls end n m → k ≤ m → Falls end n k
falls_on step_end.Moved n m k g f h = Prim.omega (arith, f, h)
falls_on step_end.Still n m k g f h = Prim.omega (arith, f, h)
falls_on step_end.NoMemory n m k g f h = absurd g

pub falls_more : (end : StepEnd) (n m k : ℕ) → GoesOnFrom end → Falls end n m → k < m → k < n
falls_more step_end.Moved n m k g f h = Prim.omega (arith, f, h)
falls_more step_end.Still n m k g f h = Prim.omega (arith, f, h)
falls_more step_end.NoMemory n m k g f h = absurd g

-- one step more
pub moved : {S M : Type 0} (source : Source S M) (schedule left : List Actor) (x : Actor) (s t u : NetState S) (end : StepEnd) → HasRun source schedule (x ∷ left) s t end → NetSteps source x t u step_end.Moved → NetStands source u
    → net_left source u < net_left source t → HasRun source schedule left s u step_end.Moved
moved source schedule left x s t u end h steps stands falls = record {
  goes_on = tt;
  stands = stands;
  runs = λ v last r. subst (λ e. NetRuns source schedule s v e) (twice end last h.goes_on) (h.runs v (then step_end.Moved last) (record { between = u; stands = stands; first = step_end.Moved; steps = steps; rest = (last, (r, refl)) }));
  falls = falls_more end (net_left source s) (net_left source t) (net_left source u) h.goes_on h.falls falls;
}

pub stood : {S M : Type 0} (source : Source S M) (schedule left : List Actor) (x : Actor) (s t u : NetState S) (end : StepEnd) → HasRun source schedule (x ∷ left) s t end → NetSteps source x t u step_end.Still → NetStands source u
    → net_left source u ≤ net_left source t → HasRun source schedule left s u end
stood source schedule left x s t u end h steps stands falls = record {
  goes_on = h.goes_on;
  stands = stands;
  runs = λ v last r. h.runs v last (record { between = u; stands = stands; first = step_end.Still; steps = steps; rest = r });
  falls = falls_on end (net_left source s) (net_left source t) (net_left source u) h.goes_on h.falls falls;
}

no_memory_last : (end : StepEnd) → GoesOnFrom end → then end step_end.NoMemory ≡ step_end.NoMemory
no_memory_last step_end.Moved g = refl
no_memory_last step_end.Still g = refl
no_memory_last step_end.NoMemory g = absurd g

pub stops : {S M : Type 0} (source : Source S M) (schedule left : List Actor) (x : Actor) (s t u : NetState S) (end : StepEnd) → HasRun source schedule (x ∷ left) s t end → NetSteps source x t u step_end.NoMemory → NetStands source u
    → NetRuns source schedule s u step_end.NoMemory
stops source schedule left x s t u end h steps stands = subst (λ e. NetRuns source schedule s u e) (no_memory_last end h.goes_on) (h.runs u step_end.NoMemory (record { between = u; stands = stands; first = step_end.NoMemory; steps = steps; rest = (refl, refl) }))

still_last : (end : StepEnd) → GoesOnFrom end → then end step_end.Still ≡ end
still_last step_end.Moved g = refl
still_last step_end.Still g = refl
still_last step_end.NoMemory g = absurd g

pub ends_with : {S M : Type 0} (source : Source S M) (schedule : List Actor) (s t : NetState S) (end : StepEnd) → HasRun source schedule [] s t end → NetRuns source schedule s t end
ends_with source schedule s t end h = subst (λ e. NetRuns source schedule s t e) (still_last end h.goes_on) (h.runs t step_end.Still (refl, refl))

pub next : {S M : Type 0} (source : Source S M) (schedule : List Actor) (i : ℕ) (d : Actor) (s t : NetState S) (end : StepEnd) → i < length schedule → HasRun source schedule (drop i schedule) s t end
    → HasRun source schedule (slice_index_or schedule i d ∷ drop (i + 1) schedule) s t end
next source schedule i d s t end inside h = subst (λ k. HasRun source schedule (slice_index_or schedule i d ∷ drop k schedule) s t end) (one_more i) (subst (λ left. HasRun source schedule left s t end) (drop-cons schedule i d inside) h)
  where
    one_more : (n : ℕ) → suc n ≡ n + 1
    one_more n = Prim.omega arith
