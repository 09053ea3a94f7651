-- The ends of parts, one after another.
use Rattle.std.proofs.Common.{◌≡◌, Bool, true, false, ℕ, refl, sym, ap, subst, ◌∙◌, arith}
use Rattle.std.specs.Prelude.{◌≢◌}
use Rattle.std.proofs.lemmas.Bool.{false≢true}
use Rattle.step_core.specs.Going.{then}
use Rattle.step_core.specs.Work.{Falls}
use Rattle.step_core.specs.declared.actor.StepEnd.{StepEnd}
use Rattle.step_core.specs.declared.actor.StepEnd.TheVariants as step_end

-- ---- the ends are apart

abbrev is_still : StepEnd → Bool
is_still step_end.Moved = false
is_still step_end.Still = true
is_still step_end.NoMemory = false

abbrev is_short : StepEnd → Bool
is_short step_end.Moved = false
is_short step_end.Still = false
is_short step_end.NoMemory = true

pub moved_still : step_end.Moved ≡ step_end.Still → ⊥
moved_still e = false≢true (ap is_still e)

pub no_memory_still : step_end.NoMemory ≡ step_end.Still → ⊥
no_memory_still e = false≢true (ap is_still e)

pub moved_memory : step_end.Moved ≢ step_end.NoMemory
moved_memory e = false≢true (ap is_short e)

pub still_memory : step_end.Still ≢ step_end.NoMemory
still_memory e = false≢true (ap is_short e)

-- both stood still
pub then_still : (first next : StepEnd) → then first next ≡ step_end.Still → (first ≡ step_end.Still) × (next ≡ step_end.Still)
then_still step_end.Moved step_end.Moved e = absurd (moved_still e)
then_still step_end.Moved step_end.Still e = absurd (moved_still e)
then_still step_end.Moved step_end.NoMemory e = absurd (no_memory_still e)
then_still step_end.Still next e = (refl, e)
then_still step_end.NoMemory next e = absurd (no_memory_still e)

-- neither was short of memory
pub then_memory : (first next : StepEnd) → then first next ≢ step_end.NoMemory → (first ≢ step_end.NoMemory) × (next ≢ step_end.NoMemory)
then_memory step_end.Moved step_end.Moved enough = (moved_memory, moved_memory)
then_memory step_end.Moved step_end.Still enough = (moved_memory, still_memory)
then_memory step_end.Moved step_end.NoMemory enough = absurd (enough refl)
then_memory step_end.Still next enough = (still_memory, enough)
then_memory step_end.NoMemory next enough = absurd (enough refl)

-- the end of a join's sweep
pub all_ends : (end below both last first next lefts rights closing : StepEnd) → end ≡ then below last → below ≡ then first next → last ≡ then both closing → both ≡ then lefts rights → end ≡ then (then first next) (then (then lefts rights) closing)
all_ends end below both last first next lefts rights closing is below_is last_is both_is =
    is ∙ ap (λ e. then e last) below_is ∙ ap (then (then first next)) last_is ∙ ap (λ e. then (then first next) (then e closing)) both_is

-- ---- what falls with them

pub falls_then : (first next : StepEnd) (l m n : ℕ) → Falls first l m → Falls next m n → Falls (then first next) l n
falls_then step_end.Moved step_end.Moved l m n h k = Prim.omega (arith, h, k)
falls_then step_end.Moved step_end.Still l m n h k = Prim.omega (arith, h, k)
falls_then step_end.Moved step_end.NoMemory l m n h k = tt
falls_then step_end.Still step_end.Moved l m n h k = Prim.omega (arith, h, k)
falls_then step_end.Still step_end.Still l m n h k = Prim.omega (arith, h, k)
falls_then step_end.Still step_end.NoMemory l m n h k = tt
falls_then step_end.NoMemory next l m n h k = tt

pub ends_fall : (end so : StepEnd) (l n : ℕ) → end ≡ so → Falls so l n → Falls end l n
ends_fall end so l n is falls = subst (λ e. Falls e l n) (sym is) falls
