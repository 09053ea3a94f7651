-- Checks and where they are broken: the first broken check counts, at the least that breaks it. `P` says where: an offset,
-- an index, or what a reader's own text has.
use Rattle.std.specs.Prelude.{◌≡◌, ℕ, Bool, true, List, [], ◌∷◌, ◌⊎◌, Option, Some, None, Contains}
use Rattle.std.specs.List.{AllByRecursion}
use Rattle.text_reading.specs.Order.{least}
use Rattle.text_reading.specs.declared.checks.Broken.{Broken}

-- a check, by its number, and everywhere that it is broken
pub record Check (P : Type 0) : Type 0 where
  pub why : ℕ
  pub broken : List P

-- a check that is broken there
abbrev pub broken_at : {P : Type 0} → ℕ → P → Broken P
broken_at why at = record { why = why; at = at }

-- a check with the least that breaks it; where there is none, what later checks tell
abbrev pub told_first : {P : Type 0} → ℕ → Option P → Option (Broken P) → Option (Broken P)
told_first why None later = later
told_first why (Some at) later = Some (broken_at why at)

-- the first broken check, at the least that breaks it
abbrev pub first_broken : {P : Type 0} → (P → P → Bool) → List (Check P) → Option (Broken P)
first_broken up_to [] = None
first_broken up_to (c ∷ cs) = told_first c.why (least up_to c.broken) (first_broken up_to cs)

-- nothing breaks the check
abbrev pub IsKept : {P : Type 0} → Check P → Type 0
IsKept c = c.broken ≡ []

-- the check is broken there, and nowhere that is less
abbrev pub IsLeastBroken : {P : Type 0} → (P → P → Bool) → Check P → Broken P → Type 0
IsLeastBroken up_to c told = (told.why ≡ c.why) × Contains c.broken told.at × AllByRecursion (λ q. up_to told.at q ≡ true) c.broken

-- the checks before it are kept, and it is broken, there at the least
abbrev pub Refuses : {P : Type 0} → (P → P → Bool) → List (Check P) → Broken P → Type 0
Refuses up_to [] told = ⊥
Refuses up_to (c ∷ cs) told = IsLeastBroken up_to c told ⊎ (IsKept c × Refuses up_to cs told)

-- told exactly of the first broken check, at the least that breaks it, and nothing exactly where all are kept
abbrev pub IsExact : {P : Type 0} → (P → P → Bool) → List (Check P) → Option (Broken P) → Type 0
IsExact up_to cs (Some told) = Refuses up_to cs told
IsExact up_to cs None = AllByRecursion IsKept cs
