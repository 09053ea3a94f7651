-- Places in a list, from one on.
use Rattle.std.specs.Prelude.{ℕ, Bool, List, Option, drop}
use Rattle.std.specs.List.{position_from}

-- the first place, at or after one, at which the test passes
abbrev pub next_place : {X : Type 0} → (X → Bool) → List X → ℕ → Option ℕ
next_place test xs from = position_from test from (drop from xs)
