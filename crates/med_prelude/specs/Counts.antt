-- Counts of 64 bits, which only rise.
use Rattle.std.specs.Prelude.{ℕ, ◌+◌, ◌-◌, ◌^◌, ◌≤◌, min}

-- where a count stands still
abbrev pub greatest_count : ℕ
greatest_count = 2 ^ 64 - 1

-- The count rose by at least so much. One that stands at its end counts as having risen, by as much as is asked.
abbrev pub RoseBy : ℕ → ℕ → ℕ → Type 0
RoseBy by old new = min (old + by) greatest_count ≤ new

abbrev pub Rose : ℕ → ℕ → Type 0
Rose old new = RoseBy 1 old new
