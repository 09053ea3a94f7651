-- What the readings of a clock say of it.
use Rattle.std.specs.Prelude.{ℕ, ◌+◌, ◌-◌, min, Option, Some, None}
use Rattle.med_prelude.specs.Counts.{greatest_count}

-- How far a clock has risen after a reading: by as much as the reading is above the last one. The first adds nothing.
abbrev pub rise_after : Option ℕ → ℕ → ℕ → ℕ
rise_after None reading risen = risen
rise_after (Some last) reading risen = min (risen + (reading - last)) greatest_count
