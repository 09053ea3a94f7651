-- What a clock reads.
use Rattle.std.specs.Prelude.{ℕ, ◌/◌, min}
use Rattle.med_prelude.specs.Counts.{greatest_count}

abbrev pub nanos_of_a_milli : ℕ
nanos_of_a_milli = 1000000

-- so many nanoseconds in whole milliseconds, as far as a count goes
abbrev pub millis : ℕ → ℕ
millis nanos = min (nanos / nanos_of_a_milli) greatest_count
