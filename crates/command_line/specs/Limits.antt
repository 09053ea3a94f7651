-- The limits of a command's numbers, and what stands for those that aren't given.
use Rattle.std.specs.Prelude.{ℕ}

abbrev pub most_threads : ℕ
most_threads = 64

abbrev pub default_threads : ℕ
default_threads = 4

abbrev pub most_number : ℕ
most_number = 1000000

abbrev pub most_rows : ℕ
most_rows = 20000

abbrev pub default_rows : ℕ
default_rows = 4000
