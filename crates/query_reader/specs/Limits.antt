-- The limits of a query: of its atoms, variables, comparisons and head, and of its text in bytes.
use Rattle.std.specs.Prelude.{ℕ}

abbrev pub most_atoms : ℕ
most_atoms = 8

abbrev pub most_variables : ℕ
most_variables = 64

abbrev pub most_comparisons : ℕ
most_comparisons = 32

abbrev pub longest_head : ℕ
longest_head = 64

abbrev pub longest_query : ℕ
longest_query = 1048576
