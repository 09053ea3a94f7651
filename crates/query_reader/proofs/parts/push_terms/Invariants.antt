use Rattle.std.proofs.Common.{◌≡◌, ◌++◌, drop}
use Rattle.std.specs.List.{flat_map}
use Rattle.query_reader.specs.Parts.{term_variables}
use Rattle.query_reader.proofs.parts.push_terms.Given as goal

-- the variables so far stand before those of the terms that are left
abbrev pub invariant-loop-term : goal.invariant-loop-term
invariant-loop-term l = l.variables.items ++ flat_map term_variables (drop l.term-index l.terms) ≡ l.initial.variables.items ++ flat_map term_variables l.terms
