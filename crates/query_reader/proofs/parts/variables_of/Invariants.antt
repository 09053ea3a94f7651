use Rattle.std.proofs.Common.{◌≡◌, ◌++◌, drop}
use Rattle.std.specs.List.{flat_map}
use Rattle.query_reader.specs.Parts.{part_variables, variables_of}
use Rattle.query_reader.proofs.parts.variables_of.Given as goal

-- the variables so far stand before those of the parts that are left
abbrev pub invariant-loop-part : goal.invariant-loop-part
invariant-loop-part l = l.variables.items ++ flat_map part_variables (drop l.part-index l.syntax.parts) ≡ variables_of l.syntax
