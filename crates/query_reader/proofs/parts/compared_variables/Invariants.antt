use Rattle.std.proofs.Common.{◌≡◌, ◌++◌, drop, map}
use Rattle.std.specs.List.{flat_map}
use Rattle.query_reader.specs.Parts.{comparison_variables}
use Rattle.query_reader.proofs.parts.compared_variables.Given as goal

-- the variables so far stand before those of the comparisons that are left
abbrev pub invariant-loop-comparison : goal.invariant-loop-comparison
invariant-loop-comparison l = l.variables.items ++ flat_map comparison_variables (map (λ c. c.now) (drop l.comparison-index l.comparisons)) ≡ flat_map comparison_variables (map (λ c. c.now) l.comparisons)
