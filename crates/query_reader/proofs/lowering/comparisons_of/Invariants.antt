use Rattle.std.proofs.Common.{◌≡◌, ◌++◌, drop, map}
use Rattle.query_reader.specs.Reading.{comparison_of}
use Rattle.query_reader.proofs.lowering.comparisons_of.Given as goal

-- those made so far stand before those that are left
abbrev pub invariant-loop-comparison : goal.invariant-loop-comparison
invariant-loop-comparison l = l.made ++ map (comparison_of l.variables) (map (λ x. x.now) (drop l.comparison-index l.comparisons)) ≡ map (comparison_of l.variables) (map (λ x. x.now) l.comparisons)
