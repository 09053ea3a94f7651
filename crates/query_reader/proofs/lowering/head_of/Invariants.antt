use Rattle.std.proofs.Common.{◌≡◌, ◌++◌, drop, map}
use Rattle.query_reader.specs.Mentions.{number_named}
use Rattle.query_reader.proofs.lowering.head_of.Given as goal

-- those made so far stand before those that are left
abbrev pub invariant-loop-variable : goal.invariant-loop-variable
invariant-loop-variable l = l.made ++ map (λ variable. number_named l.variables variable.0) (drop l.variable-index l.head) ≡ map (λ variable. number_named l.variables variable.0) l.head
