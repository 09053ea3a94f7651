use Rattle.std.proofs.Common.{◌≡◌, ◌++◌, drop, map}
use Rattle.std.specs.List.{flat_map}
use Rattle.query_reader.specs.Parts.{atom_variables}
use Rattle.query_reader.proofs.parts.bound_variables.Given as goal

-- the variables so far stand before those of the atoms that are left
abbrev pub invariant-loop-atom : goal.invariant-loop-atom
invariant-loop-atom l = l.variables.items ++ flat_map atom_variables (map (λ a. a.now) (drop l.atom-index l.atoms)) ≡ flat_map atom_variables (map (λ a. a.now) l.atoms)
