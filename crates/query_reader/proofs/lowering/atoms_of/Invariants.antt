use Rattle.std.proofs.Common.{◌≡◌, ◌++◌, drop, map}
use Rattle.query_reader.specs.Reading.{atom_of}
use Rattle.query_reader.proofs.lowering.atoms_of.Given as goal

-- those made so far stand before those that are left
abbrev pub invariant-loop-atom : goal.invariant-loop-atom
invariant-loop-atom l = l.made ++ map (atom_of l.directory l.variables) (map (λ x. x.now) (drop l.atom-index l.atoms)) ≡ map (atom_of l.directory l.variables) (map (λ x. x.now) l.atoms)
