use Rattle.std.proofs.Common.{◌≡◌, ◌++◌, drop, map}
use Rattle.std.specs.List.{filter_map}
use Rattle.query_reader.specs.Parts.{atom_in}
use Rattle.query_reader.proofs.parts.atoms_of.Given as goal

-- the atoms so far stand before those of the parts that are left
abbrev pub invariant-loop-part : goal.invariant-loop-part
invariant-loop-part l = map (λ a. a.now) l.atoms.items ++ filter_map atom_in (drop l.part-index l.parts) ≡ filter_map atom_in l.parts
