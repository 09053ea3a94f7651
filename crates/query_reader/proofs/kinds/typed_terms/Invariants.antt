use Rattle.std.proofs.Common.{◌≡◌, ◌++◌, drop, map}
use Rattle.query_reader.specs.Kinds.{typed_terms}
use Rattle.query_reader.proofs.kinds.typed_terms.Given as goal

-- the terms so far stand before those of the atoms that are left
abbrev pub invariant-loop-atom : goal.invariant-loop-atom
invariant-loop-atom l = l.all.items ++ typed_terms l.directory (map (λ a. a.now) (drop l.atom-index l.atoms)) ≡ typed_terms l.directory (map (λ a. a.now) l.atoms)
