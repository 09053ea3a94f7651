use Rattle.std.proofs.Common.{◌≡◌, ℕ, List, Bor, map, take}
use Rattle.cat_reader.proofs.doubled.names_of.Given as goal

-- the names of those so far
abbrev pub invariant-loop-one : goal.invariant-loop-one
invariant-loop-one g l = map (λ (n : Bor (List ℕ)). n.now) l.names.items ≡ map g.T.Named.name_of (take l.one-index l.all)
