use Rattle.std.proofs.Common.{◌≡◌, ◌++◌, drop}
use Rattle.query_reader.specs.Kinds.{terms_with_kinds}
use Rattle.query_reader.proofs.kinds.push_typed.Given as goal

-- the terms so far stand before those that are left
abbrev pub invariant-loop-position : goal.invariant-loop-position
invariant-loop-position l = l.all.items ++ terms_with_kinds (drop l.position l.terms) (drop l.position l.columns) ≡ l.initial.all.items ++ terms_with_kinds l.terms l.columns
