use Rattle.std.proofs.Common.{◌≡◌, ◌++◌, drop}
use Rattle.query_reader.specs.Kinds.{variable_kinds}
use Rattle.query_reader.proofs.kinds.variable_kinds.Given as goal

-- the kinds so far stand before those of the terms that are left
abbrev pub invariant-loop-typed : goal.invariant-loop-typed
invariant-loop-typed l = l.kinds.items ++ variable_kinds (drop l.typed-index l.terms) ≡ variable_kinds l.terms
