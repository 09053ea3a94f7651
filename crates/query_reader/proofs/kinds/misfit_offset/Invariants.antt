use Rattle.std.proofs.Common.{◌≡◌, drop}
use Rattle.std.specs.Prelude.{nat_le}
use Rattle.text_reading.specs.Order.{least, lesser}
use Rattle.text_reading.specs.Faults.{each_where}
use Rattle.query_reader.specs.Kinds.{is_misfit}
use Rattle.query_reader.proofs.kinds.misfit_offset.Given as goal

-- the lesser of the least so far and that of those that are left is the least of all
abbrev pub invariant-loop-typed : goal.invariant-loop-typed
invariant-loop-typed l = lesser nat_le l.least (least nat_le (each_where (is_misfit l.kinds) (λ t. t.0.at) (drop l.typed-index l.terms))) ≡ least nat_le (each_where (is_misfit l.kinds) (λ t. t.0.at) l.terms)
