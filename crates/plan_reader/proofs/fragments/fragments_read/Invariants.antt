use Rattle.std.proofs.Common.{◌≡◌}
use Rattle.std.specs.List.{filter_map}
use Rattle.plan_reader.specs.Fragments.{fragment_read}
use Rattle.plan_reader.proofs.fragments.fragments_read.Given as goal

-- the fragments of those so far
abbrev pub invariant-loop-written : goal.invariant-loop-written
invariant-loop-written l = l.fragments ≡ filter_map fragment_read l.yielded
