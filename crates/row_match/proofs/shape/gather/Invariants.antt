use Rattle.std.proofs.Common.{◌≡◌, ◌++◌, take, slice_get}
use Rattle.std.specs.List.{filter_map}
use Rattle.row_match.proofs.shape.gather.Given as goal

abbrev pub invariant-loop-position : goal.invariant-loop-position
invariant-loop-position l = l.into.items ≡ l.fn.into.items ++ filter_map (slice_get l.row) (take l.position-index l.positions)
