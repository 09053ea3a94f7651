use Rattle.std.proofs.Common.{◌≡◌}
use Rattle.tuple_core.specs.Values.{row_cmp}
use Rattle.tuple_core.proofs.encoded.values_order.Given as goal

-- what is left decides
abbrev pub invariant-loop-value : goal.invariant-loop-value
invariant-loop-value l = row_cmp l.fn.left l.fn.right ≡ row_cmp l.value-iterator l.right
