use Rattle.std.proofs.Common.{◌≡◌, take}
use Rattle.row_pages.proofs.sorting.shared_front.Given as goal

abbrev pub invariant-loop-index : goal.invariant-loop-index
invariant-loop-index l = take l.index l.x ≡ take l.index l.y
