use Rattle.std.proofs.Common.{ℕ, ◌<◌, [], get_or}
use Rattle.tuple_core.specs.Ranks.{FirstTextBegins}
use Rattle.row_pages.proofs.sorting.shared_length.Given as goal

abbrev pub invariant-loop-index : goal.invariant-loop-index
invariant-loop-index l = (k : ℕ) → k < l.index → FirstTextBegins l.front (get_or l.rows k [])
