use Rattle.std.proofs.Common.{◌≡◌, ◌+◌}
use Rattle.std.specs.List.{AllByRecursion}
use Rattle.tuple_core.specs.Ranks.{FitsRank, row_rank}
use Rattle.tuple_core.proofs.ranking.number_behind.Given as goal

-- the values that are left stand behind what is put
abbrev pub invariant-loop-value : goal.invariant-loop-value
invariant-loop-value l = record {
  left : l.fn.start.number + row_rank l.fn.values l.fn.start.free ≡ l.room.number + row_rank l.value-iterator l.room.free;
  fits : AllByRecursion FitsRank l.value-iterator;
}
