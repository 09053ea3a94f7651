use Rattle.std.proofs.Common.{◌≡◌, ℕ, ◌+◌, drop}
use Rattle.tuple_core.specs.Ranks.{FitsRoom, text_rank}
use Rattle.tuple_core.proofs.ranking.put_text.Given as goal

-- what is left of the text stands behind what is put
abbrev pub invariant-loop-byte : goal.invariant-loop-byte
invariant-loop-byte l =
    (rest : ℕ → ℕ) → FitsRoom rest
    → l.fn.start.number + text_rank l.bytes rest l.fn.start.free ≡ l.room.number + text_rank (drop l.byte-index l.bytes) rest l.room.free
