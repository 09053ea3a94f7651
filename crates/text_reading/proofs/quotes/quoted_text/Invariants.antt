use Rattle.std.proofs.Common.{◌≡◌, ◌-◌, ◌≤◌, length}
use Rattle.text_reading.specs.Quoted.{quoted_text, with_front}
use Rattle.text_reading.proofs.quotes.quoted_text.Given as goal

-- the text so far stands before that of the bytes that are left
abbrev pub invariant-loop-first : goal.invariant-loop-first
invariant-loop-first l = record {
  same : with_front l.text.items (length l.bytes - length l.rest) (quoted_text l.rest) ≡ quoted_text l.bytes;
  inside : length l.rest ≤ length l.bytes;
}

abbrev pub decreases-loop-first : goal.decreases-loop-first
decreases-loop-first l = length l.rest
