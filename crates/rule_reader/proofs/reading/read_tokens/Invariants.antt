use Rattle.std.proofs.Common.{◌≡◌, ◌+◌, length}
use Rattle.rule_reader.specs.Reading.{rule_from}
use Rattle.rule_reader.specs.declared.state.State.TheVariants.{Start}
use Rattle.rule_reader.proofs.reading.read_tokens.Given as goal

-- what is read of the bytes that are left is what is read of the text
abbrev pub invariant-loop-first : goal.invariant-loop-first
invariant-loop-first l = record {
  same : rule_from l.text l.state l.at l.rest ≡ rule_from l.text Start 0 l.text;
  offset : l.at + length l.rest ≡ length l.text;
}

abbrev pub decreases-loop-first : goal.decreases-loop-first
decreases-loop-first l = length l.rest
