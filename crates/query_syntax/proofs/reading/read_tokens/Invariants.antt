use Rattle.std.proofs.Common.{◌≡◌, ◌+◌, length}
use Rattle.query_syntax.specs.Reading.{syntax_from}
use Rattle.query_syntax.specs.declared.machine.State.TheVariants.{Start}
use Rattle.query_syntax.proofs.reading.read_tokens.Given as goal

-- what is read of the bytes that are left is what is read of the text
abbrev pub invariant-loop-first : goal.invariant-loop-first
invariant-loop-first l = record {
  same : syntax_from (length l.text) l.state l.at l.rest ≡ syntax_from (length l.text) Start 0 l.text;
  offset : l.at + length l.rest ≡ length l.text;
}

abbrev pub decreases-loop-first : goal.decreases-loop-first
decreases-loop-first l = length l.rest
