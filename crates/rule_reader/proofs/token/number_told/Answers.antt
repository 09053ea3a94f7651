use Rattle.std.proofs.Common.{◌+◌, arith, ◌∙◌}
use Rattle.rule_reader.specs.Tokens.{most_number}
use Rattle.rule_reader.proofs.NumberLaws.{cut_digit}
use Rattle.rule_reader.proofs.token.number_told.Goals as goal

pub loop-digit-preserved : goal.loop-digit-preserved
loop-digit-preserved c = record {
  small = omega (arith, c.min-number.ensures);
  same = cut_digit (most_number + 1) c.args.digits.now c.loop-digit.digit-index _ c.min-number.result c.loop-digit-test.true (omega (arith, c.min-number.ensures, c.from.ensures, c.saturating_sub.ensures)) ∙ c.loop-digit.invariant.same;
}
