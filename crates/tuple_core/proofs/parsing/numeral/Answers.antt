use Rattle.std.proofs.Common.{rules, sym, ◌∙◌}
use Rattle.tuple_core.proofs.Numerals.{stops}
use Rattle.tuple_core.proofs.parsing.numeral.Goals as goal

pub returns-in_err-number : goal.returns-in_err-number
returns-in_err-number c =
    let none = stops c.args.most c.args.digits.now c.loop-digit.digit-index c.with_digit.result c.loop-digit-test.true (search rules) c.in_err-number.was in
    c.from_residual.ensures ∙ sym none
