use Rattle.std.proofs.Common.{arith}
use Rattle.text_reading.proofs.QuoteLaws.{quoted_text_within}
use Rattle.query_syntax.proofs.token.text_at.Goals as goal

pub overflow_add-taken : goal.overflow_add-taken
overflow_add-taken c =
    let within = rw c.in-Some.is at (quoted_text_within c.args.bytes.now c.in_ok-quoted_text.field-0 c.in_ok-quoted_text.ensures) in
    omega (arith, within, c.in-Some.taken-is)
