use Rattle.std.proofs.Common.{sym}
use Rattle.med_prelude.proofs.Utf8.{utf8_test, utf8_refuted}
use Rattle.spill_blocks.proofs.reading.is_text.Goals as goal

pub returns-in-Ok : goal.returns-in-Ok
returns-in-Ok c = sym (utf8_test _ c.in-Ok.ensures.cases.1)

pub returns-in-Err : goal.returns-in-Err
returns-in-Err c = sym (utf8_refuted _ c.in-Err.ensures.cases.0)
