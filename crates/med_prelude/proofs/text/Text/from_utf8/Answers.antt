use Rattle.std.proofs.Common.{rules}
use Rattle.std.specs.Prelude.{refl}
use Rattle.med_prelude.proofs.Utf8.{utf8_test, utf8_refuted}
use Rattle.med_prelude.proofs.text.Text.from_utf8.Goals as goal

pub returns-in_ok-from_str-in-Ok : goal.returns-in_ok-from_str-in-Ok
returns-in_ok-from_str-in-Ok c = rw (utf8_test _ c.in-Ok.ensures.cases.1) (search rules)

pub returns-in-Err : goal.returns-in-Err
returns-in-Err c = rw (utf8_refuted _ c.in-Err.ensures.cases.0) refl
