use Rattle.std.proofs.Common.{sym}
use Rattle.csv_wrap.proofs.FieldLaws.{field_there, field_drop}
use Rattle.csv_wrap.proofs.fields.field_at.Goals as goal

pub unreachable-requires : goal.unreachable-requires
unreachable-requires c = field_there _ _ c.requires (sym c.in-None.ensures.value)

pub returns : goal.returns
returns c = field_drop _ _ _ (sym c.in-Some.ensures.value)
