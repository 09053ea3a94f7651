use Rattle.std.proofs.Common.{ap₂, ◌∙◌}
use Rattle.tuple_core.specs.Order.{row_eq}
use Rattle.tuple_core.proofs.Seen.{same_encodings}
use Rattle.tuple_core.proofs.encoded.EncodedRowPartialEq.eq.Goals as goal

pub returns : goal.returns
returns c =
    c.eq.ensures
    ∙ same_encodings c.self.inside.bytes.now c.other.inside.bytes.now c.self.invariant c.other.invariant
    ∙ ap₂ row_eq c.self.view_is c.other.view_is
