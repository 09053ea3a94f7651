use Rattle.std.proofs.Common.{◌≡◌, ◌∷◌, ◌∙◌, rules}
use Rattle.tuple_core.specs.Encoded.{row_of}
use Rattle.tuple_core.proofs.Seen.{row_left}
use Rattle.tuple_core.proofs.encoded.EncodedRow.values.Goals as goal

pub invariant_of-result : goal.invariant_of-result
invariant_of-result c =
    let whole : c.self.inside.bytes.now ≡ c.in-Some.count.now ∷ c.in-Some.bytes.now = search rules in
    (row_left (row_of c.self.inside.bytes.now) _ _ c.self.invariant.fits.each (c.self.invariant.is ∙ whole)).1

pub returns-clause-value : goal.returns-clause-value
returns-clause-value c =
    let whole : c.self.inside.bytes.now ≡ c.in-Some.count.now ∷ c.in-Some.bytes.now = search rules in
    (row_left (row_of c.self.inside.bytes.now) _ _ c.self.invariant.fits.each (c.self.invariant.is ∙ whole)).0 ∙ c.self.view_is
