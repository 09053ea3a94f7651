use Rattle.std.proofs.Common.{◌∙◌}
use Rattle.std.specs.Str.Parse.{ExplainsUnsignedError, HasUnsignedDigitsIfOk, ParsesUnsigned}
use Rattle.clap.specs.Words.{found_of}
use Rattle.command_line.proofs.FindingLaws.{number_or}
use Rattle.command_line.proofs.finding.number_at.Goals as goal

pub returns : goal.returns
returns c =
    let same = number_or _ (λ text r. ParsesUnsigned 32 10 text r × ExplainsUnsignedError 10 text r × HasUnsignedDigitsIfOk text r)
    (found_of c.args.found.now) c.args.id.now c.args.default c.get_one.result (λ text r h. h.0) c.get_one.ensures.none c.get_one.ensures.value in
    c.unwrap_or.ensures ∙ same
