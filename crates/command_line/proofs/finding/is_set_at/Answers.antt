use Rattle.std.proofs.Common.{◌∙◌}
use Rattle.clap.specs.Words.{found_of}
use Rattle.command_line.proofs.FindingLaws.{truth_or_false}
use Rattle.command_line.proofs.finding.is_set_at.Goals as goal

pub returns : goal.returns
returns c =
    let same = truth_or_false _ (found_of c.args.found.now) c.args.id.now c.get_one.result c.get_one.ensures.none c.get_one.ensures.value in
    c.unwrap_or.ensures ∙ same
