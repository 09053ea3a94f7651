use Rattle.std.proofs.Common.{◌∙◌, ℕ, List, ap, refl}
use Rattle.std.proofs.lemmas.Result.{IfOk-weaker}
use Rattle.std.specs.Borrow.{Bor}
use Rattle.clap.specs.Words.{found_of}
use Rattle.command_line.proofs.FindingLaws.{text_or_empty}
use Rattle.command_line.proofs.finding.text_at.Goals as goal

pub returns : goal.returns
returns c =
    let found = text_or_empty (found_of c.args.found.now) c.args.id.now c.get_str.result _ refl c.get_str.ensures in
    let same = ap (λ (text : Bor (List ℕ)). text.now) c.unwrap_or.ensures ∙ found in
    IfOk-weaker c.from_str.result _ _ (λ text is. is ∙ same) c.from_str.ensures
