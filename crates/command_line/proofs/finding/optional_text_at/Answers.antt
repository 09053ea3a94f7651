use Rattle.std.proofs.Common.{◌∙◌, ℕ, List, Some, ap}
use Rattle.clap.specs.Words.{found_of}
use Rattle.command_line.proofs.FindingLaws.{text_found}
use Rattle.command_line.proofs.finding.optional_text_at.Goals as goal

pub returns-in_ok-from_str-in-Some : goal.returns-in_ok-from_str-in-Some
returns-in_ok-from_str-in-Some c =
    text_found (found_of c.args.found.now) c.args.id.now _ (ap (λ (text : List ℕ). Some text) c.in_ok-from_str-in-Some.ensures ∙ c.in-Some.ensures)

pub returns-in-None : goal.returns-in-None
returns-in-None c = text_found (found_of c.args.found.now) c.args.id.now _ c.in-None.ensures
