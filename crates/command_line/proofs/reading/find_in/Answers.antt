use Rattle.std.proofs.Common.{◌∙◌}
use Rattle.clap.proofs.WalkLemmas.{both}
use Rattle.command_line.proofs.ReadingLaws.{finds, refuses, takes}
use Rattle.command_line.proofs.reading.find_in.Goals as goal

pub returns-in-Ok : goal.returns-in-Ok
returns-in-Ok c = (takes _ _ (c.in-Ok.ensures.kinds c.requires), (c.in-Ok.ensures.matches (both _ _ c.requires).0).0 ∙ finds _ _)

pub returns : goal.returns
returns c = refuses _ _ c.in-Err.error c.kind.result c.kind.ensures c.in_default.not-OutOfMemory (c.in-Err.ensures.kinds c.requires)
