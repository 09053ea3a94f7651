use Rattle.row_match.proofs.Telling.{met_alike, alike_meet}
use Rattle.row_match.proofs.laws.keys_tell.Goals as goal

pub returns-clause-equal : goal.returns-clause-equal
returns-clause-equal c = met_alike

pub returns-clause-meet : goal.returns-clause-meet
returns-clause-meet c = alike_meet
