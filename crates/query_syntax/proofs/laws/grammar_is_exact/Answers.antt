use Rattle.query_syntax.proofs.GrammarLaws.{complete, cut, dead, exact, live, sound, unique}
use Rattle.query_syntax.proofs.laws.grammar_is_exact.Goals as goal

pub returns-clause-cut : goal.returns-clause-cut
returns-clause-cut c = cut

pub returns-clause-sound : goal.returns-clause-sound
returns-clause-sound c = sound

pub returns-clause-complete : goal.returns-clause-complete
returns-clause-complete c = complete

pub returns-clause-unique : goal.returns-clause-unique
returns-clause-unique c = unique

pub returns-clause-exact : goal.returns-clause-exact
returns-clause-exact c = exact

pub returns-clause-live : goal.returns-clause-live
returns-clause-live c = live

pub returns-clause-dead : goal.returns-clause-dead
returns-clause-dead c = dead
