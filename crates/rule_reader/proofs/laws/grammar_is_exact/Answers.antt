use Rattle.rule_reader.proofs.GrammarLaws.{complete, cut, exact, sound, unique}
use Rattle.rule_reader.proofs.ReadingLaws.{of_long}
use Rattle.rule_reader.proofs.laws.grammar_is_exact.Goals as goal

pub returns-clause-cut : goal.returns-clause-cut
returns-clause-cut c = cut

pub returns-clause-long : goal.returns-clause-long
returns-clause-long c = of_long

pub returns-clause-sound : goal.returns-clause-sound
returns-clause-sound c = sound

pub returns-clause-complete : goal.returns-clause-complete
returns-clause-complete c = complete

pub returns-clause-unique : goal.returns-clause-unique
returns-clause-unique c = unique

pub returns-clause-exact : goal.returns-clause-exact
returns-clause-exact c = exact
