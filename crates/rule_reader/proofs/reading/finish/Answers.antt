use Rattle.rule_reader.proofs.ReadingLaws.{end_plain, end_space}
use Rattle.rule_reader.proofs.reading.finish.Goals as goal

pub returns-then-ends_space : goal.returns-then-ends_space
returns-then-ends_space c = end_space _ _ c.if-ends_space.ensures

pub returns-in-Some : goal.returns-in-Some
returns-in-Some c = end_plain _ _ _ c.if-ends_space.ensures c.in-Some.ensures

pub returns-in-None : goal.returns-in-None
returns-in-None c = end_plain _ _ _ c.if-ends_space.ensures c.in-None.ensures
