use Rattle.least_order.proofs.PartLaws.{parts_apart, parts_full, parts_linked, parts_weigh}
use Rattle.least_order.proofs.laws.parts_are_linked.Goals as goal

pub returns-clause-full : goal.returns-clause-full
returns-clause-full c items = parts_full items

pub returns-clause-whole : goal.returns-clause-whole
returns-clause-whole c items weight = parts_weigh items weight

pub returns-clause-linked : goal.returns-clause-linked
returns-clause-linked c items = parts_linked items

pub returns-clause-apart : goal.returns-clause-apart
returns-clause-apart c items = parts_apart items
