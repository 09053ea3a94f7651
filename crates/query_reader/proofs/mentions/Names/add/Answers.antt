use Rattle.query_reader.proofs.MentionLaws.{name_added, name_kept}
use Rattle.query_reader.proofs.mentions.Names.add.Goals as goal

pub returns-in_ok-insert : goal.returns-in_ok-insert
returns-in_ok-insert g c = name_added c.args.name c.args.value c.self.inside.first.entries c.insert.new.self.entries c.args.self.now c.contains_key.result c.self.view_is c.contains_key.ensures c.if-not-contains_key.true c.in_ok-insert.ensures.entries

pub returns-else-not-contains_key : goal.returns-else-not-contains_key
returns-else-not-contains_key g c = name_kept c.args.name c.args.value c.self.inside.first.entries c.args.self.now c.contains_key.result c.self.view_is c.contains_key.ensures c.if-not-contains_key.false
