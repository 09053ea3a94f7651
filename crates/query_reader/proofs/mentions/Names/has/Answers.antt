use Rattle.std.proofs.Common.{ap, ◌∙◌}
use Rattle.query_reader.specs.Mentions.{has_name}
use Rattle.query_reader.proofs.MentionLaws.{name_there}
use Rattle.query_reader.proofs.mentions.Names.has.Goals as goal

pub returns : goal.returns
returns g c = c.contains_key.ensures ∙ name_there c.args.name.now c.self.inside.first.entries ∙ ap (λ names. has_name names c.args.name.now) c.self.view_is
