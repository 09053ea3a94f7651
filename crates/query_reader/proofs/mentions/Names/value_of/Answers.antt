use Rattle.std.proofs.Common.{ap, ◌∙◌}
use Rattle.query_reader.specs.Mentions.{value_named}
use Rattle.query_reader.proofs.MentionLaws.{value_there}
use Rattle.query_reader.proofs.mentions.Names.value_of.Goals as goal

pub returns : goal.returns
returns g c = c.copied.ensures ∙ c.get.ensures.value ∙ value_there c.args.name.now c.self.inside.first.entries ∙ ap (λ names. value_named names c.args.name.now) c.self.view_is
