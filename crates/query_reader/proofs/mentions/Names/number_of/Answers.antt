use Rattle.std.proofs.Common.{ap, ◌∙◌}
use Rattle.query_reader.specs.Mentions.{number_named}
use Rattle.query_reader.proofs.MentionLaws.{number_found, number_missing}
use Rattle.query_reader.proofs.mentions.Names.number_of.Goals as goal

pub returns-in-Some : goal.returns-in-Some
returns-in-Some g c = number_found c.args.name.now c.self.inside.first.entries c.in-Some.number c.in-Some.ensures.index ∙ ap (λ names. number_named names c.args.name.now) c.self.view_is

pub returns-in-None : goal.returns-in-None
returns-in-None g c = c.len.ensures.len ∙ number_missing c.args.name.now c.self.inside.first.entries c.in-None.ensures.index ∙ ap (λ names. number_named names c.args.name.now) c.self.view_is
