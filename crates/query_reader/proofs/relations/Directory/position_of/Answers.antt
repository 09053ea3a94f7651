use Rattle.std.proofs.Common.{ap, ◌∙◌}
use Rattle.query_reader.specs.Reading.{relation_index}
use Rattle.query_reader.proofs.FirstLaws.{found_at, found_none}
use Rattle.query_reader.proofs.relations.Directory.position_of.Goals as goal

pub returns-in-Some : goal.returns-in-Some
returns-in-Some c =
    let at = found_at c.args.name.now c.self.inside.relations.now c.self.inside.positions c.in-Some.position c.self.invariant c.in-Some.ensures in
    at.number ∙ ap (λ relations. relation_index relations c.args.name.now) c.self.view_is

pub returns-in-None : goal.returns-in-None
returns-in-None c =
    let at = found_none c.args.name.now c.self.inside.relations.now c.self.inside.positions c.self.invariant c.in-None.ensures in
    at.number ∙ ap (λ relations. relation_index relations c.args.name.now) c.self.view_is
