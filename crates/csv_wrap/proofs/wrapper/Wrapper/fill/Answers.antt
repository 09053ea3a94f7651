use Rattle.std.proofs.Common.{ap, take, ◌∙◌}
use Rattle.csv_wrap.specs.Wrapped.{Wrapped}
use Rattle.csv_wrap.proofs.WrapLaws.{wrapped_on}
use Rattle.csv_wrap.proofs.wrapper.Wrapper.fill.Goals as goal

pub returns-clause-wrapped : goal.returns-clause-wrapped
returns-clause-wrapped g c =
    let inside = c.self.inside in
    let old : Wrapped g.row.S.Denot = record { source = inside.source; ahead = inside.ahead; kept = take inside.kept inside.room.items; failed = inside.failed; accepted = inside.accepted } in
    let unfailed = ap (λ (w : Wrapped g.row.S.Denot). w.failed) c.self.view_is ∙ c.requires in
    wrapped_on g.S.Source old c.fill.new.self c.self.invariant.2 unfailed c.fill.ensures.keeps

pub invariant_of-self : goal.invariant_of-self
invariant_of-self g c = (
  c.self.invariant.0,
  c.self.invariant.1,
  (
      let inside = c.self.inside in
      let old : Wrapped g.row.S.Denot = record { source = inside.source; ahead = inside.ahead; kept = take inside.kept inside.room.items; failed = inside.failed; accepted = inside.accepted } in
      let unfailed = ap (λ (w : Wrapped g.row.S.Denot). w.failed) c.self.view_is ∙ c.requires in
      wrapped_on g.S.Source old c.fill.new.self c.self.invariant.2 unfailed c.fill.ensures.keeps),
)
