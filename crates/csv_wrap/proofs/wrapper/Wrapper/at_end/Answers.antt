use Rattle.std.proofs.Common.{ap, take, ◌∙◌}
use Rattle.csv_wrap.specs.Wrapped.{Wrapped}
use Rattle.csv_wrap.proofs.WrapLaws.{bad_fault, no_fault, wrapped_on}
use Rattle.csv_wrap.proofs.wrapper.Wrapper.at_end.Goals as goal

pub returns-in-Held-clause-end : goal.returns-in-Held-clause-end
returns-in-Held-clause-end g c =
    let told = c.at_end.ensures.keeps.ended ∙ ap (λ (w : Wrapped g.row.S.Denot). w.ahead.framed.ended) c.self.view_is ∙ c.requires.told in
    let failed = ap (λ (w : Wrapped g.row.S.Denot). w.failed) c.self.view_is ∙ c.requires.failed in
    let end = c.in-Held.ensures.end in
    (told, end.2, no_fault _ _ _ failed end.0 end.1, end.3)

pub returns-in-Clean-clause-end : goal.returns-in-Clean-clause-end
returns-in-Clean-clause-end g c =
    let told = c.at_end.ensures.keeps.ended ∙ ap (λ (w : Wrapped g.row.S.Denot). w.ahead.framed.ended) c.self.view_is ∙ c.requires.told in
    let failed = ap (λ (w : Wrapped g.row.S.Denot). w.failed) c.self.view_is ∙ c.requires.failed in
    let end = c.in-Clean.ensures.end in
    (told, end.0, no_fault _ _ _ failed end.0.rows end.0.bad, end.1)

pub returns-in-Bad-clause-end : goal.returns-in-Bad-clause-end
returns-in-Bad-clause-end g c =
    let failed = ap (λ (w : Wrapped g.row.S.Denot). w.failed) c.self.view_is ∙ c.requires.failed in
    let end = c.in-Bad.ensures.end in
    (bad_fault _ _ _ _ failed end.0 end.1, failed)

pub returns-in-Bad-clause-wrapped : goal.returns-in-Bad-clause-wrapped
returns-in-Bad-clause-wrapped g c =
    let inside = c.self.inside in
    let old : Wrapped g.row.S.Denot = record { source = inside.source; ahead = inside.ahead; kept = take inside.kept inside.room.items; failed = inside.failed; accepted = inside.accepted } in
    let unfailed = ap (λ (w : Wrapped g.row.S.Denot). w.failed) c.self.view_is ∙ c.requires.failed in
    wrapped_on g.S.Source old c.at_end.new.self c.self.invariant.2 unfailed c.at_end.ensures.keeps

pub invariant_of-self-in-Bad : goal.invariant_of-self-in-Bad
invariant_of-self-in-Bad g c = (
  c.self.invariant.0,
  c.self.invariant.1,
  (
      let inside = c.self.inside in
      let old : Wrapped g.row.S.Denot = record { source = inside.source; ahead = inside.ahead; kept = take inside.kept inside.room.items; failed = inside.failed; accepted = inside.accepted } in
      let unfailed = ap (λ (w : Wrapped g.row.S.Denot). w.failed) c.self.view_is ∙ c.requires.failed in
      wrapped_on g.S.Source old c.at_end.new.self c.self.invariant.2 unfailed c.at_end.ensures.keeps),
)
