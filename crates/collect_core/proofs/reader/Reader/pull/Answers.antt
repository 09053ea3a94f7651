use Rattle.std.proofs.Common.{◌≡◌, None, refl, ap, subst, ◌∙◌}
use Rattle.med_base.specs.declared.member.MemberState.TheVariants as state
use Rattle.csv_wrap.specs.declared.wrapper.Pulled.TheVariants as pulled
use Rattle.collect_core.specs.Reading.{Reader}
use Rattle.collect_core.specs.Turning.{PulledBy}
use Rattle.collect_core.proofs.Pulling.{pulled_from}
use Rattle.collect_core.proofs.reader.Reader.pull.Goals as goal

pub returns-in-Moved : goal.returns-in-Moved
returns-in-Moved g c =
    let in' = c.self.inside in
    let e = c.in-Moved.ensures in
    let old : Reader g.row.S.Denot = record { wrapper = in'.wrapper; waiting = in'.waiting; accepted = in'.accepted; state = in'.state; fault = in'.fault; waited = in'.waited } in
    let new : Reader g.row.S.Denot = record old { wrapper = c.pull_rows.new.self } in
    let active : in'.state ≡ state.Active = ap (λ (r : Reader g.row.S.Denot). r.state) c.self.view_is ∙ c.requires.active in
    let unfaulted : in'.fault ≡ None = ap (λ (r : Reader g.row.S.Denot). r.fault) c.self.view_is ∙ c.requires.fault in
    let none : in'.waiting ≡ None = ap (λ (r : Reader g.row.S.Denot). r.waiting) c.self.view_is ∙ c.requires.waits in (
      pulled.Moved,
      subst (λ r. PulledBy g.S.Source r new pulled.Moved) c.self.view_is
          (pulled_from g.S.Source old new pulled.Moved none refl active unfaulted refl e.source e.columns e.gave e.answer e.one_pull e.no_pull e.waits e.moved e.given e.accepted e.last e.sound),
      refl,
    )
