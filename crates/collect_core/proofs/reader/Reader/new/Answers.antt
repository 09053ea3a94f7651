use Rattle.std.proofs.Common.{None, refl}
use Rattle.med_base.specs.declared.member.MemberState.TheVariants as state
use Rattle.collect_core.proofs.Taking.{fresh_reader}
use Rattle.collect_core.proofs.reader.Reader.new.Goals as goal

pub returns : goal.returns
returns g c =
    let e = c.in_ok-wrapper.ensures in
    fresh_reader g.S.Source c.args.columns.now c.args.source (record { wrapper = c.in_ok-wrapper.wrapper; waiting = None; accepted = 0; state = state.Active; fault = None; waited = 0 })
    e.source e.columns e.accepted e.gave refl refl refl refl refl
