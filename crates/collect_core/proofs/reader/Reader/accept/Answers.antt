use Rattle.std.proofs.Common.{rules, ◌≡◌, Some, None, sym, subst, ◌∙◌}
use Rattle.med_base.specs.declared.member.MemberState.TheVariants as state
use Rattle.csv_wrap.specs.declared.wrapper.NextRow.TheVariants as next
use Rattle.collect_core.specs.Reading.{Reader}
use Rattle.collect_core.specs.Selecting.{selected_row}
use Rattle.collect_core.specs.Turning.{TakesNext}
use Rattle.collect_core.proofs.Pulling.{took_none, took_row, took_unselected}
use Rattle.collect_core.proofs.reader.Reader.accept.Goals as goal

pub returns-in-Ok-Some : goal.returns-in-Ok-Some
returns-in-Ok-Some g c =
    let in' = c.self-2.inside in
    let mid : Reader g.row.S.Denot = record { wrapper = in'.wrapper; waiting = in'.waiting; accepted = in'.accepted; state = in'.state; fault = in'.fault; waited = in'.waited } in
    let active : c.args.self.now.state ≡ state.Active = search rules in
    let takes : TakesNext g.S.Source c.args.self.now mid (next.Row c.in-Row.row) = subst (λ r. TakesNext g.S.Source c.args.self.now r (next.Row c.in-Row.row)) (sym c.self-2.view_is) c.in-Row.ensures in
    let selected : selected_row c.args.selection.now c.in-Row.row ≡ Some c.in-Ok-Some.values = sym c.in-Ok-Some.ensures.selected ∙ c.in-Ok-Some.field-0-is in
    let took = took_row g.S.Source c.args.self.now mid c.in-Row.row c.requires.reader active takes c.args.selection.now c.in-Ok-Some.values selected in
    record { reader = took.reader; reads = took.reads; columns = took.columns; source = took.same; falls = took.falls }

pub returns-in-Ok-None : goal.returns-in-Ok-None
returns-in-Ok-None g c =
    let in' = c.self-2.inside in
    let mid : Reader g.row.S.Denot = record { wrapper = in'.wrapper; waiting = in'.waiting; accepted = in'.accepted; state = in'.state; fault = in'.fault; waited = in'.waited } in
    let active : c.args.self.now.state ≡ state.Active = search rules in
    let takes : TakesNext g.S.Source c.args.self.now mid (next.Row c.in-Row.row) = subst (λ r. TakesNext g.S.Source c.args.self.now r (next.Row c.in-Row.row)) (sym c.self-2.view_is) c.in-Row.ensures in
    let selected : selected_row c.args.selection.now c.in-Row.row ≡ None = sym c.in-Ok-None.ensures.selected ∙ c.in-Ok-None.field-0-is in
    let took = took_unselected g.S.Source c.args.self.now mid c.in-Row.row c.requires.reader active takes c.args.selection.now selected in
    record { reader = took.reader; reads = took.reads; columns = took.columns; source = took.same; falls = took.falls }

pub returns-in-Nothing : goal.returns-in-Nothing
returns-in-Nothing g c =
    let active : c.args.self.now.state ≡ state.Active = search rules in
    let took = took_none g.S.Source c.args.self.now c.next.new.self c.requires.reader active c.in-Nothing.ensures c.args.selection.now in
    record { reader = took.reader; reads = took.reads; columns = took.columns; source = took.same; falls = took.falls }
