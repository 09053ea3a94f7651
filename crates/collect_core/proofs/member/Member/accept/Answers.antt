use Rattle.std.proofs.Common.{Some, subst}
use Rattle.collect_core.specs.Members.{Member}
use Rattle.collect_core.specs.Steps.{AcceptsHeld}
use Rattle.collect_core.specs.declared.reader.Collected.TheVariants as collected
use Rattle.collect_core.proofs.Gathering.{member_accepts, member_unheld}
use Rattle.collect_core.proofs.member.Member.accept.Goals as goal
use Rattle.collect_core.proofs.member.Member.accept.Goals.{in-Some, in-None}

pub returns-clause-steps : goal.returns-clause-steps
returns-clause-steps g c =
    let in' = c.self.inside in
    let old : Member g.row.S.Denot = record { name = in'.name; location = in'.location; opening_failed = in'.opening_failed; reader = in'.reader } in
    elim c.match-self.branch [
      | in-Some w ↦ rw (w.self-inside-is, w.result-is)
          (subst (λ o. AcceptsHeld g.S.Source c.args.selection.now o (record old { reader = Some w.accept.new.self }) w.accept.result) c.self.view_is
          (member_accepts g.S.Source c.args.selection.now old w.in-Some.reader w.accept.new.self w.accept.result w.in-Some.is w.accept.ensures.source w.accept.ensures.reads))
      | in-None w ↦ rw (w.self-inside-is, w.result-is)
          (subst (λ o. AcceptsHeld g.S.Source c.args.selection.now o old collected.Still) c.self.view_is
          (member_unheld g.S.Source c.args.selection.now old w.in-None.is))
    ]
