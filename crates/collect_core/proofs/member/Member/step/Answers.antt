use Rattle.std.proofs.Common.{Some, subst}
use Rattle.collect_core.specs.Members.{Member}
use Rattle.collect_core.specs.Steps.{StepsMember}
use Rattle.collect_core.specs.declared.reader.Collected.TheVariants as collected
use Rattle.collect_core.proofs.Gathering.{member_idle, member_steps}
use Rattle.collect_core.proofs.member.Member.step.Goals as goal
use Rattle.collect_core.proofs.member.Member.step.Goals.{in-Some, in-None}

pub returns-clause-steps : goal.returns-clause-steps
returns-clause-steps g c =
    let in' = c.self.inside in
    let old : Member g.row.S.Denot = record { name = in'.name; location = in'.location; opening_failed = in'.opening_failed; reader = in'.reader } in
    elim c.match-self.branch [
      | in-Some w ↦ rw (w.self-inside-is, w.result-is)
          (subst (λ o. StepsMember g.S.Source c.args.selection.now o (record old { reader = Some w.step.new.self }) w.step.result) c.self.view_is
          (member_steps g.S.Source c.args.selection.now old w.in-Some.reader w.step.new.self w.step.result w.in-Some.is w.step.ensures.source w.step.ensures.reads))
      | in-None w ↦ rw (w.self-inside-is, w.result-is)
          (subst (λ o. StepsMember g.S.Source c.args.selection.now o old collected.Still) c.self.view_is
          (member_idle g.S.Source c.args.selection.now old w.in-None.is))
    ]
