use Rattle.std.proofs.Common.{sym, ap, ◌∙◌, refl}
use Rattle.csv_wrap.specs.Wrapped.{Wrapped}
use Rattle.csv_wrap.proofs.AheadLaws.{none_read}
use Rattle.csv_wrap.proofs.WrapLaws.{accepted_as, later_fault, sound_active}
use Rattle.csv_wrap.proofs.wrapper.Wrapper.next_row.Goals as goal

pub returns-in-Some-clause-answer : goal.returns-in-Some-clause-answer
returns-in-Some-clause-answer g c = later_fault g.S.Source c.args.self.now c.args.self.now c.in-Some.fault c.fault.ensures.wrapped refl (sym c.fault.ensures.fault ∙ c.in-Some.is)

pub returns-in-Some-clause-sound : goal.returns-in-Some-clause-sound
returns-in-Some-clause-sound g c = sound_active g.S.Source c.args.self.now c.fault.ensures.wrapped

pub returns-in-Err-clause-sound : goal.returns-in-Err-clause-sound
returns-in-Err-clause-sound g c = sound_active g.S.Source c.fill.new.self c.fill.ensures.wrapped

pub returns-in-Some-give-clause-sound : goal.returns-in-Some-give-clause-sound
returns-in-Some-give-clause-sound g c = sound_active g.S.Source c.give.new.self c.give.ensures.wrapped

pub returns-in-Some-fault-clause-answer : goal.returns-in-Some-fault-clause-answer
returns-in-Some-fault-clause-answer g c =
    let failed = λ (w : Wrapped g.row.S.Denot). w.failed in
    later_fault g.S.Source c.args.self.now c.give.new.self c.in-Some-fault.fault c.give.ensures.wrapped (ap failed c.give.ensures.same ∙ ap failed c.fill.ensures.same) (sym c.fault-2.ensures.fault ∙ c.in-Some-fault.is)

pub returns-in-Some-fault-clause-sound : goal.returns-in-Some-fault-clause-sound
returns-in-Some-fault-clause-sound g c = sound_active g.S.Source c.give.new.self c.give.ensures.wrapped

pub returns-in-None-clause-sound : goal.returns-in-None-clause-sound
returns-in-None-clause-sound g c = sound_active g.S.Source c.give.new.self c.give.ensures.wrapped

pub returns-in-Some-give-clause-answer : goal.returns-in-Some-give-clause-answer
returns-in-Some-give-clause-answer g c =
    (c.give.ensures.few, λ h. let rows = sym (none_read c.args.self.now.ahead c.fill.new.self.ahead c.fill.ensures.keeps h) ∙ c.in-Some-give.ensures.rows in cc)

pub returns-in-Some-clause-accepted : goal.returns-in-Some-clause-accepted
returns-in-Some-clause-accepted g c = accepted_as g.S.Source c.args.self.now c.fault.ensures.wrapped

pub returns-in-Err-clause-accepted : goal.returns-in-Err-clause-accepted
returns-in-Err-clause-accepted g c = accepted_as g.S.Source c.fill.new.self c.fill.ensures.wrapped

pub returns-in-Some-give-clause-accepted : goal.returns-in-Some-give-clause-accepted
returns-in-Some-give-clause-accepted g c = accepted_as g.S.Source c.give.new.self c.give.ensures.wrapped

pub returns-in-Some-fault-clause-accepted : goal.returns-in-Some-fault-clause-accepted
returns-in-Some-fault-clause-accepted g c = accepted_as g.S.Source c.give.new.self c.give.ensures.wrapped

pub returns-in-None-clause-accepted : goal.returns-in-None-clause-accepted
returns-in-None-clause-accepted g c = accepted_as g.S.Source c.give.new.self c.give.ensures.wrapped
