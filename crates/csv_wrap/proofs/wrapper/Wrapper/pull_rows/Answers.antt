use Rattle.std.proofs.Common.{sym, ap, ◌∙◌, refl}
use Rattle.csv_wrap.specs.Wrapped.{Wrapped}
use Rattle.csv_wrap.proofs.WrapLaws.{accepted_as, end_of_pull, end_pulled, later_fault, read_fault, sound_active, unfailed}
use Rattle.csv_wrap.proofs.wrapper.Wrapper.pull_rows.Goals as goal

pub returns-in-Some-clause-answer : goal.returns-in-Some-clause-answer
returns-in-Some-clause-answer g c = later_fault g.S.Source c.args.self.now c.args.self.now c.in-Some.fault c.fault.ensures.wrapped refl (sym c.fault.ensures.fault ∙ c.in-Some.is)

pub returns-in-Some-clause-sound : goal.returns-in-Some-clause-sound
returns-in-Some-clause-sound g c = sound_active g.S.Source c.args.self.now c.fault.ensures.wrapped

pub returns-then-is_finished-clause-sound : goal.returns-then-is_finished-clause-sound
returns-then-is_finished-clause-sound g c = sound_active g.S.Source c.at_end.new.self c.at_end.ensures.wrapped

pub returns-in-NotYet-clause-sound : goal.returns-in-NotYet-clause-sound
returns-in-NotYet-clause-sound g c = sound_active g.S.Source c.take_piece.new.self c.take_piece.ensures.wrapped

pub returns-in-Failed-clause-answer : goal.returns-in-Failed-clause-answer
returns-in-Failed-clause-answer g c =
    let came = c.in-Failed.ensures.came in
    read_fault g.S.Source c.args.self.now c.take_piece.new.self c.take_piece.ensures.wrapped (ap (λ (w : Wrapped g.row.S.Denot). w.failed) came.1) came.0

pub returns-in-Failed-clause-sound : goal.returns-in-Failed-clause-sound
returns-in-Failed-clause-sound g c = sound_active g.S.Source c.take_piece.new.self c.take_piece.ensures.wrapped

pub returns-in-End-clause-sound : goal.returns-in-End-clause-sound
returns-in-End-clause-sound g c = sound_active g.S.Source c.at_end-in-End.new.self c.at_end-in-End.ensures.wrapped

pub returns-in-Ok-clause-sound : goal.returns-in-Ok-clause-sound
returns-in-Ok-clause-sound g c = sound_active g.S.Source c.feed_kept.new.self c.feed_kept.ensures.wrapped

pub returns-in-Err-clause-sound : goal.returns-in-Err-clause-sound
returns-in-Err-clause-sound g c = sound_active g.S.Source c.feed_kept.new.self c.feed_kept.ensures.wrapped

pub returns-then-is_finished-clause-answer : goal.returns-then-is_finished-clause-answer
returns-then-is_finished-clause-answer g c =
    let unfaulted = unfailed c.args.self.now (sym c.fault.ensures.fault ∙ c.in_default.is) in
    end_pulled g.S.Source c.args.self.now c.at_end.new.self c.at_end.result c.at_end.ensures.wrapped unfaulted c.at_end.ensures.end

pub returns-in-End-clause-answer : goal.returns-in-End-clause-answer
returns-in-End-clause-answer g c =
    let unfaulted = unfailed c.args.self.now (sym c.fault.ensures.fault ∙ c.in_default.is) in
    end_pulled g.S.Source c.args.self.now c.at_end-in-End.new.self c.at_end-in-End.result c.at_end-in-End.ensures.wrapped unfaulted c.at_end-in-End.ensures.end

pub returns-in-Some-clause-accepted : goal.returns-in-Some-clause-accepted
returns-in-Some-clause-accepted g c = accepted_as g.S.Source c.args.self.now c.fault.ensures.wrapped

pub returns-then-is_finished-clause-accepted : goal.returns-then-is_finished-clause-accepted
returns-then-is_finished-clause-accepted g c = accepted_as g.S.Source c.at_end.new.self c.at_end.ensures.wrapped

pub returns-in-NotYet-clause-accepted : goal.returns-in-NotYet-clause-accepted
returns-in-NotYet-clause-accepted g c = accepted_as g.S.Source c.take_piece.new.self c.take_piece.ensures.wrapped

pub returns-in-Failed-clause-accepted : goal.returns-in-Failed-clause-accepted
returns-in-Failed-clause-accepted g c = accepted_as g.S.Source c.take_piece.new.self c.take_piece.ensures.wrapped

pub returns-in-End-clause-accepted : goal.returns-in-End-clause-accepted
returns-in-End-clause-accepted g c = accepted_as g.S.Source c.at_end-in-End.new.self c.at_end-in-End.ensures.wrapped

pub returns-in-Ok-clause-accepted : goal.returns-in-Ok-clause-accepted
returns-in-Ok-clause-accepted g c = accepted_as g.S.Source c.feed_kept.new.self c.feed_kept.ensures.wrapped

pub returns-in-Err-clause-accepted : goal.returns-in-Err-clause-accepted
returns-in-Err-clause-accepted g c = accepted_as g.S.Source c.feed_kept.new.self c.feed_kept.ensures.wrapped

pub returns-in-End-clause-one_pull : goal.returns-in-End-clause-one_pull
returns-in-End-clause-one_pull g c asks =
    let source = ap (λ (w : Wrapped g.row.S.Denot). w.source) c.at_end-in-End.ensures.same in
    end_of_pull g.S.Source c.args.self.now.source c.take_piece.new.self.source c.at_end-in-End.new.self c.take_piece.new.self.kept c.at_end-in-End.result source c.in-End.ensures.pulled c.at_end-in-End.ensures.end
