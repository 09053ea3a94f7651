use Rattle.std.proofs.Common.{◌∙◌, [], ap, subst}
use Rattle.csv_frame.specs.Holding.{GivesFrames}
use Rattle.csv_wrap.specs.Ahead.{Ahead}
use Rattle.csv_wrap.proofs.AheadLaws.{hand_held, long_held, none_stays}
use Rattle.csv_wrap.proofs.ahead.ReadAhead.at_end.Goals as goal

pub returns-in-Frame-clause-end : goal.returns-in-Frame-clause-end
returns-in-Frame-clause-end c = (
  ap (λ (a : Ahead). a.rows) c.self.view_is ∙ c.requires.rows,
  ap (λ (a : Ahead). a.bad) c.self.view_is ∙ c.requires.good,
  λ h. hand_held c.peek.new.self c.in-Frame.span c.in-Frame.count c.in-Frame.ensures.peek.1 h.frames,
  λ h. hand_held c.peek.new.self c.in-Frame.span c.in-Frame.count c.in-Frame.ensures.peek.1 h,
)

pub returns-in-TooLong-clause-end : goal.returns-in-TooLong-clause-end
returns-in-TooLong-clause-end c = (
  ap (λ (a : Ahead). a.rows) c.self.view_is ∙ c.requires.rows,
  ap (λ (a : Ahead). a.bad) c.self.view_is ∙ c.requires.good,
  λ h. long_held c.peek.new.self c.in-TooLong.ensures.peek.1.long h.frames,
  λ h. long_held c.peek.new.self c.in-TooLong.ensures.peek.1.long h,
)

pub returns-in-Frame-clause-held : goal.returns-in-Frame-clause-held
returns-in-Frame-clause-held c = λ held none.
    let gives = subst (λ h. GivesFrames h [] c.peek.new.self) (ap (λ (a : Ahead). a.framed) c.self.view_is) c.in-Frame.ensures.peek.0 in
    let ended = c.in-Frame.ensures.ended ∙ ap (λ (a : Ahead). a.framed.ended) c.self.view_is in
    hand_held c.peek.new.self c.in-Frame.span c.in-Frame.count c.in-Frame.ensures.peek.1 (none_stays c.args.self.now.framed c.peek.new.self gives ended none)

pub returns-in-TooLong-clause-held : goal.returns-in-TooLong-clause-held
returns-in-TooLong-clause-held c = λ held none.
    let gives = subst (λ h. GivesFrames h [] c.peek.new.self) (ap (λ (a : Ahead). a.framed) c.self.view_is) c.in-TooLong.ensures.peek.0 in
    let ended = c.in-TooLong.ensures.ended ∙ ap (λ (a : Ahead). a.framed.ended) c.self.view_is in
    long_held c.peek.new.self c.in-TooLong.ensures.peek.1.long (none_stays c.args.self.now.framed c.peek.new.self gives ended none)
