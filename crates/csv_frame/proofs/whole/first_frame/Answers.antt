use Rattle.std.proofs.Common.{◌+◌, ℕ, List, ◌∷◌, Some, [], ◌∙◌, ap, arith}
use Rattle.std.proofs.lemmas.List.{drop-drop, length-drop, take_rest}
use Rattle.csv_frame.specs.Frames.{frames}
use Rattle.csv_frame.specs.Holding.{held_of, span_bytes}
use Rattle.csv_frame.proofs.HoldLaws.{at_hand, long_given, now_given}
use Rattle.csv_frame.proofs.whole.first_frame.Goals as goal
use Rattle.std.proofs.Common.{refl, sym}

pub returns-in-Frame : goal.returns-in-Frame
returns-in-Frame c =
    let text = c.args.text.now in
    let ended = c.args.ended in
    let start = c.find_frame.new.cursor.start in
    let next = start + c.in-Frame.count in
    let new = held_of text start 0 ended in
    let peek = c.in-Frame.ensures.peek in
    let rest = drop-drop c.in-Frame.count start text ∙ sym (take_rest text next) in (
      at_hand (held_of text 0 0 ended) new c.in-Frame.span c.in-Frame.count peek.0 peek.1 refl
          ∙ ap (λ (bs : List ℕ). Some (span_bytes new c.in-Frame.span) ∷ frames bs ended) rest,
      rw take_rest (omega (arith, peek.1.some, peek.1.inside, length-drop start text, length-drop next text)),
    )

pub returns-in-TooLong : goal.returns-in-TooLong
returns-in-TooLong c =
    let peek = c.in-TooLong.ensures.peek in
    now_given (held_of c.args.text.now 0 0 c.args.ended) (held_of c.args.text.now c.find_frame.new.cursor.start 0 c.args.ended) [] peek.0 ∙ long_given _ c.args.ended peek.1.long

pub returns-in-NotWhole : goal.returns-in-NotWhole
returns-in-NotWhole c =
    let peek = c.in-NotWhole.ensures.peek in
    now_given (held_of c.args.text.now 0 0 c.args.ended) (held_of c.args.text.now c.find_frame.new.cursor.start 0 c.args.ended) [] peek.0 ∙ peek.1
