use Rattle.csv_frame.proofs.HoldLaws.{passed}
use Rattle.csv_frame.proofs.framer.Framer.next_frame.Goals as goal

pub returns-in-Frame-clause-step : goal.returns-in-Frame-clause-step
returns-in-Frame-clause-step c =
    let peek = c.in-Frame.ensures in
    passed c.args.self.now c.peek.new.self c.skip.new.self c.in-Frame.span c.in-Frame.count peek.peek.0 peek.peek.1 peek.ended peek.at peek.forward c.skip.ensures.bytes c.skip.ensures.rest
