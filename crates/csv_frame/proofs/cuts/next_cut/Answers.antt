use Rattle.csv_frame.proofs.CutLaws.{cut_open}
use Rattle.csv_frame.proofs.cuts.next_cut.Goals as goal

pub returns-then-not-ended-clause-cut : goal.returns-then-not-ended-clause-cut
returns-then-not-ended-clause-cut c = cut_open _ _ _ _ c.in-All.ensures.found c.scan_on.ensures.scan.same c.if-not-ended.true
