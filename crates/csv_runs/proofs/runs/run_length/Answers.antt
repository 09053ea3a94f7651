use Rattle.std.proofs.Common.{◌-◌, get_or, sym}
use Rattle.csv_runs.proofs.RunLaws.{run_splits, run_stops, stops_long, stops_nowhere}
use Rattle.csv_runs.proofs.runs.run_length.Goals as goal

pub returns-then-at-end-eq-LONGEST_FRAME-clause-splits : goal.returns-then-at-end-eq-LONGEST_FRAME-clause-splits
returns-then-at-end-eq-LONGEST_FRAME-clause-splits c = λ more ended. run_splits c.bytes.end c.args.bytes.now more ended c.bytes.invariant.run

pub returns-in-None-clause-splits : goal.returns-in-None-clause-splits
returns-in-None-clause-splits c = λ more ended. run_splits c.bytes.end c.args.bytes.now more ended c.bytes.invariant.run

pub returns-clause-splits : goal.returns-clause-splits
returns-clause-splits c = λ more ended. run_splits c.bytes.end c.args.bytes.now more ended c.bytes.invariant.run

pub returns-in-None-clause-longest : goal.returns-in-None-clause-longest
returns-in-None-clause-longest c = λ n short run.
    let l = c.bytes in
    run_stops l.at l.end n (l.at - l.end) l.mode c.args.bytes.now c.bytes-test.true l.invariant.goes_on
    (λ more. stops_nowhere (l.at - l.end) (get_or c.args.bytes.now l.at 0) l.mode more (sym c.if-ends_frame.ensures) (sym c.in-None.ensures))
    l.invariant.longest run

pub returns-then-at-end-eq-LONGEST_FRAME-clause-longest : goal.returns-then-at-end-eq-LONGEST_FRAME-clause-longest
returns-then-at-end-eq-LONGEST_FRAME-clause-longest c = λ n short run.
    let l = c.bytes in
    run_stops l.at l.end n (l.at - l.end) l.mode c.args.bytes.now c.bytes-test.true l.invariant.goes_on
    (λ more. stops_long (l.at - l.end) (get_or c.args.bytes.now l.at 0) l.mode more (sym c.if-ends_frame.ensures) c.if-at-end-eq-LONGEST_FRAME.true)
    l.invariant.longest run
