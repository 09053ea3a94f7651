use Rattle.std.proofs.Common.{◌∙◌, ap, Some, inr, refl}
use Rattle.csv_runs.proofs.ReaderLaws.{starts_frames, starts_run}
use Rattle.csv_runs.proofs.RunLaws.{run_unmarked}
use Rattle.csv_runs.proofs.run_reader.RunReader.new.Goals as goal

pub returns : goal.returns
returns c = starts_frames c.from_reader.result c.args.run.now (c.from_reader.ensures.source ∙ ap Some (run_unmarked c.args.run.now c.requires)) c.from_reader.ensures.state

pub invariant_of-result : goal.invariant_of-result
invariant_of-result c goes =
    let made = c.from_reader.ensures in
    let set = c.flexible.ensures in
    let named = c.has_headers.ensures in
    starts_run c.from_reader.result c.args.run.now (made.source ∙ ap Some (run_unmarked c.args.run.now c.requires)) c.requires
    (made.config ∙ rw (set, named) c.new.ensures.config)
    (made.trim ∙ rw (set, named) c.new.ensures.trim)
    (inr (inr (made.has_headers ∙ rw (set, named) refl, made.headers)))
    (made.flexible ∙ rw set refl)
    made.state
