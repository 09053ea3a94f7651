use Rattle.std.proofs.Common.{◌+◌, [], ◌∷◌, Some, arith, sym, ap, ◌∙◌}
use Rattle.csv_frame.specs.Frames.{frames}
use Rattle.csv_wrap.specs.Readings.{rows_then, read_frames, read_then, source_reading}
use Rattle.csv_wrap.proofs.RowLaws.{before_twice, before_fault, frame_read_on}
use Rattle.csv_wrap.proofs.reading.read_rows.Goals as goal
use Rattle.csv_wrap.proofs.reading.read_rows.Goals.{in-Header, in-Row+in_ok-push-in-Row}

pub returns-in-Bad : goal.returns-in-Bad
returns-in-Bad c =
    let front = c.loop-frame.rows.items in
    let columns = c.as_slice-columns.result.now in
    let after = read_frames (c.loop-frame.number + 1) columns (frames c.in-Frame.after.now c.args.ended) c.args.ended in
    let step = frame_read_on front c.loop-frame.number columns c.in-Frame.frame.now _ _ c.args.ended _ c.in-Frame.ensures.0 c.in_ok-read_frame-in-Frame.ensures in
    let is_bad = ap (λ r. rows_then front (read_then r after)) c.in-Bad.is in
    c.bad.ensures ∙ sym (before_fault front (Some c.in-Bad.fault)) ∙ sym is_bad ∙ sym step ∙ c.loop-frame.invariant.same ∙ ap (λ cs. source_reading cs c.args.bytes.now c.args.ended) c.as_slice-columns.ensures

pub loop-frame-preserved : goal.loop-frame-preserved
loop-frame-preserved c =
    let front = c.loop-frame.rows.items in
    let columns = c.as_slice-columns.result.now in
    let after = read_frames (c.loop-frame.number + 1) columns (frames c.in-Frame.after.now c.args.ended) c.args.ended in
    let step = frame_read_on front c.loop-frame.number columns c.in-Frame.frame.now _ _ c.args.ended _ c.in-Frame.ensures.0 c.in_ok-read_frame-in-Frame.ensures in
    record {
      same = elim c.match-branch-2.branch [
        | in-Header w ↦ rw w.rows-is (sym (ap (λ r. rows_then front (read_then r after)) w.in-Header.is) ∙ sym step ∙ c.loop-frame.invariant.same)
        | in-Row+in_ok-push-in-Row w ↦ rw (w.rows-is, w.in_ok-push-in-Row.ensures.items) (sym (before_twice front (w.in-Row.row ∷ []) after) ∙ sym (ap (λ r. rows_then front (read_then r after)) w.in-Row.is) ∙ sym step ∙ c.loop-frame.invariant.same)
      ];
      fits = omega (arith, c.in-Frame.ensures.1);
    }
