use Rattle.std.proofs.Common.{◌-◌, ◌+◌, ◌∙◌, [], ap, arith, drop, length, refl, sym, take, ◌≤◌}
use Rattle.std.proofs.lemmas.List.{length-drop, take_rest}
use Rattle.csv_frame.specs.Frames.{is_blank}
use Rattle.csv_frame.specs.Holding.{held_of}
use Rattle.csv_frame.proofs.FindLaws.{frame_found, frame_skipped, long_found, none_found}
use Rattle.csv_frame.proofs.HoldLaws.{gives_on, long_on}
use Rattle.csv_frame.proofs.find.find_frame.Goals as goal

pub returns-then-not-is_blank-clause-peek : goal.returns-then-not-is_blank-clause-peek
returns-then-not-is_blank-clause-peek c =
    let bytes = c.args.bytes.now in
    let start = c.cuts.cursor.start in
    let m = c.marks_end-marks.ensures in
    let frame = take c.in-Whole.end (take (length bytes - start) (drop start bytes)) in
    let shown = sym (ap is_blank (take_rest frame c.marks_end-marks.result)) ∙ sym c.is_blank.ensures ∙ c.if-not-is_blank.true in
    (c.cuts.invariant.gives, frame_found bytes _ frame start c.args.before c.args.ended _ _ _ (take_rest bytes start) refl c.cuts.invariant.cursor.within c.in-Whole.ensures.cut m.within m.rest shown)

pub returns-in-TooLong-clause-peek : goal.returns-in-TooLong-clause-peek
returns-in-TooLong-clause-peek c =
    let rest = take_rest c.args.bytes.now c.cuts.cursor.start in
    (c.cuts.invariant.gives, record { offset = refl; long = long_found _ _ rest c.in-TooLong.ensures.cut })

pub returns-in-Nothing-clause-peek : goal.returns-in-Nothing-clause-peek
returns-in-Nothing-clause-peek c =
    let rest = take_rest c.args.bytes.now c.cuts.cursor.start in
    (c.cuts.invariant.gives, none_found _ _ c.args.ended rest c.in-Nothing.ensures.cut)

pub cuts-preserved : goal.cuts-preserved
cuts-preserved c =
    let bytes = c.args.bytes.now in
    let start = c.cuts.cursor.start in
    let next = c.in-Whole.next in
    let m = c.marks_end-marks.ensures in
    let frame = take c.in-Whole.end (take (length bytes - start) (drop start bytes)) in
    let blank = sym (ap is_blank (take_rest frame c.marks_end-marks.result)) ∙ sym c.is_blank.ensures ∙ c.if-not-is_blank.false in
    let first = held_of bytes c.args.cursor.now.start c.args.before c.args.ended in
    let old = held_of bytes start c.args.before c.args.ended in
    let new = held_of bytes (start + next) c.args.before c.args.ended in
    let skipped = frame_skipped bytes _ frame start c.args.before c.args.ended next _ _ (take_rest bytes start) refl c.in-Whole.ensures.cut m.rest blank in
    let inside : start + next ≤ length bytes = omega (arith, c.in-Whole.ensures.cut.inside, ap length (take_rest bytes start), length-drop start bytes) in
    record {
      cursor = record { within = inside; scanned = record { within = omega arith; short = omega arith; same = λ more ended. refl } };
      forward = omega arith;
      gives = gives_on first old new [] [] c.cuts.invariant.gives skipped.0 refl;
      long = long_on first old new c.cuts.invariant.long skipped.1 refl;
    }
