use Rattle.std.proofs.Common.{sym, ◌∙◌, ap}
use Rattle.std.proofs.lemmas.List.{take_rest}
use Rattle.csv_frame.specs.Marks.{begins_with_mark}
use Rattle.csv_frame.proofs.MarkLaws.{mark_dropped, unmarked}
use Rattle.csv_frame.proofs.marks.marks_end.Goals as goal

pub marks-preserved : goal.marks-preserved
marks-preserved c =
    let here = ap begins_with_mark (take_rest c.args.frame.now c.marks.end) in
    let next = mark_dropped _ _ c.marks.invariant.within (sym here ∙ sym c.begins_with_mark.ensures ∙ c.marks-test.true) in
    record { within = next.0; same = next.1 ∙ c.marks.invariant.same }

pub returns-clause-rest : goal.returns-clause-rest
returns-clause-rest c =
    let here = ap begins_with_mark (take_rest c.args.frame.now c.marks.end) in
    sym (unmarked _ (sym here ∙ sym c.begins_with_mark.ensures ∙ c.marks-test.false)) ∙ c.marks.invariant.same
