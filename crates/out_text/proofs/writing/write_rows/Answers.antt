use Rattle.std.proofs.Common.{◌≡◌, ◌++◌, ◌∙◌, [], append-nil, ap, sym, take, drop, length}
use Rattle.med_prelude.specs.Texts.{told_with}
use Rattle.tuple_core.specs.RowText.{rows_text}
use Rattle.out_text.proofs.RowTextLaws.{rows_text_split}
use Rattle.out_text.proofs.WritingLaws.{on_any_error, prefix_more, written_before}
use Rattle.out_text.proofs.writing.write_rows.Goals as goal

pub returns-in_err-text-clause-err : goal.returns-in_err-text-clause-err
returns-in_err-text-clause-err g c = on_any_error _ (written_before _ _ _ _ _ c.pieces.invariant.written (rows_text_split c.args.rows.now c.pieces.next))

pub returns-in_err-write_all-clause-err : goal.returns-in_err-write_all-clause-err
returns-in_err-write_all-clause-err g c =
    let rows = c.args.rows.now in
    let err = c.in_err-write_all.ensures.err in
    let more = err.1 ∙ ap (λ piece. told_with (g.W.Sink.written c.pieces.out) (take err.0 piece)) c.as_slice.ensures.value in
    on_any_error _ (prefix_more _ _ _ (rows_text (take c.pieces.next rows)) c.in_ok-text.text.items (rows_text (drop c.in_ok-text.after rows)) (rows_text rows) err.0 c.pieces.invariant.written more
    (rows_text_split rows c.in_ok-text.after ∙ ap (λ text. text ++ rows_text (drop c.in_ok-text.after rows)) (sym c.in_ok-text.ensures.text)))
