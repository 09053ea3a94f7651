use Rattle.std.proofs.Common.{◌≡◌, ◌≢◌, ◌<◌, ◌∙◌, None, sym, refl, arith, take, length}
use Rattle.std.proofs.lemmas.Option.{get_or_from_slice_get, slice_get-get_or}
use Rattle.csv.specs.declared.writer.QuoteStyle.TheVariants as style
use Rattle.tuple_core.specs.RowText.{rows_text}
use Rattle.out_text.proofs.RowTextLaws.{line_alike, row_appended, all_appended}
use Rattle.out_text.proofs.row_text.piece_of_rows.Goals as goal

pub rows-preserved : goal.rows-preserved
rows-preserved c =
    let here = c.rows.invariant in
    let plain : c.rows.writer.cfg.style ≢ style.NonNumeric = rw here.setup (λ e. cc e) in
    let text = c.in-Ok.ensures.bytes here.fields here.wrote plain in
    record {
      begun = let b = here.begun in omega arith;
      within = omega arith;
      text = row_appended (rows_text (take c.args.from c.args.rows.now)) _ _ _ c.args.rows.now c.rows.next c.in-Some.row here.text text
          (line_alike _ _ _ (rw here.setup refl) c.in_ok-fill_record.ensures) (omega arith) (sym (get_or_from_slice_get c.args.rows.now c.rows.next c.in-Some.row c.in-Some.row (sym c.in-Some.ensures)));
      fields = c.in-Ok.ensures.ended;
      wrote = c.in-Ok.ensures.clean;
      setup = c.in-Ok.ensures.setup ∙ here.setup;
    }
