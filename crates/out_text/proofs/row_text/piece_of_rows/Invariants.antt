use Rattle.std.proofs.Common.{◌≡◌, ◌≤◌, ◌<◌, ◌-◌, ◌++◌, take, length, Some, false}
use Rattle.std.proofs.Common.{Vec, Global, ℕ, option_map}
use Rattle.csv.specs.Writing.{fields_written, has_written, text_written, writer_setup}
use Rattle.tuple_core.specs.RowText.{rows_text}
use Rattle.out_text.proofs.RowTextLaws.{flexible_writer}
use Rattle.out_text.proofs.row_text.piece_of_rows.Given as goal

abbrev pub invariant-rows : goal.invariant-rows
invariant-rows l = record {
  begun : l.from ≤ l.next;
  within : l.next ≤ length l.rows;
  text : option_map (λ text. rows_text (take l.from l.rows) ++ text) (text_written (λ (v : Vec ℕ Global). Some v.items) l.writer) ≡ Some (rows_text (take l.next l.rows));
  fields : fields_written l.writer ≡ 0;
  wrote : has_written l.writer ≡ false;
  setup : writer_setup l.writer ≡ flexible_writer;
}

abbrev pub decreases-rows : goal.decreases-rows
decreases-rows l = length l.rows - l.next
