use Rattle.std.proofs.Common.{◌≡◌, ◌≤◌, ◌-◌, length, take}
use Rattle.med_prelude.specs.Texts.{told_with}
use Rattle.tuple_core.specs.RowText.{rows_text}
use Rattle.out_text.proofs.writing.write_rows.Given as goal

abbrev pub invariant-pieces : goal.invariant-pieces
invariant-pieces g l = record {
  within : l.next ≤ length l.rows;
  written : g.W.Sink.written l.out ≡ told_with (g.W.Sink.written l.fn.out) (rows_text (take l.next l.rows));
  faults : g.W.Sink.faults l.fn.out ≤ g.W.Sink.faults l.out;
}

abbrev pub decreases-pieces : goal.decreases-pieces
decreases-pieces g l = length l.rows - l.next
