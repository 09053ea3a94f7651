use Rattle.std.proofs.Common.{◌≡◌, None, List, ℕ, Option, option_map, sym, ap, ◌∙◌}
use Rattle.csv.specs.Records.{fields_of}
use Rattle.csv_runs.specs.Records.{good_record}
use Rattle.csv_wrap.specs.Rows.{record_read}
use Rattle.csv_wrap.proofs.frame_rows.read_frame.Goals as goal

pub returns-in-None : goal.returns-in-None
returns-in-None c =
    let none : good_record c.args.frame.now ≡ None = sym c.in_ok-record.ensures ∙ ap (option_map fields_of) c.in-None.is in
    c.no_record.ensures c.args.columns.now ∙ ap (λ (found : Option (List (List ℕ))). record_read c.args.columns.now c.args.number found) (sym none)
