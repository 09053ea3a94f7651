use Rattle.std.proofs.Common.{◌≡◌, ◌+◌, drop}
use Rattle.csv.specs.Records.{fields_of}
use Rattle.csv_wrap.specs.Rows.{named_count}
use Rattle.csv_wrap.proofs.fields.named_count.Given as goal

-- all fields so far are names
abbrev pub invariant-loop-position : goal.invariant-loop-position
invariant-loop-position l = l.position + named_count (drop l.position l.columns) (drop l.position (fields_of l.fields)) ≡ named_count l.columns (fields_of l.fields)
