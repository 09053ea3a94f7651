use Rattle.std.proofs.Common.{◌≡◌, [], drop}
use Rattle.row_match.proofs.Walks.{walk}
use Rattle.row_match.proofs.pattern.Pattern.match_row.Given as goal

abbrev pub invariant-columns : goal.invariant-columns
invariant-columns l = walk l.self-inside.columns.items [] l.value-items ≡ walk (drop l.position l.self-inside.columns.items) l.values.items (drop l.position l.value-items)
