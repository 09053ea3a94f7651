-- The least item past a limit of a relation, part by part.
use Rattle.std.proofs.Common.{◌≡◌, ℕ, List, ◌++◌, refl}
use Rattle.std.specs.Prelude.{nat_le, nat_lt, length, position}
use Rattle.text_reading.specs.Faults.{broken_if, index_past, indices_where}
use Rattle.text_reading.specs.Order.{least, lesser}
use Rattle.text_reading.proofs.FaultLaws.{least_index}
use Rattle.cat_reader.specs.Limits.{is_long_column, is_large_group, is_own_broken, items_past_limits, most_columns, most_groups}
use Rattle.cat_reader.specs.declared.catalogue.Relation.{Relation}
use Rattle.cat_reader.proofs.LocationLaws.{item_append}

pub least_limit : (r : Relation) → least nat_le (items_past_limits r) ≡
    lesser nat_le (lesser nat_le (lesser nat_le (lesser nat_le
    (least nat_le (broken_if (is_own_broken r) 0))
    (least nat_le (broken_if (nat_lt most_columns (length r.columns)) most_columns)))
    (least nat_le (broken_if (nat_lt most_groups (length r.groups)) most_groups)))
    (position is_long_column r.columns))
    (position is_large_group r.groups)
unfolding items_past_limits
least_limit r =
    let own : List ℕ = broken_if (is_own_broken r) 0 in
    let columns : List ℕ = index_past most_columns r.columns in
    let groups : List ℕ = index_past most_groups r.groups in
    let long : List ℕ = indices_where is_long_column 0 r.columns in
    let large : List ℕ = indices_where is_large_group 0 r.groups in
    rw (item_append (own ++ columns ++ groups ++ long) large, item_append (own ++ columns ++ groups) long, item_append (own ++ columns) groups, item_append own columns, least_index is_long_column r.columns, least_index is_large_group r.groups) refl
