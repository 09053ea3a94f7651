use Rattle.std.proofs.Common.{◌≡◌, ◌<◌, [], All, get_or, length, map, sym, ap, subst, ◌∙◌}
use Rattle.std.specs.List.{dedup}
use Rattle.std.proofs.lemmas.List.Filters.{dedup_is}
use Rattle.row_pages.proofs.Indexed.{if_ok, indices_inside, rows_at, told}
use Rattle.row_pages.specs.Sorting.{entry_eq}
use Rattle.row_pages.specs.declared.sorting.Entry.{Entry}
use Rattle.tuple_core.specs.Distinct.{AreSortedDistinct}
use Rattle.row_pages.proofs.sorting.sorted_indices.Goals as goal

pub returns-clause-inside : goal.returns-clause-inside
returns-clause-inside c =
    let skip = c.shared_length.result in
    let rows = c.args.rows.now in
    let sorted = c.sort_unstable.new.self.items in
    let left : c.dedup.new.self.items ≡ dedup entry_eq sorted = dedup_is entry_eq _ _ c.dedup.ensures.filtered in
    let all = told skip rows c.in_ok-entries.entries.items sorted c.shared_length.ensures c.in_ok-entries.ensures.rows c.in_ok-entries.ensures.each c.sort_unstable.ensures.permutation c.sort_unstable.ensures.sorted in
    let whole = c.as_slice.ensures.value ∙ left in
    if_ok c.indices_of.result
    (λ indices is. subst (λ is. All (λ index. index < length rows) is) (sym (is ∙ ap (λ es. map (λ (e : Entry). e.index) es) whole)) (indices_inside skip rows (dedup entry_eq sorted) all.each))
    c.indices_of.ensures

pub returns-clause-sorted : goal.returns-clause-sorted
returns-clause-sorted c =
    let skip = c.shared_length.result in
    let rows = c.args.rows.now in
    let sorted = c.sort_unstable.new.self.items in
    let left : c.dedup.new.self.items ≡ dedup entry_eq sorted = dedup_is entry_eq _ _ c.dedup.ensures.filtered in
    let all = told skip rows c.in_ok-entries.entries.items sorted c.shared_length.ensures c.in_ok-entries.ensures.rows c.in_ok-entries.ensures.each c.sort_unstable.ensures.permutation c.sort_unstable.ensures.sorted in
    let whole = c.as_slice.ensures.value ∙ left in
    if_ok c.indices_of.result
    (λ indices is. subst (λ is. AreSortedDistinct rows (map (λ index. get_or rows index []) is)) (sym (is ∙ ap (λ es. map (λ (e : Entry). e.index) es) whole))
    (subst (AreSortedDistinct rows) (sym (rows_at skip rows (dedup entry_eq sorted) all.each)) all.sorted))
    c.indices_of.ensures
