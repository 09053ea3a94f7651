-- Entries are their rows with their numbers.
use Rattle.std.proofs.Common.{◌≡◌, ℕ, zero, suc, ◌<◌, List, [], ◌∷◌, ◌++◌, length, map, Some, None, refl, ap, ap₂, sym, ◌∙◌, arith, slice_get}
use Rattle.std.specs.List.{All}
use Rattle.std.proofs.lemmas.List.{get_or-map, length-map}
use Rattle.std.proofs.lemmas.List.Elements.{All-map}
use Rattle.std.proofs.lemmas.Option.{none-some, same_Some}
use Rattle.tuple_core.specs.Values.{RowList, RowValues}
use Rattle.spill_blocks.specs.Blocks.{AreWide}
use Rattle.spill_blocks.specs.Entries.{kept_as, kept_list, row_kept, spooled}
use Rattle.spill_blocks.specs.declared.entries.Kept.{Kept}
use Rattle.spill_blocks.specs.declared.entries.Numbers.{Numbers}

pub get_kept : (ns : List Numbers) (rows : RowList) (i : ℕ) (n : Numbers) (row : RowValues) → slice_get ns i ≡ Some n → slice_get rows i ≡ Some row
    → slice_get (kept_list ns rows) i ≡ Some (kept_as n.a n.d row)
get_kept [] rows i n row e f = absurd (none-some n e)
get_kept (m ∷ ns) [] i n row e f = absurd (none-some row f)
get_kept (m ∷ ns) (r ∷ rows) zero n row e f = ap₂ (λ (x : Numbers) (y : RowValues). Some (kept_as x.a x.d y)) (same_Some m n e) (same_Some r row f)
get_kept (m ∷ ns) (r ∷ rows) (suc i) n row e f = get_kept ns rows i n row e f

pub none_by_numbers : (ns : List Numbers) (rows : RowList) (i : ℕ) → slice_get ns i ≡ None → slice_get (kept_list ns rows) i ≡ None
none_by_numbers [] rows i e = refl
none_by_numbers (m ∷ ns) [] i e = refl
none_by_numbers (m ∷ ns) (r ∷ rows) zero e = absurd (none-some m (sym e))
none_by_numbers (m ∷ ns) (r ∷ rows) (suc i) e = none_by_numbers ns rows i e

pub none_by_rows : (ns : List Numbers) (rows : RowList) (i : ℕ) → slice_get rows i ≡ None → slice_get (kept_list ns rows) i ≡ None
none_by_rows [] rows i e = refl
none_by_rows (m ∷ ns) [] i e = refl
none_by_rows (m ∷ ns) (r ∷ rows) zero e = absurd (none-some r (sym e))
none_by_rows (m ∷ ns) (r ∷ rows) (suc i) e = none_by_rows ns rows i e

pub kept_push : (ns : List Numbers) (rows : RowList) (n : Numbers) (row : RowValues) → length ns ≡ length rows
    → kept_list (ns ++ n ∷ []) (rows ++ row ∷ []) ≡ kept_list ns rows ++ kept_as n.a n.d row ∷ []
kept_push [] [] n row e = refl
kept_push [] (r ∷ rows) n row e = absurd (omega arith)
kept_push (m ∷ ns) [] n row e = absurd (omega arith)
kept_push (m ∷ ns) (r ∷ rows) n row e = ap (λ ks. kept_as m.a m.d r ∷ ks) (kept_push ns rows n row (omega arith))

pub length_kept : (ns : List Numbers) (rows : RowList) → length ns ≡ length rows → length (kept_list ns rows) ≡ length ns
length_kept [] rows e = refl
length_kept (m ∷ ns) [] e = absurd (omega arith)
length_kept (m ∷ ns) (r ∷ rows) e = ap suc (length_kept ns rows (omega arith))

pub rows_kept : (ns : List Numbers) (rows : RowList) → length ns ≡ length rows → map row_kept (kept_list ns rows) ≡ rows
rows_kept [] [] e = refl
rows_kept [] (r ∷ rows) e = absurd (omega arith)
rows_kept (m ∷ ns) [] e = absurd (omega arith)
rows_kept (m ∷ ns) (r ∷ rows) e = ap (λ rs. r ∷ rs) (rows_kept ns rows (omega arith))

-- rows without numbers are as wide as the rows
pub wide_spooled : (width : ℕ) (rows : RowList) → All (λ row. length row ≡ width) rows → AreWide width (map spooled rows)
wide_spooled width rows all = All-map (λ (kept : Kept). length kept.row ≡ width) spooled rows all

pub wide_rows : (width : ℕ) (rows : RowList) → AreWide width (map spooled rows) → All (λ row. length row ≡ width) rows
wide_rows width rows all = λ k d inside.
    let within : k < length (map spooled rows) = omega (arith, length-map rows spooled) in
    let same = get_or-map spooled rows k d (spooled d) inside in
    ap (λ (kept : Kept). length kept.row) (sym same) ∙ all k (spooled d) within
