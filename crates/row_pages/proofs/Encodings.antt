-- Rows that lie as their encodings.
use Rattle.std.proofs.Common.{◌≡◌, ◌<◌, ◌++◌, ℕ, suc, List, [], ◌∷◌, length, get_or, map, refl, sym, ap, ap₂, subst, ◌∙◌, arith, append-nil, Result, Ok, Err, OnOk, OnErr, Some, slice_get, drop, drop-cons, add-one, ◌+◌}
use Rattle.std.specs.List.{All}
use Rattle.std.proofs.lemmas.List.{get_or-map, map-append, length-map}
use Rattle.std.proofs.lemmas.List.Elements.{All-push, All-map}
use Rattle.std.proofs.lemmas.Option.{get_or_from_slice_get}
use Rattle.std.proofs.lemmas.Result.{on_ok_weaker}
use Rattle.med_prelude.specs.Texts.{Bytes}
use Rattle.tuple_core.proofs.Back.{row_back}
use Rattle.tuple_core.specs.Decoding.{row_and_rest}
use Rattle.tuple_core.specs.Encoded.{IsEncoding, row_of, values_read}
use Rattle.tuple_core.specs.Encoding.{row_encoding}
use Rattle.tuple_core.specs.Values.{FitsRow, RowList, RowValues}

encoded : (row : RowValues) → FitsRow row → row_of (row_encoding row) ≡ row
encoded row fits = ap (λ bytes. values_read (row_and_rest bytes)) (sym (append-nil (row_encoding row))) ∙ ap values_read (row_back row [] fits)

is_encoding : (row : RowValues) → FitsRow row → IsEncoding (row_encoding row)
is_encoding row fits = record {
  fits = subst FitsRow (sym (encoded row fits)) fits;
  is = ap row_encoding (encoded row fits);
}

-- the list is as it was, or it has the encoding of one row more
pub all_pushed : {A E : Type 0} (old new : List Bytes) (row : RowValues) (result : Result A E) → All IsEncoding old → FitsRow row
    → OnOk result (new ≡ old ++ row_encoding row ∷ []) → OnErr result (new ≡ old) → All IsEncoding new
all_pushed old new row (Ok x) all fits ok err = subst (All IsEncoding) (sym ok) (All-push IsEncoding old (row_encoding row) all (is_encoding row fits))
all_pushed old new row (Err why) all fits ok err = subst (All IsEncoding) (sym err) all

pub rows_pushed : {A E : Type 0} (old new : List Bytes) (rows : RowList) (row : RowValues) (result : Result A E) → map row_of old ≡ rows → FitsRow row
    → OnOk result (new ≡ old ++ row_encoding row ∷ []) → OnOk result (map row_of new ≡ rows ++ row ∷ [])
rows_pushed old new rows row (Ok x) is fits ok =
    ap (map row_of) ok ∙ map-append row_of old (row_encoding row ∷ []) ∙ ap₂ (λ xs x. xs ++ x ∷ []) is (encoded row fits)
rows_pushed old new rows row (Err why) is fits ok = tt

-- the same of bytes that are the encoding
pub all_pushed_bytes : {A E : Type 0} (old new : List Bytes) (row : RowValues) (bytes : Bytes) (result : Result A E) → All IsEncoding old → FitsRow row → bytes ≡ row_encoding row
    → OnOk result (new ≡ old ++ bytes ∷ []) → OnErr result (new ≡ old) → All IsEncoding new
all_pushed_bytes old new row bytes result all fits are ok err = all_pushed old new row result all fits (on_ok_weaker result (λ e. e ∙ ap (λ bs. old ++ bs ∷ []) are) ok) err

pub rows_pushed_bytes : {A E : Type 0} (old new : List Bytes) (rows : RowList) (row : RowValues) (bytes : Bytes) (result : Result A E) → map row_of old ≡ rows → FitsRow row → bytes ≡ row_encoding row
    → OnOk result (new ≡ old ++ bytes ∷ []) → OnOk result (map row_of new ≡ rows ++ row ∷ [])
rows_pushed_bytes old new rows row bytes result is fits are ok = rows_pushed old new rows row result is fits (on_ok_weaker result (λ e. e ∙ ap (λ bs. old ++ bs ∷ []) are) ok)

-- the list is as it was, or it has those at some indices
pub all_selected : {A E : Type 0} (old new : List Bytes) (indices : List ℕ) (result : Result A E) → All IsEncoding old → All (λ index. index < length (map row_of old)) indices
    → OnOk result (new ≡ map (λ index. get_or old index []) indices) → OnErr result (new ≡ old) → All IsEncoding new
all_selected old new indices (Ok x) all inside ok err =
    subst (All IsEncoding) (sym ok) (All-map IsEncoding (λ index. get_or old index []) indices (λ k d within. all (get_or indices k d) [] (inside_old (inside k d within))))
  where
    inside_old : {index : ℕ} → index < length (map row_of old) → index < length old
    inside_old h = omega (arith, h, length-map old row_of)
all_selected old new indices (Err why) all inside ok err = subst (All IsEncoding) (sym err) all

pub rows_selected : {A E : Type 0} (old new : List Bytes) (rows : RowList) (indices : List ℕ) (result : Result A E) → map row_of old ≡ rows → All (λ index. index < length rows) indices
    → OnOk result (new ≡ map (λ index. get_or old index []) indices) → OnOk result (map row_of new ≡ map (λ index. get_or rows index []) indices)
rows_selected old new rows indices (Ok x) is inside ok = ap (map row_of) ok ∙ each indices inside
  where
    each : (indices : List ℕ) → All (λ index. index < length rows) indices → map row_of (map (λ index. get_or old index []) indices) ≡ map (λ index. get_or rows index []) indices
    each [] inside = refl
    each (index ∷ indices) inside =
        let within : index < length old = omega (arith, inside 0 0 (omega arith), length-map old row_of, ap length is) in
        ap₂ (λ row more. row ∷ more) (sym (get_or-map row_of old index [] [] within) ∙ ap (λ xs. get_or xs index []) is) (each indices (λ k d l. inside (suc k) d (omega arith)))
rows_selected old new rows indices (Err why) is inside ok = tt

-- the row at the index is the first of those that are left
pub first_left : (rows : RowList) (i : ℕ) (row : RowValues) → Some row ≡ slice_get rows i → i < length rows → drop i rows ≡ row ∷ drop (i + 1) rows
first_left rows i row is inside =
    drop-cons rows i row inside ∙ ap₂ (λ r n. r ∷ drop n rows) (get_or_from_slice_get rows i row row (sym is)) (sym (add-one i))
