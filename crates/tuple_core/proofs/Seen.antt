-- Rows are read in place: the values of an encoding are seen one after another.
use Rattle.std.proofs.Common.{◌≡◌, ℕ, ◌-◌, ◌<◌, List, [], ◌∷◌, ◌++◌, length, Bool, true, false, nat_eq, Option, Some, None, option_map, refl, sym, ap, subst, ◌∙◌, arith, append-nil}
use Rattle.std.specs.Cmp.Lexicographic.{bytes_decides, pointwise}
use Rattle.std.specs.List.{AllByRecursion, flat_map}
use Rattle.tuple_core.proofs.Back.{integer_back, text_bytes_back, values_back}
use Rattle.tuple_core.specs.Decoding.{truth_and_rest, values_and_rest}
use Rattle.tuple_core.specs.Encoded.{AreEncodings, IsEncoding, row_of, seen_and_rest, values_left, values_read}
use Rattle.tuple_core.specs.Order.{row_eq, rows_decided}
use Rattle.tuple_core.specs.Encoding.{row_encoding, value_encoding}
use Rattle.tuple_core.specs.Values.{FitsValue, RowValues}
use Rattle.med_prelude.specs.Texts.{Bytes}
use Rattle.tuple_core.specs.declared.value.Value.{Value}
use Rattle.tuple_core.specs.declared.value.Value.TheVariants as value

pub seen_back : (v : Value) (x : List ℕ) → FitsValue v → seen_and_rest (value_encoding v ++ x) ≡ Some (v, x)
unfolding seen_and_rest truth_and_rest
seen_back (value.Int z) x fits = ap (option_map (λ y. (value.Int y.0, y.1))) (integer_back z x fits)
seen_back (value.Text bytes) x fits = ap (option_map (λ y. (value.Text y.0, y.1))) (text_bytes_back bytes x fits.1)
seen_back (value.Bool true) x fits = refl
seen_back (value.Bool false) x fits = refl

-- the values of encodings are those that were encoded
pub left_is : (row : RowValues) → AllByRecursion FitsValue row → values_left (length row) (flat_map value_encoding row) ≡ row
left_is row fits =
    ap (λ bytes. values_left (length row) bytes) (sym (append-nil (flat_map value_encoding row))) ∙ ap values_read (values_back row [] fits)

pub are_encodings : (row : RowValues) → AllByRecursion FitsValue row → AreEncodings (length row) (flat_map value_encoding row)
are_encodings row fits =
    let same = left_is row fits in
    record {
      many = ap (λ r. length r) same;
      each = subst (λ r. AllByRecursion FitsValue r) (sym same) fits;
      are = ap (λ r. flat_map value_encoding r) same;
    }

-- behind its count lie the values of a row
pub row_left : (row : RowValues) (count : ℕ) (bytes : Bytes) → AllByRecursion FitsValue row → row_encoding row ≡ count ∷ bytes
    → (values_left count bytes ≡ row) × AreEncodings count bytes
row_left row count bytes fits e =
    let many : length row ≡ count = cc in
    let are : flat_map value_encoding row ≡ bytes = cc in (
      subst (λ n. values_left n bytes ≡ row) many (subst (λ bs. values_left (length row) bs ≡ row) are (left_is row fits)),
      subst (λ n. AreEncodings n bytes) many (subst (λ bs. AreEncodings (length row) bs) are (are_encodings row fits)),
    )

-- one value is seen, and the others are left
pub record SeesFirst (count : ℕ) (bytes : Bytes) (seen : Value × Bytes) : Type 0 where
  pub first : values_left count bytes ≡ seen.0 ∷ values_left (count - 1) seen.1
  pub others : AreEncodings (count - 1) seen.1

sees_of : (row : RowValues) (count : ℕ) (bytes : Bytes) → AllByRecursion FitsValue row → length row ≡ count → flat_map value_encoding row ≡ bytes → values_left count bytes ≡ row
    → (0 < count) → (seen : Value × Bytes) × ((seen_and_rest bytes ≡ Some seen) × SeesFirst count bytes seen)
sees_of [] count bytes fits many are left some = absurd (omega arith)
sees_of (v ∷ row) count bytes fits many are left some =
    let fewer : length row ≡ count - 1 = omega arith in (
      (v, flat_map value_encoding row),
      (
        subst (λ bs. seen_and_rest bs ≡ Some (v, flat_map value_encoding row)) are (seen_back v (flat_map value_encoding row) fits.0),
        record {
          first = left ∙ ap (λ r. v ∷ r) (subst (λ n. row ≡ values_left n (flat_map value_encoding row)) fewer (sym (left_is row fits.1)));
          others = subst (λ n. AreEncodings n (flat_map value_encoding row)) fewer (are_encodings row fits.1);
        },
      ),
    )

pub sees : (count : ℕ) (bytes : Bytes) → AreEncodings count bytes → 0 < count → (seen : Value × Bytes) × ((seen_and_rest bytes ≡ Some seen) × SeesFirst count bytes seen)
sees count bytes all some = sees_of (values_left count bytes) count bytes all.each all.many all.are refl some

the_seen : Value × Bytes → Option (Value × Bytes) → Value × Bytes
the_seen d None = d
the_seen d (Some x) = x

-- what is seen is the first value
pub sees_first : (count : ℕ) (bytes : Bytes) (seen : Value × Bytes) → AreEncodings count bytes → 0 < count → Some seen ≡ seen_and_rest bytes → SeesFirst count bytes seen
unfolding the_seen
sees_first count bytes seen all some e =
    let there = sees count bytes all some in
    let same : seen ≡ there.0 = ap (the_seen seen) (e ∙ there.1.0) in
    subst (SeesFirst count bytes) (sym same) there.1.1

-- and there is one
pub sees_some : (count : ℕ) (bytes : Bytes) → AreEncodings count bytes → 0 < count → ¬ (None ≡ seen_and_rest bytes)
sees_some count bytes all some e =
    let there = sees count bytes all some in
    let both : None ≡ Some there.0 = e ∙ there.1.0 in
    cc

-- no value is left of none
pub none_left : (bytes : Bytes) → values_left 0 bytes ≡ []
unfolding values_and_rest
none_left bytes = refl

-- two encodings are equal where the rows are
pub same_encodings : (xs ys : Bytes) → IsEncoding xs → IsEncoding ys → pointwise nat_eq xs ys ≡ row_eq (row_of xs) (row_of ys)
same_encodings xs ys x_is y_is = go (pointwise nat_eq xs ys) (row_eq (row_of xs) (row_of ys)) refl refl
  where
    go : (a b : Bool) → pointwise nat_eq xs ys ≡ a → row_eq (row_of xs) (row_of ys) ≡ b → a ≡ b
    go true true e f = refl
    go false false e f = refl
    go true false e f =
        let same : row_eq (row_of xs) (row_of ys) ≡ true = (rows_decided (row_of xs) (row_of ys)).1 (ap row_of ((bytes_decides xs ys).0 e)) in
        sym same ∙ f
    go false true e f =
        let rows : row_of xs ≡ row_of ys = (rows_decided (row_of xs) (row_of ys)).0 f in
        let bytes : xs ≡ ys = sym x_is.is ∙ ap row_encoding rows ∙ y_is.is in
        sym e ∙ (bytes_decides xs ys).1 bytes
