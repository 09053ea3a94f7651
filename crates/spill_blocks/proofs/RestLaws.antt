-- What is left behind a value, behind so many of them and behind a row.
use Rattle.std.proofs.Common.{◌≡◌, ◌≢◌, ℕ, zero, suc, ◌+◌, ◌-◌, ◌==◌, ◌<◌, ◌≤◌, nat_le, Bool, true, false, [], ◌∷◌, ◌++◌, length, take, drop, Option, Some, None, option_map, if◌then◌else◌, refl, sym, ap, subst, ◌∙◌, arith, Fits, get_or, length-append}
use Rattle.std.specs.Int.{w8}
use Rattle.std.specs.Option.{option_and_then}
use Rattle.std.proofs.lemmas.Bool.Decides.{nat_tests, Decides-eqb}
use Rattle.std.proofs.lemmas.List.{take_at, drop_at}
use Rattle.std.proofs.lemmas.Option.{none-some, same_Some}
use Rattle.med_prelude.specs.Texts.{Bytes}
use Rattle.tuple_core.specs.Decoding.{row_and_rest, value_and_rest, values_and_rest, ◌>>=◌}
use Rattle.tuple_core.specs.Encoded.{IsEncoding, row_of}
use Rattle.tuple_core.specs.Encoding.{row_encoding}
use Rattle.tuple_core.specs.Values.{FitsRow, RowValues, most_values}
use Rattle.tuple_core.specs.declared.value.Value.{Value}
use Rattle.spill_blocks.specs.Reading.{wide_row_and_rest}
use Rattle.spill_blocks.proofs.ReadLaws.{encoded, is_encoding, row_parts, wide_parts}

-- the bytes behind so many values
abbrev pub behind : ℕ → Bytes → Option Bytes
behind count bytes = option_map (λ (x : RowValues × Bytes). x.1) (values_and_rest count bytes)

abbrev after_value : Bytes → Option Bytes
after_value bytes = option_map (λ (x : Value × Bytes). x.1) (value_and_rest bytes)

more_behind : (o : Option (RowValues × Bytes)) (v : Value) → option_map (λ (x : RowValues × Bytes). x.1) (o >>= λ more. Some (v ∷ more.0, more.1)) ≡ option_map (λ (x : RowValues × Bytes). x.1) o
more_behind None v = refl
more_behind (Some x) v = refl

one_behind : (o : Option (Value × Bytes)) (n : ℕ) → option_map (λ (x : RowValues × Bytes). x.1) (o >>= λ first. values_and_rest n first.1 >>= λ more. Some (first.0 ∷ more.0, more.1))
    ≡ option_and_then (behind n) (option_map (λ (x : Value × Bytes). x.1) o)
one_behind None n = refl
one_behind (Some first) n = more_behind (values_and_rest n first.1) first.0

behind_suc : (n : ℕ) (bytes : Bytes) → behind (suc n) bytes ≡ option_and_then (behind n) (after_value bytes)
unfolding values_and_rest
behind_suc n bytes = one_behind (value_and_rest bytes) n

behind_more : (count counter : ℕ) (rest : Bytes) → counter < count → behind (count - counter) rest ≡ option_and_then (behind (count - (counter + 1))) (after_value rest)
behind_more count counter rest l =
    let e : count - counter ≡ suc (count - (counter + 1)) = omega arith in
    ap (λ n. behind n rest) e ∙ behind_suc (count - (counter + 1)) rest

pub behind_one : (count counter : ℕ) (rest after : Bytes) → counter < count → Some after ≡ after_value rest → behind (count - counter) rest ≡ behind (count - (counter + 1)) after
behind_one count counter rest after l e = behind_more count counter rest l ∙ ap (option_and_then (behind (count - (counter + 1)))) (sym e)

pub behind_none : (count counter : ℕ) (rest : Bytes) → counter < count → None ≡ after_value rest → behind (count - counter) rest ≡ None
behind_none count counter rest l e = behind_more count counter rest l ∙ ap (option_and_then (behind (count - (counter + 1)))) (sym e)

pub behind_all : (count counter : ℕ) (rest : Bytes) → count ≤ counter → behind (count - counter) rest ≡ Some rest
unfolding values_and_rest
behind_all count counter rest l = let e : count - counter ≡ 0 = omega arith in ap (λ n. behind n rest) e

-- so many values are so many
values_long : (count : ℕ) (bytes : Bytes) (x : RowValues × Bytes) → values_and_rest count bytes ≡ Some x → length x.0 ≡ count
unfolding values_and_rest
values_long zero bytes x e = ap (λ (y : RowValues × Bytes). length y.0) (sym (same_Some ([], bytes) x e))
values_long (suc count) bytes x e = go (λ rest y g. values_long count rest y g) (value_and_rest bytes) e
  where
    go_on : (first : Value) (o : Option (RowValues × Bytes)) → ((y : RowValues × Bytes) → o ≡ Some y → length y.0 ≡ count) → (o >>= λ more. Some (first ∷ more.0, more.1)) ≡ Some x → length x.0 ≡ suc count
    go_on first None long f = absurd (none-some x f)
    go_on first (Some more) long f = ap (λ (y : RowValues × Bytes). length y.0) (sym (same_Some (first ∷ more.0, more.1) x f)) ∙ ap suc (long more refl)

    go : ((rest : Bytes) (y : RowValues × Bytes) → values_and_rest count rest ≡ Some y → length y.0 ≡ count) → (o : Option (Value × Bytes)) → (o >>= λ first. values_and_rest count first.1 >>= λ more. Some (first.0 ∷ more.0, more.1)) ≡ Some x → length x.0 ≡ suc count
    go long None f = absurd (none-some x f)
    go long (Some first) f = go_on first.0 (values_and_rest count first.1) (λ y g. long first.1 y g) f

same_width : (m n : ℕ) → m ≡ n → (m == n) ≡ true
same_width m n e = (Decides-eqb m n).1 e

other_width : (m n : ℕ) → m ≢ n → (m == n) ≡ false
other_width m n e = grind (arith, nat_tests)

-- a row of that count, and of another one
wide_all : (o : Option (RowValues × Bytes)) (width : ℕ) → ((x : RowValues × Bytes) → o ≡ Some x → length x.0 ≡ width) → (o >>= λ x. if length x.0 == width then Some x else None) ≡ o
wide_all None width long = refl
wide_all (Some x) width long = ap (λ (b : Bool). if b then Some x else None) (same_width (length x.0) width (long x refl))

wide_none : (o : Option (RowValues × Bytes)) (width : ℕ) → ((x : RowValues × Bytes) → o ≡ Some x → length x.0 ≢ width) → (o >>= λ x. if length x.0 == width then Some x else None) ≡ None
wide_none None width long = refl
wide_none (Some x) width long = ap (λ (b : Bool). if b then Some x else None) (other_width (length x.0) width (long x refl))

pub wide_row : (width : ℕ) (bytes : Bytes) → width ≤ most_values → wide_row_and_rest width (width ∷ bytes) ≡ values_and_rest width bytes
unfolding wide_row_and_rest row_and_rest
wide_row width bytes few =
    let inside : nat_le width most_values ≡ true = grind (arith, nat_tests) in
    ap (λ (b : Bool). (if b then values_and_rest width bytes else None) >>= λ x. if length x.0 == width then Some x else None) inside
    ∙ wide_all (values_and_rest width bytes) width (λ x e. values_long width bytes x e)

pub other_row : (width count : ℕ) (bytes : Bytes) → count ≢ width → wide_row_and_rest width (count ∷ bytes) ≡ None
unfolding wide_row_and_rest row_and_rest
other_row width count bytes apart = go (nat_le count most_values)
  where
    go : (b : Bool) → ((if b then values_and_rest count bytes else None) >>= λ x. if length x.0 == width then Some x else None) ≡ None
    go true = wide_none (values_and_rest count bytes) width (λ x e f. apart (sym (values_long count bytes x e) ∙ f))
    go false = refl

pub great_row : (width : ℕ) (bytes : Bytes) → most_values < width → wide_row_and_rest width (width ∷ bytes) ≡ None
unfolding wide_row_and_rest row_and_rest
great_row width bytes many = let past : nat_le width most_values ≡ false = grind (arith, nat_tests) in ap (λ (b : Bool). (if b then values_and_rest width bytes else None) >>= λ x. if length x.0 == width then Some x else None) past

pub no_row : (width : ℕ) → wide_row_and_rest width [] ≡ None
unfolding wide_row_and_rest row_and_rest
no_row width = refl

-- a row that is read, before what is left behind it
pub record IsWideRow (width : ℕ) (bytes rest : Bytes) : Type 0 where
  pub row : RowValues
  pub read : wide_row_and_rest width bytes ≡ Some (row, rest)
  pub fits : FitsRow row
  pub whole : bytes ≡ row_encoding row ++ rest

pub is_wide_row : (width : ℕ) (bytes rest : Bytes) → ((i : ℕ) → Fits w8 (get_or bytes i 0)) → Some rest ≡ option_map (λ (x : RowValues × Bytes). x.1) (wide_row_and_rest width bytes) → IsWideRow width bytes rest
is_wide_row width bytes rest h e = go (wide_row_and_rest width bytes) refl e
  where
    go : (o : Option (RowValues × Bytes)) → wide_row_and_rest width bytes ≡ o → Some rest ≡ option_map (λ (x : RowValues × Bytes). x.1) o → IsWideRow width bytes rest
    go None f g = absurd (none-some rest (sym g))
    go (Some x) f g =
        let same : rest ≡ x.1 = same_Some rest x.1 g in
        let parts = row_parts bytes x (record { small = λ i. (h i).fits }) (wide_parts width bytes x (sym f)).0 in
        record { row = x.0; read = f ∙ ap (λ r. Some (x.0, r)) (sym same); fits = parts.fits; whole = parts.whole ∙ ap (λ r. row_encoding x.0 ++ r) (sym same) }

front_is : (width : ℕ) (bytes rest : Bytes) (r : IsWideRow width bytes rest) → take (length bytes - length rest) bytes ≡ row_encoding r.row
front_is width bytes rest r =
    let long : length bytes ≡ length (row_encoding r.row) + length rest = ap length r.whole ∙ length-append (row_encoding r.row) rest in
    ap (take (length bytes - length rest)) r.whole ∙ take_at (row_encoding r.row) rest (length bytes - length rest) (omega arith)

pub shorter : (width : ℕ) (bytes rest : Bytes) → IsWideRow width bytes rest → length rest ≤ length bytes
shorter width bytes rest r = omega (arith, ap length r.whole, length-append (row_encoding r.row) rest)

pub front_encodes : (width : ℕ) (bytes rest : Bytes) → IsWideRow width bytes rest → IsEncoding (take (length bytes - length rest) bytes)
front_encodes width bytes rest r = subst IsEncoding (sym (front_is width bytes rest r)) (is_encoding r.row r.fits)

pub front_read : (width : ℕ) (bytes rest : Bytes) → IsWideRow width bytes rest → Some (row_of (take (length bytes - length rest) bytes), drop (length bytes - length rest) bytes) ≡ wide_row_and_rest width bytes
front_read width bytes rest r =
    let long : length bytes ≡ length (row_encoding r.row) + length rest = ap length r.whole ∙ length-append (row_encoding r.row) rest in
    let back : drop (length bytes - length rest) bytes ≡ rest = ap (drop (length bytes - length rest)) r.whole ∙ drop_at (row_encoding r.row) rest (length bytes - length rest) (omega arith) in
    ap (λ bs. Some (row_of bs, drop (length bytes - length rest) bytes)) (front_is width bytes rest r)
    ∙ ap (λ row. Some (row, drop (length bytes - length rest) bytes)) (encoded r.row r.fits)
    ∙ ap (λ bs. Some (r.row, bs)) back
    ∙ sym r.read
