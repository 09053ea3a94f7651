-- An encoding is read back, whatever follows it.
use Rattle.std.proofs.Common.{FitsSigned, ◌≡◌, ℕ, ◌^◌, ◌<◌, ◌≤◌, nat_le, true, false, ℤ, List, [], ◌∷◌, ◌++◌, length, Option, Some, None, option_map, if◌then◌else◌, refl, sym, ap, ◌∙◌, arith, append_assoc, length-append}
use Rattle.std.specs.Int.{w32, w64, to_be_bytes, from_be_bytes, cast_signed, cast_unsigned}
use Rattle.std.specs.List.{AllByRecursion, flat_map}
use Rattle.std.specs.Str.{is_utf8}
use Rattle.std.proofs.lemmas.Bool.Decides.{nat_tests}
use Rattle.std.proofs.lemmas.Int.{ints, to_z-of_z}
use Rattle.std.proofs.lemmas.List.{take_at, drop_at}
use Rattle.std.proofs.lemmas.Nat.{from_be_bytes-to_be_bytes_4, from_be_bytes-to_be_bytes_8}
use Rattle.tuple_core.specs.Decoding.{front_and_rest, integer_and_rest, text_bytes_and_rest, text_and_rest, truth_and_rest, value_and_rest, values_and_rest, row_and_rest, ◌>>=◌}
use Rattle.tuple_core.specs.Encoding.{row_encoding, value_encoding}
use Rattle.tuple_core.specs.Values.{FitsRow, FitsValue, longest_text, most_values}
use Rattle.tuple_core.specs.declared.value.Value.{Value}
use Rattle.tuple_core.specs.declared.value.Value.TheVariants as value

holds_le : (m n : ℕ) → m ≤ n → nat_le m n ≡ true
holds_le m n h = grind (arith, nat_tests)

front_back : (count : ℕ) (front x : List ℕ) → length front ≡ count → front_and_rest count (front ++ x) ≡ Some (front, x)
unfolding front_and_rest
front_back count front x e =
    let inside : nat_le count (length (front ++ x)) ≡ true = holds_le _ _ (omega (arith, length-append front x)) in
    rw (inside, take_at front x count e, drop_at front x count e) refl

unsigned_below : (z : ℤ) → FitsSigned w64 z → cast_unsigned w64 z < 2 ^ 64
unsigned_below z fits = search (ints, arith)

pub integer_back : (z : ℤ) (x : List ℕ) → FitsSigned w64 z → integer_and_rest (to_be_bytes w64 (cast_unsigned w64 z) ++ x) ≡ Some (z, x)
unfolding integer_and_rest
integer_back z x fits =
    ap (λ o. o >>= λ y. Some (cast_signed w64 (from_be_bytes w64 y.0), y.1)) (front_back 8 (to_be_bytes w64 (cast_unsigned w64 z)) x refl)
    ∙ ap (λ n. Some (cast_signed w64 n, x)) (from_be_bytes-to_be_bytes_8 (cast_unsigned w64 z) (unsigned_below z fits))
    ∙ ap (λ y. Some (y, x)) (to_z-of_z w64 z fits)

pub text_bytes_back : (bytes x : List ℕ) → length bytes ≤ longest_text → text_bytes_and_rest (to_be_bytes w32 (length bytes) ++ (bytes ++ x)) ≡ Some (bytes, x)
unfolding text_bytes_and_rest
text_bytes_back bytes x short =
    let small : length bytes < 2 ^ 32 = omega arith in
    let within : nat_le (length bytes) longest_text ≡ true = holds_le _ _ short in
    ap (λ o. o >>= λ y. if nat_le (from_be_bytes w32 y.0) longest_text then front_and_rest (from_be_bytes w32 y.0) y.1 else None) (front_back 4 (to_be_bytes w32 (length bytes)) (bytes ++ x) refl)
    ∙ ap (λ n. if nat_le n longest_text then front_and_rest n (bytes ++ x) else None) (from_be_bytes-to_be_bytes_4 (length bytes) small)
    ∙ ap (λ b. if b then front_and_rest (length bytes) (bytes ++ x) else None) within
    ∙ front_back (length bytes) bytes x refl

text_back : (bytes x : List ℕ) → FitsValue (value.Text bytes) → text_and_rest (to_be_bytes w32 (length bytes) ++ (bytes ++ x)) ≡ Some (bytes, x)
unfolding text_and_rest
text_back bytes x fits =
    ap (λ o. o >>= λ y. if is_utf8 y.0 then Some y else None) (text_bytes_back bytes x fits.1)
    ∙ ap (λ b. if b then Some (bytes, x) else None) fits.0

pub value_back : (v : Value) (x : List ℕ) → FitsValue v → value_and_rest (value_encoding v ++ x) ≡ Some (v, x)
unfolding value_and_rest truth_and_rest
value_back (value.Int z) x fits = ap (option_map (λ y. (value.Int y.0, y.1))) (integer_back z x fits)
value_back (value.Text bytes) x fits = ap (option_map (λ y. (value.Text y.0, y.1))) (text_back bytes x fits)
value_back (value.Bool true) x fits = refl
value_back (value.Bool false) x fits = refl

pub values_back : (row : List Value) (x : List ℕ) → AllByRecursion FitsValue row → values_and_rest (length row) (flat_map value_encoding row ++ x) ≡ Some (row, x)
unfolding values_and_rest
values_back [] x fits = refl
values_back (v ∷ row) x fits =
    ap (λ bytes. value_and_rest bytes >>= λ first. values_and_rest (length row) first.1 >>= λ more. Some (first.0 ∷ more.0, more.1)) (append_assoc (value_encoding v) (flat_map value_encoding row) x)
    ∙ ap (λ o. o >>= λ first. values_and_rest (length row) first.1 >>= λ more. Some (first.0 ∷ more.0, more.1)) (value_back v (flat_map value_encoding row ++ x) fits.0)
    ∙ ap (λ o. o >>= λ more. Some (v ∷ more.0, more.1)) (values_back row x fits.1)

pub row_back : (row : List Value) (x : List ℕ) → FitsRow row → row_and_rest (row_encoding row ++ x) ≡ Some (row, x)
unfolding row_and_rest
row_back row x fits =
    ap (λ b. if b then values_and_rest (length row) (flat_map value_encoding row ++ x) else None) (holds_le (length row) most_values fits.short)
    ∙ values_back row x fits.each

abbrev the_value : {X : Type 0} → X → Option X → X
the_value d None = d
the_value d (Some x) = x

pub row_one : (r s : List Value) (x y : List ℕ) → FitsRow r → FitsRow s → row_encoding r ++ x ≡ row_encoding s ++ y → (r ≡ s) × (x ≡ y)
row_one r s x y fits_r fits_s e =
    let same : Some (r, x) ≡ Some (s, y) = sym (row_back r x fits_r) ∙ ap row_and_rest e ∙ row_back s y fits_s in
    (ap (λ o. (the_value {X = List Value × List ℕ} (r, x) o).0) same, ap (λ o. (the_value {X = List Value × List ℕ} (r, x) o).1) same)
