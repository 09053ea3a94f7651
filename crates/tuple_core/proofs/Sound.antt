-- What is read from bytes is a value, or a row, whose encoding they begin with.
use Rattle.std.proofs.Common.{FitsSigned, ◌≡◌, ℕ, zero, suc, ◌+◌, ◌^◌, ◌<◌, ◌≤◌, nat_le, Bool, true, false, ◌==◌, List, [], ◌∷◌, ◌++◌, length, get_or, take, drop, Option, Some, None, option_map, if◌then◌else◌, refl, sym, ap, ◌∙◌, subst, arith, append_assoc, inl, inr, lit<, Fits, length-append, length-drop}
use Rattle.std.specs.Int.{w32, w64, to_be_bytes, from_be_bytes, cast_signed, cast_unsigned, from_bool, w8}
use Rattle.std.specs.List.{AllByRecursion, flat_map}
use Rattle.std.specs.Option.{IfSome, MatchOption}
use Rattle.std.specs.Str.{is_utf8}
use Rattle.std.proofs.lemmas.Bool.{cases_lt}
use Rattle.std.proofs.lemmas.Bool.Decides.{nat_tests, Decides-eqb}
use Rattle.std.proofs.lemmas.Int.{of_z-to_z}
use Rattle.std.proofs.lemmas.List.{take_at, get_or-drop, get_or-take, get_or_past, take-append-drop, length-take, length-take-le}
use Rattle.std.proofs.Math.Facts.{sfits_to_z}
use Rattle.std.proofs.lemmas.Nat.{be_bytes_4, be_bytes_8}
use Rattle.tuple_core.proofs.Back.{row_back}
use Rattle.tuple_core.proofs.Weighing.{row_weighs}
use Rattle.med_prelude.specs.Texts.{Bytes}
use Rattle.tuple_core.specs.Decoding.{AreBytes, BeginsAt, front_and_rest, integer_and_rest, text_bytes_and_rest, text_and_rest, truth_and_rest, value_and_rest, values_and_rest, row_and_rest, row_at, ◌>>=◌}
use Rattle.tuple_core.specs.Encoding.{row_encoding, row_weight, value_encoding}
use Rattle.tuple_core.specs.Values.{FitsRow, FitsValue, RowValues, longest_text, most_values}
use Rattle.tuple_core.specs.declared.value.Value.{Value}
use Rattle.tuple_core.specs.declared.value.Value.TheVariants as value

AreBytes-drop : (n : ℕ) (bytes : List ℕ) → AreBytes bytes → AreBytes (drop n bytes)
AreBytes-drop n bytes h = record { small = λ i. rw (get_or-drop n bytes i 0) (h.small (n + i)) }

AreBytes-take : (n : ℕ) (bytes : List ℕ) → AreBytes bytes → AreBytes (take n bytes)
AreBytes-take n bytes h = record { small = small }
  where
    small : (i : ℕ) → get_or (take n bytes) i 0 < 256
    small i = elim (cases_lt i n) [ inl below ↦ rw (get_or-take n bytes i 0 below) (h.small i) | inr above ↦ rw (get_or_past (take n bytes) i 0 (omega (arith, length-take n bytes))) (lit< tt) ]

AreBytes-tail : (b : ℕ) (bytes : List ℕ) → AreBytes (b ∷ bytes) → AreBytes bytes
AreBytes-tail b bytes h = AreBytes-drop 1 (b ∷ bytes) h

if_then : {X : Type 0} (o : Option X) {Y : Type 0} (f : X → Option Y) (P : Y → Type 0) → IfSome o (λ x. IfSome (f x) P) → IfSome (o >>= f) P
if_then None f P h = tt
if_then (Some x) f P h = h

IfSome-implied : {X : Type 0} (o : Option X) (P Q : X → Type 0) → IfSome o P → ((x : X) → P x → Q x) → IfSome o Q
IfSome-implied None P Q h f = tt
IfSome-implied (Some x) P Q h f = f x h

if_test : {X : Type 0} (b : Bool) (o : Option X) (P : X → Type 0) → (b ≡ true → IfSome o P) → IfSome (if b then o else None) P
if_test true o P h = h refl
if_test false o P h = tt

if_either : {X : Type 0} (b : Bool) (o p : Option X) (P : X → Type 0) → (b ≡ true → IfSome o P) → IfSome p P → IfSome (if b then o else p) P
if_either true o p P h g = h refl
if_either false o p P h g = g

IfSome-map : {X Y : Type 0} (o : Option X) (f : X → Y) (P : Y → Type 0) → IfSome o (λ x. P (f x)) → IfSome (option_map f o) P
IfSome-map None f P h = tt
IfSome-map (Some x) f P h = h

le_holds : (m n : ℕ) → nat_le m n ≡ true → m ≤ n
le_holds m n h = grind (arith, nat_tests)

record IsFront (count : ℕ) (bytes : List ℕ) (x : List ℕ × List ℕ) : Type 0 where
  whole : bytes ≡ x.0 ++ x.1
  long : length x.0 ≡ count
  front : AreBytes x.0
  rest : AreBytes x.1

front_sound : (count : ℕ) (bytes : List ℕ) → AreBytes bytes → IfSome (front_and_rest count bytes) (IsFront count bytes)
unfolding front_and_rest
front_sound count bytes h = if_test (nat_le count (length bytes)) _ _ (λ e. record {
  whole = sym (take-append-drop count bytes);
  long = length-take-le count bytes (le_holds _ _ e);
  front = AreBytes-take count bytes h;
  rest = AreBytes-drop count bytes h;
})

-- a part that is read, what it stands for, and the bytes after it
record IsRead {X : Type 0} (Fits : X → Type 0) (encoding : X → List ℕ) (bytes : List ℕ) (x : X × List ℕ) : Type 0 where
  whole : bytes ≡ encoding x.0 ++ x.1
  fits : Fits x.0
  rest : AreBytes x.1

integer_read : (bytes : List ℕ) (x : List ℕ × List ℕ) → IsFront 8 bytes x
    → IsRead (FitsSigned w64) (λ z. to_be_bytes w64 (cast_unsigned w64 z)) bytes (cast_signed w64 (from_be_bytes w64 x.0), x.1)
integer_read bytes x front = record {
  whole = front.whole ∙ ap (λ bs. bs ++ x.1) (sym written);
  fits = sfits_to_z (record { fits = below });
  rest = front.rest;
}
  where
    below : from_be_bytes w64 x.0 < 2 ^ 64
    below =
        let small = front.front.small in
        omega (arith, small 0, small 1, small 2, small 3, small 4, small 5, small 6, small 7)

    written : to_be_bytes w64 (cast_unsigned w64 (cast_signed w64 (from_be_bytes w64 x.0))) ≡ x.0
    written = ap (to_be_bytes w64) (of_z-to_z w64 (from_be_bytes w64 x.0) below) ∙ be_bytes_8 x.0 (from_be_bytes w64 x.0) front.long front.front.small refl

integer_sound : (bytes : List ℕ) → AreBytes bytes
    → IfSome (integer_and_rest bytes) (IsRead (FitsSigned w64) (λ z. to_be_bytes w64 (cast_unsigned w64 z)) bytes)
unfolding integer_and_rest
integer_sound bytes h = if_then (front_and_rest 8 bytes) _ _ (IfSome-implied (front_and_rest 8 bytes) (IsFront 8 bytes) _ (front_sound 8 bytes h) (integer_read bytes))

abbrev IsShort : List ℕ → Type 0
IsShort text = length text ≤ longest_text

abbrev behind_length : List ℕ → List ℕ
behind_length text = to_be_bytes w32 (length text) ++ text

text_read : (bytes : List ℕ) (x y : List ℕ × List ℕ) → IsFront 4 bytes x → from_be_bytes w32 x.0 ≤ longest_text
    → IsFront (from_be_bytes w32 x.0) x.1 y → IsRead IsShort behind_length bytes y
text_read bytes x y size short front = record {
  whole = size.whole ∙ ap (λ bs. bs ++ x.1) (sym written) ∙ ap (λ bs. to_be_bytes w32 (length y.0) ++ bs) front.whole ∙ sym (append_assoc (to_be_bytes w32 (length y.0)) y.0 y.1);
  fits = rw front.long short;
  rest = front.rest;
}
  where
    written : to_be_bytes w32 (length y.0) ≡ x.0
    written = be_bytes_4 x.0 (length y.0) size.long size.front.small front.long

text_bytes_sound : (bytes : List ℕ) → AreBytes bytes → IfSome (text_bytes_and_rest bytes) (IsRead IsShort behind_length bytes)
unfolding text_bytes_and_rest
text_bytes_sound bytes h = if_then (front_and_rest 4 bytes) _ _ (IfSome-implied (front_and_rest 4 bytes) (IsFront 4 bytes) _ (front_sound 4 bytes h) (λ x size.
    if_test (nat_le (from_be_bytes w32 x.0) longest_text) _ _ (λ e.
    IfSome-implied (front_and_rest (from_be_bytes w32 x.0) x.1) (IsFront (from_be_bytes w32 x.0) x.1) _ (front_sound (from_be_bytes w32 x.0) x.1 size.rest) (λ y. text_read bytes x y size (le_holds _ _ e)))))

text_sound : (bytes : List ℕ) → AreBytes bytes → IfSome (text_and_rest bytes) (IsRead (λ text. FitsValue (value.Text text)) behind_length bytes)
unfolding text_and_rest
text_sound bytes h = if_then (text_bytes_and_rest bytes) _ _ (IfSome-implied (text_bytes_and_rest bytes) (IsRead IsShort behind_length bytes) _ (text_bytes_sound bytes h) (λ x read.
    if_test (is_utf8 x.0) _ _ (λ e. record { whole = read.whole; fits = (e, read.fits); rest = read.rest })))

truth_sound : (bytes : List ℕ) → AreBytes bytes → IfSome (truth_and_rest bytes) (IsRead (λ b. Unit {0}) (λ b. from_bool b ∷ []) bytes)
unfolding truth_and_rest
truth_sound [] h = tt
truth_sound (b ∷ bytes) h =
    if_either (b == 0) _ _ _ (λ e. record { whole = ap (λ n. n ∷ bytes) ((Decides-eqb b 0).0 e); fits = tt; rest = AreBytes-tail b bytes h })
    (if_test (b == 1) _ _ (λ e. record { whole = ap (λ n. n ∷ bytes) ((Decides-eqb b 1).0 e); fits = tt; rest = AreBytes-tail b bytes h }))

value_sound : (bytes : List ℕ) → AreBytes bytes → IfSome (value_and_rest bytes) (IsRead FitsValue value_encoding bytes)
unfolding value_and_rest
value_sound [] h = tt
value_sound (kind ∷ bytes) h =
    let rest = AreBytes-tail kind bytes h in
    if_either (kind == 1) _ _ _ (λ e. IfSome-map (integer_and_rest bytes) _ _ (IfSome-implied (integer_and_rest bytes) _ _ (integer_sound bytes rest) (λ x read.
    record { whole = ap (λ n. n ∷ bytes) ((Decides-eqb kind 1).0 e) ∙ ap (λ bs. 1 ∷ bs) read.whole; fits = read.fits; rest = read.rest })))
    (if_either (kind == 2) _ _ _ (λ e. IfSome-map (text_and_rest bytes) _ _ (IfSome-implied (text_and_rest bytes) _ _ (text_sound bytes rest) (λ x read.
    record { whole = ap (λ n. n ∷ bytes) ((Decides-eqb kind 2).0 e) ∙ ap (λ bs. 2 ∷ bs) read.whole; fits = read.fits; rest = read.rest })))
    (if_test (kind == 3) _ _ (λ e. IfSome-map (truth_and_rest bytes) _ _ (IfSome-implied (truth_and_rest bytes) _ _ (truth_sound bytes rest) (λ x read.
    record { whole = ap (λ n. n ∷ bytes) ((Decides-eqb kind 3).0 e) ∙ ap (λ bs. 3 ∷ bs) read.whole; fits = read.fits; rest = read.rest })))))

record AreRead (count : ℕ) (bytes : List ℕ) (x : List Value × List ℕ) : Type 0 where
  whole : bytes ≡ flat_map value_encoding x.0 ++ x.1
  long : length x.0 ≡ count
  fits : AllByRecursion FitsValue x.0
  rest : AreBytes x.1

values_sound : (count : ℕ) (bytes : List ℕ) → AreBytes bytes → IfSome (values_and_rest count bytes) (AreRead count bytes)
unfolding values_and_rest
values_sound zero bytes h = record { whole = refl; long = refl; fits = tt; rest = h }
values_sound (suc count) bytes h =
    if_then (value_and_rest bytes) _ _ (IfSome-implied (value_and_rest bytes) (IsRead FitsValue value_encoding bytes) _ (value_sound bytes h) (λ first read.
    if_then (values_and_rest count first.1) _ _ (IfSome-implied (values_and_rest count first.1) (AreRead count first.1) _ (values_sound count first.1 read.rest) (λ more are. record {
      whole = read.whole ∙ ap (λ bs. value_encoding first.0 ++ bs) are.whole ∙ sym (append_assoc (value_encoding first.0) (flat_map value_encoding more.0) more.1);
      long = ap suc are.long;
      fits = (read.fits, are.fits);
      rest = are.rest;
    }))))

-- what is read behind a count fits a row
pub values_fit : (whole : List ℕ) (count : ℕ) (bytes : List ℕ) (x : List Value × List ℕ) → ((i : ℕ) → Fits w8 (get_or whole i 0))
    → whole ≡ count ∷ bytes → count ≤ most_values → Some x ≡ values_and_rest count bytes → FitsRow x.0
values_fit whole count bytes x h e short read =
    let small : AreBytes (count ∷ bytes) = subst AreBytes e (record { small = λ i. (h i).fits }) in
    let are : IfSome (Some x) (AreRead count bytes) = subst (λ o. IfSome o (AreRead count bytes)) (sym read) (values_sound count bytes (AreBytes-tail count bytes small)) in
    record { short = omega (arith, are.long); each = are.fits }

row_sound : (bytes : List ℕ) → AreBytes bytes → IfSome (row_and_rest bytes) (IsRead FitsRow row_encoding bytes)
unfolding row_and_rest
row_sound [] h = tt
row_sound (count ∷ bytes) h = if_test (nat_le count most_values) _ _ (λ e. IfSome-implied (values_and_rest count bytes) (AreRead count bytes) _ (values_sound count bytes (AreBytes-tail count bytes h)) (λ x are. record {
  whole = ap (λ n. n ∷ bytes) (sym are.long) ∙ ap (λ bs. length x.0 ∷ bs) are.whole;
  fits = record { short = omega (arith, are.long, le_holds _ _ e); each = are.fits };
  rest = are.rest;
}))

read_at : (whole : List ℕ) (at : ℕ) (x : List Value × List ℕ) → ((i : ℕ) → Fits w8 (get_or whole i 0)) → Some x ≡ row_and_rest (drop at whole)
    → IsRead FitsRow row_encoding (drop at whole) x
read_at whole at x h read =
    let sound = row_sound (drop at whole) (AreBytes-drop at whole (record { small = λ i. (h i).fits })) in
    let there : IfSome (Some x) (IsRead FitsRow row_encoding (drop at whole)) = subst (λ o. IfSome o (IsRead FitsRow row_encoding (drop at whole))) (sym read) sound in
    there

-- the row that is read at an offset begins there
pub begins : (whole : List ℕ) (at : ℕ) (x : List Value × List ℕ) → ((i : ℕ) → Fits w8 (get_or whole i 0)) → Some x ≡ row_and_rest (drop at whole) → BeginsAt whole at x.0
begins whole at x h read = let there = read_at whole at x h read in (there.fits, (x.1, there.whole))

-- and ends before what is left
pub ends : (whole : List ℕ) (at : ℕ) (x : List Value × List ℕ) → ((i : ℕ) → Fits w8 (get_or whole i 0)) → at ≤ length whole → Some x ≡ row_and_rest (drop at whole)
    → length whole ≡ at + row_weight x.0 + length x.1
ends whole at x h inside read =
    let there = read_at whole at x h read in
    let lengths : length (drop at whole) ≡ length (row_encoding x.0 ++ x.1) = ap (λ bs. length bs) there.whole in
    omega (arith, lengths, length-drop at whole, length-append (row_encoding x.0) x.1, row_weighs x.0)

-- where none is read, none begins
pub none_begins : (whole : List ℕ) (at : ℕ) → None ≡ row_and_rest (drop at whole) → (row : List Value) → ¬ (BeginsAt whole at row)
none_begins whole at none row there =
    let some : None ≡ Some (row, there.1.0) = none ∙ ap row_and_rest there.1.1 ∙ row_back row there.1.0 there.0 in
    let told : Option (List Value × List ℕ) → Type 0 = λ o. MatchOption o (Unit {0}) (λ x. ⊥) in
    subst told some tt

-- where a row is read, the bytes begin with its encoding, of so many bytes as are told
pub record IsReadFrom (bytes : Bytes) (read : RowValues × ℕ) : Type 0 where
  pub fits : FitsRow read.0
  pub encoding : take read.1 bytes ≡ row_encoding read.0

read_from : (bytes : Bytes) (x : RowValues × Bytes) → IsRead FitsRow row_encoding bytes x → IsReadFrom bytes (x.0, row_weight x.0)
read_from bytes x read = record {
  fits = read.fits;
  encoding = ap (take (row_weight x.0)) read.whole ∙ take_at (row_encoding x.0) x.1 (row_weight x.0) (sym (row_weighs x.0));
}

pub row_at_read : (bytes : Bytes) (row : RowValues) (count : ℕ) → AreBytes bytes → row_at bytes ≡ Some (row, count) → IsReadFrom bytes (row, count)
row_at_read bytes row count h read =
    let sound : IfSome (row_at bytes) (IsReadFrom bytes) =
    IfSome-map (row_and_rest bytes) _ _ (IfSome-implied (row_and_rest bytes) (IsRead FitsRow row_encoding bytes) _ (row_sound bytes h) (read_from bytes)) in
    let there : IfSome (Some (row, count)) (IsReadFrom bytes) = subst (λ o. IfSome o (IsReadFrom bytes)) read sound in
    there
