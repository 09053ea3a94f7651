-- An entry is read back from its bytes, and what is read is an entry whose bytes these are.
use Rattle.std.proofs.Common.{◌≡◌, ℕ, ◌+◌, ◌==◌, ◌^◌, ◌<◌, ◌≤◌, nat_le, Bool, true, false, List, [], ◌∷◌, ◌++◌, length, get_or, take, drop, Option, Some, None, option_map, if◌then◌else◌, refl, sym, ap, ap₂, subst, ◌∙◌, arith, append_assoc, append-nil, inl, inr, lit<, Fits, length-append}
use Rattle.std.specs.Int.{w64, w8, to_be_bytes, from_be_bytes}
use Rattle.std.specs.List.{AllByRecursion}
use Rattle.std.specs.Option.{IfSome, option_map_or}
use Rattle.std.proofs.lemmas.Bool.{cases_lt}
use Rattle.std.proofs.lemmas.Bool.Decides.{nat_tests, Decides-eqb}
use Rattle.std.proofs.lemmas.List.{take_at, drop_at, get_or-drop, get_or-take, get_or_past, take-append-drop, length-take, length-take-le}
use Rattle.std.proofs.lemmas.Nat.{be_bytes_8, from_be_bytes-to_be_bytes_8}
use Rattle.std.proofs.lemmas.Option.{none-some, option_and_then_some, same_Some}
use Rattle.med_prelude.specs.Texts.{Bytes}
use Rattle.tuple_core.proofs.Back.{row_back}
use Rattle.tuple_core.proofs.Sound.{begins}
use Rattle.tuple_core.specs.Decoding.{AreBytes, front_and_rest, row_and_rest, ◌>>=◌}
use Rattle.tuple_core.specs.Encoded.{IsEncoding, row_of, values_read}
use Rattle.tuple_core.specs.Encoding.{row_encoding}
use Rattle.tuple_core.specs.Values.{FitsRow, RowValues}
use Rattle.spill_blocks.specs.Blocks.{entries_encoding, entry_encoding}
use Rattle.spill_blocks.specs.Entries.{kept_as, spooled}
use Rattle.spill_blocks.specs.Reading.{BeginsWith, IsEntry, entries_in, entry_and_rest, number_and_rest, wide_row_and_rest}
use Rattle.spill_blocks.specs.declared.entries.Kept.{Kept}
use Rattle.spill_blocks.specs.declared.form.EntryForm.{EntryForm}
use Rattle.spill_blocks.specs.declared.form.EntryForm.TheVariants.{Join, Spool}

-- ---- rows

pub encoded : (row : RowValues) → FitsRow row → row_of (row_encoding row) ≡ row
encoded row fits = ap (λ bytes. values_read (row_and_rest bytes)) (sym (append-nil (row_encoding row))) ∙ ap values_read (row_back row [] fits)

pub is_encoding : (row : RowValues) → FitsRow row → IsEncoding (row_encoding row)
is_encoding row fits = record {
  fits = subst FitsRow (sym (encoded row fits)) fits;
  is = ap row_encoding (encoded row fits);
}

-- a row that is read, and the bytes that it is read from
pub record IsRow (bytes : Bytes) (x : RowValues × Bytes) : Type 0 where
  pub fits : FitsRow x.0
  pub whole : bytes ≡ row_encoding x.0 ++ x.1

byte_fits : (bytes : Bytes) → AreBytes bytes → (i : ℕ) → Fits w8 (get_or bytes i 0)
byte_fits bytes small i = record { fits = small.small i }

pub row_parts : (bytes : Bytes) (x : RowValues × Bytes) → AreBytes bytes → Some x ≡ row_and_rest bytes → IsRow bytes x
row_parts bytes x small read =
    let b = begins bytes 0 x (byte_fits bytes small) read in
    let back : row_and_rest bytes ≡ Some (x.0, b.1.0) = ap row_and_rest b.1.1 ∙ row_back x.0 b.1.0 b.0 in
    let same : x ≡ (x.0, b.1.0) = same_Some x (x.0, b.1.0) (read ∙ back) in
    record { fits = b.0; whole = b.1.1 ∙ ap (λ y. row_encoding x.0 ++ y) (sym (ap (λ (y : RowValues × Bytes). y.1) same)) }

if_wide : (width : ℕ) → Option (RowValues × Bytes) → Option (RowValues × Bytes)
if_wide width o = o >>= λ x. if length x.0 == width then Some x else None

wide_is : (width : ℕ) (bytes : Bytes) → wide_row_and_rest width bytes ≡ if_wide width (row_and_rest bytes)
unfolding wide_row_and_rest if_wide
wide_is width bytes = refl

same_width : (m n : ℕ) → m ≡ n → (m == n) ≡ true
same_width m n e = (Decides-eqb m n).1 e

if_wide_back : (width : ℕ) (row : RowValues) (x : Bytes) → length row ≡ width → if_wide width (Some (row, x)) ≡ Some (row, x)
unfolding if_wide
if_wide_back width row x e = ap (λ (b : Bool). if b then Some (row, x) else None) (same_width (length row) width e)

pub wide_back : (width : ℕ) (row : RowValues) (x : Bytes) → FitsRow row → length row ≡ width → wide_row_and_rest width (row_encoding row ++ x) ≡ Some (row, x)
wide_back width row x fits e = wide_is width (row_encoding row ++ x) ∙ ap (if_wide width) (row_back row x fits) ∙ if_wide_back width row x e

-- a row that is read is of that width
if_wide_parts : (width : ℕ) (o : Option (RowValues × Bytes)) (x : RowValues × Bytes) → Some x ≡ if_wide width o → (Some x ≡ o) × (length x.0 ≡ width)
unfolding if_wide
if_wide_parts width None x e = absurd (none-some x (sym e))
if_wide_parts width (Some y) x e = go (length y.0 == width) refl e
  where
    go : (b : Bool) → (length y.0 == width) ≡ b → Some x ≡ (if b then Some y else None) → (Some x ≡ Some y) × (length x.0 ≡ width)
    go true t f = (f, ap (λ (z : RowValues × Bytes). length z.0) (same_Some x y f) ∙ (Decides-eqb (length y.0) width).0 t)
    go false t f = absurd (none-some x (sym f))

pub wide_parts : (width : ℕ) (bytes : Bytes) (x : RowValues × Bytes) → Some x ≡ wide_row_and_rest width bytes → (Some x ≡ row_and_rest bytes) × (length x.0 ≡ width)
wide_parts width bytes x e = if_wide_parts width (row_and_rest bytes) x (e ∙ wide_is width bytes)

-- ---- numbers

holds_le : (m n : ℕ) → m ≤ n → nat_le m n ≡ true
holds_le m n h = grind (arith, nat_tests)

pub front_back : (count : ℕ) (front x : Bytes) → length front ≡ count → front_and_rest count (front ++ x) ≡ Some (front, x)
unfolding front_and_rest
front_back count front x e =
    let inside : nat_le count (length (front ++ x)) ≡ true = holds_le _ _ (omega (arith, length-append front x)) in
    rw (inside, take_at front x count e, drop_at front x count e) refl

number_back : (n : ℕ) (x : Bytes) → n < 2 ^ 64 → number_and_rest (to_be_bytes w64 n ++ x) ≡ Some (n, x)
unfolding number_and_rest
number_back n x small =
    ap (option_map (λ (y : Bytes × Bytes). (from_be_bytes w64 y.0, y.1))) (front_back 8 (to_be_bytes w64 n) x refl)
    ∙ ap (λ m. Some (m, x)) (from_be_bytes-to_be_bytes_8 n small)

bytes_rest : (n : ℕ) (bytes : Bytes) → AreBytes bytes → AreBytes (drop n bytes)
bytes_rest n bytes h = record { small = λ i. rw (get_or-drop n bytes i 0) (h.small (n + i)) }

front_byte : (n : ℕ) (bytes : Bytes) → AreBytes bytes → (i : ℕ) → get_or (take n bytes) i 0 < 256
front_byte n bytes h i = elim (cases_lt i n) [ inl below ↦ rw (get_or-take n bytes i 0 below) (h.small i) | inr above ↦ rw (get_or_past (take n bytes) i 0 (omega (arith, length-take n bytes))) (lit< tt) ]

record IsNumber (bytes : Bytes) (x : ℕ × Bytes) : Type 0 where
  whole : bytes ≡ to_be_bytes w64 x.0 ++ x.1
  small : x.0 < 2 ^ 64
  rest : AreBytes x.1

number_from : (bytes : Bytes) → AreBytes bytes → 8 ≤ length bytes → IsNumber bytes (from_be_bytes w64 (take 8 bytes), drop 8 bytes)
number_from bytes h long = record {
  whole = sym (take-append-drop 8 bytes) ∙ ap (λ bs. bs ++ drop 8 bytes) (sym written);
  small = below;
  rest = bytes_rest 8 bytes h;
}
  where
    front_small : (i : ℕ) → get_or (take 8 bytes) i 0 < 256
    front_small i = front_byte 8 bytes h i

    written : to_be_bytes w64 (from_be_bytes w64 (take 8 bytes)) ≡ take 8 bytes
    written = be_bytes_8 (take 8 bytes) (from_be_bytes w64 (take 8 bytes)) (length-take-le 8 bytes long) front_small refl

    below : from_be_bytes w64 (take 8 bytes) < 2 ^ 64
    below = omega (arith, front_small 0, front_small 1, front_small 2, front_small 3, front_small 4, front_small 5, front_small 6, front_small 7)

le_holds : (m n : ℕ) → nat_le m n ≡ true → m ≤ n
le_holds m n h = grind (arith, nat_tests)

number_parts : (bytes : Bytes) (x : ℕ × Bytes) → AreBytes bytes → Some x ≡ number_and_rest bytes → IsNumber bytes x
unfolding number_and_rest front_and_rest
number_parts bytes x h e = go (nat_le 8 (length bytes)) refl e
  where
    go : (b : Bool) → nat_le 8 (length bytes) ≡ b → Some x ≡ option_map (λ (y : Bytes × Bytes). (from_be_bytes w64 y.0, y.1)) (if b then Some (take 8 bytes, drop 8 bytes) else None) → IsNumber bytes x
    go true t f = subst (IsNumber bytes) (sym (same_Some x (from_be_bytes w64 (take 8 bytes), drop 8 bytes) f)) (number_from bytes h (le_holds 8 (length bytes) t))
    go false t f = absurd (none-some x (sym f))

-- ---- entries

abbrev after_row : ℕ → ℕ → RowValues × Bytes → Option (Kept × Bytes)
after_row a d row = Some (kept_as a d row.0, row.1)

abbrev after_d : ℕ → ℕ → ℕ × Bytes → Option (Kept × Bytes)
after_d width a d = wide_row_and_rest width d.1 >>= after_row a d.0

abbrev after_a : ℕ → ℕ × Bytes → Option (Kept × Bytes)
after_a width a = number_and_rest a.1 >>= after_d width a.0

in_front : (a d row x : Bytes) → ((a ++ d) ++ row) ++ x ≡ a ++ (d ++ (row ++ x))
in_front a d row x = append_assoc (a ++ d) row x ∙ append_assoc a d (row ++ x)

pub entry_back : (form : EntryForm) (width : ℕ) (kept : Kept) (x : Bytes) → IsEntry form width kept → entry_and_rest form width (entry_encoding form kept ++ x) ≡ Some (kept, x)
unfolding entry_and_rest entry_encoding
entry_back Join width kept x is =
    let a = to_be_bytes w64 kept.a in
    let d = to_be_bytes w64 kept.d in
    let row = row_encoding kept.row in
    ap (λ bs. number_and_rest bs >>= after_a width) (in_front a d row x)
    ∙ ap (λ o. o >>= after_a width) (number_back kept.a (d ++ (row ++ x)) is.fits.a)
    ∙ ap (λ o. o >>= after_d width kept.a) (number_back kept.d (row ++ x) is.fits.d)
    ∙ ap (λ o. o >>= after_row kept.a kept.d) (wide_back width kept.row x is.fits.row is.wide)
entry_back Spool width kept x is =
    ap (option_map (λ (row : RowValues × Bytes). (spooled row.0, row.1))) (wide_back width kept.row x is.fits.row is.wide)
    ∙ ap₂ (λ a d. Some (kept_as a d kept.row, x)) (sym is.formed.0) (sym is.formed.1)

abbrev IsFirst : EntryForm → ℕ → Bytes → Kept × Bytes → Type 0
IsFirst form width bytes x = BeginsWith form width bytes x.0 x.1

option_map_some : {A B P : Type 0} (f : A → B) (o : Option A) (y : B) → option_map f o ≡ Some y → ((x : A) → o ≡ Some x → f x ≡ y → P) → P
option_map_some f None y e k = absurd (none-some y e)
option_map_some f (Some x) y e k = k x refl (same_Some (f x) y e)

join_first : (width : ℕ) (bytes : Bytes) (a d : ℕ × Bytes) (row : RowValues × Bytes) → IsNumber bytes a → IsNumber a.1 d → IsRow d.1 row → length row.0 ≡ width
    → IsFirst Join width bytes (kept_as a.0 d.0 row.0, row.1)
unfolding entry_encoding
join_first width bytes a d row a_is d_is row_is wide = record {
  whole = a_is.whole ∙ ap (λ bs. to_be_bytes w64 a.0 ++ bs) (d_is.whole ∙ ap (λ bs. to_be_bytes w64 d.0 ++ bs) row_is.whole) ∙ sym (in_front (to_be_bytes w64 a.0) (to_be_bytes w64 d.0) (row_encoding row.0) row.1);
  entry = record { fits = record { a = a_is.small; d = d_is.small; row = row_is.fits }; wide = wide; formed = tt };
}

spool_first : (width : ℕ) (bytes : Bytes) (row : RowValues × Bytes) → IsRow bytes row → length row.0 ≡ width → IsFirst Spool width bytes (spooled row.0, row.1)
unfolding entry_encoding
spool_first width bytes row is wide = record {
  whole = is.whole;
  entry = record { fits = record { a = lit< tt; d = lit< tt; row = is.fits }; wide = wide; formed = (refl, refl) };
}

pub entry_parts : (form : EntryForm) (width : ℕ) (bytes : Bytes) (x : Kept × Bytes) → AreBytes bytes → Some x ≡ entry_and_rest form width bytes → IsFirst form width bytes x
unfolding entry_and_rest
entry_parts Join width bytes x h e =
    option_and_then_some {P = IsFirst Join width bytes x} (after_a width) (number_and_rest bytes) x (sym e) (λ a a_is more.
    option_and_then_some {P = IsFirst Join width bytes x} (after_d width a.0) (number_and_rest a.1) x more (λ d d_is rest.
    option_and_then_some {P = IsFirst Join width bytes x} (after_row a.0 d.0) (wide_row_and_rest width d.1) x rest (λ row row_is done.
    let a_parts = number_parts bytes a h (sym a_is) in
    let d_parts = number_parts a.1 d a_parts.rest (sym d_is) in
    let wide = wide_parts width d.1 row (sym row_is) in
    subst (IsFirst Join width bytes) (same_Some (kept_as a.0 d.0 row.0, row.1) x done) (join_first width bytes a d row a_parts d_parts (row_parts d.1 row d_parts.rest wide.0) wide.1))))
entry_parts Spool width bytes x h e =
    option_map_some {P = IsFirst Spool width bytes x} (λ (row : RowValues × Bytes). (spooled row.0, row.1)) (wide_row_and_rest width bytes) x (sym e) (λ row row_is done.
    let wide = wide_parts width bytes row (sym row_is) in
    subst (IsFirst Spool width bytes) done (spool_first width bytes row (row_parts bytes row h wide.0) wide.1))

-- the same of what a function gives
pub begins_with : {R : Type 0} (now : R → Bytes) (form : EntryForm) (width : ℕ) (bytes : Bytes) (o : Option (Kept × R)) → ((i : ℕ) → Fits w8 (get_or bytes i 0)) → option_map (λ (x : Kept × R). (x.0, now x.1)) o ≡ entry_and_rest form width bytes
    → IfSome o (λ x. BeginsWith form width bytes x.0 (now x.1))
begins_with now form width bytes None h e = tt
begins_with now form width bytes (Some x) h e = entry_parts form width bytes (x.0, now x.1) (record { small = λ i. (h i).fits }) e

-- entries are read back, whatever follows them
pub entries_back : (form : EntryForm) (width : ℕ) (es : List Kept) (x : Bytes) → AllByRecursion (IsEntry form width) es → entries_in form width (length es) (entries_encoding form es ++ x) ≡ es
unfolding entries_in
entries_back form width [] x all = refl
entries_back form width (e ∷ es) x all =
    ap (λ bs. option_map_or (λ (first : Kept × Bytes). first.0 ∷ entries_in form width (length es) first.1) (entry_and_rest form width bs) []) (append_assoc (entry_encoding form e) (entries_encoding form es) x)
    ∙ ap (λ o. option_map_or (λ (first : Kept × Bytes). first.0 ∷ entries_in form width (length es) first.1) o []) (entry_back form width e (entries_encoding form es ++ x) all.0)
    ∙ ap (λ more. e ∷ more) (entries_back form width es x all.1)

-- an entry takes a byte at least
pub entry_takes : (form : EntryForm) (kept : Kept) → 0 < length (entry_encoding form kept)
unfolding entry_encoding
entry_takes Join kept = omega (arith, length-append (to_be_bytes w64 kept.a ++ to_be_bytes w64 kept.d) (row_encoding kept.row))
entry_takes Spool kept = omega arith

pub entries_take : (form : EntryForm) (es : List Kept) → length es ≤ length (entries_encoding form es)
entries_take form [] = omega arith
entries_take form (e ∷ es) = omega (arith, length-append (entry_encoding form e) (entries_encoding form es), entry_takes form e, entries_take form es)
