-- A numeral is read digit by digit.
use Rattle.std.proofs.Common.{◌≡◌, ℕ, ◌+◌, ◌*◌, ◌-◌, ◌<◌, ◌≤◌, Bool, true, false, ◌&&◌, nat_le, List, [], ◌∷◌, length, take, drop, get_or, Option, Some, None, if◌then◌else◌, refl, sym, ap, ◌∙◌, arith}
use Rattle.std.specs.Char.{is_ascii_digit}
use Rattle.std.specs.List.{fold}
use Rattle.std.proofs.lemmas.Bool.Decides.{nat_tests}
use Rattle.std.proofs.lemmas.Grind.{fold-append}
use Rattle.std.proofs.lemmas.List.{take-append-drop}
use Rattle.std.proofs.lemmas.List.Folds.{list_all_at}
use Rattle.std.proofs.lemmas.List.Sums.{fold_more}
use Rattle.tuple_core.specs.Parsing.{digits_number, numeral}

abbrev with_digit : ℕ → ℕ → ℕ
with_digit number digit = number * 10 + (digit - 48)

grows : (n : ℕ) (ds : List ℕ) → n ≤ fold with_digit n ds
grows n [] = omega arith
grows n (d ∷ ds) = let more : with_digit n d ≤ fold with_digit (with_digit n d) ds = grows (with_digit n d) ds in omega arith

of_front : (i : ℕ) (ds : List ℕ) → digits_number (take i ds) ≤ digits_number ds
of_front i ds =
    let e : fold with_digit 0 ds ≡ fold with_digit (fold with_digit 0 (take i ds)) (drop i ds) =
    ap (fold with_digit 0) (sym (take-append-drop i ds)) ∙ fold-append with_digit 0 (take i ds) (drop i ds) in
    rw e (grows (digits_number (take i ds)) (drop i ds))

none_if : (b : Bool) (x : ℕ) → b ≡ false → (if b then Some x else None) ≡ None
none_if b x e = rw e refl

false_if_none : (b : Bool) (x : ℕ) (r : Option ℕ) → r ≡ (if b then Some x else None) → r ≡ None → b ≡ false
false_if_none true x r e none = grind arith
false_if_none false x r e none = refl

second_fails : (a b c : Bool) → b ≡ false → (a && (b && c)) ≡ false
second_fails true b c e = rw e refl
second_fails false b c e = refl

third_fails : (a b c : Bool) → c ≡ false → (a && (b && c)) ≡ false
third_fails true true c e = e
third_fails true false c e = refl
third_fails false b c e = refl

-- a byte that is no digit, or whose digit makes the number too great, leaves no numeral
pub stops : (most : ℕ) (ds : List ℕ) (i : ℕ) (r : Option ℕ) → i < length ds
    → r ≡ (if is_ascii_digit (get_or ds i 0) && nat_le (digits_number (take i ds) * 10 + (get_or ds i 0 - 48)) most then Some (digits_number (take i ds) * 10 + (get_or ds i 0 - 48)) else None)
    → r ≡ None → numeral most ds ≡ None
stops most ds i r inside e none = cases (is_ascii_digit (get_or ds i 0)) refl
  where
    greater : nat_le (digits_number (take i ds) * 10 + (get_or ds i 0 - 48)) most ≡ false → nat_le (digits_number ds) most ≡ false
    greater h =
        let step = fold_more with_digit 0 ds i 0 inside in
        let front = of_front (i + 1) ds in
        grind (arith, nat_tests)

    cases : (b : Bool) → is_ascii_digit (get_or ds i 0) ≡ b → numeral most ds ≡ None
    cases true h =
        let failed = false_if_none _ _ r e none in
        none_if _ _ (third_fails _ _ _ (greater (rw h at failed)))
    cases false h = none_if _ _ (second_fails _ _ _ (list_all_at is_ascii_digit ds i 0 inside h))
