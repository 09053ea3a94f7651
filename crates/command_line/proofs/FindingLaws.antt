-- From what the reader's matches give for an argument to what the definitions say of it.
use Rattle.std.proofs.Common.{◌≡◌, ◌∙◌, ◌^◌, ◌&&◌, ℕ, Bool, true, false, cond, [], ◌∷◌, Option, Some, None, Result, Ok, Err, ap, refl, sym, codes, option_map, unwrap_or, nat_lt, ltb-true, lt-ltb}
use Rattle.std.proofs.lemmas.Slice.Eq.{bytes_eq-Decides}
use Rattle.std.specs.Borrow.{Bor}
use Rattle.std.specs.Char.{digit_value}
use Rattle.std.specs.List.{list_all}
use Rattle.std.specs.Str.{bytes_eq}
use Rattle.std.specs.Str.Parse.{AllDigits, IsNumeral, ParsesBool, ParsesUnsigned, digits_value, without_leading_plus}
use Rattle.clap.specs.ValueTests.{is_numeral}
use Rattle.clap.specs.Words.{ReadsOne, first_value, one_of, one_text, rows_of}
use Rattle.clap.specs.declared.parser.matches.Found.{Found}
use Rattle.clap.proofs.WalkLemmas.{both, first_value-rows, one_text-rows}
use Rattle.med_prelude.specs.Texts.{Bytes}
use Rattle.command_line.specs.Commands.{is_set_at, number_at, number_of, optional_text_at, text_at}

-- the text of an argument, where the matches have one
pub text_found : (found : Found) (id : Bytes) (read : Option Bytes) → read ≡ first_value found id → read ≡ optional_text_at id (rows_of found)
unfolding optional_text_at
text_found found id read is = is ∙ first_value-rows found id

-- the text, or the empty one
pub text_or_empty : (found : Found) (id : Bytes) (read : Option (Bor Bytes)) (empty : Bor Bytes) → empty.now ≡ []
    → option_map (λ text. text.now) read ≡ first_value found id → (unwrap_or read empty).now ≡ text_at id (rows_of found)
unfolding text_at
text_or_empty found id None empty bare is = bare ∙ ap (λ text. unwrap_or text []) (is ∙ first_value-rows found id)
text_or_empty found id (Some text) empty bare is = ap (λ text. unwrap_or text []) (is ∙ first_value-rows found id)

all_pass : (digits : Bytes) → AllDigits 10 digits → list_all (λ d. nat_lt (digit_value d) 10) digits ≡ true
all_pass [] each = refl
all_pass (d ∷ digits) each = rw (lt-ltb (digit_value d) 10 each.0) (all_pass digits each.1)

each_digit : (digits : Bytes) → list_all (λ d. nat_lt (digit_value d) 10) digits ≡ true → AllDigits 10 digits
each_digit [] pass = tt
each_digit (d ∷ digits) pass = (ltb-true _ _ (both _ _ pass).0, each_digit digits (both _ _ pass).1)

numeral_passes : (digits : Bytes) → IsNumeral 10 digits → is_numeral digits ≡ true
numeral_passes digits is = rw (lt-ltb _ _ is.0) (all_pass digits is.1)

numeral_of : (digits : Bytes) → is_numeral digits ≡ true → IsNumeral 10 digits
numeral_of digits pass = (ltb-true _ _ (both _ _ pass).0, each_digit digits (both _ _ pass).1)

-- what is parsed as a number of 32 bits is the number that the text spells
parsed_number : (E : Type 0) (text : Bytes) (read : Option ℕ) → ReadsOne (ParsesUnsigned {E = E} 32 10) text read → read ≡ number_of text
parsed_number E text (Some n) parsed =
    let passes : is_numeral (without_leading_plus text) ≡ true = numeral_passes _ parsed.0.0 in
    let fits : nat_lt (digits_value 10 (without_leading_plus text)) (2 ^ 32) ≡ true = lt-ltb _ _ parsed.0.1 in
    let test : (is_numeral (without_leading_plus text) && nat_lt (digits_value 10 (without_leading_plus text)) (2 ^ 32)) ≡ true = rw passes fits in
    let spelled : number_of text ≡ Some (digits_value 10 (without_leading_plus text)) = ap (λ (b : Bool). cond b (Some (digits_value 10 (without_leading_plus text))) None) test in
    ap (λ (m : ℕ). Some m) parsed.1 ∙ sym spelled
parsed_number E text None (e, refuted) = go (is_numeral (without_leading_plus text) && nat_lt (digits_value 10 (without_leading_plus text)) (2 ^ 32)) refl
  where
    go : (b : Bool) → (is_numeral (without_leading_plus text) && nat_lt (digits_value 10 (without_leading_plus text)) (2 ^ 32)) ≡ b
        → None ≡ cond b (Some (digits_value 10 (without_leading_plus text))) None
    go true is = absurd (refuted (numeral_of _ (both _ _ is).0, ltb-true _ _ (both _ _ is).1))
    go false is = refl

-- a number that is read, or another one
pub number_or : (E : Type 0) (gives : Bytes → Result ℕ E → Type 0) (found : Found) (id : Bytes) (other : ℕ) (read : Option ℕ)
    → ((text : Bytes) (r : Result ℕ E) → gives text r → ParsesUnsigned 32 10 text r)
    → (one_text found id ≡ None → read ≡ None) → ((text : Bytes) → one_text found id ≡ Some text → ReadsOne gives text read)
    → unwrap_or read other ≡ number_at id other (rows_of found)
unfolding number_at
number_or E gives found id other read parses none some = go (one_text found id) refl (sym (one_text-rows found id))
  where
    reads : (text : Bytes) (r : Option ℕ) → ReadsOne gives text r → ReadsOne (ParsesUnsigned {E = E} 32 10) text r
    reads text (Some n) h = parses text (Ok n) h
    reads text None h = (h.0, parses text (Err h.0) h.1)

    go : (o : Option Bytes) → one_text found id ≡ o → one_of id (rows_of found) ≡ one_text found id → unwrap_or read other ≡ number_at id other (rows_of found)
    go None is same = rw (none is, same ∙ is) refl
    go (Some text) is same = rw (same ∙ is) (ap (λ r. unwrap_or r other) (parsed_number E text read (reads text read (some text is))))

-- a truth value that is read is whether the text is `true`
parsed_truth : (E : Type 0) (text : Bytes) (read : Option Bool) → ReadsOne (ParsesBool {E = E}) text read → unwrap_or read false ≡ bytes_eq text (codes "true")
parsed_truth E text (Some true) parsed = sym ((bytes_eq-Decides text (codes "true")).1 parsed)
parsed_truth E text (Some false) parsed = rw parsed refl
parsed_truth E text None (e, other) = go (bytes_eq text (codes "true")) refl
  where
    go : (b : Bool) → bytes_eq text (codes "true") ≡ b → false ≡ b
    go true is = absurd (other.0 ((bytes_eq-Decides text (codes "true")).0 is))
    go false is = refl

pub truth_or_false : (E : Type 0) (found : Found) (id : Bytes) (read : Option Bool) → (one_text found id ≡ None → read ≡ None)
    → ((text : Bytes) → one_text found id ≡ Some text → ReadsOne (ParsesBool {E = E}) text read) → unwrap_or read false ≡ is_set_at id (rows_of found)
unfolding is_set_at
truth_or_false E found id read none some = go (one_text found id) refl (sym (one_text-rows found id))
  where
    go : (o : Option Bytes) → one_text found id ≡ o → one_of id (rows_of found) ≡ one_text found id → unwrap_or read false ≡ is_set_at id (rows_of found)
    go None is same = rw (none is, same ∙ is) refl
    go (Some text) is same = rw (same ∙ is) (parsed_truth E text read (some text is))
