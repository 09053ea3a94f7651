-- Texts in quotes, byte by byte.
use Rattle.std.proofs.Common.{sym, ◌≤◌, ◌≡◌, ℕ, suc, ◌+◌, ◌==◌, Bool, true, false, if◌then◌else◌, List, [], ◌∷◌, ◌++◌, length, Option, Some, None, IfSome, append_assoc, add_assoc, arith, refl, ap, subst, ◌∙◌}
use Rattle.std.proofs.lemmas.Bool.Decides.{nat_tests}
use Rattle.text_reading.specs.Quoted.{IsQuoted, begins_quote, with_quotes_doubled, quoted_text, with_front}

-- a byte that is no quote stands for itself
pub plain : (b : ℕ) (bytes : List ℕ) → (b == 34) ≡ false → quoted_text (b ∷ bytes) ≡ with_front (b ∷ []) 1 (quoted_text bytes)
plain b [] e = rw e refl
plain b (c ∷ bytes) e = rw e refl

-- one quote ends the text
pub one_quote : (bytes : List ℕ) → begins_quote bytes ≡ false → quoted_text (34 ∷ bytes) ≡ Some ([], 1)
one_quote [] e = refl
one_quote (c ∷ bytes) e = rw e refl

pub in_front : (front more : List ℕ) (taken others : ℕ) (read : Option (List ℕ × ℕ)) → with_front front taken (with_front more others read) ≡ with_front (front ++ more) (taken + others) read
in_front front more taken others None = refl
in_front front more taken others (Some read) = rw (append_assoc, add_assoc) refl

pub front_none : (read : Option (List ℕ × ℕ)) → with_front [] 0 read ≡ read
front_none None = refl
front_none (Some read) = let e : 0 + read.1 ≡ read.1 = omega arith in rw e refl

-- a text that is written so is read back

is_quote : (b : ℕ) → (b == 34) ≡ true → b ≡ 34
is_quote b e = grind (arith, nat_tests)

back_byte : (b : ℕ) (test : Bool) (text rest : List ℕ) → (b == 34) ≡ test → quoted_text (with_quotes_doubled text ++ (34 ∷ rest)) ≡ Some (text, length (with_quotes_doubled text) + 1)
    → quoted_text (with_quotes_doubled (b ∷ text) ++ (34 ∷ rest)) ≡ Some (b ∷ text, length (with_quotes_doubled (b ∷ text)) + 1)
back_byte b true text rest e more =
    let count : 2 + (length (with_quotes_doubled text) + 1) ≡ suc (suc (length (with_quotes_doubled text))) + 1 = omega arith in
    rw (e, more, is_quote b e, count) refl
back_byte b false text rest e more =
    let count : 1 + (length (with_quotes_doubled text) + 1) ≡ suc (length (with_quotes_doubled text)) + 1 = omega arith in
    rw e (plain b (with_quotes_doubled text ++ (34 ∷ rest)) e ∙ rw (more, count) refl)

pub read_back : (text rest : List ℕ) → begins_quote rest ≡ false → quoted_text (with_quotes_doubled text ++ (34 ∷ rest)) ≡ Some (text, length (with_quotes_doubled text) + 1)
read_back [] rest e = one_quote rest e
read_back (b ∷ text) rest e = back_byte b (b == 34) text rest refl (read_back text rest e)

-- what is read was written so

abbrev IsReadAsWritten : List ℕ → Option (List ℕ × ℕ) → Type 0
IsReadAsWritten bytes None = Unit {0}
IsReadAsWritten bytes (Some read) = IsQuoted read.0 read.1 bytes

written_plain : (b : ℕ) (bytes : List ℕ) (read : Option (List ℕ × ℕ)) → (b == 34) ≡ false → IsReadAsWritten bytes read → IsReadAsWritten (b ∷ bytes) (with_front (b ∷ []) 1 read)
written_plain b bytes None e h = tt
written_plain b bytes (Some read) e h =
    let next : 1 + read.1 ≡ suc read.1 = omega arith in
    record { inside = omega (arith, h.inside); written = rw (next, e) (ap (λ more. b ∷ more) h.written); ends = rw next h.ends }

written_quote : (bytes : List ℕ) (read : Option (List ℕ × ℕ)) → IsReadAsWritten bytes read → IsReadAsWritten (34 ∷ 34 ∷ bytes) (with_front (34 ∷ []) 2 read)
written_quote bytes None h = tt
written_quote bytes (Some read) h =
    let next : 2 + read.1 ≡ suc (suc read.1) = omega arith in
    record { inside = omega (arith, h.inside); written = rw next (ap (λ more. 34 ∷ 34 ∷ more) h.written); ends = rw next h.ends }

pub read_as_written : (bytes : List ℕ) → IsReadAsWritten bytes (quoted_text bytes)
read_as_written [] = tt
read_as_written (b ∷ []) = last (b == 34) refl
  where
    last : (test : Bool) → (b == 34) ≡ test → IsReadAsWritten (b ∷ []) (if test then Some ([], 1) else None)
    last true e = record { inside = omega arith; written = rw (is_quote b e) refl; ends = refl }
    last false e = tt
read_as_written (b ∷ c ∷ bytes) = first (b == 34) (c == 34) refl refl (read_as_written bytes) (read_as_written (c ∷ bytes))
  where
    first : (test next : Bool) → (b == 34) ≡ test → (c == 34) ≡ next → IsReadAsWritten bytes (quoted_text bytes) → IsReadAsWritten (c ∷ bytes) (quoted_text (c ∷ bytes))
        → IsReadAsWritten (b ∷ c ∷ bytes) (if test then (if next then with_front (34 ∷ []) 2 (quoted_text bytes) else Some ([], 1)) else with_front (b ∷ []) 1 (quoted_text (c ∷ bytes)))
    first true true e f two one = rw (is_quote b e, is_quote c f) (written_quote bytes (quoted_text bytes) two)
    first true false e f two one = record { inside = omega arith; written = rw (is_quote b e) refl; ends = f }
    first false next e f two one = written_plain b (c ∷ bytes) (quoted_text (c ∷ bytes)) e one

pub read_written : (bytes text : List ℕ) (taken : ℕ) → quoted_text bytes ≡ Some (text, taken) → IsQuoted text taken bytes
read_written bytes text taken e = subst (IsReadAsWritten bytes) e (read_as_written bytes)

-- what is read lies within the bytes
pub quoted_text_within : (bytes : List ℕ) (read : Option (List ℕ × ℕ)) → read ≡ quoted_text bytes → IfSome read (λ r. r.1 ≤ length bytes)
quoted_text_within bytes None e = tt
quoted_text_within bytes (Some r) e = (read_written bytes r.0 r.1 (sym e)).inside
