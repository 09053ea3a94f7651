-- The words that name a part of a plan are the texts of the names whose numbers may stand in a name.
use Rattle.std.proofs.Common.{◌≡◌, ◌≢◌, ℕ, zero, suc, ◌+◌, ◌<◌, ◌≤◌, ◌^◌, ◌==◌, ◌&&◌, not, nat_le, Bool, true, false, cond, List, [], ◌∷◌, ◌++◌, length, take, drop, get_or, Option, Some, None, option_map, arith, refl, sym, ap, subst, ◌∙◌}
use Rattle.std.specs.Char.{is_ascii_digit}
use Rattle.std.specs.Fmt.{decimal}
use Rattle.std.specs.List.{list_all, prefix_len}
use Rattle.std.specs.Prelude.{slice_index}
use Rattle.std.proofs.lemmas.Bool.{and_parts, ne_eqb}
use Rattle.std.proofs.lemmas.Bool.Decides.{nat_tests}
use Rattle.std.proofs.lemmas.Fmt.{decimal-digits_value, decimal_digit, digits_decimal, digits_value-decimal, first_decimal}
use Rattle.std.proofs.lemmas.List.{append-nil, drop-drop, drop_at, get_or_at, get_or_past, length-append, take-append-drop, take_at}
use Rattle.std.proofs.lemmas.Str.Parse.{IsNumeralModel, numerals_by_fold}
use Rattle.std.proofs.Math.Seq.{drop-cons, take-length}
use Rattle.std.proofs.Common.{rules}
use Rattle.med_base.specs.declared.names.MemberName.{MemberName}
use Rattle.med_base.specs.declared.names.Name.{Name}
use Rattle.med_base.specs.declared.names.Name.TheVariants.{Member, Atom, Join, Fragment}
use Rattle.text_reading.specs.Runs.{digit_run}
use Rattle.rule_reader.specs.Naming.{IsNamed, IsNumbered, atom_or_member, begins_number, dotted, member_in, member_name, most_numbered, number_after, number_front, number_in, part_in, part_text, whole}

own : IsNumeralModel (λ ds. list_all is_ascii_digit ds ≡ true) (number_after 0)
own = numerals_by_fold _ (search rules) number_after (search rules)

run_passes : (p : ℕ → Bool) (bytes : List ℕ) → list_all p (take (prefix_len p bytes) bytes) ≡ true
run_passes p [] = refl
run_passes p (b ∷ bytes) = by (p b) refl (run_passes p bytes)
  where
    by : (t : Bool) → p b ≡ t → list_all p (take (prefix_len p bytes) bytes) ≡ true → list_all p (take (cond t (1 + prefix_len p bytes) 0) (b ∷ bytes)) ≡ true
    by false e more = refl
    by true e more =
        let next : 1 + prefix_len p bytes ≡ suc (prefix_len p bytes) = omega arith in
        rw (next, e) more

-- what is read is the text of a name

-- digits that don't begin with 0 write no 0
at_least_one : (d : ℕ) (digits : List ℕ) (n : ℕ) → d ≢ 48 → d ∷ digits ≡ decimal n → 1 ≤ n
at_least_one d digits zero front e = absurd (front (ap (λ (xs : List ℕ). get_or xs 0 0) (e ∙ decimal_digit 0 (omega arith))))
at_least_one d digits (suc n) front e = omega arith

number_text : (digits : List ℕ) (n : ℕ) → list_all is_ascii_digit digits ≡ true → number_in digits ≡ Some n → (digits ≡ decimal n) × IsNumbered n
number_text [] n all e = absurd (cc)
number_text (d ∷ digits) n all e = by (d == 48) (nat_le (number_after 0 (d ∷ digits)) most_numbered) refl refl e
  where
    by : (zero_front small : Bool) → (d == 48) ≡ zero_front → nat_le (number_after 0 (d ∷ digits)) most_numbered ≡ small
        → cond (not zero_front && small) (Some (number_after 0 (d ∷ digits))) None ≡ Some n → (d ∷ digits ≡ decimal n) × IsNumbered n
    by true small f s h = absurd (cc)
    by false false f s h = absurd (cc)
    by false true f s h =
        let value : number_after 0 (d ∷ digits) ≡ n = cc in
        let bound : number_after 0 (d ∷ digits) ≤ 999999 = grind (arith, nat_tests) in
        let front : d ≢ 48 = grind (arith, nat_tests) in
        let text : d ∷ digits ≡ decimal n = sym (decimal-digits_value own (d ∷ digits) all (omega arith) (λ z. absurd (front z)) (omega (arith, bound))) ∙ ap decimal value in
        (text, (at_least_one d digits n front text, omega (arith, bound, value)))

is_byte : (b letter : ℕ) → (b == letter) ≡ true → b ≡ letter
is_byte b letter e = grind (arith, nat_tests)

inside : {X : Type 0} (x y : X) → Some x ≡ Some y → x ≡ y
inside x y e = cc

front_text : (bytes : List ℕ) (n k : ℕ) → number_front bytes ≡ Some (n, k) → (take k bytes ≡ decimal n) × IsNumbered n
front_text bytes n k e = by (number_in (take (digit_run bytes) bytes)) refl e
  where
    by : (m : Option ℕ) → number_in (take (digit_run bytes) bytes) ≡ m → elim m as (λ _. Option (ℕ × ℕ)) [ None ↦ None | Some v ↦ Some (v, digit_run bytes) ] ≡ Some (n, k) → (take k bytes ≡ decimal n) × IsNumbered n
    by None f h = absurd (cc)
    by (Some v) f h =
        let pair : (v, digit_run bytes) ≡ (n, k) = inside _ _ h in
        let same : v ≡ n = ap (λ (p : ℕ × ℕ). p.0) pair in
        let count : digit_run bytes ≡ k = ap (λ (p : ℕ × ℕ). p.1) pair in
        let told : (take (digit_run bytes) bytes ≡ decimal v) × IsNumbered v = number_text (take (digit_run bytes) bytes) v (run_passes is_ascii_digit bytes) f in
        (ap (λ i. take i bytes) (sym count) ∙ told.0 ∙ ap decimal same, subst (λ (i : ℕ). IsNumbered i) same told.1)

whole_text : (bytes : List ℕ) (n : ℕ) → whole bytes ≡ Some n → (bytes ≡ decimal n) × IsNumbered n
whole_text bytes n e = by (number_front bytes) refl e
  where
    by_end : (v k : ℕ) (b : Bool) → (k == length bytes) ≡ b → number_front bytes ≡ Some (v, k) → cond b (Some v) None ≡ Some n → (bytes ≡ decimal n) × IsNumbered n
    by_end v k false t f h = absurd (cc)
    by_end v k true t f h =
        let same : v ≡ n = cc in
        let all : k ≡ length bytes = grind (arith, nat_tests) in
        let front : (take k bytes ≡ decimal v) × IsNumbered v = front_text bytes v k f in
        (sym (take-length bytes) ∙ ap (λ i. take i bytes) (sym all) ∙ front.0 ∙ ap decimal same, subst (λ (i : ℕ). IsNumbered i) same front.1)

    by : (m : Option (ℕ × ℕ)) → number_front bytes ≡ m → elim m as (λ _. Option ℕ) [ None ↦ None | Some read ↦ cond (read.1 == length bytes) (Some read.0) None ] ≡ Some n → (bytes ≡ decimal n) × IsNumbered n
    by None f h = absurd (cc)
    by (Some r) f h = by_end r.0 r.1 (r.1 == length bytes) refl f h

dotted_text : (bytes : List ℕ) (n k : ℕ) → dotted bytes ≡ Some (n, k) → (bytes ≡ decimal n ++ (46 ∷ drop k bytes)) × IsNumbered n
dotted_text bytes n k e = by (number_front bytes) refl e
  where
    by_dot : (v j : ℕ) (b : Bool) → (slice_index bytes j == 46) ≡ b → number_front bytes ≡ Some (v, j) → cond {A = Option (ℕ × ℕ)} b (Some (v, j + 1)) None ≡ Some (n, k) → (bytes ≡ decimal n ++ (46 ∷ drop k bytes)) × IsNumbered n
    by_dot v j false t f h = absurd (cc)
    by_dot v j true t f h =
        let pair : (v, j + 1) ≡ (n, k) = inside _ _ h in
        let same : v ≡ n = ap (λ (p : ℕ × ℕ). p.0) pair in
        let count : suc j ≡ k = omega (arith, ap (λ (p : ℕ × ℕ). p.1) pair) in
        let dot : get_or bytes j 0 ≡ 46 = is_byte (get_or bytes j 0) 46 t in
        let within : j < length bytes = within_of (nat_le (length bytes) j) refl dot in
        let front : (take j bytes ≡ decimal v) × IsNumbered v = front_text bytes v j f in
        let told : take j bytes ≡ decimal n = front.0 ∙ ap decimal same in
        let rest : drop j bytes ≡ 46 ∷ drop k bytes = drop-cons bytes j 0 within ∙ ap (λ x. x ∷ drop (suc j) bytes) dot ∙ ap (λ i. 46 ∷ drop i bytes) count in
        (sym (take-append-drop j bytes) ∙ ap (λ xs. xs ++ drop j bytes) told ∙ ap (λ xs. decimal n ++ xs) rest, subst (λ (i : ℕ). IsNumbered i) same front.1)
      where
        within_of : (b : Bool) → nat_le (length bytes) j ≡ b → get_or bytes j 0 ≡ 46 → j < length bytes
        within_of true u d = let past : length bytes ≤ j = grind (arith, nat_tests) in absurd (omega (arith, get_or_past bytes j 0 past, d))
        within_of false u d = grind (arith, nat_tests)

    by : (m : Option (ℕ × ℕ)) → number_front bytes ≡ m → elim m as (λ _. Option (ℕ × ℕ)) [ None ↦ None | Some read ↦ cond {A = Option (ℕ × ℕ)} (slice_index bytes read.1 == 46) (Some (read.0, read.1 + 1)) None ] ≡ Some (n, k) → (bytes ≡ decimal n ++ (46 ∷ drop k bytes)) × IsNumbered n
    by None f h = absurd (cc)
    by (Some r) f h = by_dot r.0 r.1 (slice_index bytes r.1 == 46) refl f h

-- the word is the text of what it was read as, whose numbers may stand in a name
record IsTextOf (w : List ℕ) (m : Option Name) : Type 0 where
  same : (x : Name) → m ≡ Some x → w ≡ part_text x
  named : (x : Name) → m ≡ Some x → IsNamed x

no_name : (w : List ℕ) → IsTextOf w None
no_name w = record { same = λ x e. absurd (cc); named = λ x e. absurd (cc) }

one_name : (w : List ℕ) (y : Name) → w ≡ part_text y → IsNamed y → IsTextOf w (Some y)
one_name w y here named = record {
  same = λ x e. let f : y ≡ x = cc in here ∙ ap part_text f;
  named = λ x e. let f : y ≡ x = cc in subst (λ (z : Name). IsNamed z) f named;
}

numbered_text : (letter : ℕ) (bytes : List ℕ) (make : ℕ → Name) → ((n : ℕ) → part_text (make n) ≡ letter ∷ decimal n) → ((n : ℕ) → IsNumbered n → IsNamed (make n))
    → IsTextOf (letter ∷ bytes) (option_map make (whole bytes))
numbered_text letter bytes make text named = by (whole bytes) refl
  where
    by : (m : Option ℕ) → whole bytes ≡ m → IsTextOf (letter ∷ bytes) (option_map make m)
    by None e = no_name (letter ∷ bytes)
    by (Some n) e = one_name (letter ∷ bytes) (make n) (ap (λ xs. letter ∷ xs) (whole_text bytes n e).0 ∙ sym (text n)) (named n (whole_text bytes n e).1)

-- the bytes are three numbers with dots between them, which may stand in a name
abbrev IsTextOfMember : List ℕ → MemberName → Type 0
IsTextOfMember bytes m = (bytes ≡ decimal m.atom ++ (46 ∷ (decimal m.group ++ (46 ∷ decimal m.mirror)))) × IsNamed (Member m)

member_text : (bytes : List ℕ) (m : MemberName) → member_in bytes ≡ Some m → IsTextOfMember bytes m
member_text bytes m e = by_atom (dotted bytes) refl e
  where
    by_mirror : (a g : ℕ × ℕ) (o : Option ℕ) → dotted bytes ≡ Some (a.0, a.1) → dotted (drop a.1 bytes) ≡ Some (g.0, g.1) → whole (drop g.1 (drop a.1 bytes)) ≡ o → option_map (member_name a.0 g.0) o ≡ Some m
        → IsTextOfMember bytes m
    by_mirror a g None x y z h = absurd (cc)
    by_mirror a g (Some n) x y z h =
        let same : member_name a.0 g.0 n ≡ m = inside _ _ h in
        let atom : (bytes ≡ decimal a.0 ++ (46 ∷ drop a.1 bytes)) × IsNumbered a.0 = dotted_text bytes a.0 a.1 x in
        let group : (drop a.1 bytes ≡ decimal g.0 ++ (46 ∷ drop g.1 (drop a.1 bytes))) × IsNumbered g.0 = dotted_text (drop a.1 bytes) g.0 g.1 y in
        let mirror : (drop g.1 (drop a.1 bytes) ≡ decimal n) × IsNumbered n = whole_text (drop g.1 (drop a.1 bytes)) n z in
        let inner : drop a.1 bytes ≡ decimal g.0 ++ (46 ∷ decimal n) = group.0 ∙ ap (λ xs. decimal g.0 ++ (46 ∷ xs)) mirror.0 in
        subst (λ (k : MemberName). IsTextOfMember bytes k) same (atom.0 ∙ ap (λ xs. decimal a.0 ++ (46 ∷ xs)) inner, (atom.1, group.1, mirror.1))

    by_group : (a : ℕ × ℕ) (o : Option (ℕ × ℕ)) → dotted bytes ≡ Some (a.0, a.1) → dotted (drop a.1 bytes) ≡ o
        → elim o as (λ _. Option MemberName) [ None ↦ None | Some group ↦ option_map (member_name a.0 group.0) (whole (drop group.1 (drop a.1 bytes))) ] ≡ Some m
        → IsTextOfMember bytes m
    by_group a None x y h = absurd (cc)
    by_group a (Some g) x y h = by_mirror a g (whole (drop g.1 (drop a.1 bytes))) x y refl h

    by_atom : (o : Option (ℕ × ℕ)) → dotted bytes ≡ o
        → elim o as (λ _. Option MemberName) [ None ↦ None | Some atom ↦ elim (dotted (drop atom.1 bytes)) [ None ↦ None | Some group ↦ option_map (member_name atom.0 group.0) (whole (drop group.1 (drop atom.1 bytes))) ] ] ≡ Some m
        → IsTextOfMember bytes m
    by_atom None x h = absurd (cc)
    by_atom (Some a) x h = by_group a (dotted (drop a.1 bytes)) x refl h

atom_text : (bytes : List ℕ) → IsTextOf (97 ∷ bytes) (atom_or_member bytes)
atom_text bytes = by (whole bytes) refl
  where
    by_member : (m : Option MemberName) → member_in bytes ≡ m → IsTextOf (97 ∷ bytes) (option_map Member m)
    by_member None e = no_name (97 ∷ bytes)
    by_member (Some m) e = one_name (97 ∷ bytes) (Member m) (ap (λ xs. 97 ∷ xs) (member_text bytes m e).0) (member_text bytes m e).1

    by : (m : Option ℕ) → whole bytes ≡ m → IsTextOf (97 ∷ bytes) (elim m [ Some atom ↦ Some (Atom atom) | None ↦ option_map Member (member_in bytes) ])
    by None e = by_member (member_in bytes) refl
    by (Some n) e = one_name (97 ∷ bytes) (Atom n) (ap (λ xs. 97 ∷ xs) (whole_text bytes n e).0) (whole_text bytes n e).1

name_text : (w : List ℕ) → IsTextOf w (part_in w)
unfolding part_in
name_text [] = no_name []
name_text (b ∷ bytes) = by_a (b == 97) refl
  where
    by_f : (t : Bool) → (b == 102) ≡ t → IsTextOf (b ∷ bytes) (cond t (option_map Fragment (whole bytes)) None)
    by_f true e = subst (λ x. IsTextOf (x ∷ bytes) (option_map Fragment (whole bytes))) (sym (is_byte b 102 e)) (numbered_text 102 bytes Fragment (λ n. refl) (λ n h. h))
    by_f false e = no_name (b ∷ bytes)

    by_j : (t : Bool) → (b == 106) ≡ t → IsTextOf (b ∷ bytes) (cond t (option_map Join (whole bytes)) (cond (b == 102) (option_map Fragment (whole bytes)) None))
    by_j true e = subst (λ x. IsTextOf (x ∷ bytes) (option_map Join (whole bytes))) (sym (is_byte b 106 e)) (numbered_text 106 bytes Join (λ n. refl) (λ n h. h))
    by_j false e = by_f (b == 102) refl

    by_a : (t : Bool) → (b == 97) ≡ t → IsTextOf (b ∷ bytes) (cond t (atom_or_member bytes) (cond (b == 106) (option_map Join (whole bytes)) (cond (b == 102) (option_map Fragment (whole bytes)) None)))
    by_a true e = subst (λ x. IsTextOf (x ∷ bytes) (atom_or_member bytes)) (sym (is_byte b 97 e)) (atom_text bytes)
    by_a false e = by_j (b == 106) refl

pub part_in_text : (w : List ℕ) (x : Name) → part_in w ≡ Some x → w ≡ part_text x
part_in_text w x e = (name_text w).same x e

pub part_named : (w : List ℕ) (x : Name) → part_in w ≡ Some x → IsNamed x
part_named w x e = (name_text w).named x e

-- the text of a name is read as that name

begins_with : (digits : List ℕ) → 48 < get_or digits 0 0 → begins_number digits ≡ true
begins_with [] more = absurd (omega (arith, more))
begins_with (d ∷ digits) more = let e : (d == 48) ≡ false = grind (arith, nat_tests) in rw e refl

number_read : (n : ℕ) → IsNumbered n → number_in (decimal n) ≡ Some n
number_read n h =
    let small : n < 2 ^ 64 = omega (arith, h.1) in
    let begins : begins_number (decimal n) ≡ true = begins_with (decimal n) (first_decimal n (omega (arith, h.0)) small) in
    let value : number_after 0 (decimal n) ≡ n = digits_value-decimal own n small in
    let within : nat_le n most_numbered ≡ true = within_of (nat_le n most_numbered) refl in
    rw (begins, value, within) refl
  where
    within_of : (b : Bool) → nat_le n most_numbered ≡ b → nat_le n most_numbered ≡ true
    within_of true e = e
    within_of false e = let past : most_numbered < n = grind (arith, nat_tests) in absurd (omega (arith, past, h.1))

run_over : (digits rest : List ℕ) → list_all is_ascii_digit digits ≡ true → digit_run rest ≡ 0 → digit_run (digits ++ rest) ≡ length digits
run_over [] rest all stop = stop
run_over (d ∷ digits) rest all stop =
    let parts = and_parts (is_ascii_digit d) (list_all is_ascii_digit digits) all in
    let more : digit_run (digits ++ rest) ≡ length digits = run_over digits rest parts.1 stop in
    let next : 1 + length digits ≡ suc (length digits) = omega arith in
    rw (parts.0, more) next

-- what is read of the number in front of bytes
abbrev with_number : List ℕ → Option ℕ → Option (ℕ × ℕ)
with_number bytes o = elim o as (λ _. Option (ℕ × ℕ)) [ None ↦ None | Some n ↦ Some (n, digit_run bytes) ]

front_read : (n : ℕ) (rest : List ℕ) → IsNumbered n → digit_run rest ≡ 0 → number_front (decimal n ++ rest) ≡ Some (n, length (decimal n))
front_read n rest h stop =
    let bytes : List ℕ = decimal n ++ rest in
    let run : digit_run bytes ≡ length (decimal n) = run_over (decimal n) rest (digits_decimal own n (omega (arith, h.1))) stop in
    let digits : take (digit_run bytes) bytes ≡ decimal n = ap (λ (k : ℕ). take k bytes) run ∙ take_at (decimal n) rest (length (decimal n)) refl in
    ap (with_number bytes) (ap number_in digits ∙ number_read n h) ∙ ap (λ (k : ℕ). Some (n, k)) run

abbrev to_the_end : List ℕ → Option (ℕ × ℕ) → Option ℕ
to_the_end bytes o = elim o as (λ _. Option ℕ) [ None ↦ None | Some read ↦ cond (read.1 == length bytes) (Some read.0) None ]

whole_read : (n : ℕ) → IsNumbered n → whole (decimal n) ≡ Some n
whole_read n h =
    let front : number_front (decimal n) ≡ Some (n, length (decimal n)) = ap number_front (sym (append-nil (decimal n))) ∙ front_read n [] h refl in
    let all : (length (decimal n) == length (decimal n)) ≡ true = grind (arith, nat_tests) in
    ap (to_the_end (decimal n)) front ∙ ap (λ (b : Bool). cond b (Some n) None) all

-- a number with a dot behind it is no whole one
not_whole : (n : ℕ) (rest : List ℕ) → IsNumbered n → whole (decimal n ++ (46 ∷ rest)) ≡ None
not_whole n rest h =
    let bytes : List ℕ = decimal n ++ (46 ∷ rest) in
    let longer : length bytes ≡ length (decimal n) + suc (length rest) = length-append (decimal n) (46 ∷ rest) in
    let apart : (length (decimal n) == length bytes) ≡ false = ne_eqb _ _ (λ e. absurd (omega (arith, e, longer))) in
    ap (to_the_end bytes) (front_read n (46 ∷ rest) h refl) ∙ ap (λ (b : Bool). cond b (Some n) None) apart

abbrev to_the_dot : List ℕ → Option (ℕ × ℕ) → Option (ℕ × ℕ)
to_the_dot bytes o = elim o as (λ _. Option (ℕ × ℕ)) [ None ↦ None | Some read ↦ cond {A = Option (ℕ × ℕ)} (slice_index bytes read.1 == 46) (Some (read.0, read.1 + 1)) None ]

dotted_read : (n : ℕ) (rest : List ℕ) → IsNumbered n → dotted (decimal n ++ (46 ∷ rest)) ≡ Some (n, length (decimal n) + 1)
dotted_read n rest h =
    let dot : get_or (decimal n ++ (46 ∷ rest)) (length (decimal n)) 0 ≡ 46 = get_or_at (decimal n) 46 rest 0 (length (decimal n)) refl in
    ap (to_the_dot (decimal n ++ (46 ∷ rest))) (front_read n (46 ∷ rest) h refl)
    ∙ ap (λ (b : ℕ). cond {A = Option (ℕ × ℕ)} (b == 46) (Some (n, length (decimal n) + 1)) None) dot

behind_dot : (n : ℕ) (rest : List ℕ) → drop (length (decimal n) + 1) (decimal n ++ (46 ∷ rest)) ≡ rest
behind_dot n rest = sym (drop-drop 1 (length (decimal n)) (decimal n ++ (46 ∷ rest))) ∙ ap (λ (xs : List ℕ). drop 1 xs) (drop_at (decimal n) (46 ∷ rest) (length (decimal n)) refl)

abbrev with_group : ℕ → List ℕ → Option (ℕ × ℕ) → Option MemberName
with_group atom bytes o = elim o as (λ _. Option MemberName) [ None ↦ None | Some group ↦ option_map (member_name atom group.0) (whole (drop group.1 bytes)) ]

abbrev with_atom : List ℕ → Option (ℕ × ℕ) → Option MemberName
with_atom bytes o = elim o as (λ _. Option MemberName) [ None ↦ None | Some atom ↦ with_group atom.0 (drop atom.1 bytes) (dotted (drop atom.1 bytes)) ]

member_read : (a g m : ℕ) → IsNumbered a → IsNumbered g → IsNumbered m → member_in (decimal a ++ (46 ∷ (decimal g ++ (46 ∷ decimal m)))) ≡ Some (member_name a g m)
member_read a g m h i j =
    let behind : List ℕ = decimal g ++ (46 ∷ decimal m) in
    ap (with_atom (decimal a ++ (46 ∷ behind))) (dotted_read a behind h)
    ∙ ap (λ (xs : List ℕ). with_group a xs (dotted xs)) (behind_dot a behind)
    ∙ ap (with_group a behind) (dotted_read g (decimal m) i)
    ∙ ap (λ (xs : List ℕ). option_map (member_name a g) (whole xs)) (behind_dot g (decimal m))
    ∙ ap (option_map (member_name a g)) (whole_read m j)

abbrev atom_or : List ℕ → Option ℕ → Option Name
atom_or bytes o = elim o as (λ _. Option Name) [ Some atom ↦ Some (Atom atom) | None ↦ option_map Member (member_in bytes) ]

pub part_read : (x : Name) → IsNamed x → part_in (part_text x) ≡ Some x
unfolding part_in
part_read (Member m) h =
    let behind : List ℕ = decimal m.group ++ (46 ∷ decimal m.mirror) in
    ap (atom_or (decimal m.atom ++ (46 ∷ behind))) (not_whole m.atom behind h.0)
    ∙ ap (λ (o : Option MemberName). option_map Member o) (member_read m.atom m.group m.mirror h.0 h.1 h.2)
part_read (Atom a) h = ap (atom_or (decimal a)) (whole_read a h)
part_read (Join j) h = ap (λ (o : Option ℕ). option_map Join o) (whole_read j h)
part_read (Fragment f) h = ap (λ (o : Option ℕ). option_map Fragment o) (whole_read f h)
