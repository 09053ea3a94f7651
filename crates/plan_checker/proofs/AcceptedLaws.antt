-- What holds where no check of a plan is broken.
use Rattle.std.proofs.Common.{◌≡◌, ℕ, zero, suc, ◌+◌, ◌<◌, ◌≤◌, ◌==◌, ◌||◌, ◌&&◌, not, nat_le, nat_lt, Bool, true, false, cond, List, [], ◌∷◌, ◌++◌, map, arith, refl, sym, ap, ◌∙◌, true≢false}
use Rattle.std.specs.Prelude.{nat_eq}
use Rattle.std.specs.List.{list_all, list_any}
use Rattle.std.proofs.lemmas.Bool.Decides.{nat_tests}
use Rattle.std.proofs.lemmas.Bool.{eqb-true}
use Rattle.answer_theory.specs.Bags.{SameBag, count_of, numbers_from}
use Rattle.answer_theory.specs.Rows.{AreDistinct}
use Rattle.answer_theory.specs.Solutions.{names}
use Rattle.answer_theory.proofs.Bags.{weight_of_append}
use Rattle.answer_theory.proofs.Bools.{nat_eq_self, nat_eq_sym}
use Rattle.answer_theory.proofs.Numbers.{bag_counted, count_of_beyond, count_of_from, count_of_other}
use Rattle.text_reading.specs.Faults.{broken_if, indices_where}
use Rattle.text_reading.proofs.FaultLaws.{first_empty, not_broken, rest_empty}
use Rattle.plan_reader.specs.Items.{doubled_after, has_doubled}
use Rattle.plan_reader.specs.Own.{own_name}
use Rattle.plan_reader.specs.declared.plan.Fragment.{Fragment}
use Rattle.plan_checker.specs.Covers.{last_of}
use Rattle.plan_checker.specs.Uses.{is_atom, is_missing, is_used_twice, misused_from, numbers_of, wanted}
use Rattle.plan_checker.proofs.CoverLaws.{AreApart, named_first, named_last}

neither : (a b : Bool) → (a || b) ≡ false → (a ≡ false) × (b ≡ false)
neither true b e = absurd (true≢false e)
neither false b e = (refl, e)

-- a number that isn't one of those is seen so from either side
pub flipped : (n : ℕ) (ns : List ℕ) → list_any (nat_eq n) ns ≡ names ns n
flipped n [] = refl
flipped n (m ∷ ns) = ap (λ b. b || list_any (nat_eq n) ns) (nat_eq_sym n m) ∙ ap (λ b. (m == n) || b) (flipped n ns)

-- names that differ from those before them
pub names_apart : (before : List ℕ) (i : ℕ) (fs : List Fragment) → doubled_after nat_eq before i (map own_name fs) ≡ [] → AreDistinct (numbers_of fs) × AreApart before (numbers_of fs)
names_apart before i [] e = (tt, λ k h. refl)
names_apart before i (f ∷ fs) e =
    let new : (list_any (nat_eq f.number) before || false) ≡ false = not_broken _ i (first_empty (broken_if (has_doubled nat_eq before (own_name f)) i) _ e) in
    let later = names_apart (before ++ f.number ∷ []) (i + 1) fs (rest_empty (broken_if (has_doubled nat_eq before (own_name f)) i) _ e) in
    let fresh : names before f.number ≡ false = sym (flipped f.number before) ∙ (neither (list_any (nat_eq f.number) before) false new).0 in
    ((later.1 f.number (named_last before f.number), later.0), λ k h. by k (f.number == k) refl fresh h (later.1 k (named_first before (f.number ∷ []) k h)))
  where
    by : (k : ℕ) (b : Bool) → (f.number == k) ≡ b → names before f.number ≡ false → names before k ≡ true → names (numbers_of fs) k ≡ false → (b || names (numbers_of fs) k) ≡ false
    by k true g fresh h rest = absurd (true≢false (sym h ∙ ap (names before) (sym (eqb-true f.number k g)) ∙ fresh))
    by k false g fresh h rest = rest

-- how often each number is used

abbrev pub AreWanted : List ℕ → List ℕ → Type 0
AreWanted used [] = Unit {0}
AreWanted used (n ∷ ns) = (count_of n used ≡ wanted ns) × AreWanted used ns

same_number : (m n : ℕ) → not (m == n) ≡ false → m ≡ n
same_number m n e = eqb-true m n (by (m == n) e)
  where
    by : (b : Bool) → not b ≡ false → b ≡ true
    by true h = refl
    by false h = absurd (true≢false h)

pub as_wanted : (used : List ℕ) (i : ℕ) (ns : List ℕ) → misused_from used i ns ≡ [] → AreWanted used ns
as_wanted used i [] e = tt
as_wanted used i (n ∷ ns) e =
    let here = not_broken (not (count_of n used == wanted ns)) i (first_empty (broken_if (not (count_of n used == wanted ns)) i) (misused_from used (i + 1) ns) e) in
    (same_number (count_of n used) (wanted ns) here, as_wanted used (i + 1) ns (rest_empty (broken_if (not (count_of n used == wanted ns)) i) (misused_from used (i + 1) ns) e))

none_counted : (n : ℕ) (ns : List ℕ) → names ns n ≡ false → count_of n ns ≡ 0
none_counted n [] e = refl
none_counted n (m ∷ ns) e =
    let apart = neither (m == n) (names ns n) e in
    let rest : count_of n ns ≡ 0 = none_counted n ns apart.1 in
    ap (λ b. cond b 1 0 + count_of n ns) apart.0 ∙ omega (arith, rest)

-- a number that isn't known isn't used
unused : (known used : List ℕ) (n : ℕ) → list_all (names known) used ≡ true → names known n ≡ false → names used n ≡ false
unused known [] n all e = refl
unused known (m ∷ used) n all e = by (names known m) (m == n) refl refl (λ h. unused known used n h e) all
  where
    by : (a b : Bool) → names known m ≡ a → (m == n) ≡ b → (list_all (names known) used ≡ true → names used n ≡ false) → (a && list_all (names known) used) ≡ true → (b || names used n) ≡ false
    by false b f g more h = absurd (true≢false (sym h))
    by true true f g more h = absurd (true≢false (sym f ∙ ap (names known) (eqb-true m n g) ∙ e))
    by true false f g more h = more h

abbrev last_count : ℕ → List ℕ → ℕ
last_count n ns = cond (last_of ns == n) 1 0

pub last_named : (m : ℕ) (ns : List ℕ) → names (m ∷ ns) (last_of (m ∷ ns)) ≡ true
last_named m [] = rw (nat_eq_self m) refl
last_named m (n ∷ ns) = by (m == last_of (n ∷ ns)) (last_named n ns)
  where
    by : (b : Bool) → names (n ∷ ns) (last_of (n ∷ ns)) ≡ true → (b || names (n ∷ ns) (last_of (n ∷ ns))) ≡ true
    by true h = refl
    by false h = h

last_apart : (n m : ℕ) (ns : List ℕ) → names (m ∷ ns) n ≡ false → (last_of (m ∷ ns) == n) ≡ false
last_apart n m ns e = by (last_of (m ∷ ns) == n) refl
  where
    by : (b : Bool) → (last_of (m ∷ ns) == n) ≡ b → b ≡ false
    by true f = absurd (true≢false (sym (last_named m ns) ∙ ap (names (m ∷ ns)) (eqb-true (last_of (m ∷ ns)) n f) ∙ e))
    by false f = refl

-- each number is used once, or is the last
once : (used : List ℕ) (n m : ℕ) (ns : List ℕ) → AreDistinct (m ∷ ns) → AreWanted used (m ∷ ns) → names (m ∷ ns) n ≡ true → (count_of n used + last_count n (m ∷ ns) ≡ 1) × (count_of n (m ∷ ns) ≡ 1)
once used n m [] distinct wants e = by (m == n) refl e
  where
    by : (b : Bool) → (m == n) ≡ b → (b || false) ≡ true → (count_of n used + last_count n (m ∷ []) ≡ 1) × (count_of n (m ∷ []) ≡ 1)
    by false f h = absurd (true≢false (sym h))
    by true f h =
        let same : m ≡ n = eqb-true m n f in
        let used_up : count_of n used ≡ 0 = ap (λ k. count_of k used) (sym same) ∙ wants.0 in
        (ap (λ b. count_of n used + cond b 1 0) f ∙ omega (arith, used_up), ap (λ b. cond b 1 0 + 0) f)
once used n m (k ∷ ns) distinct wants e = by (m == n) refl (λ h. once used n k ns distinct.1 wants.1 h) e
  where
    by : (b : Bool) → (m == n) ≡ b → (names (k ∷ ns) n ≡ true → (count_of n used + last_count n (k ∷ ns) ≡ 1) × (count_of n (k ∷ ns) ≡ 1)) → (b || names (k ∷ ns) n) ≡ true → (count_of n used + last_count n (m ∷ k ∷ ns) ≡ 1) × (count_of n (m ∷ k ∷ ns) ≡ 1)
    by true f more h =
        let same : m ≡ n = eqb-true m n f in
        let used_once : count_of n used ≡ 1 = ap (λ i. count_of i used) (sym same) ∙ wants.0 in
        let absent : names (k ∷ ns) n ≡ false = ap (names (k ∷ ns)) (sym same) ∙ distinct.0 in
        let none : count_of n (k ∷ ns) ≡ 0 = none_counted n (k ∷ ns) absent in
        (ap (λ b. count_of n used + cond b 1 0) (last_apart n k ns absent) ∙ omega (arith, used_once), ap (λ b. cond b 1 0 + count_of n (k ∷ ns)) f ∙ omega (arith, none))
    by false f more h =
        let later = more h in
        (later.0, ap (λ b. cond b 1 0 + count_of n (k ∷ ns)) f ∙ omega (arith, later.1))

-- each number is used once but the last
pub all_used : (used : List ℕ) (m : ℕ) (ns : List ℕ) → AreDistinct (m ∷ ns) → AreWanted used (m ∷ ns) → list_all (names (m ∷ ns)) used ≡ true → SameBag (m ∷ ns) (used ++ last_of (m ∷ ns) ∷ [])
all_used used m ns distinct wants known = bag_counted (used ++ last_of (m ∷ ns) ∷ []) (m ∷ ns) (λ n. by n (names (m ∷ ns) n) refl)
  where
    count : (n : ℕ) → count_of n (used ++ last_of (m ∷ ns) ∷ []) ≡ count_of n used + (last_count n (m ∷ ns) + 0)
    count n = weight_of_append (λ k. cond (k == n) 1 0) used (last_of (m ∷ ns) ∷ [])

    by : (n : ℕ) (b : Bool) → names (m ∷ ns) n ≡ b → count_of n (m ∷ ns) ≡ count_of n (used ++ last_of (m ∷ ns) ∷ [])
    by n true f = let both = once used n m ns distinct wants f in omega (arith, both.0, both.1, count n)
    by n false f =
        let here : count_of n (m ∷ ns) ≡ 0 = none_counted n (m ∷ ns) f in
        let there : count_of n used ≡ 0 = none_counted n used (unused (m ∷ ns) used n known f) in
        let last : last_count n (m ∷ ns) ≡ 0 = ap (λ b. cond b 1 0) (last_apart n m ns f) in
        omega (arith, here, there, last, count n)

-- each atom is used once

at_least : (c : ℕ) → (c == 0) ≡ false → nat_lt 1 c ≡ false → c ≡ 1
at_least c e h = grind (arith, nat_tests)

counts : (used : List ℕ) (first count n : ℕ) (i : ℕ) → indices_where (is_missing used) i (numbers_from first count) ≡ [] → indices_where (is_used_twice used) i (numbers_from first count) ≡ [] → first ≤ n → n < first + count → count_of n used ≡ 1
counts used first zero n i e h low high = absurd (omega (arith, low, high))
counts used first (suc count) n i e h low high = by (first == n) refl (λ other. counts used (suc first) count n (i + 1) (rest_empty (broken_if (is_missing used first) i) _ e) (rest_empty (broken_if (is_used_twice used first) i) _ h) other (omega (arith, high)))
  where
    here : count_of first used ≡ 1
    here = at_least (count_of first used) (not_broken (is_missing used first) i (first_empty (broken_if (is_missing used first) i) _ e)) (not_broken (is_used_twice used first) i (first_empty (broken_if (is_used_twice used first) i) _ h))

    by : (b : Bool) → (first == n) ≡ b → (suc first ≤ n → count_of n used ≡ 1) → count_of n used ≡ 1
    by true f more = ap (λ k. count_of k used) (sym (eqb-true first n f)) ∙ here
    by false f more = more (grind (arith, nat_tests, low, f))

none_out : (atoms : ℕ) (used : List ℕ) (n : ℕ) → list_all (is_atom atoms) used ≡ true → is_atom atoms n ≡ false → count_of n used ≡ 0
none_out atoms [] n all e = refl
none_out atoms (m ∷ used) n all e = by (is_atom atoms m) (m == n) refl refl (λ h. none_out atoms used n h e) all
  where
    by : (a b : Bool) → is_atom atoms m ≡ a → (m == n) ≡ b → (list_all (is_atom atoms) used ≡ true → count_of n used ≡ 0) → (a && list_all (is_atom atoms) used) ≡ true → cond b 1 0 + count_of n used ≡ 0
    by false b f g more h = absurd (true≢false (sym h))
    by true true f g more h = absurd (true≢false (sym f ∙ ap (is_atom atoms) (eqb-true m n g) ∙ e))
    by true false f g more h = let rest = more h in omega (arith, rest)

in_range : (atoms n : ℕ) → is_atom atoms n ≡ true → (1 ≤ n) × (n < 1 + atoms)
in_range atoms n e = grind (arith, nat_tests, e)

pub none_below : (n first count : ℕ) → n < first → count_of n (numbers_from first count) ≡ 0
none_below n first zero h = refl
none_below n first (suc count) h = count_of_other n first (numbers_from (suc first) count) (λ e. omega (arith, e, h)) ∙ none_below n (suc first) count (omega (arith, h))

out_of : (atoms n : ℕ) → is_atom atoms n ≡ false → count_of n (numbers_from 1 atoms) ≡ 0
out_of atoms n e = by (nat_le 1 n) refl
  where
    by : (b : Bool) → nat_le 1 n ≡ b → count_of n (numbers_from 1 atoms) ≡ 0
    by true f = let high : 1 + atoms ≤ n = grind (arith, nat_tests, f, e) in count_of_beyond n 1 atoms high
    by false f = let low : n < 1 = grind (arith, nat_tests, f) in none_below n 1 atoms low

pub each_atom : (atoms : ℕ) (used : List ℕ) → indices_where (is_missing used) 0 (numbers_from 1 atoms) ≡ [] → indices_where (is_used_twice used) 0 (numbers_from 1 atoms) ≡ [] → list_all (is_atom atoms) used ≡ true
    → SameBag used (numbers_from 1 atoms)
each_atom atoms used missing twice all = bag_counted (numbers_from 1 atoms) used (λ n. by n (is_atom atoms n) refl)
  where
    by : (n : ℕ) (b : Bool) → is_atom atoms n ≡ b → count_of n used ≡ count_of n (numbers_from 1 atoms)
    by n true f = let range = in_range atoms n f in counts used 1 atoms n 0 missing twice range.0 range.1 ∙ sym (count_of_from n 1 atoms range.0 range.1)
    by n false f = none_out atoms used n all f ∙ sym (out_of atoms n f)
