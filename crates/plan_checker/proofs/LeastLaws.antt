-- The first fragment that is broken is the least.
use Rattle.std.proofs.Common.{◌≡◌, ℕ, suc, ◌+◌, ◌-◌, ◌<◌, ◌≤◌, ◌==◌, not, Bool, true, false, List, [], ◌∷◌, ◌++◌, drop, get_or, length, take, Some, arith, refl, sym, ap, subst, ◌∙◌, drop-cons, length-drop}
use Rattle.std.specs.Prelude.{nat_le}
use Rattle.std.specs.List.{AllByRecursion}
use Rattle.std.proofs.lemmas.Bool.Decides.{nat_tests}
use Rattle.answer_theory.specs.Bags.{count_of}
use Rattle.text_reading.specs.Faults.{broken_if}
use Rattle.text_reading.specs.Order.{least}
use Rattle.text_reading.proofs.FaultLaws.{from_below, lesser_front}
use Rattle.plan_reader.specs.declared.plan.Fragment.{Fragment}
use Rattle.plan_checker.specs.Uses.{early_from, is_early, misused_from, wanted}

later : (b : Bool) (i : ℕ) (ns : List ℕ) → AllByRecursion (λ k. i + 1 ≤ k) ns → AllByRecursion (λ k. i ≤ k) (broken_if b i ++ ns)
later true i ns all = (omega arith, from_below i (i + 1) ns (omega arith) all)
later false i ns all = from_below i (i + 1) ns (omega arith) all

misused_later : (used : List ℕ) (i : ℕ) (ns : List ℕ) → AllByRecursion (λ k. i ≤ k) (misused_from used i ns)
misused_later used i [] = tt
misused_later used i (n ∷ ns) = later (not (count_of n used == wanted ns)) i (misused_from used (i + 1) ns) (misused_later used (i + 1) ns)

early_later : (numbers : List ℕ) (i : ℕ) (fs : List Fragment) → AllByRecursion (λ k. i ≤ k) (early_from numbers i fs)
early_later numbers i [] = tt
early_later numbers i (f ∷ fs) = later (is_early (take i numbers) f) i (early_from numbers (i + 1) fs) (early_later numbers (i + 1) fs)

here : (b : Bool) (i : ℕ) (ns : List ℕ) → b ≡ true → AllByRecursion (λ k. i + 1 ≤ k) ns → Some i ≡ least nat_le (broken_if b i ++ ns)
here b i ns e all = subst (λ t. Some i ≡ least nat_le (broken_if t i ++ ns)) (sym e) (sym (lesser_front i ns (from_below i (i + 1) ns (omega arith) all)))

differs : (m n : ℕ) → (m ≡ n → ⊥) → not (m == n) ≡ true
differs m n h = grind (arith, nat_tests)

wanted_last : (ns : List ℕ) (w : ℕ) → (length ns ≡ 0 → w ≡ 0) → ((length ns ≡ 0 → ⊥) → w ≡ 1) → wanted ns ≡ w
wanted_last [] w none some = sym (none refl)
wanted_last (n ∷ ns) w none some = sym (some (λ e. omega (arith, e)))

pub first_misused : (used numbers : List ℕ) (i w : ℕ) → i < length numbers → misused_from used i (drop i numbers) ≡ misused_from used 0 numbers
    → (i + 1 ≡ length numbers → w ≡ 0) → ((i + 1 ≡ length numbers → ⊥) → w ≡ 1) → (count_of (get_or numbers i 0) used ≡ w → ⊥) → Some i ≡ least nat_le (misused_from used 0 numbers)
first_misused used numbers i w inside same none some wrong =
    let n : ℕ = get_or numbers i 0 in
    let ns : List ℕ = drop (suc i) numbers in
    let left : drop i numbers ≡ n ∷ ns = drop-cons numbers i 0 inside in
    let long : length ns ≡ length numbers - suc i = length-drop (suc i) numbers in
    let want : wanted ns ≡ w = wanted_last ns w (λ e. none (omega (arith, e, long, inside))) (λ h. some (λ e. h (omega (arith, e, long)))) in
    let broken : not (count_of n used == wanted ns) ≡ true = differs (count_of n used) (wanted ns) (λ e. wrong (e ∙ want)) in
    subst (λ ks. Some i ≡ least nat_le ks) (ap (misused_from used i) (sym left) ∙ same) (here (not (count_of n used == wanted ns)) i (misused_from used (i + 1) ns) broken (misused_later used (i + 1) ns))

pub first_early : (numbers : List ℕ) (fs : List Fragment) (i : ℕ) (f : Fragment) → i < length fs → f ≡ get_or fs i f → early_from numbers i (drop i fs) ≡ early_from numbers 0 fs
    → is_early (take i numbers) f ≡ true → Some i ≡ least nat_le (early_from numbers 0 fs)
first_early numbers fs i f inside is same broken =
    let rest : List Fragment = drop (suc i) fs in
    let left : drop i fs ≡ f ∷ rest = drop-cons fs i f inside ∙ ap (λ g. g ∷ rest) (sym is) in
    subst (λ ks. Some i ≡ least nat_le ks) (ap (early_from numbers i) (sym left) ∙ same) (here (is_early (take i numbers) f) i (early_from numbers (i + 1) rest) broken (early_later numbers (i + 1) rest))
