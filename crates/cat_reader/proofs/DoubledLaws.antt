-- Names one by one: each stands among those before it, or doesn't.
use Rattle.std.proofs.Common.{◌≡◌, ℕ, ◌+◌, ◌<◌, ◌≤◌, Bool, true, false, List, [], ◌∷◌, ◌++◌, map, take, drop, length, get_or, Bor, Some, not, ◌||◌, if◌then◌else◌, refl, ap, sym, ◌∙◌, arith}
use Rattle.std.specs.Prelude.{nat_le}
use Rattle.std.specs.List.{AllByRecursion, list_any}
use Rattle.std.proofs.lemmas.List.{drop_more, take_more, map-append, length-map}
use Rattle.std.proofs.Math.ListN.{get_or-map}
use Rattle.text_reading.specs.Faults.{broken_if}
use Rattle.text_reading.specs.Order.{least}
use Rattle.text_reading.proofs.FaultLaws.{lesser_front, from_below}
use Rattle.cat_reader.specs.Doubled.{doubled_after, doubled_names}
use Rattle.cat_reader.specs.Relations.{same_text}

-- the texts that references point to
abbrev pub texts : List (Bor (List ℕ)) → List (List ℕ)
texts names = map (λ (n : Bor (List ℕ)). n.now) names

doubled_from : (before : List (List ℕ)) (n : ℕ) (names : List (List ℕ)) → AllByRecursion (λ k. n ≤ k) (doubled_after before n names)
doubled_from before n [] = tt
doubled_from before n (name ∷ more) =
    by (list_any (same_text name) before) (from_below n (n + 1) _ (omega arith) (doubled_from (before ++ name ∷ []) (n + 1) more))
  where
    by : (b : Bool) → AllByRecursion (λ k. n ≤ k) (doubled_after (before ++ name ∷ []) (n + 1) more)
        → AllByRecursion (λ k. n ≤ k) (broken_if b n ++ doubled_after (before ++ name ∷ []) (n + 1) more)
    by true later = (omega arith, later)
    by false later = later

-- the name at k, and the names after it
opened : (names : List (List ℕ)) (k : ℕ) (d : List ℕ) → k < length names
    → doubled_after (take k names) k (drop k names)
    ≡ broken_if (list_any (same_text (get_or names k d)) (take k names)) k ++ doubled_after (take (k + 1) names) (k + 1) (drop (k + 1) names)
opened names k d inside = rw (drop_more names k d inside, take_more names k d inside) refl

new_name : (names : List (List ℕ)) (k : ℕ) (d : List ℕ) → k < length names
    → list_any (same_text (get_or names k d)) (take k names) ≡ false
    → doubled_after (take (k + 1) names) (k + 1) (drop (k + 1) names) ≡ doubled_after (take k names) k (drop k names)
new_name names k d inside is_new = sym (opened names k d inside ∙ rw is_new refl)

old_name : (names : List (List ℕ)) (k : ℕ) (d : List ℕ) → k < length names
    → list_any (same_text (get_or names k d)) (take k names) ≡ true
    → least nat_le (doubled_after (take k names) k (drop k names)) ≡ Some k
old_name names k d inside is_old =
    ap (least nat_le) (opened names k d inside)
    ∙ rw is_old (lesser_front k (doubled_after (take (k + 1) names) (k + 1) (drop (k + 1) names)) (from_below k (k + 1) _ (omega arith) (doubled_from (take (k + 1) names) (k + 1) (drop (k + 1) names))))

-- whether a reference's text is among those of others
abbrev pub is_seen : Bor (List ℕ) → List (Bor (List ℕ)) → Bool
is_seen name seen = list_any (λ (other : Bor (List ℕ)). same_text name.now other.now) seen

among_texts : (name : List ℕ) (seen : List (Bor (List ℕ))) → list_any (same_text name) (texts seen) ≡ list_any (λ (other : Bor (List ℕ)). same_text name other.now) seen
among_texts name [] = refl
among_texts name (other ∷ seen) = ap (λ b. same_text name other.now || b) (among_texts name seen)

module _ (names seen : List (Bor (List ℕ))) (k : ℕ) (d : Bor (List ℕ)) (inside : k < length names) (so_far : texts seen ≡ take k (texts names)) where
  name_at : get_or (texts names) k d.now ≡ (get_or names k d).now
  name_at = get_or-map (λ (n : Bor (List ℕ)). n.now) names k d

  within : k < length (texts names)
  within = rw length-map inside

  tested : list_any (same_text (get_or (texts names) k d.now)) (take k (texts names)) ≡ is_seen (get_or names k d) seen
  tested = rw (name_at, ← so_far) (among_texts (get_or names k d).now seen)

  -- the name at k is the first that is doubled
  pub first_found : (is_new : Bool) → is_new ≡ not (is_seen (get_or names k d) seen) → is_new ≡ false
      → doubled_after (take k (texts names)) k (drop k (texts names)) ≡ doubled_names (texts names)
      → Some k ≡ least nat_le (doubled_names (texts names))
  first_found is_new added old none =
      sym (ap (least nat_le) (sym none) ∙ old_name (texts names) k d.now within (tested ∙ not_false _ (sym old ∙ added)))
    where
      not_false : (b : Bool) → false ≡ not b → b ≡ true
      not_false true e = refl
      not_false false e = e

  not_true : (b : Bool) → true ≡ not b → b ≡ false
  not_true true e = e
  not_true false e = refl

  -- no name up to k is doubled
  pub none_found : (is_new : Bool) → is_new ≡ not (is_seen (get_or names k d) seen) → is_new ≡ true
      → doubled_after (take k (texts names)) k (drop k (texts names)) ≡ doubled_names (texts names)
      → doubled_after (take (k + 1) (texts names)) (k + 1) (drop (k + 1) (texts names)) ≡ doubled_names (texts names)
  none_found is_new added new none = new_name (texts names) k d.now within (tested ∙ not_true _ (sym new ∙ added)) ∙ none

  pub one_seen : (is_new : Bool) (after : List (Bor (List ℕ))) → is_new ≡ not (is_seen (get_or names k d) seen) → is_new ≡ true
      → after ≡ (if is_seen (get_or names k d) seen then seen else seen ++ get_or names k d ∷ [])
      → texts after ≡ take (k + 1) (texts names)
  one_seen is_new after added new keys =
      let kept : after ≡ seen ++ get_or names k d ∷ [] = keys ∙ rw (not_true _ (sym new ∙ added)) refl in
      rw (kept, map-append, so_far, take_more (texts names) k d.now within, name_at) refl
