-- A walk along a chain.
use Rattle.std.proofs.Common.{◌≡◌, ◌<◌, ◌≤◌, ◌+◌, ◌-◌, ◌%◌, ◌==◌, ◌⊎◌, ℕ, Bool, true, List, length, get_or, Option, Some, None, IfSome, ◌^◌, max, inl, inr, sym, ap, ◌∙◌, arith}
use Rattle.std.proofs.lemmas.Bool.{cases_lt, eq-eqb, eqb-true, ne_eqb}
use Rattle.std.proofs.lemmas.List.{length-map}
use Rattle.bucket_store.specs.Chained.{AreChained, IsOnWay, hashes_of, in_slot}
use Rattle.bucket_store.specs.Places.{next_place}
use Rattle.bucket_store.specs.declared.chains.Chain.{Chain}
use Rattle.bucket_store.specs.declared.chains.Link.{Link}
use Rattle.bucket_store.proofs.Chaining.{hash_at, same_slot}
use Rattle.bucket_store.proofs.Places.{is_next, way_before, way_ends, way_found, way_passed}

-- what is left of the list behind a place of the walk
abbrev pub walk_left : ℕ → Option ℕ → ℕ
walk_left many None = 0
walk_left many (Some place) = many - place

narrows : (count hash h : ℕ) → (h == hash) ≡ true → in_slot count (hash % count) h ≡ true
narrows count hash h e = eq-eqb (h % count) (hash % count) (ap (λ n. n % count) (eqb-true h hash e))

pub walk_inside : (slots : List (Option Chain)) (links : List Link) (hash from place : ℕ) → IsOnWay (length slots) (hashes_of links) hash from (Some place) → place < length links
walk_inside slots links hash from place w = let l = (is_next _ (hashes_of links) w.start 0 place (sym w.chained)).inside in omega (arith, l, length-map links (λ l. l.hash))

pub walk_ends : (slots : List (Option Chain)) (links : List Link) (hash from : ℕ) → IsOnWay (length slots) (hashes_of links) hash from None → None ≡ next_place (λ h. h == hash) (hashes_of links) from
walk_ends slots links hash from w = sym (w.none_passed ∙ way_ends (λ h. h == hash) (in_slot (length slots) (hash % length slots)) (narrows (length slots) hash) (hashes_of links) w.start from 0 (sym w.chained))

pub walk_finds : (slots : List (Option Chain)) (links : List Link) (hash from place : ℕ) (d : Link) → IsOnWay (length slots) (hashes_of links) hash from (Some place) → from ≤ place → (get_or links place d).hash ≡ hash
    → Some place ≡ next_place (λ h. h == hash) (hashes_of links) from
walk_finds slots links hash from place d w after same = sym (w.none_passed ∙ way_found (λ h. h == hash) (in_slot (length slots) (hash % length slots)) (narrows (length slots) hash) (hashes_of links) w.start from place 0 (sym w.chained) after
    (eq-eqb (get_or (hashes_of links) place 0) hash (hash_at links place d (walk_inside slots links hash from place w) ∙ same)))

pub walk_on : (slots : List (Option Chain)) (links : List Link) (hash from place : ℕ) (d : Link) → AreChained slots links → IsOnWay (length slots) (hashes_of links) hash from (Some place)
    → (place < from) ⊎ ((get_or links place d).hash ≡ hash → ⊥) → IsOnWay (length slots) (hashes_of links) hash from (get_or links place d).next
walk_on slots links hash from place d h w passed = record {
  start = place + 1;
  chained = h.leads place d inside ∙ ap (λ s. next_place (in_slot (length slots) s) (hashes_of links) (place + 1)) slot_is;
  none_passed = w.none_passed ∙ (elim passed [
    | inl below ↦ way_before (λ h. h == hash) wide (narrows (length slots) hash) (hashes_of links) w.start from place 0 (sym w.chained) below
    | inr other ↦ skip other
  ]);
}
  where
    wide : ℕ → Bool
    wide = in_slot (length slots) (hash % length slots)

    inside : place < length links
    inside = walk_inside slots links hash from place w

    hash_is : get_or (hashes_of links) place 0 ≡ (get_or links place d).hash
    hash_is = hash_at links place d inside

    slot_is : (get_or links place d).hash % length slots ≡ hash % length slots
    slot_is = ap (λ n. n % length slots) (sym hash_is) ∙ same_slot (length slots) (hash % length slots) (get_or (hashes_of links) place 0) (is_next wide (hashes_of links) w.start 0 place (sym w.chained)).passes

    skip : ((get_or links place d).hash ≡ hash → ⊥) → next_place (λ h. h == hash) (hashes_of links) (max w.start from) ≡ next_place (λ h. h == hash) (hashes_of links) (max (place + 1) from)
    skip other = elim (cases_lt place from) [
      | inl below ↦ way_before (λ h. h == hash) wide (narrows (length slots) hash) (hashes_of links) w.start from place 0 (sym w.chained) below
      | inr after ↦ way_passed (λ h. h == hash) wide (narrows (length slots) hash) (hashes_of links) w.start from place 0 (sym w.chained) after (ne_eqb _ hash (λ e. other (sym hash_is ∙ e)))
    ]

pub walk_smaller : (slots : List (Option Chain)) (links : List Link) (hash from place : ℕ) (d : Link) → AreChained slots links → IsOnWay (length slots) (hashes_of links) hash from (Some place)
    → walk_left (length links) (get_or links place d).next < walk_left (length links) (Some place)
walk_smaller slots links hash from place d h w = go (get_or links place d).next (h.leads place d inside)
  where
    inside : place < length links
    inside = walk_inside slots links hash from place w

    go : (o : Option ℕ) → o ≡ next_place (in_slot (length slots) ((get_or links place d).hash % length slots)) (hashes_of links) (place + 1) → walk_left (length links) o < walk_left (length links) (Some place)
    go None e = omega (arith, inside)
    go (Some next) e = let a = (is_next _ (hashes_of links) (place + 1) 0 next (sym e)).after in omega (arith, inside, a)

-- a place that was found is followed by one that has 32 bits too
pub found_few : (o : Option ℕ) (test : ℕ → Bool) (hashes : List ℕ) (from : ℕ) → o ≡ next_place test hashes from → length hashes < 2 ^ 32 → IfSome o (λ place. place + 1 < 2 ^ 32)
found_few None test hashes from e few = tt
found_few (Some place) test hashes from e few = let l = (is_next test hashes from 0 place (sym e)).inside in omega (arith, l, few)
