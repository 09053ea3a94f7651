-- The next row that has a key is found among those that have its hash.
use Rattle.std.proofs.Common.{◌≡◌, ◌<◌, ◌≤◌, ◌+◌, ◌==◌, ℕ, zero, suc, Bool, true, false, cond, List, [], ◌∷◌, length, get_or, drop, map, Some, None, max, refl, sym, ap, subst, ◌∙◌, arith}
use Rattle.std.specs.List.{position_from}
use Rattle.std.specs.Cmp.Lexicographic.{bytes_decides}
use Rattle.std.proofs.lemmas.Bool.{eq-eqb}
use Rattle.med_prelude.specs.Texts.{Bytes}
use Rattle.bucket_store.specs.Held.{Held, HeldList, has_key, no_row, same_key}
use Rattle.bucket_store.specs.Keys.{key_hash}
use Rattle.bucket_store.specs.Places.{next_place}
use Rattle.bucket_store.proofs.Places.{is_next, way_ends, way_found, way_passed}

position_map : {X Y : Type 0} (f : X → Y) (test : Y → Bool) (i : ℕ) (xs : List X) → position_from test i (map f xs) ≡ position_from (λ x. test (f x)) i xs
position_map f test i [] = refl
position_map f test i (x ∷ xs) = ap (λ o. cond (test (f x)) (Some i) o) (position_map f test (i + 1) xs)

drop_map : {X Y : Type 0} (f : X → Y) (n : ℕ) (xs : List X) → drop n (map f xs) ≡ map f (drop n xs)
drop_map f zero xs = refl
drop_map f (suc n) [] = refl
drop_map f (suc n) (x ∷ xs) = drop_map f n xs

next_map : {X Y : Type 0} (f : X → Y) (test : Y → Bool) (xs : List X) (from : ℕ) → next_place test (map f xs) from ≡ next_place (λ x. test (f x)) xs from
next_map f test xs from = ap (position_from test from) (drop_map f from xs) ∙ position_map f test from (drop from xs)

module _ (rows : HeldList) (hashes : List ℕ) (key : Bytes) (hash : ℕ) (chained : hashes ≡ map (λ h. key_hash h.key) rows) (hash_is : hash ≡ key_hash key) where
  has_hash : Held → Bool
  has_hash h = key_hash h.key == hash

  narrows : (h : Held) → has_key key h ≡ true → has_hash h ≡ true
  unfolding has_hash
  narrows h e = eq-eqb (key_hash h.key) hash (ap key_hash ((bytes_decides h.key key).0 e) ∙ sym hash_is)

  by_hash : (from : ℕ) → next_place (λ h. h == hash) hashes from ≡ next_place has_hash rows from
  unfolding has_hash
  by_hash from = ap (λ xs. next_place (λ h. h == hash) xs from) chained ∙ next_map (λ (h : Held). key_hash h.key) (λ h. h == hash) rows from

  once : (from : ℕ) → max from from ≡ from
  once from = omega arith

  -- no row has the hash
  pub probe_ends : (from : ℕ) → None ≡ next_place (λ h. h == hash) hashes from → None ≡ next_place (has_key key) rows from
  probe_ends from e = subst (λ n. None ≡ next_place (has_key key) rows n) (once from) (sym (way_ends (has_key key) has_hash narrows rows from from no_row (sym (e ∙ by_hash from))))

  pub probe_inside : (from place : ℕ) → Some place ≡ next_place (λ h. h == hash) hashes from → (from ≤ place) × (place < length rows)
  probe_inside from place e = let h = is_next has_hash rows from no_row place (sym (e ∙ by_hash from)) in (h.after, h.inside)

  -- the row has the key
  pub probe_finds : (from place : ℕ) → Some place ≡ next_place (λ h. h == hash) hashes from → (get_or rows place no_row).key ≡ key → Some place ≡ next_place (has_key key) rows from
  probe_finds from place e same = subst (λ n. Some place ≡ next_place (has_key key) rows n) (once from)
      (sym (way_found (has_key key) has_hash narrows rows from from place no_row (sym (e ∙ by_hash from)) (probe_inside from place e).0 ((bytes_decides (get_or rows place no_row).key key).1 same)))

  differs : (x : Bytes) → (x ≡ key → ⊥) → same_key x key ≡ false
  differs x other = elim (same_key x key) as (λ b. same_key x key ≡ b → b ≡ false) [
    | true ↦ λ t. absurd (other ((bytes_decides x key).0 t))
    | false ↦ λ t. refl
  ] refl

  -- the row has another key
  pub probe_passes : (from place : ℕ) → Some place ≡ next_place (λ h. h == hash) hashes from → ((get_or rows place no_row).key ≡ key → ⊥) → next_place (has_key key) rows from ≡ next_place (has_key key) rows (place + 1)
  probe_passes from place e other =
      let after = (probe_inside from place e).0 in
      ap (next_place (has_key key) rows) (sym (once from))
      ∙ way_passed (has_key key) has_hash narrows rows from from place no_row (sym (e ∙ by_hash from)) after (differs (get_or rows place no_row).key other)
      ∙ ap (next_place (has_key key) rows) (let same : max (place + 1) from ≡ place + 1 = omega (arith, after) in same)
