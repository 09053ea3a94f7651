-- Chains of places that have one slot.
use Rattle.std.specs.Prelude.{◌≡◌, ◌≤◌, ◌<◌, ◌+◌, ◌*◌, ◌%◌, ◌==◌, max, ℕ, Bool, true, List, length, map, slice_index_or, Option, Some, None}
use Rattle.bucket_store.specs.Places.{next_place}
use Rattle.bucket_store.specs.declared.chains.Chain.{Chain}
use Rattle.bucket_store.specs.declared.chains.Link.{Link}

abbrev pub hashes_of : List Link → List ℕ
hashes_of links = map (λ l. l.hash) links

-- the hash has this slot, among so many
abbrev pub in_slot : ℕ → ℕ → ℕ → Bool
in_slot count slot hash = hash % count == slot

-- the place is the last that passes the test
pub record IsLastPlace (test : ℕ → Bool) (hashes : List ℕ) (place : ℕ) : Type 0 where
  pub inside : place < length hashes
  pub passes : test (slice_index_or hashes place 0) ≡ true
  pub last : next_place test hashes (place + 1) ≡ None

-- a slot has the first and the last of its places, or there are none
abbrev pub Spans : Option Chain → (ℕ → Bool) → List ℕ → Type 0
Spans None test hashes = next_place test hashes 0 ≡ None
Spans (Some chain) test hashes = (next_place test hashes 0 ≡ Some chain.first) × IsLastPlace test hashes chain.last

-- Each slot spans its places, and each link leads to the next place of its slot. There are twice as many slots as links, or more.
pub record AreChained (slots : List (Option Chain)) (links : List Link) : Type 0 where
  pub room : 2 * length links ≤ length slots
  pub spans : (slot : ℕ) → slot < length slots → Spans (slice_index_or slots slot None) (in_slot (length slots) slot) (hashes_of links)
  pub leads : (place : ℕ) (d : Link) → place < length links
      → (slice_index_or links place d).next ≡ next_place (in_slot (length slots) ((slice_index_or links place d).hash % length slots)) (hashes_of links) (place + 1)

-- On the way along a chain to what has the hash, at or after a place: nothing that has it was passed.
pub record IsOnWay (slots : ℕ) (hashes : List ℕ) (hash from : ℕ) (next : Option ℕ) : Type 0 where
  pub start : ℕ
  pub chained : next ≡ next_place (in_slot slots (hash % slots)) hashes start
  pub none_passed : next_place (λ h. h == hash) hashes from ≡ next_place (λ h. h == hash) hashes (max start from)
