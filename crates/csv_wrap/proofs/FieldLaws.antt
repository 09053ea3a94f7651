-- A record's fields by position, beside the list of its fields.
use Rattle.std.proofs.Common.{◌≡◌, ℕ, zero, suc, ◌+◌, ◌<◌, List, [], ◌∷◌, length, drop, Some, None, arith, refl, add-one}
use Rattle.csv.specs.Records.{field_at}

pub field_there : (fields : List (List ℕ)) (i : ℕ) → i < length fields → field_at fields i ≡ None → ⊥
unfolding field_at
field_there [] i h e = absurd (omega arith)
field_there (f ∷ fs) zero h e = cc
field_there (f ∷ fs) (suc i) h e = field_there fs i (omega arith) e

field_drop_suc : (fields : List (List ℕ)) (i : ℕ) (x : List ℕ) → field_at fields i ≡ Some x → drop i fields ≡ x ∷ drop (suc i) fields
unfolding field_at
field_drop_suc [] i x e = cc
field_drop_suc (f ∷ fs) zero x e = let same : f ≡ x = cc in rw same refl
field_drop_suc (f ∷ fs) (suc i) x e = field_drop_suc fs i x e

pub field_drop : (fields : List (List ℕ)) (i : ℕ) (x : List ℕ) → field_at fields i ≡ Some x → drop i fields ≡ x ∷ drop (i + 1) fields
field_drop fields i x e = rw (add-one i) (field_drop_suc fields i x e)
