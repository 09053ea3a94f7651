-- The bytes of a text are numbers below 256.
use Rattle.std.proofs.Common.{◌≡◌, ℕ, zero, suc, ◌+◌, ◌/◌, ◌<◌, Bool, true, false, List, [], ◌∷◌, ◌++◌, get_or, cond, inl, inr, refl, subst, arith}
use Rattle.std.specs.Cmp.{first_so, second_so}
use Rattle.std.proofs.Math.Dec.{ltb}
use Rattle.std.proofs.Math.Utf8.{encode, encodes, next, scalar, scalars, scalar_cases}
use Rattle.std.proofs.lemmas.Bool.{ltb-true}
use Rattle.std.proofs.lemmas.Str.{IsUtf8-from_is_utf8}
use Rattle.med_prelude.specs.Texts.{IsText}

below_append : (xs ys : List ℕ) → ((k : ℕ) → get_or xs k 0 < 256) → ((k : ℕ) → get_or ys k 0 < 256) → (k : ℕ) → get_or (xs ++ ys) k 0 < 256
below_append [] ys h g k = g k
below_append (x ∷ xs) ys h g zero = h 0
below_append (x ∷ xs) ys h g (suc k) = below_append xs ys (λ j. h (suc j)) g k

below_none : (k : ℕ) → get_or [] k 0 < 256
below_none k = omega arith

below_more : (x : ℕ) (xs : List ℕ) → x < 256 → ((k : ℕ) → get_or xs k 0 < 256) → (k : ℕ) → get_or (x ∷ xs) k 0 < 256
below_more x xs l h zero = l
below_more x xs l h (suc k) = h k

below_one : (x : ℕ) → x < 256 → (k : ℕ) → get_or (x ∷ []) k 0 < 256
below_one x l = below_more x [] l below_none

below_two : (x y : ℕ) → x < 256 → y < 256 → (k : ℕ) → get_or (x ∷ y ∷ []) k 0 < 256
below_two x y l m = below_more x (y ∷ []) l (below_one y m)

below_three : (x y z : ℕ) → x < 256 → y < 256 → z < 256 → (k : ℕ) → get_or (x ∷ y ∷ z ∷ []) k 0 < 256
below_three x y z l m n = below_more x (y ∷ z ∷ []) l (below_two y z m n)

below_four : (w x y z : ℕ) → w < 256 → x < 256 → y < 256 → z < 256 → (k : ℕ) → get_or (w ∷ x ∷ y ∷ z ∷ []) k 0 < 256
below_four w x y z l m n o = below_more w (x ∷ y ∷ z ∷ []) l (below_three x y z m n o)

below_next : (n : ℕ) → next n < 256
below_next n = omega arith

below_if : (t : Bool) (xs ys : List ℕ) → (t ≡ true → (k : ℕ) → get_or xs k 0 < 256) → (t ≡ false → (k : ℕ) → get_or ys k 0 < 256)
    → (k : ℕ) → get_or (cond t xs ys) k 0 < 256
below_if true xs ys f g = f refl
below_if false xs ys f g = g refl

below_encode : (c : ℕ) → c < 1114112 → (k : ℕ) → get_or (encode c) k 0 < 256
unfolding encode
below_encode c l =
    below_if (ltb c 128) _ _ (λ e. let h = ltb-true c 128 e in below_one c (omega (arith, h)))
    (λ _. below_if (ltb c 2048) _ _ (λ e. let h = ltb-true c 2048 e in below_two (192 + c / 64) (next c) (omega (arith, h)) (below_next c))
    (λ _. below_if (ltb c 65536) _ _
    (λ e. let h = ltb-true c 65536 e in below_three (224 + c / 4096) (next (c / 64)) (next c) (omega (arith, h)) (below_next (c / 64)) (below_next c))
    (λ _. below_four (240 + c / 262144) (next (c / 4096)) (next (c / 64)) (next c) (omega (arith, l)) (below_next (c / 4096)) (below_next (c / 64)) (below_next c))))

scalar_below : (c : ℕ) → scalar c ≡ true → c < 1114112
scalar_below c h = elim (scalar_cases c h) [ inl l ↦ omega (arith, l) | inr p ↦ p.1 ]

below_encodes : (cs : List ℕ) → scalars cs ≡ true → (k : ℕ) → get_or (encodes cs) k 0 < 256
below_encodes [] h k = omega arith
below_encodes (c ∷ cs) h k = below_append (encode c) (encodes cs) (below_encode c (scalar_below c (first_so (scalar c) (scalars cs) h))) (below_encodes cs (second_so (scalar c) (scalars cs) h)) k

-- the bytes of a text are below 256
pub bytes_below : (bytes : List ℕ) → IsText bytes → (k : ℕ) → get_or bytes k 0 < 256
bytes_below bytes h k = let u = IsUtf8-from_is_utf8 bytes h in subst (λ bs. get_or bs k 0 < 256) u.1.1 (below_encodes u.0 u.1.0 k)
