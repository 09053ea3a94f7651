-- Where a variable stands among others, and what a row has at that position.
use Rattle.std.proofs.Common.{◌≡◌, ℕ, suc, ◌+◌, Bool, true, false, cond, ◌||◌, ◌==◌, List, [], ◌∷◌, ◌++◌, length, Option, Some, None, option_map, slice_get, refl, sym, ap, ◌∙◌, arith}
use Rattle.std.specs.List.{position_from}
use Rattle.std.specs.Option.{option_and_then, is_some}
use Rattle.std.proofs.lemmas.Iterator.Adapters.{position_from-zero}
use Rattle.std.proofs.lemmas.Bool.{or_parts}
use Rattle.answer_theory.specs.Bindings.{value_of}
use Rattle.answer_theory.specs.Solutions.{names}
use Rattle.answer_theory.specs.Rows.{over, AreDistinct}
use Rattle.answer_theory.proofs.Bools.{nat_eq_sym}
use Rattle.answer_theory.proofs.Lists.{any_append}
use Rattle.row_match.specs.Patterns.{position_of}

-- the position, by recursion
abbrev found_at : List ℕ → ℕ → Option ℕ
found_at [] v = None
found_at (u ∷ us) v = cond (u == v) (Some 0) (option_map suc (found_at us v))

from_next : (v i : ℕ) (us : List ℕ) → position_from (λ u. u == v) (i + 1) us ≡ option_map suc (position_from (λ u. u == v) i us)
from_next v i [] = refl
from_next v i (u ∷ us) = go (u == v) (from_next v (i + 1) us)
  where
    go : (t : Bool) → position_from (λ w. w == v) (i + 1 + 1) us ≡ option_map suc (position_from (λ w. w == v) (i + 1) us)
        → cond t (Some (i + 1)) (position_from (λ w. w == v) (i + 1 + 1) us) ≡ option_map suc (cond t (Some i) (position_from (λ w. w == v) (i + 1) us))
    go true h = let e : i + 1 ≡ suc i = omega arith in ap Some e
    go false h = h

from_first : (v : ℕ) (us : List ℕ) → position_from (λ u. u == v) 0 us ≡ found_at us v
from_first v [] = refl
from_first v (u ∷ us) = ap (λ o. cond (u == v) (Some 0) o) (from_next v 0 us ∙ ap (option_map suc) (from_first v us))

is_found : (v : ℕ) (us : List ℕ) → position_of us v ≡ found_at us v
is_found v us = position_from-zero (λ u. u == v) us ∙ from_first v us

value_found : {X : Type 0} (v : ℕ) (us : List ℕ) (row : List X) → length row ≡ length us → value_of (over us row) v ≡ option_and_then (slice_get row) (found_at us v)
value_found v [] row e = refl
value_found v (u ∷ us) [] e = absurd (let d : 0 ≡ suc (length us) = e in omega (arith, d))
value_found {X} v (u ∷ us) (x ∷ row) e = go (u == v) (found_at us v) (value_found v us row (let d : suc (length row) ≡ suc (length us) = e in omega (arith, d)))
  where
    go : (t : Bool) (o : Option ℕ) → value_of (over us row) v ≡ option_and_then (slice_get row) o
        → cond t (Some x) (value_of (over us row) v) ≡ option_and_then (slice_get (x ∷ row)) (cond t (Some 0) (option_map suc o))
    go true o h = refl
    go false None h = h
    go false (Some k) h = h

named_found : (v : ℕ) (us : List ℕ) → names us v ≡ is_some (found_at us v)
named_found v [] = refl
named_found v (u ∷ us) = go (u == v) (found_at us v) (named_found v us)
  where
    go : (t : Bool) (o : Option ℕ) → names us v ≡ is_some o → (t || names us v) ≡ is_some (cond t (Some 0) (option_map suc o))
    go true o h = refl
    go false None h = h
    go false (Some k) h = h

pub value_at : {X : Type 0} (v : ℕ) (us : List ℕ) (row : List X) → length row ≡ length us → value_of (over us row) v ≡ option_and_then (slice_get row) (position_of us v)
value_at v us row e = value_found v us row e ∙ ap (option_and_then (slice_get row)) (sym (is_found v us))

pub named_by_position : (v : ℕ) (us : List ℕ) → names us v ≡ is_some (position_of us v)
named_by_position v us = named_found v us ∙ ap is_some (sym (is_found v us))

pub over_push : {X : Type 0} (us : List ℕ) (row : List X) (v : ℕ) (x : X) → length row ≡ length us → over (us ++ v ∷ []) (row ++ x ∷ []) ≡ over us row ++ (v, x) ∷ []
over_push [] [] v x e = refl
over_push [] (y ∷ row) v x e = absurd (let d : suc (length row) ≡ 0 = e in omega (arith, d))
over_push (u ∷ us) [] v x e = absurd (let d : 0 ≡ suc (length us) = e in omega (arith, d))
over_push (u ∷ us) (y ∷ row) v x e = ap (λ b. (u, y) ∷ b) (over_push us row v x (let d : suc (length row) ≡ suc (length us) = e in omega (arith, d)))

other : (u v : ℕ) → (u == v) ≡ false → (v == u) ≡ false
other u v e = nat_eq_sym v u ∙ e

pub distinct_push : (us : List ℕ) (v : ℕ) → AreDistinct us → names us v ≡ false → AreDistinct (us ++ v ∷ [])
distinct_push [] v d e = (refl, tt)
distinct_push (u ∷ us) v d e = (
  any_append (λ w. w == u) us (v ∷ []) ∙ (ap (λ t. t || ((v == u) || false)) d.0 ∙ ap (λ t. t || false) (other u v (or_parts (u == v) (names us v) e).0)),
  distinct_push us v d.1 (or_parts (u == v) (names us v) e).1,
)
