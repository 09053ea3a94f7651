-- How many pairs two lists have, at most.
use Rattle.std.proofs.Common.{◌≡◌, ℕ, zero, suc, ◌*◌, ◌≤◌, Bool, true, false, List, [], ◌∷◌, length, flat_map, cond, refl, sym, subst, length-append, arith}
use Rattle.std.proofs.Math.Nat.{suc-mul}
use Rattle.std.proofs.lemmas.List.{length-map}
use Rattle.answer_theory.specs.Pairs.{pairs}
use Rattle.answer_theory.specs.Solutions.{only}
use Rattle.row_match.specs.declared.shape.Side.TheVariants as side
use Rattle.join_core.specs.Given.{given_rows, glued, is_given, pairs_given}
use Rattle.join_core.specs.State.{Joining, rows_of, stored_rows}
use Rattle.std.proofs.Common.{filter}

at_most : {X Y : Type 0} (h : X → List Y) (most : ℕ) → ((x : X) → length (h x) ≤ most) → (xs : List X) → length (flat_map h xs) ≤ length xs * most
at_most h most each [] = Prim.omega arith
at_most h most each (x ∷ xs) = Prim.omega (arith, each x, at_most h most each xs, length-append (h x) (flat_map h xs), suc-mul (length xs) most)

one_at_most : {X : Type 0} (b : Bool) (x : X) → length (only b x) ≤ 1
one_at_most true x = Prim.omega arith
one_at_most false x = Prim.omega arith

times_one : (n : ℕ) → n * 1 ≡ n
times_one zero = refl
times_one (suc n) = Prim.omega (arith, suc-mul n 1, times_one n)

pub pairs_at_most : {L R : Type 0} (test : L → R → Bool) (ls : List L) (rs : List R) → length (pairs test ls rs) ≤ length ls * length rs
pairs_at_most {L} {R} test ls rs = at_most (λ l. flat_map (λ r. only {X = L × R} (test l r) (l, r)) rs) (length rs) (λ l. row l) ls
  where
    row : (l : L) → length (flat_map (λ r. only {X = L × R} (test l r) (l, r)) rs) ≤ length rs
    row l = Prim.omega (arith, at_most (λ r. only {X = L × R} (test l r) (l, r)) 1 (λ r. one_at_most (test l r) (l, r)) rs, times_one (length rs))

-- a join gives at most a row for each two rows
pub given_at_most : (s : Joining) → length (given_rows s) ≤ length (stored_rows side.Left s) * length (stored_rows side.Right s)
given_at_most s = subst (λ n. n ≤ length (stored_rows side.Left s) * length (stored_rows side.Right s)) (sym (length-map (pairs_given s) (λ p. glued s.shape p.0.row p.1.row)))
    (subst (λ n. length (pairs_given s) ≤ n * length (stored_rows side.Right s)) (sym (length-map (rows_of s.left) (λ h. h.row)))
    (subst (λ n. length (pairs_given s) ≤ length (rows_of s.left) * n) (sym (length-map (rows_of s.right) (λ h. h.row))) (pairs_at_most (is_given s) (rows_of s.left) (rows_of s.right))))

pub kept_at_most : {X : Type 0} (test : X → Bool) (xs : List X) → length (filter test xs) ≤ length xs
kept_at_most test [] = Prim.omega arith
kept_at_most test (x ∷ xs) = go (test x) (kept_at_most test xs)
  where
    go : (b : Bool) → length (filter test xs) ≤ length xs → length (cond b (x ∷ filter test xs) (filter test xs)) ≤ suc (length xs)
    go true h = Prim.omega (arith, h)
    go false h = Prim.omega (arith, h)

-- products of lesser numbers
pub product_mono : (a b c d : ℕ) → a ≤ b → c ≤ d → a * c ≤ b * d
product_mono zero b c d h k = Prim.omega arith
product_mono (suc a) zero c d h k = absurd (Prim.omega (arith, h))
product_mono (suc a) (suc b) c d h k = Prim.omega (arith, product_mono a b c d (Prim.omega (arith, h)) k, suc-mul a c, suc-mul b d, k)
