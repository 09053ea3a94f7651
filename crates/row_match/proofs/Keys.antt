-- Keys: which positions they have, and that each of these is in the row.
use Rattle.std.proofs.Common.{◌≡◌, ℕ, zero, suc, ◌<◌, ◌≤◌, Bool, true, false, cond, not, ◌==◌, List, [], ◌∷◌, filter, length, Option, Some, None, slice_get, refl, ap, arith, length-append}
use Rattle.std.specs.List.{cons_option, filter_map}
use Rattle.std.specs.Option.{is_some}
use Rattle.std.proofs.lemmas.List.Quantifiers.{position-Some}
use Rattle.std.proofs.lemmas.Bool.{false≢true}
use Rattle.answer_theory.specs.Solutions.{names}
use Rattle.answer_theory.specs.Rows.{shared_variables, glued_variables}
use Rattle.tuple_core.specs.declared.value.Value.{Value}
use Rattle.row_match.specs.Patterns.{position_of}
use Rattle.row_match.specs.Shapes.{Shape, positions_in, vars_of, key_positions, key_row}
use Rattle.row_match.specs.declared.shape.Side.{Side}
use Rattle.row_match.proofs.Gathering.{gathered}

in_range : {X : Type 0} (row : List X) (k : ℕ) → k < length row → is_some (slice_get row k) ≡ true
in_range [] k l = absurd (omega (arith, l))
in_range (x ∷ row) zero l = refl
in_range (x ∷ row) (suc k) l = in_range row k (let m : suc k < suc (length row) = l in omega (arith, m))

-- each position is in the row
counted : {X : Type 0} (vs : List ℕ) (row : List X) → length row ≡ length vs → (ws : List ℕ) → length (filter_map (slice_get row) (positions_in vs ws)) ≡ length (positions_in vs ws)
counted vs row e [] = refl
counted {X} vs row e (w ∷ ws) = go (position_of vs w) (λ k h. (position-Some (λ u. u == w) vs k 0 h).0) (counted vs row e ws)
  where
    one : (o : Option X) → is_some o ≡ true → length (filter_map (slice_get row) (positions_in vs ws)) ≡ length (positions_in vs ws) → length (cons_option o (filter_map (slice_get row) (positions_in vs ws))) ≡ suc (length (positions_in vs ws))
    one None h ih = absurd (false≢true h)
    one (Some x) h ih = ap suc ih

    go : (o : Option ℕ) → ((k : ℕ) → o ≡ Some k → k < length vs) → length (filter_map (slice_get row) (positions_in vs ws)) ≡ length (positions_in vs ws)
        → length (filter_map (slice_get row) (cons_option o (positions_in vs ws))) ≡ length (cons_option o (positions_in vs ws))
    go None h ih = ih
    go (Some k) h ih = one (slice_get row k) (in_range row k (let l = h k refl in omega (arith, l, e))) ih

fewer_positions : (vs ws : List ℕ) → length (positions_in vs ws) ≤ length ws
fewer_positions vs [] = omega arith
fewer_positions vs (w ∷ ws) = go (position_of vs w) (fewer_positions vs ws)
  where
    go : (o : Option ℕ) → length (positions_in vs ws) ≤ length ws → length (cons_option o (positions_in vs ws)) ≤ suc (length ws)
    go None h = omega (arith, h)
    go (Some k) h = omega (arith, h)

pub fewer_kept : {X : Type 0} (test : X → Bool) (xs : List X) → length (filter test xs) ≤ length xs
fewer_kept test [] = omega arith
fewer_kept {X} test (x ∷ xs) = go (test x) (fewer_kept test xs)
  where
    go : (t : Bool) → length (filter test xs) ≤ length xs → length (cond t (x ∷ filter test xs) (filter test xs)) ≤ suc (length xs)
    go true h = omega (arith, h)
    go false h = omega (arith, h)

pub key_short : (s : Side) (shape : Shape) (positions : List ℕ) → length (glued_variables shape.left shape.right) ≤ 64 → positions ≡ key_positions s shape → length positions ≤ 64
key_short s shape positions h e =
    let a = fewer_positions (vars_of s shape) (shared_variables shape.left shape.right) in
    let b = fewer_kept (λ u. names shape.right u) shape.left in
    let c = length-append shape.left (filter (λ v. not (names shape.left v)) shape.right) in
    rw e (omega (arith, a, b, c, h))

pub key_inside : (s : Side) (shape : Shape) (positions : List ℕ) (row : List Value) → length row ≡ length (vars_of s shape) → positions ≡ key_positions s shape → length (filter_map (slice_get row) positions) ≡ length positions
key_inside s shape positions row e f = rw f (counted (vars_of s shape) row e (shared_variables shape.left shape.right))

pub key_is : (s : Side) (shape : Shape) (positions : List ℕ) (row : List Value) → length row ≡ length (vars_of s shape) → positions ≡ key_positions s shape → filter_map (slice_get row) positions ≡ key_row s shape row
key_is s shape positions row e f = rw f (gathered (vars_of s shape) row e (shared_variables shape.left shape.right))
