-- When a join has given all.
use Rattle.std.proofs.Common.{◌≡◌, ◌==◌, ◌&&◌, ℕ, zero, suc, Bool, true, false, List, [], ◌∷◌, length, map, replicate, Option, Some, None, is_none, is_some, not, refl, sym, ap, subst, ◌∙◌}
use Rattle.std.proofs.lemmas.Bool.{and_parts, false≢true}
use Rattle.answer_theory.specs.Bags.{SameBag}
use Rattle.row_match.specs.Shapes.{Shape}
use Rattle.row_match.specs.declared.shape.Side.{Side}
use Rattle.row_match.specs.declared.shape.Side.TheVariants as side
use Rattle.med_prelude.specs.Texts.{Bytes}
use Rattle.tuple_core.specs.Hashing.{bucket_of}
use Rattle.answer_theory.proofs.Pairs.{pairs_alike}
use Rattle.bucket_store.specs.Held.{Held, HeldList, rows_weight, weights_of}
use Rattle.join_core.specs.Given.{given_rows, is_given, is_left_over, is_match, is_owed, is_passed, joined_rows, pairs_left_over, pairs_owed}
use Rattle.join_core.specs.Kept.{IsJoin}
use Rattle.join_core.specs.Sides.{TwoSides, buckets_on, joining_of}
use Rattle.join_core.specs.State.{Joining, cursor_start, fresh_join, is_open, no_pile, open_pile, pile_for, pile_weights, piles_of, rows_of, stored_rows}
use Rattle.join_core.specs.Steps.{is_finished}
use Rattle.join_core.specs.declared.probe.Probe.{Probe}
use Rattle.join_core.proofs.Flat.{alike_all}
use Rattle.join_core.proofs.Stepping.{all_given, and_turned, closed_open, given_is, no_pairs}

empty_piles : (count : ℕ) → map open_pile (replicate count []) ≡ replicate count no_pile
empty_piles zero = refl
empty_piles (suc count) = ap (λ ps. no_pile ∷ ps) (empty_piles count)

pub fresh_is : (shape : Shape) (count : ℕ) → joining_of shape (record { left = replicate count []; right = replicate count [] }) false false 0 None ≡ fresh_join count shape
fresh_is shape count = ap (λ ps. record { shape = shape; left = ps; right = ps; left_ended = false; right_ended = false; next = 0; probe = None; cursor = cursor_start }) (empty_piles count)

-- all buckets are open
open_at : (buckets : List HeldList) (h : Held) → is_open (pile_for (map open_pile buckets) h) ≡ true
open_at buckets h = ap is_none (closed_open buckets (bucket_of (length (map open_pile buckets)) h.key))

none_over : (same l r passed : Bool) → l ≡ true → r ≡ true → (same && (not (l && r) && not passed)) ≡ false
none_over same l r passed a b = rw (a, b) (and_turned same false)

pub none_left : (shape : Shape) (sides : TwoSides) (left_ended right_ended : Bool) (next : ℕ) (probe : Option Probe) → pairs_left_over (joining_of shape sides left_ended right_ended next probe) ≡ []
none_left shape sides left_ended right_ended next probe =
    pairs_alike (is_left_over s) (λ l r. false) (rows_of s.left) (rows_of s.right) (alike_all (rows_of s.left) (rows_of s.right) (is_left_over s) (λ l r. false)
    (λ l r. none_over (bucket_of (length s.left) l.key == bucket_of (length s.right) r.key) (is_open (pile_for s.left l)) (is_open (pile_for s.right r)) (is_passed s l r) (open_at sides.left l) (open_at sides.right r)))
    ∙ no_pairs (rows_of s.left) (rows_of s.right)
  where
    s : Joining
    s = joining_of shape sides left_ended right_ended next probe

pub finished_is : (shape : Shape) (sides : TwoSides) (left_ended right_ended : Bool) (next : ℕ) (probe : Option Probe) → ((left_ended && right_ended) && is_none probe) ≡ is_finished (joining_of shape sides left_ended right_ended next probe)
finished_is shape sides left_ended right_ended next None = ap (λ x. (left_ended && right_ended) && x) (sym (ap (λ xs. length xs == 0) (none_left shape sides left_ended right_ended next None)))
finished_is shape sides left_ended right_ended next (Some p) = refl

probe_gone : (x : Bool) (probe : Option Probe) → (x && is_none probe) ≡ true → probe ≡ None
probe_gone x None e = refl
probe_gone x (Some p) e = absurd (false≢true (and_parts x false e).1)

pub finished_all : (shape : Shape) (sides : TwoSides) (left_ended right_ended : Bool) (next : ℕ) (key : Bytes) (probe : Option Probe) → IsJoin shape sides next key probe → ((left_ended && right_ended) && is_none probe) ≡ true
    → SameBag (given_rows (joining_of shape sides left_ended right_ended next probe)) (joined_rows shape (stored_rows side.Left (joining_of shape sides left_ended right_ended next probe)) (stored_rows side.Right (joining_of shape sides left_ended right_ended next probe)))
finished_all shape sides left_ended right_ended next key probe h e =
    subst (λ o. SameBag (given_rows (joining_of shape sides left_ended right_ended next o)) (joined_rows shape (stored_rows side.Left (joining_of shape sides left_ended right_ended next o)) (stored_rows side.Right (joining_of shape sides left_ended right_ended next o))))
    (sym (probe_gone (left_ended && right_ended) probe e)) (all_given shape sides left_ended right_ended next h.left.each h.right.each)

-- nothing is owed where no probe is under way
pub finished_owes : (shape : Shape) (sides : TwoSides) (left_ended right_ended : Bool) (next : ℕ) (probe : Option Probe) → ((left_ended && right_ended) && is_none probe) ≡ true → pairs_owed (joining_of shape sides left_ended right_ended next probe) ≡ []
finished_owes shape sides left_ended right_ended next probe e =
    subst (λ o. pairs_owed (joining_of shape sides left_ended right_ended next o) ≡ []) (sym (probe_gone (left_ended && right_ended) probe e))
    (pairs_alike (is_owed s) (λ l r. false) (rows_of s.left) (rows_of s.right) (alike_all (rows_of s.left) (rows_of s.right) (is_owed s) (λ l r. false) (λ l r. all_of (is_match l r) (is_given s l r) (given_is shape sides left_ended right_ended next None l r)))
    ∙ no_pairs (rows_of s.left) (rows_of s.right))
  where
    s : Joining
    s = joining_of shape sides left_ended right_ended next None

    all_of : (m g : Bool) → g ≡ (m && true) → (m && not g) ≡ false
    all_of true g h = rw h refl
    all_of false g h = refl

pub none_is : (o : Option Probe) (b : Bool) → is_some o ≡ not b → b ≡ is_none o
none_is None true e = refl
none_is None false e = absurd (false≢true e)
none_is (Some p) true e = absurd (false≢true (sym e))
none_is (Some p) false e = refl

weights_open : (buckets : List HeldList) → weights_of buckets ≡ pile_weights (map open_pile buckets)
weights_open [] = refl
weights_open (rows ∷ buckets) = ap (λ ws. rows_weight rows ∷ ws) (weights_open buckets)

pub weights_are : (sd : Side) (shape : Shape) (sides : TwoSides) (left_ended right_ended : Bool) (next : ℕ) (probe : Option Probe) → weights_of (buckets_on sd sides) ≡ pile_weights (piles_of sd (joining_of shape sides left_ended right_ended next probe))
weights_are side.Left shape sides left_ended right_ended next probe = weights_open sides.left
weights_are side.Right shape sides left_ended right_ended next probe = weights_open sides.right
