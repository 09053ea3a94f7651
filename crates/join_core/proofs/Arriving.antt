-- A row comes to a join whose rows are all in memory.
use Rattle.std.proofs.Common.{◌≡◌, ◌<◌, ◌+◌, ◌++◌, ◌&&◌, not, ℕ, zero, suc, Bool, true, false, List, [], ◌∷◌, length, get_or, set, map, All, Option, Some, None, refl, sym, ap, ap₂, subst, ◌∙◌, arith, append-nil}
use Rattle.std.proofs.lemmas.List.{length-map, length-set, map-append, map-set}
use Rattle.std.proofs.lemmas.List.Elements.{All-from_recursion}
use Rattle.answer_theory.specs.Bags.{SameBag}
use Rattle.answer_theory.specs.Pairs.{AlikeOn, pairs}
use Rattle.answer_theory.proofs.Bags.{bag_from_same, bag_map, bag_refl, bag_trans}
use Rattle.answer_theory.proofs.Pairs.{bag_pairs, pairs_alike, pairs_append_left, pairs_append_right}
use Rattle.med_prelude.specs.Texts.{Bytes}
use Rattle.tuple_core.specs.Encoding.{row_encoding}
use Rattle.tuple_core.specs.Hashing.{bucket_of}
use Rattle.tuple_core.specs.Values.{RowValues}
use Rattle.row_match.specs.Shapes.{Shape, key_row}
use Rattle.row_match.specs.declared.shape.Side.{Side}
use Rattle.row_match.specs.declared.shape.Side.TheVariants as side
use Rattle.bucket_store.specs.Held.{Held, HeldList, rows_in, with_row}
use Rattle.join_core.specs.Given.{given_rows, glued, is_given, is_match, is_pending_in, pairs_given, pends}
use Rattle.join_core.specs.Kept.{IsHeld, IsJoin}
use Rattle.join_core.specs.Sides.{TwoSides, buckets_on, joining_of, probing_of, with_buckets}
use Rattle.join_core.specs.State.{Joining, Pile, Probing, arrived, cursor_start, open_pile, pile_at, rows_of, with_held}
use Rattle.join_core.specs.Steps.{JoinStep, on_side}
use Rattle.bucket_store.specs.Addresses.{address_of}
use Rattle.join_core.specs.declared.probe.Probe.{Probe}
use Rattle.join_core.proofs.Flat.{all_in, each_in, more_in, rows_open}
use Rattle.join_core.proofs.Pointwise.{new_pends, old_rests}
use Rattle.join_core.proofs.Keeping.{bucket_inside}
use Rattle.join_core.proofs.Stepping.{and_turned, given_is, no_pairs}

-- ---- the state afterwards

pile_open : (buckets : List HeldList) (b : ℕ) → pile_at (map open_pile buckets) b ≡ open_pile (rows_in buckets b)
pile_open [] b = refl
pile_open (rows ∷ buckets) zero = refl
pile_open (rows ∷ buckets) (suc b) = pile_open buckets b

with_open : (buckets : List HeldList) (held : Held) → map open_pile (with_row buckets held) ≡ with_held (map open_pile buckets) held
with_open buckets held =
    map-set open_pile buckets bucket (rows_in buckets bucket ++ held ∷ [])
    ∙ (ap (λ (p : Pile). set (map open_pile buckets) bucket (record p { rows = p.rows ++ held ∷ [] })) (sym (pile_open buckets bucket))
    ∙ ap (λ n. set (map open_pile buckets) (bucket_of n held.key) (record (pile_at (map open_pile buckets) (bucket_of n held.key)) { rows = (pile_at (map open_pile buckets) (bucket_of n held.key)).rows ++ held ∷ [] })) (sym (length-map buckets open_pile)))
  where
    bucket : ℕ
    bucket = bucket_of (length buckets) held.key

-- the row as it is kept
abbrev pub kept_as : Side → Shape → RowValues → ℕ → Held
kept_as sd shape row next = record { key = row_encoding (key_row sd shape row); row = row; number = next }

-- the probe that begins
abbrev pub begun : Side → ℕ → Held → Probing
begun sd count held = record { side = sd; number = held.number; bucket = bucket_of count held.key; from = 0 }

pub arrived_is : (sd : Side) (shape : Shape) (sides : TwoSides) (left_ended right_ended : Bool) (next : ℕ) (row : RowValues) (after : Probe)
    → probing_of after ≡ begun sd (length (buckets_on sd sides)) (kept_as sd shape row next)
    → joining_of shape (with_buckets sd sides (with_row (buckets_on sd sides) (kept_as sd shape row next))) left_ended right_ended (next + 1) (Some after)
    ≡ arrived sd (joining_of shape sides left_ended right_ended next None) row
arrived_is side.Left shape sides left_ended right_ended next row after is =
    ap₂ (λ ls q. record { shape = shape; left = ls; right = map open_pile sides.right; left_ended = left_ended; right_ended = right_ended; next = next + 1; probe = Some q; cursor = cursor_start })
    (with_open sides.left (kept_as side.Left shape row next)) (is ∙ ap (λ n. begun side.Left n (kept_as side.Left shape row next)) (sym (length-map sides.left open_pile)))
arrived_is side.Right shape sides left_ended right_ended next row after is =
    ap₂ (λ rs q. record { shape = shape; left = map open_pile sides.left; right = rs; left_ended = left_ended; right_ended = right_ended; next = next + 1; probe = Some q; cursor = cursor_start })
    (with_open sides.right (kept_as side.Right shape row next)) (is ∙ ap (λ n. begun side.Right n (kept_as side.Right shape row next)) (sym (length-map sides.right open_pile)))

-- ---- the step

stored_more : (buckets : List HeldList) (held : Held) → bucket_of (length buckets) held.key < length buckets
    → SameBag (map (λ h. h.row) (rows_of (map open_pile (with_row buckets held)))) (map (λ h. h.row) (rows_of (map open_pile buckets)) ++ held.row ∷ [])
stored_more buckets held inside =
    bag_trans (bag_from_same (ap (map (λ (h : Held). h.row)) (rows_open (with_row buckets held))))
    (bag_trans (bag_map (λ (h : Held). h.row) (more_in buckets (bucket_of (length buckets) held.key) held inside))
    (bag_from_same (map-append (λ (h : Held). h.row) (all_in buckets) (held ∷ []) ∙ ap (λ hs. map (λ (h : Held). h.row) hs ++ held.row ∷ []) (sym (rows_open buckets)))))

no_more : (s t : Joining) → t.shape ≡ s.shape → SameBag (pairs_given t) (pairs_given s) → SameBag (given_rows t) (given_rows s ++ [])
no_more s t same h =
    subst (λ shape. SameBag (map (λ p. glued shape p.0.row p.1.row) (pairs_given t)) (given_rows s ++ [])) (sym same)
    (bag_trans (bag_map (λ p. glued s.shape p.0.row p.1.row) h) (bag_from_same (sym (append-nil (given_rows s)))))

-- each row of the side came before
abbrev Earlier : Side → Shape → ℕ → List HeldList → Type 0
Earlier sd shape next buckets = (b : ℕ) → b < length buckets → All (IsHeld sd shape next) (rows_in buckets b)

all_earlier : (sd : Side) (shape : Shape) (next : ℕ) (buckets : List HeldList) → Earlier sd shape next buckets → All (λ (x : Held). x.number < next) (all_in buckets)
all_earlier sd shape next buckets h = All-from_recursion (λ (x : Held). x.number < next) (all_in buckets) (each_in (λ (x : Held). x.number < next) buckets (λ b l k d i. (h b l k d i).earlier))

old_kept : (m p : Bool) → p ≡ false → (m && not p) ≡ (m && not false)
old_kept m p e = ap (λ x. m && not x) e

new_waits : (m p : Bool) → p ≡ true → (m && not p) ≡ false
new_waits m p e = ap (λ x. m && not x) e ∙ and_turned m false

module _ (shape : Shape) (sides : TwoSides) (left_ended right_ended : Bool) (next : ℕ) (row : RowValues) (after : Probe) where
  abbrev came : Joining
  came = joining_of shape sides left_ended right_ended next None

  abbrev came_left : Joining
  came_left = joining_of shape (record sides { left = with_row sides.left (kept_as side.Left shape row next) }) left_ended right_ended (next + 1) (Some after)

  left_pairs : probing_of after ≡ begun side.Left (length sides.left) (kept_as side.Left shape row next)
      → bucket_of (length sides.left) (kept_as side.Left shape row next).key < length sides.left → Earlier side.Left shape next sides.left
      → SameBag (pairs_given came_left) (pairs_given came)
  left_pairs is inside early =
      bag_trans (bag_from_same (ap₂ (pairs (is_given t)) (rows_open (with_row sides.left held)) (rows_open sides.right)))
      (bag_trans (bag_pairs (is_given t) (more_in sides.left bucket held inside) (bag_refl (all_in sides.right)))
      (bag_from_same (pairs_append_left (is_given t) (all_in sides.left) (held ∷ []) (all_in sides.right)
      ∙ (ap₂ (λ xs ys. xs ++ ys) (pairs_alike (is_given t) (is_given came) (all_in sides.left) (all_in sides.right) old) (pairs_alike (is_given t) (λ l r. false) (held ∷ []) (all_in sides.right) new ∙ no_pairs (held ∷ []) (all_in sides.right))
      ∙ (append-nil _ ∙ sym (ap₂ (pairs (is_given came)) (rows_open sides.left) (rows_open sides.right)))))))
    where
      held : Held
      held = kept_as side.Left shape row next

      bucket : ℕ
      bucket = bucket_of (length sides.left) held.key

      q : Probing
      q = begun side.Left (length sides.left) held

      t : Joining
      t = came_left

      test : (l r : Held) → is_given t l r ≡ (is_match l r && not (pends (length sides.left) q l r))
      test l r =
          given_is shape (record sides { left = with_row sides.left held }) left_ended right_ended (next + 1) (Some after) l r
          ∙ (ap (λ p. is_match l r && not (is_pending_in (Some p) (length (with_row sides.left held)) l r)) is
          ∙ ap (λ n. is_match l r && not (pends n q l r)) (length-set sides.left bucket (rows_in sides.left bucket ++ held ∷ [])))

      old : AlikeOn (all_in sides.left) (all_in sides.right) (is_given t) (is_given came)
      old = λ k d i j e o.
          let l = get_or (all_in sides.left) k d in
          let r = get_or (all_in sides.right) j e in
          test l r
          ∙ (old_kept (is_match l r) (pends (length sides.left) q l r) (old_rests (length sides.left) held l r q refl (all_earlier side.Left shape next sides.left early k d i))
          ∙ sym (given_is shape sides left_ended right_ended next None l r))

      new : AlikeOn (held ∷ []) (all_in sides.right) (is_given t) (λ l r. false)
      new = λ k d i. first k d i
        where
          first : (k : ℕ) (d : Held) → k < 1 → All (λ r. is_given t (get_or (held ∷ []) k d) r ≡ false) (all_in sides.right)
          first zero d i = λ j e o.
              let r = get_or (all_in sides.right) j e in
              test held r ∙ new_waits (is_match held r) (pends (length sides.left) q held r) (new_pends (length sides.left) held r q refl refl refl)
          first (suc k) d i = absurd (omega arith)

  abbrev came_right : Joining
  came_right = joining_of shape (record sides { right = with_row sides.right (kept_as side.Right shape row next) }) left_ended right_ended (next + 1) (Some after)

  right_pairs : probing_of after ≡ begun side.Right (length sides.right) (kept_as side.Right shape row next)
      → bucket_of (length sides.right) (kept_as side.Right shape row next).key < length sides.right → Earlier side.Right shape next sides.right → length sides.left ≡ length sides.right
      → SameBag (pairs_given came_right) (pairs_given came)
  right_pairs is inside early many =
      bag_trans (bag_from_same (ap₂ (pairs (is_given t)) (rows_open sides.left) (rows_open (with_row sides.right held))))
      (bag_trans (bag_pairs (is_given t) (bag_refl (all_in sides.left)) (more_in sides.right bucket held inside))
      (bag_trans (pairs_append_right (is_given t) (all_in sides.left) (all_in sides.right) (held ∷ []))
      (bag_from_same (ap₂ (λ xs ys. xs ++ ys) (pairs_alike (is_given t) (is_given came) (all_in sides.left) (all_in sides.right) old) (pairs_alike (is_given t) (λ l r. false) (all_in sides.left) (held ∷ []) new ∙ no_pairs (all_in sides.left) (held ∷ []))
      ∙ (append-nil _ ∙ sym (ap₂ (pairs (is_given came)) (rows_open sides.left) (rows_open sides.right)))))))
    where
      held : Held
      held = kept_as side.Right shape row next

      bucket : ℕ
      bucket = bucket_of (length sides.right) held.key

      q : Probing
      q = begun side.Right (length sides.right) held

      t : Joining
      t = came_right

      test : (l r : Held) → is_given t l r ≡ (is_match l r && not (pends (length sides.left) q r l))
      test l r =
          given_is shape (record sides { right = with_row sides.right held }) left_ended right_ended (next + 1) (Some after) l r
          ∙ ap (λ p. is_match l r && not (is_pending_in (Some p) (length sides.left) l r)) is

      old : AlikeOn (all_in sides.left) (all_in sides.right) (is_given t) (is_given came)
      old = λ k d i j e o.
          let l = get_or (all_in sides.left) k d in
          let r = get_or (all_in sides.right) j e in
          test l r
          ∙ (old_kept (is_match l r) (pends (length sides.left) q r l) (old_rests (length sides.left) held r l q refl (all_earlier side.Right shape next sides.right early j e o))
          ∙ sym (given_is shape sides left_ended right_ended next None l r))

      new : AlikeOn (all_in sides.left) (held ∷ []) (is_given t) (λ l r. false)
      new = λ k d i. first k d i
        where
          first : (k : ℕ) (d : Held) → k < length (all_in sides.left) → All (λ r. is_given t (get_or (all_in sides.left) k d) r ≡ false) (held ∷ [])
          first k d i = only_one
            where
              only_one : (j : ℕ) (e : Held) → j < 1 → is_given t (get_or (all_in sides.left) k d) (get_or (held ∷ []) j e) ≡ false
              only_one zero e o =
                  let l = get_or (all_in sides.left) k d in
                  test l held ∙ new_waits (is_match l held) (pends (length sides.left) q held l) (new_pends (length sides.left) held l q (ap (λ n. bucket_of n held.key) (sym many)) refl refl)
              only_one (suc j) e o = absurd (omega arith)

-- what an arrival keeps
pub record Keeps (sd : Side) (s t : Joining) (row : RowValues) : Type 0 where
  pub step : JoinStep s t (on_side sd side.Left (row ∷ [])) (on_side sd side.Right (row ∷ [])) []
  pub same_pairs : SameBag (pairs_given t) (pairs_given s)

abbrev probe_begins : Side → TwoSides → Held → Probe
probe_begins sd sides held = record { side = sd; row = held.row; number = held.number; address = address_of (length (buckets_on sd sides)) held.key; place = 0; from = 0 }

arrival_keeps : (sd : Side) (shape : Shape) (sides : TwoSides) (left_ended right_ended : Bool) (next : ℕ) (key : Bytes) (row : RowValues) → IsJoin shape sides next key None
    → Keeps sd (joining_of shape sides left_ended right_ended next None)
    (joining_of shape (with_buckets sd sides (with_row (buckets_on sd sides) (kept_as sd shape row next))) left_ended right_ended (next + 1) (Some (probe_begins sd sides (kept_as sd shape row next)))) row
arrival_keeps side.Left shape sides left_ended right_ended next key row h = record {
  step = record {
    shape = refl;
    left = stored_more sides.left held inside;
    right = bag_from_same (sym (append-nil _));
    given = no_more s (came_left shape sides left_ended right_ended next row after) refl same;
  };
  same_pairs = same;
}
  where
    held : Held
    held = kept_as side.Left shape row next

    after : Probe
    after = probe_begins side.Left sides held

    s : Joining
    s = joining_of shape sides left_ended right_ended next None

    inside : bucket_of (length sides.left) held.key < length sides.left
    inside = bucket_inside sides.left held.key h.left.placed

    same : SameBag (pairs_given (came_left shape sides left_ended right_ended next row after)) (pairs_given s)
    same = left_pairs shape sides left_ended right_ended next row after refl inside h.left.each
arrival_keeps side.Right shape sides left_ended right_ended next key row h = record {
  step = record {
    shape = refl;
    left = bag_from_same (sym (append-nil _));
    right = stored_more sides.right held inside;
    given = no_more s (came_right shape sides left_ended right_ended next row after) refl same;
  };
  same_pairs = same;
}
  where
    held : Held
    held = kept_as side.Right shape row next

    after : Probe
    after = probe_begins side.Right sides held

    s : Joining
    s = joining_of shape sides left_ended right_ended next None

    inside : bucket_of (length sides.right) held.key < length sides.right
    inside = bucket_inside sides.right held.key h.right.placed

    same : SameBag (pairs_given (came_right shape sides left_ended right_ended next row after)) (pairs_given s)
    same = right_pairs shape sides left_ended right_ended next row after refl inside h.right.each h.many

-- the state after an arrival, from that before
pub arrived_keeps : (sd : Side) (shape : Shape) (sides : TwoSides) (left_ended right_ended : Bool) (next : ℕ) (key : Bytes) (probe : Option Probe) (s : Joining) (row : RowValues)
    → IsJoin shape sides next key probe → joining_of shape sides left_ended right_ended next probe ≡ s → s.probe ≡ None → Keeps sd s (arrived sd s row) row
arrived_keeps sd shape sides left_ended right_ended next key (Some p) s row h is idle = absurd (let no : Some (probing_of p) ≡ None = ap (λ (j : Joining). j.probe) is ∙ idle in cc)
arrived_keeps sd shape sides left_ended right_ended next key None s row h is idle =
    subst (λ j. Keeps sd j (arrived sd j row) row) is
    (subst (λ t. Keeps sd (joining_of shape sides left_ended right_ended next None) t row) (arrived_is sd shape sides left_ended right_ended next row (probe_begins sd sides (kept_as sd shape row next)) refl)
    (arrival_keeps sd shape sides left_ended right_ended next key row h))
