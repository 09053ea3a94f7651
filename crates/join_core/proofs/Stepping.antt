-- The steps of a join whose rows are all in memory.
use Rattle.std.proofs.Common.{◌≡◌, ◌<◌, ◌≤◌, ◌+◌, ◌++◌, ◌&&◌, ◌||◌, not, cond, nat_lt, ℕ, zero, suc, Bool, true, false, List, [], ◌∷◌, length, get_or, map, max, flat_map, filter, All, Option, Some, None, option_map, refl, sym, ap, ap₂, subst, ◌∙◌, arith, append-nil, append_assoc}
use Rattle.std.specs.List.{AllByRecursion}
use Rattle.std.proofs.lemmas.Bool.{false≢true}
use Rattle.std.proofs.lemmas.List.{length-map}
use Rattle.answer_theory.specs.Bags.{SameBag}
use Rattle.answer_theory.specs.Pairs.{AlikeOn, pairs}
use Rattle.answer_theory.specs.Solutions.{only}
use Rattle.answer_theory.proofs.Bags.{bag_append, bag_from_same, bag_map, bag_push, bag_refl, bag_sym, bag_trans}
use Rattle.answer_theory.proofs.Lists.{flat_map_alike, flat_map_alike_in, flat_map_map, flat_map_none, map_flat_map}
use Rattle.answer_theory.proofs.Pairs.{pairs_alike, pairs_one_more}
use Rattle.tuple_core.specs.Hashing.{bucket_of}
use Rattle.tuple_core.specs.Values.{RowList, RowValues}
use Rattle.row_match.specs.Shapes.{Shape}
use Rattle.row_match.specs.declared.shape.Side.{Side}
use Rattle.row_match.specs.declared.shape.Side.TheVariants as side
use Rattle.bucket_store.specs.Held.{Held, HeldList, has_key, rows_in, same_key}
use Rattle.bucket_store.specs.Places.{next_place}
use Rattle.join_core.specs.Given.{before, given_rows, glued, have_met, is_given, is_match, is_owed, is_passed, is_pending, is_pending_in, joined_rows, keys_meet, memory_until, pairs_given, pends, pends_on}
use Rattle.join_core.specs.Kept.{IsHeld}
use Rattle.join_core.specs.Sides.{TwoSides, buckets_on, joining_of, opposite, probing_of}
use Rattle.join_core.specs.State.{Joining, Probing, open_pile, pile_at, rows_of, stored_rows}
use Rattle.join_core.specs.Steps.{GivesMatch, GivesNothing, GivesPair, JoinStep, is_row}
use Rattle.join_core.specs.declared.probe.Probe.{Probe}
use Rattle.join_core.proofs.Flat.{all_in, alike_all, alike_from, alike_in, each_in, keys_turned, rows_open}
use Rattle.join_core.proofs.Pointwise.{Faces, nothing_pends, one_given, own_once, own_pends, pair_matches, pair_pends, partner_once}

-- ---- steps follow one another

pub step_none : (s : Joining) → JoinStep s s [] [] []
step_none s = record {
  shape = refl;
  left = bag_from_same (sym (append-nil _));
  right = bag_from_same (sym (append-nil _));
  given = bag_from_same (sym (append-nil _));
}

append_bags : (a b c more later : RowList) → SameBag b (a ++ more) → SameBag c (b ++ later) → SameBag c (a ++ (more ++ later))
append_bags a b c more later h k = bag_trans k (bag_trans (bag_append h (bag_refl later)) (bag_from_same (append_assoc a more later)))

pub step_then : (s t u : Joining) (l r gave l_more r_more gave_more : RowList) → JoinStep s t l r gave → JoinStep t u l_more r_more gave_more → JoinStep s u (l ++ l_more) (r ++ r_more) (gave ++ gave_more)
step_then s t u l r gave l_more r_more gave_more h k = record {
  shape = k.shape ∙ h.shape;
  left = append_bags (stored_rows side.Left s) (stored_rows side.Left t) (stored_rows side.Left u) l l_more h.left k.left;
  right = append_bags (stored_rows side.Right s) (stored_rows side.Right t) (stored_rows side.Right u) r r_more h.right k.right;
  given = append_bags (given_rows s) (given_rows t) (given_rows u) gave gave_more h.given k.given;
}

-- ---- a row that is given is one row more

not_given : (m g : Bool) → (m && not g) ≡ true → g ≡ false
not_given true true e = absurd (false≢true e)
not_given true false e = refl
not_given false g e = absurd (false≢true e)

pub one_pair_more : (s t : Joining) (row : RowValues) (left right : Held) → GivesPair s t row left right → SameBag (pairs_given t) ((left, right) ∷ pairs_given s)
one_pair_more s t row left right h =
    subst (λ ls. SameBag (pairs (is_given t) (rows_of ls) (rows_of t.right)) ((left, right) ∷ pairs_given s)) (sym h.same_left)
    (subst (λ rs. SameBag (pairs (is_given t) (rows_of s.left) (rows_of rs)) ((left, right) ∷ pairs_given s)) (sym h.same_right)
    (pairs_one_more (is_given s) (is_given t) (is_row left) (is_row right) left right (rows_of s.left) (rows_of s.right)
    h.left_once h.right_once (not_given (is_match left right) (is_given s left right) h.was_owed) h.one_more))

pub one_row_more : (s t : Joining) (row : RowValues) (left right : Held) → GivesPair s t row left right → SameBag (given_rows t) (row ∷ given_rows s)
one_row_more s t row left right h =
    subst (λ shape. SameBag (map (λ p. glued shape p.0.row p.1.row) (pairs_given t)) (row ∷ given_rows s)) (sym h.same_shape)
    (subst (λ first. SameBag (map (λ p. glued s.shape p.0.row p.1.row) (pairs_given t)) (first ∷ given_rows s)) (sym h.glue)
    (bag_map (λ p. glued s.shape p.0.row p.1.row) (one_pair_more s t row left right h)))

pub pair_step : (s t : Joining) (row : RowValues) (left right : Held) → GivesPair s t row left right → JoinStep s t [] [] (row ∷ [])
pair_step s t row left right h = record {
  shape = h.same_shape;
  left = bag_from_same (ap (λ piles. map (λ h. h.row) (rows_of piles)) h.same_left ∙ sym (append-nil _));
  right = bag_from_same (ap (λ piles. map (λ h. h.row) (rows_of piles)) h.same_right ∙ sym (append-nil _));
  given = bag_trans (one_row_more s t row left right h) (bag_sym (bag_push (given_rows s) row));
}

pub gives_step : (s t : Joining) (row : RowValues) → GivesMatch s t row → JoinStep s t [] [] (row ∷ [])
gives_step s t row h = pair_step s t row h.left h.right h.pair

-- ---- all rows are in memory: what met is given, unless it pends

pub closed_open : (buckets : List HeldList) (b : ℕ) → (pile_at (map open_pile buckets) b).closed ≡ None
closed_open [] b = refl
closed_open (rows ∷ buckets) zero = refl
closed_open (rows ∷ buckets) (suc b) = closed_open buckets b

never_leaves : (buckets : List HeldList) (n : ℕ) (h : Held) → before n (memory_until (map open_pile buckets) h) ≡ true
never_leaves buckets n h = ap (λ o. before n (option_map (max h.number) o)) (closed_open buckets _)

both_true : (b x y : Bool) → x ≡ true → y ≡ true → cond b x y ≡ true
both_true true x y e f = e
both_true false x y e f = f

pub no_pairs : (ls rs : HeldList) → pairs (λ l r. false) ls rs ≡ []
no_pairs ls rs = flat_map_alike _ (λ l. []) (λ l. flat_map_none rs) ls ∙ flat_map_none ls

no_pending : (m p : Bool) → (m && p) ≡ false → (m && not false) ≡ (m && not p)
no_pending true true e = absurd (false≢true (sym e))
no_pending true false e = refl
no_pending false p e = refl

pub and_turned : (a b : Bool) → (a && b) ≡ (b && a)
and_turned true true = refl
and_turned true false = refl
and_turned false true = refl
and_turned false false = refl

-- the pair, seen from the other side
turn : (m n pt ps a b : Bool) → m ≡ n → (m && not pt) ≡ ((m && not ps) || (a && b)) → (n && not pt) ≡ ((n && not ps) || (b && a))
turn m n pt ps a b e h = subst (λ x. (x && not pt) ≡ ((x && not ps) || (b && a))) e (h ∙ ap (λ z. (m && not ps) || z) (and_turned a b))

-- the pair's rows, by their sides
abbrev pub left_of : Side → Held → Held → Held
left_of side.Left own partner = own
left_of side.Right own partner = partner

abbrev pub right_of : Side → Held → Held → Held
right_of side.Left own partner = partner
right_of side.Right own partner = own

module _ (shape : Shape) (sides : TwoSides) (left_ended right_ended : Bool) (next : ℕ) where
  abbrev state : Option Probe → Joining
  state probe = joining_of shape sides left_ended right_ended next probe

  met : (probe : Option Probe) (l r : Held) → have_met (state probe) l r ≡ true
  met probe l r = both_true (nat_lt l.number r.number) _ _ (never_leaves sides.left r.number l) (never_leaves sides.right l.number r)

  pub given_is : (probe : Option Probe) (l r : Held) → is_given (state probe) l r ≡ (is_match l r && not (is_pending_in (option_map probing_of probe) (length sides.left) l r))
  given_is probe l r =
      ap (λ m. is_match l r && cond m (not (is_pending (state probe) l r)) (is_passed (state probe) l r)) (met probe l r)
      ∙ ap (λ n. is_match l r && not (is_pending_in (option_map probing_of probe) n l r)) (length-map sides.left open_pile)

  -- tests that answer alike on the rows of both sides, taken bucket by bucket
  on_rows : (p q : Held → Held → Bool) → AlikeOn (all_in sides.left) (all_in sides.right) p q → AlikeOn (rows_of (map open_pile sides.left)) (rows_of (map open_pile sides.right)) p q
  on_rows p q h = subst (λ ls. AlikeOn ls (rows_of (map open_pile sides.right)) p q) (sym (rows_open sides.left)) (subst (λ rs. AlikeOn (all_in sides.left) rs p q) (sym (rows_open sides.right)) h)

  -- ---- no match is left

  pub none_pending : (sd : Side) (q : Probing) (own : Held) (place : ℕ) → Faces (buckets_on sd sides) (buckets_on (opposite sd) sides) q own place → length sides.left ≡ length sides.right
      → next_place (has_key own.key) (rows_in (buckets_on (opposite sd) sides) q.bucket) place ≡ None
      → AlikeOn (all_in sides.left) (all_in sides.right) (λ l r. is_match l r && pends_on sd (length sides.left) q l r) (λ l r. false)
  none_pending side.Left q own place f many none = alike_in sides.left sides.right (λ l r. is_match l r && pends (length sides.left) q l r) (λ l r. false) (λ b c inside there k j d e on within.
      nothing_pends sides.left sides.right q own place f none b k d inside on c j e there within)
  none_pending side.Right q own place f many none = alike_in sides.left sides.right (λ l r. is_match l r && pends (length sides.left) q r l) (λ l r. false) (λ b c inside there k j d e on within.
      ap (λ m. m && pends (length sides.left) q (get_or (rows_in sides.right c) j e) (get_or (rows_in sides.left b) k d)) (keys_turned (get_or (rows_in sides.left b) k d).key (get_or (rows_in sides.right c) j e).key)
      ∙ (ap (λ n. same_key (get_or (rows_in sides.right c) j e).key (get_or (rows_in sides.left b) k d).key && pends n q (get_or (rows_in sides.right c) j e) (get_or (rows_in sides.left b) k d)) many
      ∙ nothing_pends sides.right sides.left q own place f none c j e there within b k d inside on))

  module _ (p : Probe) where
    pub nothing_given : (own : Held) (place : ℕ) → Faces (buckets_on p.side sides) (buckets_on (opposite p.side) sides) (probing_of p) own place → length sides.left ≡ length sides.right
        → next_place (has_key own.key) (rows_in (buckets_on (opposite p.side) sides) p.address.bucket) place ≡ None
        → GivesNothing (state (Some p)) (state None) × JoinStep (state (Some p)) (state None) [] [] []
    nothing_given own place f many none = (
      record { none = pairs_alike (λ l r. is_match l r && (have_met (state (Some p)) l r && is_pending (state (Some p)) l r)) (λ l r. false) (rows_of (map open_pile sides.left)) (rows_of (map open_pile sides.right)) (on_rows (λ l r. is_match l r && (have_met (state (Some p)) l r && is_pending (state (Some p)) l r)) (λ l r. false) pending) ∙ no_pairs (rows_of (map open_pile sides.left)) (rows_of (map open_pile sides.right)); ended = refl; same_given = same_pairs },
      record {
        shape = refl;
        left = bag_from_same (sym (append-nil _));
        right = bag_from_same (sym (append-nil _));
        given = bag_from_same (ap (map (λ p. glued shape p.0.row p.1.row)) same_pairs ∙ sym (append-nil _));
      },
    )
      where
        left_over : AlikeOn (all_in sides.left) (all_in sides.right) (λ l r. is_match l r && pends_on p.side (length sides.left) (probing_of p) l r) (λ l r. false)
        left_over = none_pending p.side (probing_of p) own place f many none

        pending : AlikeOn (all_in sides.left) (all_in sides.right) (λ l r. is_match l r && (have_met (state (Some p)) l r && is_pending (state (Some p)) l r)) (λ l r. false)
        pending = alike_from (all_in sides.left) (all_in sides.right) (λ l r. is_match l r && pends_on p.side (length sides.left) (probing_of p) l r) (λ l r. false) (λ l r. is_match l r && (have_met (state (Some p)) l r && is_pending (state (Some p)) l r)) (λ l r. false) left_over (λ l r h.
            ap (λ m. is_match l r && (m && is_pending (state (Some p)) l r)) (met (Some p) l r)
            ∙ (ap (λ n. is_match l r && is_pending_in (Some (probing_of p)) n l r) (length-map sides.left open_pile) ∙ h))

        same_given : AlikeOn (all_in sides.left) (all_in sides.right) (is_given (state None)) (is_given (state (Some p)))
        same_given = alike_from (all_in sides.left) (all_in sides.right) (λ l r. is_match l r && pends_on p.side (length sides.left) (probing_of p) l r) (λ l r. false) (is_given (state None)) (is_given (state (Some p))) left_over (λ l r h.
            given_is None l r ∙ (no_pending (is_match l r) (pends_on p.side (length sides.left) (probing_of p) l r) h ∙ sym (given_is (Some p) l r)))

        same_pairs : pairs_given (state None) ≡ pairs_given (state (Some p))
        same_pairs = pairs_alike (is_given (state None)) (is_given (state (Some p))) (rows_of (map open_pile sides.left)) (rows_of (map open_pile sides.right)) (on_rows (is_given (state None)) (is_given (state (Some p))) same_given)

  -- ---- a match is given

  row_alike : (sd : Side) (q : Probing) (own partner : Held) (place at : ℕ) → Faces (buckets_on sd sides) (buckets_on (opposite sd) sides) q own place → length sides.left ≡ length sides.right
      → next_place (has_key own.key) (rows_in (buckets_on (opposite sd) sides) q.bucket) place ≡ Some at → get_or (rows_in (buckets_on (opposite sd) sides) q.bucket) at partner ≡ partner
      → AlikeOn (all_in sides.left) (all_in sides.right) (λ l r. is_match l r && not (pends_on sd (length sides.left) (record q { from = partner.number + 1 }) l r))
      (λ l r. (is_match l r && not (pends_on sd (length sides.left) q l r)) || (is_row (left_of sd own partner) l && is_row (right_of sd own partner) r))
  row_alike side.Left q own partner place at f many found is = alike_in sides.left sides.right (λ l r. is_match l r && not (pends (length sides.left) (record q { from = partner.number + 1 }) l r)) (λ l r. (is_match l r && not (pends (length sides.left) q l r)) || (is_row own l && is_row partner r)) (λ b c inside there k j d e on within.
      one_given sides.left sides.right q own place f at partner found is b k d inside on c j e there within)
  row_alike side.Right q own partner place at f many found is = alike_in sides.left sides.right (λ l r. is_match l r && not (pends (length sides.left) (record q { from = partner.number + 1 }) r l)) (λ l r. (is_match l r && not (pends (length sides.left) q r l)) || (is_row partner l && is_row own r)) (λ b c inside there k j d e on within.
      let l = get_or (rows_in sides.left b) k d in
      let r = get_or (rows_in sides.right c) j e in
      turn (same_key r.key l.key) (same_key l.key r.key) (pends (length sides.left) (record q { from = partner.number + 1 }) r l) (pends (length sides.left) q r l) (is_row own r) (is_row partner l)
      (keys_turned r.key l.key)
      (subst (λ n. (same_key r.key l.key && not (pends n (record q { from = partner.number + 1 }) r l)) ≡ ((same_key r.key l.key && not (pends n q r l)) || (is_row own r && is_row partner l))) (sym many)
      (one_given sides.right sides.left q own place f at partner found is c j e there within b k d inside on)))

  left_is_once : (sd : Side) (q : Probing) (own partner : Held) (place at : ℕ) → Faces (buckets_on sd sides) (buckets_on (opposite sd) sides) q own place
      → next_place (has_key own.key) (rows_in (buckets_on (opposite sd) sides) q.bucket) place ≡ Some at → get_or (rows_in (buckets_on (opposite sd) sides) q.bucket) at partner ≡ partner
      → filter (is_row (left_of sd own partner)) (all_in sides.left) ≡ left_of sd own partner ∷ []
  left_is_once side.Left q own partner place at f found is = own_once sides.left sides.right q own place f
  left_is_once side.Right q own partner place at f found is = partner_once sides.right sides.left q own place f at partner found is

  right_is_once : (sd : Side) (q : Probing) (own partner : Held) (place at : ℕ) → Faces (buckets_on sd sides) (buckets_on (opposite sd) sides) q own place
      → next_place (has_key own.key) (rows_in (buckets_on (opposite sd) sides) q.bucket) place ≡ Some at → get_or (rows_in (buckets_on (opposite sd) sides) q.bucket) at partner ≡ partner
      → filter (is_row (right_of sd own partner)) (all_in sides.right) ≡ right_of sd own partner ∷ []
  right_is_once side.Left q own partner place at f found is = partner_once sides.left sides.right q own place f at partner found is
  right_is_once side.Right q own partner place at f found is = own_once sides.right sides.left q own place f

  both_match : (sd : Side) (q : Probing) (own partner : Held) (place at : ℕ) → Faces (buckets_on sd sides) (buckets_on (opposite sd) sides) q own place
      → next_place (has_key own.key) (rows_in (buckets_on (opposite sd) sides) q.bucket) place ≡ Some at → get_or (rows_in (buckets_on (opposite sd) sides) q.bucket) at partner ≡ partner
      → is_match (left_of sd own partner) (right_of sd own partner) ≡ true
  both_match side.Left q own partner place at f found is = pair_matches sides.left sides.right q own place f at partner found is
  both_match side.Right q own partner place at f found is = keys_turned partner.key own.key ∙ pair_matches sides.right sides.left q own place f at partner found is

  both_pend : (sd : Side) (q : Probing) (own partner : Held) (place at : ℕ) → Faces (buckets_on sd sides) (buckets_on (opposite sd) sides) q own place → length sides.left ≡ length sides.right
      → q.from ≤ partner.number → pends_on sd (length sides.left) q (left_of sd own partner) (right_of sd own partner) ≡ true
  both_pend side.Left q own partner place at f many from = own_pends (length sides.left) own partner q f.bucket_is f.number_is from
  both_pend side.Right q own partner place at f many from = own_pends (length sides.left) own partner q (ap (λ n. bucket_of n own.key) many ∙ f.bucket_is) f.number_is from

  from_pends : (sd : Side) (q : Probing) (own partner : Held) (place at : ℕ) → Faces (buckets_on sd sides) (buckets_on (opposite sd) sides) q own place
      → next_place (has_key own.key) (rows_in (buckets_on (opposite sd) sides) q.bucket) place ≡ Some at → get_or (rows_in (buckets_on (opposite sd) sides) q.bucket) at partner ≡ partner
      → q.from ≤ partner.number
  from_pends sd q own partner place at f found is = pair_pends (buckets_on sd sides) (buckets_on (opposite sd) sides) q own place f at partner found is

  pub row_given : (p after : Probe) (own partner : Held) (at : ℕ) (row : RowValues) → Faces (buckets_on p.side sides) (buckets_on (opposite p.side) sides) (probing_of p) own p.place → length sides.left ≡ length sides.right
      → next_place (has_key own.key) (rows_in (buckets_on (opposite p.side) sides) p.address.bucket) p.place ≡ Some at → get_or (rows_in (buckets_on (opposite p.side) sides) p.address.bucket) at partner ≡ partner
      → probing_of after ≡ record (probing_of p) { from = partner.number + 1 } → partner.number < next
      → row ≡ glued shape (left_of p.side own partner).row (right_of p.side own partner).row
      → GivesMatch (state (Some p)) (state (Some after)) row
  row_given p after own partner at row f many found is moved less glue = record {
    left = l;
    right = r;
    pair = pair;
    was_pending = ap (λ n. is_pending_in (Some (probing_of p)) n l r) (length-map sides.left open_pile) ∙ pending;
    same = refl;
    falls = let from = from_pends p.side (probing_of p) own partner p.place at f found is in omega (arith, from, less, ap (λ (q : Probing). q.from) moved);
  }
    where
      l : Held
      l = left_of p.side own partner

      r : Held
      r = right_of p.side own partner

      matches : is_match l r ≡ true
      matches = both_match p.side (probing_of p) own partner p.place at f found is

      pending : pends_on p.side (length sides.left) (probing_of p) l r ≡ true
      pending = both_pend p.side (probing_of p) own partner p.place at f many (from_pends p.side (probing_of p) own partner p.place at f found is)

      given_not : is_given (state (Some p)) l r ≡ false
      given_not = given_is (Some p) l r ∙ (ap (λ x. is_match l r && not x) pending ∙ and_turned (is_match l r) false)

      owed : is_owed (state (Some p)) l r ≡ true
      owed = ap (λ x. is_match l r && not x) given_not ∙ (and_turned (is_match l r) true ∙ matches)

      pair : GivesPair (state (Some p)) (state (Some after)) row l r
      pair = record {
        left_once = ap (filter (is_row l)) (rows_open sides.left) ∙ left_is_once p.side (probing_of p) own partner p.place at f found is;
        right_once = ap (filter (is_row r)) (rows_open sides.right) ∙ right_is_once p.side (probing_of p) own partner p.place at f found is;
        was_owed = owed;
        glue = glue;
        one_more = on_rows (is_given (state (Some after))) (λ x y. is_given (state (Some p)) x y || (is_row l x && is_row r y))
            (alike_from (all_in sides.left) (all_in sides.right) (λ x y. is_match x y && not (pends_on p.side (length sides.left) (record (probing_of p) { from = partner.number + 1 }) x y))
            (λ x y. (is_match x y && not (pends_on p.side (length sides.left) (probing_of p) x y)) || (is_row l x && is_row r y))
            (is_given (state (Some after))) (λ x y. is_given (state (Some p)) x y || (is_row l x && is_row r y))
            (row_alike p.side (probing_of p) own partner p.place at f many found is)
            (λ x y h. given_is (Some after) x y
            ∙ (ap (λ q. is_match x y && not (is_pending_in (Some q) (length sides.left) x y)) moved
            ∙ (h ∙ ap (λ g. g || (is_row l x && is_row r y)) (sym (given_is (Some p) x y))))));
        same_shape = refl;
        same_left = refl;
        same_right = refl;
      }

  -- ---- all is given

  joined_is : (ls rs : HeldList) → AllByRecursion (IsHeld side.Left shape next) ls → AllByRecursion (IsHeld side.Right shape next) rs
      → map (λ p. glued shape p.0.row p.1.row) (pairs is_match ls rs) ≡ joined_rows shape (map (λ h. h.row) ls) (map (λ h. h.row) rs)
  joined_is ls rs hl hr =
      map_flat_map glue (λ l. flat_map (λ r. only {X = Held × Held} (is_match l r) (l, r)) rs) ls
      ∙ (flat_map_alike_in (IsHeld side.Left shape next) _ _ (λ l h.
      map_flat_map glue (λ r. only {X = Held × Held} (is_match l r) (l, r)) rs
      ∙ (flat_map_alike_in (IsHeld side.Right shape next) _ _ (λ r k. only_glue (is_match l r) (keys_meet shape l.row r.row) (l, r) (ap₂ same_key h.key_is k.key_is)) rs hr
      ∙ sym (flat_map_map (λ r. only (keys_meet shape l.row r) (glued shape l.row r)) (λ (h : Held). h.row) rs))) ls hl
      ∙ sym (flat_map_map (λ l. flat_map (λ r. only (keys_meet shape l r) (glued shape l r)) (map (λ (h : Held). h.row) rs)) (λ (h : Held). h.row) ls))
    where
      glue : Held × Held → RowValues
      glue p = glued shape p.0.row p.1.row

      only_glue : (m n : Bool) (p : Held × Held) → m ≡ n → map glue (only m p) ≡ only n (glue p)
      only_glue true n p e = subst (λ x. map glue (only true p) ≡ only x (glue p)) e refl
      only_glue false n p e = subst (λ x. map glue (only false p) ≡ only x (glue p)) e refl

  pub all_given : ((b : ℕ) → b < length sides.left → All (IsHeld side.Left shape next) (rows_in sides.left b)) → ((b : ℕ) → b < length sides.right → All (IsHeld side.Right shape next) (rows_in sides.right b))
      → SameBag (given_rows (state None)) (joined_rows shape (stored_rows side.Left (state None)) (stored_rows side.Right (state None)))
  all_given hl hr = bag_from_same (
      ap (map (λ p. glued shape p.0.row p.1.row)) (pairs_alike (is_given (state None)) is_match (rows_of (map open_pile sides.left)) (rows_of (map open_pile sides.right))
      (alike_all (rows_of (map open_pile sides.left)) (rows_of (map open_pile sides.right)) (is_given (state None)) is_match (λ l r. given_is None l r ∙ and_turned (is_match l r) true)))
      ∙ joined_is (rows_of (map open_pile sides.left)) (rows_of (map open_pile sides.right)) (subst (AllByRecursion (IsHeld side.Left shape next)) (sym (rows_open sides.left)) (each_in (IsHeld side.Left shape next) sides.left hl))
      (subst (AllByRecursion (IsHeld side.Right shape next)) (sym (rows_open sides.right)) (each_in (IsHeld side.Right shape next) sides.right hr)))

  -- ---- no probe is under way

  pub nothing_idle : GivesNothing (state None) (state None)
  nothing_idle = record {
    none = pairs_alike (λ l r. is_match l r && (have_met (state None) l r && false)) (λ l r. false) (rows_of (map open_pile sides.left)) (rows_of (map open_pile sides.right)) (alike_all (rows_of (map open_pile sides.left)) (rows_of (map open_pile sides.right)) (λ l r. is_match l r && (have_met (state None) l r && false)) (λ l r. false) (λ l r. none_of (is_match l r) (have_met (state None) l r)))
        ∙ no_pairs (rows_of (map open_pile sides.left)) (rows_of (map open_pile sides.right));
    ended = refl;
    same_given = refl;
  }
    where
      none_of : (m h : Bool) → (m && (h && false)) ≡ false
      none_of true true = refl
      none_of true false = refl
      none_of false h = refl
