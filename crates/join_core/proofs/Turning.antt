-- What a join knows when the next match is asked for.
use Rattle.std.proofs.Common.{◌≡◌, ◌<◌, ◌+◌, ℕ, Bool, List, [], length, get_or, Option, Some, None, option_map, refl, sym, ap, subst, ◌∙◌, arith}
use Rattle.std.proofs.lemmas.List.{get_or_default, get_or_push, length_push}
use Rattle.answer_theory.specs.Rows.{glued_variables}
use Rattle.answer_theory.proofs.Rows.{glued_length}
use Rattle.med_prelude.specs.Texts.{Bytes}
use Rattle.tuple_core.specs.Hashing.{bucket_of}
use Rattle.tuple_core.specs.Values.{RowValues}
use Rattle.row_match.specs.Shapes.{Shape, vars_of}
use Rattle.row_match.specs.declared.shape.Side.{Side}
use Rattle.row_match.specs.declared.shape.Side.TheVariants as side
use Rattle.bucket_store.specs.Held.{Held, HeldList, has_key, no_row, rows_in}
use Rattle.bucket_store.specs.Places.{next_place}
use Rattle.bucket_store.proofs.Places.{is_next}
use Rattle.join_core.specs.Given.{glued}
use Rattle.join_core.specs.Kept.{IsHeld, IsJoin, IsProbing, IsSide, facing_rows}
use Rattle.join_core.specs.Sides.{TwoSides, at_place, buckets_on, glued_on, joining_of, opposite, probing_of}
use Rattle.join_core.specs.Steps.{GivesMatch, GivesNothing, JoinStep}
use Rattle.join_core.specs.declared.probe.Probe.{Probe}
use Rattle.join_core.proofs.Keeping.{faces, facing_is, own_of, probing_on, side_on}
use Rattle.join_core.proofs.Pointwise.{Faces}
use Rattle.join_core.proofs.Stepping.{left_of, nothing_given, right_of, row_given}

-- what the search of the facing bucket is asked
abbrev pub found_in : TwoSides → Bytes → Probe → Option ℕ
found_in sides key p = next_place (has_key key) (rows_in (buckets_on (opposite p.side) sides) (bucket_of (length (buckets_on (opposite p.side) sides)) key)) p.place

-- the search of the call is that one
pub found_by : (sides : TwoSides) (key : Bytes) (p : Probe) (facing : List HeldList) (asked : Bytes) (o : Side) (found : Option ℕ) → found ≡ next_place (has_key asked) (rows_in facing (bucket_of (length facing) asked)) p.place
    → asked ≡ key → facing ≡ buckets_on o sides → o ≡ opposite p.side → found ≡ found_in sides key p
found_by sides key p facing asked o found e same_key same_facing same_side =
    e ∙ ap (λ k. next_place (has_key k) (rows_in facing (bucket_of (length facing) k)) p.place) same_key
    ∙ ap (λ f. next_place (has_key key) (rows_in f (bucket_of (length f) key)) p.place) (same_facing ∙ ap (λ x. buckets_on x sides) same_side)

pub moves : (probe after : Option Probe) (p : Probe) (place from at number : ℕ) → after ≡ option_map (at_place place from) probe → probe ≡ Some p → place ≡ at + 1 → from ≡ number + 1 → after ≡ Some (record p { place = at + 1; from = number + 1 })
moves probe after p place from at number e is same_place same_from = e ∙ ap (option_map (at_place place from)) is ∙ ap (λ x. Some (at_place x from p)) same_place ∙ ap (λ x. Some (at_place (at + 1) x p)) same_from

module _ (shape : Shape) (sides : TwoSides) (next : ℕ) (key : Bytes) (p : Probe) (h : IsJoin shape sides next key (Some p)) where
  probing : IsProbing shape sides next key p
  probing = h.probing

  face : Faces (buckets_on p.side sides) (buckets_on (opposite p.side) sides) (probing_of p) (own_of key p) p.place
  face = faces shape sides next key p h.left h.right h.many probing

  searched : found_in sides key p ≡ next_place (has_key key) (facing_rows sides p) p.place
  searched = ap (λ b. next_place (has_key key) (rows_in (buckets_on (opposite p.side) sides) b) p.place) (facing_is shape sides next key p h.many probing)

  theirs : IsSide (opposite p.side) shape next (buckets_on (opposite p.side) sides)
  theirs = side_on (opposite p.side) shape sides next h.left h.right

  mine : IsSide p.side shape next (buckets_on p.side sides)
  mine = side_on p.side shape sides next h.left h.right

  pub facing_there : p.address.bucket < length (buckets_on (opposite p.side) sides)
  facing_there = let l = face.inside in omega (arith, l, face.many)

  pub found_inside : (at : ℕ) → Some at ≡ found_in sides key p → at < length (facing_rows sides p)
  found_inside at e = (is_next (has_key key) (facing_rows sides p) p.place no_row at (sym (e ∙ searched))).inside

  partner : ℕ → Held
  partner at = get_or (facing_rows sides p) at no_row

  partner_held : (at : ℕ) → Some at ≡ found_in sides key p → IsHeld (opposite p.side) shape next (get_or (facing_rows sides p) at no_row)
  partner_held at e = theirs.each p.address.bucket facing_there at no_row (found_inside at e)

  pub partner_wide : (at : ℕ) → Some at ≡ found_in sides key p → length (get_or (facing_rows sides p) at no_row).row ≡ length (vars_of (opposite p.side) shape)
  partner_wide at e = (partner_held at e).wide

  pub partner_earlier : (at : ℕ) → Some at ≡ found_in sides key p → (get_or (facing_rows sides p) at no_row).number < next
  partner_earlier at e = (partner_held at e).earlier

  pub own_wide : length p.row ≡ length (vars_of p.side shape)
  own_wide =
      let there : length probing.others < length (rows_in (buckets_on p.side sides) p.address.bucket) = omega (arith, ap length probing.own, length_push probing.others (own_of key p)) in
      let own_held = mine.each p.address.bucket face.inside (length probing.others) no_row there in
      subst (λ (x : Held). length x.row ≡ length (vars_of p.side shape)) (ap (λ rows. get_or rows (length probing.others) no_row) probing.own ∙ get_or_push probing.others (own_of key p) no_row (length probing.others) refl) own_held.wide

  pub gives_wide : (at : ℕ) (row : RowValues) → Some at ≡ found_in sides key p → row ≡ glued_on p.side shape p.row (get_or (facing_rows sides p) at no_row).row
      → length row ≡ length (glued_variables shape.left shape.right)
  gives_wide at row e glue = ap length glue ∙ turned p.side own_wide (partner_wide at e)
    where
      turned : (sd : Side) → length p.row ≡ length (vars_of sd shape) → length (get_or (facing_rows sides p) at no_row).row ≡ length (vars_of (opposite sd) shape)
          → length (glued_on sd shape p.row (get_or (facing_rows sides p) at no_row).row) ≡ length (glued_variables shape.left shape.right)
      turned side.Left own other = glued_length shape.left shape.right p.row (get_or (facing_rows sides p) at no_row).row own other
      turned side.Right own other = glued_length shape.left shape.right (get_or (facing_rows sides p) at no_row).row p.row other own

  same_partner : (at : ℕ) → Some at ≡ found_in sides key p → get_or (facing_rows sides p) at (get_or (facing_rows sides p) at no_row) ≡ get_or (facing_rows sides p) at no_row
  same_partner at e = get_or_default (facing_rows sides p) at (get_or (facing_rows sides p) at no_row) no_row (found_inside at e)

  -- ---- the answers

  glue_is : (at : ℕ) (sd : Side) → (left_of sd (own_of key p) (get_or (facing_rows sides p) at no_row)).row ≡ (left_of sd (own_of key p) (get_or (facing_rows sides p) at no_row)).row
  glue_is at sd = refl

  pub gives_row : (left_ended right_ended : Bool) (after : Option Probe) (at : ℕ) (row : RowValues) → Some at ≡ found_in sides key p
      → after ≡ Some (record p { place = at + 1; from = (get_or (facing_rows sides p) at no_row).number + 1 })
      → row ≡ glued_on p.side shape p.row (get_or (facing_rows sides p) at no_row).row
      → GivesMatch (joining_of shape sides left_ended right_ended next (Some p)) (joining_of shape sides left_ended right_ended next after) row
  gives_row left_ended right_ended after at row e is glue = subst (λ o. GivesMatch (joining_of shape sides left_ended right_ended next (Some p)) (joining_of shape sides left_ended right_ended next o) row) (sym is)
      (row_given shape sides left_ended right_ended next p (record p { place = at + 1; from = (get_or (facing_rows sides p) at no_row).number + 1 }) (own_of key p) (get_or (facing_rows sides p) at no_row) at row
      face h.many (sym (e ∙ searched)) (same_partner at e) refl (partner_earlier at e) (glue ∙ turned p.side))
    where
      turned : (sd : Side) → glued_on sd shape p.row (get_or (facing_rows sides p) at no_row).row ≡ glued shape (left_of sd (own_of key p) (get_or (facing_rows sides p) at no_row)).row (right_of sd (own_of key p) (get_or (facing_rows sides p) at no_row)).row
      turned side.Left = refl
      turned side.Right = refl

  pub keeps_row : (after : Option Probe) (at : ℕ) → Some at ≡ found_in sides key p → after ≡ Some (record p { place = at + 1; from = (get_or (facing_rows sides p) at no_row).number + 1 }) → IsJoin shape sides next key after
  keeps_row after at e is = subst (IsJoin shape sides next key) (sym is) (record {
    left = h.left;
    right = h.right;
    many = h.many;
    probing = probing_on shape sides next key p (record p { place = at + 1; from = (get_or (facing_rows sides p) at no_row).number + 1 }) at (get_or (facing_rows sides p) at no_row) probing
        (theirs.rising p.address.bucket facing_there) (found_inside at e) (same_partner at e) refl;
  })

  pub gives_nothing : (left_ended right_ended : Bool) → None ≡ found_in sides key p
      → GivesNothing (joining_of shape sides left_ended right_ended next (Some p)) (joining_of shape sides left_ended right_ended next None)
      × JoinStep (joining_of shape sides left_ended right_ended next (Some p)) (joining_of shape sides left_ended right_ended next None) [] [] []
  gives_nothing left_ended right_ended e = nothing_given shape sides left_ended right_ended next p (own_of key p) p.place face h.many (sym (e ∙ searched))

pub keeps_none : (shape : Shape) (sides : TwoSides) (next : ℕ) (key other : Bytes) (probe : Option Probe) → IsJoin shape sides next key probe → IsJoin shape sides next other None
keeps_none shape sides next key other probe h = record { left = h.left; right = h.right; many = h.many; probing = tt }
