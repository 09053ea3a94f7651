-- What is gathered of a row by positions, and how it leads to keys and glued rows.
use Rattle.std.proofs.Common.{subst, ◌≡◌, ℕ, suc, ◌+◌, ◌<◌, ◌≤◌, Bool, true, false, cond, not, ◌==◌, List, [], ◌∷◌, ◌++◌, filter, length, take, get_or, Option, Some, None, slice_get, refl, sym, ap, ap₂, ◌∙◌, arith}
use Rattle.std.specs.List.{cons_option, filter_map, AllByRecursion}
use Rattle.std.specs.Option.{option_and_then}
use Rattle.std.proofs.lemmas.List.Elements.{filter_map-append}
use Rattle.std.proofs.lemmas.List.{take_more}
use Rattle.std.proofs.lemmas.Bool.{or_parts}
use Rattle.answer_theory.specs.Bindings.{Binding, value_of}
use Rattle.answer_theory.specs.Solutions.{names}
use Rattle.answer_theory.specs.Rows.{over, AreDistinct, glued_variables, lacked_values}
use Rattle.answer_theory.proofs.Bools.{nat_eq_self, nat_eq_sym}
use Rattle.answer_theory.proofs.Rows.{glued_length}
use Rattle.answer_theory.proofs.Lists.{each_append}
use Rattle.tuple_core.specs.Values.{FitsRow, FitsValue}
use Rattle.tuple_core.specs.declared.value.Value.{Value}
use Rattle.row_match.specs.Patterns.{position_of}
use Rattle.row_match.specs.Shapes.{Shape, lacking_variables, positions_in}
use Rattle.row_match.proofs.Positions.{value_at}

pub filter_map_more : {X Y : Type 0} (h : X → Option Y) (xs : List X) (i : ℕ) (d : X) → i < length xs → filter_map h (take (i + 1) xs) ≡ filter_map h (take i xs) ++ cons_option (h (get_or xs i d)) []
filter_map_more h xs i d l = rw (take_more xs i d l) (filter_map-append h (take i xs) (get_or xs i d ∷ []))

-- by positions, or by the values of the variables
pub gathered : {X : Type 0} (vs : List ℕ) (row : List X) → length row ≡ length vs → (ws : List ℕ) → filter_map (slice_get row) (positions_in vs ws) ≡ filter_map (value_of (over vs row)) ws
gathered vs row e [] = refl
gathered {X} vs row e (w ∷ ws) = go (position_of vs w) (value_at w vs row e) (gathered vs row e ws)
  where
    go : (o : Option ℕ) → value_of (over vs row) w ≡ option_and_then (slice_get row) o → filter_map (slice_get row) (positions_in vs ws) ≡ filter_map (value_of (over vs row)) ws
        → filter_map (slice_get row) (cons_option o (positions_in vs ws)) ≡ cons_option (value_of (over vs row) w) (filter_map (value_of (over vs row)) ws)
    go None h ih = ih ∙ ap (λ v. cons_option v (filter_map (value_of (over vs row)) ws)) (sym h)
    go (Some k) h ih = ap (cons_option (slice_get row k)) ih ∙ ap (λ v. cons_option v (filter_map (value_of (over vs row)) ws)) (sym h)

-- another variable's value in front is passed over
passed_over : {X : Type 0} (v : ℕ) (x : X) (bs : Binding X) (test : ℕ → Bool) (ws : List ℕ) → names ws v ≡ false → filter_map (value_of ((v, x) ∷ bs)) (filter test ws) ≡ filter_map (value_of bs) (filter test ws)
passed_over v x bs test [] e = refl
passed_over {X} v x bs test (w ∷ ws) e = go (test w) (differs (or_parts (w == v) (names ws v) e).0) (passed_over v x bs test ws (or_parts (w == v) (names ws v) e).1)
  where
    differs : (w == v) ≡ false → value_of ((v, x) ∷ bs) w ≡ value_of bs w
    differs i = ap (λ t. cond t (Some x) (value_of bs w)) (nat_eq_sym v w ∙ i)

    go : (t : Bool) → value_of ((v, x) ∷ bs) w ≡ value_of bs w → filter_map (value_of ((v, x) ∷ bs)) (filter test ws) ≡ filter_map (value_of bs) (filter test ws)
        → filter_map (value_of ((v, x) ∷ bs)) (cond t (w ∷ filter test ws) (filter test ws)) ≡ filter_map (value_of bs) (cond t (w ∷ filter test ws) (filter test ws))
    go true i ih = ap₂ cons_option i ih
    go false i ih = ih

-- the values of what the left lacks
values_lacked : {X : Type 0} (us vs : List ℕ) (row : List X) → AreDistinct vs → length row ≡ length vs → filter_map (value_of (over vs row)) (lacking_variables us vs) ≡ lacked_values us vs row
values_lacked us [] row d e = refl
values_lacked us (v ∷ vs) [] d e = absurd (let f : 0 ≡ suc (length vs) = e in omega (arith, f))
values_lacked {X} us (v ∷ vs) (x ∷ row) d e = go (names us v) (passed_over v x (over vs row) (λ w. not (names us w)) vs d.0 ∙ values_lacked us vs row d.1 (let f : suc (length row) ≡ suc (length vs) = e in omega (arith, f)))
  where
    here : value_of ((v, x) ∷ over vs row) v ≡ Some x
    here = ap (λ t. cond t (Some x) (value_of (over vs row) v)) (nat_eq_self v)

    go : (t : Bool) → filter_map (value_of ((v, x) ∷ over vs row)) (lacking_variables us vs) ≡ lacked_values us vs row
        → filter_map (value_of ((v, x) ∷ over vs row)) (cond (not t) (v ∷ lacking_variables us vs) (lacking_variables us vs)) ≡ cond t (lacked_values us vs row) (x ∷ lacked_values us vs row)
    go true ih = ih
    go false ih = ap₂ cons_option here ih

pub lacked_gathered : (us vs lacks : List ℕ) (row : List Value) → AreDistinct vs → length row ≡ length vs → lacks ≡ positions_in vs (lacking_variables us vs) → filter_map (slice_get row) lacks ≡ lacked_values us vs row
lacked_gathered us vs lacks row d e f = ap (filter_map (slice_get row)) f ∙ gathered vs row e (lacking_variables us vs) ∙ values_lacked us vs row d e

-- ---- a glued row keeps the limits of rows

lacked_fits : (us vs : List ℕ) (row : List Value) → AllByRecursion FitsValue row → AllByRecursion FitsValue (lacked_values us vs row)
lacked_fits us [] row h = tt
lacked_fits us (v ∷ vs) [] h = tt
lacked_fits us (v ∷ vs) (x ∷ row) h = go (names us v) (lacked_fits us vs row h.1)
  where
    go : (t : Bool) → AllByRecursion FitsValue (lacked_values us vs row) → AllByRecursion FitsValue (cond t (lacked_values us vs row) (x ∷ lacked_values us vs row))
    go true ih = ih
    go false ih = (h.0, ih)

pub glued_fits : (us vs : List ℕ) (l r : List Value) → length l ≡ length us → length r ≡ length vs → length (glued_variables us vs) ≤ 64 → FitsRow l → FitsRow r → FitsRow (l ++ lacked_values us vs r)
glued_fits us vs l r el er s fl fr = record {
  short = (let e = glued_length us vs l r el er in omega (arith, e, s));
  each = each_append FitsValue l (lacked_values us vs r) fl.each (lacked_fits us vs r fr.each);
}

-- what is gathered for a glued row, in the words of the shape
pub assembled : (us vs lacks : List ℕ) (shape : Shape) (l r all : List Value) → record { left = us; right = vs } ≡ shape → AreDistinct vs → length r ≡ length shape.right → lacks ≡ positions_in vs (lacking_variables us vs)
    → all ≡ l ++ filter_map (slice_get r) lacks → all ≡ l ++ lacked_values shape.left shape.right r
assembled us vs lacks shape l r all view d e f h =
    let right : vs ≡ shape.right = ap {A = Shape} (λ s. s.right) view in
    h ∙ ap (λ m. l ++ m) (lacked_gathered us vs lacks r d (e ∙ ap length (sym right)) f ∙ ap {A = Shape} (λ s. lacked_values s.left s.right r) view)

pub shape_fits : (us vs : List ℕ) (shape : Shape) (l r all : List Value) → record { left = us; right = vs } ≡ shape → length (glued_variables us vs) ≤ 64 → length l ≡ length shape.left → length r ≡ length shape.right → FitsRow l → FitsRow r
    → all ≡ l ++ lacked_values shape.left shape.right r → FitsRow all
shape_fits us vs shape l r all view s el er fl fr h = rw h (glued_fits shape.left shape.right l r el er (subst {A = Shape} (λ x. length (glued_variables x.left x.right) ≤ 64) view s) fl fr)
