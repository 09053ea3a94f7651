-- What keys tell.
use Rattle.std.proofs.Common.{◌≡◌, ℕ, suc, ◌≤◌, Bool, true, false, cond, ◌||◌, ◌==◌, List, [], ◌∷◌, ◌++◌, map, length, Option, Some, None, refl, sym, ap, ap₂, ◌∙◌, arith}
use Rattle.std.specs.List.{cons_option, filter_map, list_all, AllByRecursion}
use Rattle.std.specs.Option.{is_some, IfSome}
use Rattle.std.proofs.lemmas.Bool.{false≢true, and_parts, and_from, or_right}
use Rattle.answer_theory.specs.Bindings.{Binding, has_entry, meet, value_of}
use Rattle.answer_theory.specs.Solutions.{names, key}
use Rattle.answer_theory.specs.Rows.{over, AreDistinct, shared_variables, both_join}
use Rattle.answer_theory.proofs.Bools.{nat_eq_self}
use Rattle.answer_theory.proofs.Lists.{all_kept, all_filter}
use Rattle.answer_theory.proofs.Rows.{over_bound, met_keys, keys_meet}
use Rattle.tuple_core.proofs.Back.{row_one}
use Rattle.tuple_core.specs.Encoding.{row_encoding}
use Rattle.tuple_core.specs.Order.{value_itself, values_same}
use Rattle.tuple_core.specs.Values.{FitsRow, FitsValue}
use Rattle.tuple_core.specs.declared.value.Value.{Value}
use Rattle.row_match.specs.Patterns.{values_join}
use Rattle.row_match.specs.Shapes.{Shape, key_row}
use Rattle.row_match.specs.declared.shape.Side.TheVariants as side
use Rattle.row_match.proofs.Keys.{fewer_kept}

as_key : (b : Binding Value) (ws : List ℕ) → filter_map (value_of b) ws ≡ filter_map (λ o. o) (key ws b)
as_key b [] = refl
as_key b (w ∷ ws) = ap (cons_option (value_of b w)) (as_key b ws)

pub met_alike : (s : Shape) (l r : List Value) → AreDistinct s.left → AreDistinct s.right → length l ≡ length s.left → length r ≡ length s.right
    → meet values_join (over s.left l) (over s.right r) ≡ true → row_encoding (key_row side.Left s l) ≡ row_encoding (key_row side.Right s r)
met_alike s l r hu hv el er m = ap row_encoding (
    as_key (over s.left l) (shared_variables s.left s.right)
    ∙ ap (filter_map (λ o. o)) (met_keys values_join values_same s.left s.right l r hu hv el er m)
    ∙ sym (as_key (over s.right r) (shared_variables s.left s.right)))

has_value : (bs : Binding Value) (v : ℕ) → is_some (value_of bs v) ≡ has_entry bs v
has_value [] v = refl
has_value (b ∷ bs) v = go (b.0 == v) (has_value bs v)
  where
    go : (t : Bool) → is_some (value_of bs v) ≡ has_entry bs v → is_some (cond t (Some b.1) (value_of bs v)) ≡ (t || has_entry bs v)
    go true h = refl
    go false h = h

all_more : (p q : ℕ → Bool) → ((n : ℕ) → p n ≡ true → q n ≡ true) → (ws : List ℕ) → list_all p ws ≡ true → list_all q ws ≡ true
all_more p q h [] e = refl
all_more p q h (w ∷ ws) e = and_from (q w) (list_all q ws) (h w (and_parts (p w) (list_all p ws) e).0) (all_more p q h ws (and_parts (p w) (list_all p ws) e).1)

names_itself : (us : List ℕ) → list_all (names us) us ≡ true
names_itself [] = refl
names_itself (u ∷ us) = and_from (names (u ∷ us) u) (list_all (names (u ∷ us)) us) (ap (λ t. t || names us u) (nat_eq_self u)) (all_more (names us) (names (u ∷ us)) (λ w h. or_right (u == w) (names us w) h) us (names_itself us))

all_have : (us : List ℕ) (row : List Value) (ws : List ℕ) → length row ≡ length us → list_all (names us) ws ≡ true → list_all (λ w. is_some (value_of (over us row) w)) ws ≡ true
all_have us row ws e h = all_more (names us) (λ w. is_some (value_of (over us row) w)) (λ w n. has_value (over us row) w ∙ over_bound us row w e ∙ n) ws h

-- values that are all there are told apart by the list of them
told : (f g : ℕ → Option Value) (ws : List ℕ) → list_all (λ w. is_some (f w)) ws ≡ true → list_all (λ w. is_some (g w)) ws ≡ true → filter_map f ws ≡ filter_map g ws → map f ws ≡ map g ws
told f g [] hf hg e = refl
told f g (w ∷ ws) hf hg e = go (f w) (g w) (and_parts (is_some (f w)) (list_all (λ v. is_some (f v)) ws) hf) (and_parts (is_some (g w)) (list_all (λ v. is_some (g v)) ws) hg) e (told f g ws)
  where
    first : (x y : Value) → x ∷ filter_map f ws ≡ y ∷ filter_map g ws → x ≡ y
    first x y i = cc i

    rest : (x y : Value) → x ∷ filter_map f ws ≡ y ∷ filter_map g ws → filter_map f ws ≡ filter_map g ws
    rest x y i = cc i

    go : (o p : Option Value) → (is_some o ≡ true) × (list_all (λ v. is_some (f v)) ws ≡ true) → (is_some p ≡ true) × (list_all (λ v. is_some (g v)) ws ≡ true)
        → cons_option o (filter_map f ws) ≡ cons_option p (filter_map g ws) → (list_all (λ v. is_some (f v)) ws ≡ true → list_all (λ v. is_some (g v)) ws ≡ true → filter_map f ws ≡ filter_map g ws → map f ws ≡ map g ws) → o ∷ map f ws ≡ p ∷ map g ws
    go None p a b i ih = absurd (false≢true a.0)
    go (Some x) None a b i ih = absurd (false≢true b.0)
    go (Some x) (Some y) a b i ih = ap₂ (λ z l. Some z ∷ l) (first x y i) (ih a.1 b.1 (rest x y i))

joins_itself : (f : ℕ → Option Value) (ws : List ℕ) → list_all (λ w. is_some (f w)) ws ≡ true → list_all (λ w. both_join values_join (f w) (f w)) ws ≡ true
joins_itself f ws h = all_more (λ w. is_some (f w)) (λ w. both_join values_join (f w) (f w)) (λ w. one (f w)) ws h
  where
    one : (o : Option Value) → is_some o ≡ true → both_join values_join o o ≡ true
    one None e = absurd (false≢true e)
    one (Some x) e = value_itself x

value_fits : (us : List ℕ) (row : List Value) (w : ℕ) → AllByRecursion FitsValue row → IfSome (value_of (over us row) w) FitsValue
value_fits [] row w h = tt
value_fits (u ∷ us) [] w h = tt
value_fits (u ∷ us) (x ∷ row) w h = go (u == w) (value_fits us row w h.1)
  where
    go : (t : Bool) → IfSome (value_of (over us row) w) FitsValue → IfSome (cond t (Some x) (value_of (over us row) w)) FitsValue
    go true i = h.0
    go false i = i

each_some : (f : ℕ → Option Value) (ws : List ℕ) → ((w : ℕ) → IfSome (f w) FitsValue) → AllByRecursion FitsValue (filter_map f ws)
each_some f [] h = tt
each_some f (w ∷ ws) h = go (f w) (h w) (each_some f ws h)
  where
    go : (o : Option Value) → IfSome o FitsValue → AllByRecursion FitsValue (filter_map f ws) → AllByRecursion FitsValue (cons_option o (filter_map f ws))
    go None i ih = ih
    go (Some x) i ih = (i, ih)

fewer_values : (f : ℕ → Option Value) (ws : List ℕ) → length (filter_map f ws) ≤ length ws
fewer_values f [] = omega arith
fewer_values f (w ∷ ws) = go (f w) (fewer_values f ws)
  where
    go : (o : Option Value) → length (filter_map f ws) ≤ length ws → length (cons_option o (filter_map f ws)) ≤ suc (length ws)
    go None h = omega (arith, h)
    go (Some x) h = omega (arith, h)

key_fits : (us : List ℕ) (row : List Value) (ws : List ℕ) → length ws ≤ 64 → FitsRow row → FitsRow (filter_map (value_of (over us row)) ws)
key_fits us row ws l f = record {
  short = (let a = fewer_values (value_of (over us row)) ws in omega (arith, a, l));
  each = each_some (value_of (over us row)) ws (λ w. value_fits us row w f.each);
}

pub alike_meet : (s : Shape) (l r : List Value) → AreDistinct s.left → AreDistinct s.right → length l ≡ length s.left → length r ≡ length s.right → FitsRow l → FitsRow r
    → row_encoding (key_row side.Left s l) ≡ row_encoding (key_row side.Right s r) → meet values_join (over s.left l) (over s.right r) ≡ true
alike_meet s l r hu hv el er fl fr e =
    let ws = shared_variables s.left s.right in
    let short : length ws ≤ 64 = (let a = fewer_kept (λ u. names s.right u) s.left in let b = fl.short in omega (arith, a, b, el)) in
    let left = all_have s.left l ws el (all_filter (names s.left) (λ u. names s.right u) s.left (names_itself s.left)) in
    let right = all_have s.right r ws er (all_kept (names s.right) (λ u. names s.right u) (λ u h. h) s.left) in
    let rows = (row_one (key_row side.Left s l) (key_row side.Right s r) [] [] (key_fits s.left l ws short fl) (key_fits s.right r ws short fr) (ap (λ bytes. bytes ++ []) e)).0 in
    keys_meet values_join s.left s.right l r hu hv el er (joins_itself (value_of (over s.left l)) ws left) (told (value_of (over s.left l)) (value_of (over s.right r)) ws left right rows)
