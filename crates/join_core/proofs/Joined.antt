-- What a join gives are the joined rows of the theory of answers.
use Rattle.std.proofs.Common.{◌≡◌, ◌<◌, ◌≤◌, ◌++◌, ◌&&◌, ◌==◌, ℕ, Bool, true, false, List, [], ◌∷◌, length, get_or, map, flat_map, All, Option, refl, sym, ap₂, subst, ◌∙◌}
use Rattle.std.specs.List.{AllByRecursion}
use Rattle.std.proofs.lemmas.Bool.{or_parts}
use Rattle.std.proofs.lemmas.List.{map-append}
use Rattle.answer_theory.specs.Bindings.{Binding, glue, meet}
use Rattle.answer_theory.specs.Rows.{AreDistinct, glued_variables, over}
use Rattle.answer_theory.specs.Solutions.{joined_rows as joined_bindings, names, only}
use Rattle.answer_theory.proofs.Bools.{and_true}
use Rattle.answer_theory.proofs.Lists.{any_append, each_flat_map, each_map}
use Rattle.answer_theory.proofs.Rows.{glued_length, over_glue}
use Rattle.med_prelude.specs.Texts.{Bytes}
use Rattle.tuple_core.specs.Encoding.{row_encoding}
use Rattle.tuple_core.specs.Values.{RowList, RowValues}
use Rattle.tuple_core.specs.declared.value.Value.{Value}
use Rattle.row_match.specs.Patterns.{values_join}
use Rattle.row_match.specs.Shapes.{Shape, key_row, vars_of}
use Rattle.row_match.specs.declared.shape.Side.{Side}
use Rattle.row_match.specs.declared.shape.Side.TheVariants as side
use Rattle.row_match.proofs.Gathering.{glued_fits}
use Rattle.row_match.proofs.Telling.{alike_meet, met_alike}
use Rattle.bucket_store.specs.Held.{Held, HeldList}
use Rattle.join_core.specs.Given.{glued, joined_rows, keys_meet}
use Rattle.join_core.specs.Kept.{IsHeld, IsJoin}
use Rattle.join_core.specs.Sides.{TwoSides, joining_of}
use Rattle.join_core.specs.State.{AreRowsOver, IsRowOver, open_pile, rows_of, stored_rows}
use Rattle.join_core.specs.declared.probe.Probe.{Probe}
use Rattle.join_core.proofs.Flat.{all_in, each_in, keys_same, rows_open, same_keys}

-- ---- a pair

tests_alike : (a b : Bool) → (a ≡ true → b ≡ true) → (b ≡ true → a ≡ true) → a ≡ b
tests_alike true b h k = sym (h refl)
tests_alike false true h k = k refl
tests_alike false false h k = refl

keys_tell_meeting : (s : Shape) (l r : RowValues) → AreDistinct s.left → AreDistinct s.right → IsRowOver s.left l → IsRowOver s.right r
    → keys_meet s l r ≡ meet values_join (over s.left l) (over s.right r)
keys_tell_meeting s l r hu hv il ir = tests_alike (keys_meet s l r) (meet values_join (over s.left l) (over s.right r))
    (λ e. alike_meet s l r hu hv il.wide ir.wide il.fits ir.fits (same_keys (row_encoding (key_row side.Left s l)) (row_encoding (key_row side.Right s r)) e))
    (λ e. keys_same (row_encoding (key_row side.Left s l)) (row_encoding (key_row side.Right s r)) (met_alike s l r hu hv il.wide ir.wide e))

map_only : (f : RowValues → Binding Value) (b : Bool) (row : RowValues) → map f (only b row) ≡ only b (f row)
map_only f true row = refl
map_only f false row = refl

-- ---- all pairs

module _ (s : Shape) (hu : AreDistinct s.left) (hv : AreDistinct s.right) where
  abbrev pub both : RowValues → Binding Value
  both = over (glued_variables s.left s.right)

  pair_over : (l r : RowValues) → IsRowOver s.left l → IsRowOver s.right r
      → map both (only (keys_meet s l r) (glued s l r)) ≡ only (meet values_join (over s.left l) (over s.right r) && true) (glue (over s.left l) (over s.right r))
  pair_over l r il ir = map_only both (keys_meet s l r) (glued s l r)
      ∙ ap₂ (λ t (b : Binding Value). only t b) (keys_tell_meeting s l r hu hv il ir ∙ sym (and_true (meet values_join (over s.left l) (over s.right r)))) (sym (over_glue s.left s.right l r il.wide))

  row_over : (l : RowValues) (rs : RowList) → IsRowOver s.left l → AreRowsOver s.right rs
      → map both (flat_map (λ r. only (keys_meet s l r) (glued s l r)) rs) ≡ flat_map (λ r. only (meet values_join (over s.left l) r && true) (glue (over s.left l) r)) (map (over s.right) rs)
  row_over l [] il irs = refl
  row_over l (r ∷ rs) il irs = map-append both (only (keys_meet s l r) (glued s l r)) (flat_map (λ x. only (keys_meet s l x) (glued s l x)) rs)
      ∙ ap₂ (λ xs ys. xs ++ ys) (pair_over l r il irs.0) (row_over l rs il irs.1)

  pub joined_over : (ls rs : RowList) → AreRowsOver s.left ls → AreRowsOver s.right rs
      → map both (joined_rows s ls rs) ≡ joined_bindings values_join (λ _. true) (map (over s.left) ls) (map (over s.right) rs)
  joined_over [] rs ils irs = refl
  joined_over (l ∷ ls) rs ils irs = map-append both (flat_map (λ r. only (keys_meet s l r) (glued s l r)) rs) (joined_rows s ls rs)
      ∙ ap₂ (λ xs ys. xs ++ ys) (row_over l rs ils.0 irs) (joined_over ls rs ils.1 irs)

pub joined_bind : (s : Shape) (ls rs : RowList) → AreDistinct s.left → AreDistinct s.right → AreRowsOver s.left ls → AreRowsOver s.right rs
    → map (over (glued_variables s.left s.right)) (joined_rows s ls rs) ≡ joined_bindings values_join (λ _. true) (map (over s.left) ls) (map (over s.right) rs)
joined_bind s ls rs hu hv = joined_over s hu hv ls rs

pub glued_wide : (s : Shape) (l r : RowValues) → length l ≡ length s.left → length r ≡ length s.right → length (glued s l r) ≡ length (glued_variables s.left s.right)
glued_wide s l r = glued_length s.left s.right l r

only_each : (P : RowValues → Type 0) (b : Bool) (row : RowValues) → P row → AllByRecursion P (only b row)
only_each P true row p = (p, tt)
only_each P false row p = tt

pub joined_fit : (s : Shape) (ls rs : RowList) → length (glued_variables s.left s.right) ≤ 64 → AreRowsOver s.left ls → AreRowsOver s.right rs → AreRowsOver (glued_variables s.left s.right) (joined_rows s ls rs)
joined_fit s ls rs short ils irs =
    each_flat_map (IsRowOver s.left) (IsRowOver (glued_variables s.left s.right)) (λ l. flat_map (λ r. only (keys_meet s l r) (glued s l r)) rs) (λ l il.
    each_flat_map (IsRowOver s.right) (IsRowOver (glued_variables s.left s.right)) (λ r. only (keys_meet s l r) (glued s l r)) (λ r ir.
    only_each (IsRowOver (glued_variables s.left s.right)) (keys_meet s l r) (glued s l r) (record {
      wide = glued_wide s l r il.wide ir.wide;
      fits = glued_fits s.left s.right l r il.wide ir.wide short il.fits ir.fits;
    })) rs irs) ls ils

-- ---- what is kept

held_over : (sd : Side) (shape : Shape) (next : ℕ) (buckets : List HeldList) → ((b : ℕ) → b < length buckets → All (IsHeld sd shape next) (get_or buckets b [])) → AreRowsOver (vars_of sd shape) (map (λ (h : Held). h.row) (rows_of (map open_pile buckets)))
held_over sd shape next buckets each = subst (λ rows. AreRowsOver (vars_of sd shape) (map (λ (h : Held). h.row) rows)) (sym (rows_open buckets))
    (each_map (IsHeld sd shape next) (IsRowOver (vars_of sd shape)) (λ h. h.row) (λ h i. record { wide = i.wide; fits = i.fits }) (all_in buckets) (each_in (IsHeld sd shape next) buckets each))

pub stored_over : (shape : Shape) (sides : TwoSides) (left_ended right_ended : Bool) (next : ℕ) (key : Bytes) (probe : Option Probe) → IsJoin shape sides next key probe
    → (sd : Side) → AreRowsOver (vars_of sd shape) (stored_rows sd (joining_of shape sides left_ended right_ended next probe))
stored_over shape sides left_ended right_ended next key probe h side.Left = held_over side.Left shape next sides.left h.left.each
stored_over shape sides left_ended right_ended next key probe h side.Right = held_over side.Right shape next sides.right h.right.each

names_front : (us ws : List ℕ) (v : ℕ) → names (us ++ ws) v ≡ false → names us v ≡ false
names_front us ws v e = (or_parts (names us v) (names ws v) (sym (any_append (λ w. w == v) us ws) ∙ e)).0

pub distinct_front : (us ws : List ℕ) → AreDistinct (us ++ ws) → AreDistinct us
distinct_front [] ws h = tt
distinct_front (u ∷ us) ws h = (names_front us ws u h.0, distinct_front us ws h.1)
