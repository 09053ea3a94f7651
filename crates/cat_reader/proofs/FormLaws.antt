-- What isn't of its form, value by value; and what holds of relations whose form is kept.
use Rattle.std.proofs.Common.{◌≡◌, ℕ, ◌+◌, ◌==◌, not, Bool, Bor, true, false, List, [], ◌∷◌, ◌++◌, map, length, Option, Some, None, refl, sym, ap, ◌∙◌}
use Rattle.std.specs.Prelude.{codes, is_none, nat_le, option_map, position}
use Rattle.std.proofs.lemmas.List.{length-map}
use Rattle.std.proofs.lemmas.List.Folds.{list_all-map}
use Rattle.toml.specs.Data.{Data, Members}
use Rattle.toml.specs.View.{view}
use Rattle.toml.specs.declared.value.Value.{Value}
use Rattle.std.specs.List.{list_all}
use Rattle.text_reading.specs.Faults.{broken_if, indices_where}
use Rattle.text_reading.specs.Order.{least, lesser}
use Rattle.text_reading.proofs.FaultLaws.{least_index}
use Rattle.toml_tables.specs.Tables.{array_at, values_of}
use Rattle.cat_reader.specs.Forms.{is_no_column, is_no_group, is_own_misformed, is_string, is_table, misformed_columns, misformed_groups, misformed_items}
use Rattle.cat_reader.specs.Relations.{values_at}
use Rattle.cat_reader.proofs.LocationLaws.{item_append}

pub indices_where-map : {A B : Type 0} (test : B → Bool) (make : A → B) (n : ℕ) (xs : List A) → indices_where test n (map make xs) ≡ indices_where (λ x. test (make x)) n xs
indices_where-map test make n [] = refl
indices_where-map test make n (x ∷ xs) = ap (λ more. broken_if (test (make x)) n ++ more) (indices_where-map test make (n + 1) xs)

-- the first of the values is the least of their data
pub least_value : (test : Data → Bool) (values : List Value) → least nat_le (indices_where test 0 (map view values)) ≡ position (λ value. test (view value)) values
least_value test values = ap (least nat_le) (indices_where-map test view 0 values) ∙ least_index (λ value. test (view value)) values

-- a test of the values of an array is one of the code's values
pub test_values : (vs : List Value) → list_all is_table (map view vs) ≡ list_all (λ value. is_table (view value)) vs
test_values vs = list_all-map is_table view vs

-- the values are those of a group
pub group_values : (value : Value) (vs : List Value) → Some (map view vs) ≡ values_of (view value) → not (list_all (λ v. is_string (view v)) vs) ≡ is_no_group (view value)
unfolding is_no_group
group_values value vs e = rw (← e) (ap not (sym (list_all-map is_string view vs)))

pub no_values : (value : Value) → None ≡ values_of (view value) → true ≡ is_no_group (view value)
unfolding is_no_group
no_values value e = rw (← e) refl

none_mapped : {A B : Type 0} (make : A → B) (found : Option A) → is_none found ≡ is_none (option_map make found)
none_mapped make None = refl
none_mapped make (Some x) = refl

pub least_column : (ms : Members) (vs : List Value) → map view vs ≡ values_at (codes "columns") ms
    → lesser nat_le (least nat_le (broken_if (length vs == 0) 0)) (position (λ value. is_no_column (view value)) vs) ≡ least nat_le (misformed_columns ms)
least_column ms vs e =
    rw (← e, length-map) (sym (item_append (broken_if (length vs == 0) 0) (indices_where is_no_column 0 (map view vs)) ∙ ap (lesser nat_le (least nat_le (broken_if (length vs == 0) 0))) (least_value is_no_column vs)))

pub least_group : (ms : Members) (vs : List Value) (found : Option (Bor (List Value))) → map view vs ≡ values_at (codes "groups") ms → option_map (λ (v : Bor (List Value)). map view v.now) found ≡ array_at (codes "groups") ms
    → lesser nat_le (least nat_le (broken_if (is_none found) 0)) (position (λ value. is_no_group (view value)) vs) ≡ least nat_le (misformed_groups ms)
least_group ms vs found e given =
    let none : is_none (array_at (codes "groups") ms) ≡ is_none found = sym (none_mapped (λ (v : Bor (List Value)). map view v.now) found ∙ ap is_none given) in
    rw (← e, none) (sym (item_append (broken_if (is_none found) 0) (indices_where is_no_group 0 (map view vs)) ∙ ap (lesser nat_le (least nat_le (broken_if (is_none found) 0))) (least_value is_no_group vs)))

pub least_misformed : (ms : Members) → least nat_le (misformed_items ms) ≡
    lesser nat_le (lesser nat_le (least nat_le (broken_if (is_own_misformed ms) 0)) (least nat_le (misformed_columns ms))) (least nat_le (misformed_groups ms))
unfolding misformed_items
least_misformed ms =
    let own : List ℕ = broken_if (is_own_misformed ms) 0 in
    item_append (own ++ misformed_columns ms) (misformed_groups ms) ∙ ap (λ m. lesser nat_le m (least nat_le (misformed_groups ms))) (item_append own (misformed_columns ms))

pub flipped : (a b : Bool) → b ≡ not a → a ≡ not b
flipped true b e = rw e refl
flipped false b e = rw e refl
