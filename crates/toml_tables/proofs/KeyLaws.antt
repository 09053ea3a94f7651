-- The values of an array and the keys of a table, as the code reads them.
use Rattle.std.proofs.Common.{◌≡◌, ℕ, Bor, List, [], ◌∷◌, ◌&&◌, ◌||◌, suc, length, map, String, Global, string_bytes, refl, ap, ◌∙◌}
use Rattle.std.specs.Cmp.Lexicographic.{pointwise}
use Rattle.std.specs.Prelude.{nat_eq}
use Rattle.std.specs.List.{list_all, list_any}
use Rattle.std.specs.Map.{keys_of as entry_keys}
use Rattle.toml.specs.View.{view, items_view, members_view}
use Rattle.toml.specs.declared.value.Value.{Value}
use Rattle.toml_tables.specs.Tables.{has_only, is_among, items_list, keys_of}

pub listed : (vs : List Value) → items_list (items_view vs) ≡ map view vs
listed [] = refl
listed (v ∷ vs) = ap (λ ds. view v ∷ ds) (listed vs)

pub count_keys : (es : List (String Global × Value)) → length (keys_of (members_view es)) ≡ length es
count_keys [] = refl
count_keys (e ∷ es) = ap suc (count_keys es)

-- a text among those that references point to
pub among_texts : (key : List ℕ) (known : List (Bor (List ℕ))) → is_among (map (λ (k : Bor (List ℕ)). k.now) known) key ≡ list_any (λ (other : Bor (List ℕ)). pointwise nat_eq key other.now) known
among_texts key [] = refl
among_texts key (other ∷ known) = ap (λ b. pointwise nat_eq key other.now || b) (among_texts key known)

-- all keys of a table among them
pub only_keys : (known : List (Bor (List ℕ))) (es : List (String Global × Value))
    → has_only (map (λ (k : Bor (List ℕ)). k.now) known) (members_view es) ≡ list_all (λ key. list_any (λ (other : Bor (List ℕ)). pointwise nat_eq (string_bytes key) other.now) known) (entry_keys es)
only_keys known [] = refl
only_keys known (e ∷ es) =
    ap (λ b. b && has_only (map (λ (k : Bor (List ℕ)). k.now) known) (members_view es)) (among_texts (string_bytes e.0) known)
    ∙ ap (λ b. list_any (λ (other : Bor (List ℕ)). pointwise nat_eq (string_bytes e.0) other.now) known && b) (only_keys known es)
