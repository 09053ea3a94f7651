-- What a table of a plan says of a fragment. What isn't of its form says nothing: the check of forms refuses it.
use Rattle.std.specs.Prelude.{ℕ, Bool, is_some, List, [], ◌∷◌, codes, Option, Some, None, option_map, option_and_then, if◌then◌else◌}
use Rattle.std.specs.List.{filter_map, list_all}
use Rattle.toml.specs.Data.{Data, Members, get_member, as_table}
use Rattle.med_prelude.specs.Texts.{Bytes}
use Rattle.toml_tables.specs.Tables.{has_only, text_at, values_of}
use Rattle.plan_reader.specs.Entries.{given}
use Rattle.join_trees.specs.Machine.{tree_of}
use Rattle.join_trees.specs.Shapes.{Shape, joins_of}
use Rattle.plan_reader.specs.Words.{fragment_number, fragment_of, number_of}
use Rattle.plan_reader.specs.declared.fragments.WrittenFragment.{WrittenFragment}
use Rattle.plan_reader.specs.declared.plan.Fragment.{Fragment}

-- the keys that a fragment's table may have
abbrev pub fragment_keys : List Bytes
fragment_keys = codes "name" ∷ codes "tree" ∷ codes "estimate" ∷ codes "after" ∷ []

abbrev pub names_fragment : Data → Bool
names_fragment d = is_some (fragment_of d)

-- the numbers of the fragments that strings name, where all do
abbrev pub fragments_named : List Data → Option (List ℕ)
fragments_named ds = if list_all names_fragment ds then Some (filter_map fragment_of ds) else None

-- the fragments to run before it; none where the key is missing
unfoldable pub after_in : Members → Option (List ℕ)
after_in ms = elim (get_member (codes "after") ms) as (λ _. Option (List ℕ)) [ None ↦ Some [] | Some d ↦ option_and_then fragments_named (values_of d) ]

abbrev pub number_in : Members → Option ℕ
number_in ms = option_and_then fragment_number (text_at (codes "name") ms)

-- the fragment of that number, that tree, that estimate and those before it
abbrev pub fragment_with : ℕ → Bytes → Option ℕ → List ℕ → WrittenFragment
fragment_with number tree estimate before = record { number = number; tree = tree_of tree; estimate = estimate; after = before }

abbrev pub fragment_told : Option ℕ → Option Bytes → Option (Option ℕ) → Option (List ℕ) → Option WrittenFragment
fragment_told number tree estimate before =
    option_and_then (λ n. option_and_then (λ t. option_and_then (λ e. option_map (fragment_with n t e) before) estimate) tree) number

unfoldable pub fragment_in : Members → Option WrittenFragment
fragment_in ms =
    if has_only fragment_keys ms
    then fragment_told (number_in ms) (text_at (codes "tree") ms) (given number_of (codes "estimate") ms) (after_in ms)
    else None

abbrev pub written_fragment : Data → Option WrittenFragment
written_fragment d = option_and_then fragment_in (as_table d)

-- the number of its name, and the numbers of its joins
abbrev pub names_of : Option WrittenFragment → List ℕ
names_of None = []
names_of (Some w) = w.number ∷ []

abbrev pub joins_in : Option Shape → List ℕ
joins_in None = []
joins_in (Some t) = joins_of t

abbrev pub joins_written : WrittenFragment → List ℕ
joins_written w = joins_in w.tree

-- the fragment, where its text spells a tree
abbrev pub fragment_of_tree : WrittenFragment → Shape → Fragment
fragment_of_tree w t = record { number = w.number; tree = t; estimate = w.estimate; after = w.after }

abbrev pub fragment_read : WrittenFragment → Option Fragment
fragment_read w = option_map (fragment_of_tree w) w.tree
