-- What a net has given, once it is finished.
use Rattle.std.specs.Prelude.{◌≡◌, List, flat_map, map}
use Rattle.answer_theory.specs.Bags.{SameBag}
use Rattle.answer_theory.specs.Rows.{over}
use Rattle.answer_theory.specs.Solutions.{only, solutions}
use Rattle.answer_theory.specs.Trees.{IsPlaced, Join, Leaf, Tree, given_rows, leaves, no_tables, tests}
use Rattle.med_base.specs.declared.outside.source.Source.{Ghosts as Source}
use Rattle.tuple_core.specs.Values.{RowList}
use Rattle.tuple_core.specs.declared.value.Value.{Value}
use Rattle.row_match.specs.Filters.{all_hold}
use Rattle.row_match.specs.Patterns.{entries_of, fits, pattern_variables, values_join}
use Rattle.collect_core.specs.Members.{AreSound, AreTold, HasAccepted}
use Rattle.collect_core.specs.Selecting.{Select}
use Rattle.step_core.specs.Nets.{LeafState, NetState, NetTree, leaf, fork, variables}

-- an atom as a leaf of joins, with the rows of its relation and its comparisons
abbrev pub leaf_of : Select → RowList → Tree Value
leaf_of s rows = Leaf (pattern_variables s.terms) (all_hold s.comparisons) (flat_map (λ row. only (fits s.terms row) (entries_of s.terms row)) rows)

-- the leaf has all rows that were accepted of the atom's members: the first ones of each, where its source tells its bytes
pub record HasAll {S M : Type 0} (source : Source S M) (l : LeafState S) (t : Tree Value) : Type 0 where
  pub accepted : List RowList
  pub has : HasAccepted source l.collecting.members accepted
  pub told : AreTold source l.collecting.columns l.collecting.members accepted
  pub sound : AreSound source l.collecting.columns l.collecting.members
  pub leaf_is : t ≡ leaf_of l.collecting.select (flat_map (λ rows. rows) accepted)

-- the tree of joins that a net stands for, with all rows that were accepted of its atoms, and each comparison where it is placed
abbrev pub StandsFor : {S M : Type 0} → Source S M → NetTree S → Tree Value → Type 0
StandsFor source (leaf l) t = HasAll source l t
StandsFor source (fork j a b) t =
    (ta : Tree Value) × ((tb : Tree Value) × (StandsFor source a ta × (StandsFor source b tb × (t ≡ Join (all_hold j.comparisons) ta tb))))

-- The rows are what the atoms' rows give: as a bag, what the tree of joins gives, that is, the solutions over its leaves.
pub record HasAnswered {S M : Type 0} (source : Source S M) (n : NetState S) : Type 0 where
  pub tree : Tree Value
  pub stands_for : StandsFor source n.tree tree
  pub placed : IsPlaced no_tables tree
  pub gives : SameBag (map (over (variables n.tree)) n.rows) (given_rows values_join no_tables tree)
  pub solves : SameBag (map (over (variables n.tree)) n.rows) (solutions values_join (tests tree) (leaves no_tables tree))
