-- The fragment that a plan gets that names none: all atoms joined, in their order.
use Rattle.std.specs.Prelude.{ℕ, zero, suc, ◌-◌, ◌==◌, List, [], ◌∷◌, length, None, if◌then◌else◌}
use Rattle.join_trees.specs.Shapes.{Shape, tip, fork}
use Rattle.join_trees.specs.declared.tree.Leaf.TheVariants as leaf
use Rattle.toml.specs.Data.{no_members}
use Rattle.plan_reader.specs.Parts.{plan_in}
use Rattle.plan_reader.specs.declared.plan.Fragment.{Fragment}
use Rattle.plan_reader.specs.declared.plan.Plan.{Plan}

-- so many joins over the first atoms, each of the tree before it with the next atom: `j2(j1(a1, a2), a3)`
abbrev pub left_deep : ℕ → Shape
left_deep zero = tip (leaf.Atom 1)
left_deep (suc joins) = fork (suc joins) (left_deep joins) (tip (leaf.Atom (suc (suc joins))))

-- the fragment of all atoms, of which there are so many
abbrev pub default_fragment : ℕ → Fragment
default_fragment atoms = record { number = 1; tree = left_deep (atoms - 1); estimate = None; after = [] }

abbrev pub with_fragments : Plan → List Fragment → Plan
with_fragments plan fragments = record plan { fragments = fragments }

-- the plan, with that fragment where it names none
abbrev pub filled : ℕ → Plan → Plan
filled atoms plan = if length plan.fragments == 0 then with_fragments plan (default_fragment atoms ∷ []) else plan

-- the plan of the empty text
abbrev pub default_plan : Plan
default_plan = plan_in no_members
