-- What sound fragments do for a query that fits its catalogue: each comparison is tested once, and the last table has the solutions.
use Rattle.std.proofs.Common.{◌≡◌, ℕ, List, [], ◌∷◌, filter, flat_map, map, length, refl, ap, subst, ◌∙◌}
use Rattle.std.specs.List.{AllByRecursion, filter_map}
use Rattle.std.proofs.lemmas.List.Elements.{filter_map-append}
use Rattle.answer_theory.specs.Bags.{SameBag}
use Rattle.answer_theory.proofs.Bags.{bag_trans}
use Rattle.med_base.specs.declared.names.Name.{Name}
use Rattle.med_base.specs.declared.names.Name.TheVariants as name
use Rattle.row_match.specs.Filters.{comparison_variables}
use Rattle.query_core.specs.declared.query.Query.{Query}
use Rattle.query_reader.specs.Fitting.{StandsIn}
use Rattle.join_trees.specs.Shapes.{Shape, no_tree, nodes_of}
use Rattle.join_trees.specs.declared.tree.Node.{Node}
use Rattle.join_trees.specs.declared.tree.Leaf.TheVariants as leaf
use Rattle.join_trees.specs.declared.tree.Node.TheVariants as node
use Rattle.plan_reader.specs.declared.plan.Fragment.{Fragment}
use Rattle.plan_checker.specs.Covers.{is_own, last_of, made_after, whole_tree}
use Rattle.plan_checker.specs.Places.{all_join_sites, atom_site, places, sites}
use Rattle.plan_checker.specs.Solving.{Solves, name_of, names_in, tested_in}
use Rattle.plan_checker.specs.Uses.{nodes_in, numbers_of}
use Rattle.plan_checker.specs.declared.walking.Site.{Site}
use Rattle.plan_checker.proofs.BoundLaws.{AreBound, places_bound, places_once}
use Rattle.plan_checker.proofs.CheckedLaws.{AreSound, bag_filter_map}
use Rattle.plan_checker.proofs.NameLaws.{IsOnceIn, name_at, placed_once, same_names}
use Rattle.plan_checker.proofs.PlacedLaws.{all_placed, each_bound}
use Rattle.plan_checker.proofs.SiteLaws.{own_sites}
use Rattle.plan_checker.proofs.SolvingLaws.{each_first, each_rest, tables_solve}

own_names : (ns : List Node) → filter_map name_of (filter is_own ns) ≡ filter_map name_of ns
own_names [] = refl
own_names (node.Leaf (leaf.Atom a) ∷ ns) = ap (λ xs. name.Atom a ∷ xs) (own_names ns)
own_names (node.Leaf (leaf.Fragment f) ∷ ns) = own_names ns
own_names (node.Join j ∷ ns) = ap (λ xs. name.Join j ∷ xs) (own_names ns)

-- the nodes of the whole tree are those where comparisons can be tested
whole_names : (atoms : ℕ) (fs : List Fragment) → AreSound atoms fs → SameBag (names_in (whole_tree fs)) (map name_at (sites fs))
whole_names atoms fs sound = bag_trans (subst (λ ns. SameBag (names_in (whole_tree fs)) ns) (own_names (nodes_in fs)) (bag_filter_map name_of sound.covers.nodes)) (same_names fs)

once_alike : (xs ys : List Name) (ps : List Name) → SameBag xs ys → AllByRecursion (IsOnceIn ys) ps → AllByRecursion (IsOnceIn xs) ps
once_alike xs ys [] bag once = tt
once_alike xs ys (p ∷ ps) bag once = ((λ w. bag.weighs _ ∙ once.0 w), once_alike xs ys ps bag once.1)

-- each comparison is tested at one node of the whole tree
pub each_tested : (query : Query) (fs : List Fragment) → AreSound (length query.atoms) fs → AllByRecursion (StandsIn query.atoms) (comparison_variables query.comparisons)
    → SameBag (tested_in query.comparisons (places query fs) (whole_tree fs)) query.comparisons
unfolding places
each_tested query fs sound stand =
    let all = each_bound query.atoms fs query.comparisons sound.covers stand in
    placed_once (names_in (whole_tree fs)) query.comparisons (places query fs) (all_placed query fs sound.covers stand)
    (once_alike (names_in (whole_tree fs)) (map name_at (sites fs)) (places query fs) (whole_names (length query.atoms) fs sound) (places_once query.atoms (sites fs) query.comparisons sound.apart all))

-- what holds of all nodes holds of those of each fragment
each_fragment : (P : Site → Type 0) (made : ℕ → Shape) (fs : List Fragment) → AllByRecursion P (filter_map atom_site (nodes_in fs)) → AllByRecursion P (flat_map (λ (f : Fragment). own_sites made f.tree) fs)
    → AllByRecursion (λ (f : Fragment). AllByRecursion P (filter_map atom_site (nodes_of f.tree)) × AllByRecursion P (own_sites made f.tree)) fs
each_fragment P made [] atoms joins = tt
each_fragment P made (f ∷ fs) atoms joins =
    let parts = subst (AllByRecursion P) (filter_map-append atom_site (nodes_of f.tree) (nodes_in fs)) atoms in
    let more : List Site = flat_map (λ (g : Fragment). own_sites made g.tree) fs in (
      (each_first P (filter_map atom_site (nodes_of f.tree)) (filter_map atom_site (nodes_in fs)) parts, each_first P (own_sites made f.tree) more joins),
      each_fragment P made fs (each_rest P (filter_map atom_site (nodes_of f.tree)) (filter_map atom_site (nodes_in fs)) parts) (each_rest P (own_sites made f.tree) more joins),
    )

pub sound_solves : (query : Query) (fs : List Fragment) → AreSound (length query.atoms) fs → AllByRecursion (StandsIn query.atoms) (comparison_variables query.comparisons) → Solves query fs (places query fs)
unfolding places
sound_solves query fs sound stand arrivals tables wide filled =
    let made : ℕ → Shape = made_after (λ n. no_tree) fs in
    let B : Site → Type 0 = AreBound query.atoms query.comparisons (places query fs) in
    let all = each_bound query.atoms fs query.comparisons sound.covers stand in
    let bound : AllByRecursion B (sites fs) = places_bound query.atoms (sites fs) query.comparisons sound.apart all in
    let joins : AllByRecursion B (flat_map (λ (f : Fragment). own_sites made f.tree) fs) = subst (AllByRecursion B) sound.joins (each_rest B (filter_map atom_site (nodes_in fs)) (all_join_sites [] fs) bound) in
    tables_solve query (places query fs) arrivals made tables fs (last_of (numbers_of fs)) wide sound.made sound.ordered
    (each_fragment B made fs (each_first B (filter_map atom_site (nodes_in fs)) (all_join_sites [] fs) bound) joins)
    filled sound.last sound.covers.no_fragment sound.covers.each_atom (each_tested query fs sound stand)
