-- Going through a tree's nodes gives its joins, each with the atoms under it.
use Rattle.std.proofs.Common.{◌≡◌, ℕ, List, [], ◌∷◌, ◌++◌, append_assoc, append-nil, sym, ap, ap₂, ◌∙◌}
use Rattle.med_base.specs.declared.names.Name.TheVariants as name
use Rattle.join_trees.specs.Shapes.{Shape, tip, fork, nodes_of}
use Rattle.join_trees.specs.declared.tree.Leaf.TheVariants as leaf
use Rattle.join_trees.specs.declared.tree.Node.{Node}
use Rattle.join_trees.specs.declared.tree.Node.TheVariants as node
use Rattle.plan_reader.specs.declared.plan.Fragment.{Fragment}
use Rattle.plan_checker.specs.Places.{Finished, all_join_sites, atoms_under, join_sites, site, with_fragment}
use Rattle.plan_checker.specs.Walks.{top, walk, with_nodes}
use Rattle.plan_checker.specs.declared.walking.Site.{Site}
use Rattle.plan_checker.specs.declared.walking.Walk.{Walk}

gone_through : (finished : Finished) (t : Shape) (pile : List (List ℕ)) (ss : List Site) (ns : List Node)
    → with_nodes finished (walk pile ss) (nodes_of t ++ ns) ≡ with_nodes finished (walk (atoms_under finished t ∷ pile) (ss ++ join_sites finished t)) ns
gone_through finished (tip (leaf.Atom a)) pile ss ns = ap (λ xs. with_nodes finished (walk ((a ∷ []) ∷ pile) xs) ns) (sym (append-nil ss))
gone_through finished (tip (leaf.Fragment f)) pile ss ns = ap (λ xs. with_nodes finished (walk (atoms_under finished (tip (leaf.Fragment f)) ∷ pile) xs) ns) (sym (append-nil ss))
gone_through finished (fork j a b) pile ss ns =
    let s : Site = site (name.Join j) (atoms_under finished (fork j a b)) in
    ap (with_nodes finished (walk pile ss)) (append_assoc (nodes_of a) (nodes_of b ++ node.Join j ∷ []) ns)
    ∙ gone_through finished a pile ss ((nodes_of b ++ node.Join j ∷ []) ++ ns)
    ∙ ap (with_nodes finished (walk (atoms_under finished a ∷ pile) (ss ++ join_sites finished a))) (append_assoc (nodes_of b) (node.Join j ∷ []) ns)
    ∙ gone_through finished b (atoms_under finished a ∷ pile) (ss ++ join_sites finished a) (node.Join j ∷ ns)
    ∙ ap (λ xs. with_nodes finished (walk (atoms_under finished (fork j a b) ∷ pile) xs) ns)
    (append_assoc (ss ++ join_sites finished a) (join_sites finished b) (s ∷ []) ∙ append_assoc ss (join_sites finished a) (join_sites finished b ++ s ∷ []))

walked : (finished : Finished) (t : Shape) (ss : List Site) → with_nodes finished (walk [] ss) (nodes_of t) ≡ walk (atoms_under finished t ∷ []) (ss ++ join_sites finished t)
walked finished t ss = ap (with_nodes finished (walk [] ss)) (sym (append-nil (nodes_of t))) ∙ gone_through finished t [] ss []

abbrev finished_with : Finished → ℕ → List ℕ → Finished
finished_with finished number atoms = finished ++ record { number = number; atoms = atoms } ∷ []

-- one fragment more
pub one_tree_more : (finished more : Finished) (ss : List Site) (f : Fragment) (rest : List Fragment) (w : Walk) (atoms : List ℕ) (whole : List Site) → ss ++ all_join_sites finished (f ∷ rest) ≡ whole
    → w ≡ with_nodes finished (walk [] ss) (nodes_of f.tree) → atoms ≡ top w.pile → more ≡ finished_with finished f.number atoms → w.sites ++ all_join_sites more rest ≡ whole
one_tree_more finished more ss f rest w atoms whole before gone under next =
    let is : w ≡ walk (atoms_under finished f.tree ∷ []) (ss ++ join_sites finished f.tree) = gone ∙ walked finished f.tree ss in
    let both : more ≡ with_fragment finished f = next ∙ ap (finished_with finished f.number) (under ∙ ap (λ (v : Walk). top v.pile) is) in
    ap₂ (λ (v : Walk) (g : Finished). v.sites ++ all_join_sites g rest) is both ∙ append_assoc ss (join_sites finished f.tree) (all_join_sites (with_fragment finished f) rest) ∙ before
