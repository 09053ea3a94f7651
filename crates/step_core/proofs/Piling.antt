-- How the operators of a plan are made, node by node.
use Rattle.std.specs.Prelude.{⊤}
use Rattle.std.proofs.Common.{◌≡◌, ◌⊎◌, inl, inr, ℕ, suc, ◌+◌, ◌<◌, ◌≤◌, List, [], ◌∷◌, ◌++◌, length, drop, slice_index_or, refl, sym, ap, ap₂, subst, ◌∙◌, append_assoc, append-nil, arith}
use Rattle.std.proofs.Math.Seq.{drop-cons}
use Rattle.std.proofs.lemmas.List.{drop_all}
use Rattle.std.specs.List.{AllByRecursion, AllZip}
use Rattle.answer_theory.specs.Rows.{glued_variables}
use Rattle.join_trees.specs.Shapes.{Shape, tip, fork as forked, nodes_of}
use Rattle.join_trees.specs.declared.tree.Node.{Node}
use Rattle.join_trees.specs.declared.tree.Leaf.{Leaf}
use Rattle.join_trees.specs.declared.tree.Node.TheVariants as node
use Rattle.step_core.specs.Nets.{NetTree, leaf, variables}
use Rattle.step_core.specs.Planting.{FitsJoin, IsFork, fresh_leaf}
use Rattle.step_core.specs.Plans.{AddsAtom, AddsJoin, AddsPiece, FitsPlan, HasAtom, HasJoin, HasPiece, HasShape, IsPlanOf, IsPlanted, Plan, at, both, atoms_of, joins_of, plan_variables}
use Rattle.step_core.specs.declared.planting.NetAtom.{NetAtom}
use Rattle.step_core.specs.declared.planting.NetJoin.{NetJoin}

-- ---- equal lists

abbrev first_or : {X : Type 0} → X → List X → X
first_or x [] = x
first_or x (y ∷ ys) = y

abbrev but_first : {X : Type 0} → List X → List X
but_first [] = []
but_first (y ∷ ys) = ys

pub heads_same : {X : Type 0} (x y : X) (xs ys : List X) → x ∷ xs ≡ y ∷ ys → x ≡ y
heads_same x y xs ys e = ap (λ l. first_or x l) e

pub tails_same : {X : Type 0} (x y : X) (xs ys : List X) → x ∷ xs ≡ y ∷ ys → xs ≡ ys
tails_same x y xs ys e = ap but_first e

-- ---- a plan as the list of its pieces, a join behind those of its two sides

abbrev Piece : Type 0
Piece = NetAtom ⊎ NetJoin

abbrev pieces_of : Plan → List Piece
pieces_of (at a) = inl a ∷ []
pieces_of (both j p q) = pieces_of p ++ (pieces_of q ++ inr j ∷ [])

abbrev atoms_in : List Piece → List NetAtom
atoms_in [] = []
atoms_in (inl a ∷ xs) = a ∷ atoms_in xs
atoms_in (inr j ∷ xs) = atoms_in xs

abbrev joins_in : List Piece → List NetJoin
joins_in [] = []
joins_in (inl a ∷ xs) = joins_in xs
joins_in (inr j ∷ xs) = j ∷ joins_in xs

abbrev IsKindOf : Node → Piece → Type 0
IsKindOf (node.Leaf l) (inl a) = ⊤
IsKindOf (node.Leaf l) (inr j) = ⊥
IsKindOf (node.Join n) (inl a) = ⊥
IsKindOf (node.Join n) (inr j) = ⊤

-- the plans on a pile, the last one in front, and these pieces make that plan
abbrev Makes : List Plan → List Piece → Plan → Type 0
Makes ps [] p = ps ≡ p ∷ []
Makes ps (inl a ∷ xs) p = Makes (at a ∷ ps) xs p
Makes [] (inr j ∷ xs) p = ⊥
Makes (q ∷ []) (inr j ∷ xs) p = ⊥
Makes (r ∷ q ∷ ps) (inr j ∷ xs) p = Makes (both j q r ∷ ps) xs p

makes_plan : (q : Plan) (ps : List Plan) (xs : List Piece) (p : Plan) → Makes (q ∷ ps) xs p → Makes ps (pieces_of q ++ xs) p
makes_plan (at a) ps xs p m = m
makes_plan (both j q r) ps xs p m =
    subst (λ ys. Makes ps ys p) (sym (append_assoc (pieces_of q) (pieces_of r ++ inr j ∷ []) xs ∙ ap (λ ys. pieces_of q ++ ys) (append_assoc (pieces_of r) (inr j ∷ []) xs)))
    (makes_plan q ps (pieces_of r ++ inr j ∷ xs) p (makes_plan r (q ∷ ps) (inr j ∷ xs) p m))

makes_fit : (xs : List Piece) (ps : List Plan) (p : Plan) → Makes ps xs p → FitsPlan p → AllByRecursion FitsPlan ps
makes_fit [] ps p m f = subst (λ qs. AllByRecursion FitsPlan qs) (sym m) (f, tt)
makes_fit (inl a ∷ xs) ps p m f = (makes_fit xs (at a ∷ ps) p m f).1
makes_fit (inr j ∷ xs) [] p m f = absurd m
makes_fit (inr j ∷ xs) (q ∷ []) p m f = absurd m
makes_fit (inr j ∷ xs) (r ∷ q ∷ ps) p m f = let h = makes_fit xs (both j q r ∷ ps) p m f in (h.0.1.0, (h.0.0, h.1))

atoms_append : (xs ys : List Piece) → atoms_in (xs ++ ys) ≡ atoms_in xs ++ atoms_in ys
atoms_append [] ys = refl
atoms_append (inl a ∷ xs) ys = ap (λ us. a ∷ us) (atoms_append xs ys)
atoms_append (inr j ∷ xs) ys = atoms_append xs ys

joins_append : (xs ys : List Piece) → joins_in (xs ++ ys) ≡ joins_in xs ++ joins_in ys
joins_append [] ys = refl
joins_append (inl a ∷ xs) ys = joins_append xs ys
joins_append (inr j ∷ xs) ys = ap (λ js. j ∷ js) (joins_append xs ys)

atoms_pieces : (p : Plan) → atoms_of p ≡ atoms_in (pieces_of p)
atoms_pieces (at a) = refl
atoms_pieces (both j p q) =
    ap₂ (λ us vs. us ++ vs) (atoms_pieces p) (atoms_pieces q ∙ sym (append-nil (atoms_in (pieces_of q))) ∙ sym (atoms_append (pieces_of q) (inr j ∷ []))) ∙ sym (atoms_append (pieces_of p) (pieces_of q ++ inr j ∷ []))

joins_pieces : (p : Plan) → joins_of p ≡ joins_in (pieces_of p)
joins_pieces (at a) = refl
joins_pieces (both j p q) =
    ap₂ (λ us vs. us ++ vs) (joins_pieces p) (ap (λ js. js ++ j ∷ []) (joins_pieces q) ∙ sym (joins_append (pieces_of q) (inr j ∷ []))) ∙ sym (joins_append (pieces_of p) (pieces_of q ++ inr j ∷ []))

kinds_append : (ns ms : List Node) (xs ys : List Piece) → AllZip IsKindOf ns xs → AllZip IsKindOf ms ys → AllZip IsKindOf (ns ++ ms) (xs ++ ys)
kinds_append [] ms [] ys h k = k
kinds_append [] ms (x ∷ xs) ys h k = absurd h
kinds_append (n ∷ ns) ms [] ys h k = absurd h
kinds_append (n ∷ ns) ms (x ∷ xs) ys h k = (h.0, kinds_append ns ms xs ys h.1 k)

kinds_of : (p : Plan) (s : Shape) → HasShape p s → AllZip IsKindOf (nodes_of s) (pieces_of p)
kinds_of (at a) (tip l) h = (tt, tt)
kinds_of (at a) (forked n s t) h = absurd h
kinds_of (both j p q) (tip l) h = absurd h
kinds_of (both j p q) (forked n s t) h =
    kinds_append (nodes_of s) (nodes_of t ++ node.Join n ∷ []) (pieces_of p) (pieces_of q ++ inr j ∷ []) (kinds_of p s h.0) (kinds_append (nodes_of t) (node.Join n ∷ []) (pieces_of q) (inr j ∷ []) (kinds_of q t h.1) (tt, tt))

-- ---- the variables of what is made

pub planted_variables : {S : Type 0} (p : Plan) (t : NetTree S) → IsPlanted p t → variables t ≡ plan_variables p
planted_variables (at a) t h = ap variables h
planted_variables (both j p q) t (a, (b, (h, (k, (s, (is, f)))))) =
    ap variables is ∙ ap (λ x. glued_variables x.shape.left x.shape.right) f.joining ∙ ap₂ glued_variables (planted_variables p a h) (planted_variables q b k)

-- ---- what is made once some nodes are passed

-- The trees on the pile, with the nodes, atoms and joins that are left, make the operators of the plan.
pub record IsGrown {S : Type 0} (p : Plan) (nodes : List Node) (trees : List (NetTree S)) (atoms : List NetAtom) (joins : List NetJoin) : Type 0 where
  pub pile : List Plan
  pub pieces : List Piece
  pub makes : Makes pile pieces p
  pub planted : AllZip IsPlanted pile trees
  pub kinds : AllZip IsKindOf nodes pieces
  pub atoms_are : atoms ≡ atoms_in pieces
  pub joins_are : joins ≡ joins_in pieces

pub grown_first : {S : Type 0} (p : Plan) (s : Shape) (nodes : List Node) (trees : List (NetTree S)) (atoms next_atoms : List NetAtom) (joins next_joins : List NetJoin) → IsPlanOf s atoms joins p
    → nodes ≡ nodes_of s → trees ≡ [] → next_atoms ≡ atoms → next_joins ≡ joins → IsGrown p nodes trees next_atoms next_joins
grown_first p s nodes trees atoms next_atoms joins next_joins h nodes_are none atoms_same joins_same = record {
  pile = [];
  pieces = pieces_of p;
  makes = subst (λ xs. Makes [] xs p) (append-nil (pieces_of p)) (makes_plan p [] [] p refl);
  planted = subst (λ ts. AllZip IsPlanted [] ts) (sym none) tt;
  kinds = subst (λ ns. AllZip IsKindOf ns (pieces_of p)) (sym nodes_are) (kinds_of p s h.shape);
  atoms_are = atoms_same ∙ sym h.atoms ∙ atoms_pieces p;
  joins_are = joins_same ∙ sym h.joins ∙ joins_pieces p;
}

atom_next : {S : Type 0} (p : Plan) (l : Leaf) (nodes : List Node) (trees : List (NetTree S)) (atoms : List NetAtom) (joins : List NetJoin) → FitsPlan p → IsGrown p (node.Leaf l ∷ nodes) trees atoms joins → HasAtom atoms
atom_next {S} p l nodes trees atoms joins fits g = go g.pieces g.makes g.kinds g.atoms_are
  where
    go : (xs : List Piece) → Makes g.pile xs p → AllZip IsKindOf (node.Leaf l ∷ nodes) xs → atoms ≡ atoms_in xs → HasAtom atoms
    go [] m k e = absurd k
    go (inl a ∷ xs) m k e = record { atom = a; rest = atoms_in xs; is = e; fits = (makes_fit xs (at a ∷ g.pile) p m fits).0 }
    go (inr j ∷ xs) m k e = absurd k.0

grown_atom : {S : Type 0} (p : Plan) (l : Leaf) (nodes : List Node) (old new : List (NetTree S)) (atoms rest : List NetAtom) (joins : List NetJoin) → IsGrown p (node.Leaf l ∷ nodes) old atoms joins → AddsAtom old new atoms rest
    → IsGrown p nodes new rest joins
grown_atom {S} p l nodes old new atoms rest joins g adds = go g.pieces g.makes g.kinds g.atoms_are g.joins_are
  where
    go : (xs : List Piece) → Makes g.pile xs p → AllZip IsKindOf (node.Leaf l ∷ nodes) xs → atoms ≡ atoms_in xs → joins ≡ joins_in xs → IsGrown p nodes new rest joins
    go [] m k e d = absurd k
    go (inr j ∷ xs) m k e d = absurd k.0
    go (inl a ∷ xs) m k e d =
        let same = sym adds.is ∙ e in
        record {
          pile = at a ∷ g.pile;
          pieces = xs;
          makes = m;
          planted = subst (λ ts. AllZip IsPlanted (at a ∷ g.pile) ts) (sym adds.added) (ap (λ b. leaf (fresh_leaf b)) (heads_same adds.atom a rest (atoms_in xs) same), g.planted);
          kinds = k.1;
          atoms_are = tails_same adds.atom a rest (atoms_in xs) same;
          joins_are = d;
        }

join_next : {S : Type 0} (p : Plan) (n : ℕ) (nodes : List Node) (trees : List (NetTree S)) (atoms : List NetAtom) (joins : List NetJoin) → FitsPlan p → IsGrown p (node.Join n ∷ nodes) trees atoms joins → HasJoin trees joins
join_next {S} p n nodes trees atoms joins fits g = go g.pieces g.pile trees refl g.makes g.planted g.kinds g.joins_are
  where
    go : (xs : List Piece) (ps : List Plan) (ts : List (NetTree S)) → trees ≡ ts → Makes ps xs p → AllZip IsPlanted ps ts → AllZip IsKindOf (node.Join n ∷ nodes) xs → joins ≡ joins_in xs → HasJoin trees joins
    go [] ps ts is m h k e = absurd k
    go (inl a ∷ xs) ps ts is m h k e = absurd k.0
    go (inr j ∷ xs) [] ts is m h k e = absurd m
    go (inr j ∷ xs) (q ∷ []) ts is m h k e = absurd m
    go (inr j ∷ xs) (r ∷ q ∷ ps) [] is m h k e = absurd h
    go (inr j ∷ xs) (r ∷ q ∷ ps) (b ∷ []) is m h k e = absurd h.1
    go (inr j ∷ xs) (r ∷ q ∷ ps) (b ∷ a ∷ ts) is m h k e =
        let fit = (makes_fit xs (both j q r ∷ ps) p m fits).0.1.1 in
        record {
          join = j;
          rest = joins_in xs;
          is = e;
          left = a;
          right = b;
          below = ts;
          top = is;
          fits = subst (λ us. FitsJoin us (variables b) j) (sym (planted_variables q a h.1.0)) (subst (λ vs. FitsJoin (plan_variables q) vs j) (sym (planted_variables r b h.0)) fit);
        }

grown_join : {S : Type 0} (p : Plan) (n : ℕ) (nodes : List Node) (old new : List (NetTree S)) (atoms : List NetAtom) (joins rest : List NetJoin) → IsGrown p (node.Join n ∷ nodes) old atoms joins → AddsJoin old new joins rest
    → IsGrown p nodes new atoms rest
grown_join {S} p n nodes old new atoms joins rest g adds =
    go g.pieces g.pile g.makes (subst (λ ts. AllZip IsPlanted g.pile ts) adds.top g.planted) g.kinds g.atoms_are g.joins_are
  where
    go : (xs : List Piece) (ps : List Plan) → Makes ps xs p → AllZip IsPlanted ps (adds.right ∷ adds.left ∷ adds.below) → AllZip IsKindOf (node.Join n ∷ nodes) xs → atoms ≡ atoms_in xs → joins ≡ joins_in xs → IsGrown p nodes new atoms rest
    go [] ps m h k e d = absurd k
    go (inl a ∷ xs) ps m h k e d = absurd k.0
    go (inr j ∷ xs) [] m h k e d = absurd m
    go (inr j ∷ xs) (q ∷ []) m h k e d = absurd m
    go (inr j ∷ xs) (r ∷ q ∷ ps) m h k e d =
        let same = sym adds.is ∙ d in
        record {
          pile = both j q r ∷ ps;
          pieces = xs;
          makes = m;
          planted = subst (λ ts. AllZip IsPlanted (both j q r ∷ ps) ts) (sym adds.added)
              ((adds.left, (adds.right, (h.1.0, (h.0, subst (λ i. IsFork i adds.left adds.right adds.made) (heads_same adds.join j rest (joins_in xs) same) adds.fork)))), h.1.1);
          kinds = k.1;
          atoms_are = e;
          joins_are = tails_same adds.join j rest (joins_in xs) same;
        }

-- the operators that are made
pub record HasMade {S : Type 0} (p : Plan) (trees : List (NetTree S)) : Type 0 where
  pub made : NetTree S
  pub only : trees ≡ made ∷ []
  pub planted : IsPlanted p made

grown_last : {S : Type 0} (p : Plan) (trees : List (NetTree S)) (atoms : List NetAtom) (joins : List NetJoin) → IsGrown p [] trees atoms joins → HasMade p trees
grown_last {S} p trees atoms joins g = go g.pieces trees refl g.makes g.kinds g.planted
  where
    one : (ts : List (NetTree S)) → trees ≡ ts → AllZip IsPlanted (p ∷ []) ts → HasMade p trees
    one [] is h = absurd h
    one (t ∷ []) is h = record { made = t; only = is; planted = h.0 }
    one (t ∷ u ∷ ts) is h = absurd h.1

    go : (xs : List Piece) (ts : List (NetTree S)) → trees ≡ ts → Makes g.pile xs p → AllZip IsKindOf [] xs → AllZip IsPlanted g.pile ts → HasMade p trees
    go [] ts is m k h = one ts is (subst (λ ps. AllZip IsPlanted ps ts) m h)
    go (x ∷ xs) ts is m k h = absurd k

-- ---- one node after the other

one_more : (n : ℕ) → suc n ≡ n + 1
one_more n = Prim.omega arith

piece_of : {S : Type 0} (p : Plan) (n : Node) (nodes : List Node) (trees : List (NetTree S)) (atoms : List NetAtom) (joins : List NetJoin) → FitsPlan p → IsGrown p (n ∷ nodes) trees atoms joins → HasPiece n trees atoms joins
piece_of p (node.Leaf l) nodes trees atoms joins fits g = atom_next p l nodes trees atoms joins fits g
piece_of p (node.Join n) nodes trees atoms joins fits g = join_next p n nodes trees atoms joins fits g

pub piece_next : {S : Type 0} (p : Plan) (nodes : List Node) (i : ℕ) (d : Node) (trees : List (NetTree S)) (atoms : List NetAtom) (joins : List NetJoin) → i < length nodes → FitsPlan p → IsGrown p (drop i nodes) trees atoms joins
    → HasPiece (slice_index_or nodes i d) trees atoms joins
piece_next p nodes i d trees atoms joins inside fits g = piece_of p (slice_index_or nodes i d) (drop (suc i) nodes) trees atoms joins fits (subst (λ ns. IsGrown p ns trees atoms joins) (drop-cons nodes i d inside) g)

grown_by : {S : Type 0} (p : Plan) (n : Node) (nodes : List Node) (old new : List (NetTree S)) (atoms atoms_left : List NetAtom) (joins joins_left : List NetJoin) → IsGrown p (n ∷ nodes) old atoms joins
    → AddsPiece n old new atoms atoms_left joins joins_left → IsGrown p nodes new atoms_left joins_left
grown_by p (node.Leaf l) nodes old new atoms atoms_left joins joins_left g (adds, same) = subst (λ js. IsGrown p nodes new atoms_left js) (sym same) (grown_atom p l nodes old new atoms atoms_left joins g adds)
grown_by p (node.Join n) nodes old new atoms atoms_left joins joins_left g (adds, same) = subst (λ us. IsGrown p nodes new us joins_left) (sym same) (grown_join p n nodes old new atoms joins joins_left g adds)

pub grown_more : {S : Type 0} (p : Plan) (nodes : List Node) (i : ℕ) (d : Node) (old new : List (NetTree S)) (atoms atoms_left : List NetAtom) (joins joins_left : List NetJoin) → i < length nodes → IsGrown p (drop i nodes) old atoms joins
    → AddsPiece (slice_index_or nodes i d) old new atoms atoms_left joins joins_left → IsGrown p (drop (i + 1) nodes) new atoms_left joins_left
grown_more p nodes i d old new atoms atoms_left joins joins_left inside g adds =
    subst (λ k. IsGrown p (drop k nodes) new atoms_left joins_left) (one_more i)
    (grown_by p (slice_index_or nodes i d) (drop (suc i) nodes) old new atoms atoms_left joins joins_left (subst (λ ns. IsGrown p ns old atoms joins) (drop-cons nodes i d inside) g) adds)

-- ---- behind the last node

grown_all : {S : Type 0} (p : Plan) (nodes : List Node) (i : ℕ) (trees : List (NetTree S)) (atoms : List NetAtom) (joins : List NetJoin) → length nodes ≤ i → IsGrown p (drop i nodes) trees atoms joins → HasMade p trees
grown_all p nodes i trees atoms joins past g = grown_last p trees atoms joins (subst (λ ns. IsGrown p ns trees atoms joins) (drop_all i nodes past) g)

pub grown_some : {S : Type 0} (p : Plan) (nodes : List Node) (i : ℕ) (trees : List (NetTree S)) (atoms : List NetAtom) (joins : List NetJoin) → length nodes ≤ i → IsGrown p (drop i nodes) trees atoms joins → 0 < length trees
grown_some p nodes i trees atoms joins past g = Prim.omega (arith, ap length (grown_all p nodes i trees atoms joins past g).only)

pub grown_is : {S : Type 0} (p : Plan) (nodes : List Node) (i : ℕ) (trees : List (NetTree S)) (t : NetTree S) (below : List (NetTree S)) (atoms : List NetAtom) (joins : List NetJoin) → length nodes ≤ i → IsGrown p (drop i nodes) trees atoms joins
    → trees ≡ t ∷ below → IsPlanted p t
grown_is p nodes i trees t below atoms joins past g top =
    let made = grown_all p nodes i trees atoms joins past g in
    subst (λ u. IsPlanted p u) (heads_same made.made t [] below (sym made.only ∙ top)) made.planted
