-- The same operators over the same variables, with the same comparisons.
use Rattle.std.proofs.Common.{◌≡◌, refl, sym, ap, subst, ◌∙◌}
use Rattle.row_match.specs.Patterns.{pattern_variables}
use Rattle.step_core.specs.Edges.{Waits}
use Rattle.step_core.specs.Nets.{JoinState, LeafState, NetTree, leaf, fork, joined_variables, variables}
use Rattle.step_core.specs.Same.{SameAtom, SameJoin, SameOperators}
use Rattle.step_core.specs.Standing.{ArePlaced, Reads}

atom_then : {S : Type 0} (l k m : LeafState S) → SameAtom l k → SameAtom k m → SameAtom l m
atom_then l k m h i = record { atom = i.atom ∙ h.atom; columns = i.columns ∙ h.columns; select = i.select ∙ h.select }

join_then : (j k i : JoinState) → SameJoin j k → SameJoin k i → SameJoin j i
join_then j k i h l = record { number = l.number ∙ h.number; shape = l.shape ∙ h.shape; comparisons = l.comparisons ∙ h.comparisons }

-- whatever waits for it
pub same_join : (j : JoinState) (x y : Waits) → SameJoin j (record j { left = x; right = y })
same_join j x y = record { number = refl; shape = refl; comparisons = refl }

pub operators_same : {S : Type 0} (t : NetTree S) → SameOperators t t
operators_same (leaf l) = record { atom = refl; columns = refl; select = refl }
operators_same (fork j a b) = (same_join j j.left j.right, (operators_same a, operators_same b))

pub operators_then : {S : Type 0} (t u x : NetTree S) → SameOperators t u → SameOperators u x → SameOperators t x
operators_then (leaf l) (leaf k) (leaf m) h i = atom_then l k m h i
operators_then (leaf l) (leaf k) (fork i c d) h n = absurd n
operators_then (leaf l) (fork i c d) x h n = absurd h
operators_then (fork j a b) (leaf k) x h n = absurd h
operators_then (fork j a b) (fork i c d) (leaf m) h n = absurd n
operators_then (fork j a b) (fork i c d) (fork k e f) (join, (left, right)) (join_on, (left_on, right_on)) =
    (join_then j i k join join_on, (operators_then a c e left left_on, operators_then b d f right right_on))

pub variables_same : {S : Type 0} (t u : NetTree S) → SameOperators t u → variables u ≡ variables t
variables_same (leaf l) (leaf k) h = ap (λ s. pattern_variables s.terms) h.select
variables_same (leaf l) (fork i c d) h = absurd h
variables_same (fork j a b) (leaf k) h = absurd h
variables_same (fork j a b) (fork i c d) (join, below) = ap joined_variables join.shape

pub placed_same : {S : Type 0} (t u : NetTree S) → SameOperators t u → ArePlaced t → ArePlaced u
placed_same (leaf l) (leaf k) h placed = subst (λ s. Reads (pattern_variables s.terms) s.comparisons) (sym h.select) placed
placed_same (leaf l) (fork i c d) h placed = absurd h
placed_same (fork j a b) (leaf k) h placed = absurd h
placed_same (fork j a b) (fork i c d) (join, (left, right)) (on_left, (on_right, here)) = (
  placed_same a c left on_left,
  (placed_same b d right on_right, subst (λ s. Reads (joined_variables s) i.comparisons) (sym join.shape) (subst (λ cs. Reads (joined_variables j.joining.shape) cs) (sym join.comparisons) here)),
)
