-- That a net has the same operators, whatever has come to them.
use Rattle.std.specs.Prelude.{◌≡◌}
use Rattle.step_core.specs.Nets.{JoinState, LeafState, NetTree, leaf, fork}

-- the same atom: its number, the columns of its relation, and what it selects
pub record SameAtom {S : Type 0} (l k : LeafState S) : Type 0 where
  pub atom : k.atom ≡ l.atom
  pub columns : k.collecting.columns ≡ l.collecting.columns
  pub select : k.collecting.select ≡ l.collecting.select

-- the same join: its number, the variables of its sides, and the comparisons that are placed at it
pub record SameJoin (j k : JoinState) : Type 0 where
  pub number : k.number ≡ j.number
  pub shape : k.joining.shape ≡ j.joining.shape
  pub comparisons : k.comparisons ≡ j.comparisons

-- the same operators, each in its place
abbrev pub SameOperators : {S : Type 0} → NetTree S → NetTree S → Type 0
SameOperators (leaf l) (leaf k) = SameAtom l k
SameOperators (leaf l) (fork i c d) = ⊥
SameOperators (fork j a b) (leaf k) = ⊥
SameOperators (fork j a b) (fork i c d) = SameJoin j i × (SameOperators a c × SameOperators b d)
