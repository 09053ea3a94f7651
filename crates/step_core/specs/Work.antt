-- How much is left to do in a net: a number that each step lowers that moves, and that none raises but one that is short of memory.
use Rattle.std.specs.Prelude.{ℕ, ◌+◌, ◌-◌, ◌*◌, ◌<◌, ◌≤◌, ⊤, Bool, true, false, length}
use Rattle.med_base.specs.declared.outside.source.Source.{Ghosts as Source}
use Rattle.row_match.specs.declared.shape.Side.TheVariants as side
use Rattle.join_core.specs.Given.{given_rows}
use Rattle.join_core.specs.State.{stored_rows}
use Rattle.collect_core.specs.Collecting.{work_left}
use Rattle.step_core.specs.Edges.{Waits}
use Rattle.step_core.specs.Nets.{JoinState, NetState, NetTree, leaf, fork}
use Rattle.step_core.specs.declared.actor.StepEnd.{StepEnd}
use Rattle.step_core.specs.declared.actor.StepEnd.TheVariants as step_end

-- the most rows that the operator at the top can give in all: those that it put on its edge, and those that may come
abbrev pub most_rows : {S M : Type 0} → Source S M → NetTree S → Waits → ℕ
most_rows source (leaf l) w = w.given + work_left source l.collecting
most_rows source (fork j a b) w = most_rows source a j.left * most_rows source b j.right

abbrev pub unless : Bool → ℕ
unless true = 0
unless false = 1

-- the end of an edge that is to be put, and to be taken
abbrev pub ends_due : Waits → ℕ
ends_due w = unless w.put + unless w.taken

-- what a join has to do, of at most so many rows on each side: to take them in, and to give their matches
abbrev pub join_left : JoinState → ℕ → ℕ → ℕ
join_left j ls rs = (ls - length (stored_rows side.Left j.joining)) + (rs - length (stored_rows side.Right j.joining)) + (ls * rs - length (given_rows j.joining))

abbrev pub tree_left : {S M : Type 0} → Source S M → NetTree S → Waits → ℕ
tree_left source (leaf l) w = work_left source l.collecting + ends_due w
tree_left source (fork j a b) w =
    (tree_left source a j.left + tree_left source b j.right) + join_left j (most_rows source a j.left) (most_rows source b j.right) + ends_due w

abbrev pub net_left : {S M : Type 0} → Source S M → NetState S → ℕ
net_left source n = tree_left source n.tree n.edge + (most_rows source n.tree n.edge - length n.rows)

-- a step that moves lowers it, and one that isn't short of memory never raises it
abbrev pub Falls : StepEnd → ℕ → ℕ → Type 0
Falls step_end.Moved old new = new < old
Falls step_end.Still old new = new ≤ old
Falls step_end.NoMemory old new = ⊤
