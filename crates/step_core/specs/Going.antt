-- What operators do, in one turn or in many: what they gave, and how much less is left to do.
use Rattle.std.specs.Prelude.{◌≡◌, ◌≤◌, ⊤, ℕ, ◌+◌, true, [], ◌++◌, length}
use Rattle.answer_theory.specs.Bags.{SameBag}
use Rattle.med_base.specs.declared.outside.source.Source.{Ghosts as Source}
use Rattle.tuple_core.specs.Values.{RowList}
use Rattle.step_core.specs.Edges.{Waits}
use Rattle.step_core.specs.Nets.{NetTree, variables}
use Rattle.step_core.specs.Same.{SameOperators}
use Rattle.step_core.specs.Standing.{AreWide, IsDone, Stands}
use Rattle.step_core.specs.Work.{Falls, most_rows, tree_left}
use Rattle.step_core.specs.declared.actor.StepEnd.{StepEnd}
use Rattle.step_core.specs.declared.actor.StepEnd.TheVariants as step_end

-- the end of two parts, one after the other
abbrev pub then : StepEnd → StepEnd → StepEnd
then step_end.Moved step_end.Moved = step_end.Moved
then step_end.Moved step_end.Still = step_end.Moved
then step_end.Moved step_end.NoMemory = step_end.NoMemory
then step_end.Still end = end
then step_end.NoMemory end = step_end.NoMemory

-- The operator at the top gave these rows more, and put them on its edge out.
pub record Pushes {S M : Type 0} (source : Source S M) (t u : NetTree S) (w v : Waits) (gave : RowList) : Type 0 where
  pub more : RowList
  pub now : RowList
  pub stands : Stands source u now
  pub bag : SameBag now (gave ++ more)
  pub rows : v.rows ≡ w.rows ++ more
  pub given : v.given ≡ w.given + length more
  pub taken : v.taken ≡ w.taken
  pub put : w.put ≡ true → v.put ≡ true
  -- the end stands behind an operator that is done, if it did before
  pub closed : (w.put ≡ true → IsDone t) → v.put ≡ true → IsDone u
  -- behind the end nothing was given
  pub quiet : w.put ≡ true → IsDone t → more ≡ []
  pub wide : AreWide (variables t) more
  pub same : SameOperators t u

-- what isn't raised but by want of memory
abbrev pub Stays : StepEnd → ℕ → ℕ → Type 0
Stays step_end.Moved old new = new ≤ old
Stays step_end.Still old new = new ≤ old
Stays step_end.NoMemory old new = ⊤

-- the most that an operator can give isn't raised, and what is left falls
pub record Lowers (end : StepEnd) (most most_after left left_after : ℕ) : Type 0 where
  pub most_stays : Stays end most most_after
  pub left_falls : Falls end left left_after

-- Operators had their turns, with such an end: whatever was given before, they stand, have given some rows more and put them, and less is left to do.
abbrev pub Goes : {S M : Type 0} → Source S M → StepEnd → NetTree S → NetTree S → Waits → Waits → Type 0
Goes source end t u w v =
    (gave : RowList) → Stands source t gave → Pushes source t u w v gave × Lowers end (most_rows source t w) (most_rows source u v) (tree_left source t w) (tree_left source u v)
