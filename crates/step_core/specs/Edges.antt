-- Edges: what waits between an operator, the giver, and the one that takes its rows, the taker.
use Rattle.std.specs.Prelude.{◌≡◌, ℕ, ◌+◌, Bool, true, false, [], ◌∷◌, ◌++◌, length}
use Rattle.answer_theory.specs.Bags.{SameBag}
use Rattle.tuple_core.specs.Values.{RowList, RowValues}

-- The rows that wait, first in, first out; how many were put in all; and the mark that no more will come, the edge's last item: whether it was put, and taken.
pub record Waits : Type 0 where
  pub rows : RowList
  pub given : ℕ
  pub put : Bool
  pub taken : Bool
  -- how many rows can be put without taking memory
  pub room : ℕ

-- nothing was put
pub record IsUnused (w : Waits) : Type 0 where
  pub rows : w.rows ≡ []
  pub given : w.given ≡ 0
  pub put : w.put ≡ false
  pub taken : w.taken ≡ false

-- the same but for the room
pub record SameWaits (w v : Waits) : Type 0 where
  pub rows : v.rows ≡ w.rows
  pub given : v.given ≡ w.given
  pub put : v.put ≡ w.put
  pub taken : v.taken ≡ w.taken

-- rows were put at the end
pub record PutsRows (w v : Waits) (more : RowList) : Type 0 where
  pub rows : v.rows ≡ w.rows ++ more
  pub given : v.given ≡ w.given + length more
  pub put : v.put ≡ w.put
  pub taken : v.taken ≡ w.taken

-- the mark was put
pub record PutsEnd (w v : Waits) : Type 0 where
  pub goes_on : w.put ≡ false
  pub put : v ≡ record w { put = true }

-- the first row was taken
pub record TakesFirst (w v : Waits) (row : RowValues) : Type 0 where
  pub first : w.rows ≡ row ∷ v.rows
  pub given : v.given ≡ w.given
  pub put : v.put ≡ w.put
  pub taken : v.taken ≡ w.taken

-- the mark was taken, behind all rows
pub record TakesEnd (w v : Waits) : Type 0 where
  pub empty : w.rows ≡ []
  pub put : w.put ≡ true
  pub goes_on : w.taken ≡ false
  pub taken : v ≡ record w { taken = true }

-- nothing waits
pub record IsEmpty (w : Waits) : Type 0 where
  pub rows : w.rows ≡ []
  pub ended : w.put ≡ true → w.taken ≡ true

-- What an edge promises, whatever the order of steps: what the giver gave is what the taker has of it and what waits, as bags; the number of rows put is how many it gave; the mark is put behind a
-- finished giver alone, and taken behind the last row.
pub record IsEdge (w : Waits) (had gave : RowList) (Finished : Type 0) : Type 0 where
  pub rows : SameBag (had ++ w.rows) gave
  pub counted : w.given ≡ length gave
  pub closed : w.put ≡ true → Finished
  pub last : w.taken ≡ true → (w.put ≡ true) × (w.rows ≡ [])
