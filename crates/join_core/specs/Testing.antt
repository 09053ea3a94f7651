-- What the tests ask of a join between two rows.
use Rattle.std.specs.Prelude.{◌≡◌, false, length, None}
use Rattle.join_core.specs.State.{Joining}

-- a join of rows of two values on each side, to which rows may come
pub record IsReady (s : Joining) : Type 0 where
  pub left : length s.shape.left ≡ 2
  pub right : length s.shape.right ≡ 2
  pub left_goes_on : s.left_ended ≡ false
  pub right_goes_on : s.right_ended ≡ false
  pub idle : s.probe ≡ None
