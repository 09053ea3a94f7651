-- Lists of items.
use Rattle.std.specs.Prelude.{◌≡◌, List, length}
use Rattle.std.specs.List.{AllZip}

-- The list has a copy of each item, in order. Where a copy equals its item, the lists are equal.
pub record IsCopyOf {T : Type 0} (is_clone : T → T → Type 0) (list copy : List T) : Type 0 where
  pub each : AllZip is_clone list copy
  pub len : length copy ≡ length list
  pub same : ((x y : T) → is_clone x y → y ≡ x) → copy ≡ list
