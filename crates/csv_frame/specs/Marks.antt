-- A byte order mark.
use Rattle.std.specs.Prelude.{Bool, false, [], ◌∷◌}
use Rattle.med_prelude.specs.Texts.{Bytes}
use Rattle.csv_frame.specs.Frames.{is_mark}

-- the bytes begin with a mark
abbrev pub begins_with_mark : Bytes → Bool
begins_with_mark [] = false
begins_with_mark (a ∷ []) = false
begins_with_mark (a ∷ b ∷ []) = false
begins_with_mark (a ∷ b ∷ c ∷ bytes) = is_mark a b c
