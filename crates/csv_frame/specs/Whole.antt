-- The frames of a text that is there as a whole.
use Rattle.std.specs.Prelude.{◌≡◌, ◌<◌, Bool, [], ◌∷◌, length, Some, None}
use Rattle.med_prelude.specs.Texts.{Bytes}
use Rattle.csv_frame.specs.Frames.{frames}
use Rattle.csv_frame.specs.declared.whole.FirstFrame.{FirstFrame}
use Rattle.csv_frame.specs.declared.whole.FirstFrame.TheVariants as first

abbrev pub StartsWith : Bytes → Bool → FirstFrame → Type 0
StartsWith text ended (first.Frame frame rest) = (frames text ended ≡ Some frame.now ∷ frames rest.now ended) × (length rest.now < length text)
StartsWith text ended first.TooLong = frames text ended ≡ None ∷ []
StartsWith text ended first.Nothing = frames text ended ≡ []
