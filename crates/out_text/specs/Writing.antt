-- What was written of a text.
use Rattle.std.specs.Prelude.{◌≡◌, ℕ, take, drop}
use Rattle.med_prelude.specs.Texts.{Bytes, ToldBytes, told_with}

-- so many bytes of the text were written, and the rest is left
pub record IsWrittenUpTo (old new : ToldBytes) (text rest : Bytes) : Type 0 where
  pub count : ℕ
  pub written : new ≡ told_with old (take count text)
  pub left : rest ≡ drop count text
