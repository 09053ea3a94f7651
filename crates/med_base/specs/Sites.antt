-- The texts of an opener in memory.
use Rattle.std.specs.Prelude.{Bool, List, option_map, find}
use Rattle.std.specs.Str.{bytes_eq}
use Rattle.med_prelude.specs.Texts.{Bytes, ToldBytes}
use Rattle.med_base.specs.declared.memory.opener.Site.{Site}

abbrev pub is_at : Bytes → Site → Bool
is_at location site = bytes_eq site.location location

-- the text of the first site at that location
abbrev pub text_at : List Site → Bytes → ToldBytes
text_at sites location = option_map (λ site. site.text.items) (find (is_at location) sites)
