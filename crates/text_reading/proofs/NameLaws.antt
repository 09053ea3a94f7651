-- Names are text.
use Rattle.std.proofs.Common.{◌≡◌, ℕ, ◌<◌, ◌&&◌, Bool, true, false, List, [], ◌∷◌, arith, refl}
use Rattle.std.proofs.lemmas.Str.{IsUtf8-from_ascii, is_utf8-from_IsUtf8}
use Rattle.std.proofs.lemmas.Str.Ascii.{IsAscii-cons, IsAscii-nil}
use Rattle.std.proofs.lemmas.Bool.Decides.{nat_tests}
use Rattle.std.specs.List.{list_all}
use Rattle.std.specs.Str.{IsAscii, is_utf8}
use Rattle.med_prelude.specs.Names.{starts_name, continues_name, spells_name, is_name}

continues_ascii : (b : ℕ) → continues_name b ≡ true → b < 128
unfolding starts_name continues_name
continues_ascii b e = grind (arith, nat_tests)

starts_ascii : (b : ℕ) → starts_name b ≡ true → b < 128
unfolding starts_name
starts_ascii b e = grind (arith, nat_tests)

both : (a b : Bool) → (a && b) ≡ true → (a ≡ true) × (b ≡ true)
both true b e = (refl, e)
both false b e = absurd (cc)

all_ascii : (bytes : List ℕ) → list_all continues_name bytes ≡ true → IsAscii bytes
all_ascii [] e = IsAscii-nil
all_ascii (b ∷ bytes) e =
    let parts : (continues_name b ≡ true) × (list_all continues_name bytes ≡ true) = both (continues_name b) (list_all continues_name bytes) e in
    IsAscii-cons b bytes (continues_ascii b parts.0) (all_ascii bytes parts.1)

spells_ascii : (bytes : List ℕ) → spells_name bytes ≡ true → IsAscii bytes
spells_ascii [] e = IsAscii-nil
spells_ascii (b ∷ bytes) e =
    let parts : (starts_name b ≡ true) × (list_all continues_name bytes ≡ true) = both (starts_name b) (list_all continues_name bytes) e in
    IsAscii-cons b bytes (starts_ascii b parts.0) (all_ascii bytes parts.1)

pub name_text : (bytes : List ℕ) → is_name bytes ≡ true → is_utf8 bytes ≡ true
name_text bytes e = is_utf8-from_IsUtf8 bytes (IsUtf8-from_ascii bytes (spells_ascii bytes (both (spells_name bytes) _ e).0))
