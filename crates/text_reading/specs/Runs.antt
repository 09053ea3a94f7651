-- Runs of bytes that one token takes: blanks, names and integers.
use Rattle.std.specs.Prelude.{ℕ, ◌+◌, ◌==◌, ◌&&◌, ◌||◌, nat_le, Bool, false, [], ◌∷◌, length, Option, Some, None, if◌then◌else◌}
use Rattle.std.specs.Char.{is_ascii_digit}
use Rattle.std.specs.List.{prefix_len}
use Rattle.med_prelude.specs.Names.{continues_name, is_name}
use Rattle.med_prelude.specs.Texts.{Bytes}

-- a space, a tab, a carriage return or a line feed
abbrev pub is_blank : ℕ → Bool
is_blank b = (b == 32) || (b == 9) || (b == 13) || (b == 10)

abbrev pub begins_blank : Bytes → Bool
begins_blank [] = false
begins_blank (b ∷ bytes) = is_blank b

-- how many letters, digits and `_` bytes begin with
abbrev pub name_run : Bytes → ℕ
name_run bytes = prefix_len continues_name bytes

-- how many digits bytes begin with
abbrev pub digit_run : Bytes → ℕ
digit_run bytes = prefix_len is_ascii_digit bytes

-- how many bytes a minus, where there is one, and the digits right after it take
abbrev pub integer_run : Bytes → ℕ
integer_run [] = 0
integer_run (b ∷ bytes) = if b == 45 then digit_run bytes + 1 else digit_run (b ∷ bytes)

-- whether bytes begin with a digit or a minus
abbrev pub begins_integer : ℕ → Bool
begins_integer b = is_ascii_digit b || (b == 45)

-- the most bytes of a name
abbrev pub longest_name : ℕ
longest_name = 64

-- the run as a name that isn't too long
abbrev pub name_in : Bytes → Option Bytes
name_in run = if nat_le (length run) longest_name && is_name run then Some run else None
