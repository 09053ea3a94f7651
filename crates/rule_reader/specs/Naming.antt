-- The words that name the parts of a plan: `a1` an atom, `a1.2.1` a member, `j1` a join, `f1` a fragment.
use Rattle.std.specs.Prelude.{ℕ, ◌+◌, ◌*◌, ◌-◌, ◌≤◌, ◌==◌, ◌&&◌, nat_le, not, Bool, false, [], ◌∷◌, ◌++◌, length, take, drop, slice_index, Option, Some, None, option_map, if◌then◌else◌}
use Rattle.std.specs.Fmt.{decimal}
use Rattle.med_prelude.specs.Texts.{Bytes}
use Rattle.med_base.specs.declared.names.MemberName.{MemberName}
use Rattle.med_base.specs.declared.names.Name.{Name}
use Rattle.med_base.specs.declared.names.Name.TheVariants.{Member, Atom, Join, Fragment}
use Rattle.text_reading.specs.Runs.{digit_run}

-- the word for a part of a plan
abbrev pub part_text : Name → Bytes
part_text (Member m) = 97 ∷ (decimal m.atom ++ (46 ∷ (decimal m.group ++ (46 ∷ decimal m.mirror))))
part_text (Atom a) = 97 ∷ decimal a
part_text (Join j) = 106 ∷ decimal j
part_text (Fragment f) = 102 ∷ decimal f

-- the greatest number in a name
abbrev pub most_numbered : ℕ
most_numbered = 999999

-- the number may stand in a name
abbrev pub IsNumbered : ℕ → Type 0
IsNumbered n = (1 ≤ n) × (n ≤ most_numbered)

-- each of the name's numbers may
abbrev pub IsNamed : Name → Type 0
IsNamed (Member m) = IsNumbered m.atom × IsNumbered m.group × IsNumbered m.mirror
IsNamed (Atom a) = IsNumbered a
IsNamed (Join j) = IsNumbered j
IsNamed (Fragment f) = IsNumbered f

-- how a word is read

-- the number that digits write after those of a number
abbrev pub number_after : ℕ → Bytes → ℕ
number_after n [] = n
number_after n (digit ∷ digits) = number_after (n * 10 + (digit - 48)) digits

-- there is a digit, and the first isn't 0
abbrev pub begins_number : Bytes → Bool
begins_number [] = false
begins_number (digit ∷ digits) = not (digit == 48)

-- the number in a name that digits write: at least 1, without zeros in front
abbrev pub number_in : Bytes → Option ℕ
number_in digits = if begins_number digits && nat_le (number_after 0 digits) most_numbered then Some (number_after 0 digits) else None

-- the number that bytes begin with, and how many digits it has
abbrev pub number_front : Bytes → Option (ℕ × ℕ)
number_front bytes = elim (number_in (take (digit_run bytes) bytes)) [ None ↦ None | Some n ↦ Some (n, digit_run bytes) ]

-- the number that all bytes write
abbrev pub whole : Bytes → Option ℕ
whole bytes = elim (number_front bytes) [ None ↦ None | Some read ↦ if read.1 == length bytes then Some read.0 else None ]

-- the number that bytes begin with, and how many bytes it takes with the dot after it
abbrev pub dotted : Bytes → Option (ℕ × ℕ)
dotted bytes = elim (number_front bytes) [ None ↦ None | Some read ↦ if slice_index bytes read.1 == 46 then Some (read.0, read.1 + 1) else None ]

abbrev pub member_name : ℕ → ℕ → ℕ → MemberName
member_name atom group mirror = record { atom = atom; group = group; mirror = mirror }

-- three numbers with dots between them
abbrev pub member_in : Bytes → Option MemberName
member_in bytes = elim (dotted bytes) [
  | None ↦ None
  | Some atom ↦ elim (dotted (drop atom.1 bytes)) [
    | None ↦ None
    | Some group ↦ option_map (member_name atom.0 group.0) (whole (drop group.1 (drop atom.1 bytes)))
  ]
]

-- an atom or a member, behind its letter
abbrev pub atom_or_member : Bytes → Option Name
atom_or_member bytes = elim (whole bytes) [ Some atom ↦ Some (Atom atom) | None ↦ option_map Member (member_in bytes) ]

-- The part of a plan that a word names. The words that name one are exactly the texts of the names whose numbers may
-- stand in a name.
unfoldable pub part_in : Bytes → Option Name
part_in [] = None
part_in (b ∷ bytes) =
    if b == 97 then atom_or_member bytes
    else if b == 106 then option_map Join (whole bytes)
    else if b == 102 then option_map Fragment (whole bytes)
    else None
