-- Which words spell which command.
use Rattle.std.specs.Prelude.{ℕ, ◌==◌, ◌&&◌, ◌^◌, Bool, true, false, nat_eq, nat_lt, List, [], ◌∷◌, codes, length, Option, Some, None, option_map, option_and_then, unwrap_or, if◌then◌else◌, Result, Ok, Err, ⊤, ◌≡◌}
use Rattle.std.specs.Cmp.Lexicographic.{pointwise}
use Rattle.std.specs.Str.{bytes_eq}
use Rattle.std.specs.Str.Parse.{digits_value, without_leading_plus}
use Rattle.clap.specs.ValueTests.{is_numeral}
use Rattle.clap.specs.Words.{App, Row, fault_of, first_of, found_of, matches_of, one_of, rows_of}
use Rattle.med_prelude.specs.Texts.{Bytes}
use Rattle.command_line.specs.Forms.{check_form, load_form, run_form}
use Rattle.command_line.specs.Limits.{default_rows, default_threads}
use Rattle.command_line.specs.declared.command.Command.{Command}
use Rattle.command_line.specs.declared.command.Command.TheVariants as command
use Rattle.command_line.specs.declared.command.NoCommand.{NoCommand}
use Rattle.med_prelude.specs.declared.reading.ReadFault.{ReadFault}
use Rattle.med_prelude.specs.declared.reading.ReadFault.TheVariants as fault
use Rattle.clap.specs.declared.parser.matches.ArgMatches.{ArgMatches}

-- the reader takes the words, of which the first is the command's name
unfoldable pub is_taken : App → List Bytes → Bool
is_taken form words = length (fault_of form words) == 0

-- what the reader finds in words that it takes, argument by argument
unfoldable pub found_in : App → List Bytes → List Row
found_in form words = matches_of form words

-- the number of 32 bits that a text spells, in digits behind a plus or none
abbrev pub number_of : Bytes → Option ℕ
number_of text =
    let digits = without_leading_plus text in
    if is_numeral digits && nat_lt (digits_value 10 digits) (2 ^ 32) then Some (digits_value 10 digits) else None

-- the text of an argument that must be given
unfoldable pub text_at : Bytes → List Row → Bytes
text_at id found = unwrap_or (first_of id found) []

-- the text of an argument, where it is given
unfoldable pub optional_text_at : Bytes → List Row → Option Bytes
optional_text_at id found = first_of id found

-- the number of an argument, or another one where it isn't given
unfoldable pub number_at : Bytes → ℕ → List Row → ℕ
number_at id default found = unwrap_or (option_and_then number_of (one_of id found)) default

-- whether a flag is given
unfoldable pub is_set_at : Bytes → List Row → Bool
is_set_at id found = unwrap_or (option_map (λ text. bytes_eq text (codes "true")) (one_of id found)) false

abbrev pub run_in : List Row → Command
run_in found = command.Run (text_at (codes "catalogue") found) (text_at (codes "query") found) (optional_text_at (codes "plan") found)
    (number_at (codes "threads") default_threads found) (is_set_at (codes "report") found) (is_set_at (codes "journal") found)

abbrev pub check_in : List Row → Command
check_in found = command.Check (text_at (codes "catalogue") found) (text_at (codes "query") found) (optional_text_at (codes "plan") found)

abbrev pub load_in : List Row → Command
load_in found = command.Load (number_at (codes "number") 0 found) (number_at (codes "rows") default_rows found) (number_at (codes "threads") default_threads found)

-- the command of that form, where its reader takes the words
abbrev pub read_by : App → (List Row → Command) → List Bytes → Option Command
read_by form made words = if is_taken form words then Some (made (found_in form words)) else None

-- the command that the words spell, by the first of them
abbrev pub command_named : Bytes → List Bytes → Option Command
command_named name words = if pointwise nat_eq name (codes "run") then read_by run_form run_in words
    else if pointwise nat_eq name (codes "check") then read_by check_form check_in words
    else if pointwise nat_eq name (codes "load") then read_by load_form load_in words
    else None

unfoldable pub command_of : List Bytes → Option Command
command_of [] = None
command_of (name ∷ rest) = command_named name (name ∷ rest)

-- What a reading answers: the command that is read, or that there is none, unless memory ran out.
abbrev pub GivesCommand : Option Command → Result Command (ReadFault NoCommand) → Type 0
GivesCommand read (Ok command) = read ≡ Some command
GivesCommand read (Err (fault.Broken none)) = read ≡ None
GivesCommand read (Err fault.NoMemory) = ⊤

-- what a form's reader answers: what it finds in words that it takes, or that it doesn't take them, unless memory ran out
abbrev pub Finds : App → List Bytes → Result ArgMatches (ReadFault NoCommand) → Type 0
Finds form words (Ok found) = (is_taken form words ≡ true) × (rows_of (found_of found) ≡ found_in form words)
Finds form words (Err (fault.Broken none)) = is_taken form words ≡ false
Finds form words (Err fault.NoMemory) = ⊤
