-- What the words of a command line ask of a call.
use Rattle.std.specs.Prelude.{◌≡◌, ⊤, ℕ, true, false, List, [], ◌∷◌, Option, Some, None, IsSomeAnd, option_and_then, Result, Ok, Err}
use Rattle.command_line.specs.Commands.{command_of}
use Rattle.command_line.specs.declared.command.Command.{Command}
use Rattle.command_line.specs.declared.command.Command.TheVariants as command
use Rattle.med_base.specs.declared.status.Status.{Status}
use Rattle.med_base.specs.declared.status.Status.TheVariants as status
use Rattle.med_prelude.specs.Texts.{Bytes}
use Rattle.med_top.specs.declared.command.RunNames.{RunNames}

-- the names of the catalogue and the query of a command that is built: a run without plan, report and journal
abbrev pub names_in : Command → Option (Bytes × Bytes)
names_in (command.Run catalogue query None threads false false) = Some (catalogue, query)
names_in (command.Run catalogue query None threads false true) = None
names_in (command.Run catalogue query None threads true journal) = None
names_in (command.Run catalogue query (Some plan) threads report journal) = None
names_in (command.Check catalogue query plan) = None
names_in (command.Load number rows threads) = None

-- the names of the catalogue and the query that the words ask to be run
abbrev pub run_of : List Bytes → Option (Bytes × Bytes)
run_of words = option_and_then names_in (command_of words)

-- the words spell a command that isn't built yet
abbrev pub AsksUnbuilt : List Bytes → Type 0
AsksUnbuilt words = IsSomeAnd (command_of words) (λ command. names_in command ≡ None)

abbrev pub in_order : Option (Bytes × Bytes) → List Bytes
in_order None = []
in_order (Some names) = names.0 ∷ names.1 ∷ []

-- the names of the texts that the words ask for, in the order in which they are fetched
abbrev pub names_of : List Bytes → List Bytes
names_of words = in_order (run_of words)

-- what the words ask for where they ask for no run that is built
abbrev pub AsksNoRun : List Bytes → Status → Type 0
AsksNoRun words status.NoMemory = ⊤
AsksNoRun words status.Usage = command_of words ≡ None
AsksNoRun words (status.NotBuilt why) = (why ≡ 1) × AsksUnbuilt words
AsksNoRun words other = ⊥

-- what the words ask for, at each answer
abbrev pub AsksAs : List Bytes → Result RunNames Status → Type 0
AsksAs words (Ok names) = run_of words ≡ Some (names.catalogue, names.query)
AsksAs words (Err failed) = AsksNoRun words failed
