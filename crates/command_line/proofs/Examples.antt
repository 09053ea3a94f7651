-- What some words spell, computed by the definition.
use Rattle.std.proofs.Common.{◌≡◌, true, false, [], ◌∷◌, Some, None, refl, codes}
use Rattle.clap.proofs.OnLiterals.{clap_on_literals}
use Rattle.command_line.specs.Commands.{command_of, found_in, is_set_at, is_taken, number_at, optional_text_at, text_at}
use Rattle.command_line.specs.Forms.{load_form, run_form}
use Rattle.command_line.specs.declared.command.Command.TheVariants as command

plain_run : command_of (codes "run" ∷ codes "c" ∷ codes "q" ∷ []) ≡ Some (command.Run (codes "c") (codes "q") None 4 false false)
unfolding command_of is_taken found_in text_at optional_text_at number_at is_set_at run_form clap_on_literals
plain_run = refl

run_with_all : command_of (codes "run" ∷ codes "--report" ∷ codes "c" ∷ codes "--threads=64" ∷ codes "q" ∷ codes "p" ∷ codes "--journal" ∷ [])
    ≡ Some (command.Run (codes "c") (codes "q") (Some (codes "p")) 64 true true)
unfolding command_of is_taken found_in text_at optional_text_at number_at is_set_at run_form clap_on_literals
run_with_all = refl

load_of_rows : command_of (codes "load" ∷ codes "7" ∷ codes "--rows" ∷ codes "3" ∷ []) ≡ Some (command.Load 7 3 4)
unfolding command_of is_taken found_in text_at optional_text_at number_at is_set_at load_form clap_on_literals
load_of_rows = refl

no_query : command_of (codes "run" ∷ codes "c" ∷ []) ≡ None
unfolding command_of is_taken run_form clap_on_literals
no_query = refl

too_many_threads : command_of (codes "run" ∷ codes "c" ∷ codes "q" ∷ codes "--threads" ∷ codes "65" ∷ []) ≡ None
unfolding command_of is_taken run_form clap_on_literals
too_many_threads = refl

no_such_command : command_of (codes "walk" ∷ codes "c" ∷ codes "q" ∷ []) ≡ None
unfolding command_of
no_such_command = refl
