-- From the first word to the form by which the words are read.
use Rattle.std.proofs.Common.{◌≡◌, ◌∙◌, true, false, Bool, List, [], ◌∷◌, Option, Some, None, Result, ap, sym, subst, refl, codes, nat_eq, slice_get, option_map}
use Rattle.std.proofs.lemmas.Option.{same_Some}
use Rattle.std.specs.Borrow.{Bor}
use Rattle.std.specs.Cmp.Lexicographic.{pointwise}
use Rattle.med_prelude.specs.Texts.{Bytes}
use Rattle.med_prelude.specs.declared.reading.ReadFault.{ReadFault}
use Rattle.command_line.specs.Commands.{GivesCommand, check_in, command_named, command_of, load_in, read_by, run_in}
use Rattle.command_line.specs.Forms.{check_form, load_form, run_form}
use Rattle.command_line.specs.declared.command.Command.{Command}
use Rattle.command_line.specs.declared.command.NoCommand.{NoCommand}

-- without a first word there is no command
pub no_word : (words : List Bytes) (first : Option (Bor Bytes)) → option_map (λ word. word.now) first ≡ slice_get words 0 → ((word : Bor Bytes) → first ≡ Some word → ⊥)
    → command_of words ≡ None
unfolding command_of
no_word [] first is none = refl
no_word (word ∷ words) None is none = cc
no_word (word ∷ words) (Some name) is none = absurd (none name refl)

abbrev pub is_word : Bytes → Bytes → Bool
is_word name word = pointwise nat_eq name word

-- the first word names the command
spelled_by : (words : List Bytes) (name : Bytes) → Some name ≡ slice_get words 0 → command_of words ≡ command_named name words
unfolding command_of
spelled_by [] name is = cc
spelled_by (word ∷ words) name is = ap (λ (first : Bytes). command_named first (word ∷ words)) (sym (same_Some name word is))

module _ (words texts : List Bytes) (name : Bytes) (first : Some name ≡ slice_get words 0) (same : texts ≡ words) (read : Result Command (ReadFault NoCommand)) where
  gives : (by : Option Command) → command_named name texts ≡ by → GivesCommand by read → GivesCommand (command_of words) read
  gives by is given =
      let names : command_of words ≡ command_named name texts = spelled_by words name first ∙ ap (command_named name) (sym same) in
      subst (λ o. GivesCommand o read) (sym (names ∙ is)) given

  pub gives_run : is_word name (codes "run") ≡ true → GivesCommand (read_by run_form run_in texts) read → GivesCommand (command_of words) read
  gives_run is given = gives _ (rw is refl) given

  pub gives_check : is_word name (codes "run") ≡ false → is_word name (codes "check") ≡ true → GivesCommand (read_by check_form check_in texts) read
      → GivesCommand (command_of words) read
  gives_check other is given = gives _ (rw (other, is) refl) given

  pub gives_load : is_word name (codes "run") ≡ false → is_word name (codes "check") ≡ false → is_word name (codes "load") ≡ true
      → GivesCommand (read_by load_form load_in texts) read → GivesCommand (command_of words) read
  gives_load other another is given = gives _ (rw (other, another, is) refl) given

-- a first word that names no command
pub no_name : (words : List Bytes) (name : Bytes) → Some name ≡ slice_get words 0 → is_word name (codes "run") ≡ false → is_word name (codes "check") ≡ false
    → is_word name (codes "load") ≡ false → command_of words ≡ None
no_name words name first other another last = spelled_by words name first ∙ rw (other, another, last) refl
