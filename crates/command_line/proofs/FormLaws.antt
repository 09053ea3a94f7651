-- What the forms are: made argument by argument, and simple, so that the reader's clauses are exact.
use Rattle.std.proofs.Common.{◌≡◌, ◌∙◌, false, true, ap, ap₂, refl}
use Rattle.clap.specs.Words.{AddsArg, App, Rule, app_of, is_simple_and_free, rule_of, with_rule}
use Rattle.clap.specs.declared.builder.arg.Arg.{Arg}
use Rattle.clap.specs.declared.builder.command.Command.{Command}
use Rattle.clap.proofs.OnLiterals.{clap_on_literals}
use Rattle.command_line.specs.Forms.{check_form, load_form, run_form}

-- a form with one more argument
pub with_one_more : (old new : Command) (arg : Arg) (form : App) (rule : Rule) → app_of old ≡ form → arg.global ≡ false → rule_of arg ≡ rule
    → AddsArg old arg new → app_of new ≡ with_rule form rule
with_one_more old new arg form rule is own spelled added = added.shape own ∙ ap₂ with_rule is spelled

run_simple : is_simple_and_free run_form ≡ true
unfolding run_form clap_on_literals
run_simple = refl

check_simple : is_simple_and_free check_form ≡ true
unfolding check_form clap_on_literals
check_simple = refl

load_simple : is_simple_and_free load_form ≡ true
unfolding load_form clap_on_literals
load_simple = refl

pub run_is_simple : (form : Command) → app_of form ≡ run_form → is_simple_and_free (app_of form) ≡ true
run_is_simple form is = ap is_simple_and_free is ∙ run_simple

pub check_is_simple : (form : Command) → app_of form ≡ check_form → is_simple_and_free (app_of form) ≡ true
check_is_simple form is = ap is_simple_and_free is ∙ check_simple

pub load_is_simple : (form : Command) → app_of form ≡ load_form → is_simple_and_free (app_of form) ≡ true
load_is_simple form is = ap is_simple_and_free is ∙ load_simple
