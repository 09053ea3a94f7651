-- What the kit's reader of command lines takes for each command: its arguments, and no flags for help or version.
use Rattle.std.specs.Prelude.{ℕ, pos, true, codes, Some}
use Rattle.clap.specs.Words.{App, Rule, new_app, new_rule, with_rule}
use Rattle.clap.specs.Simple.{on_top}
use Rattle.clap.specs.declared.builder.action.ArgAction.TheVariants.{Set, SetTrue}
use Rattle.clap.specs.declared.builder.value_parser.ValueParser.TheVariants as parser
use Rattle.med_prelude.specs.Texts.{Bytes}
use Rattle.command_line.specs.Limits.{most_number, most_rows, most_threads}

-- an argument by its place: NAME, or [NAME]
abbrev pub optional_word : Bytes → Rule
optional_word id = record (new_rule id) { action = Some Set }

abbrev pub required_word : Bytes → Rule
required_word id = record (optional_word id) { required = true }

-- --id N, a number from the least to the most
abbrev pub number_option : Bytes → ℕ → ℕ → Rule
number_option id least most = record (optional_word id) { long = Some id; parser = Some (parser.Signed (pos least) (pos most)) }

-- --id
abbrev pub flag : Bytes → Rule
flag id = record (new_rule id) { long = Some id; action = Some SetTrue }

abbrev pub bare : Bytes → App
bare name = on_top (λ shape. record shape { disable_help_flag = true; disable_version_flag = true }) (new_app name)

-- CATALOGUE QUERY [PLAN]
abbrev pub with_texts : App → App
with_texts form = with_rule (with_rule (with_rule form (required_word (codes "catalogue"))) (required_word (codes "query"))) (optional_word (codes "plan"))

abbrev pub number_word : Rule
number_word = record (required_word (codes "number")) { parser = Some (parser.Signed (pos 0) (pos most_number)) }

abbrev pub rows_option : Rule
rows_option = number_option (codes "rows") 0 most_rows

abbrev pub threads_option : Rule
threads_option = number_option (codes "threads") 1 most_threads

-- run CATALOGUE QUERY [PLAN] [--threads N] [--report] [--journal]
unfoldable pub run_form : App
run_form = with_rule (with_rule (with_rule (with_texts (bare (codes "run"))) threads_option) (flag (codes "report"))) (flag (codes "journal"))

-- check CATALOGUE QUERY [PLAN]
unfoldable pub check_form : App
check_form = with_texts (bare (codes "check"))

-- load NUMBER [--rows N] [--threads N]
unfoldable pub load_form : App
load_form = with_rule (with_rule (with_rule (bare (codes "load")) number_word) rows_option) threads_option
