use Rattle.std.proofs.Common.{rules, ◌≡◌, codes}
use Rattle.std.proofs.lemmas.Result.{IfOk-weaker}
use Rattle.clap.specs.Words.{app_of}
use Rattle.command_line.specs.Forms.{bare, load_form}
use Rattle.command_line.proofs.FormLaws.{with_one_more}
use Rattle.command_line.proofs.forms.load_form.Goals as goal

pub returns : goal.returns
unfolding load_form
returns c =
    let name : app_of c.bare.result ≡ bare (codes "load") = search rules in
    let first = with_one_more _ _ _ _ _ name c.number_word.ensures.own c.number_word.ensures.rule c.in_ok-form.ensures in
    let second = with_one_more _ _ _ _ _ first c.rows_option.ensures.own c.rows_option.ensures.rule c.in_ok-arg.ensures in
    IfOk-weaker c.arg-3.result _ _ (λ form added. with_one_more _ _ _ _ _ second c.threads_option.ensures.own c.threads_option.ensures.rule added) c.arg-3.ensures
