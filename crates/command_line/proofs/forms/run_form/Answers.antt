use Rattle.std.proofs.Common.{rules, ◌≡◌, ◌∙◌, ap, codes}
use Rattle.std.proofs.lemmas.Result.{IfOk-weaker}
use Rattle.clap.specs.Words.{app_of, rule_of}
use Rattle.command_line.specs.Forms.{bare, flag, run_form, with_texts}
use Rattle.command_line.proofs.FormLaws.{with_one_more}
use Rattle.command_line.proofs.forms.run_form.Goals as goal

pub returns : goal.returns
unfolding run_form
returns c =
    let name : app_of c.bare.result ≡ bare (codes "run") = search rules in
    let report : rule_of c.flag.result ≡ flag (codes "report") = search rules in
    let journal : rule_of c.flag-2.result ≡ flag (codes "journal") = search rules in
    let texts = c.in_ok-form.ensures ∙ ap with_texts name in
    let first = with_one_more _ _ _ _ _ texts c.threads_option.ensures.own c.threads_option.ensures.rule c.in_ok-arg.ensures in
    let second = with_one_more _ _ _ _ _ first c.flag.ensures.own report c.in_ok-arg-2.ensures in
    IfOk-weaker c.arg-3.result _ _ (λ form added. with_one_more _ _ _ _ _ second c.flag-2.ensures.own journal added) c.arg-3.ensures
