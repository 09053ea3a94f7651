use Rattle.std.proofs.Common.{rules, ◌≡◌, ◌∙◌, ap, codes}
use Rattle.std.proofs.lemmas.Result.{IfOk-weaker}
use Rattle.clap.specs.Words.{app_of}
use Rattle.command_line.specs.Forms.{bare, check_form, with_texts}
use Rattle.command_line.proofs.forms.check_form.Goals as goal

pub returns : goal.returns
unfolding check_form
returns c =
    let name : app_of c.bare.result ≡ bare (codes "check") = search rules in
    IfOk-weaker c.with_texts.result _ _ (λ form is. is ∙ ap with_texts name) c.with_texts.ensures
