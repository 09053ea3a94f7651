use Rattle.std.proofs.Common.{rules, ◌≡◌, codes, refl}
use Rattle.std.proofs.lemmas.Result.{IfOk-weaker}
use Rattle.clap.specs.Words.{rule_of}
use Rattle.command_line.specs.Forms.{optional_word, required_word}
use Rattle.command_line.proofs.FormLaws.{with_one_more}
use Rattle.command_line.proofs.forms.with_texts.Goals as goal

pub returns : goal.returns
returns c =
    let catalogue : rule_of c.required_word.result ≡ required_word (codes "catalogue") = search rules in
    let query : rule_of c.required_word-2.result ≡ required_word (codes "query") = search rules in
    let plan : rule_of c.optional_word.result ≡ optional_word (codes "plan") = search rules in
    let first = with_one_more _ _ _ _ _ refl c.required_word.ensures.own catalogue c.in_ok-arg.ensures in
    let second = with_one_more _ _ _ _ _ first c.required_word-2.ensures.own query c.in_ok-arg-2.ensures in
    IfOk-weaker c.arg-3.result _ _ (λ form added. with_one_more _ _ _ _ _ second c.optional_word.ensures.own plan added) c.arg-3.ensures
