use Rattle.std.proofs.Common.{◌≤◌, length, arith, sym, subst}
use Rattle.std.proofs.lemmas.Grind.{common_steps}
use Rattle.std.specs.Prelude.{IfSome}
use Rattle.med_base.specs.Outside.{most_left}
use Rattle.med_base.specs.Stored.{FitsSource, is_named}
use Rattle.med_base.proofs.Found.{holds_of_found}
use Rattle.med_base.proofs.memory.calm.opener.text_for.Goals as goal

pub returns-in-Some-clause-short : goal.returns-in-Some-clause-short
returns-in-Some-clause-short c =
    let found = holds_of_found FitsSource (is_named c.args.location.now) c.args.texts.now c.requires in
    let short : length c.in-Some.stored.now.bytes.items ≤ most_left = subst (λ o. IfSome o FitsSource) (sym c.in-Some.ensures) found in
    grind (arith, common_steps, short)
