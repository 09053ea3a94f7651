-- Nothing takes bytes that are no token.
use Rattle.std.proofs.Common.{◌≡◌, Err, refl}
use Rattle.rule_reader.specs.Machine.{not_the_grammar, told_step}
use Rattle.rule_reader.specs.declared.state.State.{State}
use Rattle.rule_reader.specs.declared.state.State.TheVariants.{Start, EventDue, EventRead, Called, ArgumentDue, CommaDue, SecondDue, CloseDue, TestDue, OpDue, RightDue, TestRead, ActionDue, ActionRead}
use Rattle.rule_reader.specs.declared.token.Token.TheVariants as token

pub told_junk : (s : State) → told_step s token.Junk ≡ Err not_the_grammar
told_junk Start = refl
told_junk EventDue = refl
told_junk (EventRead e) = refl
told_junk (Called c) = refl
told_junk (ArgumentDue c) = refl
told_junk (CommaDue p) = refl
told_junk (SecondDue p) = refl
told_junk (CloseDue p) = refl
told_junk (TestDue n) = refl
told_junk (OpDue n left) = refl
told_junk (RightDue n left op) = refl
told_junk (TestRead t) = refl
told_junk (ActionDue r) = refl
told_junk (ActionRead r) = refl
