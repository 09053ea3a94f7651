-- The grammar of rules as a machine that takes one token after the other.
use Rattle.std.specs.Prelude.{ℕ, zero, suc, ◌+◌, ◌&&◌, not, Bool, true, false, List, [], ◌∷◌, ◌++◌, Option, Some, None, option_map, Result, Err, if◌then◌else◌}
use Rattle.med_prelude.specs.Reading.{or_at}
use Rattle.med_prelude.specs.Texts.{Bytes}
use Rattle.med_base.specs.declared.names.Name.{Name}
use Rattle.med_base.specs.declared.names.Name.TheVariants as name
use Rattle.text_reading.specs.Runs.{name_in}
use Rattle.rule_reader.specs.Grammar.{Limits, is_counted, is_opened, rule_limits}
use Rattle.rule_reader.specs.Keywords.{keyword_in}
use Rattle.rule_reader.specs.Naming.{part_in}
use Rattle.rule_reader.specs.declared.keyword.ActionWord.{ActionWord}
use Rattle.rule_reader.specs.declared.keyword.ActionWord.TheVariants as acts
use Rattle.rule_reader.specs.declared.keyword.EventWord.{EventWord}
use Rattle.rule_reader.specs.declared.keyword.EventWord.TheVariants as begins
use Rattle.rule_reader.specs.declared.keyword.Keyword.{Keyword}
use Rattle.rule_reader.specs.declared.keyword.Keyword.TheVariants as key
use Rattle.rule_reader.specs.declared.keyword.TestWord.TheVariants as tests
use Rattle.rule_reader.specs.declared.nesting.Frame.{Frame}
use Rattle.rule_reader.specs.declared.nesting.Nest.{Nest}
use Rattle.rule_reader.specs.declared.nesting.Tested.{Tested}
use Rattle.rule_reader.specs.declared.rule.Action.{Action}
use Rattle.rule_reader.specs.declared.rule.Action.TheVariants as action
use Rattle.rule_reader.specs.declared.rule.Amount.{Amount}
use Rattle.rule_reader.specs.declared.rule.Amount.TheVariants as amount
use Rattle.rule_reader.specs.declared.rule.Condition.{Condition}
use Rattle.rule_reader.specs.declared.rule.Condition.TheVariants as condition
use Rattle.rule_reader.specs.declared.rule.Event.{Event}
use Rattle.rule_reader.specs.declared.rule.Event.TheVariants as event
use Rattle.rule_reader.specs.declared.rule.Method.{Method}
use Rattle.rule_reader.specs.declared.rule.NumberOp.{NumberOp}
use Rattle.rule_reader.specs.declared.rule.Rule.{Rule}
use Rattle.rule_reader.specs.declared.state.Callee.{Callee}
use Rattle.rule_reader.specs.declared.state.Callee.TheVariants as callee
use Rattle.rule_reader.specs.declared.state.Pending.{Pending}
use Rattle.rule_reader.specs.declared.state.Pending.TheVariants as pending
use Rattle.rule_reader.specs.declared.state.Phrase.{Phrase}
use Rattle.rule_reader.specs.declared.state.Phrase.TheVariants as phrase
use Rattle.rule_reader.specs.declared.state.State.{State}
use Rattle.rule_reader.specs.declared.state.State.TheVariants.{Start, EventDue, EventRead, Called, ArgumentDue, CommaDue, SecondDue, CloseDue, TestDue, OpDue, RightDue, TestRead, ActionDue, ActionRead}
use Rattle.rule_reader.specs.declared.token.Token.{Token}
use Rattle.rule_reader.specs.declared.token.Token.TheVariants as token

-- conditions

-- under so many `not`
abbrev pub negated : ℕ → Condition → Condition
negated zero c = c
negated (suc n) c = condition.Not (negated n c)

-- behind what stands left of an `and`, where there is something
abbrev pub anded : Option Condition → Condition → Condition
anded None c = c
anded (Some left) c = condition.And left c

abbrev pub ored : Option Condition → Condition → Condition
ored None c = c
ored (Some left) c = condition.Or left c

abbrev pub new_frame : ℕ → Frame
new_frame around = record { around = around; ors = None; ands = None; nots = 0 }

abbrev pub first_nest : Event → Nest
first_nest e = record { event = e; outer = []; here = new_frame 0 }

-- how many tests that begin with `not` or `(` are around what comes
abbrev pub frame_depth : Frame → ℕ
frame_depth f = f.around + f.nots

abbrev pub under_not : Nest → Nest
under_not n = record n { here = record (n.here) { nots = n.here.nots + 1 } }

abbrev pub in_group : Nest → Nest
in_group n = record { event = n.event; outer = n.outer ++ n.here ∷ []; here = new_frame (frame_depth n.here + 1) }

-- a test was read
abbrev pub with_test : Nest → Condition → Tested
with_test n c = record { event = n.event; outer = n.outer; around = n.here.around; ors = n.here.ors; read = anded n.here.ands (negated n.here.nots c) }

abbrev pub after_and : Tested → Nest
after_and t = record { event = t.event; outer = t.outer; here = record { around = t.around; ors = t.ors; ands = Some t.read; nots = 0 } }

abbrev pub after_or : Tested → Nest
after_or t = record { event = t.event; outer = t.outer; here = record { around = t.around; ors = Some (ored t.ors t.read); ands = None; nots = 0 } }

-- the last frame, and those before it
abbrev pub last_frame : List Frame → Option (List Frame × Frame)
last_frame [] = None
last_frame (f ∷ fs) = elim (last_frame fs) [ None ↦ Some ([], f) | Some p ↦ Some (f ∷ p.0, p.1) ]

-- a group is closed, where one is open
abbrev pub closed_group : Tested → Option Tested
closed_group t = elim (last_frame t.outer) [
  | None ↦ None
  | Some p ↦ Some (with_test (record { event = t.event; outer = p.0; here = p.1 }) (condition.Group (ored t.ors t.read)))
]

-- the condition is whole, where no group is open
abbrev pub rule_head : Tested → Option Rule
rule_head t = elim t.outer [ [] ↦ Some (record { event = t.event; condition = ored t.ors t.read; actions = [] }) | f ∷ fs ↦ None ]

-- the argument of a call

abbrev pub event_argument : EventWord → Option Name → Option State
event_argument begins.Opened (Some x) = if is_opened x then Some (CloseDue (phrase.Event (event.Opened x))) else None
event_argument begins.Closed (Some x) = Some (CloseDue (phrase.Event (event.Closed x)))
event_argument begins.Error (Some (name.Member m)) = Some (CloseDue (phrase.Event (event.Error m)))
event_argument begins.Timeout (Some (name.Member m)) = Some (CommaDue (pending.Timeout m))
event_argument begins.Threshold (Some x) = if is_counted x then Some (CommaDue (pending.Threshold x)) else None
event_argument begins.OutOfMemory (Some (name.Join j)) = Some (CloseDue (phrase.Event (event.OutOfMemory j)))
event_argument _ _ = None

abbrev pub active_argument : Nest → Option Name → Option State
active_argument n (Some (name.Member m)) = Some (CloseDue (phrase.Test n (condition.Active m)))
active_argument n _ = None

abbrev pub fired_argument : Nest → Option Bytes → Option State
fired_argument n None = None
fired_argument n (Some rule) = Some (CloseDue (phrase.Test n (condition.Fired rule)))

abbrev pub left_argument : Nest → Option Name → Option State
left_argument n None = None
left_argument n (Some x) = if is_counted x then Some (CloseDue (phrase.Left n (amount.Count x))) else None

abbrev pub right_argument : Nest → Amount → NumberOp → Option Name → Option State
right_argument n left op None = None
right_argument n left op (Some x) = if is_counted x then Some (CloseDue (phrase.Test n (condition.Compares left op (amount.Count x)))) else None

abbrev pub action_argument : Rule → ActionWord → Option Name → Option State
action_argument r acts.Activate (Some (name.Member m)) = Some (CloseDue (phrase.Act r (action.Activate m)))
action_argument r acts.Deactivate (Some (name.Member m)) = Some (CloseDue (phrase.Act r (action.Deactivate m)))
action_argument r acts.Method (Some (name.Join j)) = Some (CommaDue (pending.Method r j))
action_argument r acts.Quota (Some (name.Join j)) = Some (CommaDue (pending.Quota r j))
action_argument r _ _ = None

abbrev pub with_argument : Callee → Bytes → Option State
with_argument (callee.Event e) w = event_argument e (part_in w)
with_argument (callee.Test n tests.Active) w = active_argument n (part_in w)
with_argument (callee.Test n tests.Fired) w = fired_argument n (name_in w)
with_argument (callee.Test n tests.Count) w = left_argument n (part_in w)
with_argument (callee.Right n left op) w = right_argument n left op (part_in w)
with_argument (callee.Act r a) w = action_argument r a (part_in w)

-- the number, or the method, that is the second argument of a call
abbrev pub with_number : Pending → ℕ → Option Phrase
with_number (pending.Timeout m) n = Some (phrase.Event (event.Timeout m n))
with_number (pending.Threshold x) n = Some (phrase.Event (event.Threshold x n))
with_number (pending.Quota r j) n = Some (phrase.Act r (action.Quota j n))
with_number (pending.Method r j) n = None

abbrev pub with_method : Pending → Method → Option Phrase
with_method (pending.Method r j) m = Some (phrase.Act r (action.Method j m))
with_method _ m = None

abbrev pub with_action : Rule → Action → Rule
with_action r a = record { event = r.event; condition = r.condition; actions = r.actions ++ a ∷ [] }

-- a call is closed
abbrev pub closed : Phrase → State
closed (phrase.Event e) = EventRead e
closed (phrase.Test n c) = TestRead (with_test n c)
closed (phrase.Left n left) = OpDue n left
closed (phrase.Act r a) = ActionRead (with_action r a)

-- what a token leads to, where the grammar allows it, with no limits

abbrev pub after_key : State → Option Keyword → Option State
after_key Start (Some key.When) = Some EventDue
after_key EventDue (Some (key.Begins e)) = Some (Called (callee.Event e))
after_key (EventRead e) (Some key.If) = Some (TestDue (first_nest e))
after_key (SecondDue p) (Some (key.Sets m)) = option_map CloseDue (with_method p m)
after_key (TestDue n) (Some key.Not) = Some (TestDue (under_not n))
after_key (TestDue n) (Some key.True) = Some (TestRead (with_test n condition.True))
after_key (TestDue n) (Some (key.Tests t)) = Some (Called (callee.Test n t))
after_key (RightDue n left op) (Some (key.Tests tests.Count)) = Some (Called (callee.Right n left op))
after_key (TestRead t) (Some key.And) = Some (TestDue (after_and t))
after_key (TestRead t) (Some key.Or) = Some (TestDue (after_or t))
after_key (TestRead t) (Some key.Then) = option_map ActionDue (rule_head t)
after_key (ActionDue r) (Some key.Replan) = Some (ActionRead (with_action r action.Replan))
after_key (ActionDue r) (Some key.Stop) = Some (ActionRead (with_action r action.Stop))
after_key (ActionDue r) (Some (key.Acts a)) = Some (Called (callee.Act r a))
after_key _ _ = None

abbrev pub next : State → Token → Option State
next (ArgumentDue c) (token.Word w) = with_argument c w
next s (token.Word w) = after_key s (keyword_in w)
next (SecondDue p) (token.Number n) = option_map CloseDue (with_number p n)
next (TestDue n) (token.Number number) = Some (OpDue n (amount.Number number))
next (RightDue n left op) (token.Number number) = Some (TestRead (with_test n (condition.Compares left op (amount.Number number))))
next (OpDue n left) (token.Compares op) = Some (RightDue n left op)
next (Called c) token.Open = Some (ArgumentDue c)
next (TestDue n) token.Open = Some (TestDue (in_group n))
next (CloseDue p) token.Close = Some (closed p)
next (TestRead t) token.Close = option_map TestRead (closed_group t)
next (CommaDue p) token.Comma = Some (SecondDue p)
next (ActionRead r) token.Comma = Some (ActionDue r)
next _ _ = None

-- the rule, once an action was read
abbrev pub finished_rule : State → Option Rule
finished_rule (ActionRead r) = Some r
finished_rule _ = None

-- limits

abbrev pub is_not : Option Keyword → Bool
is_not (Some key.Not) = true
is_not _ = false

abbrev pub takes_number : Pending → Bool
takes_number (pending.Method r j) = false
takes_number _ = true

-- a `not` that is inside too many tests
abbrev pub is_deep_not : Limits → Nest → Option Keyword → Bool
is_deep_not limits n k = not (limits.may_nest (frame_depth n.here)) && is_not k

-- the token may come, but for a limit
abbrev pub is_past : Limits → State → Token → Bool
is_past limits (SecondDue p) (token.Number n) = not (limits.may_stand n) && takes_number p
is_past limits (TestDue m) (token.Number n) = not (limits.may_stand n)
is_past limits (RightDue m left op) (token.Number n) = not (limits.may_stand n)
is_past limits (TestDue n) token.Open = not (limits.may_nest (frame_depth n.here))
is_past limits (TestDue n) (token.Word w) = is_deep_not limits n (keyword_in w)
is_past limits _ _ = false

-- what a token within the limits leads to
abbrev pub step : Limits → State → Token → Option State
step limits s t = if is_past limits s t then None else next s t

-- why a token is refused
abbrev pub not_the_grammar : ℕ
not_the_grammar = 1

abbrev pub over_a_limit : ℕ
over_a_limit = 2

-- what a token leads to, or why it is refused
abbrev pub told_step : State → Token → Result State ℕ
told_step s t = if is_past rule_limits s t then Err over_a_limit else or_at not_the_grammar (next s t)
