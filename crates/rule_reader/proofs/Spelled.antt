-- What a state of the machine has read, and what holds of it.
use Rattle.std.proofs.Common.{◌≡◌, ℕ, zero, suc, ◌+◌, true, List, [], ◌∷◌, ◌++◌, Option, Some, None}
use Rattle.std.specs.List.{AllByRecursion}
use Rattle.med_base.specs.declared.names.Name.TheVariants as name
use Rattle.rule_reader.specs.Grammar.{IsAction, IsAmount, IsCondition, IsEvent, IsRule, Limits, action_tokens, amount_tokens, condition_tokens, event_tokens, is_conjunction, is_counted, is_test, key_token, part_token, rule_tokens}
use Rattle.rule_reader.specs.Machine.{frame_depth}
use Rattle.rule_reader.specs.Naming.{IsNamed}
use Rattle.rule_reader.specs.declared.keyword.EventWord.TheVariants as begins
use Rattle.rule_reader.specs.declared.keyword.TestWord.TheVariants as tests
use Rattle.rule_reader.specs.declared.keyword.ActionWord.TheVariants as acts
use Rattle.rule_reader.specs.declared.keyword.Keyword.TheVariants as key
use Rattle.rule_reader.specs.declared.nesting.Frame.{Frame}
use Rattle.rule_reader.specs.declared.nesting.Nest.{Nest}
use Rattle.rule_reader.specs.declared.nesting.Tested.{Tested}
use Rattle.rule_reader.specs.declared.rule.Action.{Action}
use Rattle.rule_reader.specs.declared.rule.Condition.{Condition}
use Rattle.rule_reader.specs.declared.rule.Event.{Event}
use Rattle.rule_reader.specs.declared.rule.Rule.{Rule}
use Rattle.rule_reader.specs.declared.state.Callee.{Callee}
use Rattle.rule_reader.specs.declared.state.Callee.TheVariants as callee
use Rattle.rule_reader.specs.declared.state.Pending.{Pending}
use Rattle.rule_reader.specs.declared.state.Pending.TheVariants as pending
use Rattle.rule_reader.specs.declared.state.Phrase.{Phrase}
use Rattle.rule_reader.specs.declared.state.Phrase.TheVariants as phrase
use Rattle.rule_reader.specs.declared.state.State.{State}
use Rattle.rule_reader.specs.declared.state.State.TheVariants.{Start, EventDue, EventRead, Called, ArgumentDue, CommaDue, SecondDue, CloseDue, TestDue, OpDue, RightDue, TestRead, ActionDue, ActionRead}
use Rattle.rule_reader.specs.declared.token.Token.{Token}
use Rattle.rule_reader.specs.declared.token.Token.TheVariants as token

-- the tokens that were read

abbrev pub or_tokens : Option Condition → List Token
or_tokens None = []
or_tokens (Some c) = condition_tokens c ++ key_token key.Or ∷ []

abbrev pub and_tokens : Option Condition → List Token
and_tokens None = []
and_tokens (Some c) = condition_tokens c ++ key_token key.And ∷ []

abbrev pub not_tokens : ℕ → List Token
not_tokens zero = []
not_tokens (suc n) = key_token key.Not ∷ not_tokens n

abbrev pub frame_tokens : Frame → List Token
frame_tokens f = or_tokens f.ors ++ (and_tokens f.ands ++ not_tokens f.nots)

abbrev pub outer_tokens : List Frame → List Token
outer_tokens [] = []
outer_tokens (f ∷ fs) = frame_tokens f ++ (token.Open ∷ outer_tokens fs)

-- all up to and with `if`
abbrev pub event_front : Event → List Token
event_front e = key_token key.When ∷ (event_tokens e ++ key_token key.If ∷ [])

abbrev pub nest_tokens : Nest → List Token
nest_tokens n = event_front n.event ++ (outer_tokens n.outer ++ frame_tokens n.here)

abbrev pub tested_tokens : Tested → List Token
tested_tokens t = event_front t.event ++ (outer_tokens t.outer ++ (or_tokens t.ors ++ condition_tokens t.read))

-- an action and a comma, for each action
abbrev pub each_action : List Action → List Token
each_action [] = []
each_action (a ∷ actions) = action_tokens a ++ (token.Comma ∷ each_action actions)

-- all up to and with `then`
abbrev pub rule_front : Rule → List Token
rule_front r = key_token key.When ∷ (event_tokens r.event ++ (key_token key.If ∷ (condition_tokens r.condition ++ key_token key.Then ∷ [])))

abbrev pub due_tokens : Rule → List Token
due_tokens r = rule_front r ++ each_action r.actions

abbrev pub callee_tokens : Callee → List Token
callee_tokens (callee.Event e) = key_token key.When ∷ key_token (key.Begins e) ∷ []
callee_tokens (callee.Test n t) = nest_tokens n ++ key_token (key.Tests t) ∷ []
callee_tokens (callee.Right n left op) = nest_tokens n ++ (amount_tokens left ++ (token.Compares op ∷ key_token (key.Tests tests.Count) ∷ []))
callee_tokens (callee.Act r a) = due_tokens r ++ key_token (key.Acts a) ∷ []

abbrev pub pending_tokens : Pending → List Token
pending_tokens (pending.Timeout m) = key_token key.When ∷ key_token (key.Begins begins.Timeout) ∷ token.Open ∷ part_token (name.Member m) ∷ []
pending_tokens (pending.Threshold x) = key_token key.When ∷ key_token (key.Begins begins.Threshold) ∷ token.Open ∷ part_token x ∷ []
pending_tokens (pending.Method r j) = due_tokens r ++ (key_token (key.Acts acts.Method) ∷ token.Open ∷ part_token (name.Join j) ∷ [])
pending_tokens (pending.Quota r j) = due_tokens r ++ (key_token (key.Acts acts.Quota) ∷ token.Open ∷ part_token (name.Join j) ∷ [])

-- all but the last
abbrev pub unclosed : List Token → List Token
unclosed [] = []
unclosed (t ∷ []) = []
unclosed (t ∷ u ∷ ts) = t ∷ unclosed (u ∷ ts)

abbrev pub phrase_tokens : Phrase → List Token
phrase_tokens (phrase.Event e) = key_token key.When ∷ unclosed (event_tokens e)
phrase_tokens (phrase.Test n c) = nest_tokens n ++ unclosed (condition_tokens c)
phrase_tokens (phrase.Left n left) = nest_tokens n ++ unclosed (amount_tokens left)
phrase_tokens (phrase.Act r a) = due_tokens r ++ unclosed (action_tokens a)

abbrev pub spelled : State → List Token
spelled Start = []
spelled EventDue = key_token key.When ∷ []
spelled (EventRead e) = key_token key.When ∷ event_tokens e
spelled (Called c) = callee_tokens c
spelled (ArgumentDue c) = callee_tokens c ++ token.Open ∷ []
spelled (CommaDue p) = pending_tokens p
spelled (SecondDue p) = pending_tokens p ++ token.Comma ∷ []
spelled (CloseDue p) = phrase_tokens p
spelled (TestDue n) = nest_tokens n
spelled (OpDue n left) = nest_tokens n ++ amount_tokens left
spelled (RightDue n left op) = nest_tokens n ++ (amount_tokens left ++ token.Compares op ∷ [])
spelled (TestRead t) = tested_tokens t
spelled (ActionDue r) = due_tokens r
spelled (ActionRead r) = rule_tokens r

-- the last token closes the others
abbrev pub IsClosed : List Token → Type 0
IsClosed ts = ts ≡ unclosed ts ++ token.Close ∷ []

module _ (limits : Limits) where
  abbrev pub IsLeftOfOr : ℕ → Option Condition → Type 0
  IsLeftOfOr depth None = Unit {0}
  IsLeftOfOr depth (Some c) = IsCondition limits depth c

  abbrev pub IsLeftOfAnd : ℕ → Option Condition → Type 0
  IsLeftOfAnd depth None = Unit {0}
  IsLeftOfAnd depth (Some c) = (is_conjunction c ≡ true) × IsCondition limits depth c

  -- so many `not` may stand inside so many tests
  abbrev pub MayNest : ℕ → ℕ → Type 0
  MayNest depth zero = Unit {0}
  MayNest depth (suc n) = (limits.may_nest depth ≡ true) × MayNest (depth + 1) n

  pub record IsFrame (f : Frame) : Type 0 where
    pub ors : IsLeftOfOr f.around f.ors
    pub ands : IsLeftOfAnd f.around f.ands
    pub nots : MayNest f.around f.nots

  -- frames in one another, the outermost inside so many tests, each before a group
  abbrev pub AreFrames : ℕ → List Frame → Type 0
  AreFrames depth [] = Unit {0}
  AreFrames depth (f ∷ fs) = (f.around ≡ depth) × IsFrame f × (limits.may_nest (frame_depth f) ≡ true) × AreFrames (frame_depth f + 1) fs

  -- how many tests are around what is inside the frames
  abbrev pub depth_inside : ℕ → List Frame → ℕ
  depth_inside depth [] = depth
  depth_inside depth (f ∷ fs) = depth_inside (frame_depth f + 1) fs

  pub record IsNest (n : Nest) : Type 0 where
    pub event : IsEvent limits n.event
    pub outer : AreFrames 0 n.outer
    pub around : n.here.around ≡ depth_inside 0 n.outer
    pub here : IsFrame n.here

  pub record IsTested (t : Tested) : Type 0 where
    pub event : IsEvent limits t.event
    pub outer : AreFrames 0 t.outer
    pub around : t.around ≡ depth_inside 0 t.outer
    pub ors : IsLeftOfOr t.around t.ors
    pub shape : is_conjunction t.read ≡ true
    pub read : IsCondition limits t.around t.read

  pub record IsHead (r : Rule) : Type 0 where
    pub event : IsEvent limits r.event
    pub condition : IsCondition limits 0 r.condition
    pub each : AllByRecursion (IsAction limits) r.actions

  abbrev pub IsCallee : Callee → Type 0
  IsCallee (callee.Event e) = Unit {0}
  IsCallee (callee.Test n t) = IsNest n
  IsCallee (callee.Right n left op) = IsNest n × IsAmount limits left
  IsCallee (callee.Act r a) = IsHead r

  abbrev pub IsPending : Pending → Type 0
  IsPending (pending.Timeout m) = IsNamed (name.Member m)
  IsPending (pending.Threshold x) = IsNamed x × (is_counted x ≡ true)
  IsPending (pending.Method r j) = IsHead r × IsNamed (name.Join j)
  IsPending (pending.Quota r j) = IsHead r × IsNamed (name.Join j)

  abbrev pub IsPhrase : Phrase → Type 0
  IsPhrase (phrase.Event e) = IsEvent limits e × IsClosed (event_tokens e)
  IsPhrase (phrase.Test n c) = IsNest n × (is_test c ≡ true) × IsCondition limits (frame_depth n.here) c × IsClosed (condition_tokens c)
  IsPhrase (phrase.Left n left) = IsNest n × IsAmount limits left × IsClosed (amount_tokens left)
  IsPhrase (phrase.Act r a) = IsHead r × IsAction limits a × IsClosed (action_tokens a)

  abbrev pub IsSound : State → Type 0
  IsSound Start = Unit {0}
  IsSound EventDue = Unit {0}
  IsSound (EventRead e) = IsEvent limits e
  IsSound (Called c) = IsCallee c
  IsSound (ArgumentDue c) = IsCallee c
  IsSound (CommaDue p) = IsPending p
  IsSound (SecondDue p) = IsPending p
  IsSound (CloseDue p) = IsPhrase p
  IsSound (TestDue n) = IsNest n
  IsSound (OpDue n left) = IsNest n × IsAmount limits left
  IsSound (RightDue n left op) = IsNest n × IsAmount limits left
  IsSound (TestRead t) = IsTested t
  IsSound (ActionDue r) = IsHead r
  IsSound (ActionRead r) = IsRule limits r
