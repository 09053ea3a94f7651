-- The grammar of rules: how a rule is spelled, what a whole rule is under limits, and where tokens break the grammar.
use Rattle.std.specs.Prelude.{◌≡◌, ℕ, ◌+◌, nat_le, nat_lt, Bool, true, false, List, [], ◌∷◌, ◌++◌, length, Some}
use Rattle.std.specs.List.{AllByRecursion}
use Rattle.med_prelude.specs.Texts.{Bytes}
use Rattle.med_base.specs.declared.names.Name.{Name}
use Rattle.med_base.specs.declared.names.Name.TheVariants as name
use Rattle.text_reading.specs.Grammars as grammar
use Rattle.text_reading.specs.Lexing.{Lexeme, lexeme, tokens}
use Rattle.text_reading.specs.Runs.{name_in}
use Rattle.rule_reader.specs.Keywords.{keyword_text}
use Rattle.rule_reader.specs.Naming.{IsNamed, part_text}
use Rattle.rule_reader.specs.Tokens.{most_number, token_at}
use Rattle.rule_reader.specs.declared.keyword.EventWord.TheVariants as begins
use Rattle.rule_reader.specs.declared.keyword.TestWord.TheVariants as tests
use Rattle.rule_reader.specs.declared.keyword.ActionWord.TheVariants as acts
use Rattle.rule_reader.specs.declared.keyword.Keyword.{Keyword}
use Rattle.rule_reader.specs.declared.keyword.Keyword.TheVariants as key
use Rattle.rule_reader.specs.declared.rule.Action.{Action}
use Rattle.rule_reader.specs.declared.rule.Action.TheVariants as action
use Rattle.rule_reader.specs.declared.rule.Amount.{Amount}
use Rattle.rule_reader.specs.declared.rule.Amount.TheVariants as amount
use Rattle.rule_reader.specs.declared.rule.Condition.{Condition, Not', Group', And', Or', True, Active, Fired, Compares, end_of-Condition, more_of-Condition}
use Rattle.rule_reader.specs.declared.rule.Event.{Event}
use Rattle.rule_reader.specs.declared.rule.Event.TheVariants as event
use Rattle.rule_reader.specs.declared.rule.Rule.{Rule}
use Rattle.rule_reader.specs.declared.token.Token.{Token}
use Rattle.rule_reader.specs.declared.token.Token.TheVariants as token

-- how a rule is spelled

abbrev pub key_token : Keyword → Token
key_token k = token.Word (keyword_text k)

abbrev pub part_token : Name → Token
part_token x = token.Word (part_text x)

-- a word, and arguments in parentheses
abbrev pub call_tokens : Keyword → List Token → List Token
call_tokens k arguments = key_token k ∷ token.Open ∷ (arguments ++ token.Close ∷ [])

abbrev pub one_part : Name → List Token
one_part x = part_token x ∷ []

abbrev pub part_and : Name → Token → List Token
part_and x t = part_token x ∷ token.Comma ∷ t ∷ []

abbrev pub event_tokens : Event → List Token
event_tokens (event.Opened x) = call_tokens (key.Begins begins.Opened) (one_part x)
event_tokens (event.Closed x) = call_tokens (key.Begins begins.Closed) (one_part x)
event_tokens (event.Error m) = call_tokens (key.Begins begins.Error) (one_part (name.Member m))
event_tokens (event.Timeout m n) = call_tokens (key.Begins begins.Timeout) (part_and (name.Member m) (token.Number n))
event_tokens (event.Threshold x n) = call_tokens (key.Begins begins.Threshold) (part_and x (token.Number n))
event_tokens (event.OutOfMemory j) = call_tokens (key.Begins begins.OutOfMemory) (one_part (name.Join j))

abbrev pub amount_tokens : Amount → List Token
amount_tokens (amount.Number n) = token.Number n ∷ []
amount_tokens (amount.Count x) = call_tokens (key.Tests tests.Count) (one_part x)

abbrev pub condition_tokens : Condition → List Token
condition_tokens True = key_token key.True ∷ []
condition_tokens (Active m) = call_tokens (key.Tests tests.Active) (one_part (name.Member m))
condition_tokens (Fired rule) = call_tokens (key.Tests tests.Fired) (token.Word rule ∷ [])
condition_tokens (Compares left op right) = amount_tokens left ++ (token.Compares op ∷ amount_tokens right)
condition_tokens (Not' s (more_of-Condition c end_of-Condition)) = key_token key.Not ∷ condition_tokens c
condition_tokens (Group' s (more_of-Condition c end_of-Condition)) = token.Open ∷ (condition_tokens c ++ token.Close ∷ [])
condition_tokens (And' s (more_of-Condition c end_of-Condition) t (more_of-Condition d end_of-Condition)) = condition_tokens c ++ (key_token key.And ∷ condition_tokens d)
condition_tokens (Or' s (more_of-Condition c end_of-Condition) t (more_of-Condition d end_of-Condition)) = condition_tokens c ++ (key_token key.Or ∷ condition_tokens d)

abbrev pub action_tokens : Action → List Token
action_tokens (action.Activate m) = call_tokens (key.Acts acts.Activate) (one_part (name.Member m))
action_tokens (action.Deactivate m) = call_tokens (key.Acts acts.Deactivate) (one_part (name.Member m))
action_tokens (action.Method j m) = call_tokens (key.Acts acts.Method) (part_and (name.Join j) (key_token (key.Sets m)))
action_tokens (action.Quota j n) = call_tokens (key.Acts acts.Quota) (part_and (name.Join j) (token.Number n))
action_tokens action.Replan = key_token key.Replan ∷ []
action_tokens action.Stop = key_token key.Stop ∷ []

-- a comma and an action, for each action
abbrev pub comma_actions : List Action → List Token
comma_actions [] = []
comma_actions (a ∷ actions) = token.Comma ∷ (action_tokens a ++ comma_actions actions)

-- actions with commas between them
abbrev pub actions_tokens : List Action → List Token
actions_tokens [] = []
actions_tokens (a ∷ actions) = action_tokens a ++ comma_actions actions

-- `when event if condition then action, ..`
abbrev pub rule_tokens : Rule → List Token
rule_tokens r = key_token key.When ∷ (event_tokens r.event ++ (key_token key.If ∷ (condition_tokens r.condition ++ (key_token key.Then ∷ actions_tokens r.actions))))

-- what a whole rule is

-- whether a test inside so many tests may begin with `not` or `(`, and which numbers may stand where one is due
pub record Limits : Type 0 where
  pub may_nest : ℕ → Bool
  pub may_stand : ℕ → Bool

abbrev pub no_limits : Limits
no_limits = record { may_nest = λ depth. true; may_stand = λ n. true }

-- how many tests that begin with `not` or `(` may be around one of that kind
abbrev pub deepest : ℕ
deepest = 16

abbrev pub rule_limits : Limits
rule_limits = record { may_nest = λ depth. nat_lt depth deepest; may_stand = λ n. nat_le n most_number }

abbrev pub is_opened : Name → Bool
is_opened (name.Member m) = true
is_opened (name.Fragment f) = true
is_opened _ = false

abbrev pub is_counted : Name → Bool
is_counted (name.Member m) = true
is_counted (name.Join j) = true
is_counted _ = false

-- a test is no `and` and no `or`
abbrev pub is_test : Condition → Bool
is_test (And' s c t d) = false
is_test (Or' s c t d) = false
is_test _ = true

-- a test, or tests with `and` between them
abbrev pub is_conjunction : Condition → Bool
is_conjunction (Or' s c t d) = false
is_conjunction _ = true

module _ (limits : Limits) where
  abbrev pub IsEvent : Event → Type 0
  IsEvent (event.Opened x) = IsNamed x × (is_opened x ≡ true)
  IsEvent (event.Closed x) = IsNamed x
  IsEvent (event.Error m) = IsNamed (name.Member m)
  IsEvent (event.Timeout m n) = IsNamed (name.Member m) × (limits.may_stand n ≡ true)
  IsEvent (event.Threshold x n) = IsNamed x × (is_counted x ≡ true) × (limits.may_stand n ≡ true)
  IsEvent (event.OutOfMemory j) = IsNamed (name.Join j)

  abbrev pub IsAmount : Amount → Type 0
  IsAmount (amount.Number n) = limits.may_stand n ≡ true
  IsAmount (amount.Count x) = IsNamed x × (is_counted x ≡ true)

  -- a condition inside so many tests that begin with `not` or `(`: what is under a `not`, and right of an `and`, is a
  -- test, and no `or` stands under an `and`
  abbrev pub IsCondition : ℕ → Condition → Type 0
  IsCondition depth True = Unit {0}
  IsCondition depth (Active m) = IsNamed (name.Member m)
  IsCondition depth (Fired rule) = name_in rule ≡ Some rule
  IsCondition depth (Compares left op right) = IsAmount left × IsAmount right
  IsCondition depth (Not' s (more_of-Condition c end_of-Condition)) = (limits.may_nest depth ≡ true) × (is_test c ≡ true) × IsCondition (depth + 1) c
  IsCondition depth (Group' s (more_of-Condition c end_of-Condition)) = (limits.may_nest depth ≡ true) × IsCondition (depth + 1) c
  IsCondition depth (And' s (more_of-Condition c end_of-Condition) t (more_of-Condition d end_of-Condition)) = (is_conjunction c ≡ true) × (is_test d ≡ true) × IsCondition depth c × IsCondition depth d
  IsCondition depth (Or' s (more_of-Condition c end_of-Condition) t (more_of-Condition d end_of-Condition)) = (is_conjunction d ≡ true) × IsCondition depth c × IsCondition depth d

  abbrev pub IsAction : Action → Type 0
  IsAction (action.Activate m) = IsNamed (name.Member m)
  IsAction (action.Deactivate m) = IsNamed (name.Member m)
  IsAction (action.Method j m) = IsNamed (name.Join j)
  IsAction (action.Quota j n) = IsNamed (name.Join j) × (limits.may_stand n ≡ true)
  IsAction action.Replan = Unit {0}
  IsAction action.Stop = Unit {0}

  -- there is an action
  abbrev pub IsFull : List Action → Type 0
  IsFull [] = ⊥
  IsFull (a ∷ actions) = Unit {0}

  pub record IsRule (r : Rule) : Type 0 where
    pub event : IsEvent r.event
    pub condition : IsCondition 0 r.condition
    pub some : IsFull r.actions
    pub each : AllByRecursion IsAction r.actions

-- some bytes are the token
pub record IsReal (t : Token) : Type 0 where
  pub bytes : Bytes
  pub spelt : token_at bytes ≡ Some (t, length bytes)

-- where tokens break the grammar

module _ (limits : Limits) where
  -- the tokens are those of the rule, which keeps the limits
  abbrev pub Spells : List Token → Rule → Type 0
  Spells = grammar.Spells rule_tokens (IsRule limits) IsReal

  -- real tokens continue them to those of a rule that keeps the limits
  abbrev pub IsViable : List Token → Type 0
  IsViable = grammar.IsViable rule_tokens (IsRule limits) IsReal

  -- the offset of the first token that can't continue any such rule, or the length of a text that ends too early
  abbrev pub BreaksAt : List (Lexeme Token) → ℕ → ℕ → Type 0
  BreaksAt = grammar.BreaksAt rule_tokens (IsRule limits) IsReal

-- the token at the offset is the first past a limit: with the tokens before it something keeps the limits, with it
-- too nothing does, though a rule of any depth and any numbers begins so
pub record PassesAt (ls : List (Lexeme Token)) (at : ℕ) : Type 0 where
  pub before : List (Lexeme Token)
  pub token : Token
  pub after : List (Lexeme Token)
  pub parted : ls ≡ before ++ lexeme token at ∷ after
  pub within : IsViable rule_limits (tokens before)
  pub past : IsViable rule_limits (tokens before ++ token ∷ []) → ⊥
  pub live : IsViable no_limits (tokens before ++ token ∷ [])
