-- The words of the language.
use Rattle.std.specs.Prelude.{nat_eq, codes, Bool, Option, Some, None, if◌then◌else◌}
use Rattle.std.specs.Cmp.Lexicographic.{pointwise}
use Rattle.med_prelude.specs.Texts.{Bytes}
use Rattle.rule_reader.specs.declared.keyword.EventWord.{EventWord}
use Rattle.rule_reader.specs.declared.keyword.EventWord.TheVariants as event
use Rattle.rule_reader.specs.declared.keyword.TestWord.{TestWord}
use Rattle.rule_reader.specs.declared.keyword.TestWord.TheVariants as test
use Rattle.rule_reader.specs.declared.keyword.ActionWord.{ActionWord}
use Rattle.rule_reader.specs.declared.keyword.ActionWord.TheVariants as action
use Rattle.rule_reader.specs.declared.keyword.Keyword.{Keyword}
use Rattle.rule_reader.specs.declared.keyword.Keyword.TheVariants as key
use Rattle.rule_reader.specs.declared.rule.Method.{Method}
use Rattle.rule_reader.specs.declared.rule.Method.TheVariants as method

abbrev pub event_text : EventWord → Bytes
event_text event.Opened = codes "opened"
event_text event.Closed = codes "closed"
event_text event.Error = codes "error"
event_text event.Timeout = codes "timeout"
event_text event.Threshold = codes "threshold"
event_text event.OutOfMemory = codes "out_of_memory"

abbrev pub test_text : TestWord → Bytes
test_text test.Active = codes "active"
test_text test.Fired = codes "fired"
test_text test.Count = codes "count"

abbrev pub action_text : ActionWord → Bytes
action_text action.Activate = codes "activate"
action_text action.Deactivate = codes "deactivate"
action_text action.Method = codes "method"
action_text action.Quota = codes "quota"

abbrev pub method_text : Method → Bytes
method_text method.Left = codes "left"
method_text method.Symmetric = codes "symmetric"

-- how a word of the language is written
abbrev pub keyword_text : Keyword → Bytes
keyword_text key.When = codes "when"
keyword_text key.If = codes "if"
keyword_text key.Then = codes "then"
keyword_text key.Or = codes "or"
keyword_text key.And = codes "and"
keyword_text key.Not = codes "not"
keyword_text key.True = codes "true"
keyword_text key.Replan = codes "replan"
keyword_text key.Stop = codes "stop"
keyword_text (key.Begins e) = event_text e
keyword_text (key.Tests t) = test_text t
keyword_text (key.Acts a) = action_text a
keyword_text (key.Sets m) = method_text m

-- the word is written so
abbrev pub is_written : Bytes → Bytes → Bool
is_written word text = pointwise nat_eq word text

unfoldable pub plain_word : Bytes → Option Keyword
plain_word w =
    if is_written w (codes "when") then Some key.When
    else if is_written w (codes "if") then Some key.If
    else if is_written w (codes "then") then Some key.Then
    else if is_written w (codes "or") then Some key.Or
    else if is_written w (codes "and") then Some key.And
    else if is_written w (codes "not") then Some key.Not
    else if is_written w (codes "true") then Some key.True
    else if is_written w (codes "replan") then Some key.Replan
    else if is_written w (codes "stop") then Some key.Stop
    else None

unfoldable pub event_word : Bytes → Option EventWord
event_word w =
    if is_written w (codes "opened") then Some event.Opened
    else if is_written w (codes "closed") then Some event.Closed
    else if is_written w (codes "error") then Some event.Error
    else if is_written w (codes "timeout") then Some event.Timeout
    else if is_written w (codes "threshold") then Some event.Threshold
    else if is_written w (codes "out_of_memory") then Some event.OutOfMemory
    else None

unfoldable pub test_word : Bytes → Option TestWord
test_word w =
    if is_written w (codes "active") then Some test.Active
    else if is_written w (codes "fired") then Some test.Fired
    else if is_written w (codes "count") then Some test.Count
    else None

unfoldable pub action_word : Bytes → Option ActionWord
action_word w =
    if is_written w (codes "activate") then Some action.Activate
    else if is_written w (codes "deactivate") then Some action.Deactivate
    else if is_written w (codes "method") then Some action.Method
    else if is_written w (codes "quota") then Some action.Quota
    else None

unfoldable pub method_word : Bytes → Option Method
method_word w =
    if is_written w (codes "left") then Some method.Left
    else if is_written w (codes "symmetric") then Some method.Symmetric
    else None

-- the word of the language that bytes are, where they are one
unfoldable pub keyword_in : Bytes → Option Keyword
keyword_in w = elim (plain_word w) [
  | Some k ↦ Some k
  | None ↦ elim (event_word w) [
    | Some e ↦ Some (key.Begins e)
    | None ↦ elim (test_word w) [
      | Some t ↦ Some (key.Tests t)
      | None ↦ elim (action_word w) [
        | Some a ↦ Some (key.Acts a)
        | None ↦ elim (method_word w) [ None ↦ None | Some m ↦ Some (key.Sets m) ]
      ]
    ]
  ]
]
