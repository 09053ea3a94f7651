-- A word of the language is written in one way, and read as that word.
use Rattle.std.proofs.Common.{◌≡◌, ℕ, Bool, true, false, cond, List, Option, Some, None, nat_eq, refl, ap, ◌∙◌}
use Rattle.std.specs.Cmp.Lexicographic.{pointwise}
use Rattle.std.proofs.lemmas.Slice.Eq.{bytes_eq-Decides}
use Rattle.rule_reader.specs.Keywords.{action_text, action_word, event_text, event_word, keyword_in, keyword_text, method_text, method_word, plain_word, test_text, test_word}
use Rattle.rule_reader.specs.declared.keyword.EventWord.{EventWord}
use Rattle.rule_reader.specs.declared.keyword.EventWord.TheVariants as event
use Rattle.rule_reader.specs.declared.keyword.TestWord.{TestWord}
use Rattle.rule_reader.specs.declared.keyword.TestWord.TheVariants as test
use Rattle.rule_reader.specs.declared.keyword.ActionWord.{ActionWord}
use Rattle.rule_reader.specs.declared.keyword.ActionWord.TheVariants as action
use Rattle.rule_reader.specs.declared.keyword.Keyword.{Keyword}
use Rattle.rule_reader.specs.declared.keyword.Keyword.TheVariants as key
use Rattle.rule_reader.specs.declared.rule.Method.{Method}
use Rattle.rule_reader.specs.declared.rule.Method.TheVariants as method

-- the word is the text of what it was read as
record IsOf {K : Type 0} (text : K → List ℕ) (w : List ℕ) (m : Option K) : Type 0 where
  same : (k : K) → m ≡ Some k → w ≡ text k

none_of : {K : Type 0} (text : K → List ℕ) (w : List ℕ) → IsOf text w None
none_of text w = record { same = λ k e. absurd (cc) }

some_of : {K : Type 0} (text : K → List ℕ) (w : List ℕ) (x : K) → w ≡ text x → IsOf text w (Some x)
some_of text w x here = record { same = λ k e. let f : x ≡ k = cc in here ∙ ap text f }

either_of : {K : Type 0} (text : K → List ℕ) (w : List ℕ) (x : K) (other : Option K) → IsOf text w other → IsOf text w (cond (pointwise nat_eq w (text x)) (Some x) other)
either_of text w x other h = by (pointwise nat_eq w (text x)) refl
  where
    by : (b : Bool) → pointwise nat_eq w (text x) ≡ b → IsOf text w (cond b (Some x) other)
    by true e = some_of text w x ((bytes_eq-Decides w (text x)).0 e)
    by false e = h

plain_of : (w : List ℕ) → IsOf keyword_text w (plain_word w)
unfolding plain_word
plain_of w =
    let one = either_of keyword_text w in
    one key.When _ (one key.If _ (one key.Then _ (one key.Or _ (one key.And _ (one key.Not _ (one key.True _ (one key.Replan _ (one key.Stop _ (none_of keyword_text w)))))))))

event_of : (w : List ℕ) → IsOf event_text w (event_word w)
unfolding event_word
event_of w =
    let one = either_of event_text w in
    one event.Opened _ (one event.Closed _ (one event.Error _ (one event.Timeout _ (one event.Threshold _ (one event.OutOfMemory _ (none_of event_text w))))))

test_of : (w : List ℕ) → IsOf test_text w (test_word w)
unfolding test_word
test_of w = let one = either_of test_text w in one test.Active _ (one test.Fired _ (one test.Count _ (none_of test_text w)))

action_of : (w : List ℕ) → IsOf action_text w (action_word w)
unfolding action_word
action_of w =
    let one = either_of action_text w in
    one action.Activate _ (one action.Deactivate _ (one action.Method _ (one action.Quota _ (none_of action_text w))))

method_of : (w : List ℕ) → IsOf method_text w (method_word w)
unfolding method_word
method_of w = let one = either_of method_text w in one method.Left _ (one method.Symmetric _ (none_of method_text w))

keyword_of : (w : List ℕ) → IsOf keyword_text w (keyword_in w)
unfolding keyword_in
keyword_of w = by_plain (plain_word w) (plain_of w)
  where
    by_method : (m : Option Method) → IsOf method_text w m → IsOf keyword_text w (elim m [ None ↦ None | Some x ↦ Some (key.Sets x) ])
    by_method None h = none_of keyword_text w
    by_method (Some x) h = some_of keyword_text w (key.Sets x) (h.same x refl)

    by_action : (m : Option ActionWord) → IsOf action_text w m → IsOf keyword_text w (elim m [ Some a ↦ Some (key.Acts a) | None ↦ elim (method_word w) [ None ↦ None | Some x ↦ Some (key.Sets x) ] ])
    by_action None h = by_method (method_word w) (method_of w)
    by_action (Some x) h = some_of keyword_text w (key.Acts x) (h.same x refl)

    by_test : (m : Option TestWord) → IsOf test_text w m
        → IsOf keyword_text w (elim m [ Some t ↦ Some (key.Tests t) | None ↦ elim (action_word w) [ Some a ↦ Some (key.Acts a) | None ↦ elim (method_word w) [ None ↦ None | Some x ↦ Some (key.Sets x) ] ] ])
    by_test None h = by_action (action_word w) (action_of w)
    by_test (Some x) h = some_of keyword_text w (key.Tests x) (h.same x refl)

    by_event : (m : Option EventWord) → IsOf event_text w m
        → IsOf keyword_text w (elim m [ Some e ↦ Some (key.Begins e) | None ↦ elim (test_word w) [ Some t ↦ Some (key.Tests t) | None ↦ elim (action_word w) [ Some a ↦ Some (key.Acts a) | None ↦ elim (method_word w) [ None ↦ None | Some x ↦ Some (key.Sets x) ] ] ] ])
    by_event None h = by_test (test_word w) (test_of w)
    by_event (Some x) h = some_of keyword_text w (key.Begins x) (h.same x refl)

    by_plain : (m : Option Keyword) → IsOf keyword_text w m
        → IsOf keyword_text w (elim m [ Some k ↦ Some k | None ↦ elim (event_word w) [ Some e ↦ Some (key.Begins e) | None ↦ elim (test_word w) [ Some t ↦ Some (key.Tests t) | None ↦ elim (action_word w) [ Some a ↦ Some (key.Acts a) | None ↦ elim (method_word w) [ None ↦ None | Some x ↦ Some (key.Sets x) ] ] ] ] ])
    by_plain None h = by_event (event_word w) (event_of w)
    by_plain (Some k) h = some_of keyword_text w k (h.same k refl)

pub keyword_in_text : (w : List ℕ) (k : Keyword) → keyword_in w ≡ Some k → w ≡ keyword_text k
keyword_in_text w k e = (keyword_of w).same k e

pub keyword_read : (k : Keyword) → keyword_in (keyword_text k) ≡ Some k
unfolding keyword_in plain_word event_word test_word action_word method_word
keyword_read key.When = refl
keyword_read key.If = refl
keyword_read key.Then = refl
keyword_read key.Or = refl
keyword_read key.And = refl
keyword_read key.Not = refl
keyword_read key.True = refl
keyword_read key.Replan = refl
keyword_read key.Stop = refl
keyword_read (key.Begins event.Opened) = refl
keyword_read (key.Begins event.Closed) = refl
keyword_read (key.Begins event.Error) = refl
keyword_read (key.Begins event.Timeout) = refl
keyword_read (key.Begins event.Threshold) = refl
keyword_read (key.Begins event.OutOfMemory) = refl
keyword_read (key.Tests test.Active) = refl
keyword_read (key.Tests test.Fired) = refl
keyword_read (key.Tests test.Count) = refl
keyword_read (key.Acts action.Activate) = refl
keyword_read (key.Acts action.Deactivate) = refl
keyword_read (key.Acts action.Method) = refl
keyword_read (key.Acts action.Quota) = refl
keyword_read (key.Sets method.Left) = refl
keyword_read (key.Sets method.Symmetric) = refl
