-- Each step of the machine reads its token, and keeps what holds of a state.
use Rattle.std.proofs.Common.{◌≡◌, ℕ, ◌+◌, ◌&&◌, not, Bool, true, false, cond, List, [], ◌∷◌, ◌++◌, Option, Some, None, option_map, append_assoc, append-nil, refl, sym, ap, subst, ◌∙◌}
use Rattle.med_base.specs.declared.names.Name.{Name}
use Rattle.med_base.specs.declared.names.Name.TheVariants as name
use Rattle.text_reading.specs.Runs.{name_in}
use Rattle.rule_reader.specs.Grammar.{IsAmount, IsCondition, IsEvent, Limits, amount_tokens, condition_tokens, event_tokens, is_counted, is_opened, key_token, part_token}
use Rattle.rule_reader.specs.Keywords.{keyword_in}
use Rattle.rule_reader.specs.Machine.{action_argument, active_argument, after_key, after_and, after_or, closed, closed_group, event_argument, fired_argument, first_nest, frame_depth, in_group, is_deep_not, last_frame, left_argument, ored, right_argument, rule_head, step, takes_number, under_not, with_argument, with_method, with_number, with_test}
use Rattle.rule_reader.specs.Naming.{IsNamed, part_in}
use Rattle.rule_reader.specs.declared.keyword.ActionWord.{ActionWord}
use Rattle.rule_reader.specs.declared.keyword.ActionWord.TheVariants as acts
use Rattle.rule_reader.specs.declared.keyword.EventWord.{EventWord}
use Rattle.rule_reader.specs.declared.keyword.EventWord.TheVariants as begins
use Rattle.rule_reader.specs.declared.keyword.Keyword.{Keyword}
use Rattle.rule_reader.specs.declared.keyword.Keyword.TheVariants as key
use Rattle.rule_reader.specs.declared.keyword.TestWord.TheVariants as tests
use Rattle.rule_reader.specs.declared.nesting.Frame.{Frame}
use Rattle.rule_reader.specs.declared.nesting.Nest.{Nest}
use Rattle.rule_reader.specs.declared.nesting.Tested.{Tested}
use Rattle.rule_reader.specs.declared.rule.Action.TheVariants as action
use Rattle.rule_reader.specs.declared.rule.Amount.{Amount}
use Rattle.rule_reader.specs.declared.rule.Amount.TheVariants as amount
use Rattle.rule_reader.specs.declared.rule.Condition.{Condition}
use Rattle.rule_reader.specs.declared.rule.Condition.TheVariants as condition
use Rattle.rule_reader.specs.declared.rule.Event.TheVariants as event
use Rattle.rule_reader.specs.declared.rule.Method.{Method}
use Rattle.rule_reader.specs.declared.rule.NumberOp.{NumberOp}
use Rattle.rule_reader.specs.declared.rule.Rule.{Rule}
use Rattle.rule_reader.specs.declared.state.Callee.{Callee}
use Rattle.rule_reader.specs.declared.state.Callee.TheVariants as callee
use Rattle.rule_reader.specs.declared.state.Pending.{Pending}
use Rattle.rule_reader.specs.declared.state.Pending.TheVariants as pending
use Rattle.rule_reader.specs.declared.state.Phrase.{Phrase}
use Rattle.rule_reader.specs.declared.state.Phrase.TheVariants as phrase
use Rattle.rule_reader.specs.declared.state.State.{State}
use Rattle.rule_reader.specs.declared.state.State.TheVariants.{Start, EventDue, EventRead, Called, ArgumentDue, CommaDue, SecondDue, CloseDue, TestDue, OpDue, RightDue, TestRead, ActionDue, ActionRead}
use Rattle.rule_reader.specs.declared.token.Token.{Token}
use Rattle.rule_reader.specs.declared.token.Token.TheVariants as token
use Rattle.rule_reader.proofs.KeywordLaws.{keyword_in_text}
use Rattle.rule_reader.proofs.NamingLaws.{part_in_text, part_named}
use Rattle.rule_reader.proofs.Pieces.{Parts, action_push, action_sound, depth_push, frames_pop, frames_push, group_condition, group_is_test, last_of, not_push, nots_push, ored_condition, ored_tokens, outer_push, rule_comma, test_sound, test_tokens, tokens_group}
use Rattle.rule_reader.proofs.Spelled.{IsCallee, IsClosed, IsHead, IsNest, IsPending, IsPhrase, IsSound, IsTested, and_tokens, due_tokens, event_front, frame_tokens, nest_tokens, not_tokens, or_tokens, outer_tokens, rule_front, spelled, tested_tokens, unclosed}

-- tokens one after the other

two_more : (xs ys : List Token) (a b : Token) → xs ++ (ys ++ (a ∷ b ∷ [])) ≡ (xs ++ (ys ++ a ∷ [])) ++ b ∷ []
two_more xs ys a b =
    ap (λ ts. xs ++ ts) (sym (append_assoc ys (a ∷ []) (b ∷ []))) ∙ sym (append_assoc xs (ys ++ a ∷ []) (b ∷ []))

one_more : (xs ys : List Token) (a : Token) → xs ++ (ys ++ a ∷ []) ≡ (xs ++ ys) ++ a ∷ []
one_more xs ys a = sym (append_assoc xs ys (a ∷ []))

-- a word, `(` and an argument
three_more : (xs : List Token) (a b c : Token) → xs ++ (a ∷ b ∷ c ∷ []) ≡ ((xs ++ a ∷ []) ++ b ∷ []) ++ c ∷ []
three_more xs a b c = sym (append_assoc xs (a ∷ []) (b ∷ c ∷ [])) ∙ sym (append_assoc (xs ++ a ∷ []) (b ∷ []) (c ∷ []))

-- a comma and a second argument
last_two : (xs : List Token) (a b c d e : Token) → xs ++ (a ∷ b ∷ c ∷ d ∷ e ∷ []) ≡ ((xs ++ (a ∷ b ∷ c ∷ [])) ++ d ∷ []) ++ e ∷ []
last_two xs a b c d e = sym (append_assoc xs (a ∷ b ∷ c ∷ []) (d ∷ e ∷ [])) ∙ sym (append_assoc (xs ++ (a ∷ b ∷ c ∷ [])) (d ∷ []) (e ∷ []))

module _ (limits : Limits) where
  -- what a token leads to from a state has read that token, and is sound
  pub record Goes (s : State) (t : Token) (m : Option State) : Type 0 where
    pub sound : (n : State) → m ≡ Some n → IsSound limits n
    pub reads : (n : State) → m ≡ Some n → spelled n ≡ spelled s ++ t ∷ []

  inside : (x y : State) → Some x ≡ Some y → x ≡ y
  inside x y e = cc

  nowhere : (s : State) (t : Token) → Goes s t None
  nowhere s t = record { sound = λ n e. absurd (cc); reads = λ n e. absurd (cc) }

  to : (s : State) (t : Token) (x : State) → IsSound limits x → spelled x ≡ spelled s ++ t ∷ [] → Goes s t (Some x)
  to s t x h i = record {
    sound = λ n e. subst (IsSound limits) (inside x n e) h;
    reads = λ n e. subst (λ y. spelled y ≡ spelled s ++ t ∷ []) (inside x n e) i;
  }

  where_so : (s : State) (t : Token) (b : Bool) (x : State) → (b ≡ true → IsSound limits x) → spelled x ≡ spelled s ++ t ∷ [] → Goes s t (cond b (Some x) None)
  where_so s t true x h i = to s t x (h refl) i
  where_so s t false x h i = nowhere s t

  -- conditions

  first_sound : (e : _) → IsEvent limits e → IsNest limits (first_nest e)
  first_sound e h = record { event = h; outer = tt; around = refl; here = record { ors = tt; ands = tt; nots = tt } }

  not_sound : (n : Nest) → IsNest limits n → limits.may_nest (frame_depth n.here) ≡ true → IsNest limits (under_not n)
  not_sound n h may = record {
    event = h.event;
    outer = h.outer;
    around = h.around;
    here = record { ors = h.here.ors; ands = h.here.ands; nots = nots_push limits n.here.around n.here.nots h.here.nots may };
  }

  not_reads : (n : Nest) → nest_tokens (under_not n) ≡ nest_tokens n ++ key_token key.Not ∷ []
  not_reads n =
      let front = event_front n.event in
      let outer = outer_tokens n.outer in
      let ors = or_tokens n.here.ors in
      let ands = and_tokens n.here.ands in
      let nots = not_tokens n.here.nots in
      ap (λ ts. front ++ (outer ++ (ors ++ (ands ++ ts)))) (not_push limits n.here.nots)
      ∙ ap (λ ts. front ++ (outer ++ ts)) (ap (λ ts. ors ++ ts) (one_more ands nots (key_token key.Not)) ∙ one_more ors (ands ++ nots) (key_token key.Not))
      ∙ ap (λ ts. front ++ ts) (one_more outer (ors ++ (ands ++ nots)) (key_token key.Not)) ∙ one_more front (outer ++ (ors ++ (ands ++ nots))) (key_token key.Not)

  group_sound : (n : Nest) → IsNest limits n → limits.may_nest (frame_depth n.here) ≡ true → IsNest limits (in_group n)
  group_sound n h may = record {
    event = h.event;
    outer = frames_push limits 0 n.outer n.here h.outer h.around h.here may;
    around = sym (depth_push limits 0 n.outer n.here);
    here = record { ors = tt; ands = tt; nots = tt };
  }

  group_reads : (n : Nest) → nest_tokens (in_group n) ≡ nest_tokens n ++ token.Open ∷ []
  group_reads n =
      ap (λ ts. event_front n.event ++ ts) (append-nil (outer_tokens (n.outer ++ n.here ∷ [])) ∙ outer_push limits n.outer n.here ∙ one_more (outer_tokens n.outer) (frame_tokens n.here) token.Open)
      ∙ one_more (event_front n.event) (outer_tokens n.outer ++ frame_tokens n.here) token.Open

  -- a token behind a test that was read
  tested_more : (t : Tested) (x : Token) → event_front t.event ++ (outer_tokens t.outer ++ (or_tokens t.ors ++ (condition_tokens t.read ++ x ∷ []))) ≡ tested_tokens t ++ x ∷ []
  tested_more t x =
      ap (λ ts. event_front t.event ++ ts) (ap (λ ts. outer_tokens t.outer ++ ts) (one_more (or_tokens t.ors) (condition_tokens t.read) x) ∙ one_more (outer_tokens t.outer) (or_tokens t.ors ++ condition_tokens t.read) x)
      ∙ one_more (event_front t.event) (outer_tokens t.outer ++ (or_tokens t.ors ++ condition_tokens t.read)) x

  and_sound : (t : Tested) → IsTested limits t → IsNest limits (after_and t)
  and_sound t h = record { event = h.event; outer = h.outer; around = h.around; here = record { ors = h.ors; ands = (h.shape, h.read); nots = tt } }

  and_reads : (t : Tested) → nest_tokens (after_and t) ≡ tested_tokens t ++ key_token key.And ∷ []
  and_reads t =
      ap (λ ts. event_front t.event ++ (outer_tokens t.outer ++ (or_tokens t.ors ++ ts))) (append-nil (condition_tokens t.read ++ key_token key.And ∷ []))
      ∙ tested_more t (key_token key.And)

  or_sound : (t : Tested) → IsTested limits t → IsNest limits (after_or t)
  or_sound t h = record { event = h.event; outer = h.outer; around = h.around; here = record { ors = ored_condition limits t.around t.ors t.read h.ors h.shape h.read; ands = tt; nots = tt } }

  -- what is joined by `or`, with a token behind it
  ored_more : (t : Tested) (x : Token) → condition_tokens (ored t.ors t.read) ++ x ∷ [] ≡ or_tokens t.ors ++ (condition_tokens t.read ++ x ∷ [])
  ored_more t x = ap (λ ts. ts ++ x ∷ []) (ored_tokens limits t.ors t.read) ∙ append_assoc (or_tokens t.ors) (condition_tokens t.read) (x ∷ [])

  or_reads : (t : Tested) → nest_tokens (after_or t) ≡ tested_tokens t ++ key_token key.Or ∷ []
  or_reads t =
      ap (λ ts. event_front t.event ++ (outer_tokens t.outer ++ ts)) (append-nil (condition_tokens (ored t.ors t.read) ++ key_token key.Or ∷ []) ∙ ored_more t (key_token key.Or))
      ∙ tested_more t (key_token key.Or)

  then_goes : (t : Tested) → IsTested limits t → Goes (TestRead t) (key_token key.Then) (option_map ActionDue (rule_head t))
  then_goes t h = by t.outer refl
    where
      head : Rule
      head = record { event = t.event; condition = ored t.ors t.read; actions = [] }

      reads : t.outer ≡ [] → due_tokens head ≡ tested_tokens t ++ key_token key.Then ∷ []
      reads none =
          append-nil (rule_front head)
          ∙ ap (λ ts. key_token key.When ∷ (event_tokens t.event ++ (key_token key.If ∷ ts))) (ored_more t (key_token key.Then))
          ∙ sym (append_assoc (key_token key.When ∷ event_tokens t.event) (key_token key.If ∷ []) (or_tokens t.ors ++ (condition_tokens t.read ++ key_token key.Then ∷ [])))
          ∙ ap (λ fs. event_front t.event ++ (outer_tokens fs ++ (or_tokens t.ors ++ (condition_tokens t.read ++ key_token key.Then ∷ [])))) (sym none)
          ∙ tested_more t (key_token key.Then)

      sound : t.outer ≡ [] → IsHead limits head
      sound none =
          let base : t.around ≡ 0 = rw none at h.around in
          record { event = h.event; condition = subst (λ d. IsCondition limits d (ored t.ors t.read)) base (ored_condition limits t.around t.ors t.read h.ors h.shape h.read); each = tt }

      by : (fs : List Frame) → t.outer ≡ fs → Goes (TestRead t) (key_token key.Then) (option_map ActionDue (elim fs as (λ _. Option Rule) [ [] ↦ Some head | g ∷ gs ↦ None ]))
      by [] e = to (TestRead t) (key_token key.Then) (ActionDue head) (sound e) (reads e)
      by (g ∷ gs) e = nowhere (TestRead t) (key_token key.Then)

  close_goes : (t : Tested) → IsTested limits t → Goes (TestRead t) token.Close (option_map TestRead (closed_group t))
  close_goes t h = by (last_frame t.outer) refl
    where
      group : Condition
      group = condition.Group (ored t.ors t.read)

      within : List Frame × Frame → Nest
      within p = record { event = t.event; outer = p.0; here = p.1 }

      sound : (p : List Frame × Frame) → t.outer ≡ p.0 ++ p.1 ∷ [] → IsTested limits (with_test (within p) group)
      sound p e =
          let parts : Parts limits 0 p.0 p.1 = frames_pop limits 0 p.0 p.1 (rw e at h.outer) in
          let base : t.around ≡ frame_depth p.1 + 1 = rw (e, depth_push limits 0 p.0 p.1) at h.around in
          let inner : IsCondition limits (frame_depth p.1 + 1) (ored t.ors t.read) =
          subst (λ d. IsCondition limits d (ored t.ors t.read)) base (ored_condition limits t.around t.ors t.read h.ors h.shape h.read) in
          test_sound limits (within p) group (record { event = h.event; outer = parts.before; around = parts.around; here = parts.frame })
          (group_is_test (ored t.ors t.read)) (group_condition limits (frame_depth p.1) (ored t.ors t.read) parts.may inner)

      reads : (p : List Frame × Frame) → t.outer ≡ p.0 ++ p.1 ∷ [] → tested_tokens (with_test (within p) group) ≡ tested_tokens t ++ token.Close ∷ []
      reads p e =
          test_tokens limits (within p) group ∙ ap (λ ts. nest_tokens (within p) ++ ts) (tokens_group (ored t.ors t.read) ∙ ap (λ ts. token.Open ∷ ts) (ored_more t token.Close))
          ∙ append_assoc (event_front t.event) (outer_tokens p.0 ++ frame_tokens p.1) (token.Open ∷ (or_tokens t.ors ++ (condition_tokens t.read ++ token.Close ∷ [])))
          ∙ ap (λ ts. event_front t.event ++ ts)
          (append_assoc (outer_tokens p.0) (frame_tokens p.1) (token.Open ∷ (or_tokens t.ors ++ (condition_tokens t.read ++ token.Close ∷ [])))
          ∙ ap (λ ts. outer_tokens p.0 ++ ts) (sym (append_assoc (frame_tokens p.1) (token.Open ∷ []) (or_tokens t.ors ++ (condition_tokens t.read ++ token.Close ∷ []))))
          ∙ sym (append_assoc (outer_tokens p.0) (frame_tokens p.1 ++ token.Open ∷ []) (or_tokens t.ors ++ (condition_tokens t.read ++ token.Close ∷ [])))
          ∙ ap (λ ts. ts ++ (or_tokens t.ors ++ (condition_tokens t.read ++ token.Close ∷ []))) (sym (outer_push limits p.0 p.1) ∙ ap outer_tokens (sym e)))
          ∙ tested_more t token.Close

      by : (m : Option (List Frame × Frame)) → last_frame t.outer ≡ m
          → Goes (TestRead t) token.Close (option_map TestRead (elim m as (λ _. Option Tested) [ None ↦ None | Some p ↦ Some (with_test (record { event = t.event; outer = p.0; here = p.1 }) group) ]))
      by None e = nowhere (TestRead t) token.Close
      by (Some p) e = let apart = last_of limits t.outer p e in to (TestRead t) token.Close (TestRead (with_test (within p) group)) (sound p apart) (reads p apart)

  -- words of the language

  method_goes : (p : Pending) (m : Method) → IsPending limits p → Goes (SecondDue p) (key_token (key.Sets m)) (option_map CloseDue (with_method p m))
  method_goes (pending.Method r j) m h = to (SecondDue (pending.Method r j)) (key_token (key.Sets m)) (CloseDue (phrase.Act r (action.Method j m)))
      (h.0, h.1, refl) (last_two (due_tokens r) (key_token (key.Acts acts.Method)) token.Open (part_token (name.Join j)) token.Comma (key_token (key.Sets m)))
  method_goes p m h = nowhere (SecondDue p) (key_token (key.Sets m))

  key_goes : (s : State) (k : Keyword) → IsSound limits s → ((n : Nest) → s ≡ TestDue n → is_deep_not limits n (Some k) ≡ false) → Goes s (key_token k) (after_key s (Some k))
  key_goes Start key.When h shallow = to Start (key_token key.When) EventDue tt refl
  key_goes EventDue (key.Begins e) h shallow = to EventDue (key_token (key.Begins e)) (Called (callee.Event e)) tt refl
  key_goes (EventRead e) key.If h shallow = to (EventRead e) (key_token key.If) (TestDue (first_nest e)) (first_sound e h) (append-nil (event_front e))
  key_goes (SecondDue p) (key.Sets m) h shallow = method_goes p m h
  key_goes (TestDue n) key.Not h shallow = by (limits.may_nest (frame_depth n.here)) refl
    where
      by : (b : Bool) → limits.may_nest (frame_depth n.here) ≡ b → Goes (TestDue n) (key_token key.Not) (Some (TestDue (under_not n)))
      by true e = to (TestDue n) (key_token key.Not) (TestDue (under_not n)) (not_sound n h e) (not_reads n)
      by false e = let deep : (not false && true) ≡ false = rw e at (shallow n refl) in absurd (cc)
  key_goes (TestDue n) key.True h shallow = to (TestDue n) (key_token key.True) (TestRead (with_test n condition.True)) (test_sound limits n condition.True h refl tt) (test_tokens limits n condition.True)
  key_goes (TestDue n) (key.Tests t) h shallow = to (TestDue n) (key_token (key.Tests t)) (Called (callee.Test n t)) h refl
  key_goes (RightDue n left op) (key.Tests tests.Count) h shallow = to (RightDue n left op) (key_token (key.Tests tests.Count)) (Called (callee.Right n left op)) h (two_more (nest_tokens n) (amount_tokens left) (token.Compares op) (key_token (key.Tests tests.Count)))
  key_goes (TestRead t) key.And h shallow = to (TestRead t) (key_token key.And) (TestDue (after_and t)) (and_sound t h) (and_reads t)
  key_goes (TestRead t) key.Or h shallow = to (TestRead t) (key_token key.Or) (TestDue (after_or t)) (or_sound t h) (or_reads t)
  key_goes (TestRead t) key.Then h shallow = then_goes t h
  key_goes (ActionDue r) key.Replan h shallow = to (ActionDue r) (key_token key.Replan) (ActionRead _) (action_sound limits r action.Replan h tt) (action_push limits r action.Replan)
  key_goes (ActionDue r) key.Stop h shallow = to (ActionDue r) (key_token key.Stop) (ActionRead _) (action_sound limits r action.Stop h tt) (action_push limits r action.Stop)
  key_goes (ActionDue r) (key.Acts a) h shallow = to (ActionDue r) (key_token (key.Acts a)) (Called (callee.Act r a)) h refl
  key_goes s k h shallow = nowhere s (key_token k)

  none_key : (s : State) (w : List ℕ) → Goes s (token.Word w) (after_key s None)
  none_key s w = by s
    where
      by : (s : State) → Goes s (token.Word w) (after_key s None)
      by Start = nowhere Start (token.Word w)
      by s = nowhere s (token.Word w)

  word_goes : (s : State) (w : List ℕ) → IsSound limits s → ((n : Nest) → s ≡ TestDue n → is_deep_not limits n (keyword_in w) ≡ false) → Goes s (token.Word w) (after_key s (keyword_in w))
  word_goes s w h shallow = by (keyword_in w) refl shallow
    where
      by : (m : Option Keyword) → keyword_in w ≡ m → ((n : Nest) → s ≡ TestDue n → is_deep_not limits n m ≡ false) → Goes s (token.Word w) (after_key s m)
      by None e shallow = none_key s w
      by (Some k) e shallow = subst (λ v. Goes s (token.Word v) (after_key s (Some k))) (sym (keyword_in_text w k e)) (key_goes s k h shallow)

  -- the first argument of a call

  event_goes : (e : EventWord) (x : Name) → IsNamed x → Goes (ArgumentDue (callee.Event e)) (part_token x) (event_argument e (Some x))
  event_goes begins.Opened x h = where_so _ (part_token x) (is_opened x) (CloseDue (phrase.Event (event.Opened x))) (λ o. ((h, o), refl)) refl
  event_goes begins.Closed x h = to _ (part_token x) (CloseDue (phrase.Event (event.Closed x))) (h, refl) refl
  event_goes begins.Error (name.Member m) h = to _ (part_token (name.Member m)) (CloseDue (phrase.Event (event.Error m))) (h, refl) refl
  event_goes begins.Timeout (name.Member m) h = to _ (part_token (name.Member m)) (CommaDue (pending.Timeout m)) h refl
  event_goes begins.Threshold x h = where_so _ (part_token x) (is_counted x) (CommaDue (pending.Threshold x)) (λ o. (h, o)) refl
  event_goes begins.OutOfMemory (name.Join j) h = to _ (part_token (name.Join j)) (CloseDue (phrase.Event (event.OutOfMemory j))) (h, refl) refl
  event_goes e x h = nowhere _ (part_token x)

  active_goes : (n : Nest) (x : Name) → IsNest limits n → IsNamed x → Goes (ArgumentDue (callee.Test n tests.Active)) (part_token x) (active_argument n (Some x))
  active_goes n (name.Member m) h i = to _ (part_token (name.Member m)) (CloseDue (phrase.Test n (condition.Active m))) (h, refl, i, refl)
      (three_more (nest_tokens n) (key_token (key.Tests tests.Active)) token.Open (part_token (name.Member m)))
  active_goes n x h i = nowhere _ (part_token x)

  left_goes : (n : Nest) (x : Name) → IsNest limits n → IsNamed x → Goes (ArgumentDue (callee.Test n tests.Count)) (part_token x) (left_argument n (Some x))
  left_goes n x h i = where_so _ (part_token x) (is_counted x) (CloseDue (phrase.Left n (amount.Count x))) (λ o. (h, (i, o), refl))
      (three_more (nest_tokens n) (key_token (key.Tests tests.Count)) token.Open (part_token x))

  right_goes : (n : Nest) (left : Amount) (op : NumberOp) (x : Name) → IsNest limits n → IsAmount limits left → IsNamed x
      → Goes (ArgumentDue (callee.Right n left op)) (part_token x) (right_argument n left op (Some x))
  right_goes n (amount.Number k) op x h l i = where_so _ (part_token x) (is_counted x) (CloseDue (phrase.Test n (condition.Compares (amount.Number k) op (amount.Count x)))) (λ o. (h, refl, (l, (i, o)), refl))
      (sym (append_assoc (nest_tokens n) (token.Number k ∷ token.Compares op ∷ key_token (key.Tests tests.Count) ∷ []) (token.Open ∷ part_token x ∷ []))
      ∙ two_after (nest_tokens n ++ (token.Number k ∷ token.Compares op ∷ key_token (key.Tests tests.Count) ∷ [])) (part_token x))
    where
      two_after : (xs : List Token) (b : Token) → xs ++ (token.Open ∷ b ∷ []) ≡ (xs ++ token.Open ∷ []) ++ b ∷ []
      two_after xs b = sym (append_assoc xs (token.Open ∷ []) (b ∷ []))
  right_goes n (amount.Count y) op x h l i = where_so _ (part_token x) (is_counted x) (CloseDue (phrase.Test n (condition.Compares (amount.Count y) op (amount.Count x)))) (λ o. (h, refl, (l, (i, o)), refl))
      (sym (append_assoc (nest_tokens n) (key_token (key.Tests tests.Count) ∷ token.Open ∷ part_token y ∷ token.Close ∷ token.Compares op ∷ key_token (key.Tests tests.Count) ∷ []) (token.Open ∷ part_token x ∷ []))
      ∙ two_after (nest_tokens n ++ (key_token (key.Tests tests.Count) ∷ token.Open ∷ part_token y ∷ token.Close ∷ token.Compares op ∷ key_token (key.Tests tests.Count) ∷ [])) (part_token x))
    where
      two_after : (xs : List Token) (b : Token) → xs ++ (token.Open ∷ b ∷ []) ≡ (xs ++ token.Open ∷ []) ++ b ∷ []
      two_after xs b = sym (append_assoc xs (token.Open ∷ []) (b ∷ []))

  act_goes : (r : Rule) (a : ActionWord) (x : Name) → IsHead limits r → IsNamed x → Goes (ArgumentDue (callee.Act r a)) (part_token x) (action_argument r a (Some x))
  act_goes r acts.Activate (name.Member m) h i = to _ (part_token (name.Member m)) (CloseDue (phrase.Act r (action.Activate m))) (h, i, refl) (three_more (due_tokens r) (key_token (key.Acts acts.Activate)) token.Open (part_token (name.Member m)))
  act_goes r acts.Deactivate (name.Member m) h i = to _ (part_token (name.Member m)) (CloseDue (phrase.Act r (action.Deactivate m))) (h, i, refl) (three_more (due_tokens r) (key_token (key.Acts acts.Deactivate)) token.Open (part_token (name.Member m)))
  act_goes r acts.Method (name.Join j) h i = to _ (part_token (name.Join j)) (CommaDue (pending.Method r j)) (h, i) (three_more (due_tokens r) (key_token (key.Acts acts.Method)) token.Open (part_token (name.Join j)))
  act_goes r acts.Quota (name.Join j) h i = to _ (part_token (name.Join j)) (CommaDue (pending.Quota r j)) (h, i) (three_more (due_tokens r) (key_token (key.Acts acts.Quota)) token.Open (part_token (name.Join j)))
  act_goes r a x h i = nowhere _ (part_token x)

  -- a word as an argument that names a part
  by_part : (s : State) (w : List ℕ) (argument : Option Name → Option State) → argument None ≡ None → ((x : Name) → IsNamed x → Goes s (part_token x) (argument (Some x))) → Goes s (token.Word w) (argument (part_in w))
  by_part s w argument none goes = by (part_in w) refl
    where
      by : (m : Option Name) → part_in w ≡ m → Goes s (token.Word w) (argument m)
      by None e = rw none (nowhere s (token.Word w))
      by (Some x) e = subst (λ v. Goes s (token.Word v) (argument (Some x))) (sym (part_in_text w x e)) (goes x (part_named w x e))

  fired_goes : (n : Nest) (w : List ℕ) → IsNest limits n → Goes (ArgumentDue (callee.Test n tests.Fired)) (token.Word w) (fired_argument n (name_in w))
  fired_goes n w h = by (name_in w) refl
    where
      same : (b : Bool) (r : List ℕ) → cond b (Some w) None ≡ Some r → w ≡ r
      same true r e = cc
      same false r e = absurd (cc)

      by : (m : Option (List ℕ)) → name_in w ≡ m → Goes (ArgumentDue (callee.Test n tests.Fired)) (token.Word w) (fired_argument n m)
      by None e = nowhere (ArgumentDue (callee.Test n tests.Fired)) (token.Word w)
      by (Some r) e =
          let here : w ≡ r = same _ r e in
          let read : name_in r ≡ Some r = rw here at e in
          subst (λ v. Goes (ArgumentDue (callee.Test n tests.Fired)) (token.Word v) (fired_argument n (Some r))) (sym here)
          (to _ (token.Word r) (CloseDue (phrase.Test n (condition.Fired r))) (h, refl, read, refl) (three_more (nest_tokens n) (key_token (key.Tests tests.Fired)) token.Open (token.Word r)))

  argument_goes : (c : Callee) (w : List ℕ) → IsCallee limits c → Goes (ArgumentDue c) (token.Word w) (with_argument c w)
  argument_goes (callee.Event begins.Opened) w h = by_part _ w (event_argument begins.Opened) refl (λ x i. event_goes begins.Opened x i)
  argument_goes (callee.Event begins.Closed) w h = by_part _ w (event_argument begins.Closed) refl (λ x i. event_goes begins.Closed x i)
  argument_goes (callee.Event begins.Error) w h = by_part _ w (event_argument begins.Error) refl (λ x i. event_goes begins.Error x i)
  argument_goes (callee.Event begins.Timeout) w h = by_part _ w (event_argument begins.Timeout) refl (λ x i. event_goes begins.Timeout x i)
  argument_goes (callee.Event begins.Threshold) w h = by_part _ w (event_argument begins.Threshold) refl (λ x i. event_goes begins.Threshold x i)
  argument_goes (callee.Event begins.OutOfMemory) w h = by_part _ w (event_argument begins.OutOfMemory) refl (λ x i. event_goes begins.OutOfMemory x i)
  argument_goes (callee.Test n tests.Active) w h = by_part _ w (active_argument n) refl (λ x i. active_goes n x h i)
  argument_goes (callee.Test n tests.Fired) w h = fired_goes n w h
  argument_goes (callee.Test n tests.Count) w h = by_part _ w (left_argument n) refl (λ x i. left_goes n x h i)
  argument_goes (callee.Right n left op) w h = by_part _ w (right_argument n left op) refl (λ x i. right_goes n left op x h.0 h.1 i)
  argument_goes (callee.Act r acts.Activate) w h = by_part _ w (action_argument r acts.Activate) refl (λ x i. act_goes r acts.Activate x h i)
  argument_goes (callee.Act r acts.Deactivate) w h = by_part _ w (action_argument r acts.Deactivate) refl (λ x i. act_goes r acts.Deactivate x h i)
  argument_goes (callee.Act r acts.Method) w h = by_part _ w (action_argument r acts.Method) refl (λ x i. act_goes r acts.Method x h i)
  argument_goes (callee.Act r acts.Quota) w h = by_part _ w (action_argument r acts.Quota) refl (λ x i. act_goes r acts.Quota x h i)

  -- numbers and closing parentheses

  number_goes : (p : Pending) (k : ℕ) → IsPending limits p → limits.may_stand k ≡ true → Goes (SecondDue p) (token.Number k) (option_map CloseDue (with_number p k))
  number_goes (pending.Timeout m) k h may = to _ (token.Number k) (CloseDue (phrase.Event (event.Timeout m k))) ((h, may), refl) refl
  number_goes (pending.Threshold x) k h may = to _ (token.Number k) (CloseDue (phrase.Event (event.Threshold x k))) ((h.0, h.1, may), refl) refl
  number_goes (pending.Quota r j) k h may = to _ (token.Number k) (CloseDue (phrase.Act r (action.Quota j k))) (h.0, (h.1, may), refl)
      (last_two (due_tokens r) (key_token (key.Acts acts.Quota)) token.Open (part_token (name.Join j)) token.Comma (token.Number k))
  number_goes (pending.Method r j) k h may = nowhere _ (token.Number k)

  closed_reads : (xs ts : List Token) → IsClosed ts → xs ++ ts ≡ (xs ++ unclosed ts) ++ token.Close ∷ []
  closed_reads xs ts e = ap (λ us. xs ++ us) e ∙ one_more xs (unclosed ts) token.Close

  phrase_goes : (p : Phrase) → IsPhrase limits p → Goes (CloseDue p) token.Close (Some (closed p))
  phrase_goes (phrase.Event e) h = to _ token.Close (EventRead e) h.0 (ap (λ ts. key_token key.When ∷ ts) h.1)
  phrase_goes (phrase.Test n c) h = to _ token.Close (TestRead (with_test n c)) (test_sound limits n c h.0 h.1 h.2) (test_tokens limits n c ∙ closed_reads (nest_tokens n) (condition_tokens c) h.3)
  phrase_goes (phrase.Left n left) h = to _ token.Close (OpDue n left) (h.0, h.1) (closed_reads (nest_tokens n) (amount_tokens left) h.2)
  phrase_goes (phrase.Act r a) h = to _ token.Close (ActionRead _) (action_sound limits r a h.0 h.1) (action_push limits r a ∙ closed_reads (due_tokens r) _ h.2)

  compared_goes : (n : Nest) (left : Amount) (op : NumberOp) (k : ℕ) → IsNest limits n → IsAmount limits left → limits.may_stand k ≡ true
      → Goes (RightDue n left op) (token.Number k) (Some (TestRead (with_test n (condition.Compares left op (amount.Number k)))))
  compared_goes n left op k h l may = to _ (token.Number k) (TestRead (with_test n (condition.Compares left op (amount.Number k))))
      (test_sound limits n (condition.Compares left op (amount.Number k)) h refl (l, may))
      (test_tokens limits n (condition.Compares left op (amount.Number k)) ∙ two_more (nest_tokens n) (amount_tokens left) (token.Compares op) (token.Number k))

  -- every step

  gated : (s : State) (t : Token) (past : Bool) (m : Option State) → (past ≡ false → Goes s t m) → Goes s t (cond past None m)
  gated s t true m h = nowhere s t
  gated s t false m h = h refl

  stands : (b : Bool) → not b ≡ false → b ≡ true
  stands true e = refl
  stands false e = absurd (cc)

  stands_second : (p : Pending) (k : ℕ) → (not (limits.may_stand k) && takes_number p) ≡ false → IsPending limits p → Goes (SecondDue p) (token.Number k) (option_map CloseDue (with_number p k))
  stands_second (pending.Timeout m) k shallow h = number_goes (pending.Timeout m) k h (stands _ (and_true _ ∙ shallow))
    where
      and_true : (b : Bool) → not b ≡ (not b && true)
      and_true true = refl
      and_true false = refl
  stands_second (pending.Threshold x) k shallow h = number_goes (pending.Threshold x) k h (stands _ (and_true _ ∙ shallow))
    where
      and_true : (b : Bool) → not b ≡ (not b && true)
      and_true true = refl
      and_true false = refl
  stands_second (pending.Quota r j) k shallow h = number_goes (pending.Quota r j) k h (stands _ (and_true _ ∙ shallow))
    where
      and_true : (b : Bool) → not b ≡ (not b && true)
      and_true true = refl
      and_true false = refl
  stands_second (pending.Method r j) k shallow h = nowhere _ (token.Number k)

  nest_of : (n m : Nest) → TestDue n ≡ TestDue m → n ≡ m
  nest_of n m e = cc

  pub goes : (s : State) (t : Token) → IsSound limits s → Goes s t (step limits s t)
  goes (ArgumentDue c) (token.Word w) h = argument_goes c w h
  goes (TestDue n) (token.Word w) h = gated (TestDue n) (token.Word w) (is_deep_not limits n (keyword_in w)) (after_key (TestDue n) (keyword_in w))
      (λ shallow. word_goes (TestDue n) w h (λ m e. subst (λ (x : Nest). is_deep_not limits x (keyword_in w) ≡ false) (nest_of n m e) shallow))
  goes Start (token.Word w) h = word_goes Start w h (λ m e. absurd (cc))
  goes EventDue (token.Word w) h = word_goes EventDue w h (λ m e. absurd (cc))
  goes (EventRead e) (token.Word w) h = word_goes (EventRead e) w h (λ m f. absurd (cc))
  goes (SecondDue p) (token.Word w) h = word_goes (SecondDue p) w h (λ m e. absurd (cc))
  goes (RightDue n left op) (token.Word w) h = word_goes (RightDue n left op) w h (λ m e. absurd (cc))
  goes (TestRead t) (token.Word w) h = word_goes (TestRead t) w h (λ m e. absurd (cc))
  goes (ActionDue r) (token.Word w) h = word_goes (ActionDue r) w h (λ m e. absurd (cc))
  goes (Called c) (token.Word w) h = word_goes (Called c) w h (λ m e. absurd (cc))
  goes (CommaDue p) (token.Word w) h = word_goes (CommaDue p) w h (λ m e. absurd (cc))
  goes (CloseDue p) (token.Word w) h = word_goes (CloseDue p) w h (λ m e. absurd (cc))
  goes (OpDue n left) (token.Word w) h = word_goes (OpDue n left) w h (λ m e. absurd (cc))
  goes (ActionRead r) (token.Word w) h = word_goes (ActionRead r) w h (λ m e. absurd (cc))
  goes (SecondDue p) (token.Number k) h = gated (SecondDue p) (token.Number k) (not (limits.may_stand k) && takes_number p) (option_map CloseDue (with_number p k)) (λ shallow. stands_second p k shallow h)
  goes (TestDue n) (token.Number k) h = gated (TestDue n) (token.Number k) (not (limits.may_stand k)) (Some (OpDue n (amount.Number k))) (λ shallow. to _ (token.Number k) (OpDue n (amount.Number k)) (h, stands _ shallow) refl)
  goes (RightDue n left op) (token.Number k) h = gated (RightDue n left op) (token.Number k) (not (limits.may_stand k)) (Some (TestRead (with_test n (condition.Compares left op (amount.Number k))))) (λ shallow. compared_goes n left op k h.0 h.1 (stands _ shallow))
  goes (OpDue n left) (token.Compares op) h = to _ (token.Compares op) (RightDue n left op) h (one_more (nest_tokens n) (amount_tokens left) (token.Compares op))
  goes (Called c) token.Open h = to _ token.Open (ArgumentDue c) h refl
  goes (TestDue n) token.Open h = gated (TestDue n) token.Open (not (limits.may_nest (frame_depth n.here))) (Some (TestDue (in_group n))) (λ shallow. to _ token.Open (TestDue (in_group n)) (group_sound n h (stands _ shallow)) (group_reads n))
  goes (CloseDue p) token.Close h = phrase_goes p h
  goes (TestRead t) token.Close h = close_goes t h
  goes (CommaDue p) token.Comma h = to _ token.Comma (SecondDue p) h refl
  goes (ActionRead r) token.Comma h = to _ token.Comma (ActionDue r) (record { event = h.event; condition = h.condition; each = h.each }) (rule_comma limits r h.some)
  goes s t h = nowhere s t
