-- The machine takes the whole spelling of each rule.
use Rattle.std.proofs.Common.{◌≡◌, ℕ, zero, suc, ◌+◌, ◌&&◌, not, Bool, true, false, cond, List, [], ◌∷◌, ◌++◌, Option, Some, None, option_map, append_assoc, append-nil, arith, refl, sym, ap, subst, ◌∙◌}
use Rattle.std.specs.List.{AllByRecursion}
use denote.Hole.Carrier.{hidden}
use Rattle.med_base.specs.declared.names.Name.{Name}
use Rattle.med_base.specs.declared.names.Name.TheVariants as name
use Rattle.text_reading.specs.Machines.{state_after}
use Rattle.rule_reader.specs.Grammar.{IsAction, IsAmount, IsCondition, IsEvent, IsFull, IsRule, Limits, action_tokens, actions_tokens, amount_tokens, comma_actions, condition_tokens, event_tokens, is_conjunction, is_counted, is_opened, is_test, key_token, part_token, rule_tokens}
use Rattle.rule_reader.specs.Machine.{action_argument, active_argument, anded, after_and, after_key, after_or, event_argument, fired_argument, first_nest, frame_depth, in_group, is_deep_not, left_argument, negated, ored, right_argument, rule_head, step, under_not, with_action, with_argument, with_test}
use Rattle.rule_reader.specs.Naming.{part_text}
use Rattle.rule_reader.specs.declared.keyword.ActionWord.TheVariants as acts
use Rattle.rule_reader.specs.declared.keyword.EventWord.TheVariants as begins
use Rattle.rule_reader.specs.declared.keyword.Keyword.{Keyword}
use Rattle.rule_reader.specs.declared.keyword.Keyword.TheVariants as key
use Rattle.rule_reader.specs.declared.keyword.TestWord.TheVariants as tests
use Rattle.rule_reader.specs.declared.nesting.Frame.{Frame}
use Rattle.rule_reader.specs.declared.nesting.Nest.{Nest}
use Rattle.rule_reader.specs.declared.nesting.Tested.{Tested}
use Rattle.rule_reader.specs.declared.rule.Action.{Action}
use Rattle.rule_reader.specs.declared.rule.Action.TheVariants as action
use Rattle.rule_reader.specs.declared.rule.Amount.{Amount}
use Rattle.rule_reader.specs.declared.rule.Amount.TheVariants as amount
use Rattle.rule_reader.specs.declared.rule.Condition.{Condition, Not', Group', And', Or', True, Active, Fired, Compares, end_of-Condition, more_of-Condition}
use Rattle.rule_reader.specs.declared.rule.Condition.TheVariants as condition
use Rattle.rule_reader.specs.declared.rule.Condition.TheBlock.{hidden-the_row-Condition-0}
use Rattle.rule_reader.specs.declared.rule.Event.{Event}
use Rattle.rule_reader.specs.declared.rule.Event.TheVariants as event
use Rattle.rule_reader.specs.declared.rule.NumberOp.{NumberOp}
use Rattle.rule_reader.specs.declared.rule.Rule.{Rule}
use Rattle.rule_reader.specs.declared.state.Callee.{Callee}
use Rattle.rule_reader.specs.declared.state.Callee.TheVariants as callee
use Rattle.rule_reader.specs.declared.state.Pending.TheVariants as pending
use Rattle.rule_reader.specs.declared.state.Phrase.TheVariants as phrase
use Rattle.rule_reader.specs.declared.state.State.{State}
use Rattle.rule_reader.specs.declared.state.State.TheVariants.{Start, EventDue, EventRead, Called, ArgumentDue, CommaDue, SecondDue, CloseDue, TestDue, OpDue, RightDue, TestRead, ActionDue, ActionRead}
use Rattle.rule_reader.specs.declared.token.Token.{Token}
use Rattle.rule_reader.specs.declared.token.Token.TheVariants as token
use Rattle.rule_reader.proofs.KeywordLaws.{keyword_read}
use Rattle.rule_reader.proofs.NamingLaws.{part_read}
use Rattle.rule_reader.proofs.Pieces.{last_push}

module _ (limits : Limits) where
  one : (s : State) (t : Token) (next : State) (ts : List Token) → step limits s t ≡ Some next → state_after (step limits) s (t ∷ ts) ≡ state_after (step limits) next ts
  one s t next ts e = rw (e, state_after) refl

  -- a number that may stand
  stands : (b : Bool) (m : Option State) → b ≡ true → cond (not b) None m ≡ m
  stands true m e = refl
  stands false m e = absurd (cc)

  stands_too : (b : Bool) (m : Option State) → b ≡ true → cond (not b && true) None m ≡ m
  stands_too true m e = refl
  stands_too false m e = absurd (cc)

  no_depth : (b : Bool) (m : Option State) → cond (not b && false) None m ≡ m
  no_depth true m = refl
  no_depth false m = refl

  test_key : (n : Nest) (k : Keyword) (next : State) → after_key (TestDue n) (Some k) ≡ Some next → is_deep_not limits n (Some k) ≡ false → step limits (TestDue n) (key_token k) ≡ Some next
  test_key n k next e never = ap (λ m. cond (is_deep_not limits n m) None (after_key (TestDue n) m)) (keyword_read k) ∙ rw (never, e) refl

  and_false : (b : Bool) → (b && false) ≡ false
  and_false true = refl
  and_false false = refl

  when_so : (b : Bool) (x : State) → b ≡ true → cond b (Some x) None ≡ Some x
  when_so true x e = refl
  when_so false x e = absurd (cc)

  -- an event

  call : (c : Callee) (x : Name) (next : State) (rest : List Token) → with_argument c (part_text x) ≡ Some next
      → state_after (step limits) (Called c) (token.Open ∷ part_token x ∷ rest) ≡ state_after (step limits) next rest
  call c x next rest e = one (ArgumentDue c) (part_token x) next rest e

  -- a word, `(` and a part
  key_call : (s : State) (k : Keyword) (c : Callee) (x : Name) (next : State) (rest : List Token) → step limits s (key_token k) ≡ Some (Called c) → with_argument c (part_text x) ≡ Some next
      → state_after (step limits) s (key_token k ∷ token.Open ∷ part_token x ∷ rest) ≡ state_after (step limits) next rest
  key_call s k c x next rest e f = one s (key_token k) (Called c) (token.Open ∷ part_token x ∷ rest) e ∙ call c x next rest f

  event_run : (e : Event) (rest : List Token) → IsEvent limits e → state_after (step limits) EventDue (event_tokens e ++ rest) ≡ state_after (step limits) (EventRead e) rest
  event_run (event.Opened x) rest h =
      key_call EventDue (key.Begins begins.Opened) (callee.Event begins.Opened) x (CloseDue (phrase.Event (event.Opened x))) (token.Close ∷ rest) (ap (after_key EventDue) (keyword_read (key.Begins begins.Opened))) (ap (event_argument begins.Opened) (part_read x h.0) ∙ when_so (is_opened x) _ h.1)
  event_run (event.Closed x) rest h =
      key_call EventDue (key.Begins begins.Closed) (callee.Event begins.Closed) x (CloseDue (phrase.Event (event.Closed x))) (token.Close ∷ rest) (ap (after_key EventDue) (keyword_read (key.Begins begins.Closed))) (ap (event_argument begins.Closed) (part_read x h))
  event_run (event.Error m) rest h =
      key_call EventDue (key.Begins begins.Error) (callee.Event begins.Error) (name.Member m) (CloseDue (phrase.Event (event.Error m))) (token.Close ∷ rest) (ap (after_key EventDue) (keyword_read (key.Begins begins.Error))) (ap (event_argument begins.Error) (part_read (name.Member m) h))
  event_run (event.Timeout m n) rest h =
      key_call EventDue (key.Begins begins.Timeout) (callee.Event begins.Timeout) (name.Member m) (CommaDue (pending.Timeout m)) (token.Comma ∷ token.Number n ∷ token.Close ∷ rest) (ap (after_key EventDue) (keyword_read (key.Begins begins.Timeout))) (ap (event_argument begins.Timeout) (part_read (name.Member m) h.0))
      ∙ one (SecondDue (pending.Timeout m)) (token.Number n) (CloseDue (phrase.Event (event.Timeout m n))) (token.Close ∷ rest) (stands_too (limits.may_stand n) _ h.1)
  event_run (event.Threshold x n) rest h =
      key_call EventDue (key.Begins begins.Threshold) (callee.Event begins.Threshold) x (CommaDue (pending.Threshold x)) (token.Comma ∷ token.Number n ∷ token.Close ∷ rest) (ap (after_key EventDue) (keyword_read (key.Begins begins.Threshold))) (ap (event_argument begins.Threshold) (part_read x h.0) ∙ when_so (is_counted x) _ h.1)
      ∙ one (SecondDue (pending.Threshold x)) (token.Number n) (CloseDue (phrase.Event (event.Threshold x n))) (token.Close ∷ rest) (stands_too (limits.may_stand n) _ h.2)
  event_run (event.OutOfMemory j) rest h =
      key_call EventDue (key.Begins begins.OutOfMemory) (callee.Event begins.OutOfMemory) (name.Join j) (CloseDue (phrase.Event (event.OutOfMemory j))) (token.Close ∷ rest) (ap (after_key EventDue) (keyword_read (key.Begins begins.OutOfMemory))) (ap (event_argument begins.OutOfMemory) (part_read (name.Join j) h))

  -- conditions

  left_run : (n : Nest) (a : Amount) (rest : List Token) → IsAmount limits a → state_after (step limits) (TestDue n) (amount_tokens a ++ rest) ≡ state_after (step limits) (OpDue n a) rest
  left_run n (amount.Number k) rest h = one (TestDue n) (token.Number k) (OpDue n (amount.Number k)) rest (stands (limits.may_stand k) _ h)
  left_run n (amount.Count x) rest h =
      key_call (TestDue n) (key.Tests tests.Count) (callee.Test n tests.Count) x (CloseDue (phrase.Left n (amount.Count x))) (token.Close ∷ rest) (test_key n (key.Tests tests.Count) (Called (callee.Test n tests.Count)) refl (and_false _)) (ap (left_argument n) (part_read x h.0) ∙ when_so (is_counted x) _ h.1)

  right_run : (n : Nest) (left : Amount) (o : NumberOp) (a : Amount) (rest : List Token) → IsAmount limits a
      → state_after (step limits) (RightDue n left o) (amount_tokens a ++ rest) ≡ state_after (step limits) (TestRead (with_test n (condition.Compares left o a))) rest
  right_run n left o (amount.Number k) rest h = one (RightDue n left o) (token.Number k) (TestRead (with_test n (condition.Compares left o (amount.Number k)))) rest (stands (limits.may_stand k) _ h)
  right_run n left o (amount.Count x) rest h =
      key_call (RightDue n left o) (key.Tests tests.Count) (callee.Right n left o) x (CloseDue (phrase.Test n (condition.Compares left o (amount.Count x)))) (token.Close ∷ rest) (ap (after_key (RightDue n left o)) (keyword_read (key.Tests tests.Count))) (ap (right_argument n left o) (part_read x h.0) ∙ when_so (is_counted x) _ h.1)

  negated_more : (n : ℕ) (c : Condition) → negated (n + 1) c ≡ negated n (condition.Not c)
  negated_more zero c = refl
  negated_more (suc n) c = let e : suc n + 1 ≡ suc (n + 1) = omega arith in rw e (ap (λ x. condition.Not x) (negated_more n c))

  -- nothing stands directly before the test
  record IsFresh (n : Nest) : Type 0 where
    ands : n.here.ands ≡ None
    nots : n.here.nots ≡ 0

  abbrev with_conjunction : Nest → Condition → Tested
  with_conjunction n c = record { event = n.event; outer = n.outer; around = n.here.around; ors = n.here.ors; read = c }

  fresh_test : (n : Nest) (c : Condition) → IsFresh n → with_test n c ≡ with_conjunction n c
  fresh_test n c h = rw (h.ands, h.nots) refl

  -- what stands left of the last `or`, and right of it
  abbrev parts_of : Condition → Option Condition × Condition
  parts_of (Or' s (more_of-Condition c end_of-Condition) t (more_of-Condition d end_of-Condition)) = (Some c, d)
  parts_of c = (None, c)

  abbrev with_whole : Nest → Condition → Tested
  with_whole n c = record { event = n.event; outer = n.outer; around = n.here.around; ors = (parts_of c).0; read = (parts_of c).1 }

  whole_again : (c : Condition) → ored (parts_of c).0 (parts_of c).1 ≡ c
  unfolding hidden-the_row-Condition-0 hidden
  whole_again (Or' s (more_of-Condition c end_of-Condition) t (more_of-Condition d end_of-Condition)) = refl
  whole_again _ = refl

  no_or : (c : Condition) → is_conjunction c ≡ true → parts_of c ≡ (None, c)
  no_or (Or' s (more_of-Condition c end_of-Condition) t (more_of-Condition d end_of-Condition)) e = absurd (cc)
  no_or True e = refl
  no_or (Active m) e = refl
  no_or (Fired r) e = refl
  no_or (Compares a o b) e = refl
  no_or (Not' s c) e = refl
  no_or (Group' s c) e = refl
  no_or (And' s c t d) e = refl

  record Runs (c : Condition) : Type 0 where
    test : (n : Nest) (rest : List Token) → is_test c ≡ true → IsCondition limits (frame_depth n.here) c
        → state_after (step limits) (TestDue n) (condition_tokens c ++ rest) ≡ state_after (step limits) (TestRead (with_test n c)) rest
    conjunction : (n : Nest) (rest : List Token) → IsFresh n → is_conjunction c ≡ true → IsCondition limits n.here.around c
        → state_after (step limits) (TestDue n) (condition_tokens c ++ rest) ≡ state_after (step limits) (TestRead (with_conjunction n c)) rest
    whole : (n : Nest) (rest : List Token) → IsFresh n → n.here.ors ≡ None → IsCondition limits n.here.around c
        → state_after (step limits) (TestDue n) (condition_tokens c ++ rest) ≡ state_after (step limits) (TestRead (with_whole n c)) rest

  fresh_depth : (n : Nest) (c : Condition) → IsFresh n → IsCondition limits n.here.around c → IsCondition limits (frame_depth n.here) c
  fresh_depth n c f h = let e : n.here.around ≡ n.here.around + n.here.nots = omega (arith, f.nots) in subst (λ d. IsCondition limits d c) e h

  abbrev TestRuns : Condition → Type 0
  TestRuns c = (n : Nest) (rest : List Token) → IsCondition limits (frame_depth n.here) c
      → state_after (step limits) (TestDue n) (condition_tokens c ++ rest) ≡ state_after (step limits) (TestRead (with_test n c)) rest

  abbrev ConjunctionRuns : Condition → Type 0
  ConjunctionRuns c = (n : Nest) (rest : List Token) → IsFresh n → IsCondition limits n.here.around c
      → state_after (step limits) (TestDue n) (condition_tokens c ++ rest) ≡ state_after (step limits) (TestRead (with_conjunction n c)) rest

  whole_conjunction : (n : Nest) (c : Condition) → n.here.ors ≡ None → is_conjunction c ≡ true → with_conjunction n c ≡ with_whole n c
  whole_conjunction n c e shape = rw (e, no_or c shape) refl

  of_conjunction : (c : Condition) → (is_test c ≡ true → ⊥) → is_conjunction c ≡ true → ConjunctionRuns c → Runs c
  of_conjunction c never shape runs = record {
    test = λ n rest t h. absurd (never t);
    conjunction = λ n rest f s h. runs n rest f h;
    whole = λ n rest f o h. runs n rest f h ∙ ap (λ t. state_after (step limits) (TestRead t) rest) (whole_conjunction n c o shape);
  }

  of_test : (c : Condition) → is_conjunction c ≡ true → TestRuns c → Runs c
  of_test c shape runs = record {
    test = λ n rest t h. runs n rest h;
    conjunction = λ n rest f s h. runs n rest (fresh_depth n c f h) ∙ ap (λ t. state_after (step limits) (TestRead t) rest) (fresh_test n c f);
    whole = λ n rest f o h. runs n rest (fresh_depth n c f h) ∙ ap (λ t. state_after (step limits) (TestRead t) rest) (fresh_test n c f ∙ whole_conjunction n c o shape);
  }

  not_runs : (c : Condition) → Runs c → TestRuns (condition.Not c)
  unfolding hidden-the_row-Condition-0 hidden
  not_runs c r n rest h =
      let deep : is_deep_not limits n (Some key.Not) ≡ false = rw h.0 refl in
      let depth : (n.here.around + n.here.nots) + 1 ≡ n.here.around + (n.here.nots + 1) = omega arith in
      one (TestDue n) (key_token key.Not) (TestDue (under_not n)) (condition_tokens c ++ rest) (test_key n key.Not (TestDue (under_not n)) refl deep)
      ∙ r.test (under_not n) rest h.1 (subst (λ d. IsCondition limits d c) depth h.2)
      ∙ ap (λ x. state_after (step limits) (TestRead (record { event = n.event; outer = n.outer; around = n.here.around; ors = n.here.ors; read = anded n.here.ands x })) rest) (negated_more n.here.nots c)

  group_runs : (c : Condition) → Runs c → TestRuns (condition.Group c)
  unfolding hidden-the_row-Condition-0 hidden
  group_runs c r n rest h =
      let inner : Nest = in_group n in
      let fresh : IsFresh inner = record { ands = refl; nots = refl } in
      one (TestDue n) token.Open (TestDue inner) ((condition_tokens c ++ token.Close ∷ []) ++ rest) (stands (limits.may_nest (frame_depth n.here)) _ h.0)
      ∙ ap (state_after (step limits) (TestDue inner)) (append_assoc (condition_tokens c) (token.Close ∷ []) rest)
      ∙ r.whole inner (token.Close ∷ rest) fresh refl h.1
      ∙ one (TestRead (with_whole inner c)) token.Close (TestRead (with_test n (condition.Group c))) rest
      (ap (λ (m : Option (List Frame × Frame)). option_map TestRead (elim m as (λ _. Option Tested) [ None ↦ None | Some p ↦ Some (with_test (record { event = n.event; outer = p.0; here = p.1 }) (condition.Group (ored (parts_of c).0 (parts_of c).1))) ])) (last_push limits n.outer n.here)
      ∙ ap (λ x. Some (TestRead (with_test n (condition.Group x)))) (whole_again c))

  and_runs : (c d : Condition) → Runs c → Runs d → ConjunctionRuns (condition.And c d)
  unfolding hidden-the_row-Condition-0 hidden
  and_runs c d r q n rest f h =
      let left : Tested = with_conjunction n c in
      let depth : n.here.around ≡ n.here.around + 0 = omega arith in
      ap (state_after (step limits) (TestDue n)) (append_assoc (condition_tokens c) (key_token key.And ∷ condition_tokens d) rest)
      ∙ r.conjunction n (key_token key.And ∷ (condition_tokens d ++ rest)) f h.0 h.2
      ∙ one (TestRead left) (key_token key.And) (TestDue (after_and left)) (condition_tokens d ++ rest) (ap (after_key (TestRead left)) (keyword_read key.And))
      ∙ q.test (after_and left) rest h.1 (subst (λ x. IsCondition limits x d) depth h.3)

  or_runs : (c d : Condition) → Runs c → Runs d → Runs (condition.Or c d)
  unfolding hidden-the_row-Condition-0 hidden
  or_runs c d r q = record {
    test = λ n rest t h. absurd (cc);
    conjunction = λ n rest f s h. absurd (cc);
    whole = λ n rest f o h.
        let left : Tested = with_whole n c in
        let fresh : IsFresh (after_or left) = record { ands = refl; nots = refl } in
        ap (state_after (step limits) (TestDue n)) (append_assoc (condition_tokens c) (key_token key.Or ∷ condition_tokens d) rest)
        ∙ r.whole n (key_token key.Or ∷ (condition_tokens d ++ rest)) f o h.1
        ∙ one (TestRead left) (key_token key.Or) (TestDue (after_or left)) (condition_tokens d ++ rest) (ap (after_key (TestRead left)) (keyword_read key.Or))
        ∙ q.conjunction (after_or left) rest fresh h.0 h.2
        ∙ ap (λ x. state_after (step limits) (TestRead (record { event = n.event; outer = n.outer; around = n.here.around; ors = Some x; read = d })) rest) (whole_again c);
  }

  true_runs : TestRuns condition.True
  true_runs n rest h = one (TestDue n) (key_token key.True) (TestRead (with_test n condition.True)) rest (test_key n key.True _ refl (and_false _))

  active_runs : (m : _) → TestRuns (condition.Active m)
  active_runs m n rest h =
      key_call (TestDue n) (key.Tests tests.Active) (callee.Test n tests.Active) (name.Member m) (CloseDue (phrase.Test n (condition.Active m))) (token.Close ∷ rest) (test_key n (key.Tests tests.Active) (Called (callee.Test n tests.Active)) refl (and_false _)) (ap (active_argument n) (part_read (name.Member m) h))

  fired_runs : (r : List ℕ) → TestRuns (condition.Fired r)
  fired_runs r n rest h =
      one (TestDue n) (key_token (key.Tests tests.Fired)) (Called (callee.Test n tests.Fired)) (token.Open ∷ token.Word r ∷ token.Close ∷ rest) (test_key n (key.Tests tests.Fired) (Called (callee.Test n tests.Fired)) refl (and_false _))
      ∙ one (ArgumentDue (callee.Test n tests.Fired)) (token.Word r) (CloseDue (phrase.Test n (condition.Fired r))) (token.Close ∷ rest) (ap (fired_argument n) h)

  compares_runs : (a : Amount) (o : NumberOp) (b : Amount) → TestRuns (condition.Compares a o b)
  compares_runs a o b n rest h =
      ap (state_after (step limits) (TestDue n)) (append_assoc (amount_tokens a) (token.Compares o ∷ amount_tokens b) rest)
      ∙ left_run n a (token.Compares o ∷ (amount_tokens b ++ rest)) h.0
      ∙ one (OpDue n a) (token.Compares o) (RightDue n a o) (amount_tokens b ++ rest) refl
      ∙ right_run n a o b rest h.1

  runs : (c : Condition) → Runs c
  unfolding hidden-the_row-Condition-0 hidden
  runs True = of_test condition.True refl true_runs
  runs (Active m) = of_test (condition.Active m) refl (active_runs m)
  runs (Fired r) = of_test (condition.Fired r) refl (fired_runs r)
  runs (Compares a o b) = of_test (condition.Compares a o b) refl (compares_runs a o b)
  runs (Not' s (more_of-Condition c end_of-Condition)) = of_test (condition.Not c) refl (not_runs c (runs c))
  runs (Group' s (more_of-Condition c end_of-Condition)) = of_test (condition.Group c) refl (group_runs c (runs c))
  runs (And' s (more_of-Condition c end_of-Condition) t (more_of-Condition d end_of-Condition)) = of_conjunction (condition.And c d) (λ e. absurd (cc)) refl (and_runs c d (runs c) (runs d))
  runs (Or' s (more_of-Condition c end_of-Condition) t (more_of-Condition d end_of-Condition)) = or_runs c d (runs c) (runs d)

  -- actions

  action_run : (r : Rule) (a : Action) (rest : List Token) → IsAction limits a → state_after (step limits) (ActionDue r) (action_tokens a ++ rest) ≡ state_after (step limits) (ActionRead (with_action r a)) rest
  action_run r (action.Activate m) rest h =
      key_call (ActionDue r) (key.Acts acts.Activate) (callee.Act r acts.Activate) (name.Member m) (CloseDue (phrase.Act r (action.Activate m))) (token.Close ∷ rest) (ap (after_key (ActionDue r)) (keyword_read (key.Acts acts.Activate))) (ap (action_argument r acts.Activate) (part_read (name.Member m) h))
  action_run r (action.Deactivate m) rest h =
      key_call (ActionDue r) (key.Acts acts.Deactivate) (callee.Act r acts.Deactivate) (name.Member m) (CloseDue (phrase.Act r (action.Deactivate m))) (token.Close ∷ rest) (ap (after_key (ActionDue r)) (keyword_read (key.Acts acts.Deactivate))) (ap (action_argument r acts.Deactivate) (part_read (name.Member m) h))
  action_run r (action.Method j m) rest h =
      key_call (ActionDue r) (key.Acts acts.Method) (callee.Act r acts.Method) (name.Join j) (CommaDue (pending.Method r j)) (token.Comma ∷ key_token (key.Sets m) ∷ token.Close ∷ rest) (ap (after_key (ActionDue r)) (keyword_read (key.Acts acts.Method))) (ap (action_argument r acts.Method) (part_read (name.Join j) h))
      ∙ one (SecondDue (pending.Method r j)) (key_token (key.Sets m)) (CloseDue (phrase.Act r (action.Method j m))) (token.Close ∷ rest) (ap (after_key (SecondDue (pending.Method r j))) (keyword_read (key.Sets m)))
  action_run r (action.Quota j n) rest h =
      key_call (ActionDue r) (key.Acts acts.Quota) (callee.Act r acts.Quota) (name.Join j) (CommaDue (pending.Quota r j)) (token.Comma ∷ token.Number n ∷ token.Close ∷ rest) (ap (after_key (ActionDue r)) (keyword_read (key.Acts acts.Quota))) (ap (action_argument r acts.Quota) (part_read (name.Join j) h.0))
      ∙ one (SecondDue (pending.Quota r j)) (token.Number n) (CloseDue (phrase.Act r (action.Quota j n))) (token.Close ∷ rest) (stands_too (limits.may_stand n) _ h.1)
  action_run r action.Replan rest h = one (ActionDue r) (key_token key.Replan) (ActionRead (with_action r action.Replan)) rest (ap (after_key (ActionDue r)) (keyword_read key.Replan))
  action_run r action.Stop rest h = one (ActionDue r) (key_token key.Stop) (ActionRead (with_action r action.Stop)) rest (ap (after_key (ActionDue r)) (keyword_read key.Stop))

  abbrev with_actions : Rule → List Action → Rule
  with_actions r more = record { event = r.event; condition = r.condition; actions = r.actions ++ more }

  comma_run : (r : Rule) (more : List Action) → AllByRecursion (IsAction limits) more → state_after (step limits) (ActionRead r) (comma_actions more) ≡ Some (ActionRead (with_actions r more))
  comma_run r [] all = ap (λ (all' : List Action). Some (ActionRead (record { event = r.event; condition = r.condition; actions = all' }))) (sym (append-nil r.actions))
  comma_run r (a ∷ more) all =
      one (ActionRead r) token.Comma (ActionDue r) (action_tokens a ++ comma_actions more) refl
      ∙ action_run r a (comma_actions more) all.0 ∙ comma_run (with_action r a) more all.1
      ∙ ap (λ (all' : List Action). Some (ActionRead (record { event = r.event; condition = r.condition; actions = all' }))) (append_assoc r.actions (a ∷ []) more)

  actions_run : (e : Event) (c : Condition) (actions : List Action) → IsFull limits actions → AllByRecursion (IsAction limits) actions
      → state_after (step limits) (ActionDue (record { event = e; condition = c; actions = [] })) (actions_tokens actions) ≡ Some (ActionRead (record { event = e; condition = c; actions = actions }))
  actions_run e c [] full all = absurd full
  actions_run e c (a ∷ more) full all =
      action_run (record { event = e; condition = c; actions = [] }) a (comma_actions more) all.0 ∙ comma_run (record { event = e; condition = c; actions = a ∷ [] }) more all.1

  pub takes : (r : Rule) → IsRule limits r → state_after (step limits) Start (rule_tokens r) ≡ Some (ActionRead r)
  takes r h =
      let nest : Nest = first_nest r.event in
      let read : Tested = with_whole nest r.condition in
      let after_if : List Token = condition_tokens r.condition ++ (key_token key.Then ∷ actions_tokens r.actions) in
      let leads : option_map ActionDue (rule_head read) ≡ Some (ActionDue (record { event = r.event; condition = r.condition; actions = [] })) =
      ap (λ x. Some (ActionDue (record { event = r.event; condition = x; actions = [] }))) (whole_again r.condition) in
      one Start (key_token key.When) EventDue (event_tokens r.event ++ (key_token key.If ∷ after_if)) (ap (after_key Start) (keyword_read key.When))
      ∙ event_run r.event (key_token key.If ∷ after_if) h.event
      ∙ one (EventRead r.event) (key_token key.If) (TestDue nest) after_if (ap (after_key (EventRead r.event)) (keyword_read key.If))
      ∙ (runs r.condition).whole nest (key_token key.Then ∷ actions_tokens r.actions) (record { ands = refl; nots = refl }) refl h.condition
      ∙ one (TestRead read) (key_token key.Then) (ActionDue (record { event = r.event; condition = r.condition; actions = [] })) (actions_tokens r.actions) (ap (after_key (TestRead read)) (keyword_read key.Then) ∙ leads)
      ∙ actions_run r.event r.condition r.actions h.some h.each
