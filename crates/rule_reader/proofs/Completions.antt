-- Each state of the machine has a completion by real tokens: one token leads to a state that has one.
use Rattle.std.proofs.Common.{◌≡◌, ℕ, zero, suc, ◌&&◌, not, Bool, true, false, cond, List, [], ◌∷◌, ◌++◌, length, Option, Some, None, option_map, append_assoc, append-nil, arith, refl, sym, ap, ◌∙◌}
use Rattle.med_base.specs.declared.names.MemberName.{MemberName}
use Rattle.med_base.specs.declared.names.Name.TheVariants as name
use Rattle.med_prelude.specs.Names.{continues_name, is_truth_word, starts_name}
use Rattle.rule_reader.specs.Grammar.{IsReal, IsViable, Limits, key_token, rule_tokens}
use Rattle.rule_reader.specs.Keywords.{keyword_text}
use Rattle.rule_reader.specs.Machine.{after_key, first_nest, frame_depth, is_deep_not, last_frame, ored, rule_head, step, with_action, with_test}
use Rattle.rule_reader.specs.Naming.{member_name, part_in}
use Rattle.rule_reader.specs.declared.keyword.ActionWord.TheVariants as acts
use Rattle.rule_reader.specs.declared.keyword.EventWord.TheVariants as begins
use Rattle.rule_reader.specs.declared.keyword.Keyword.TheVariants as key
use Rattle.rule_reader.specs.declared.keyword.TestWord.TheVariants as tests
use Rattle.rule_reader.specs.declared.nesting.Frame.{Frame}
use Rattle.rule_reader.specs.declared.nesting.Nest.{Nest}
use Rattle.rule_reader.specs.declared.nesting.Tested.{Tested}
use Rattle.rule_reader.specs.declared.rule.Action.TheVariants as action
use Rattle.rule_reader.specs.declared.rule.Amount.{Amount}
use Rattle.rule_reader.specs.declared.rule.Amount.TheVariants as amount
use Rattle.rule_reader.specs.declared.rule.Condition.TheVariants as condition
use Rattle.rule_reader.specs.declared.rule.Event.{Event}
use Rattle.rule_reader.specs.declared.rule.Event.TheVariants as event
use Rattle.rule_reader.specs.declared.rule.Method.TheVariants as method
use Rattle.rule_reader.specs.declared.rule.NumberOp.{NumberOp}
use Rattle.rule_reader.specs.declared.rule.NumberOp.TheVariants as op
use Rattle.rule_reader.specs.declared.rule.Rule.{Rule}
use Rattle.rule_reader.specs.declared.state.Callee.{Callee}
use Rattle.rule_reader.specs.declared.state.Callee.TheVariants as callee
use Rattle.rule_reader.specs.declared.state.Pending.{Pending}
use Rattle.rule_reader.specs.declared.state.Pending.TheVariants as pending
use Rattle.rule_reader.specs.declared.state.Phrase.{Phrase}
use Rattle.rule_reader.specs.declared.state.Phrase.TheVariants as phrase
use Rattle.rule_reader.specs.declared.state.State.{State}
use Rattle.rule_reader.specs.declared.state.State.TheVariants.{Start, EventDue, EventRead, Called, ArgumentDue, CommaDue, SecondDue, CloseDue, TestDue, OpDue, RightDue, TestRead, ActionDue, ActionRead}
use Rattle.rule_reader.specs.declared.token.Token.{Token}
use Rattle.rule_reader.specs.declared.token.Token.TheVariants as token
use Rattle.rule_reader.proofs.Keeps.{Goes, goes}
use Rattle.rule_reader.proofs.KeywordLaws.{keyword_read}
use Rattle.rule_reader.proofs.Spelled.{IsSound, spelled}

-- the words `a1.1.1`, `j1` and `x`
abbrev member_word : List ℕ
member_word = 97 ∷ 49 ∷ 46 ∷ 49 ∷ 46 ∷ 49 ∷ []

abbrev join_word : List ℕ
join_word = 106 ∷ 49 ∷ []

abbrev rule_word : List ℕ
rule_word = 120 ∷ []

one_member : MemberName
one_member = member_name 1 1 1

reads_member : part_in member_word ≡ Some (name.Member (member_name 1 1 1))
unfolding part_in
reads_member = refl

reads_join : part_in join_word ≡ Some (name.Join 1)
unfolding part_in
reads_join = refl

real_member : IsReal (token.Word member_word)
unfolding starts_name continues_name
real_member = record { bytes = member_word; spelt = refl }

real_join : IsReal (token.Word join_word)
unfolding starts_name continues_name
real_join = record { bytes = join_word; spelt = refl }

real_rule : IsReal (token.Word rule_word)
unfolding starts_name continues_name
real_rule = record { bytes = rule_word; spelt = refl }

real_when : IsReal (key_token key.When)
unfolding starts_name continues_name
real_when = record { bytes = keyword_text key.When; spelt = refl }

real_opened : IsReal (key_token (key.Begins begins.Opened))
unfolding starts_name continues_name
real_opened = record { bytes = keyword_text (key.Begins begins.Opened); spelt = refl }

real_if : IsReal (key_token key.If)
unfolding starts_name continues_name
real_if = record { bytes = keyword_text key.If; spelt = refl }

real_true : IsReal (key_token key.True)
unfolding starts_name continues_name
real_true = record { bytes = keyword_text key.True; spelt = refl }

real_then : IsReal (key_token key.Then)
unfolding starts_name continues_name
real_then = record { bytes = keyword_text key.Then; spelt = refl }

real_stop : IsReal (key_token key.Stop)
unfolding starts_name continues_name
real_stop = record { bytes = keyword_text key.Stop; spelt = refl }

real_left : IsReal (key_token (key.Sets method.Left))
unfolding starts_name continues_name
real_left = record { bytes = keyword_text (key.Sets method.Left); spelt = refl }

real_one : IsReal (token.Number 1)
unfolding starts_name
real_one = record { bytes = 49 ∷ []; spelt = refl }

real_equal : IsReal (token.Compares op.Eq)
unfolding starts_name
real_equal = record { bytes = 61 ∷ []; spelt = refl }

real_open : IsReal token.Open
unfolding starts_name
real_open = record { bytes = 40 ∷ []; spelt = refl }

real_close : IsReal token.Close
unfolding starts_name
real_close = record { bytes = 41 ∷ []; spelt = refl }

real_comma : IsReal token.Comma
unfolding starts_name
real_comma = record { bytes = 44 ∷ []; spelt = refl }

-- frames of which there is one have a last one
record Last (fs : List Frame) (n : ℕ) : Type 0 where
  before : List Frame
  frame : Frame
  found : last_frame fs ≡ Some (before, frame)
  count : length before ≡ n

last_there : (fs : List Frame) (n : ℕ) → length fs ≡ suc n → Last fs n
last_there [] n e = absurd (omega arith)
last_there (f ∷ []) zero e = record { before = []; frame = f; found = refl; count = refl }
last_there (f ∷ []) (suc n) e = absurd (omega arith)
last_there (f ∷ g ∷ fs) zero e = absurd (omega arith)
last_there (f ∷ g ∷ fs) (suc n) e =
    let more : Last (g ∷ fs) n = last_there (g ∷ fs) n (omega arith) in
    record { before = f ∷ more.before; frame = more.frame; found = rw more.found refl; count = ap suc more.count }

no_frames : (fs : List Frame) → length fs ≡ 0 → fs ≡ []
no_frames [] e = refl
no_frames (f ∷ fs) e = absurd (omega arith)

module _ (limits : Limits) (one : limits.may_stand 1 ≡ true) where
  -- a state that is sound has a completion
  record Lives (s : State) : Type 0 where
    viable : IsSound limits s → IsViable limits (spelled s)

  -- one token leads to a state that has one
  by_token : (s : State) (t : Token) (next : State) → IsReal t → step limits s t ≡ Some next → Lives next → Lives s
  by_token s t next real leads lives = record {
    viable = λ h.
        let went : Goes limits s t (step limits s t) = goes limits s t h in
        let later : IsViable limits (spelled next) = lives.viable (went.sound next leads) in
        record {
          value = later.value;
          rest = t ∷ later.rest;
          whole = later.whole;
          real = (real, later.real);
          spelt = later.spelt ∙ ap (λ ts. ts ++ later.rest) (went.reads next leads) ∙ append_assoc (spelled s) (t ∷ []) later.rest;
        };
  }

  done : (r : Rule) → Lives (ActionRead r)
  done r = record { viable = λ h. record { value = r; rest = []; whole = h; real = tt; spelt = sym (append-nil (rule_tokens r)) } }

  action_due : (r : Rule) → Lives (ActionDue r)
  action_due r = by_token (ActionDue r) (key_token key.Stop) (ActionRead (with_action r action.Stop)) real_stop (ap (after_key (ActionDue r)) (keyword_read key.Stop)) (done (with_action r action.Stop))

  -- a condition, by how many groups are open

  test_read : (n : ℕ) (t : Tested) → length t.outer ≡ n → Lives (TestRead t)
  test_read zero t e =
      let head : Rule = record { event = t.event; condition = ored t.ors t.read; actions = [] } in
      let leads : rule_head t ≡ Some head = ap (λ (fs : List Frame). elim fs as (λ _. Option Rule) [ [] ↦ Some (record { event = t.event; condition = ored t.ors t.read; actions = [] }) | f ∷ gs ↦ None ]) (no_frames t.outer e) in
      by_token (TestRead t) (key_token key.Then) (ActionDue head) real_then (ap (after_key (TestRead t)) (keyword_read key.Then) ∙ ap (option_map ActionDue) leads) (action_due head)
  test_read (suc n) t e =
      let last : Last t.outer n = last_there t.outer n e in
      let closed_one : Tested = with_test (record { event = t.event; outer = last.before; here = last.frame }) (condition.Group (ored t.ors t.read)) in
      by_token (TestRead t) token.Close (TestRead closed_one) real_close
      (ap (λ (m : Option (List Frame × Frame)). option_map TestRead (elim m as (λ _. Option Tested) [ None ↦ None | Some p ↦ Some (with_test (record { event = t.event; outer = p.0; here = p.1 }) (condition.Group (ored t.ors t.read))) ])) last.found)
      (test_read n closed_one last.count)

  any_read : (t : Tested) → Lives (TestRead t)
  any_read t = test_read (length t.outer) t refl

  no_depth : (b : Bool) (m : Option State) → cond (not b && false) None m ≡ m
  no_depth true m = refl
  no_depth false m = refl

  test_due : (n : Nest) → Lives (TestDue n)
  test_due n = by_token (TestDue n) (key_token key.True) (TestRead (with_test n condition.True)) real_true
      (ap (λ m. cond (is_deep_not limits n m) None (after_key (TestDue n) m)) (keyword_read key.True) ∙ no_depth (limits.may_nest (frame_depth n.here)) (Some (TestRead (with_test n condition.True))))
      (any_read (with_test n condition.True))

  stands : (b : Bool) (m : Option State) → b ≡ true → cond (not b) None m ≡ m
  stands true m e = refl
  stands false m e = absurd (cc)

  right_due : (n : Nest) (left : Amount) (o : NumberOp) → Lives (RightDue n left o)
  right_due n left o =
      let whole = condition.Compares left o (amount.Number 1) in
      by_token (RightDue n left o) (token.Number 1) (TestRead (with_test n whole)) real_one (stands (limits.may_stand 1) _ one) (any_read (with_test n whole))

  op_due : (n : Nest) (left : Amount) → Lives (OpDue n left)
  op_due n left = by_token (OpDue n left) (token.Compares op.Eq) (RightDue n left op.Eq) real_equal refl (right_due n left op.Eq)

  event_read : (e : Event) → Lives (EventRead e)
  event_read e = by_token (EventRead e) (key_token key.If) (TestDue (first_nest e)) real_if (ap (after_key (EventRead e)) (keyword_read key.If)) (test_due (first_nest e))

  close_due : (p : Phrase) → Lives (CloseDue p)
  close_due (phrase.Event e) = by_token (CloseDue (phrase.Event e)) token.Close (EventRead e) real_close refl (event_read e)
  close_due (phrase.Test n c) = by_token (CloseDue (phrase.Test n c)) token.Close (TestRead (with_test n c)) real_close refl (any_read (with_test n c))
  close_due (phrase.Left n left) = by_token (CloseDue (phrase.Left n left)) token.Close (OpDue n left) real_close refl (op_due n left)
  close_due (phrase.Act r a) = by_token (CloseDue (phrase.Act r a)) token.Close (ActionRead (with_action r a)) real_close refl (done (with_action r a))

  stands_too : (b : Bool) (m : Option State) → b ≡ true → cond (not b && true) None m ≡ m
  stands_too true m e = refl
  stands_too false m e = absurd (cc)

  second_due : (p : Pending) → Lives (SecondDue p)
  second_due (pending.Timeout m) = by_token (SecondDue (pending.Timeout m)) (token.Number 1) (CloseDue (phrase.Event (event.Timeout m 1))) real_one (stands_too (limits.may_stand 1) _ one) (close_due (phrase.Event (event.Timeout m 1)))
  second_due (pending.Threshold x) = by_token (SecondDue (pending.Threshold x)) (token.Number 1) (CloseDue (phrase.Event (event.Threshold x 1))) real_one (stands_too (limits.may_stand 1) _ one) (close_due (phrase.Event (event.Threshold x 1)))
  second_due (pending.Quota r j) = by_token (SecondDue (pending.Quota r j)) (token.Number 1) (CloseDue (phrase.Act r (action.Quota j 1))) real_one (stands_too (limits.may_stand 1) _ one) (close_due (phrase.Act r (action.Quota j 1)))
  second_due (pending.Method r j) = by_token (SecondDue (pending.Method r j)) (key_token (key.Sets method.Left)) (CloseDue (phrase.Act r (action.Method j method.Left))) real_left
      (ap (after_key (SecondDue (pending.Method r j))) (keyword_read (key.Sets method.Left))) (close_due (phrase.Act r (action.Method j method.Left)))

  comma_due : (p : Pending) → Lives (CommaDue p)
  comma_due p = by_token (CommaDue p) token.Comma (SecondDue p) real_comma refl (second_due p)

  with_member : (c : Callee) (next : State) → step limits (ArgumentDue c) (token.Word member_word) ≡ Some next → Lives next → Lives (ArgumentDue c)
  with_member c next leads lives = by_token (ArgumentDue c) (token.Word member_word) next real_member leads lives

  with_join : (c : Callee) (next : State) → step limits (ArgumentDue c) (token.Word join_word) ≡ Some next → Lives next → Lives (ArgumentDue c)
  with_join c next leads lives = by_token (ArgumentDue c) (token.Word join_word) next real_join leads lives

  argument_due : (c : Callee) → Lives (ArgumentDue c)
  unfolding part_in starts_name continues_name is_truth_word
  argument_due (callee.Event begins.Opened) = with_member _ (CloseDue _) refl (close_due _)
  argument_due (callee.Event begins.Closed) = with_member _ (CloseDue _) refl (close_due _)
  argument_due (callee.Event begins.Error) = with_member _ (CloseDue _) refl (close_due _)
  argument_due (callee.Event begins.Timeout) = with_member _ (CommaDue _) refl (comma_due _)
  argument_due (callee.Event begins.Threshold) = with_member _ (CommaDue _) refl (comma_due _)
  argument_due (callee.Event begins.OutOfMemory) = with_join _ (CloseDue _) refl (close_due _)
  argument_due (callee.Test n tests.Active) = with_member _ (CloseDue _) refl (close_due _)
  argument_due (callee.Test n tests.Fired) = by_token _ (token.Word rule_word) (CloseDue _) real_rule refl (close_due _)
  argument_due (callee.Test n tests.Count) = with_member _ (CloseDue _) refl (close_due _)
  argument_due (callee.Right n left o) = with_member _ (CloseDue _) refl (close_due _)
  argument_due (callee.Act r acts.Activate) = with_member _ (CloseDue _) refl (close_due _)
  argument_due (callee.Act r acts.Deactivate) = with_member _ (CloseDue _) refl (close_due _)
  argument_due (callee.Act r acts.Method) = with_join _ (CommaDue _) refl (comma_due _)
  argument_due (callee.Act r acts.Quota) = with_join _ (CommaDue _) refl (comma_due _)

  called : (c : Callee) → Lives (Called c)
  called c = by_token (Called c) token.Open (ArgumentDue c) real_open refl (argument_due c)

  event_due : Lives EventDue
  event_due = by_token EventDue (key_token (key.Begins begins.Opened)) (Called (callee.Event begins.Opened)) real_opened (ap (after_key EventDue) (keyword_read (key.Begins begins.Opened))) (called (callee.Event begins.Opened))

  start : Lives Start
  start = by_token Start (key_token key.When) EventDue real_when (ap (after_key Start) (keyword_read key.When)) event_due

  pub lives : (s : State) → IsSound limits s → IsViable limits (spelled s)
  lives Start h = start.viable h
  lives EventDue h = event_due.viable h
  lives (EventRead e) h = (event_read e).viable h
  lives (Called c) h = (called c).viable h
  lives (ArgumentDue c) h = (argument_due c).viable h
  lives (CommaDue p) h = (comma_due p).viable h
  lives (SecondDue p) h = (second_due p).viable h
  lives (CloseDue p) h = (close_due p).viable h
  lives (TestDue n) h = (test_due n).viable h
  lives (OpDue n left) h = (op_due n left).viable h
  lives (RightDue n left o) h = (right_due n left o).viable h
  lives (TestRead t) h = (any_read t).viable h
  lives (ActionDue r) h = (action_due r).viable h
  lives (ActionRead r) h = (done r).viable h
