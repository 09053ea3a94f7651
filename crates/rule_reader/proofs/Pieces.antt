-- What is added to what was read: tests, frames and actions.
use Rattle.std.proofs.Common.{◌≡◌, ℕ, zero, suc, ◌+◌, true, List, [], ◌∷◌, ◌++◌, Option, Some, None, append_assoc, append-nil, arith, refl, sym, ap, subst, ◌∙◌}
use Rattle.std.specs.List.{AllByRecursion}
use denote.Hole.Carrier.{hidden}
use Rattle.rule_reader.specs.Grammar.{IsAction, IsCondition, IsFull, IsRule, Limits, action_tokens, actions_tokens, comma_actions, condition_tokens, event_tokens, is_conjunction, is_test, key_token, no_limits, rule_tokens}
use Rattle.rule_reader.specs.Machine.{anded, closed_group, frame_depth, last_frame, negated, ored, with_action, with_test}
use Rattle.rule_reader.specs.declared.keyword.Keyword.TheVariants as key
use Rattle.rule_reader.specs.declared.nesting.Frame.{Frame}
use Rattle.rule_reader.specs.declared.nesting.Nest.{Nest}
use Rattle.rule_reader.specs.declared.nesting.Tested.{Tested}
use Rattle.rule_reader.specs.declared.rule.Action.{Action}
use Rattle.rule_reader.specs.declared.rule.Condition.{Condition, Or'}
use Rattle.rule_reader.specs.declared.rule.Condition.TheVariants as condition
use Rattle.rule_reader.specs.declared.rule.Condition.TheBlock.{hidden-the_row-Condition-0}
use Rattle.rule_reader.specs.declared.rule.Rule.{Rule}
use Rattle.rule_reader.specs.declared.token.Token.{Token}
use Rattle.rule_reader.specs.declared.token.Token.TheVariants as token
use Rattle.rule_reader.proofs.Spelled.{AreFrames, IsFrame, IsHead, IsLeftOfAnd, IsLeftOfOr, IsNest, IsTested, MayNest, and_tokens, depth_inside, due_tokens, each_action, event_front, frame_tokens, nest_tokens, not_tokens, or_tokens, outer_tokens, rule_front, tested_tokens}

-- conditions by what they are made of

pub tokens_not : (c : Condition) → condition_tokens (condition.Not c) ≡ key_token key.Not ∷ condition_tokens c
unfolding hidden-the_row-Condition-0 hidden
tokens_not c = refl

pub tokens_group : (c : Condition) → condition_tokens (condition.Group c) ≡ token.Open ∷ (condition_tokens c ++ token.Close ∷ [])
unfolding hidden-the_row-Condition-0 hidden
tokens_group c = refl

pub tokens_and : (c d : Condition) → condition_tokens (condition.And c d) ≡ condition_tokens c ++ (key_token key.And ∷ condition_tokens d)
unfolding hidden-the_row-Condition-0 hidden
tokens_and c d = refl

pub tokens_or : (c d : Condition) → condition_tokens (condition.Or c d) ≡ condition_tokens c ++ (key_token key.Or ∷ condition_tokens d)
unfolding hidden-the_row-Condition-0 hidden
tokens_or c d = refl

not_is_test : (c : Condition) → is_test (condition.Not c) ≡ true
unfolding hidden-the_row-Condition-0 hidden
not_is_test c = refl

pub group_is_test : (c : Condition) → is_test (condition.Group c) ≡ true
unfolding hidden-the_row-Condition-0 hidden
group_is_test c = refl

and_is_conjunction : (c d : Condition) → is_conjunction (condition.And c d) ≡ true
unfolding hidden-the_row-Condition-0 hidden
and_is_conjunction c d = refl

pub test_is_conjunction : (c : Condition) → is_test c ≡ true → is_conjunction c ≡ true
test_is_conjunction (Or' s c t d) e = absurd (cc)
test_is_conjunction _ e = refl

module _ (limits : Limits) where
  not_condition : (depth : ℕ) (c : Condition) → limits.may_nest depth ≡ true → is_test c ≡ true → IsCondition limits (depth + 1) c → IsCondition limits depth (condition.Not c)
  unfolding hidden-the_row-Condition-0 hidden
  not_condition depth c may shape h = (may, shape, h)

  pub group_condition : (depth : ℕ) (c : Condition) → limits.may_nest depth ≡ true → IsCondition limits (depth + 1) c → IsCondition limits depth (condition.Group c)
  unfolding hidden-the_row-Condition-0 hidden
  group_condition depth c may h = (may, h)

  and_condition : (depth : ℕ) (c d : Condition) → is_conjunction c ≡ true → is_test d ≡ true → IsCondition limits depth c → IsCondition limits depth d → IsCondition limits depth (condition.And c d)
  unfolding hidden-the_row-Condition-0 hidden
  and_condition depth c d left right h i = (left, right, h, i)

  or_condition : (depth : ℕ) (c d : Condition) → is_conjunction d ≡ true → IsCondition limits depth c → IsCondition limits depth d → IsCondition limits depth (condition.Or c d)
  unfolding hidden-the_row-Condition-0 hidden
  or_condition depth c d shape h i = (shape, h, i)

  -- under `not`, behind an `and`, behind an `or`

  negated_is_test : (n : ℕ) (c : Condition) → is_test c ≡ true → is_test (negated n c) ≡ true
  negated_is_test zero c e = e
  negated_is_test (suc n) c e = not_is_test (negated n c)

  negated_tokens : (n : ℕ) (c : Condition) → condition_tokens (negated n c) ≡ not_tokens n ++ condition_tokens c
  negated_tokens zero c = refl
  negated_tokens (suc n) c = tokens_not (negated n c) ∙ ap (λ ts. key_token key.Not ∷ ts) (negated_tokens n c)

  negated_condition : (depth n : ℕ) (c : Condition) → MayNest limits depth n → is_test c ≡ true → IsCondition limits (depth + n) c → IsCondition limits depth (negated n c)
  negated_condition depth zero c may shape h = let here : depth + 0 ≡ depth = omega arith in subst (λ d. IsCondition limits d c) here h
  negated_condition depth (suc n) c may shape h =
      let here : depth + suc n ≡ (depth + 1) + n = omega arith in
      not_condition depth (negated n c) may.0 (negated_is_test n c shape) (negated_condition (depth + 1) n c may.1 shape (subst (λ d. IsCondition limits d c) here h))

  anded_tokens : (left : Option Condition) (c : Condition) → condition_tokens (anded left c) ≡ and_tokens left ++ condition_tokens c
  anded_tokens None c = refl
  anded_tokens (Some l) c = tokens_and l c ∙ sym (append_assoc (condition_tokens l) (key_token key.And ∷ []) (condition_tokens c))

  anded_condition : (depth : ℕ) (left : Option Condition) (c : Condition) → IsLeftOfAnd limits depth left → is_test c ≡ true → IsCondition limits depth c
      → (is_conjunction (anded left c) ≡ true) × IsCondition limits depth (anded left c)
  anded_condition depth None c l shape h = (test_is_conjunction c shape, h)
  anded_condition depth (Some l) c i shape h = (and_is_conjunction l c, and_condition depth l c i.0 shape i.1 h)

  pub ored_tokens : (left : Option Condition) (c : Condition) → condition_tokens (ored left c) ≡ or_tokens left ++ condition_tokens c
  ored_tokens None c = refl
  ored_tokens (Some l) c = tokens_or l c ∙ sym (append_assoc (condition_tokens l) (key_token key.Or ∷ []) (condition_tokens c))

  pub ored_condition : (depth : ℕ) (left : Option Condition) (c : Condition) → IsLeftOfOr limits depth left → is_conjunction c ≡ true → IsCondition limits depth c → IsCondition limits depth (ored left c)
  ored_condition depth None c l shape h = h
  ored_condition depth (Some l) c i shape h = or_condition depth l c shape i h

  -- a test was read

  pub test_tokens : (n : Nest) (c : Condition) → tested_tokens (with_test n c) ≡ nest_tokens n ++ condition_tokens c
  test_tokens n c =
      let front = event_front n.event in
      let outer = outer_tokens n.outer in
      let ors = or_tokens n.here.ors in
      let ands = and_tokens n.here.ands in
      let nots = not_tokens n.here.nots in
      let inner : condition_tokens (anded n.here.ands (negated n.here.nots c)) ≡ (ands ++ nots) ++ condition_tokens c =
      anded_tokens n.here.ands (negated n.here.nots c) ∙ ap (λ ts. ands ++ ts) (negated_tokens n.here.nots c) ∙ sym (append_assoc ands nots (condition_tokens c)) in
      ap (λ ts. front ++ (outer ++ (ors ++ ts))) inner ∙ ap (λ ts. front ++ (outer ++ ts)) (sym (append_assoc ors (ands ++ nots) (condition_tokens c)))
      ∙ ap (λ ts. front ++ ts) (sym (append_assoc outer (ors ++ (ands ++ nots)) (condition_tokens c))) ∙ sym (append_assoc front (outer ++ (ors ++ (ands ++ nots))) (condition_tokens c))

  pub test_sound : (n : Nest) (c : Condition) → IsNest limits n → is_test c ≡ true → IsCondition limits (frame_depth n.here) c → IsTested limits (with_test n c)
  test_sound n c h shape i =
      let inner = negated_condition n.here.around n.here.nots c h.here.nots shape i in
      let whole = anded_condition n.here.around n.here.ands (negated n.here.nots c) h.here.ands (negated_is_test n.here.nots c shape) inner in
      record { event = h.event; outer = h.outer; around = h.around; ors = h.here.ors; shape = whole.0; read = whole.1 }

  -- frames

  pub last_of : (fs : List Frame) (p : List Frame × Frame) → last_frame fs ≡ Some p → fs ≡ p.0 ++ p.1 ∷ []
  last_of [] p e = absurd (cc)
  last_of (f ∷ fs) p e = by (last_frame fs) (λ q g. last_of fs q g) refl e
    where
      inside : (x y : List Frame × Frame) → Some x ≡ Some y → x ≡ y
      inside x y g = cc

      empty : (gs : List Frame) → last_frame gs ≡ None → gs ≡ []
      empty [] g = refl
      empty (x ∷ gs) g = never (last_frame gs) g
        where
          never : (m : Option (List Frame × Frame)) → elim m as (λ _. Option (List Frame × Frame)) [ None ↦ Some ([], x) | Some q ↦ Some (x ∷ q.0, q.1) ] ≡ None → x ∷ gs ≡ []
          never None g = absurd (cc)
          never (Some q) g = absurd (cc)

      by : (m : Option (List Frame × Frame)) → ((q : List Frame × Frame) → m ≡ Some q → fs ≡ q.0 ++ q.1 ∷ []) → last_frame fs ≡ m
          → elim m as (λ _. Option (List Frame × Frame)) [ None ↦ Some ([], f) | Some q ↦ Some (f ∷ q.0, q.1) ] ≡ Some p → f ∷ fs ≡ p.0 ++ p.1 ∷ []
      by None more g h = subst (λ (q : List Frame × Frame). f ∷ fs ≡ q.0 ++ q.1 ∷ []) (inside ([], f) p h) (ap (λ gs. f ∷ gs) (empty fs g))
      by (Some q) more g h = subst (λ (r : List Frame × Frame). f ∷ fs ≡ r.0 ++ r.1 ∷ []) (inside (f ∷ q.0, q.1) p h) (ap (λ gs. f ∷ gs) (more q refl))

  pub last_push : (fs : List Frame) (f : Frame) → last_frame (fs ++ f ∷ []) ≡ Some (fs, f)
  last_push [] f = refl
  last_push (g ∷ fs) f = rw (last_push fs f) refl

  pub outer_push : (fs : List Frame) (f : Frame) → outer_tokens (fs ++ f ∷ []) ≡ outer_tokens fs ++ (frame_tokens f ++ token.Open ∷ [])
  outer_push [] f = refl
  outer_push (g ∷ fs) f = ap (λ ts. frame_tokens g ++ (token.Open ∷ ts)) (outer_push fs f) ∙ sym (append_assoc (frame_tokens g) (token.Open ∷ outer_tokens fs) (frame_tokens f ++ token.Open ∷ []))

  pub frames_push : (depth : ℕ) (fs : List Frame) (f : Frame) → AreFrames limits depth fs → f.around ≡ depth_inside limits depth fs → IsFrame limits f → limits.may_nest (frame_depth f) ≡ true
      → AreFrames limits depth (fs ++ f ∷ [])
  frames_push depth [] f all around h may = (around, h, may, tt)
  frames_push depth (g ∷ fs) f all around h may = (all.0, all.1, all.2, frames_push (frame_depth g + 1) fs f all.3 around h may)

  pub depth_push : (depth : ℕ) (fs : List Frame) (f : Frame) → depth_inside limits depth (fs ++ f ∷ []) ≡ frame_depth f + 1
  depth_push depth [] f = refl
  depth_push depth (g ∷ fs) f = depth_push (frame_depth g + 1) fs f

  -- the last of frames, and those before it
  pub record Parts (depth : ℕ) (fs : List Frame) (f : Frame) : Type 0 where
    pub before : AreFrames limits depth fs
    pub around : f.around ≡ depth_inside limits depth fs
    pub frame : IsFrame limits f
    pub may : limits.may_nest (frame_depth f) ≡ true

  pub frames_pop : (depth : ℕ) (fs : List Frame) (f : Frame) → AreFrames limits depth (fs ++ f ∷ []) → Parts depth fs f
  frames_pop depth [] f all = record { before = tt; around = all.0; frame = all.1; may = all.2 }
  frames_pop depth (g ∷ fs) f all =
      let more : Parts (frame_depth g + 1) fs f = frames_pop (frame_depth g + 1) fs f all.3 in
      record { before = (all.0, all.1, all.2, more.before); around = more.around; frame = more.frame; may = more.may }

  pub nots_push : (depth n : ℕ) → MayNest limits depth n → limits.may_nest (depth + n) ≡ true → MayNest limits depth (n + 1)
  nots_push depth zero may more =
      let here : depth + 0 ≡ depth = omega arith in
      (ap limits.may_nest (sym here) ∙ more, tt)
  nots_push depth (suc n) may more =
      let here : depth + suc n ≡ (depth + 1) + n = omega arith in
      let next : suc n + 1 ≡ suc (n + 1) = omega arith in
      rw next (may.0, nots_push (depth + 1) n may.1 (ap limits.may_nest (sym here) ∙ more))

  pub not_push : (n : ℕ) → not_tokens (n + 1) ≡ not_tokens n ++ key_token key.Not ∷ []
  not_push zero = refl
  not_push (suc n) = let next : suc n + 1 ≡ suc (n + 1) = omega arith in rw next (ap (λ ts. key_token key.Not ∷ ts) (not_push n))

  -- actions

  comma_push : (actions : List Action) (a : Action) → comma_actions (actions ++ a ∷ []) ≡ (token.Comma ∷ each_action actions) ++ action_tokens a
  comma_push [] a = ap (λ ts. token.Comma ∷ ts) (append-nil (action_tokens a))
  comma_push (b ∷ actions) a = ap (λ ts. token.Comma ∷ ts) (ap (λ ts. action_tokens b ++ ts) (comma_push actions a) ∙ sym (append_assoc (action_tokens b) (token.Comma ∷ each_action actions) (action_tokens a)))

  actions_push : (actions : List Action) (a : Action) → actions_tokens (actions ++ a ∷ []) ≡ each_action actions ++ action_tokens a
  actions_push [] a = append-nil (action_tokens a)
  actions_push (b ∷ actions) a = ap (λ ts. action_tokens b ++ ts) (comma_push actions a) ∙ sym (append_assoc (action_tokens b) (token.Comma ∷ each_action actions) (action_tokens a))

  comma_after : (actions : List Action) → token.Comma ∷ each_action actions ≡ comma_actions actions ++ token.Comma ∷ []
  comma_after [] = refl
  comma_after (b ∷ actions) = ap (λ ts. token.Comma ∷ ts) (ap (λ ts. action_tokens b ++ ts) (comma_after actions) ∙ sym (append_assoc (action_tokens b) (comma_actions actions) (token.Comma ∷ [])))

  actions_comma : (actions : List Action) → IsFull limits actions → each_action actions ≡ actions_tokens actions ++ token.Comma ∷ []
  actions_comma [] full = absurd full
  actions_comma (b ∷ actions) full = ap (λ ts. action_tokens b ++ ts) (comma_after actions) ∙ sym (append_assoc (action_tokens b) (comma_actions actions) (token.Comma ∷ []))

  -- the front of a rule, taken apart
  front_apart : (r : Rule) (ts : List Token) → rule_front r ++ ts ≡ key_token key.When ∷ (event_tokens r.event ++ (key_token key.If ∷ (condition_tokens r.condition ++ (key_token key.Then ∷ ts))))
  front_apart r ts =
      ap (λ xs. key_token key.When ∷ xs) (append_assoc (event_tokens r.event) (key_token key.If ∷ (condition_tokens r.condition ++ key_token key.Then ∷ [])) ts
      ∙ ap (λ xs. event_tokens r.event ++ (key_token key.If ∷ xs)) (append_assoc (condition_tokens r.condition) (key_token key.Then ∷ []) ts))

  pub action_push : (r : Rule) (a : Action) → rule_tokens (with_action r a) ≡ due_tokens r ++ action_tokens a
  action_push r a =
      ap (λ ts. key_token key.When ∷ (event_tokens r.event ++ (key_token key.If ∷ (condition_tokens r.condition ++ (key_token key.Then ∷ ts))))) (actions_push r.actions a)
      ∙ sym (front_apart r (each_action r.actions ++ action_tokens a)) ∙ sym (append_assoc (rule_front r) (each_action r.actions) (action_tokens a))

  pub rule_comma : (r : Rule) → IsFull limits r.actions → due_tokens r ≡ rule_tokens r ++ token.Comma ∷ []
  rule_comma r full =
      ap (λ ts. rule_front r ++ ts) (actions_comma r.actions full) ∙ sym (append_assoc (rule_front r) (actions_tokens r.actions) (token.Comma ∷ []))
      ∙ ap (λ ts. ts ++ token.Comma ∷ []) (front_apart r (actions_tokens r.actions))

  pub full_push : (actions : List Action) (a : Action) → IsFull limits (actions ++ a ∷ [])
  full_push [] a = tt
  full_push (b ∷ actions) a = tt

  pub all_push : (actions : List Action) (a : Action) → AllByRecursion (IsAction limits) actions → IsAction limits a → AllByRecursion (IsAction limits) (actions ++ a ∷ [])
  all_push [] a all h = (h, tt)
  all_push (b ∷ actions) a all h = (all.0, all_push actions a all.1 h)

  pub action_sound : (r : Rule) (a : Action) → IsHead limits r → IsAction limits a → IsRule limits (with_action r a)
  action_sound r a h i = record { event = h.event; condition = h.condition; some = full_push r.actions a; each = all_push r.actions a h.each i }

-- a group is closed
pub group_closed : (tested : Tested) (frames outer : List Frame) (here : Frame) (group : Condition) (closed : Tested) → outer ≡ tested.outer → outer ≡ frames ++ here ∷ [] → group ≡ ored tested.ors tested.read
    → closed ≡ with_test (record { event = tested.event; outer = frames; here = here }) (condition.Group group) → Some closed ≡ closed_group tested
group_closed tested frames outer here group closed taken parted same e =
    let apart : tested.outer ≡ frames ++ here ∷ [] = sym taken ∙ parted in
    let found : last_frame tested.outer ≡ Some (frames, here) = ap last_frame apart ∙ last_push no_limits frames here in
    ap (λ x. Some x) (e ∙ ap (λ g. with_test (record { event = tested.event; outer = frames; here = here }) (condition.Group g)) same)
    ∙ sym (ap (λ (m : Option (List Frame × Frame)). elim m as (λ _. Option Tested) [
      | None ↦ None
      | Some p ↦ Some (with_test (record { event = tested.event; outer = p.0; here = p.1 }) (condition.Group (ored tested.ors tested.read)))
    ]) found)
