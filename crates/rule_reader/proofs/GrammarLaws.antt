-- The machine fits the grammar, with the limits of a rule and without any, and so what it reads is exact.
use Rattle.std.proofs.Common.{◌≡◌, ℕ, ◌&&◌, ◌≤◌, not, nat_lt, Bool, true, false, cond, List, [], ◌∷◌, ◌++◌, ◌⊎◌, length, Option, Some, None, option_map, Result, Ok, Err, append_assoc, arith, refl, sym, ap, subst, inl, inr, ◌∙◌}
use Rattle.std.proofs.lemmas.Bool.Decides.{nat_tests}
use Rattle.std.proofs.lemmas.List.{map-append}
use Rattle.med_prelude.specs.Reading.{or_at}
use Rattle.text_reading.specs.Checks.{broken_at}
use Rattle.text_reading.specs.Lexing.{AreTokensOf, Lexeme, lexemes_from, tokens}
use Rattle.text_reading.specs.Machines.{reading_by, state_after}
use Rattle.text_reading.specs.declared.checks.Broken.{Broken}
use Rattle.text_reading.proofs.LexingLaws as lexing
use Rattle.text_reading.proofs.MachineLaws as machine
use Rattle.rule_reader.specs.Grammar.{BreaksAt, IsReal, IsRule, Limits, PassesAt, Spells, no_limits, rule_limits, rule_tokens}
use Rattle.rule_reader.specs.Keywords.{keyword_in}
use Rattle.rule_reader.specs.Laws.{IsRefused}
use Rattle.rule_reader.specs.Machine.{after_key, finished_rule, frame_depth, is_deep_not, is_past, next, not_the_grammar, over_a_limit, step, takes_number, told_step, under_not, with_number}
use Rattle.rule_reader.specs.Reading.{longest_rule, rule_at_end, rule_of, told_reading}
use Rattle.rule_reader.specs.Tokens.{begins_space, lexemes_of, lexicon}
use Rattle.rule_reader.specs.declared.keyword.Keyword.{Keyword}
use Rattle.rule_reader.specs.declared.keyword.Keyword.TheVariants as key
use Rattle.rule_reader.specs.declared.rule.Rule.{Rule}
use Rattle.rule_reader.specs.declared.state.Pending.TheVariants as pending
use Rattle.rule_reader.specs.declared.state.State.{State}
use Rattle.rule_reader.specs.declared.state.State.TheVariants.{Start, SecondDue, CloseDue, TestDue, OpDue, RightDue, TestRead, ActionRead}
use Rattle.rule_reader.specs.declared.token.Token.{Token}
use Rattle.rule_reader.specs.declared.token.Token.TheVariants as token
use Rattle.rule_reader.proofs.Completions.{lives}
use Rattle.rule_reader.proofs.Keeps.{goes}
use Rattle.rule_reader.proofs.Spelled.{IsSound, spelled}
use Rattle.rule_reader.proofs.TokenLaws.{token_fits}
use Rattle.rule_reader.proofs.WholeRuns.{takes}

ends : (limits : Limits) (s : State) (r : Rule) → IsSound limits s → finished_rule s ≡ Some r → Spells limits (spelled s) r
ends limits (ActionRead q) r h e = let same : q ≡ r = cc in (subst (IsRule limits) same h, ap rule_tokens (sym same))
ends limits _ r h e = absurd (cc)

fits : (limits : Limits) → limits.may_stand 1 ≡ true → machine.FitsGrammar rule_tokens (IsRule limits) IsReal (step limits) finished_rule Start (IsSound limits) spelled
fits limits one = record {
  starts = tt;
  nothing = refl;
  stays = λ s t n h e. (goes limits s t h).sound n e;
  spells = λ s t n h e. (goes limits s t h).reads n e;
  lives = lives limits one;
  ends = ends limits;
  final = ActionRead;
  finishes = λ r. refl;
  takes = takes limits;
}

bounded : machine.FitsGrammar rule_tokens (IsRule rule_limits) IsReal (step rule_limits) finished_rule Start (IsSound rule_limits) spelled
bounded = fits rule_limits refl

unbounded : machine.FitsGrammar rule_tokens (IsRule no_limits) IsReal (step no_limits) finished_rule Start (IsSound no_limits) spelled
unbounded = fits no_limits refl

-- without limits nothing is past one
never_past : (s : State) (t : Token) → is_past no_limits s t ≡ false
never_past (SecondDue p) (token.Number n) = refl
never_past (TestDue m) (token.Number n) = refl
never_past (RightDue m left op) (token.Number n) = refl
never_past (TestDue n) token.Open = refl
never_past (TestDue n) (token.Word w) = refl
never_past s t = refl

free_step : (s : State) (t : Token) → step no_limits s t ≡ next s t
free_step s t = rw (never_past s t) refl

-- what is past a limit may come without limits

past_second : (limits : Limits) (p : _) (n : ℕ) → (not (limits.may_stand n) && takes_number p) ≡ true → (x : State) × (option_map CloseDue (with_number p n) ≡ Some x)
past_second limits (pending.Timeout m) n e = (CloseDue _, refl)
past_second limits (pending.Threshold y) n e = (CloseDue _, refl)
past_second limits (pending.Quota r j) n e = (CloseDue _, refl)
past_second limits (pending.Method r j) n e = by (limits.may_stand n) e
  where
    by : (b : Bool) → (not b && false) ≡ true → (x : State) × (option_map CloseDue (with_number (pending.Method r j) n) ≡ Some x)
    by true e = absurd (cc)
    by false e = absurd (cc)

past_not : (limits : Limits) (n : _) (k : Option Keyword) → is_deep_not limits n k ≡ true → (x : State) × (after_key (TestDue n) k ≡ Some x)
past_not limits n (Some key.Not) e = (TestDue (under_not n), refl)
past_not limits n k e = absurd (never (limits.may_nest (frame_depth n.here)) k e)
  where
    never : (b : Bool) (k : Option Keyword) → (not b && false) ≡ true → ⊥
    never true k e = cc
    never false k e = cc

past_goes : (limits : Limits) (s : State) (t : Token) → is_past limits s t ≡ true → (x : State) × (next s t ≡ Some x)
past_goes limits (SecondDue p) (token.Number n) e = past_second limits p n e
past_goes limits (TestDue m) (token.Number n) e = (OpDue m _, refl)
past_goes limits (RightDue m left op) (token.Number n) e = (TestRead _, refl)
past_goes limits (TestDue n) token.Open e = (TestDue _, refl)
past_goes limits (TestDue n) (token.Word w) e = past_not limits n (keyword_in w) e
past_goes limits s t e = absurd (cc)

-- what is told of a token is what the two machines make of it

abbrev IsTold : State → Token → Result State ℕ → Type 0
IsTold s t (Ok n) = (step rule_limits s t ≡ Some n) × (next s t ≡ Some n)
IsTold s t (Err why) = (step rule_limits s t ≡ None) × (((why ≡ not_the_grammar) × (next s t ≡ None)) ⊎ ((why ≡ over_a_limit) × ((x : State) × (next s t ≡ Some x))))

tells : (s : State) (t : Token) → IsTold s t (told_step s t)
tells s t = by (is_past rule_limits s t) refl (next s t) refl
  where
    by : (b : Bool) → is_past rule_limits s t ≡ b → (m : Option State) → next s t ≡ m → IsTold s t (cond b (Err over_a_limit) (or_at not_the_grammar m))
    by true e m f = (rw e refl, inr (refl, past_goes rule_limits s t e))
    by false e None f = (rw (e, f) refl, inl (refl, f))
    by false e (Some n) f = (rw (e, f) refl, f)

-- reading, with what is told forgotten or not

abbrev place : Result Rule (Broken ℕ) → Result Rule ℕ
place (Ok r) = Ok r
place (Err told) = Err told.at

bounded_reading : (size : ℕ) (s : State) (ls : List (Lexeme Token)) → place (told_reading size s ls) ≡ reading_by (step rule_limits) finished_rule size s ls
bounded_reading size s [] = by (finished_rule s)
  where
    by : (m : Option Rule) → place (rule_at_end size m) ≡ or_at size m
    by None = refl
    by (Some r) = refl
bounded_reading size s (l ∷ ls) = by (told_step s l.token) (tells s l.token) (λ n. bounded_reading size n ls)
  where
    by : (m : Result State ℕ) → IsTold s l.token m → ((n : State) → place (told_reading size n ls) ≡ reading_by (step rule_limits) finished_rule size n ls)
        → place (elim m as (λ _. Result Rule (Broken ℕ)) [ Err why ↦ Err (broken_at why l.at) | Ok n ↦ told_reading size n ls ])
        ≡ elim (step rule_limits s l.token) as (λ _. Result Rule ℕ) [ None ↦ Err l.at | Some n ↦ reading_by (step rule_limits) finished_rule size n ls ]
    by (Ok n) h more = rw h.0 (more n)
    by (Err why) h more = rw h.0 refl

wrong : {X : Type 0} (a b : Broken ℕ) → ◌≡◌ {A = Result X (Broken ℕ)} (Err a) (Err b) → a ≡ b
wrong a b e = cc

-- a refusal as no rule is one without limits too
free_reading : (size : ℕ) (s : State) (ls : List (Lexeme Token)) (told : Broken ℕ) → told_reading size s ls ≡ Err told → told.why ≡ not_the_grammar
    → reading_by (step no_limits) finished_rule size s ls ≡ Err told.at
free_reading size s [] told e w = by (finished_rule s) e
  where
    by : (m : Option Rule) → rule_at_end size m ≡ Err told → or_at size m ≡ Err told.at
    by None h = ap (λ (b : Broken ℕ). Err b.at) (wrong {X = Rule} (broken_at not_the_grammar size) told h)
    by (Some r) h = absurd (cc)
free_reading size s (l ∷ ls) told e w = by (told_step s l.token) (tells s l.token) (λ n. free_reading size n ls told) e
  where
    by : (m : Result State ℕ) → IsTold s l.token m → ((n : State) → told_reading size n ls ≡ Err told → told.why ≡ not_the_grammar → reading_by (step no_limits) finished_rule size n ls ≡ Err told.at)
        → elim m as (λ _. Result Rule (Broken ℕ)) [ Err why ↦ Err (broken_at why l.at) | Ok n ↦ told_reading size n ls ] ≡ Err told
        → elim (step no_limits s l.token) as (λ _. Result Rule ℕ) [ None ↦ Err l.at | Some n ↦ reading_by (step no_limits) finished_rule size n ls ] ≡ Err told.at
    by (Ok n) h more f = rw (free_step s l.token, h.1) (more n f w)
    by (Err why) h more f =
        let same : broken_at why l.at ≡ told = wrong {X = Rule} (broken_at why l.at) told f in
        by_why h.1 same
      where
        by_why : ((why ≡ not_the_grammar) × (next s l.token ≡ None)) ⊎ ((why ≡ over_a_limit) × ((x : State) × (next s l.token ≡ Some x))) → broken_at why l.at ≡ told
            → elim (step no_limits s l.token) as (λ _. Result Rule ℕ) [ None ↦ Err l.at | Some n ↦ reading_by (step no_limits) finished_rule size n ls ] ≡ Err told.at
        by_why (inl d) same = rw (free_step s l.token, d.1) (ap (λ (b : Broken ℕ). Err b.at) same)
        by_why (inr d) same = let two : over_a_limit ≡ not_the_grammar = sym d.0 ∙ ap (λ (b : Broken ℕ). b.why) same ∙ w in absurd (omega arith)

-- the state after one more token
after_one : (step' : State → Token → Option State) (before : List (Lexeme Token)) (l : Lexeme Token) (s : State) (m : Option State) → state_after step' Start (tokens before) ≡ Some s → step' s l.token ≡ m
    → state_after step' Start (tokens before ++ l.token ∷ []) ≡ m
after_one step' before l s m reached leads = machine.state_after_append rule_tokens (IsRule no_limits) IsReal step' finished_rule Start Start s (tokens before) (l.token ∷ []) reached ∙ by m leads
  where
    by : (m : Option State) → step' s l.token ≡ m → state_after step' s (l.token ∷ []) ≡ m
    by None e = rw (e, state_after) refl
    by (Some n) e = rw (e, state_after) refl

-- a refusal as over a limit is at the first token past one
past_reading : (size : ℕ) (before ls : List (Lexeme Token)) (s : State) (told : Broken ℕ) → state_after (step rule_limits) Start (tokens before) ≡ Some s → state_after (step no_limits) Start (tokens before) ≡ Some s
    → told_reading size s ls ≡ Err told → told.why ≡ over_a_limit → PassesAt (before ++ ls) told.at
past_reading size before [] s told reached free e w = by (finished_rule s) e
  where
    by : (m : Option Rule) → rule_at_end size m ≡ Err told → PassesAt (before ++ []) told.at
    by None h = let two : over_a_limit ≡ not_the_grammar = sym w ∙ ap (λ (b : Broken ℕ). b.why) (sym (wrong {X = Rule} (broken_at not_the_grammar size) told h)) in absurd (omega arith)
    by (Some r) h = absurd (cc)
past_reading size before (l ∷ ls) s told reached free e w = by (told_step s l.token) (tells s l.token) (λ n a b. past_reading size (before ++ l ∷ []) ls n told a b) e
  where
    by : (m : Result State ℕ) → IsTold s l.token m
        → ((n : State) → state_after (step rule_limits) Start (tokens (before ++ l ∷ [])) ≡ Some n → state_after (step no_limits) Start (tokens (before ++ l ∷ [])) ≡ Some n → told_reading size n ls ≡ Err told → told.why ≡ over_a_limit → PassesAt ((before ++ l ∷ []) ++ ls) told.at)
        → elim m as (λ _. Result Rule (Broken ℕ)) [ Err why ↦ Err (broken_at why l.at) | Ok n ↦ told_reading size n ls ] ≡ Err told
        → PassesAt (before ++ l ∷ ls) told.at
    by (Ok n) h more f =
        let apart : tokens (before ++ l ∷ []) ≡ tokens before ++ l.token ∷ [] = map-append (λ x. x.token) before (l ∷ []) in
        let one : state_after (step rule_limits) Start (tokens (before ++ l ∷ [])) ≡ Some n = ap (state_after (step rule_limits) Start) apart ∙ after_one (step rule_limits) before l s (Some n) reached h.0 in
        let two : state_after (step no_limits) Start (tokens (before ++ l ∷ [])) ≡ Some n = ap (state_after (step no_limits) Start) apart ∙ after_one (step no_limits) before l s (Some n) free (free_step s l.token ∙ h.1) in
        subst (λ xs. PassesAt xs told.at) (append_assoc before (l ∷ []) ls) (more n one two f w)
    by (Err why) h more f = by_why h.1 (wrong {X = Rule} (broken_at why l.at) told f)
      where
        by_why : ((why ≡ not_the_grammar) × (next s l.token ≡ None)) ⊎ ((why ≡ over_a_limit) × ((x : State) × (next s l.token ≡ Some x))) → broken_at why l.at ≡ told → PassesAt (before ++ l ∷ ls) told.at
        by_why (inl d) same = let two : not_the_grammar ≡ over_a_limit = sym d.0 ∙ ap (λ (b : Broken ℕ). b.why) same ∙ w in absurd (omega arith)
        by_why (inr d) same = subst (PassesAt (before ++ l ∷ ls)) (ap (λ (b : Broken ℕ). b.at) same) (record {
          before = before;
          token = l.token;
          after = ls;
          parted = refl;
          within = machine.state_after_lives rule_tokens (IsRule rule_limits) IsReal (step rule_limits) finished_rule Start (IsSound rule_limits) spelled bounded (tokens before) s reached;
          past = machine.state_after_dies rule_tokens (IsRule rule_limits) IsReal (step rule_limits) finished_rule Start (IsSound rule_limits) spelled bounded (tokens before ++ l.token ∷ []) (after_one (step rule_limits) before l s None reached h.0);
          live = machine.state_after_lives rule_tokens (IsRule no_limits) IsReal (step no_limits) finished_rule Start (IsSound no_limits) spelled unbounded (tokens before ++ l.token ∷ []) d.1.0 (after_one (step no_limits) before l s (Some d.1.0) free (free_step s l.token ∙ d.1.1));
        })

-- there are two reasons
two_reasons : (size : ℕ) (s : State) (ls : List (Lexeme Token)) (told : Broken ℕ) → told_reading size s ls ≡ Err told → (told.why ≡ not_the_grammar) ⊎ (told.why ≡ over_a_limit)
two_reasons size s [] told e = by (finished_rule s) e
  where
    by : (m : Option Rule) → rule_at_end size m ≡ Err told → (told.why ≡ not_the_grammar) ⊎ (told.why ≡ over_a_limit)
    by None h = inl (ap (λ (b : Broken ℕ). b.why) (sym (wrong {X = Rule} (broken_at not_the_grammar size) told h)))
    by (Some r) h = absurd (cc)
two_reasons size s (l ∷ ls) told e = by (told_step s l.token) (tells s l.token) (λ n. two_reasons size n ls told) e
  where
    by : (m : Result State ℕ) → IsTold s l.token m → ((n : State) → told_reading size n ls ≡ Err told → (told.why ≡ not_the_grammar) ⊎ (told.why ≡ over_a_limit))
        → elim m as (λ _. Result Rule (Broken ℕ)) [ Err why ↦ Err (broken_at why l.at) | Ok n ↦ told_reading size n ls ] ≡ Err told → (told.why ≡ not_the_grammar) ⊎ (told.why ≡ over_a_limit)
    by (Ok n) h more f = more n f
    by (Err why) h more f = by_why h.1 (ap (λ (b : Broken ℕ). b.why) (sym (wrong {X = Rule} (broken_at why l.at) told f)))
      where
        by_why : ((why ≡ not_the_grammar) × (next s l.token ≡ None)) ⊎ ((why ≡ over_a_limit) × ((x : State) × (next s l.token ≡ Some x))) → told.why ≡ why → (told.why ≡ not_the_grammar) ⊎ (told.why ≡ over_a_limit)
        by_why (inl d) same = inl (same ∙ d.0)
        by_why (inr d) same = inr (same ∙ d.0)

-- the whole text

not_over : (text : List ℕ) → length text ≤ longest_rule → nat_lt longest_rule (length text) ≡ false
not_over text h = grind (arith, nat_tests)

of_short : (text : List ℕ) → length text ≤ longest_rule → rule_of text ≡ told_reading (length text) Start (lexemes_of text)
unfolding rule_of
of_short text h = rw (not_over text h) refl

is_short : (text : List ℕ) (r : Rule) → rule_of text ≡ Ok r → length text ≤ longest_rule
unfolding rule_of
is_short text r e = by (nat_lt longest_rule (length text)) refl e
  where
    by : (b : Bool) → nat_lt longest_rule (length text) ≡ b → cond b (Err (broken_at over_a_limit longest_rule)) (told_reading (length text) Start (lexemes_of text)) ≡ Ok r → length text ≤ longest_rule
    by true f h = absurd (cc)
    by false f h = grind (arith, nat_tests)

bounded_sound : (size : ℕ) (ls : List (Lexeme Token)) → machine.IsSoundReading rule_tokens (IsRule rule_limits) IsReal (step rule_limits) finished_rule Start ls size (reading_by (step rule_limits) finished_rule size Start ls)
bounded_sound size ls = machine.reading_is_sound rule_tokens (IsRule rule_limits) IsReal (step rule_limits) finished_rule Start (IsSound rule_limits) spelled bounded size ls

pub sound : (text : List ℕ) (r : Rule) → rule_of text ≡ Ok r → (length text ≤ longest_rule) × Spells rule_limits (tokens (lexemes_of text)) r
sound text r e =
    let short : length text ≤ longest_rule = is_short text r e in
    let read : reading_by (step rule_limits) finished_rule (length text) Start (lexemes_of text) ≡ Ok r =
    sym (bounded_reading (length text) Start (lexemes_of text)) ∙ ap place (sym (of_short text short) ∙ e) in
    (short, subst (machine.IsSoundReading rule_tokens (IsRule rule_limits) IsReal (step rule_limits) finished_rule Start (lexemes_of text) (length text)) read (bounded_sound (length text) (lexemes_of text)))

pub complete : (text : List ℕ) (r : Rule) → length text ≤ longest_rule → Spells rule_limits (tokens (lexemes_of text)) r → rule_of text ≡ Ok r
complete text r short h =
    let read : reading_by (step rule_limits) finished_rule (length text) Start (lexemes_of text) ≡ Ok r =
    machine.complete rule_tokens (IsRule rule_limits) IsReal (step rule_limits) finished_rule Start (IsSound rule_limits) spelled bounded (length text) (lexemes_of text) r h in
    of_short text short ∙ by (told_reading (length text) Start (lexemes_of text)) (bounded_reading (length text) Start (lexemes_of text) ∙ read)
  where
    by : (m : Result Rule (Broken ℕ)) → place m ≡ Ok r → m ≡ Ok r
    by (Ok q) e = let same : q ≡ r = cc in ap (λ x. Ok x) same
    by (Err told) e = absurd (cc)

pub unique : (ts : List Token) (r q : Rule) → Spells no_limits ts r → Spells no_limits ts q → r ≡ q
unique = machine.unique rule_tokens (IsRule no_limits) IsReal (step no_limits) finished_rule Start (IsSound no_limits) spelled unbounded

pub exact : (text : List ℕ) (told : Broken ℕ) → length text ≤ longest_rule → rule_of text ≡ Err told → IsRefused text told
exact text told short e =
    let here : told_reading (length text) Start (lexemes_of text) ≡ Err told = sym (of_short text short) ∙ e in
    let read : reading_by (step rule_limits) finished_rule (length text) Start (lexemes_of text) ≡ Err told.at = sym (bounded_reading (length text) Start (lexemes_of text)) ∙ ap place here in (
      subst (machine.IsSoundReading rule_tokens (IsRule rule_limits) IsReal (step rule_limits) finished_rule Start (lexemes_of text) (length text)) read (bounded_sound (length text) (lexemes_of text)),
      by here (two_reasons (length text) Start (lexemes_of text) told here),
    )
  where
    by : told_reading (length text) Start (lexemes_of text) ≡ Err told → (told.why ≡ not_the_grammar) ⊎ (told.why ≡ over_a_limit)
        → ((told.why ≡ not_the_grammar) × BreaksAt no_limits (lexemes_of text) (length text) told.at) ⊎ ((told.why ≡ over_a_limit) × PassesAt (lexemes_of text) told.at)
    by here (inl w) = inl (
      w,
      subst (machine.IsSoundReading rule_tokens (IsRule no_limits) IsReal (step no_limits) finished_rule Start (lexemes_of text) (length text)) (free_reading (length text) Start (lexemes_of text) told here w)
          (machine.reading_is_sound rule_tokens (IsRule no_limits) IsReal (step no_limits) finished_rule Start (IsSound no_limits) spelled unbounded (length text) (lexemes_of text)),
    )
    by here (inr w) = inr (w, past_reading (length text) [] (lexemes_of text) Start told refl refl here w)

pub cut : (text : List ℕ) → begins_space text ≡ false → AreTokensOf lexicon 0 text (lexemes_from lexicon 0 0 text)
cut text dark = lexing.stand lexicon (λ at bytes t len e. (token_fits bytes t len e).0) 0 text
