-- A machine that fits a grammar reads exactly the grammar's values, and stops exactly where a text breaks the grammar.
use Rattle.std.proofs.Common.{◌≡◌, ℕ, List, [], ◌∷◌, ◌++◌, Option, Some, None, Result, Ok, Err, append_assoc, append-nil, refl, sym, ap, subst, ◌∙◌, inl, inr}
use Rattle.std.proofs.lemmas.List.{map-append}
use Rattle.med_prelude.specs.Reading.{or_at}
use Rattle.text_reading.specs.Grammars.{BreaksAt, Spells, IsViable}
use Rattle.text_reading.specs.Lexing.{Lexeme, tokens}
use Rattle.text_reading.specs.Machines.{reading_by, state_after}

module _ {Q T S : Type 0} (spelling : Q → List T) (IsWhole : Q → Type 0) (IsReal : T → Type 0) (step : S → T → Option S) (finished : S → Option Q) (start : S) where
  -- the machine's states, and what it has read in them, fit the grammar
  pub record FitsGrammar (IsSound : S → Type 0) (spelled : S → List T) : Type 0 where
    pub starts : IsSound start
    pub nothing : spelled start ≡ []
    pub stays : (s : S) (t : T) (next : S) → IsSound s → step s t ≡ Some next → IsSound next
    pub spells : (s : S) (t : T) (next : S) → IsSound s → step s t ≡ Some next → spelled next ≡ spelled s ++ t ∷ []
    pub lives : (s : S) → IsSound s → IsViable spelling IsWhole IsReal (spelled s)
    pub ends : (s : S) (q : Q) → IsSound s → finished s ≡ Some q → Spells spelling IsWhole IsReal (spelled s) q
    pub final : Q → S
    pub finishes : (q : Q) → finished (final q) ≡ Some q
    pub takes : (q : Q) → IsWhole q → state_after step start (spelling q) ≡ Some (final q)

  -- what a reading reading_is_sound is so
  abbrev pub IsSoundReading : List (Lexeme T) → ℕ → Result Q ℕ → Type 0
  IsSoundReading ls size (Ok q) = Spells spelling IsWhole IsReal (tokens ls) q
  IsSoundReading ls size (Err at) = BreaksAt spelling IsWhole IsReal ls size at

  pub state_after_append : (s next : S) (xs ys : List T) → state_after step s xs ≡ Some next → state_after step s (xs ++ ys) ≡ state_after step next ys
  state_after_append s next [] ys e = let same : s ≡ next = cc in rw same refl
  state_after_append s next (x ∷ xs) ys e = by (step s x) (λ n h. state_after_append n next xs ys h) e
    where
      by : (m : Option S) → ((n : S) → state_after step n xs ≡ Some next → state_after step n (xs ++ ys) ≡ state_after step next ys) → elim m [ None ↦ None | Some n ↦ state_after step n xs ] ≡ Some next → elim m [ None ↦ None | Some n ↦ state_after step n (xs ++ ys) ] ≡ state_after step next ys
      by None more h = absurd (cc)
      by (Some n) more h = more n h

  state_after_one : (s next : S) (t : T) → step s t ≡ Some next → state_after step s (t ∷ []) ≡ Some next
  state_after_one s next t e = rw (e, state_after) refl

  state_after_none : (s : S) (t : T) (ts : List T) → step s t ≡ None → state_after step s (t ∷ ts) ≡ None
  state_after_none s t ts e = rw (e, state_after) refl

  reading_after : (size : ℕ) (s last : S) (ls : List (Lexeme T)) → state_after step s (tokens ls) ≡ Some last → reading_by step finished size s ls ≡ or_at size (finished last)
  reading_after size s last [] e = let same : s ≡ last = cc in rw same refl
  reading_after size s last (l ∷ ls) e = by (step s l.token) (λ n h. reading_after size n last ls h) e
    where
      by : (m : Option S) → ((n : S) → state_after step n (tokens ls) ≡ Some last → reading_by step finished size n ls ≡ or_at size (finished last)) → elim m [ None ↦ None | Some n ↦ state_after step n (tokens ls) ] ≡ Some last
          → elim m [ None ↦ Err l.at | Some n ↦ reading_by step finished size n ls ] ≡ or_at size (finished last)
      by None more h = absurd (cc)
      by (Some n) more h = more n h

  module _ (IsSound : S → Type 0) (spelled : S → List T) (fits : FitsGrammar IsSound spelled) where
    final_of : (ts : List T) (q : Q) → Spells spelling IsWhole IsReal ts q → state_after step start ts ≡ Some (fits.final q)
    final_of ts q h = rw (← h.1) (fits.takes q h.0)

    -- a value has one spelling, and a spelling one value
    pub unique : (ts : List T) (q r : Q) → Spells spelling IsWhole IsReal ts q → Spells spelling IsWhole IsReal ts r → q ≡ r
    unique ts q r h i =
        let a : Some (fits.final q) ≡ Some (fits.final r) = sym (final_of ts q h) ∙ final_of ts r i in
        let b : fits.final q ≡ fits.final r = cc in
        let c : Some q ≡ Some r = sym (fits.finishes q) ∙ ap finished b ∙ fits.finishes r in
        cc

    pub complete : (size : ℕ) (ls : List (Lexeme T)) (q : Q) → Spells spelling IsWhole IsReal (tokens ls) q → reading_by step finished size start ls ≡ Ok q
    complete size ls q h = reading_after size start (fits.final q) ls (final_of (tokens ls) q h) ∙ ap (or_at size) (fits.finishes q)

    dies : (s : S) (ts : List T) (t : T) → state_after step start ts ≡ Some s → step s t ≡ None → IsViable spelling IsWhole IsReal (ts ++ t ∷ []) → ⊥
    dies s ts t reached none viable =
        let whole : state_after step start (spelling viable.value) ≡ Some (fits.final viable.value) = fits.takes viable.value viable.whole in
        let parts : spelling viable.value ≡ ts ++ (t ∷ viable.rest) = viable.spelt ∙ append_assoc ts (t ∷ []) viable.rest in
        let stuck : state_after step start (spelling viable.value) ≡ None = ap (state_after step start) parts ∙ state_after_append start s ts (t ∷ viable.rest) reached ∙ state_after_none s t viable.rest none in
        absurd (cc)

    -- what was read is told, from any state on
    walk : (size : ℕ) (before ls : List (Lexeme T)) (s : S) → IsSound s → spelled s ≡ tokens before → state_after step start (tokens before) ≡ Some s
        → IsSoundReading (before ++ ls) size (reading_by step finished size s ls)
    walk size before [] s sound spelt reached = rw append-nil (by (finished s) refl)
      where
        by : (m : Option Q) → finished s ≡ m → IsSoundReading before size (or_at size m)
        by (Some q) e = let h : Spells spelling IsWhole IsReal (spelled s) q = fits.ends s q sound e in (h.0, h.1 ∙ spelt)
        by None e =
            inr (
              refl,
              record {
                live = subst (IsViable spelling IsWhole IsReal) spelt (fits.lives s sound);
                unfinished = λ q h.
                    let a : Some (fits.final q) ≡ Some s = sym (final_of (tokens before) q h) ∙ reached in
                    let b : fits.final q ≡ s = cc in
                    let c : Some q ≡ None = sym (fits.finishes q) ∙ ap finished b ∙ e in
                    absurd (cc);
              },
            )
    walk size before (l ∷ ls) s sound spelt reached = by (step s l.token) (λ n a b c. walk size (before ++ l ∷ []) ls n a b c) refl
      where
        by : (m : Option S)
            → ((n : S) → IsSound n → spelled n ≡ tokens (before ++ l ∷ []) → state_after step start (tokens (before ++ l ∷ [])) ≡ Some n → IsSoundReading ((before ++ l ∷ []) ++ ls) size (reading_by step finished size n ls))
            → step s l.token ≡ m → IsSoundReading (before ++ l ∷ ls) size (elim m [ None ↦ Err l.at | Some n ↦ reading_by step finished size n ls ])
        by None more_of e =
            inl (record {
              before = before;
              token = l.token;
              after = ls;
              parted = refl;
              live = subst (IsViable spelling IsWhole IsReal) spelt (fits.lives s sound);
              dead = dies s (tokens before) l.token reached e;
            })
        by (Some n) more_of e =
            let more : tokens (before ++ l ∷ []) ≡ tokens before ++ l.token ∷ [] = map-append (λ x. x.token) before (l ∷ []) in
            let here : spelled n ≡ tokens (before ++ l ∷ []) = fits.spells s l.token n sound e ∙ ap (λ ts. ts ++ l.token ∷ []) spelt ∙ sym more in
            let gone : state_after step start (tokens (before ++ l ∷ [])) ≡ Some n = ap (state_after step start) more ∙ state_after_append start s (tokens before) (l.token ∷ []) reached ∙ state_after_one s n l.token e in
            let rest : IsSoundReading ((before ++ l ∷ []) ++ ls) size (reading_by step finished size n ls) = more_of n (fits.stays s l.token n sound e) here gone in
            rw append_assoc at rest

    pub reading_is_sound : (size : ℕ) (ls : List (Lexeme T)) → IsSoundReading ls size (reading_by step finished size start ls)
    reading_is_sound size ls = walk size [] ls start fits.starts fits.nothing refl

    follow : (before ts : List T) (s last : S) → IsSound s → spelled s ≡ before → state_after step s ts ≡ Some last → IsSound last × (spelled last ≡ before ++ ts)
    follow before [] s last sound spelt e =
        let same : s ≡ last = cc in
        (subst IsSound same sound, ap spelled (sym same) ∙ spelt ∙ sym (append-nil before))
    follow before (t ∷ ts) s last sound spelt e = by (step s t) (λ n a b c. follow (before ++ t ∷ []) ts n last a b c) refl e
      where
        by : (m : Option S) → ((n : S) → IsSound n → spelled n ≡ before ++ t ∷ [] → state_after step n ts ≡ Some last → IsSound last × (spelled last ≡ (before ++ t ∷ []) ++ ts))
            → step s t ≡ m → elim m [ None ↦ None | Some n ↦ state_after step n ts ] ≡ Some last → IsSound last × (spelled last ≡ before ++ t ∷ ts)
        by None more leads h = absurd (cc)
        by (Some n) more leads h =
            let later : IsSound last × (spelled last ≡ (before ++ t ∷ []) ++ ts) =
            more n (fits.stays s t n sound leads) (fits.spells s t n sound leads ∙ ap (λ xs. xs ++ t ∷ []) spelt) h in
            (later.0, later.1 ∙ append_assoc before (t ∷ []) ts)

    -- tokens that the machine takes can be continued
    pub state_after_lives : (ts : List T) (s : S) → state_after step start ts ≡ Some s → IsViable spelling IsWhole IsReal ts
    state_after_lives ts s e =
        let after : IsSound s × (spelled s ≡ ts) = follow [] ts start s fits.starts fits.nothing e in
        subst (IsViable spelling IsWhole IsReal) after.1 (fits.lives s after.0)

    state_after_none_append : (s : S) (xs ys : List T) → state_after step s xs ≡ None → state_after step s (xs ++ ys) ≡ None
    state_after_none_append s [] ys e = absurd (cc)
    state_after_none_append s (x ∷ xs) ys e = by (step s x) (λ n h. state_after_none_append n xs ys h) e
      where
        by : (m : Option S) → ((n : S) → state_after step n xs ≡ None → state_after step n (xs ++ ys) ≡ None)
            → ◌≡◌ {A = Option S} (elim m [ None ↦ None | Some n ↦ state_after step n xs ]) None → ◌≡◌ {A = Option S} (elim m [ None ↦ None | Some n ↦ state_after step n (xs ++ ys) ]) None
        by None more h = refl
        by (Some n) more h = more n h

    -- tokens that it doesn't take can't
    pub state_after_dies : (ts : List T) → state_after step start ts ≡ None → IsViable spelling IsWhole IsReal ts → ⊥
    state_after_dies ts e viable =
        let whole : state_after step start (spelling viable.value) ≡ Some (fits.final viable.value) = fits.takes viable.value viable.whole in
        let stuck : state_after step start (spelling viable.value) ≡ None = ap (state_after step start) viable.spelt ∙ state_after_none_append start ts viable.rest e in
        absurd (cc)
