-- What a step of a join does to one pair of rows.
use Rattle.std.proofs.Common.{◌≡◌, ◌<◌, ◌≤◌, ◌+◌, ◌==◌, ◌++◌, ◌&&◌, ◌||◌, not, nat_le, ℕ, Bool, true, false, List, [], ◌∷◌, length, get_or, filter, Some, None, inl, inr, refl, sym, ap, subst, ◌∙◌, arith}
use Rattle.std.proofs.lemmas.Bool.{and_parts, cases_lt, cases_order, eq-eqb, eqb-true, false≢true, le-leb, leb-true, lt-leb}
use Rattle.std.proofs.lemmas.List.{get_or_default, get_or_push, length_push}
use Rattle.tuple_core.specs.Hashing.{bucket_of}
use Rattle.bucket_store.specs.Held.{ArePlaced, Held, HeldList, has_key, rows_in, same_key}
use Rattle.bucket_store.specs.Places.{next_place}
use Rattle.bucket_store.proofs.Places.{IsNext, is_next, none_next}
use Rattle.join_core.specs.Given.{pends}
use Rattle.join_core.specs.Kept.{AreRising}
use Rattle.join_core.specs.State.{Probing}
use Rattle.join_core.specs.Steps.{is_row}
use Rattle.join_core.proofs.Flat.{bool_from, is_no_row, is_row_itself, all_in, keys_same, keys_turned, one_place, row_once, same_keys}

-- the probe's row lies last in its bucket, and faces the other side's rows from a place on
pub record Faces (mine theirs : List HeldList) (p : Probing) (own : Held) (place : ℕ) : Type 0 where
  pub mine_placed : ArePlaced mine
  pub theirs_placed : ArePlaced theirs
  pub many : length theirs ≡ length mine
  pub inside : p.bucket < length mine
  pub mine_rising : AreRising (rows_in mine p.bucket)
  pub theirs_rising : AreRising (rows_in theirs p.bucket)
  pub others : HeldList
  pub last : rows_in mine p.bucket ≡ others ++ own ∷ []
  pub number_is : own.number ≡ p.number
  pub bucket_is : bucket_of (length mine) own.key ≡ p.bucket
  pub behind : (k : ℕ) (d : Held) → k < place → k < length (rows_in theirs p.bucket) → (get_or (rows_in theirs p.bucket) k d).number < p.from
  pub ahead : (k : ℕ) (d : Held) → place ≤ k → k < length (rows_in theirs p.bucket) → p.from ≤ (get_or (rows_in theirs p.bucket) k d).number

abbrev is_own : ℕ → Probing → Held → Bool
is_own count p x = (bucket_of count x.key == p.bucket) && (x.number == p.number)

-- the pair was given: a match that doesn't pend
abbrev gives : Bool → Bool → Bool
gives match pending = match && not pending

elsewhere : (m o ls lt one other : Bool) → o ≡ false → one ≡ false → gives m (o && lt) ≡ (gives m (o && ls) || (one && other))
elsewhere m o ls lt one other a b = rw (a, b) (go m)
  where
    go : (m : Bool) → gives m false ≡ (gives m false || false)
    go true = refl
    go false = refl

unequal : (m o ls lt one other : Bool) → m ≡ false → other ≡ false → gives m (o && lt) ≡ (gives m (o && ls) || (one && other))
unequal m o ls lt one other a b = rw (a, b) (go one)
  where
    go : (one : Bool) → false ≡ (one && false)
    go true = refl
    go false = refl

the_pair : (m o ls lt one other : Bool) → m ≡ true → o ≡ true → ls ≡ true → lt ≡ false → one ≡ true → other ≡ true → gives m (o && lt) ≡ (gives m (o && ls) || (one && other))
the_pair m o ls lt one other a b c d e f = rw (a, b, c, d, e, f) refl

earlier : (m o ls lt one other : Bool) → m ≡ true → ls ≡ false → lt ≡ false → gives m (o && lt) ≡ (gives m (o && ls) || (one && other))
earlier m o ls lt one other a c d = rw (a, c, d) (go o)
  where
    go : (o : Bool) → not (o && false) ≡ (not (o && false) || (one && other))
    go true = refl
    go false = refl

later : (m o ls lt one other : Bool) → ls ≡ true → lt ≡ true → other ≡ false → gives m (o && lt) ≡ (gives m (o && ls) || (one && other))
later m o ls lt one other c d f = rw (c, d, f) (go (gives m (o && true)) one)
  where
    go : (x one : Bool) → x ≡ (x || (one && false))
    go true one = refl
    go false true = refl
    go false false = refl

-- ---- the probe and the rows that face it

module _ (mine theirs : List HeldList) (p : Probing) (own : Held) (place : ℕ) where
  own_at : (f : Faces mine theirs p own place) (d : Held) → get_or (rows_in mine p.bucket) (length f.others) d ≡ own
  own_at f d = ap (λ rows. get_or rows (length f.others) d) f.last ∙ get_or_push f.others own d (length f.others) refl

  own_inside : (f : Faces mine theirs p own place) → length f.others < length (rows_in mine p.bucket)
  own_inside f = omega (arith, ap length f.last, length_push f.others own)

  own_is : Faces mine theirs p own place → (b k : ℕ) (d : Held) → b < length mine → k < length (rows_in mine b) → is_own (length mine) p (get_or (rows_in mine b) k d) ≡ true → get_or (rows_in mine b) k d ≡ own
  own_is f b k d inside there e = at_own (sym (f.mine_placed.each b inside k d there) ∙ eqb-true _ p.bucket both.0)
    where
      both : ((bucket_of (length mine) (get_or (rows_in mine b) k d).key == p.bucket) ≡ true) × (((get_or (rows_in mine b) k d).number == p.number) ≡ true)
      both = and_parts (bucket_of (length mine) (get_or (rows_in mine b) k d).key == p.bucket) ((get_or (rows_in mine b) k d).number == p.number) e

      at_own : b ≡ p.bucket → get_or (rows_in mine b) k d ≡ own
      at_own same =
          let here : k < length (rows_in mine p.bucket) = subst (λ x. k < length (rows_in mine x)) same there in
          let number : (get_or (rows_in mine p.bucket) k d).number ≡ (get_or (rows_in mine p.bucket) (length f.others) d).number
          = subst (λ x. (get_or (rows_in mine x) k d).number ≡ p.number) same (eqb-true _ p.number both.1) ∙ (sym f.number_is ∙ sym (ap (λ (x : Held). x.number) (own_at f d))) in
          subst (λ x. get_or (rows_in mine x) k d ≡ own) (sym same)
          (ap (λ i. get_or (rows_in mine p.bucket) i d) (one_place (rows_in mine p.bucket) k (length f.others) d d f.mine_rising here (own_inside f) number) ∙ own_at f d)

  -- a row with the probe's key lies in the probe's bucket
  facing : Faces mine theirs p own place → (c j : ℕ) (e : Held) → c < length theirs → j < length (rows_in theirs c) → (get_or (rows_in theirs c) j e).key ≡ own.key → c ≡ p.bucket
  facing f c j e inside there key =
      sym (f.theirs_placed.each c inside j e there)
      ∙ (ap (bucket_of (length theirs)) key ∙ (ap (λ n. bucket_of n own.key) f.many ∙ f.bucket_is))

  -- where no place is left, no match pends
  pub nothing_pends : Faces mine theirs p own place → next_place (has_key own.key) (rows_in theirs p.bucket) place ≡ None
      → (b k : ℕ) (d : Held) → b < length mine → k < length (rows_in mine b) → (c j : ℕ) (e : Held) → c < length theirs → j < length (rows_in theirs c)
      → (same_key (get_or (rows_in mine b) k d).key (get_or (rows_in theirs c) j e).key && pends (length mine) p (get_or (rows_in mine b) k d) (get_or (rows_in theirs c) j e)) ≡ false
  nothing_pends f none b k d inside there c j e within on = bool_from _ (λ t.
      let x = get_or (rows_in mine b) k d in
      let y = get_or (rows_in theirs c) j e in
      let both = and_parts (same_key x.key y.key) (pends (length mine) p x y) t in
      let pend = and_parts (is_own (length mine) p x) (nat_le p.from y.number) both.1 in
      let key : y.key ≡ own.key = sym (same_keys x.key y.key both.0) ∙ ap (λ (h : Held). h.key) (own_is f b k d inside there pend.0) in
      against c j e within on key (leb-true p.from y.number pend.1) (facing f c j e within on key))
    where
      against : (c j : ℕ) (e : Held) → c < length theirs → j < length (rows_in theirs c) → (get_or (rows_in theirs c) j e).key ≡ own.key → p.from ≤ (get_or (rows_in theirs c) j e).number → c ≡ p.bucket → ⊥
      against c j e within on key from same =
          let here : j < length (rows_in theirs p.bucket) = subst (λ z. j < length (rows_in theirs z)) same on in
          let after : p.from ≤ (get_or (rows_in theirs p.bucket) j e).number = subst (λ z. p.from ≤ (get_or (rows_in theirs z) j e).number) same from in
          let equal : (get_or (rows_in theirs p.bucket) j e).key ≡ own.key = subst (λ z. (get_or (rows_in theirs z) j e).key ≡ own.key) same key in
          elim (cases_lt j place) [
            | inl before ↦ (let l = f.behind j e before here in omega (arith, after, l))
            | inr at ↦ false≢true (sym (none_next (has_key own.key) (rows_in theirs p.bucket) place e none j at here) ∙ keys_same _ own.key equal)
          ]

  pub one_given : Faces mine theirs p own place → (q : ℕ) (partner : Held) → next_place (has_key own.key) (rows_in theirs p.bucket) place ≡ Some q → get_or (rows_in theirs p.bucket) q partner ≡ partner
      → (b k : ℕ) (d : Held) → b < length mine → k < length (rows_in mine b) → (c j : ℕ) (e : Held) → c < length theirs → j < length (rows_in theirs c)
      → gives (same_key (get_or (rows_in mine b) k d).key (get_or (rows_in theirs c) j e).key) (pends (length mine) (record p { from = partner.number + 1 }) (get_or (rows_in mine b) k d) (get_or (rows_in theirs c) j e))
      ≡ (gives (same_key (get_or (rows_in mine b) k d).key (get_or (rows_in theirs c) j e).key) (pends (length mine) p (get_or (rows_in mine b) k d) (get_or (rows_in theirs c) j e))
      || (is_row own (get_or (rows_in mine b) k d) && is_row partner (get_or (rows_in theirs c) j e)))
  one_given f q partner found is b k d inside there c j e within on = by_own (is_own (length mine) p x) refl
    where
      x : Held
      x = get_or (rows_in mine b) k d

      y : Held
      y = get_or (rows_in theirs c) j e

      here : IsNext (has_key own.key) (rows_in theirs p.bucket) place partner q
      here = is_next (has_key own.key) (rows_in theirs p.bucket) place partner q found

      partner_key : partner.key ≡ own.key
      partner_key = same_keys partner.key own.key (subst (λ h. has_key own.key h ≡ true) is here.passes)

      from_partner : p.from ≤ partner.number
      from_partner = subst (λ h. p.from ≤ h.number) is (f.ahead q partner here.after here.inside)

      Goal : Type 0
      Goal = gives (same_key x.key y.key) (is_own (length mine) p x && nat_le (partner.number + 1) y.number)
          ≡ (gives (same_key x.key y.key) (is_own (length mine) p x && nat_le p.from y.number) || (is_row own x && is_row partner y))

      -- a row with the key of the probe, in its bucket
      compared : x ≡ own → same_key x.key y.key ≡ true → is_own (length mine) p x ≡ true → c ≡ p.bucket → y.key ≡ own.key → Goal
      compared mine_is match o same key =
          let here_on : j < length (rows_in theirs p.bucket) = subst (λ z. j < length (rows_in theirs z)) same on in
          let at : y ≡ get_or (rows_in theirs p.bucket) j e = ap (λ z. get_or (rows_in theirs z) j e) same in
          elim (cases_order j q) [
            | inl equal ↦
                let is_partner : y ≡ partner = at ∙ (ap (λ i. get_or (rows_in theirs p.bucket) i e) equal ∙ (get_or_default (rows_in theirs p.bucket) q e partner here.inside ∙ is)) in
                the_pair (same_key x.key y.key) (is_own (length mine) p x) (nat_le p.from y.number) (nat_le (partner.number + 1) y.number) (is_row own x) (is_row partner y)
                match o
                (subst (λ h. nat_le p.from h.number ≡ true) (sym is_partner) (le-leb p.from partner.number from_partner))
                (subst (λ h. nat_le (partner.number + 1) h.number ≡ false) (sym is_partner) (lt-leb (partner.number + 1) partner.number (omega arith)))
                (subst (λ h. is_row own h ≡ true) (sym mine_is) (is_row_itself own))
                (subst (λ h. is_row partner h ≡ true) (sym is_partner) (is_row_itself partner))
            | inr (inl below) ↦ elim (cases_lt j place) [
              | inl before ↦
                  let less : y.number < p.from = subst (λ h. h.number < p.from) (sym at) (f.behind j e before here_on) in
                  earlier (same_key x.key y.key) (is_own (length mine) p x) (nat_le p.from y.number) (nat_le (partner.number + 1) y.number) (is_row own x) (is_row partner y)
                  match (lt-leb p.from y.number less) (lt-leb (partner.number + 1) y.number (omega (arith, less, from_partner)))
              | inr after ↦ absurd (false≢true (sym (here.first j after below) ∙ subst (λ (h : Held). same_key h.key own.key ≡ true)
                  (at ∙ get_or_default (rows_in theirs p.bucket) j e partner here_on) (keys_same y.key own.key key)))
            ]
            | inr (inr above) ↦
                let rises : partner.number < y.number = subst (λ h. partner.number < h.number) (sym at)
                (subst (λ h. h.number < (get_or (rows_in theirs p.bucket) j e).number) (get_or_default (rows_in theirs p.bucket) q e partner here.inside ∙ is)
                (f.theirs_rising q j e above here_on)) in
                later (same_key x.key y.key) (is_own (length mine) p x) (nat_le p.from y.number) (nat_le (partner.number + 1) y.number) (is_row own x) (is_row partner y)
                (le-leb p.from y.number (omega (arith, rises, from_partner))) (le-leb (partner.number + 1) y.number (omega (arith, rises)))
                (is_no_row partner y (λ k n. omega (arith, n, rises)))
          ]

      by_match : (m : Bool) → same_key x.key y.key ≡ m → x ≡ own → is_own (length mine) p x ≡ true → Goal
      by_match true match mine_is o =
          let key : y.key ≡ own.key = sym (same_keys x.key y.key match) ∙ ap (λ (h : Held). h.key) mine_is in
          compared mine_is match o (facing f c j e within on key) key
      by_match false match mine_is o =
          unequal (same_key x.key y.key) (is_own (length mine) p x) (nat_le p.from y.number) (nat_le (partner.number + 1) y.number) (is_row own x) (is_row partner y) match
          (is_no_row partner y (λ k n. false≢true (sym match ∙ keys_same x.key y.key (ap (λ (h : Held). h.key) mine_is ∙ sym (k ∙ partner_key)))))

      by_own : (o : Bool) → is_own (length mine) p x ≡ o → Goal
      by_own true o = by_match (same_key x.key y.key) refl (own_is f b k d inside there o) o
      by_own false o =
          elsewhere (same_key x.key y.key) (is_own (length mine) p x) (nat_le p.from y.number) (nat_le (partner.number + 1) y.number) (is_row own x) (is_row partner y) o
          (is_no_row own x (λ k n. false≢true (sym o ∙ rw (eq-eqb _ p.bucket (ap (bucket_of (length mine)) k ∙ f.bucket_is)) (eq-eqb x.number p.number (n ∙ f.number_is)))))

  -- both rows of the pair are there once
  pub own_once : Faces mine theirs p own place → filter (is_row own) (all_in mine) ≡ own ∷ []
  own_once f = subst (λ h. filter (is_row h) (all_in mine) ≡ h ∷ []) (own_at f own) (row_once mine p.bucket (length f.others) own f.mine_placed f.inside f.mine_rising (own_inside f))

  pub partner_once : Faces mine theirs p own place → (q : ℕ) (partner : Held) → next_place (has_key own.key) (rows_in theirs p.bucket) place ≡ Some q → get_or (rows_in theirs p.bucket) q partner ≡ partner
      → filter (is_row partner) (all_in theirs) ≡ partner ∷ []
  partner_once f q partner found is =
      subst (λ h. filter (is_row h) (all_in theirs) ≡ h ∷ []) is
      (row_once theirs p.bucket q partner f.theirs_placed (let l = f.inside in omega (arith, f.many)) f.theirs_rising (is_next (has_key own.key) (rows_in theirs p.bucket) place partner q found).inside)

  -- they are a match that pends
  pub pair_matches : Faces mine theirs p own place → (q : ℕ) (partner : Held) → next_place (has_key own.key) (rows_in theirs p.bucket) place ≡ Some q → get_or (rows_in theirs p.bucket) q partner ≡ partner
      → same_key own.key partner.key ≡ true
  pair_matches f q partner found is = keys_turned own.key partner.key ∙ subst (λ h. has_key own.key h ≡ true) is (is_next (has_key own.key) (rows_in theirs p.bucket) place partner q found).passes

  pub pair_pends : Faces mine theirs p own place → (q : ℕ) (partner : Held) → next_place (has_key own.key) (rows_in theirs p.bucket) place ≡ Some q → get_or (rows_in theirs p.bucket) q partner ≡ partner
      → p.from ≤ partner.number
  pair_pends f q partner found is =
      let here = is_next (has_key own.key) (rows_in theirs p.bucket) place partner q found in
      subst (λ h. p.from ≤ h.number) is (f.ahead q partner here.after here.inside)

-- ---- a row comes

-- the new row is compared with all that face it
pub new_pends : (count : ℕ) (held y : Held) (q : Probing) → q.bucket ≡ bucket_of count held.key → q.number ≡ held.number → q.from ≡ 0 → pends count q held y ≡ true
new_pends count held y q bucket number from = rw (eq-eqb _ _ (sym bucket), eq-eqb _ _ (sym number)) (le-leb q.from y.number (omega (arith, from)))

-- the others are not
pub old_rests : (count : ℕ) (held x y : Held) (q : Probing) → q.number ≡ held.number → x.number < held.number → pends count q x y ≡ false
old_rests count held x y q number less = bool_from _ (λ t.
    let both = and_parts (is_own count q x) (nat_le q.from y.number) t in
    let same = eqb-true x.number q.number (and_parts (bucket_of count x.key == q.bucket) (x.number == q.number) both.0).1 in
    omega (arith, same, number, less))

-- the probe's row pends with a row that it has still to come to
pub own_pends : (count : ℕ) (own partner : Held) (q : Probing) → bucket_of count own.key ≡ q.bucket → own.number ≡ q.number → q.from ≤ partner.number → pends count q own partner ≡ true
own_pends count own partner q bucket number from = rw (eq-eqb _ _ bucket, eq-eqb _ _ number) (le-leb q.from partner.number from)
