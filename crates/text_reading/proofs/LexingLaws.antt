-- The tokens of bytes, one token at a time.
use Rattle.std.proofs.Common.{Option, Bool, if◌then◌else◌, inl, inr, subst, ◌≡◌, ℕ, zero, suc, ◌+◌, ◌-◌, ◌<◌, true, false, List, [], ◌∷◌, drop, Some, None, arith, refl, ap, add-zero}
use Rattle.text_reading.specs.Lexing.{AreTokensOf, Lexeme, Lexicon, lexeme, lexemes_from}

module _ {T : Type 0} (x : Lexicon T) where
  -- what is left of a token is passed over
  pub lexemes_from-skip : (skip at : ℕ) (bytes : List ℕ) → lexemes_from x skip at bytes ≡ lexemes_from x 0 (at + skip) (drop skip bytes)
  lexemes_from-skip zero at bytes = rw add-zero refl
  lexemes_from-skip (suc skip) at [] = refl
  lexemes_from-skip (suc skip) at (b ∷ bytes) =
      let e : (at + 1) + skip ≡ at + suc skip = omega arith in
      rw (← e) (lexemes_from-skip skip (at + 1) bytes)

  -- a blank is passed over
  pub lexemes_from-blank : (at b : ℕ) (bytes : List ℕ) → x.is_blank b ≡ true → lexemes_from x 0 at (b ∷ bytes) ≡ lexemes_from x 0 (at + 1) bytes
  lexemes_from-blank at b bytes e = rw e refl

  -- a token and what is read after it
  pub lexemes_from-token : (at b len : ℕ) (bytes : List ℕ) (t : T) → x.is_blank b ≡ false → x.token_at at (b ∷ bytes) ≡ Some (t, len) → 0 < len
      → lexemes_from x 0 at (b ∷ bytes) ≡ lexeme t at ∷ lexemes_from x 0 (at + len) (drop len (b ∷ bytes))
  lexemes_from-token at b zero bytes t dark e some = absurd (omega arith)
  lexemes_from-token at b (suc len) bytes t dark e some =
      let left : suc len - 1 ≡ len = omega arith in
      let sum : (at + 1) + len ≡ at + suc len = omega arith in
      rw (dark, e, left, ← sum) (ap (λ more. lexeme t at ∷ more) (lexemes_from-skip len (at + 1) bytes))

  -- bytes that are no token
  pub lexemes_from-junk : (at b : ℕ) (bytes : List ℕ) → x.is_blank b ≡ false → x.token_at at (b ∷ bytes) ≡ None → lexemes_from x 0 at (b ∷ bytes) ≡ lexeme x.junk at ∷ []
  lexemes_from-junk at b bytes dark e = rw (dark, e) refl

  -- a blank in front
  blank_front : (b offset : ℕ) (bytes : List ℕ) (ls : List (Lexeme T)) → x.is_blank b ≡ true → AreTokensOf x (offset + 1) bytes ls → AreTokensOf x offset (b ∷ bytes) ls
  blank_front b offset bytes [] e h = rw e h
  blank_front b offset bytes (l ∷ ls) e h =
      let later : l.at ≡ offset + suc h.0 = omega (arith, h.3) in
      (suc h.0, rw e h.1, h.2, later, h.4)

  -- every token has a byte
  abbrev pub IsGrowing : Type 0
  IsGrowing = (offset : ℕ) (bytes : List ℕ) (t : T) (len : ℕ) → x.token_at offset bytes ≡ Some (t, len) → 0 < len

  token_front : (b offset len : ℕ) (bytes : List ℕ) (t : T) (ls : List (Lexeme T)) → 0 < len → x.is_blank b ≡ false → x.token_at offset (b ∷ bytes) ≡ Some (t, len)
      → AreTokensOf x ((offset + 1) + (len - 1)) (drop (len - 1) bytes) ls → AreTokensOf x offset (b ∷ bytes) (lexeme t offset ∷ ls)
  token_front b offset zero bytes t ls some dark e h = absurd (omega arith)
  token_front b offset (suc n) bytes t ls some dark e h =
      let left : suc n - 1 ≡ n = omega arith in
      let there : (offset + 1) + n ≡ offset + suc n = omega arith in
      let here : offset ≡ offset + 0 = omega arith in
      let rest : AreTokensOf x (offset + suc n) (drop n bytes) ls = rw (left, there) at h in
      (0, refl, rw dark refl, here, inl (suc n, e, rest))

  junk_front : (b offset : ℕ) (bytes : List ℕ) → x.is_blank b ≡ false → x.token_at offset (b ∷ bytes) ≡ None → AreTokensOf x offset (b ∷ bytes) (lexeme x.junk offset ∷ [])
  junk_front b offset bytes dark e =
      let here : offset ≡ offset + 0 = omega arith in
      (0, refl, rw dark refl, here, inr (e, refl, refl))

  -- The tokens of a text are cut out of it as it stands.
  stand_at : IsGrowing → (skip offset : ℕ) (bytes : List ℕ) → AreTokensOf x (offset + skip) (drop skip bytes) (lexemes_from x skip offset bytes)
  stand_at grows zero offset [] = refl
  stand_at grows (suc skip) offset [] = refl
  stand_at grows (suc skip) offset (b ∷ bytes) =
      let there : (offset + 1) + skip ≡ offset + suc skip = omega arith in
      subst (λ p. AreTokensOf x p (drop skip bytes) (lexemes_from x skip (offset + 1) bytes)) there (stand_at grows skip (offset + 1) bytes)
  stand_at grows zero offset (b ∷ bytes) =
      let here : offset ≡ offset + 0 = omega arith in
      subst (λ p. AreTokensOf x p (b ∷ bytes) (lexemes_from x 0 offset (b ∷ bytes))) here (by (x.is_blank b) refl (x.token_at offset (b ∷ bytes)) refl (λ skip. stand_at grows skip (offset + 1) bytes))
    where
      by : (blank : Bool) → x.is_blank b ≡ blank → (read : Option (T × ℕ)) → x.token_at offset (b ∷ bytes) ≡ read
          → ((skip : ℕ) → AreTokensOf x ((offset + 1) + skip) (drop skip bytes) (lexemes_from x skip (offset + 1) bytes))
          → AreTokensOf x offset (b ∷ bytes) (if blank then lexemes_from x 0 (offset + 1) bytes
          else elim read [ None ↦ lexeme x.junk offset ∷ [] | Some r ↦ lexeme r.0 offset ∷ lexemes_from x (r.1 - 1) (offset + 1) bytes ])
      by true e read f ih =
          let here : (offset + 1) + 0 ≡ offset + 1 = omega arith in
          blank_front b offset bytes (lexemes_from x 0 (offset + 1) bytes) e (subst (λ p. AreTokensOf x p bytes (lexemes_from x 0 (offset + 1) bytes)) here (ih 0))
      by false e None f ih = junk_front b offset bytes e f
      by false e (Some r) f ih = token_front b offset r.1 bytes r.0 (lexemes_from x (r.1 - 1) (offset + 1) bytes) (grows offset (b ∷ bytes) r.0 r.1 f) e f (ih (r.1 - 1))

  pub stand : IsGrowing → (offset : ℕ) (bytes : List ℕ) → AreTokensOf x offset bytes (lexemes_from x 0 offset bytes)
  stand grows offset bytes =
      let here : offset + 0 ≡ offset = omega arith in
      subst (λ p. AreTokensOf x p bytes (lexemes_from x 0 offset bytes)) here (stand_at grows 0 offset bytes)
