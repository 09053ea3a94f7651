-- What a grammar is, and where tokens break it: over any values, any tokens and any way to spell a value.
use Rattle.std.specs.Prelude.{◌≡◌, ℕ, List, [], ◌∷◌, ◌++◌, ◌⊎◌}
use Rattle.std.specs.List.{AllByRecursion}
use Rattle.text_reading.specs.Lexing.{Lexeme, lexeme, tokens}

module _ {Q T : Type 0} (spelling : Q → List T) (IsWhole : Q → Type 0) (IsReal : T → Type 0) where
  -- the tokens are those of a whole value
  abbrev pub Spells : List T → Q → Type 0
  Spells ts value = IsWhole value × (spelling value ≡ ts)

  -- real tokens continue them to those of a whole value
  pub record IsViable (ts : List T) : Type 0 where
    pub value : Q
    pub rest : List T
    pub whole : IsWhole value
    pub real : AllByRecursion IsReal rest
    pub spelt : spelling value ≡ ts ++ rest

  -- the token at the offset is the first one with which nothing continues to a whole value
  pub record DiesAt (ls : List (Lexeme T)) (at : ℕ) : Type 0 where
    pub before : List (Lexeme T)
    pub token : T
    pub after : List (Lexeme T)
    pub parted : ls ≡ before ++ lexeme token at ∷ after
    pub live : IsViable (tokens before)
    pub dead : IsViable (tokens before ++ token ∷ []) → ⊥

  -- something continues to a whole value, and nothing has to stand already
  pub record IsCut (ls : List (Lexeme T)) : Type 0 where
    pub live : IsViable (tokens ls)
    pub unfinished : (value : Q) → Spells (tokens ls) value → ⊥

  -- the offset of the first token that can't continue any value, or the length of a text that ends too early
  abbrev pub BreaksAt : List (Lexeme T) → ℕ → ℕ → Type 0
  BreaksAt ls size at = DiesAt ls at ⊎ ((at ≡ size) × IsCut ls)
