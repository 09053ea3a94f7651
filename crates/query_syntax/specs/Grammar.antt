-- The grammar of queries: how a query is spelled.
use Rattle.std.specs.Prelude.{◌≡◌, ℕ, List, [], ◌∷◌, ◌++◌, length, Some}
use Rattle.std.specs.List.{AllByRecursion}
use Rattle.med_prelude.specs.Texts.{Bytes}
use Rattle.query_syntax.specs.Tokens.{token_at}
use Rattle.query_syntax.specs.declared.syntax.Part.{Part}
use Rattle.query_syntax.specs.declared.syntax.Part.TheVariants.{Atom, Comparison}
use Rattle.query_syntax.specs.declared.syntax.WrittenTerm.{WrittenTerm}
use Rattle.query_syntax.specs.declared.syntax.Syntax.{Syntax}
use Rattle.query_syntax.specs.declared.syntax.Word.{Word}
use Rattle.query_syntax.specs.declared.syntax.NamedTerm.{NamedTerm}
use Rattle.query_syntax.specs.declared.syntax.NamedTerm.TheVariants as written
use Rattle.query_syntax.specs.declared.token.Token.{Token}
use Rattle.query_syntax.specs.declared.token.Token.TheVariants.{Name, Constant, Compares, Open, Close, Comma, If, Stop}
use Rattle.text_reading.specs.Grammars as grammar
use Rattle.text_reading.specs.Lexing.{Lexeme}

-- a comma and an item, for each item
abbrev pub comma_items : {X : Type 0} → (X → List Token) → List X → List Token
comma_items f [] = []
comma_items f (x ∷ xs) = Comma ∷ (f x ++ comma_items f xs)

-- items with commas between them
abbrev pub comma_list : {X : Type 0} → (X → List Token) → List X → List Token
comma_list f [] = []
comma_list f (x ∷ xs) = f x ++ comma_items f xs

abbrev pub word_tokens : Word → List Token
word_tokens w = Name w ∷ []

-- a variable or a constant that stands at an offset
abbrev pub named_token : ℕ → NamedTerm → Token
named_token at (written.Variable name) = Name (record { name = name; at = at })
named_token at (written.Constant value) = Constant value at

abbrev pub term_tokens : WrittenTerm → List Token
term_tokens t = named_token t.at t.written ∷ []

-- `relation(term, ..)`, or a name, an operator and a term
abbrev pub part_tokens : Part → List Token
part_tokens (Atom a) = Name a.relation ∷ Open ∷ (comma_list term_tokens a.terms ++ Close ∷ [])
part_tokens (Comparison c) = Name c.left ∷ Compares c.op ∷ term_tokens c.right

-- `name(variable, ..) :- part, .. .`
abbrev pub query_tokens : Syntax → List Token
query_tokens q = Name q.name ∷ Open ∷ (comma_list word_tokens q.head ++ (Close ∷ If ∷ (comma_list part_tokens q.parts ++ Stop ∷ [])))

-- there is an item
abbrev pub IsFull : {X : Type 0} → List X → Type 0
IsFull [] = ⊥
IsFull (x ∷ xs) = Unit {0}

abbrev pub IsPart : Part → Type 0
IsPart (Atom a) = IsFull a.terms
IsPart (Comparison c) = Unit {0}

-- no list of a query is empty
pub record IsQuery (q : Syntax) : Type 0 where
  pub head : IsFull q.head
  pub parts : IsFull q.parts
  pub each : AllByRecursion IsPart q.parts

-- some bytes are the token
pub record IsReal (t : Token) : Type 0 where
  pub at : ℕ
  pub bytes : Bytes
  pub spelt : token_at at bytes ≡ Some (t, length bytes)

-- the tokens are those of the query, with its offsets
abbrev pub Spells : List Token → Syntax → Type 0
Spells = grammar.Spells query_tokens IsQuery IsReal

-- real tokens continue them to those of a query
abbrev pub IsViable : List Token → Type 0
IsViable = grammar.IsViable query_tokens IsQuery IsReal

-- the offset of the first token that can't continue any query, or the length of a text that ends too early
abbrev pub BreaksAt : List (Lexeme Token) → ℕ → ℕ → Type 0
BreaksAt = grammar.BreaksAt query_tokens IsQuery IsReal
