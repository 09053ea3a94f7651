-- What the reader of queries takes from the grammar.
use Rattle.std.proofs.Common.{◌≡◌, ℕ, ◌≤◌, List, [], ◌∷◌, length, Ok, arith}
use Rattle.query_syntax.proofs.GrammarLaws.{sound}
use Rattle.query_syntax.specs.Grammar.{IsFull}
use Rattle.query_syntax.specs.Reading.{syntax_of}
use Rattle.query_syntax.specs.declared.syntax.Syntax.{Syntax}
use Rattle.query_syntax.specs.declared.syntax.Word.{Word}

some_word : (words : List Word) → IsFull words → 1 ≤ length words
some_word [] full = absurd full
some_word (word ∷ words) full = omega arith

-- the head of a query that a text spells has a variable
pub some_head : (text : List ℕ) (syntax : Syntax) → syntax_of text ≡ Ok syntax → 1 ≤ length syntax.head
some_head text syntax e = some_word syntax.head (sound text syntax e).0.head
