-- The tokens of a tree's text, and how a tree is spelled.
use Rattle.std.specs.Prelude.{ℕ, ◌==◌, ◌||◌, Bool, List, [], ◌∷◌, ◌++◌, take, Option, Some, None, if◌then◌else◌}
use Rattle.med_prelude.specs.Names.{starts_name}
use Rattle.med_prelude.specs.Texts.{Bytes}
use Rattle.med_base.specs.declared.names.Name.{Name}
use Rattle.med_base.specs.declared.names.Name.TheVariants as name
use Rattle.text_reading.specs.Lexing.{Lexeme, Lexicon, lexeme, lexemes_from}
use Rattle.text_reading.specs.Runs.{name_run}
use Rattle.rule_reader.specs.Naming.{part_in}
use Rattle.rule_reader.specs.Tokens.{begins_space, ends_space, is_space}
use Rattle.join_trees.specs.Shapes.{Shape, tip, fork}
use Rattle.join_trees.specs.declared.tree.Leaf.TheVariants as leaf
use Rattle.join_trees.specs.declared.token.Token.{Token}
use Rattle.join_trees.specs.declared.token.Token.TheVariants as token

-- a leaf, or a join with its two trees in parentheses and a comma between them
abbrev pub tree_tokens : Shape → List Token
tree_tokens (tip l) = token.Leaf l ∷ []
tree_tokens (fork j a b) = token.Join j ∷ token.Open ∷ (tree_tokens a ++ (token.Comma ∷ (tree_tokens b ++ token.Close ∷ [])))

-- the token of a part of a plan: an atom, a fragment or a join
abbrev pub part_token : Name → Option Token
part_token (name.Member m) = None
part_token (name.Atom a) = Some (token.Leaf (leaf.Atom a))
part_token (name.Fragment f) = Some (token.Leaf (leaf.Fragment f))
part_token (name.Join j) = Some (token.Join j)

-- a token of so many bytes, where there is one
abbrev pub of_length : ℕ → Option Token → Option (Token × ℕ)
of_length len None = None
of_length len (Some t) = Some (t, len)

-- a word that names a part of a plan
abbrev pub word_token : Bytes → Option Token
word_token w = elim (part_in w) [ None ↦ None | Some x ↦ part_token x ]

-- `(`, `)` or `,`
abbrev pub mark_token : ℕ → Option Token
mark_token b =
    if b == 40 then Some token.Open
    else if b == 41 then Some token.Close
    else if b == 44 then Some token.Comma
    else None

-- the token that bytes begin with, and its length
abbrev pub token_at : Bytes → Option (Token × ℕ)
token_at [] = None
token_at (b ∷ bytes) =
    if starts_name b then of_length (name_run (b ∷ bytes)) (word_token (take (name_run (b ∷ bytes)) (b ∷ bytes)))
    else of_length 1 (mark_token b)

abbrev pub lexicon : Lexicon Token
lexicon = record { is_blank = is_space; token_at = λ at bytes. token_at bytes; junk = token.Junk }

-- spaces stand between tokens alone
abbrev pub is_padded : Bytes → Bool
is_padded text = begins_space text || ends_space text

-- the tokens of a text; one with a space in front or at its end is junk
abbrev pub lexemes_of : Bytes → List (Lexeme Token)
lexemes_of text = if is_padded text then lexeme token.Junk 0 ∷ [] else lexemes_from lexicon 0 0 text
