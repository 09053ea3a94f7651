-- The tree that a text spells, where it spells one.
use Rattle.std.specs.Prelude.{ℕ, Bool, true, false, List, [], ◌∷◌, Option, Some, None, option_map, option_and_then, if◌then◌else◌}
use Rattle.med_prelude.specs.Texts.{Bytes}
use Rattle.text_reading.specs.Lexing.{lexemes_from, tokens}
use Rattle.text_reading.specs.Machines.{state_after}
use Rattle.join_trees.specs.Shapes.{Shape, tip, joined, only_tree}
use Rattle.join_trees.specs.Tokens.{is_padded, lexicon, token_at}
use Rattle.join_trees.specs.declared.stack.OpenJoin.{OpenJoin}
use Rattle.join_trees.specs.declared.machine.Phase.{Phase}
use Rattle.join_trees.specs.declared.machine.Phase.TheVariants.{Due, Named, Read}
use Rattle.join_trees.specs.declared.machine.State.{State}
use Rattle.join_trees.specs.declared.token.Token.{Token}
use Rattle.join_trees.specs.declared.token.Token.TheVariants as token

abbrev pub state : Phase → List OpenJoin → List Shape → State
state phase os trees = record { phase = phase; open_joins = os; trees = trees }

abbrev pub open_join : ℕ → Bool → OpenJoin
open_join j has_left = record { join = j; has_left = has_left }

-- what a token leads to, where the grammar allows it
abbrev pub step_in : Phase → List OpenJoin → List Shape → Token → Option State
step_in Due os trees (token.Leaf l) = Some (state Read os (tip l ∷ trees))
step_in Due os trees (token.Join j) = Some (state (Named j) os trees)
step_in (Named j) os trees token.Open = Some (state Due (open_join j false ∷ os) trees)
step_in Read (o ∷ os) trees token.Comma = if o.has_left then None else Some (state Due (open_join o.join true ∷ os) trees)
step_in Read (o ∷ os) trees token.Close = if o.has_left then option_map (state Read os) (joined o.join trees) else None
step_in _ _ _ _ = None

abbrev pub step : State → Token → Option State
step s t = step_in s.phase s.open_joins s.trees t

abbrev pub start : State
start = state Due [] []

-- the tree, where all joins are closed
abbrev pub finished_in : Phase → List OpenJoin → List Shape → Option Shape
finished_in Read [] trees = only_tree trees
finished_in _ _ _ = None

abbrev pub finished_tree : State → Option Shape
finished_tree s = finished_in s.phase s.open_joins s.trees

-- what is read from a state on
unfoldable pub tree_from : State → Bytes → Option Shape
tree_from s bytes = option_and_then finished_tree (state_after step s (tokens (lexemes_from lexicon 0 0 bytes)))

-- The tree that the text spells. The law of the function `trees_are_spelled` says so in the grammar's own words.
unfoldable pub tree_of : Bytes → Option Shape
tree_of text = if is_padded text then None else tree_from start text

-- the state after the token that bytes begin with, and the token's length
abbrev pub advance : State → Bytes → Option (State × ℕ)
advance s bytes = elim (token_at bytes) [ None ↦ None | Some read ↦ option_map (λ next. (next, read.1)) (step s read.0) ]
