-- Machines that take one token after the other.
use Rattle.std.specs.Prelude.{ℕ, List, [], ◌∷◌, Option, Some, None, Result, Err}
use Rattle.med_prelude.specs.Reading.{or_at}
use Rattle.text_reading.specs.Lexing.{Lexeme}

-- the state after the tokens, where the machine takes them all
abbrev pub state_after : {S T : Type 0} → (S → T → Option S) → S → List T → Option S
state_after step s [] = Some s
state_after step s (t ∷ ts) = elim (step s t) [ None ↦ None | Some next ↦ state_after step next ts ]

-- what is read of a text of that size: the value at its end, or the offset of the first token that isn't taken, or the size where the value isn't finished
abbrev pub reading_by : {S T Q : Type 0} → (S → T → Option S) → (S → Option Q) → ℕ → S → List (Lexeme T) → Result Q ℕ
reading_by step finished size s [] = or_at size (finished s)
reading_by step finished size s (l ∷ ls) = elim (step s l.token) [ None ↦ Err l.at | Some next ↦ reading_by step finished size next ls ]
