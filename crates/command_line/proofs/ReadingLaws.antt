-- From the reader's clauses to whether it takes the words, and what it finds in them.
use Rattle.std.proofs.Common.{◌≡◌, ◌∙◌, true, false, List, [], ◌∷◌, length, ◌==◌, ap, refl, inl, inr, ne_eqb, arith}
use Rattle.clap.specs.Words.{App, HasKind, IsAmong, Kinds, fault_of, kind_of, matches_of}
use Rattle.clap.specs.declared.error.Error.{Error}
use Rattle.clap.specs.declared.error.kind.ErrorKind.{ErrorKind}
use Rattle.clap.specs.declared.error.kind.ErrorKind.TheVariants as kind
use Rattle.med_prelude.specs.Texts.{Bytes}
use Rattle.command_line.specs.Commands.{found_in, is_taken}

pub takes : (form : App) (words : List Bytes) → fault_of form words ≡ [] → is_taken form words ≡ true
unfolding is_taken
takes form words none = ap (λ (kinds : Kinds). length kinds == 0) none

pub finds : (form : App) (words : List Bytes) → matches_of form words ≡ found_in form words
unfolding found_in
finds form words = refl

not_empty : (kinds : Kinds) (k : ErrorKind) → IsAmong k kinds → (length kinds == 0) ≡ false
not_empty [] k among = absurd among
not_empty (first ∷ others) k among = ne_eqb _ _ (λ e. omega arith)

-- an error of another cause than memory shows that the reader doesn't take the words
pub refuses : (form : App) (words : List Bytes) (error : Error) (read : ErrorKind) → read ≡ kind_of error → (read ≡ kind.OutOfMemory → ⊥)
    → HasKind (fault_of form words) error → is_taken form words ≡ false
unfolding is_taken
refuses form words error read is other (inl memory) = absurd (other (is ∙ memory))
refuses form words error read is other (inr among) = not_empty (fault_of form words) (kind_of error) among
