-- What the answers of the outside say, each by cases on the answer.
use Rattle.std.specs.Prelude.{◌≡◌, ⊤, ℕ, ◌+◌, ◌<◌, ◌≤◌, ◌⊎◌, ◌^◌, min, List, [], ◌∷◌, ◌++◌, length, take, Some, IfSome, Result, Ok, Err}
use Rattle.med_prelude.specs.Counts.{greatest_count, Rose}
use Rattle.med_prelude.specs.Texts.{Bytes, ToldBytes, IsWhole}
use Rattle.med_base.specs.declared.outside.OutsideFault.{OutsideFault}
use Rattle.med_base.specs.declared.outside.OutsideFault.TheVariants.{Failed, NoMemory}
use Rattle.med_base.specs.declared.outside.source.Pull.{Pull}
use Rattle.med_base.specs.declared.outside.source.Pull.TheVariants as pull

-- the most bytes that a fetch gives: one more than a text may have, so that a longer one shows
abbrev pub most_fetched : ℕ
most_fetched = 1048577

-- the most bytes that a fresh source can give
abbrev pub most_left : ℕ
most_left = 2 ^ 62

-- the fact holds where the call failed
abbrev pub IfFailed : {T : Type 0} → Result T OutsideFault → Type 0 → Type 0
IfFailed (Ok x) fact = ⊤
IfFailed (Err Failed) fact = fact
IfFailed (Err NoMemory) fact = ⊤

-- The call stands last among those asked. One that found no memory may stand there or not.
abbrev pub AsksFor : {T : Type 0} → Result T OutsideFault → Bytes → List Bytes → List Bytes → Type 0
AsksFor (Ok x) name old new = new ≡ old ++ name ∷ []
AsksFor (Err Failed) name old new = new ≡ old ++ name ∷ []
AsksFor (Err NoMemory) name old new = (new ≡ old) ⊎ (new ≡ old ++ name ∷ [])

-- the mark of what was given stands last
abbrev pub GivesMark : {S M : Type 0} → (S → M) → Result S OutsideFault → List M → List M → Type 0
GivesMark mark (Ok s) old new = new ≡ old ++ mark s ∷ []
GivesMark mark (Err fault) old new = new ≡ old

-- the bytes are those of the text that is told, as many as a fetch gives
abbrev pub IsFetched : ToldBytes → Bytes → Type 0
IsFetched told bytes = (length bytes ≤ most_fetched) × IfSome told (λ text. bytes ≡ take most_fetched text)

-- what is told is told still
abbrev pub StaysTold : ToldBytes → ToldBytes → Type 0
StaysTold old new = IfSome old (λ text. new ≡ Some text)

-- how many bytes a pull gave, and which
abbrev pub bytes_count : Pull → ℕ
bytes_count (pull.Bytes n) = n
bytes_count pull.NotYet = 0
bytes_count pull.End = 0
bytes_count pull.Failed = 0

abbrev pub bytes_given : Pull → Bytes → Bytes
bytes_given answer room = take (bytes_count answer) room

abbrev pub FitsRoom : Pull → Bytes → Type 0
FitsRoom answer room = bytes_count answer ≤ length room

-- the end comes only where all was taken, and so do no bytes in a room that isn't empty
abbrev pub EndsOnlyWhole : Pull → ℕ → ToldBytes → ToldBytes → Type 0
EndsOnlyWhole (pull.Bytes n) room taken whole = n ≡ 0 → 0 < room → IsWhole taken whole
EndsOnlyWhole pull.End room taken whole = IsWhole taken whole
EndsOnlyWhole pull.NotYet room taken whole = ⊤
EndsOnlyWhole pull.Failed room taken whole = ⊤

abbrev pub IfPullFailed : Pull → Type 0 → Type 0
IfPullFailed pull.Failed fact = fact
IfPullFailed (pull.Bytes n) fact = ⊤
IfPullFailed pull.NotYet fact = ⊤
IfPullFailed pull.End fact = ⊤

-- the count of waits rises at `NotYet`, and stands at every other answer
abbrev pub CountsWait : Pull → ℕ → ℕ → Type 0
CountsWait pull.NotYet old new = (old ≤ new) × Rose old new
CountsWait (pull.Bytes n) old new = new ≡ old
CountsWait pull.End old new = new ≡ old
CountsWait pull.Failed old new = new ≡ old

-- the number of waits in a row
abbrev pub dry_after : Pull → ℕ → ℕ
dry_after pull.NotYet dry = min (dry + 1) greatest_count
dry_after (pull.Bytes n) dry = 0
dry_after pull.End dry = 0
dry_after pull.Failed dry = 0

-- the prefix of a piece that a sink took
abbrev pub bytes_written : Result ℕ OutsideFault → Bytes → Bytes
bytes_written (Ok n) piece = take n piece
bytes_written (Err fault) piece = []

-- of a piece that isn't empty a byte is taken
abbrev pub TakesSomeByte : ℕ → Bytes → Type 0
TakesSomeByte n piece = 0 < length piece → 0 < n
