-- What a spill file holds, and what the answers of a file and of a set of files say.
use Rattle.std.specs.Prelude.{◌≡◌, ⊤, ℕ, ◌+◌, ◌-◌, ◌<◌, ◌≤◌, ◌⊎◌, min, List, [], ◌∷◌, ◌++◌, length, take, drop, Some, None, IfSome, Result, Ok, Err}
use Rattle.med_prelude.specs.Counts.{Rose}
use Rattle.med_prelude.specs.Texts.{Bytes, ToldBytes, told_with}
use Rattle.med_base.specs.declared.outside.OutsideFault.{OutsideFault}
use Rattle.med_base.specs.declared.outside.OutsideFault.TheVariants as outside
use Rattle.med_base.specs.declared.outside.spill.SpillFault.{SpillFault}
use Rattle.med_base.specs.declared.outside.spill.SpillFault.TheVariants.{Failed, Full, NoMemory}

abbrev pub spill_fault : OutsideFault → SpillFault
spill_fault outside.Failed = Failed
spill_fault outside.NoMemory = NoMemory

-- the bytes up to a file's end: they are told, or their number alone is
pub data Content : Type 0 where
  TellsBytes : Bytes → Content
  TellsLength : ℕ → Content

abbrev pub content_length : Content → ℕ
content_length (TellsBytes bytes) = length bytes
content_length (TellsLength count) = count

abbrev pub told_content : Content → ToldBytes
told_content (TellsBytes bytes) = Some bytes
told_content (TellsLength count) = None

pub record FileState : Type 0 where
  pub number : ℕ
  pub limit : ℕ
  pub content : Content
  -- what a failed append may have left past the end
  pub past_end : Bytes
  pub faults : ℕ

abbrev pub file_length : FileState → ℕ
file_length s = content_length s.content

abbrev pub file_content : FileState → ToldBytes
file_content s = told_content s.content

-- a fresh file holds nothing, and never failed
pub record IsFreshFile (number limit : ℕ) (s : FileState) : Type 0 where
  pub named : s.number ≡ number
  pub limited : s.limit ≡ limit
  pub empty : file_length s ≡ 0
  pub clean : s.past_end ≡ []
  pub faultless : s.faults ≡ 0

-- number and limit stay, and the count of faults never falls
pub record IsSameFile (old new : FileState) : Type 0 where
  pub number : new.number ≡ old.number
  pub limit : new.limit ≡ old.limit
  pub faults : old.faults ≤ new.faults

-- The bytes stand behind the content, from the old end on. What isn't there past the end doesn't come there.
pub record AppendsBytes (old : FileState) (bytes : Bytes) (at : ℕ) (new : FileState) : Type 0 where
  pub start : at ≡ file_length old
  pub fits : file_length old + length bytes ≤ old.limit
  pub told : file_content new ≡ told_with (file_content old) bytes
  pub len : file_length new ≡ file_length old + length bytes
  pub past_end : old.past_end ≡ [] → new.past_end ≡ []
  pub same : IsSameFile old new

-- The content up to the old end stands. What is past the end isn't stated.
pub record FailsToAppend (old : FileState) (bytes : Bytes) (new : FileState) : Type 0 where
  pub fits : file_length old + length bytes ≤ old.limit
  pub content : new.content ≡ old.content
  pub same : IsSameFile old new
  pub rose : Rose old.faults new.faults

-- the file has no room for so many bytes more, and nothing changed
pub record IsFull (old : FileState) (bytes : Bytes) (need limit : ℕ) (new : FileState) : Type 0 where
  pub needed : need ≡ length bytes
  pub limited : limit ≡ old.limit
  pub exceeds : old.limit < file_length old + length bytes
  pub unchanged : new ≡ old

-- what an append of these bytes does, by its answer
abbrev pub AnswersAppend : FileState → Bytes → Result ℕ SpillFault → FileState → Type 0
AnswersAppend old bytes (Ok at) new = AppendsBytes old bytes at new
AnswersAppend old bytes (Err Failed) new = FailsToAppend old bytes new
AnswersAppend old bytes (Err (Full need limit)) new = IsFull old bytes need limit new
AnswersAppend old bytes (Err NoMemory) new = new ≡ old

-- the first n bytes of the room are those of the text from an offset on, as far as the text or the room goes
pub record FillsRoom (text : Bytes) (at n : ℕ) (room : Bytes) : Type 0 where
  pub count : n ≡ min (length room) (length text - at)
  pub bytes : take n room ≡ take n (drop at text)

-- a read changes nothing but the count of faults
pub record KeepsContent (old new : FileState) : Type 0 where
  pub content : new.content ≡ old.content
  pub past_end : new.past_end ≡ old.past_end
  pub same : IsSameFile old new

-- a read of n bytes goes as far as the content or the room does; told content is what it reads, and then what is past the end
pub record ReadsContent (old : FileState) (at n : ℕ) (room : Bytes) : Type 0 where
  pub fits : n ≤ length room
  pub far : min (length room) (file_length old - at) ≤ n
  pub bytes : IfSome (file_content old) (λ bytes. FillsRoom (bytes ++ old.past_end) at n room)

-- what a read from an offset on does, by its answer
abbrev pub AnswersRead : FileState → ℕ → Result ℕ SpillFault → Bytes → FileState → Type 0
AnswersRead old at (Ok n) room new = ReadsContent old at n room × KeepsContent old new
AnswersRead old at (Err Failed) room new = Rose old.faults new.faults × KeepsContent old new
AnswersRead old at (Err (Full need limit)) room new = ⊥
AnswersRead old at (Err NoMemory) room new = ⊥

-- what the making of a file answers of it: a set is never full
abbrev pub MakesFile : {F : Type 0} → (F → FileState) → ℕ → ℕ → Result F SpillFault → Type 0
MakesFile state number limit (Ok file) = IsFreshFile number limit (state file)
MakesFile state number limit (Err Failed) = ⊤
MakesFile state number limit (Err (Full need most)) = ⊥
MakesFile state number limit (Err NoMemory) = ⊤

-- the fact holds where the making failed
abbrev pub IfMakeFailed : {F : Type 0} → Result F SpillFault → Type 0 → Type 0
IfMakeFailed (Ok file) fact = ⊤
IfMakeFailed (Err Failed) fact = fact
IfMakeFailed (Err (Full need limit)) fact = ⊤
IfMakeFailed (Err NoMemory) fact = ⊤

-- The call stands last among those asked. One that found no memory may stand there or not.
abbrev pub AsksForFile : {F : Type 0} → Result F SpillFault → ℕ × ℕ → List (ℕ × ℕ) → List (ℕ × ℕ) → Type 0
AsksForFile (Ok file) pair old new = new ≡ old ++ pair ∷ []
AsksForFile (Err Failed) pair old new = new ≡ old ++ pair ∷ []
AsksForFile (Err (Full need limit)) pair old new = ⊥
AsksForFile (Err NoMemory) pair old new = (new ≡ old) ⊎ (new ≡ old ++ pair ∷ [])
