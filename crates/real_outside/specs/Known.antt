-- What an adapter does to the bytes that its reader has left or that its writer holds, where those are known: in
-- memory they are.
use Rattle.std.specs.Prelude.{◌≡◌, ⊤, ℕ, [], take, Some, None, Result}
use Rattle.std.specs.Io.KnownBytes.{Appends, Consumes, IsAtEnd}
use Rattle.med_prelude.specs.Texts.{Bytes, ToldBytes}
use Rattle.med_base.specs.Outside.{TakesSomeByte, bytes_written}
use Rattle.med_base.specs.declared.outside.OutsideFault.{OutsideFault}
use Rattle.med_base.specs.declared.outside.source.Pull.{Pull}
use Rattle.med_base.specs.declared.outside.source.Pull.TheVariants as pull
use Rattle.real_outside.specs.declared.opener.Handle.{Handle}
use Rattle.real_outside.specs.declared.opener.Handle.TheVariants.{Open, AtEnd, Failed}

-- what a file has left: nothing at its end, and nothing that is known where it failed
abbrev pub left_bytes : {F : Type 0} → (F → ToldBytes) → Handle F → ToldBytes
left_bytes remaining (Open file) = remaining file
left_bytes remaining AtEnd = Some []
left_bytes remaining Failed = None

-- A pull takes the bytes that it gives, in their order, at least one where there is room, and tells the end only
-- where none are left. A file never lets anyone wait.
abbrev pub TakesGiven : ToldBytes → ToldBytes → Pull → Bytes → Type 0
TakesGiven old new (pull.Bytes n) room = Consumes old new (take n room) × TakesSomeByte n room
TakesGiven old new pull.End room = IsAtEnd old
TakesGiven old new pull.NotYet room = ⊥
TakesGiven old new pull.Failed room = ⊤

-- a source that told its end or failed holds no file any more
abbrev pub ClosesAtLast : {F : Type 0} → Pull → Handle F → Type 0
ClosesAtLast (pull.Bytes n) file = ⊤
ClosesAtLast pull.NotYet file = ⊤
ClosesAtLast pull.End file = file ≡ AtEnd
ClosesAtLast pull.Failed file = file ≡ Failed

-- a writer holds, behind what it held, the bytes that were taken, and no others
abbrev pub HoldsTaken : ToldBytes → ToldBytes → Result ℕ OutsideFault → Bytes → Type 0
HoldsTaken old new answer piece = Appends old new (bytes_written answer piece)
