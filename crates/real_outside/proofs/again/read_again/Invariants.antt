-- the room keeps its length, and an interrupted read takes nothing
use Rattle.std.proofs.Common.{◌≡◌, length}
use Rattle.std.specs.Io.KnownBytes.{Keeps}
use Rattle.real_outside.proofs.again.read_again.Given as goal

abbrev pub invariant-loop : goal.invariant-loop
invariant-loop g l = (length l.room ≡ length l.initial.room) × Keeps (g.F.Read.remaining l.initial.file) (g.F.Read.remaining l.file)
