use Rattle.std.proofs.Common.{length, ◌-◌}
use Rattle.csv_frame.specs.Scanning.{IsScannedTo}
use Rattle.csv_frame.proofs.cuts.scan_on.Given as goal

abbrev pub invariant-bytes : goal.invariant-bytes
invariant-bytes l = IsScannedTo l.bytes l.quoted l.at

abbrev pub decreases-bytes : goal.decreases-bytes
decreases-bytes l = length l.bytes - l.at
