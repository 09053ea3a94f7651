use Rattle.std.proofs.Common.{◌≡◌, ◌+◌, ◌≤◌, ◌++◌, List, drop}
use Rattle.csv_wrap.specs.declared.members.MemberEnd.{MemberEnd}
use Rattle.csv_wrap.specs.Sound.{asked_locations, given_marks}
use Rattle.med_top.specs.Atoms.{AreAllMembers}
use Rattle.med_top.proofs.AtomLaws.{EndsSoFar}
use Rattle.med_top.proofs.atoms.read_atoms.Given as goal

-- what holds of the atoms so far, whatever the members of the others will be
abbrev pub invariant-loop-index : goal.invariant-loop-index
invariant-loop-index g l = record {
  members : (more : List (MemberEnd g.row.O-S.Denot)) → AreAllMembers g.O.S.Source (g.O.Opener.told l.fn.opener) (l.index + 1) (drop l.index l.targets) more
      → AreAllMembers g.O.S.Source (g.O.Opener.told l.fn.opener) 1 l.targets (l.read.members ++ more);
  ends : EndsSoFar g.O.S.Source (g.O.Opener.told l.fn.opener) l.targets l.index (g.O.Opener.faults l.fn.opener) (g.O.Opener.faults l.opener) l.read.members l.read.arrivals.items l.read.end;
  asked : g.O.Opener.asked l.opener ≡ g.O.Opener.asked l.fn.opener ++ asked_locations l.read.members;
  given : g.O.Opener.given l.opener ≡ g.O.Opener.given l.fn.opener ++ given_marks g.O.S.Source l.read.members;
  faults : g.O.Opener.faults l.fn.opener ≤ g.O.Opener.faults l.opener;
  told : g.O.Opener.told l.opener ≡ g.O.Opener.told l.fn.opener;
}
