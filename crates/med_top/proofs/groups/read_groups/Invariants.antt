use Rattle.std.proofs.Common.{◌≡◌, ◌+◌, ◌≤◌, ◌++◌, List, drop}
use Rattle.csv_wrap.specs.declared.members.MemberEnd.{MemberEnd}
use Rattle.csv_wrap.specs.Sound.{asked_locations, given_marks}
use Rattle.med_top.specs.Members.{AreMembers, EndsRun, IsIdle}
use Rattle.med_top.specs.declared.groups.RunEnd.TheVariants as run
use Rattle.std.specs.List.{AllByRecursion}
use Rattle.med_top.proofs.groups.read_groups.Given as goal

-- what holds of the groups so far, whatever the members of the others will be
abbrev pub invariant-loop-index : goal.invariant-loop-index
invariant-loop-index g l = record {
  members : (more : List (MemberEnd g.row.O-S.Denot)) → AreMembers g.O.S.Source l.target.columns (g.O.Opener.told l.fn.opener) l.atom (l.index + 1) (drop l.index l.target.locations) more
      → AreMembers g.O.S.Source l.target.columns (g.O.Opener.told l.fn.opener) l.atom 1 l.target.locations (l.read.members ++ more);
  ends : l.fn.end ≡ run.Settled → EndsRun g.O.S.Source l.target.columns (g.O.Opener.faults l.fn.opener) (g.O.Opener.faults l.opener) l.read.members l.read.rows l.read.end;
  stays : (l.fn.end ≡ run.Settled → ⊥) → AllByRecursion IsIdle l.read.members × (l.read.end ≡ l.fn.end);
  asked : g.O.Opener.asked l.opener ≡ g.O.Opener.asked l.fn.opener ++ asked_locations l.read.members;
  given : g.O.Opener.given l.opener ≡ g.O.Opener.given l.fn.opener ++ given_marks g.O.S.Source l.read.members;
  faults : g.O.Opener.faults l.fn.opener ≤ g.O.Opener.faults l.opener;
  told : g.O.Opener.told l.opener ≡ g.O.Opener.told l.fn.opener;
}
