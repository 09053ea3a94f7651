-- What a collector is, as contracts see it.
use Rattle.std.specs.Prelude.{◌≡◌, ℕ, ◌≤◌, List, length}
use Rattle.std.specs.List.{AllByRecursion}
use Rattle.answer_theory.specs.Bags.{weight_of}
use Rattle.med_base.specs.declared.outside.source.Source.{Ghosts as Source}
use Rattle.tuple_core.specs.declared.columns.Column.{Column}
use Rattle.collect_core.specs.Members.{IsMember, Member, member_left}
use Rattle.collect_core.specs.Selecting.{Select}

-- the columns of the atom's relation, what the atom selects, and its members, by group and mirror
pub record Collecting (S : Type 0) : Type 0 where
  pub columns : List Column
  pub select : Select
  pub members : List (Member S)

-- what holds of each collector
pub record IsCollector {S M : Type 0} (source : Source S M) (c : Collecting S) : Type 0 where
  pub members : AllByRecursion (IsMember source c.columns) c.members
  pub width : length c.columns ≡ length c.select.terms
  pub short : length c.columns ≤ 64

-- how much is left to do
abbrev pub work_left : {S M : Type 0} → Source S M → Collecting S → ℕ
work_left source c = weight_of (member_left source) c.members
