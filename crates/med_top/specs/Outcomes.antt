-- What holds at each status of a call of the mediator.
use Rattle.std.specs.Prelude.{◌≡◌, ⊤, ℕ, ◌==◌, List, [], ◌∷◌, ◌++◌, take, Some, None, IfSome, Ok}
use Rattle.std.specs.Bool.{MatchBool}
use Rattle.std.specs.List.{AllByRecursion}
use Rattle.cat_reader.specs.declared.catalogue.Relation.{Relation}
use Rattle.csv_wrap.specs.declared.members.MemberEnd.{MemberEnd}
use Rattle.med_base.specs.declared.outside.source.Source.{Ghosts as Source}
use Rattle.med_base.specs.declared.status.ShelfFile.{ShelfFile}
use Rattle.med_base.specs.declared.status.Status.{Status}
use Rattle.med_base.specs.declared.status.Status.TheVariants as status
use Rattle.med_prelude.specs.Counts.{Rose}
use Rattle.med_prelude.specs.Texts.{Bytes, ToldBytes, told_with}
use Rattle.tuple_core.specs.Values.{RowList}
use Rattle.query_core.specs.Answers.{answer_text}
use Rattle.query_core.specs.declared.query.Query.{Query}
use Rattle.med_top.specs.Limits.{idle_limit}
use Rattle.command_line.specs.Commands.{command_of}
use Rattle.med_top.specs.Command.{AsksUnbuilt, run_of}
use Rattle.med_top.specs.Loading.{AfterCatalogue, AsksUpTo, FailsToLoad, Loads}
use Rattle.med_top.specs.Atoms.{AreAllMembers, all_arrivals}
use Rattle.med_top.specs.Members.{Change, HasEnded, HasFailed, HasStalled, StopsAt}
use Rattle.med_top.specs.declared.groups.RunEnd.{RunEnd}
use Rattle.med_top.specs.declared.groups.RunEnd.TheVariants as run
use Rattle.med_top.specs.Tasks.{AsksMirrors, RefusesCatalogue, RefusesQuery}
use Rattle.med_top.specs.declared.task.Task.{Task}

-- What a call met and left: the words; what the shelf and the opener tell; how often each of them failed; the names that
-- the shelf was asked for; what the sink tells and how often it failed; and the members.
pub record Call (S M : Type 0) : Type 1 where
  pub source : Source S M
  pub words : List Bytes
  pub texts : Bytes → ToldBytes
  pub sources : Bytes → ToldBytes
  pub opener_faults : Change ℕ
  pub shelf_faults : Change ℕ
  pub shelf_asked : Change (List Bytes)
  pub written : Change (ToldBytes)
  pub out_faults : Change ℕ
  pub members : List (MemberEnd S)

-- the words ask for a run over a catalogue and a query, which ask for this to be done
pub record Accepts (words : List Bytes) (texts : Bytes → ToldBytes) (task : Task) : Type 0 where
  pub catalogue : Bytes
  pub query : Bytes
  pub command : run_of words ≡ Some (catalogue, query)
  pub loads : Loads (texts catalogue) (texts query) (Ok task)

-- nothing was run: there is no member, and the sink has what it had
pub record RunsNothing {S M : Type 0} (call : Call S M) : Type 0 where
  pub no_members : call.members ≡ []
  pub silent : call.written.new ≡ call.written.old

-- what the query asks for was run: each group of each atom has its member, and this holds
pub record RunsAtoms {S M : Type 0} (call : Call S M) (ends : Task → Type 0) : Type 0 where
  pub task : Task
  pub accepts : Accepts call.words call.texts task
  pub members : AreAllMembers call.source call.sources 1 task.targets call.members
  pub ends_so : ends task

-- the text is that of the query's answer over the rows that the members accepted
abbrev pub IsAnswer : {S M : Type 0} → Call S M → Task → Bytes → Type 0
IsAnswer call task text = IfSome (all_arrivals call.source call.members 1 task.targets) (λ rows. text ≡ answer_text task.query rows)

-- every group is settled, and the whole text of the answer was written
abbrev pub WritesAnswer : {S M : Type 0} → Call S M → Task → Type 0
WritesAnswer call task = AllByRecursion HasEnded call.members
    × (text : Bytes) × IsAnswer call task text × (call.written.new ≡ told_with call.written.old text)

-- every group is settled, the sink failed, and a prefix of the answer's text was written
abbrev pub WritesPrefix : {S M : Type 0} → Call S M → Task → Type 0
WritesPrefix call task = AllByRecursion HasEnded call.members
    × Rose call.out_faults.old call.out_faults.new
    × (text : Bytes) × IsAnswer call task text × (n : ℕ) × (call.written.new ≡ told_with call.written.old (take n text))

-- the words ask for a run over these texts, of which this holds
abbrev pub IfCommand : {S M : Type 0} → Call S M → (Bytes → Bytes → Type 0) → Type 0
IfCommand call holds = (catalogue : Bytes) × (query : Bytes) × (run_of call.words ≡ Some (catalogue, query)) × holds catalogue query

-- The shelf failed at that text. It was asked for the names up to that text's; the catalogue is accepted before the query is fetched.
abbrev pub ShelfFailed : {S M : Type 0} → Call S M → ShelfFile → Type 0
ShelfFailed call file = Rose call.shelf_faults.old call.shelf_faults.new
    × IfCommand call (λ catalogue query. AsksUpTo catalogue query call.shelf_asked file × FailsToLoad (call.texts catalogue) (call.texts query) (status.ShelfFault file))

-- the catalogue's text, where it is told, is refused so
abbrev pub CatalogueIsRefused : {S M : Type 0} → Call S M → ℕ → ℕ → ℕ → Type 0
CatalogueIsRefused call why relation item = IfCommand call (λ catalogue query.
    IfSome (call.texts catalogue) (λ text. RefusesCatalogue text why relation item))

-- the catalogue is accepted, and this holds of its relations and of the query's text, where it is told
abbrev pub IfQuery : {S M : Type 0} → Call S M → (List Relation → Bytes → Type 0) → Type 0
IfQuery call holds = IfCommand call (λ catalogue query.
    AfterCatalogue (call.texts catalogue) (λ relations. IfSome (call.texts query) (λ text. holds relations text)))

-- the run ended so at one of the members, and the sink has what it had
abbrev pub EndsSilently : {S M : Type 0} → Call S M → (MemberEnd S → Type 0) → Type 0
EndsSilently call stops = RunsAtoms call (λ task. StopsAt call.members stops × (call.written.new ≡ call.written.old))

-- what isn't built yet, by its number
abbrev pub IsNotBuilt : {S M : Type 0} → Call S M → ℕ → Type 0
IsNotBuilt call why =
    MatchBool (why == 1) (RunsNothing call × AsksUnbuilt call.words)
    (MatchBool (why == 4) (RunsNothing call × IfQuery call (λ relations text. AsksMirrors relations text)) ⊥)

-- What holds at each status. Want of memory may come anywhere, and the statuses that are ⊥ never come.
abbrev pub HoldsAt : {S M : Type 0} → Call S M → Status → Type 0
HoldsAt call status.Done = RunsAtoms call (WritesAnswer call)
HoldsAt call status.NoMemory = ⊤
HoldsAt call status.Usage = RunsNothing call × (command_of call.words ≡ None)
HoldsAt call (status.ShelfFault file) = RunsNothing call × ShelfFailed call file
HoldsAt call (status.CatalogueRefused why relation item) = RunsNothing call × CatalogueIsRefused call why relation item
HoldsAt call (status.QueryRefused why at) = RunsNothing call × IfQuery call (λ relations text. RefusesQuery relations text why at)
HoldsAt call (status.Starved group) = EndsSilently call (HasFailed call.opener_faults.old call.opener_faults.new group)
HoldsAt call (status.Stalled rounds) = (rounds ≡ idle_limit) × EndsSilently call (HasStalled call.source)
HoldsAt call status.OutFault = RunsAtoms call (WritesPrefix call)
HoldsAt call (status.NotBuilt why) = IsNotBuilt call why
HoldsAt call (status.PlanRefused why part item) = ⊥
HoldsAt call (status.RuleError rule) = ⊥
HoldsAt call (status.SpillFault file) = ⊥
HoldsAt call (status.SpillFull file need limit) = ⊥
HoldsAt call (status.Differs file kept found) = ⊥

-- what the writing of the answer of a settled run comes to
abbrev pub FinishesAnswer : Change (ToldBytes) → Change ℕ → Query → List RowList → Status → Type 0
FinishesAnswer written faults query rows status.Done = written.new ≡ told_with written.old (answer_text query rows)
FinishesAnswer written faults query rows status.OutFault = Rose faults.old faults.new × (n : ℕ) × (written.new ≡ told_with written.old (take n (answer_text query rows)))
FinishesAnswer written faults query rows status.NoMemory = ⊤
FinishesAnswer written faults query rows other = ⊥

-- what the end of a run comes to
abbrev pub Finishes : Change (ToldBytes) → Change ℕ → Query → List RowList → RunEnd → Status → Type 0
Finishes written faults query rows run.Settled ends = FinishesAnswer written faults query rows ends
Finishes written faults query rows (run.Starved group) ends = (ends ≡ status.Starved group) × (written.new ≡ written.old)
Finishes written faults query rows run.Stalled ends = (ends ≡ status.Stalled idle_limit) × (written.new ≡ written.old)
