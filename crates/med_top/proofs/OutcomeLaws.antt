-- From the end of a run to what holds at the call's status.
use Rattle.std.proofs.Common.{◌≡◌, ℕ, List, [], ◌∷◌, Option, Some, None, Err, IfSome, ◌∙◌, ap, sym, subst, refl, inl, inr}
use Rattle.std.specs.List.{AllByRecursion}
use Rattle.med_base.specs.declared.status.Status.{Status}
use Rattle.med_base.specs.declared.status.Status.TheVariants as status
use Rattle.med_prelude.specs.Texts.{Bytes, ToldBytes}
use Rattle.tuple_core.specs.declared.value.Value.{Value}
use Rattle.tuple_core.specs.Values.{RowList}
use Rattle.med_top.specs.Command.{AsksNoRun, names_of, run_of}
use Rattle.med_top.specs.Telling.{EndsTelling, Tells}
use Rattle.med_top.specs.Loading.{AsksSome, FailsToLoad, IfShelfFails}
use Rattle.query_core.specs.Answers.{answer_text}
use Rattle.query_core.specs.declared.query.Query.{Query}
use Rattle.med_top.specs.Atoms.{AreAllMembers, EndsAtoms, all_arrivals}
use Rattle.med_top.specs.Members.{Change, HasEnded}
use Rattle.med_top.specs.Outcomes.{Accepts, Call, Finishes, FinishesAnswer, HoldsAt, RunsNothing}
use Rattle.med_top.specs.declared.groups.RunEnd.{RunEnd}
use Rattle.med_top.specs.declared.groups.RunEnd.TheVariants as run
use Rattle.med_top.specs.declared.task.Task.{Task}

-- the text of the answer over the rows is that over the accepted ones, which are the same
same_answer : (query : Query) (accepted : Option (List RowList)) (rows : List RowList)
    → IfSome accepted (λ told. rows ≡ told) → IfSome accepted (λ told. answer_text query rows ≡ answer_text query told)
same_answer query None rows same = tt
same_answer query (Some told) rows same = ap (answer_text query) same

module _ {S M : Type 0} (call : Call S M) (task : Task)
    (accepts : Accepts call.words call.texts task)
    (members : AreAllMembers call.source call.sources 1 task.targets call.members) where
  settled : (rows : List RowList) (ends : Status) → AllByRecursion HasEnded call.members
      → IfSome (all_arrivals call.source call.members 1 task.targets) (λ told. rows ≡ told) → FinishesAnswer call.written call.out_faults task.query rows ends → HoldsAt call ends
  settled rows status.Done ended same h =
      record {
        task = task;
        accepts = accepts;
        members = members;
        ends_so = (ended, answer_text task.query rows, same_answer task.query (all_arrivals call.source call.members 1 task.targets) rows same, h);
      }
  settled rows status.OutFault ended same h =
      record {
        task = task;
        accepts = accepts;
        members = members;
        ends_so = (ended, h.0, answer_text task.query rows, same_answer task.query (all_arrivals call.source call.members 1 task.targets) rows same, h.1, h.2);
      }
  settled rows status.NoMemory ended same h = tt
  settled rows status.Usage ended same h = absurd h
  settled rows (status.ShelfFault file) ended same h = absurd h
  settled rows (status.CatalogueRefused why relation item) ended same h = absurd h
  settled rows (status.QueryRefused why at) ended same h = absurd h
  settled rows (status.PlanRefused why part item) ended same h = absurd h
  settled rows (status.Starved group) ended same h = absurd h
  settled rows (status.RuleError rule) ended same h = absurd h
  settled rows (status.SpillFault file) ended same h = absurd h
  settled rows (status.SpillFull file need limit) ended same h = absurd h
  settled rows (status.Differs file kept found) ended same h = absurd h
  settled rows (status.Stalled rounds) ended same h = absurd h
  settled rows (status.NotBuilt why) ended same h = absurd h

  pub finished : (rows : List RowList) (end : RunEnd) (ends : Status) → EndsAtoms call.source task.targets call.opener_faults.old call.opener_faults.new call.members rows end
      → Finishes call.written call.out_faults task.query rows end ends → HoldsAt call ends
  finished rows run.Settled ends e h = settled rows ends e.0 e.1 h
  finished rows (run.Starved group) ends e h = rw (h.0) (record { task = task; accepts = accepts; members = members; ends_so = (e, h.1) })
  finished rows run.Stalled ends e h = rw (h.0) (refl, record { task = task; accepts = accepts; members = members; ends_so = (e, h.1) })

-- the two names are those of the command
pub names_asked : (catalogue query : Bytes) (words : List Bytes) (asked : Change (List Bytes)) → run_of words ≡ Some (catalogue, query)
    → AsksSome (catalogue ∷ query ∷ []) asked → AsksSome (names_of words) asked
names_asked catalogue query words asked command (n, e) = (n, rw command e)

-- from a load that gave nothing to run to what holds at its status
pub load_failed : {S M : Type 0} (call : Call S M) (catalogue query : Bytes) (failed : Status) → RunsNothing call → run_of call.words ≡ Some (catalogue, query)
    → FailsToLoad (call.texts catalogue) (call.texts query) failed → IfShelfFails catalogue query call.shelf_faults call.shelf_asked (Err failed) → HoldsAt call failed
load_failed call catalogue query status.NoMemory nothing command h fails = tt
load_failed call catalogue query (status.ShelfFault file) nothing command h fails = (nothing, (fails.0, (catalogue, query, command, (fails.1, h))))
load_failed call catalogue query (status.CatalogueRefused why relation item) nothing command h fails = (nothing, (catalogue, query, command, h))
load_failed call catalogue query (status.QueryRefused why at) nothing command h fails = (nothing, (catalogue, query, command, h))
load_failed call catalogue query (status.NotBuilt why) nothing command h fails = rw (h.0) (nothing, (catalogue, query, command, h.1))
load_failed call catalogue query status.Done nothing command h fails = absurd h
load_failed call catalogue query status.Usage nothing command h fails = absurd h
load_failed call catalogue query (status.PlanRefused why part item) nothing command h fails = absurd h
load_failed call catalogue query (status.Starved group) nothing command h fails = absurd h
load_failed call catalogue query (status.RuleError rule) nothing command h fails = absurd h
load_failed call catalogue query (status.SpillFault file) nothing command h fails = absurd h
load_failed call catalogue query (status.SpillFull file need limit) nothing command h fails = absurd h
load_failed call catalogue query (status.Differs file kept found) nothing command h fails = absurd h
load_failed call catalogue query (status.Stalled rounds) nothing command h fails = absurd h
load_failed call catalogue query status.OutFault nothing command h fails = absurd h

-- the names that are handed on are those that the words ask for
pub asked_names : (words : List Bytes) (catalogue query first second : Bytes) → run_of words ≡ Some (catalogue, query) → first ≡ catalogue → second ≡ query
    → run_of words ≡ Some (first, second)
asked_names words catalogue query first second asks same alike = rw (same, alike) asks

-- from words that ask for no run that is built to what holds at their status
pub no_run : {S M : Type 0} (call : Call S M) (failed : Status) → RunsNothing call → AsksNoRun call.words failed → HoldsAt call failed
no_run call status.NoMemory nothing asks = tt
no_run call status.Usage nothing asks = (nothing, asks)
no_run call (status.NotBuilt why) nothing asks = rw (asks.0) (nothing, asks.1)
no_run call status.Done nothing asks = absurd asks
no_run call (status.ShelfFault file) nothing asks = absurd asks
no_run call (status.CatalogueRefused why relation item) nothing asks = absurd asks
no_run call (status.QueryRefused why at) nothing asks = absurd asks
no_run call (status.PlanRefused why part item) nothing asks = absurd asks
no_run call (status.Starved group) nothing asks = absurd asks
no_run call (status.RuleError rule) nothing asks = absurd asks
no_run call (status.SpillFault file) nothing asks = absurd asks
no_run call (status.SpillFull file need limit) nothing asks = absurd asks
no_run call (status.Differs file kept found) nothing asks = absurd asks
no_run call (status.Stalled rounds) nothing asks = absurd asks
no_run call status.OutFault nothing asks = absurd asks

-- what held before the status was told holds after it
pub holds_told : {S M : Type 0} (call : Call S M) (written : Change ToldBytes) (faults : Change ℕ) (old new : Status) → EndsTelling written faults old new → HoldsAt call old → HoldsAt call new
holds_told call written faults old new (inl (same, told)) holds = subst (HoldsAt call) (sym same) holds
holds_told call written faults old new (inr memory) holds = rw memory tt

-- a status other than want of memory is the one that was told
pub same_told : (written : Change ToldBytes) (faults : Change ℕ) (old new : Status) → EndsTelling written faults old new → (new ≡ status.NoMemory → ⊥) → (old ≡ status.NoMemory → ⊥) × Tells written faults new
same_told written faults old new (inl (same, told)) other = ((λ memory. other (same ∙ memory)), told)
same_told written faults old new (inr memory) other = absurd (other memory)
