-- From the answers of the two fetches, and of what reads the texts, to the answer of the load.
use Rattle.std.proofs.Common.{◌≡◌, ℕ, ◌≤◌, List, [], ◌∷◌, ◌++◌, Ok, Err, Result, IfSome, IfOk, IfErr, ap, sym, refl, ◌∙◌, append_assoc, inl, inr, arith}
use Rattle.std.proofs.lemmas.List.{append-nil}
use Rattle.cat_reader.specs.Catalogue.{catalogue_of}
use Rattle.cat_reader.specs.declared.catalogue.Relation.{Relation}
use Rattle.med_base.specs.Outside.{IsFetched}
use Rattle.med_base.specs.declared.status.ShelfFile.TheVariants as file
use Rattle.med_base.specs.declared.status.Status.{Status}
use Rattle.med_prelude.specs.Texts.{Bytes, ToldBytes}
use Rattle.med_top.specs.Loading.{AsksSome, FailsToFetch, IfShelfFails, Loads}
use Rattle.med_top.specs.Members.{Change}
use Rattle.med_top.specs.Tasks.{AsksMirrors, FailsAsCatalogue, FailsAsTask, IsTaskOf, RefusesCatalogue, RefusesQuery}
use Rattle.med_top.specs.declared.task.Task.{Task}
use Rattle.med_top.proofs.FetchLaws.{of_catalogue, of_query}
use Rattle.med_top.proofs.MemberLaws.{rose_before}

-- what a load's answer says: of the texts, of the names that were asked for, and where the shelf failed
pub record LoadSays (catalogue query : Bytes) (first second : ToldBytes) (faults : Change ℕ) (names : Change (List Bytes)) (answer : Result Task Status) : Type 0 where
  pub loads : Loads first second answer
  pub asked : AsksSome (catalogue ∷ query ∷ []) names
  pub fails : IfShelfFails catalogue query faults names answer

-- the catalogue's text, where it is told, spells the relations that the fetched bytes spell
pub spells : (told : ToldBytes) (bytes : Bytes) (relations : List Relation) → IsFetched told bytes → catalogue_of bytes ≡ Ok relations → IfSome told (λ text. catalogue_of text ≡ Ok relations)
spells told bytes relations fetched e = of_catalogue told bytes (λ text. catalogue_of text ≡ Ok relations) (λ text same. same ∙ e) fetched

-- two names, one after the other
twice : (old mid new : List Bytes) (a b : Bytes) → mid ≡ old ++ a ∷ [] → new ≡ mid ++ b ∷ [] → new ≡ old ++ a ∷ b ∷ []
twice old mid new a b first second = second ∙ ap (λ names. names ++ b ∷ []) first ∙ append_assoc old (a ∷ []) (b ∷ [])

-- the first of two names, or none of them
none_asked : (names old new : List Bytes) → new ≡ old → AsksSome names (record { old = old; new = new })
none_asked names old new same = (0, same ∙ sym (append-nil old))

-- the first text could not be fetched
pub first_failed : (catalogue query : Bytes) (first second : ToldBytes) (faults : Change ℕ) (asked : Change (List Bytes)) (failed : Status)
    → FailsToFetch file.Catalogue catalogue faults asked failed → LoadSays catalogue query first second faults asked (Err failed)
first_failed catalogue query first second faults asked failed (inl (e, inl same)) =
    rw e (record { loads = tt; asked = none_asked (catalogue ∷ query ∷ []) asked.old asked.new same; fails = tt })
first_failed catalogue query first second faults asked failed (inl (e, inr last)) = rw e (record { loads = tt; asked = (1, last); fails = tt })
first_failed catalogue query first second faults asked failed (inr (e, rose, last)) = rw e (record { loads = tt; asked = (1, last); fails = (rose, last) })

-- the first text was fetched and is refused
pub catalogue_failed : (catalogue query bytes : Bytes) (first second : ToldBytes) (faults : Change ℕ) (asked : Change (List Bytes)) (failed : Status)
    → IsFetched first bytes → asked.new ≡ asked.old ++ catalogue ∷ [] → FailsAsCatalogue bytes failed → LoadSays catalogue query first second faults asked (Err failed)
catalogue_failed catalogue query bytes first second faults asked failed fetched last (inl e) = rw e (record { loads = tt; asked = (1, last); fails = tt })
catalogue_failed catalogue query bytes first second faults asked failed fetched last (inr (why, relation, item, e, refused)) =
    let says = of_catalogue first bytes (λ text. RefusesCatalogue text why relation item) (λ text same. same ∙ refused) fetched in
    rw e (record { loads = says; asked = (1, last); fails = tt })

-- the second text could not be fetched
pub second_failed : (catalogue query : Bytes) (first second : ToldBytes) (relations : List Relation) (start : ℕ) (faults : Change ℕ) (old : List Bytes) (asked : Change (List Bytes)) (failed : Status)
    → IfSome first (λ text. catalogue_of text ≡ Ok relations) → start ≤ faults.old → asked.old ≡ old ++ catalogue ∷ []
    → FailsToFetch file.Query query faults asked failed → LoadSays catalogue query first second (record { old = start; new = faults.new }) (record { old = old; new = asked.new }) (Err failed)
second_failed catalogue query first second relations start faults old asked failed says no_more mid (inl (e, inl same)) = rw e (record { loads = tt; asked = (1, same ∙ mid); fails = tt })
second_failed catalogue query first second relations start faults old asked failed says no_more mid (inl (e, inr last)) =
    rw e (record { loads = tt; asked = (2, twice old asked.old asked.new catalogue query mid last); fails = tt })
second_failed catalogue query first second relations start faults old asked failed says no_more mid (inr (e, rose, last)) =
    let both = twice old asked.old asked.new catalogue query mid last in
    rw e (record { loads = (relations, says, tt); asked = (2, both); fails = (rose_before start faults.old faults.new no_more rose, both) })

-- both texts were fetched, and gave a task
pub task_loads : (catalogue query bytes : Bytes) (first second : ToldBytes) (relations : List Relation) (faults : Change ℕ) (old mid new : List Bytes) (task : Task)
    → IfSome first (λ text. catalogue_of text ≡ Ok relations) → IsFetched second bytes → mid ≡ old ++ catalogue ∷ [] → new ≡ mid ++ query ∷ []
    → IsTaskOf relations bytes task → LoadSays catalogue query first second faults (record { old = old; new = new }) (Ok task)
task_loads catalogue query bytes first second relations faults old mid new task says fetched mid_is new_is is = record {
  loads = (relations, says, of_query relations second bytes (λ text. IsTaskOf relations text task) (λ text same. record { query = same ∙ is.query; targets = is.targets }) fetched);
  asked = (2, twice old mid new catalogue query mid_is new_is);
  fails = tt;
}

-- both texts were fetched, and gave no task
pub task_failed : (catalogue query bytes : Bytes) (first second : ToldBytes) (relations : List Relation) (faults : Change ℕ) (old mid new : List Bytes) (failed : Status)
    → IfSome first (λ text. catalogue_of text ≡ Ok relations) → IsFetched second bytes → mid ≡ old ++ catalogue ∷ [] → new ≡ mid ++ query ∷ []
    → FailsAsTask relations bytes failed → LoadSays catalogue query first second faults (record { old = old; new = new }) (Err failed)
task_failed catalogue query bytes first second relations faults old mid new failed says fetched mid_is new_is (inl e) =
    rw e (record { loads = tt; asked = (2, twice old mid new catalogue query mid_is new_is); fails = tt })
task_failed catalogue query bytes first second relations faults old mid new failed says fetched mid_is new_is (inr (inl (why, at, e, refused))) =
    let told = of_query relations second bytes (λ text. RefusesQuery relations text why at) (λ text same. same ∙ refused) fetched in
    rw e (record { loads = (relations, says, told); asked = (2, twice old mid new catalogue query mid_is new_is); fails = tt })
task_failed catalogue query bytes first second relations faults old mid new failed says fetched mid_is new_is (inr (inr (e, mirrors))) =
    let told = of_query relations second bytes (λ text. AsksMirrors relations text) (λ text same. record { query = mirrors.query; accepted = same ∙ mirrors.accepted; several = mirrors.several }) fetched in
    rw e (record { loads = (refl, (relations, says, told)); asked = (2, twice old mid new catalogue query mid_is new_is); fails = tt })

-- both texts were fetched: what the answer is, as what they were read as says
pub texts_load : (catalogue query bytes : Bytes) (first second : ToldBytes) (relations : List Relation) (faults : Change ℕ) (old mid new : List Bytes) (answer : Result Task Status)
    → IfSome first (λ text. catalogue_of text ≡ Ok relations) → IsFetched second bytes → mid ≡ old ++ catalogue ∷ [] → new ≡ mid ++ query ∷ []
    → IfOk answer (λ task. IsTaskOf relations bytes task) → IfErr answer (λ failed. FailsAsTask relations bytes failed)
    → LoadSays catalogue query first second faults (record { old = old; new = new }) answer
texts_load catalogue query bytes first second relations faults old mid new (Ok task) says fetched mid_is new_is is fails = task_loads catalogue query bytes first second relations faults old mid new task says fetched mid_is new_is is
texts_load catalogue query bytes first second relations faults old mid new (Err failed) says fetched mid_is new_is is fails = task_failed catalogue query bytes first second relations faults old mid new failed says fetched mid_is new_is fails
