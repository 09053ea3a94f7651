-- What the texts of a catalogue and of a query come to.
use Rattle.std.specs.Prelude.{◌≡◌, ℕ, ◌≤◌, ◌⊎◌, List, length, Some, None, Ok, Err}
use Rattle.cat_reader.specs.Catalogue.{catalogue_of}
use Rattle.cat_reader.specs.declared.catalogue.CatalogueFault.TheVariants as catalogue
use Rattle.cat_reader.specs.declared.catalogue.Relation.{Relation}
use Rattle.med_base.specs.declared.status.Status.{Status}
use Rattle.med_base.specs.declared.status.Status.TheVariants as status
use Rattle.med_prelude.specs.Texts.{Bytes}
use Rattle.query_reader.specs.Reading.{query_of}
use Rattle.query_core.specs.declared.query.Query.{Query}
use Rattle.text_reading.specs.Checks.{broken_at}
use Rattle.med_top.specs.Targets.{AreTargetsWithin, HaveTerms, targets_for}
use Rattle.med_top.specs.declared.task.Task.{Task}

-- the text of a catalogue is refused by that check, at an item of a relation
abbrev pub RefusesCatalogue : Bytes → ℕ → ℕ → ℕ → Type 0
RefusesCatalogue text why relation item = catalogue_of text ≡ Err (catalogue.Refused why relation item)

-- the text of a query is refused by that check, at an offset
abbrev pub RefusesQuery : List Relation → Bytes → ℕ → ℕ → Type 0
RefusesQuery relations text why at = query_of text relations ≡ Err (broken_at why at)

-- the text's query, with what is read for each of its atoms
pub record IsTaskOf (relations : List Relation) (text : Bytes) (task : Task) : Type 0 where
  pub query : query_of text relations ≡ Ok task.query
  pub targets : targets_for relations task.query.atoms ≡ Some task.targets

-- the text's query is accepted, and asks for a relation with a group of several mirrors
pub record AsksMirrors (relations : List Relation) (text : Bytes) : Type 0 where
  pub query : Query
  pub accepted : query_of text relations ≡ Ok query
  pub several : targets_for relations query.atoms ≡ None

-- why the text of a catalogue gave no relations
abbrev pub FailsAsCatalogue : Bytes → Status → Type 0
FailsAsCatalogue text failed = (failed ≡ status.NoMemory)
    ⊎ ((why : ℕ) × (relation : ℕ) × (item : ℕ) × (failed ≡ status.CatalogueRefused why relation item) × RefusesCatalogue text why relation item)

-- why the text of a query gave no task
abbrev pub FailsAsTask : List Relation → Bytes → Status → Type 0
FailsAsTask relations text failed = (failed ≡ status.NoMemory)
    ⊎ ((why : ℕ) × (at : ℕ) × (failed ≡ status.QueryRefused why at) × RefusesQuery relations text why at)
    ⊎ ((failed ≡ status.NotBuilt 4) × AsksMirrors relations text)

-- at most 64 variables in the head, at most 8 atoms, and each of these has a term for each column of its target
pub record IsTaskWithin (task : Task) : Type 0 where
  pub head : length task.query.head ≤ 64
  pub targets : AreTargetsWithin task.targets
  pub terms : HaveTerms task.query.atoms task.targets
