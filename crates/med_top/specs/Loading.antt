-- What the texts on a shelf say: the catalogue, and what the query asks to be done with it.
use Rattle.std.specs.Prelude.{◌≡◌, ⊤, ℕ, ◌⊎◌, List, [], ◌∷◌, ◌++◌, take, IfSome, Result, Ok, Err}
use Rattle.cat_reader.specs.Catalogue.{catalogue_of}
use Rattle.cat_reader.specs.declared.catalogue.Relation.{Relation}
use Rattle.med_base.specs.declared.status.ShelfFile.{ShelfFile}
use Rattle.med_base.specs.declared.status.ShelfFile.TheVariants as file
use Rattle.med_base.specs.declared.status.Status.{Status}
use Rattle.med_base.specs.declared.status.Status.TheVariants as status
use Rattle.med_prelude.specs.Counts.{Rose}
use Rattle.med_prelude.specs.Texts.{Bytes, ToldBytes}
use Rattle.med_top.specs.Members.{Change}
use Rattle.med_top.specs.Tasks.{AsksMirrors, IsTaskOf, RefusesCatalogue, RefusesQuery}
use Rattle.med_top.specs.declared.task.Task.{Task}

-- the catalogue's text, where it is told, spells relations of which this holds
abbrev pub AfterCatalogue : ToldBytes → (List Relation → Type 0) → Type 0
AfterCatalogue told says = (relations : List Relation) × IfSome told (λ text. catalogue_of text ≡ Ok relations) × says relations

-- What the two texts say where they give nothing to run. The query is looked at only behind a catalogue that is accepted.
abbrev pub FailsToLoad : ToldBytes → ToldBytes → Status → Type 0
FailsToLoad catalogue query status.NoMemory = ⊤
FailsToLoad catalogue query (status.ShelfFault file.Catalogue) = ⊤
FailsToLoad catalogue query (status.ShelfFault file.Query) = AfterCatalogue catalogue (λ _. ⊤)
FailsToLoad catalogue query (status.ShelfFault file.Plan) = ⊥
FailsToLoad catalogue query (status.CatalogueRefused why relation item) = IfSome catalogue (λ text. RefusesCatalogue text why relation item)
FailsToLoad catalogue query (status.QueryRefused why at) = AfterCatalogue catalogue (λ relations. IfSome query (λ text. RefusesQuery relations text why at))
FailsToLoad catalogue query (status.NotBuilt why) = (why ≡ 4) × AfterCatalogue catalogue (λ relations. IfSome query (λ text. AsksMirrors relations text))
FailsToLoad catalogue query other = ⊥

-- what the two texts say at each answer
abbrev pub Loads : ToldBytes → ToldBytes → Result Task Status → Type 0
Loads catalogue query (Ok task) = AfterCatalogue catalogue (λ relations. IfSome query (λ text. IsTaskOf relations text task))
Loads catalogue query (Err status) = FailsToLoad catalogue query status

-- the shelf was asked for some of these names, from the first on
abbrev pub AsksSome : List Bytes → Change (List Bytes) → Type 0
AsksSome names asked = (n : ℕ) × (asked.new ≡ asked.old ++ take n names)

-- the shelf was asked for that name last
abbrev pub AsksLast : Bytes → Change (List Bytes) → Type 0
AsksLast name asked = asked.new ≡ asked.old ++ name ∷ []

-- the text of that name could not be fetched: memory ran out, or the shelf was asked for it and failed
abbrev pub FailsToFetch : ShelfFile → Bytes → Change ℕ → Change (List Bytes) → Status → Type 0
FailsToFetch file name faults asked failed = ((failed ≡ status.NoMemory) × ((asked.new ≡ asked.old) ⊎ AsksLast name asked))
    ⊎ ((failed ≡ status.ShelfFault file) × Rose faults.old faults.new × AsksLast name asked)

-- the names that the shelf was asked for, up to that of the text at which it failed
abbrev pub AsksUpTo : Bytes → Bytes → Change (List Bytes) → ShelfFile → Type 0
AsksUpTo catalogue query asked file.Catalogue = asked.new ≡ asked.old ++ catalogue ∷ []
AsksUpTo catalogue query asked file.Query = asked.new ≡ asked.old ++ catalogue ∷ query ∷ []
AsksUpTo catalogue query asked file.Plan = ⊥

-- where the answer is that the shelf failed, its count of faults rose, and it was asked for the names up to that text's
abbrev pub IfShelfFails : Bytes → Bytes → Change ℕ → Change (List Bytes) → Result Task Status → Type 0
IfShelfFails catalogue query faults asked (Err (status.ShelfFault file)) = Rose faults.old faults.new × AsksUpTo catalogue query asked file
IfShelfFails catalogue query faults asked other = ⊤
