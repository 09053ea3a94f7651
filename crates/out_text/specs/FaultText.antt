-- What a user is told of a status.
use Rattle.std.specs.Prelude.{List, [], ◌∷◌, ◌++◌, codes}
use Rattle.std.specs.Fmt.{decimal}
use Rattle.med_base.specs.declared.status.Part.{Part}
use Rattle.med_base.specs.declared.status.Part.TheVariants as part
use Rattle.med_base.specs.declared.status.ShelfFile.{ShelfFile}
use Rattle.med_base.specs.declared.status.ShelfFile.TheVariants as file
use Rattle.med_base.specs.declared.status.Status.{Status}
use Rattle.med_base.specs.declared.status.Status.TheVariants as status
use Rattle.med_prelude.specs.Texts.{Bytes}

abbrev pub file_word : ShelfFile → Bytes
file_word file.Catalogue = codes "catalogue"
file_word file.Query = codes "query"
file_word file.Plan = codes "plan"

abbrev pub part_word : Part → Bytes
part_word part.Plan = codes "plan"
part_word part.Fragment = codes "fragment"
part_word part.Join = codes "join"
part_word part.Group = codes "group"
part_word part.Rule = codes "rule"
part_word part.Atom = codes "atom"

-- the pieces, one after the other, and a line feed
abbrev pub line : List Bytes → Bytes
line [] = 10 ∷ []
line (piece ∷ pieces) = piece ++ line pieces

-- the forms that a command has
abbrev pub usage_text : Bytes
usage_text = line (codes "usage: mediator run CATALOGUE QUERY [PLAN] [--threads N] [--report] [--journal]" ∷ [])
    ++ (line (codes "       mediator check CATALOGUE QUERY [PLAN]" ∷ [])
    ++ line (codes "       mediator load NUMBER [--rows N] [--threads N]" ∷ []))

abbrev pub fault_text : Status → Bytes
fault_text status.Done = []
fault_text status.NoMemory = line (codes "mediator: out of memory" ∷ [])
fault_text status.Usage = usage_text
fault_text (status.ShelfFault file) = line (codes "mediator: cannot read " ∷ file_word file ∷ [])
fault_text (status.CatalogueRefused why relation item) = line (codes "mediator: catalogue refused " ∷ decimal why ∷ codes " relation " ∷ decimal relation ∷ codes " item " ∷ decimal item ∷ [])
fault_text (status.QueryRefused why at) = line (codes "mediator: query refused " ∷ decimal why ∷ codes " at " ∷ decimal at ∷ [])
fault_text (status.PlanRefused why part item) = line (codes "mediator: plan refused " ∷ decimal why ∷ codes " " ∷ part_word part ∷ codes " " ∷ decimal item ∷ [])
fault_text (status.Starved group) = line (codes "mediator: starved a" ∷ decimal group.atom ∷ codes "." ∷ decimal group.group ∷ [])
fault_text (status.RuleError rule) = line (codes "mediator: rule " ∷ decimal rule ∷ codes " stopped the run" ∷ [])
fault_text (status.SpillFault file) = line (codes "mediator: spill fault file " ∷ decimal file ∷ [])
fault_text (status.SpillFull file need limit) = line (codes "mediator: spill full file " ∷ decimal file ∷ codes " need " ∷ decimal need ∷ codes " limit " ∷ decimal limit ∷ [])
fault_text (status.Differs file kept found) = line (codes "mediator: spill file " ∷ decimal file ∷ codes " kept " ∷ decimal kept ∷ codes " found " ∷ decimal found ∷ [])
fault_text (status.Stalled rounds) = line (codes "mediator: stalled " ∷ decimal rounds ∷ codes " rounds" ∷ [])
fault_text status.OutFault = line (codes "mediator: output fault" ∷ [])
fault_text (status.NotBuilt why) = line (codes "mediator: not built yet " ∷ decimal why ∷ [])
