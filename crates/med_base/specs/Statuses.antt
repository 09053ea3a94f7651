-- The number that the program exits with.
use Rattle.std.specs.Prelude.{ℕ}
use Rattle.med_base.specs.declared.status.Status.{Status}
use Rattle.med_base.specs.declared.status.Status.TheVariants.{Done, NoMemory, Usage, ShelfFault, CatalogueRefused, QueryRefused, PlanRefused, Starved, RuleError, SpillFault, SpillFull, Differs, Stalled, OutFault, NotBuilt}

abbrev pub status_code : Status → ℕ
status_code Done = 0
status_code NoMemory = 1
status_code Usage = 2
status_code (ShelfFault file) = 3
status_code (CatalogueRefused why relation item) = 4
status_code (QueryRefused why at) = 5
status_code (PlanRefused why part item) = 6
status_code (Starved group) = 7
status_code (RuleError rule) = 8
status_code (SpillFault file) = 9
status_code (SpillFull file need limit) = 10
status_code (Differs file kept found) = 11
status_code (Stalled rounds) = 12
status_code OutFault = 13
status_code (NotBuilt why) = 14
