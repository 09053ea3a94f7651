-- The first broken check of a text is told, at the least location that breaks it.
use Rattle.med_prelude.specs.Texts.{Bytes}
use Rattle.text_reading.specs.Checks.{IsExact, first_broken}
use Rattle.text_reading.proofs.CheckLaws as checks
use Rattle.cat_reader.specs.Catalogue.{checks_of}
use Rattle.cat_reader.specs.Locations.{is_up_to, where_order}

pub exact : (text : Bytes) → IsExact is_up_to (checks_of text) (first_broken is_up_to (checks_of text))
exact text = checks.exact is_up_to where_order (checks_of text)
