use Rattle.cat_reader.proofs.Colons.{split_at_colon}
use Rattle.cat_reader.proofs.columns.parts_of.Goals as goal

pub returns : goal.returns
returns c = split_at_colon c.args.text.now _ c.rsplit_once.ensures.cases
