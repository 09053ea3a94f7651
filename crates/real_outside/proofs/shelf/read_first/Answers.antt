use Rattle.med_base.specs.Outside.{most_fetched}
use Rattle.real_outside.proofs.Firsts.{known_firsts}
use Rattle.real_outside.proofs.shelf.read_first.Goals as goal

pub returns-clause-known : goal.returns-clause-known
returns-clause-known g c =
    known_firsts g.F.Read.remaining most_fetched _ c.args.reader _ _ _ _ c.in_ok-read_to_end.ensures.bytes c.new-bytes.ensures.items c.take.ensures.limit c.take.ensures.inner c.truncate.ensures.items
