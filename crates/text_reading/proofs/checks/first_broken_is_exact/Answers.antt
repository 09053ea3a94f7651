use Rattle.text_reading.proofs.CheckLaws.{exact}
use Rattle.text_reading.proofs.checks.first_broken_is_exact.Goals as goal

pub returns : goal.returns
returns g c = exact g.P.Ordered.up_to g.met.P.Ordered.order
