use Rattle.std.proofs.Common.{arith}
use Rattle.tuple_core.proofs.Weighing.{row_bounded, row_weighs}
use Rattle.tuple_core.proofs.keys.KeyRoom.capacity.Goals as goal

pub returns-clause-fits : goal.returns-clause-fits
returns-clause-fits c = λ row fits.
    let weighs = row_weighs row in
    let bounded = row_bounded row fits in
    let enough = c.self.invariant in
    omega (arith, c.capacity.ensures)
