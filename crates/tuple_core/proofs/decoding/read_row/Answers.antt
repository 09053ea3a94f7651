use Rattle.std.proofs.Common.{◌≡◌, ◌∷◌, arith, rules}
use Rattle.tuple_core.proofs.Sound.{values_fit}
use Rattle.tuple_core.proofs.decoding.read_row.Goals as goal

pub new-requires : goal.new-requires
new-requires c =
    let whole : c.args.bytes.now ≡ c.from-count.result ∷ c.in_ok-count.bytes.now = search rules in
    values_fit c.args.bytes.now c.from-count.result c.in_ok-count.bytes.now (c.in_ok-values.values.items, c.in_ok-values.rest.now) c.type_inv.bytes whole (omega arith) c.in_ok-values.ensures
