use Rattle.std.proofs.Common.{arith, ◌++◌, ◌∷◌, length, slice_get, refl, ap, ap₂, ◌∙◌}
use Rattle.tuple_core.specs.Encoding.{value_encoding}
use Rattle.tuple_core.proofs.Keyed.{made_more}
use Rattle.tuple_core.proofs.keys.fill.Goals as goal

pub loop-position-preserved : goal.loop-position-preserved
loop-position-preserved c =
    let inv = c.loop-position.invariant in
    let put = c.put_at.ensures in
    record {
      items = put.items ∙ ap₂ (λ l r. l ++ r) inv.items refl ∙ ap (λ l. length c.args.positions.now ∷ l) (made_more value_encoding (slice_get c.args.row.now) c.args.positions.now c.loop-position.position-index _ c.loop-position-test.true);
      len = (let e = put.len in let f = inv.len in omega (arith, e, f));
      capacity = (let e = put.capacity in let f = inv.capacity in omega (arith, e, f));
    }
