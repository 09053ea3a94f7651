use Rattle.std.proofs.Common.{◌<◌, ◌^◌, ℕ, length, sym, subst, arith}
use Rattle.least_order.proofs.SetLaws.{with_below}
use Rattle.least_order.proofs.certificate.is_below_steps_from.Goals as goal

pub offset_bounds-rest-with : goal.offset_bounds-rest-with
offset_bounds-rest-with c =
    let inside : c.with.result < 2 ^ length c.args.items.now =
    subst (λ (n : ℕ). n < 2 ^ length c.args.items.now) (sym c.with.ensures)
    (with_below (length c.args.items.now) c.args.set c.loop-position.position c.requires.set c.loop-position-test.true) in
    omega (arith, inside, c.requires.len)

pub bounds-rest-with : goal.bounds-rest-with
bounds-rest-with c =
    let inside : c.with.result < 2 ^ length c.args.items.now =
    subst (λ (n : ℕ). n < 2 ^ length c.args.items.now) (sym c.with.ensures)
    (with_below (length c.args.items.now) c.args.set c.loop-position.position c.requires.set c.loop-position-test.true) in
    omega (arith, inside, c.requires.len)
