use Rattle.std.proofs.Common.{[], ◌≡◌, ◌≤◌, drop, length, None, refl, ap, ◌∙◌, arith, rules}
use Rattle.std.proofs.lemmas.Grind.{common_steps}
use Rattle.tuple_core.specs.Decoding.{row_and_rest}
use Rattle.tuple_core.proofs.Sound.{begins, ends, none_begins}
use Rattle.tuple_core.proofs.decoding.decode.Goals as goal

pub overflow_sub-result : goal.overflow_sub-result
overflow_sub-result c =
    let from : c.in-Some.from.now ≡ drop c.args.at c.args.bytes.now = search rules in
    let inside : c.args.at ≤ length c.args.bytes.now = search rules in
    let e = ends c.args.bytes.now c.args.at (c.in-Ok.row, c.in-Ok.rest.now) c.type_inv.bytes inside (c.in-Ok.ensures ∙ ap row_and_rest from) in
    omega (arith, e)

pub returns-in-Ok-clause-row : goal.returns-in-Ok-clause-row
returns-in-Ok-clause-row c =
    let from : c.in-Some.from.now ≡ drop c.args.at c.args.bytes.now = search rules in
    begins c.args.bytes.now c.args.at (c.in-Ok.row, c.in-Ok.rest.now) c.type_inv.bytes (c.in-Ok.ensures ∙ ap row_and_rest from)

pub returns-in-Ok-clause-after : goal.returns-in-Ok-clause-after
returns-in-Ok-clause-after c =
    let from : c.in-Some.from.now ≡ drop c.args.at c.args.bytes.now = search rules in
    let inside : c.args.at ≤ length c.args.bytes.now = search rules in
    let e = ends c.args.bytes.now c.args.at (c.in-Ok.row, c.in-Ok.rest.now) c.type_inv.bytes inside (c.in-Ok.ensures ∙ ap row_and_rest from) in
    omega (arith, e)

pub returns-in-Err-Bad-clause-bad : goal.returns-in-Err-Bad-clause-bad
returns-in-Err-Bad-clause-bad c =
    let from : c.in-Some.from.now ≡ drop c.args.at c.args.bytes.now = search rules in
    let none : None ≡ row_and_rest c.in-Some.from.now = rw c.in-Err-Bad.field-0-is at c.in-Err-Bad.ensures in
    (refl, none_begins c.args.bytes.now c.args.at (none ∙ ap row_and_rest from))

pub returns-in_default-clause-reads : goal.returns-in_default-clause-reads
unfolding row_and_rest
returns-in_default-clause-reads c =
    let past : drop c.args.at c.args.bytes.now ≡ [] = grind (arith, common_steps) in
    rw past refl
