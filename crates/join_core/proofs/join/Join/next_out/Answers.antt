use Rattle.std.proofs.Common.{◌≡◌, ◌<◌, ◌+◌, ◌^◌, arith, [], Some, None, length, get_or, refl, sym, ap, ap₂, subst, ◌∙◌}
use Rattle.bucket_store.specs.Held.{no_row, rows_in}
use Rattle.answer_theory.specs.Rows.{glued_variables}
use Rattle.row_match.specs.Shapes.{vars_of}
use Rattle.join_core.specs.Kept.{IsJoin, facing_rows}
use Rattle.join_core.specs.Sides.{buckets_on, glued_on, joining_of, opposite}
use Rattle.join_core.specs.Steps.{GivesMatch, GivesNothing, JoinStep}
use Rattle.bucket_store.specs.Addresses.{address_of}
use Rattle.join_core.proofs.Keeping.{address_on}
use Rattle.join_core.proofs.Stepping.{gives_step, nothing_idle}
use Rattle.join_core.proofs.Turning.{found_by, found_in, found_inside, gives_nothing, gives_row, gives_wide, keeps_row, moves, own_wide, partner_earlier, partner_wide}
use Rattle.join_core.proofs.join.Join.next_out.Goals as goal

pub returns-in_default-clause-gives : goal.returns-in_default-clause-gives
returns-in_default-clause-gives c =
    subst (λ s. GivesNothing s s) (ap (joining_of c.self.inside.shape c.self.inside.sides c.self.inside.left_ended c.self.inside.right_ended c.self.inside.next) (sym c.in_default.is) ∙ c.self.view_is)
    (nothing_idle c.self.inside.shape c.self.inside.sides c.self.inside.left_ended c.self.inside.right_ended c.self.inside.next)

pub returns-in_default-probe-clause-gives : goal.returns-in_default-probe-clause-gives
returns-in_default-probe-clause-gives c =
    let joined = subst (IsJoin c.self.inside.shape c.self.inside.sides c.self.inside.next c.self.inside.key) c.in-Some.is c.self.invariant in
    let none : None ≡ found_in c.self.inside.sides c.self.inside.key c.in-Some.probe = sym c.in_default-probe.is ∙ found_by c.self.inside.sides c.self.inside.key c.in-Some.probe c.on-facing.result.now c.as_slice.result.now c.opposite.result c.probe.result c.probe.ensures.next c.as_slice.ensures c.on-facing.ensures c.opposite.ensures in
    subst (λ s. GivesNothing s (joining_of c.self.inside.shape c.self.inside.sides c.self.inside.left_ended c.self.inside.right_ended c.self.inside.next None))
    (ap (joining_of c.self.inside.shape c.self.inside.sides c.self.inside.left_ended c.self.inside.right_ended c.self.inside.next) (sym c.in-Some.is) ∙ c.self.view_is)
    (gives_nothing c.self.inside.shape c.self.inside.sides c.self.inside.next c.self.inside.key c.in-Some.probe joined c.self.inside.left_ended c.self.inside.right_ended none).0

pub returns-in_default-probe-clause-step : goal.returns-in_default-probe-clause-step
returns-in_default-probe-clause-step c =
    let joined = subst (IsJoin c.self.inside.shape c.self.inside.sides c.self.inside.next c.self.inside.key) c.in-Some.is c.self.invariant in
    let none : None ≡ found_in c.self.inside.sides c.self.inside.key c.in-Some.probe = sym c.in_default-probe.is ∙ found_by c.self.inside.sides c.self.inside.key c.in-Some.probe c.on-facing.result.now c.as_slice.result.now c.opposite.result c.probe.result c.probe.ensures.next c.as_slice.ensures c.on-facing.ensures c.opposite.ensures in
    subst (λ s. JoinStep s (joining_of c.self.inside.shape c.self.inside.sides c.self.inside.left_ended c.self.inside.right_ended c.self.inside.next None) [] [] [])
    (ap (joining_of c.self.inside.shape c.self.inside.sides c.self.inside.left_ended c.self.inside.right_ended c.self.inside.next) (sym c.in-Some.is) ∙ c.self.view_is)
    (gives_nothing c.self.inside.shape c.self.inside.sides c.self.inside.next c.self.inside.key c.in-Some.probe joined c.self.inside.left_ended c.self.inside.right_ended none).1

pub glue_at-requires-clause-place : goal.glue_at-requires-clause-place
glue_at-requires-clause-place c =
    let joined = subst (IsJoin c.self.inside.shape c.self.inside.sides c.self.inside.next c.self.inside.key) c.in-Some.is c.self.invariant in
    let found : Some c.in-Some-probe.place ≡ found_in c.self.inside.sides c.self.inside.key c.in-Some.probe = sym c.in-Some-probe.is ∙ found_by c.self.inside.sides c.self.inside.key c.in-Some.probe c.on-facing.result.now c.as_slice.result.now c.opposite.result c.probe.result c.probe.ensures.next c.as_slice.ensures c.on-facing.ensures c.opposite.ensures in
    subst (λ f. c.in-Some-probe.place < length (rows_in f c.in-Some.probe.address.bucket)) (sym (c.on-facing.ensures ∙ ap (λ o. buckets_on o c.self.inside.sides) c.opposite.ensures))
    (found_inside c.self.inside.shape c.self.inside.sides c.self.inside.next c.self.inside.key c.in-Some.probe joined c.in-Some-probe.place found)

pub glue_at-requires-clause-own : goal.glue_at-requires-clause-own
glue_at-requires-clause-own c =
    own_wide c.self.inside.shape c.self.inside.sides c.self.inside.next c.self.inside.key c.in-Some.probe (subst (IsJoin c.self.inside.shape c.self.inside.sides c.self.inside.next c.self.inside.key) c.in-Some.is c.self.invariant)

pub glue_at-requires-clause-other : goal.glue_at-requires-clause-other
glue_at-requires-clause-other c =
    let joined = subst (IsJoin c.self.inside.shape c.self.inside.sides c.self.inside.next c.self.inside.key) c.in-Some.is c.self.invariant in
    let found : Some c.in-Some-probe.place ≡ found_in c.self.inside.sides c.self.inside.key c.in-Some.probe = sym c.in-Some-probe.is ∙ found_by c.self.inside.sides c.self.inside.key c.in-Some.probe c.on-facing.result.now c.as_slice.result.now c.opposite.result c.probe.result c.probe.ensures.next c.as_slice.ensures c.on-facing.ensures c.opposite.ensures in
    subst (λ f. length (get_or (rows_in f c.in-Some.probe.address.bucket) c.in-Some-probe.place no_row).row ≡ length (vars_of (opposite c.in-Some.probe.side) c.self.inside.shape)) (sym (c.on-facing.ensures ∙ ap (λ o. buckets_on o c.self.inside.sides) c.opposite.ensures))
    (partner_wide c.self.inside.shape c.self.inside.sides c.self.inside.next c.self.inside.key c.in-Some.probe joined c.in-Some-probe.place found)

pub entry-requires-clause-place : goal.entry-requires-clause-place
entry-requires-clause-place c =
    let joined = subst (IsJoin c.self.inside.shape c.self.inside.sides c.self.inside.next c.self.inside.key) c.in-Some.is c.self.invariant in
    let found : Some c.in-Some-probe.place ≡ found_in c.self.inside.sides c.self.inside.key c.in-Some.probe = sym c.in-Some-probe.is ∙ found_by c.self.inside.sides c.self.inside.key c.in-Some.probe c.on-facing.result.now c.as_slice.result.now c.opposite.result c.probe.result c.probe.ensures.next c.as_slice.ensures c.on-facing.ensures c.opposite.ensures in
    subst (λ b. c.in-Some-probe.place < length (rows_in c.on-facing.result.now b)) (sym c.bucket.ensures) (
    subst (λ f. c.in-Some-probe.place < length (rows_in f c.in-Some.probe.address.bucket)) (sym (c.on-facing.ensures ∙ ap (λ o. buckets_on o c.self.inside.sides) c.opposite.ensures))
    (found_inside c.self.inside.shape c.self.inside.sides c.self.inside.next c.self.inside.key c.in-Some.probe joined c.in-Some-probe.place found))

pub invariant_of-self-2 : goal.invariant_of-self-2
invariant_of-self-2 c =
    let joined = subst (IsJoin c.self.inside.shape c.self.inside.sides c.self.inside.next c.self.inside.key) c.in-Some.is c.self.invariant in
    let found : Some c.in-Some-probe.place ≡ found_in c.self.inside.sides c.self.inside.key c.in-Some.probe = sym c.in-Some-probe.is ∙ found_by c.self.inside.sides c.self.inside.key c.in-Some.probe c.on-facing.result.now c.as_slice.result.now c.opposite.result c.probe.result c.probe.ensures.next c.as_slice.ensures c.on-facing.ensures c.opposite.ensures in
    let facing = c.on-facing.ensures ∙ ap (λ o. buckets_on o c.self.inside.sides) c.opposite.ensures in
    let number = c.number-number.ensures ∙ c.entry.ensures ∙ ap (λ b. (get_or (rows_in c.on-facing.result.now b) c.in-Some-probe.place no_row).number) c.bucket.ensures ∙ ap (λ f. (get_or (rows_in f c.in-Some.probe.address.bucket) c.in-Some-probe.place no_row).number) facing in
    let moved = moves c.take.result c.moved_on.result c.in-Some.probe (c.in-Some-probe.place + 1) (c.number-number.result + 1) c.in-Some-probe.place (get_or (facing_rows c.self.inside.sides c.in-Some.probe) c.in-Some-probe.place no_row).number
    c.moved_on.ensures (c.take.ensures.value ∙ c.in-Some.is) refl (ap (λ n. n + 1) number) in
    keeps_row c.self.inside.shape c.self.inside.sides c.self.inside.next c.self.inside.key c.in-Some.probe joined c.moved_on.result c.in-Some-probe.place found moved

pub returns-clause-gives : goal.returns-clause-gives
returns-clause-gives c =
    let joined = subst (IsJoin c.self.inside.shape c.self.inside.sides c.self.inside.next c.self.inside.key) c.in-Some.is c.self.invariant in
    let found : Some c.in-Some-probe.place ≡ found_in c.self.inside.sides c.self.inside.key c.in-Some.probe = sym c.in-Some-probe.is ∙ found_by c.self.inside.sides c.self.inside.key c.in-Some.probe c.on-facing.result.now c.as_slice.result.now c.opposite.result c.probe.result c.probe.ensures.next c.as_slice.ensures c.on-facing.ensures c.opposite.ensures in
    let facing = c.on-facing.ensures ∙ ap (λ o. buckets_on o c.self.inside.sides) c.opposite.ensures in
    let number = c.number-number.ensures ∙ c.entry.ensures ∙ ap (λ b. (get_or (rows_in c.on-facing.result.now b) c.in-Some-probe.place no_row).number) c.bucket.ensures ∙ ap (λ f. (get_or (rows_in f c.in-Some.probe.address.bucket) c.in-Some-probe.place no_row).number) facing in
    let moved = moves c.take.result c.moved_on.result c.in-Some.probe (c.in-Some-probe.place + 1) (c.number-number.result + 1) c.in-Some-probe.place (get_or (facing_rows c.self.inside.sides c.in-Some.probe) c.in-Some-probe.place no_row).number
    c.moved_on.ensures (c.take.ensures.value ∙ c.in-Some.is) refl (ap (λ n. n + 1) number) in
    subst (λ s. GivesMatch s (joining_of c.self.inside.shape c.self.inside.sides c.self.inside.left_ended c.self.inside.right_ended c.self.inside.next c.moved_on.result) c.in-Ok.glued)
    (ap (joining_of c.self.inside.shape c.self.inside.sides c.self.inside.left_ended c.self.inside.right_ended c.self.inside.next) (sym c.in-Some.is) ∙ c.self.view_is)
    (gives_row c.self.inside.shape c.self.inside.sides c.self.inside.next c.self.inside.key c.in-Some.probe joined c.self.inside.left_ended c.self.inside.right_ended c.moved_on.result c.in-Some-probe.place c.in-Ok.glued found moved
    (c.in-Ok.ensures ∙ ap (λ f. glued_on c.in-Some.probe.side c.self.inside.shape c.in-Some.probe.row (get_or (rows_in f c.in-Some.probe.address.bucket) c.in-Some-probe.place no_row).row) facing))

pub returns-clause-step : goal.returns-clause-step
returns-clause-step c = gives_step c.args.self.now (joining_of c.self.inside.shape c.self.inside.sides c.self.inside.left_ended c.self.inside.right_ended c.self.inside.next c.moved_on.result) c.in-Ok.glued (
    let joined = subst (IsJoin c.self.inside.shape c.self.inside.sides c.self.inside.next c.self.inside.key) c.in-Some.is c.self.invariant in
    let found : Some c.in-Some-probe.place ≡ found_in c.self.inside.sides c.self.inside.key c.in-Some.probe = sym c.in-Some-probe.is ∙ found_by c.self.inside.sides c.self.inside.key c.in-Some.probe c.on-facing.result.now c.as_slice.result.now c.opposite.result c.probe.result c.probe.ensures.next c.as_slice.ensures c.on-facing.ensures c.opposite.ensures in
    let facing = c.on-facing.ensures ∙ ap (λ o. buckets_on o c.self.inside.sides) c.opposite.ensures in
    let number = c.number-number.ensures ∙ c.entry.ensures ∙ ap (λ b. (get_or (rows_in c.on-facing.result.now b) c.in-Some-probe.place no_row).number) c.bucket.ensures ∙ ap (λ f. (get_or (rows_in f c.in-Some.probe.address.bucket) c.in-Some-probe.place no_row).number) facing in
    let moved = moves c.take.result c.moved_on.result c.in-Some.probe (c.in-Some-probe.place + 1) (c.number-number.result + 1) c.in-Some-probe.place (get_or (facing_rows c.self.inside.sides c.in-Some.probe) c.in-Some-probe.place no_row).number
    c.moved_on.ensures (c.take.ensures.value ∙ c.in-Some.is) refl (ap (λ n. n + 1) number) in
    subst (λ s. GivesMatch s (joining_of c.self.inside.shape c.self.inside.sides c.self.inside.left_ended c.self.inside.right_ended c.self.inside.next c.moved_on.result) c.in-Ok.glued)
    (ap (joining_of c.self.inside.shape c.self.inside.sides c.self.inside.left_ended c.self.inside.right_ended c.self.inside.next) (sym c.in-Some.is) ∙ c.self.view_is)
    (gives_row c.self.inside.shape c.self.inside.sides c.self.inside.next c.self.inside.key c.in-Some.probe joined c.self.inside.left_ended c.self.inside.right_ended c.moved_on.result c.in-Some-probe.place c.in-Ok.glued found moved
    (c.in-Ok.ensures ∙ ap (λ f. glued_on c.in-Some.probe.side c.self.inside.shape c.in-Some.probe.row (get_or (rows_in f c.in-Some.probe.address.bucket) c.in-Some-probe.place no_row).row) facing)))

pub returns-clause-wide : goal.returns-clause-wide
returns-clause-wide c =
    let joined = subst (IsJoin c.self.inside.shape c.self.inside.sides c.self.inside.next c.self.inside.key) c.in-Some.is c.self.invariant in
    let found : Some c.in-Some-probe.place ≡ found_in c.self.inside.sides c.self.inside.key c.in-Some.probe = sym c.in-Some-probe.is ∙ found_by c.self.inside.sides c.self.inside.key c.in-Some.probe c.on-facing.result.now c.as_slice.result.now c.opposite.result c.probe.result c.probe.ensures.next c.as_slice.ensures c.on-facing.ensures c.opposite.ensures in
    let facing = c.on-facing.ensures ∙ ap (λ o. buckets_on o c.self.inside.sides) c.opposite.ensures in
    let wide : length c.in-Ok.glued ≡ length (glued_variables c.self.inside.shape.left c.self.inside.shape.right) = gives_wide c.self.inside.shape c.self.inside.sides c.self.inside.next c.self.inside.key c.in-Some.probe joined c.in-Some-probe.place c.in-Ok.glued found
    (c.in-Ok.ensures ∙ ap (λ f. glued_on c.in-Some.probe.side c.self.inside.shape c.in-Some.probe.row (get_or (rows_in f c.in-Some.probe.address.bucket) c.in-Some-probe.place no_row).row) facing) in
    (wide ∙ ap (λ s. length (glued_variables s.shape.left s.shape.right)) c.self.view_is, tt)

pub probe-requires : goal.probe-requires
probe-requires c =
    let joined = subst (IsJoin c.self.inside.shape c.self.inside.sides c.self.inside.next c.self.inside.key) c.in-Some.is c.self.invariant in
    address_on c.self.inside.shape c.self.inside.sides c.self.inside.next c.self.inside.key c.in-Some.probe joined.many joined.probing
    ∙ ap₂ (λ f k. address_of (length f) k) (sym (c.on-facing.ensures ∙ ap (λ o. buckets_on o c.self.inside.sides) c.opposite.ensures)) (sym c.as_slice.ensures)

pub overflow_add-number : goal.overflow_add-number
overflow_add-number c =
    let joined = subst (IsJoin c.self.inside.shape c.self.inside.sides c.self.inside.next c.self.inside.key) c.in-Some.is c.self.invariant in
    let found : Some c.in-Some-probe.place ≡ found_in c.self.inside.sides c.self.inside.key c.in-Some.probe = sym c.in-Some-probe.is ∙ found_by c.self.inside.sides c.self.inside.key c.in-Some.probe c.on-facing.result.now c.as_slice.result.now c.opposite.result c.probe.result c.probe.ensures.next c.as_slice.ensures c.on-facing.ensures c.opposite.ensures in
    let facing = c.on-facing.ensures ∙ ap (λ o. buckets_on o c.self.inside.sides) c.opposite.ensures in
    let number : c.number-number.result ≡ (get_or (facing_rows c.self.inside.sides c.in-Some.probe) c.in-Some-probe.place no_row).number
    = c.number-number.ensures ∙ c.entry.ensures ∙ ap (λ b. (get_or (rows_in c.on-facing.result.now b) c.in-Some-probe.place no_row).number) c.bucket.ensures ∙ ap (λ f. (get_or (rows_in f c.in-Some.probe.address.bucket) c.in-Some-probe.place no_row).number) facing in
    let earlier = partner_earlier c.self.inside.shape c.self.inside.sides c.self.inside.next c.self.inside.key c.in-Some.probe joined c.in-Some-probe.place found in
    let below : c.number-number.result < c.self.inside.next = subst (λ n. n < c.self.inside.next) (sym number) earlier in
    let fits : c.self.inside.next < 2 ^ 64 = omega arith in
    omega (arith, below, fits)
