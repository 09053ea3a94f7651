use Rattle.std.proofs.Common.{◌∙◌, ap, ap₂, Some}
use Rattle.tuple_core.specs.Encoded.{row_of}
use Rattle.spill_blocks.proofs.RestLaws.{front_encodes, front_read, is_wide_row, shorter}
use Rattle.spill_blocks.proofs.reading.first_row.Goals as goal

pub overflow_sub-bytes : goal.overflow_sub-bytes
overflow_sub-bytes c = shorter c.args.width c.args.bytes.now c.in_ok-rest.rest.now (is_wide_row c.args.width c.args.bytes.now c.in_ok-rest.rest.now c.type_inv.bytes c.in_ok-rest.ensures)

pub of-requires : goal.of-requires
of-requires c = rw c.split_at.ensures.front (front_encodes c.args.width c.args.bytes.now c.in_ok-rest.rest.now (is_wide_row c.args.width c.args.bytes.now c.in_ok-rest.rest.now c.type_inv.bytes c.in_ok-rest.ensures))

pub returns : goal.returns
returns c =
    let r = is_wide_row c.args.width c.args.bytes.now c.in_ok-rest.rest.now c.type_inv.bytes c.in_ok-rest.ensures in
    ap₂ (λ row rest. Some (row, rest)) (c.of.ensures ∙ ap row_of c.split_at.ensures.front) c.split_at.ensures.back
    ∙ front_read c.args.width c.args.bytes.now c.in_ok-rest.rest.now r
