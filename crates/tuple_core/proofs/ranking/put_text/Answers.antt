use Rattle.std.proofs.Common.{◌+◌, drop, sym, ap, ◌∙◌}
use Rattle.tuple_core.specs.Ranks.{put_digit, text_rank}
use Rattle.tuple_core.proofs.Digits.{no_room}
use Rattle.tuple_core.proofs.Ranks.{drop_below, text_end, text_fits, text_turn}
use Rattle.tuple_core.proofs.ranking.put_text.Goals as goal

pub returns-then-room-eq0 : goal.returns-then-room-eq0
returns-then-room-eq0 c = λ rest fits.
    let room = c.loop-byte.room in
    let left = drop c.loop-byte.byte-index c.args.bytes.now in
    let below = drop_below c.args.bytes.now c.loop-byte.byte-index (λ k. (c.type_inv.bytes k).fits) in
    let none = no_room (text_rank left rest) room.free (text_fits left rest below fits) c.if-room-eq0.true in
    c.loop-byte.invariant rest fits ∙ ap (λ n. room.number + n) (none ∙ sym (no_room rest room.free fits c.if-room-eq0.true))

pub loop-byte-preserved : goal.loop-byte-preserved
loop-byte-preserved c = λ rest fits.
    let room = c.loop-byte.room in
    let bytes = c.args.bytes.now in
    let i = c.loop-byte.byte-index in
    let below = drop_below bytes (i + 1) (λ k. (c.type_inv.bytes k).fits) in
    let turn = text_turn bytes i rest room.free c.loop-byte-test.true ∙ ap (λ b. put_digit 9 (b + 1) (text_rank (drop (i + 1) bytes) rest) room.free) (sym c.from.ensures) in
    c.loop-byte.invariant rest fits
    ∙ ap (λ n. room.number + n) turn
    ∙ c.put-room.ensures (text_rank (drop (i + 1) bytes) rest) (text_fits (drop (i + 1) bytes) rest below fits)

pub returns : goal.returns
returns c = λ rest fits.
    let e = text_end c.args.bytes.now c.loop-byte.byte-index rest c.loop-byte.room.free c.loop-byte-test.false in
    c.loop-byte.invariant rest fits ∙ ap (λ n. c.loop-byte.room.number + n) e ∙ c.put.ensures rest fits
