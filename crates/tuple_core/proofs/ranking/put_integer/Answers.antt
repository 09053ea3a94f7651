use Rattle.std.proofs.Common.{◌-ℤ◌, negsuc, unsigned_abs, sym, ap, ◌∙◌}
use Rattle.std.specs.Int.{w64}
use Rattle.std.proofs.lemmas.Int.{to_z-of_z}
use Rattle.tuple_core.specs.Ranks.{put_digit, value_rank}
use Rattle.tuple_core.proofs.Digits.{digit_fits, puts_both}
use Rattle.tuple_core.proofs.Ranks.{above_is}
use Rattle.tuple_core.proofs.ranking.put_integer.Goals as goal

pub returns : goal.returns
unfolding value_rank
returns c =
    let number = c.args.number in
    let same = ap (λ z. unsigned_abs (z -ℤ negsuc 9223372036854775807)) (to_z-of_z w64 number c.ranges.number) in
    let e = above_is number c.abs_diff.result (c.abs_diff.ensures ∙ same) in
    let both = puts_both (put_digit 2 1) (put_digit 64 c.abs_diff.result) _ _ _ _ _ _ (λ rest fits. digit_fits 64 c.abs_diff.result rest c.abs_diff.type_inv fits) c.put-room.ensures c.put.ensures in
    rw (sym e) both
