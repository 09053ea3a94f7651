use Rattle.std.proofs.Common.{◌≡◌, ◌≤◌, ◌∙◌, ap, drop, length, take, ℕ, Some, ◌<◌, ◌^◌, arith}
use Rattle.std.specs.Int.{w32, to_be_bytes}
use Rattle.med_base.specs.Spills.{file_content}
use Rattle.spill_blocks.proofs.PlaceLaws.{content_kept, count_found, held_count, held_told, loaded_long}
use Rattle.spill_blocks.proofs.WindowLaws.{if_told}
use Rattle.spill_blocks.proofs.seeking.count_at.Goals as goal

pub returns-in-Some-clause-told : goal.returns-in-Some-clause-told
returns-in-Some-clause-told g c =
    if_told (file_content c.args.file.now.file) (λ content. (count : ℕ) → count < 2 ^ 32 → take 4 (drop c.args.start content) ≡ to_be_bytes w32 count → Some c.in-Some.count ≡ Some count)
    (λ content e count small head. count_found c.held.result.now (drop c.args.start content) c.in-Some.count count (held_told c.args.file.now c.args.start c.held.result.now content c.held.ensures e) c.in-Some.ensures head small)

pub returns-clause-told : goal.returns-clause-told
returns-clause-told g c =
    let long : 4 ≤ length c.held-2.result.now = omega (arith, loaded_long c.in_ok-load.field-0 c.args.file.now c.load.new.self c.args.start c.requires c.in_ok-load.ensures.more, ap length c.held-2.ensures.are) in
    if_told (file_content c.args.file.now.file) (λ content. (count : ℕ) → count < 2 ^ 32 → take 4 (drop c.args.start content) ≡ to_be_bytes w32 count → c.first_count-2.result ≡ Some count)
    (λ content e count small head.
    c.first_count-2.ensures ∙ held_count c.held-2.result.now (drop c.args.start content) count (held_told c.load.new.self c.args.start c.held-2.result.now content c.held-2.ensures (content_kept c.args.file.now c.load.new.self c.load.ensures.keeps ∙ e)) long head small)
