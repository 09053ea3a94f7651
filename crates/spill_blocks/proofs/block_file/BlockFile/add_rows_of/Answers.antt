use Rattle.std.proofs.Common.{◌≡◌, ◌<◌, ◌≤◌, ◌⊎◌, Some, ap, ◌∙◌, length, subst, arith}
use Rattle.std.proofs.lemmas.Result.{err_from_is_err_and}
use Rattle.med_base.specs.Spills.{file_content}
use Rattle.spill_blocks.specs.Places.{FailsFrom, ReadsFrom}
use Rattle.spill_blocks.specs.Tables.{block_at, first_place, no_block}
use Rattle.spill_blocks.specs.declared.table.Block.{Block}
use Rattle.spill_blocks.proofs.GiveLaws.{gives_more, gives_none, inside_of, kept_is, many_of, opened, reached_last, refuses_from, wanted_of}
use Rattle.spill_blocks.proofs.PlaceLaws.{content_kept}
use Rattle.spill_blocks.proofs.block_file.BlockFile.add_rows_of.Goals as goal

pub returns-then-stop-from-clause-rows : goal.returns-then-stop-from-clause-rows
returns-then-stop-from-clause-rows g c =
    let s = c.self.inside in
    let index = c.block.inside.index in
    let inside : index < length s.blocks.items = inside_of s.number s.form s.file.file s.blocks.items c.args.self.now index c.args.block c.self.view_is c.block.view_is c.requires in
    let kept = kept_is s.blocks.items index c.index-kept.result.now inside c.index-kept.ensures in
    let placed = c.self.invariant.table.placed index no_block inside in
    let counted : c.index-kept.result.now.count ≡ (block_at s.blocks.items index).count = ap (λ (b : Block). b.count) kept in
    rw (← c.self.view_is, ← c.block.view_is)
    (gives_none s.number s.form s.file.file s.file.end s.blocks.items index c.args.from c.args.room c.args.entries.now c.self.invariant.table inside
    (omega (arith, c.min-stop.ensures, c.saturating_add.ensures, c.if-stop-from.true, counted, placed.counted)))

pub invariant_of-self-2 : goal.invariant_of-self-2
invariant_of-self-2 g c =
    let s = c.self.inside in
    let index = c.block.inside.index in
    let inside : index < length s.blocks.items = inside_of s.number s.form s.file.file s.blocks.items c.args.self.now index c.args.block c.self.view_is c.block.view_is c.requires in
    let kept = kept_is s.blocks.items index c.index-kept.result.now inside c.index-kept.ensures in
    let counted : c.index-kept.result.now.count ≡ (block_at s.blocks.items index).count = ap (λ (b : Block). b.count) kept in
    let within : c.min-stop.result ≤ (block_at s.blocks.items index).count = omega (arith, c.min-stop.ensures, counted) in
    let keeps = c.in_ok-place.ensures.keeps in
    let start : (c.place_in-stopped.result ≡ Some c.in_ok-place.place) ⊎ (c.in_ok-place.place ≡ first_place (block_at s.blocks.items index)) =
    subst (λ b. (c.place_in-stopped.result ≡ Some c.in_ok-place.place) ⊎ (c.in_ok-place.place ≡ first_place b)) kept c.in_ok-place.ensures.place in
    let reached = opened s.form (file_content s.file.file) s.file.end s.blocks.items index s.mark c.place_in-stopped.result c.in_ok-place.place c.self.invariant inside c.place_in-stopped.ensures start in
    let on = c.read_on-read.ensures.keeps in
    let told : file_content c.read_on-read.new.file.file ≡ file_content s.file.file = content_kept c.place_before.new.file c.read_on-read.new.file on ∙ content_kept s.file c.place_before.new.file keeps in
    let ends : c.read_on-read.new.file.end ≡ s.file.end = on.end ∙ keeps.end in
    let reads = subst (λ b. ReadsFrom (wanted_of s.form b c.args.from c.min-stop.result) c.read_on-read.new.file c.in_ok-place.place c.args.entries.now c.read_on-read.new.place c.read_on-read.new.entries) kept c.read_on-read.ensures.reads in
    rw (told, ends) (record {
      table = c.self.invariant.table;
      marked = (
        inside,
        reached_last s.form (file_content s.file.file) s.file.end (block_at s.blocks.items index) c.args.from c.min-stop.result c.read_on-read.new.file c.in_ok-place.place c.read_on-read.new.place c.args.entries.now c.read_on-read.new.entries
            (many_of s.form (file_content s.file.file) s.file.end s.blocks.items index c.self.invariant.table inside) reached ends told within reads,
      );
    })

pub invariant_of-self-in_err-read : goal.invariant_of-self-in_err-read
invariant_of-self-in_err-read g c =
    let s = c.self.inside in
    let index = c.block.inside.index in
    let inside : index < length s.blocks.items = inside_of s.number s.form s.file.file s.blocks.items c.args.self.now index c.args.block c.self.view_is c.block.view_is c.requires in
    let kept = kept_is s.blocks.items index c.index-kept.result.now inside c.index-kept.ensures in
    let counted : c.index-kept.result.now.count ≡ (block_at s.blocks.items index).count = ap (λ (b : Block). b.count) kept in
    let within : c.min-stop.result ≤ (block_at s.blocks.items index).count = omega (arith, c.min-stop.ensures, counted) in
    let keeps = c.in_ok-place.ensures.keeps in
    let start : (c.place_in-stopped.result ≡ Some c.in_ok-place.place) ⊎ (c.in_ok-place.place ≡ first_place (block_at s.blocks.items index)) =
    subst (λ b. (c.place_in-stopped.result ≡ Some c.in_ok-place.place) ⊎ (c.in_ok-place.place ≡ first_place b)) kept c.in_ok-place.ensures.place in
    let reached = opened s.form (file_content s.file.file) s.file.end s.blocks.items index s.mark c.place_in-stopped.result c.in_ok-place.place c.self.invariant inside c.place_in-stopped.ensures start in
    let on = c.read_on-read.ensures.keeps in
    let told : file_content c.read_on-read.new.file.file ≡ file_content s.file.file = content_kept c.place_before.new.file c.read_on-read.new.file on ∙ content_kept s.file c.place_before.new.file keeps in
    let ends : c.read_on-read.new.file.end ≡ s.file.end = on.end ∙ keeps.end in
    let reads = subst (λ b. ReadsFrom (wanted_of s.form b c.args.from c.min-stop.result) c.read_on-read.new.file c.in_ok-place.place c.args.entries.now c.read_on-read.new.place c.read_on-read.new.entries) kept c.read_on-read.ensures.reads in
    rw (told, ends) (record {
      table = c.self.invariant.table;
      marked = (
        inside,
        reached_last s.form (file_content s.file.file) s.file.end (block_at s.blocks.items index) c.args.from c.min-stop.result c.read_on-read.new.file c.in_ok-place.place c.read_on-read.new.place c.args.entries.now c.read_on-read.new.entries
            (many_of s.form (file_content s.file.file) s.file.end s.blocks.items index c.self.invariant.table inside) reached ends told within reads,
      );
    })

pub returns-in_err-read-clause-refused : goal.returns-in_err-read-clause-refused
returns-in_err-read-clause-refused g c =
    let s = c.self.inside in
    let index = c.block.inside.index in
    let inside : index < length s.blocks.items = inside_of s.number s.form s.file.file s.blocks.items c.args.self.now index c.args.block c.self.view_is c.block.view_is c.requires in
    let kept = kept_is s.blocks.items index c.index-kept.result.now inside c.index-kept.ensures in
    let counted : c.index-kept.result.now.count ≡ (block_at s.blocks.items index).count = ap (λ (b : Block). b.count) kept in
    let within : c.min-stop.result ≤ (block_at s.blocks.items index).count = omega (arith, c.min-stop.ensures, counted) in
    let keeps = c.in_ok-place.ensures.keeps in
    let start : (c.place_in-stopped.result ≡ Some c.in_ok-place.place) ⊎ (c.in_ok-place.place ≡ first_place (block_at s.blocks.items index)) =
    subst (λ b. (c.place_in-stopped.result ≡ Some c.in_ok-place.place) ⊎ (c.in_ok-place.place ≡ first_place b)) kept c.in_ok-place.ensures.place in
    let reached = opened s.form (file_content s.file.file) s.file.end s.blocks.items index s.mark c.place_in-stopped.result c.in_ok-place.place c.self.invariant inside c.place_in-stopped.ensures start in
    let fails = subst (λ b. FailsFrom (wanted_of s.form b c.args.from c.min-stop.result) c.in_err-read.field-0.0 c.place_before.new.file c.in_ok-place.place c.read_on-read.new.file) kept c.in_err-read.ensures.fails in
    let p = err_from_is_err_and c.from_residual-in_err-read.result c.from_residual-in_err-read.ensures.1 in
    rw (p.1, p.2, ← c.self.view_is, ← c.block.view_is)
    (refuses_from c.in_err-read.field-0.0 s.number s.form s.blocks.items index c.args.from c.min-stop.result s.file c.place_before.new.file c.read_on-read.new.file c.in_ok-place.place c.self.invariant.table inside reached keeps within fails)

pub returns-clause-rows : goal.returns-clause-rows
returns-clause-rows g c =
    let s = c.self.inside in
    let index = c.block.inside.index in
    let inside : index < length s.blocks.items = inside_of s.number s.form s.file.file s.blocks.items c.args.self.now index c.args.block c.self.view_is c.block.view_is c.requires in
    let kept = kept_is s.blocks.items index c.index-kept.result.now inside c.index-kept.ensures in
    let counted : c.index-kept.result.now.count ≡ (block_at s.blocks.items index).count = ap (λ (b : Block). b.count) kept in
    let within : c.min-stop.result ≤ (block_at s.blocks.items index).count = omega (arith, c.min-stop.ensures, counted) in
    let keeps = c.in_ok-place.ensures.keeps in
    let start : (c.place_in-stopped.result ≡ Some c.in_ok-place.place) ⊎ (c.in_ok-place.place ≡ first_place (block_at s.blocks.items index)) =
    subst (λ b. (c.place_in-stopped.result ≡ Some c.in_ok-place.place) ⊎ (c.in_ok-place.place ≡ first_place b)) kept c.in_ok-place.ensures.place in
    let reached = opened s.form (file_content s.file.file) s.file.end s.blocks.items index s.mark c.place_in-stopped.result c.in_ok-place.place c.self.invariant inside c.place_in-stopped.ensures start in
    let on = c.read_on-read.ensures.keeps in
    let told : file_content c.read_on-read.new.file.file ≡ file_content s.file.file = content_kept c.place_before.new.file c.read_on-read.new.file on ∙ content_kept s.file c.place_before.new.file keeps in
    let ends : c.read_on-read.new.file.end ≡ s.file.end = on.end ∙ keeps.end in
    let reads = subst (λ b. ReadsFrom (wanted_of s.form b c.args.from c.min-stop.result) c.read_on-read.new.file c.in_ok-place.place c.args.entries.now c.read_on-read.new.place c.read_on-read.new.entries) kept c.read_on-read.ensures.reads in
    let placed = c.self.invariant.table.placed index no_block inside in
    rw (← c.self.view_is, ← c.block.view_is)
    (gives_more s.number s.form s.file.file s.file.end s.blocks.items index c.args.from c.min-stop.result c.args.room c.read_on-read.new.file c.in_ok-place.place c.read_on-read.new.place c.args.entries.now c.read_on-read.new.entries
    c.self.invariant.table inside reached ends told c.in_ok-place.ensures.low (omega (arith, c.if-stop-from.false)) within
    (omega (arith, c.min-stop.ensures, c.saturating_add.ensures, c.if-stop-from.false, counted, placed.counted)) c.in_ok-read.ensures.whole reads)
