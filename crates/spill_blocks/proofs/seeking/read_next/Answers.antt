use Rattle.std.proofs.Common.{ap, length, arith, length-append}
use Rattle.spill_blocks.specs.Blocks.{entry_encoding}
use Rattle.spill_blocks.proofs.PlaceLaws.{holds_all, nothing_lies, passes_one, reads_one}
use Rattle.spill_blocks.proofs.seeking.read_next.Goals as goal
use Rattle.spill_blocks.proofs.seeking.read_next.Goals.{then-wanted-place+in_ok-push-in-Some, else-wanted-place}

pub overflow_sub-length : goal.overflow_sub-length
overflow_sub-length g c = omega (arith, ap length c.in-Some.ensures.begins.whole, length-append (entry_encoding c.args.wanted.form c.in-Some.kept) c.in-Some.rest.now)

pub overflow_add-place : goal.overflow_add-place
overflow_add-place g c = omega (arith, c.held-held.ensures.inside c.requires.inside, c.held-held.ensures.far)

pub returns-after-wanted-place-clause-reads : goal.returns-after-wanted-place-clause-reads
returns-after-wanted-place-clause-reads g c = λ first before r.
    elim c.if-wanted-place.branch [
      | then-wanted-place+in_ok-push-in-Some w ↦
          rw (w.entries-is, w.in_ok-push-in-Some.ensures.ok)
          (reads_one c.args.wanted c.args.file.now first before c.args.place.now c.args.entries.now c.held-held.result.now (c.in-Some.kept, c.in-Some.rest.now) r c.requires.more w.if-wanted-place.true c.held-held.ensures c.in-Some.ensures.begins)
      | else-wanted-place w ↦
          rw w.entries-is
          (passes_one c.args.wanted c.args.file.now first before c.args.place.now c.args.entries.now c.held-held.result.now (c.in-Some.kept, c.in-Some.rest.now) r c.requires.more w.if-wanted-place.false c.held-held.ensures c.in-Some.ensures.begins)
    ]

pub returns-else-branch-clause-fails : goal.returns-else-branch-clause-fails
returns-else-branch-clause-fails g c =
    let all = holds_all c.in_ok-load-in-None.field-0 c.args.file.now c.load.new.self c.args.place.now.at c.if-branch.false c.in_ok-load-in-None.ensures.more in (
      c.from.ensures,
      λ e. omega (arith, e, c.from.ensures, c.from-in-None.ensures, c.requires.more, c.requires.counted),
      nothing_lies c.args.wanted c.args.file.now c.args.place.now c.held-held.result.now c.held-held.ensures (omega (arith, all.all, ap length c.held-held.ensures.are)) c.in-None.ensures.value,
    )
