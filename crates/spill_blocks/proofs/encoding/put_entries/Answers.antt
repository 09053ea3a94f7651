use Rattle.std.proofs.Common.{◌++◌, ap, ◌∙◌, sym, take, append_assoc}
use Rattle.spill_blocks.specs.Blocks.{entries_encoding, entry_encoding}
use Rattle.spill_blocks.specs.Listings.{listed}
use Rattle.spill_blocks.proofs.ListLaws.{encoding_more}
use Rattle.spill_blocks.proofs.encoding.put_entries.Goals as goal

pub loop-index-preserved : goal.loop-index-preserved
loop-index-preserved c =
    let xs = listed c.args.listing in
    let i = c.loop-index.index in
    c.in_ok-put_entry.ensures
    ∙ ap (λ bs. bs ++ entry_encoding c.args.form c.in-Some.kept) c.loop-index.invariant
    ∙ append_assoc c.args.into.now.items (entries_encoding c.args.form (take i xs)) (entry_encoding c.args.form c.in-Some.kept)
    ∙ ap (λ bs. c.args.into.now.items ++ bs) (sym (encoding_more c.args.form xs i c.in-Some.kept c.in-Some.ensures))
