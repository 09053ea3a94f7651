use Rattle.std.proofs.Common.{◌≡◌, ◌++◌, ◌∷◌, [], ◌∙◌, All, ap, ap₂, sym, subst, arith, length}
use Rattle.spill_blocks.specs.Blocks.{BlockState, FitsForm}
use Rattle.spill_blocks.specs.Listings.{listed}
use Rattle.spill_blocks.proofs.TableLaws.{are_entries, kept_put, puts_block}
use Rattle.spill_blocks.proofs.block_file.BlockFile.put.Goals as goal

pub invariant_of-self-in-Ok : goal.invariant_of-self-in-Ok
invariant_of-self-in-Ok g c =
    kept_put c.self.inside.form c.self.inside.file.file c.append.new.self.file c.self.inside.file.end c.in-Ok.start c.append.new.self.end c.self.inside.blocks.items c.keep.new.into.items (listed c.args.listing) c.self.inside.mark c.as_slice.result.now
    c.self.invariant
    (are_entries c.self.inside.form (listed c.args.listing) c.in_ok-bytes.ensures.fits c.requires.wide (subst (λ f. All (FitsForm f) (listed c.args.listing)) (sym (ap (λ (s : BlockState). s.form) c.self.view_is)) c.requires.formed))
    c.requires.some c.requires.few (omega (arith, c.if-index.false, c.len-index.ensures, c.self.inside.blocks.ok.0)) c.append.ensures.within c.append.ensures.far
    (c.as_slice.ensures.value ∙ c.in_ok-bytes.ensures.bytes) c.in-Ok.ensures.appends c.in-Ok.ensures.end
    (c.keep.ensures ∙ ap₂ (λ bs b. bs ++ b ∷ []) c.reserve.ensures.items (ap₂ (λ n w. record { start = c.in-Ok.start; count = n; width = w }) c.len.ensures c.width-width.ensures))

pub returns-in-Ok-clause-ok : goal.returns-in-Ok-clause-ok
returns-in-Ok-clause-ok g c =
    let many : c.len-index.result ≡ length c.self.inside.blocks.items = omega (arith, c.len-index.ensures, c.self.inside.blocks.ok.0) in
    rw (← c.self.view_is, many)
    (puts_block c.self.inside.number c.self.inside.form c.self.inside.file.file c.append.new.self.file c.self.inside.file.end c.in-Ok.start c.append.new.self.end c.self.inside.blocks.items c.keep.new.into.items (listed c.args.listing) c.as_slice.result.now
    c.self.invariant.table
    (are_entries c.self.inside.form (listed c.args.listing) c.in_ok-bytes.ensures.fits c.requires.wide (subst (λ f. All (FitsForm f) (listed c.args.listing)) (sym (ap (λ (s : BlockState). s.form) c.self.view_is)) c.requires.formed))
    c.append.ensures.far
    (c.as_slice.ensures.value ∙ c.in_ok-bytes.ensures.bytes) c.in-Ok.ensures.appends c.in-Ok.ensures.end
    (c.keep.ensures ∙ ap₂ (λ bs b. bs ++ b ∷ []) c.reserve.ensures.items (ap₂ (λ n w. record { start = c.in-Ok.start; count = n; width = w }) c.len.ensures c.width-width.ensures)))
