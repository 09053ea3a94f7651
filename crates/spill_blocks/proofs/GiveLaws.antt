-- What is read of a block are its entries, and where another number is found nothing is told.
use Rattle.std.proofs.Common.{◌≡◌, ◌≢◌, ℕ, ◌+◌, ◌-◌, ◌<◌, ◌≤◌, min, List, [], length, take, drop, map, get_or, Option, Some, None, option_map, refl, sym, ap, subst, ◌∙◌, ◌⊎◌, inl, inr, arith, append-nil, length-drop, length-take}
use Rattle.std.specs.List.{All}
use Rattle.std.specs.Option.{IfSome}
use Rattle.std.proofs.lemmas.List.{drop-drop, drop-take, get_or-map, get_or_default, length-map, nil_from_length, take_min}
use Rattle.std.proofs.lemmas.List.Elements.{All-map, All-nil}
use Rattle.med_base.specs.Spills.{FileState, file_content}
use Rattle.med_prelude.specs.Texts.{Bytes, ToldBytes}
use Rattle.spill_blocks.specs.Blocks.{AreWide, BlockState, FindsOther, FitsForm, GivesMore, RefusesRows, entries_at, shape_at}
use Rattle.tuple_core.specs.Values.{RowList, RowValues}
use Rattle.spill_blocks.specs.Entries.{spooled}
use Rattle.spill_blocks.specs.Places.{FailsFrom, IsRest, ReadsFrom, TooFewLie}
use Rattle.spill_blocks.specs.Reading.{LieAt}
use Rattle.spill_blocks.specs.Tables.{IsBlock, IsKept, IsMark, IsReached, IsTable, block_at, entries_of, first_place, no_block, shape_kept, told_entries}
use Rattle.spill_blocks.specs.Windows.{KeepsFile, Window}
use Rattle.spill_blocks.specs.declared.entries.Kept.{Kept}
use Rattle.spill_blocks.specs.declared.fault.BlockFault.{BlockFault}
use Rattle.spill_blocks.specs.declared.fault.BlockFault.TheVariants.{SpillFault, SpillFull, Differs, NoMemory}
use Rattle.spill_blocks.specs.declared.form.EntryForm.{EntryForm}
use Rattle.spill_blocks.specs.declared.seeking.Wanted.{Wanted}
use Rattle.spill_blocks.specs.declared.form.EntryForm.TheVariants.{Join, Spool}
use Rattle.spill_blocks.specs.declared.table.Block.{Block}
use Rattle.spill_blocks.specs.declared.table.Mark.{Mark}
use Rattle.spill_blocks.specs.declared.table.Place.{Place}
use Rattle.spill_blocks.proofs.TableLaws.{shape_is, state_of}
use Rattle.spill_blocks.proofs.PlaceLaws.{content_kept}
use Rattle.spill_blocks.proofs.WindowLaws.{at_told, if_told, rose_later, untold}

-- the entries that are wanted of a block
abbrev pub wanted_of : EntryForm → Block → ℕ → ℕ → Wanted
wanted_of form block from stop = record { form = form; width = block.width; count = block.count; from = from; stop = stop }

if_told_map : {X : Type 0} (told : ToldBytes) (f : Bytes → X) (P : X → Type 0) → ((content : Bytes) → told ≡ Some content → P (f content)) → IfSome (option_map f told) P
if_told_map None f P h = tt
if_told_map (Some content) f P h = h content refl

told_none : (form : EntryForm) (told : ToldBytes) (blocks : List Block) → told ≡ None → told_entries form told blocks ≡ None
told_none form told blocks e = ap (λ o. told_entries form o blocks) e

entries_told : (form : EntryForm) (content : Bytes) (blocks : List Block) (index : ℕ) → index < length blocks → entries_at (map (entries_of form content) blocks) index ≡ entries_of form content (block_at blocks index)
entries_told form content blocks index inside = get_or-map (entries_of form content) blocks index no_block [] inside

-- a part of the rest of a list is a part of the list
part_of_rest : (p from stop : ℕ) (es : List Kept) → p ≤ from → from ≤ stop → drop (from - p) (take (stop - p) (drop p es)) ≡ take (stop - from) (drop from es)
part_of_rest p from stop es low high =
    let whole : stop - p ≡ (from - p) + (stop - from) = omega arith in
    let later : p + (from - p) ≡ from = omega arith in
    ap (λ n. drop (from - p) (take n (drop p es))) whole
    ∙ drop-take (from - p) (stop - from) (drop p es)
    ∙ ap (take (stop - from)) (drop-drop (from - p) p es ∙ ap (λ n. drop n es) later)

as_many : (from stop room : ℕ) (es : List Kept) → stop - from ≡ min room (length es - from) → take (stop - from) (drop from es) ≡ take room (drop from es)
as_many from stop room es e =
    let least : stop - from ≡ min room (length (drop from es)) = omega (arith, e, length-drop from es) in
    ap (λ n. take n (drop from es)) least ∙ take_min room (drop from es)

pub reaches_first : (form : EntryForm) (told : ToldBytes) (end : ℕ) (blocks : List Block) (index : ℕ) → IsTable form told end blocks → index < length blocks → IsReached form told end (block_at blocks index) (first_place (block_at blocks index))
reaches_first form told end blocks index table inside =
    let placed = table.placed index no_block inside in
    record {
      within = omega arith;
      before = placed.before;
      lies = if_told told (λ content. LieAt form (block_at blocks index).width end content (first_place (block_at blocks index)).at (drop 0 (entries_of form content (block_at blocks index)))) (λ content e.
          ((at_told told content (λ c. (end ≤ length c) × All (IsBlock form end c) blocks) e table.blocks_are).1 index no_block inside).lie);
    }

pub gives_more : (number : ℕ) (form : EntryForm) (file : FileState) (end : ℕ) (blocks : List Block) (index from stop room : ℕ) (w : Window) (place last : Place) (old new : List Kept) → IsTable form (file_content file) end blocks → index < length blocks
    → IsReached form (file_content file) end (block_at blocks index) place → w.end ≡ end → file_content w.file ≡ file_content file → place.next ≤ from → from ≤ stop → stop ≤ (block_at blocks index).count → stop - from ≡ min room ((block_at blocks index).count - from) → last.next ≡ stop
    → ReadsFrom (wanted_of form (block_at blocks index) from stop) w place old last new → GivesMore (state_of number form file blocks) index from room old new
gives_more number form file end blocks index from stop room w place last old new table inside reached ends same low high within many whole r =
    let block = block_at blocks index in
    let shape = shape_is blocks index inside in
    let counted : (shape_at (state_of number form file blocks) index).count ≡ block.count = ap (λ s. s.count) shape in
    let wide : (shape_at (state_of number form file blocks) index).width ≡ block.width = ap (λ s. s.width) shape in (
      r.given,
      r.gains,
      record {
        count = omega (arith, r.many, whole, many, counted);
        wide = subst (λ n. AreWide n r.given) (sym wide) r.wide;
        formed = r.formed;
        told = if_told_map (file_content file) (λ content. map (entries_of form content) blocks) (λ bs. r.given ≡ take room (drop from (entries_at bs index))) (λ content e.
            let is : IsBlock form end content (block_at blocks index) = (at_told (file_content file) content (λ c. (end ≤ length c) × All (IsBlock form end c) blocks) e table.blocks_are).1 index no_block inside in
            let es = entries_of form content block in
            let lies : LieAt form block.width w.end content place.at (drop place.next es) = rw ends (at_told (file_content file) content (λ c. LieAt form block.width end c place.at (drop place.next (entries_of form c block))) e reached.lies) in
            let rest = at_told (file_content w.file) content (λ c. IsRest (wanted_of form block from stop) w.end c place last r.given) (same ∙ e) r.told in
            let enough : stop - place.next ≤ length (drop place.next es) = omega (arith, is.many, length-drop place.next es, within) in
            let here = rest (drop place.next es) lies enough in
            let least : stop - from ≡ min room (length es - from) = omega (arith, many, is.many) in
            here.1
            ∙ ap (λ n. drop (from - place.next) (take (n - place.next) (drop place.next es))) whole
            ∙ part_of_rest place.next from stop es low high
            ∙ as_many from stop room es least
            ∙ ap (λ xs. take room (drop from xs)) (sym (entries_told form content blocks index inside)));
      },
    )

-- where nothing is wanted or left, nothing is read
pub gives_none : (number : ℕ) (form : EntryForm) (file : FileState) (end : ℕ) (blocks : List Block) (index from room : ℕ) (old : List Kept) → IsTable form (file_content file) end blocks → index < length blocks
    → min room ((block_at blocks index).count - from) ≡ 0 → GivesMore (state_of number form file blocks) index from room old old
gives_none number form file end blocks index from room old table inside none =
    let shape = shape_is blocks index inside in
    let counted : (shape_at (state_of number form file blocks) index).count ≡ (block_at blocks index).count = ap (λ s. s.count) shape in (
      [],
      sym (append-nil old),
      record {
        count = omega (arith, counted, none);
        wide = All-nil (λ (kept : Kept). length kept.row ≡ (shape_at (state_of number form file blocks) index).width);
        formed = All-nil (FitsForm form);
        told = if_told_map (file_content file) (λ content. map (entries_of form content) blocks) (λ bs. [] ≡ take room (drop from (entries_at bs index))) (λ content e.
            let is : IsBlock form end content (block_at blocks index) = (at_told (file_content file) content (λ c. (end ≤ length c) × All (IsBlock form end c) blocks) e table.blocks_are).1 index no_block inside in
            let es = entries_of form content (block_at blocks index) in
            let empty : length (take room (drop from es)) ≡ 0 = omega (arith, length-take room (drop from es), length-drop from es, is.many, none) in
            sym (nil_from_length (take room (drop from es)) empty) ∙ ap (λ xs. take room (drop from xs)) (sym (entries_told form content blocks index inside)));
      },
    )

-- the place at which reading stopped is one of the block
pub reached_last : (form : EntryForm) (told : ToldBytes) (end : ℕ) (block : Block) (from stop : ℕ) (w : Window) (place last : Place) (old new : List Kept) → IfSome told (λ content. length (entries_of form content block) ≡ block.count)
    → IsReached form told end block place → w.end ≡ end → file_content w.file ≡ told → stop ≤ block.count → ReadsFrom (wanted_of form block from stop) w place old last new → IsReached form told end block last
reached_last form told end block from stop w place last old new many reached ends same within r = record {
  within = omega (arith, r.within);
  before = omega (arith, r.reached);
  lies = if_told told (λ content. LieAt form block.width end content last.at (drop last.next (entries_of form content block))) (λ content e.
      let es = entries_of form content block in
      let lies : LieAt form block.width w.end content place.at (drop place.next es) = rw ends (at_told told content (λ c. LieAt form block.width end c place.at (drop place.next (entries_of form c block))) e reached.lies) in
      let rest = at_told (file_content w.file) content (λ c. IsRest (wanted_of form block from stop) w.end c place last r.given) (same ∙ e) r.told in
      let counted : length es ≡ block.count = at_told told content (λ c. length (entries_of form c block) ≡ block.count) e many in
      let enough : stop - place.next ≤ length (drop place.next es) = omega (arith, counted, length-drop place.next es) in
      let here = rest (drop place.next es) lies enough in
      let on : place.next + (last.next - place.next) ≡ last.next = omega (arith, r.later) in
      subst (λ n. LieAt form block.width n content last.at (drop last.next es)) ends (subst (λ xs. LieAt form block.width w.end content last.at xs) (drop-drop (last.next - place.next) place.next es ∙ ap (λ n. drop n es) on) here.0));
}

pub many_of : (form : EntryForm) (told : ToldBytes) (end : ℕ) (blocks : List Block) (index : ℕ) → IsTable form told end blocks → index < length blocks → IfSome told (λ content. length (entries_of form content (block_at blocks index)) ≡ (block_at blocks index).count)
many_of form told end blocks index table inside = if_told told (λ content. length (entries_of form content (block_at blocks index)) ≡ (block_at blocks index).count) (λ content e.
    ((at_told told content (λ c. (end ≤ length c) × All (IsBlock form end c) blocks) e table.blocks_are).1 index no_block inside).many)

-- another number is found only where nothing is told
pub finds_other : (number : ℕ) (form : EntryForm) (file : FileState) (blocks : List Block) (index kept found : ℕ) → index < length blocks → kept ≡ (block_at blocks index).count → found ≢ kept
    → ((content : Bytes) → file_content file ≡ Some content → ⊥) → FindsOther (state_of number form file blocks) index kept found
finds_other number form file blocks index kept found inside is differs none =
    let content_untold : file_content file ≡ None = untold (file_content file) none in
    record {
      is_kept = is ∙ sym (ap (λ s. s.count) (shape_is blocks index inside));
      differs = differs;
      content_untold = content_untold;
      entries_untold = told_none form (file_content file) blocks content_untold;
    }

pub told_too_few : (form : EntryForm) (told : ToldBytes) (end : ℕ) (blocks : List Block) (index from stop : ℕ) (w : Window) (place : Place) → IsTable form told end blocks → index < length blocks → IsReached form told end (block_at blocks index) place → w.end ≡ end → file_content w.file ≡ told
    → stop ≤ (block_at blocks index).count → TooFewLie (wanted_of form (block_at blocks index) from stop) w place → (content : Bytes) → told ≡ Some content → ⊥
told_too_few form told end blocks index from stop w place table inside reached ends same within too_few content e =
    let block = block_at blocks index in
    let es = entries_of form content block in
    let counted : length es ≡ block.count = at_told told content (λ c. length (entries_of form c block) ≡ block.count) e (many_of form told end blocks index table inside) in
    let lies : LieAt form block.width w.end content place.at (drop place.next es) = rw ends (at_told told content (λ c. LieAt form block.width end c place.at (drop place.next (entries_of form c block))) e reached.lies) in
    too_few content (same ∙ e) (drop place.next es) (omega (arith, counted, length-drop place.next es)) lies

-- ---- the call

pub inside_of : (number : ℕ) (form : EntryForm) (file : FileState) (blocks : List Block) (s : BlockState) (index block : ℕ) → state_of number form file blocks ≡ s → index ≡ block → block < length s.shapes → index < length blocks
inside_of number form file blocks s index block view same inside = omega (arith, same, inside, ap (λ (t : BlockState). length t.shapes) view, length-map blocks shape_kept)

pub kept_is : (blocks : List Block) (index : ℕ) (kept : Block) → index < length blocks → kept ≡ get_or blocks index kept → kept ≡ block_at blocks index
kept_is blocks index kept inside e = e ∙ get_or_default blocks index kept no_block inside

-- the place from which is read on is one of the block
pub opened : (form : EntryForm) (told : ToldBytes) (end : ℕ) (blocks : List Block) (index : ℕ) (mark : Option Mark) (stopped : Option Place) (place : Place) → IsKept form told end blocks mark → index < length blocks
    → IfSome stopped (λ p. mark ≡ Some (record { block = index; place = p })) → (stopped ≡ Some place) ⊎ (place ≡ first_place (block_at blocks index)) → IsReached form told end (block_at blocks index) place
opened form told end blocks index mark stopped place kept inside marks (inl there) =
    let P : Option Place → Type 0 = λ o. IfSome o (λ p. mark ≡ Some (record { block = index; place = p })) in
    let is : mark ≡ Some (record { block = index; place = place }) = subst P there marks in
    let M : Option Mark → Type 0 = λ m. IsMark form told end blocks m in
    let marked : IsMark form told end blocks (Some (record { block = index; place = place })) = subst M is kept.marked in
    marked.1
opened form told end blocks index mark stopped place kept inside marks (inr first) = subst (IsReached form told end (block_at blocks index)) (sym first) (reaches_first form told end blocks index kept.table inside)

pub form_spooled : (form : EntryForm) (rows : RowList) → All (FitsForm form) (map spooled rows)
form_spooled form rows = All-map (FitsForm form) spooled rows (λ k d inside. go form (get_or rows k d))
  where
    go : (form : EntryForm) (row : RowValues) → FitsForm form (spooled row)
    go Join row = tt
    go Spool row = (refl, refl)

pub refuses_from : (fault : BlockFault) (number : ℕ) (form : EntryForm) (blocks : List Block) (index from stop : ℕ) (old mid new : Window) (place : Place) → IsTable form (file_content old.file) old.end blocks → index < length blocks
    → IsReached form (file_content old.file) old.end (block_at blocks index) place → KeepsFile old mid → stop ≤ (block_at blocks index).count → FailsFrom (wanted_of form (block_at blocks index) from stop) fault mid place new
    → RefusesRows (state_of number form old.file blocks) index fault (state_of number form new.file blocks)
refuses_from SpillFault number form blocks index from stop old mid new place table inside reached keeps within h = rose_later old.file.faults mid.file.faults new.file.faults keeps.file.same.faults h
refuses_from (SpillFull need limit) number form blocks index from stop old mid new place table inside reached keeps within h = absurd h
refuses_from (Differs kept found) number form blocks index from stop old mid new place table inside reached keeps within h =
    finds_other number form old.file blocks index kept found inside h.0 h.1 (told_too_few form (file_content old.file) old.end blocks index from stop mid place table inside reached keeps.end (content_kept old mid keeps) within h.2)
refuses_from NoMemory number form blocks index from stop old mid new place table inside reached keeps within h = tt
