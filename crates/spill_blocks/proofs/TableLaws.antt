-- The table of blocks stays true, whatever is put or read.
use Rattle.std.proofs.Common.{◌≡◌, ℕ, ◌+◌, ◌<◌, ◌≤◌, ◌^◌, List, [], ◌∷◌, ◌++◌, length, take, drop, map, get_or, Option, Some, None, option_map, refl, sym, ap, ap₂, subst, ◌∙◌, arith, append-nil, append_assoc, length-append, length-drop}
use Rattle.std.specs.Int.{w32, w64, to_be_bytes}
use Rattle.std.specs.List.{All, AllByRecursion}
use Rattle.std.specs.Option.{IfSome}
use Rattle.std.proofs.lemmas.List.{drop-append-le, drop-drop, drop_all, drop_at, get_or-map, get_or_append_left, length-map, map-append, take-append-le, take_at}
use Rattle.std.proofs.lemmas.List.Elements.{All-head, All-nil, All-push, All-tail, All-weaker, recursion_from_All}
use Rattle.med_base.specs.Spills.{AppendsBytes, FileState, file_content, file_length}
use Rattle.med_prelude.specs.Texts.{Bytes, ToldBytes, told_with}
use Rattle.spill_blocks.specs.Blocks.{AreWide, BlockState, FitsForm, HaveOneWidth, PutsBlock, block_encoding, entries_encoding, shape_of, width_of}
use Rattle.spill_blocks.specs.Reading.{FitsKept, IsEntry, LieAt, entries_in}
use Rattle.spill_blocks.specs.Tables.{IsBlock, IsKept, IsMark, IsPlaced, IsReached, IsTable, block_at, entries_of, first_entry, no_block, shape_kept, told_entries}
use Rattle.spill_blocks.specs.declared.entries.Kept.{Kept}
use Rattle.spill_blocks.specs.declared.form.EntryForm.{EntryForm}
use Rattle.spill_blocks.specs.declared.table.Block.{Block}
use Rattle.spill_blocks.specs.declared.table.Mark.{Mark}
use Rattle.spill_blocks.specs.declared.table.Place.{Place}
use Rattle.spill_blocks.proofs.LieLaws.{lie_grows, lie_reads}
use Rattle.spill_blocks.proofs.ReadLaws.{entries_take}
use Rattle.spill_blocks.proofs.WindowLaws.{at_told, content_long, grown, if_told}

-- ---- content that grows

pub entries_stay : (form : EntryForm) (end : ℕ) (content more : Bytes) (block : Block) → end ≤ length content → IsBlock form end content block → entries_of form (content ++ more) block ≡ entries_of form content block
entries_stay form end content more block reached is =
    ap (λ n. entries_in form block.width n (drop (first_entry block) (content ++ more))) (sym is.many)
    ∙ lie_reads form block.width end (content ++ more) (first_entry block) (entries_of form content block) (lie_grows form block.width end end content more (first_entry block) (entries_of form content block) reached (omega arith) is.lie)

pub block_grows : (form : EntryForm) (end later : ℕ) (content more : Bytes) (block : Block) → end ≤ length content → end ≤ later → IsBlock form end content block → IsBlock form later (content ++ more) block
block_grows form end later content more block reached up is =
    let same = entries_stay form end content more block reached is in
    let begins : block.start ≤ length content = omega (arith, is.lie.inside) in
    let within : 4 ≤ length (drop block.start content) = omega (arith, is.lie.inside, length-drop block.start content) in
    record {
      head = ap (take 4) (drop-append-le block.start content more begins) ∙ take-append-le 4 (drop block.start content) more within ∙ is.head;
      many = ap length same ∙ is.many;
      lie = subst (λ es. LieAt form block.width later (content ++ more) (first_entry block) es) (sym same) (lie_grows form block.width end later content more (first_entry block) (entries_of form content block) reached up is.lie);
    }

told_stay : (form : EntryForm) (end : ℕ) (content more : Bytes) (blocks : List Block) → end ≤ length content → All (IsBlock form end content) blocks → map (entries_of form (content ++ more)) blocks ≡ map (entries_of form content) blocks
told_stay form end content more [] reached all = refl
told_stay form end content more (b ∷ blocks) reached all =
    ap₂ (λ e es. e ∷ es) (entries_stay form end content more b reached (All-head (IsBlock form end content) b blocks all)) (told_stay form end content more blocks reached (All-tail (IsBlock form end content) b blocks all))

-- ---- a block that is put

head_front : (form : EntryForm) (es : List Kept) → take 4 (block_encoding form es) ≡ to_be_bytes w32 (length es)
unfolding block_encoding
head_front form es =
    ap (take 4) (append_assoc (to_be_bytes w32 (length es)) (to_be_bytes w64 (length (entries_encoding form es))) (entries_encoding form es))
    ∙ take_at (to_be_bytes w32 (length es)) (to_be_bytes w64 (length (entries_encoding form es)) ++ entries_encoding form es) 4 refl

behind_head : (form : EntryForm) (es : List Kept) → drop 12 (block_encoding form es) ≡ entries_encoding form es
unfolding block_encoding
behind_head form es = drop_at (to_be_bytes w32 (length es) ++ to_be_bytes w64 (length (entries_encoding form es))) (entries_encoding form es) 12 refl

pub block_long : (form : EntryForm) (es : List Kept) → length (block_encoding form es) ≡ 12 + length (entries_encoding form es)
unfolding block_encoding
block_long form es = length-append (to_be_bytes w32 (length es) ++ to_be_bytes w64 (length (entries_encoding form es))) (entries_encoding form es)

-- at the end of the content lies what is appended
at_end : (n : ℕ) (content more : Bytes) → drop (length content + n) (content ++ more) ≡ drop n more
at_end n content more = sym (drop-drop n (length content) (content ++ more)) ∙ ap (drop n) (drop_at content more (length content) refl)

put_lies : (form : EntryForm) (width : ℕ) (content : Bytes) (es : List Kept) → AllByRecursion (IsEntry form width) es
    → LieAt form width (length content + length (block_encoding form es)) (content ++ block_encoding form es) (length content + 12) es
put_lies form width content es all =
    let long = block_long form es in
    let whole = length-append content (block_encoding form es) in
    record {
      inside = omega (arith, long);
      are =
          at_end 12 content (block_encoding form es)
          ∙ behind_head form es
          ∙ sym (append-nil (entries_encoding form es))
          ∙ ap (λ bs. entries_encoding form es ++ bs) (sym (drop_all (length content + 12 + length (entries_encoding form es)) (content ++ block_encoding form es) (omega (arith, long, whole))));
      each = all;
    }

abbrev pub block_put : ℕ → List Kept → Block
block_put start es = record { start = start; count = length es; width = width_of es }

put_entries : (form : EntryForm) (content : Bytes) (es : List Kept) → AllByRecursion (IsEntry form (width_of es)) es → entries_of form (content ++ block_encoding form es) (block_put (length content) es) ≡ es
put_entries form content es all = lie_reads form (width_of es) (length content + length (block_encoding form es)) (content ++ block_encoding form es) (length content + 12) es (put_lies form (width_of es) content es all)

put_block : (form : EntryForm) (content : Bytes) (es : List Kept) → AllByRecursion (IsEntry form (width_of es)) es → IsBlock form (length content + length (block_encoding form es)) (content ++ block_encoding form es) (block_put (length content) es)
put_block form content es all =
    let same = put_entries form content es all in
    record {
      head = ap (take 4) (drop_at content (block_encoding form es) (length content) refl) ∙ head_front form es;
      many = ap length same;
      lie = subst (λ xs. LieAt form (width_of es) (length content + length (block_encoding form es)) (content ++ block_encoding form es) (length content + 12) xs) (sym same) (put_lies form (width_of es) content es all);
    }

-- the entries that are put are entries of their file
wide_first : (es : List Kept) (width : ℕ) → AreWide width es → AreWide (width_of es) es
wide_first [] width all = All-nil (λ (kept : Kept). length kept.row ≡ 0)
wide_first (e ∷ es) width all =
    let here : length e.row ≡ width = All-head (λ (kept : Kept). length kept.row ≡ width) e es all in
    All-weaker (λ (kept : Kept). length kept.row ≡ width) (λ (kept : Kept). length kept.row ≡ length e.row) (λ kept h. h ∙ sym here) (e ∷ es) all

pub are_entries : (form : EntryForm) (es : List Kept) → All FitsKept es → HaveOneWidth es → All (FitsForm form) es → AllByRecursion (IsEntry form (width_of es)) es
are_entries form es fits wide formed = recursion_from_All (IsEntry form (width_of es)) es (λ k d inside. record {
  fits = fits k d inside;
  wide = wide_first es wide.0 wide.1 k d inside;
  formed = formed k d inside;
})

-- ---- the table and the mark

-- the table with one block more
pub table_put : (form : EntryForm) (file new : FileState) (end at : ℕ) (blocks : List Block) (es : List Kept) → IsTable form (file_content file) end blocks → AllByRecursion (IsEntry form (width_of es)) es
    → 0 < length es → length es < 2 ^ 32 → length blocks < 2 ^ 32 → end ≤ file_length file → at + length (block_encoding form es) < 2 ^ 64 → AppendsBytes file (block_encoding form es) at new
    → IsTable form (file_content new) (at + length (block_encoding form es)) (blocks ++ block_put at es ∷ [])
table_put form file new end at blocks es table all some few numbered reached far done =
    let bytes = block_encoding form es in
    let up : end ≤ at + length bytes = omega (arith, done.start) in
    record {
      far = far;
      numbered = omega (arith, numbered, length-append blocks (block_put at es ∷ []));
      placed = All-push (IsPlaced (at + length bytes)) blocks (block_put at es) (All-weaker (IsPlaced end) (IsPlaced (at + length bytes)) (λ b p. record { before = omega (arith, p.before); counted = p.counted; some = p.some }) blocks table.placed) (record { before = omega (arith, block_long form es); counted = few; some = some });
      blocks_are = if_told (file_content new) (λ content. (at + length bytes ≤ length content) × All (IsBlock form (at + length bytes) content) (blocks ++ block_put at es ∷ [])) (λ content e.
          let g = grown (file_content file) bytes content (sym done.told ∙ e) in
          let old = at_told (file_content file) g.0 (λ c. (end ≤ length c) × All (IsBlock form end c) blocks) g.1 table.blocks_are in
          let same : at ≡ length g.0 = done.start ∙ content_long file g.0 g.1 in
          rw g.2 (
            omega (arith, length-append g.0 bytes, same),
            All-push (IsBlock form (at + length bytes) (g.0 ++ bytes)) blocks (block_put at es) (All-weaker (IsBlock form end g.0) (IsBlock form (at + length bytes) (g.0 ++ bytes)) (λ b is. block_grows form end (at + length bytes) g.0 bytes b old.0 up is) blocks old.1)
                (subst (λ n. IsBlock form (n + length bytes) (g.0 ++ bytes) (block_put n es)) (sym same) (put_block form g.0 es all)),
          ));
    }

-- and what it tells
pub told_put : (form : EntryForm) (file new : FileState) (end at : ℕ) (blocks : List Block) (es : List Kept) → IsTable form (file_content file) end blocks → AllByRecursion (IsEntry form (width_of es)) es → AppendsBytes file (block_encoding form es) at new
    → told_entries form (file_content new) (blocks ++ block_put at es ∷ []) ≡ option_map (λ (bs : List (List Kept)). bs ++ es ∷ []) (told_entries form (file_content file) blocks)
told_put form file new end at blocks es table all done = ap (λ told. told_entries form told (blocks ++ block_put at es ∷ [])) done.told ∙ go (file_content file) refl
  where
    bytes : Bytes
    bytes = block_encoding form es

    go : (told : ToldBytes) → file_content file ≡ told → told_entries form (told_with told (block_encoding form es)) (blocks ++ block_put at es ∷ []) ≡ option_map (λ (bs : List (List Kept)). bs ++ es ∷ []) (told_entries form told blocks)
    go None e = refl
    go (Some content) e =
        let old = at_told (file_content file) content (λ c. (end ≤ length c) × All (IsBlock form end c) blocks) e table.blocks_are in
        let same : at ≡ length content = done.start ∙ content_long file content e in
        ap Some (
        map-append (entries_of form (content ++ block_encoding form es)) blocks (block_put at es ∷ [])
        ∙ ap₂ (λ xs x. xs ++ x ∷ []) (told_stay form end content (block_encoding form es) blocks old.0 old.1)
        (ap (λ n. entries_of form (content ++ block_encoding form es) (block_put n es)) same ∙ put_entries form content es all)
        )

-- a place of a block is reached still
pub reached_put : (form : EntryForm) (file new : FileState) (end at : ℕ) (blocks : List Block) (es : List Kept) (block : Block) (place : Place) → IsTable form (file_content file) end blocks → AppendsBytes file (block_encoding form es) at new → end ≤ file_length file
    → (index : ℕ) → index < length blocks → block ≡ block_at blocks index → IsReached form (file_content file) end block place → IsReached form (file_content new) (at + length (block_encoding form es)) block place
reached_put form file new end at blocks es block place table done reached index inside here r =
    let bytes = block_encoding form es in
    let up : end ≤ at + length bytes = omega (arith, done.start) in
    record {
      within = r.within;
      before = omega (arith, r.before);
      lies = if_told (file_content new) (λ content. LieAt form block.width (at + length bytes) content place.at (drop place.next (entries_of form content block))) (λ content e.
          let g = grown (file_content file) bytes content (sym done.told ∙ e) in
          let old = at_told (file_content file) g.0 (λ c. (end ≤ length c) × All (IsBlock form end c) blocks) g.1 table.blocks_are in
          let is : IsBlock form end g.0 block = subst (IsBlock form end g.0) (sym here) (old.1 index no_block inside) in
          let stay = entries_stay form end g.0 bytes block old.0 is in
          rw g.2 (subst (λ xs. LieAt form block.width (at + length bytes) (g.0 ++ bytes) place.at (drop place.next xs)) (sym stay)
          (lie_grows form block.width end (at + length bytes) g.0 bytes place.at (drop place.next (entries_of form g.0 block)) old.0 up (at_told (file_content file) g.0 (λ c. LieAt form block.width end c place.at (drop place.next (entries_of form c block))) g.1 r.lies))));
    }

pub mark_put : (form : EntryForm) (file new : FileState) (end at : ℕ) (blocks : List Block) (es : List Kept) (mark : Option Mark) → IsTable form (file_content file) end blocks → AppendsBytes file (block_encoding form es) at new → end ≤ file_length file
    → IsMark form (file_content file) end blocks mark → IsMark form (file_content new) (at + length (block_encoding form es)) (blocks ++ block_put at es ∷ []) mark
mark_put form file new end at blocks es None table done reached is = tt
mark_put form file new end at blocks es (Some mark) table done reached is =
    let same : block_at (blocks ++ block_put at es ∷ []) mark.block ≡ block_at blocks mark.block = get_or_append_left blocks (block_put at es ∷ []) no_block mark.block is.0 in (
      omega (arith, length-append blocks (block_put at es ∷ []), is.0),
      subst (λ b. IsReached form (file_content new) (at + length (block_encoding form es)) b mark.place) (sym same)
          (reached_put form file new end at blocks es (block_at blocks mark.block) mark.place table done reached mark.block is.0 refl is.1),
    )

-- all that is kept, with one block more
pub kept_put : (form : EntryForm) (file new : FileState) (end at later : ℕ) (blocks items : List Block) (es : List Kept) (mark : Option Mark) (bytes : Bytes) → IsKept form (file_content file) end blocks mark → AllByRecursion (IsEntry form (width_of es)) es
    → 0 < length es → length es < 2 ^ 32 → length blocks < 2 ^ 32 → end ≤ file_length file → later < 2 ^ 64 → bytes ≡ block_encoding form es → AppendsBytes file bytes at new → later ≡ at + length bytes → items ≡ blocks ++ block_put at es ∷ []
    → IsKept form (file_content new) later items mark
kept_put form file new end at later blocks items es mark bytes kept all some few numbered reached far are done last put =
    let end_is : later ≡ at + length (block_encoding form es) = last ∙ ap (λ bs. at + length bs) are in
    let done' : AppendsBytes file (block_encoding form es) at new = subst (λ bs. AppendsBytes file bs at new) are done in
    let far' : at + length (block_encoding form es) < 2 ^ 64 = omega (arith, far, end_is) in
    rw (end_is, put) (record {
      table = table_put form file new end at blocks es kept.table all some few numbered reached far' done';
      marked = mark_put form file new end at blocks es mark kept.table done' reached kept.marked;
    })

-- a file of these blocks
abbrev pub state_of : ℕ → EntryForm → FileState → List Block → BlockState
state_of number form file blocks = record { number = number; form = form; file = file; shapes = map shape_kept blocks; told = told_entries form (file_content file) blocks }

pub puts_block : (number : ℕ) (form : EntryForm) (file new : FileState) (end at later : ℕ) (blocks items : List Block) (es : List Kept) (bytes : Bytes) → IsTable form (file_content file) end blocks → AllByRecursion (IsEntry form (width_of es)) es
    → later < 2 ^ 64 → bytes ≡ block_encoding form es → AppendsBytes file bytes at new → later ≡ at + length bytes → items ≡ blocks ++ block_put at es ∷ [] → PutsBlock (state_of number form file blocks) es (length blocks) (state_of number form new items)
puts_block number form file new end at later blocks items es bytes table all far are done last put =
    let done' : AppendsBytes file (block_encoding form es) at new = subst (λ bs. AppendsBytes file bs at new) are done in
    let encoded : length bytes ≡ length (block_encoding form es) = ap length are in
    record {
      number = refl;
      form = refl;
      placed = sym (length-map blocks shape_kept);
      shapes = ap (map shape_kept) put ∙ map-append shape_kept blocks (block_put at es ∷ []);
      told = ap (told_entries form (file_content new)) put ∙ told_put form file new end at blocks es table all done';
      file = subst (λ n. AppendsBytes file (block_encoding form es) n new) done'.start done';
      takes = omega (arith, done'.len, block_long form es, entries_take form es);
      far = omega (arith, far, last, done.start, done.len);
    }

-- ---- what is told and kept of a block

pub shape_is : (blocks : List Block) (index : ℕ) → index < length blocks → get_or (map shape_kept blocks) index (record { count = 0; width = 0 }) ≡ shape_kept (block_at blocks index)
shape_is blocks index inside = get_or-map shape_kept blocks index no_block (record { count = 0; width = 0 }) inside

first_wide : (form : EntryForm) (width : ℕ) (es : List Kept) → 0 < length es → AllByRecursion (IsEntry form width) es → width_of es ≡ width
first_wide form width [] some all = absurd (omega arith)
first_wide form width (e ∷ es) some all = all.0.wide

shape_of_block : (form : EntryForm) (end : ℕ) (content : Bytes) (block : Block) → IsPlaced end block → IsBlock form end content block → shape_of (entries_of form content block) ≡ shape_kept block
shape_of_block form end content block placed is =
    let some : 0 < length (entries_of form content block) = omega (arith, is.many, placed.some) in
    ap₂ (λ c w. record { count = c; width = w }) is.many (first_wide form block.width (entries_of form content block) some is.lie.each)

shapes_of : (form : EntryForm) (end : ℕ) (content : Bytes) (blocks : List Block) → All (IsPlaced end) blocks → All (IsBlock form end content) blocks → map shape_of (map (entries_of form content) blocks) ≡ map shape_kept blocks
shapes_of form end content [] placed are = refl
shapes_of form end content (b ∷ blocks) placed are =
    ap₂ (λ s ss. s ∷ ss) (shape_of_block form end content b (All-head (IsPlaced end) b blocks placed) (All-head (IsBlock form end content) b blocks are))
    (shapes_of form end content blocks (All-tail (IsPlaced end) b blocks placed) (All-tail (IsBlock form end content) b blocks are))

pub tells_shapes : (form : EntryForm) (told : ToldBytes) (end : ℕ) (blocks : List Block) → IsTable form told end blocks → IfSome (told_entries form told blocks) (λ bs. map shape_of bs ≡ map shape_kept blocks)
tells_shapes form None end blocks table = tt
tells_shapes form (Some content) end blocks table = shapes_of form end content blocks table.placed table.blocks_are.1
