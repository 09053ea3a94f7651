-- A scan goes from block to block over all rows.
use Rattle.std.proofs.Common.{◌≡◌, ℕ, ◌+◌, ◌-◌, ◌<◌, ◌≤◌, min, max, List, [], ◌∷◌, ◌++◌, length, take, drop, map, get_or, Option, Some, None, option_map, refl, sym, ap, ap₂, subst, ◌∙◌, arith, append-nil, length-append, length-drop}
use Rattle.std.specs.List.{All}
use Rattle.std.specs.Option.{IfSome}
use Rattle.std.proofs.lemmas.List.{drop-append-le, drop-drop, drop-map, drop-take, drop_at, drop_more, get_or-map, length-map, map-append, take-append-drop, take-append-le, take-map, take-take, take_min}
use Rattle.std.proofs.lemmas.List.Concat.{flat_map-append}
use Rattle.std.proofs.lemmas.List.Elements.{All-append, All-map, All-get_or}
use Rattle.std.proofs.lemmas.List.Sums.{sum_by-cons}
use Rattle.tuple_core.specs.Values.{RowList, RowValues}
use Rattle.spill_blocks.specs.Blocks.{AreWide, BlockShape, BlockState, GivesMore, OnlyReads, PutsBlock, TellsShapes, entries_at, shape_at, shape_of}
use Rattle.spill_blocks.specs.Entries.{row_kept, spooled}
use Rattle.spill_blocks.specs.declared.entries.Kept.{Kept}
use Rattle.frag_store.specs.Spools.{IsCursor, IsSpoolWide, ScansPart, ScansRows, all_entries, count_of, shape_count, spooled_count, spooled_rows}
use Rattle.frag_store.specs.declared.spool.Cursor.{Cursor}

-- ---- lists

take_seam : {X : Type 0} (a b : ℕ) (xs : List X) → take (a + b) xs ≡ take a xs ++ take b (drop a xs)
take_seam a b xs =
    let within : a ≤ a + b = omega arith in
    rw (← take-take a (a + b) xs within, ← drop-take a b xs) (sym (take-append-drop a (take (a + b) xs)))

-- a part of one block is a part of all entries
pub part_of_all : (blocks : List (List Kept)) (k i n : ℕ) → k < length blocks → i + n ≤ length (entries_at blocks k)
    → take n (drop (length (all_entries (take k blocks)) + i) (all_entries blocks)) ≡ take n (drop i (entries_at blocks k))
part_of_all blocks k i n inside within =
    let es = entries_at blocks k in
    let before = all_entries (take k blocks) in
    let rest = all_entries (drop (k + 1) blocks) in
    let whole : all_entries blocks ≡ before ++ (es ++ rest) =
    ap all_entries (sym (take-append-drop k blocks))
    ∙ flat_map-append (λ (e : List Kept). e) (take k blocks) (drop k blocks)
    ∙ ap (λ xs. before ++ all_entries xs) (drop_more blocks k [] inside) in
    let low : i ≤ length es = omega arith in
    let high : n ≤ length (drop i es) = omega (arith, length-drop i es) in
    ap (λ xs. take n (drop (length before + i) xs)) whole
    ∙ ap (take n) (sym (drop-drop i (length before) (before ++ (es ++ rest))) ∙ ap (drop i) (drop_at before (es ++ rest) (length before) refl) ∙ drop-append-le i es rest low)
    ∙ take-append-le n (drop i es) rest high

counts_of : (blocks : List (List Kept)) → count_of (map shape_of blocks) ≡ length (all_entries blocks)
counts_of [] = refl
counts_of (es ∷ blocks) =
    sum_by-cons shape_count (shape_of es) (map shape_of blocks)
    ∙ ap (λ n. length es + n) (counts_of blocks)
    ∙ sym (length-append es (all_entries blocks))

pub counts_before : (blocks : List (List Kept)) (shapes : List BlockShape) (k : ℕ) → map shape_of blocks ≡ shapes → count_of (take k shapes) ≡ length (all_entries (take k blocks))
counts_before blocks shapes k e = ap (λ ss. count_of (take k ss)) (sym e) ∙ ap count_of (take-map shape_of k blocks) ∙ counts_of (take k blocks)

pub counts_all : (blocks : List (List Kept)) (shapes : List BlockShape) → map shape_of blocks ≡ shapes → count_of shapes ≡ length (all_entries blocks)
counts_all blocks shapes e = ap count_of (sym e) ∙ counts_of blocks

-- ---- one block

told_of : {X : Type 0} (told : Option X) (x : X) (P : X → Type 0) → told ≡ Some x → IfSome told P → P x
told_of {X = X} told x P e h = let Q : Option X → Type 0 = λ o. IfSome o P in subst Q e h

if_told : {X : Type 0} (told : Option X) (P : X → Type 0) → ((x : X) → told ≡ Some x → P x) → IfSome told P
if_told None P h = tt
if_told (Some x) P h = h x refl

-- what is read of the block at the cursor are entries from the position on
pub gives_part : (s : BlockState) (cursor : Cursor) (position stop room : ℕ) (old new : List Kept) → TellsShapes s → IsCursor s.shapes cursor → cursor.before ≤ position → position < stop → cursor.block < length s.shapes
    → position < cursor.before + (shape_at s cursor.block).count → room ≡ min (stop - position) (shape_at s cursor.block).count → GivesMore s cursor.block (position - cursor.before) room old new → ScansPart s position stop old new
gives_part s cursor position stop room old new shapes is low more inside here much (given, gains, rows) = (
  given,
  gains,
  record {
    some = omega (arith, rows.count);
    within = omega (arith, rows.count);
    wide = λ width all. subst (λ n. AreWide n given) (All-get_or (λ (shape : BlockShape). shape.width ≡ width) s.shapes cursor.block (record { count = 0; width = 0 }) inside all) rows.wide;
    told = if_told s.told (λ blocks. given ≡ take (length given) (drop position (all_entries blocks))) (λ blocks e.
        let same : map shape_of blocks ≡ s.shapes = told_of s.told blocks (λ bs. map shape_of bs ≡ s.shapes) e shapes in
        let there : cursor.block < length blocks = omega (arith, ap length same, length-map blocks shape_of) in
        let es = entries_at blocks cursor.block in
        let counted : length es ≡ (shape_at s cursor.block).count =
        ap (λ (shape : BlockShape). shape.count) (sym (get_or-map shape_of blocks cursor.block [] (record { count = 0; width = 0 }) there) ∙ ap (λ ss. get_or ss cursor.block (record { count = 0; width = 0 })) same) in
        let i = position - cursor.before in
        let least : length given ≡ min room (length (drop i es)) = omega (arith, rows.count, length-drop i es, counted) in
        let own : given ≡ take (length given) (drop i es) =
        told_of s.told blocks (λ bs. given ≡ take room (drop i (entries_at bs cursor.block))) e rows.told ∙ sym (take_min room (drop i es)) ∙ ap (λ n. take n (drop i es)) (sym least) in
        let within : i + length given ≤ length es = omega (arith, rows.count, counted) in
        let start : length (all_entries (take cursor.block blocks)) + i ≡ position = omega (arith, counts_before blocks s.shapes cursor.block same, is.before) in
        own ∙ sym (part_of_all blocks cursor.block i (length given) there within) ∙ ap (λ n. take (length given) (drop n (all_entries blocks))) start);
  },
)

-- ---- all blocks

-- up to a position all entries from another one on were read
pub record IsScanned (s : BlockState) (from stop position : ℕ) (entries : List Kept) : Type 0 where
  pub reached : position ≡ from + length entries
  pub within : position ≤ max from stop
  pub wide : (width : ℕ) → IsSpoolWide width s → AreWide width entries
  pub told : IfSome s.told (λ blocks. entries ≡ take (length entries) (drop from (all_entries blocks)))

pub scanned_more : (s : BlockState) (from stop position : ℕ) (old new : List Kept) → position < stop → IsScanned s from stop position old → ScansPart s position stop old new → IsScanned s from stop (from + length new) new
scanned_more s from stop position old new more is (given, gains, part) =
    let long : length new ≡ length old + length given = ap length gains ∙ length-append old given in
    record {
      reached = refl;
      within = omega (arith, long, is.reached, part.within);
      wide = λ width all. subst (AreWide width) (sym gains) (All-append (λ (kept : Kept). length kept.row ≡ width) old given (is.wide width all) (part.wide width all));
      told = if_told s.told (λ blocks. new ≡ take (length new) (drop from (all_entries blocks))) (λ blocks e.
          let all = all_entries blocks in
          gains
          ∙ ap₂ (λ xs ys. xs ++ ys) (told_of s.told blocks (λ bs. old ≡ take (length old) (drop from (all_entries bs))) e is.told)
          (told_of s.told blocks (λ bs. given ≡ take (length given) (drop position (all_entries bs))) e part.told ∙ ap (λ n. take (length given) (drop n all)) is.reached ∙ ap (take (length given)) (sym (drop-drop (length old) from all)))
          ∙ sym (take_seam (length old) (length given) (drop from all))
          ∙ ap (λ n. take n (drop from all)) (sym long));
    }

-- all that are wanted were read
pub scans_rows : (s : BlockState) (from stop room position : ℕ) (entries : List Kept) (rows : RowList) → TellsShapes s → stop ≡ min (from + room) (spooled_count s) → stop ≤ position → IsScanned s from stop position entries → rows ≡ map row_kept entries → ScansRows s from room rows
scans_rows s from stop room position entries rows shapes last done is e =
    let long : length rows ≡ length entries = ap length e ∙ length-map entries row_kept in
    record {
      count = omega (arith, long, is.reached, is.within);
      wide = λ width all. subst (λ rs. All (λ (row : RowValues). length row ≡ width) rs) (sym e) (All-map (λ (row : RowValues). length row ≡ width) row_kept entries (is.wide width all));
      told = if_rows s.told (λ all. rows ≡ take room (drop from all)) (λ blocks f.
          let all = all_entries blocks in
          let same : map shape_of blocks ≡ s.shapes = told_of s.told blocks (λ bs. map shape_of bs ≡ s.shapes) f shapes in
          let counted : spooled_count s ≡ length all = counts_all blocks s.shapes same in
          let least : length entries ≡ min room (length (drop from all)) = omega (arith, is.reached, is.within, counted, length-drop from all) in
          e
          ∙ ap (map row_kept) (told_of s.told blocks (λ bs. entries ≡ take (length entries) (drop from (all_entries bs))) f is.told ∙ ap (λ n. take n (drop from all)) least ∙ take_min room (drop from all))
          ∙ sym (take-map row_kept room (drop from all))
          ∙ ap (take room) (sym (drop-map row_kept from all)));
    }
  where
    if_rows : (told : Option (List (List Kept))) (P : RowList → Type 0) → ((blocks : List (List Kept)) → told ≡ Some blocks → P (map row_kept (all_entries blocks))) → IfSome (option_map (λ blocks. map row_kept (all_entries blocks)) told) P
    if_rows None P h = tt
    if_rows (Some blocks) P h = h blocks refl

-- ---- rows that are put

rows_back : (rows : RowList) → map row_kept (map spooled rows) ≡ rows
rows_back [] = refl
rows_back (row ∷ rows) = ap (λ rs. row ∷ rs) (rows_back rows)

told_more : (told : Option (List (List Kept))) (rows : RowList) → option_map (λ (blocks : List (List Kept)). map row_kept (all_entries blocks)) (option_map (λ (blocks : List (List Kept)). blocks ++ map spooled rows ∷ []) told)
    ≡ option_map (λ (before : RowList). before ++ rows) (option_map (λ (blocks : List (List Kept)). map row_kept (all_entries blocks)) told)
told_more None rows = refl
told_more (Some blocks) rows =
    ap Some (
    ap (map row_kept) (flat_map-append (λ (e : List Kept). e) blocks (map spooled rows ∷ []) ∙ ap (λ xs. all_entries blocks ++ xs) (append-nil (map spooled rows)))
    ∙ map-append row_kept (all_entries blocks) (map spooled rows)
    ∙ ap (λ rs. map row_kept (all_entries blocks) ++ rs) (rows_back rows)
    )

pub rows_put : (old new : BlockState) (rows : RowList) (block : ℕ) → PutsBlock old (map spooled rows) block new → spooled_rows new ≡ option_map (λ (before : RowList). before ++ rows) (spooled_rows old)
rows_put old new rows block put = ap (option_map (λ (blocks : List (List Kept)). map row_kept (all_entries blocks))) put.told ∙ told_more old.told rows

-- ---- a file that is only read

pub reads_on : (s t u : BlockState) → OnlyReads s t → OnlyReads t u → OnlyReads s u
reads_on s t u first next = (
  record { number = next.0.number ∙ first.0.number; form = next.0.form ∙ first.0.form; shapes = next.0.shapes ∙ first.0.shapes; told = next.0.told ∙ first.0.told },
  record {
    content = next.1.content ∙ first.1.content;
    past_end = next.1.past_end ∙ first.1.past_end;
    same = record { number = next.1.same.number ∙ first.1.same.number; limit = next.1.same.limit ∙ first.1.same.limit; faults = omega (arith, first.1.same.faults, next.1.same.faults) };
  },
)

pub part_kept : (s t : BlockState) (position stop : ℕ) (old new : List Kept) → OnlyReads s t → ScansPart t position stop old new → ScansPart s position stop old new
part_kept s t position stop old new keeps (given, gains, part) = (
  given,
  gains,
  record {
    some = part.some;
    within = part.within;
    wide = λ width all. part.wide width (rw keeps.0.shapes all);
    told = rw keeps.0.told at part.told;
  },
)
