-- The values of a row's fields and the rows of frames, one after the other.
use Rattle.std.proofs.Common.{◌≡◌, ℕ, suc, ◌+◌, ◌==◌, Bool, true, false, List, [], ◌∷◌, ◌++◌, length, take, ◌≤◌, Option, Some, None, Result, Ok, Err, arith, refl, ap, sym, ◌∙◌, append_assoc, append-nil, if◌then◌else◌}
use Rattle.std.proofs.lemmas.Bool.{eqb-true}
use Rattle.std.proofs.lemmas.List.{length-take, take-take}
use Rattle.std.proofs.lemmas.Slice.Zip.{length-zip}
use Rattle.std.specs.List.{zip}
use Rattle.std.specs.Prelude.{nat_eq}
use Rattle.std.specs.Cmp.Lexicographic.{pointwise}
use Rattle.med_prelude.specs.Reading.{◌>>=◌, or_at, read_each, with_front}
use Rattle.med_base.specs.declared.member.MemberFault.{MemberFault}
use Rattle.med_base.specs.declared.member.MemberFault.TheVariants as fault
use Rattle.tuple_core.specs.declared.columns.Column.{Column}
use Rattle.tuple_core.specs.declared.value.Value.{Value}
use Rattle.tuple_core.specs.Parsing.{field_value}
use Rattle.csv_runs.specs.Records.{good_record}
use Rattle.csv_wrap.specs.Rows.{frame_read, frame_reads, is_header, named_count, record_read, rows_before_fault, values_from, values_of, values_read}
use Rattle.csv_wrap.specs.Readings.{Reading, rows_then, read_frames, read_then, reading_of}
use Rattle.csv_wrap.specs.Ahead.{FillColumns, unless_bad}
use Rattle.csv_wrap.specs.declared.frame_rows.FrameRead.{FrameRead}
use Rattle.csv_wrap.specs.declared.frame_rows.FrameRead.TheVariants as read

with_front_twice : {P : Type 0} (front xs : List Value) (r : Result (List Value) P) → with_front front (with_front xs r) ≡ with_front (front ++ xs) r
with_front_twice front xs (Ok ys) = ap Ok (sym (append_assoc front xs ys))
with_front_twice front xs (Err at) = refl

-- a field that spells a value puts it behind those before it
pub value_next : (position : ℕ) (column : Column) (columns : List Column) (field : List ℕ) (fields : List (List ℕ)) (front : List Value) (v : Value)
    → field_value column field ≡ Some v
    → with_front front (values_from position (column ∷ columns) (field ∷ fields)) ≡ with_front (front ++ v ∷ []) (values_from (position + 1) columns fields)
value_next position column columns field fields front v e = rw e (with_front_twice front (v ∷ []) (values_from (position + 1) columns fields))

-- one that spells none is in the broken column
pub value_broken : (position : ℕ) (column : Column) (columns : List Column) (field : List ℕ) (fields : List (List ℕ)) (front : List Value)
    → field_value column field ≡ None
    → with_front front (values_from position (column ∷ columns) (field ∷ fields)) ≡ Err position
value_broken position column columns field fields front e = rw e refl

-- the names that are counted go on, or stop at the first field that is another
pub named_next : (column : Column) (columns : List Column) (field : List ℕ) (fields : List (List ℕ)) → pointwise nat_eq column.name field ≡ true
    → named_count (column ∷ columns) (field ∷ fields) ≡ suc (named_count columns fields)
named_next column columns field fields e = rw e refl

pub named_other : (column : Column) (columns : List Column) (field : List ℕ) (fields : List (List ℕ)) → pointwise nat_eq column.name field ≡ false
    → named_count (column ∷ columns) (field ∷ fields) ≡ 0
named_other column columns field fields e = rw e refl

pub named_short : (columns : List Column) (fields : List (List ℕ)) → fields ≡ [] → named_count columns fields ≡ 0
named_short [] fields e = refl
named_short (column ∷ columns) fields e = rw e refl

-- rows before rows, and before a fault
pub before_twice : (front rows : List (List Value)) (more : Reading) → rows_then front (rows_then rows more) ≡ rows_then (front ++ rows) more
before_twice front rows more = ap (λ (rs : List (List Value)). record { rows = rs; verdict = more.verdict }) (sym (append_assoc front rows more.rows))

pub before_fault : (front : List (List Value)) (why : Option MemberFault) → rows_then front (record { rows = []; verdict = why }) ≡ record { rows = front; verdict = why }
before_fault front why = ap (λ (rs : List (List Value)). record { rows = rs; verdict = why }) (append-nil front)

-- what one frame gave, and then what comes after it
then_is : (first : FrameRead) (later : List FrameRead) → reading_of (first ∷ later) ≡ read_then first (reading_of later)
then_is read.Header later = refl
then_is (read.Row row) later = refl
then_is (read.Bad why) later = refl

pub reads_step : (number : ℕ) (columns : List Column) (frame : Option (List ℕ)) (later : List (Option (List ℕ))) (ended : Bool) (first : FrameRead) → first ≡ frame_read columns number frame
    → read_frames number columns (frame ∷ later) ended ≡ read_then first (read_frames (number + 1) columns later ended)
reads_step number columns frame later ended first e =
    then_is (frame_read columns number frame) (frame_reads columns (number + 1) later ended) ∙ ap (λ (r : FrameRead). read_then r (read_frames (number + 1) columns later ended)) (sym e)

-- the first of the frames that are left, read
pub frame_read_on : (front : List (List Value)) (number : ℕ) (columns : List Column) (frame : List ℕ) (left after : List (Option (List ℕ))) (ended : Bool) (first : FrameRead)
    → left ≡ Some frame ∷ after
    → first ≡ frame_read columns number (Some frame)
    → rows_then front (read_frames number columns left ended) ≡ rows_then front (read_then first (read_frames (number + 1) columns after ended))
frame_read_on front number columns frame left after ended first e is =
    ap (λ (fs : List (Option (List ℕ))). rows_then front (read_frames number columns fs ended)) e ∙ ap (rows_then front) (reads_step number columns (Some frame) after ended first is)

each_more : (first : Result Value ℕ) (rest : Result (List Value) ℕ) (values : List Value) (n : ℕ) → (first >>= (λ x. with_front (x ∷ []) rest)) ≡ Ok values
    → ((later : List Value) → rest ≡ Ok later → length later ≡ n) → length values ≡ suc n
each_more (Ok x) (Ok later) values n e counted = let all : x ∷ later ≡ values = cc in omega (arith, ap length all, counted later refl)
each_more (Ok x) (Err at) values n e counted = cc
each_more (Err at) rest values n e counted = cc

-- as many values are read as there are to read
each_count : {A : Type 0} (f : ℕ → A → Result Value ℕ) (from : ℕ) (xs : List A) (values : List Value) → read_each f from xs ≡ Ok values → length values ≡ length xs
each_count f from [] values e = let none : [] ≡ values = cc in ap length (sym none)
each_count f from (x ∷ xs) values e = each_more (f from x) (read_each f (from + 1) xs) values (length xs) e (λ later is. each_count f (from + 1) xs later is)

row_is : (row found : List Value) → read.Row row ≡ read.Row found → row ≡ found
row_is row found e = cc

values_fill : (k : ℕ) (columns : List Column) (fields : List (List ℕ)) (read_values : Result (List Value) ℕ) (row : List Value) → values_of columns fields ≡ read_values → length fields ≡ length columns
    → values_read k read_values ≡ read.Row row → length row ≡ length columns
values_fill k columns fields (Ok found) row is same e =
    let count = each_count (λ position (pair : Column × List ℕ). or_at position (field_value pair.0 pair.1)) 0 (zip columns fields) found is in
    omega (arith, ap length (row_is found row e), count, length-zip columns fields, same)
values_fill k columns fields (Err column) row is same e = cc

-- a row has a value for each column
record_fills : (columns : List Column) (k : ℕ) (found : Option (List (List ℕ))) (row : List Value) → record_read columns k found ≡ read.Row row → length row ≡ length columns
record_fills columns k None row e = cc
record_fills columns k (Some fields) row e =
    elim (k == 0) as (λ x. (if x then (if is_header columns fields then read.Header else read.Bad (fault.Header (named_count columns fields)))
    else if length fields == length columns then values_read k (values_of columns fields) else read.Bad (fault.BadRecord k)) ≡ read.Row row → length row ≡ length columns) [
      | true ↦ elim (is_header columns fields) as (λ y. (if y then read.Header else read.Bad (fault.Header (named_count columns fields))) ≡ read.Row row → length row ≡ length columns) [ true ↦ λ no. cc | false ↦ λ no. cc ]
      | false ↦ elim (length fields == length columns) as (λ y. (length fields == length columns) ≡ y → (if y then values_read k (values_of columns fields) else read.Bad (fault.BadRecord k)) ≡ read.Row row → length row ≡ length columns) [
        | true ↦ λ same is. values_fill k columns fields (values_of columns fields) row refl (eqb-true (length fields) (length columns) same) is
        | false ↦ λ same no. cc
      ] refl
    ] e

frame_fills : (columns : List Column) (k : ℕ) (frame : Option (List ℕ)) (row : List Value) → frame_read columns k frame ≡ read.Row row → length row ≡ length columns
frame_fills columns k None row e = cc
frame_fills columns k (Some frame) row e = record_fills columns k (good_record frame) row e

row_before : (columns : List Column) (first : FrameRead) (later : List FrameRead) → ((row : List Value) → first ≡ read.Row row → length row ≡ length columns)
    → FillColumns columns (rows_before_fault later) → FillColumns columns (rows_before_fault (first ∷ later))
row_before columns read.Header later fills more = more
row_before columns (read.Row row) later fills more = (fills row refl, more)
row_before columns (read.Bad why) later fills more = tt

pub rows_fill : (columns : List Column) (k : ℕ) (left : List (Option (List ℕ))) (ended : Bool) → FillColumns columns (rows_before_fault (frame_reads columns k left ended))
rows_fill columns k [] true = elim (k == 0) as (λ (b : Bool). FillColumns columns (rows_before_fault (if b then read.Bad (fault.Header 0) ∷ [] else []))) [ true ↦ tt | false ↦ tt ]
rows_fill columns k [] false = tt
rows_fill columns k (frame ∷ left) ended = row_before columns (frame_read columns k frame) (frame_reads columns (k + 1) left ended) (frame_fills columns k frame) (rows_fill columns (k + 1) left ended)

pub fill_both : (columns : List Column) (front rows : List (List Value)) → FillColumns columns front → FillColumns columns rows → FillColumns columns (front ++ rows)
fill_both columns [] rows a b = b
fill_both columns (row ∷ front) rows a b = (a.0, fill_both columns front rows a.1 b)

-- what the record of the first frame that is left gave
pub record_put : (columns : List Column) (fields : List (List ℕ)) (left after : List (Option (List ℕ))) (old rows : List (List Value)) (number : ℕ) (first : FrameRead) (bad : Option MemberFault)
    → (frame : List ℕ) × (left ≡ Some frame ∷ after) × (good_record frame ≡ Some fields)
    → first ≡ record_read columns number (Some fields)
    → ((more : Reading) → rows_then old (read_then first more) ≡ rows_then rows (unless_bad bad more))
    → (later : List (Option (List ℕ))) (ended : Bool)
    → rows_then old (read_frames number columns (left ++ later) ended) ≡ rows_then rows (unless_bad bad (read_frames (number + 1) columns (after ++ later) ended))
record_put columns fields left after old rows number first bad found is put later ended =
    ap (λ (fs : List (Option (List ℕ))). rows_then old (read_frames number columns (fs ++ later) ended)) found.1
    ∙ ap (rows_then old) (reads_step number columns (Some found.0) (after ++ later) ended first (is ∙ ap (record_read columns number) (sym found.2)))
    ∙ put (read_frames (number + 1) columns (after ++ later) ended)

-- the first rows stay in front where more come behind
pub front_on : (first rows new : List (List Value)) → take (length first) rows ≡ first → take (length rows) new ≡ rows → take (length first) new ≡ first
front_on first rows new a b =
    let within : length first ≤ length rows = omega (arith, ap length a, length-take (length first) rows) in
    sym (take-take (length first) (length rows) new within) ∙ ap (take (length first)) b ∙ a
