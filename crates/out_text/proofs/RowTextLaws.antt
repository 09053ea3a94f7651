-- The text of rows, row by row.
use Rattle.std.proofs.Common.{◌≡◌, ℕ, ◌+◌, ◌==◌, ◌<◌, ◌≤◌, Some, true, List, [], ◌∷◌, ◌++◌, length, map, take, drop, get_or, sym, ap, ◌∙◌, refl, append_assoc, append-nil, if◌then◌else◌}
use Rattle.std.proofs.lemmas.List.{take_more, take-append-drop}
use Rattle.std.proofs.lemmas.Grind.{flat_map-append}
use Rattle.csv.specs.Writing.{default_writer, escaped, fields_text, field_text, is_blank, needs_quotes, row_body, row_text, with_flexible}
use Rattle.csv.specs.declared.writer.WriterBuilder.{WriterBuilder}
use Rattle.tuple_core.specs.RowText.{line_of, rows_text}
use Rattle.tuple_core.specs.Values.{RowList, RowValues, value_text}

-- a writer that takes records of different lengths
abbrev pub flexible_writer : WriterBuilder
flexible_writer = with_flexible default_writer true

escaped_alike : (field : List ℕ) → escaped flexible_writer field ≡ escaped default_writer field
unfolding escaped
escaped_alike [] = refl
escaped_alike (b ∷ rest) = ap (λ more. if b == 34 then 34 ∷ b ∷ more else b ∷ more) (escaped_alike rest)

field_alike : (field : List ℕ) → field_text flexible_writer field ≡ field_text default_writer field
field_alike field = ap (λ inside. if needs_quotes default_writer field then 34 ∷ (inside ++ 34 ∷ []) else field) (escaped_alike field)

fields_alike : (fields : List (List ℕ)) → fields_text flexible_writer fields ≡ fields_text default_writer fields
unfolding fields_text
fields_alike [] = refl
fields_alike (field ∷ rest) = rw (field_alike field, fields_alike rest) refl

body_alike : (fields : List (List ℕ)) → row_body flexible_writer fields ≡ row_body default_writer fields
body_alike [] = refl
body_alike (field ∷ rest) = rw (field_alike field, fields_alike rest) refl

blank_alike : (fields : List (List ℕ)) → is_blank flexible_writer fields ≡ is_blank default_writer fields
unfolding is_blank
blank_alike [] = refl
blank_alike (field ∷ []) = ap (λ text. length text == 0) (field_alike field)
blank_alike (field ∷ next ∷ rest) = refl

-- it writes the same text
row_alike : (fields : List (List ℕ)) → row_text flexible_writer fields ≡ row_text default_writer fields
row_alike fields = rw (body_alike fields, blank_alike fields) refl

-- the text of a row's fields is its line
pub line_alike : (line : List ℕ) (fields : List (List ℕ)) (row : RowValues) → line ≡ row_text flexible_writer fields → fields ≡ map value_text row → line ≡ line_of row
line_alike line fields row is filled = is ∙ row_alike fields ∙ ap (row_text default_writer) filled

-- one more row puts its line at the end
rows_text_more : (rows : RowList) (row : RowValues) → rows_text (rows ++ row ∷ []) ≡ rows_text rows ++ line_of row
rows_text_more [] row = append-nil (line_of row)
rows_text_more (first ∷ rows) row = ap (λ text. line_of first ++ text) (rows_text_more rows row) ∙ sym (append_assoc (line_of first) (rows_text rows) (line_of row))

pub rows_text_next : (rows : RowList) (i : ℕ) (row : RowValues) → i < length rows → row ≡ get_or rows i row → rows_text (take (i + 1) rows) ≡ rows_text (take i rows) ++ line_of row
rows_text_next rows i row within is = ap rows_text (take_more rows i row within ∙ ap (λ r. take i rows ++ r ∷ []) (sym is)) ∙ rows_text_more (take i rows) row

same_bytes : (a b : List ℕ) → Some a ≡ Some b → a ≡ b
same_bytes a b e = cc

-- the text so far, behind that of earlier rows, and the line of the row at hand
pub row_appended : (front old new line : List ℕ) (rows : RowList) (i : ℕ) (row : RowValues)
    → Some (front ++ old) ≡ Some (rows_text (take i rows)) → new ≡ old ++ line → line ≡ line_of row → i < length rows → row ≡ get_or rows i row
    → Some (front ++ new) ≡ Some (rows_text (take (i + 1) rows))
row_appended front old new line rows i row so_far grew is_line within is =
    ap Some (ap (λ text. front ++ text) grew ∙ sym (append_assoc front old line) ∙ ap (λ text. text ++ line) (same_bytes _ _ so_far) ∙ ap (λ more. rows_text (take i rows) ++ more) is_line ∙ sym (rows_text_next rows i row within is))

pub all_appended : (front old text : List ℕ) (rows : RowList) (i : ℕ)
    → Some (front ++ old) ≡ Some (rows_text (take i rows)) → text ≡ old → front ++ text ≡ rows_text (take i rows)
all_appended front old text rows i so_far is = ap (λ more. front ++ more) is ∙ same_bytes _ _ so_far

-- the rows from an index on are behind those up to it
pub rows_text_split : (rows : RowList) (i : ℕ) → rows_text rows ≡ rows_text (take i rows) ++ rows_text (drop i rows)
rows_text_split rows i = ap rows_text (sym (take-append-drop i rows)) ∙ flat_map-append line_of (take i rows) (drop i rows)
