-- What lies in told content is what is read of it.
use Rattle.std.proofs.Common.{◌≡◌, ℕ, ◌+◌, ◌≤◌, List, ◌∷◌, ◌++◌, length, take, drop, None, refl, sym, ap, ◌∙◌, arith, append_assoc, length-append}
use Rattle.std.proofs.lemmas.List.{take_at, drop_at, drop-append-le, drop-drop, take-append-drop, take-take}
use Rattle.std.proofs.lemmas.Option.{none-some, same_Some}
use Rattle.med_prelude.specs.Texts.{Bytes}
use Rattle.spill_blocks.specs.Blocks.{entries_encoding, entry_encoding}
use Rattle.spill_blocks.specs.Reading.{BeginsWith, LieAt, entries_in, entry_and_rest}
use Rattle.spill_blocks.specs.declared.entries.Kept.{Kept}
use Rattle.spill_blocks.specs.declared.form.EntryForm.{EntryForm}
use Rattle.spill_blocks.proofs.ReadLaws.{entries_back, entry_back}

-- they are what is read there
pub lie_reads : (form : EntryForm) (width end : ℕ) (content : Bytes) (at : ℕ) (es : List Kept) → LieAt form width end content at es → entries_in form width (length es) (drop at content) ≡ es
lie_reads form width end content at es lie = ap (entries_in form width (length es)) lie.are ∙ entries_back form width es (drop (at + length (entries_encoding form es)) content) lie.each

-- content that grows keeps what lies in it
pub lie_grows : (form : EntryForm) (width end later : ℕ) (content more : Bytes) (at : ℕ) (es : List Kept) → end ≤ length content → end ≤ later → LieAt form width end content at es → LieAt form width later (content ++ more) at es
lie_grows form width end later content more at es reached up lie =
    let long = length (entries_encoding form es) in
    let begins : at ≤ length content = omega (arith, lie.inside) in
    let ends : at + long ≤ length content = omega (arith, lie.inside) in
    record {
      inside = omega (arith, lie.inside);
      are =
          drop-append-le at content more begins
          ∙ ap (λ bs. bs ++ more) lie.are
          ∙ append_assoc (entries_encoding form es) (drop (at + long) content) more
          ∙ ap (λ bs. entries_encoding form es ++ bs) (sym (drop-append-le (at + long) content more ends));
      each = lie.each;
    }

-- behind the first entry lie the others
pub lie_on : (form : EntryForm) (width end : ℕ) (content : Bytes) (at : ℕ) (e : Kept) (es : List Kept) → LieAt form width end content at (e ∷ es) → LieAt form width end content (at + length (entry_encoding form e)) es
lie_on form width end content at e es lie =
    let first = entry_encoding form e in
    let others = entries_encoding form es in
    let both : length (first ++ others) ≡ length first + length others = length-append first others in
    let last : at + length (first ++ others) ≡ at + length first + length others = omega (arith, both) in
    record {
      inside = omega (arith, lie.inside, both);
      are =
          sym (drop-drop (length first) at content)
          ∙ ap (drop (length first)) lie.are
          ∙ ap (drop (length first)) (append_assoc first others (drop (at + length (first ++ others)) content))
          ∙ drop_at first (others ++ drop (at + length (first ++ others)) content) (length first) refl
          ∙ ap (λ n. others ++ drop n content) last;
      each = lie.each.1;
    }

-- the bytes behind an offset, from what is held of them on
held_rest : (held whole : Bytes) → held ≡ take (length held) whole → whole ≡ held ++ drop (length held) whole
held_rest held whole are = sym (take-append-drop (length held) whole) ∙ ap (λ bs. bs ++ drop (length held) whole) (sym are)

-- the entry that is read of what is held is the one that lies there
pub record IsTheFirst (form : EntryForm) (held : Bytes) (x : Kept × Bytes) (e : Kept) : Type 0 where
  pub same : x.0 ≡ e
  pub long : length held ≡ length (entry_encoding form e) + length x.1

pub first_found : (form : EntryForm) (width end : ℕ) (content : Bytes) (at : ℕ) (e : Kept) (es : List Kept) (held : Bytes) (x : Kept × Bytes) → LieAt form width end content at (e ∷ es)
    → held ≡ take (length held) (drop at content) → BeginsWith form width held x.0 x.1 → IsTheFirst form held x e
first_found form width end content at e es held x lie are parts =
    let tail = drop (length held) (drop at content) in
    let whole : drop at content ≡ entry_encoding form x.0 ++ (x.1 ++ tail) = held_rest held (drop at content) are ∙ ap (λ bs. bs ++ tail) parts.whole ∙ append_assoc (entry_encoding form x.0) x.1 tail in
    let other : drop at content ≡ entry_encoding form e ++ (entries_encoding form es ++ drop (at + length (entries_encoding form (e ∷ es))) content) =
    lie.are ∙ append_assoc (entry_encoding form e) (entries_encoding form es) (drop (at + length (entries_encoding form (e ∷ es))) content) in
    let one = sym (entry_back form width x.0 (x.1 ++ tail) parts.entry) ∙ ap (entry_and_rest form width) (sym whole ∙ other) ∙ entry_back form width e _ lie.each.0 in
    let same : x.0 ≡ e = ap (λ (y : Kept × Bytes). y.0) (same_Some _ _ one) in
    record {
      same = same;
      long = ap length parts.whole ∙ length-append (entry_encoding form x.0) x.1 ∙ ap (λ kept. length (entry_encoding form kept) + length x.1) same;
    }

-- where all up to the end is held, the entry that lies there is read
pub first_there : (form : EntryForm) (width end : ℕ) (content : Bytes) (at : ℕ) (e : Kept) (es : List Kept) (held : Bytes) → LieAt form width end content at (e ∷ es)
    → held ≡ take (length held) (drop at content) → at + length held ≡ end → None ≡ entry_and_rest form width held → ⊥
first_there form width end content at e es held lie are all none =
    let first = entry_encoding form e in
    let others = entries_encoding form es in
    let both : length (first ++ others) ≡ length first + length others = length-append first others in
    let within : length first ≤ length held = omega (arith, lie.inside, both) in
    let other : drop at content ≡ first ++ (others ++ drop (at + length (first ++ others)) content) = lie.are ∙ append_assoc first others (drop (at + length (first ++ others)) content) in
    let rest = others ++ drop (at + length (first ++ others)) content in
    let begins : held ≡ first ++ drop (length first) held =
    sym (take-append-drop (length first) held)
    ∙ ap (λ bs. bs ++ drop (length first) held) (ap (take (length first)) (are ∙ ap (take (length held)) other) ∙ front_of first rest (length held) within) in
    none-some _ (none ∙ ap (entry_and_rest form width) begins ∙ entry_back form width e (drop (length first) held) lie.each.0)
  where
    front_of : (first rest : Bytes) (n : ℕ) → length first ≤ n → take (length first) (take n (first ++ rest)) ≡ first
    front_of first rest n within = take-take (length first) n (first ++ rest) within ∙ take_at first rest (length first) refl
