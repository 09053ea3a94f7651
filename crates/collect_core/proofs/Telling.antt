-- What was accepted is what the sources tell.
use Rattle.std.proofs.Common.{◌≡◌, ℕ, ◌+◌, ◌≤◌, Bool, List, ◌++◌, length, take, Option, Some, None, IfSome, sym, ap, subst, ◌∙◌, arith, length-append}
use Rattle.std.proofs.Math.Seq.{take-append_seam}
use Rattle.std.proofs.lemmas.List.{take-take}
use Rattle.std.specs.List.{AllByRecursion}
use Rattle.std.specs.Prelude.{option_map, option_to_list}
use Rattle.med_base.specs.declared.names.MemberName.{MemberName}
use Rattle.med_base.specs.declared.outside.source.Source.{Ghosts as Source}
use Rattle.tuple_core.specs.declared.columns.Column.{Column}
use Rattle.tuple_core.specs.Values.{RowList}
use Rattle.csv_wrap.specs.Ahead.{FillColumns}
use Rattle.csv_wrap.specs.Sound.{taken_rows}
use Rattle.collect_core.specs.Members.{AreTold, AreWithin, HasAccepted, IsMember, IsTold, Member, MemberAccepted}
use Rattle.collect_core.specs.Reading.{Reader, most_rows}
use Rattle.collect_core.proofs.Places.{zip_from, zip_right}

-- the first rows, without those behind them
taken_front : (all rows behind : RowList) (n accepted : ℕ) → n ≡ accepted + length behind → n ≡ length (rows ++ behind) → take n all ≡ rows ++ behind → take accepted all ≡ rows
taken_front all rows behind n accepted counted given is =
    let count : accepted ≡ length rows = omega (arith, length-append rows behind) in
    let less : accepted ≤ n = omega arith in
    sym (take-take accepted n all less) ∙ ap (take accepted) is ∙ ap (λ k. take k (rows ++ behind)) count ∙ take-append_seam rows behind

told_front : (columns others : List Column) (taken whole : Option (List ℕ)) (rows behind : RowList) (n accepted : ℕ) → others ≡ columns → n ≡ accepted + length behind → n ≡ length (rows ++ behind)
    → IfSome (option_map (λ bytes. take n (taken_rows others whole bytes)) taken) (λ told. told ≡ rows ++ behind)
    → IfSome (option_map (λ bytes. take accepted (taken_rows columns whole bytes)) taken) (λ told. told ≡ rows)
told_front columns others None whole rows behind n accepted same counted given is = tt
told_front columns others (Some bytes) whole rows behind n accepted same counted given is =
    ap (λ cs. take accepted (taken_rows cs whole bytes)) (sym same) ∙ taken_front (taken_rows others whole bytes) rows behind n accepted counted given is

told_with : {S M : Type 0} (source : Source S M) (columns : List Column) (name : MemberName) (location : List ℕ) (failed : Bool) (reader : Option (Reader S)) (rows : RowList)
    → IsMember source columns (record { name = name; location = location; opening_failed = failed; reader = reader })
    → MemberAccepted source (record { name = name; location = location; opening_failed = failed; reader = reader }) rows
    → IsTold source columns (record { name = name; location = location; opening_failed = failed; reader = reader }) rows
told_with source columns name location failed None rows is h = sym h
told_with source columns name location failed (Some r) rows is h =
    told_front columns r.wrapper.ahead.columns (source.taken r.wrapper.source) (source.whole r.wrapper.source) rows (option_to_list r.waiting) r.wrapper.accepted r.accepted is.1 is.0.counted h.1.0
    (is.0.told (rows ++ option_to_list r.waiting) h.1)

pub are_told : {S M : Type 0} (source : Source S M) (columns : List Column) (members : List (Member S)) (accepted : List RowList) → AllByRecursion (IsMember source columns) members
    → HasAccepted source members accepted → AreTold source columns members accepted
are_told source columns members accepted are has =
    zip_from (IsMember source columns) (MemberAccepted source) (IsTold source columns) (λ m rows is h. told_with source columns m.name m.location m.opening_failed m.reader rows is h) members accepted are has

within_with : {S M : Type 0} (source : Source S M) (columns : List Column) (name : MemberName) (location : List ℕ) (failed : Bool) (reader : Option (Reader S)) (rows : RowList)
    → IsMember source columns (record { name = name; location = location; opening_failed = failed; reader = reader })
    → MemberAccepted source (record { name = name; location = location; opening_failed = failed; reader = reader }) rows
    → FillColumns columns rows × (length rows ≤ most_rows)
within_with source columns name location failed None rows is h = subst (λ rs. FillColumns columns rs × (length rs ≤ most_rows)) (sym h) (tt, omega arith)
within_with source columns name location failed (Some r) rows is h =
    (subst (λ cs. FillColumns cs rows) is.1 h.0, omega (arith, h.1.0, is.0.few, length-append rows (option_to_list r.waiting)))

pub are_within : {S M : Type 0} (source : Source S M) (columns : List Column) (members : List (Member S)) (accepted : List RowList) → AllByRecursion (IsMember source columns) members
    → HasAccepted source members accepted → AreWithin columns accepted
are_within source columns members accepted are has =
    zip_right (IsMember source columns) (MemberAccepted source) (λ rows. FillColumns columns rows × (length rows ≤ most_rows))
    (λ m rows is h. within_with source columns m.name m.location m.opening_failed m.reader rows is h) members accepted are has
