-- The bytes of a key are written value by value.
use Rattle.std.proofs.Common.{◌≡◌, ℕ, ◌+◌, ◌<◌, List, [], ◌∷◌, ◌++◌, length, take, get_or, Option, sym, ap, ◌∙◌}
use Rattle.std.specs.List.{cons_option, filter_map, flat_map}
use Rattle.std.proofs.lemmas.List.{take_more}
use Rattle.std.proofs.lemmas.List.Elements.{filter_map-append}
use Rattle.std.proofs.lemmas.Grind.{flat_map-append}

-- what is made of one item more, where nothing is made of some
pub made_more : {X Y Z : Type 0} (f : Y → List Z) (h : X → Option Y) (xs : List X) (i : ℕ) (d : X) → i < length xs
    → flat_map f (filter_map h (take i xs)) ++ flat_map f (cons_option (h (get_or xs i d)) []) ≡ flat_map f (filter_map h (take (i + 1) xs))
made_more f h xs i d l =
    sym (flat_map-append f (filter_map h (take i xs)) (cons_option (h (get_or xs i d)) []))
    ∙ ap (flat_map f) (sym (rw (take_more xs i d l) (filter_map-append h (take i xs) (get_or xs i d ∷ []))))
