-- Parts of a list.
use Rattle.std.proofs.Common.{◌≡◌, ℕ, ◌+◌, ◌≤◌, List, ◌++◌, length, take, drop, sym, ap, ◌∙◌, arith}
use Rattle.std.proofs.lemmas.List.{take-append-drop, take-take, take_at, drop-take}

-- the first of a list, and then as many more
pub take_seam : (a b : ℕ) (xs : List ℕ) → take (a + b) xs ≡ take a xs ++ take b (drop a xs)
take_seam a b xs =
    let within : a ≤ a + b = omega arith in
    rw (← take-take a (a + b) xs within, ← drop-take a b xs) (sym (take-append-drop a (take (a + b) xs)))

-- a piece that was copied from offset a on stands in front of the room
pub take_copied : (a n : ℕ) (xs piece room : List ℕ) → piece ≡ take n (drop a xs) → length piece ≡ n → take (a + n) xs ≡ take a xs ++ take n (piece ++ room)
take_copied a n xs piece room copied long =
    take_seam a n xs ∙ ap (λ more. take a xs ++ more) (sym copied ∙ sym (take_at piece room n long))

-- such a piece alone
pub take_filled : (a n : ℕ) (xs piece room : List ℕ) → piece ≡ take n (drop a xs) → length piece ≡ n → take n (piece ++ room) ≡ take n (drop a xs)
take_filled a n xs piece room copied long = take_at piece room n long ∙ copied
