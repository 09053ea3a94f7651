-- The first bytes of a text that is known.
use Rattle.std.proofs.Common.{◌≡◌, ℕ, List, [], ◌++◌, take, ap, subst, ◌∙◌, arith}
use Rattle.std.specs.Prelude.{Option, Some, None, IfSome}
use Rattle.std.specs.Option.{option_map}
use Rattle.std.proofs.lemmas.List.{take-take}

-- all that a text's first bytes gave, cut once more, are its first bytes
cut_firsts : (n : ℕ) (known : Option (List ℕ)) (read cut : List ℕ) → IfSome (option_map (take n) known) (λ xs. read ≡ [] ++ xs) → cut ≡ take n read → IfSome known (λ text. cut ≡ take n text)
cut_firsts n None read cut all e = tt
cut_firsts n (Some text) read cut all e = e ∙ ap (take n) all ∙ take-take n n text (omega arith)

-- the same of a reader with a limit, and of what it appended to nothing
pub known_firsts : {F : Type 0} → (remaining : F → Option (List ℕ)) (n limit : ℕ) (reader inner : F) (start read cut : List ℕ) → IfSome (option_map (take limit) (remaining inner)) (λ xs. read ≡ start ++ xs) → start ≡ [] → limit ≡ n → inner ≡ reader → cut ≡ take n read → IfSome (remaining reader) (λ text. cut ≡ take n text)
known_firsts {F = F} remaining n limit reader inner start read cut all none same_limit same_reader e =
    let from_start : List ℕ → Type 0 = λ s. IfSome (option_map (take limit) (remaining inner)) (λ xs. read ≡ s ++ xs) in
    let by_limit : ℕ → Type 0 = λ l. IfSome (option_map (take l) (remaining inner)) (λ xs. read ≡ [] ++ xs) in
    let by_reader : F → Type 0 = λ r. IfSome (option_map (take n) (remaining r)) (λ xs. read ≡ [] ++ xs) in
    cut_firsts n (remaining reader) read cut (subst by_reader same_reader (subst by_limit same_limit (subst from_start none all))) e
