-- What a reader answers, beside what its definition gives: a value, or where the text is broken.
use Rattle.std.specs.Prelude.{◌≡◌, ⊤, ℕ, ◌+◌, List, [], ◌∷◌, ◌++◌, Option, Some, None, Result, Ok, Err}
use Rattle.med_prelude.specs.declared.reading.ReadFault.{ReadFault}
use Rattle.med_prelude.specs.declared.reading.ReadFault.TheVariants.{Broken, NoMemory}

-- the fault tells where the reading is broken, or that memory ran out
abbrev pub Tells : {X P : Type 0} → ReadFault P → Result X P → Type 0
Tells (Broken at) reading = reading ≡ Err at
Tells NoMemory reading = ⊤

-- the answer is what the definition gives, unless memory ran out
abbrev pub Gives : {X P : Type 0} → Result X (ReadFault P) → Result X P → Type 0
Gives (Ok x) reading = reading ≡ Ok x
Gives (Err fault) reading = Tells fault reading

-- the value, or where it is missing
abbrev pub or_at : {X P : Type 0} → P → Option X → Result X P
or_at at None = Err at
or_at at (Some x) = Ok x

-- a value and what is read after it
infixl 10 ◌>>=◌
abbrev pub ◌>>=◌ : {X Y P : Type 0} → Result X P → (X → Result Y P) → Result Y P
(Ok x) >>= f = f x
(Err at) >>= f = Err at

-- the values with others in front of them
abbrev pub with_front : {X P : Type 0} → List X → Result (List X) P → Result (List X) P
with_front front (Ok xs) = Ok (front ++ xs)
with_front front (Err at) = Err at

-- each of a list is read, numbered from a number on; the first that can't be read tells where it is broken
abbrev pub read_each : {A X P : Type 0} → (ℕ → A → Result X P) → ℕ → List A → Result (List X) P
read_each read number [] = Ok []
read_each read number (a ∷ more) = read number a >>= λ x. with_front (x ∷ []) (read_each read (number + 1) more)
