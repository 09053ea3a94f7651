-- The values of a row are read one after another.
use Rattle.std.proofs.Common.{◌≡◌, ℕ, suc, ◌+◌, ◌-◌, ◌<◌, List, [], ◌∷◌, ◌++◌, Option, Some, None, refl, sym, ap, ◌∙◌, arith, append_assoc, append-nil}
use Rattle.tuple_core.specs.Decoding.{RefusesReading, value_and_rest, values_and_rest, ◌>>=◌}
use Rattle.tuple_core.specs.declared.decoding.Unread.{Unread}
use Rattle.tuple_core.specs.declared.decoding.Unread.TheVariants as unread
use Rattle.tuple_core.specs.declared.value.Value.{Value}

-- values that were read, and then more
abbrev pub after_front : List Value → Option (List Value × List ℕ) → Option (List Value × List ℕ)
after_front front None = None
after_front front (Some x) = Some (front ++ x.0, x.1)

abbrev then_more : Option (Value × List ℕ) → ℕ → Option (List Value × List ℕ)
then_more first count = first >>= λ v. values_and_rest count v.1 >>= λ more. Some (v.0 ∷ more.0, more.1)

values_and_rest-next : (count i : ℕ) (bytes : List ℕ) → i < count → values_and_rest (count - i) bytes ≡ then_more (value_and_rest bytes) (count - (i + 1))
unfolding values_and_rest
values_and_rest-next count i bytes inside = let e : count - i ≡ suc (count - (i + 1)) = omega arith in rw e refl

after_front-next : (front : List Value) (v : Value) (o : Option (List Value × List ℕ))
    → after_front front (o >>= λ more. Some (v ∷ more.0, more.1)) ≡ after_front (front ++ v ∷ []) o
after_front-next front v None = refl
after_front-next front v (Some x) = ap (λ row. Some (row, x.1)) (sym (append_assoc front (v ∷ []) x.0))

-- one more value is read
pub reads_one : (count i : ℕ) (front : List Value) (bytes after : List ℕ) (v : Value) → i < count
    → Some (v, after) ≡ value_and_rest bytes
    → after_front front (values_and_rest (count - i) bytes) ≡ after_front (front ++ v ∷ []) (values_and_rest (count - (i + 1)) after)
reads_one count i front bytes after v inside e =
    ap (after_front front) (values_and_rest-next count i bytes inside ∙ ap (λ o. then_more o (count - (i + 1))) (sym e))
    ∙ after_front-next front v (values_and_rest (count - (i + 1)) after)

-- there is no further value
pub reads_none : (count i : ℕ) (front : List Value) (bytes : List ℕ) → i < count
    → None ≡ value_and_rest bytes → after_front front (values_and_rest (count - i) bytes) ≡ None
reads_none count i front bytes inside e =
    ap (after_front front) (values_and_rest-next count i bytes inside ∙ ap (λ o. then_more o (count - (i + 1))) (sym e))

-- all were read
pub reads_all : (front : List Value) (bytes : List ℕ) → after_front front (values_and_rest 0 bytes) ≡ Some (front, bytes)
unfolding values_and_rest
reads_all front bytes = ap (λ row. Some (row, bytes)) (append-nil front)

-- a refusal of a part is one of the whole, where the whole can't be read without the part
pub passes_on : {X Y : Type 0} (e : Unread) (part : Option X) (whole : Option Y) → RefusesReading e part → (None ≡ part → None ≡ whole) → RefusesReading e whole
passes_on unread.Bad part whole h needs = needs h
passes_on unread.NoMemory part whole h needs = tt
