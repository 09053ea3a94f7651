-- What a state of the machine has read, and that each step reads its token.
use Rattle.std.proofs.Common.{◌≡◌, List, [], ◌∷◌, ◌++◌, Option, Some, None, append_assoc, append-nil, refl, sym, ap, ◌∙◌}
use Rattle.std.specs.List.{AllByRecursion}
use Rattle.query_syntax.specs.Grammar.{IsFull, IsPart, IsQuery, comma_items, comma_list, part_tokens, query_tokens, term_tokens, word_tokens}
use Rattle.query_syntax.specs.Machine.{comparison_part, constant_term, step, variable_term, with_part}
use Rattle.query_syntax.specs.declared.machine.Body.{Body}
use Rattle.query_syntax.specs.declared.machine.Head.{Head}
use Rattle.query_syntax.specs.declared.machine.State.{State}
use Rattle.query_syntax.specs.declared.machine.State.TheVariants.{Start, Named, HeadStart, HeadEnd, HeadClosed, PartStart, PartNamed, TermStart, TermEnd, Compared, PartEnd, Done}
use Rattle.query_syntax.specs.declared.syntax.Part.{Part}
use Rattle.query_syntax.specs.declared.syntax.Part.TheVariants.{Atom}
use Rattle.query_syntax.specs.declared.token.Token.{Token}
use Rattle.query_syntax.specs.declared.token.Token.TheVariants.{Name, Constant, Compares, Open, Close, Comma, If, Stop}

-- an item and a comma, for each item
abbrev pub each_comma : {X : Type 0} → (X → List Token) → List X → List Token
each_comma f [] = []
each_comma f (x ∷ xs) = f x ++ (Comma ∷ each_comma f xs)

-- all up to and with `:-`
abbrev pub header : Head → List Token
header h = Name h.name ∷ Open ∷ (comma_list word_tokens h.variables ++ (Close ∷ If ∷ []))

-- the tokens that were read
abbrev pub spelled : State → List Token
spelled Start = []
spelled (Named n) = Name n ∷ []
spelled (HeadStart h) = Name h.name ∷ Open ∷ each_comma word_tokens h.variables
spelled (HeadEnd h) = Name h.name ∷ Open ∷ comma_list word_tokens h.variables
spelled (HeadClosed h) = Name h.name ∷ Open ∷ (comma_list word_tokens h.variables ++ Close ∷ [])
spelled (PartStart b) = header b.head ++ each_comma part_tokens b.parts
spelled (PartNamed b w) = header b.head ++ (each_comma part_tokens b.parts ++ (Name w ∷ []))
spelled (TermStart b a) = header b.head ++ (each_comma part_tokens b.parts ++ (Name a.relation ∷ Open ∷ each_comma term_tokens a.terms))
spelled (TermEnd b a) = header b.head ++ (each_comma part_tokens b.parts ++ (Name a.relation ∷ Open ∷ comma_list term_tokens a.terms))
spelled (Compared b w o) = header b.head ++ (each_comma part_tokens b.parts ++ (Name w ∷ Compares o ∷ []))
spelled (PartEnd b) = header b.head ++ comma_list part_tokens b.parts
spelled (Done q) = query_tokens q

-- the lists that were closed are not empty
pub record IsBody (b : Body) : Type 0 where
  pub head : IsFull b.head.variables
  pub each : AllByRecursion IsPart b.parts

abbrev pub IsSound : State → Type 0
IsSound Start = Unit {0}
IsSound (Named n) = Unit {0}
IsSound (HeadStart h) = Unit {0}
IsSound (HeadEnd h) = IsFull h.variables
IsSound (HeadClosed h) = IsFull h.variables
IsSound (PartStart b) = IsBody b
IsSound (PartNamed b w) = IsBody b
IsSound (TermStart b a) = IsBody b
IsSound (TermEnd b a) = IsBody b × IsFull a.terms
IsSound (Compared b w o) = IsBody b
IsSound (PartEnd b) = IsBody b × IsFull b.parts
IsSound (Done q) = IsQuery q

-- one item more

pub full_push : {X : Type 0} (xs : List X) (x : X) → IsFull (xs ++ x ∷ [])
full_push [] x = tt
full_push (y ∷ xs) x = tt

pub all_push : (ps : List Part) (p : Part) → AllByRecursion IsPart ps → IsPart p → AllByRecursion IsPart (ps ++ p ∷ [])
all_push [] p all last = (last, tt)
all_push (q ∷ ps) p all last = (all.0, all_push ps p all.1 last)

more_push : {X : Type 0} (f : X → List Token) (xs : List X) (x : X) → comma_items f (xs ++ x ∷ []) ≡ (Comma ∷ each_comma f xs) ++ f x
more_push f [] x = ap (λ ts. Comma ∷ ts) (append-nil (f x))
more_push f (y ∷ xs) x = ap (λ ts. Comma ∷ ts) (ap (λ ts. f y ++ ts) (more_push f xs x) ∙ sym (append_assoc (f y) (Comma ∷ each_comma f xs) (f x)))

pub comma_list_push : {X : Type 0} (f : X → List Token) (xs : List X) (x : X) → comma_list f (xs ++ x ∷ []) ≡ each_comma f xs ++ f x
comma_list_push f [] x = append-nil (f x)
comma_list_push f (y ∷ xs) x = ap (λ ts. f y ++ ts) (more_push f xs x) ∙ sym (append_assoc (f y) (Comma ∷ each_comma f xs) (f x))

more_comma : {X : Type 0} (f : X → List Token) (xs : List X) → Comma ∷ each_comma f xs ≡ comma_items f xs ++ Comma ∷ []
more_comma f [] = refl
more_comma f (x ∷ xs) = ap (λ ts. Comma ∷ ts) (ap (λ ts. f x ++ ts) (more_comma f xs) ∙ sym (append_assoc (f x) (comma_items f xs) (Comma ∷ [])))

pub comma_list_comma : {X : Type 0} (f : X → List Token) (xs : List X) → IsFull xs → each_comma f xs ≡ comma_list f xs ++ Comma ∷ []
comma_list_comma f [] full = absurd full
comma_list_comma f (x ∷ xs) full = ap (λ ts. f x ++ ts) (more_comma f xs) ∙ sym (append_assoc (f x) (comma_items f xs) (Comma ∷ []))

-- behind two tokens of a part
deep : (front parts inner last : List Token) (t u : Token) → front ++ (parts ++ (t ∷ u ∷ (inner ++ last))) ≡ (front ++ (parts ++ (t ∷ u ∷ inner))) ++ last
deep front parts inner last t u = ap (λ ts. front ++ ts) (sym (append_assoc parts (t ∷ u ∷ inner) last)) ∙ sym (append_assoc front (parts ++ (t ∷ u ∷ inner)) last)

shallow : (front parts inner last : List Token) → front ++ (parts ++ (inner ++ last)) ≡ (front ++ (parts ++ inner)) ++ last
shallow front parts inner last = ap (λ ts. front ++ ts) (sym (append_assoc parts inner last)) ∙ sym (append_assoc front (parts ++ inner) last)

-- what a step keeps
abbrev pub Keeps : State → Token → Option State → Type 0
Keeps s t None = Unit {0}
Keeps s t (Some next) = IsSound next × (spelled next ≡ spelled s ++ t ∷ [])

body_push : (b : Body) (p : Part) → IsBody b → IsPart p → IsSound (PartEnd (with_part b p))
body_push b p h last = (record { head = h.head; each = all_push b.parts p h.each last }, full_push b.parts p)

pub keeps : (s : State) (t : Token) → IsSound s → Keeps s t (step s t)
keeps Start (Name n) h = (tt, refl)
keeps (Named n) Open h = (tt, refl)
keeps (HeadStart q) (Name v) h = (full_push q.variables v, ap (λ ts. Name q.name ∷ Open ∷ ts) (comma_list_push word_tokens q.variables v))
keeps (HeadEnd q) Comma h = (tt, ap (λ ts. Name q.name ∷ Open ∷ ts) (comma_list_comma word_tokens q.variables h))
keeps (HeadEnd q) Close h = (h, refl)
keeps (HeadClosed q) If h =
    (record { head = h; each = tt }, append-nil (header q) ∙ ap (λ ts. Name q.name ∷ Open ∷ ts) (sym (append_assoc (comma_list word_tokens q.variables) (Close ∷ []) (If ∷ []))))
keeps (PartStart b) (Name w) h = (h, sym (append_assoc (header b.head) (each_comma part_tokens b.parts) (Name w ∷ [])))
keeps (PartNamed b w) Open h = (h, shallow (header b.head) (each_comma part_tokens b.parts) (Name w ∷ []) (Open ∷ []))
keeps (PartNamed b w) (Compares o) h = (h, shallow (header b.head) (each_comma part_tokens b.parts) (Name w ∷ []) (Compares o ∷ []))
keeps (TermStart b a) (Name v) h = (
  (h, full_push a.terms (variable_term v)),
  ap (λ ts. header b.head ++ (each_comma part_tokens b.parts ++ (Name a.relation ∷ Open ∷ ts))) (comma_list_push term_tokens a.terms (variable_term v))
      ∙ deep (header b.head) (each_comma part_tokens b.parts) (each_comma term_tokens a.terms) (Name v ∷ []) (Name a.relation) Open,
)
keeps (TermStart b a) (Constant v at) h = (
  (h, full_push a.terms (constant_term v at)),
  ap (λ ts. header b.head ++ (each_comma part_tokens b.parts ++ (Name a.relation ∷ Open ∷ ts))) (comma_list_push term_tokens a.terms (constant_term v at))
      ∙ deep (header b.head) (each_comma part_tokens b.parts) (each_comma term_tokens a.terms) (Constant v at ∷ []) (Name a.relation) Open,
)
keeps (TermEnd b a) Comma h = (
  h.0,
  ap (λ ts. header b.head ++ (each_comma part_tokens b.parts ++ (Name a.relation ∷ Open ∷ ts))) (comma_list_comma term_tokens a.terms h.1)
      ∙ deep (header b.head) (each_comma part_tokens b.parts) (comma_list term_tokens a.terms) (Comma ∷ []) (Name a.relation) Open,
)
keeps (TermEnd b a) Close h = (
  body_push b (Atom a) h.0 h.1,
  ap (λ ts. header b.head ++ ts) (comma_list_push part_tokens b.parts (Atom a))
      ∙ deep (header b.head) (each_comma part_tokens b.parts) (comma_list term_tokens a.terms) (Close ∷ []) (Name a.relation) Open,
)
keeps (Compared b w o) (Name v) h = (
  body_push b (comparison_part w o (variable_term v)) h tt,
  ap (λ ts. header b.head ++ ts) (comma_list_push part_tokens b.parts (comparison_part w o (variable_term v)))
      ∙ deep (header b.head) (each_comma part_tokens b.parts) [] (Name v ∷ []) (Name w) (Compares o),
)
keeps (Compared b w o) (Constant v at) h = (
  body_push b (comparison_part w o (constant_term v at)) h tt,
  ap (λ ts. header b.head ++ ts) (comma_list_push part_tokens b.parts (comparison_part w o (constant_term v at)))
      ∙ deep (header b.head) (each_comma part_tokens b.parts) [] (Constant v at ∷ []) (Name w) (Compares o),
)
keeps (PartEnd b) Comma h =
    (h.0, ap (λ ts. header b.head ++ ts) (comma_list_comma part_tokens b.parts h.1) ∙ sym (append_assoc (header b.head) (comma_list part_tokens b.parts) (Comma ∷ [])))
keeps (PartEnd b) Stop h = (
  record { head = h.0.head; parts = h.1; each = h.0.each },
  ap (λ ts. Name b.head.name ∷ Open ∷ ts) (sym (append_assoc (comma_list word_tokens b.head.variables) (Close ∷ If ∷ []) (comma_list part_tokens b.parts ++ Stop ∷ [])))
      ∙ sym (append_assoc (header b.head) (comma_list part_tokens b.parts) (Stop ∷ [])),
)
keeps _ _ h = tt
