-- The machine takes the whole spelling of each query.
use Rattle.std.proofs.Common.{◌≡◌, ℕ, List, [], ◌∷◌, ◌++◌, Some, append_assoc, append-nil, refl, sym, ap, ◌∙◌}
use Rattle.std.specs.List.{AllByRecursion}
use Rattle.text_reading.specs.Machines.{state_after}
use Rattle.tuple_core.specs.declared.comparing.Op.{Op}
use Rattle.query_syntax.specs.Grammar.{IsFull, IsPart, IsQuery, comma_items, comma_list, part_tokens, query_tokens, term_tokens, word_tokens, named_token}
use Rattle.query_syntax.specs.Machine.{comparison_part, step, with_part, with_term, with_variable}
use Rattle.query_syntax.specs.declared.machine.Body.{Body}
use Rattle.query_syntax.specs.declared.machine.Head.{Head}
use Rattle.query_syntax.specs.declared.machine.State.TheVariants.{Start, HeadStart, HeadEnd, PartStart, TermStart, TermEnd, Compared, PartEnd, Done}
use Rattle.query_syntax.specs.declared.syntax.Part.{Part}
use Rattle.query_syntax.specs.declared.syntax.Part.TheVariants.{Atom, Comparison}
use Rattle.query_syntax.specs.declared.syntax.WrittenTerm.{WrittenTerm}
use Rattle.query_syntax.specs.declared.syntax.Syntax.{Syntax}
use Rattle.query_syntax.specs.declared.syntax.Word.{Word}
use Rattle.query_syntax.specs.declared.syntax.NamedTerm.{NamedTerm}
use Rattle.query_syntax.specs.declared.syntax.NamedTerm.TheVariants.{Variable, Constant}
use Rattle.query_syntax.specs.declared.syntax.WrittenAtom.{WrittenAtom}
use Rattle.query_syntax.specs.declared.token.Token.{Token}
use Rattle.query_syntax.specs.declared.token.Token.TheVariants.{Close, If, Stop}

-- the head

variables_after : (h : Head) (vs : List Word) (rest : List Token)
    → state_after step (HeadEnd h) (comma_items word_tokens vs ++ rest) ≡ state_after step (HeadEnd (record { name = h.name; variables = h.variables ++ vs })) rest
variables_after h [] rest = ap (λ vs. state_after step (HeadEnd (record { name = h.name; variables = vs })) rest) (sym (append-nil h.variables))
variables_after h (v ∷ vs) rest =
    variables_after (with_variable h v) vs rest
    ∙ ap (λ all. state_after step (HeadEnd (record { name = h.name; variables = all })) rest) (append_assoc h.variables (v ∷ []) vs)

variables : (n : Word) (vs : List Word) (rest : List Token) → IsFull vs
    → state_after step (HeadStart (record { name = n; variables = [] })) (comma_list word_tokens vs ++ rest) ≡ state_after step (HeadEnd (record { name = n; variables = vs })) rest
variables n [] rest full = absurd full
variables n (v ∷ vs) rest full = variables_after (record { name = n; variables = v ∷ [] }) vs rest

-- an atom

term_step : (b : Body) (a : WrittenAtom) (at : ℕ) (w : NamedTerm) → step (TermStart b a) (named_token at w) ≡ Some (TermEnd b (with_term a (record { written = w; at = at })))
term_step b a at (Variable name) = refl
term_step b a at (Constant value) = refl

one_term : (b : Body) (a : WrittenAtom) (t : WrittenTerm) (rest : List Token) → state_after step (TermStart b a) (term_tokens t ++ rest) ≡ state_after step (TermEnd b (with_term a t)) rest
one_term b a t rest = rw (term_step b a t.at t.written, state_after) refl

terms_after : (b : Body) (a : WrittenAtom) (ts : List WrittenTerm) (rest : List Token)
    → state_after step (TermEnd b a) (comma_items term_tokens ts ++ rest) ≡ state_after step (TermEnd b (record { relation = a.relation; terms = a.terms ++ ts })) rest
terms_after b a [] rest = ap (λ ts. state_after step (TermEnd b (record { relation = a.relation; terms = ts })) rest) (sym (append-nil a.terms))
terms_after b a (t ∷ ts) rest =
    one_term b a t (comma_items term_tokens ts ++ rest) ∙ terms_after b (with_term a t) ts rest
    ∙ ap (λ all. state_after step (TermEnd b (record { relation = a.relation; terms = all })) rest) (append_assoc a.terms (t ∷ []) ts)

terms : (b : Body) (w : Word) (ts : List WrittenTerm) (rest : List Token) → IsFull ts
    → state_after step (TermStart b (record { relation = w; terms = [] })) (comma_list term_tokens ts ++ rest) ≡ state_after step (TermEnd b (record { relation = w; terms = ts })) rest
terms b w [] rest full = absurd full
terms b w (t ∷ ts) rest full = one_term b (record { relation = w; terms = [] }) t (comma_items term_tokens ts ++ rest) ∙ terms_after b (record { relation = w; terms = t ∷ [] }) ts rest

-- the parts

side_step : (b : Body) (w : Word) (o : Op) (at : ℕ) (t : NamedTerm)
    → step (Compared b w o) (named_token at t) ≡ Some (PartEnd (with_part b (comparison_part w o (record { written = t; at = at }))))
side_step b w o at (Variable name) = refl
side_step b w o at (Constant value) = refl

one_part : (b : Body) (p : Part) (rest : List Token) → IsPart p → state_after step (PartStart b) (part_tokens p ++ rest) ≡ state_after step (PartEnd (with_part b p)) rest
one_part b (Atom a) rest full =
    ap (state_after step (TermStart b (record { relation = a.relation; terms = [] }))) (append_assoc (comma_list term_tokens a.terms) (Close ∷ []) rest)
    ∙ terms b a.relation a.terms (Close ∷ rest) full
one_part b (Comparison c) rest full = rw (side_step b c.left c.op c.right.at c.right.written, state_after) refl

parts_after : (b : Body) (ps : List Part) (rest : List Token) → AllByRecursion IsPart ps
    → state_after step (PartEnd b) (comma_items part_tokens ps ++ rest) ≡ state_after step (PartEnd (record { head = b.head; parts = b.parts ++ ps })) rest
parts_after b [] rest all = ap (λ ps. state_after step (PartEnd (record { head = b.head; parts = ps })) rest) (sym (append-nil b.parts))
parts_after b (p ∷ ps) rest all =
    ap (state_after step (PartStart b)) (append_assoc (part_tokens p) (comma_items part_tokens ps) rest)
    ∙ one_part b p (comma_items part_tokens ps ++ rest) all.0 ∙ parts_after (with_part b p) ps rest all.1
    ∙ ap (λ every. state_after step (PartEnd (record { head = b.head; parts = every })) rest) (append_assoc b.parts (p ∷ []) ps)

parts : (h : Head) (ps : List Part) (rest : List Token) → IsFull ps → AllByRecursion IsPart ps
    → state_after step (PartStart (record { head = h; parts = [] })) (comma_list part_tokens ps ++ rest) ≡ state_after step (PartEnd (record { head = h; parts = ps })) rest
parts h [] rest full all = absurd full
parts h (p ∷ ps) rest full all =
    ap (state_after step (PartStart (record { head = h; parts = [] }))) (append_assoc (part_tokens p) (comma_items part_tokens ps) rest)
    ∙ one_part (record { head = h; parts = [] }) p (comma_items part_tokens ps ++ rest) all.0 ∙ parts_after (record { head = h; parts = p ∷ [] }) ps rest all.1

pub takes : (q : Syntax) → IsQuery q → state_after step Start (query_tokens q) ≡ Some (Done q)
takes q h =
    variables q.name q.head (Close ∷ If ∷ (comma_list part_tokens q.parts ++ Stop ∷ [])) h.head
    ∙ parts (record { name = q.name; variables = q.head }) q.parts (Stop ∷ []) h.parts h.each
