-- Each state of the machine has a completion by real tokens: one token leads to a state that has one.
use Rattle.std.proofs.Common.{◌≡◌, [], ◌∷◌, ◌++◌, Some, append_assoc, append-nil, refl, sym, ap, subst, ◌∙◌}
use Rattle.med_prelude.specs.Names.{continues_name, is_truth_word, starts_name}
use Rattle.tuple_core.specs.declared.comparing.Op.{Op}
use Rattle.query_syntax.specs.Grammar.{IsReal, IsViable, query_tokens}
use Rattle.query_syntax.specs.Machine.{comparison_part, step, syntax_in, variable_term, with_part, with_term, with_variable}
use Rattle.query_syntax.specs.Tokens.{truth_in}
use Rattle.query_syntax.specs.declared.machine.Body.{Body}
use Rattle.query_syntax.specs.declared.machine.Head.{Head}
use Rattle.query_syntax.specs.declared.machine.State.{State}
use Rattle.query_syntax.specs.declared.machine.State.TheVariants.{Start, Named, HeadStart, HeadEnd, HeadClosed, PartStart, PartNamed, TermStart, TermEnd, Compared, PartEnd, Done}
use Rattle.query_syntax.specs.declared.syntax.Part.TheVariants.{Atom}
use Rattle.query_syntax.specs.declared.syntax.Syntax.{Syntax}
use Rattle.query_syntax.specs.declared.syntax.Word.{Word}
use Rattle.query_syntax.specs.declared.syntax.WrittenAtom.{WrittenAtom}
use Rattle.query_syntax.specs.declared.token.Token.{Token}
use Rattle.query_syntax.specs.declared.token.Token.TheVariants.{Name, Open, Close, If, Stop}
use Rattle.query_syntax.proofs.Spelled.{IsSound, Keeps, keeps, spelled}

-- the name `x`
abbrev x : Word
x = record { name = 120 ∷ []; at = 0 }

real_x : IsReal (Name x)
unfolding starts_name continues_name is_truth_word truth_in
real_x = record { at = 0; bytes = 120 ∷ []; spelt = refl }

real_open : IsReal Open
unfolding starts_name
real_open = record { at = 0; bytes = 40 ∷ []; spelt = refl }

real_close : IsReal Close
unfolding starts_name
real_close = record { at = 0; bytes = 41 ∷ []; spelt = refl }

real_if : IsReal If
unfolding starts_name
real_if = record { at = 0; bytes = 58 ∷ 45 ∷ []; spelt = refl }

real_stop : IsReal Stop
unfolding starts_name
real_stop = record { at = 0; bytes = 46 ∷ []; spelt = refl }

-- a state that is sound has a completion
record Lives (s : State) : Type 0 where
  viable : IsSound s → IsViable (spelled s)

-- one token leads to a state that has one
by_token : (s : State) (t : Token) (next : State) → IsReal t → step s t ≡ Some next → Lives next → Lives s
by_token s t next real leads lives = record {
  viable = λ h.
      let kept : IsSound next × (spelled next ≡ spelled s ++ t ∷ []) = subst (Keeps s t) leads (keeps s t h) in
      let later : IsViable (spelled next) = lives.viable kept.0 in
      record {
        value = later.value;
        rest = t ∷ later.rest;
        whole = later.whole;
        real = (real, later.real);
        spelt = later.spelt ∙ ap (λ ts. ts ++ later.rest) kept.1 ∙ append_assoc (spelled s) (t ∷ []) later.rest;
      };
}

done : (q : Syntax) → Lives (Done q)
done q = record { viable = λ h. record { value = q; rest = []; whole = h; real = tt; spelt = sym (append-nil (query_tokens q)) } }

part_end : (b : Body) → Lives (PartEnd b)
part_end b = by_token (PartEnd b) Stop (Done (syntax_in b)) real_stop refl (done (syntax_in b))

compared : (b : Body) (w : Word) (o : Op) → Lives (Compared b w o)
compared b w o = by_token (Compared b w o) (Name x) (PartEnd (with_part b (comparison_part w o (variable_term x)))) real_x refl (part_end (with_part b (comparison_part w o (variable_term x))))

term_end : (b : Body) (a : WrittenAtom) → Lives (TermEnd b a)
term_end b a = by_token (TermEnd b a) Close (PartEnd (with_part b (Atom a))) real_close refl (part_end (with_part b (Atom a)))

term_start : (b : Body) (a : WrittenAtom) → Lives (TermStart b a)
term_start b a = by_token (TermStart b a) (Name x) (TermEnd b (with_term a (variable_term x))) real_x refl (term_end b (with_term a (variable_term x)))

part_named : (b : Body) (w : Word) → Lives (PartNamed b w)
part_named b w = by_token (PartNamed b w) Open (TermStart b (record { relation = w; terms = [] })) real_open refl (term_start b (record { relation = w; terms = [] }))

part_start : (b : Body) → Lives (PartStart b)
part_start b = by_token (PartStart b) (Name x) (PartNamed b x) real_x refl (part_named b x)

head_closed : (h : Head) → Lives (HeadClosed h)
head_closed h = by_token (HeadClosed h) If (PartStart (record { head = h; parts = [] })) real_if refl (part_start (record { head = h; parts = [] }))

head_end : (h : Head) → Lives (HeadEnd h)
head_end h = by_token (HeadEnd h) Close (HeadClosed h) real_close refl (head_closed h)

head_start : (h : Head) → Lives (HeadStart h)
head_start h = by_token (HeadStart h) (Name x) (HeadEnd (with_variable h x)) real_x refl (head_end (with_variable h x))

named : (n : Word) → Lives (Named n)
named n = by_token (Named n) Open (HeadStart (record { name = n; variables = [] })) real_open refl (head_start (record { name = n; variables = [] }))

start : Lives Start
start = by_token Start (Name x) (Named x) real_x refl (named x)

pub lives : (s : State) → IsSound s → IsViable (spelled s)
lives Start h = start.viable h
lives (Named n) h = (named n).viable h
lives (HeadStart q) h = (head_start q).viable h
lives (HeadEnd q) h = (head_end q).viable h
lives (HeadClosed q) h = (head_closed q).viable h
lives (PartStart b) h = (part_start b).viable h
lives (PartNamed b w) h = (part_named b w).viable h
lives (TermStart b a) h = (term_start b a).viable h
lives (TermEnd b a) h = (term_end b a).viable h
lives (Compared b w o) h = (compared b w o).viable h
lives (PartEnd b) h = (part_end b).viable h
lives (Done q) h = (done q).viable h
