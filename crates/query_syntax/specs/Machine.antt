-- The grammar of queries as a machine.
use Rattle.std.specs.Prelude.{ℕ, [], ◌∷◌, ◌++◌, Option, Some, None}
use Rattle.tuple_core.specs.declared.value.Value.{Value}
use Rattle.tuple_core.specs.declared.comparing.Op.{Op}
use Rattle.query_syntax.specs.declared.machine.Body.{Body}
use Rattle.query_syntax.specs.declared.machine.Head.{Head}
use Rattle.query_syntax.specs.declared.machine.State.{State}
use Rattle.query_syntax.specs.declared.machine.State.TheVariants.{Start, Named, HeadStart, HeadEnd, HeadClosed, PartStart, PartNamed, TermStart, TermEnd, Compared, PartEnd, Done}
use Rattle.query_syntax.specs.declared.syntax.Part.{Part}
use Rattle.query_syntax.specs.declared.syntax.Part.TheVariants as part
use Rattle.query_syntax.specs.declared.syntax.WrittenTerm.{WrittenTerm}
use Rattle.query_syntax.specs.declared.syntax.Syntax.{Syntax}
use Rattle.query_syntax.specs.declared.syntax.Word.{Word}
use Rattle.query_syntax.specs.declared.syntax.NamedTerm.TheVariants as written
use Rattle.query_syntax.specs.declared.syntax.WrittenAtom.{WrittenAtom}
use Rattle.query_syntax.specs.declared.token.Token.{Token}
use Rattle.query_syntax.specs.declared.token.Token.TheVariants.{Name, Constant, Compares, Open, Close, Comma, If, Stop}

abbrev pub variable_term : Word → WrittenTerm
variable_term w = record { written = written.Variable w.name; at = w.at }

abbrev pub constant_term : Value → ℕ → WrittenTerm
constant_term value at = record { written = written.Constant value; at = at }

abbrev pub with_variable : Head → Word → Head
with_variable h w = record { name = h.name; variables = h.variables ++ w ∷ [] }

abbrev pub with_term : WrittenAtom → WrittenTerm → WrittenAtom
with_term a t = record { relation = a.relation; terms = a.terms ++ t ∷ [] }

abbrev pub with_part : Body → Part → Body
with_part b p = record { head = b.head; parts = b.parts ++ p ∷ [] }

abbrev pub comparison_part : Word → Op → WrittenTerm → Part
comparison_part w o t = part.Comparison (record { left = w; op = o; right = t })

abbrev pub syntax_in : Body → Syntax
syntax_in b = record { name = b.head.name; head = b.head.variables; parts = b.parts }

-- what a token leads to, where the grammar allows it
abbrev pub step : State → Token → Option State
step Start (Name n) = Some (Named n)
step (Named n) Open = Some (HeadStart (record { name = n; variables = [] }))
step (HeadStart h) (Name v) = Some (HeadEnd (with_variable h v))
step (HeadEnd h) Comma = Some (HeadStart h)
step (HeadEnd h) Close = Some (HeadClosed h)
step (HeadClosed h) If = Some (PartStart (record { head = h; parts = [] }))
step (PartStart b) (Name w) = Some (PartNamed b w)
step (PartNamed b w) Open = Some (TermStart b (record { relation = w; terms = [] }))
step (PartNamed b w) (Compares o) = Some (Compared b w o)
step (TermStart b a) (Name v) = Some (TermEnd b (with_term a (variable_term v)))
step (TermStart b a) (Constant v at) = Some (TermEnd b (with_term a (constant_term v at)))
step (TermEnd b a) Comma = Some (TermStart b a)
step (TermEnd b a) Close = Some (PartEnd (with_part b (part.Atom a)))
step (Compared b w o) (Name v) = Some (PartEnd (with_part b (comparison_part w o (variable_term v))))
step (Compared b w o) (Constant v at) = Some (PartEnd (with_part b (comparison_part w o (constant_term v at))))
step (PartEnd b) Comma = Some (PartStart b)
step (PartEnd b) Stop = Some (Done (syntax_in b))
step (Done q) _ = None
step _ _ = None

-- the query, once its full stop was read
abbrev pub finished_query : State → Option Syntax
finished_query (Done q) = Some q
finished_query _ = None
