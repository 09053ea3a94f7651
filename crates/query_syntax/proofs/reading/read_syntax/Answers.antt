use Rattle.std.proofs.Common.{sym, subst, ◌∙◌}
use Rattle.med_prelude.specs.Reading.{Gives}
use Rattle.query_syntax.proofs.ReadingLaws.{of_blank, of_text}
use Rattle.query_syntax.proofs.reading.read_syntax.Goals as goal

pub returns-then-begins_blank : goal.returns-then-begins_blank
returns-then-begins_blank c = of_blank c.args.text.now (sym c.begins_blank.ensures ∙ c.if-begins_blank.true)

pub returns : goal.returns
returns c = subst (Gives c.read_tokens.result) (sym (of_text c.args.text.now (sym c.begins_blank.ensures ∙ c.if-begins_blank.false))) c.read_tokens.ensures
