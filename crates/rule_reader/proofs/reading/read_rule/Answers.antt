use Rattle.std.proofs.Common.{sym, subst}
use Rattle.rule_reader.specs.Reading.{GivesRule}
use Rattle.rule_reader.proofs.ReadingLaws.{of_long, of_space, of_text}
use Rattle.rule_reader.proofs.reading.read_rule.Goals as goal

pub returns-then-text-gt-LONGEST_RULE : goal.returns-then-text-gt-LONGEST_RULE
returns-then-text-gt-LONGEST_RULE c = of_long _ c.if-text-gt-LONGEST_RULE.true

pub returns-then-begins_space : goal.returns-then-begins_space
returns-then-begins_space c = of_space _ c.if-text-gt-LONGEST_RULE.false c.if-begins_space.ensures

pub returns : goal.returns
returns c = subst (GivesRule c.read_tokens.result) (sym (of_text c.args.text.now c.if-text-gt-LONGEST_RULE.false c.if-begins_space.ensures)) c.read_tokens.ensures
