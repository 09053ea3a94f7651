use Rattle.answer_theory.proofs.Tests.{reads_values, reads_both, reads_all, reads_more}
use Rattle.answer_theory.proofs.tree_laws.tests_read.Goals as goal

pub returns-clause-values : goal.returns-clause-values
returns-clause-values g c = reads_values

pub returns-clause-both : goal.returns-clause-both
returns-clause-both g c = reads_both

pub returns-clause-all : goal.returns-clause-all
returns-clause-all g c = reads_all

pub returns-clause-more : goal.returns-clause-more
returns-clause-more g c = reads_more
