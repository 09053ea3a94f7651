use Rattle.row_match.proofs.Reading.{reads_comparisons}
use Rattle.row_match.proofs.laws.filters_read.Goals as goal

pub returns : goal.returns
returns c = reads_comparisons
