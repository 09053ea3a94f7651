use Rattle.text_reading.proofs.QuoteLaws.{read_back, read_written}
use Rattle.text_reading.proofs.quotes.quoted_is_read_back.Goals as goal

pub returns-clause-back : goal.returns-clause-back
returns-clause-back c = read_back

pub returns-clause-written : goal.returns-clause-written
returns-clause-written c = read_written
