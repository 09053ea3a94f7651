use Rattle.csv.specs.Records.{fields_of}
use Rattle.csv_runs.proofs.ReaderLaws.{reads_next, told_on}
use Rattle.csv_runs.proofs.run_reader.read_next.Goals as goal

pub returns-clause-stays : goal.returns-clause-stays
returns-clause-stays c =
    let told = c.read_byte_record.ensures in
    let old = c.args.reader.now in
    let new = c.read_byte_record.new.self in
    let fields = fields_of c.read_byte_record.new.row in
    told_on c.read_byte_record.result c.map_err.result _ _ c.map_err.ensures.variant c.map_err.ensures.cases
    (λ found is. (reads_next old new found fields c.requires (rw is at told.reads) (rw is at told.ready) (rw is at told.flexible)).goes_on)

pub returns-clause-gives : goal.returns-clause-gives
returns-clause-gives c =
    let told = c.read_byte_record.ensures in
    let old = c.args.reader.now in
    let new = c.read_byte_record.new.self in
    let fields = fields_of c.read_byte_record.new.row in
    told_on c.read_byte_record.result c.map_err.result _ _ c.map_err.ensures.variant c.map_err.ensures.cases
    (λ found is. (reads_next old new found fields c.requires (rw is at told.reads) (rw is at told.ready) (rw is at told.flexible)).gives)
