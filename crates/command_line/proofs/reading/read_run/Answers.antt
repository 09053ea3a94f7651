use Rattle.command_line.proofs.FormLaws.{run_is_simple}
use Rattle.command_line.proofs.reading.read_run.Goals as goal

pub find_in-requires : goal.find_in-requires
find_in-requires c = run_is_simple _ c.in_ok-run_form.ensures
