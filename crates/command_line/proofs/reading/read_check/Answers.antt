use Rattle.command_line.proofs.FormLaws.{check_is_simple}
use Rattle.command_line.proofs.reading.read_check.Goals as goal

pub find_in-requires : goal.find_in-requires
find_in-requires c = check_is_simple _ c.in_ok-check_form.ensures
