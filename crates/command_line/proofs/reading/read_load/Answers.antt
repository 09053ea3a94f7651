use Rattle.command_line.proofs.FormLaws.{load_is_simple}
use Rattle.command_line.proofs.reading.read_load.Goals as goal

pub find_in-requires : goal.find_in-requires
find_in-requires c = load_is_simple _ c.in_ok-load_form.ensures
