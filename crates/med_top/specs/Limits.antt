-- The limit of a run.
use Rattle.std.specs.Prelude.{ℕ}

-- so many pulls in a row that find nothing there end a run
abbrev pub idle_limit : ℕ
idle_limit = 100000
