use Rattle.std.proofs.Common.{◌≡◌, ◌≤◌, ◌-◌, ◌++◌, ℕ, List, true, take}
use Rattle.csv_runs.specs.Runs.{is_run, run_from}
use Rattle.csv_runs.proofs.runs.run_length.Given as goal

-- the bytes up to `end` are a run, and those up to `at` go on with it
abbrev pub invariant-bytes : goal.invariant-bytes
invariant-bytes l = record {
  within : l.end ≤ l.at;
  run : is_run (take l.end l.bytes) ≡ true;
  goes_on : (more : List ℕ) → is_run (take l.at l.bytes ++ more) ≡ run_from (l.at - l.end) l.mode more;
  longest : (n : ℕ) → n ≤ l.at → is_run (take n l.bytes) ≡ true → n ≤ l.end;
}
