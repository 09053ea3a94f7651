use Rattle.std.proofs.Common.{◌≡◌, ◌≤◌, ◌++◌, ◌∙◌, ℕ, Bool, List, None, length, take, drop, arith, refl, sym, ap, subst, true}
use Rattle.std.proofs.lemmas.List.{length-drop, length-take-le}
use Rattle.tuple_core.specs.declared.columns.Column.{Column}
use Rattle.csv_frame.specs.Frames.{GoesOn, frames}
use Rattle.csv_wrap.specs.Ahead.{Ahead, IsRunAhead, KeepsFuture, ReadsFrames}
use Rattle.csv_wrap.proofs.AheadLaws.{frames_kept, reads_fill}
use Rattle.csv_wrap.proofs.ahead.ReadAhead.read_run_held.Goals as goal

pub invariant_of-self : goal.invariant_of-self
invariant_of-self c =
    let inside = c.self.inside in
    let held = inside.framer in
    let run = take c.args.count c.rest.result.now in
    let ahead : IsRunAhead held c.args.count = subst (λ (a : Ahead). IsRunAhead a.framed c.args.count) (sym c.self.view_is) c.requires.run in
    let reads : ReadsFrames inside.columns (frames run true) inside.rows.items inside.number c.read_run.new.rows.items c.in-Ok.bad c.read_run.new.number
    = subst (λ (cs : List Column). ReadsFrames cs (frames run true) inside.rows.items inside.number c.read_run.new.rows.items c.in-Ok.bad c.read_run.new.number) c.as_slice.ensures c.in-Ok.ensures.read in
    let short : length run ≤ c.args.count = rw c.rest.ensures (omega (arith, length-take-le c.args.count held.rest ahead.inside)) in (
      reads_fill (frames run true) inside.columns inside.rows.items c.read_run.new.rows.items inside.number c.read_run.new.number c.in-Ok.bad reads c.self.invariant.0,
      omega arith,
      rw c.skip.ensures.at (omega (arith, c.read_run.ensures.number, short)),
      rw (c.skip.ensures.at, c.skip.ensures.rest) (omega (arith, ahead.inside, length-drop c.args.count held.rest)),
    )

pub returns-in-Ok-clause-keeps : goal.returns-in-Ok-clause-keeps
returns-in-Ok-clause-keeps c =
    let inside = c.self.inside in
    let held = inside.framer in
    let run = take c.args.count c.rest.result.now in
    let old : Ahead = record { columns = inside.columns; rows = inside.rows.items; bad = inside.bad; number = inside.number; framed = held } in
    let new : Ahead = record { columns = inside.columns; rows = c.read_run.new.rows.items; bad = c.in-Ok.bad; number = c.read_run.new.number; framed = c.skip.new.self } in
    let ahead : IsRunAhead held c.args.count = subst (λ (a : Ahead). IsRunAhead a.framed c.args.count) (sym c.self.view_is) c.requires.run in
    let good : inside.bad ≡ None = subst (λ (a : Ahead). a.bad ≡ None) (sym c.self.view_is) c.requires.good in
    let reads : ReadsFrames inside.columns (frames run true) inside.rows.items inside.number c.read_run.new.rows.items c.in-Ok.bad c.read_run.new.number
    = subst (λ (cs : List Column). ReadsFrames cs (frames run true) inside.rows.items inside.number c.read_run.new.rows.items c.in-Ok.bad c.read_run.new.number) c.as_slice.ensures c.in-Ok.ensures.read in
    let splits : (more : List ℕ) (ended : Bool) → GoesOn held.ended more ended → frames (held.rest ++ more) ended ≡ frames run true ++ frames (drop c.args.count held.rest ++ more) ended
    = λ more ended goes. ahead.splits more ended ∙ ap (λ (bs : List ℕ). frames (take c.args.count bs) true ++ frames (drop c.args.count held.rest ++ more) ended) (sym c.rest.ensures) in
    subst (λ (a : Ahead). KeepsFuture a new) c.self.view_is
    (frames_kept (frames run true) old new c.args.count reads splits good refl ahead.inside c.read_run.ensures.counted c.skip.ensures.rest c.skip.ensures.at c.skip.ensures.ended)
