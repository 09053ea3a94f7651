use Rattle.std.proofs.Common.{◌≡◌, ◌+◌, ◌++◌, ◌∷◌, [], ℕ, List, Some, None, arith, refl, sym, ap, ◌∙◌, subst, drop}
use Rattle.std.proofs.lemmas.List.{length-drop}
use Rattle.csv_frame.specs.Frames.{frames}
use Rattle.csv_frame.specs.Holding.{IsAtHand}
use Rattle.tuple_core.specs.declared.columns.Column.{Column}
use Rattle.csv_wrap.specs.Rows.{frame_read}
use Rattle.csv_wrap.specs.Ahead.{Ahead, KeepsFuture}
use Rattle.csv_wrap.proofs.AheadLaws.{frame_put, frames_kept, reads_fill}
use Rattle.csv_wrap.proofs.ahead.ReadAhead.read_at_hand.Goals as goal

pub returns-clause-keeps : goal.returns-clause-keeps
returns-clause-keeps c =
    let inside = c.self.inside in
    let held = inside.framer in
    let old : Ahead = record { columns = inside.columns; rows = inside.rows.items; bad = inside.bad; number = inside.number; framed = held } in
    let new : Ahead = record { columns = inside.columns; rows = c.put.new.rows.items; bad = c.in_ok-self-inside.field-0; number = inside.number + 1; framed = c.skip.new.self } in
    let hand : IsAtHand held c.args.span c.args.count = subst (λ (a : Ahead). IsAtHand a.framed c.args.span c.args.count) (sym c.self.view_is) c.requires.hand in
    let good : inside.bad ≡ None = subst (λ (a : Ahead). a.bad ≡ None) (sym c.self.view_is) c.requires.good in
    let frame = c.bytes-frame.result.now in
    let gives : c.in_ok-read.read ≡ frame_read inside.columns inside.number (Some frame)
    = subst (λ (cs : List Column). c.in_ok-read.read ≡ frame_read cs inside.number (Some frame)) c.as_slice.ensures c.in_ok-read.ensures in
    let reads = frame_put inside.columns frame inside.rows.items c.put.new.rows.items inside.number c.in_ok-read.read c.in_ok-self-inside.field-0 gives c.in_ok-self-inside.ensures.put in
    subst (λ (a : Ahead). KeepsFuture a new) c.self.view_is (frames_kept (Some frame ∷ []) old new c.args.count reads
    (λ more ended goes. hand.first more ended goes ∙ ap (λ (f : List ℕ). Some f ∷ frames (drop c.args.count held.rest ++ more) ended) (sym c.bytes-frame.ensures))
    good refl hand.inside (omega (arith, c.put.ensures.most)) c.skip.ensures.rest c.skip.ensures.at c.skip.ensures.ended)

pub invariant_of-self-2 : goal.invariant_of-self-2
invariant_of-self-2 c =
    let inside = c.self.inside in
    let frame = c.bytes-frame.result.now in
    let is : c.in_ok-read.read ≡ frame_read inside.columns inside.number (Some frame)
    = subst (λ (cs : List Column). c.in_ok-read.read ≡ frame_read cs inside.number (Some frame)) c.as_slice.ensures c.in_ok-read.ensures in
    let reads = frame_put inside.columns frame inside.rows.items c.put.new.rows.items inside.number c.in_ok-read.read c.in_ok-self-inside.field-0 is c.in_ok-self-inside.ensures.put in
    let fills = reads_fill (Some frame ∷ []) inside.columns inside.rows.items c.put.new.rows.items inside.number (inside.number + 1) c.in_ok-self-inside.field-0 reads c.self.invariant.0 in
    let hand : IsAtHand inside.framer c.args.span c.args.count = subst (λ (a : Ahead). IsAtHand a.framed c.args.span c.args.count) (sym c.self.view_is) c.requires.hand in
    (fills, omega arith, rw c.skip.ensures.at (omega (arith, hand.some)), rw (c.skip.ensures.at, c.skip.ensures.rest) (omega (arith, hand.inside, length-drop c.args.count inside.framer.rest)))
