use Rattle.std.proofs.Common.{List, ℕ, drop, ◌++◌, ◌∙◌, ap}
use Rattle.std.proofs.lemmas.List.{drop-append-le}
use Rattle.csv_frame.specs.Holding.{Held, held_of}
use Rattle.csv_frame.proofs.HoldLaws.{fed_more}
use Rattle.csv_frame.proofs.framer.Framer.feed.Goals as goal

pub returns-clause-gave : goal.returns-clause-gave
returns-clause-gave c =
    let inside = c.self.inside in
    let rest = ap (λ (h : Held). h.rest ++ c.args.piece.now) c.self.view_is ∙ ap (λ (bs : List ℕ). bs ++ c.args.piece.now) c.compact.ensures.rest in
    let fed = ap (drop inside.cursor.start) c.in_ok-extend_from_slice.ensures.items ∙ drop-append-le inside.cursor.start inside.buffer.items c.args.piece.now c.self.invariant.0.within ∙ rest in
    fed_more c.args.self.now (held_of c.extend_from_slice.new.self.items inside.cursor.start inside.before inside.ended) c.args.piece.now fed (ap (λ (h : Held). h.at) c.self.view_is ∙ c.compact.ensures.at) c.requires.open
