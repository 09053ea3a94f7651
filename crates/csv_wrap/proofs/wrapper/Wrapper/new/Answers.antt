use Rattle.std.proofs.Common.{◌≡◌, false, true, [], refl, ap, arith, sym, ◌∙◌}
use Rattle.std.proofs.lemmas.Grind.{common_steps}
use Rattle.csv_wrap.specs.Ahead.{Ahead}
use Rattle.csv_wrap.specs.Wrapped.{Wrapped}
use Rattle.csv_wrap.proofs.AheadLaws.{frames_none}
use Rattle.csv_wrap.proofs.WrapLaws.{none_given}
use Rattle.csv_wrap.proofs.wrapper.Wrapper.new.Goals as goal

pub invariant_of-result : goal.invariant_of-result
invariant_of-result g c =
    let open_still : c.new.result.framed.ended ≡ false = ap (λ (a : Ahead). a.framed.ended) c.new.ensures in (
      grind (arith, common_steps),
      omega arith,
      record {
        few = rw c.new.ensures (omega (arith, c.requires.few));
        counted = rw c.new.ensures (omega arith);
        fed = λ t. refl;
        whole = λ t. absurd (let clash : false ≡ true = sym open_still ∙ t in cc);
        failed = λ t. absurd (let clash : false ≡ true = t in cc);
        of_bytes = rw c.new.ensures tt;
      },
    )

pub returns-clause-gave : goal.returns-clause-gave
returns-clause-gave g c =
    let w : Wrapped g.row.S.Denot = record { source = c.args.source; ahead = c.new.result; kept = []; failed = false; accepted = 0 } in
    (refl, none_given w c.in_ok-columns.columns (g.S.Source.taken c.args.source) c.requires.fresh c.new.ensures refl)

pub returns-clause-nothing : goal.returns-clause-nothing
returns-clause-nothing g c = (rw c.new.ensures (record { rows = refl; bad = refl; frames = frames_none false }), rw c.new.ensures refl, refl)
