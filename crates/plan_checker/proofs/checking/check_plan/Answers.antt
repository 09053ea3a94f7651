use Rattle.std.proofs.Common.{sym, subst}
use Rattle.plan_checker.specs.Solving.{Solves, tested_in}
use Rattle.plan_checker.specs.Covers.{whole_tree}
use Rattle.answer_theory.specs.Bags.{SameBag}
use Rattle.std.proofs.Common.{List, length, ◌≡◌}
use Rattle.med_base.specs.declared.names.Name.{Name}
use Rattle.plan_checker.proofs.FoundLaws.{ok_sound, ok_then}
use Rattle.plan_checker.proofs.PlacedLaws.{all_placed}
use Rattle.plan_checker.proofs.SolvedLaws.{each_tested, sound_solves}
use Rattle.plan_checker.proofs.checking.check_plan.Goals as goal

pub returns-clause-covers : goal.returns-clause-covers
returns-clause-covers c = ok_then _ _ _ c.found_of_plan.ensures (λ checked e. (ok_sound c.args.query.now c.args.catalogue.now c.args.plan checked e).sound.covers)

pub returns-clause-places : goal.returns-clause-places
returns-clause-places c = ok_then _ _ _ c.found_of_plan.ensures (λ checked e.
    let s = ok_sound c.args.query.now c.args.catalogue.now c.args.plan checked e in
    subst (λ (ps : List Name). length ps ≡ length c.args.query.now.comparisons) (sym s.places) (all_placed c.args.query.now checked.plan.fragments s.sound.covers c.requires.fits.comparisons_in_atoms))

pub returns-clause-tests : goal.returns-clause-tests
returns-clause-tests c = ok_then _ _ _ c.found_of_plan.ensures (λ checked e.
    let s = ok_sound c.args.query.now c.args.catalogue.now c.args.plan checked e in
    subst (λ (ps : List Name). SameBag (tested_in c.args.query.now.comparisons ps (whole_tree checked.plan.fragments)) c.args.query.now.comparisons) (sym s.places) (each_tested c.args.query.now checked.plan.fragments s.sound c.requires.fits.comparisons_in_atoms))

pub returns-clause-solves : goal.returns-clause-solves
returns-clause-solves c = ok_then _ _ _ c.found_of_plan.ensures (λ checked e.
    let s = ok_sound c.args.query.now c.args.catalogue.now c.args.plan checked e in
    subst (λ (ps : List Name). Solves c.args.query.now checked.plan.fragments ps) (sym s.places) (sound_solves c.args.query.now checked.plan.fragments s.sound c.requires.fits.comparisons_in_atoms))
