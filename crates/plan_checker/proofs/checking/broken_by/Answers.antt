use Rattle.std.proofs.Common.{◌≡◌, ℕ, List, ap, ap₂, ◌∙◌}
use Rattle.answer_theory.specs.Bags.{numbers_from}
use Rattle.med_base.specs.declared.status.Part.TheVariants as part
use Rattle.text_reading.specs.Faults.{indices_where}
use Rattle.text_reading.specs.Order.{least}
use Rattle.plan_reader.specs.Locations.{in_part, is_up_to}
use Rattle.plan_reader.specs.declared.plan.Fragment.{Fragment}
use Rattle.plan_checker.specs.Uses.{atom_numbers, atoms_used, early_from, fragments_used, is_missing, is_used_twice, misused_from, nodes_in, numbers_of, where_early, where_misused, where_missing, where_used_twice}
use Rattle.plan_checker.proofs.checking.broken_by.Goals as goal

pub returns-clause-missing : goal.returns-clause-missing
unfolding where_missing
returns-clause-missing c =
    let used : c.as_slice-used.result.now ≡ atoms_used (nodes_in c.args.plan.now.fragments) = c.as_slice-used.ensures ∙ c.in_ok-used.ensures ∙ ap atoms_used (c.as_slice.ensures.value ∙ c.in_ok-nodes.ensures ∙ ap nodes_in c.as_slice-fragments.ensures) in
    let atoms : c.as_slice-atoms.result.now ≡ atom_numbers c.args.query.now = c.as_slice-atoms.ensures ∙ c.in_ok-atoms.ensures ∙ ap (numbers_from 1) c.len.ensures in
    c.missing_location.ensures ∙ ap₂ (λ (us ns : List ℕ). least is_up_to (in_part part.Atom (indices_where (is_missing us) 0 ns))) used atoms

pub returns-clause-used_twice : goal.returns-clause-used_twice
unfolding where_used_twice
returns-clause-used_twice c =
    let used : c.as_slice-used.result.now ≡ atoms_used (nodes_in c.args.plan.now.fragments) = c.as_slice-used.ensures ∙ c.in_ok-used.ensures ∙ ap atoms_used (c.as_slice.ensures.value ∙ c.in_ok-nodes.ensures ∙ ap nodes_in c.as_slice-fragments.ensures) in
    let atoms : c.as_slice-atoms.result.now ≡ atom_numbers c.args.query.now = c.as_slice-atoms.ensures ∙ c.in_ok-atoms.ensures ∙ ap (numbers_from 1) c.len.ensures in
    c.used_twice_location.ensures ∙ ap₂ (λ (us ns : List ℕ). least is_up_to (in_part part.Atom (indices_where (is_used_twice us) 0 ns))) used atoms

pub returns-clause-misused : goal.returns-clause-misused
unfolding where_misused
returns-clause-misused c =
    let numbers : c.as_slice-numbers.result.now ≡ numbers_of c.args.plan.now.fragments = c.as_slice-numbers.ensures ∙ c.in_ok-numbers.ensures ∙ ap numbers_of c.as_slice-fragments.ensures in
    let taken : c.as_slice-5.result.now ≡ fragments_used (nodes_in c.args.plan.now.fragments) = c.as_slice-5.ensures ∙ c.in_ok-taken.ensures ∙ ap fragments_used (c.as_slice-2.ensures.value ∙ c.in_ok-nodes.ensures ∙ ap nodes_in c.as_slice-fragments.ensures) in
    c.misused_location.ensures ∙ ap₂ (λ (us ns : List ℕ). least is_up_to (in_part part.Fragment (misused_from us 0 ns))) taken numbers

pub returns-clause-early : goal.returns-clause-early
unfolding where_early
returns-clause-early c =
    let numbers : c.as_slice-numbers.result.now ≡ numbers_of c.args.plan.now.fragments = c.as_slice-numbers.ensures ∙ c.in_ok-numbers.ensures ∙ ap numbers_of c.as_slice-fragments.ensures in
    c.in_ok-early_location.ensures ∙ ap₂ (λ (ns : List ℕ) (fs : List Fragment). least is_up_to (in_part part.Fragment (early_from ns 0 fs))) numbers c.as_slice-fragments.ensures
