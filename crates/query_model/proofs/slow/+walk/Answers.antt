use Rattle.std.proofs.Common.{◌≡◌, List, [], take, length, ◌++◌, cond, sym, ap, ◌∙◌, arith, rules}
use Rattle.std.proofs.lemmas.List.{nil_from_length}
use Rattle.row_match.specs.Patterns.{entries_of}
use Rattle.query_core.specs.Answers.{Item, items}
use Rattle.query_model.specs.Walks.{agrees_with, binding_of, heads_from, AreBound}
use Rattle.answer_theory.specs.Bindings.{Binding}
use Rattle.tuple_core.specs.declared.value.Value.{Value}
use Rattle.query_model.proofs.Walking.{heads_end, row_bound, row_walked, goes_on, passes_over, cut_back}
use Rattle.query_model.proofs.slow.+walk.Goals as goal
use Rattle.query_model.proofs.slow.+walk.Goals.{then-branch+in_ok-walk, else-branch}

pub returns-in_default-clause-found : goal.returns-in_default-clause-found
returns-in_default-clause-found t c =
    let none : c.args.atoms.now ≡ [] = nil_from_length c.args.atoms.now c.in_default.ensures.cases in
    rw (none, heads_end c.args.query.now (binding_of c.args.entries.now.items) c.requires.bound.agree) (rw c.as_slice.ensures.value at c.keep_head.ensures)

pub walk-requires : goal.walk-requires
walk-requires t c =
    let was : AreBound (binding_of c.loop-row.entries.items) = rw c.loop-row.invariant.entries c.requires.bound in
    let bound : AreBound (binding_of c.bind_row.new.entries.items) =
    rw (c.in_ok-bind_row.ensures.bound c.if-branch.true) (row_bound (binding_of c.loop-row.entries.items) c.as_slice-in-loop-row.result.now c.values.result was (rw c.values.ensures.value c.values.ensures.fits) (sym c.in_ok-bind_row.ensures.agrees ∙ c.if-branch.true)) in
    (let h = c.in-Some.ensures in omega arith, (c.requires.head, bound))

pub loop-row-preserved : goal.loop-row-preserved
loop-row-preserved t c =
    let q = c.args.query.now in
    let b : Binding Value = binding_of c.args.entries.now.items in
    let now : Binding Value = binding_of c.loop-row.entries.items in
    let atom = c.in-Some.atom.now in
    let row : List Value = c.in-Some-row.row in
    let lists : List (List Item) = items c.in-Some.more_atoms.now c.in-Some-split_first.more_arrivals.now in
    let more = λ (e : c.if-branch.found ≡ c.loop-row.found ++ cond (agrees_with b atom.terms row) (heads_from q (b ++ entries_of atom.terms row) lists) []).
    row_walked q b atom c.loop-row.row-iterator c.next.new.self row lists c.loop-row.found c.if-branch.found c.in-Some-row.ensures.steps e ∙ c.loop-row.invariant.found in
    let back = λ (kept : take (length c.loop-row.entries.items) (binding_of c.if-branch.entries.items) ≡ now).
    ap binding_of c.truncate.ensures.items ∙ cut_back c.args.entries.now.items c.loop-row.entries.items c.if-branch.entries.items c.len-before.result (search rules) c.loop-row.invariant.entries kept in
    elim c.if-branch.branch [
      | then-branch+in_ok-walk w ↦ record {
        found = more (goes_on q b now (binding_of c.bind_row.new.entries.items) atom.terms c.as_slice-in-loop-row.result.now row c.values.result lists c.loop-row.found c.if-branch.found
            c.loop-row.invariant.entries c.as_slice-in-loop-row.ensures c.values.ensures.value
            (sym c.in_ok-bind_row.ensures.agrees ∙ w.if-branch.true) (c.in_ok-bind_row.ensures.bound w.if-branch.true)
            (w.found-is ∙ w.in_ok-walk.ensures.found));
        entries = back (ap (λ v. take (length c.loop-row.entries.items) (binding_of v.items)) w.entries-is ∙ ap (take (length c.loop-row.entries.items)) w.in_ok-walk.ensures.entries ∙ c.in_ok-bind_row.ensures.kept);
      }
      | else-branch w ↦ record {
        found = more (passes_over q b now atom.terms c.as_slice-in-loop-row.result.now row c.values.result lists c.loop-row.found c.if-branch.found
            c.loop-row.invariant.entries c.as_slice-in-loop-row.ensures c.values.ensures.value
            (sym c.in_ok-bind_row.ensures.agrees ∙ w.if-branch.false) w.found-is);
        entries = back (ap (λ v. take (length c.loop-row.entries.items) (binding_of v.items)) w.entries-is ∙ c.in_ok-bind_row.ensures.kept);
      }
    ]
