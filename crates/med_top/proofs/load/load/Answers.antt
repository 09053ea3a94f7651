use Rattle.std.proofs.Common.{ap, List, Option, ℕ}
use Rattle.std.proofs.lemmas.Result.{err_from_is_err_and}
use Rattle.med_base.specs.Outside.{IsFetched}
use Rattle.med_prelude.specs.Texts.{Bytes, ToldBytes}
use Rattle.med_top.proofs.LoadLaws.{catalogue_failed, second_failed, spells, texts_load}
use Rattle.med_top.proofs.load.load.Goals as goal

pub returns-in_err-relations-clause-loads : goal.returns-in_err-relations-clause-loads
returns-in_err-relations-clause-loads g c =
    let p = err_from_is_err_and c.from_residual-in_err-relations.result c.from_residual-in_err-relations.ensures.1 in
    let failed = catalogue_failed c.args.catalogue.now c.args.query.now c.in_ok-text.text.items (g.H.Shelf.told c.args.shelf.now c.args.catalogue.now) (g.H.Shelf.told c.args.shelf.now c.args.query.now)
    (record { old = g.H.Shelf.faults c.args.shelf.now; new = g.H.Shelf.faults c.fetch.new.shelf }) (record { old = g.H.Shelf.asked c.args.shelf.now; new = g.H.Shelf.asked c.fetch.new.shelf }) _
    c.in_ok-text.ensures.text c.in_ok-text.ensures.asked (rw (c.as_slice.ensures.value) at c.in_err-relations.ensures.fails) in
    rw (p.1, p.2) failed.loads

pub returns-in_err-text-2-clause-loads : goal.returns-in_err-text-2-clause-loads
returns-in_err-text-2-clause-loads g c =
    let p = err_from_is_err_and c.from_residual-in_err-text-2.result c.from_residual-in_err-text-2.ensures.1 in
    let says = spells (g.H.Shelf.told c.args.shelf.now c.args.catalogue.now) c.in_ok-text.text.items c.in_ok-relations.relations c.in_ok-text.ensures.text (rw (c.as_slice.ensures.value) at c.in_ok-relations.ensures.says) in
    let failed = second_failed c.args.catalogue.now c.args.query.now (g.H.Shelf.told c.args.shelf.now c.args.catalogue.now) (g.H.Shelf.told c.args.shelf.now c.args.query.now) c.in_ok-relations.relations
    (g.H.Shelf.faults c.args.shelf.now) (record { old = g.H.Shelf.faults c.fetch.new.shelf; new = g.H.Shelf.faults c.fetch-2.new.shelf })
    (g.H.Shelf.asked c.args.shelf.now) (record { old = g.H.Shelf.asked c.fetch.new.shelf; new = g.H.Shelf.asked c.fetch-2.new.shelf }) _
    says c.in_ok-text.ensures.faults c.in_ok-text.ensures.asked c.in_err-text-2.ensures.fails in
    rw (p.1, p.2) failed.loads

pub returns-in_err-text-2-clause-asked : goal.returns-in_err-text-2-clause-asked
returns-in_err-text-2-clause-asked g c =
    let says = spells (g.H.Shelf.told c.args.shelf.now c.args.catalogue.now) c.in_ok-text.text.items c.in_ok-relations.relations c.in_ok-text.ensures.text (rw (c.as_slice.ensures.value) at c.in_ok-relations.ensures.says) in
    let failed = second_failed c.args.catalogue.now c.args.query.now (g.H.Shelf.told c.args.shelf.now c.args.catalogue.now) (g.H.Shelf.told c.args.shelf.now c.args.query.now) c.in_ok-relations.relations
    (g.H.Shelf.faults c.args.shelf.now) (record { old = g.H.Shelf.faults c.fetch.new.shelf; new = g.H.Shelf.faults c.fetch-2.new.shelf })
    (g.H.Shelf.asked c.args.shelf.now) (record { old = g.H.Shelf.asked c.fetch.new.shelf; new = g.H.Shelf.asked c.fetch-2.new.shelf }) _
    says c.in_ok-text.ensures.faults c.in_ok-text.ensures.asked c.in_err-text-2.ensures.fails in
    failed.asked

pub returns-clause-loads : goal.returns-clause-loads
returns-clause-loads g c =
    let says = spells (g.H.Shelf.told c.args.shelf.now c.args.catalogue.now) c.in_ok-text.text.items c.in_ok-relations.relations c.in_ok-text.ensures.text (rw (c.as_slice.ensures.value) at c.in_ok-relations.ensures.says) in
    let fetched = rw (ap (λ (tells : Bytes → ToldBytes). tells c.args.query.now) c.in_ok-text.ensures.told) at c.in_ok-text-2.ensures.text in
    let said = texts_load c.args.catalogue.now c.args.query.now c.in_ok-text-2.text.items (g.H.Shelf.told c.args.shelf.now c.args.catalogue.now) (g.H.Shelf.told c.args.shelf.now c.args.query.now) c.in_ok-relations.relations
    (record { old = g.H.Shelf.faults c.args.shelf.now; new = g.H.Shelf.faults c.fetch-2.new.shelf }) (g.H.Shelf.asked c.args.shelf.now) (g.H.Shelf.asked c.fetch.new.shelf) (g.H.Shelf.asked c.fetch-2.new.shelf) c.task_in.result
    says fetched c.in_ok-text.ensures.asked c.in_ok-text-2.ensures.asked (rw (c.as_slice-2.ensures.value) at c.task_in.ensures.task) (rw (c.as_slice-2.ensures.value) at c.task_in.ensures.fails) in
    said.loads

pub returns-clause-asked : goal.returns-clause-asked
returns-clause-asked g c =
    let says = spells (g.H.Shelf.told c.args.shelf.now c.args.catalogue.now) c.in_ok-text.text.items c.in_ok-relations.relations c.in_ok-text.ensures.text (rw (c.as_slice.ensures.value) at c.in_ok-relations.ensures.says) in
    let fetched = rw (ap (λ (tells : Bytes → ToldBytes). tells c.args.query.now) c.in_ok-text.ensures.told) at c.in_ok-text-2.ensures.text in
    let said = texts_load c.args.catalogue.now c.args.query.now c.in_ok-text-2.text.items (g.H.Shelf.told c.args.shelf.now c.args.catalogue.now) (g.H.Shelf.told c.args.shelf.now c.args.query.now) c.in_ok-relations.relations
    (record { old = g.H.Shelf.faults c.args.shelf.now; new = g.H.Shelf.faults c.fetch-2.new.shelf }) (g.H.Shelf.asked c.args.shelf.now) (g.H.Shelf.asked c.fetch.new.shelf) (g.H.Shelf.asked c.fetch-2.new.shelf) c.task_in.result
    says fetched c.in_ok-text.ensures.asked c.in_ok-text-2.ensures.asked (rw (c.as_slice-2.ensures.value) at c.task_in.ensures.task) (rw (c.as_slice-2.ensures.value) at c.task_in.ensures.fails) in
    said.asked
