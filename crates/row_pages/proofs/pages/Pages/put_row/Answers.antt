use Rattle.std.proofs.Common.{◌≡◌, ◌++◌, [], ap, ◌∙◌, arith, get_or, length, length-append}
use Rattle.std.proofs.lemmas.List.{get_or_default}
use Rattle.med_prelude.specs.Texts.{Bytes}
use Rattle.row_pages.specs.Lying.{page_at}
use Rattle.tuple_core.proofs.Weighing.{row_weighs}
use Rattle.tuple_core.specs.Encoding.{row_encoding}
use Rattle.row_pages.proofs.Growing.{put_grows}
use Rattle.row_pages.proofs.pages.Pages.put_row.Goals as goal

pub returns-in_err-put_row-clause-grows : goal.returns-in_err-put_row-clause-grows
returns-in_err-put_row-clause-grows c = put_grows _ _ _ _ _ _ c.in_ok-number.ensures.grows c.self.view_is c.in_ok-number.ensures.within c.index_mut-page.ensures.value c.put_row.ensures.gains

pub overflow_cast-result-2 : goal.overflow_cast-result-2
overflow_cast-result-2 c =
    let page : Bytes = page_at c.page_for.new.self c.in_ok-number.number in
    let is : c.index_mut-page.result.now ≡ page = c.index_mut-page.ensures.value ∙ ap (λ pages. get_or pages c.in_ok-number.number c.index_mut-page.result.now) c.self.view_is ∙ get_or_default _ _ _ [] c.in_ok-number.ensures.within in
    let grown = ap length c.in_ok-put_row.ensures.ok ∙ length-append c.index_mut-page.result.now (c.args.front.now ++ row_encoding c.args.row.now) in
    let more = length-append c.args.front.now (row_encoding c.args.row.now) in
    let weighs = row_weighs c.args.row.now in
    let same = ap length is in
    omega (arith, c.len.ensures, grown, more, weighs, same, c.weight.ensures.weight, c.in_ok-number.ensures.room)

pub returns-clause-grows : goal.returns-clause-grows
returns-clause-grows c = put_grows _ _ _ _ _ _ c.in_ok-number.ensures.grows c.self.view_is c.in_ok-number.ensures.within c.index_mut-page.ensures.value c.put_row.ensures.gains
