use Rattle.row_pages.proofs.Growing.{put_grows}
use Rattle.row_pages.proofs.pages.Pages.put.Goals as goal

pub returns-in_err-put-clause-grows : goal.returns-in_err-put-clause-grows
returns-in_err-put-clause-grows c = put_grows _ _ _ _ _ _ c.in_ok-number.ensures.grows c.self.view_is c.in_ok-number.ensures.within c.index_mut-page.ensures.value c.put.ensures.gains

pub returns-clause-grows : goal.returns-clause-grows
returns-clause-grows c = put_grows _ _ _ _ _ _ c.in_ok-number.ensures.grows c.self.view_is c.in_ok-number.ensures.within c.index_mut-page.ensures.value c.put.ensures.gains
