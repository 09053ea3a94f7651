use Rattle.std.proofs.Common.{sym, ◌∙◌}
use Rattle.std.proofs.Common.{subst}
use Rattle.row_pages.specs.Lying.{Grows}
use Rattle.row_pages.proofs.Growing.{added_grows, grows_page}
use Rattle.row_pages.proofs.pages.Pages.page_for.Goals as goal

pub returns-then-size-gt-PAGE-clause-grows : goal.returns-then-size-gt-PAGE-clause-grows
returns-then-size-gt-PAGE-clause-grows c = added_grows _ _ _ c.add_page.ensures.ok c.add_page.ensures.err

pub returns-clause-grows : goal.returns-clause-grows
returns-clause-grows c = subst (Grows c.args.self.now) (sym (c.self-2.view_is ∙ c.in_ok-self-inside.ensures.ok)) (grows_page c.args.self.now)
