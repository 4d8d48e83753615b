use Rattle.std.proofs.Common.{◌∙◌, sym}
use Rattle.ar_space.proofs.PagePlaces.{page_at, page_nowhere}
use Rattle.ar_space.proofs.pages.Pages.get.Goals as goal

pub returns-in-Some : goal.returns-in-Some
returns-in-Some c = sym (page_at c.args.self.now.made.items c.args.number c.in-Some.place c.index.result.now (sym c.place.ensures ∙ c.in-Some.is) c.index.ensures)

pub returns-in-None : goal.returns-in-None
returns-in-None c = sym (page_nowhere c.args.self.now.made.items c.args.number (sym c.place.ensures ∙ c.in-None.is))
