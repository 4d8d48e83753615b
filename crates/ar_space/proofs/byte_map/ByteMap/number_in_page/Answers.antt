use Rattle.std.proofs.Common.{◌∙◌, ap, sym}
use Rattle.std.specs.Option.{option_copied}
use Rattle.std.specs.FinMap as map
use Rattle.ar_space.specs.Pages.{cell, all_pages}
use Rattle.ar_space.specs.Runs.{number_from}
use Rattle.ar_space.proofs.PageMaps.{number_there, number_nowhere}
use Rattle.ar_space.proofs.byte_map.ByteMap.number_in_page.Goals as goal

pub returns-in-Some-clause-number : goal.returns-in-Some-clause-number
returns-in-Some-clause-number c = c.number.ensures.number ∙ ap (λ at. number_from (cell c.in-Some.page.now) at c.args.count) c.place_of.ensures
    ∙ number_there (all_pages c.self.inside.pages) c.args.address c.args.count c.in-Some.page.now c.requires.2 (sym c.get.ensures ∙ ap option_copied c.in-Some.is)
    ∙ ap (λ m. number_from (map.get m) c.args.address c.args.count) c.self.view_is

pub returns-in-None-clause-number : goal.returns-in-None-clause-number
returns-in-None-clause-number c = sym (ap (λ m. number_from (map.get m) c.args.address c.args.count) (sym c.self.view_is)
    ∙ number_nowhere (all_pages c.self.inside.pages) c.args.address c.args.count c.requires.0 (sym c.get.ensures ∙ ap option_copied c.in-None.is))
