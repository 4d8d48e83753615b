use Rattle.std.proofs.Common.{ap}
use Rattle.ar_space.specs.Pages.{map_of_pages}
use Rattle.ar_space.proofs.pages.Pages.new.Goals as goal

pub returns-clause-map : goal.returns-clause-map
unfolding map_of_pages
returns-clause-map c = ap map_of_pages c.new.ensures.items
