use Rattle.std.proofs.Common.{◌∙◌, ◌++◌, ap, sym, append-nil}
use Rattle.std.specs.Option.{option_copied}
use Rattle.std.specs.FinMap as map
use Rattle.ar_space.specs.Pages.{cell, all_pages}
use Rattle.ar_space.specs.Runs.{run_from}
use Rattle.ar_space.proofs.RunBytes.{run_there, run_nowhere}
use Rattle.ar_space.proofs.byte_map.ByteMap.append_in_page.Goals as goal

pub returns-in-Some : goal.returns-in-Some
returns-in-Some c =
    let same = ap (λ at. run_from (cell c.in-Some.page.now) at c.args.count) c.place_of.ensures
    ∙ run_there (all_pages c.self.inside.pages) c.args.address c.args.count c.in-Some.page.now c.requires (sym c.get.ensures ∙ ap option_copied c.in-Some.is)
    ∙ ap (λ m. run_from (map.get m) c.args.address c.args.count) c.self.view_is in
    rw (← same) c.append_to.ensures

pub returns-in-None : goal.returns-in-None
returns-in-None c =
    let none = ap (λ m. run_from (map.get m) c.args.address c.args.count) (sym c.self.view_is)
    ∙ run_nowhere (all_pages c.self.inside.pages) c.args.address c.args.count (sym c.get.ensures ∙ ap option_copied c.in-None.is) in
    sym (append-nil c.args.bytes.now.items) ∙ ap (λ xs. c.args.bytes.now.items ++ xs) (sym none)
