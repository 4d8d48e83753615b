use Rattle.std.proofs.Common.{arith}
use Rattle.acpi_links.specs.Links.{link_asked, links_of_each}
use Rattle.acpi_explain.specs.Halting.{IsHalted, IsInLinks}
use Rattle.acpi_explain.proofs.Answered.{all, first_there, turned}
use Rattle.acpi_explain.proofs.Found.{link_halted}
use Rattle.acpi_explain.proofs.Halted.{handed}
use Rattle.acpi_explain.proofs.objects.ask_links.Goals as goal

pub loop-link-preserved : goal.loop-link-preserved
loop-link-preserved g c =
    let h = c.in_ok-ask_link.ensures.asked in
    turned (link_asked g.S.Space.accesses c.args.avoid.now) c.args.links.now c.loop-link.link-index _ c.args.machine.now c.loop-link.machine c.ask_link.new.machine h.0 (omega arith) c.link-item.is c.loop-link.invariant h.1

pub returns-in_err-ask_link-clause-halted : goal.returns-in_err-ask_link-clause-halted
returns-in_err-ask_link-clause-halted g c =
    let list = c.args.links.now in
    let i = c.loop-link.link-index in
    handed _ _ (IsHalted (links_of_each g.S.Space.accesses c.args.avoid.now list) (IsInLinks g.S.Space.accesses c.args.avoid.now list c.args.machine.now) c.args.machine.now c.ask_link.new.machine) c.from_residual.ensures
    (link_halted g.S.Space.accesses c.args.avoid.now list _ i c.args.machine.now c.loop-link.machine c.ask_link.new.machine _ c.in_err-ask_link.ensures.halted
    (λ e at. first_there (link_asked g.S.Space.accesses c.args.avoid.now) list i _ c.args.machine.now c.loop-link.machine c.ask_link.new.machine e (omega arith) c.link-item.is c.loop-link.invariant at))

pub returns-clause-asked : goal.returns-clause-asked
returns-clause-asked g c = all (link_asked g.S.Space.accesses c.args.avoid.now) c.args.links.now c.loop-link.link-index c.args.machine.now c.loop-link.machine (omega arith) c.loop-link.invariant
