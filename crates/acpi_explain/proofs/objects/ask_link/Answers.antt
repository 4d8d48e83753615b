use Rattle.acpi_links.specs.Links.{link_asked}
use Rattle.acpi_explain.specs.Halting.{IsHalted, IsInLink}
use Rattle.acpi_explain.proofs.Found.{absent, left_halted, offer_halted, present_asked, setting_halted, status_halted}
use Rattle.acpi_explain.proofs.Halted.{handed}
use Rattle.acpi_explain.proofs.objects.ask_link.Goals as goal

pub returns-in_err-present-clause-halted : goal.returns-in_err-present-clause-halted
returns-in_err-present-clause-halted g c =
    let link = c.args.link.now in
    handed _ _ (IsHalted (link_asked g.S.Space.accesses c.args.avoid.now link) (IsInLink g.S.Space.accesses c.args.avoid.now link c.args.machine.now) c.args.machine.now c.ask_status.new.machine) c.from_residual.ensures
    (status_halted g.S.Space.accesses c.args.avoid.now link c.args.machine.now c.ask_status.new.machine _ c.in_err-present.ensures.halted)

pub returns-then-not-present-clause-asked : goal.returns-then-not-present-clause-asked
returns-then-not-present-clause-asked g c =
    absent g.S.Space.accesses c.args.avoid.now c.args.link.now c.args.machine.now c.ask_status.new.machine (rw c.if-not-present.true at c.in_ok-present.ensures.asked)

pub returns-in_err-offer-clause-halted : goal.returns-in_err-offer-clause-halted
returns-in_err-offer-clause-halted g c =
    let link = c.args.link.now in
    handed _ _ (IsHalted (link_asked g.S.Space.accesses c.args.avoid.now link) (IsInLink g.S.Space.accesses c.args.avoid.now link c.args.machine.now) c.args.machine.now c.ask_offer.new.machine) c.from_residual-in_err-offer.ensures
    (offer_halted g.S.Space.accesses c.args.avoid.now link c.args.machine.now c.ask_status.new.machine c.ask_offer.new.machine _ (rw c.if-not-present.false at c.in_ok-present.ensures.asked) c.in_err-offer.ensures.halted)

pub returns-in_err-test_offer-clause-halted : goal.returns-in_err-test_offer-clause-halted
returns-in_err-test_offer-clause-halted g c =
    let link = c.args.link.now in
    handed _ _ (IsHalted (link_asked g.S.Space.accesses c.args.avoid.now link) (IsInLink g.S.Space.accesses c.args.avoid.now link c.args.machine.now) c.args.machine.now c.ask_offer.new.machine) c.from_residual-in_err-test_offer.ensures
    (left_halted g.S.Space.accesses c.args.avoid.now link c.args.machine.now c.ask_status.new.machine c.ask_offer.new.machine c.in_ok-offer.offer _ (rw c.if-not-present.false at c.in_ok-present.ensures.asked)
    c.in_ok-offer.ensures.asked c.in_err-test_offer.ensures.halted)

pub returns-in_err-ask_setting-clause-halted : goal.returns-in_err-ask_setting-clause-halted
returns-in_err-ask_setting-clause-halted g c =
    let link = c.args.link.now in
    handed _ _ (IsHalted (link_asked g.S.Space.accesses c.args.avoid.now link) (IsInLink g.S.Space.accesses c.args.avoid.now link c.args.machine.now) c.args.machine.now c.ask_setting.new.machine) c.from_residual-in_err-ask_setting.ensures
    (setting_halted g.S.Space.accesses c.args.avoid.now link c.args.machine.now c.ask_status.new.machine c.ask_offer.new.machine c.ask_setting.new.machine c.in_ok-offer.offer _ (rw c.if-not-present.false at c.in_ok-present.ensures.asked)
    c.in_ok-offer.ensures.asked c.in_ok-test_offer.ensures.is c.in_err-ask_setting.ensures.halted)

pub returns-clause-asked : goal.returns-clause-asked
returns-clause-asked g c =
    present_asked g.S.Space.accesses c.args.avoid.now c.args.link.now c.args.machine.now c.ask_status.new.machine c.ask_offer.new.machine c.ask_setting.new.machine c.in_ok-offer.offer _ (rw c.if-not-present.false at c.in_ok-present.ensures.asked)
    c.in_ok-offer.ensures.asked c.in_ok-test_offer.ensures.is c.in_ok-ask_setting.ensures.asked
