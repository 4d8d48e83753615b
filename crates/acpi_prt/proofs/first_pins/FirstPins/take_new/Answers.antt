use Rattle.acpi_prt.proofs.Places.{stood, is_new}
use Rattle.acpi_prt.proofs.first_pins.FirstPins.take_new.Goals as goal

pub returns-then-not-branch : goal.returns-then-not-branch
returns-then-not-branch c = stood _ _ c.self.inside.places c.args.pin _ _ c.self.view_is c.self.invariant c.place_of.ensures c.in_ok-insert.ensures.added c.if-not-branch.true

pub returns : goal.returns
returns c = is_new _ _ _ c.self.inside.places c.args.pin _ _ c.self.view_is c.self.invariant c.place_of.ensures c.in_ok-insert.ensures.added c.if-not-branch.false c.in_ok-push.ensures.items
