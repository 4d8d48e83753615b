use Rattle.std.proofs.Common.{◌∙◌}
use Rattle.acpi_links.specs.Gatherings.{gathered}
use Rattle.acpi_explain.specs.Halting.{IsHalted}
use Rattle.acpi_explain.specs.Stages.{IsRefusedAt}
use Rattle.acpi_explain.proofs.Found.{tables_halted, pins_halted, pins_are_found, many_halted, all_asked, all_halted}
use Rattle.acpi_explain.proofs.Halted.{handed}
use Rattle.acpi_explain.proofs.objects.ask_all.Goals as goal

pub returns-in_err-pins-clause-halted : goal.returns-in_err-pins-clause-halted
returns-in_err-pins-clause-halted g c =
    handed _ _ (λ h. IsHalted (gathered g.S.Space.accesses c.args.avoid.now) (λ stage s e. IsRefusedAt g.S.Space.accesses c.args.avoid.now stage c.args.machine.now s e) c.args.machine.now c.read_tables.new.machine h) c.from_residual-in_err-pins.ensures
    (tables_halted g.S.Space.accesses c.args.avoid.now c.args.machine.now c.read_tables.new.machine _ (rw (c.deref.ensures.value, c.in_ok-devices.ensures) at c.in_err-pins.ensures.halted))

pub returns-in_err-test_pins-clause-halted : goal.returns-in_err-test_pins-clause-halted
returns-in_err-test_pins-clause-halted g c =
    let read = rw (c.deref.ensures.value, c.in_ok-devices.ensures) at c.in_ok-pins.ensures.read in
    handed _ _ (λ h. IsHalted (gathered g.S.Space.accesses c.args.avoid.now) (λ stage s e. IsRefusedAt g.S.Space.accesses c.args.avoid.now stage c.args.machine.now s e) c.args.machine.now c.read_tables.new.machine h) c.from_residual-in_err-test_pins.ensures
    (pins_halted g.S.Space.accesses c.args.avoid.now c.args.machine.now c.read_tables.new.machine c.in_ok-pins.pins.items _ read (rw (c.sci-sci.ensures, c.deref-2.ensures.value) at c.in_err-test_pins.ensures.halted))

pub returns-in_err-test_links-clause-halted : goal.returns-in_err-test_links-clause-halted
returns-in_err-test_links-clause-halted g c =
    let read = rw (c.deref.ensures.value, c.in_ok-devices.ensures) at c.in_ok-pins.ensures.read in
    let few = rw (c.sci-sci.ensures, c.deref-2.ensures.value) at c.in_ok-test_pins.ensures.is in
    let found = pins_are_found g.S.Space.accesses c.args.avoid.now c.args.machine.now c.read_tables.new.machine c.in_ok-pins.pins.items read few in
    handed _ _ (λ h. IsHalted (gathered g.S.Space.accesses c.args.avoid.now) (λ stage s e. IsRefusedAt g.S.Space.accesses c.args.avoid.now stage c.args.machine.now s e) c.args.machine.now c.read_tables.new.machine h) c.from_residual-in_err-test_links.ensures
    (many_halted g.S.Space.accesses c.args.avoid.now c.args.machine.now c.read_tables.new.machine c.in_ok-pins.pins.items _ found (rw (c.deref-4.ensures.value, c.in_ok-links.ensures, c.deref-3.ensures.value) at c.in_err-test_links.ensures.halted))

pub returns-clause-asked : goal.returns-clause-asked
returns-clause-asked g c =
    let read = rw (c.deref.ensures.value, c.in_ok-devices.ensures) at c.in_ok-pins.ensures.read in
    let few = rw (c.sci-sci.ensures, c.deref-2.ensures.value) at c.in_ok-test_pins.ensures.is in
    let found = pins_are_found g.S.Space.accesses c.args.avoid.now c.args.machine.now c.read_tables.new.machine c.in_ok-pins.pins.items read few in
    let links = rw (c.deref-4.ensures.value, c.in_ok-links.ensures, c.deref-3.ensures.value) at c.in_ok-test_links.ensures.is in
    all_asked g.S.Space.accesses c.args.avoid.now c.args.machine.now c.read_tables.new.machine c.ask_links.new.machine c.in_ok-pins.pins.items c.deref-5.result.now c.ask_links.result found links
    (c.deref-5.ensures.value ∙ (rw c.deref-3.ensures.value at c.in_ok-links.ensures)) c.ask_links.ensures.asked

pub returns-clause-halted : goal.returns-clause-halted
returns-clause-halted g c =
    let read = rw (c.deref.ensures.value, c.in_ok-devices.ensures) at c.in_ok-pins.ensures.read in
    let few = rw (c.sci-sci.ensures, c.deref-2.ensures.value) at c.in_ok-test_pins.ensures.is in
    let found = pins_are_found g.S.Space.accesses c.args.avoid.now c.args.machine.now c.read_tables.new.machine c.in_ok-pins.pins.items read few in
    let links = rw (c.deref-4.ensures.value, c.in_ok-links.ensures, c.deref-3.ensures.value) at c.in_ok-test_links.ensures.is in
    all_halted g.S.Space.accesses c.args.avoid.now c.args.machine.now c.read_tables.new.machine c.ask_links.new.machine c.in_ok-pins.pins.items c.deref-5.result.now c.ask_links.result found links
    (c.deref-5.ensures.value ∙ (rw c.deref-3.ensures.value at c.in_ok-links.ensures)) c.ask_links.ensures.halted
