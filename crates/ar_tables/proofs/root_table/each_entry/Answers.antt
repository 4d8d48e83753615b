use Rattle.std.proofs.Common.{◌∙◌, ap, sym}
use Rattle.ar_space.specs.Each.{each, following}
use Rattle.ar_space.proofs.EachInTurn.{each_start}
use Rattle.ar_tables.specs.Lists.{entry_at, entries_at}
use Rattle.ar_tables.proofs.Turns.{list_turn, list_refused, list_done}
use Rattle.ar_tables.proofs.root_table.each_entry.Goals as goal

pub loop-address-init : goal.loop-address-init
loop-address-init c =
    each_start (entry_at c.args.image.now) c.args.addresses.now ∙ ap (λ done. following done (each (entry_at c.args.image.now) c.args.addresses.now)) (sym c.new-entries.ensures.items)

pub loop-address-preserved : goal.loop-address-preserved
loop-address-preserved c =
    rw c.in_ok-push.ensures.items (list_turn (entry_at c.args.image.now) c.args.addresses.now c.loop-address.address-index 0 c.loop-address.entries.items _ c.loop-address.invariant c.in_ok-entry_at.field-0 c.loop-address-test.true c.in_ok-entry_at.ensures)

pub returns-in_err-entry_at : goal.returns-in_err-entry_at
unfolding entries_at
returns-in_err-entry_at c =
    list_refused (entry_at c.args.image.now) c.args.addresses.now c.loop-address.address-index 0 c.loop-address.entries.items _ c.loop-address.invariant c.in_err-entry_at.field-0.0 c.from_residual.result _ c.loop-address-test.true c.in_err-entry_at.ensures c.from_residual.ensures

pub returns : goal.returns
unfolding entries_at
returns c = list_done (entry_at c.args.image.now) c.args.addresses.now c.loop-address.address-index 0 c.loop-address.entries.items _ c.loop-address.invariant c.loop-address-test.false
