use Rattle.std.proofs.Common.{◌∙◌, ap, sym}
use Rattle.ar_space.specs.Each.{each, following}
use Rattle.ar_space.proofs.EachInTurn.{each_start}
use Rattle.ar_tables.specs.declared.table.TableKind.TheVariants.{Ssdt}
use Rattle.ar_tables.specs.Headers.{table_at}
use Rattle.ar_tables.specs.FindTables.{ssdts_at}
use Rattle.ar_tables.proofs.Turns.{list_turn, list_refused, list_done}
use Rattle.ar_tables.proofs.tables.each_ssdt.Goals as goal

pub loop-address-init : goal.loop-address-init
loop-address-init c =
    each_start (table_at c.args.image.now Ssdt) c.args.addresses.now ∙ ap (λ done. following done (each (table_at c.args.image.now Ssdt) c.args.addresses.now)) (sym c.new-tables.ensures.items)

pub loop-address-preserved : goal.loop-address-preserved
loop-address-preserved c =
    rw c.in_ok-push.ensures.items (list_turn (table_at c.args.image.now Ssdt) c.args.addresses.now c.loop-address.address-index 0 c.loop-address.tables.items _ c.loop-address.invariant c.in_ok-table_at.field-0 c.loop-address-test.true c.in_ok-table_at.ensures.value)

pub returns-in_err-table_at : goal.returns-in_err-table_at
unfolding ssdts_at
returns-in_err-table_at c =
    list_refused (table_at c.args.image.now Ssdt) c.args.addresses.now c.loop-address.address-index 0 c.loop-address.tables.items _ c.loop-address.invariant c.in_err-table_at.field-0.0 c.from_residual.result _ c.loop-address-test.true c.in_err-table_at.ensures.value c.from_residual.ensures

pub returns : goal.returns
unfolding ssdts_at
returns c = list_done (table_at c.args.image.now Ssdt) c.args.addresses.now c.loop-address.address-index 0 c.loop-address.tables.items _ c.loop-address.invariant c.loop-address-test.false
