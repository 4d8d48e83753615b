use Rattle.std.proofs.Common.{◌∙◌, ap, sym}
use Rattle.std.specs.Prelude.{Ok, Some}
use Rattle.ar_space.specs.Bytes.{byte_accesses}
use Rattle.acpi_explain.specs.declared.told.Phase.TheVariants.{Loading}
use Rattle.watched_space.specs.Filling.{filled}
use Rattle.watched_space.specs.Metering.{metered}
use Rattle.watched_space.specs.MissingPlaces.{missing_places}
use Rattle.acpiroute_lib.specs.WhyCommand.{IsFilledMachine, IsFilledFrom}
use Rattle.acpiroute_lib.proofs.Endings.{machine_ended, loading_ended}
use Rattle.acpiroute_lib.proofs.Telling.{where_ok}
use Rattle.acpiroute_lib.proofs.watched_run.filled_tables.Goals as goal

pub returns-in-Ok-clause-run : goal.returns-in-Ok-clause-run
returns-in-Ok-clause-run c =
    where_ok c.filled_machine.result (λ f. IsFilledMachine c.args.asking.now c.in-Ok.machine f.0 f.1.items) (λ f. IsFilledFrom c.args.asking.now (Ok c.args.tables) c.args.osi.items c.args.space f.0 f.1.items)
    (λ f h. record {
      left = h.after.world.space;
      is_end = machine_ended (metered (filled byte_accesses)) c.args.asking.now f.0 c.args.tables c.args.osi.items c.args.space c.in-Ok.machine h.after c.in-Ok.ensures.world c.in-Ok.ensures.machine h.is_end;
      are_places = h.are_places;
    })
    c.filled_machine.ensures.run

pub returns-in_ok-places-in-Err-clause-run : goal.returns-in_ok-places-in-Err-clause-run
returns-in_ok-places-in-Err-clause-run c =
    record {
      left = c.in-Err.space;
      is_end = loading_ended (metered (filled byte_accesses)) c.args.asking.now (Some Loading) c.in-Err.refusal c.args.tables c.args.osi.items c.args.space c.in-Err.space c.in-Err.ensures.refusal c.in-Err.ensures.space;
      are_places = sym (c.in_ok-places-in-Err.ensures.places ∙ ap missing_places (c.missing.ensures ∙ ap (λ f. f.missing) c.inner.ensures));
    }
