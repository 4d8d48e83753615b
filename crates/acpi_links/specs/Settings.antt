-- Setting a link device to an interrupt that it offers (ACPI 6.5, 6.2.16).
use Rattle.std.specs.Prelude.{ℕ, List, [], ◌∷◌, Bool}
use Rattle.std.specs.Option.{is_some}
use Rattle.ar_space.specs.Accesses.{Accesses}
use Rattle.ar_space.specs.Change.{Change, give, ◌>>=◌}
use Rattle.aml_path.specs.declared.segment.Seg.{Seg}
use Rattle.aml_world.specs.state.Given.{Bytes}
use Rattle.acpi_resources.specs.Records.{InterruptOffer}
use Rattle.acpi_resources.specs.Settings.{setting_of}
use Rattle.acpi_machine.specs.Children.{child_evaluated}
use Rattle.acpi_machine.specs.MachineStates.{MachineState}
use Rattle.acpi_links.specs.ObjectNames.{srs}

-- a link is set to an interrupt, if it has _SRS: the setting is the one argument
unfoldable pub resources_set : {S : Type 0} → Accesses S → List Seg → InterruptOffer → ℕ → Change (MachineState S) Bool
resources_set accesses link offer n = do
  answer ← child_evaluated accesses link srs (Bytes (setting_of offer n) ∷ [])
  give (is_some answer)
