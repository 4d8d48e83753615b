-- Whether a link device is present (ACPI 6.5, 6.3.7).
use Rattle.std.specs.Prelude.{◌%◌, ◌==◌, List, [], Bool, true, Option, Some, None, Ok, Err}
use Rattle.ar_space.specs.declared.refusal.Refusal.TheVariants as refusal
use Rattle.ar_space.specs.declared.refusal.ValueFault.TheVariants.{WrongType}
use Rattle.ar_space.specs.Accesses.{Accesses}
use Rattle.ar_space.specs.Outcome.{Outcome}
use Rattle.ar_space.specs.Change.{Change, settle, ◌>>=◌}
use Rattle.aml_path.specs.declared.segment.Seg.{Seg}
use Rattle.aml_world.specs.state.Given as given
use Rattle.acpi_machine.specs.MachineStates.{MachineState}
use Rattle.acpi_machine.specs.Children.{child_evaluated}
use Rattle.acpi_links.specs.ObjectNames.{sta}

-- bit 0 of an integer; no other value is taken
abbrev pub presence : given.Given → Outcome Bool
presence given.Nothing = Err (refusal.Value WrongType)
presence (given.Integer n) = Ok (n % 2 == 1)
presence (given.Text bs) = Err (refusal.Value WrongType)
presence (given.Bytes bs) = Err (refusal.Value WrongType)
presence (given.Package gs) = Err (refusal.Value WrongType)
presence (given.Named p) = Err (refusal.Value WrongType)
presence given.Reference = Err (refusal.Value WrongType)

-- by what _STA answered, if there is one: a device without is present
abbrev pub presence_of : Option given.Given → Outcome Bool
presence_of None = Ok true
presence_of (Some g) = presence g

-- accesses: what the register space makes of them
unfoldable pub is_present : {S : Type 0} → Accesses S → List Seg → Change (MachineState S) Bool
is_present accesses link = do
  answer ← child_evaluated accesses link sta []
  settle (presence_of answer)
