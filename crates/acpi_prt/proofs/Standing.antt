-- What stands at a path is found without a change of the machine.
use Rattle.std.proofs.Common.{ap, List}
use Rattle.ar_space.specs.Outcome.{Outcome, Answers}
use Rattle.ar_space.specs.Change.{Does}
use Rattle.ar_space.proofs.Outcomes.{answering}
use Rattle.aml_path.specs.declared.segment.Seg.{Seg}
use Rattle.acpi_machine.specs.MachineStates.{MachineState}
use Rattle.acpi_prt.specs.Finding.{device_in, id_in}
use Rattle.acpi_prt.specs.Links.{device_at, id_at}

module _ {S : Type 0} {r : Outcome (List Seg)} {s : MachineState S} where
  pub device_stands : (p : List Seg) → Answers r (device_in s.world.names.map p) → Does r s (device_at p) s
  unfolding device_at
  device_stands p h = record { is = λ ne. ap (λ x. (x, s)) (h.is ne) }

  pub id_stands : (p : List Seg) → Answers r (id_in s.world.profile s.world.names.map p) → Does r s (id_at p) s
  unfolding id_at
  id_stands p h = record { is = λ ne. ap (λ x. (x, s)) (h.is ne) }

pub ruleset standing = (answering, device_stands, id_stands)
