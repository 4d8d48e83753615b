-- The resources of a link device: what it may be set to, and what it is set to (ACPI 6.5, 6.2.2 and 6.2.12).
use Rattle.std.specs.Prelude.{ℕ, List, [], Option, Some, None, Err}
use Rattle.ar_space.specs.declared.refusal.Refusal.TheVariants as refusal
use Rattle.ar_space.specs.declared.refusal.RoutingFault.TheVariants.{NoOffer}
use Rattle.ar_space.specs.Accesses.{Accesses}
use Rattle.ar_space.specs.Outcome.{Outcome}
use Rattle.ar_space.specs.Change.{Change, settle, ◌>>=◌}
use Rattle.aml_path.specs.declared.segment.Seg.{Seg}
use Rattle.aml_path.specs.Text.{text_of}
use Rattle.acpi_resources.specs.Records.{InterruptOffer}
use Rattle.aml_world.specs.declared.state.profile.Profile.{Profile}
use Rattle.aml_world.specs.declared.state.profile.Profile.TheVariants.{Core, Wide}
use Rattle.acpi_resources.specs.declared.exclusives.Exclusives.{Exclusives}
use Rattle.acpi_resources.specs.declared.exclusives.Exclusives.TheVariants.{Refused, Taken}
use Rattle.acpi_resources.specs.Offers.{possible_as}
use Rattle.aml_world.specs.state.Given.{Given}
use Rattle.acpi_machine.specs.Children.{child_evaluated}
use Rattle.acpi_machine.specs.MachineStates.{MachineState}
use Rattle.acpi_links.specs.Answered.{bytes_in, numbers_of}
use Rattle.acpi_links.specs.ObjectNames.{prs, crs}

-- exclusive offers are taken in the wide profile alone
abbrev pub exclusives_in : Profile → Exclusives
exclusives_in Core = Refused
exclusives_in Wide = Taken

-- the offer that bytes are, in the machine's profile
unfoldable pub offer_in : {S : Type 0} → List ℕ → Change (MachineState S) InterruptOffer
offer_in bytes s = (possible_as (exclusives_in s.world.profile) bytes, s)

-- the bytes that _PRS answered: a link without _PRS offers nothing
abbrev pub offered_bytes : List Seg → Option Given → Outcome (List ℕ)
offered_bytes link None = Err (refusal.Routing (NoOffer (text_of link)))
offered_bytes link (Some g) = bytes_in g

-- accesses: what the register space makes of them
module _ {S : Type 0} (accesses : Accesses S) where
  -- what a link may be set to
  unfoldable pub possible_resources : List Seg → Change (MachineState S) InterruptOffer
  possible_resources link = do
    answer ← child_evaluated accesses link prs []
    bytes ← settle (offered_bytes link answer)
    offer_in bytes

  -- what a link is set to
  unfoldable pub current_resources : List Seg → Change (MachineState S) (Option (List ℕ))
  current_resources link = do
    answer ← child_evaluated accesses link crs []
    settle (numbers_of answer)
