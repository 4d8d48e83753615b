-- What a link device may be set to, by the value of its _PRS (ACPI 6.5, 6.2.12).
use Rattle.std.specs.Prelude.{ℕ, ◌==◌, Bool, false, not, if◌then◌else◌, List, [], ◌∷◌, length, Option, Some, None, Ok, Err, ok_or}
use Rattle.ar_space.specs.Outcome.{Outcome, ◌>>=◌}
use Rattle.ar_space.specs.declared.refusal.Refusal.TheVariants.{Resource}
use Rattle.ar_space.specs.declared.refusal.ResourceFault.TheVariants as fault
use Rattle.acpi_resources.specs.declared.descriptor.Descriptor.{Descriptor}
use Rattle.acpi_resources.specs.declared.descriptor.Descriptor.TheVariants.{Interrupts, DependentFunctions, EndTag, Other}
use Rattle.acpi_resources.specs.declared.exclusives.Exclusives.{Exclusives}
use Rattle.acpi_resources.specs.declared.exclusives.Exclusives.TheVariants.{Refused, Taken}
use Rattle.acpi_resources.specs.declared.form.Form.{Form}
use Rattle.acpi_resources.specs.FlagByte.{is_edge, is_shared}
use Rattle.acpi_resources.specs.Items.{ResourceItem, items_of}
use Rattle.acpi_resources.specs.Numbers.{set_of}
use Rattle.acpi_resources.specs.Records.{InterruptDescriptor, InterruptOffer, interrupt_offer}
use Rattle.acpi_resources.specs.Descriptors.{descriptor_of}

-- whether an offer is refused because it is exclusive
abbrev pub is_barred : Exclusives → Form → ℕ → Bool
is_barred Refused form flags = not (is_shared form flags)
is_barred Taken form flags = false

-- exclusives: what becomes of exclusive offers
module _ (exclusives : Exclusives) where
  -- the offer of one interrupt descriptor: level-triggered, not barred, of this interrupt controller, and of some number
  unfoldable pub offer_of : InterruptDescriptor → Outcome InterruptOffer
  offer_of d =
      if is_edge d.form d.flags then Err (Resource fault.Edge)
      else (if is_barred exclusives d.form d.flags then Err (Resource fault.Exclusive)
      else (if d.has_source then Err (Resource fault.Source)
      else (if length (set_of d.numbers) == 0 then Err (Resource fault.NoInterrupt)
      else Ok (interrupt_offer (set_of d.numbers) d.form d.flags))))

  -- the one interrupt descriptor's offer, after what was found before it
  unfoldable pub the_offer : Option InterruptOffer → InterruptDescriptor → Outcome InterruptOffer
  the_offer (Some found) d = Err (Resource fault.Several)
  the_offer None d = offer_of d

  -- what a descriptor adds to what was found before it, and then what is behind it
  unfoldable pub offered_from : (Option InterruptOffer → Outcome InterruptOffer) → Option InterruptOffer → Descriptor → Outcome InterruptOffer
  offered_from behind found (Interrupts d) = the_offer found d >>= (λ offer. behind (Some offer))
  offered_from behind found DependentFunctions = Err (Resource fault.Dependent)
  offered_from behind found EndTag = ok_or found (Resource fault.NoInterrupt)
  offered_from behind found (Other tag) = Err (Resource (fault.Descriptor tag))

  -- the items one by one, up to the end tag: the first with a fault decides
  unfoldable pub offered : Option InterruptOffer → List ResourceItem → Outcome InterruptOffer
  offered found [] = Err (Resource fault.NoEnd)
  offered found (item ∷ items) = descriptor_of item >>= (λ d. offered_from (λ now. offered now items) found d)

  -- what the bytes of a _PRS offer
  unfoldable pub possible_as : List ℕ → Outcome InterruptOffer
  possible_as bytes = offered None (items_of bytes)

-- the same, where exclusive offers are refused
abbrev pub possible_of : List ℕ → Outcome InterruptOffer
possible_of bytes = possible_as Refused bytes
