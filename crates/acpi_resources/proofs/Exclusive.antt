-- Readings of a _PRS with exclusive offers and without.
use Rattle.std.proofs.Common.{◌≡◌, ◌==◌, ℕ, Bool, true, false, not, if◌then◌else◌, List, [], ◌∷◌, length, Option, Some, None, Ok, Err, refl, sym, ap, ◌∙◌}
use Rattle.std.specs.Prelude.{◌↔◌}
use Rattle.ar_space.specs.Outcome.{Outcome, ◌>>=◌}
use Rattle.ar_space.specs.declared.refusal.Refusal.TheVariants.{Resource}
use Rattle.ar_space.specs.declared.refusal.ResourceFault.TheVariants as fault
use Rattle.acpi_resources.specs.declared.descriptor.Descriptor.{Descriptor}
use Rattle.acpi_resources.specs.declared.descriptor.Descriptor.TheVariants.{Interrupts, DependentFunctions, EndTag, Other}
use Rattle.acpi_resources.specs.declared.exclusives.Exclusives.TheVariants.{Refused, Taken}
use Rattle.acpi_resources.specs.FlagByte.{is_edge, is_shared}
use Rattle.acpi_resources.specs.Items.{ResourceItem, items_of}
use Rattle.acpi_resources.specs.Numbers.{set_of}
use Rattle.acpi_resources.specs.Records.{InterruptOffer, interrupt_offer}
use Rattle.acpi_resources.specs.Descriptors.{descriptor_of}
use Rattle.acpi_resources.specs.Offers.{offer_of, the_offer, offered_from, offered, possible_as, possible_of}

abbrev Behind : Type 0
Behind = Option InterruptOffer → Outcome InterruptOffer

-- ---- once an offer is found, exclusive ones are no matter: another interrupt descriptor is one too many

found_same : (r : Outcome Descriptor) (x y : Behind) (f : InterruptOffer) → (r >>= (λ d. offered_from Refused x (Some f) d)) ≡ (r >>= (λ d. offered_from Taken y (Some f) d))
unfolding offered_from the_offer ◌>>=◌
found_same (Err e) x y f = refl
found_same (Ok (Interrupts d)) x y f = refl
found_same (Ok DependentFunctions) x y f = refl
found_same (Ok EndTag) x y f = refl
found_same (Ok (Other tag)) x y f = refl

items_same : (items : List ResourceItem) (f : InterruptOffer) → offered Refused (Some f) items ≡ offered Taken (Some f) items
unfolding offered
items_same [] f = refl
items_same (item ∷ items) f = found_same (descriptor_of item) _ _ f

found_kept : (r : Outcome Descriptor) (y : Behind) (f offer : InterruptOffer) → (r >>= (λ d. offered_from Taken y (Some f) d)) ≡ Ok offer → offer ≡ f
unfolding offered_from the_offer ◌>>=◌
found_kept (Err e) y f offer h = absurd (cc h)
found_kept (Ok (Interrupts d)) y f offer h = absurd (cc h)
found_kept (Ok DependentFunctions) y f offer h = absurd (cc h)
found_kept (Ok EndTag) y f offer h = cc h
found_kept (Ok (Other tag)) y f offer h = absurd (cc h)

items_kept : (items : List ResourceItem) (f offer : InterruptOffer) → offered Taken (Some f) items ≡ Ok offer → offer ≡ f
unfolding offered
items_kept [] f offer h = absurd (cc h)
items_kept (item ∷ items) f offer h = found_kept (descriptor_of item) _ f offer h

-- ---- the offer of one descriptor, and what is behind it

-- the tests of a descriptor, by what they find
tested : Bool → Bool → Bool → Bool → InterruptOffer → Outcome InterruptOffer
tested edge barred source none o =
    if edge then Err (Resource fault.Edge)
    else (if barred then Err (Resource fault.Exclusive)
    else (if source then Err (Resource fault.Source)
    else (if none then Err (Resource fault.NoInterrupt)
    else Ok o)))

module _ (x y : Behind) (o offer : InterruptOffer) (same : x (Some o) ≡ y (Some o)) (kept : y (Some o) ≡ Ok offer → offer ≡ o) where
  tested_wider : (edge shared source none : Bool) → (tested edge (not shared) source none o >>= (λ o. x (Some o))) ≡ Ok offer
      → ((tested edge false source none o >>= (λ o. y (Some o))) ≡ Ok offer) × ((offer ≡ o) × (shared ≡ true))
  unfolding tested ◌>>=◌
  tested_wider true shared source none h = absurd (cc h)
  tested_wider false false source none h = absurd (cc h)
  tested_wider false true true none h = absurd (cc h)
  tested_wider false true false true h = absurd (cc h)
  tested_wider false true false false h = (sym same ∙ h, (kept (sym same ∙ h), refl))

  tested_narrower : (edge shared source none : Bool) → (tested edge false source none o >>= (λ o. y (Some o))) ≡ Ok offer → (offer ≡ o → shared ≡ true)
      → (tested edge (not shared) source none o >>= (λ o. x (Some o))) ≡ Ok offer
  unfolding tested ◌>>=◌
  tested_narrower true shared source none h is = absurd (cc h)
  tested_narrower false shared true none h is = absurd (cc h)
  tested_narrower false shared false true h is = absurd (cc h)
  tested_narrower false shared false false h is = rw (is (kept h)) (same ∙ h)

-- ---- the first item

module _ (x y : Behind) (offer : InterruptOffer) (same : (o : InterruptOffer) → x (Some o) ≡ y (Some o)) (kept : (o : InterruptOffer) → y (Some o) ≡ Ok offer → offer ≡ o) where
  wider : (r : Outcome Descriptor) → (r >>= (λ d. offered_from Refused x None d)) ≡ Ok offer
      → ((r >>= (λ d. offered_from Taken y None d)) ≡ Ok offer) × (is_shared offer.form offer.flags ≡ true)
  unfolding offered_from the_offer offer_of tested ◌>>=◌
  wider (Err e) h = absurd (cc h)
  wider (Ok (Interrupts d)) h =
      let o : InterruptOffer = interrupt_offer (set_of d.numbers) d.form d.flags in
      let w = tested_wider x y o offer (same o) (kept o) (is_edge d.form d.flags) (is_shared d.form d.flags) d.has_source (length (set_of d.numbers) == 0) h in
      (w.0, ap (λ (o : InterruptOffer). is_shared o.form o.flags) w.1.0 ∙ w.1.1)
  wider (Ok DependentFunctions) h = absurd (cc h)
  wider (Ok EndTag) h = absurd (cc h)
  wider (Ok (Other tag)) h = absurd (cc h)

  narrower : (r : Outcome Descriptor) → (r >>= (λ d. offered_from Taken y None d)) ≡ Ok offer → is_shared offer.form offer.flags ≡ true
      → (r >>= (λ d. offered_from Refused x None d)) ≡ Ok offer
  unfolding offered_from the_offer offer_of tested ◌>>=◌
  narrower (Err e) h shared = absurd (cc h)
  narrower (Ok (Interrupts d)) h shared =
      let o : InterruptOffer = interrupt_offer (set_of d.numbers) d.form d.flags in
      tested_narrower x y o offer (same o) (kept o) (is_edge d.form d.flags) (is_shared d.form d.flags) d.has_source (length (set_of d.numbers) == 0) h
      (λ e. sym (ap (λ (o : InterruptOffer). is_shared o.form o.flags) e) ∙ shared)
  narrower (Ok DependentFunctions) h shared = absurd (cc h)
  narrower (Ok EndTag) h shared = absurd (cc h)
  narrower (Ok (Other tag)) h shared = absurd (cc h)

items_wider : (items : List ResourceItem) (offer : InterruptOffer) → offered Refused None items ≡ Ok offer → (offered Taken None items ≡ Ok offer) × (is_shared offer.form offer.flags ≡ true)
unfolding offered
items_wider [] offer h = absurd (cc h)
items_wider (item ∷ items) offer h = wider _ _ offer (items_same items) (λ o. items_kept items o offer) (descriptor_of item) h

items_narrower : (items : List ResourceItem) (offer : InterruptOffer) → offered Taken None items ≡ Ok offer → is_shared offer.form offer.flags ≡ true → offered Refused None items ≡ Ok offer
unfolding offered
items_narrower [] offer h shared = absurd (cc h)
items_narrower (item ∷ items) offer h shared = narrower _ _ offer (items_same items) (λ o. items_kept items o offer) (descriptor_of item) h shared

pub only_exclusive : (bytes : List ℕ) (offer : InterruptOffer) → possible_of bytes ≡ Ok offer ↔ (possible_as Taken bytes ≡ Ok offer) × (is_shared offer.form offer.flags ≡ true)
unfolding possible_as
only_exclusive bytes offer = (λ h. items_wider (items_of bytes) offer h, λ h. items_narrower (items_of bytes) offer h.0 h.1)
