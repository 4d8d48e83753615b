-- What the core profile and the wide one make of a `_HID` and of an offer: the same, or the core profile refuses it.
use Rattle.std.specs.Prelude.{◌≡◌, ◌⊎◌, ℕ, ◌*◌, ◌==◌, ◌||◌, nat_le, Bool, true, false, not, List, [], ◌∷◌, length, Option, Some, None, Ok, Err, if◌then◌else◌, refl}
use Rattle.std.proofs.Common.{inl, inr, sym, subst, ap}
use Rattle.ar_space.specs.declared.refusal.Refusal.{Refusal}
use Rattle.ar_space.specs.declared.refusal.Refusal.TheVariants.{Resource, RoutingTable}
use Rattle.ar_space.specs.declared.refusal.ResourceFault.TheVariants.{Edge, Exclusive}
use Rattle.ar_space.specs.declared.refusal.RoutingTableFault.TheVariants.{NotALink}
use Rattle.ar_space.specs.Accesses.{Accesses}
use Rattle.ar_space.specs.Outcome.{Outcome, ◌>>=◌}
use Rattle.aml_path.specs.declared.segment.Seg.{Seg}
use Rattle.aml_namespace.specs.Namespace.{Map}
use Rattle.aml_world.specs.declared.state.profile.Profile.{Profile}
use Rattle.aml_world.specs.declared.state.profile.Profile.TheVariants.{Core, Wide}
use Rattle.acpi_resources.specs.declared.exclusives.Exclusives.TheVariants.{Refused, Taken}
use Rattle.acpi_resources.specs.Descriptors.{descriptor_of, extended_interrupt_descriptor}
use Rattle.acpi_resources.specs.FlagByte.{is_edge, is_shared}
use Rattle.acpi_resources.specs.Items.{ResourceItem, items_of}
use Rattle.acpi_resources.specs.Offers.{offer_of, the_offer, offered_from, offered, possible_as}
use Rattle.acpi_resources.specs.Records.{InterruptDescriptor, InterruptOffer}
use Rattle.acpi_machine.specs.Kinds as kind
use Rattle.acpi_machine.specs.Kinds.{Kind, kind_at}
use Rattle.acpi_prt.specs.Finding.{followed, id_or_not, id_in}
use Rattle.aml_laws.proofs.Together.{Sides, IsEnded}

-- the left outcome ends the likeness, or the right one is the same
abbrev pub Told : {A : Type 0} → (Refusal → Type 0) → Outcome A → Outcome A → Type 0
Told Ends r q = IsEnded Ends r ⊎ (q ≡ r)

-- the right machine is in the same profile, or the likeness ends where the left one refuses a `_HID` or an exclusive offer
abbrev pub Asks : {S T : Type 0} {accesses : Accesses S} {accesses2 : Accesses T} → Sides accesses accesses2 → Type 0
Asks side = (side.raise.0 Core ≡ Core) ⊎ (side.Ends (RoutingTable NotALink) × side.Ends (Resource Exclusive))

told_in : {A : Type 0} (Ends : Refusal → Type 0) (f : Profile → Outcome A) → Told Ends (f Core) (f Wide) → (p : Profile) → Told Ends (f Core) (f p)
told_in Ends f told Core = inr refl
told_in Ends f told Wide = told

-- what is asked of the profiles of two machines
pub profile_asked : {S T A : Type 0} {accesses : Accesses S} {accesses2 : Accesses T} (side : Sides accesses accesses2) → Asks side → (f : Profile → Outcome A)
    → (side.Ends (RoutingTable NotALink) × side.Ends (Resource Exclusive) → Told side.Ends (f Core) (f Wide)) → (p : Profile) → Told side.Ends (f p) (f (side.raise.0 p))
profile_asked side asks f told Wide = inr (ap f side.wide_stays)
profile_asked side (inl stays) f told Core = inr (ap f stays)
profile_asked side (inr ends) f told Core = told_in side.Ends f (told ends) (side.raise.0 Core)

-- ---- the `_HID` of a device

id_told : (Ends : Refusal → Type 0) → Ends (RoutingTable NotALink) → (q : List Seg) (k : Option Kind) → Told {A = List Seg} Ends (id_or_not Core k >>= (λ u. Ok q)) (id_or_not Wide k >>= (λ u. Ok q))
unfolding ◌>>=◌
id_told Ends ends q (Some (kind.Method count)) = inl ends
id_told Ends ends q k = inr refl

pub id_withheld : (Ends : Refusal → Type 0) (m : Map) (p : List Seg) → Ends (RoutingTable NotALink) → Told Ends (id_in Core m p) (id_in Wide m p)
unfolding id_in ◌>>=◌
id_withheld Ends m p ends = id_told Ends ends (followed m p) (kind_at m (followed m p))

-- ---- offers

module _ (Ends : Refusal → Type 0) (ends : Ends (Resource Exclusive)) where
  then_told : {A B : Type 0} (r q : Outcome A) (k l : A → Outcome B) → Told Ends r q → ((a : A) → Told Ends (k a) (l a)) → Told Ends (r >>= k) (q >>= l)
  unfolding ◌>>=◌
  then_told (Ok a) q k l (inl ended) h = absurd ended
  then_told (Err e) q k l (inl ended) h = inl ended
  then_told (Ok a) q k l (inr same) h = subst (λ (x : Outcome _). Told Ends (k a) (x >>= l)) (sym same) (h a)
  then_told (Err e) q k l (inr same) h = inr (ap (λ (x : Outcome _). x >>= l) same)

  tested_told : (edge shared : Bool) (x : Outcome InterruptOffer)
      → Told Ends (if edge then Err (Resource Edge) else (if not shared then Err (Resource Exclusive) else x)) (if edge then Err (Resource Edge) else (if false then Err (Resource Exclusive) else x))
  tested_told true shared x = inr refl
  tested_told false true x = inr refl
  tested_told false false x = inl ends

  offer_of_told : (d : InterruptDescriptor) → Told Ends (offer_of Refused d) (offer_of Taken d)
  unfolding offer_of
  offer_of_told d = tested_told (is_edge d.form d.flags) (is_shared d.form d.flags) _

  the_offer_told : (found : Option InterruptOffer) (d : InterruptDescriptor) → Told Ends (the_offer Refused found d) (the_offer Taken found d)
  unfolding the_offer
  the_offer_told (Some offer) d = inr refl
  the_offer_told None d = offer_of_told d

  -- either of two descriptors, and what follows from it
  either_told : {A B : Type 0} (first : Bool) (x y : Outcome A) (k l : A → Outcome B) → Told Ends (x >>= k) (x >>= l) → Told Ends (y >>= k) (y >>= l) → Told Ends ((if first then x else y) >>= k) ((if first then x else y) >>= l)
  either_told true x y k l h i = h
  either_told false x y k l h i = i

  -- x, y: what is behind a descriptor
  module _ (x y : Option InterruptOffer → Outcome InterruptOffer) (behind : (now : Option InterruptOffer) → Told Ends (x now) (y now)) (found : Option InterruptOffer) where
    one_told : (d : InterruptDescriptor) → Told Ends (the_offer Refused found d >>= (λ offer. x (Some offer))) (the_offer Taken found d >>= (λ offer. y (Some offer)))
    one_told d = then_told (the_offer Refused found d) (the_offer Taken found d) (λ offer. x (Some offer)) (λ offer. y (Some offer)) (the_offer_told found d) (λ offer. behind (Some offer))

    extended_told : (body : List ℕ) → Told Ends (extended_interrupt_descriptor body >>= (λ d. offered_from Refused x found d)) (extended_interrupt_descriptor body >>= (λ d. offered_from Taken y found d))
    unfolding extended_interrupt_descriptor offered_from ◌>>=◌
    extended_told [] = inr refl
    extended_told (flags ∷ []) = inr refl
    extended_told (flags ∷ count ∷ bytes) = either_told (nat_le (4 * count) (length bytes)) _ _ _ _ (one_told _) (inr refl)

    item_told : (item : ResourceItem) → Told Ends (descriptor_of item >>= (λ d. offered_from Refused x found d)) (descriptor_of item >>= (λ d. offered_from Taken y found d))
    unfolding descriptor_of offered_from ◌>>=◌
    item_told item =
        either_told (item.tag == 0x22) _ _ _ _ (one_told _) (either_told (item.tag == 0x23) _ _ _ _ (one_told _) (either_told (item.tag == 0x89) _ _ _ _ (extended_told item.body)
        (either_told (item.tag == 0x79) _ _ _ _ (inr refl) (either_told (((item.tag == 0x30) || (item.tag == 0x31)) || (item.tag == 0x38)) _ _ _ _ (inr refl) (inr refl)))))

  offered_told : (items : List ResourceItem) (found : Option InterruptOffer) → Told Ends (offered Refused found items) (offered Taken found items)
  unfolding offered
  offered_told [] found = inr refl
  offered_told (item ∷ items) found = item_told (λ now. offered Refused now items) (λ now. offered Taken now items) (offered_told items) found item

pub offer_withheld : (Ends : Refusal → Type 0) (bytes : List ℕ) → Ends (Resource Exclusive) → Told Ends (possible_as Refused bytes) (possible_as Taken bytes)
unfolding possible_as
offer_withheld Ends bytes ends = offered_told Ends ends (items_of bytes) None
