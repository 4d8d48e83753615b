-- A setting, read as an offer.
use Rattle.std.proofs.Common.{◌≡◌, ◌==◌, ℕ, ◌^◌, ◌<◌, Bool, false, if◌then◌else◌, List, [], ◌∷◌, length, Option, Some, None, Ok, Err, refl, sym, ap, ◌∙◌, subst, below_none, below_more}
use Rattle.std.specs.Prelude.{Contains}
use Rattle.byteorder.specs.Endian.{little_number, little_bytes}
use Rattle.byteorder.specs.Numbers.{little_number-reads_back}
use Rattle.ar_space.specs.Outcome.{Outcome, ◌>>=◌}
use Rattle.ar_space.specs.declared.refusal.Refusal.TheVariants.{Resource}
use Rattle.ar_space.specs.declared.refusal.ResourceFault.TheVariants as fault
use Rattle.acpi_resources.specs.declared.exclusives.Exclusives.{Exclusives}
use Rattle.acpi_resources.specs.declared.form.Form.{Form}
use Rattle.acpi_resources.specs.declared.form.Form.TheVariants.{Small, Extended}
use Rattle.acpi_resources.specs.declared.descriptor.Descriptor.TheVariants.{Interrupts}
use Rattle.acpi_resources.specs.FlagByte.{is_edge, polarity_of}
use Rattle.acpi_resources.specs.Items.{ResourceItem, with_body, large_item, first_item, items_within, items_of}
use Rattle.acpi_resources.specs.Numbers.{numbers_of_mask, numbers_of_table, with_numbers, set_of}
use Rattle.acpi_resources.specs.Records.{InterruptDescriptor, InterruptOffer}
use Rattle.acpi_resources.specs.Sound.{IsOffer}
use Rattle.acpi_resources.specs.Descriptors.{irq_descriptor, extended_interrupt_descriptor, descriptor_of}
use Rattle.acpi_resources.specs.Offers.{is_barred, offer_of, the_offer, offered_from, offered, possible_as}
use Rattle.acpi_resources.specs.Settings.{setting_bytes, setting_of, offer_of_one}

-- the mask of one bit has that bit alone
IsAlone : ℕ → Type 0
IsAlone n = set_of (numbers_of_mask (little_number 2 (little_bytes 2 (2 ^ n)))) ≡ n ∷ []

mask_of_one : (n : ℕ) → n < 16 → set_of (numbers_of_mask (little_number 2 (little_bytes 2 (2 ^ n)))) ≡ n ∷ []
unfolding numbers_of_mask with_numbers IsAlone
mask_of_one n h =
    below_more IsAlone 15 (below_more IsAlone 14 (below_more IsAlone 13 (below_more IsAlone 12 (below_more IsAlone 11 (below_more IsAlone 10 (below_more IsAlone 9 (below_more IsAlone 8 (below_more IsAlone 7 (below_more IsAlone 6 (below_more IsAlone 5 (below_more IsAlone 4 (below_more IsAlone 3 (below_more IsAlone 2 (below_more IsAlone 1 (below_more IsAlone 0 (below_none IsAlone) refl) refl) refl) refl) refl) refl) refl) refl) refl) refl) refl) refl) refl) refl) refl) refl n h

-- a descriptor that passes the tests
tested : InterruptDescriptor → Bool → Bool → Bool → List ℕ → Outcome InterruptOffer
tested d edge barred source set =
    if edge then Err (Resource fault.Edge)
    else (if barred then Err (Resource fault.Exclusive)
    else (if source then Err (Resource fault.Source)
    else (if length set == 0 then Err (Resource fault.NoInterrupt)
    else Ok (record { numbers = set; form = d.form; polarity = polarity_of d.form d.flags; flags = d.flags }))))

offer_of_passed : (exclusives : Exclusives) (d : InterruptDescriptor) (n : ℕ) → is_edge d.form d.flags ≡ false → is_barred exclusives d.form d.flags ≡ false → d.has_source ≡ false → set_of d.numbers ≡ n ∷ [] → offer_of exclusives d ≡ Ok (record { numbers = n ∷ []; form = d.form; polarity = polarity_of d.form d.flags; flags = d.flags })
unfolding offer_of tested
offer_of_passed exclusives d n edge barred source set =
    ap (λ b. tested d b (is_barred exclusives d.form d.flags) d.has_source (set_of d.numbers)) edge
    ∙ ap (λ b. tested d false b d.has_source (set_of d.numbers)) barred
    ∙ ap (λ b. tested d false false b (set_of d.numbers)) source
    ∙ ap (λ ns. tested d false false false ns) set

-- one interrupt descriptor and the end tag
possible_of_one : (exclusives : Exclusives) (bytes : List ℕ) (item : ResourceItem) (d : InterruptDescriptor) (offer : InterruptOffer) → items_of bytes ≡ item ∷ record { tag = 0x79; body = 0 ∷ [] } ∷ [] → descriptor_of item ≡ Ok (Interrupts d) → offer_of exclusives d ≡ Ok offer → possible_as exclusives bytes ≡ Ok offer
unfolding possible_as offered offered_from the_offer ◌>>=◌ descriptor_of
possible_of_one exclusives bytes item d offer items is passed =
    let behind : Option InterruptOffer → Outcome InterruptOffer = λ found. offered exclusives found (record { tag = 0x79; body = 0 ∷ [] } ∷ []) in
    ap (λ all. offered exclusives None all) items
    ∙ ap (λ r. r >>= (λ e. offered_from exclusives behind None e)) is
    ∙ ap (λ r. r >>= (λ o. behind (Some o))) passed

small_items : (flags low high : ℕ) → items_of (0x23 ∷ low ∷ high ∷ flags ∷ 0x79 ∷ 0 ∷ []) ≡ record { tag = 0x23; body = low ∷ high ∷ flags ∷ [] } ∷ record { tag = 0x79; body = 0 ∷ [] } ∷ []
unfolding items_of items_within first_item with_body
small_items flags low high = refl

small_descriptor : (flags low high : ℕ) → descriptor_of (record { tag = 0x23; body = low ∷ high ∷ flags ∷ [] }) ≡ Ok (Interrupts (irq_descriptor (low ∷ high ∷ flags ∷ []) flags))
unfolding descriptor_of
small_descriptor flags low high = refl

small_reads_back : (exclusives : Exclusives) (flags n : ℕ) → n < 16 → is_edge Small flags ≡ false → is_barred exclusives Small flags ≡ false → possible_as exclusives (setting_bytes Small flags n) ≡ Ok (record { numbers = n ∷ []; form = Small; polarity = polarity_of Small flags; flags = flags })
small_reads_back exclusives flags n h edge barred =
    possible_of_one exclusives (setting_bytes Small flags n) _ _ _ (small_items flags _ _) (small_descriptor flags _ _)
    (offer_of_passed exclusives _ n edge barred refl (mask_of_one n h))

extended_items : (flags a b c d : ℕ) → items_of (0x89 ∷ 6 ∷ 0 ∷ flags ∷ 1 ∷ a ∷ b ∷ c ∷ d ∷ 0x79 ∷ 0 ∷ []) ≡ record { tag = 0x89; body = flags ∷ 1 ∷ a ∷ b ∷ c ∷ d ∷ [] } ∷ record { tag = 0x79; body = 0 ∷ [] } ∷ []
unfolding items_of items_within first_item with_body large_item
extended_items flags a b c d = refl

extended_descriptor : (flags a b c d : ℕ) → descriptor_of (record { tag = 0x89; body = flags ∷ 1 ∷ a ∷ b ∷ c ∷ d ∷ [] }) ≡ Ok (Interrupts (record { form = Extended; flags = flags; numbers = little_number 4 (a ∷ b ∷ c ∷ d ∷ []) ∷ []; has_source = false }))
unfolding descriptor_of extended_interrupt_descriptor numbers_of_table
extended_descriptor flags a b c d = refl

set_of_one : (n : ℕ) → set_of (n ∷ []) ≡ n ∷ []
unfolding with_numbers
set_of_one n = refl

extended_reads_back : (exclusives : Exclusives) (flags n : ℕ) → n < 2 ^ 32 → is_edge Extended flags ≡ false → is_barred exclusives Extended flags ≡ false → possible_as exclusives (setting_bytes Extended flags n) ≡ Ok (record { numbers = n ∷ []; form = Extended; polarity = polarity_of Extended flags; flags = flags })
extended_reads_back exclusives flags n h edge barred =
    possible_of_one exclusives (setting_bytes Extended flags n) _ _ _ (extended_items flags _ _ _ _) (extended_descriptor flags _ _ _ _)
    (offer_of_passed exclusives _ n edge barred refl (ap (λ k. set_of (k ∷ [])) (little_number-reads_back 4 n [] h) ∙ set_of_one n))

form_reads_back : (exclusives : Exclusives) (form : Form) (flags n : ℕ) → (form ≡ Small → n < 16) → n < 2 ^ 32 → is_edge form flags ≡ false → is_barred exclusives form flags ≡ false → possible_as exclusives (setting_bytes form flags n) ≡ Ok (record { numbers = n ∷ []; form = form; polarity = polarity_of form flags; flags = flags })
form_reads_back exclusives Small flags n mask h edge barred = small_reads_back exclusives flags n (mask refl) edge barred
form_reads_back exclusives Extended flags n mask h edge barred = extended_reads_back exclusives flags n h edge barred

pub reads_back : (offer : InterruptOffer) (n : ℕ) → IsOffer offer → Contains offer.numbers n → n < 2 ^ 32 → (exclusives : Exclusives) → is_barred exclusives offer.form offer.flags ≡ false → possible_as exclusives (setting_of offer n) ≡ Ok (offer_of_one offer n)
reads_back offer n sound listed h exclusives barred =
    form_reads_back exclusives offer.form offer.flags n
    (λ small. subst (λ k. k < 16) listed.2 (sound.in_mask small listed.0 n listed.1))
    h sound.level barred
    ∙ ap (λ p. Ok (record { numbers = n ∷ []; form = offer.form; polarity = p; flags = offer.flags })) (sym sound.signaled)
