-- Resource descriptors, routing tables and links are no faults of the register space.
use Rattle.route_model.specs.Avoided.{are_all_avoided}
use Rattle.std.specs.Prelude.{Bool, List, None, Ok, Option, Some, [], false, if◌then◌else◌, length, nat_le, nat_lt, ok_or, option_to_list, true, ℕ, ◌*◌, ◌++◌, ◌+◌, ◌==◌, ◌^◌, ◌||◌, ◌∷◌}
use Rattle.acpi_links.specs.Answered.{bytes_in, numbers_in, numbers_of}
use Rattle.acpi_links.specs.Links.{PresentLink, few_links, few_pins, mixed, one_polarity, some_left}
use Rattle.acpi_links.specs.Presence.{presence, presence_of}
use Rattle.acpi_links.specs.Resources.{offered_bytes}
use Rattle.acpi_machine.specs.Kinds as kind
use Rattle.acpi_machine.specs.Kinds.{Kind, kind_at}
use Rattle.acpi_prt.specs.Children.{child_named}
use Rattle.acpi_prt.specs.Entries.{entries_of, fits_word, pin_tested, no_index, source_tested, word_of, zero_source}
use Rattle.acpi_prt.specs.Finding.{device_in, device_or_not, id_in, id_or_not, method_or_not}
use Rattle.acpi_prt.specs.Links.{is_link_id, link_id_or_not}
use Rattle.acpi_prt.specs.declared.pin.Pin.{Pin}
use Rattle.acpi_resources.specs.Current.{all_numbers, current_of, numbers_from}
use Rattle.acpi_resources.specs.Descriptors.{descriptor_of, extended_interrupt_descriptor}
use Rattle.acpi_resources.specs.declared.exclusives.Exclusives.{Exclusives}
use Rattle.acpi_resources.specs.FlagByte.{is_edge}
use Rattle.acpi_resources.specs.Items.{ResourceItem, items_of}
use Rattle.acpi_resources.specs.Numbers.{set_of}
use Rattle.acpi_resources.specs.Offers.{is_barred, offer_of, offered, offered_from, possible_as, the_offer}
use Rattle.acpi_resources.specs.Records.{InterruptDescriptor, InterruptOffer}
use Rattle.ar_space.specs.Outcome.{Outcome, ◌>>=◌}
use Rattle.ar_space.specs.declared.refusal.Refusal.{Refusal}
use Rattle.aml_path.specs.declared.segment.Seg.{Seg}
use Rattle.aml_namespace.specs.Namespace.{Map}
use Rattle.aml_world.specs.declared.state.profile.Profile.{Profile}
use Rattle.aml_world.specs.declared.state.profile.Profile.TheVariants.{Core, Wide}
use Rattle.aml_world.specs.state.Given as given
use Rattle.aml_world.specs.state.Given.{Given}
use Rattle.aml_laws.proofs.CleanOutcomes.{Clean, CleanRefusal, followed_clean, if_clean}
use Rattle.aml_laws.proofs.CleanValues.{seg_of_clean}

-- ---- resource descriptors

pub offer_of_clean : (exclusives : Exclusives) (d : InterruptDescriptor) → Clean (offer_of exclusives d)
unfolding offer_of
offer_of_clean exclusives d = if_clean (is_edge d.form d.flags) _ _ tt (if_clean (is_barred exclusives d.form d.flags) _ _ tt (if_clean d.has_source _ _ tt (if_clean (length (set_of d.numbers) == 0) _ _ tt tt)))

pub the_offer_clean : (exclusives : Exclusives) (o : Option InterruptOffer) (d : InterruptDescriptor) → Clean (the_offer exclusives o d)
unfolding the_offer
the_offer_clean exclusives (Some found) d = tt
the_offer_clean exclusives None d = offer_of_clean exclusives d

pub ok_or_clean : {A : Type 0} (o : Option A) (e : Refusal) → CleanRefusal e → Clean (ok_or o e)
ok_or_clean None e apart = apart
ok_or_clean (Some a) e apart = tt

-- either of two descriptors, and what follows from it
either_then_clean : {A B : Type 0} (b : Bool) (x y : Outcome A) (k : A → Outcome B) → Clean (x >>= k) → Clean (y >>= k) → Clean ((if b then x else y) >>= k)
either_then_clean true x y k h i = h
either_then_clean false x y k h i = i

module _ (exclusives : Exclusives) (behind : Option InterruptOffer → Outcome InterruptOffer) (all : (o : Option InterruptOffer) → Clean (behind o)) (found : Option InterruptOffer) where
  one_offered_clean : (d : InterruptDescriptor) → Clean (the_offer exclusives found d >>= (λ offer. behind (Some offer)))
  one_offered_clean d = followed_clean _ _ (the_offer_clean exclusives found d) (λ offer. all (Some offer))

  extended_offered_clean : (body : List ℕ) → Clean (extended_interrupt_descriptor body >>= (λ d. offered_from exclusives behind found d))
  unfolding extended_interrupt_descriptor offered_from ◌>>=◌
  extended_offered_clean [] = tt
  extended_offered_clean (flags ∷ []) = tt
  extended_offered_clean (flags ∷ count ∷ bytes) = either_then_clean (nat_le (4 * count) (length bytes)) _ _ _ (one_offered_clean _) tt

  item_offered_clean : (item : ResourceItem) → Clean (descriptor_of item >>= (λ d. offered_from exclusives behind found d))
  unfolding descriptor_of offered_from ◌>>=◌
  item_offered_clean item =
      either_then_clean (item.tag == 0x22) _ _ _ (one_offered_clean _) (either_then_clean (item.tag == 0x23) _ _ _ (one_offered_clean _) (either_then_clean (item.tag == 0x89) _ _ _ (extended_offered_clean item.body)
      (either_then_clean (item.tag == 0x79) _ _ _ (ok_or_clean found _ tt) (either_then_clean (((item.tag == 0x30) || (item.tag == 0x31)) || (item.tag == 0x38)) _ _ _ tt tt))))

offered_clean : (exclusives : Exclusives) (items : List ResourceItem) (found : Option InterruptOffer) → Clean (offered exclusives found items)
unfolding offered
offered_clean exclusives [] found = tt
offered_clean exclusives (item ∷ items) found = item_offered_clean exclusives (λ now. offered exclusives now items) (offered_clean exclusives items) found item

pub possible_as_clean : (exclusives : Exclusives) (bytes : List ℕ) → Clean (possible_as exclusives bytes)
unfolding possible_as
possible_as_clean exclusives bytes = offered_clean exclusives (items_of bytes) None

module _ (behind : Outcome (List ℕ)) (clean : Clean behind) where
  one_listed_clean : (listed : List ℕ) → Clean (behind >>= (λ numbers. Ok (listed ++ numbers)))
  one_listed_clean listed = followed_clean _ _ clean (λ numbers. tt)

  extended_listed_clean : (body : List ℕ) → Clean (extended_interrupt_descriptor body >>= (λ d. numbers_from behind d))
  unfolding extended_interrupt_descriptor numbers_from ◌>>=◌
  extended_listed_clean [] = tt
  extended_listed_clean (flags ∷ []) = tt
  extended_listed_clean (flags ∷ count ∷ bytes) = either_then_clean (nat_le (4 * count) (length bytes)) _ _ _ (one_listed_clean _) tt

  item_listed_clean : (item : ResourceItem) → Clean (descriptor_of item >>= (λ d. numbers_from behind d))
  unfolding descriptor_of numbers_from ◌>>=◌
  item_listed_clean item =
      either_then_clean (item.tag == 0x22) _ _ _ (one_listed_clean _) (either_then_clean (item.tag == 0x23) _ _ _ (one_listed_clean _) (either_then_clean (item.tag == 0x89) _ _ _ (extended_listed_clean item.body)
      (either_then_clean (item.tag == 0x79) _ _ _ tt (either_then_clean (((item.tag == 0x30) || (item.tag == 0x31)) || (item.tag == 0x38)) _ _ _ clean clean))))

all_numbers_clean : (items : List ResourceItem) → Clean (all_numbers items)
unfolding all_numbers
all_numbers_clean [] = tt
all_numbers_clean (item ∷ items) = item_listed_clean (all_numbers items) (all_numbers_clean items) item

current_of_clean : (bytes : List ℕ) → Clean (current_of bytes)
unfolding current_of
current_of_clean bytes = followed_clean _ _ (all_numbers_clean (items_of bytes)) (λ numbers. tt)

-- ---- routing tables

pub child_named_clean : (device : List Seg) (name : List ℕ) → Clean (child_named device name)
unfolding child_named
child_named_clean device name = followed_clean _ _ (seg_of_clean name) (λ segment. tt)

pub entries_of_clean : (g : Given) → Clean (entries_of g)
entries_of_clean (given.Package gs) = tt
entries_of_clean _ = tt

pub fits_word_clean : (n : ℕ) → Clean (fits_word n)
fits_word_clean n = if_clean (nat_lt n (2 ^ 32)) _ _ tt tt

pub word_of_clean : (g : Given) → Clean (word_of g)
word_of_clean (given.Integer n) = fits_word_clean n
word_of_clean _ = tt

pub zero_source_clean : (n : ℕ) → Clean (zero_source n)
zero_source_clean n = if_clean (n == 0) _ _ tt tt

pub source_tested_clean : (g : Given) → Clean (source_tested g)
source_tested_clean (given.Integer n) = zero_source_clean n
source_tested_clean (given.Named p) = tt
source_tested_clean _ = tt

pub pin_tested_clean : (pin : ℕ) → Clean (pin_tested pin)
pin_tested_clean pin = if_clean (nat_lt 3 pin) _ _ tt tt

pub no_index_clean : (index : ℕ) → Clean (no_index index)
no_index_clean index = if_clean (index == 0) _ _ tt tt

pub device_or_not_clean : (o : Option Kind) → Clean (device_or_not o)
device_or_not_clean (Some kind.Device) = tt
device_or_not_clean _ = tt

method_or_not_clean : (profile : Profile) → Clean (method_or_not profile)
method_or_not_clean Core = tt
method_or_not_clean Wide = tt

pub id_or_not_clean : (profile : Profile) (o : Option Kind) → Clean (id_or_not profile o)
id_or_not_clean profile (Some kind.Integer) = tt
id_or_not_clean profile (Some kind.String) = tt
id_or_not_clean profile (Some (kind.Method count)) = method_or_not_clean profile
id_or_not_clean profile _ = tt

pub device_in_clean : (m : Map) (p : List Seg) → Clean (device_in m p)
unfolding device_in
device_in_clean m p = followed_clean _ _ tt (λ q. followed_clean _ _ (device_or_not_clean (kind_at m q)) (λ u. tt))

pub id_in_clean : (profile : Profile) (m : Map) (p : List Seg) → Clean (id_in profile m p)
unfolding id_in
id_in_clean profile m p = followed_clean _ _ tt (λ q. followed_clean _ _ (id_or_not_clean profile (kind_at m q)) (λ u. tt))

pub link_id_or_not_clean : (id : given.Given) → Clean (link_id_or_not id)
link_id_or_not_clean id = if_clean (is_link_id id) _ _ tt tt

-- ---- links

bytes_in_clean : (g : given.Given) → Clean (bytes_in g)
bytes_in_clean given.Nothing = tt
bytes_in_clean _ = tt

presence_clean : (g : given.Given) → Clean (presence g)
presence_clean given.Nothing = tt
presence_clean _ = tt

pub presence_of_clean : (o : Option given.Given) → Clean (presence_of o)
presence_of_clean None = tt
presence_of_clean (Some g) = presence_clean g

pub offered_bytes_clean : (link : List Seg) (o : Option given.Given) → Clean (offered_bytes link o)
offered_bytes_clean link None = tt
offered_bytes_clean link (Some g) = bytes_in_clean g

numbers_in_clean : (g : given.Given) → Clean (numbers_in g)
unfolding numbers_in
numbers_in_clean g = followed_clean _ _ (bytes_in_clean g) (λ bytes. followed_clean _ _ (current_of_clean bytes) (λ numbers. tt))

pub numbers_of_clean : (o : Option given.Given) → Clean (numbers_of o)
numbers_of_clean None = tt
numbers_of_clean (Some g) = numbers_in_clean g

pub few_pins_clean : (sci : Option ℕ) (pins : List (List Seg × Pin)) → Clean (few_pins sci pins)
few_pins_clean sci pins = if_clean (nat_lt 4096 (length pins + length (option_to_list sci))) _ _ tt tt

pub few_links_clean : (links : List (List Seg)) → Clean (few_links links)
few_links_clean links = if_clean (nat_lt 256 (length links)) _ _ tt tt

pub some_left_clean : (avoid : List ℕ) (link : List Seg) (offer : InterruptOffer) → Clean (some_left avoid link offer)
some_left_clean avoid link offer = if_clean (are_all_avoided avoid offer.numbers) _ _ tt tt

pub one_polarity_clean : (links : List PresentLink) → Clean (one_polarity links)
one_polarity_clean links = if_clean (mixed links) _ _ tt tt
