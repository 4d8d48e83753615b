-- Where a routing table, a link or what is gathered of a machine is refused by a fault of the register space, the last access
-- answered with it.
use Rattle.machine_laws.proofs.CleanLinks.{device_in_clean, id_in_clean, offered_bytes_clean, child_named_clean, numbers_of_clean, entries_of_clean, few_links_clean, few_pins_clean, link_id_or_not_clean, pin_tested_clean, no_index_clean, one_polarity_clean, possible_as_clean, presence_of_clean, some_left_clean, source_tested_clean, word_of_clean}
use Rattle.machine_laws.proofs.FaultsOfCalls.{MachineExplains, evaluated_object_explains}
use Rattle.std.specs.Prelude.{Bool, List, Option, [], false, refl, true, ℕ, ◌∷◌, ◌++◌}
use Rattle.acpi_links.specs.Devices.{devices, devices_listed, pins_at, pins_of_device}
use Rattle.acpi_links.specs.Folds.{folded}
use Rattle.acpi_links.specs.Gatherings.{gathered, links_found, pins_found, sci_shown}
use Rattle.acpi_links.specs.Links.{link_asked, link_found, link_if}
use Rattle.acpi_links.specs.Presence.{is_present}
use Rattle.acpi_links.specs.Resources.{current_resources, exclusives_in, offer_in, possible_resources}
use Rattle.acpi_links.specs.Settings.{resources_set}
use Rattle.acpi_machine.specs.Buses.{prt}
use Rattle.acpi_machine.specs.Children.{answer_if_any, child_evaluated, has_child, some_answer, stands}
use Rattle.acpi_machine.specs.MachineStates.{MachineState}
use Rattle.acpi_prt.specs.Entries.{list_of}
use Rattle.acpi_prt.specs.Links.{device_at, id_at, link_at}
use Rattle.acpi_prt.specs.RoutingTables.{linked, pin_among, pin_of, pin_with, pins_from, route_of, routing_table}
use Rattle.acpi_prt.specs.declared.pin.Pin.{Pin}
use Rattle.acpi_resources.specs.Records.{InterruptOffer}
use Rattle.ar_space.specs.Accesses.{Accesses}
use Rattle.ar_space.specs.Change.{Change}
use Rattle.aml_path.specs.declared.segment.Seg.{Seg}
use Rattle.aml_world.specs.state.Given as given
use Rattle.aml_world.specs.state.Given.{Given}
use Rattle.aml_laws.proofs.FaultsOfChanges.{direct_explains, either_branch_explains, give_explains, settle_explains, stop_explains, then_explains}

-- what changes for each of a list add
pub folded_explains : {S A B R : Type 0} {accesses : Accesses S} (add : R → B → R) {f : A → Change (MachineState S) B} → ((a : A) → MachineExplains accesses (f a)) → (xs : List A) (done : R) → MachineExplains accesses (folded add f xs done)
unfolding folded
folded_explains add h [] done = give_explains _
folded_explains add h (x ∷ xs) done = then_explains _ _ (h x) (λ more. folded_explains add h xs (add done more))

module _ {S : Type 0} {accesses : Accesses S} where
  -- ---- routing tables

  device_at_explains : (p : List Seg) → MachineExplains accesses (device_at p)
  unfolding device_at
  device_at_explains p = direct_explains _ (λ s. device_in_clean s.world.names.map p) (λ s. refl)

  id_at_explains : (p : List Seg) → MachineExplains accesses (id_at p)
  unfolding id_at
  id_at_explains p = direct_explains _ (λ s. id_in_clean s.world.profile s.world.names.map p) (λ s. refl)

  link_at_explains : (p : List Seg) → MachineExplains accesses (link_at accesses p)
  unfolding link_at
  link_at_explains p = then_explains _ _ (device_at_explains p) (λ device. then_explains _ _ (settle_explains _ (child_named_clean _ _)) (λ hid. then_explains _ _ (id_at_explains hid) (λ name. then_explains _ _ (evaluated_object_explains accesses name _) (λ id. then_explains _ _ (settle_explains _ (link_id_or_not_clean id)) (λ is. give_explains _)))))

  linked_explains : (p : List Seg) (index : ℕ) → MachineExplains accesses (linked accesses p index)
  unfolding linked
  linked_explains p index = then_explains _ _ (link_at_explains p) (λ link. then_explains _ _ (settle_explains _ (no_index_clean _)) (λ none. give_explains _))

  route_of_explains : (g : Given) (index : ℕ) → MachineExplains accesses (route_of accesses g index)
  route_of_explains given.Nothing index = stop_explains _ tt
  route_of_explains (given.Integer n) index = give_explains _
  route_of_explains (given.Text bytes) index = stop_explains _ tt
  route_of_explains (given.Bytes bytes) index = stop_explains _ tt
  route_of_explains (given.Package gs) index = stop_explains _ tt
  route_of_explains (given.Named p) index = linked_explains p index
  route_of_explains given.Reference index = stop_explains _ tt

  pin_with_explains : (a p s i : Given) → MachineExplains accesses (pin_with accesses a p s i)
  unfolding pin_with
  pin_with_explains a p s i = then_explains _ _ (settle_explains _ (word_of_clean a)) (λ address. then_explains _ _ (settle_explains _ (word_of_clean p)) (λ pin. then_explains _ _ (settle_explains _ (source_tested_clean s)) (λ tested. then_explains _ _ (settle_explains _ (word_of_clean i)) (λ index. then_explains _ _ (settle_explains _ (pin_tested_clean pin)) (λ letter.
      then_explains _ _ (route_of_explains s index) (λ route. give_explains _))))))

  pin_among_explains : (gs : List Given) → MachineExplains accesses (pin_among accesses gs)
  pin_among_explains [] = stop_explains _ tt
  pin_among_explains (a ∷ []) = stop_explains _ tt
  pin_among_explains (a ∷ p ∷ []) = stop_explains _ tt
  pin_among_explains (a ∷ p ∷ s ∷ []) = stop_explains _ tt
  pin_among_explains (a ∷ p ∷ s ∷ i ∷ []) = pin_with_explains a p s i
  pin_among_explains (a ∷ p ∷ s ∷ i ∷ x ∷ xs) = stop_explains _ tt

  pin_of_explains : (g : Given) → MachineExplains accesses (pin_of accesses g)
  pin_of_explains given.Nothing = give_explains _
  pin_of_explains (given.Integer n) = stop_explains _ tt
  pin_of_explains (given.Text bytes) = stop_explains _ tt
  pin_of_explains (given.Bytes bytes) = stop_explains _ tt
  pin_of_explains (given.Package parts) = pin_among_explains (list_of parts)
  pin_of_explains (given.Named p) = stop_explains _ tt
  pin_of_explains given.Reference = stop_explains _ tt

  pins_from_explains : (entries : List Given) (pins : List Pin) → MachineExplains accesses (pins_from accesses entries pins)
  unfolding pins_from
  pins_from_explains [] pins = give_explains _
  pins_from_explains (entry ∷ entries) pins = then_explains _ _ (pin_of_explains entry) (λ pin. pins_from_explains entries _)

  pub routing_table_explains : (device : List Seg) → MachineExplains accesses (routing_table accesses device)
  unfolding routing_table
  routing_table_explains device = then_explains _ _ (give_explains _) (λ path. then_explains _ _ (evaluated_object_explains accesses path _) (λ answer. then_explains _ _ (settle_explains _ (entries_of_clean _)) (λ entries. pins_from_explains entries _)))

  -- ---- devices

  devices_listed_explains : MachineExplains accesses devices_listed
  unfolding devices_listed devices
  devices_listed_explains = direct_explains _ (λ s. tt) (λ s. refl)

  pins_at_explains : (device : List Seg) → MachineExplains accesses (pins_at accesses device)
  unfolding pins_at
  pins_at_explains device = either_branch_explains (has_child device prt) _ _ (routing_table_explains device) (direct_explains _ (λ s. tt) (λ s. refl))

  pins_of_device_explains : (device : List Seg) → MachineExplains accesses (pins_of_device accesses device)
  unfolding pins_of_device
  pins_of_device_explains device = then_explains _ _ (pins_at_explains device) (λ pins. give_explains _)

  -- ---- objects of a device

  some_answer_explains : (p : List Seg) (arguments : List Given) → MachineExplains accesses (some_answer accesses p arguments)
  unfolding some_answer
  some_answer_explains p arguments = then_explains _ _ (evaluated_object_explains accesses p arguments) (λ answer. give_explains _)

  answer_if_any_explains : (p : List Seg) (arguments : List Given) → MachineExplains accesses (answer_if_any accesses p arguments)
  unfolding answer_if_any
  answer_if_any_explains p arguments = either_branch_explains (stands p) _ _ (some_answer_explains p arguments) (direct_explains _ (λ s. tt) (λ s. refl))

  child_explains : (parent : List Seg) (name : Seg) (arguments : List Given) → MachineExplains accesses (child_evaluated accesses parent name arguments)
  child_explains parent name arguments = answer_if_any_explains (parent ++ name ∷ []) arguments

  offer_in_explains : (bytes : List ℕ) → MachineExplains accesses (offer_in bytes)
  unfolding offer_in
  offer_in_explains bytes = direct_explains _ (λ s. possible_as_clean (exclusives_in s.world.profile) bytes) (λ s. refl)

  pub possible_resources_explains : (link : List Seg) → MachineExplains accesses (possible_resources accesses link)
  unfolding possible_resources
  possible_resources_explains link = then_explains _ _ (child_explains link _ _) (λ answer. then_explains _ _ (settle_explains _ (offered_bytes_clean link answer)) (λ bytes. offer_in_explains bytes))

  pub current_resources_explains : (link : List Seg) → MachineExplains accesses (current_resources accesses link)
  unfolding current_resources
  current_resources_explains link = then_explains _ _ (child_explains link _ _) (λ answer. settle_explains _ (numbers_of_clean answer))

  pub resources_set_explains : (link : List Seg) (offer : InterruptOffer) (n : ℕ) → MachineExplains accesses (resources_set accesses link offer n)
  unfolding resources_set
  resources_set_explains link offer n = then_explains _ _ (child_explains link _ _) (λ answer. give_explains _)

  pub is_present_explains : (link : List Seg) → MachineExplains accesses (is_present accesses link)
  unfolding is_present
  is_present_explains link = then_explains _ _ (child_explains link _ _) (λ answer. settle_explains _ (presence_of_clean answer))

  -- ---- links

  link_found_explains : (avoid : List ℕ) (link : List Seg) → MachineExplains accesses (link_found accesses avoid link)
  unfolding link_found
  link_found_explains avoid link = then_explains _ _ (possible_resources_explains link) (λ offer. then_explains _ _ (settle_explains _ (some_left_clean avoid link offer)) (λ left. then_explains _ _ (current_resources_explains link) (λ now. give_explains _)))

  link_if_explains : (avoid : List ℕ) (present : Bool) (link : List Seg) → MachineExplains accesses (link_if accesses avoid present link)
  unfolding link_if
  link_if_explains avoid true link = link_found_explains avoid link
  link_if_explains avoid false link = give_explains _

  link_asked_explains : (avoid : List ℕ) (link : List Seg) → MachineExplains accesses (link_asked accesses avoid link)
  unfolding link_asked
  link_asked_explains avoid link = then_explains _ _ (is_present_explains link) (λ present. link_if_explains avoid present link)

  -- ---- what is gathered

  sci_shown_explains : MachineExplains accesses sci_shown
  unfolding sci_shown
  sci_shown_explains = direct_explains _ (λ s. tt) (λ s. refl)

  pins_found_explains : (sci : Option ℕ) → MachineExplains accesses (pins_found accesses sci)
  unfolding pins_found
  pins_found_explains sci = then_explains _ _ devices_listed_explains (λ list. then_explains _ _ (folded_explains _ pins_of_device_explains list _) (λ pins. then_explains _ _ (settle_explains _ (few_pins_clean _ _)) (λ few. give_explains _)))

  links_found_explains : (avoid : List ℕ) (pins : List (List Seg × Pin)) → MachineExplains accesses (links_found accesses avoid pins)
  unfolding links_found
  links_found_explains avoid pins = then_explains _ _ (give_explains _) (λ named. then_explains _ _ (settle_explains _ (few_links_clean named)) (λ few. then_explains _ _ (folded_explains _ (link_asked_explains avoid) named _) (λ links. then_explains _ _ (settle_explains _ (one_polarity_clean links)) (λ one. give_explains _))))

  pub gathered_explains : (avoid : List ℕ) → MachineExplains accesses (gathered accesses avoid)
  unfolding gathered
  gathered_explains avoid = then_explains _ _ sci_shown_explains (λ sci. then_explains _ _ (pins_found_explains sci) (λ pins. then_explains _ _ (links_found_explains avoid pins) (λ links. give_explains _)))
