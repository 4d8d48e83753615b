-- Routing tables and link devices of machines side by side.
use Rattle.std.specs.Prelude.{◌≡◌, ℕ, List, [], ◌∷◌, ◌++◌, Bool, true, false, Option, refl}
use Rattle.ar_space.specs.Accesses.{Accesses}
use Rattle.ar_space.specs.Change.{Change}
use Rattle.aml_path.specs.declared.segment.Seg.{Seg}
use Rattle.aml_world.specs.state.Given.{Given}
use Rattle.aml_world.specs.state.Given as given
use Rattle.acpi_resources.specs.Offers.{possible_as}
use Rattle.acpi_resources.specs.Records.{InterruptOffer}
use Rattle.acpi_machine.specs.Buses.{prt}
use Rattle.acpi_machine.specs.Children.{stands, has_child, some_answer, answer_if_any, child_evaluated}
use Rattle.acpi_prt.specs.declared.pin.Pin.{Pin}
use Rattle.acpi_prt.specs.Entries.{list_of}
use Rattle.acpi_prt.specs.Finding.{id_in}
use Rattle.acpi_prt.specs.Links.{device_at, id_at, link_at}
use Rattle.acpi_prt.specs.RoutingTables.{linked, route_of, pin_with, pin_among, pin_of, pins_from, routing_table}
use Rattle.acpi_links.specs.Folds.{folded}
use Rattle.acpi_links.specs.Devices.{devices, devices_listed, pins_at, pins_of_device}
use Rattle.acpi_links.specs.Presence.{is_present}
use Rattle.acpi_links.specs.Resources.{exclusives_in, offer_in, possible_resources, current_resources}
use Rattle.acpi_links.specs.Settings.{resources_set}
use Rattle.acpi_links.specs.Links.{link_found, link_if, link_asked}
use Rattle.acpi_links.specs.Gatherings.{sci_shown, pins_found, links_found, gathered}
use Rattle.aml_laws.proofs.Together.{Sides, Shape, Together, plain, give_together, settle_together, stop_together, then_together, choice_together}
use Rattle.machine_laws.proofs.MachineShapes.{machines}
use Rattle.machine_laws.proofs.MachinesTogether.{told_together, evaluated_object_together}
use Rattle.machine_laws.proofs.ProfilesAsked.{Asks, profile_asked, id_withheld, offer_withheld}

-- what changes for each of a list add
pub folded_together : {S T X Y A B R : Type 0} {accesses : Accesses S} {accesses2 : Accesses T} {side : Sides accesses accesses2} {shape : Shape S T X Y} (add : R → B → R) {f : A → Change X B} {g : A → Change Y B}
    → ((a : A) → Together side shape (f a) (g a)) → (xs : List A) (done : R) → Together side shape (folded add f xs done) (folded add g xs done)
unfolding folded
folded_together add h [] done = give_together _
folded_together add h (x ∷ xs) done = then_together (h x) (λ more. folded_together add h xs (add done more))

-- same: the right one has as many steps
module _ {S T : Type 0} {accesses : Accesses S} {accesses2 : Accesses T} {side : Sides accesses accesses2} (same : (n : ℕ) → side.more n ≡ n) where
  -- ---- objects of a device

  some_answer_together : (p : List Seg) (arguments : List Given) → Together side machines (some_answer accesses p arguments) (some_answer accesses2 p arguments)
  unfolding some_answer
  some_answer_together p arguments = then_together (evaluated_object_together same p arguments) (λ answer. give_together _)

  answer_if_any_together : (p : List Seg) (arguments : List Given) → Together side machines (answer_if_any accesses p arguments) (answer_if_any accesses2 p arguments)
  unfolding answer_if_any
  answer_if_any_together p arguments = choice_together (stands p) (stands p) (λ s t. refl) (some_answer_together p arguments) (plain (λ s. refl) (λ s. refl) (λ s t. refl))

  child_together : (parent : List Seg) (name : Seg) (arguments : List Given) → Together side machines (child_evaluated accesses parent name arguments) (child_evaluated accesses2 parent name arguments)
  child_together parent name arguments = answer_if_any_together (parent ++ name ∷ []) arguments

  pub current_resources_together : (link : List Seg) → Together side machines (current_resources accesses link) (current_resources accesses2 link)
  unfolding current_resources
  current_resources_together link = then_together (child_together link _ _) (λ answer. settle_together _)

  pub resources_set_together : (link : List Seg) (offer : InterruptOffer) (n : ℕ) → Together side machines (resources_set accesses link offer n) (resources_set accesses2 link offer n)
  unfolding resources_set
  resources_set_together link offer n = then_together (child_together link _ _) (λ answer. give_together _)

  pub is_present_together : (link : List Seg) → Together side machines (is_present accesses link) (is_present accesses2 link)
  unfolding is_present
  is_present_together link = then_together (child_together link _ _) (λ answer. settle_together _)

-- asks: what links are and offer is the same in both profiles, or ends the likeness
module _ {S T : Type 0} {accesses : Accesses S} {accesses2 : Accesses T} {side : Sides accesses accesses2} (same : (n : ℕ) → side.more n ≡ n) (asks : Asks side) where
  -- ---- routing tables

  device_at_together : (p : List Seg) → Together side machines (device_at p) (device_at p)
  unfolding device_at
  device_at_together p = plain (λ s. refl) (λ s. refl) (λ s t. refl)

  id_at_together : (p : List Seg) → Together side machines (id_at p) (id_at p)
  unfolding id_at
  id_at_together p = told_together (λ s. id_in s.world.profile s.world.names.map p) (λ s. id_in s.world.profile s.world.names.map p) (λ s t. profile_asked side asks (λ r. id_in r s.world.names.map p) (λ ends. id_withheld side.Ends s.world.names.map p ends.0) s.world.profile)

  link_at_together : (p : List Seg) → Together side machines (link_at accesses p) (link_at accesses2 p)
  unfolding link_at
  link_at_together p = then_together (device_at_together p) (λ device. then_together (settle_together _) (λ hid. then_together (id_at_together hid) (λ name. then_together (evaluated_object_together same name _) (λ id. then_together (settle_together _) (λ is. give_together _)))))

  linked_together : (p : List Seg) (index : ℕ) → Together side machines (linked accesses p index) (linked accesses2 p index)
  unfolding linked
  linked_together p index = then_together (link_at_together p) (λ link. then_together (settle_together _) (λ none. give_together _))

  route_of_together : (g : Given) (index : ℕ) → Together side machines (route_of accesses g index) (route_of accesses2 g index)
  route_of_together given.Nothing index = stop_together _
  route_of_together (given.Integer n) index = give_together _
  route_of_together (given.Text bytes) index = stop_together _
  route_of_together (given.Bytes bytes) index = stop_together _
  route_of_together (given.Package gs) index = stop_together _
  route_of_together (given.Named p) index = linked_together p index
  route_of_together given.Reference index = stop_together _

  pin_with_together : (a p s i : Given) → Together side machines (pin_with accesses a p s i) (pin_with accesses2 a p s i)
  unfolding pin_with
  pin_with_together a p s i = then_together (settle_together _) (λ address. then_together (settle_together _) (λ pin. then_together (settle_together _) (λ tested. then_together (settle_together _) (λ index. then_together (settle_together _) (λ letter.
      then_together (route_of_together s index) (λ route. give_together _))))))

  pin_among_together : (gs : List Given) → Together side machines (pin_among accesses gs) (pin_among accesses2 gs)
  pin_among_together [] = stop_together _
  pin_among_together (a ∷ []) = stop_together _
  pin_among_together (a ∷ p ∷ []) = stop_together _
  pin_among_together (a ∷ p ∷ s ∷ []) = stop_together _
  pin_among_together (a ∷ p ∷ s ∷ i ∷ []) = pin_with_together a p s i
  pin_among_together (a ∷ p ∷ s ∷ i ∷ x ∷ xs) = stop_together _

  pin_of_together : (g : Given) → Together side machines (pin_of accesses g) (pin_of accesses2 g)
  pin_of_together given.Nothing = give_together _
  pin_of_together (given.Integer n) = stop_together _
  pin_of_together (given.Text bytes) = stop_together _
  pin_of_together (given.Bytes bytes) = stop_together _
  pin_of_together (given.Package parts) = pin_among_together (list_of parts)
  pin_of_together (given.Named p) = stop_together _
  pin_of_together given.Reference = stop_together _

  pins_from_together : (entries : List Given) (pins : List Pin) → Together side machines (pins_from accesses entries pins) (pins_from accesses2 entries pins)
  unfolding pins_from
  pins_from_together [] pins = give_together _
  pins_from_together (entry ∷ entries) pins = then_together (pin_of_together entry) (λ pin. pins_from_together entries _)

  pub routing_table_together : (device : List Seg) → Together side machines (routing_table accesses device) (routing_table accesses2 device)
  unfolding routing_table
  routing_table_together device = then_together (give_together _) (λ path. then_together (evaluated_object_together same path _) (λ answer. then_together (settle_together _) (λ entries. pins_from_together entries _)))

  -- ---- devices

  devices_listed_together : Together side machines devices_listed devices_listed
  unfolding devices_listed devices
  devices_listed_together = plain (λ s. refl) (λ s. refl) (λ s t. refl)

  pins_at_together : (device : List Seg) → Together side machines (pins_at accesses device) (pins_at accesses2 device)
  unfolding pins_at
  pins_at_together device = choice_together (has_child device prt) (has_child device prt) (λ s t. refl) (routing_table_together device) (plain (λ s. refl) (λ s. refl) (λ s t. refl))

  pins_of_device_together : (device : List Seg) → Together side machines (pins_of_device accesses device) (pins_of_device accesses2 device)
  unfolding pins_of_device
  pins_of_device_together device = then_together (pins_at_together device) (λ pins. give_together _)

  -- ---- offers

  offer_in_together : (bytes : List ℕ) → Together side machines (offer_in bytes) (offer_in bytes)
  unfolding offer_in
  offer_in_together bytes = told_together (λ s. possible_as (exclusives_in s.world.profile) bytes) (λ s. possible_as (exclusives_in s.world.profile) bytes) (λ s t. profile_asked side asks (λ p. possible_as (exclusives_in p) bytes) (λ ends. offer_withheld side.Ends bytes ends.1) s.world.profile)

  pub possible_resources_together : (link : List Seg) → Together side machines (possible_resources accesses link) (possible_resources accesses2 link)
  unfolding possible_resources
  possible_resources_together link = then_together (child_together same link _ _) (λ answer. then_together (settle_together _) (λ bytes. offer_in_together bytes))

  -- ---- links

  link_found_together : (avoid : List ℕ) (link : List Seg) → Together side machines (link_found accesses avoid link) (link_found accesses2 avoid link)
  unfolding link_found
  link_found_together avoid link = then_together (possible_resources_together link) (λ offer. then_together (settle_together _) (λ left. then_together (current_resources_together same link) (λ now. give_together _)))

  link_if_together : (avoid : List ℕ) (present : Bool) (link : List Seg) → Together side machines (link_if accesses avoid present link) (link_if accesses2 avoid present link)
  unfolding link_if
  link_if_together avoid true link = link_found_together avoid link
  link_if_together avoid false link = give_together _

  link_asked_together : (avoid : List ℕ) (link : List Seg) → Together side machines (link_asked accesses avoid link) (link_asked accesses2 avoid link)
  unfolding link_asked
  link_asked_together avoid link = then_together (is_present_together same link) (λ present. link_if_together avoid present link)

  -- ---- what is gathered

  sci_shown_together : Together side machines sci_shown sci_shown
  unfolding sci_shown
  sci_shown_together = plain (λ s. refl) (λ s. refl) (λ s t. refl)

  pins_found_together : (sci : Option ℕ) → Together side machines (pins_found accesses sci) (pins_found accesses2 sci)
  unfolding pins_found
  pins_found_together sci = then_together devices_listed_together (λ list. then_together (folded_together _ pins_of_device_together list _) (λ pins. then_together (settle_together _) (λ few. give_together _)))

  links_found_together : (avoid : List ℕ) (pins : List (List Seg × Pin)) → Together side machines (links_found accesses avoid pins) (links_found accesses2 avoid pins)
  unfolding links_found
  links_found_together avoid pins = then_together (give_together _) (λ named. then_together (settle_together _) (λ few. then_together (folded_together _ (link_asked_together avoid) named _) (λ links. then_together (settle_together _) (λ one. give_together _))))

  pub gathered_together : (avoid : List ℕ) → Together side machines (gathered accesses avoid) (gathered accesses2 avoid)
  unfolding gathered
  gathered_together avoid = then_together sci_shown_together (λ sci. then_together (pins_found_together sci) (λ pins. then_together (links_found_together avoid pins) (λ links. give_together _)))
