-- What is asked of link devices and of devices with a routing table.
use Rattle.std.specs.Prelude.{◌≡◌, ◌+◌, ◌*◌, ◌%◌, ◌==◌, ℕ, List, [], ◌∷◌, ◌++◌, codes, Bool, true, false, Option, Some, None, option_map, Ok, Err, refl, if◌then◌else◌}
use Rattle.std.specs.Option.{is_some}
use Rattle.std.specs.FinMap.{get}
use Rattle.std.specs.Str.{bytes_eq}
use Rattle.std.proofs.Common.{ap, ◌∙◌, arith}
use Rattle.std.proofs.lemmas.Bool.{eqb-true}
use Rattle.std.proofs.lemmas.Nat.{mod-mul-add}
use Rattle.std.proofs.lemmas.Slice.Eq.{bytes_eq-Decides}
use Rattle.ar_space.specs.Accesses.{Accesses}
use Rattle.ar_space.specs.declared.refusal.Refusal.{Refusal}
use Rattle.ar_space.specs.declared.refusal.Refusal.TheVariants as refusal
use Rattle.ar_space.specs.declared.refusal.RoutingFault.TheVariants.{NoOffer}
use Rattle.ar_space.specs.declared.refusal.RoutingTableFault.TheVariants.{NotALink, NotPackage}
use Rattle.ar_space.specs.declared.refusal.ValueFault.TheVariants.{WrongType}
use Rattle.ar_space.specs.Outcome.{Outcome}
use Rattle.ar_space.specs.Outcome as outcomes
use Rattle.ar_space.specs.Change.{Change, give, settle, ◌>>=◌}
use Rattle.aml_path.specs.declared.segment.Seg.{Seg}
use Rattle.aml_path.specs.Text.{text_of}
use Rattle.aml_path.proofs.Segments.{seg_is}
use Rattle.aml_objects.specs.declared.entry.Entry.{Entry}
use Rattle.aml_objects.specs.declared.entry.NamedObject.{NamedObject}
use Rattle.aml_objects.specs.declared.entry.NamedObject.TheVariants as object
use Rattle.aml_objects.specs.declared.value.Value.{Value}
use Rattle.aml_objects.specs.declared.value.Value.TheVariants as value
use Rattle.aml_namespace.specs.Namespace.{Map}
use Rattle.aml_world.specs.declared.state.profile.Profile.{Profile}
use Rattle.aml_world.specs.declared.state.profile.Profile.TheVariants.{Core, Wide}
use Rattle.aml_world.specs.state.Given.{Given, Givens, givens}
use Rattle.aml_world.specs.state.Given as given
use Rattle.acpi_machine.specs.Buses.{prt}
use Rattle.acpi_machine.specs.Calls.{evaluated_object}
use Rattle.acpi_machine.specs.Children.{stands, some_answer, answer_if_any, child_evaluated}
use Rattle.acpi_machine.specs.Kinds.{Kind, kind_of, kind_of_value, kind_at}
use Rattle.acpi_machine.specs.MachineStates.{MachineState}
use Rattle.acpi_resources.specs.declared.exclusives.Exclusives.TheVariants.{Refused, Taken}
use Rattle.acpi_resources.specs.Current.{current_of}
use Rattle.acpi_resources.specs.Offers.{possible_as}
use Rattle.acpi_resources.specs.Records.{InterruptOffer}
use Rattle.acpi_resources.specs.Settings.{setting_of}
use Rattle.acpi_prt.specs.Children.{child_named}
use Rattle.acpi_prt.specs.Entries.{entries_of}
use Rattle.acpi_prt.specs.Finding.{target_or, followed, device_or_not, device_in, method_or_not, id_or_not, id_in}
use Rattle.acpi_prt.specs.Links.{device_at, id_at, link_id_or_not, link_at}
use Rattle.acpi_prt.specs.RoutingTables.{pins_from, routing_table}
use Rattle.acpi_links.specs.Answered.{bytes_in, numbers_in, numbers_of}
use Rattle.acpi_links.specs.ObjectNames.{sta, prs, crs, srs}
use Rattle.acpi_links.specs.Presence.{presence, presence_of, is_present}
use Rattle.acpi_links.specs.Resources.{exclusives_in, offer_in, offered_bytes, possible_resources, current_resources}
use Rattle.acpi_links.specs.Settings.{resources_set}
use Rattle.machine_laws.specs.LinkObjects.{hardware_id, status, possible_settings, current_settings, new_settings, routing_table_name, HoldsObject, LeadsTo, by_alias, itself, MayTellId, integer, string, method, IsLinkId, compressed, spelled, LinkEnds, found, another_id, refused, no_id, no_device, ObjectAnswers, absent, answered, refused_so, TellsPresence, no_status, odd, even}
use Rattle.machine_laws.proofs.EntriesTold.{settled_on, settled_off, answered_on, answered_off, given_on, same_parts, unit_if}

bound_on : {A B : Type 0} (x : Outcome A) (a : A) (k : A → Outcome B) → x ≡ Ok a → outcomes.◌>>=◌ x k ≡ k a
unfolding outcomes.◌>>=◌
bound_on x a k is = rw is refl

bound_off : {A B : Type 0} (x : Outcome A) (e : Refusal) (k : A → Outcome B) → x ≡ Err e → outcomes.◌>>=◌ x k ≡ Err e
unfolding outcomes.◌>>=◌
bound_off x e k is = rw is refl

-- ---- what stands at a path

abbrev not_a_link : {A : Type 0} → Outcome A
not_a_link = Err (refusal.RoutingTable NotALink)

held_is : (names : Map) (p : List Seg) (o : NamedObject) → HoldsObject names p o → kind_at names p ≡ Some (kind_of o)
held_is names p o h = ap (λ (x : Option Entry). option_map (λ (e : Entry). kind_of e.object) x) h.at ∙ ap (λ (x : NamedObject). Some (kind_of x)) h.is

leads_is : (names : Map) (p q : List Seg) → LeadsTo names p q → followed names p ≡ q
leads_is names p q (by_alias target h) = ap (λ (k : Option Kind). target_or p k) (held_is names p (object.Alias target) h)
leads_is names p q (itself none) = by (get names p) refl
  where
    by_value : (v : Value) → target_or p (Some (kind_of_value v)) ≡ p
    by_value value.Uninitialized = refl
    by_value (value.Integer n) = refl
    by_value (value.String o) = refl
    by_value (value.Buffer o) = refl
    by_value (value.Package o) = refl
    by_value (value.Reference r) = refl

    by_object : (o : NamedObject) → ((target : List Seg) → o ≡ object.Alias target → ⊥) → target_or p (Some (kind_of o)) ≡ p
    by_object object.Scope differs = refl
    by_object object.Device differs = refl
    by_object object.Processor differs = refl
    by_object object.PowerResource differs = refl
    by_object object.ThermalZone differs = refl
    by_object (object.Method m) differs = refl
    by_object (object.Data v) differs = by_value v
    by_object (object.OperationRegion r) differs = refl
    by_object (object.FieldUnit u) differs = refl
    by_object (object.BufferField b) differs = refl
    by_object (object.Mutex n) differs = refl
    by_object (object.Event n) differs = refl
    by_object (object.Alias t) differs = absurd (differs t refl)

    by : (x : Option Entry) → get names p ≡ x → target_or p (option_map (λ (e : Entry). kind_of e.object) x) ≡ p
    by None at = refl
    by (Some e) at = by_object e.object (λ target is. none target (record { entry = e; at = at; is = is }))

-- a Device, or none
device_is : (names : Map) (q : List Seg) → HoldsObject names q object.Device → device_or_not (kind_at names q) ≡ Ok tt
device_is names q h = ap device_or_not (held_is names q object.Device h)

no_device_is : (names : Map) (q : List Seg) → (HoldsObject names q object.Device → ⊥) → device_or_not (kind_at names q) ≡ not_a_link
no_device_is names q none = by (get names q) refl
  where
    by_value : (v : Value) → device_or_not (Some (kind_of_value v)) ≡ not_a_link
    by_value value.Uninitialized = refl
    by_value (value.Integer n) = refl
    by_value (value.String o) = refl
    by_value (value.Buffer o) = refl
    by_value (value.Package o) = refl
    by_value (value.Reference r) = refl

    by_object : (o : NamedObject) → (o ≡ object.Device → ⊥) → device_or_not (Some (kind_of o)) ≡ not_a_link
    by_object object.Scope differs = refl
    by_object object.Device differs = absurd (differs refl)
    by_object object.Processor differs = refl
    by_object object.PowerResource differs = refl
    by_object object.ThermalZone differs = refl
    by_object (object.Method m) differs = refl
    by_object (object.Data v) differs = by_value v
    by_object (object.OperationRegion r) differs = refl
    by_object (object.FieldUnit u) differs = refl
    by_object (object.BufferField b) differs = refl
    by_object (object.Mutex n) differs = refl
    by_object (object.Event n) differs = refl
    by_object (object.Alias t) differs = refl

    by : (x : Option Entry) → get names q ≡ x → device_or_not (option_map (λ (e : Entry). kind_of e.object) x) ≡ not_a_link
    by None at = refl
    by (Some e) at = by_object e.object (λ is. none (record { entry = e; at = at; is = is }))

-- what may tell an id
teller_is : (profile : Profile) (o : NamedObject) → MayTellId profile o → id_or_not profile (Some (kind_of o)) ≡ Ok tt
teller_is profile o (integer n) = refl
teller_is profile o (string n) = refl
teller_is profile o (method m wide) = ap method_or_not wide

no_teller_is : (profile : Profile) (names : Map) (q : List Seg) → ((o : NamedObject) → HoldsObject names q o → MayTellId profile o → ⊥) → id_or_not profile (kind_at names q) ≡ not_a_link
no_teller_is profile names q none = by (get names q) refl
  where
    by_value : (v : Value) → (MayTellId profile (object.Data v) → ⊥) → id_or_not profile (Some (kind_of_value v)) ≡ not_a_link
    by_value value.Uninitialized differs = refl
    by_value (value.Integer n) differs = absurd (differs (integer n))
    by_value (value.String o) differs = absurd (differs (string o))
    by_value (value.Buffer o) differs = refl
    by_value (value.Package o) differs = refl
    by_value (value.Reference r) differs = refl

    by_profile : (f : Profile) → profile ≡ f → (profile ≡ Wide → ⊥) → method_or_not profile ≡ not_a_link
    by_profile Core is differs = ap method_or_not is
    by_profile Wide is differs = absurd (differs is)

    by_object : (o : NamedObject) → (MayTellId profile o → ⊥) → id_or_not profile (Some (kind_of o)) ≡ not_a_link
    by_object object.Scope differs = refl
    by_object object.Device differs = refl
    by_object object.Processor differs = refl
    by_object object.PowerResource differs = refl
    by_object object.ThermalZone differs = refl
    by_object (object.Method m) differs = by_profile profile refl (λ wide. differs (method m wide))
    by_object (object.Data v) differs = by_value v differs
    by_object (object.OperationRegion r) differs = refl
    by_object (object.FieldUnit u) differs = refl
    by_object (object.BufferField b) differs = refl
    by_object (object.Mutex n) differs = refl
    by_object (object.Event n) differs = refl
    by_object (object.Alias t) differs = refl

    by : (x : Option Entry) → get names q ≡ x → id_or_not profile (option_map (λ (e : Entry). kind_of e.object) x) ≡ not_a_link
    by None at = refl
    by (Some e) at = by_object e.object (λ may. none e.object (record { entry = e; at = at; is = refl }) may)

-- ---- finding a link device

device_found : (names : Map) (p q : List Seg) → LeadsTo names p q → HoldsObject names q object.Device → device_in names p ≡ Ok q
unfolding device_in
device_found names p q leads holds =
    bound_on (Ok (followed names p)) (followed names p) _ refl
    ∙ (ap (λ (r : List Seg). outcomes.◌>>=◌ (device_or_not (kind_at names r)) (λ u. Ok r)) (leads_is names p q leads) ∙ bound_on (device_or_not (kind_at names q)) tt _ (device_is names q holds))

no_device_found : (names : Map) (p q : List Seg) → LeadsTo names p q → (HoldsObject names q object.Device → ⊥) → device_in names p ≡ not_a_link
unfolding device_in
no_device_found names p q leads none =
    bound_on (Ok (followed names p)) (followed names p) _ refl
    ∙ (ap (λ (r : List Seg). outcomes.◌>>=◌ (device_or_not (kind_at names r)) (λ u. Ok r)) (leads_is names p q leads) ∙ bound_off (device_or_not (kind_at names q)) (refusal.RoutingTable NotALink) _ (no_device_is names q none))

teller_found : (profile : Profile) (names : Map) (p q : List Seg) (o : NamedObject) → LeadsTo names p q → HoldsObject names q o → MayTellId profile o → id_in profile names p ≡ Ok q
unfolding id_in
teller_found profile names p q o leads holds may =
    bound_on (Ok (followed names p)) (followed names p) _ refl
    ∙ (ap (λ (r : List Seg). outcomes.◌>>=◌ (id_or_not profile (kind_at names r)) (λ u. Ok r)) (leads_is names p q leads)
    ∙ bound_on (id_or_not profile (kind_at names q)) tt _ (ap (λ (k : Option Kind). id_or_not profile k) (held_is names q o holds) ∙ teller_is profile o may))

no_teller_found : (profile : Profile) (names : Map) (p q : List Seg) → LeadsTo names p q → ((o : NamedObject) → HoldsObject names q o → MayTellId profile o → ⊥) → id_in profile names p ≡ not_a_link
unfolding id_in
no_teller_found profile names p q leads none =
    bound_on (Ok (followed names p)) (followed names p) _ refl
    ∙ (ap (λ (r : List Seg). outcomes.◌>>=◌ (id_or_not profile (kind_at names r)) (λ u. Ok r)) (leads_is names p q leads) ∙ bound_off (id_or_not profile (kind_at names q)) (refusal.RoutingTable NotALink) _ (no_teller_is profile names q none))

hid_is : (device : List Seg) → child_named device (codes "_HID") ≡ Ok (device ++ hardware_id ∷ [])
unfolding child_named outcomes.◌>>=◌
hid_is device = rw (seg_is (codes "_HID") refl) refl

id_told : (id : Given) → IsLinkId id → link_id_or_not id ≡ Ok tt
id_told id compressed = refl
id_told id spelled = refl

no_id_told : (id : Given) → (IsLinkId id → ⊥) → link_id_or_not id ≡ not_a_link
no_id_told given.Nothing none = refl
no_id_told (given.Integer n) none = by (n == 0x0F0CD041) refl
  where
    by : (b : Bool) → (n == 0x0F0CD041) ≡ b → unit_if b (refusal.RoutingTable NotALink) ≡ not_a_link
    by true is = absurd (none (rw (eqb-true n 0x0F0CD041 is) compressed))
    by false is = refl
no_id_told (given.Text bytes) none = by (bytes_eq bytes (codes "PNP0C0F")) refl
  where
    by : (b : Bool) → bytes_eq bytes (codes "PNP0C0F") ≡ b → unit_if b (refusal.RoutingTable NotALink) ≡ not_a_link
    by true is = let same : bytes ≡ codes "PNP0C0F" = (bytes_eq-Decides bytes (codes "PNP0C0F")).0 is in absurd (none (rw same spelled))
    by false is = refl
no_id_told (given.Bytes bytes) none = refl
no_id_told (given.Package parts) none = refl
no_id_told (given.Named p) none = refl
no_id_told given.Reference none = refl

presence_told : (answer : Option Given) (present : Bool) → TellsPresence answer present → presence_of answer ≡ Ok present
presence_told a b no_status = refl
presence_told a b (odd n) = let by_two : 2 * n + 1 ≡ n * 2 + 1 = omega arith in ap (λ (x : ℕ). Ok (x % 2 == 1)) by_two ∙ ap (λ (x : ℕ). Ok (x == 1)) (mod-mul-add n 2 1 (omega arith))
presence_told a b (even n) = let by_two : 2 * n ≡ n * 2 + 0 = omega arith in ap (λ (x : ℕ). Ok (x % 2 == 1)) by_two ∙ ap (λ (x : ℕ). Ok (x == 1)) (mod-mul-add n 2 0 (omega arith))

no_integer : (g : Given) → ((n : ℕ) → g ≡ given.Integer n → ⊥) → presence g ≡ Err (refusal.Value WrongType)
no_integer given.Nothing other = refl
no_integer (given.Integer n) other = absurd (other n refl)
no_integer (given.Text bytes) other = refl
no_integer (given.Bytes bytes) other = refl
no_integer (given.Package parts) other = refl
no_integer (given.Named p) other = refl
no_integer given.Reference other = refl

numbers_are : (bytes numbers : List ℕ) → current_of bytes ≡ Ok numbers → numbers_of (Some (given.Bytes bytes)) ≡ Ok (Some numbers)
unfolding numbers_in
numbers_are bytes numbers is = bound_on (bytes_in (given.Bytes bytes)) bytes _ refl ∙ bound_on (current_of bytes) numbers _ is

no_entries : (g : Given) → ((parts : Givens) → g ≡ given.Package parts → ⊥) → entries_of g ≡ Err (refusal.RoutingTable NotPackage)
no_entries given.Nothing other = refl
no_entries (given.Integer n) other = refl
no_entries (given.Text bytes) other = refl
no_entries (given.Bytes bytes) other = refl
no_entries (given.Package parts) other = absurd (other parts refl)
no_entries (given.Named p) other = refl
no_entries given.Reference other = refl

bad_numbers_are : (bytes : List ℕ) (e : Refusal) → current_of bytes ≡ Err e → numbers_of (Some (given.Bytes bytes)) ≡ Err e
unfolding numbers_in
bad_numbers_are bytes e is = bound_on (bytes_in (given.Bytes bytes)) bytes _ refl ∙ bound_off (current_of bytes) e _ is

no_bytes : (g : Given) → ((bytes : List ℕ) → g ≡ given.Bytes bytes → ⊥) → bytes_in g ≡ Err (refusal.Value WrongType)
no_bytes given.Nothing other = refl
no_bytes (given.Integer n) other = refl
no_bytes (given.Text text) other = refl
no_bytes (given.Bytes bytes) other = absurd (other bytes refl)
no_bytes (given.Package parts) other = refl
no_bytes (given.Named p) other = refl
no_bytes given.Reference other = refl

no_numbers_are : (g : Given) → ((bytes : List ℕ) → g ≡ given.Bytes bytes → ⊥) → numbers_of (Some g) ≡ Err (refusal.Value WrongType)
unfolding numbers_in
no_numbers_are g other = bound_off (bytes_in g) (refusal.Value WrongType) _ (no_bytes g other)

module _ {S : Type 0} (accesses : Accesses S) where
  device_at_is : (p : List Seg) (x : Outcome (List Seg)) (m : MachineState S) → device_in m.world.names.map p ≡ x → device_at p m ≡ (x, m)
  unfolding device_at
  device_at_is p x m is = ap (λ (y : Outcome (List Seg)). (y, m)) is

  id_at_is : (p : List Seg) (x : Outcome (List Seg)) (m : MachineState S) → id_in m.world.profile m.world.names.map p ≡ x → id_at p m ≡ (x, m)
  unfolding id_at
  id_at_is p x m is = ap (λ (y : Outcome (List Seg)). (y, m)) is

  -- from the id on
  abbrev from_id : List Seg → List Seg → Change (MachineState S) (List Seg)
  from_id device name = evaluated_object accesses name [] >>= (λ id. settle (link_id_or_not id) >>= (λ u. give device))

  id_asked : (p device name : List Seg) (o : NamedObject) (m : MachineState S) → LeadsTo m.world.names.map p device → HoldsObject m.world.names.map device object.Device
      → LeadsTo m.world.names.map (device ++ hardware_id ∷ []) name → HoldsObject m.world.names.map name o → MayTellId m.world.profile o → link_at accesses p m ≡ from_id device name m
  unfolding link_at
  id_asked p device name o m leads holds on there may =
      answered_on (device_at p) device _ m m (device_at_is p (Ok device) m (device_found m.world.names.map p device leads holds))
      ∙ (settled_on (child_named device (codes "_HID")) (device ++ hardware_id ∷ []) _ m (hid_is device)
      ∙ answered_on (id_at (device ++ hardware_id ∷ [])) name _ m m (id_at_is (device ++ hardware_id ∷ []) (Ok name) m (teller_found m.world.profile m.world.names.map (device ++ hardware_id ∷ []) name o on there may)))

  no_teller_asked : (p device name : List Seg) (m : MachineState S) → LeadsTo m.world.names.map p device → HoldsObject m.world.names.map device object.Device
      → LeadsTo m.world.names.map (device ++ hardware_id ∷ []) name → ((o : NamedObject) → HoldsObject m.world.names.map name o → MayTellId m.world.profile o → ⊥) → link_at accesses p m ≡ (not_a_link, m)
  unfolding link_at
  no_teller_asked p device name m leads holds on none =
      answered_on (device_at p) device _ m m (device_at_is p (Ok device) m (device_found m.world.names.map p device leads holds))
      ∙ (settled_on (child_named device (codes "_HID")) (device ++ hardware_id ∷ []) _ m (hid_is device)
      ∙ answered_off (id_at (device ++ hardware_id ∷ [])) (refusal.RoutingTable NotALink) _ m m (id_at_is (device ++ hardware_id ∷ []) not_a_link m (no_teller_found m.world.profile m.world.names.map (device ++ hardware_id ∷ []) name on none)))

  no_device_asked : (p device : List Seg) (m : MachineState S) → LeadsTo m.world.names.map p device → (HoldsObject m.world.names.map device object.Device → ⊥) → link_at accesses p m ≡ (not_a_link, m)
  unfolding link_at
  no_device_asked p device m leads none = answered_off (device_at p) (refusal.RoutingTable NotALink) _ m m (device_at_is p not_a_link m (no_device_found m.world.names.map p device leads none))

  pub link_told : (p : List Seg) (m after : MachineState S) (r : Outcome (List Seg)) → LinkEnds accesses p m r after → link_at accesses p m ≡ (r, after)
  unfolding give
  link_told p m t r (found device name o id after leads holds on there may is so) =
      id_asked p device name o m leads holds on there may ∙ (answered_on (evaluated_object accesses name []) id _ m after is ∙ settled_on (link_id_or_not id) tt _ after (id_told id so))
  link_told p m t r (another_id device name o id after leads holds on there may is other) =
      id_asked p device name o m leads holds on there may ∙ (answered_on (evaluated_object accesses name []) id _ m after is ∙ settled_off (link_id_or_not id) (refusal.RoutingTable NotALink) _ after (no_id_told id other))
  link_told p m t r (refused device name o e after leads holds on there may is) = id_asked p device name o m leads holds on there may ∙ answered_off (evaluated_object accesses name []) e _ m after is
  link_told p m t r (no_id device name leads holds on none) = no_teller_asked p device name m leads holds on none
  link_told p m t r (no_device device leads none) = no_device_asked p device m leads none

  -- ---- what the object of a name answers

  stood : (p : List Seg) (m : MachineState S) (x : Option Entry) → get m.world.names.map p ≡ x → stands p m ≡ is_some (option_map (λ (e : Entry). kind_of e.object) x)
  stood p m x at = ap (λ (y : Option Entry). is_some (option_map (λ (e : Entry). kind_of e.object) y)) at

  object_told : (p : List Seg) (arguments : List Given) (m after : MachineState S) (r : Outcome (Option Given)) → ObjectAnswers accesses p arguments m r after → answer_if_any accesses p arguments m ≡ (r, after)
  unfolding answer_if_any some_answer give
  object_told p arguments m t r (absent at) = ap (λ (b : Bool). if b then some_answer accesses p arguments m else (Ok None, m)) (stood p m None at)
  object_told p arguments m t r (answered entry g after at is) =
      ap (λ (b : Bool). if b then some_answer accesses p arguments m else (Ok None, m)) (stood p m (Some entry) at) ∙ answered_on (evaluated_object accesses p arguments) g _ m after is
  object_told p arguments m t r (refused_so entry e after at is) =
      ap (λ (b : Bool). if b then some_answer accesses p arguments m else (Ok None, m)) (stood p m (Some entry) at) ∙ answered_off (evaluated_object accesses p arguments) e _ m after is

  -- ---- presence

  pub status_told : (link : List Seg) (m after : MachineState S) (answer : Option Given) (present : Bool) → ObjectAnswers accesses (link ++ status ∷ []) [] m (Ok answer) after → TellsPresence answer present → is_present accesses link m ≡ (Ok present, after)
  unfolding is_present settle
  status_told link m after answer present is tells =
      answered_on (child_evaluated accesses link sta []) answer _ m after (object_told (link ++ status ∷ []) [] m after (Ok answer) is) ∙ ap (λ (x : Outcome Bool). (x, after)) (presence_told answer present tells)

  pub wrong_status : (link : List Seg) (m after : MachineState S) (g : Given) → ObjectAnswers accesses (link ++ status ∷ []) [] m (Ok (Some g)) after → ((n : ℕ) → g ≡ given.Integer n → ⊥) → is_present accesses link m ≡ (Err (refusal.Value WrongType), after)
  unfolding is_present settle
  wrong_status link m after g is other =
      answered_on (child_evaluated accesses link sta []) (Some g) _ m after (object_told (link ++ status ∷ []) [] m after (Ok (Some g)) is) ∙ ap (λ (x : Outcome Bool). (x, after)) (no_integer g other)

  pub refused_status : (link : List Seg) (m after : MachineState S) (e : Refusal) → ObjectAnswers accesses (link ++ status ∷ []) [] m (Err e) after → is_present accesses link m ≡ (Err e, after)
  unfolding is_present
  refused_status link m after e is = answered_off (child_evaluated accesses link sta []) e _ m after (object_told (link ++ status ∷ []) [] m after (Err e) is)

  -- ---- resources

  bytes_offered : (link : List Seg) (m after : MachineState S) (bytes : List ℕ) → ObjectAnswers accesses (link ++ possible_settings ∷ []) [] m (Ok (Some (given.Bytes bytes))) after
      → possible_resources accesses link m ≡ (possible_as (exclusives_in after.world.profile) bytes, after)
  unfolding possible_resources offer_in
  bytes_offered link m after bytes is =
      answered_on (child_evaluated accesses link prs []) (Some (given.Bytes bytes)) _ m after (object_told (link ++ possible_settings ∷ []) [] m after (Ok (Some (given.Bytes bytes))) is)
      ∙ settled_on (offered_bytes link (Some (given.Bytes bytes))) bytes _ after refl

  pub core_offered : (link : List Seg) (m after : MachineState S) (bytes : List ℕ) → ObjectAnswers accesses (link ++ possible_settings ∷ []) [] m (Ok (Some (given.Bytes bytes))) after → after.world.profile ≡ Core
      → possible_resources accesses link m ≡ (possible_as Refused bytes, after)
  core_offered link m after bytes is core = bytes_offered link m after bytes is ∙ ap (λ (f : Profile). (possible_as (exclusives_in f) bytes, after)) core

  pub wide_offered : (link : List Seg) (m after : MachineState S) (bytes : List ℕ) → ObjectAnswers accesses (link ++ possible_settings ∷ []) [] m (Ok (Some (given.Bytes bytes))) after → after.world.profile ≡ Wide
      → possible_resources accesses link m ≡ (possible_as Taken bytes, after)
  wide_offered link m after bytes is wide = bytes_offered link m after bytes is ∙ ap (λ (f : Profile). (possible_as (exclusives_in f) bytes, after)) wide

  pub wrong_offer_told : (link : List Seg) (m after : MachineState S) (g : Given) → ObjectAnswers accesses (link ++ possible_settings ∷ []) [] m (Ok (Some g)) after → ((bytes : List ℕ) → g ≡ given.Bytes bytes → ⊥)
      → possible_resources accesses link m ≡ (Err (refusal.Value WrongType), after)
  unfolding possible_resources
  wrong_offer_told link m after g is other =
      answered_on (child_evaluated accesses link prs []) (Some g) _ m after (object_told (link ++ possible_settings ∷ []) [] m after (Ok (Some g)) is)
      ∙ settled_off (offered_bytes link (Some g)) (refusal.Value WrongType) _ after (no_bytes g other)

  pub not_offered : (link : List Seg) (m after : MachineState S) → ObjectAnswers accesses (link ++ possible_settings ∷ []) [] m (Ok None) after → possible_resources accesses link m ≡ (Err (refusal.Routing (NoOffer (text_of link))), after)
  unfolding possible_resources
  not_offered link m after is =
      answered_on (child_evaluated accesses link prs []) None _ m after (object_told (link ++ possible_settings ∷ []) [] m after (Ok None) is)
      ∙ settled_off (offered_bytes link None) (refusal.Routing (NoOffer (text_of link))) _ after refl

  pub offer_refused : (link : List Seg) (m after : MachineState S) (e : Refusal) → ObjectAnswers accesses (link ++ possible_settings ∷ []) [] m (Err e) after → possible_resources accesses link m ≡ (Err e, after)
  unfolding possible_resources
  offer_refused link m after e is = answered_off (child_evaluated accesses link prs []) e _ m after (object_told (link ++ possible_settings ∷ []) [] m after (Err e) is)

  pub current_told : (link : List Seg) (m after : MachineState S) (bytes numbers : List ℕ) → ObjectAnswers accesses (link ++ current_settings ∷ []) [] m (Ok (Some (given.Bytes bytes))) after → current_of bytes ≡ Ok numbers
      → current_resources accesses link m ≡ (Ok (Some numbers), after)
  unfolding current_resources settle
  current_told link m after bytes numbers is so =
      answered_on (child_evaluated accesses link crs []) (Some (given.Bytes bytes)) _ m after (object_told (link ++ current_settings ∷ []) [] m after (Ok (Some (given.Bytes bytes))) is)
      ∙ ap (λ (x : Outcome (Option (List ℕ))). (x, after)) (numbers_are bytes numbers so)

  pub bad_current_told : (link : List Seg) (m after : MachineState S) (bytes : List ℕ) (e : Refusal) → ObjectAnswers accesses (link ++ current_settings ∷ []) [] m (Ok (Some (given.Bytes bytes))) after → current_of bytes ≡ Err e
      → current_resources accesses link m ≡ (Err e, after)
  unfolding current_resources settle
  bad_current_told link m after bytes e is so =
      answered_on (child_evaluated accesses link crs []) (Some (given.Bytes bytes)) _ m after (object_told (link ++ current_settings ∷ []) [] m after (Ok (Some (given.Bytes bytes))) is)
      ∙ ap (λ (x : Outcome (Option (List ℕ))). (x, after)) (bad_numbers_are bytes e so)

  pub wrong_current_told : (link : List Seg) (m after : MachineState S) (g : Given) → ObjectAnswers accesses (link ++ current_settings ∷ []) [] m (Ok (Some g)) after → ((bytes : List ℕ) → g ≡ given.Bytes bytes → ⊥)
      → current_resources accesses link m ≡ (Err (refusal.Value WrongType), after)
  unfolding current_resources settle
  wrong_current_told link m after g is other =
      answered_on (child_evaluated accesses link crs []) (Some g) _ m after (object_told (link ++ current_settings ∷ []) [] m after (Ok (Some g)) is)
      ∙ ap (λ (x : Outcome (Option (List ℕ))). (x, after)) (no_numbers_are g other)

  pub no_current_told : (link : List Seg) (m after : MachineState S) → ObjectAnswers accesses (link ++ current_settings ∷ []) [] m (Ok None) after → current_resources accesses link m ≡ (Ok None, after)
  unfolding current_resources settle
  no_current_told link m after is = answered_on (child_evaluated accesses link crs []) None _ m after (object_told (link ++ current_settings ∷ []) [] m after (Ok None) is)

  pub current_refused : (link : List Seg) (m after : MachineState S) (e : Refusal) → ObjectAnswers accesses (link ++ current_settings ∷ []) [] m (Err e) after → current_resources accesses link m ≡ (Err e, after)
  unfolding current_resources
  current_refused link m after e is = answered_off (child_evaluated accesses link crs []) e _ m after (object_told (link ++ current_settings ∷ []) [] m after (Err e) is)

  pub set_told : (link : List Seg) (offer : InterruptOffer) (n : ℕ) (m after : MachineState S) (g : Given) → ObjectAnswers accesses (link ++ new_settings ∷ []) (given.Bytes (setting_of offer n) ∷ []) m (Ok (Some g)) after
      → resources_set accesses link offer n m ≡ (Ok true, after)
  unfolding resources_set give
  set_told link offer n m after g is = answered_on (child_evaluated accesses link srs (given.Bytes (setting_of offer n) ∷ [])) (Some g) _ m after (object_told (link ++ new_settings ∷ []) (given.Bytes (setting_of offer n) ∷ []) m after (Ok (Some g)) is)

  pub not_set_told : (link : List Seg) (offer : InterruptOffer) (n : ℕ) (m after : MachineState S) → ObjectAnswers accesses (link ++ new_settings ∷ []) (given.Bytes (setting_of offer n) ∷ []) m (Ok None) after
      → resources_set accesses link offer n m ≡ (Ok false, after)
  unfolding resources_set give
  not_set_told link offer n m after is = answered_on (child_evaluated accesses link srs (given.Bytes (setting_of offer n) ∷ [])) None _ m after (object_told (link ++ new_settings ∷ []) (given.Bytes (setting_of offer n) ∷ []) m after (Ok None) is)

  pub set_refused : (link : List Seg) (offer : InterruptOffer) (n : ℕ) (m after : MachineState S) (e : Refusal) → ObjectAnswers accesses (link ++ new_settings ∷ []) (given.Bytes (setting_of offer n) ∷ []) m (Err e) after
      → resources_set accesses link offer n m ≡ (Err e, after)
  unfolding resources_set
  set_refused link offer n m after e is = answered_off (child_evaluated accesses link srs (given.Bytes (setting_of offer n) ∷ [])) e _ m after (object_told (link ++ new_settings ∷ []) (given.Bytes (setting_of offer n) ∷ []) m after (Err e) is)

  -- ---- routing tables

  pub table_told : (device : List Seg) (m after : MachineState S) (entries : List Given) → evaluated_object accesses (device ++ routing_table_name ∷ []) [] m ≡ (Ok (given.Package (givens entries)), after)
      → routing_table accesses device m ≡ pins_from accesses entries [] after
  unfolding routing_table
  table_told device m after entries is =
      given_on (device ++ prt ∷ []) _ m
      ∙ (answered_on (evaluated_object accesses (device ++ prt ∷ []) []) (given.Package (givens entries)) _ m after is
      ∙ settled_on (entries_of (given.Package (givens entries))) entries _ after (ap (λ (l : List Given). Ok l) (same_parts entries)))

  pub no_table_told : (device : List Seg) (m after : MachineState S) (g : Given) → evaluated_object accesses (device ++ routing_table_name ∷ []) [] m ≡ (Ok g, after) → ((parts : Givens) → g ≡ given.Package parts → ⊥)
      → routing_table accesses device m ≡ (Err (refusal.RoutingTable NotPackage), after)
  unfolding routing_table
  no_table_told device m after g is other =
      given_on (device ++ prt ∷ []) _ m ∙ (answered_on (evaluated_object accesses (device ++ prt ∷ []) []) g _ m after is ∙ settled_off (entries_of g) (refusal.RoutingTable NotPackage) _ after (no_entries g other))

  pub table_refused : (device : List Seg) (m after : MachineState S) (e : Refusal) → evaluated_object accesses (device ++ routing_table_name ∷ []) [] m ≡ (Err e, after) → routing_table accesses device m ≡ (Err e, after)
  unfolding routing_table
  table_refused device m after e is = given_on (device ++ prt ∷ []) _ m ∙ answered_off (evaluated_object accesses (device ++ prt ∷ []) []) e _ m after is
