-- Where the calls that ask links and routing tables stop.
use Rattle.std.specs.Prelude.{IsErr, IsErrAnd}
use Rattle.std.specs.Option.{is_some, option_map}
use Rattle.std.proofs.Common.{◌≡◌, ◌∙◌, ℕ, List, [], ◌∷◌, Bool, true, false, Option, Some, None, Ok, Err, refl, sym, ap, subst, if◌then◌else◌}
use Rattle.ar_space.specs.Accesses.{Accesses}
use Rattle.ar_space.specs.declared.refusal.Refusal.{Refusal}
use Rattle.ar_space.specs.Outcome.{Outcome, Answers}
use Rattle.ar_space.specs.Change.{Does, settle, ◌>>=◌}
use Rattle.ar_space.proofs.Changes.{does_ok, does_err, does_give, does_settle}
use Rattle.aml_path.specs.declared.segment.Seg.{Seg}
use Rattle.aml_world.specs.state.Given.{Given, Bytes}
use Rattle.acpi_resources.specs.Records.{InterruptOffer}
use Rattle.acpi_resources.specs.Settings.{setting_of}
use Rattle.acpi_machine.specs.Buses.{prt}
use Rattle.acpi_machine.specs.Children.{has_child, child_evaluated}
use Rattle.acpi_machine.specs.MachineStates.{MachineState, sci_of}
use Rattle.acpi_machine.specs.Stops.{AllOrNone}
use Rattle.acpi_machine.proofs.BelowPaths.{child_asked}
use Rattle.acpi_machine.proofs.Stopping.{none_made, keeps, made_before, made_given, made_then_settled, stops_first, stops_next, goes_start, stops_here}
use Rattle.acpi_prt.specs.RoutingTables.{routing_table}
use Rattle.acpi_prt.specs.Stops.{StopsInTable}
use Rattle.acpi_prt.specs.declared.pin.Pin.{Pin}
use Rattle.acpi_links.specs.Answered.{numbers_of}
use Rattle.acpi_links.specs.ObjectNames.{sta, prs, crs, srs}
use Rattle.acpi_links.specs.Presence.{presence_of, is_present}
use Rattle.acpi_links.specs.Resources.{offer_in, offered_bytes, possible_resources, current_resources}
use Rattle.acpi_links.specs.Settings.{resources_set}
use Rattle.acpi_links.specs.Devices.{devices, devices_listed, pins_at, pins_of_device}
use Rattle.acpi_links.specs.Gatherings.{pins_found}
use Rattle.acpi_links.specs.Links.{links_named, few_links, some_left}
use Rattle.acpi_links.specs.Stops.{StopsIfTable, StopsInDevice, StopsInTables, offer_asked, StopsInOffer, StopsIfPresent, StopsInLinks, StopsInFew, StopsInGathering}

-- devices are listed without a change
pub listed : {S : Type 0} {r : Outcome (List (List Seg))} {s : MachineState S} → Answers r (Ok (devices s)) → Does r s devices_listed s
unfolding devices_listed
listed {s = s} h = record { is = λ ne. ap (λ x. (x, s)) (h.is ne) }

-- ---- calls that evaluate one object of a link at most

module _ {S : Type 0} (accesses : Accesses S) {s t : MachineState S} (link : List Seg) (name : Seg) (arguments : List Given) (h : AllOrNone (child_evaluated accesses link name arguments) s t) where
  pub present_made : name ≡ sta → arguments ≡ [] → AllOrNone (is_present accesses link) s t
  unfolding is_present
  present_made e none = made_then_settled (child_evaluated accesses link sta []) presence_of (child_asked accesses link name sta arguments h e none)

  pub possible_made : name ≡ prs → arguments ≡ [] → AllOrNone (possible_resources accesses link) s t
  unfolding possible_resources offer_in settle ◌>>=◌
  possible_made e none =
      made_before (child_evaluated accesses link prs []) (λ answer. settle (offered_bytes link answer) >>= offer_in) (λ answer u. keeps (offered_bytes link answer) u offer_in (λ bytes. refl)) (child_asked accesses link name prs arguments h e none)

  pub current_made : name ≡ crs → arguments ≡ [] → AllOrNone (current_resources accesses link) s t
  unfolding current_resources
  current_made e none = made_then_settled (child_evaluated accesses link crs []) numbers_of (child_asked accesses link name crs arguments h e none)

  pub set_made : (offer : InterruptOffer) (n : ℕ) → name ≡ srs → Answers (Ok arguments) (Ok (Bytes (setting_of offer n) ∷ [])) → AllOrNone (resources_set accesses link offer n) s t
  unfolding resources_set
  set_made offer n e a =
      let is : Bytes (setting_of offer n) ∷ [] ≡ arguments = cc (a.is tt) in
      made_given (child_evaluated accesses link srs (Bytes (setting_of offer n) ∷ [])) is_some
      (subst (λ x. AllOrNone (child_evaluated accesses link x (Bytes (setting_of offer n) ∷ [])) s t) e (subst (λ gs. AllOrNone (child_evaluated accesses link name gs) s t) (sym is) h))

-- ---- a setting that is handed to a link

module _ {S : Type 0} (accesses : Accesses S) {s t : MachineState S} (link : List Seg) (offer : InterruptOffer) (n : ℕ) (name : Seg) (arguments : List Given) (e : name ≡ srs) (a : Answers (Ok arguments) (Ok (Bytes (setting_of offer n) ∷ []))) where
  as_handed : (r : Outcome (Option Given)) → Does r t (child_evaluated accesses link name arguments) s → Does r t (child_evaluated accesses link srs (Bytes (setting_of offer n) ∷ [])) s
  as_handed r d =
      let is : Bytes (setting_of offer n) ∷ [] ≡ arguments = cc (a.is tt) in
      subst (λ x. Does r t (child_evaluated accesses link x (Bytes (setting_of offer n) ∷ [])) s) e (subst (λ gs. Does r t (child_evaluated accesses link name gs) s) (sym is) d)

  pub does_set : {A : Type 0} (view : A → Given) (answer : Option A) → Does (Ok (option_map view answer)) t (child_evaluated accesses link name arguments) s → Does (Ok (is_some answer)) t (resources_set accesses link offer n) s
  unfolding resources_set
  does_set view None d = does_ok (child_evaluated accesses link srs (Bytes (setting_of offer n) ∷ [])) _ (as_handed (Ok None) d) does_give
  does_set view (Some g) d = does_ok (child_evaluated accesses link srs (Bytes (setting_of offer n) ∷ [])) _ (as_handed (Ok (Some (view g))) d) does_give

  pub does_not_set : {r : Outcome Bool} (f : Refusal) → Does (Err f) t (child_evaluated accesses link name arguments) s → IsErr r × IsErrAnd r (λ x. x ≡ f) → Does r t (resources_set accesses link offer n) s
  unfolding resources_set
  does_not_set f d i = does_err (child_evaluated accesses link srs (Bytes (setting_of offer n) ∷ [])) _ (as_handed (Err f) d) i

-- ---- a link: `_STA`, `_PRS`, `_CRS`

module _ {S : Type 0} (accesses : Accesses S) (avoid : List ℕ) {s t : MachineState S} where
  pub in_offer : (link : List Seg) → AllOrNone (possible_resources accesses link) s t → StopsInOffer accesses avoid link s t
  unfolding offer_asked
  in_offer link h = stops_first (made_then_settled (possible_resources accesses link) (some_left avoid link) h)

  pub behind_offer : {u : MachineState S} (link : List Seg) (offer : InterruptOffer) → Does (Ok offer) t (possible_resources accesses link) s → Answers (Ok tt) (some_left avoid link offer)
      → AllOrNone (current_resources accesses link) t u → StopsInOffer accesses avoid link s u
  unfolding offer_asked
  behind_offer link offer d h w = stops_next (does_ok (possible_resources accesses link) _ d (does_settle (Ok tt) (some_left avoid link offer) h)) w

  pub if_present : (present : Bool) (link : List Seg) → present ≡ true → StopsInOffer accesses avoid link s t → StopsIfPresent accesses avoid present link s t
  if_present present link is h = rw is h

-- ---- lists of devices and links

module _ {S : Type 0} (accesses : Accesses S) where
  pub no_device : (device : List Seg) (s : MachineState S) → StopsInDevice accesses device s s
  no_device device s = by (has_child device prt s)
    where
      by : (b : Bool) → StopsIfTable accesses b device s s
      by true = stops_first none_made
      by false = refl

  pub no_table : (list : List (List Seg)) (s : MachineState S) → StopsInTables accesses list s s
  no_table list s = stops_here (pins_of_device accesses) (StopsInDevice accesses) no_device list goes_start

  in_table : (is : Bool) (device : List Seg) (s t : MachineState S) → is ≡ true → StopsInTable accesses device s t → StopsIfTable accesses is device s t
  in_table is device s t e h = rw e h

  module _ (has : Bool) (device : List Seg) (n : Seg) (s : MachineState S) (a : Answers (Ok has) (Ok (has_child device n s))) (e : n ≡ prt) where
    as_found : has_child device prt s ≡ has
    as_found = (let is : has_child device n s ≡ has = cc (a.is tt) in subst (λ x. has_child device x s ≡ has) e is)

    pub stops_in_table : (t : MachineState S) → has ≡ true → StopsInTable accesses device s t → StopsInDevice accesses device s t
    stops_in_table t is h = in_table (has_child device prt s) device s t (as_found ∙ is) h

    pub does_table : (r : Outcome (List Pin)) (t : MachineState S) → has ≡ true → Does r t (routing_table accesses device) s → Does r t (pins_at accesses device) s
    unfolding pins_at
    does_table r t is d = record { is = λ ne. ap (λ b. if b then routing_table accesses device s else (Ok [], s)) (as_found ∙ is) ∙ d.is ne }

    pub does_no_table : has ≡ false → Does (Ok []) s (pins_at accesses device) s
    unfolding pins_at
    does_no_table is = record { is = λ _. ap (λ b. if b then routing_table accesses device s else (Ok [], s)) (as_found ∙ is) }

  pub devices_as_listed : (list : List (List Seg)) (s t : MachineState S) → Does (Ok list) s devices_listed s → StopsInTables accesses list s t → StopsInTables accesses (devices s) s t
  unfolding devices_listed
  devices_as_listed list s t d h =
      let is : devices s ≡ list = (let e = ap (λ (x : Outcome (List (List Seg)) × MachineState S). x.0) (d.is tt) in cc e) in
      subst (λ xs. StopsInTables accesses xs s t) (sym is) h

  pub no_few : (avoid : List ℕ) (list : List (List Seg)) (s : MachineState S) → StopsInFew accesses avoid list s s
  no_few avoid list s = stops_first refl

  pub few_named : (avoid : List ℕ) (list : List (List Seg)) (pins : List (List Seg × Pin)) (s t : MachineState S) → Answers (Ok list) (Ok (links_named pins)) → Answers (Ok tt) (few_links list) → StopsInLinks accesses avoid list s t → StopsInFew accesses avoid (links_named pins) s t
  few_named avoid list pins s t a f h =
      let is : links_named pins ≡ list = cc (a.is tt) in
      subst (λ xs. StopsInFew accesses avoid xs s t) (sym is) (stops_next (does_settle (Ok tt) (few_links list) f) h)

  -- links are asked in the machine that the routing tables left
  pub behind_tables : (avoid : List ℕ) (sci : Option ℕ) (pins : List (List Seg × Pin)) (s t u : MachineState S) → ◌≡◌ {A = Outcome (Option ℕ)} (Ok sci) (Ok (sci_of s)) → Does (Ok pins) t (pins_found accesses sci) s → StopsInFew accesses avoid (links_named pins) t u → StopsInGathering accesses avoid s u
  behind_tables avoid sci pins s t u e d h =
      let is : sci ≡ sci_of s = cc e in
      let found : Does (Ok pins) t (pins_found accesses (sci_of s)) s = subst (λ n. Does (Ok pins) t (pins_found accesses n) s) is d in
      stops_next found h

-- these close the reading of a routing table, if there is one
pub ruleset tables = (no_device, stops_in_table, does_table, does_no_table)
