-- What the calls of a run make of a machine evaluations make of its world, and nothing else changes.
use Rattle.std.specs.Prelude.{ℕ, List, [], ◌∷◌, ◌++◌, Bool, true, false, Option, Ok, Err, refl, if◌then◌else◌}
use Rattle.std.proofs.Common.{◌∙◌, subst}
use Rattle.ar_space.specs.declared.refusal.Refusal.{Refusal}
use Rattle.ar_space.specs.declared.refusal.Refusal.TheVariants as refusal
use Rattle.ar_space.specs.declared.refusal.MachineFault.TheVariants.{Spent}
use Rattle.ar_space.specs.Accesses.{Accesses}
use Rattle.ar_space.specs.Outcome.{Outcome}
use Rattle.ar_space.specs.Change.{Change, settle, give, stop, go_on, ◌>>=◌}
use Rattle.aml_path.specs.declared.segment.Seg.{Seg}
use Rattle.aml_world.specs.state.Given.{Given}
use Rattle.aml_world.specs.state.Given as given
use Rattle.aml_laws.specs.Becomes.{same, answer}
use Rattle.acpi_resources.specs.Records.{InterruptOffer}
use Rattle.acpi_machine.specs.Buses.{prt}
use Rattle.acpi_machine.specs.Calls.{on_world, unless_spent, object_answered, evaluated_object}
use Rattle.acpi_machine.specs.Children.{stands, has_child, some_answer, answer_if_any, child_evaluated}
use Rattle.acpi_machine.specs.MachineStates.{MachineState, sci_of}
use Rattle.acpi_prt.specs.declared.pin.Pin.{Pin}
use Rattle.acpi_prt.specs.Entries.{list_of}
use Rattle.acpi_prt.specs.Links.{device_at, id_at, link_at}
use Rattle.acpi_prt.specs.RoutingTables.{linked, route_of, pin_with, pin_among, pin_of, pins_from, routing_table}
use Rattle.acpi_links.specs.Folds.{folded}
use Rattle.acpi_links.specs.Devices.{devices_listed, pins_at, pins_of_device}
use Rattle.acpi_links.specs.Gatherings.{Gathering, sci_shown, pins_found, links_found, gathered}
use Rattle.acpi_links.specs.Links.{PresentLink, link_found, link_if, link_asked}
use Rattle.acpi_links.specs.ObjectNames.{crs}
use Rattle.acpi_links.specs.Presence.{is_present}
use Rattle.acpi_links.specs.Resources.{offer_in, possible_resources, current_resources}
use Rattle.acpi_links.specs.Settings.{resources_set}
use Rattle.acpi_configure.specs.Configured.{IsReport}
use Rattle.acpi_configure.specs.Options.{RunOptions}
use Rattle.acpi_configure.specs.Others.{resources_if, present_resources, device_resources, device_asked, other_devices, others_asked}
use Rattle.acpi_configure.specs.Settling.{attempted, link_set, links_set, link_read, settled, settled_unless}
use Rattle.acpi_configure.specs.WithOptions.{Findings, found_by, IsReportWith}
use Rattle.route_report.specs.declared.report.SetLine.{SetLine}
use Rattle.route_report.specs.Reports.{ReportedAfter, RoutingReport}
use Rattle.machine_laws.specs.Evaluated.{OnlyEvaluated}
use Rattle.machine_laws.proofs.MachineWorlds.{behind}

module _ {S : Type 0} (accesses : Accesses S) where
  pub nothing : (s : MachineState S) → OnlyEvaluated accesses s s
  nothing s = record { world = same; tables = refl; mode = refl; steps = refl; spent = refl }

  pub chained : (s t u : MachineState S) → OnlyEvaluated accesses s t → OnlyEvaluated accesses t u → OnlyEvaluated accesses s u
  chained s t u h i = record {
    world = behind accesses s.world t.world u.world h.world i.world;
    tables = i.tables ∙ h.tables;
    mode = i.mode ∙ h.mode;
    steps = i.steps ∙ h.steps;
    spent = i.spent ∙ h.spent;
  }

  abbrev pub Only : {A : Type 0} → Change (MachineState S) A → Type 0
  Only m = (s : MachineState S) → OnlyEvaluated accesses s (m s).1

  -- ---- changes of a machine

  go_on_only : {A B : Type 0} (u : MachineState S) (r : Outcome A) (s : MachineState S) (k : A → Change (MachineState S) B) → ((a : A) → Only (k a)) → OnlyEvaluated accesses u s → OnlyEvaluated accesses u (go_on r s k).1
  unfolding go_on
  go_on_only u (Ok a) s k h i = chained u s (k a s).1 i (h a s)
  go_on_only u (Err e) s k h i = i

  pub then_only : {A B : Type 0} (m : Change (MachineState S) A) (k : A → Change (MachineState S) B) → Only m → ((a : A) → Only (k a)) → Only (m >>= k)
  unfolding ◌>>=◌
  then_only m k h i s = go_on_only s (m s).0 (m s).1 k i (h s)

  settle_only : {A : Type 0} (x : Outcome A) → Only (settle x)
  unfolding settle
  settle_only x s = nothing s

  give_only : {A : Type 0} (a : A) → Only (give a)
  unfolding give
  give_only a s = nothing s

  stop_only : (A : Type 0) (e : Refusal) → Only (stop {A = A} e)
  unfolding stop
  stop_only A e s = nothing s

  if_only : {A : Type 0} (b : Bool) (m n : Change (MachineState S) A) → Only m → Only n → (s : MachineState S) → OnlyEvaluated accesses s (if b then m s else n s).1
  if_only true m n h i s = h s
  if_only false m n h i s = i s

  pub folded_only : {A B R : Type 0} (add : R → B → R) (f : A → Change (MachineState S) B) → ((a : A) → Only (f a)) → (xs : List A) (done : R) → Only (folded add f xs done)
  unfolding folded
  folded_only add f h [] done = give_only done
  folded_only add f h (x ∷ xs) done = then_only (f x) _ (h x) (λ more. folded_only add f h xs (add done more))

  pub attempted_only : {A B : Type 0} (tell : Outcome A → B) (m : Change (MachineState S) A) → Only m → Only (attempted tell m)
  unfolding attempted
  attempted_only tell m h s = h s

  -- ---- objects

  answered_only : (p : List Seg) (arguments : List Given) → Only (object_answered accesses p arguments)
  unfolding object_answered on_world
  answered_only p arguments s = record { world = answer s.world p arguments s.steps same; tables = refl; mode = refl; steps = refl; spent = refl }

  object_only : (p : List Seg) (arguments : List Given) → Only (evaluated_object accesses p arguments)
  unfolding evaluated_object unless_spent
  object_only p arguments s = if_only s.spent (stop (refusal.Machine Spent)) (object_answered accesses p arguments) (stop_only _ (refusal.Machine Spent)) (answered_only p arguments) s

  some_answer_only : (p : List Seg) (arguments : List Given) → Only (some_answer accesses p arguments)
  unfolding some_answer
  some_answer_only p arguments = then_only _ _ (object_only p arguments) (λ a. give_only _)

  answer_if_any_only : (p : List Seg) (arguments : List Given) → Only (answer_if_any accesses p arguments)
  unfolding answer_if_any
  answer_if_any_only p arguments s = if_only (stands p s) (some_answer accesses p arguments) _ (some_answer_only p arguments) nothing s

  child_only : (parent : List Seg) (name : Seg) (arguments : List Given) → Only (child_evaluated accesses parent name arguments)
  child_only parent name arguments = answer_if_any_only (parent ++ name ∷ []) arguments

  -- ---- resources

  pub current_only : (link : List Seg) → Only (current_resources accesses link)
  unfolding current_resources
  current_only link = then_only _ _ (child_only link _ _) (λ answer. settle_only _)

  pub possible_only : (link : List Seg) → Only (possible_resources accesses link)
  unfolding possible_resources offer_in
  possible_only link = then_only _ _ (child_only link _ _) (λ answer. then_only _ _ (settle_only _) (λ bytes. nothing))

  pub setting_only : (link : List Seg) (offer : InterruptOffer) (n : ℕ) → Only (resources_set accesses link offer n)
  unfolding resources_set
  setting_only link offer n = then_only _ _ (child_only link _ _) (λ answer. give_only _)

  presence_only : (link : List Seg) → Only (is_present accesses link)
  unfolding is_present
  presence_only link = then_only _ _ (child_only link _ _) (λ answer. settle_only _)

  -- ---- routing tables

  link_at_only : (p : List Seg) → Only (link_at accesses p)
  unfolding link_at device_at id_at
  link_at_only p = then_only _ _ nothing (λ device. then_only _ _ (settle_only _) (λ hid. then_only _ _ nothing (λ name. then_only _ _ (object_only name []) (λ id. then_only _ _ (settle_only _) (λ is. give_only _)))))

  linked_only : (p : List Seg) (index : ℕ) → Only (linked accesses p index)
  unfolding linked
  linked_only p index = then_only _ _ (link_at_only p) (λ link. then_only _ _ (settle_only _) (λ none. give_only _))

  route_of_only : (g : Given) (index : ℕ) → Only (route_of accesses g index)
  route_of_only given.Nothing index = stop_only _ _
  route_of_only (given.Integer n) index = give_only _
  route_of_only (given.Text bytes) index = stop_only _ _
  route_of_only (given.Bytes bytes) index = stop_only _ _
  route_of_only (given.Package gs) index = stop_only _ _
  route_of_only (given.Named p) index = linked_only p index
  route_of_only given.Reference index = stop_only _ _

  pin_with_only : (a p s i : Given) → Only (pin_with accesses a p s i)
  unfolding pin_with
  pin_with_only a p s i = then_only _ _ (settle_only _) (λ address. then_only _ _ (settle_only _) (λ pin. then_only _ _ (settle_only _) (λ tested. then_only _ _ (settle_only _) (λ index. then_only _ _ (settle_only _) (λ letter.
      then_only _ _ (route_of_only s index) (λ route. give_only _))))))

  pin_among_only : (gs : List Given) → Only (pin_among accesses gs)
  pin_among_only [] = stop_only _ _
  pin_among_only (a ∷ []) = stop_only _ _
  pin_among_only (a ∷ p ∷ []) = stop_only _ _
  pin_among_only (a ∷ p ∷ s ∷ []) = stop_only _ _
  pin_among_only (a ∷ p ∷ s ∷ i ∷ []) = pin_with_only a p s i
  pin_among_only (a ∷ p ∷ s ∷ i ∷ x ∷ xs) = stop_only _ _

  pin_of_only : (g : Given) → Only (pin_of accesses g)
  pin_of_only given.Nothing = give_only _
  pin_of_only (given.Integer n) = stop_only _ _
  pin_of_only (given.Text bytes) = stop_only _ _
  pin_of_only (given.Bytes bytes) = stop_only _ _
  pin_of_only (given.Package parts) = pin_among_only (list_of parts)
  pin_of_only (given.Named p) = stop_only _ _
  pin_of_only given.Reference = stop_only _ _

  pins_from_only : (entries : List Given) (pins : List Pin) → Only (pins_from accesses entries pins)
  unfolding pins_from
  pins_from_only [] pins = give_only _
  pins_from_only (entry ∷ entries) pins = then_only _ _ (pin_of_only entry) (λ pin. pins_from_only entries _)

  pub routing_table_only : (device : List Seg) → Only (routing_table accesses device)
  unfolding routing_table
  routing_table_only device = then_only _ _ (give_only _) (λ path. then_only _ _ (object_only path []) (λ answer. then_only _ _ (settle_only _) (λ entries. pins_from_only entries _)))

  -- ---- what is gathered

  pins_at_only : (device : List Seg) → Only (pins_at accesses device)
  unfolding pins_at
  pins_at_only device s = if_only (has_child device prt s) (routing_table accesses device) _ (routing_table_only device) nothing s

  pub pins_of_device_only : (device : List Seg) → Only (pins_of_device accesses device)
  unfolding pins_of_device
  pins_of_device_only device = then_only _ _ (pins_at_only device) (λ pins. give_only _)

  pub pins_found_only : (sci : Option ℕ) → Only (pins_found accesses sci)
  unfolding pins_found devices_listed
  pins_found_only sci = then_only _ _ nothing (λ list. then_only _ _ (folded_only _ _ pins_of_device_only list _) (λ pins. then_only _ _ (settle_only _) (λ few. give_only _)))

  link_found_only : (avoid : List ℕ) (link : List Seg) → Only (link_found accesses avoid link)
  unfolding link_found
  link_found_only avoid link = then_only _ _ (possible_only link) (λ offer. then_only _ _ (settle_only _) (λ left. then_only _ _ (current_only link) (λ now. give_only _)))

  link_if_only : (avoid : List ℕ) (present : Bool) (link : List Seg) → Only (link_if accesses avoid present link)
  unfolding link_if
  link_if_only avoid true link = link_found_only avoid link
  link_if_only avoid false link = give_only _

  link_asked_only : (avoid : List ℕ) (link : List Seg) → Only (link_asked accesses avoid link)
  unfolding link_asked
  link_asked_only avoid link = then_only _ _ (presence_only link) (λ present. link_if_only avoid present link)

  pub links_found_only : (avoid : List ℕ) (pins : List (List Seg × Pin)) → Only (links_found accesses avoid pins)
  unfolding links_found
  links_found_only avoid pins = then_only _ _ (give_only _) (λ named. then_only _ _ (settle_only _) (λ few. then_only _ _ (folded_only _ _ (link_asked_only avoid) named _) (λ links. then_only _ _ (settle_only _) (λ one. give_only _))))

  pub gathered_only : (avoid : List ℕ) → Only (gathered accesses avoid)
  unfolding gathered sci_shown
  gathered_only avoid = then_only _ _ nothing (λ sci. then_only _ _ (pins_found_only sci) (λ pins. then_only _ _ (links_found_only avoid pins) (λ links. give_only _)))

  -- ---- other devices

  resources_if_only : (present : Bool) (device : List Seg) → Only (resources_if accesses present device)
  unfolding resources_if
  resources_if_only true device = current_only device
  resources_if_only false device = give_only _

  present_only : (device : List Seg) → Only (present_resources accesses device)
  unfolding present_resources
  present_only device = then_only _ _ (presence_only device) (λ present. resources_if_only present device)

  device_only : (device : List Seg) → Only (device_resources accesses device)
  unfolding device_resources
  device_only device s = if_only (has_child device crs s) (present_resources accesses device) _ (present_only device) nothing s

  device_asked_only : (device : List Seg) → Only (device_asked accesses device)
  unfolding device_asked
  device_asked_only device = then_only _ _ (attempted_only _ _ (device_only device)) (λ state. give_only _)

  pub others_asked_only : (spare : Bool) (links : List PresentLink) → Only (others_asked accesses spare links)
  unfolding others_asked
  others_asked_only true links s = folded_only _ _ device_asked_only (other_devices links s) [] s
  others_asked_only false links s = nothing s

  pub found_by_only : (o : RunOptions) (sci : Option ℕ) → Only (found_by accesses o sci)
  unfolding found_by
  found_by_only o sci = then_only _ _ (gathered_only o.avoid) (λ first. then_only _ _ (others_asked_only o.spare first.links) (λ asked. then_only _ _ (settle_only _) (λ narrow. give_only _)))

  -- ---- links that are set and read

  link_set_only : (link : PresentLink) (n : ℕ) → Only (link_set accesses link n)
  unfolding link_set
  link_set_only link n = then_only _ _ (attempted_only _ _ (setting_only link.0 link.1 n)) (λ came. give_only _)

  links_set_only : (links : List PresentLink) (ns : List ℕ) (done : List SetLine) → Only (links_set accesses links ns done)
  unfolding links_set
  links_set_only [] ns done = give_only _
  links_set_only (link ∷ links) [] done = give_only _
  links_set_only (link ∷ links) (n ∷ ns) done = then_only _ _ (link_set_only link n) (λ line. links_set_only links ns _)

  link_read_only : (link : PresentLink) → Only (link_read accesses link)
  unfolding link_read
  link_read_only link = then_only _ _ (attempted_only _ _ (current_only link.0)) (λ state. give_only _)

  settled_only : (links : List PresentLink) (ns : List ℕ) → Only (settled accesses links ns)
  unfolding settled
  settled_only links ns = then_only _ _ (links_set_only links ns []) (λ sets. then_only _ _ (folded_only _ _ link_read_only links []) (λ afters. give_only _))

  pub settled_unless_only : (dry : Bool) (links : List PresentLink) (ns : List ℕ) → Only (settled_unless accesses dry links ns)
  unfolding settled_unless
  settled_unless_only true links ns = give_only _
  settled_unless_only false links ns = settled_only links ns

  -- ---- reports

  pub report_only : (dry : Bool) (avoid : List ℕ) (before after : MachineState S) (r : RoutingReport) → IsReport accesses dry avoid before after r → OnlyEvaluated accesses before after
  report_only dry avoid before after r is = chained before is.chosen_in after
      (subst (λ (x : Outcome Gathering × MachineState S). OnlyEvaluated accesses before x.1) is.is_found (gathered_only avoid before))
      (subst (λ (x : Outcome (List SetLine × List ReportedAfter) × MachineState S). OnlyEvaluated accesses is.chosen_in x.1) is.is_settled (settled_unless_only dry is.found.links is.answer.choice is.chosen_in))

  pub found_only : (o : RunOptions) (before after : MachineState S) (r : RoutingReport) (is : IsReportWith accesses o before after r) → OnlyEvaluated accesses before is.chosen_in
  found_only o before after r is = subst (λ (x : Outcome Findings × MachineState S). OnlyEvaluated accesses before x.1) is.is_found (found_by_only o (sci_of before) before)

  pub settled_after : (o : RunOptions) (before after : MachineState S) (r : RoutingReport) (is : IsReportWith accesses o before after r) → OnlyEvaluated accesses is.chosen_in after
  settled_after o before after r is = subst (λ (x : Outcome (List SetLine × List ReportedAfter) × MachineState S). OnlyEvaluated accesses is.chosen_in x.1) is.is_settled (settled_unless_only o.dry is.found.gathering.links is.answer.choice is.chosen_in)

  pub report_with_only : (o : RunOptions) (before after : MachineState S) (r : RoutingReport) → IsReportWith accesses o before after r → OnlyEvaluated accesses before after
  report_with_only o before after r is = chained before is.chosen_in after (found_only o before after r is) (settled_after o before after r is)
