-- The lines for a kernel in a report: each source has one line `trigger`, and each device with a routing table one line `bus`.
use Rattle.std.specs.Prelude.{◌≡◌, ℕ, List, [], ◌∷◌, ◌++◌, map, Bool, true, false, Option, Some, None, option_to_list, Ok, Contains, refl, if◌then◌else◌}
use Rattle.std.proofs.Common.{ap, sym, subst, ◌∙◌}
use Rattle.std.proofs.lemmas.Cmp.{tied_itself}
use Rattle.std.proofs.lemmas.List.Elements.{Contains-append_left, Contains-append_right}
use Rattle.ar_space.specs.Accesses.{Accesses}
use Rattle.ar_tables.specs.Fadts.{sci_interrupt}
use Rattle.aml_path.specs.declared.segment.Seg.{Seg}
use Rattle.aml_path.specs.Paths.{path_cmp, path_eq}
use Rattle.aml_namespace.specs.Walks.{Ascending}
use Rattle.aml_namespace.proofs.Paths.{path_total, same_path}
use Rattle.aml_laws.specs.Outside.{is_open, Outside}
use Rattle.aml_laws.proofs.NamesStay.{outside_stays, names_stay}
use Rattle.aml_laws.proofs.OutsideOfMethods.{outside_below}
use Rattle.aml_objects.specs.declared.entry.Entry.{Entry}
use Rattle.aml_objects.specs.declared.entry.NamedObject.{NamedObject}
use Rattle.aml_objects.specs.declared.entry.NamedObject.TheVariants as object
use Rattle.std.specs.FinMap.{get}
use Rattle.std.specs.Option.{option_map}
use Rattle.acpi_resources.specs.Numbers.{set_of}
use Rattle.acpi_resources.proofs.Members.{members_of_set}
use Rattle.acpi_machine.specs.Buses.{prt}
use Rattle.acpi_machine.specs.Kinds.{Kind, kind_of, kind_at}
use Rattle.acpi_machine.specs.Kinds as kind
use Rattle.acpi_machine.specs.MachineStates.{MachineState}
use Rattle.acpi_prt.specs.declared.pin.Pin.{Pin}
use Rattle.acpi_prt.specs.declared.pin.Route.{Route}
use Rattle.acpi_prt.specs.declared.pin.Route.TheVariants as route
use Rattle.acpi_links.specs.Links.{PresentLink}
use Rattle.acpi_links.specs.Resources.{possible_resources}
use Rattle.acpi_links.specs.Problems.{wired_number, wired_numbers, counted, wired_counts, pin_counts, offering}
use Rattle.acpi_links.proofs.Members.{first, behind}
use Rattle.acpi_links.proofs.Wired.{counts_in_order}
use Rattle.acpi_configure.specs.ForKernels.{devices_with_tables, IsToldBehind, IsReportFor}
use Rattle.acpi_configure.specs.Lines.{overrides_of, row_of, given_to, way_of, pin_route, pin_line}
use Rattle.acpi_configure.specs.Options.{RunOptions}
use Rattle.acpi_configure.specs.Triggers.{flags_to, flags_of, overrides_used, triggers_of}
use Rattle.acpi_configure.proofs.Telling.{told_behind}
use Rattle.route_check.specs.Claimed.{gives_of}
use Rattle.route_model.specs.Links.{OfferingLink}
use Rattle.route_report.specs.declared.report.BusLine.{BusLine}
use Rattle.route_report.specs.declared.report.InterruptSource.{InterruptSource}
use Rattle.route_report.specs.declared.report.InterruptSource.TheVariants as source
use Rattle.route_report.specs.declared.report.PinLine.{PinLine}
use Rattle.route_report.specs.declared.report.PinRoute.{PinRoute}
use Rattle.route_report.specs.declared.report.PinRoute.TheVariants as way
use Rattle.route_report.specs.declared.report.TriggerLine.{TriggerLine}
use Rattle.route_report.specs.Readable.{triggers_told, buses_told}
use Rattle.route_report.specs.Reports.{ReportedLink, RoutingReport}
use Rattle.machine_laws.specs.Evaluated.{OnlyEvaluated}
use Rattle.machine_laws.specs.KernelLines.{HasTrigger, WayHasTrigger, sources_in, Governs, IsOverrideTo, IsOverrideOf, Follows, IsTriggeredAsOffered, HasTable, HasBus, BusesAsked}
use Rattle.machine_laws.proofs.KernelBuses.{listed_device, stands_at, tabled_device, device_tabled, tabled_ascend, LinesOf, lines_of}
use Rattle.machine_laws.proofs.KernelOffers.{link_offered}
use Rattle.machine_laws.proofs.KernelTriggers.{triggers_behind, buses_behind, sources_in_order, sources_apart, governed_to, governed_of, follows, line_of_link, line_of_wired, line_of_sci}
use Rattle.machine_laws.proofs.OneOfList.{Apart, apart_increasing, apart_ascending, mapped_from, mapped_has, one_named, picked_has}
use Rattle.machine_laws.proofs.RunsEvaluate.{chained, found_only, settled_after, report_with_only}
use Rattle.machine_laws.proofs.RunsFound.{FoundInRun, found_in_run, links_apart, PinFrom, pin_from}

-- ---- what stands at places of lists

rows_paths : (links : List PresentLink) → map (λ (l : ReportedLink). l.path) (map row_of links) ≡ map (λ (l : PresentLink). l.0) links
rows_paths [] = refl
rows_paths (l ∷ ls) = ap (λ ps. l.0 ∷ ps) (rows_paths ls)

posed_paths : (avoided : List ℕ) (links : List PresentLink) → map (λ (l : OfferingLink). l.path) (map (offering avoided) links) ≡ map (λ (l : PresentLink). l.0) links
posed_paths avoided [] = refl
posed_paths avoided (l ∷ ls) = ap (λ ps. l.0 ∷ ps) (posed_paths avoided ls)

-- a link that is given an interrupt is one of the problem
given_path : (ls : List OfferingLink) (ns : List ℕ) (p : List Seg) (n : ℕ) → given_to (gives_of ls ns) p ≡ Some n → Contains (map (λ (l : OfferingLink). l.path) ls) p
given_path [] ns p n is = absurd (cc is)
given_path (l ∷ ls) [] p n is = absurd (cc is)
given_path (l ∷ ls) (k ∷ ns) p n is = by (path_eq l.path p) refl is (given_path ls ns p n)
  where
    by : (b : Bool) → path_eq l.path p ≡ b → (if b then Some k else given_to (gives_of ls ns) p) ≡ Some n → (given_to (gives_of ls ns) p ≡ Some n → Contains (map (λ (l : OfferingLink). l.path) ls) p) → Contains (l.path ∷ map (λ (l : OfferingLink). l.path) ls) p
    by true e g more = subst (λ (q : List Seg). Contains (l.path ∷ map (λ (l : OfferingLink). l.path) ls) q) (same_path l.path p e) (first l.path (map (λ (l : OfferingLink). l.path) ls))
    by false e g more = behind l.path p (map (λ (l : OfferingLink). l.path) ls) (more g)

counted_numbers : (ms set : List ℕ) → map (λ (w : ℕ × ℕ). w.0) (map (counted ms) set) ≡ set
counted_numbers ms [] = refl
counted_numbers ms (n ∷ ns) = ap (λ rest. n ∷ rest) (counted_numbers ms ns)

-- a pin that is wired to an interrupt is counted
pin_counted : (pins : List (List Seg × Pin)) (pin : List Seg × Pin) (n : ℕ) → Contains pins pin → pin.1.route ≡ route.Wired n → Contains (map (λ (w : ℕ × ℕ). w.0) (pin_counts pins)) n
unfolding wired_counts wired_numbers
pin_counted pins pin n c is =
    subst (λ (ns : List ℕ). Contains ns n) (sym (counted_numbers (wired_numbers pins) (set_of (wired_numbers pins))))
    ((members_of_set (wired_numbers pins) n).1 (picked_has (λ (p : List Seg × Pin). wired_number p.1.route) pins pin n c (ap wired_number is)))

is_wired : (gives : List (List Seg × ℕ)) (r : Route) (n : ℕ) → pin_route gives r ≡ way.Wired n → r ≡ route.Wired n
is_wired gives (route.Wired m) n is = let same : m ≡ n = cc is in ap route.Wired same
is_wired gives (route.Link p) n is = by (given_to gives p) is
  where
    by : (o : Option ℕ) → way_of p o ≡ way.Wired n → route.Link p ≡ route.Wired n
    by None e = absurd (cc e)
    by (Some k) e = absurd (cc e)

is_linked : (gives : List (List Seg × ℕ)) (r : Route) (n : ℕ) (p : List Seg) → pin_route gives r ≡ way.Link n p → given_to gives p ≡ Some n
is_linked gives (route.Wired m) n p is = absurd (cc is)
is_linked gives (route.Link q) n p is = by (given_to gives q) refl is
  where
    by : (o : Option ℕ) → given_to gives q ≡ o → way_of q o ≡ way.Link n p → given_to gives p ≡ Some n
    by None at e = absurd (cc e)
    by (Some k) at e =
        let number : k ≡ n = cc e in
        let path : q ≡ p = cc e in
        ap (given_to gives) (sym path) ∙ at ∙ ap Some number

open_device : (o : Option Entry) → option_map (λ (e : Entry). kind_of e.object) o ≡ Some kind.Device → is_open o ≡ true
open_device None is = absurd (cc is)
open_device (Some e) is = by e.object is
  where
    by : (x : NamedObject) → Some (kind_of x) ≡ Some kind.Device → is_open (Some (record e { object = x })) ≡ true
    by object.Device i = refl
    by (object.Method body) i = absurd (cc i)
    by _ i = refl

module _ {S : Type 0} (accesses : Accesses S) (o : RunOptions) (before after : MachineState S) (report : RoutingReport) (is : IsReportFor accesses o before after report) (kernel : o.kernel ≡ true) where
  abbrev plain : RoutingReport
  plain = is.plain

  pub told : IsToldBehind accesses is.configured plain after report
  told = told_behind accesses o before after report is kernel

  abbrev own : ℕ
  own = sci_interrupt is.configured.tables.fadt

  triggers_are : triggers_told report.options ≡ triggers_of own plain
  triggers_are = ap (λ (q : RoutingReport). triggers_told q.options) told.lines ∙ triggers_behind plain.options (triggers_of own plain) told.buses

  buses_are : buses_told report.options ≡ told.buses
  buses_are = ap (λ (q : RoutingReport). buses_told q.options) told.lines ∙ buses_behind plain.options (triggers_of own plain) told.buses

  found : FoundInRun accesses o before is.configured plain is.is_plain
  found = found_in_run accesses o before is.configured plain is.is_plain

  abbrev gathered_links : List PresentLink
  gathered_links = is.is_plain.found.gathering.links

  abbrev gathered_pins : List (List Seg × Pin)
  gathered_pins = is.is_plain.found.gathering.pins

  abbrev gives : List (List Seg × ℕ)
  gives = gives_of is.is_plain.found.gathering.problem.links is.is_plain.answer.choice

  links_are : report.links ≡ map row_of gathered_links
  links_are = ap (λ (q : RoutingReport). q.links) told.lines ∙ ap (λ (q : RoutingReport). q.links) is.is_plain.lines

  wired_are : report.wired ≡ pin_counts gathered_pins
  wired_are = ap (λ (q : RoutingReport). q.wired) told.lines ∙ ap (λ (q : RoutingReport). q.wired) is.is_plain.lines

  pins_are : report.pins ≡ map (pin_line gives) gathered_pins
  pins_are = ap (λ (q : RoutingReport). q.pins) told.lines ∙ ap (λ (q : RoutingReport). q.pins) is.is_plain.lines

  -- ---- one line for each source, in order

  pub triggers_in_order : map (λ (t : TriggerLine). t.source) (triggers_told report.options) ≡ sources_in report
  triggers_in_order = ap (map (λ (t : TriggerLine). t.source)) triggers_are ∙ (sources_in_order own plain ∙ sym (ap sources_in told.lines))

  report_apart : Apart (sources_in report)
  report_apart = sources_apart report
      (subst Apart (sym (ap (map (λ (l : ReportedLink). l.path)) links_are ∙ rows_paths gathered_links)) (links_apart accesses o.avoid before found.asked_in gathered_pins gathered_links found.found))
      (subst Apart (sym (ap (map (λ (w : ℕ × ℕ). w.0)) wired_are)) (apart_increasing _ (counts_in_order gathered_pins)))

  pub source_has_one : (s : InterruptSource) → Contains (sources_in report) s → HasTrigger report s
  source_has_one s c =
      one_named (λ (t : TriggerLine). t.source) (triggers_told report.options) s
      (subst (λ (ss : List InterruptSource). Contains ss s) (sym triggers_in_order) c) (subst Apart (sym triggers_in_order) report_apart)

  link_source : (p : List Seg) → Contains (map (λ (l : ReportedLink). l.path) report.links) p → Contains (sources_in report) (source.Link p)
  link_source p c =
      let l = mapped_from (λ (l : ReportedLink). l.path) report.links p c in
      Contains-append_left (map (λ (l : ReportedLink). source.Link l.path) report.links) _ (source.Link p)
      (subst (λ (q : List Seg). Contains (map (λ (l : ReportedLink). source.Link l.path) report.links) (source.Link q)) l.2 (mapped_has (λ (l : ReportedLink). source.Link l.path) report.links l.0 l.1))

  wired_source : (n : ℕ) → Contains (map (λ (w : ℕ × ℕ). w.0) report.wired) n → Contains (sources_in report) (source.Wired n)
  wired_source n c =
      let w = mapped_from (λ (w : ℕ × ℕ). w.0) report.wired n c in
      Contains-append_right (map (λ (l : ReportedLink). source.Link l.path) report.links) _ (source.Wired n)
      (Contains-append_left (map (λ (w : ℕ × ℕ). source.Wired w.0) report.wired) _ (source.Wired n)
      (subst (λ (k : ℕ). Contains (map (λ (w : ℕ × ℕ). source.Wired w.0) report.wired) (source.Wired k)) w.2 (mapped_has (λ (w : ℕ × ℕ). source.Wired w.0) report.wired w.0 w.1)))

  sci_source : (n : ℕ) → report.sci ≡ Some n → Contains (sources_in report) (source.Sci n)
  sci_source n e =
      Contains-append_right (map (λ (l : ReportedLink). source.Link l.path) report.links) _ (source.Sci n)
      (Contains-append_right (map (λ (w : ℕ × ℕ). source.Wired w.0) report.wired) _ (source.Sci n)
      (subst (λ (x : Option ℕ). Contains (map source.Sci (option_to_list x)) (source.Sci n)) (sym e) (first (source.Sci n) [])))

  pub link_has_one : (l : ReportedLink) → Contains report.links l → HasTrigger report (source.Link l.path)
  link_has_one l c = source_has_one (source.Link l.path) (link_source l.path (mapped_has (λ (k : ReportedLink). k.path) report.links l c))

  pub wired_has_one : (w : ℕ × ℕ) → Contains report.wired w → HasTrigger report (source.Wired w.0)
  wired_has_one w c = source_has_one (source.Wired w.0) (wired_source w.0 (mapped_has (λ (k : ℕ × ℕ). k.0) report.wired w c))

  pub sci_has_one : (n : ℕ) → report.sci ≡ Some n → HasTrigger report (source.Sci n)
  sci_has_one n e = source_has_one (source.Sci n) (sci_source n e)

  pub pin_has_one : (pin : PinLine) → Contains report.pins pin → WayHasTrigger report pin.route
  pin_has_one pin c =
      let from = mapped_from (pin_line gives) gathered_pins pin (subst (λ (ps : List PinLine). Contains ps pin) pins_are c) in
      by pin.route from.0 from.1 (ap (λ (p : PinLine). p.route) from.2)
    where
      by : (w : PinRoute) (p : List Seg × Pin) → Contains gathered_pins p → pin_route gives p.1.route ≡ w → WayHasTrigger report w
      by (way.Link n q) p d e =
          let posed : Contains (map (λ (l : OfferingLink). l.path) is.is_plain.found.gathering.problem.links) q = given_path is.is_plain.found.gathering.problem.links is.is_plain.answer.choice q n (is_linked gives p.1.route n q e) in
          let paths : map (λ (l : OfferingLink). l.path) is.is_plain.found.gathering.problem.links ≡ map (λ (l : ReportedLink). l.path) report.links =
          ap (map (λ (l : OfferingLink). l.path)) found.posed.is ∙ (posed_paths found.posed.avoided gathered_links ∙ sym (ap (map (λ (l : ReportedLink). l.path)) links_are ∙ rows_paths gathered_links)) in
          source_has_one (source.Link q) (link_source q (subst (λ (ps : List (List Seg)). Contains ps q) paths posed))
      by (way.Wired n) p d e =
          source_has_one (source.Wired n) (wired_source n (subst (λ (ws : List (ℕ × ℕ)). Contains (map (λ (w : ℕ × ℕ). w.0) ws) n) (sym wired_are) (pin_counted gathered_pins p n d (is_wired gives p.1.route n e))))
      by (way.Absent q) p d e = tt

  -- ---- what the lines say

  evaluated : OnlyEvaluated accesses before is.is_plain.chosen_in
  evaluated = found_only accesses o before is.configured plain is.is_plain

  settled : OnlyEvaluated accesses before is.configured
  settled = report_with_only accesses o before is.configured plain is.is_plain

  overrides_are : overrides_used plain.mode plain.overrides ≡ overrides_used before.mode (overrides_of before.tables.madt)
  overrides_are =
      ap (λ (q : RoutingReport). overrides_used q.mode q.overrides) is.is_plain.lines
      ∙ (ap (λ k. overrides_used k (overrides_of is.is_plain.chosen_in.tables.madt)) evaluated.mode ∙ ap (λ t. overrides_used before.mode (overrides_of t.madt)) evaluated.tables)

  pub wired_follows : (n : ℕ) (flags : Option ℕ) (line : TriggerLine) → Governs before (IsOverrideTo n) flags → Contains (triggers_told report.options) line → line.source ≡ source.Wired n → Follows flags line
  unfolding triggers_of
  wired_follows n flags line governs c at =
      subst (λ (l : TriggerLine). Follows flags l) (line_of_wired (overrides_used plain.mode plain.overrides) own plain line n (subst (λ (ls : List TriggerLine). Contains ls line) triggers_are c) at)
      (follows flags (flags_to n (overrides_used plain.mode plain.overrides)) (source.Wired n) (ap (flags_to n) overrides_are ∙ governed_to before n flags governs))

  pub sci_follows : (n : ℕ) (flags : Option ℕ) (line : TriggerLine) → Governs before (IsOverrideOf (sci_interrupt before.tables.fadt)) flags → Contains (triggers_told report.options) line → line.source ≡ source.Sci n → Follows flags line
  unfolding triggers_of
  sci_follows n flags line governs c at =
      subst (λ (l : TriggerLine). Follows flags l) (line_of_sci (overrides_used plain.mode plain.overrides) own plain line n (subst (λ (ls : List TriggerLine). Contains ls line) triggers_are c) at)
      (follows flags (flags_of own (overrides_used plain.mode plain.overrides)) (source.Sci n)
      (ap (λ t. flags_of (sci_interrupt t.fadt) (overrides_used plain.mode plain.overrides)) settled.tables ∙ (ap (flags_of (sci_interrupt before.tables.fadt)) overrides_are ∙ governed_of before (sci_interrupt before.tables.fadt) flags governs)))

  pub link_follows : (path : List Seg) (line : TriggerLine) → Contains (triggers_told report.options) line → line.source ≡ source.Link path → IsTriggeredAsOffered accesses gathered_links path line
  unfolding triggers_of
  link_follows path line c at =
      let own_line = line_of_link (overrides_used plain.mode plain.overrides) own plain line path (subst (λ (ls : List TriggerLine). Contains ls line) triggers_are c) at in
      let plain_links : plain.links ≡ map row_of gathered_links = ap (λ (q : RoutingReport). q.links) is.is_plain.lines in
      let row = mapped_from row_of gathered_links own_line.0 (subst (λ (ls : List ReportedLink). Contains ls own_line.0) plain_links own_line.1) in
      let offer = link_offered accesses o.avoid before found.asked_in gathered_pins gathered_links found.found row.0 row.1 in
      let path_is : row.0.0 ≡ path = ap (λ (l : ReportedLink). l.path) row.2 ∙ own_line.2 in
      record {
        link = row.0;
        found = row.1;
        at = path_is;
        asked = offer.0;
        left = offer.1;
        offered = subst (λ (p : List Seg). possible_resources accesses p offer.0 ≡ (Ok row.0.1, offer.1)) path_is offer.2;
        level = ap (λ (l : TriggerLine). l.trigger) (sym own_line.3);
        polarity = ap (λ (l : TriggerLine). l.polarity) (sym own_line.3) ∙ ap (λ (l : ReportedLink). l.polarity) (sym row.2);
      }

  -- ---- buses

  bus_lines : LinesOf accesses (devices_with_tables is.configured) [] told.buses is.configured after
  bus_lines = lines_of accesses (devices_with_tables is.configured) [] told.buses is.configured after told.are_buses

  abbrev bus_device : BusLine → List Seg
  bus_device l = l.device

  devices_are : map bus_device (buses_told report.options) ≡ devices_with_tables is.configured
  devices_are = ap (map bus_device) (buses_are ∙ bus_lines.are) ∙ bus_lines.of_devices

  pub buses_asked_in_turn : BusesAsked accesses (buses_told report.options) is.configured after
  buses_asked_in_turn = subst (λ (ls : List BusLine). BusesAsked accesses ls is.configured after) (sym (buses_are ∙ bus_lines.are)) bus_lines.asked

  pub buses_ascend : Ascending path_cmp (map (λ (l : BusLine). l.device) (buses_told report.options))
  buses_ascend = subst (λ (ps : List (List Seg)). Ascending path_cmp ps) (sym devices_are) (tabled_ascend is.configured)

  pub table_has_bus : (device : List Seg) → HasTable is.configured device → HasBus report device
  table_has_bus device has =
      one_named bus_device (buses_told report.options) device
      (subst (λ (ps : List (List Seg)). Contains ps device) (sym devices_are) (device_tabled is.configured device has)) (apart_ascending path_cmp (tied_itself path_total) _ buses_ascend)

  pub bus_has_table : (line : BusLine) → Contains (buses_told report.options) line → HasTable is.configured line.device
  bus_has_table line c = tabled_device is.configured line.device (subst (λ (ps : List (List Seg)). Contains ps line.device) devices_are (mapped_has bus_device (buses_told report.options) line c))

  -- ---- the device of a pin

  pub pin_has_bus : (pin : PinLine) → Contains report.pins pin → Outside before.world pin.device → kind_at is.configured.world.names.map pin.device ≡ Some kind.Device → HasBus report pin.device
  pin_has_bus pin c outside still =
      let from = mapped_from (pin_line gives) gathered_pins pin (subst (λ (ps : List PinLine). Contains ps pin) pins_are c) in
      let path : from.0.0 ≡ pin.device = ap (λ (p : PinLine). p.device) from.2 in
      let came : PinFrom accesses before found.asked_in pin.device = subst (λ (p : List Seg). PinFrom accesses before found.asked_in p) path (pin_from accesses o.avoid before found.asked_in gathered_pins gathered_links found.found from.0 from.1) in
      let listed = listed_device before pin.device came.listed in
      let below : Outside before.world (pin.device ++ prt ∷ []) = outside_below before.world pin.device prt outside (open_device (get before.world.names.map pin.device) listed.1) in
      let so_far : Outside came.asked_in.world (pin.device ++ prt ∷ []) = outside_stays accesses before.world came.asked_in.world (pin.device ++ prt ∷ []) came.until.world below in
      let end : OnlyEvaluated accesses came.asked_in is.configured = chained accesses came.asked_in is.is_plain.chosen_in is.configured (chained accesses came.asked_in found.asked_in is.is_plain.chosen_in came.afterwards found.afterwards) settling in
      table_has_bus pin.device (record {
        below_root = listed.0;
        is_device = still;
        table = names_stay accesses came.asked_in.world is.configured.world (pin.device ++ prt ∷ []) end.world so_far (stands_at came.asked_in (pin.device ++ prt ∷ []) came.stood);
      })
    where
      settling : OnlyEvaluated accesses is.is_plain.chosen_in is.configured
      settling = settled_after accesses o before is.configured plain is.is_plain
