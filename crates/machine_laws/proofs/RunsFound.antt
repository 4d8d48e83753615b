-- What was found of a machine: where its pins come from, and its links.
use Rattle.std.specs.Prelude.{◌≡◌, ℕ, List, [], ◌∷◌, ◌++◌, map, Bool, true, false, Option, Ok, Err, Contains, refl, if◌then◌else◌}
use Rattle.std.specs.List.{items_where_true}
use Rattle.std.proofs.Common.{inl, inr, ap, sym, subst, ◌∙◌}
use Rattle.std.proofs.lemmas.Cmp.{tied_itself}
use Rattle.std.proofs.lemmas.List.Elements.{Contains-append_cases}
use Rattle.ar_space.specs.Accesses.{Accesses}
use Rattle.ar_space.specs.Outcome.{Outcome}
use Rattle.ar_space.specs.Outcome as outcomes
use Rattle.ar_space.specs.Change.{Change, give, settle, go_on, ◌>>=◌}
use Rattle.aml_path.specs.declared.segment.Seg.{Seg}
use Rattle.aml_path.specs.Paths.{path_cmp}
use Rattle.aml_namespace.proofs.Paths.{path_total}
use Rattle.acpi_machine.specs.Buses.{prt}
use Rattle.acpi_machine.specs.Children.{stands}
use Rattle.acpi_machine.specs.MachineStates.{MachineState, sci_of}
use Rattle.acpi_prt.specs.declared.pin.Pin.{Pin}
use Rattle.acpi_prt.specs.RoutingTables.{routing_table}
use Rattle.acpi_links.specs.Devices.{devices, devices_listed, with_device, pins_at, pins_of_device}
use Rattle.acpi_links.specs.Folds.{folded}
use Rattle.acpi_links.specs.Gatherings.{Gathering, gathering, sci_shown, pins_found, links_found, gathered}
use Rattle.acpi_links.specs.Links.{PresentLink, links_named}
use Rattle.acpi_links.specs.Problems.{offering, problem_of}
use Rattle.acpi_links.specs.Sparing.{all_left, avoiding}
use Rattle.acpi_links.proofs.Found.{found_named}
use Rattle.acpi_links.proofs.Leading.{links_in_order}
use Rattle.acpi_links.proofs.Members.{first, behind, first_or_behind, no_member}
use Rattle.acpi_configure.specs.Options.{RunOptions}
use Rattle.acpi_configure.specs.Others.{others_asked, barred_if}
use Rattle.acpi_configure.specs.WithOptions.{Findings, found_by, narrowed, IsReportWith}
use Rattle.route_report.specs.Reports.{ReportedAfter, RoutingReport}
use Rattle.machine_laws.specs.Evaluated.{OnlyEvaluated}
use Rattle.machine_laws.proofs.OneOfList.{Apart, apart_sorted, mapped_from}
use Rattle.machine_laws.proofs.RunsEvaluate.{nothing, chained, folded_only, pins_of_device_only, links_found_only, others_asked_only}

-- ---- changes one after another

pub before_ok : {T A B : Type 0} (m : Change T A) (k : A → Change T B) (b : B) (s t : T) → (m >>= k) s ≡ (Ok b, t) → (a : A) × (u : T) × (m s ≡ (Ok a, u)) × (k a u ≡ (Ok b, t))
unfolding ◌>>=◌ go_on
before_ok {T} {A} {B} m k b s t e = by (m s).0 (m s).1 refl e
  where
    by : (o : Outcome A) (u : T) → m s ≡ (o, u) → go_on o u k ≡ (Ok b, t) → (a : A) × (u : T) × (m s ≡ (Ok a, u)) × (k a u ≡ (Ok b, t))
    by (Ok a) u is e = (a, u, is, e)
    by (Err f) u is e = absurd (cc (ap (λ (r : Outcome B × T). r.0) e))

pub same_value : {T A : Type 0} (a b : A) (s t : T) → ◌≡◌ {A = Outcome A × T} (Ok a, s) (Ok b, t) → a ≡ b
same_value {T} {A} a b s t e = cc (ap (λ (r : Outcome A × T). r.0) e)

same_state : {T A : Type 0} (x y : Outcome A) (s t : T) → ◌≡◌ {A = Outcome A × T} (x, s) (y, t) → s ≡ t
same_state {T} {A} x y s t e = ap (λ (r : Outcome A × T). r.1) e

settled_value : {T A : Type 0} (x : Outcome A) (a : A) (s t : T) → settle x s ≡ (Ok a, t) → (x ≡ Ok a) × (s ≡ t)
unfolding settle
settled_value {T} {A} x a s t e = (ap (λ (r : Outcome A × T). r.0) e, ap (λ (r : Outcome A × T). r.1) e)

-- ---- what was found, step by step

pub record FoundSoFar {S : Type 0} (accesses : Accesses S) (avoid : List ℕ) (before after : MachineState S) (pins : List (List Seg × Pin)) (links : List PresentLink) : Type 0 where
  pub sci : Option ℕ
  pub between : MachineState S
  pub pins_are : pins_found accesses sci before ≡ (Ok pins, between)
  pub links_are : links_found accesses avoid pins between ≡ (Ok links, after)

-- the problem has the links that were found
pub record PosedBy (g : Gathering) (links : List PresentLink) : Type 0 where
  pub avoided : List ℕ
  pub is : g.problem.links ≡ map (offering avoided) links

module _ {S : Type 0} (accesses : Accesses S) where
  gathered_so : (avoid : List ℕ) (g : Gathering) (s t : MachineState S) → gathered accesses avoid s ≡ (Ok g, t) → FoundSoFar accesses avoid s t g.pins g.links × PosedBy g g.links
  unfolding gathered sci_shown give problem_of
  gathered_so avoid g s t e =
      let sci = before_ok _ _ g s t e in
      let here : s ≡ sci.1 = same_state _ _ s sci.1 sci.2 in
      let pins = before_ok _ _ g sci.1 t sci.3 in
      let links = before_ok _ _ g pins.1 t pins.3 in
      let is : gathering avoid sci.0 pins.0 links.0 ≡ g = same_value _ g links.1 t links.3 in
      let at : links.1 ≡ t = same_state (Ok (gathering avoid sci.0 pins.0 links.0)) (Ok g) links.1 t links.3 in (
        subst (λ (h : Gathering). FoundSoFar accesses avoid s t h.pins h.links) is
            (record {
              sci = sci.0;
              between = pins.1;
              pins_are = subst (λ (m : MachineState S). pins_found accesses sci.0 m ≡ (Ok pins.0, pins.1)) (sym here) pins.2;
              links_are = subst (λ (m : MachineState S). links_found accesses avoid pins.0 pins.1 ≡ (Ok links.0, m)) at links.2;
            }),
        subst (λ (h : Gathering). PosedBy h h.links) is (record { avoided = avoid; is = refl }),
      )

  -- sparing devices leaves the pins and the links
  avoiding_keeps : (avoid : List ℕ) (sci : Option ℕ) (g h : Gathering) → avoiding avoid sci g ≡ Ok h → (h.pins ≡ g.pins) × (h.links ≡ g.links) × PosedBy h h.links
  unfolding avoiding outcomes.◌>>=◌ problem_of
  avoiding_keeps avoid sci g h e = by (all_left avoid g.links) e
    where
      by : (x : Outcome (Unit {0})) → outcomes.◌>>=◌ x (λ u. Ok (gathering avoid sci g.pins g.links)) ≡ Ok h → (h.pins ≡ g.pins) × (h.links ≡ g.links) × PosedBy h h.links
      by (Ok u) is =
          let same : gathering avoid sci g.pins g.links ≡ h = cc is in (
            ap (λ (x : Gathering). x.pins) (sym same),
            ap (λ (x : Gathering). x.links) (sym same),
            subst (λ (x : Gathering). PosedBy x x.links) same (record { avoided = avoid; is = refl }),
          )
      by (Err x) is = absurd (cc is)

  narrowed_keeps : (spare : Bool) (barred : List ℕ) (sci : Option ℕ) (g h : Gathering) → narrowed spare barred sci g ≡ Ok h → PosedBy g g.links → (h.pins ≡ g.pins) × (h.links ≡ g.links) × PosedBy h h.links
  narrowed_keeps true barred sci g h e posed = avoiding_keeps barred sci g h e
  narrowed_keeps false barred sci g h e posed =
      let same : g ≡ h = cc e in
      (ap (λ (x : Gathering). x.pins) (sym same), ap (λ (x : Gathering). x.links) (sym same), subst (λ (x : Gathering). PosedBy x x.links) same posed)

  module _ (o : RunOptions) (before after : MachineState S) (r : RoutingReport) (is : IsReportWith accesses o before after r) where
    -- the machine once all links are asked, before other devices are
    pub record FoundInRun : Type 0 where
      pub asked_in : MachineState S
      pub found : FoundSoFar accesses o.avoid before asked_in is.found.gathering.pins is.found.gathering.links
      pub posed : PosedBy is.found.gathering is.found.gathering.links
      pub afterwards : OnlyEvaluated accesses asked_in is.chosen_in

    pub found_in_run : FoundInRun
    unfolding found_by give
    found_in_run =
        let found = is.found in
        let a = before_ok (gathered accesses o.avoid) _ found before is.chosen_in is.is_found in
        let b = before_ok (others_asked accesses o.spare a.0.links) _ found a.1 is.chosen_in a.3 in
        let c = before_ok (settle (narrowed o.spare (barred_if o.spare o.avoid b.0) (sci_of before) a.0)) _ found b.1 is.chosen_in b.3 in
        let same : c.0 ≡ found.gathering = ap (λ (f : Findings). f.gathering) (same_value (record { asked = b.0; gathering = c.0 }) found c.1 is.chosen_in c.3) in
        let end : c.1 ≡ is.chosen_in = same_state _ _ c.1 is.chosen_in c.3 in
        let so = gathered_so o.avoid a.0 before a.1 a.2 in
        let narrow = settled_value (narrowed o.spare (barred_if o.spare o.avoid b.0) (sci_of before) a.0) c.0 b.1 c.1 c.2 in
        let keeps = narrowed_keeps o.spare (barred_if o.spare o.avoid b.0) (sci_of before) a.0 c.0 narrow.0 so.1 in
        record {
          asked_in = a.1;
          found = subst (λ (g : Gathering). FoundSoFar accesses o.avoid before a.1 g.pins g.links) same
              (subst (λ (ls : List PresentLink). FoundSoFar accesses o.avoid before a.1 c.0.pins ls) (sym keeps.1) (subst (λ (ps : List (List Seg × Pin)). FoundSoFar accesses o.avoid before a.1 ps a.0.links) (sym keeps.0) so.0));
          posed = subst (λ (g : Gathering). PosedBy g g.links) same keeps.2;
          afterwards = subst (λ (m : MachineState S). OnlyEvaluated accesses a.1 m) (narrow.1 ∙ end)
              (subst (λ (x : Outcome (List ReportedAfter) × MachineState S). OnlyEvaluated accesses a.1 x.1) b.2 (others_asked_only accesses o.spare a.0.links a.1));
        }

  -- ---- the links that were found are apart

  pub links_apart : (avoid : List ℕ) (before after : MachineState S) (pins : List (List Seg × Pin)) (links : List PresentLink) → FoundSoFar accesses avoid before after pins links → Apart (map (λ (l : PresentLink). l.0) links)
  links_apart avoid before after pins links found =
      let named = found_named accesses avoid pins links found.between after found.links_are in
      subst Apart (sym named.1) (kept_apart named.0 (links_named pins) (apart_sorted path_cmp (tied_itself path_total) (links_named pins) (links_in_order pins)))
    where
      chosen_from : (keep : List Bool) (xs : List (List Seg)) (y : List Seg) → Contains (items_where_true keep xs) y → Contains xs y
      chosen_from [] xs y c = absurd (no_member y c)
      chosen_from (k ∷ ks) [] y c = absurd (no_member y c)
      chosen_from (true ∷ ks) (x ∷ xs) y c = elim (first_or_behind x y (items_where_true ks xs) c) [
        | inl e ↦ subst (λ (z : List Seg). Contains (x ∷ xs) z) e (first x xs)
        | inr d ↦ behind x y xs (chosen_from ks xs y d)
      ]
      chosen_from (false ∷ ks) (x ∷ xs) y c = behind x y xs (chosen_from ks xs y c)

      kept_apart : (keep : List Bool) (xs : List (List Seg)) → Apart xs → Apart (items_where_true keep xs)
      kept_apart [] xs a = tt
      kept_apart (k ∷ ks) [] a = tt
      kept_apart (true ∷ ks) (x ∷ xs) a = (λ y c same. a.0 y (chosen_from ks xs y c) same, kept_apart ks xs a.1)
      kept_apart (false ∷ ks) (x ∷ xs) a = kept_apart ks xs a.1

  -- ---- the routing table of each pin

  -- where a pin comes from: a Device that was listed, whose routing table stood when it was asked
  pub record PinFrom (before after : MachineState S) (device : List Seg) : Type 0 where
    pub listed : Contains (devices before) device
    pub asked_in : MachineState S
    pub until : OnlyEvaluated accesses before asked_in
    pub stood : stands (device ++ prt ∷ []) asked_in ≡ true
    pub afterwards : OnlyEvaluated accesses asked_in after

  own_pins : (device : List Seg) (pins : List (List Seg × Pin)) (s t : MachineState S) (pin : List Seg × Pin) → pins_of_device accesses device s ≡ (Ok pins, t) → Contains pins pin → (pin.0 ≡ device) × (stands (device ++ prt ∷ []) s ≡ true)
  unfolding pins_of_device pins_at give ◌>>=◌ go_on
  own_pins device pins s t pin e c =
      let own = before_ok (pins_at accesses device) _ pins s t e in
      let same : with_device device own.0 ≡ pins = same_value _ pins own.1 t own.3 in
      let from = mapped_from (λ (p : Pin). (device, p)) own.0 pin (subst (λ (l : List (List Seg × Pin)). Contains l pin) (sym same) c) in
      (ap (λ (p : List Seg × Pin). p.0) (sym from.2), stood (stands (device ++ prt ∷ []) s) refl own.0 from.0 own.1 own.2 from.1)
    where
      stood : (b : Bool) → stands (device ++ prt ∷ []) s ≡ b → (own : List Pin) (p : Pin) (u : MachineState S) → pins_at accesses device s ≡ (Ok own, u) → Contains own p → stands (device ++ prt ∷ []) s ≡ true
      stood true is own p u e c = is
      stood false is own p u e c =
          let empty : own ≡ [] = sym (same_value [] own s u (sym (ap (λ (b : Bool). if b then routing_table accesses device s else (Ok [], s)) is) ∙ e)) in
          absurd (no_member p (subst (λ (l : List Pin). Contains l p) empty c))

  each_from : (before after : MachineState S) (list : List (List Seg)) (done pins : List (List Seg × Pin)) (s : MachineState S) (pin : List Seg × Pin) → ((device : List Seg) → Contains list device → Contains (devices before) device)
      → OnlyEvaluated accesses before s → folded ◌++◌ (pins_of_device accesses) list done s ≡ (Ok pins, after) → Contains pins pin → (Contains done pin → PinFrom before after pin.0) → PinFrom before after pin.0
  unfolding folded give
  each_from before after [] done pins s pin among until e c so = so (subst (λ (l : List (List Seg × Pin)). Contains l pin) (sym (same_value done pins s after e)) c)
  each_from before after (device ∷ list) done pins s pin among until e c so =
      let a = before_ok (pins_of_device accesses device) _ pins s after e in
      let one : OnlyEvaluated accesses s a.1 = subst (λ (x : Outcome (List (List Seg × Pin)) × MachineState S). OnlyEvaluated accesses s x.1) a.2 (pins_of_device_only accesses device s) in
      let rest : OnlyEvaluated accesses a.1 after = subst (λ (x : Outcome (List (List Seg × Pin)) × MachineState S). OnlyEvaluated accesses a.1 x.1) a.3 (folded_only accesses ◌++◌ (pins_of_device accesses) (pins_of_device_only accesses) list (done ++ a.0) a.1) in
      each_from before after list (done ++ a.0) pins a.1 pin (λ d h. among d (behind device d list h)) (chained accesses before s a.1 until one) a.3 c
      (λ d. elim (Contains-append_cases done a.0 pin d) [
        | inl h ↦ so h
        | inr h ↦ let own = own_pins device a.0 s a.1 pin a.2 h in record {
          listed = subst (λ (p : List Seg). Contains (devices before) p) (sym own.0) (among device (first device list));
          asked_in = s;
          until = until;
          stood = subst (λ (p : List Seg). stands (p ++ prt ∷ []) s ≡ true) (sym own.0) own.1;
          afterwards = chained accesses s a.1 after one rest;
        }
      ])

  pub pin_from : (avoid : List ℕ) (before after : MachineState S) (pins : List (List Seg × Pin)) (links : List PresentLink) (found : FoundSoFar accesses avoid before after pins links) (pin : List Seg × Pin) → Contains pins pin → PinFrom before after pin.0
  unfolding pins_found devices_listed give settle
  pin_from avoid before after pins links found pin c =
      let list = before_ok devices_listed _ pins before found.between found.pins_are in
      let all = before_ok _ _ pins list.1 found.between list.3 in
      let few = before_ok _ _ pins all.1 found.between all.3 in
      let here : before ≡ list.1 = same_state _ _ before list.1 list.2 in
      let listed : devices before ≡ list.0 = same_value _ list.0 before list.1 list.2 in
      let same : all.0 ≡ pins = same_value _ pins few.1 found.between few.3 in
      let settled : all.1 ≡ few.1 = same_state _ _ all.1 few.1 few.2 in
      let end : few.1 ≡ found.between = same_state _ _ few.1 found.between few.3 in
      let whole : folded ◌++◌ (pins_of_device accesses) list.0 [] list.1 ≡ (Ok pins, found.between) = all.2 ∙ ap (λ (x : List (List Seg × Pin)). (Ok x, all.1)) same ∙ ap (λ (m : MachineState S). (Ok pins, m)) (settled ∙ end) in
      let from = each_from before found.between list.0 [] pins list.1 pin (λ d h. subst (λ (l : List (List Seg)). Contains l d) (sym listed) h) (subst (λ (m : MachineState S). OnlyEvaluated accesses before m) here (nothing accesses before)) whole c (λ d. absurd (no_member pin d)) in
      record {
        listed = from.listed;
        asked_in = from.asked_in;
        until = from.until;
        stood = from.stood;
        afterwards = chained accesses from.asked_in found.between after from.afterwards
            (subst (λ (x : Outcome (List PresentLink) × MachineState S). OnlyEvaluated accesses found.between x.1) found.links_are (links_found_only accesses avoid pins found.between));
      }
