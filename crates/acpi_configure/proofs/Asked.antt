-- Where the calls that ask devices stop, and what they find.
use Rattle.std.specs.Prelude.{filter, not}
use Rattle.std.proofs.Common.{◌≡◌, ◌∙◌, ℕ, suc, ◌+◌, ◌<◌, ◌≤◌, List, [], ◌∷◌, ◌++◌, length, drop, get_or, cond, Bool, true, false, Option, Some, None, Ok, if◌then◌else◌, refl, sym, ap, subst, drop-cons, add-one, append_assoc, append-nil}
use Rattle.std.specs.List.{filter_map, cons_option}
use Rattle.std.proofs.lemmas.List.{drop_all}
use Rattle.ar_space.specs.Accesses.{Accesses}
use Rattle.ar_space.specs.Outcome.{Outcome, Answers, seen}
use Rattle.ar_space.specs.Change.{Does}
use Rattle.aml_path.specs.declared.segment.Seg.{Seg}
use Rattle.acpi_machine.specs.Children.{has_child}
use Rattle.acpi_machine.specs.MachineStates.{MachineState}
use Rattle.acpi_machine.specs.Stops.{AllOrNone}
use Rattle.acpi_machine.proofs.Stopping.{none_made, stops_first, goes_start, stops_here}
use Rattle.acpi_links.specs.Links.{PresentLink}
use Rattle.acpi_links.specs.ObjectNames.{crs}
use Rattle.acpi_links.specs.Resources.{current_resources}
use Rattle.route_report.specs.Reports.{ReportedAfter}
use Rattle.acpi_configure.specs.Others.{is_link, other_devices, present_resources, device_resources, device_asked, devices_asked, numbers_at, numbers_in}
use Rattle.acpi_configure.specs.Stops.{StopsIfPresent, StopsInPresent, StopsIfResources, StopsInDevice, StopsInDevices}

module _ {S : Type 0} (accesses : Accesses S) where
  pub not_asked : (device : List Seg) (s : MachineState S) → StopsInDevice accesses device s s
  not_asked device s = by (has_child device crs s)
    where
      by : (b : Bool) → StopsIfResources accesses b device s s
      by true = stops_first none_made
      by false = refl

  if_resources : (is : Bool) (device : List Seg) (s t : MachineState S) → is ≡ true → StopsInPresent accesses device s t → StopsIfResources accesses is device s t
  if_resources is device s t e h = rw e h

  module _ (has : Bool) (device : List Seg) (n : Seg) (s : MachineState S) (a : Answers (Ok has) (Ok (has_child device n s))) (e : n ≡ crs) where
    as_found : has_child device crs s ≡ has
    as_found = (let is : has_child device n s ≡ has = cc (a.is tt) in subst (λ x. has_child device x s ≡ has) e is)

    pub stops_in_present : (t : MachineState S) → has ≡ true → StopsInPresent accesses device s t → StopsInDevice accesses device s t
    stops_in_present t is h = if_resources (has_child device crs s) device s t (as_found ∙ is) h

    pub does_present : (r : Outcome (Option (List ℕ))) (t : MachineState S) → has ≡ true → Does r t (present_resources accesses device) s → Does r t (device_resources accesses device) s
    unfolding device_resources
    does_present r t is d = record { is = λ ne. ap (λ b. if b then present_resources accesses device s else (Ok None, s)) (as_found ∙ is) ∙ d.is ne }

    pub does_without : has ≡ false → Does (Ok None) s (device_resources accesses device) s
    unfolding device_resources
    does_without is = record { is = λ _. ap (λ b. if b then present_resources accesses device s else (Ok None, s)) (as_found ∙ is) }

  pub no_device : (list : List (List Seg)) (s : MachineState S) → StopsInDevices accesses list s s
  no_device list s = stops_here (device_asked accesses) (StopsInDevice accesses) not_asked list goes_start

  pub if_present : (present : Bool) (device : List Seg) (s t : MachineState S) → present ≡ true → AllOrNone (current_resources accesses device) s t → StopsIfPresent accesses present device s t
  if_present present device s t is h = rw is h

-- these close the asking of a device, if it has resources
pub ruleset resources = (not_asked, stops_in_present, does_present, does_without)

-- those of some lists that are kept, with what is still to come
pub more_kept : {C : Type 0} (f : ReportedAfter → Option C) (list after : List C) (xs : List ReportedAfter) (i : ℕ) (x : ReportedAfter) (a : C)
    → list ++ filter_map f (drop i xs) ≡ filter_map f xs → i < length xs → x ≡ get_or xs i x → Some a ≡ f x → after ≡ list ++ a ∷ [] → after ++ filter_map f (drop (i + 1) xs) ≡ filter_map f xs
more_kept f list after xs i x a so l at is e =
    let here : drop i xs ≡ x ∷ drop (suc i) xs = drop-cons xs i x l ∙ ap (λ y. y ∷ drop (suc i) xs) (sym at) in
    let kept : cons_option (f x) (filter_map f (drop (suc i) xs)) ≡ a ∷ filter_map f (drop (suc i) xs) = ap (λ o. cons_option o (filter_map f (drop (suc i) xs))) (sym is) in
    rw (e, append_assoc list (a ∷ []) (filter_map f (drop (i + 1) xs)), add-one) (ap (λ ys. list ++ ys) (sym (ap (filter_map f) here ∙ kept)) ∙ so)

pub none_kept : {C : Type 0} (f : ReportedAfter → Option C) (list : List C) (xs : List ReportedAfter) (i : ℕ) (x : ReportedAfter)
    → list ++ filter_map f (drop i xs) ≡ filter_map f xs → i < length xs → x ≡ get_or xs i x → None ≡ f x → list ++ filter_map f (drop (i + 1) xs) ≡ filter_map f xs
none_kept f list xs i x so l at is =
    let here : drop i xs ≡ x ∷ drop (suc i) xs = drop-cons xs i x l ∙ ap (λ y. y ∷ drop (suc i) xs) (sym at) in
    let kept : cons_option (f x) (filter_map f (drop (suc i) xs)) ≡ filter_map f (drop (suc i) xs) = ap (λ o. cons_option o (filter_map f (drop (suc i) xs))) (sym is) in
    rw add-one (ap (λ ys. list ++ ys) (sym (ap (filter_map f) here ∙ kept)) ∙ so)

pub all_kept : {C : Type 0} (f : ReportedAfter → Option C) (list : List C) (xs : List ReportedAfter) (i : ℕ) → list ++ filter_map f (drop i xs) ≡ filter_map f xs → length xs ≤ i → list ≡ filter_map f xs
all_kept f list xs i so l = sym (append-nil list) ∙ (sym (ap (λ ys. list ++ filter_map f ys) (drop_all i xs l)) ∙ so)

-- the interrupts of devices, one device more
pub more_numbers : (avoid list after : List ℕ) (xs : List ReportedAfter) (i : ℕ) (x : ReportedAfter)
    → list ++ numbers_in (drop i xs) ≡ avoid ++ numbers_in xs → i < length xs → x ≡ get_or xs i x → after ≡ list ++ numbers_at x.state → after ++ numbers_in (drop (i + 1) xs) ≡ avoid ++ numbers_in xs
unfolding numbers_in
more_numbers avoid list after xs i x so l at e =
    let here : drop i xs ≡ x ∷ drop (suc i) xs = drop-cons xs i x l ∙ ap (λ y. y ∷ drop (suc i) xs) (sym at) in
    rw (e, append_assoc list (numbers_at x.state) (numbers_in (drop (i + 1) xs)), add-one) (ap (λ ys. list ++ numbers_in ys) (sym here) ∙ so)

pub all_numbers : (avoid list : List ℕ) (xs : List ReportedAfter) (i : ℕ) → list ++ numbers_in (drop i xs) ≡ avoid ++ numbers_in xs → length xs ≤ i → list ≡ avoid ++ numbers_in xs
unfolding numbers_in
all_numbers avoid list xs i so l = sym (append-nil list) ∙ (sym (ap (λ ys. list ++ numbers_in ys) (drop_all i xs l)) ∙ so)

-- the devices beside links
filtered : (links : List PresentLink) (ps : List (List Seg)) (p : List Seg) → filter (λ q. not (is_link links q)) (ps ++ p ∷ []) ≡ filter (λ q. not (is_link links q)) ps ++ cond (not (is_link links p)) (p ∷ []) []
filtered links [] p = refl
filtered links (q ∷ qs) p = by (not (is_link links q)) (filtered links qs p)
  where
    by : (b : Bool) → filter (λ q. not (is_link links q)) (qs ++ p ∷ []) ≡ filter (λ q. not (is_link links q)) qs ++ cond (not (is_link links p)) (p ∷ []) []
        → cond b (q ∷ filter (λ q. not (is_link links q)) (qs ++ p ∷ [])) (filter (λ q. not (is_link links q)) (qs ++ p ∷ []))
        ≡ cond b (q ∷ filter (λ q. not (is_link links q)) qs) (filter (λ q. not (is_link links q)) qs) ++ cond (not (is_link links p)) (p ∷ []) []
    by true rest = ap (λ more. q ∷ more) rest
    by false rest = rest

pub one_beside : (links : List PresentLink) (list after ps : List (List Seg)) (p : List Seg) → list ≡ filter (λ q. not (is_link links q)) ps → is_link links p ≡ false → after ≡ list ++ p ∷ [] → after ≡ filter (λ q. not (is_link links q)) (ps ++ p ∷ [])
one_beside links list after ps p so is e = rw (e, so, filtered links ps p, is) refl

pub none_beside : (links : List PresentLink) (list ps : List (List Seg)) (p : List Seg) → list ≡ filter (λ q. not (is_link links q)) ps → is_link links p ≡ true → list ≡ filter (λ q. not (is_link links q)) (ps ++ p ∷ [])
none_beside links list ps p so is = rw (so, filtered links ps p, is) (sym (append-nil (filter (λ q. not (is_link links q)) ps)))

-- the devices that are asked are those beside the links
module _ {S : Type 0} (accesses : Accesses S) (links : List PresentLink) (list : List (List Seg)) (s t : MachineState S) (is : Answers (Ok list) (Ok (other_devices links s))) where
  same_devices : other_devices links s ≡ list
  same_devices = cc (is.is tt)

  pub asked_beside : (r : Outcome (List ReportedAfter)) → Does r t (devices_asked accesses list) s → Does r t (devices_asked accesses (other_devices links s)) s
  asked_beside r d = rw same_devices d

  pub stops_beside : StopsInDevices accesses list s t → StopsInDevices accesses (other_devices links s) s t
  stops_beside h = rw same_devices h
