-- Where devices are spared, each device that is no link is asked, and told of.
use Rattle.std.specs.Prelude.{Contains, filter, not}
use Rattle.std.specs.List.{filter_map, cons_option}
use Rattle.std.proofs.Common.{◌≡◌, ◌∙◌, ap, sym, subst, refl, ℕ, ◌<◌, inl, inr, Bool, true, false, cond, List, [], ◌∷◌, ◌++◌, length, map, Option, Some, None, Ok, Err, append_assoc, append-nil, arith, if◌then◌else◌}
use Rattle.std.proofs.lemmas.List.Elements.{Contains-append_left, Contains-append_right, filter_map-append}
use Rattle.ar_space.specs.Accesses.{Accesses}
use Rattle.ar_space.specs.Outcome.{Outcome}
use Rattle.ar_space.specs.Change.{Change, give, settle, go_on, ◌>>=◌}
use Rattle.ar_space.specs.Numbers.{number_of}
use Rattle.ar_space.specs.declared.refusal.Refusal.{Refusal}
use Rattle.aml_path.specs.declared.segment.Seg.{Seg}
use Rattle.acpi_machine.specs.Children.{has_child}
use Rattle.acpi_machine.specs.MachineStates.{MachineState, sci_of}
use Rattle.acpi_links.specs.Devices.{devices}
use Rattle.acpi_links.specs.Folds.{folded}
use Rattle.acpi_links.specs.Gatherings.{Gathering, gathered}
use Rattle.acpi_links.specs.Links.{PresentLink}
use Rattle.acpi_links.specs.ObjectNames.{crs}
use Rattle.acpi_links.specs.Presence.{is_present}
use Rattle.acpi_links.specs.Resources.{current_resources}
use Rattle.route_report.specs.declared.report.UnreadLine.{UnreadLine}
use Rattle.route_report.specs.Readable.{spared_devices, unread_devices}
use Rattle.route_report.specs.Reports.{AfterState, Now, Refused, ReportedAfter, ReportedOptions, RoutingReport, SparedDevice}
use Rattle.route_report.proofs.Barred.{spared_barred}
use Rattle.acpi_configure.specs.AllAsked.{AreSpared, IsUnread, IsTold, EachIsAsked}
use Rattle.acpi_configure.specs.Options.{RunOptions}
use Rattle.acpi_configure.specs.Others.{is_link, other_devices, resources_if, present_resources, device_resources, device_asked, devices_asked, others_asked, barred_if, spared_device, spared_line, unread_line, all_options, options_if}
use Rattle.acpi_configure.specs.Settling.{attempted, state_told}
use Rattle.acpi_configure.specs.WithOptions.{Findings, found_by, narrowed, IsReportWith}
use Rattle.acpi_configure.proofs.NotGiven.{first_or_behind, no_element, not_given}

-- ---- elements of lists

has_first : {X : Type 0} (x : X) (xs : List X) → Contains (x ∷ xs) x
has_first x xs = (0, omega arith, refl)

has_behind : {X : Type 0} (y x : X) (xs : List X) → Contains xs x → Contains (y ∷ xs) x
has_behind y x xs c = Contains-append_right (y ∷ []) xs x c

parted : {X : Type 0} (x : X) (xs : List X) → Contains xs x → (earlier : List X) × (later : List X) × (xs ≡ earlier ++ x ∷ later)
parted x [] c = absurd (no_element x c)
parted x (y ∷ ys) c = elim (first_or_behind y x ys c) [
  | inl e ↦ ([], ys, ap (λ z. z ∷ ys) e)
  | inr d ↦ let p = parted x ys d in (y ∷ p.0, p.1, ap (λ zs. y ∷ zs) p.2)
]

kept_by : {X Y : Type 0} (f : X → Option Y) (xs : List X) (x : X) (y : Y) → Contains xs x → f x ≡ Some y → Contains (filter_map f xs) y
kept_by {X} {Y} f xs x y c is =
    let p = parted x xs c in
    let same : filter_map f xs ≡ filter_map f p.0 ++ y ∷ filter_map f p.1 = ap (filter_map f) p.2 ∙ filter_map-append f p.0 (x ∷ p.1) ∙ ap (λ o. filter_map f p.0 ++ cons_option o (filter_map f p.1)) is in
    subst (λ (ys : List Y). Contains ys y) (sym same) (Contains-append_right (filter_map f p.0) (y ∷ filter_map f p.1) y (has_first y (filter_map f p.1)))

passed_by : {X : Type 0} (f : X → Bool) (xs : List X) (x : X) → Contains xs x → f x ≡ true → Contains (filter f xs) x
passed_by f [] x c is = absurd (no_element x c)
passed_by {X} f (y ∷ ys) x c is = elim (first_or_behind y x ys c) [
  | inl e ↦ subst (λ (z : X). Contains (filter f (z ∷ ys)) x) (sym e) (subst (λ (b : Bool). Contains (cond b (x ∷ filter f ys) (filter f ys)) x) (sym is) (has_first x (filter f ys)))
  | inr d ↦ by (f y) (passed_by f ys x d is)
]
  where
    by : (b : Bool) → Contains (filter f ys) x → Contains (cond b (y ∷ filter f ys) (filter f ys)) x
    by true c = has_behind y x (filter f ys) c
    by false c = c

-- ---- changes one after another

went_on : {T A B : Type 0} (m : Change T A) (k : A → Change T B) (b : B) (s t : T) → (m >>= k) s ≡ (Ok b, t) → (a : A) × (u : T) × (m s ≡ (Ok a, u)) × (k a u ≡ (Ok b, t))
unfolding ◌>>=◌ go_on
went_on {T} {A} {B} m k b s t = at (m s).0 (m s).1 refl
  where
    at : (x : Outcome A) (u : T) → m s ≡ (x, u) → go_on x u k ≡ (Ok b, t) → (a : A) × (u : T) × (m s ≡ (Ok a, u)) × (k a u ≡ (Ok b, t))
    at (Ok a) u e is = (a, u, e, is)
    at (Err e) u f is = absurd (cc (ap (λ (p : Outcome B × T). p.0) is))

-- the values that two outcomes hold
same_value : {T A : Type 0} (a b : A) (s t : T) → ◌≡◌ {A = Outcome A × T} (Ok a, s) (Ok b, t) → a ≡ b
same_value {T} {A} a b s t is = cc (ap (λ (p : Outcome A × T). p.0) is)

goes_on : {T A B : Type 0} (m : Change T A) (k : A → Change T B) (s t : T) (x : Outcome A) → m s ≡ (x, t) → (m >>= k) s ≡ go_on x t k
unfolding ◌>>=◌
goes_on {T} {A} m k s t x is = ap (λ (p : Outcome A × T). go_on p.0 p.1 k) is

module _ {T A B : Type 0} (f : A → Change T B) where
  abbrev each_of : List A → List B → Change T (List B)
  each_of xs done = folded (λ done b. done ++ b ∷ []) f xs done

  each_adds : (xs : List A) (done all : List B) (s t : T) → each_of xs done s ≡ (Ok all, t) → (more : List B) × (all ≡ done ++ more)
  unfolding folded give
  each_adds [] done all s t is = ([], sym (same_value done all s t is) ∙ sym (append-nil done))
  each_adds (x ∷ xs) done all s t is =
      let a = went_on (f x) (λ b. each_of xs (done ++ b ∷ [])) all s t is in
      let rest = each_adds xs (done ++ a.0 ∷ []) all a.1 t a.3 in
      (a.0 ∷ rest.0, rest.1 ∙ append_assoc done (a.0 ∷ []) rest.0)

  -- what one of them gives, of the state that those before it left
  each_gives : (earlier later : List A) (x : A) (done all : List B) (s t : T) → each_of (earlier ++ x ∷ later) done s ≡ (Ok all, t) → (b : B) × (u : T) × (f x (each_of earlier done s).1 ≡ (Ok b, u)) × Contains all b
  unfolding folded give go_on
  each_gives [] later x done all s t is =
      let a = went_on (f x) (λ b. each_of later (done ++ b ∷ [])) all s t is in
      let rest = each_adds later (done ++ a.0 ∷ []) all a.1 t a.3 in
      (a.0, a.1, a.2, subst (λ (bs : List B). Contains bs a.0) (sym rest.1) (Contains-append_left (done ++ a.0 ∷ []) rest.0 a.0 (Contains-append_right done (a.0 ∷ []) a.0 (has_first a.0 []))))
  each_gives (y ∷ ys) later x done all s t is =
      let a = went_on (f y) (λ b. each_of (ys ++ x ∷ later) (done ++ b ∷ [])) all s t is in
      let rest = each_gives ys later x (done ++ a.0 ∷ []) all a.1 t a.3 in
      let left : each_of (y ∷ ys) done s ≡ each_of ys (done ++ a.0 ∷ []) a.1 = goes_on (f y) (λ b. each_of ys (done ++ b ∷ [])) s a.1 (Ok a.0) a.2 in
      (rest.0, rest.1, subst (λ (u : T). f x u ≡ (Ok rest.0, rest.1)) (sym (ap (λ (p : Outcome (List B) × T). p.1) left)) rest.2, rest.3)

-- ---- what one device gives

module _ {S : Type 0} (accesses : Accesses S) where
  own_line : (device : List Seg) (s : MachineState S) (line : ReportedAfter) (t : MachineState S) → device_asked accesses device s ≡ (Ok line, t) → line ≡ record { path = device; state = state_told (device_resources accesses device s).0 }
  unfolding device_asked attempted ◌>>=◌ go_on give
  own_line device s line t is = sym (same_value (record { path = device; state = state_told (device_resources accesses device s).0 }) line (device_resources accesses device s).1 t is)

  -- of a device that has a _CRS
  module _ (device : List Seg) (s : MachineState S) (has : has_child device crs s ≡ true) where
    resources_of : device_resources accesses device s ≡ present_resources accesses device s
    unfolding device_resources
    resources_of = ap (λ b. if b then present_resources accesses device s else (Ok None, s)) has

    of_unknown : (t : MachineState S) (refusal : Refusal) → is_present accesses device s ≡ (Err refusal, t) → (device_resources accesses device s).0 ≡ Err refusal
    unfolding present_resources go_on
    of_unknown t refusal is = ap (λ (p : Outcome (Option (List ℕ)) × MachineState S). p.0) (resources_of ∙ goes_on (is_present accesses device) (λ present. resources_if accesses present device) s t (Err refusal) is)

    of_present : (t u : MachineState S) (x : Outcome (Option (List ℕ))) → is_present accesses device s ≡ (Ok true, t) → current_resources accesses device t ≡ (x, u) → (device_resources accesses device s).0 ≡ x
    unfolding present_resources resources_if go_on
    of_present t u x is read = ap (λ (p : Outcome (Option (List ℕ)) × MachineState S). p.0) (resources_of ∙ goes_on (is_present accesses device) (λ present. resources_if accesses present device) s t (Ok true) is ∙ read)

-- ---- what the report tells of it

has_interrupts : (device : List Seg) (ns : List ℕ) → 0 < length ns → spared_device device ns ≡ Some (record { device = device; interrupts = ns })
has_interrupts device [] some = absurd (omega arith)
has_interrupts device (n ∷ ns) some = refl

some_element : {X : Type 0} (x : X) (xs : List X) → Contains xs x → 0 < length xs
some_element x [] c = absurd (no_element x c)
some_element x (y ∷ ys) c = omega arith

module _ {S : Type 0} (accesses : Accesses S) (o : RunOptions) (before after : MachineState S) (r : RoutingReport) (is : IsReportWith accesses o before after r) (spare : o.spare ≡ true) where
  told_options : r.options ≡ Some (all_options o.spread is.found.asked)
  told_options = ap (λ (q : RoutingReport). q.options) is.lines ∙ ap (λ (b : Bool). options_if b o.spread is.found.asked) spare

  module _ (device : List Seg) (state : AfterState) (asked : Contains is.found.asked (record { path = device; state = state })) where
    is_unread : (refusal : Refusal) → state ≡ Refused (number_of refusal) → IsUnread r device refusal
    is_unread refusal says =
        let own : Contains is.found.asked (record { path = device; state = Refused (number_of refusal) }) = subst (λ (a : AfterState). Contains is.found.asked (record { path = device; state = a })) says asked in
        let line : UnreadLine = record { device = device; refusal = number_of refusal } in
        subst (λ (q : Option ReportedOptions). Contains (unread_devices q) line) (sym told_options) (kept_by unread_line is.found.asked (record { path = device; state = Refused (number_of refusal) }) line own refl)

    are_spared : (ns : List ℕ) → state ≡ Now (Some ns) → AreSpared r device ns
    are_spared ns says =
        let own : Contains is.found.asked (record { path = device; state = Now (Some ns) }) = subst (λ (a : AfterState). Contains is.found.asked (record { path = device; state = a })) says asked in
        let spared : SparedDevice = record { device = device; interrupts = ns } in
        let line : 0 < length ns → Contains (spared_devices r.options) spared = λ some.
        subst (λ (q : Option ReportedOptions). Contains (spared_devices q) spared) (sym told_options) (kept_by spared_line is.found.asked (record { path = device; state = Now (Some ns) }) spared own (has_interrupts device ns some)) in
        record {
          line = line;
          avoided = λ n c. spared_barred r.avoid r.options spared n (line (some_element n ns c)) c;
          not_given = λ given gives has. not_given accesses o before after r is (record { path = device; state = Now (Some ns) }) ns given spare own refl gives has;
        }

  -- the line of a device, of the state in which those before it left the machine
  module _ (between left : MachineState S) (earlier later : List (List Seg)) (device : List Seg) (all : devices_asked accesses (earlier ++ device ∷ later) between ≡ (Ok is.found.asked, left)) where
    has_line : Contains is.found.asked (record { path = device; state = state_told (device_resources accesses device (devices_asked accesses earlier between).1).0 })
    has_line =
        let g = each_gives (device_asked accesses) earlier later device [] is.found.asked between left all in
        subst (λ (l : ReportedAfter). Contains is.found.asked l) (own_line accesses device (devices_asked accesses earlier between).1 g.0 g.1 g.2) g.3

    is_told : has_child device crs (devices_asked accesses earlier between).1 ≡ true → IsTold accesses r device (devices_asked accesses earlier between).1
    is_told has =
        let s = (devices_asked accesses earlier between).1 in
        let state = state_told (device_resources accesses device s).0 in
        record {
          unknown = λ t refusal e. is_unread device state has_line refusal (ap state_told (of_unknown accesses device s has t refusal e));
          unread = λ t u refusal e read. is_unread device state has_line refusal (ap state_told (of_present accesses device s has t u (Err refusal) e read));
          spared = λ t u ns e read. are_spared device state has_line ns (ap state_told (of_present accesses device s has t u (Ok (Some ns)) e read));
        }

-- ---- all devices

module _ {S : Type 0} (accesses : Accesses S) where
  paths_asked : (xs : List (List Seg)) (done lines : List ReportedAfter) (s t : MachineState S) → each_of (device_asked accesses) xs done s ≡ (Ok lines, t) → map (λ (l : ReportedAfter). l.path) lines ≡ map (λ (l : ReportedAfter). l.path) done ++ xs
  unfolding folded give
  paths_asked [] done lines s t is = ap (λ ls. map (λ (l : ReportedAfter). l.path) ls) (sym (same_value done lines s t is)) ∙ sym (append-nil (map (λ (l : ReportedAfter). l.path) done))
  paths_asked (x ∷ xs) done lines s t is =
      let a = went_on (device_asked accesses x) (λ line. each_of (device_asked accesses) xs (done ++ line ∷ [])) lines s t is in
      let rest = paths_asked xs (done ++ a.0 ∷ []) lines a.1 t a.3 in
      let own : a.0.path ≡ x = ap (λ (l : ReportedAfter). l.path) (own_line accesses x s a.0 a.1 a.2) in
      rest ∙ ap (λ ps. ps ++ xs) (map_one done a.0 ∙ ap (λ p. map (λ (l : ReportedAfter). l.path) done ++ p ∷ []) own) ∙ append_assoc (map (λ (l : ReportedAfter). l.path) done) (x ∷ []) xs
    where
      map_one : (ls : List ReportedAfter) (l : ReportedAfter) → map (λ (l : ReportedAfter). l.path) (ls ++ l ∷ []) ≡ map (λ (l : ReportedAfter). l.path) ls ++ l.path ∷ []
      map_one [] l = refl
      map_one (k ∷ ks) l = ap (λ ps. k.path ∷ ps) (map_one ks l)

  others_are : (spare : Bool) (links : List PresentLink) (s : MachineState S) → spare ≡ true → others_asked accesses spare links s ≡ devices_asked accesses (other_devices links s) s
  unfolding others_asked
  others_are true links s e = refl
  others_are false links s e = absurd (cc e)

  -- what was asked in finding, and of which machine
  asked_in : (o : RunOptions) (sci : Option ℕ) (before chosen_in : MachineState S) (found : Findings) → o.spare ≡ true → found_by accesses o sci before ≡ (Ok found, chosen_in) →
      (first : Gathering) × (between : MachineState S) × (left : MachineState S) × (gathered accesses o.avoid before ≡ (Ok first, between)) × (devices_asked accesses (other_devices first.links between) between ≡ (Ok found.asked, left))
  unfolding found_by give
  asked_in o sci before chosen_in found spare is =
      let a = went_on (gathered accesses o.avoid) _ found before chosen_in is in
      let b = went_on (others_asked accesses o.spare a.0.links) _ found a.1 chosen_in a.3 in
      let c = went_on (settle (narrowed o.spare (barred_if o.spare o.avoid b.0) sci a.0)) _ found b.1 chosen_in b.3 in
      let same : b.0 ≡ found.asked = ap (λ (f : Findings). f.asked) (same_value (record { asked = b.0; gathering = c.0 }) found c.1 chosen_in c.3) in
      (a.0, a.1, b.1, a.2, sym (others_are o.spare a.0.links a.1 spare) ∙ b.2 ∙ ap (λ (ls : List ReportedAfter). (Ok ls, b.1)) same)

  module _ (o : RunOptions) (before after : MachineState S) (r : RoutingReport) (is : IsReportWith accesses o before after r) (spare : o.spare ≡ true) where
    pub each_asked : EachIsAsked accesses o before r is.found.asked
    unfolding other_devices
    each_asked =
        let a = asked_in o (sci_of before) before is.chosen_in is.found spare is.is_found in
        let others = other_devices a.0.links a.1 in
        record {
          first = a.0;
          between = a.1;
          is_gathered = a.3;
          each = λ device there beside.
              let p = parted device others (passed_by (λ q. not (is_link a.0.links q)) (devices a.1) device there (ap not beside)) in
              record {
                earlier = p.0;
                later = p.1;
                among = p.2;
                told = is_told accesses o before after r is spare a.1 a.2 p.0 p.1 device (ap (λ ds. devices_asked accesses ds a.1) (sym p.2) ∙ a.4);
              };
          alone = paths_asked others [] is.found.asked a.1 a.2 a.4;
        }
