-- Each device with a routing table has one line that tells its bus.
use Rattle.std.specs.Prelude.{◌≡◌, List, [], ◌∷◌, ◌++◌, length, map, nat_lt, ◌||◌, Bool, true, false, is_some, Option, Some, None, Ok, Err, Contains, refl, if◌then◌else◌}
use Rattle.std.specs.List.{filter_map, list_any}
use Rattle.std.specs.Option.{option_map}
use Rattle.std.specs.FinMap.{get, keys, contains_key, contains_key-keys}
use Rattle.std.specs.Ordering.{eq_by_cmp}
use Rattle.std.specs.declared.cmp.Ordering.{Ordering}
use Rattle.std.proofs.Common.{inl, inr, ap, sym, subst, ◌∙◌, append-nil, append_assoc, arith}
use Rattle.std.proofs.lemmas.Bool.{lt-ltb}
use Rattle.ar_space.specs.Accesses.{Accesses}
use Rattle.ar_space.specs.Outcome.{Outcome}
use Rattle.ar_space.specs.Change.{give, go_on, ◌>>=◌}
use Rattle.aml_path.specs.declared.segment.Seg.{Seg}
use Rattle.aml_path.specs.Paths.{path_cmp}
use Rattle.aml_objects.specs.declared.entry.Entry.{Entry}
use Rattle.aml_namespace.specs.Namespace.{Map}
use Rattle.aml_namespace.specs.Walks.{named, walked, Ascending}
use Rattle.aml_namespace.proofs.Ascent.{Keeps, picks_ascend, walk_ascends}
use Rattle.aml_namespace.proofs.Paths.{path_itself, same_path}
use Rattle.aml_laws.specs.Outside.{Stands}
use Rattle.acpi_machine.specs.declared.buses.PciBus.{PciBus}
use Rattle.acpi_machine.specs.Buses.{prt, bus_found}
use Rattle.acpi_machine.specs.Children.{stands}
use Rattle.acpi_machine.specs.Kinds.{Kind, kind_of, kind_at, with_kind, kinds_walked}
use Rattle.acpi_machine.specs.Kinds as kind
use Rattle.acpi_machine.specs.MachineStates.{MachineState}
use Rattle.acpi_links.specs.Devices.{is_device, device_path, devices}
use Rattle.acpi_links.specs.Folds.{folded}
use Rattle.acpi_links.proofs.Members.{first, behind, first_or_behind, no_member}
use Rattle.acpi_configure.specs.ForKernels.{has_table, devices_with_tables, bus_told, bus_asked}
use Rattle.acpi_configure.specs.Settling.{attempted}
use Rattle.route_report.specs.declared.report.BusLine.{BusLine}
use Rattle.machine_laws.specs.KernelLines.{HasTable, BusesAsked, none, known, refused}
use Rattle.machine_laws.proofs.OneOfList.{picked_from, picked_has, passed_from, passed_has, passed_ascend}

-- ---- which names stand in a namespace

pub any_from : (p : List Seg) (ps : List (List Seg)) → list_any (eq_by_cmp path_cmp p) ps ≡ true → Contains ps p
any_from p [] h = absurd (cc h)
any_from p (q ∷ qs) h = by (eq_by_cmp path_cmp p q) refl h (any_from p qs)
  where
    by : (b : Bool) → eq_by_cmp path_cmp p q ≡ b → (b || list_any (eq_by_cmp path_cmp p) qs) ≡ true → (list_any (eq_by_cmp path_cmp p) qs ≡ true → Contains qs p) → Contains (q ∷ qs) p
    by true is e more = subst (λ (x : List Seg). Contains (q ∷ qs) x) (sym (same_path p q is)) (first q qs)
    by false is e more = behind q p qs (more e)

pub any_has : (p : List Seg) (ps : List (List Seg)) → Contains ps p → list_any (eq_by_cmp path_cmp p) ps ≡ true
any_has p [] c = absurd (no_member p c)
any_has p (q ∷ qs) c = elim (first_or_behind q p qs c) [
  | inl same ↦ ap (λ (b : Bool). b || list_any (eq_by_cmp path_cmp p) qs) (subst (λ (x : List Seg). eq_by_cmp path_cmp p x ≡ true) (sym same) (path_itself p))
  | inr d ↦ by (eq_by_cmp path_cmp p q) (any_has p qs d)
]
  where
    by : (b : Bool) → list_any (eq_by_cmp path_cmp p) qs ≡ true → (b || list_any (eq_by_cmp path_cmp p) qs) ≡ true
    by true e = refl
    by false e = e

pub kept_name : (p q : List Seg) → named p ≡ Some q → (p ≡ q) × (q ≡ [] → ⊥)
kept_name [] q is = absurd (cc is)
kept_name (s ∷ ss) q is = by (nat_lt 0 (length (s ∷ ss))) is
  where
    by : (b : Bool) → (if b then Some (s ∷ ss) else None) ≡ Some q → (s ∷ ss ≡ q) × (q ≡ [] → ⊥)
    by true e = let same : s ∷ ss ≡ q = cc e in (same, λ none. cc (same, none))
    by false e = absurd (cc e)

pub some_name : (p : List Seg) → (p ≡ [] → ⊥) → named p ≡ Some p
some_name [] h = absurd (h refl)
some_name (s ∷ ss) h = ap (λ (b : Bool). if b then Some (s ∷ ss) else None) (lt-ltb 0 (length (s ∷ ss)) (omega arith))

some_kind : (o : Option Entry) (k : Kind) → option_map (λ (e : Entry). kind_of e.object) o ≡ Some k → is_some o ≡ true
some_kind None k is = absurd (cc is)
some_kind (Some e) k is = refl

some_entry : (o : Option Entry) → is_some (option_map (λ (e : Entry). kind_of e.object) o) ≡ is_some o
some_entry None = refl
some_entry (Some e) = refl

with_kind_is : (m : Map) (p : List Seg) (node : List Seg × Kind) → with_kind m p ≡ Some node → (node.0 ≡ p) × (kind_at m p ≡ Some node.1)
with_kind_is m p node = by (kind_at m p)
  where
    by : (o : Option Kind) → option_map (λ (k : Kind). (p, k)) o ≡ Some node → (node.0 ≡ p) × (o ≡ Some node.1)
    by None is = absurd (cc is)
    by (Some k) is = let same : (p, k) ≡ node = cc is in (ap (λ (n : List Seg × Kind). n.0) (sym same), ap (λ (n : List Seg × Kind). Some n.1) same)

device_is : (node : List Seg × Kind) (p : List Seg) → device_path node ≡ Some p → (node.0 ≡ p) × (is_device node.1 ≡ true)
device_is node p = by (is_device node.1)
  where
    by : (b : Bool) → (if b then Some node.0 else None) ≡ Some p → (node.0 ≡ p) × (b ≡ true)
    by true is = (cc is, refl)
    by false is = absurd (cc is)

a_device : (k : Kind) → is_device k ≡ true → k ≡ kind.Device
a_device kind.Device is = refl
a_device kind.Scope is = absurd (cc is)
a_device kind.Processor is = absurd (cc is)
a_device kind.PowerResource is = absurd (cc is)
a_device kind.ThermalZone is = absurd (cc is)
a_device (kind.Method n) is = absurd (cc is)
a_device kind.Uninitialized is = absurd (cc is)
a_device kind.Integer is = absurd (cc is)
a_device kind.String is = absurd (cc is)
a_device kind.Buffer is = absurd (cc is)
a_device kind.Package is = absurd (cc is)
a_device kind.Reference is = absurd (cc is)
a_device kind.FieldUnit is = absurd (cc is)
a_device kind.BufferField is = absurd (cc is)
a_device kind.Region is = absurd (cc is)
a_device kind.Mutex is = absurd (cc is)
a_device kind.Event is = absurd (cc is)
a_device (kind.Alias p) is = absurd (cc is)

module _ {S : Type 0} (m : MachineState S) where
  abbrev names : Map
  names = m.world.names.map

  -- the devices of a machine are those that stand in its namespace, below the root
  pub listed_device : (p : List Seg) → Contains (devices m) p → (p ≡ [] → ⊥) × (kind_at names p ≡ Some kind.Device)
  unfolding devices kinds_walked walked
  listed_device p c =
      let node = picked_from device_path (filter_map (with_kind names) (filter_map named (keys names))) p c in
      let device = device_is node.0 p node.2 in
      let walk = picked_from (with_kind names) (filter_map named (keys names)) node.0 node.1 in
      let at = with_kind_is names walk.0 node.0 walk.2 in
      let key = picked_from named (keys names) walk.0 walk.1 in
      let path : walk.0 ≡ p = sym at.0 ∙ device.0 in (
        λ root. (kept_name key.0 walk.0 key.2).1 (path ∙ root),
        ap (kind_at names) (sym path) ∙ at.1 ∙ ap Some (a_device node.0.1 device.1),
      )

  pub device_listed : (p : List Seg) → (p ≡ [] → ⊥) → kind_at names p ≡ Some kind.Device → Contains (devices m) p
  unfolding devices kinds_walked walked
  device_listed p below is =
      let there : contains_key names p ≡ true = some_kind (get names p) kind.Device is in
      let key : Contains (keys names) p = any_from p (keys names) (sym (contains_key-keys names p) ∙ there) in
      picked_has device_path (filter_map (with_kind names) (filter_map named (keys names))) (p, kind.Device) p
      (picked_has (with_kind names) (filter_map named (keys names)) p (p, kind.Device) (picked_has named (keys names) p p key (some_name p below)) (ap (option_map (λ (k : Kind). (p, k))) is))
      refl

  pub stands_at : (p : List Seg) → stands p m ≡ true → Stands m.world p
  stands_at p is = sym (some_entry (get names p)) ∙ is

  pub at_stands : (p : List Seg) → Stands m.world p → stands p m ≡ true
  at_stands p is = some_entry (get names p) ∙ is

  pub tabled_device : (p : List Seg) → Contains (devices_with_tables m) p → HasTable m p
  unfolding devices_with_tables
  tabled_device p c =
      let passed = passed_from (has_table m) (devices m) p c in
      let device = listed_device p passed.0 in
      record { below_root = device.0; is_device = device.1; table = stands_at (p ++ prt ∷ []) passed.1 }

  pub device_tabled : (p : List Seg) → HasTable m p → Contains (devices_with_tables m) p
  unfolding devices_with_tables
  device_tabled p has = passed_has (has_table m) (devices m) p (device_listed p has.below_root has.is_device) (at_stands (p ++ prt ∷ []) has.table)

  -- ---- they are in path order

  abbrev node_cmp : List Seg × Kind → List Seg × Kind → Ordering
  node_cmp a b = path_cmp a.0 b.0

  kinds_keep : Keeps path_cmp node_cmp (with_kind names)
  kinds_keep = record {
    keeps = λ x y a b less at other.
        let u : a.0 ≡ x = (with_kind_is names x a at).0 in
        let v : b.0 ≡ y = (with_kind_is names y b other).0 in
        ap (λ (p : List Seg). path_cmp p b.0) u ∙ (ap (λ (p : List Seg). path_cmp x p) v ∙ less);
  }

  devices_keep : Keeps node_cmp path_cmp device_path
  devices_keep = record {
    keeps = λ x y a b less at other.
        let u : x.0 ≡ a = (device_is x a at).0 in
        let v : y.0 ≡ b = (device_is y b other).0 in
        ap (λ (p : List Seg). path_cmp p b) (sym u) ∙ (ap (λ (p : List Seg). path_cmp x.0 p) (sym v) ∙ less);
  }

  pub tabled_ascend : Ascending path_cmp (devices_with_tables m)
  unfolding devices_with_tables devices kinds_walked
  tabled_ascend = passed_ascend path_cmp (has_table m) (devices m)
      (picks_ascend node_cmp path_cmp device_path devices_keep (filter_map (with_kind names) (walked names)) (picks_ascend path_cmp node_cmp (with_kind names) kinds_keep (walked names) (walk_ascends names)))

-- ---- the lines

module _ {S : Type 0} (accesses : Accesses S) where
  -- lines of these devices, as their calls come out
  pub record LinesOf (list : List (List Seg)) (done all : List BusLine) (before after : MachineState S) : Type 0 where
    pub lines : List BusLine
    pub are : all ≡ done ++ lines
    pub of_devices : map (λ (l : BusLine). l.device) lines ≡ list
    pub asked : BusesAsked accesses lines before after

  one_told : (device : List Seg) (x : Outcome PciBus) (lines : List BusLine) (s t u : MachineState S) → bus_found accesses device s ≡ (x, t) → BusesAsked accesses lines t u → BusesAsked accesses (record { device = device; state = bus_told x } ∷ lines) s u
  one_told device (Ok b) lines s t u is rest = known device b lines s t u is rest
  one_told device (Err e) lines s t u is rest = refused device e lines s t u is rest

  pub lines_of : (list : List (List Seg)) (done all : List BusLine) (s t : MachineState S) → folded (λ done line. done ++ line ∷ []) (bus_asked accesses) list done s ≡ (Ok all, t) → LinesOf list done all s t
  unfolding folded bus_asked attempted give go_on ◌>>=◌
  lines_of [] done all s t e =
      let same : done ≡ all = cc (ap (λ (r : Outcome (List BusLine) × MachineState S). r.0) e) in
      record {
        lines = [];
        are = sym same ∙ sym (append-nil done);
        of_devices = refl;
        asked = subst (λ (m : MachineState S). BusesAsked accesses [] s m) (ap (λ (r : Outcome (List BusLine) × MachineState S). r.1) e) (none s);
      }
  lines_of (device ∷ list) done all s t e =
      let found = bus_found accesses device s in
      let line : BusLine = record { device = device; state = bus_told found.0 } in
      let rest = lines_of list (done ++ line ∷ []) all found.1 t e in
      record {
        lines = line ∷ rest.lines;
        are = rest.are ∙ append_assoc done (line ∷ []) rest.lines;
        of_devices = ap (λ (ps : List (List Seg)). device ∷ ps) rest.of_devices;
        asked = one_told device found.0 rest.lines s found.1 t refl rest.asked;
      }
