-- How the address of a PCI function is asked for, object by object and bridge by bridge, and what each of them may be
-- refused by (ACPI 6.5, 5.5.2.4, 6.1.1, 6.5.5 and 6.5.6; PCI-to-PCI Bridge Architecture 1.2, 3.2).
use Rattle.std.specs.Prelude.{◌≡◌, ◌≢◌, ◌⊎◌, ◌≤◌, ◌<◌, ◌+◌, ◌*◌, ◌%◌, ◌++◌, ℕ, List, [], ◌∷◌, length, take, Ok, Err}
use Rattle.ar_space.specs.declared.refusal.Refusal.{Refusal}
use Rattle.ar_space.specs.declared.refusal.Refusal.TheVariants as refusal
use Rattle.ar_space.specs.declared.refusal.EvaluationFault.TheVariants.{DeepPci}
use Rattle.ar_space.specs.declared.refusal.FieldFault.TheVariants.{RegionLimit}
use Rattle.ar_space.specs.declared.refusal.SpaceFault.{SpaceFault}
use Rattle.ar_space.specs.declared.space.Width.TheVariants.{W8}
use Rattle.ar_space.specs.declared.space.Place.TheVariants as place
use Rattle.ar_space.specs.Accesses.{Accesses}
use Rattle.ar_space.specs.Outcome.{Outcome}
use Rattle.aml_path.specs.declared.segment.Seg.{Seg}
use Rattle.aml_fields.specs.declared.region.AddressSpace.{AddressSpace}
use Rattle.aml_fields.specs.declared.region.AddressSpace.TheVariants as spaces
use Rattle.aml_world.specs.state.State.{State}
use Rattle.aml_world.specs.state.Run.{Run}
use Rattle.aml_world.specs.fields.Bridges.{bridges_to}
use Rattle.aml_world.specs.fields.PciFunctions.{adr, segment_group, base_bus}
use Rattle.aml_laws.specs.PciScopes.{StandsIn, IsFunctionAt, IsNearestSuch, NoneSuch}

-- ---- the numbers of a function

-- there may be a PCI function with this segment group, bus, device and number
pub record MayBeFunction (seg bus dev func : ℕ) : Type 0 where
  pub group_fits : seg < 65536
  pub bus_fits : bus < 256
  pub device_fits : dev < 32
  pub function_fits : func < 8

-- one of these numbers is too great for any
pub data IsNoFunction (seg bus dev func : ℕ) : Type 0 where
  no_group : 65536 ≤ seg → IsNoFunction seg bus dev func
  no_bus : 256 ≤ bus → IsNoFunction seg bus dev func
  no_device : 32 ≤ dev → IsNoFunction seg bus dev func
  no_number : 8 ≤ func → IsNoFunction seg bus dev func

-- ---- bridges

-- what a device tells that is asked for the bus behind it, and the register space then: its secondary bus, by two
-- reads, where its header type is that of a bridge. Where it is not, the second read is not made; nor is one made
-- behind a fault, or where no function has its numbers
pub data BridgeTells {S : Type 0} (accesses : Accesses S) (seg bus dev func : ℕ) (s : S) : Outcome ℕ → S → Type 0 where
  is_nowhere : IsNoFunction seg bus dev func → BridgeTells accesses seg bus dev func s (Err (refusal.Field RegionLimit)) s
  type_has_fault : (fault : SpaceFault) (t : S) → MayBeFunction seg bus dev func → accesses.reads s (place.Pci seg bus dev func 14) W8 ≡ (Err fault, t)
      → BridgeTells accesses seg bus dev func s (Err (refusal.Space fault)) t
  is_no_bridge : (kind : ℕ) (t : S) → MayBeFunction seg bus dev func → accesses.reads s (place.Pci seg bus dev func 14) W8 ≡ (Ok kind, t) → kind % 128 ≢ 1 → kind % 128 ≢ 2
      → BridgeTells accesses seg bus dev func s (Err (refusal.Evaluation DeepPci)) t
  bus_has_fault : (kind : ℕ) (fault : SpaceFault) (t u : S) → MayBeFunction seg bus dev func → accesses.reads s (place.Pci seg bus dev func 14) W8 ≡ (Ok kind, t) → (kind % 128 ≡ 1) ⊎ (kind % 128 ≡ 2)
      → accesses.reads t (place.Pci seg bus dev func 25) W8 ≡ (Err fault, u) → BridgeTells accesses seg bus dev func s (Err (refusal.Space fault)) u
  is_bridge : (kind number : ℕ) (t u : S) → MayBeFunction seg bus dev func → accesses.reads s (place.Pci seg bus dev func 14) W8 ≡ (Ok kind, t) → (kind % 128 ≡ 1) ⊎ (kind % 128 ≡ 2)
      → accesses.reads t (place.Pci seg bus dev func 25) W8 ≡ (Ok number, u) → BridgeTells accesses seg bus dev func s (Ok number) u

-- ---- the objects of an address

-- the same world and steps with other registers
abbrev pub with_space : {S : Type 0} → State S × ℕ → S → State S × ℕ
with_space s u = (record s.0 { space = u }, s.1)

-- What the nearest object of a name, of a scope and those above it, answers when it is asked, and the world then; 0
-- where there is none. call: what the object at a path answers when it is asked.
pub data PartAnswers {S : Type 0} (call : List Seg → Run S ℕ) (name : Seg) (scope : List Seg) (s : State S × ℕ) : Outcome ℕ → State S × ℕ → Type 0 where
  of_none : NoneSuch (StandsIn s.0.names.map name) scope (length scope) → PartAnswers call name scope s (Ok 0) s
  of_nearest : (k : ℕ) (r : Outcome ℕ) (after : State S × ℕ) → IsNearestSuch (StandsIn s.0.names.map name) scope k → call (take k scope ++ name ∷ []) s ≡ (r, after)
      → PartAnswers call name scope s r after

-- Where bridges lead to from a bus on, and the world then. They are asked one after another: for each its `_ADR` is
-- called, and then it is asked on the bus that the one before it told. The first that is refused ends it.
pub data BridgesLead {S : Type 0} (accesses : Accesses S) (call : List Seg → Run S ℕ) (seg : ℕ) : ℕ → List (List Seg) → State S × ℕ → Outcome ℕ → State S × ℕ → Type 0 where
  no_further : (bus : ℕ) (s : State S × ℕ) → BridgesLead accesses call seg bus [] s (Ok bus) s
  adr_refused : (bus : ℕ) (p : List Seg) (ps : List (List Seg)) (s t : State S × ℕ) (e : Refusal) → call (p ++ adr ∷ []) s ≡ (Err e, t) → BridgesLead accesses call seg bus (p ∷ ps) s (Err e) t
  bridge_refused : (bus dev func : ℕ) (p : List Seg) (ps : List (List Seg)) (s t : State S × ℕ) (e : Refusal) (u : S) → func < 65536 → call (p ++ adr ∷ []) s ≡ (Ok (dev * 65536 + func), t)
      → BridgeTells accesses seg bus dev func t.0.space (Err e) u → BridgesLead accesses call seg bus (p ∷ ps) s (Err e) (with_space t u)
  leads_on : (bus dev func number : ℕ) (p : List Seg) (ps : List (List Seg)) (s t after : State S × ℕ) (r : Outcome ℕ) (u : S) → func < 65536 → call (p ++ adr ∷ []) s ≡ (Ok (dev * 65536 + func), t)
      → BridgeTells accesses seg bus dev func t.0.space (Ok number) u → BridgesLead accesses call seg number ps (with_space t u) r after → BridgesLead accesses call seg bus (p ∷ ps) s r after

-- The address of the function at a path, and the world then: `_SEG` is asked first, then `_BBN`, then the bridges
-- above, and at last the `_ADR` of the function. The first that is refused ends it, and those behind it are not
-- asked.
pub data AddressAnswers {S : Type 0} (accesses : Accesses S) (call : List Seg → Run S ℕ) (path : List Seg) (s : State S × ℕ) : Outcome AddressSpace → State S × ℕ → Type 0 where
  segment_refused : (e : Refusal) (t : State S × ℕ) → PartAnswers call segment_group path s (Err e) t → AddressAnswers accesses call path s (Err e) t
  bus_refused : (seg : ℕ) (e : Refusal) (t u : State S × ℕ) → PartAnswers call segment_group path s (Ok seg) t → PartAnswers call base_bus path t (Err e) u
      → AddressAnswers accesses call path s (Err e) u
  bridges_refused : (seg bus : ℕ) (e : Refusal) (t u v : State S × ℕ) → PartAnswers call segment_group path s (Ok seg) t → PartAnswers call base_bus path t (Ok bus) u
      → BridgesLead accesses call seg bus (bridges_to s.0.names.map path) u (Err e) v → AddressAnswers accesses call path s (Err e) v
  function_refused : (seg bus end : ℕ) (e : Refusal) (t u v after : State S × ℕ) → PartAnswers call segment_group path s (Ok seg) t → PartAnswers call base_bus path t (Ok bus) u
      → BridgesLead accesses call seg bus (bridges_to s.0.names.map path) u (Ok end) v → call (path ++ adr ∷ []) v ≡ (Err e, after) → AddressAnswers accesses call path s (Err e) after
  out_of_range : (seg bus end dev func : ℕ) (t u v after : State S × ℕ) → PartAnswers call segment_group path s (Ok seg) t → PartAnswers call base_bus path t (Ok bus) u
      → BridgesLead accesses call seg bus (bridges_to s.0.names.map path) u (Ok end) v → call (path ++ adr ∷ []) v ≡ (Ok (dev * 65536 + func), after) → func < 65536 → IsNoFunction seg end dev func
      → AddressAnswers accesses call path s (Err (refusal.Field RegionLimit)) after
  in_range : (seg bus end dev func : ℕ) (t u v after : State S × ℕ) → PartAnswers call segment_group path s (Ok seg) t → PartAnswers call base_bus path t (Ok bus) u
      → BridgesLead accesses call seg bus (bridges_to s.0.names.map path) u (Ok end) v → call (path ++ adr ∷ []) v ≡ (Ok (dev * 65536 + func), after) → MayBeFunction seg end dev func
      → AddressAnswers accesses call path s (Ok (spaces.Pci seg end dev func)) after

-- A scope's address, and the world then: that of the nearest device with an `_ADR`, of the scope itself and those above it, as the objects
-- of the address answer.
pub record AddressFound {S : Type 0} (accesses : Accesses S) (call : List Seg → Run S ℕ) (scope : List Seg) (s : State S × ℕ) (space : AddressSpace) (after : State S × ℕ) : Type 0 where
  pub segments : ℕ
  pub nearest : IsNearestSuch (IsFunctionAt s.0.names.map) scope segments
  pub answers : AddressAnswers accesses call (take segments scope) s (Ok space) after
