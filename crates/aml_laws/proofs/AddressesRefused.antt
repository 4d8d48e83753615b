-- Objects that hold no value refuse the address that asks them.
use Rattle.std.specs.Prelude.{◌≡◌, ◌<◌, ◌++◌, ℕ, List, [], ◌∷◌, take, Ok, Err}
use Rattle.ar_space.specs.declared.refusal.Refusal.TheVariants as refusal
use Rattle.ar_space.specs.declared.refusal.ValueFault.TheVariants.{WrongType}
use Rattle.ar_space.specs.Accesses.{Accesses}
use Rattle.aml_path.specs.declared.segment.Seg.{Seg}
use Rattle.aml_world.specs.state.State.{State}
use Rattle.aml_world.specs.state.Run.{Run}
use Rattle.aml_world.specs.fields.PciFunctions.{adr, segment_group, base_bus, pci_function}
use Rattle.aml_world.specs.fields.Bridges.{bridges_to}
use Rattle.aml_world.specs.fields.Fields.{pci_address}
use Rattle.aml_meaning.specs.FieldCalls.{called_at}
use Rattle.aml_meaning.specs.Meaning.{meaning}
use Rattle.aml_laws.specs.AddressObjects.{HoldsNoValueAt}
use Rattle.aml_laws.specs.PciAddresses.{PartAnswers, of_nearest, BridgesLead, segment_refused, bus_refused, function_refused}
use Rattle.aml_laws.specs.PciScopes.{StandsIn, IsNearestSuch}
use Rattle.aml_laws.proofs.AddressObjects.{tells_none}
use Rattle.aml_laws.proofs.PciAddresses.{objects_asked}

module _ {S : Type 0} (accesses : Accesses S) (depth : ℕ) (less : depth < 32) (w : State S) (steps : ℕ) (scope path : List Seg) (belongs : pci_function scope w ≡ (Ok path, w)) where
  abbrev call : List Seg → Run S ℕ
  call = called_at accesses (meaning accesses) depth

  pub segment_group_tells_none : depth < w.nesting.calls → (k : ℕ) → IsNearestSuch (StandsIn w.names.map segment_group) path k → HoldsNoValueAt w (take k path ++ segment_group ∷ [])
      → pci_address accesses call scope (w, steps) ≡ (Err (refusal.Value WrongType), (w, steps))
  segment_group_tells_none few k nearest none =
      objects_asked accesses call w steps scope path _ _ belongs (segment_refused (refusal.Value WrongType) (w, steps) (of_nearest k _ _ nearest (tells_none accesses depth less w few steps (take k path ++ segment_group ∷ []) none)))

  module _ (seg : ℕ) (t : State S) (rest : ℕ) (group : PartAnswers call segment_group path (w, steps) (Ok seg) (t, rest)) where
    pub base_bus_tells_none : depth < t.nesting.calls → (k : ℕ) → IsNearestSuch (StandsIn t.names.map base_bus) path k → HoldsNoValueAt t (take k path ++ base_bus ∷ [])
        → pci_address accesses call scope (w, steps) ≡ (Err (refusal.Value WrongType), (t, rest))
    base_bus_tells_none few k nearest none =
        objects_asked accesses call w steps scope path _ _ belongs
        (bus_refused seg (refusal.Value WrongType) (t, rest) (t, rest) group (of_nearest k _ _ nearest (tells_none accesses depth less t few rest (take k path ++ base_bus ∷ []) none)))

  pub function_tells_none : (seg bus end : ℕ) (t u : State S × ℕ) (v : State S) (rest : ℕ) → PartAnswers call segment_group path (w, steps) (Ok seg) t → PartAnswers call base_bus path t (Ok bus) u
      → BridgesLead accesses call seg bus (bridges_to w.names.map path) u (Ok end) (v, rest) → depth < v.nesting.calls → HoldsNoValueAt v (path ++ adr ∷ [])
      → pci_address accesses call scope (w, steps) ≡ (Err (refusal.Value WrongType), (v, rest))
  function_tells_none seg bus end t u v rest group first lead few none =
      objects_asked accesses call w steps scope path _ _ belongs
      (function_refused seg bus end (refusal.Value WrongType) t u (v, rest) (v, rest) group first lead (tells_none accesses depth less v few rest (path ++ adr ∷ []) none))
