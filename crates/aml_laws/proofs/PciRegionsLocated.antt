-- A region of PCI_Config is located by the scope that it stands in.
use Rattle.std.specs.Prelude.{◌≡◌, ◌<◌, ◌==◌, ℕ, false, List, Ok, Err, refl}
use Rattle.std.proofs.Common.{arith, ap}
use Rattle.std.proofs.lemmas.Bool.Decides.{nat_tests}
use Rattle.ar_space.specs.declared.refusal.Refusal.{Refusal}
use Rattle.ar_space.specs.declared.refusal.Refusal.TheVariants as refusal
use Rattle.ar_space.specs.declared.refusal.EvaluationFault.TheVariants.{SpaceKind}
use Rattle.ar_space.specs.Accesses.{Accesses}
use Rattle.ar_space.specs.Change.{give, stop, settle, go_on, ◌>>=◌}
use Rattle.aml_path.specs.declared.segment.Seg.{Seg}
use Rattle.aml_objects.specs.declared.entry.OperationRegion.{OperationRegion}
use Rattle.aml_fields.specs.declared.region.AddressSpace.{AddressSpace}
use Rattle.aml_namespace.proofs.Declaring.{above_is}
use Rattle.aml_world.specs.state.State.{State}
use Rattle.aml_world.specs.state.Run.{Run, lift}
use Rattle.aml_world.specs.values.StoreTargets.{declaration}
use Rattle.aml_world.specs.fields.Regions.{region_declared}
use Rattle.aml_world.specs.fields.Fields.{pci_address, located}
use Rattle.aml_laws.specs.PciRegions.{RegionStandsIn, located_at}

differs : (n k : ℕ) → k < n → (n == k) ≡ false
differs n k less = grind (arith, nat_tests)

region_so : {S : Type 0} (w : State S) (n : ℕ) (scope : List Seg) (region : OperationRegion) → RegionStandsIn w n scope region → region_declared n w ≡ (Ok (scope, region), w)
unfolding region_declared declaration settle give go_on ◌>>=◌
region_so w n scope region at = rw (at.stands, at.is) (ap (λ p. (Ok (p, region), w)) (above_is scope at.name))

module _ {S : Type 0} (accesses : Accesses S) (call : List Seg → Run S ℕ) (w : State S) (steps n : ℕ) (scope : List Seg) (region : OperationRegion) (at : RegionStandsIn w n scope region) where
  pub there : region.space ≡ 2 → (space : AddressSpace) (after : State S × ℕ) → pci_address accesses call scope (w, steps) ≡ (Ok space, after) → located accesses call n (w, steps) ≡ (Ok (located_at space region), after)
  unfolding located lift give go_on ◌>>=◌
  there pci space after is = rw (region_so w n scope region at, pci, is) refl

  pub refused : region.space ≡ 2 → (e : Refusal) (after : State S × ℕ) → pci_address accesses call scope (w, steps) ≡ (Err e, after) → located accesses call n (w, steps) ≡ (Err e, after)
  unfolding located lift give go_on ◌>>=◌
  refused pci e after is = rw (region_so w n scope region at, pci, is) refl

  pub other : 2 < region.space → located accesses call n (w, steps) ≡ (Err (refusal.Evaluation SpaceKind), (w, steps))
  unfolding located lift stop give go_on ◌>>=◌
  other more =
      let memory : (region.space == 0) ≡ false = differs region.space 0 (omega (arith, more)) in
      let io : (region.space == 1) ≡ false = differs region.space 1 (omega (arith, more)) in
      rw (region_so w n scope region at, memory, io, differs region.space 2 more) refl
