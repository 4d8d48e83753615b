-- A name that finds a field hands on what is put there.
use Rattle.std.specs.Prelude.{◌≡◌, ℕ, List, Ok}
use Rattle.std.proofs.Common.{◌∙◌}
use Rattle.aml_path.specs.declared.segment.Seg.{Seg}
use Rattle.aml_path.specs.Paths.{Name}
use Rattle.aml_grammar.specs.Tree.{name}
use Rattle.aml_objects.specs.declared.entry.Field.{Field}
use Rattle.aml_objects.specs.declared.value.Value.{Value}
use Rattle.aml_world.specs.declared.values.store_target.StoreTarget.TheVariants as targets
use Rattle.aml_world.specs.declared.values.store_target.Stored.TheVariants as store
use Rattle.aml_world.specs.state.State.{State}
use Rattle.aml_world.specs.values.Stores.{stored, copied_to}
use Rattle.aml_world.specs.values.FormedStores.{formed_to}
use Rattle.aml_laws.specs.OperatorTerms.{NamesTarget, named}
use Rattle.aml_laws.specs.FieldNames.{NamesField}
use Rattle.aml_laws.proofs.FieldNamesUsed.{there, field_is_stored, field_is_copied}
use Rattle.aml_laws.proofs.FormedElsewhere.{formed_over_field}

pub field_hands_on : {S : Type 0} (scope : List Seg) (w : State S) (n : Name) (f : Field) (bits : ℕ) → NamesField w scope n f bits → (path : List Seg) × NamesTarget scope w (name n) (targets.Name path)
    × ((v : Value) → (stored (targets.Name path) v w ≡ (Ok (store.Field f), w)) × (copied_to (targets.Name path) v w ≡ (Ok (store.Field f), w)) × (formed_to (targets.Name path) v w ≡ (Ok (store.Field f), w)))
field_hands_on scope w n f bits h = (
  h.path,
  named n h.path (record { number = h.number; object = h.object }) h.finds,
  λ v. (
    field_is_stored w scope n f bits h v,
    field_is_copied w scope n f bits h v,
    formed_over_field w h.path (record { number = h.number; object = h.object }) f bits v (there w scope n f bits h v) h.is ∙ field_is_stored w scope n f bits h v,
  ),
)
