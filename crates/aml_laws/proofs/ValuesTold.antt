-- What SizeOf and ObjectType tell of values and of names to which their operands lead.
use Rattle.std.specs.Prelude.{ℕ, suc, List, length, refl}
use Rattle.ar_space.specs.Accesses.{Accesses}
use Rattle.ar_space.specs.Change.{give}
use Rattle.ar_space.specs.declared.refusal.Refusal.TheVariants as refusal
use Rattle.ar_space.specs.declared.refusal.EvaluationFault.TheVariants.{NoValue}
use Rattle.aml_path.specs.declared.segment.Seg.{Seg}
use Rattle.aml_grammar.specs.Tree.{Part}
use Rattle.aml_objects.specs.declared.value.Reference.{Reference}
use Rattle.aml_objects.specs.declared.value.Value.{Value}
use Rattle.aml_objects.specs.declared.value.Value.TheVariants as value
use Rattle.aml_world.specs.declared.values.object_type.ObjectType.{ObjectType}
use Rattle.aml_world.specs.declared.values.object_type.Referent.TheVariants as referent
use Rattle.aml_world.specs.values.Operations.{size_in, type_number}
use Rattle.aml_world.specs.state.State.{State}
use Rattle.aml_laws.specs.FieldsLedTo.{AsksOf, no_value}
use Rattle.aml_laws.specs.OperatorTerms.{Gives, IsRefused}
use Rattle.aml_laws.specs.ReferringTerms.{HasParts, elements, bytes_of_string, bytes_of_buffer, size_of, object_type, IsNumbered, an_integer, a_string, a_buffer, a_package}
use Rattle.aml_laws.proofs.FieldsLedTo.{type_gives, size_gives, no_size_told}

module _ {S : Type 0} (accesses : Accesses S) (scope : List Seg) (depth : ℕ) (p : Part) (w : State S) (steps : ℕ) where
  abbrev Asks : Value → State S × ℕ → Type 0
  Asks r after = AsksOf accesses scope depth (w, steps) p (referent.Value r) after

  pub size_told : (r : Value) (n : ℕ) (f : ℕ → Reference) (after : State S × ℕ) → Asks r after → HasParts after.0 r n f → Gives accesses scope depth (size_of p) (w, suc steps) n after
  unfolding size_in give
  size_told _ _ _ after asks (elements o es is) = size_gives accesses scope depth p w steps (referent.Value (value.Package o)) after asks (referent.Value (value.Package o)) after refl (length es) (rw is refl)
  size_told _ _ _ after asks (bytes_of_string o bytes is) = size_gives accesses scope depth p w steps (referent.Value (value.String o)) after asks (referent.Value (value.String o)) after refl (length bytes) (rw is refl)
  size_told _ _ _ after asks (bytes_of_buffer o bytes is) = size_gives accesses scope depth p w steps (referent.Value (value.Buffer o)) after asks (referent.Value (value.Buffer o)) after refl (length bytes) (rw is refl)

  pub type_told : (r : Value) (k : ℕ) (after : State S × ℕ) → Asks r after → IsNumbered r k → Gives accesses scope depth (object_type p) (w, suc steps) k after
  unfolding give
  type_told _ _ after asks (an_integer n) = type_gives accesses scope depth p w steps (referent.Value (value.Integer n)) after asks (referent.Value (value.Integer n)) after refl
  type_told _ _ after asks (a_string o) = type_gives accesses scope depth p w steps (referent.Value (value.String o)) after asks (referent.Value (value.String o)) after refl
  type_told _ _ after asks (a_buffer o) = type_gives accesses scope depth p w steps (referent.Value (value.Buffer o)) after asks (referent.Value (value.Buffer o)) after refl
  type_told _ _ after asks (a_package o) = type_gives accesses scope depth p w steps (referent.Value (value.Package o)) after asks (referent.Value (value.Package o)) after refl

  pub name_told : (t : ObjectType) (after : State S × ℕ) → AsksOf accesses scope depth (w, steps) p (referent.Object t) after → Gives accesses scope depth (object_type p) (w, suc steps) (type_number t) after
  unfolding give
  name_told t after asks = type_gives accesses scope depth p w steps (referent.Object t) after asks (referent.Object t) after refl

  pub nothing_told : (after : State S × ℕ) → Asks value.Uninitialized after → Gives accesses scope depth (object_type p) (w, suc steps) 0 after × IsRefused accesses scope depth (size_of p) (w, suc steps) (refusal.Evaluation NoValue) after
  unfolding give
  nothing_told after asks = (
    type_gives accesses scope depth p w steps (referent.Value value.Uninitialized) after asks (referent.Value value.Uninitialized) after refl,
    no_size_told accesses scope depth p w steps after (referent.Value value.Uninitialized) (refusal.Evaluation NoValue) asks no_value,
  )
