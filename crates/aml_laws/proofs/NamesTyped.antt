-- What ObjectType tells of an element of a package that is a name.
use Rattle.std.specs.Prelude.{◌≡◌, ℕ, suc, List, length, Ok, refl}
use Rattle.std.proofs.Common.{ap, ◌∙◌}
use Rattle.std.proofs.lemmas.Option.{slice_get_within}
use Rattle.ar_space.specs.Accesses.{Accesses}
use Rattle.ar_space.specs.Change.{give, settle, go_on, ◌>>=◌}
use Rattle.aml_path.specs.declared.segment.Seg.{Seg}
use Rattle.aml_path.specs.Paths.{Name}
use Rattle.aml_grammar.specs.declared.opcode.Opcode.TheVariants as opcodes
use Rattle.aml_grammar.specs.Tree.{Tree, null, inner}
use Rattle.aml_objects.specs.Objects.{element_at}
use Rattle.aml_objects.specs.declared.entry.Entry.{Entry}
use Rattle.aml_objects.specs.declared.entry.NamedObject.TheVariants as named
use Rattle.aml_objects.specs.declared.object.Element.TheVariants as element
use Rattle.aml_objects.specs.declared.value.Reference.TheVariants as reference
use Rattle.aml_objects.specs.declared.value.Value.{Value}
use Rattle.aml_objects.specs.declared.value.Value.TheVariants as value
use Rattle.aml_namespace.specs.Search.{found}
use Rattle.aml_world.specs.declared.values.object_type.Referent.TheVariants as referent
use Rattle.aml_world.specs.declared.values.store_target.StoreTarget.TheVariants as targets
use Rattle.aml_world.specs.state.State.{State, on_objects}
use Rattle.aml_world.specs.state.Run.{lift}
use Rattle.aml_world.specs.state.Readings.{entry_found}
use Rattle.aml_world.specs.values.Operations.{type_number, type_of_referent}
use Rattle.aml_world.specs.values.StoreTargets.{name_followed, held_followed, followed}
use Rattle.aml_meaning.specs.declared.flow.Flow.TheVariants as flow
use Rattle.aml_meaning.specs.Tasks.{task, operand_value}
use Rattle.aml_meaning.specs.OperatorTerms.{referent_of_value, type_rule}
use Rattle.aml_meaning.specs.Evaluation.{rule}
use Rattle.aml_meaning.specs.Meaning.{meaning}
use Rattle.aml_laws.specs.OperatorTerms.{two_to, nothing, Gives}
use Rattle.aml_laws.specs.NamesInPackages.{HoldsName}
use Rattle.aml_laws.specs.ReferringTerms.{elements, Indexes, object_type, IsNumbered, an_integer, a_string, a_buffer, a_package}
use Rattle.aml_laws.proofs.PartsIndexed.{index_refers}
use Rattle.aml_laws.proofs.TreesCost.{term_begins}

module _ {S : Type 0} (w : State S) (o i : ℕ) (n : Name) (home : List Seg) (h : HoldsName w o i n home) (path : List Seg) (e : Entry) (finds : found w.names.map home n ≡ Ok (path, e)) where
  name_referent : (v : Value) (k : ℕ) → e.object ≡ named.Data v → IsNumbered v k → followed 64 (reference.Element o i) w ≡ (Ok (referent.Value v), w)
  unfolding followed held_followed name_followed entry_found on_objects element_at give go_on ◌>>=◌
  name_referent _ _ is (an_integer m) = rw (h.stands, h.is, finds, is) refl
  name_referent _ _ is (a_string p) = rw (h.stands, h.is, finds, is) refl
  name_referent _ _ is (a_buffer p) = rw (h.stands, h.is, finds, is) refl
  name_referent _ _ is (a_package p) = rw (h.stands, h.is, finds, is) refl

kind_numbered : (v : Value) (k : ℕ) → IsNumbered v k → type_number (type_of_referent (referent.Value v)) ≡ k
kind_numbered _ _ (an_integer m) = refl
kind_numbered _ _ (a_string p) = refl
kind_numbered _ _ (a_buffer p) = refl
kind_numbered _ _ (a_package p) = refl

module _ {S : Type 0} (accesses : Accesses S) (scope : List Seg) (depth : ℕ) (x y : Tree) (w : State S) (steps : ℕ) (o i : ℕ) (after : State S × ℕ) (indexes : Indexes accesses scope depth x y (w, steps) (value.Package o) i after) (n : Name) (home : List Seg) (h : HoldsName after.0 o i n home) where
  typed_so : (v : Value) (k : ℕ) → followed 64 (reference.Element o i) after.0 ≡ (Ok (referent.Value v), after.0) → IsNumbered v k → rule accesses (meaning accesses) (task scope depth (object_type (inner (two_to opcodes.Index x y null)))) (w, suc steps) ≡ (Ok (flow.Value (value.Integer k)), after)
  unfolding rule type_rule referent_of_value operand_value settle lift give go_on ◌>>=◌
  typed_so v k leads is =
      rw (
        index_refers accesses scope depth x y w steps (value.Package o) i after indexes (length h.elements) (λ k. reference.Element o k) (elements o h.elements h.stands) (slice_get_within h.elements i (element.Name n home) h.is) null after.0
            (record { target = targets.Nowhere; names = nothing; is = refl }),
        leads,
      ) (ap (λ m. (Ok (flow.Value (value.Integer m)), after)) (kind_numbered v k is))

  pub named_typed : (path : List Seg) (e : Entry) (v : Value) (k : ℕ) → found after.0.names.map home n ≡ Ok (path, e) → e.object ≡ named.Data v → IsNumbered v k → Gives accesses scope depth (object_type (inner (two_to opcodes.Index x y null))) (w, suc (suc steps)) k after
  named_typed path e v k finds is kind =
      (term_begins accesses (task scope depth (object_type (inner (two_to opcodes.Index x y null))))).paid w (suc steps)
      ∙ typed_so v k (name_referent after.0 o i n home h path e finds v k is kind) kind
