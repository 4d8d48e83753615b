-- What names and slots give where values stand.
use Rattle.std.specs.Prelude.{◌≡◌, ℕ, suc, List, Ok, Err, refl}
use Rattle.std.proofs.Common.{◌∙◌}
use Rattle.ar_space.specs.Accesses.{Accesses}
use Rattle.ar_space.specs.declared.refusal.Refusal.TheVariants as refusal
use Rattle.ar_space.specs.declared.refusal.EvaluationFault.TheVariants.{NoValue}
use Rattle.ar_space.specs.Change.{give, settle, go_on, ◌>>=◌}
use Rattle.aml_path.specs.declared.segment.Seg.{Seg}
use Rattle.aml_path.specs.Paths.{Name}
use Rattle.aml_grammar.specs.declared.opcode.Opcode.{Opcode}
use Rattle.aml_objects.specs.declared.entry.Entry.{Entry}
use Rattle.aml_objects.specs.declared.entry.NamedObject.{NamedObject}
use Rattle.aml_objects.specs.declared.value.Reference.TheVariants as reference
use Rattle.aml_objects.specs.declared.value.Slot.{Slot}
use Rattle.aml_objects.specs.declared.value.Value.{Value}
use Rattle.aml_objects.specs.declared.value.Value.TheVariants as value
use Rattle.aml_namespace.specs.Search.{found}
use Rattle.aml_world.specs.declared.state.invocation.Invocation.TheVariants as invocation
use Rattle.aml_world.specs.state.State.{State}
use Rattle.aml_world.specs.state.Run.{lift}
use Rattle.aml_world.specs.state.Readings.{read_as, entry_found, arguments_found}
use Rattle.aml_world.specs.state.Invocations.{invocation_of_object, named_use, invocation_found}
use Rattle.aml_world.specs.values.StoreTargets.{latest_frame, slot_held, own_slot, slot_read}
use Rattle.aml_meaning.specs.declared.flow.Flow.TheVariants as flow
use Rattle.aml_meaning.specs.declared.term_kind.TermKind.TheVariants as kinds
use Rattle.aml_meaning.specs.declared.term_kind.OperatorKind.TheVariants as operators
use Rattle.aml_meaning.specs.Terms.{kind_of}
use Rattle.aml_meaning.specs.Tasks.{task}
use Rattle.aml_meaning.specs.InvocationTerms.{name_value}
use Rattle.aml_meaning.specs.OperatorTerms.{slot_rule}
use Rattle.aml_meaning.specs.Evaluation.{rule}
use Rattle.aml_meaning.specs.Meaning.{meaning}
use Rattle.aml_laws.specs.CallTerms.{IsNoMethod}
use Rattle.aml_laws.specs.StoredNames.{data_entry}
use Rattle.aml_laws.specs.StoredParts.{HoldsNothing}
use Rattle.aml_laws.specs.StoredParts as nothing
use Rattle.aml_laws.specs.OperatorTerms.{alone, NamesSlot, local0, local1, local2, local3, local4, local5, local6, local7, argument0, argument1, argument2, argument3, argument4, argument5, argument6, SlotHolds, SlotIsEmpty, GivesValue, IsRefused}
use Rattle.aml_laws.specs.NamesUsed.{use_of, IsGivenBy, an_integer, a_string, a_buffer, a_package, another}
use Rattle.aml_laws.proofs.ArgumentsInTurn.{takes_none}
use Rattle.aml_laws.proofs.TreesCost.{term_begins}
use Rattle.aml_laws.proofs.Counting.{slot_gives}

pub given_as : (number : ℕ) (v r : Value) → IsGivenBy number v r → read_as number v ≡ r
given_as number _ _ (an_integer n) = refl
given_as number _ _ (a_string o) = refl
given_as number _ _ (a_buffer o) = refl
given_as number _ _ (a_package o) = refl
given_as number _ _ (another r) = refl

-- what holds no value stands for a reference to itself
pub itself_used : (p : List Seg) (n : ℕ) (o : NamedObject) → HoldsNothing o → IsNoMethod o → invocation_of_object p n o ≡ Ok (invocation.Value (value.Reference (reference.Name n)))
itself_used p n _ nothing.scope other = refl
itself_used p n _ nothing.device other = refl
itself_used p n _ nothing.processor other = refl
itself_used p n _ nothing.power_resource other = refl
itself_used p n _ nothing.thermal_zone other = refl
itself_used p n _ (nothing.method m) other = absurd (other m refl)
itself_used p n _ (nothing.region r) other = refl
itself_used p n _ (nothing.mutex count) other = refl
itself_used p n _ (nothing.event count) other = refl

slot_is_term : (op : Opcode) (s : Slot) → NamesSlot op s → kind_of op ≡ kinds.Operator (operators.Slot s)
slot_is_term _ _ local0 = refl
slot_is_term _ _ local1 = refl
slot_is_term _ _ local2 = refl
slot_is_term _ _ local3 = refl
slot_is_term _ _ local4 = refl
slot_is_term _ _ local5 = refl
slot_is_term _ _ local6 = refl
slot_is_term _ _ local7 = refl
slot_is_term _ _ argument0 = refl
slot_is_term _ _ argument1 = refl
slot_is_term _ _ argument2 = refl
slot_is_term _ _ argument3 = refl
slot_is_term _ _ argument4 = refl
slot_is_term _ _ argument5 = refl
slot_is_term _ _ argument6 = refl

module _ {S : Type 0} (accesses : Accesses S) (scope : List Seg) (depth : ℕ) (w : State S) (steps : ℕ) where
  named_so : (n : Name) (path : List Seg) (number : ℕ) (v r : Value) → found w.names.map scope n ≡ Ok (path, data_entry number v) → IsGivenBy number v r → rule accesses (meaning accesses) (task scope depth (use_of n)) (w, steps) ≡ (Ok (flow.Value r), (w, steps))
  unfolding rule name_value invocation_found arguments_found entry_found named_use settle lift give go_on ◌>>=◌
  named_so n path number v r finds given = rw (finds, finds, given_as number v r given) refl

  pub name_gives : (n : Name) (path : List Seg) (number : ℕ) (v r : Value) → found w.names.map scope n ≡ Ok (path, data_entry number v) → IsGivenBy number v r → GivesValue accesses scope depth (use_of n) (w, suc steps) r (w, steps)
  name_gives n path number v r finds given = (term_begins accesses (task scope depth (use_of n))).paid w steps ∙ named_so n path number v r finds given

  module _ (n : Name) (path : List Seg) (e : Entry) (finds : found w.names.map scope n ≡ Ok (path, e)) (nothing : HoldsNothing e.object) (no_method : IsNoMethod e.object) where
    itself_so : rule accesses (meaning accesses) (task scope depth (use_of n)) (w, steps) ≡ (Ok (flow.Value (value.Reference (reference.Name e.number))), (w, steps))
    unfolding rule name_value invocation_found arguments_found entry_found named_use settle lift give go_on ◌>>=◌
    itself_so = rw (finds, takes_none e.object no_method, finds, itself_used path e.number e.object nothing no_method) refl

    pub itself_is_given : GivesValue accesses scope depth (use_of n) (w, suc steps) (value.Reference (reference.Name e.number)) (w, steps)
    itself_is_given = (term_begins accesses (task scope depth (use_of n))).paid w steps ∙ itself_so

  slot_so : (op : Opcode) (s : Slot) (v : Value) → NamesSlot op s → SlotHolds w s v → rule accesses (meaning accesses) (task scope depth (alone op)) (w, steps) ≡ (Ok (flow.Value v), (w, steps))
  unfolding rule slot_rule lift give go_on ◌>>=◌
  slot_so op s v names h = rw (slot_is_term op s names, slot_gives w s v h) refl

  pub slot_is_given : (op : Opcode) (s : Slot) (v : Value) → NamesSlot op s → SlotHolds w s v → GivesValue accesses scope depth (alone op) (w, suc steps) v (w, steps)
  slot_is_given op s v names h = (term_begins accesses (task scope depth (alone op))).paid w steps ∙ slot_so op s v names h

  empty_so : (s : Slot) → SlotIsEmpty w s → slot_read s w ≡ (Err (refusal.Evaluation NoValue), w)
  unfolding slot_read own_slot latest_frame slot_held settle go_on ◌>>=◌
  empty_so s h = rw (h.latest, h.stands, h.empty) refl

  pub empty_slot_is_refused : (op : Opcode) (s : Slot) → NamesSlot op s → SlotIsEmpty w s → IsRefused accesses scope depth (alone op) (w, suc steps) (refusal.Evaluation NoValue) (w, steps)
  unfolding rule slot_rule lift go_on ◌>>=◌
  empty_slot_is_refused op s names h = (term_begins accesses (task scope depth (alone op))).paid w steps ∙ rw (slot_is_term op s names, empty_so s h) refl
