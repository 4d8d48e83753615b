-- What an operand of Signal, Reset and Wait names, and what is no event.
use Rattle.std.specs.Prelude.{◌≡◌, ℕ, List, Some, None, Ok, Err, refl}
use Rattle.std.proofs.Common.{◌∙◌}
use Rattle.std.specs.FinMap.{get}
use Rattle.ar_space.specs.Change.{settle, give, go_on, ◌>>=◌}
use Rattle.ar_space.specs.declared.refusal.Refusal.TheVariants as refusal
use Rattle.ar_space.specs.declared.refusal.ValueFault.TheVariants.{WrongType}
use Rattle.aml_path.specs.declared.segment.Seg.{Seg}
use Rattle.aml_objects.specs.declared.entry.Entry.{Entry}
use Rattle.aml_objects.specs.declared.entry.NamedObject.{NamedObject}
use Rattle.aml_objects.specs.declared.entry.NamedObject.TheVariants as object
use Rattle.aml_objects.specs.declared.value.Reference.{Reference}
use Rattle.aml_objects.specs.declared.value.Reference.TheVariants as reference
use Rattle.aml_objects.specs.declared.value.Slot.TheVariants.{Local, Argument}
use Rattle.aml_objects.specs.declared.value.Value.{Value}
use Rattle.aml_objects.specs.declared.value.Value.TheVariants as value
use Rattle.aml_grammar.specs.Tree.{Part}
use Rattle.aml_namespace.specs.Numbering.{Numbered}
use Rattle.aml_namespace.proofs.Finding.{numbered_found}
use Rattle.aml_world.specs.declared.values.store_target.StoreTarget.{StoreTarget}
use Rattle.aml_world.specs.declared.values.store_target.StoreTarget.TheVariants as targets
use Rattle.aml_world.specs.declared.values.operation_kind.EventChange.{EventChange}
use Rattle.aml_world.specs.declared.values.operation_kind.EventChange.TheVariants as changes
use Rattle.aml_world.specs.state.State.{State}
use Rattle.aml_world.specs.values.StoreTargets.{latest_frame, slot_held, own_slot, declaration, entry_declared, name_tested, declared_number}
use Rattle.aml_world.specs.state.Events.{name_referred, named_by_value, named_by_argument, name_at, event_named, signals_of, signals_under, event_changed, waited}
use Rattle.aml_laws.specs.Events.{IsNoEvent}
use Rattle.aml_laws.specs.OperatorTerms.{NamesTarget}
use Rattle.aml_laws.specs.ObjectTerms.{Declared, by_name, by_argument, by_reference, Undeclared, nowhere, a_local, an_argument, a_reference, NamesDeclaration, NamesNoDeclaration}
use Rattle.aml_laws.specs.StoredParts.{ArgumentHolds}

-- ---- the declaration that a target names

module _ {S : Type 0} (w : State S) where
  pub name_is : (path : List Seg) (e : Entry) → get w.names.map path ≡ Some e → event_named (targets.Name path) w ≡ (Ok (Some e.number), w)
  unfolding name_at declared_number give go_on ◌>>=◌
  name_is path e at = rw at refl

  pub argument_is : (i last : ℕ) (v : Value) → ArgumentHolds w i last v → event_named (targets.Slot (Argument i)) w ≡ named_by_value v w
  unfolding named_by_argument own_slot latest_frame slot_held go_on ◌>>=◌
  argument_is i last v h = rw (h.latest, h.stands, h.holds) refl

  pub reference_is : (path : List Seg) (e : Entry) → Numbered w.names → get w.names.map path ≡ Some e → named_by_value (value.Reference (reference.Name e.number)) w ≡ (Ok (Some e.number), w)
  unfolding name_referred name_tested declaration give go_on ◌>>=◌
  reference_is path e standing at = rw (numbered_found w.names standing path e at) refl

  pub no_reference : (v : Value) → ((n : ℕ) → v ≡ value.Reference (reference.Name n) → ⊥) → named_by_value v w ≡ (Ok None, w)
  unfolding give
  no_reference value.Uninitialized not = refl
  no_reference (value.Integer n) not = refl
  no_reference (value.String o) not = refl
  no_reference (value.Buffer o) not = refl
  no_reference (value.Package o) not = refl
  no_reference (value.Reference (reference.Name n)) not = absurd (not n refl)
  no_reference (value.Reference (reference.Slot s n)) not = refl
  no_reference (value.Reference (reference.Element o i)) not = refl
  no_reference (value.Reference (reference.Byte o i)) not = refl

  pub nowhere_is : event_named targets.Nowhere w ≡ (Ok None, w)
  unfolding give
  nowhere_is = refl

  pub local_is : (i : ℕ) → event_named (targets.Slot (Local i)) w ≡ (Ok None, w)
  unfolding give
  local_is i = refl

module _ {S : Type 0} (w : State S) where
  pub declared_is : (t : StoreTarget) (at : ℕ) → Declared w t at → event_named t w ≡ (Ok (Some at), w)
  declared_is _ _ (by_name path e at) = name_is w path e at
  declared_is _ _ (by_argument i last path e holds apart at) = argument_is w i last (value.Reference (reference.Name e.number)) holds ∙ reference_is w path e apart at
  declared_is _ _ (by_reference path e apart at) = reference_is w path e apart at

  pub undeclared_is : (t : StoreTarget) → Undeclared w t → event_named t w ≡ (Ok None, w)
  undeclared_is _ nowhere = nowhere_is w
  undeclared_is _ (a_local i) = local_is w i
  undeclared_is _ (an_argument i last v holds not) = argument_is w i last v holds ∙ no_reference w v not
  undeclared_is _ (a_reference r not) = no_reference w (value.Reference r) (λ n is. not n (same_reference r (reference.Name n) is))
    where
      same_reference : (r q : Reference) → ◌≡◌ {A = Value} (value.Reference r) (value.Reference q) → r ≡ q
      same_reference r q is = cc is

-- ---- what operands name

-- the target of such an operand, and the number that it names
pub record Named {S : Type 0} (scope : List Seg) (w : State S) (p : Part) (at : ℕ) : Type 0 where
  pub target : StoreTarget
  pub names : NamesTarget scope w p target
  pub is : event_named target w ≡ (Ok (Some at), w)

pub record Unnamed {S : Type 0} (scope : List Seg) (w : State S) (p : Part) : Type 0 where
  pub target : StoreTarget
  pub names : NamesTarget scope w p target
  pub is : event_named target w ≡ (Ok None, w)

module _ {S : Type 0} (scope : List Seg) (w : State S) where
  pub named : (p : Part) (at : ℕ) → NamesDeclaration scope w p at → Named scope w p at
  named p at h = record { target = h.target; names = h.names; is = declared_is w h.target at h.declared }

  pub unnamed : (p : Part) → NamesNoDeclaration scope w p → Unnamed scope w p
  unnamed p h = record { target = h.target; names = h.names; is = undeclared_is w h.target h.undeclared }

-- ---- what is no event

no_signals : (o : NamedObject) → IsNoEvent o → signals_of o ≡ Err (refusal.Value WrongType)
no_signals object.Scope not = refl
no_signals object.Device not = refl
no_signals object.Processor not = refl
no_signals object.PowerResource not = refl
no_signals object.ThermalZone not = refl
no_signals (object.Method m) not = refl
no_signals (object.Data v) not = refl
no_signals (object.OperationRegion r) not = refl
no_signals (object.FieldUnit u) not = refl
no_signals (object.BufferField f) not = refl
no_signals (object.Mutex count) not = refl
no_signals (object.Event count) not = absurd (not count refl)
no_signals (object.Alias p) not = refl

module _ {S : Type 0} (w : State S) where
  none_under : (path : List Seg) (e : Entry) → Numbered w.names → get w.names.map path ≡ Some e → IsNoEvent e.object → signals_under e.number w ≡ (Err (refusal.Value WrongType), w)
  unfolding signals_under entry_declared settle go_on ◌>>=◌
  none_under path e standing at not = rw (numbered_found w.names standing path e at, no_signals e.object not) refl

  no_event_changed : (k : EventChange) (n : ℕ) → signals_under n w ≡ (Err (refusal.Value WrongType), w) → event_changed k (Some n) w ≡ (Err (refusal.Value WrongType), w)
  unfolding event_changed settle go_on ◌>>=◌
  no_event_changed k n none = rw none refl

  no_event_waited : (n : ℕ) (timeout : Value) → signals_under n w ≡ (Err (refusal.Value WrongType), w) → waited (Some n) timeout w ≡ (Err (refusal.Value WrongType), w)
  unfolding waited settle go_on ◌>>=◌
  no_event_waited n timeout none = rw none refl

  pub no_event_refused : (path : List Seg) (e : Entry) → Numbered w.names → get w.names.map path ≡ Some e → IsNoEvent e.object → (event_changed changes.Signal (Some e.number) w ≡ (Err (refusal.Value WrongType), w))
      × (event_changed changes.Reset (Some e.number) w ≡ (Err (refusal.Value WrongType), w)) × ((timeout : Value) → waited (Some e.number) timeout w ≡ (Err (refusal.Value WrongType), w))
  no_event_refused path e standing at not =
      let none = none_under path e standing at not in (no_event_changed changes.Signal e.number none, no_event_changed changes.Reset e.number none, λ timeout. no_event_waited e.number timeout none)

  -- no number, no event
  pub none_changed : (k : EventChange) → event_changed k None w ≡ (Err (refusal.Value WrongType), w)
  unfolding event_changed settle go_on ◌>>=◌
  none_changed k = refl

  pub none_waited : (timeout : Value) → waited None timeout w ≡ (Err (refusal.Value WrongType), w)
  unfolding waited settle go_on ◌>>=◌
  none_waited timeout = refl
