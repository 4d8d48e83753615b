-- What SizeOf and ObjectType tell of what their target holds.
use Rattle.std.specs.Prelude.{◌≡◌, ℕ, suc, List, length, Some, Ok, Err, refl}
use Rattle.std.proofs.Common.{ap, ◌∙◌}
use Rattle.std.specs.FinMap.{get}
use Rattle.ar_space.specs.declared.refusal.EvaluationFault.TheVariants.{NoValue}
use Rattle.ar_space.specs.declared.refusal.Refusal.{Refusal}
use Rattle.ar_space.specs.declared.refusal.Refusal.TheVariants as refusal
use Rattle.ar_space.specs.declared.refusal.ValueFault.TheVariants.{WrongType}
use Rattle.ar_space.specs.Accesses.{Accesses}
use Rattle.ar_space.specs.Change.{give, settle, go_on, ◌>>=◌}
use Rattle.aml_path.specs.declared.segment.Seg.{Seg}
use Rattle.aml_grammar.specs.declared.opcode.Opcode.{Opcode}
use Rattle.aml_grammar.specs.declared.opcode.Opcode.TheVariants as opcodes
use Rattle.aml_grammar.specs.Tree.{Part, null, name, inner}
use Rattle.aml_objects.specs.declared.entry.Entry.{Entry}
use Rattle.aml_objects.specs.declared.entry.NamedObject.{NamedObject}
use Rattle.aml_objects.specs.declared.value.Reference.{Reference}
use Rattle.aml_objects.specs.declared.value.Slot.{Slot}
use Rattle.aml_objects.specs.declared.value.Value.{Value}
use Rattle.aml_objects.specs.declared.value.Value.TheVariants as value
use Rattle.aml_world.specs.declared.values.object_type.ObjectType.{ObjectType}
use Rattle.aml_world.specs.declared.values.object_type.ObjectType.TheVariants as types
use Rattle.aml_world.specs.declared.values.object_type.Referent.{Referent}
use Rattle.aml_world.specs.declared.values.object_type.Referent.TheVariants as referent
use Rattle.aml_world.specs.declared.values.store_target.StoreTarget.{StoreTarget}
use Rattle.aml_world.specs.declared.values.store_target.StoreTarget.TheVariants as targets
use Rattle.aml_world.specs.state.State.{State}
use Rattle.aml_world.specs.state.Run.{lift}
use Rattle.aml_world.specs.values.Operations.{type_number, type_of_value, size_in}
use Rattle.aml_world.specs.values.StoreTargets.{latest_frame, slot_held, own_slot, referent_of, value_followed, referent_followed, followed, most_references, slot_referent, declared_referent, name_referent, target_referent}
use Rattle.aml_meaning.specs.declared.flow.Flow.TheVariants as flow
use Rattle.aml_meaning.specs.Tasks.{task}
use Rattle.aml_meaning.specs.FieldCalls.{referent_read}
use Rattle.aml_meaning.specs.OperatorTerms.{referent_of_target, referent_at, size_rule, type_rule}
use Rattle.aml_meaning.specs.Evaluation.{rule}
use Rattle.aml_meaning.specs.Meaning.{meaning}
use Rattle.aml_laws.specs.OperatorTerms.{alone, counting, NamesTarget, nothing, debug, slot, named, SlotHolds, SlotIsEmpty, TargetHolds, in_slot, in_name, Gives, IsRefused}
use Rattle.aml_laws.specs.ReferringTerms.{HasParts, elements, bytes_of_string, bytes_of_buffer, size_of, object_type, IsNumbered, an_integer, a_string, a_buffer, a_package, IsNamedKind, scope, field_unit, device, event, method, mutex, region, power_resource, processor, thermal_zone, buffer_field}
use Rattle.aml_laws.proofs.TreesCost.{term_begins}
use Rattle.aml_laws.proofs.OperatorsComputed.{slot_is_target, target_is}

-- a value that is no reference
pub data IsPlain : Value → Type 0 where
  nothing_yet : IsPlain value.Uninitialized
  number : (n : ℕ) → IsPlain (value.Integer n)
  text : (o : ℕ) → IsPlain (value.String o)
  bytes : (o : ℕ) → IsPlain (value.Buffer o)
  list : (o : ℕ) → IsPlain (value.Package o)

module _ {S : Type 0} (w : State S) where
  plain_followed : (v : Value) → IsPlain v → value_followed (followed most_references) v w ≡ (Ok (referent.Value v), w)
  unfolding give
  plain_followed _ nothing_yet = refl
  plain_followed _ (number n) = refl
  plain_followed _ (text o) = refl
  plain_followed _ (bytes o) = refl
  plain_followed _ (list o) = refl

  slot_refers : (s : Slot) (v : Value) → SlotHolds w s v → IsPlain v → slot_referent s w ≡ (Ok (referent.Value v), w)
  unfolding slot_referent own_slot latest_frame slot_held go_on ◌>>=◌
  slot_refers s v h plain = rw (h.latest, h.stands, h.holds) (plain_followed v plain)

  holder_refers : (t : StoreTarget) (v : Value) → TargetHolds w t v → IsPlain v → target_referent t w ≡ (Ok (referent.Value v), w)
  unfolding name_referent declared_referent go_on ◌>>=◌
  holder_refers _ _ (in_slot s v h) plain = slot_refers s v h plain
  holder_refers _ _ (in_name path n v at) plain = rw at (plain_followed v plain)

  empty_refers : (s : Slot) → SlotIsEmpty w s → slot_referent s w ≡ (Ok (referent.Value value.Uninitialized), w)
  unfolding slot_referent own_slot latest_frame slot_held go_on ◌>>=◌
  empty_refers s h = rw (h.latest, h.stands, h.empty) (plain_followed value.Uninitialized nothing_yet)

  kind_by : (n : NamedObject) (k : ℕ) → IsNamedKind n k → (o : ObjectType) × (referent_followed (followed most_references) (referent_of n) w ≡ (Ok (referent.Object o), w)) × (type_number o ≡ k)
  unfolding give
  kind_by _ _ scope = (types.Uninitialized, refl, refl)
  kind_by _ _ (field_unit u) = (types.FieldUnit, refl, refl)
  kind_by _ _ device = (types.Device, refl, refl)
  kind_by _ _ (event c) = (types.Event, refl, refl)
  kind_by _ _ (method m) = (types.Method, refl, refl)
  kind_by _ _ (mutex c) = (types.Mutex, refl, refl)
  kind_by _ _ (region r) = (types.OperationRegion, refl, refl)
  kind_by _ _ power_resource = (types.PowerResource, refl, refl)
  kind_by _ _ processor = (types.Processor, refl, refl)
  kind_by _ _ thermal_zone = (types.ThermalZone, refl, refl)
  kind_by _ _ (buffer_field b) = (types.BufferField, refl, refl)

  module _ (path : List Seg) (e : Entry) (at : get w.names.map path ≡ Some e) where
    there : (o : ObjectType) → referent_followed (followed most_references) (referent_of e.object) w ≡ (Ok (referent.Object o), w) → name_referent path w ≡ (Ok (referent.Object o), w)
    unfolding name_referent declared_referent go_on ◌>>=◌
    there o ends = rw at ends

    kind_refers : (k : ℕ) → IsNamedKind e.object k → (o : ObjectType) × (name_referent path w ≡ (Ok (referent.Object o), w)) × (type_number o ≡ k)
    kind_refers k is = let b = kind_by e.object k is in (b.0, there b.0 b.1, b.2)

module _ {S : Type 0} (accesses : Accesses S) (at : List Seg) (depth : ℕ) (w : State S) (steps : ℕ) (op : Opcode) where
  target_asked : (p : Part) (t : StoreTarget) → NamesTarget at w p t → referent_of_target accesses (meaning accesses) at depth (counting op p) (w, steps) ≡ lift (target_referent t) (w, steps)
  unfolding referent_of_target go_on ◌>>=◌
  target_asked p t names = rw (target_is accesses at depth (counting op p) 0 w steps p t names refl) refl

  pub part_asked : (p : Part) (t : StoreTarget) → NamesTarget at w p t → referent_at accesses (meaning accesses) at depth (counting op p) (w, steps) ≡ lift (target_referent t) (w, steps)
  part_asked _ _ nothing = target_asked null targets.Nowhere nothing
  part_asked _ _ debug = target_asked (inner (alone opcodes.Debug)) targets.Nowhere debug
  part_asked _ _ (slot code s names) = rw (slot_is_target code s names) (target_asked (inner (alone code)) (targets.Slot s) (slot code s names))
  part_asked _ _ (named n path e finds) = target_asked (name n) (targets.Name path) (named n path e finds)

-- ---- what is told

module _ {S : Type 0} (accesses : Accesses S) (at : List Seg) (depth : ℕ) (p : Part) (w : State S) (steps : ℕ) (t : StoreTarget) (names : NamesTarget at w p t) where
  sized : (v : Value) (n : ℕ) → target_referent t w ≡ (Ok (referent.Value v), w) → size_in (referent.Value v) w ≡ (Ok (value.Integer n), w) → rule accesses (meaning accesses) (task at depth (size_of p)) (w, steps) ≡ (Ok (flow.Value (value.Integer n)), (w, steps))
  unfolding rule size_rule lift give go_on ◌>>=◌
  sized v n refers is = rw (part_asked accesses at depth w steps opcodes.SizeOf p t names, refers, is) refl

  typed_value : (v : Value) → target_referent t w ≡ (Ok (referent.Value v), w) → rule accesses (meaning accesses) (task at depth (object_type p)) (w, steps) ≡ (Ok (flow.Value (value.Integer (type_number (type_of_value v)))), (w, steps))
  unfolding rule type_rule lift give go_on ◌>>=◌
  typed_value v refers = rw (part_asked accesses at depth w steps opcodes.ObjectType p t names, refers) refl

  typed_object : (o : ObjectType) → target_referent t w ≡ (Ok (referent.Object o), w) → rule accesses (meaning accesses) (task at depth (object_type p)) (w, steps) ≡ (Ok (flow.Value (value.Integer (type_number o))), (w, steps))
  unfolding rule type_rule lift give go_on ◌>>=◌
  typed_object o refers = rw (part_asked accesses at depth w steps opcodes.ObjectType p t names, refers) refl

  size_gives : (v : Value) (n : ℕ) → target_referent t w ≡ (Ok (referent.Value v), w) → size_in (referent.Value v) w ≡ (Ok (value.Integer n), w) → Gives accesses at depth (size_of p) (w, suc steps) n (w, steps)
  size_gives v n refers is = (term_begins accesses (task at depth (size_of p))).paid w steps ∙ sized v n refers is

  value_gives : (v : Value) → target_referent t w ≡ (Ok (referent.Value v), w) → Gives accesses at depth (object_type p) (w, suc steps) (type_number (type_of_value v)) (w, steps)
  value_gives v refers = (term_begins accesses (task at depth (object_type p))).paid w steps ∙ typed_value v refers

  object_gives : (o : ObjectType) → target_referent t w ≡ (Ok (referent.Object o), w) → Gives accesses at depth (object_type p) (w, suc steps) (type_number o) (w, steps)
  object_gives o refers = (term_begins accesses (task at depth (object_type p))).paid w steps ∙ typed_object o refers

module _ {S : Type 0} (accesses : Accesses S) (at : List Seg) (depth : ℕ) (p : Part) (w : State S) (steps : ℕ) where
  pub size_told : (t : StoreTarget) (v : Value) (n : ℕ) (f : ℕ → Reference) → NamesTarget at w p t → TargetHolds w t v → HasParts w v n f → Gives accesses at depth (size_of p) (w, suc steps) n (w, steps)
  unfolding size_in
  size_told t _ _ _ names holds (elements o es is) = size_gives accesses at depth p w steps t names (value.Package o) (length es) (holder_refers w t (value.Package o) holds (list o)) (rw is refl)
  size_told t _ _ _ names holds (bytes_of_string o bs is) = size_gives accesses at depth p w steps t names (value.String o) (length bs) (holder_refers w t (value.String o) holds (text o)) (rw is refl)
  size_told t _ _ _ names holds (bytes_of_buffer o bs is) = size_gives accesses at depth p w steps t names (value.Buffer o) (length bs) (holder_refers w t (value.Buffer o) holds (bytes o)) (rw is refl)

  pub type_told : (t : StoreTarget) (v : Value) (k : ℕ) → NamesTarget at w p t → TargetHolds w t v → IsNumbered v k → Gives accesses at depth (object_type p) (w, suc steps) k (w, steps)
  type_told t _ _ names holds (an_integer n) = value_gives accesses at depth p w steps t names (value.Integer n) (holder_refers w t (value.Integer n) holds (number n))
  type_told t _ _ names holds (a_string o) = value_gives accesses at depth p w steps t names (value.String o) (holder_refers w t (value.String o) holds (text o))
  type_told t _ _ names holds (a_buffer o) = value_gives accesses at depth p w steps t names (value.Buffer o) (holder_refers w t (value.Buffer o) holds (bytes o))
  type_told t _ _ names holds (a_package o) = value_gives accesses at depth p w steps t names (value.Package o) (holder_refers w t (value.Package o) holds (list o))

  -- names that hold no value, slots that are empty, and Debug
  pub kind_told : (path : List Seg) (e : Entry) (k : ℕ) → NamesTarget at w p (targets.Name path) → get w.names.map path ≡ Some e → IsNamedKind e.object k → Gives accesses at depth (object_type p) (w, suc steps) k (w, steps)
  kind_told path e k names there is = let b = kind_refers w path e there k is in object_gives accesses at depth p w steps (targets.Name path) names b.0 b.1 ∙ ap (λ (n : ℕ). (Ok (flow.Value (value.Integer n)), (w, steps))) b.2

  pub empty_told : (s : Slot) → NamesTarget at w p (targets.Slot s) → SlotIsEmpty w s → Gives accesses at depth (object_type p) (w, suc steps) 0 (w, steps)
  empty_told s names h = value_gives accesses at depth p w steps (targets.Slot s) names value.Uninitialized (empty_refers w s h)

pub debug_told : {S : Type 0} (accesses : Accesses S) (at : List Seg) (depth : ℕ) (w : State S) (steps : ℕ) → Gives accesses at depth (object_type (inner (alone opcodes.Debug))) (w, suc steps) 16 (w, steps)
unfolding give
debug_told accesses at depth w steps = object_gives accesses at depth (inner (alone opcodes.Debug)) w steps targets.Nowhere debug types.DebugObject refl

-- ---- what has no size

module _ {S : Type 0} (accesses : Accesses S) (at : List Seg) (depth : ℕ) (p : Part) (w : State S) (steps : ℕ) (t : StoreTarget) (names : NamesTarget at w p t) (e : Refusal) where
  unsized : (r : Referent) → ((s : State S × ℕ) → referent_read accesses (meaning accesses) depth r s ≡ (Ok r, s)) → target_referent t w ≡ (Ok r, w) → size_in r w ≡ (Err e, w) → rule accesses (meaning accesses) (task at depth (size_of p)) (w, steps) ≡ (Err e, (w, steps))
  unfolding rule size_rule lift give go_on ◌>>=◌
  unsized r reads refers is = rw (part_asked accesses at depth w steps opcodes.SizeOf p t names, refers, reads (w, steps), is) refl

  size_refused : (r : Referent) → ((s : State S × ℕ) → referent_read accesses (meaning accesses) depth r s ≡ (Ok r, s)) → target_referent t w ≡ (Ok r, w) → size_in r w ≡ (Err e, w) → IsRefused accesses at depth (size_of p) (w, suc steps) e (w, steps)
  size_refused r reads refers is = (term_begins accesses (task at depth (size_of p))).paid w steps ∙ unsized r reads refers is

  value_unsized : (v : Value) → target_referent t w ≡ (Ok (referent.Value v), w) → size_in (referent.Value v) w ≡ (Err e, w) → IsRefused accesses at depth (size_of p) (w, suc steps) e (w, steps)
  unfolding give
  value_unsized v refers is = size_refused (referent.Value v) (λ s. refl) refers is

  object_unsized : (o : ObjectType) → target_referent t w ≡ (Ok (referent.Object o), w) → size_in (referent.Object o) w ≡ (Err e, w) → IsRefused accesses at depth (size_of p) (w, suc steps) e (w, steps)
  unfolding give
  object_unsized o refers is = size_refused (referent.Object o) (λ s. refl) refers is

module _ {S : Type 0} (accesses : Accesses S) (at : List Seg) (depth : ℕ) (p : Part) (w : State S) (steps : ℕ) where
  pub integer_unsized : (t : StoreTarget) (n : ℕ) → NamesTarget at w p t → TargetHolds w t (value.Integer n) → IsRefused accesses at depth (size_of p) (w, suc steps) (refusal.Value WrongType) (w, steps)
  unfolding size_in
  integer_unsized t n names holds = value_unsized accesses at depth p w steps t names (refusal.Value WrongType) (value.Integer n) (holder_refers w t (value.Integer n) holds (number n)) refl

  pub nothing_unsized : (s : Slot) → NamesTarget at w p (targets.Slot s) → SlotIsEmpty w s → IsRefused accesses at depth (size_of p) (w, suc steps) (refusal.Evaluation NoValue) (w, steps)
  unfolding size_in
  nothing_unsized s names h = value_unsized accesses at depth p w steps (targets.Slot s) names (refusal.Evaluation NoValue) value.Uninitialized (empty_refers w s h) refl

  pub no_value_unsized : (t : StoreTarget) → NamesTarget at w p t → TargetHolds w t value.Uninitialized → IsRefused accesses at depth (size_of p) (w, suc steps) (refusal.Evaluation NoValue) (w, steps)
  unfolding size_in
  no_value_unsized t names holds = value_unsized accesses at depth p w steps t names (refusal.Evaluation NoValue) value.Uninitialized (holder_refers w t value.Uninitialized holds nothing_yet) refl

  pub kind_unsized : (path : List Seg) (e : Entry) (k : ℕ) → NamesTarget at w p (targets.Name path) → get w.names.map path ≡ Some e → IsNamedKind e.object k → IsRefused accesses at depth (size_of p) (w, suc steps) (refusal.Value WrongType) (w, steps)
  unfolding size_in
  kind_unsized path e k names there is = let b = kind_refers w path e there k is in object_unsized accesses at depth p w steps (targets.Name path) names (refusal.Value WrongType) b.0 b.1 refl

pub debug_unsized : {S : Type 0} (accesses : Accesses S) (at : List Seg) (depth : ℕ) (w : State S) (steps : ℕ) → IsRefused accesses at depth (size_of (inner (alone opcodes.Debug))) (w, suc steps) (refusal.Value WrongType) (w, steps)
unfolding give size_in
debug_unsized accesses at depth w steps = object_unsized accesses at depth (inner (alone opcodes.Debug)) w steps targets.Nowhere debug (refusal.Value WrongType) types.DebugObject refl refl
