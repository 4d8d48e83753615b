-- What SizeOf and ObjectType tell of fields to which their operands lead, and of what has no size.
use Rattle.std.specs.Prelude.{◌≡◌, ◌<◌, ◌≤◌, ◌∷◌, ℕ, suc, nat_lt, true, false, List, length, take, Some, Ok, Err, refl}
use Rattle.std.proofs.Common.{arith, ap, ◌∙◌}
use Rattle.std.proofs.lemmas.Bool.Decides.{nat_tests}
use Rattle.std.specs.FinMap.{get}
use Rattle.ar_space.specs.Accesses.{Accesses}
use Rattle.ar_space.specs.Change.{give, settle, go_on, ◌>>=◌}
use Rattle.ar_space.specs.declared.refusal.Refusal.{Refusal}
use Rattle.ar_space.specs.declared.refusal.Refusal.TheVariants as refusal
use Rattle.ar_space.specs.declared.refusal.EvaluationFault.TheVariants.{NoValue}
use Rattle.ar_space.specs.declared.refusal.ValueFault.TheVariants.{WrongType}
use Rattle.aml_path.specs.declared.segment.Seg.{Seg}
use Rattle.aml_grammar.specs.declared.opcode.Opcode.{Opcode}
use Rattle.aml_grammar.specs.declared.opcode.Opcode.TheVariants as opcodes
use Rattle.aml_grammar.specs.Tree.{Tree, Part, inner}
use Rattle.aml_objects.specs.Fields.{bits_of_field}
use Rattle.aml_objects.specs.declared.entry.Entry.{Entry}
use Rattle.aml_objects.specs.declared.entry.Field.{Field}
use Rattle.aml_objects.specs.declared.entry.NamedObject.{NamedObject}
use Rattle.aml_objects.specs.declared.value.Slot.{Slot}
use Rattle.aml_objects.specs.declared.value.Value.{Value}
use Rattle.aml_objects.specs.declared.value.Value.TheVariants as value
use Rattle.aml_convert.specs.Integers.{bits_of, bytes_of}
use Rattle.aml_world.specs.declared.values.object_type.ObjectType.{ObjectType}
use Rattle.aml_world.specs.declared.values.object_type.ObjectType.TheVariants as types
use Rattle.aml_world.specs.declared.values.object_type.Referent.{Referent}
use Rattle.aml_world.specs.declared.values.object_type.Referent.TheVariants as referent
use Rattle.aml_world.specs.declared.values.store_target.StoreTarget.{StoreTarget}
use Rattle.aml_world.specs.declared.values.store_target.StoreTarget.TheVariants as targets
use Rattle.aml_world.specs.fields.Fields.{field_referent}
use Rattle.aml_world.specs.values.Operations.{size_in, type_of_referent, type_number}
use Rattle.aml_world.specs.fields.Regions.{referent_of_bits}
use Rattle.aml_world.specs.state.Run.{lift}
use Rattle.aml_world.specs.state.State.{State}
use Rattle.aml_world.specs.values.StoreTargets.{latest_frame, slot_held, own_slot, referent_of, slot_referent, declared_referent, name_referent, target_referent}
use Rattle.aml_meaning.specs.declared.flow.Flow.TheVariants as flow
use Rattle.aml_meaning.specs.Evaluation.{rule}
use Rattle.aml_meaning.specs.FieldCalls.{referent_read}
use Rattle.aml_meaning.specs.Meaning.{meaning}
use Rattle.aml_meaning.specs.OperatorTerms.{referent_of_value, referent_at, size_rule, type_rule}
use Rattle.aml_meaning.specs.Tasks.{task, operand_value}
use Rattle.aml_laws.specs.FieldNames.{IsField, bits_read_at}
use Rattle.aml_laws.specs.FieldsLedTo.{AsksOf, of_term, of_holder, of_name, of_empty_slot, of_debug, HasNoSize, a_type, an_integer, no_value}
use Rattle.aml_laws.specs.IntegersOfValues.{lowest_first}
use Rattle.aml_laws.specs.Limits.{HasType, of_scope, of_device, of_processor, of_power_resource, of_thermal_zone, of_method, of_region, of_field_unit, of_buffer_field, of_mutex, of_event}
use Rattle.aml_laws.specs.OperatorTerms.{counting, NamesTarget, TargetHolds, in_slot, in_name, SlotHolds, SlotIsEmpty, GivesValue, Gives, IsRefused}
use Rattle.aml_laws.specs.ReferringTerms.{size_of, object_type}
use Rattle.aml_laws.specs.TargetsNamed.{IsReferring, of_refof, of_derefof, of_index, EndsAt}
use Rattle.aml_laws.proofs.FieldNamesUsed.{bits_are}
use Rattle.aml_laws.proofs.IntegersOfValues.{little_is}
use Rattle.aml_laws.proofs.ObjectsAsked.{part_asked}
use Rattle.aml_laws.proofs.TreesCost.{term_begins}
use Rattle.aml_laws.proofs.ValuesLedTo.{leads_so}

-- ---- what operands lead to

module _ {S : Type 0} (w : State S) where
  slot_leads : (s : Slot) (v : Value) (x : Referent) → SlotHolds w s v → EndsAt w v x → slot_referent s w ≡ (Ok x, w)
  unfolding slot_referent own_slot latest_frame slot_held go_on ◌>>=◌
  slot_leads s v x h leads = rw (h.latest, h.stands, h.holds) (leads_so w v x leads)

  holder_leads : (t : StoreTarget) (v : Value) (x : Referent) → TargetHolds w t v → EndsAt w v x → target_referent t w ≡ (Ok x, w)
  unfolding name_referent declared_referent go_on ◌>>=◌
  holder_leads _ _ x (in_slot s v h) leads = slot_leads s v x h leads
  holder_leads _ _ x (in_name path n v at) leads = rw at (leads_so w v x leads)

  typed_as : (o : NamedObject) (t : ObjectType) → HasType o t → referent_of o ≡ referent.Object t
  typed_as _ _ of_scope = refl
  typed_as _ _ of_device = refl
  typed_as _ _ of_processor = refl
  typed_as _ _ of_power_resource = refl
  typed_as _ _ of_thermal_zone = refl
  typed_as _ _ (of_method m) = refl
  typed_as _ _ (of_region r) = refl
  typed_as _ _ (of_field_unit u) = refl
  typed_as _ _ (of_buffer_field b) = refl
  typed_as _ _ (of_mutex n) = refl
  typed_as _ _ (of_event n) = refl

  name_is : (path : List Seg) (e : Entry) (t : ObjectType) → get w.names.map path ≡ Some e → HasType e.object t → name_referent path w ≡ (Ok (referent.Object t), w)
  unfolding name_referent declared_referent give go_on ◌>>=◌
  name_is path e t at typed = rw (at, typed_as e.object t typed) refl

  slot_is_empty : (s : Slot) → SlotIsEmpty w s → slot_referent s w ≡ (Ok (referent.Value value.Uninitialized), w)
  unfolding slot_referent own_slot latest_frame slot_held give go_on ◌>>=◌
  slot_is_empty s h = rw (h.latest, h.stands, h.empty) refl

  debug_is : target_referent targets.Nowhere w ≡ (Ok (referent.Object types.DebugObject), w)
  unfolding give
  debug_is = refl

module _ {S : Type 0} (accesses : Accesses S) (scope : List Seg) (depth : ℕ) (op : Opcode) where
  value_is_asked : (u : Tree) → IsReferring u → referent_at accesses (meaning accesses) scope depth (counting op (inner u)) ≡ referent_of_value accesses (meaning accesses) scope depth u
  value_is_asked _ (of_refof ps) = refl
  value_is_asked _ (of_derefof ps) = refl
  value_is_asked _ (of_index ps) = refl

  value_leads : (u : Tree) (v : Value) (x : Referent) (s after : State S × ℕ) → GivesValue accesses scope depth u s v after → EndsAt after.0 v x → referent_of_value accesses (meaning accesses) scope depth u s ≡ (Ok x, after)
  unfolding referent_of_value operand_value settle lift go_on ◌>>=◌
  value_leads u v x s after gives leads = rw (gives, leads_so after.0 v x leads) refl

  module _ (w : State S) (steps : ℕ) where
    target_leads : (p : Part) (t : StoreTarget) (x : Referent) → NamesTarget scope w p t → target_referent t w ≡ (Ok x, w) → referent_at accesses (meaning accesses) scope depth (counting op p) (w, steps) ≡ (Ok x, (w, steps))
    unfolding lift
    target_leads p t x names leads = rw (part_asked accesses scope depth w steps op p t names, leads) refl

    operand_leads : (p : Part) (x : Referent) (after : State S × ℕ) → AsksOf accesses scope depth (w, steps) p x after → referent_at accesses (meaning accesses) scope depth (counting op p) (w, steps) ≡ (Ok x, after)
    operand_leads _ _ _ (of_term u v x after refers gives leads) = ap (λ m. m (w, steps)) (value_is_asked u refers) ∙ value_leads u v x (w, steps) after gives leads
    operand_leads _ _ _ (of_holder p t v x names holds leads) = target_leads p t x names (holder_leads w t v x holds leads)
    operand_leads _ _ _ (of_name p path e t names at typed) = target_leads p (targets.Name path) (referent.Object t) names (name_is w path e t at typed)
    operand_leads _ _ _ (of_empty_slot p slot names h) = target_leads p (targets.Slot slot) (referent.Value value.Uninitialized) names (slot_is_empty w slot h)
    operand_leads _ _ _ (of_debug p names) = target_leads p targets.Nowhere (referent.Object types.DebugObject) names (debug_is w)

-- ---- what is told of it

module _ {S : Type 0} (accesses : Accesses S) (scope : List Seg) (depth : ℕ) (p : Part) (w : State S) (steps : ℕ) (x : Referent) (between : State S × ℕ) (asks : AsksOf accesses scope depth (w, steps) p x between) where
  module _ (y : Referent) (after : State S × ℕ) (read : referent_read accesses (meaning accesses) depth x between ≡ (Ok y, after)) where
    type_so : rule accesses (meaning accesses) (task scope depth (object_type p)) (w, steps) ≡ (Ok (flow.Value (value.Integer (type_number (type_of_referent y)))), after)
    unfolding rule type_rule give go_on ◌>>=◌
    type_so = rw (operand_leads accesses scope depth opcodes.ObjectType w steps p x between asks, read) refl

    size_so : (n : ℕ) → size_in y after.0 ≡ (Ok (value.Integer n), after.0) → rule accesses (meaning accesses) (task scope depth (size_of p)) (w, steps) ≡ (Ok (flow.Value (value.Integer n)), after)
    unfolding rule size_rule lift give go_on ◌>>=◌
    size_so n is = rw (operand_leads accesses scope depth opcodes.SizeOf w steps p x between asks, read, is) refl

    size_not : (e : Refusal) → size_in y after.0 ≡ (Err e, after.0) → rule accesses (meaning accesses) (task scope depth (size_of p)) (w, steps) ≡ (Err e, after)
    unfolding rule size_rule lift give go_on ◌>>=◌
    size_not e is = rw (operand_leads accesses scope depth opcodes.SizeOf w steps p x between asks, read, is) refl

    pub type_gives : Gives accesses scope depth (object_type p) (w, suc steps) (type_number (type_of_referent y)) after
    type_gives = (term_begins accesses (task scope depth (object_type p))).paid w steps ∙ type_so

    pub size_gives : (n : ℕ) → size_in y after.0 ≡ (Ok (value.Integer n), after.0) → Gives accesses scope depth (size_of p) (w, suc steps) n after
    size_gives n is = (term_begins accesses (task scope depth (size_of p))).paid w steps ∙ size_so n is

    size_refuses : (e : Refusal) → size_in y after.0 ≡ (Err e, after.0) → IsRefused accesses scope depth (size_of p) (w, suc steps) e after
    size_refuses e is = (term_begins accesses (task scope depth (size_of p))).paid w steps ∙ size_not e is

  module _ (e : Refusal) (after : State S × ℕ) (stops : referent_read accesses (meaning accesses) depth x between ≡ (Err e, after)) where
    type_stops : rule accesses (meaning accesses) (task scope depth (object_type p)) (w, steps) ≡ (Err e, after)
    unfolding rule type_rule go_on ◌>>=◌
    type_stops = rw (operand_leads accesses scope depth opcodes.ObjectType w steps p x between asks, stops) refl

    size_stops : rule accesses (meaning accesses) (task scope depth (size_of p)) (w, steps) ≡ (Err e, after)
    unfolding rule size_rule go_on ◌>>=◌
    size_stops = rw (operand_leads accesses scope depth opcodes.SizeOf w steps p x between asks, stops) refl

    none_told : IsRefused accesses scope depth (object_type p) (w, suc steps) e after × IsRefused accesses scope depth (size_of p) (w, suc steps) e after
    none_told = ((term_begins accesses (task scope depth (object_type p))).paid w steps ∙ type_stops, (term_begins accesses (task scope depth (size_of p))).paid w steps ∙ size_stops)

module _ {S : Type 0} (accesses : Accesses S) (scope : List Seg) (depth : ℕ) (p : Part) (w : State S) (steps : ℕ) (after : State S × ℕ) where
  pub unit_told : AsksOf accesses scope depth (w, steps) p (referent.Object types.FieldUnit) after → Gives accesses scope depth (object_type p) (w, suc steps) 5 after
  unfolding give
  unit_told asks = type_gives accesses scope depth p w steps (referent.Object types.FieldUnit) after asks (referent.Object types.FieldUnit) after refl

  pub buffer_field_told : AsksOf accesses scope depth (w, steps) p (referent.Object types.BufferField) after → Gives accesses scope depth (object_type p) (w, suc steps) 14 after
  unfolding give
  buffer_field_told asks = type_gives accesses scope depth p w steps (referent.Object types.BufferField) after asks (referent.Object types.BufferField) after refl

  pub no_size_told : (x : Referent) (e : Refusal) → AsksOf accesses scope depth (w, steps) p x after → HasNoSize x e → IsRefused accesses scope depth (size_of p) (w, suc steps) e after
  unfolding size_in give
  no_size_told _ _ asks (a_type t) = size_refuses accesses scope depth p w steps (referent.Object t) after asks (referent.Object t) after refl (refusal.Value WrongType) refl
  no_size_told _ _ asks (an_integer n) = size_refuses accesses scope depth p w steps (referent.Value (value.Integer n)) after asks (referent.Value (value.Integer n)) after refl (refusal.Value WrongType) refl
  no_size_told _ _ asks no_value = size_refuses accesses scope depth p w steps (referent.Value value.Uninitialized) after asks (referent.Value value.Uninitialized) after refl (refusal.Evaluation NoValue) refl

-- ---- fields that elements of packages name

module _ {S : Type 0} (w : State S) (bits : ℕ) where
  integer_told : (b : ℕ) (bytes : List ℕ) → bits ≤ bits_of w.width → referent_of_bits bits (b ∷ bytes) w ≡ (Ok (referent.Value (value.Integer (lowest_first (take (bytes_of w.width) (b ∷ bytes))))), w)
  unfolding referent_of_bits
  integer_told b bytes few = let short : nat_lt (bits_of w.width) bits ≡ false = grind (arith, nat_tests) in rw short (ap (λ (n : ℕ). (Ok (referent.Value (value.Integer n)), w)) (little_is (bytes_of w.width) (b ∷ bytes)))

  bytes_told : (bytes : List ℕ) → bits_of w.width < bits → referent_of_bits bits bytes w ≡ (Ok (referent.Bytes (length bytes)), w)
  unfolding referent_of_bits
  bytes_told bytes many = let long : nat_lt (bits_of w.width) bits ≡ true = grind (arith, nat_tests) in rw long refl

module _ {S : Type 0} (accesses : Accesses S) (depth : ℕ) (f : Field) (s end : State S × ℕ) where
  field_led_to : (bytes : List ℕ) (x : Referent) → bits_read_at accesses depth f s ≡ (Ok bytes, end) → referent_of_bits (bits_of_field f) bytes end.0 ≡ (Ok x, end.0) → referent_read accesses (meaning accesses) depth (referent.Field f) s ≡ (Ok x, end)
  unfolding field_referent lift go_on ◌>>=◌
  field_led_to bytes x is makes = rw (is, makes) refl

  field_not_read : (e : Refusal) → bits_read_at accesses depth f s ≡ (Err e, end) → referent_read accesses (meaning accesses) depth (referent.Field f) s ≡ (Err e, end)
  unfolding field_referent go_on ◌>>=◌
  field_not_read e is = rw is refl

module _ {S : Type 0} (accesses : Accesses S) (scope : List Seg) (depth : ℕ) (p : Part) (w : State S) (steps : ℕ) (f : Field) (between : State S × ℕ) (asks : AsksOf accesses scope depth (w, steps) p (referent.Field f) between) where
  module _ (o : NamedObject) (bits : ℕ) (is : IsField o f bits) where
    pub short_field_told : (b : ℕ) (bytes : List ℕ) (after : State S × ℕ) → bits_read_at accesses depth f between ≡ (Ok (b ∷ bytes), after) → bits ≤ bits_of after.0.width
        → Gives accesses scope depth (object_type p) (w, suc steps) 1 after × IsRefused accesses scope depth (size_of p) (w, suc steps) (refusal.Value WrongType) after
    unfolding size_in
    short_field_told b bytes after read few =
        let x : Referent = referent.Value (value.Integer (lowest_first (take (bytes_of after.0.width) (b ∷ bytes)))) in
        let led : referent_read accesses (meaning accesses) depth (referent.Field f) between ≡ (Ok x, after) = field_led_to accesses depth f between after (b ∷ bytes) x read (rw (bits_are o f bits is) (integer_told after.0 bits b bytes few)) in (
          type_gives accesses scope depth p w steps (referent.Field f) between asks x after led,
          size_refuses accesses scope depth p w steps (referent.Field f) between asks x after led (refusal.Value WrongType) refl,
        )

    pub long_field_told : (bytes : List ℕ) (after : State S × ℕ) → bits_read_at accesses depth f between ≡ (Ok bytes, after) → bits_of after.0.width < bits
        → Gives accesses scope depth (object_type p) (w, suc steps) 3 after × Gives accesses scope depth (size_of p) (w, suc steps) (length bytes) after
    unfolding size_in
    long_field_told bytes after read many =
        let led : referent_read accesses (meaning accesses) depth (referent.Field f) between ≡ (Ok (referent.Bytes (length bytes)), after) = field_led_to accesses depth f between after bytes (referent.Bytes (length bytes)) read (rw (bits_are o f bits is) (bytes_told after.0 bits bytes many)) in (
          type_gives accesses scope depth p w steps (referent.Field f) between asks (referent.Bytes (length bytes)) after led,
          size_gives accesses scope depth p w steps (referent.Field f) between asks (referent.Bytes (length bytes)) after led (length bytes) refl,
        )

  pub unread_field_told : (e : Refusal) (after : State S × ℕ) → bits_read_at accesses depth f between ≡ (Err e, after) → IsRefused accesses scope depth (object_type p) (w, suc steps) e after × IsRefused accesses scope depth (size_of p) (w, suc steps) e after
  unread_field_told e after stops = none_told accesses scope depth p w steps (referent.Field f) between asks e after (field_not_read accesses depth f between after e stops)
