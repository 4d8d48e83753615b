-- Where what a conversion formed is stored besides names that hold data: fields, parts of objects, and what references refer to.
use Rattle.std.specs.Prelude.{◌≡◌, ℕ, suc, List, [], ◌∷◌, ◌++◌, length, slice_get, Option, Some, Ok, Err, refl}
use Rattle.std.proofs.Common.{ap, sym, subst, append-nil, ◌∙◌}
use Rattle.std.specs.FinMap.{get}
use Rattle.ar_space.specs.Accesses.{Accesses}
use Rattle.ar_space.specs.Change.{give, stop, settle, go_on, ◌>>=◌}
use Rattle.ar_space.specs.declared.refusal.Refusal.TheVariants as refusal
use Rattle.ar_space.specs.declared.refusal.ValueFault.TheVariants.{WrongType}
use Rattle.aml_path.specs.declared.segment.Seg.{Seg}
use Rattle.aml_path.specs.Paths.{Name}
use Rattle.aml_grammar.specs.declared.opcode.Opcode.{Opcode}
use Rattle.aml_grammar.specs.declared.opcode.Opcode.TheVariants as opcodes
use Rattle.aml_grammar.specs.Tree.{Tree, name}
use Rattle.aml_objects.specs.Contents.{Integer, String, content_in}
use Rattle.aml_objects.specs.declared.entry.Entry.{Entry}
use Rattle.aml_objects.specs.declared.entry.Field.{Field}
use Rattle.aml_objects.specs.declared.entry.NamedObject.{NamedObject}
use Rattle.aml_objects.specs.declared.object.Object.{Object}
use Rattle.aml_objects.specs.declared.object.Object.TheVariants as object
use Rattle.aml_objects.specs.declared.value.Reference.{Reference}
use Rattle.aml_objects.specs.declared.value.Reference.TheVariants as reference
use Rattle.aml_objects.specs.declared.value.Slot.{Slot}
use Rattle.aml_objects.specs.declared.value.Value.{Value}
use Rattle.aml_objects.specs.declared.value.Value.TheVariants as value
use Rattle.aml_convert.specs.Conversions.{to_buffer_of}
use Rattle.aml_convert.specs.Decimals.{decoded_decimal}
use Rattle.aml_convert.specs.Strings.{hexadecimal_string_of}
use Rattle.aml_namespace.specs.Numbering.{Numbered}
use Rattle.aml_world.specs.declared.state.profile.Profile.TheVariants as profiles
use Rattle.aml_world.specs.declared.values.store_target.Holding.TheVariants as holding
use Rattle.aml_world.specs.declared.values.store_target.StoreTarget.TheVariants as targets
use Rattle.aml_world.specs.declared.values.store_target.Stored.TheVariants as store
use Rattle.aml_world.specs.declared.values.operation_kind.Conversion.{Conversion}
use Rattle.aml_world.specs.declared.values.operation_kind.Conversion.TheVariants as conversions
use Rattle.aml_world.specs.state.State.{State}
use Rattle.aml_world.specs.state.Run.{lift}
use Rattle.aml_world.specs.values.StoreTargets.{holding_of, holding_in, held_at, reference_of}
use Rattle.aml_world.specs.values.Stores.{store_in_name, stored}
use Rattle.aml_world.specs.values.FormedStores.{formed_over, formed_in_name, formed_in_declared, formed_to}
use Rattle.aml_world.specs.values.WideOperations.{converted}
use Rattle.aml_meaning.specs.declared.flow.Flow.TheVariants as flow
use Rattle.aml_meaning.specs.declared.term_kind.TermKind.TheVariants as kinds
use Rattle.aml_meaning.specs.declared.term_kind.WideKind.TheVariants as wide
use Rattle.aml_meaning.specs.Terms.{kind_of}
use Rattle.aml_meaning.specs.Tasks.{task, operand_value, value_at}
use Rattle.aml_meaning.specs.FieldCalls.{field_written}
use Rattle.aml_meaning.specs.WideTerms.{formed_at, convert_rule}
use Rattle.aml_meaning.specs.Meaning.{meaning}
use Rattle.aml_laws.specs.OperatorTerms.{one_to, named, GivesValue, Gives, OneInteger}
use Rattle.aml_laws.specs.FieldNames.{IsField, NamesField, bits_written_at}
use Rattle.aml_laws.specs.JoinedTerms.{with_object, Fits}
use Rattle.aml_laws.specs.StoredNames.{data_entry}
use Rattle.aml_laws.specs.StoredParts.{HoldsNothing, scope, device, processor, power_resource, thermal_zone, method, region, mutex, event}
use Rattle.aml_laws.specs.StoreTerms.{IsNoString}
use Rattle.aml_laws.proofs.ConversionTermsDone.{convert_ruled, by_new_hexadecimal, hexadecimal_formed, decoded_formed}
use Rattle.aml_laws.proofs.FieldNamesUsed.{holding_is, there, written_so}
use Rattle.aml_laws.proofs.ObjectsMade.{stands_there}
use Rattle.aml_laws.proofs.OperatorsComputed.{target_is}
use Rattle.aml_laws.proofs.ReferencesToNames.{name_found, declaration_then}
use Rattle.aml_laws.proofs.TreesCost.{term_begins}
use Rattle.aml_laws.proofs.WideAsked.{asked_in_wide}

-- ---- names

holds_none : (o : NamedObject) → HoldsNothing o → holding_of o ≡ holding.Nothing
holds_none _ scope = refl
holds_none _ device = refl
holds_none _ processor = refl
holds_none _ power_resource = refl
holds_none _ thermal_zone = refl
holds_none _ (method m) = refl
holds_none _ (region r) = refl
holds_none _ (mutex c) = refl
holds_none _ (event c) = refl

module _ {S : Type 0} (w : State S) (path : List Seg) where
  pub formed_over_reference : (number : ℕ) (r : Reference) (v : Value) → get w.names.map path ≡ Some (data_entry number (value.Reference r)) → formed_to (targets.Name path) v w ≡ stored (targets.Name path) v w
  unfolding formed_in_name store_in_name held_at go_on ◌>>=◌
  formed_over_reference number r v at = rw at refl

  pub formed_over_field : (e : Entry) (f : Field) (bits : ℕ) (v : Value) → get w.names.map path ≡ Some e → IsField e.object f bits → formed_to (targets.Name path) v w ≡ stored (targets.Name path) v w
  unfolding formed_in_name store_in_name held_at go_on ◌>>=◌
  formed_over_field e f bits v at is = rw (at, holding_is e.object f bits is) refl

  pub formed_over_nothing : (e : Entry) (v : Value) → get w.names.map path ≡ Some e → HoldsNothing e.object → formed_to (targets.Name path) v w ≡ (Err (refusal.Value WrongType), w)
  unfolding formed_in_name held_at stop go_on ◌>>=◌
  formed_over_nothing e v at none = rw (at, holds_none e.object none) refl

-- ---- parts, and what references refer to

pub formed_in_parts : {S : Type 0} (w : State S) (o i : ℕ) (v : Value)
    → (formed_to (targets.Refers (reference.Element o i)) v w ≡ stored (targets.Refers (reference.Element o i)) v w) × (formed_to (targets.Refers (reference.Byte o i)) v w ≡ stored (targets.Refers (reference.Byte o i)) v w)
formed_in_parts w o i v = (refl, refl)

pub formed_in_referred_slot : {S : Type 0} (w : State S) (s : Slot) (frame : ℕ) (v : Value) → formed_to (targets.Refers (reference.Slot s frame)) v w ≡ stored (targets.Refers (reference.Slot s frame)) v w
formed_in_referred_slot w s frame v = refl

module _ {S : Type 0} (w : State S) (p : List Seg) where
  declared_as_named : (e : Entry) → get w.names.map p ≡ Some e → Numbered w.names → (v : Value) → formed_in_declared e.number v w ≡ formed_in_name p v w
  unfolding formed_in_declared formed_in_name held_at go_on ◌>>=◌
  declared_as_named e at apart v = declaration_then w p e at apart (λ x. formed_over (holding_of x.1.object) x.0 v) ∙ sym (ap (λ (o : Option Entry). go_on {S = State S} (holding_in o) w (λ x. formed_over x p v)) at)

  pub formed_through_name : (r : Reference) (v : Value) → Numbered w.names → (reference_of (targets.Name p) w).0 ≡ Ok r → formed_to (targets.Refers r) v w ≡ formed_to (targets.Name p) v w
  formed_through_name r v apart is = let f = name_found w p r is in subst (λ (y : Reference). formed_to (targets.Refers y) v w ≡ formed_in_name p v w) (sym f.is) (declared_as_named f.entry f.there apart v)

-- ---- terms whose target is a name of a field

module _ {S : Type 0} (accesses : Accesses S) (scope : List Seg) (depth : ℕ) (x : Tree) (n : Name) (w : State S) (steps : ℕ) (core : w.profile ≡ profiles.Wide) where
  module _ (v : Value) (after : State S × ℕ) (gives : GivesValue accesses scope depth x (w, steps) v after) (k : Conversion) (op : Opcode) (r : Value) (formed : State S) (forms : converted k v after.0 ≡ (Ok r, formed)) (f : Field) (bits : ℕ) (h : NamesField formed scope n f bits) where
    field_next : formed_to (targets.Name h.path) r formed ≡ (Ok (store.Field f), formed)
    unfolding formed_in_name held_at give go_on ◌>>=◌
    field_next = rw (there formed scope n f bits h value.Uninitialized, holding_is h.object f bits h.is) refl

    writes_so : (end : State S × ℕ) → field_written accesses (meaning accesses) depth f r (formed, after.1) ≡ (Ok tt, end) → convert_rule accesses (meaning accesses) k scope depth (one_to op x (name n)) (w, steps) ≡ (Ok (flow.Value r), end)
    unfolding convert_rule formed_at value_at operand_value settle lift give go_on ◌>>=◌
    writes_so end writes =
        rw (
          gives,
          forms,
          target_is accesses scope depth (one_to op x (name n)) 1 formed after.1 (name n) (targets.Name h.path) (named n h.path (record { number = h.number; object = h.object }) h.finds) refl,
          field_next,
          writes,
        ) refl

    convert_writes : (end : State S × ℕ) → kind_of op ≡ kinds.Wide (wide.Convert k) → field_written accesses (meaning accesses) depth f r (formed, after.1) ≡ (Ok tt, end) → GivesValue accesses scope depth (one_to op x (name n)) (w, suc steps) r end
    convert_writes end is writes =
        (term_begins accesses (task scope depth (one_to op x (name n)))).paid w steps
        ∙ (convert_ruled accesses scope depth x (name n) w steps v after core gives k op is ∙ (asked_in_wide op w steps core (convert_rule accesses (meaning accesses) k scope depth (one_to op x (name n))) ∙ writes_so end writes))

  text_there : (objects : List Object) (text : List ℕ) → content_in (objects ++ object.String text ∷ []) (value.String (length objects)) ≡ String text
  text_there objects text = let at : slice_get (objects ++ object.String text ∷ []) (length objects) ≡ Some (object.String text) = ap (λ xs. slice_get xs (length objects)) (sym (append-nil (objects ++ object.String text ∷ []))) ∙ stands_there objects [] (object.String text) in rw at refl

  pub hexadecimal_written : (v : Value) (after : State S × ℕ) (text : List ℕ) → GivesValue accesses scope depth x (w, steps) v after → IsNoString v → hexadecimal_string_of after.0.width (content_in after.0.objects v) ≡ Ok text → Fits after.0 text
      → (f : Field) (bits : ℕ) → NamesField (with_object after.0 (object.String text)) scope n f bits → (bytes : List ℕ) (end : State S × ℕ) → to_buffer_of after.0.width (String text) ≡ Ok bytes → bits_written_at accesses depth f bytes (with_object after.0 (object.String text), after.1) ≡ (Ok tt, end)
      → GivesValue accesses scope depth (one_to opcodes.ToHexString x (name n)) (w, suc steps) (value.String (length after.0.objects)) end
  hexadecimal_written v after text gives differs is fits f bits h bytes end converts writes =
      convert_writes v after gives conversions.HexadecimalString opcodes.ToHexString (value.String (length after.0.objects)) (with_object after.0 (object.String text)) (ap (λ m. m after.0) (by_new_hexadecimal v differs) ∙ hexadecimal_formed after.0 v text is fits) f bits h end refl
      (written_so accesses depth f (value.String (length after.0.objects)) (with_object after.0 (object.String text), after.1) bytes (Ok tt) end (ap (to_buffer_of after.0.width) (text_there after.0.objects text) ∙ converts) writes)

  pub decoded_written : (code m : ℕ) (after : State S × ℕ) → OneInteger accesses scope depth x (w, steps) code after → decoded_decimal code ≡ Ok m → (f : Field) (bits : ℕ) → NamesField after.0 scope n f bits → (bytes : List ℕ) (end : State S × ℕ) → to_buffer_of after.0.width (Integer m) ≡ Ok bytes
      → bits_written_at accesses depth f bytes after ≡ (Ok tt, end) → Gives accesses scope depth (one_to opcodes.FromBcd x (name n)) (w, suc steps) m end
  decoded_written code m after i is f bits h bytes end converts writes =
      convert_writes i.v after i.gives conversions.FromDecimal opcodes.FromBcd (value.Integer m) after.0 (decoded_formed after.0 i.v code m i.converts is) f bits h end refl (written_so accesses depth f (value.Integer m) after bytes (Ok tt) end converts writes)
