-- Names that stand in packages, where DerefOf reads them, and where an answer hands them out.
use Rattle.std.specs.Prelude.{◌≡◌, ◌≤◌, ◌∷◌, ℕ, suc, List, length, take, Ok, Err, refl}
use Rattle.std.proofs.Common.{ap, ◌∙◌}
use Rattle.std.proofs.lemmas.Option.{slice_get_within}
use Rattle.ar_space.specs.declared.refusal.Refusal.{Refusal}
use Rattle.ar_space.specs.Accesses.{Accesses}
use Rattle.ar_space.specs.Change.{give, settle, go_on, ◌>>=◌}
use Rattle.aml_path.specs.declared.segment.Seg.{Seg}
use Rattle.aml_path.specs.Paths.{Name}
use Rattle.aml_grammar.specs.Tree.{Tree, null}
use Rattle.aml_objects.specs.Fields.{bits_of_field}
use Rattle.aml_objects.specs.Objects.{element_at}
use Rattle.aml_objects.specs.declared.entry.Entry.{Entry}
use Rattle.aml_objects.specs.declared.entry.Field.{Field}
use Rattle.aml_objects.specs.declared.entry.NamedObject.{NamedObject}
use Rattle.aml_objects.specs.declared.entry.NamedObject.TheVariants as named
use Rattle.aml_objects.specs.declared.object.Element.TheVariants as element
use Rattle.aml_objects.specs.declared.value.Reference.TheVariants as reference
use Rattle.aml_objects.specs.declared.value.Value.{Value}
use Rattle.aml_objects.specs.declared.value.Value.TheVariants as value
use Rattle.aml_convert.specs.Integers.{bits_of, bytes_of}
use Rattle.aml_namespace.specs.Search.{found}
use Rattle.aml_world.specs.declared.values.store_target.Held.{Held}
use Rattle.aml_world.specs.declared.values.store_target.Held.TheVariants as held
use Rattle.aml_world.specs.declared.values.store_target.StoreTarget.TheVariants as targets
use Rattle.aml_world.specs.state.State.{State, on_objects}
use Rattle.aml_world.specs.state.Run.{lift}
use Rattle.aml_world.specs.state.Readings.{entry_found}
use Rattle.aml_world.specs.fields.Regions.{value_of_bits}
use Rattle.aml_world.specs.fields.Fields.{field_value}
use Rattle.aml_world.specs.values.StoreTargets.{named_once, name_once, held_once, dereferenced}
use Rattle.aml_meaning.specs.declared.flow.Flow.TheVariants as flow
use Rattle.aml_meaning.specs.Tasks.{task, operand_value, value_at}
use Rattle.aml_meaning.specs.FieldCalls.{held_value}
use Rattle.aml_meaning.specs.OperatorTerms.{dereference_rule}
use Rattle.aml_meaning.specs.Evaluation.{rule}
use Rattle.aml_meaning.specs.Meaning.{meaning}
use Rattle.aml_laws.specs.OperatorTerms.{nothing, GivesValue, Gives, IsRefused}
use Rattle.aml_laws.specs.NamesUsed.{IsGivenBy, an_integer, a_string, a_buffer, a_package, another}
use Rattle.aml_laws.specs.NamesInPackages.{HoldsName}
use Rattle.aml_laws.specs.IntegersOfValues.{lowest_first}
use Rattle.aml_laws.specs.FieldNames.{IsField, of_unit, of_buffer, NamesField, bits_read_at}
use Rattle.aml_laws.specs.ReferringTerms.{elements, Indexes, part_read}
use Rattle.aml_laws.specs.StoredParts.{HoldsNothing, scope, device, processor, power_resource, thermal_zone, method, region, mutex, event}
use Rattle.aml_laws.proofs.FieldNamesUsed.{bits_are, number_of_bits}
use Rattle.aml_laws.proofs.PartsIndexed.{index_refers}
use Rattle.aml_laws.proofs.TreesCost.{term_begins}

-- ---- what a name stands for, one step on

pub given_once : (n : ℕ) (o : NamedObject) (v r : Value) → o ≡ named.Data v → IsGivenBy n v r → named_once n o ≡ held.Value r
given_once n o v r is gives = ap (named_once n) is ∙ by v r gives
  where
    by : (v r : Value) → IsGivenBy n v r → named_once n (named.Data v) ≡ held.Value r
    by _ _ (an_integer k) = refl
    by _ _ (a_string p) = refl
    by _ _ (a_buffer p) = refl
    by _ _ (a_package p) = refl
    by _ _ (another r) = refl

pub nothing_named : (n : ℕ) (o : NamedObject) → HoldsNothing o → named_once n o ≡ held.Value (value.Reference (reference.Name n))
nothing_named n _ scope = refl
nothing_named n _ device = refl
nothing_named n _ processor = refl
nothing_named n _ power_resource = refl
nothing_named n _ thermal_zone = refl
nothing_named n _ (method m) = refl
nothing_named n _ (region r) = refl
nothing_named n _ (mutex c) = refl
nothing_named n _ (event c) = refl

pub field_named : (n : ℕ) (o : NamedObject) (f : Field) (bits : ℕ) → IsField o f bits → named_once n o ≡ held.Field f
field_named n _ _ _ (of_unit u) = refl
field_named n _ _ _ (of_buffer b) = refl

-- ---- DerefOf of an element that is a name

module _ {S : Type 0} (w : State S) (o i : ℕ) (n : Name) (home : List Seg) (h : HoldsName w o i n home) where
  pub name_is_read : (path : List Seg) (e : Entry) (x : Held) → found w.names.map home n ≡ Ok (path, e) → named_once e.number e.object ≡ x → dereferenced (reference.Element o i) w ≡ (Ok x, w)
  unfolding held_once name_once entry_found on_objects element_at give go_on ◌>>=◌
  name_is_read path e x finds is = rw (h.stands, h.is, finds, is) refl

  pub name_is_missing : (e : Refusal) → found w.names.map home n ≡ Err e → dereferenced (reference.Element o i) w ≡ (Err e, w)
  unfolding held_once name_once entry_found on_objects element_at give go_on ◌>>=◌
  name_is_missing e finds = rw (h.stands, h.is, finds) refl

module _ {S : Type 0} (accesses : Accesses S) (scope : List Seg) (depth : ℕ) (x y : Tree) (w : State S) (steps : ℕ) (o i : ℕ) (after : State S × ℕ) (indexes : Indexes accesses scope depth x y (w, steps) (value.Package o) i after) (n : Name) (home : List Seg) (h : HoldsName after.0 o i n home) where
  reads_on : (held : Held) → dereferenced (reference.Element o i) after.0 ≡ (Ok held, after.0) → rule accesses (meaning accesses) (task scope depth (part_read x y)) (w, suc steps) ≡ go_on (held_value accesses (meaning accesses) depth held after).0 (held_value accesses (meaning accesses) depth held after).1 (λ v. give (flow.Value v))
  unfolding rule dereference_rule value_at operand_value settle lift give go_on ◌>>=◌
  reads_on held is =
      rw (
        index_refers accesses scope depth x y w steps (value.Package o) i after indexes (length h.elements) (λ k. reference.Element o k) (elements o h.elements h.stands) (slice_get_within h.elements i (element.Name n home) h.is) null after.0
            (record { target = targets.Nowhere; names = nothing; is = refl }),
        is,
      ) refl

  stops : (e : Refusal) → dereferenced (reference.Element o i) after.0 ≡ (Err e, after.0) → rule accesses (meaning accesses) (task scope depth (part_read x y)) (w, suc steps) ≡ (Err e, after)
  unfolding rule dereference_rule value_at operand_value settle lift give go_on ◌>>=◌
  stops e is =
      rw (
        index_refers accesses scope depth x y w steps (value.Package o) i after indexes (length h.elements) (λ k. reference.Element o k) (elements o h.elements h.stands) (slice_get_within h.elements i (element.Name n home) h.is) null after.0
            (record { target = targets.Nowhere; names = nothing; is = refl }),
        is,
      ) refl

  value_so : (v : Value) → go_on (held_value accesses (meaning accesses) depth (held.Value v) after).0 (held_value accesses (meaning accesses) depth (held.Value v) after).1 (λ v. give (flow.Value v)) ≡ (Ok (flow.Value v), after)
  unfolding give go_on
  value_so v = refl

  field_so : (f : Field) (bytes : List ℕ) (v : Value) (read : State S × ℕ) (end : State S) → bits_read_at accesses depth f after ≡ (Ok bytes, read) → value_of_bits (bits_of_field f) bytes read.0 ≡ (Ok v, end)
      → go_on (held_value accesses (meaning accesses) depth (held.Field f) after).0 (held_value accesses (meaning accesses) depth (held.Field f) after).1 (λ v. give (flow.Value v)) ≡ (Ok (flow.Value v), (end, read.1))
  unfolding field_value lift give go_on ◌>>=◌
  field_so f bytes v read end is makes = rw (is, makes) refl

  begins : meaning accesses (task scope depth (part_read x y)) (w, suc (suc steps)) ≡ rule accesses (meaning accesses) (task scope depth (part_read x y)) (w, suc steps)
  begins = (term_begins accesses (task scope depth (part_read x y))).paid w (suc steps)

  pub named_data : (path : List Seg) (e : Entry) (v r : Value) → found after.0.names.map home n ≡ Ok (path, e) → e.object ≡ named.Data v → IsGivenBy e.number v r → GivesValue accesses scope depth (part_read x y) (w, suc (suc steps)) r after
  named_data path e v r finds is gives = begins ∙ reads_on (held.Value r) (name_is_read after.0 o i n home h path e (held.Value r) finds (given_once e.number e.object v r is gives)) ∙ value_so r

  pub named_object : (path : List Seg) (e : Entry) → found after.0.names.map home n ≡ Ok (path, e) → HoldsNothing e.object → GivesValue accesses scope depth (part_read x y) (w, suc (suc steps)) (value.Reference (reference.Name e.number)) after
  named_object path e finds none =
      begins ∙ reads_on (held.Value (value.Reference (reference.Name e.number))) (name_is_read after.0 o i n home h path e (held.Value (value.Reference (reference.Name e.number))) finds (nothing_named e.number e.object none))
      ∙ value_so (value.Reference (reference.Name e.number))

  pub named_field : (f : Field) (bits b : ℕ) (bytes : List ℕ) (end : State S × ℕ) → NamesField after.0 home n f bits → bits_read_at accesses depth f after ≡ (Ok (b ∷ bytes), end) → bits ≤ bits_of end.0.width
      → Gives accesses scope depth (part_read x y) (w, suc (suc steps)) (lowest_first (take (bytes_of end.0.width) (b ∷ bytes))) end
  named_field f bits b bytes end names is few =
      begins
      ∙ reads_on (held.Field f) (name_is_read after.0 o i n home h names.path (record { number = names.number; object = names.object }) (held.Field f) names.finds (field_named names.number names.object f bits names.is))
      ∙ field_so f (b ∷ bytes) (value.Integer (lowest_first (take (bytes_of end.0.width) (b ∷ bytes)))) end end.0 is (rw (bits_are names.object f bits names.is) (number_of_bits end.0 bits b bytes few))

  pub not_named : (e : Refusal) → found after.0.names.map home n ≡ Err e → IsRefused accesses scope depth (part_read x y) (w, suc (suc steps)) e after
  not_named e finds = begins ∙ stops e (name_is_missing after.0 o i n home h e finds)
