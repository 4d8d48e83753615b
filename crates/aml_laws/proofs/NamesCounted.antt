-- Increment and Decrement of an element of a package that is a name read what it finds, and replace the name.
use Rattle.std.specs.Prelude.{◌≡◌, ◌⊎◌, ◌+◌, ◌%◌, ◌^◌, ◌<◌, ◌∷◌, ℕ, suc, nat_lt, true, List, length, take, slice_get, slice_set, Some, Ok, Err, refl}
use Rattle.std.proofs.Common.{arith, ap, inl, inr, sym, ◌∙◌}
use Rattle.std.proofs.lemmas.Bool.Decides.{nat_tests}
use Rattle.ar_space.specs.Accesses.{Accesses}
use Rattle.ar_space.specs.Outcome.{Outcome}
use Rattle.ar_space.specs.Change.{give, settle, go_on, ◌>>=◌}
use Rattle.ar_space.specs.declared.refusal.Refusal.{Refusal}
use Rattle.ar_space.specs.declared.refusal.Refusal.TheVariants as refusal
use Rattle.ar_space.specs.declared.refusal.ValueFault.TheVariants.{WrongType}
use Rattle.aml_path.specs.declared.segment.Seg.{Seg}
use Rattle.aml_path.specs.Paths.{Name}
use Rattle.aml_grammar.specs.declared.opcode.Opcode.{Opcode}
use Rattle.aml_grammar.specs.declared.opcode.Opcode.TheVariants as opcodes
use Rattle.aml_grammar.specs.Tree.{Tree, inner}
use Rattle.aml_objects.specs.Copies.{value_copy, whole, copied}
use Rattle.aml_objects.specs.Objects.{Objects, element_there, write_element}
use Rattle.aml_objects.specs.declared.entry.Entry.{Entry}
use Rattle.aml_objects.specs.declared.entry.Field.{Field}
use Rattle.aml_objects.specs.declared.object.Element.{Element}
use Rattle.aml_objects.specs.declared.object.Element.TheVariants as element
use Rattle.aml_objects.specs.declared.object.Object.TheVariants as object
use Rattle.aml_objects.specs.declared.value.Reference.TheVariants as reference
use Rattle.aml_objects.specs.declared.value.Value.{Value}
use Rattle.aml_objects.specs.declared.value.Value.TheVariants as value
use Rattle.aml_convert.specs.Integers.{bits_of, bytes_of, truncated}
use Rattle.aml_world.specs.declared.values.store_target.Held.{Held}
use Rattle.aml_world.specs.declared.values.store_target.Held.TheVariants as held
use Rattle.aml_world.specs.declared.values.store_target.StoreTarget.TheVariants as targets
use Rattle.aml_world.specs.declared.values.store_target.Stored.TheVariants as store
use Rattle.aml_world.specs.declared.values.operation_kind.Count.{Count}
use Rattle.aml_world.specs.declared.values.operation_kind.Count.TheVariants as count
use Rattle.aml_world.specs.state.State.{State, on_objects}
use Rattle.aml_world.specs.state.Run.{Run, lift}
use Rattle.aml_world.specs.state.Readings.{integer_in}
use Rattle.aml_world.specs.fields.Regions.{integer_of_bits}
use Rattle.aml_world.specs.fields.Fields.{field_integer}
use Rattle.aml_world.specs.values.StoreTargets.{named_once, dereferenced}
use Rattle.aml_world.specs.values.Stores.{copy_into_element, stored}
use Rattle.aml_world.specs.values.Operations.{counted_by}
use Rattle.aml_meaning.specs.declared.flow.Flow.{Flow}
use Rattle.aml_meaning.specs.declared.flow.Flow.TheVariants as flow
use Rattle.aml_meaning.specs.declared.term_kind.TermKind.TheVariants as kinds
use Rattle.aml_meaning.specs.declared.term_kind.OperatorKind.TheVariants as operators
use Rattle.aml_meaning.specs.Terms.{kind_of}
use Rattle.aml_meaning.specs.Tasks.{Task, task}
use Rattle.aml_meaning.specs.FieldCalls.{held_integer, stored_to, stored_back}
use Rattle.aml_meaning.specs.TargetTerms.{target_of}
use Rattle.aml_meaning.specs.OperatorTerms.{count_rule}
use Rattle.aml_meaning.specs.Evaluation.{rule}
use Rattle.aml_meaning.specs.Meaning.{meaning}
use Rattle.aml_laws.specs.NamesCounted.{FindsInteger, of_data, of_field, FindsNoInteger, of_nothing, of_an_object, of_no_value, of_other_data, of_unread_field, CountsName, CountsNoName}
use Rattle.aml_laws.specs.FieldNames.{bits_read_at}
use Rattle.aml_laws.specs.IntegersOfValues.{lowest_first}
use Rattle.aml_laws.specs.NamesInPackages.{HoldsName}
use Rattle.aml_laws.specs.OperatorTerms.{counting, Gives, IsRefused}
use Rattle.aml_laws.specs.StoredNames.{with_object_numbered}
use Rattle.aml_laws.proofs.Counting.{next_is, less, before_is, one_less}
use Rattle.aml_laws.proofs.FieldsReached.{integer_is}
use Rattle.aml_laws.proofs.NamesInPackages.{given_once, nothing_named, field_named, name_is_read, name_is_missing}
use Rattle.aml_laws.proofs.ReferringTargets.{behind_is}
use Rattle.aml_laws.proofs.TreesCost.{term_begins}

-- ---- an integer takes the place of an element

integer_copied : (m : ℕ) (h : Objects) → copied (value.Integer m) h ≡ (Ok (value.Integer m), h)
unfolding copied whole value_copy give
integer_copied m h = refl

module _ {S : Type 0} (w : State S) (o i m : ℕ) (es : List Element) (at : slice_get w.objects o ≡ Some (object.Package es)) (l : i < length es) where
  is_less : nat_lt i (length es) ≡ true
  is_less = grind (arith, nat_tests)

  element_stands : on_objects (element_there o i) w ≡ (Ok tt, w)
  unfolding on_objects element_there
  element_stands = rw (at, is_less) refl

  integer_made : on_objects (copied (value.Integer m)) w ≡ (Ok (value.Integer m), w)
  unfolding on_objects
  integer_made = rw (integer_copied m w.objects) refl

  element_written : on_objects (write_element o i (element.Value (value.Integer m))) w ≡ (Ok tt, with_object_numbered w o (object.Package (slice_set es i (element.Value (value.Integer m)))))
  unfolding on_objects write_element
  element_written = rw (at, is_less) refl

  pub element_replaced : stored (targets.Refers (reference.Element o i)) (value.Integer m) w ≡ (Ok store.Done, with_object_numbered w o (object.Package (slice_set es i (element.Value (value.Integer m)))))
  unfolding copy_into_element give go_on ◌>>=◌
  element_replaced = rw (element_stands, integer_made, element_written) refl

-- what was read of an element is stored back to the element, also where it is a field
stored_in_place : {S : Type 0} (accesses : Accesses S) (ev : Task → Run S Flow) (depth : ℕ) (h : Held) (o i : ℕ) (v : Value) (w : State S) (steps : ℕ) (final : State S) → stored (targets.Refers (reference.Element o i)) v w ≡ (Ok store.Done, final)
    → stored_back accesses ev depth h (targets.Refers (reference.Element o i)) v (w, steps) ≡ (Ok tt, (final, steps))
unfolding stored_to lift give go_on ◌>>=◌
stored_in_place accesses ev depth h o i v w steps final is = rw is refl

-- ---- what the name finds is read, and as an integer

record Reads {S : Type 0} (accesses : Accesses S) (depth o i : ℕ) (s : State S × ℕ) (r : Outcome ℕ) (end : State S × ℕ) : Type 0 where
  what : Held
  read : dereferenced (reference.Element o i) s.0 ≡ (Ok what, s.0)
  is : held_integer accesses (meaning accesses) depth what (s.0, s.1) ≡ (r, end)

module _ {S : Type 0} (accesses : Accesses S) (depth : ℕ) (s : State S × ℕ) where
  value_integer : (r : Value) (a : Outcome ℕ) → integer_in r s.0 ≡ (a, s.0) → held_integer accesses (meaning accesses) depth (held.Value r) s ≡ (a, s)
  unfolding lift
  value_integer r a is = rw is refl

  bits_integer : (f : Field) (b : ℕ) (bytes : List ℕ) (end : State S × ℕ) → bits_read_at accesses depth f s ≡ (Ok (b ∷ bytes), end) → held_integer accesses (meaning accesses) depth (held.Field f) s ≡ (Ok (lowest_first (take (bytes_of end.0.width) (b ∷ bytes))), end)
  unfolding field_integer lift go_on ◌>>=◌
  bits_integer f b bytes end is = rw (is, integer_is end.0 b bytes) refl

  bits_stop : (f : Field) (x : Refusal) (end : State S × ℕ) → bits_read_at accesses depth f s ≡ (Err x, end) → held_integer accesses (meaning accesses) depth (held.Field f) s ≡ (Err x, end)
  unfolding field_integer go_on ◌>>=◌
  bits_stop f x end is = rw is refl

reads : {S : Type 0} (accesses : Accesses S) (depth o i : ℕ) (n : Name) (home : List Seg) (s : State S × ℕ) (a : ℕ) (end : State S × ℕ) → HoldsName s.0 o i n home → FindsInteger accesses depth n home s a end → Reads accesses depth o i s (Ok a) end
reads accesses depth o i n home _ _ _ h (of_data s path e v r a finds is gives converts) =
    record { what = held.Value r; read = name_is_read s.0 o i n home h path e (held.Value r) finds (given_once e.number e.object v r is gives); is = value_integer accesses depth s r (Ok a) converts }
reads accesses depth o i n home _ _ _ h (of_field s f bits b bytes end names is) =
    record { what = held.Field f; read = name_is_read s.0 o i n home h names.path (record { number = names.number; object = names.object }) (held.Field f) names.finds (field_named names.number names.object f bits names.is); is = bits_integer accesses depth s f b bytes end is }

reference_is_no_integer : {S : Type 0} (n : ℕ) (w : State S) → integer_in (value.Reference (reference.Name n)) w ≡ (Err (refusal.Value WrongType), w)
unfolding integer_in
reference_is_no_integer n w = refl

none_is_no_integer : {S : Type 0} (w : State S) → integer_in value.Uninitialized w ≡ (Err (refusal.Value WrongType), w)
unfolding integer_in
none_is_no_integer w = refl

reads_none : {S : Type 0} (accesses : Accesses S) (depth o i : ℕ) (n : Name) (home : List Seg) (s : State S × ℕ) (x : Refusal) (end : State S × ℕ) → HoldsName s.0 o i n home → FindsNoInteger accesses depth n home s x end
    → ((dereferenced (reference.Element o i) s.0 ≡ (Err x, s.0)) × (end ≡ s)) ⊎ Reads accesses depth o i s (Err x) end
reads_none accesses depth o i n home _ _ _ h (of_nothing s x finds) = inl (name_is_missing s.0 o i n home h x finds, refl)
reads_none accesses depth o i n home _ _ _ h (of_an_object s path e finds none) = inr (record {
  what = held.Value (value.Reference (reference.Name e.number));
  read = name_is_read s.0 o i n home h path e (held.Value (value.Reference (reference.Name e.number))) finds (nothing_named e.number e.object none);
  is = value_integer accesses depth s (value.Reference (reference.Name e.number)) (Err (refusal.Value WrongType)) (reference_is_no_integer e.number s.0);
})
reads_none accesses depth o i n home _ _ _ h (of_no_value s path e finds is) = inr (record {
  what = held.Value value.Uninitialized;
  read = name_is_read s.0 o i n home h path e (held.Value value.Uninitialized) finds (ap (named_once e.number) is);
  is = value_integer accesses depth s value.Uninitialized (Err (refusal.Value WrongType)) (none_is_no_integer s.0);
})
reads_none accesses depth o i n home _ _ _ h (of_other_data s path e v r x finds is gives fails) =
    inr (record { what = held.Value r; read = name_is_read s.0 o i n home h path e (held.Value r) finds (given_once e.number e.object v r is gives); is = value_integer accesses depth s r (Err x) fails })
reads_none accesses depth o i n home _ _ _ h (of_unread_field s f bits x end names is) = inr (record {
  what = held.Field f;
  read = name_is_read s.0 o i n home h names.path (record { number = names.number; object = names.object }) (held.Field f) names.finds (field_named names.number names.object f bits names.is);
  is = bits_stop accesses depth s f x end is;
})

-- ---- the operators

module _ {S : Type 0} (accesses : Accesses S) (scope : List Seg) (depth : ℕ) (u : Tree) (w : State S) (steps o i : ℕ) (after : State S × ℕ) (target : target_of (meaning accesses) scope depth u (w, steps) ≡ (Ok (targets.Refers (reference.Element o i)), after)) (k : Count) (op : Opcode) (is : kind_of op ≡ kinds.Operator (operators.Count k)) where
  ruled : rule accesses (meaning accesses) (task scope depth (counting op (inner u))) (w, steps) ≡ count_rule accesses (meaning accesses) k scope depth (counting op (inner u)) (w, steps)
  unfolding rule
  ruled = rw is refl

  begins : meaning accesses (task scope depth (counting op (inner u))) (w, suc steps) ≡ count_rule accesses (meaning accesses) k scope depth (counting op (inner u)) (w, steps)
  begins = (term_begins accesses (task scope depth (counting op (inner u)))).paid w steps ∙ ruled

  counts_so : (a m : ℕ) (end : State S × ℕ) (final : State S) (r : Reads accesses depth o i after (Ok a) end) → counted_by k a end.0 ≡ (Ok (value.Integer m), end.0) → stored_back accesses (meaning accesses) depth r.what (targets.Refers (reference.Element o i)) (value.Integer m) (end.0, end.1) ≡ (Ok tt, (final, end.1))
      → count_rule accesses (meaning accesses) k scope depth (counting op (inner u)) (w, steps) ≡ (Ok (flow.Value (value.Integer m)), (final, end.1))
  unfolding count_rule lift give go_on ◌>>=◌
  counts_so a m end final r counted put = rw (target, r.read, r.is, counted, put) refl

  reading_stops : (x : Refusal) (end : State S × ℕ) → Reads accesses depth o i after (Err x) end → count_rule accesses (meaning accesses) k scope depth (counting op (inner u)) (w, steps) ≡ (Err x, end)
  unfolding count_rule lift go_on ◌>>=◌
  reading_stops x end r = rw (target, r.read, r.is) refl

  missing_stops : (x : Refusal) → dereferenced (reference.Element o i) after.0 ≡ (Err x, after.0) → count_rule accesses (meaning accesses) k scope depth (counting op (inner u)) (w, steps) ≡ (Err x, after)
  unfolding count_rule lift go_on ◌>>=◌
  missing_stops x missing = rw (target, missing) refl

  name_counted : (n : Name) (home : List Seg) → HoldsName after.0 o i n home → (a m : ℕ) (end : State S × ℕ) → FindsInteger accesses depth n home after a end → (es : List Element) → slice_get end.0.objects o ≡ Some (object.Package es) → i < length es → counted_by k a end.0 ≡ (Ok (value.Integer m), end.0)
      → Gives accesses scope depth (counting op (inner u)) (w, suc steps) m (with_object_numbered end.0 o (object.Package (slice_set es i (element.Value (value.Integer m)))), end.1)
  name_counted n home h a m end finds es at l counted =
      let r = reads accesses depth o i n home after a end h finds in
      begins ∙ counts_so a m end _ r counted (stored_in_place accesses (meaning accesses) depth r.what o i (value.Integer m) end.0 end.1 _ (element_replaced end.0 o i m es at l))

  name_kept_by_cases : (x : Refusal) (end : State S × ℕ) → ((dereferenced (reference.Element o i) after.0 ≡ (Err x, after.0)) × (end ≡ after)) ⊎ Reads accesses depth o i after (Err x) end → IsRefused accesses scope depth (counting op (inner u)) (w, suc steps) x end
  name_kept_by_cases x end (inl (missing, same)) = begins ∙ (missing_stops x missing ∙ ap (λ s. (Err x, s)) (sym same))
  name_kept_by_cases x end (inr r) = begins ∙ reading_stops x end r

  name_kept : (n : Name) (home : List Seg) → HoldsName after.0 o i n home → (x : Refusal) (end : State S × ℕ) → FindsNoInteger accesses depth n home after x end → IsRefused accesses scope depth (counting op (inner u)) (w, suc steps) x end
  name_kept n home h x end none = name_kept_by_cases x end (reads_none accesses depth o i n home after x end h none)

-- ---- the laws

pub name_increments : {S : Type 0} → CountsName S opcodes.Increment (λ width a m. m ≡ (a + 1) % 2 ^ bits_of width)
name_increments accesses scope depth u w steps o i after names n home h a end finds es at l =
    (truncated end.0.width (a + 1), refl, name_counted accesses scope depth u w steps o i after (behind_is accesses scope depth u (w, steps) (targets.Refers (reference.Element o i)) after names) count.Increment opcodes.Increment refl n home h a (truncated end.0.width (a + 1)) end finds es at l (next_is end.0 a))

pub name_decrements : {S : Type 0} → CountsName S opcodes.Decrement (λ width a m. (m < 2 ^ bits_of width) × ((m + 1) % 2 ^ bits_of width ≡ a % 2 ^ bits_of width))
name_decrements accesses scope depth u w steps o i after names n home h a end finds es at l =
    (less end.0 a, one_less end.0.width a, name_counted accesses scope depth u w steps o i after (behind_is accesses scope depth u (w, steps) (targets.Refers (reference.Element o i)) after names) count.Decrement opcodes.Decrement refl n home h a (less end.0 a) end finds es at l (before_is end.0 a))

pub name_increments_not : {S : Type 0} → CountsNoName S opcodes.Increment
name_increments_not accesses scope depth u w steps o i after names n home h x end none = name_kept accesses scope depth u w steps o i after (behind_is accesses scope depth u (w, steps) (targets.Refers (reference.Element o i)) after names) count.Increment opcodes.Increment refl n home h x end none

pub name_decrements_not : {S : Type 0} → CountsNoName S opcodes.Decrement
name_decrements_not accesses scope depth u w steps o i after names n home h x end none = name_kept accesses scope depth u w steps o i after (behind_is accesses scope depth u (w, steps) (targets.Refers (reference.Element o i)) after names) count.Decrement opcodes.Decrement refl n home h x end none
