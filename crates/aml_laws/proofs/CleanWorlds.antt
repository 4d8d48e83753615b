-- What terms, names, values and declarations are in a world is no fault of the register space.
use Rattle.std.specs.Prelude.{Err, List, None, Ok, Option, Some, [], nat_lt, slice_get, ℕ, ◌%◌, ◌&&◌, ◌+◌, ◌-◌, ◌/◌, ◌==◌, ◌^◌, ◌||◌, ◌∷◌}
use Rattle.ar_space.specs.Outcome.{Outcome}
use Rattle.ar_space.specs.declared.integer_width.IntegerWidth.{IntegerWidth}
use Rattle.ar_space.specs.declared.refusal.NamespaceFault.TheVariants.{NotFound}
use Rattle.ar_space.specs.declared.refusal.Refusal.TheVariants as refusal
use Rattle.aml_path.specs.declared.segment.Seg.{Seg}
use Rattle.aml_grammar.specs.Apart.{bytes_of, name_of}
use Rattle.aml_grammar.specs.Tree.{Part, bytes, inner, list, name, number}
use Rattle.aml_objects.specs.Contents.{Buffer, Content, Integer, Other, String}
use Rattle.aml_objects.specs.declared.entry.Entry.{Entry}
use Rattle.aml_objects.specs.declared.entry.FieldSource.TheVariants as sources
use Rattle.aml_objects.specs.declared.entry.FieldSource.{FieldSource}
use Rattle.aml_objects.specs.declared.entry.FieldUnit.{FieldUnit}
use Rattle.aml_objects.specs.declared.entry.MethodBody.TheVariants.{Aml, Osi}
use Rattle.aml_objects.specs.declared.entry.MethodBody.{MethodBody}
use Rattle.aml_objects.specs.declared.entry.NamedObject.TheVariants as object
use Rattle.aml_objects.specs.declared.entry.NamedObject.{NamedObject}
use Rattle.aml_objects.specs.declared.object.Object.TheVariants as objects
use Rattle.aml_objects.specs.declared.object.Object.{Object}
use Rattle.aml_objects.specs.declared.value.Reference.{Reference}
use Rattle.aml_objects.specs.declared.value.Slot.{Slot}
use Rattle.aml_objects.specs.declared.value.Value.TheVariants as value
use Rattle.aml_objects.specs.declared.value.Value.{Value}
use Rattle.aml_world.specs.state.Declaring.{no_method, no_method_in}
use Rattle.aml_world.specs.state.NameUses.{held_or_path, use_of, value_or_path}
use Rattle.aml_world.specs.fields.BufferFields.{buffer_of}
use Rattle.aml_world.specs.fields.FieldLayouts.{connection_buffer, field_number, further, in_region, region_number, sized}
use Rattle.aml_world.specs.state.Invocations.{invocation_of, invocation_of_body, invocation_of_object}
use Rattle.aml_world.specs.state.Mutexes.{count_in, count_of_object, once_less, once_more}
use Rattle.aml_world.specs.values.Operations.{below, made_of, size_of_object, size_of_referent, size_of_value}
use Rattle.aml_world.specs.state.Osi.{osi_answer}
use Rattle.aml_world.specs.fields.PciFunctions.{or_behind, or_deep}
use Rattle.aml_world.specs.declared.fields.regions.RegionField.{RegionField}
use Rattle.aml_world.specs.declared.state.profile.Profile.{Profile}
use Rattle.aml_world.specs.declared.state.profile.Profile.TheVariants as profiles
use Rattle.aml_world.specs.fields.Bridges.{bridge_header}
use Rattle.aml_world.specs.state.Readings.{as_many, is_scope, scope_or_not}
use Rattle.aml_world.specs.fields.Regions.{field_of_object, integer_only, pci_space, region_field, region_of_object, bank_held}
use Rattle.aml_world.specs.state.Slots.{slot_at, slot_found}
use Rattle.aml_world.specs.values.StoreTargets.{held_in, holding_in, initialized, number_in_entry, number_in_frame, or_ended, or_gone, referent_in, where_found, reference_in}
use Rattle.aml_world.specs.values.Stores.{byte_of, first_byte}
use Rattle.aml_world.specs.declared.fields.field_layout.FieldLayout.{FieldLayout}
use Rattle.aml_world.specs.declared.state.frame.Frame.{Frame}
use Rattle.aml_world.specs.declared.values.object_type.Referent.TheVariants as referent
use Rattle.aml_world.specs.declared.values.object_type.Referent.{Referent}
use Rattle.aml_world.specs.declared.values.store_target.Holding.TheVariants as holding
use Rattle.aml_world.specs.declared.values.store_target.Holding.{Holding}
use Rattle.aml_meaning.specs.Tasks.{value_in}
use Rattle.aml_meaning.specs.Terms.{inner_of, list_of, number_of}
use Rattle.aml_meaning.specs.declared.flow.Flow.TheVariants as flow
use Rattle.aml_meaning.specs.declared.flow.Flow.{Flow}
use Rattle.aml_laws.proofs.CleanChanges.{AllClean, give_clean, stop_clean}
use Rattle.aml_laws.proofs.CleanObjects.{make_buffer_clean, make_string_clean}
use Rattle.aml_laws.proofs.CleanOutcomes.{Clean, if_clean, seen_clean}

-- ---- operands of terms

pub name_of_clean : (o : Option Part) → Clean (name_of o)
name_of_clean (Some (name n)) = tt
name_of_clean _ = tt

pub bytes_of_clean : (o : Option Part) → Clean (bytes_of o)
bytes_of_clean (Some (bytes bs)) = tt
bytes_of_clean _ = tt

pub number_of_clean : (o : Option Part) → Clean (number_of o)
number_of_clean (Some (number n)) = tt
number_of_clean _ = tt

pub inner_of_clean : (o : Option Part) → Clean (inner_of o)
inner_of_clean (Some (inner t)) = tt
inner_of_clean _ = tt

pub list_of_clean : (o : Option Part) → Clean (list_of o)
list_of_clean (Some (list ts)) = tt
list_of_clean _ = tt

-- ---- values and names

pub value_in_clean : (f : Flow) → Clean (value_in f)
value_in_clean (flow.Value v) = tt
value_in_clean _ = tt

pub scope_or_not_clean : (o : NamedObject) → Clean (scope_or_not o)
scope_or_not_clean o = if_clean (is_scope o) _ _ tt tt

pub as_many_clean : (wanted count : ℕ) → Clean (as_many wanted count)
as_many_clean wanted count = if_clean (wanted == count) _ _ tt tt

-- ---- what stands there

pub holding_in_clean : (o : Option Entry) → Clean (holding_in o)
holding_in_clean None = tt
holding_in_clean (Some e) = tt

pub or_ended_clean : (o : Option ℕ) → Clean (or_ended o)
or_ended_clean None = tt
or_ended_clean (Some k) = tt

pub initialized_clean : (v : Value) → Clean (initialized v)
initialized_clean value.Uninitialized = tt
initialized_clean _ = tt

pub or_gone_clean : (o : Option (List Seg × Entry)) → Clean (or_gone o)
or_gone_clean None = tt
or_gone_clean (Some e) = tt

pub held_in_clean : (h : Holding) → Clean (held_in h)
held_in_clean (holding.Value v) = tt
held_in_clean (holding.Field f) = tt
held_in_clean holding.Nothing = tt

pub number_in_frame_clean : (o : Option Frame) → Clean (number_in_frame o)
number_in_frame_clean None = tt
number_in_frame_clean (Some f) = tt

pub number_in_entry_clean : (o : Option Entry) → Clean (number_in_entry o)
number_in_entry_clean None = tt
number_in_entry_clean (Some e) = tt

pub where_found_clean : (x : Outcome Entry) → Clean x → Clean (where_found x)
where_found_clean (Ok e) c = tt
where_found_clean (Err (refusal.Namespace NotFound)) c = tt
where_found_clean (Err e) c = c

pub referent_in_clean : (o : Option Entry) → Clean (referent_in o)
referent_in_clean None = tt
referent_in_clean (Some e) = tt

pub slot_found_clean : (slot : Slot) (o : Option Frame) → Clean (slot_found slot o)
slot_found_clean slot None = tt
slot_found_clean slot (Some f) = tt

pub slot_at_clean : (slot : Slot) (frames : List Frame) (o : Option ℕ) → Clean (slot_at slot frames o)
slot_at_clean slot frames None = tt
slot_at_clean slot frames (Some k) = slot_found_clean slot (slice_get frames k)

-- ---- stores

pub first_byte_clean : (bs : List ℕ) → Clean (first_byte bs)
first_byte_clean [] = tt
first_byte_clean (b ∷ bs) = tt

pub byte_of_clean : (c : Content) → Clean (byte_of c)
byte_of_clean (Integer n) = tt
byte_of_clean (String bs) = first_byte_clean bs
byte_of_clean (Buffer bs) = first_byte_clean bs
byte_of_clean Other = tt

-- ---- mutexes

pub count_of_object_clean : (ob : NamedObject) → Clean (count_of_object ob)
count_of_object_clean (object.Mutex n) = tt
count_of_object_clean _ = tt

pub count_in_clean : (o : Option Entry) → Clean (count_in o)
count_in_clean None = tt
count_in_clean (Some e) = count_of_object_clean e.object

pub once_more_clean : (n : ℕ) → Clean (once_more n)
once_more_clean n = if_clean (n == 2 ^ 64 - 1) _ _ tt tt

pub once_less_clean : (n : ℕ) → Clean (once_less n)
once_less_clean n = if_clean (n == 0) _ _ tt tt

-- ---- operators

pub size_of_object_clean : (o : Option Object) → Clean (size_of_object o)
size_of_object_clean None = tt
size_of_object_clean (Some (objects.String bs)) = tt
size_of_object_clean (Some _) = tt

pub size_of_value_clean : (objects : List Object) (v : Value) → Clean (size_of_value objects v)
size_of_value_clean objects (value.String o) = size_of_object_clean (slice_get objects o)
size_of_value_clean objects (value.Buffer o) = size_of_object_clean (slice_get objects o)
size_of_value_clean objects (value.Package o) = size_of_object_clean (slice_get objects o)
size_of_value_clean objects value.Uninitialized = tt
size_of_value_clean objects (value.Integer n) = tt
size_of_value_clean objects (value.Reference r) = tt

pub size_of_referent_clean : (objects : List Object) (r : Referent) → Clean (size_of_referent objects r)
size_of_referent_clean objects (referent.Value v) = size_of_value_clean objects v
size_of_referent_clean objects (referent.Object t) = tt
size_of_referent_clean objects (referent.Field f) = tt
size_of_referent_clean objects (referent.Bytes n) = tt

pub below_clean : (n i : ℕ) (r : Reference) → Clean (below n i r)
below_clean n i r = if_clean (nat_lt i n) _ _ tt tt

pub reference_in_clean : (v : Value) → Clean (reference_in v)
reference_in_clean (value.Reference r) = tt
reference_in_clean _ = tt

-- ---- calls

pub invocation_of_body_clean : (p : List Seg) (m : MethodBody) → Clean (invocation_of_body p m)
invocation_of_body_clean p Osi = tt
invocation_of_body_clean p (Aml body) = tt

pub invocation_of_object_clean : (p : List Seg) (n : ℕ) (ob : NamedObject) → Clean (invocation_of_object p n ob)
invocation_of_object_clean p n (object.Method m) = invocation_of_body_clean p m.body
invocation_of_object_clean p n _ = tt

pub invocation_of_clean : (x : Outcome (List Seg × Entry)) → Clean x → Clean (invocation_of x)
invocation_of_clean (Ok e) c = invocation_of_object_clean e.0 e.1.number e.1.object
invocation_of_clean (Err e) c = c

pub osi_answer_clean : (width : IntegerWidth) (texts : List (List ℕ)) (c : Content) → Clean (osi_answer width texts c)
osi_answer_clean width texts (String text) = tt
osi_answer_clean width texts _ = tt

-- ---- declarations

pub no_method_clean : (ob : NamedObject) → Clean (no_method ob)
no_method_clean (object.Method m) = tt
no_method_clean _ = tt

pub no_method_in_clean : (o : Option Entry) → Clean (no_method_in o)
no_method_in_clean None = tt
no_method_in_clean (Some e) = no_method_clean e.object

pub sized_clean : (count : ℕ) → Clean (sized count)
sized_clean count = if_clean (count == 0 || nat_lt 8388608 count) _ _ tt tt

pub further_clean : (at : FieldLayout) (count : ℕ) → Clean (further at count)
further_clean at count = if_clean (nat_lt (at.bit_offset + count) (2 ^ 64)) _ _ tt tt

pub region_number_clean : (n : ℕ) (ob : NamedObject) → Clean (region_number n ob)
region_number_clean n (object.OperationRegion r) = tt
region_number_clean n _ = tt

pub in_region_clean : (n : ℕ) (source : FieldSource) → Clean (in_region n source)
in_region_clean n (sources.Region r) = tt
in_region_clean n (sources.Index i d) = tt
in_region_clean n (sources.Bank r b) = tt

pub field_number_clean : (n : ℕ) (ob : NamedObject) → Clean (field_number n ob)
field_number_clean n (object.FieldUnit u) = in_region_clean n u.source
field_number_clean n _ = tt

pub buffer_of_clean : (v : Value) → Clean (buffer_of v)
buffer_of_clean (value.Buffer o) = tt
buffer_of_clean _ = tt

pub connection_buffer_clean : (ob : NamedObject) → Clean (connection_buffer ob)
connection_buffer_clean (object.Data v) = buffer_of_clean v
connection_buffer_clean _ = tt

-- ---- regions

pub integer_only_clean : (v : Value) → Clean (integer_only v)
integer_only_clean value.Uninitialized = tt
integer_only_clean _ = tt

pub pci_space_clean : (seg : ℕ) (bus address : ℕ) → Clean (pci_space seg bus address)
pci_space_clean seg bus address = if_clean (nat_lt seg 65536 && (nat_lt bus 256 && (nat_lt (address / 65536) 32 && nat_lt (address % 65536) 8))) _ _ tt tt

pub region_of_object_clean : (ob : NamedObject) → Clean (region_of_object ob)
region_of_object_clean (object.OperationRegion r) = tt
region_of_object_clean _ = tt

pub region_field_clean : (source : FieldSource) (u : FieldUnit) → Clean (region_field source u)
region_field_clean (sources.Region n) u = tt
region_field_clean (sources.Index i d) u = tt
region_field_clean (sources.Bank n b) u = tt

pub bank_held_clean : (bank : RegionField) (value : ℕ) → Clean (bank_held bank value)
bank_held_clean bank value = if_clean (nat_lt value (2 ^ bank.unit.bits)) _ _ tt tt

pub field_of_object_clean : (ob : NamedObject) → Clean (field_of_object ob)
field_of_object_clean (object.FieldUnit u) = region_field_clean u.source u
field_of_object_clean _ = tt

pub or_deep_clean : (o : Option (List Seg)) → Clean (or_deep o)
or_deep_clean None = tt
or_deep_clean (Some p) = tt

pub or_behind_clean : (p : Profile) (o : Option (List Seg)) → Clean (or_behind p o)
or_behind_clean profiles.Wide o = tt
or_behind_clean profiles.Core None = tt
or_behind_clean profiles.Core (Some p) = tt

pub bridge_header_clean : (kind : ℕ) → Clean (bridge_header kind)
bridge_header_clean kind = if_clean (kind % 128 == 1 || kind % 128 == 2) _ _ tt tt

-- ---- answers

value_or_path_clean : (v : Value) (p : Outcome (List Seg)) → Clean p → Clean (value_or_path v p)
value_or_path_clean (value.Reference r) p c = seen_clean _ _ c
value_or_path_clean _ p c = tt

held_or_path_clean : (o : NamedObject) (p : Outcome (List Seg)) → Clean p → Clean (held_or_path o p)
held_or_path_clean (object.Data v) p c = value_or_path_clean v p c
held_or_path_clean (object.FieldUnit u) p c = tt
held_or_path_clean (object.BufferField b) p c = tt
held_or_path_clean _ p c = seen_clean _ _ c

pub use_of_clean : (x : Outcome Entry) (p q : Outcome (List Seg)) → Clean p → Clean q → Clean (use_of x p q)
use_of_clean (Ok e) p q c d = held_or_path_clean e.object p c
use_of_clean (Err e) p q c d = seen_clean _ _ d

pub made_of_clean : (c : Content) → AllClean (made_of c)
made_of_clean (Integer n) = give_clean _
made_of_clean (String bs) = make_string_clean bs
made_of_clean (Buffer bs) = make_buffer_clean bs
made_of_clean Other = stop_clean _ tt
