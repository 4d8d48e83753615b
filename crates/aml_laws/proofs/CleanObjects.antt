-- Reading, writing and copying objects, and fields of buffers, answer with no fault of the register space.
use Rattle.std.specs.Prelude.{Err, List, None, Ok, Option, Some, [], length, nat_le, nat_lt, slice_get, suc, zero, ℕ, ◌∷◌}
use Rattle.ar_space.specs.Change.{Change}
use Rattle.ar_space.specs.Outcome.{Outcome}
use Rattle.aml_objects.specs.Copies.{buffer_copy, copied, copies_of, element_copy, held_copy, if_whole, package_copy, string_copy, value_copy, whole, whole_copy}
use Rattle.aml_objects.specs.Objects.{Objects, buffer_at, buffer_in, byte_at, byte_in, byte_outcome, element_at, element_in, element_outcome, element_stands, element_there, elements_at, elements_in, exchange_buffer, few, fits, fitted_to, make, make_buffer, make_package, make_string, or_dead, string_at, string_in, with_buffer, with_byte, with_element, with_exchanged, with_sized, with_string, write_buffer, write_byte, write_element, write_string}
use Rattle.aml_objects.specs.declared.entry.BufferField.{BufferField}
use Rattle.aml_objects.specs.declared.object.Element.TheVariants as element
use Rattle.aml_objects.specs.declared.object.Element.{Element}
use Rattle.aml_objects.specs.declared.object.Object.TheVariants as object
use Rattle.aml_objects.specs.declared.object.Object.{Object}
use Rattle.aml_objects.specs.declared.value.Value.TheVariants as value
use Rattle.aml_objects.specs.declared.value.Value.{Value}
use Rattle.aml_fields.specs.BufferFields.{field_within, lies_within, new_buffer_field, read_buffer_field, still_within, write_buffer_field}
use Rattle.aml_laws.proofs.CleanChanges.{AllClean, branch_clean, direct_clean, give_clean, settle_clean, stop_clean, then_clean}
use Rattle.aml_laws.proofs.CleanOutcomes.{Clean, if_clean}

pub fits_clean : (bs : List ℕ) → Clean (fits bs)
unfolding fits
fits_clean bs = if_clean (nat_lt 1048576 (length bs)) _ _ tt tt

pub few_clean : (es : List Element) → Clean (few es)
unfolding few
few_clean es = if_clean (nat_lt 65535 (length es)) _ _ tt tt

pub string_in_clean : (o : Option Object) → Clean (string_in o)
string_in_clean None = tt
string_in_clean (Some (object.String bs)) = tt
string_in_clean (Some _) = tt

pub buffer_in_clean : (o : Option Object) → Clean (buffer_in o)
buffer_in_clean None = tt
buffer_in_clean (Some (object.String bs)) = tt
buffer_in_clean (Some _) = tt

pub elements_in_clean : (o : Option Object) → Clean (elements_in o)
elements_in_clean None = tt
elements_in_clean (Some (object.String bs)) = tt
elements_in_clean (Some _) = tt

pub byte_outcome_clean : (i : ℕ) (ob : Object) → Clean (byte_outcome i ob)
byte_outcome_clean i (object.String bs) = if_clean (nat_lt i (length bs)) _ _ tt tt
byte_outcome_clean i (object.Buffer bs) = if_clean (nat_lt i (length bs)) _ _ tt tt
byte_outcome_clean i (object.Package es) = tt

pub or_dead_clean : {A : Type 0} (o : Option A) → Clean (or_dead o)
or_dead_clean None = tt
or_dead_clean (Some a) = tt

pub element_in_clean : (i : ℕ) (o : Option Object) → Clean (element_in i o)
element_in_clean i None = tt
element_in_clean i (Some (object.String bs)) = tt
element_in_clean i (Some (object.Buffer bs)) = tt
element_in_clean i (Some (object.Package es)) = or_dead_clean (slice_get es i)

pub byte_in_clean : (i : ℕ) (o : Option Object) → Clean (byte_in i o)
byte_in_clean i None = tt
byte_in_clean i (Some (object.String bs)) = or_dead_clean (slice_get bs i)
byte_in_clean i (Some (object.Buffer bs)) = or_dead_clean (slice_get bs i)
byte_in_clean i (Some (object.Package es)) = tt

pub element_outcome_clean : (i : ℕ) (ob : Object) → Clean (element_outcome i ob)
element_outcome_clean i (object.String bs) = tt
element_outcome_clean i (object.Buffer bs) = tt
element_outcome_clean i (object.Package es) = if_clean (nat_lt i (length es)) _ _ tt tt

pub element_stands_clean : (i : ℕ) (o : Option Object) → Clean (element_stands i o)
element_stands_clean i None = tt
element_stands_clean i (Some ob) = element_outcome_clean i ob

pub make_clean : (o : Object) → AllClean (make o)
unfolding make
make_clean o = direct_clean _ (λ h. branch_clean (nat_le 262144 (length h)) _ _ tt tt)

pub make_string_clean : (bs : List ℕ) → AllClean (make_string bs)
unfolding make_string
make_string_clean bs = then_clean _ _ (settle_clean _ (fits_clean bs)) (λ u. then_clean _ _ (make_clean _) (λ n. give_clean _))

pub make_buffer_clean : (bs : List ℕ) → AllClean (make_buffer bs)
unfolding make_buffer
make_buffer_clean bs = then_clean _ _ (settle_clean _ (fits_clean bs)) (λ u. then_clean _ _ (make_clean _) (λ n. give_clean _))

pub make_package_clean : (es : List Element) → AllClean (make_package es)
unfolding make_package
make_package_clean es = then_clean _ _ (settle_clean _ (few_clean es)) (λ u. then_clean _ _ (make_clean _) (λ n. give_clean _))

pub string_at_clean : (o : ℕ) → AllClean (string_at o)
unfolding string_at
string_at_clean o = direct_clean _ (λ h. string_in_clean (slice_get h o))

pub buffer_at_clean : (o : ℕ) → AllClean (buffer_at o)
unfolding buffer_at
buffer_at_clean o = direct_clean _ (λ h. buffer_in_clean (slice_get h o))

pub elements_at_clean : (o : ℕ) → AllClean (elements_at o)
unfolding elements_at
elements_at_clean o = direct_clean _ (λ h. elements_in_clean (slice_get h o))

with_sized_clean : (bs : List ℕ) (o : ℕ) (ob : Object) (h : Objects) → Clean (with_sized bs o ob h).0
with_sized_clean bs o ob h = branch_clean (nat_lt 1048576 (length bs)) _ _ tt tt

with_buffer_clean : (ob : Option Object) (o : ℕ) (new : List ℕ) (h : Objects) → Clean (with_buffer ob o new h).0
with_buffer_clean None o new h = tt
with_buffer_clean (Some (object.String bs)) o new h = tt
with_buffer_clean (Some (object.Buffer bs)) o new h = with_sized_clean (fitted_to (length bs) new) o _ h
with_buffer_clean (Some (object.Package es)) o new h = tt

pub write_buffer_clean : (o : ℕ) (new : List ℕ) → AllClean (write_buffer o new)
unfolding write_buffer
write_buffer_clean o new = direct_clean _ (λ h. with_buffer_clean (slice_get h o) o new h)

with_string_clean : (ob : Option Object) (o : ℕ) (new : List ℕ) (h : Objects) → Clean (with_string ob o new h).0
with_string_clean None o new h = tt
with_string_clean (Some (object.String bs)) o new h = with_sized_clean new o _ h
with_string_clean (Some (object.Buffer bs)) o new h = tt
with_string_clean (Some (object.Package es)) o new h = tt

pub write_string_clean : (o : ℕ) (new : List ℕ) → AllClean (write_string o new)
unfolding write_string
write_string_clean o new = direct_clean _ (λ h. with_string_clean (slice_get h o) o new h)

with_byte_clean : (ob : Option Object) (o i x : ℕ) (h : Objects) → Clean (with_byte ob o i x h).0
with_byte_clean None o i x h = tt
with_byte_clean (Some ob) o i x h = byte_outcome_clean i ob

pub write_byte_clean : (o i x : ℕ) → AllClean (write_byte o i x)
unfolding write_byte
write_byte_clean o i x = direct_clean _ (λ h. with_byte_clean (slice_get h o) o i x h)

with_exchanged_clean : (ob : Option Object) (o : ℕ) (new : List ℕ) (h : Objects) → Clean (with_exchanged ob o new h).0
with_exchanged_clean None o new h = tt
with_exchanged_clean (Some ob) o new h = buffer_in_clean (Some ob)

pub exchange_buffer_clean : (o : ℕ) (new : List ℕ) → AllClean (exchange_buffer o new)
unfolding exchange_buffer
exchange_buffer_clean o new = direct_clean _ (λ h. with_exchanged_clean (slice_get h o) o new h)

pub element_at_clean : (o i : ℕ) → AllClean (element_at o i)
unfolding element_at
element_at_clean o i = direct_clean _ (λ h. element_in_clean i (slice_get h o))

pub byte_at_clean : (o i : ℕ) → AllClean (byte_at o i)
unfolding byte_at
byte_at_clean o i = direct_clean _ (λ h. byte_in_clean i (slice_get h o))

pub element_there_clean : (o i : ℕ) → AllClean (element_there o i)
unfolding element_there
element_there_clean o i = direct_clean _ (λ h. element_stands_clean i (slice_get h o))

with_element_clean : (ob : Option Object) (o i : ℕ) (e : Element) (h : Objects) → Clean (with_element ob o i e h).0
with_element_clean None o i e h = tt
with_element_clean (Some ob) o i e h = element_outcome_clean i ob

pub write_element_clean : (o i : ℕ) (e : Element) → AllClean (write_element o i e)
unfolding write_element
write_element_clean o i e = direct_clean _ (λ h. with_element_clean (slice_get h o) o i e h)

-- ---- copies

string_copy_clean : (o : ℕ) → AllClean (string_copy o)
unfolding string_copy
string_copy_clean o = then_clean _ _ (string_at_clean o) (λ bs. make_string_clean bs)

buffer_copy_clean : (o : ℕ) → AllClean (buffer_copy o)
unfolding buffer_copy
buffer_copy_clean o = then_clean _ _ (buffer_at_clean o) (λ bs. make_buffer_clean bs)

module _ (pack : ℕ → Change Objects Value) (packs : (o : ℕ) → AllClean (pack o)) where
  value_copy_clean : (v : Value) → AllClean (value_copy pack v)
  unfolding value_copy
  value_copy_clean value.Uninitialized = give_clean _
  value_copy_clean (value.Integer n) = give_clean _
  value_copy_clean (value.String o) = string_copy_clean o
  value_copy_clean (value.Buffer o) = buffer_copy_clean o
  value_copy_clean (value.Package o) = packs o
  value_copy_clean (value.Reference r) = give_clean _

  element_copy_clean : (e : Element) → AllClean (element_copy pack e)
  unfolding element_copy held_copy
  element_copy_clean (element.Value v) = then_clean _ _ (value_copy_clean v) (λ u. give_clean _)
  element_copy_clean (element.Name n s) = give_clean _

  copies_of_clean : (es done : List Element) → AllClean (copies_of pack es done)
  unfolding copies_of
  copies_of_clean [] done = give_clean _
  copies_of_clean (e ∷ es) done = then_clean _ _ (element_copy_clean e) (λ c. copies_of_clean es _)

  whole_copy_clean : (o : ℕ) → AllClean (whole_copy pack o)
  unfolding whole_copy
  whole_copy_clean o = then_clean _ _ (elements_at_clean o) (λ es. then_clean _ _ (copies_of_clean es []) (λ cs. then_clean _ _ (make_clean _) (λ n. give_clean _)))

package_copy_clean : (n o : ℕ) → AllClean (package_copy n o)
unfolding package_copy
package_copy_clean zero o = stop_clean _ tt
package_copy_clean (suc n) o = whole_copy_clean (package_copy n) (package_copy_clean n) o

if_whole_clean : {A : Type 0} (h : Objects) (x : Outcome A) (h1 : Objects) → Clean x → Clean (if_whole h x h1).0
if_whole_clean h (Ok a) h1 c = c
if_whole_clean h (Err e) h1 c = c

pub copied_clean : (v : Value) → AllClean (copied v)
unfolding copied whole
copied_clean v = direct_clean _ (λ h. if_whole_clean h _ _ ((value_copy_clean (package_copy 64) (package_copy_clean 64) v).clean h))

-- ---- buffer fields

pub field_within_clean : (o : ℕ) (offset count : ℕ) (bytes : List ℕ) → Clean (field_within o offset count bytes)
field_within_clean o offset count bytes = if_clean (lies_within offset count bytes) _ _ tt tt

pub still_within_clean : (f : BufferField) (bytes : List ℕ) → Clean (still_within f bytes)
still_within_clean f bytes = if_clean (lies_within f.bit_offset f.bits bytes) _ _ tt tt

pub new_buffer_field_clean : (o offset count : ℕ) → AllClean (new_buffer_field o offset count)
unfolding new_buffer_field
new_buffer_field_clean o offset count = then_clean _ _ (buffer_at_clean o) (λ bytes. settle_clean _ (field_within_clean o offset count bytes))

pub read_buffer_field_clean : (f : BufferField) → AllClean (read_buffer_field f)
unfolding read_buffer_field
read_buffer_field_clean f = then_clean _ _ (buffer_at_clean f.buffer) (λ bytes. then_clean _ _ (settle_clean _ (still_within_clean f bytes)) (λ whole. give_clean _))

pub write_buffer_field_clean : (f : BufferField) (source : List ℕ) → AllClean (write_buffer_field f source)
unfolding write_buffer_field
write_buffer_field_clean f source = then_clean _ _ (buffer_at_clean f.buffer) (λ bytes. then_clean _ _ (settle_clean _ (still_within_clean f bytes)) (λ whole. then_clean _ _ (exchange_buffer_clean f.buffer _) (λ old. give_clean _)))
