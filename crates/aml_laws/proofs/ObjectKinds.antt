-- Changes of objects keep each object, under its number, and its kind.
use Rattle.std.specs.Prelude.{◌≡◌, ◌⊎◌, ℕ, zero, suc, ◌≤◌, ◌<◌, nat_lt, List, [], ◌∷◌, ◌++◌, length, take, slice_get, slice_set, Option, Some, None, Ok, Err, refl}
use Rattle.std.proofs.Common.{arith, inl, inr, ap, sym, ◌∙◌, subst}
use Rattle.std.proofs.lemmas.Bool.{cases_lt}
use Rattle.std.proofs.lemmas.List.{length_push}
use Rattle.ar_space.specs.Outcome.{Outcome}
use Rattle.ar_space.specs.Change.{Change}
use Rattle.aml_objects.specs.declared.value.Value.{Value}
use Rattle.aml_objects.specs.declared.value.Value.TheVariants as value
use Rattle.aml_objects.specs.declared.object.Element.{Element}
use Rattle.aml_objects.specs.declared.object.Element.TheVariants as element
use Rattle.aml_objects.specs.declared.object.Object.{Object}
use Rattle.aml_objects.specs.declared.object.Object.TheVariants as object
use Rattle.aml_objects.specs.declared.entry.BufferField.{BufferField}
use Rattle.aml_objects.specs.Objects.{Objects, make, make_string, make_buffer, make_package, string_at, buffer_at, elements_at, with_sized, with_buffer, write_buffer, with_string, write_string, byte_written, with_byte, write_byte, exchanged_with, with_exchanged, exchange_buffer, element_at, byte_at, element_there, element_written, with_element, write_element}
use Rattle.aml_objects.specs.Copies.{string_copy, buffer_copy, value_copy, held_copy, element_copy, copies_of, whole_copy, package_copy, if_whole, whole, copied}
use Rattle.aml_fields.specs.BufferFields.{new_buffer_field, read_buffer_field, write_buffer_field}
use Rattle.aml_world.specs.declared.values.object_type.ObjectType.{ObjectType}
use Rattle.aml_laws.specs.Kinds.{kind_of, kind_at, KeepsKinds}
use Rattle.aml_laws.proofs.LimitsRefused.{object_made, object_refused}
use Rattle.aml_laws.proofs.Preorders.{either_branch, Preorder, Respects, give_respects, settle_respects, stop_respects, then_respects}

pub kinds_reflexive : (h : Objects) → KeepsKinds h h
kinds_reflexive h = record { more = omega arith; few = λ l. l; kinds = λ o kind e. e }

pub kinds_transitive : (h i j : Objects) → KeepsKinds h i → KeepsKinds i j → KeepsKinds h j
kinds_transitive h i j f g = record { more = let a = f.more in let b = g.more in omega arith; few = λ l. g.few (f.few l); kinds = λ o kind e. g.kinds o kind (f.kinds o kind e) }

abbrev pub kinds_preorder : Preorder Objects
kinds_preorder = record { Leads = KeepsKinds; reflexive = kinds_reflexive; transitive = kinds_transitive }

abbrev pub KeepsObjectKinds : {A : Type 0} → Change Objects A → Type 0
KeepsObjectKinds m = Respects kinds_preorder m

kind_in_longer : (h k : Objects) (o : ℕ) (kind : ObjectType) → kind_at h o ≡ Some kind → kind_at (h ++ k) o ≡ Some kind
kind_in_longer [] k o kind e = absurd (cc e)
kind_in_longer (x ∷ h) k zero kind e = e
kind_in_longer (x ∷ h) k (suc o) kind e = kind_in_longer h k o kind e

length_of_longer : (h k : Objects) → length h ≤ length (h ++ k)
length_of_longer [] k = omega arith
length_of_longer (x ∷ h) k = let l = length_of_longer h k in omega arith

kinds_of_longer : (h k : Objects) → (length h ≤ 262144 → length (h ++ k) ≤ 262144) → KeepsKinds h (h ++ k)
kinds_of_longer h k few = record { more = length_of_longer h k; few = few; kinds = kind_in_longer h k }

-- an object written over by one of its kind
kind_after_set : (h : Objects) (n : ℕ) (x y : Object) → slice_get h n ≡ Some x → kind_of y ≡ kind_of x → (o : ℕ) (kind : ObjectType) → kind_at h o ≡ Some kind → kind_at (slice_set h n y) o ≡ Some kind
kind_after_set [] n x y at is o kind e = absurd (cc at)
kind_after_set (z ∷ h) zero x y at is zero kind e = ap Some (is ∙ ap kind_of (cc at)) ∙ e
kind_after_set (z ∷ h) zero x y at is (suc o) kind e = e
kind_after_set (z ∷ h) (suc n) x y at is zero kind e = e
kind_after_set (z ∷ h) (suc n) x y at is (suc o) kind e = kind_after_set h n x y at is o kind e

length_after_set : (h : Objects) (n : ℕ) (y : Object) → length h ≤ length (slice_set h n y)
length_after_set [] n y = omega arith
length_after_set (z ∷ h) zero y = omega arith
length_after_set (z ∷ h) (suc n) y = let l = length_after_set h n y in omega arith

length_before_set : (h : Objects) (n : ℕ) (y : Object) → length (slice_set h n y) ≤ length h
length_before_set [] n y = omega arith
length_before_set (z ∷ h) zero y = omega arith
length_before_set (z ∷ h) (suc n) y = let l = length_before_set h n y in omega arith

few_after_set : (h : Objects) (n : ℕ) (y : Object) → length h ≤ 262144 → length (slice_set h n y) ≤ 262144
few_after_set h n y few = let l = length_before_set h n y in omega (arith, l, few)

kinds_after_set : (h : Objects) (n : ℕ) (x y : Object) → slice_get h n ≡ Some x → kind_of y ≡ kind_of x → KeepsKinds h (slice_set h n y)
kinds_after_set h n x y at is = record { more = length_after_set h n y; few = few_after_set h n y; kinds = kind_after_set h n x y at is }

-- ---- objects that are made

one_more : (h : Objects) (o : Object) → length h < 262144 → length (h ++ o ∷ []) ≤ 262144
one_more h o room = let pushed = length_push h o in omega (arith, room, pushed)

made_by_room : (o : Object) (h : Objects) → (length h < 262144) ⊎ (262144 ≤ length h) → KeepsKinds h (make o h).1
made_by_room o h (inl room) = subst (λ (p : Outcome ℕ × Objects). KeepsKinds h p.1) (sym (object_made o h room)) (kinds_of_longer h (o ∷ []) (λ few. one_more h o room))
made_by_room o h (inr full) = subst (λ (p : Outcome ℕ × Objects). KeepsKinds h p.1) (sym (object_refused o h full)) (kinds_reflexive h)

make_keeps_kinds : (o : Object) → KeepsObjectKinds (make o)
make_keeps_kinds o = record { respects = λ h. made_by_room o h (cases_lt (length h) 262144) }

pub make_string_keeps_kinds : (bs : List ℕ) → KeepsObjectKinds (make_string bs)
unfolding make_string
make_string_keeps_kinds bs = then_respects _ _ (settle_respects _) (λ u. then_respects _ _ (make_keeps_kinds _) (λ n. give_respects _))

pub make_buffer_keeps_kinds : (bs : List ℕ) → KeepsObjectKinds (make_buffer bs)
unfolding make_buffer
make_buffer_keeps_kinds bs = then_respects _ _ (settle_respects _) (λ u. then_respects _ _ (make_keeps_kinds _) (λ n. give_respects _))

pub make_package_keeps_kinds : (es : List Element) → KeepsObjectKinds (make_package es)
unfolding make_package
make_package_keeps_kinds es = then_respects _ _ (settle_respects _) (λ u. then_respects _ _ (make_keeps_kinds _) (λ n. give_respects _))

-- ---- objects that are read

pub string_at_keeps_kinds : (o : ℕ) → KeepsObjectKinds (string_at o)
unfolding string_at
string_at_keeps_kinds o = record { respects = kinds_reflexive }

pub buffer_at_keeps_kinds : (o : ℕ) → KeepsObjectKinds (buffer_at o)
unfolding buffer_at
buffer_at_keeps_kinds o = record { respects = kinds_reflexive }

pub elements_at_keeps_kinds : (o : ℕ) → KeepsObjectKinds (elements_at o)
unfolding elements_at
elements_at_keeps_kinds o = record { respects = kinds_reflexive }

pub element_at_keeps_kinds : (o i : ℕ) → KeepsObjectKinds (element_at o i)
unfolding element_at
element_at_keeps_kinds o i = record { respects = kinds_reflexive }

pub element_there_keeps_kinds : (o i : ℕ) → KeepsObjectKinds (element_there o i)
unfolding element_there
element_there_keeps_kinds o i = record { respects = kinds_reflexive }

pub byte_at_keeps_kinds : (o i : ℕ) → KeepsObjectKinds (byte_at o i)
unfolding byte_at
byte_at_keeps_kinds o i = record { respects = kinds_reflexive }

-- ---- objects that are copied

string_copy_keeps_kinds : (o : ℕ) → KeepsObjectKinds (string_copy o)
unfolding string_copy
string_copy_keeps_kinds o = then_respects _ _ (string_at_keeps_kinds o) make_string_keeps_kinds

buffer_copy_keeps_kinds : (o : ℕ) → KeepsObjectKinds (buffer_copy o)
unfolding buffer_copy
buffer_copy_keeps_kinds o = then_respects _ _ (buffer_at_keeps_kinds o) make_buffer_keeps_kinds

module _ (pk : ℕ → Change Objects Value) (packs : (o : ℕ) → KeepsObjectKinds (pk o)) where
  value_copy_keeps_kinds : (v : Value) → KeepsObjectKinds (value_copy pk v)
  unfolding value_copy
  value_copy_keeps_kinds value.Uninitialized = give_respects _
  value_copy_keeps_kinds (value.Integer n) = give_respects _
  value_copy_keeps_kinds (value.String o) = string_copy_keeps_kinds o
  value_copy_keeps_kinds (value.Buffer o) = buffer_copy_keeps_kinds o
  value_copy_keeps_kinds (value.Package o) = packs o
  value_copy_keeps_kinds (value.Reference r) = give_respects _

  element_copy_keeps_kinds : (e : Element) → KeepsObjectKinds (element_copy pk e)
  unfolding element_copy held_copy
  element_copy_keeps_kinds (element.Value v) = then_respects _ _ (value_copy_keeps_kinds v) (λ u. give_respects _)
  element_copy_keeps_kinds (element.Name n s) = give_respects _

  copies_keep_kinds : (es done : List Element) → KeepsObjectKinds (copies_of pk es done)
  unfolding copies_of
  copies_keep_kinds [] done = give_respects _
  copies_keep_kinds (e ∷ es) done = then_respects _ _ (element_copy_keeps_kinds e) (λ c. copies_keep_kinds es (done ++ c ∷ []))

  whole_copy_keeps_kinds : (o : ℕ) → KeepsObjectKinds (whole_copy pk o)
  unfolding whole_copy
  whole_copy_keeps_kinds o = then_respects _ _ (elements_at_keeps_kinds o) (λ es. then_respects _ _ (copies_keep_kinds es []) (λ cs. then_respects _ _ (make_keeps_kinds _) (λ n. give_respects _)))

package_copy_keeps_kinds : (n o : ℕ) → KeepsObjectKinds (package_copy n o)
unfolding package_copy
package_copy_keeps_kinds zero o = stop_respects _
package_copy_keeps_kinds (suc n) o = whole_copy_keeps_kinds (package_copy n) (package_copy_keeps_kinds n) o

kinds_if_whole : (h : Objects) (r : Outcome Value) (h1 : Objects) → KeepsKinds h h1 → KeepsKinds h (if_whole h r h1).1
kinds_if_whole h (Ok v) h1 k = k
kinds_if_whole h (Err e) h1 k = kinds_reflexive h

pub copied_keeps_kinds : (v : Value) → KeepsObjectKinds (copied v)
unfolding copied whole
copied_keeps_kinds v = record { respects = λ h. kinds_if_whole h (value_copy (package_copy 64) v h).0 (value_copy (package_copy 64) v h).1 ((value_copy_keeps_kinds (package_copy 64) (package_copy_keeps_kinds 64) v).respects h) }

-- ---- objects that are written to

with_sized_kinds : (bs : List ℕ) (h : Objects) (o : ℕ) (x y : Object) → slice_get h o ≡ Some x → kind_of y ≡ kind_of x → KeepsKinds h (with_sized bs o y h).1
with_sized_kinds bs h o x y at is = either_branch (λ (z : Outcome (Unit {0}) × Objects). KeepsKinds h z.1) (nat_lt 1048576 (length bs)) _ _ (kinds_reflexive h) (kinds_after_set h o x y at is)

with_buffer_kinds : (x : Option Object) (o : ℕ) (new : List ℕ) (h : Objects) → slice_get h o ≡ x → KeepsKinds h (with_buffer x o new h).1
with_buffer_kinds None o new h at = kinds_reflexive h
with_buffer_kinds (Some (object.String bs)) o new h at = kinds_reflexive h
with_buffer_kinds (Some (object.Buffer bs)) o new h at = with_sized_kinds _ h o (object.Buffer bs) _ at refl
with_buffer_kinds (Some (object.Package es)) o new h at = kinds_reflexive h

pub write_buffer_keeps_kinds : (o : ℕ) (new : List ℕ) → KeepsObjectKinds (write_buffer o new)
unfolding write_buffer
write_buffer_keeps_kinds o new = record { respects = λ h. with_buffer_kinds (slice_get h o) o new h refl }

with_string_kinds : (x : Option Object) (o : ℕ) (new : List ℕ) (h : Objects) → slice_get h o ≡ x → KeepsKinds h (with_string x o new h).1
with_string_kinds None o new h at = kinds_reflexive h
with_string_kinds (Some (object.String bs)) o new h at = with_sized_kinds _ h o (object.String bs) _ at refl
with_string_kinds (Some (object.Buffer bs)) o new h at = kinds_reflexive h
with_string_kinds (Some (object.Package es)) o new h at = kinds_reflexive h

pub write_string_keeps_kinds : (o : ℕ) (new : List ℕ) → KeepsObjectKinds (write_string o new)
unfolding write_string
write_string_keeps_kinds o new = record { respects = λ h. with_string_kinds (slice_get h o) o new h refl }

byte_written_kind : (i x : ℕ) (ob : Object) → kind_of (byte_written i x ob) ≡ kind_of ob
byte_written_kind i x (object.String bs) = refl
byte_written_kind i x (object.Buffer bs) = refl
byte_written_kind i x (object.Package es) = refl

with_byte_kinds : (ob : Option Object) (o i x : ℕ) (h : Objects) → slice_get h o ≡ ob → KeepsKinds h (with_byte ob o i x h).1
with_byte_kinds None o i x h at = kinds_reflexive h
with_byte_kinds (Some ob) o i x h at = kinds_after_set h o ob _ at (byte_written_kind i x ob)

pub write_byte_keeps_kinds : (o i x : ℕ) → KeepsObjectKinds (write_byte o i x)
unfolding write_byte
write_byte_keeps_kinds o i x = record { respects = λ h. with_byte_kinds (slice_get h o) o i x h refl }

element_written_kind : (i : ℕ) (e : Element) (ob : Object) → kind_of (element_written i e ob) ≡ kind_of ob
element_written_kind i e (object.String bs) = refl
element_written_kind i e (object.Buffer bs) = refl
element_written_kind i e (object.Package es) = refl

with_element_kinds : (ob : Option Object) (o i : ℕ) (e : Element) (h : Objects) → slice_get h o ≡ ob → KeepsKinds h (with_element ob o i e h).1
with_element_kinds None o i e h at = kinds_reflexive h
with_element_kinds (Some ob) o i e h at = kinds_after_set h o ob _ at (element_written_kind i e ob)

pub write_element_keeps_kinds : (o i : ℕ) (e : Element) → KeepsObjectKinds (write_element o i e)
unfolding write_element
write_element_keeps_kinds o i e = record { respects = λ h. with_element_kinds (slice_get h o) o i e h refl }

exchanged_with_kind : (new : List ℕ) (ob : Object) → kind_of (exchanged_with new ob) ≡ kind_of ob
exchanged_with_kind new (object.String bs) = refl
exchanged_with_kind new (object.Buffer bs) = refl
exchanged_with_kind new (object.Package es) = refl

with_exchanged_kinds : (ob : Option Object) (o : ℕ) (new : List ℕ) (h : Objects) → slice_get h o ≡ ob → KeepsKinds h (with_exchanged ob o new h).1
with_exchanged_kinds None o new h at = kinds_reflexive h
with_exchanged_kinds (Some ob) o new h at = kinds_after_set h o ob _ at (exchanged_with_kind new ob)

exchange_buffer_keeps_kinds : (o : ℕ) (new : List ℕ) → KeepsObjectKinds (exchange_buffer o new)
unfolding exchange_buffer
exchange_buffer_keeps_kinds o new = record { respects = λ h. with_exchanged_kinds (slice_get h o) o new h refl }

pub new_buffer_field_keeps_kinds : (o offset count : ℕ) → KeepsObjectKinds (new_buffer_field o offset count)
unfolding new_buffer_field
new_buffer_field_keeps_kinds o offset count = then_respects _ _ (buffer_at_keeps_kinds o) (λ bytes. settle_respects _)

pub read_buffer_field_keeps_kinds : (f : BufferField) → KeepsObjectKinds (read_buffer_field f)
unfolding read_buffer_field
read_buffer_field_keeps_kinds f = then_respects _ _ (buffer_at_keeps_kinds f.buffer) (λ bytes. then_respects _ _ (settle_respects _) (λ whole. give_respects _))

pub write_buffer_field_keeps_kinds : (f : BufferField) (source : List ℕ) → KeepsObjectKinds (write_buffer_field f source)
unfolding write_buffer_field
write_buffer_field_keeps_kinds f source = then_respects _ _ (buffer_at_keeps_kinds f.buffer) (λ bytes. then_respects _ _ (settle_respects _) (λ whole. then_respects _ _ (exchange_buffer_keeps_kinds f.buffer _) (λ old. give_respects _)))

-- ---- what is taken back: the first so many objects, where some were added

kind_in_front : (h i : Objects) (n o : ℕ) (kind : ObjectType) → o < n → kind_at i o ≡ Some kind → kind_at (take n i) o ≡ Some kind
kind_in_front h i zero o kind l e = absurd (omega arith)
kind_in_front h [] (suc n) o kind l e = e
kind_in_front h (x ∷ i) (suc n) zero kind l e = e
kind_in_front h (x ∷ i) (suc n) (suc o) kind l e = kind_in_front h i n o kind (omega arith) e

index_of_kind : (h : Objects) (o : ℕ) (kind : ObjectType) → kind_at h o ≡ Some kind → o < length h
index_of_kind [] o kind e = absurd (cc e)
index_of_kind (x ∷ h) zero kind e = omega arith
index_of_kind (x ∷ h) (suc o) kind e = let l = index_of_kind h o kind e in omega arith

length_of_front : (n : ℕ) (i : Objects) → n ≤ length i → n ≤ length (take n i)
length_of_front zero i l = omega arith
length_of_front (suc n) [] l = absurd (omega arith)
length_of_front (suc n) (x ∷ i) l = let k = length_of_front n i (omega arith) in omega arith

front_is_short : (n : ℕ) (i : Objects) → length (take n i) ≤ n
front_is_short zero i = omega arith
front_is_short (suc n) [] = omega arith
front_is_short (suc n) (x ∷ i) = let l = front_is_short n i in omega arith

few_in_front : (n : ℕ) (i : Objects) → n ≤ 262144 → length (take n i) ≤ 262144
few_in_front n i few = let l = front_is_short n i in omega (arith, l, few)

pub kinds_of_front : (h i : Objects) → KeepsKinds h i → KeepsKinds h (take (length h) i)
kinds_of_front h i k = record { more = length_of_front (length h) i k.more; few = few_in_front (length h) i; kinds = λ o kind e. kind_in_front h i (length h) o kind (index_of_kind h o kind e) (k.kinds o kind e) }
