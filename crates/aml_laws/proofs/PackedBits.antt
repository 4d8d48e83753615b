-- Bits of fields are packed into as many bytes as they need, and are the integer with these bits.
use Rattle.std.specs.Prelude.{◌≡◌, ◌<◌, ◌≤◌, ◌+◌, ◌-◌, ◌*◌, ◌/◌, ◌%◌, ◌^◌, ◌==◌, ℕ, zero, suc, Bool, true, false, if◌then◌else◌, List, [], ◌∷◌, ◌++◌, length, take, drop, replicate, get_or, slice_get, Some, Ok, refl}
use Rattle.std.proofs.Common.{arith, ap, sym, subst, ◌∙◌, length-append}
use Rattle.std.proofs.lemmas.List.{get_or_append_left, get_or-append_right, length-replicate, take_all}
use Rattle.std.proofs.lemmas.Nat.Bits.{bit_at-lt}
use Rattle.std.specs.Int.{bit_at}
use Rattle.byteorder.specs.Endian.{little_number}
use Rattle.ar_space.specs.declared.integer_width.IntegerWidth.{IntegerWidth}
use Rattle.ar_space.specs.declared.integer_width.IntegerWidth.TheVariants.{Bits32, Bits64}
use Rattle.ar_space.specs.declared.space.Width.{Width}
use Rattle.ar_space.specs.Accesses.{Accesses}
use Rattle.ar_space.specs.Change.{Change, give, settle, ◌>>=◌}
use Rattle.aml_path.specs.declared.segment.Seg.{Seg}
use Rattle.aml_path.specs.Paths.{Name}
use Rattle.aml_objects.specs.Objects.{Objects, buffer_at, buffer_in}
use Rattle.aml_objects.specs.declared.object.Object.TheVariants as object
use Rattle.aml_objects.specs.declared.entry.BufferField.{BufferField}
use Rattle.aml_objects.specs.declared.entry.Field.{Field}
use Rattle.aml_objects.specs.declared.entry.FieldSource.{FieldSource}
use Rattle.aml_objects.specs.declared.entry.FieldSource.TheVariants as sources
use Rattle.aml_objects.specs.declared.entry.FieldUnit.{FieldUnit}
use Rattle.aml_objects.specs.declared.entry.NamedObject.{NamedObject}
use Rattle.aml_convert.specs.Integers.{bits_of, bytes_of}
use Rattle.aml_fields.specs.declared.field_units.Unit.{Unit as Access}
use Rattle.aml_fields.specs.Bits.{bit, bits_from, bits_of as bits_of_bytes, byte_count, extended, field_bits, number_of, packed}
use Rattle.aml_fields.specs.BufferFields.{still_within, read_buffer_field, write_buffer_field}
use Rattle.aml_fields.specs.Covering.{Cover}
use Rattle.aml_fields.specs.Units.{units_of}
use Rattle.aml_fields.specs.UnitByUnit.{read_units, bits_read}
use Rattle.aml_fields.specs.Regions.{read_unit}
use Rattle.aml_fields.proofs.BitLists.{bit_of as bit_of_byte, from_at, length_from}
use Rattle.aml_fields.proofs.Cells.{little}
use Rattle.aml_fields.proofs.Covers.{units_cover}
use Rattle.aml_fields.proofs.Numbers.{AreZeros, little_rest, one_number, zeros_behind}
use Rattle.aml_fields.proofs.Putting.{length_extended}
use Rattle.aml_fields.proofs.SpaceBits.{bits_of_little}
use Rattle.aml_world.specs.state.State.{State, on_objects, on_space}
use Rattle.aml_world.specs.state.Run.{Run, lift}
use Rattle.aml_world.specs.fields.Regions.{field_declared}
use Rattle.aml_world.specs.fields.Fields.{located, region_bits, index_unit, index_bits, bank_unit, bank_bits, field_unit_bits, bits_in}
use Rattle.aml_meaning.specs.FieldCalls.{called_at}
use Rattle.aml_meaning.specs.Meaning.{meaning}
use Rattle.aml_laws.specs.FieldNames.{IsField, of_unit, of_buffer, NamesField, bits_read_at}
use Rattle.aml_laws.specs.IntegersOfValues.{lowest_first}
use Rattle.aml_laws.specs.NamesUsed.{use_of}
use Rattle.aml_laws.specs.OperatorTerms.{Gives}
use Rattle.aml_laws.specs.PackedBits.{ArePackedBits, IsIntegerOf, Packs, bit_in, bit_of}
use Rattle.aml_laws.specs.Plain.{AreBytes}
use Rattle.aml_laws.specs.UnitValues.{IsFilledWith, IsMergedInto}
use Rattle.aml_laws.specs.UnitsInTurn.{InTurn, none, one, bits_in_units}
use Rattle.aml_laws.proofs.AddressesAnswered.{gave_in_turn}
use Rattle.aml_laws.proofs.BitsOfSources.{as_many_bits, number_without_higher_bits, of_source}
use Rattle.aml_laws.proofs.BufferFieldWrites.{puts_bits, taken_apart}
use Rattle.aml_laws.proofs.FieldNamesUsed.{integer_read}
use Rattle.aml_laws.proofs.IntegersOfContents.{bits_are_bytes, bytes_within_length}
use Rattle.aml_laws.proofs.UnitsInOrder.{field_read}

-- ---- one bit, as a number and as a truth

abbrev digit : Bool → ℕ
digit b = if b then 1 else 0

digit_of : (x : ℕ) → x < 2 → x ≡ digit (x == 1)
digit_of zero l = refl
digit_of (suc zero) l = refl
digit_of (suc (suc x)) l = absurd (omega arith)

no_digit : (b : Bool) → digit b ≡ 0 → b ≡ false
no_digit false e = refl
no_digit true e = absurd (omega (arith, e))

number_bit : (n i : ℕ) → bit_at n i ≡ digit (bit n i)
number_bit n i = digit_of (bit_at n i) (bit_at-lt n i)

-- the bits of bytes, one by one
byte_bit : (bytes : List ℕ) (k : ℕ) → bit_of bytes k ≡ bit_in (bits_of_bytes bytes) k
byte_bit bytes k = number_bit (get_or bytes (k / 8) 0) (k % 8) ∙ ap digit (sym (bit_of_byte bytes k))

-- ---- bits that are packed

are_zeros : (n : ℕ) → AreZeros (replicate n false)
are_zeros zero = tt
are_zeros (suc n) = (refl, are_zeros n)

zero_at : (zs : List Bool) (i : ℕ) → AreZeros zs → get_or zs i false ≡ false
zero_at [] i h = refl
zero_at (z ∷ zs) zero h = h.0
zero_at (z ∷ zs) (suc i) h = zero_at zs i h.1

module _ (bits : List Bool) where
  abbrev room : ℕ
  room = byte_count (length bits)

  abbrev zeros : List Bool
  zeros = replicate (8 * room - length bits) false

  up_to_whole : length (bits ++ zeros) ≡ 8 * room
  up_to_whole = let a = length-append bits zeros in let z = length-replicate (8 * room - length bits) false in omega (arith, a, z)

  bits_packed : bits_of_bytes (packed bits) ≡ bits ++ zeros
  bits_packed = ap bits_of_bytes (sym (zeros_behind room bits zeros (are_zeros (8 * room - length bits)))) ∙ taken_apart room (bits ++ zeros) up_to_whole

  many : length (packed bits) ≡ room
  many = bytes_within_length room bits

  own_packed : (k : ℕ) → k < length bits → bit_of (packed bits) k ≡ bit_in bits k
  own_packed k less = byte_bit (packed bits) k ∙ ap (λ bs. bit_in bs k) bits_packed ∙ ap digit (get_or_append_left bits zeros false k less)

  zero_packed : (k : ℕ) → length bits ≤ k → bit_of (packed bits) k ≡ 0
  zero_packed k above =
      byte_bit (packed bits) k
      ∙ ap (λ bs. bit_in bs k) bits_packed
      ∙ ap digit (get_or-append_right bits zeros (length bits) k false refl above ∙ zero_at zeros (k - length bits) (are_zeros (8 * room - length bits)))

  pub packs : Packs (length bits) (bit_in bits) (packed bits)
  packs = record {
    packed = record {
      enough = let m = many in omega (arith, m);
      no_more = let m = many in omega (arith, m);
      zeros_above = zero_packed;
      are_bytes = bits_are_bytes room bits;
    };
    each = own_packed;
  }

packs_so_many : (count : ℕ) (bits : List Bool) → length bits ≡ count → Packs count (bit_in bits) (packed bits)
packs_so_many count bits e = subst (λ n. Packs n (bit_in bits) (packed bits)) e (packs bits)

with_bits : (count : ℕ) (old new : ℕ → ℕ) (bytes : List ℕ) → ((k : ℕ) → k < count → old k ≡ new k) → Packs count old bytes → Packs count new bytes
with_bits count old new bytes same p = record { packed = p.packed; each = λ k less. p.each k less ∙ same k less }

-- ---- the units of a field

counted_units : {H : Type 0} (read : Access → Change H ℕ) (o n : ℕ) (w : Width) (done : ℕ) (us : List Access) (h : H) (ns : List ℕ) (after : H) → InTurn read us h ns after → Cover o n w done us → done + length (bits_in_units us ns) ≡ n
counted_units read o n w done _ _ _ _ (none h) cover = omega (arith, cover)
counted_units read o n w done _ _ _ _ (one u us h t after m ms first others) (unit, fits, rest) =
    let r = counted_units read o n w (done + u.count) us t ms after others rest in
    let a = length-append (bits_from m u.first u.count) (bits_in_units us ms) in
    let l = length_from m u.first u.count in
    omega (arith, r, a, l)

pub units_are_packed : {S : Type 0} (read : Access → Change S ℕ) (f : FieldUnit) (s : S) (ns : List ℕ) (after : S) → InTurn read (units_of f.bit_offset f.bits f.access) s ns after
    → (bytes : List ℕ) × ((bits_read read f s ≡ (Ok bytes, after)) × Packs f.bits (bit_in (bits_in_units (units_of f.bit_offset f.bits f.access) ns)) bytes)
units_are_packed read f s ns after turns =
    let bits : List Bool = bits_in_units (units_of f.bit_offset f.bits f.access) ns in
    let many = counted_units read f.bit_offset f.bits f.access 0 (units_of f.bit_offset f.bits f.access) s ns after turns (units_cover f.bit_offset f.bits f.access) in
    (packed bits, (field_read read f s ns after turns, packs_so_many f.bits bits (omega (arith, many))))

-- ---- whatever is read

-- all that a change gives
abbrev Gave : {H A : Type 0} → (A → Type 0) → Change H A → Type 0
Gave P m = (h : _) (a : _) → (m h).0 ≡ Ok a → P a

abbrev Any : {A : Type 0} → A → Type 0
Any a = Unit {0}

any_gave : {H A : Type 0} (m : Change H A) → Gave Any m
any_gave m h a e = tt

then_gave : {H A B : Type 0} (Q : A → Type 0) (P : B → Type 0) (m : Change H A) (k : A → Change H B) → Gave Q m → ((a : A) → Q a → Gave P (k a)) → Gave P (m >>= k)
then_gave Q P m k first second h b e =
    let turn = gave_in_turn m k h b ((m >>= k) h).1 (ap (λ x. (x, ((m >>= k) h).1)) e) in
    second turn.first (first h turn.first turn.gave) (m h).1 b (ap (λ (p : _ × _). p.0) turn.then_gave)

give_gave : {H A : Type 0} (P : A → Type 0) (a : A) → P a → Gave P (give {S = H} a)
unfolding give
give_gave P a holds h b e = let same : a ≡ b = cc e in subst P same holds

lift_gave : {S A : Type 0} (P : A → Type 0) (m : Change (State S) A) → Gave P m → Gave P (lift m)
unfolding lift
lift_gave P m gave s a e = gave s.0 a e

on_objects_gave : {S A : Type 0} (P : A → Type 0) (m : Change Objects A) → Gave P m → Gave P (on_objects {S = S} m)
unfolding on_objects
on_objects_gave P m gave w a e = gave w.objects a e

on_space_gave : {S A : Type 0} (P : A → Type 0) (m : Change S A) → Gave P m → Gave P (on_space m)
unfolding on_space
on_space_gave P m gave w a e = gave w.space a e

module _ {H : Type 0} (read : Access → Change H ℕ) where
  units_gave : (o n : ℕ) (w : Width) (done : ℕ) (us : List Access) → Cover o n w done us → Gave (λ bits. done + length bits ≡ n) (read_units read us)
  unfolding read_units
  units_gave o n w done [] cover = give_gave (λ bits. done + length bits ≡ n) [] (omega (arith, cover))
  units_gave o n w done (u ∷ us) (unit, fits, rest) =
      then_gave Any (λ bits. done + length bits ≡ n) (read u) _ (any_gave (read u)) (λ m none.
      then_gave (λ bits. done + u.count + length bits ≡ n) (λ bits. done + length bits ≡ n) (read_units read us) _ (units_gave o n w (done + u.count) us rest) (λ bits so_many.
      give_gave (λ all. done + length all ≡ n) (extended u.count (drop u.first (bits_from m 0 64)) ++ bits)
      (let a = length-append (extended u.count (drop u.first (bits_from m 0 64))) bits in
      let l = length_extended u.count (drop u.first (bits_from m 0 64)) in
      omega (arith, so_many, a, l))))

  field_gave : (f : FieldUnit) → Gave (ArePackedBits f.bits) (bits_read read f)
  unfolding bits_read
  field_gave f =
      then_gave (λ bits. 0 + length bits ≡ f.bits) (ArePackedBits f.bits) (read_units read (units_of f.bit_offset f.bits f.access)) _
      (units_gave f.bit_offset f.bits f.access 0 (units_of f.bit_offset f.bits f.access) (units_cover f.bit_offset f.bits f.access))
      (λ bits so_many. give_gave (ArePackedBits f.bits) (packed bits) (packs_so_many f.bits bits (omega (arith, so_many))).packed)

buffer_field_gave : (f : BufferField) → Gave (ArePackedBits f.bits) (read_buffer_field f)
unfolding read_buffer_field
buffer_field_gave f =
    then_gave Any (ArePackedBits f.bits) (buffer_at f.buffer) _ (any_gave (buffer_at f.buffer)) (λ bytes none.
    then_gave Any (ArePackedBits f.bits) (settle (still_within f bytes)) _ (any_gave (settle (still_within f bytes))) (λ whole none_either.
    give_gave (ArePackedBits f.bits) (packed (field_bits bytes f.bit_offset f.bits)) (packs_so_many f.bits (field_bits bytes f.bit_offset f.bits) (as_many_bits bytes f.bit_offset f.bits)).packed))

module _ {S : Type 0} (accesses : Accesses S) (call : List Seg → Run S ℕ) where
  source_gave : (source : FieldSource) (f : FieldUnit) → Gave (ArePackedBits f.bits) (field_unit_bits accesses call source f)
  unfolding region_bits index_bits bank_bits
  source_gave (sources.Region n) f =
      then_gave Any (ArePackedBits f.bits) (located accesses call n) _ (any_gave (located accesses call n)) (λ r none.
      lift_gave (ArePackedBits f.bits) _ (on_space_gave (ArePackedBits f.bits) _ (field_gave (read_unit accesses r f.access) f)))
  source_gave (sources.Index i d) f =
      then_gave Any (ArePackedBits f.bits) (lift (field_declared i)) _ (any_gave (lift (field_declared i))) (λ index none.
      then_gave Any (ArePackedBits f.bits) (lift (field_declared d)) _ (any_gave (lift (field_declared d))) (λ behind none_either.
      field_gave (index_unit accesses call index behind f.access) f))
  source_gave (sources.Bank n b) f =
      then_gave Any (ArePackedBits f.bits) (lift (field_declared b.field)) _ (any_gave (lift (field_declared b.field))) (λ bank none.
      then_gave Any (ArePackedBits f.bits) (located accesses call n) _ (any_gave (located accesses call n)) (λ r none_either.
      field_gave (bank_unit accesses call bank b.value r f.access) f))

  any_field_gave : (o : NamedObject) (f : Field) (bits : ℕ) → IsField o f bits → Gave (ArePackedBits bits) (bits_in accesses call f)
  any_field_gave _ _ _ (of_unit u) = source_gave u.source u
  any_field_gave _ _ _ (of_buffer b) = lift_gave (ArePackedBits b.bits) _ (on_objects_gave (ArePackedBits b.bits) _ (buffer_field_gave b))

  pub any_field_is_packed : (o : NamedObject) (f : Field) (bits : ℕ) → IsField o f bits → (s : State S × ℕ) (bytes : List ℕ) (after : State S × ℕ) → bits_in accesses call f s ≡ (Ok bytes, after) → ArePackedBits bits bytes
  any_field_is_packed o f bits is s bytes after e = any_field_gave o f bits is s bytes (ap (λ (p : _ × _). p.0) e)

-- ---- buffer fields

source_bit : (bytes : List ℕ) (offset count k : ℕ) → k < count → bit_in (field_bits bytes offset count) k ≡ bit_of bytes (offset + k)
source_bit bytes offset count k less = ap digit (of_source bytes offset count k less) ∙ sym (byte_bit bytes (offset + k))

buffer_is : (o : ℕ) (h : Objects) (buffer bytes : List ℕ) → slice_get h o ≡ Some (object.Buffer buffer) → (buffer_at o h).0 ≡ Ok bytes → buffer ≡ bytes
unfolding buffer_at
buffer_is o h buffer bytes at e = cc (ap buffer_in (sym at) ∙ e)

field_of_buffer : (f : BufferField) (bytes : List ℕ) → Gave (Packs f.bits (λ k. bit_of bytes (f.bit_offset + k))) (settle (still_within f bytes) >>= (λ whole. give {S = Objects} (packed (field_bits bytes f.bit_offset f.bits))))
field_of_buffer f bytes =
    let bits : List Bool = field_bits bytes f.bit_offset f.bits in
    then_gave Any (Packs f.bits (λ k. bit_of bytes (f.bit_offset + k))) (settle (still_within f bytes)) _ (any_gave (settle (still_within f bytes))) (λ whole none.
    give_gave (Packs f.bits (λ k. bit_of bytes (f.bit_offset + k))) (packed bits)
    (with_bits f.bits (bit_in bits) (λ k. bit_of bytes (f.bit_offset + k)) (packed bits) (source_bit bytes f.bit_offset f.bits) (packs_so_many f.bits bits (as_many_bits bytes f.bit_offset f.bits))))

pub buffer_field_is_packed : (f : BufferField) (h after : Objects) (buffer bytes : List ℕ) → slice_get h f.buffer ≡ Some (object.Buffer buffer) → read_buffer_field f h ≡ (Ok bytes, after) → Packs f.bits (λ k. bit_of buffer (f.bit_offset + k)) bytes
unfolding read_buffer_field
buffer_field_is_packed f h after buffer bytes at e =
    let turn = gave_in_turn (buffer_at f.buffer) (λ held. settle (still_within f held) >>= (λ whole. give (packed (field_bits held f.bit_offset f.bits)))) h bytes after e in
    let same = buffer_is f.buffer h buffer turn.first at turn.gave in
    subst (λ held. Packs f.bits (λ k. bit_of held (f.bit_offset + k)) bytes) (sym same) (field_of_buffer f turn.first (buffer_at f.buffer h).1 bytes (ap (λ (p : _ × _). p.0) turn.then_gave))

-- ---- the integer of some bits

low_bit : (bytes : List ℕ) (n k : ℕ) → AreBytes bytes → n ≡ little bytes → k < 8 * length bytes → bit_at n k ≡ bit_of bytes k
low_bit bytes n k small e less =
    number_bit n k
    ∙ ap digit (ap (bit n) (omega arith) ∙ sym (from_at n 0 (8 * length bytes) k less) ∙ ap (λ bits. get_or bits k false) (bits_of_little bytes n small e))
    ∙ sym (byte_bit bytes k)

little_is : (xs : List ℕ) → little xs ≡ little_number (length xs) xs
little_is [] = refl
little_is (x ∷ xs) = ap (λ y. x + 256 * y) (little_is xs ∙ sym (little_rest 0 (length xs) x xs))

little_number_of : (bytes : List ℕ) → AreBytes bytes → little bytes ≡ number_of (bits_of_bytes bytes)
little_number_of bytes small = little_is bytes ∙ one_number bytes small

lowest_is_little : (bytes : List ℕ) → lowest_first bytes ≡ little bytes
lowest_is_little [] = refl
lowest_is_little (b ∷ bytes) = ap (λ n. b + 256 * n) (lowest_is_little bytes)

is_integer : (count : ℕ) (bytes : List ℕ) → ArePackedBits count bytes → IsIntegerOf count (bit_of bytes) (lowest_first bytes)
is_integer count bytes p = record {
  fits = subst (λ n. n < 2 ^ count) (sym (lowest_is_little bytes ∙ little_number_of bytes p.are_bytes)) (number_without_higher_bits count (bits_of_bytes bytes) (λ k above. no_digit (get_or (bits_of_bytes bytes) k false) (sym (byte_bit bytes k) ∙ p.zeros_above k above)));
  each = λ k less. low_bit bytes (lowest_first bytes) k p.are_bytes (lowest_is_little bytes) (let e = p.enough in omega (arith, e, less));
}

width_in_bytes : (width : IntegerWidth) → bits_of width ≡ 8 * bytes_of width
width_in_bytes Bits32 = refl
width_in_bytes Bits64 = refl

module _ {S : Type 0} (accesses : Accesses S) (scope : List Seg) (depth : ℕ) (w : State S) (steps : ℕ) (n : Name) (f : Field) (bits : ℕ) where
  by_bytes : (bytes : List ℕ) (after : State S × ℕ) → NamesField w scope n f bits → 1 ≤ bits → bits_read_at accesses depth f (w, steps) ≡ (Ok bytes, after) → bits ≤ bits_of after.0.width → ArePackedBits bits bytes
      → (m : ℕ) × (Gives accesses scope depth (use_of n) (w, suc steps) m after × IsIntegerOf bits (bit_of bytes) m)
  by_bytes [] after names some read few p = let e = p.enough in absurd (omega (arith, e, some))
  by_bytes (b ∷ bytes) after names some read few p =
      let short : length (b ∷ bytes) ≤ bytes_of after.0.width = let e = p.no_more in let wide = width_in_bytes after.0.width in omega (arith, e, few, wide) in
      let whole : take (bytes_of after.0.width) (b ∷ bytes) ≡ b ∷ bytes = take_all (bytes_of after.0.width) (b ∷ bytes) short in (
        lowest_first (b ∷ bytes),
        (
          subst (λ bs. Gives accesses scope depth (use_of n) (w, suc steps) (lowest_first bs) after) whole (integer_read accesses scope depth w steps n f bits b bytes after names read few),
          is_integer bits (b ∷ bytes) p,
        ),
      )

  pub few_bits_are_an_integer : (bytes : List ℕ) (after : State S × ℕ) → NamesField w scope n f bits → 1 ≤ bits → bits_read_at accesses depth f (w, steps) ≡ (Ok bytes, after) → bits ≤ bits_of after.0.width
      → (m : ℕ) × (Gives accesses scope depth (use_of n) (w, suc steps) m after × IsIntegerOf bits (bit_of bytes) m)
  few_bits_are_an_integer bytes after names some read few =
      by_bytes bytes after names some read few (any_field_is_packed accesses (called_at accesses (meaning accesses) depth) names.object f bits names.is (w, steps) bytes after read)

-- ---- what is written

pub buffer_field_is_written : (f : BufferField) (source : List ℕ) (h after : Objects) (buffer : List ℕ) → write_buffer_field f source h ≡ (Ok tt, after) → slice_get after f.buffer ≡ Some (object.Buffer buffer) → (k : ℕ) → k < f.bits
    → bit_of buffer (f.bit_offset + k) ≡ bit_of source k
buffer_field_is_written f source h after buffer e at k less =
    byte_bit buffer (f.bit_offset + k) ∙ ap digit (puts_bits f source h after buffer e at k less) ∙ source_bit source 0 f.bits k less ∙ ap (bit_of source) (omega arith)

unit_bit : (source : List ℕ) (u : Access) (value k : ℕ) → k < u.count → bit value (u.first + k) ≡ get_or (field_bits source u.position u.count) k false → bit_at value (u.first + k) ≡ bit_of source (u.position + k)
unit_bit source u value k less e = number_bit value (u.first + k) ∙ ap digit e ∙ source_bit source u.position u.count k less

pub unit_is_filled : (other : Bool) (f : FieldUnit) (source : List ℕ) (u : Access) (value : ℕ) → IsFilledWith other f source u value → (k : ℕ) → k < u.count → bit_at value (u.first + k) ≡ bit_of source (u.position + k)
unit_is_filled other f source u value h k less = unit_bit source u value k less (h.inside k less)

pub unit_is_merged : (old : ℕ) (f : FieldUnit) (source : List ℕ) (u : Access) (value : ℕ) → IsMergedInto old f source u value → (k : ℕ) → k < u.count → bit_at value (u.first + k) ≡ bit_of source (u.position + k)
unit_is_merged old f source u value h k less = unit_bit source u value k less (h.inside k less)
