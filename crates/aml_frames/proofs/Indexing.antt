-- Fields behind an index field and a data field: units that are accessed one by one are what the field's access means.
use Rattle.std.proofs.Common.{◌≡◌, ◌≤◌, ◌<◌, ◌+◌, ◌-◌, ◌*◌, ◌==◌, ℕ, suc, List, [], ◌∷◌, ◌++◌, length, take, drop, min, replicate, if◌then◌else◌, Bool, true, false, Ok, refl, ◌∙◌, ap, sym, subst, arith, length-append}
use Rattle.std.proofs.Math.Seq.{take-append_seam, drop-append-add}
use Rattle.std.proofs.lemmas.List.{append_assoc, drop-drop, length-replicate, append-nil}
use Rattle.aml_fields.specs.Bits.{bits_from, bits_of, byte_count, bytes_within, extended, packed, put}
use Rattle.aml_fields.specs.UnitByUnit.{read_units, bits_read, write_units, kept, kept_by}
use Rattle.aml_fields.proofs.UnitLoops.{in_unit, in_field}
use Rattle.aml_fields.proofs.Numbers.{zeros_behind, zero_bytes, drop_zeros, known_by_bits, small_zeros}
use Rattle.aml_fields.proofs.Putting.{length_extended}
use Rattle.std.proofs.Math.Nat.{add-mul, one-mul}
use Rattle.ar_space.specs.Accesses.{Accesses, bit_count}
use Rattle.ar_space.specs.Change.{Change, give, go_on, ◌>>=◌, ◌>>◌}
use Rattle.ar_space.specs.declared.space.Width.{Width}
use Rattle.aml_objects.specs.declared.entry.Field.TheVariants as field
use Rattle.aml_objects.specs.declared.entry.FieldSource.TheVariants as sources
use Rattle.aml_objects.specs.declared.entry.FieldUnit.{FieldUnit}
use Rattle.aml_objects.specs.declared.entry.UpdateRule.{UpdateRule}
use Rattle.aml_objects.specs.declared.entry.UpdateRule.TheVariants.{Preserve, WriteAsOnes, WriteAsZeros}
use Rattle.aml_fields.specs.declared.field_units.Unit.{Unit as UnitAccess}
use Rattle.aml_fields.specs.Covering.{Cover}
use Rattle.aml_fields.specs.Units.{units_of}
use Rattle.aml_fields.proofs.Covers.{units_cover}
use Rattle.aml_world.specs.declared.fields.regions.RegionField.{RegionField}
use Rattle.aml_world.specs.state.State.{State}
use Rattle.aml_world.specs.state.Run.{Run, lift}
use Rattle.aml_world.specs.fields.Regions.{field_declared}
use Rattle.aml_world.specs.fields.Fields.{unit_bytes, region_written, index_unit_written, index_bits, index_written, field_unit_bits, field_unit_written}
use Rattle.aml_meaning.specs.declared.flow.Flow.TheVariants as flow
use Rattle.aml_meaning.specs.Meaning.{meaning}
use Rattle.aml_frames.specs.declared.indexed.IndexedField.{IndexedField}
use Rattle.aml_frames.specs.declared.uses.Accessed.TheVariants as object
use Rattle.aml_frames.specs.declared.uses.Doing.{Doing}
use Rattle.aml_frames.specs.declared.uses.Doing.TheVariants as doing
use Rattle.aml_frames.specs.declared.uses.Reading.{Reading}
use Rattle.aml_frames.specs.Uses.{asking, access_done, read_as}
use Rattle.aml_frames.specs.Indexed.{merged_bits, keeps, is_kept, unit_within, bits_within, put_bits, put_unit, merged_unit, unit_read, reads_left, written_over, writes_left, field_at, indexed_done}
use Rattle.aml_frames.proofs.BitBytes.{length_within, bits_again, put_length}
use Rattle.aml_frames.proofs.Stepping.{bind_bind}
use Rattle.aml_frames.proofs.Targeting.{bind_as, bind_same}
use Rattle.aml_frames.proofs.Using.{given_one}

-- ---- no unit of a field is cut

pub all_within : (bits : ℕ) (u : UnitAccess) → u.first + u.count ≤ 64 → u.position + u.count ≤ bits → unit_within bits u ≡ u
all_within bits u h i =
    let first : min u.first 64 ≡ u.first = omega (arith, h) in
    let place : min u.position bits ≡ u.position = omega (arith, i) in
    let many : min u.count (min (64 - min u.first 64) (bits - min u.position bits)) ≡ u.count = omega (arith, h, i, first, place) in
    rw (many, first, place) refl

-- ---- what is bound ends

pub bound : {S A B : Type 0} (m : Change S A) (k : A → Change S B) (s s1 : S) (a : A) → m s ≡ (Ok a, s1) → (m >>= k) s ≡ k a s1
unfolding ◌>>=◌ go_on
bound m k s s1 a e = rw e refl

pub after_same : {S A B : Type 0} (m n : Change S A) (k : A → Change S B) (s : S) → m s ≡ n s → (m >>= k) s ≡ (n >>= k) s
unfolding ◌>>=◌
after_same m n k s e = rw e refl

-- ---- the bits of units that were read, one unit behind another

-- bits that are put behind those that were put before
put_on : (done new old : List Bool) (p : ℕ) → length done ≡ p → put p new (put 0 done old) ≡ put 0 (done ++ new) old
put_on done new old p e =
    let z : 0 + length done ≡ length done = omega arith in
    let both : 0 + length (done ++ new) ≡ length done + length new = let h = length-append done new in omega (arith, h) in
    ap (λ k. take k (done ++ drop (0 + length done) old) ++ new ++ drop (k + length new) (done ++ drop (0 + length done) old)) (sym e)
    ∙ ap (λ l. l ++ new ++ drop (length done + length new) (done ++ drop (0 + length done) old)) (take-append_seam done (drop (0 + length done) old))
    ∙ ap (λ l. done ++ new ++ l) (drop-append-add done (drop (0 + length done) old) (length new) ∙ ap (λ k. drop (length new) (drop k old)) z ∙ drop-drop (length new) (length done) old)
    ∙ ap (λ k. (done ++ new) ++ drop k old) (sym both)

-- no bit of a field that was read
abbrev pub no_bits : FieldUnit → List Bool
no_bits f = bits_of (replicate (byte_count f.bits) 0)

-- bytes that hold the first bits of a field
pub record Holds (f : FieldUnit) (bytes : List ℕ) (done : List Bool) : Type 0 where
  pub size : length bytes ≡ byte_count f.bits
  pub bits : bits_of bytes ≡ put 0 done (no_bits f)
  pub is : bytes ≡ bytes_within (byte_count f.bits) (put 0 done (no_bits f))

pub none_held : (f : FieldUnit) → Holds f (replicate (byte_count f.bits) 0) []
none_held f = record {
  size = length-replicate (byte_count f.bits) 0;
  bits = refl;
  is = known_by_bits (replicate (byte_count f.bits) 0) (byte_count f.bits) _ (λ i. small_zeros (byte_count f.bits) i) (length-replicate (byte_count f.bits) 0) refl;
}

pub one_more_held : (f : FieldUnit) (bytes : List ℕ) (done : List Bool) (n : ℕ) (u : UnitAccess) (us : List UnitAccess) → f.bits < 4294967296 → Cover f.bit_offset f.bits f.access (length done) (u ∷ us) → Holds f bytes done → Holds f (put_unit bytes u n) (done ++ extended u.count (drop u.first (bits_from n 0 64)))
unfolding put_unit
one_more_held f bytes done n u us few c h =
    let unit = in_unit f.bit_offset f.bits (length done) f.access u us (u ∷ us) refl c in
    let within = in_field f.bit_offset f.bits (length done) f.access u us (u ∷ us) refl c in
    let size = h.size in
    let all : unit_within (bits_within bytes) u ≡ u = all_within (bits_within bytes) u unit (omega (arith, few, within, size)) in
    let new = extended u.count (drop u.first (bits_from n 0 64)) in
    let bits = put u.position new (bits_of bytes) in
    let same : put_bits (unit_within (bits_within bytes) u) n bytes ≡ bytes_within (length bytes) bits = ap (λ v. put_bits v n bytes) all in
    let long : length bits ≡ 8 * length bytes = put_length bytes u.position u.count (drop u.first (bits_from n 0 64)) (omega (arith, within, size)) in
    let both : bits ≡ put 0 (done ++ new) (no_bits f) = ap (put u.position new) h.bits ∙ put_on done new (no_bits f) u.position (sym c.0.here) in
    record {
      size = ap length same ∙ length_within (length bytes) bits ∙ size;
      bits = ap bits_of same ∙ bits_again (length bytes) bits long ∙ both;
      is = same ∙ ap (λ k. bytes_within k bits) size ∙ ap (bytes_within (byte_count f.bits)) both;
    }

pub all_held : (f : FieldUnit) (bytes : List ℕ) (done : List Bool) → length done ≡ f.bits → Holds f bytes done → bytes ≡ packed (done ++ [])
all_held f bytes done e h =
    let zeros = no_bits f in
    h.is
    ∙ zeros_behind (byte_count f.bits) done (drop (0 + length done) zeros) (drop_zeros (0 + length done) zeros (zero_bytes (byte_count f.bits)))
    ∙ ap (λ k. bytes_within (byte_count k) done) (sym e)
    ∙ ap packed (sym (append-nil done))

module _ {S : Type 0} (ac : Accesses S) where
  -- ---- reads

  reads_are : (x : IndexedField) (r : Reading) (done : List Bool) (bytes : List ℕ) (left : List UnitAccess) → x.field.bits < 4294967296 → Cover x.field.bit_offset x.field.bits x.field.access (length done) left → Holds x.field bytes done → (s : State S × ℕ)
      → (read_units (unit_read ac (meaning ac) x) left >>= (λ bits. give (packed (done ++ bits))) >>= read_as r x.field.bits) s ≡ reads_left ac (meaning ac) x r bytes left s
  unfolding read_units reads_left
  reads_are x r done bytes [] few c h s =
      bind_bind (give []) (λ bits. give (packed (done ++ bits))) (read_as r x.field.bits) s
      ∙ given_one [] (λ bits. give (packed (done ++ bits)) >>= read_as r x.field.bits) s
      ∙ given_one (packed (done ++ [])) (read_as r x.field.bits) s
      ∙ ap (λ l. read_as r x.field.bits l s) (sym (all_held x.field bytes done c h))
  reads_are x r done bytes (u ∷ us) few c h s =
      let read = unit_read ac (meaning ac) x in
      let new : ℕ → List Bool = λ n. extended u.count (drop u.first (bits_from n 0 64)) in
      let rest : ℕ → Run S (List Bool) = λ n. read_units read us >>= (λ bits. give (new n ++ bits)) in
      let end : List Bool → Run S (List ℕ) = λ bits. give (packed (done ++ bits)) in
      let k = read_as r x.field.bits in
      bind_bind (read u >>= rest) end k s
      ∙ bind_bind (read u) rest (λ bits. end bits >>= k) s
      ∙ bind_same (read u) _ _ s (λ n t.
      bind_bind (read_units read us) (λ bits. give (new n ++ bits)) (λ bits. end bits >>= k) t
      ∙ bind_same (read_units read us) _ _ t (λ bits v. given_one (new n ++ bits) (λ all. end all >>= k) v ∙ ap (λ l. (give (packed l) >>= k) v) (sym (append_assoc done (new n) bits)))
      ∙ sym (bind_bind (read_units read us) (λ bits. give (packed ((done ++ new n) ++ bits))) k t)
      ∙ reads_are x r (done ++ new n) (put_unit bytes u n) us few (subst (λ i. Cover x.field.bit_offset x.field.bits x.field.access i us) (sym (length-append done (new n) ∙ ap (λ i. length done + i) (length_extended u.count (drop u.first (bits_from n 0 64))))) c.2) (one_more_held x.field bytes done n u us few c h) t)

  -- ---- writes

  written_is : (x : IndexedField) (bytes : List ℕ) (u : UnitAccess) → u.first + u.count ≤ 64 → u.position + u.count ≤ x.field.bits → (s : State S × ℕ) → (kept x.field u (unit_read ac (meaning ac) x u) >>= written_over ac (meaning ac) x bytes u) s ≡ index_unit_written ac (asking ac (meaning ac) x.calls) x.index x.behind x.field bytes u s
  unfolding index_unit_written written_over merged_unit
  written_is x bytes u h i s =
      let call = asking ac (meaning ac) x.calls in
      ap (λ (v : UnitAccess). (kept x.field u (unit_read ac (meaning ac) x u) >>= (λ old. region_written ac call x.index (unit_bytes u.offset) >>= (λ chosen. region_written ac call x.behind (unit_bytes (merged_bits x.field bytes v old))))) s) (all_within x.field.bits u h i)

  writes_are : (x : IndexedField) (bytes : List ℕ) (done : ℕ) (left : List UnitAccess) → Cover x.field.bit_offset x.field.bits x.field.access done left → (s : State S × ℕ) → (write_units (index_unit_written ac (asking ac (meaning ac) x.calls) x.index x.behind x.field bytes) left >>= (λ done. give flow.Next)) s ≡ writes_left ac (meaning ac) x bytes left s
  unfolding write_units writes_left
  writes_are x bytes done [] c s = given_one tt (λ done. give flow.Next) s
  writes_are x bytes done (u ∷ us) c s =
      let write = index_unit_written ac (asking ac (meaning ac) x.calls) x.index x.behind x.field bytes in
      let old = kept x.field u (unit_read ac (meaning ac) x u) in
      let unit = in_unit x.field.bit_offset x.field.bits done x.field.access u us (u ∷ us) refl c in
      let within = in_field x.field.bit_offset x.field.bits done x.field.access u us (u ∷ us) refl c in
      bind_bind (write u) (λ o. write_units write us) (λ o. give flow.Next) s
      ∙ bind_same (write u) _ _ s (λ o t. writes_are x bytes (done + u.count) us c.2 t)
      ∙ after_same (write u) (old >>= written_over ac (meaning ac) x bytes u) (λ o. writes_left ac (meaning ac) x bytes us) s (sym (written_is x bytes u unit within s))
      ∙ bind_bind old (written_over ac (meaning ac) x bytes u) (λ o. writes_left ac (meaning ac) x bytes us) s

  -- ---- a field

  pub units_are : (calls i d : ℕ) (f : FieldUnit) (x : Doing) (s : State S × ℕ) → f.bits < 4294967296 → f.source ≡ sources.Index i d → access_done ac (meaning ac) calls (object.Field (field.Unit f)) x s ≡ indexed_done ac (meaning ac) calls i d f x s
  unfolding index_bits index_written bits_read
  units_are calls i d f (doing.Read r) s few e =
      let at : RegionField → RegionField → IndexedField = λ (index behind : RegionField). field_at calls index behind f in
      bind_as _ _ (read_as r f.bits) s (ap (λ y. field_unit_bits ac (asking ac (meaning ac) calls) y f) e)
      ∙ bind_bind (lift (field_declared i)) _ (read_as r f.bits) s
      ∙ bind_same (lift (field_declared i)) _ _ s (λ index t. bind_bind (lift (field_declared d)) _ (read_as r f.bits) t
      ∙ bind_same (lift (field_declared d)) _ _ t (λ behind w. reads_are (at index behind) r [] (replicate (byte_count f.bits) 0) (units_of f.bit_offset f.bits f.access) few (units_cover f.bit_offset f.bits f.access) (none_held f) w))
  units_are calls i d f (doing.Write bytes) s few e =
      let at : RegionField → RegionField → IndexedField = λ (index behind : RegionField). field_at calls index behind f in
      bind_as _ _ (λ done. give flow.Next) s (ap (λ y. field_unit_written ac (asking ac (meaning ac) calls) y f bytes) e)
      ∙ bind_bind (lift (field_declared i)) _ (λ done. give flow.Next) s
      ∙ bind_same (lift (field_declared i)) _ _ s (λ index t. bind_bind (lift (field_declared d)) _ (λ done. give flow.Next) t
      ∙ bind_same (lift (field_declared d)) _ _ t (λ behind w. writes_are (at index behind) bytes 0 (units_of f.bit_offset f.bits f.access) (units_cover f.bit_offset f.bits f.access) w))

  -- ---- bits that a write keeps

  pub kept_read : (f : FieldUnit) (u : UnitAccess) (read : Run S ℕ) (s : State S × ℕ) → is_kept f u ≡ true → kept f u read s ≡ read s
  unfolding kept
  kept_read f u read s e = by_size (u.count == bit_count f.access) f.update e
    where
      by_size : (x : Bool) (y : UpdateRule) → (if x then false else keeps y) ≡ true → (if x then (Ok 0, s) else kept_by y read s) ≡ read s
      by_size true y h = absurd (cc h)
      by_size false Preserve h = refl
      by_size false WriteAsOnes h = absurd (cc h)
      by_size false WriteAsZeros h = absurd (cc h)

  pub kept_none : (f : FieldUnit) (u : UnitAccess) (read : Run S ℕ) (s : State S × ℕ) → is_kept f u ≡ false → kept f u read s ≡ (Ok 0, s)
  unfolding kept
  kept_none f u read s e = by_size (u.count == bit_count f.access) f.update e
    where
      by_size : (x : Bool) (y : UpdateRule) → (if x then false else keeps y) ≡ false → (if x then (Ok 0, s) else kept_by y read s) ≡ (Ok 0, s)
      by_size true y h = refl
      by_size false Preserve h = absurd (cc h)
      by_size false WriteAsOnes h = refl
      by_size false WriteAsZeros h = refl

-- ---- what units ask for

pub many_on : (n k : ℕ) → suc n * k ≡ n * k + k
many_on n k = let e : suc n ≡ n + 1 = omega arith in ap (λ m. m * k) e ∙ add-mul n 1 k ∙ ap (λ m. n * k + m) (one-mul k)

fewer : (o n d : ℕ) (w : Width) (us : List UnitAccess) → Cover o n w d us → d + length us ≤ n
fewer o n d w [] c = omega (arith, c)
fewer o n d w (u ∷ us) c = let h = fewer o n (d + u.count) w us c.2 in let i = c.0.some in omega (arith, h, i)

-- a field has fewer units than bits
pub fewer_units : (f : FieldUnit) → f.bits < 4294967296 → suc (length (units_of f.bit_offset f.bits f.access)) ≤ 4294967296
fewer_units f few = let h = fewer f.bit_offset f.bits 0 f.access (units_of f.bit_offset f.bits f.access) (units_cover f.bit_offset f.bits f.access) in omega (arith, h, few)

pub few_units : (f : FieldUnit) → f.bits < 4294967296 → length (units_of f.bit_offset f.bits f.access) ≤ 4294967296
few_units f few = let h = fewer f.bit_offset f.bits 0 f.access (units_of f.bit_offset f.bits f.access) (units_cover f.bit_offset f.bits f.access) in omega (arith, h, few)
