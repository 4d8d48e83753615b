-- Field units of SystemMemory and SystemIO, as integers.
use Rattle.std.proofs.Common.{◌≡◌, ◌<◌, ◌≤◌, ◌∙◌, ◌*◌, ◌%◌, ◌^◌, ap, refl, ℕ, List, Option, Some, None, Ok, Err, Bool, true, false, arith}
use Rattle.std.specs.Prelude.{◌==◌, nat_lt, if◌then◌else◌, IfOk, IfErr, IfSome, MatchOption, MatchBool}
use Rattle.std.specs.Option.{option_map}
use Rattle.std.proofs.lemmas.Bool.Decides.{nat_tests}
use Rattle.ar_space.specs.declared.integer_width.IntegerWidth.{IntegerWidth}
use Rattle.ar_space.specs.declared.integer_width.IntegerWidth.TheVariants.{Bits32, Bits64}
use Rattle.ar_space.specs.declared.refusal.Refusal.{Refusal}
use Rattle.ar_space.specs.Accesses.{Accesses}
use Rattle.ar_space.specs.Outcome.{Outcome}
use Rattle.ar_space.specs.Change.{Does, give, settle, go_on, ◌>>=◌}
use Rattle.aml_path.specs.declared.segment.Seg.{Seg}
use Rattle.aml_objects.specs.Contents.{Buffer}
use Rattle.aml_objects.specs.declared.entry.Entry.{Entry}
use Rattle.aml_objects.specs.declared.entry.Field.TheVariants as field
use Rattle.aml_objects.specs.declared.entry.FieldUnit.{FieldUnit}
use Rattle.aml_objects.specs.declared.entry.FieldSource.{FieldSource}
use Rattle.aml_objects.specs.declared.entry.FieldSource.TheVariants as sources
use Rattle.aml_objects.specs.declared.entry.NamedObject.{NamedObject}
use Rattle.aml_objects.specs.declared.entry.NamedObject.TheVariants as object
use Rattle.aml_objects.specs.declared.entry.OperationRegion.{OperationRegion}
use Rattle.aml_objects.specs.declared.value.Value.TheVariants as value
use Rattle.aml_convert.specs.Conversions.{to_integer_of, integer_in_buffer, integer_bytes}
use Rattle.aml_convert.specs.Integers.{bits_of, bytes_of}
use Rattle.aml_fields.specs.declared.region.AddressSpace.{AddressSpace}
use Rattle.aml_fields.specs.declared.region.AddressSpace.TheVariants as spaces
use Rattle.aml_fields.specs.declared.region.Region.{Region}
use Rattle.aml_fields.specs.Bits.{bits_from, field_bits, packed}
use Rattle.aml_fields.specs.Regions.{read_field, write_field}
use Rattle.aml_fields.proofs.OneUnit.{little_packed, some_bytes, bits_of_bytes, low_bits}
use Rattle.aml_namespace.specs.Namespace.{numbered, above}
use Rattle.aml_world.specs.fields.PlainRegions.{plain_space, plain_region, IsPlainRegion}
use Rattle.aml_world.specs.state.State.{State, on_space}
use Rattle.aml_world.specs.state.Run.{Run, lift}
use Rattle.aml_world.specs.fields.Regions.{space_numbered, region_declared, integer_of_bits, integer_value, value_of_bits}
use Rattle.aml_world.specs.values.StoreTargets.{declaration}
use Rattle.aml_world.specs.values.Stores.{bytes_in}
use Rattle.aml_world.specs.declared.fields.regions.RegionSpace.TheVariants as kinds
use Rattle.aml_world.specs.fields.Fields.{space_at, located, region_bits, region_written, field_unit_bits, field_unit_written, field_value, field_stored}

-- ---- integers

eight : (w : IntegerWidth) → bits_of w ≡ 8 * bytes_of w
eight Bits32 = refl
eight Bits64 = refl

base : (w : IntegerWidth) → 256 ^ bytes_of w ≡ 2 ^ (8 * bytes_of w)
base Bits32 = refl
base Bits64 = refl

abbrev an_integer : ℕ → Outcome ℕ
an_integer n = Ok n

packed_integer : (w : IntegerWidth) (count number : ℕ) → 0 < count → count ≤ bits_of w → number < 2 ^ count → to_integer_of w (Buffer (packed (bits_from number 0 count))) ≡ Ok number
packed_integer w count number some few fits =
    let e = some_bytes count number some in
    let room : count ≤ 8 * bytes_of w = let b = eight w in omega (arith, b, few) in
    let value = rw e at (ap an_integer (little_packed count number (bytes_of w) fits room)) in
    ap (integer_in_buffer w) e ∙ value

-- the first bits of an integer's bytes
integer_bits : (w : IntegerWidth) (count number : ℕ) → count ≤ bits_of w → field_bits (integer_bytes w number) 0 count ≡ bits_from number 0 count
integer_bits w count number few = bits_of_bytes (bytes_of w) (number % 2 ^ bits_of w) count (base w) (let b = eight w in omega (arith, b, few)) ∙ low_bits number (bits_of w) count few

-- ---- regions

record Plain (o : NamedObject) (q : Region) : Type 0 where
  declared : OperationRegion
  space : AddressSpace
  is : o ≡ object.OperationRegion declared
  numbered : plain_space declared.space ≡ Some space
  makes : record { space = space; offset = declared.offset; length = declared.length } ≡ q

plain_by : (r : OperationRegion) (q : Region) (x : Option AddressSpace) → plain_space r.space ≡ x → option_map (λ (s : AddressSpace). record { space = s; offset = r.offset; length = r.length }) x ≡ Some q → Plain (object.OperationRegion r) q
plain_by r q None at is = absurd (cc is)
plain_by r q (Some s) at is = record { declared = r; space = s; is = refl; numbered = at; makes = cc is }

plain_is : (o : NamedObject) (q : Region) → plain_region o ≡ Some q → Plain o q
plain_is (object.OperationRegion r) q is = plain_by r q (plain_space r.space) refl is
plain_is o q is = absurd (cc is)

stands_plain : (o : Option (List Seg × Entry)) (q : Region) → option_map (λ (e : List Seg × Entry). plain_region e.1.object) o ≡ Some (Some q) → (f : List Seg × Entry) × (o ≡ Some f) × (plain_region f.1.object ≡ Some q)
stands_plain None q is = absurd (cc is)
stands_plain (Some f) q is = (f, refl, cc is)

module _ {S : Type 0} (accesses : Accesses S) (call : List Seg → Run S ℕ) where
  space_by : (a b c : Bool) (s : AddressSpace) (scope : List Seg) (w : State S × ℕ) → (if a then Some spaces.Memory else (if b then Some spaces.Io else None)) ≡ Some s
      → space_at accesses call (if a then kinds.SystemMemory else (if b then kinds.SystemIo else (if c then kinds.PciConfig else kinds.Other))) scope w ≡ (Ok s, w)
  unfolding give
  space_by true b c s scope w is = let same : ◌≡◌ {A = AddressSpace} spaces.Memory s = cc is in ap (λ (t : AddressSpace). (Ok t, w)) same
  space_by false true c s scope w is = let same : ◌≡◌ {A = AddressSpace} spaces.Io s = cc is in ap (λ (t : AddressSpace). (Ok t, w)) same
  space_by false false c s scope w is = absurd (cc is)

  located_is : (w : State S) (steps n : ℕ) (q : Region) → IsPlainRegion w (sources.Region n) q → located accesses call n (w, steps) ≡ (Ok q, (w, steps))
  unfolding located region_declared declaration lift give settle ◌>>=◌ go_on
  located_is w steps n q is =
      let f = stands_plain (numbered n w.names.map) q is in
      let p = plain_is f.0.1.object q f.2 in
      let space : space_at accesses call (space_numbered p.declared.space) (above f.0.0) (w, steps) ≡ (Ok p.space, (w, steps)) = space_by (p.declared.space == 0) (p.declared.space == 1) (p.declared.space == 2) p.space (above f.0.0) (w, steps) p.numbered in
      rw (f.1, p.is, space) (ap (λ (r : Region). (Ok r, (w, steps))) p.makes)

  bits_are : (w : State S) (steps : ℕ) (u : FieldUnit) (source : FieldSource) (q : Region) → IsPlainRegion w source q
      → field_unit_bits accesses call source u (w, steps) ≡ ((read_field accesses q u w.space).0, (record w { space = (read_field accesses q u w.space).1 }, steps))
  unfolding region_bits lift on_space ◌>>=◌ go_on
  bits_are w steps u (sources.Region n) q is = rw (located_is w steps n q is) refl
  bits_are w steps u (sources.Index i d) q is = absurd is
  bits_are w steps u (sources.Bank n b) q is = absurd is

  written_is : (w : State S) (steps : ℕ) (u : FieldUnit) (source : FieldSource) (q : Region) (bytes : List ℕ) → IsPlainRegion w source q
      → field_unit_written accesses call source u bytes (w, steps) ≡ ((write_field accesses q u bytes w.space).0, (record w { space = (write_field accesses q u bytes w.space).1 }, steps))
  unfolding region_written lift on_space ◌>>=◌ go_on
  written_is w steps u (sources.Region n) q bytes is = rw (located_is w steps n q is) refl
  written_is w steps u (sources.Index i d) q bytes is = absurd is
  written_is w steps u (sources.Bank n b) q bytes is = absurd is

  module _ (w : State S) (steps : ℕ) (u : FieldUnit) (q : Region) (is : IsPlainRegion w u.source q) (after : S) where
    pub unit_read : (number : ℕ) → nat_lt (bits_of w.width) u.bits ≡ false → 0 < u.bits → number < 2 ^ u.bits → Does (Ok (packed (bits_from number 0 u.bits))) after (read_field accesses q u) w.space
        → Does (Ok (value.Integer number)) (record w { space = after }, steps) (field_value accesses call (field.Unit u)) (w, steps)
    unfolding field_value value_of_bits integer_value integer_of_bits lift give ◌>>=◌ go_on
    unit_read number narrow some fits d =
        let bits : field_unit_bits accesses call u.source u (w, steps) ≡ (Ok (packed (bits_from number 0 u.bits)), (record w { space = after }, steps)) =
        bits_are w steps u u.source q is ∙ ap (λ (x : Outcome (List ℕ) × S). (x.0, (record w { space = x.1 }, steps))) (d.is tt) in
        let few : u.bits ≤ bits_of w.width = grind (arith, nat_tests) in
        record { is = λ _. rw (bits, narrow, packed_integer w.width u.bits number some few fits) refl }

    pub unit_refused : (e : Refusal) → Does (Err e) after (read_field accesses q u) w.space → Does (Err e) (record w { space = after }, steps) (field_value accesses call (field.Unit u)) (w, steps)
    unfolding field_value ◌>>=◌ go_on
    unit_refused e d = record {
      is = λ ne.
          let bits : field_unit_bits accesses call u.source u (w, steps) ≡ (Err e, (record w { space = after }, steps)) =
          bits_are w steps u u.source q is ∙ ap (λ (x : Outcome (List ℕ) × S). (x.0, (record w { space = x.1 }, steps))) (d.is ne) in
          rw bits refl;
    }

    pub unit_written : (number : ℕ) (r : Outcome (Unit {0})) → nat_lt (bits_of w.width) u.bits ≡ false
        → ((source : List ℕ) → field_bits source 0 u.bits ≡ bits_from number 0 u.bits → Does r after (write_field accesses q u source) w.space)
        → Does r (record w { space = after }, steps) (field_stored accesses call (field.Unit u) (value.Integer number)) (w, steps)
    unfolding field_stored bytes_in lift ◌>>=◌ go_on
    unit_written number r narrow h =
        let few : u.bits ≤ bits_of w.width = grind (arith, nat_tests) in
        let d = h (integer_bytes w.width number) (integer_bits w.width u.bits number few) in
        record {
          is = λ ne.
              written_is w steps u u.source q (integer_bytes w.width number) is
              ∙ ap (λ (x : Outcome (Unit {0}) × S). (x.0, (record w { space = x.1 }, steps))) (d.is ne);
        }

-- ---- what follows of an answer, case by case

pub read_by : (r : Outcome (Option ℕ)) (P P' : Type 0) (Q Q' F : ℕ → Type 0) → (P → P') → ((n : ℕ) → F n → Q n → Q' n)
    → IfOk r (λ x. IfSome x F) → IfOk r (λ x. MatchOption x P Q) → IfOk r (λ x. MatchOption x P' Q')
read_by (Ok None) P P' Q Q' F h k f p = h p
read_by (Ok (Some n)) P P' Q Q' F h k f p = k n f p
read_by (Err e) P P' Q Q' F h k f p = tt

pub written_by : (r : Outcome Bool) (P P' Q Q' : Type 0) → (P → P') → (Q → Q') → IfOk r (λ b. MatchBool b P Q) → IfOk r (λ b. MatchBool b P' Q')
written_by (Ok true) P P' Q Q' h k p = h p
written_by (Ok false) P P' Q Q' h k p = k p
written_by (Err e) P P' Q Q' h k p = tt

pub refused_by : {A : Type 0} (r : Outcome A) (P Q : Refusal → Type 0) → ((e : Refusal) → P e → Q e) → IfErr r P → IfErr r Q
refused_by (Ok a) P Q h p = tt
refused_by (Err e) P Q h p = h e p
