-- Reading and writing fields maintain that what a world holds fits a claim.
use Rattle.std.specs.Prelude.{◌≡◌, ◌≤◌, ◌+◌, ◌-◌, ◌*◌, ◌/◌, ◌==◌, min, max, ℕ, zero, suc, nat_lt, List, [], ◌∷◌, length, drop, Bool, true, false, Option, Some, None, Ok, Err, refl, if◌then◌else◌}
use Rattle.std.proofs.Common.{arith, ap, length-append}
use Rattle.ar_space.specs.declared.integer_width.IntegerWidth.{IntegerWidth}
use Rattle.ar_space.specs.declared.integer_width.IntegerWidth.TheVariants.{Bits32, Bits64}
use Rattle.ar_space.specs.declared.space.Width.{Width}
use Rattle.ar_space.specs.declared.space.Width.TheVariants.{W8, W16, W32, W64}
use Rattle.ar_space.specs.Accesses.{Accesses, bit_count}
use Rattle.ar_space.specs.declared.refusal.Refusal.{Refusal}
use Rattle.ar_space.specs.Outcome.{Outcome, seen}
use Rattle.ar_space.specs.Change.{Change}
use Rattle.aml_path.specs.declared.segment.Seg.{Seg}
use Rattle.aml_objects.specs.Objects.{make_buffer}
use Rattle.aml_objects.specs.declared.value.Value.{Value}
use Rattle.aml_objects.specs.declared.value.Value.TheVariants as value
use Rattle.aml_objects.specs.Fields.{bits_of_field}
use Rattle.aml_objects.specs.declared.entry.BufferField.{BufferField}
use Rattle.aml_objects.specs.declared.entry.Field.{Field}
use Rattle.aml_objects.specs.declared.entry.Field.TheVariants as field
use Rattle.aml_objects.specs.declared.entry.FieldUnit.{FieldUnit}
use Rattle.aml_objects.specs.declared.entry.FieldSource.{FieldSource}
use Rattle.aml_objects.specs.declared.entry.FieldSource.TheVariants as sources
use Rattle.aml_objects.specs.declared.entry.UpdateRule.{UpdateRule}
use Rattle.aml_objects.specs.declared.entry.UpdateRule.TheVariants.{Preserve, WriteAsOnes, WriteAsZeros}
use Rattle.aml_convert.specs.Integers.{bits_of}
use Rattle.aml_fields.specs.declared.region.Region.{Region}
use Rattle.aml_fields.specs.declared.field_units.Unit.{Unit as Access}
use Rattle.aml_fields.specs.Bits.{extended, bits_from, byte_count, packed, field_bits, put, bits_of as field_bits_of}
use Rattle.aml_fields.specs.BufferFields.{lies_within, new_buffer_field, read_buffer_field, with_field, write_buffer_field}
use Rattle.aml_fields.specs.Units.{units_from, units_up_to, units_of}
use Rattle.aml_fields.specs.UnitByUnit.{read_units, bits_read, write_units, kept_by, kept}
use Rattle.aml_fields.specs.Regions.{read_access, read_unit, read_field}
use Rattle.aml_fields.proofs.Putting.{length_extended}
use Rattle.aml_world.specs.declared.values.object_type.Referent.{Referent}
use Rattle.aml_world.specs.declared.values.object_type.Referent.TheVariants as referent
use Rattle.aml_world.specs.declared.fields.regions.RegionSpace.{RegionSpace}
use Rattle.aml_world.specs.declared.fields.regions.RegionSpace.TheVariants as kinds
use Rattle.aml_world.specs.declared.fields.regions.RegionField.{RegionField}
use Rattle.aml_world.specs.state.Given.{Given, Integer, Bytes}
use Rattle.aml_world.specs.state.State.{State, on_space}
use Rattle.aml_world.specs.state.Run.{Run, lift, charge}
use Rattle.aml_world.specs.fields.PciFunctions.{nearest, behind_asked, pci_function}
use Rattle.aml_world.specs.fields.Bridges.{bridges_above, secondary_bus}
use Rattle.aml_world.specs.fields.Regions.{region_declared, field_declared, integer_of_bits, integer_value, value_of_bits, integer_alone, given_of_bits, integer_referent, referent_of_bits}
use Rattle.aml_world.specs.fields.Fields.{part_in, inherited, bus_behind, bus_behind_all, pci_address, space_at, located, region_bits, region_written, index_unit, index_unit_written, index_bits, index_written, field_unit_bits, field_unit_written, bits_in, written_in, field_value, field_integer, field_part, field_given, field_referent, field_stored, bank_selected, bank_unit, bank_unit_written, bank_bits, bank_written}
use Rattle.aml_laws.specs.Plain.{AreBytes}
use Rattle.aml_laws.specs.Within.{WithinWidth}
use Rattle.aml_laws.proofs.ReadingStepsGiveBytes.{Any}
use Rattle.aml_laws.proofs.Invariants.{Maintained, Maintains, ok_fits, ok_maintained, err_maintained, settled_maintained, if_maintained, give_maintains, stop_maintains, settle_maintains, then_maintains}
use Rattle.aml_laws.proofs.ValuesOfObjects.{make_buffer_maintains, buffer_at_maintains, exchange_buffer_maintains}
use Rattle.aml_laws.proofs.IntegersOfOperators.{integer_in_buffer_fits}
use Rattle.aml_laws.proofs.IntegersOfContents.{bits_are_bytes, bytes_within_length}
use Rattle.aml_laws.proofs.ValuesOfWorlds.{WorldWithin, on_objects_maintains, integer_at_width}
use Rattle.aml_laws.proofs.ValuesOfTargets.{ReferentFits, declaration_maintains, bytes_in_maintains}
use Rattle.aml_laws.specs.AllWithin.{Each}
use Rattle.aml_laws.proofs.Claims.{Claim, IntegerFits, ValueFits, GivenFits, BitsFit, DeclaredFits, ObjectsFit, WorldFits}

-- ---- how many bits a field's units give

abbrev AtMost64 : Access → Type 0
AtMost64 u = u.count ≤ 64

overlap_is_at_most : (a w c d : ℕ) → w ≤ 64 → min (a + w) c - max a d ≤ 64
overlap_is_at_most a w c d l = omega arith

unit_is_at_most : (w : Width) → bit_count w ≤ 64
unit_is_at_most W8 = omega arith
unit_is_at_most W16 = omega arith
unit_is_at_most W32 = omega arith
unit_is_at_most W64 = omega arith

units_are_at_most : (offset bits : ℕ) (w : Width) (k n : ℕ) → Each AtMost64 (units_from offset bits w k n)
unfolding units_from
units_are_at_most offset bits w k zero = tt
units_are_at_most offset bits w k (suc n) = (overlap_is_at_most (k * bit_count w) (bit_count w) (offset + bits) offset (unit_is_at_most w), units_are_at_most offset bits w (k + 1) n)

units_from_length : (offset bits : ℕ) (w : Width) (k n : ℕ) → length (units_from offset bits w k n) ≡ n
unfolding units_from
units_from_length offset bits w k zero = refl
units_from_length offset bits w k (suc n) = ap suc (units_from_length offset bits w (k + 1) n)

units_up_to_at_most : (offset bits : ℕ) (w : Width) → units_up_to (offset + bits) w - offset / bit_count w ≤ bits + 1
units_up_to_at_most offset bits W8 = omega arith
units_up_to_at_most offset bits W16 = omega arith
units_up_to_at_most offset bits W32 = omega arith
units_up_to_at_most offset bits W64 = omega arith

abbrev UnitsFit : ℕ → List Access → Type 0
UnitsFit bits us = Each AtMost64 us × (length us ≤ bits + 1)

units_fit_by_cases : (b : Bool) (offset bits : ℕ) (w : Width) → UnitsFit bits (if b then [] else units_from offset bits w (offset / bit_count w) (units_up_to (offset + bits) w - offset / bit_count w))
units_fit_by_cases true offset bits w = (tt, omega arith)
units_fit_by_cases false offset bits w = (units_are_at_most offset bits w _ _, let e = units_from_length offset bits w (offset / bit_count w) (units_up_to (offset + bits) w - offset / bit_count w) in let l = units_up_to_at_most offset bits w in omega arith)

-- bytes, whose number is below two to the width
abbrev pub FieldFits : Claim → List ℕ → Type 0
FieldFits claim bytes = AreBytes bytes × IntegerFits claim (length bytes)

byte_count_fits : (width : IntegerWidth) (n m : ℕ) → n ≤ 64 * (8388608 + 1) → m ≡ byte_count n → WithinWidth width (value.Integer m)
byte_count_fits Bits32 n m l e = omega arith
byte_count_fits Bits64 n m l e = omega arith

module _ {H : Type 0} {I : H → Type 0} where
  read_units_maintains : (read : Access → Change H ℕ) → ((u : Access) → Maintains I Any (read u)) → (us : List Access) → Each AtMost64 us → Maintains I (λ bits. length bits ≤ 64 * length us) (read_units read us)
  unfolding read_units
  read_units_maintains read each [] h = give_maintains _ (omega arith)
  read_units_maintains read each (u ∷ us) h =
      then_maintains _ _ (each u) (λ unit v. then_maintains _ _ (read_units_maintains read each us h.1) (λ bits l. give_maintains _
      (let e = length-append (extended u.count (drop u.first (bits_from unit 0 64))) bits in let k = length_extended u.count (drop u.first (bits_from unit 0 64)) in let n = h.0 in omega arith)))

  pub bits_read_maintains : (claim : Claim) (read : Access → Change H ℕ) → ((u : Access) → Maintains I Any (read u)) → (f : FieldUnit) → BitsFit claim f.bits → Maintains I (FieldFits claim) (bits_read read f)
  unfolding bits_read
  bits_read_maintains claim read each f fit =
      let us = units_fit_by_cases (f.bits == 0) f.bit_offset f.bits f.access in
      then_maintains _ _ (read_units_maintains read each (units_of f.bit_offset f.bits f.access) us.0) (λ bits l. give_maintains _
      (bits_are_bytes (byte_count (length bits)) bits, λ m. byte_count_fits claim.width (length bits) _ (let n = us.1 in let few = fit m in omega arith) (bytes_within_length (byte_count (length bits)) bits)))

  pub write_units_maintains : (write : Access → Change H (Unit {0})) → ((u : Access) → Maintains I Any (write u)) → (us : List Access) → Maintains I Any (write_units write us)
  unfolding write_units
  write_units_maintains write each [] = give_maintains _ tt
  write_units_maintains write each (u ∷ us) = then_maintains _ _ (each u) (λ done v. write_units_maintains write each us)

  kept_by_maintained : (rule : UpdateRule) (read : Change H ℕ) → Maintains I Any read → (h : H) → I h → Maintained I Any (kept_by rule read h)
  kept_by_maintained Preserve read g h i = g.maintains h i
  kept_by_maintained WriteAsOnes read g h i = ok_maintained 0 h i tt
  kept_by_maintained WriteAsZeros read g h i = ok_maintained 0 h i tt

  pub kept_maintains : (f : FieldUnit) (u : Access) (read : Change H ℕ) → Maintains I Any read → Maintains I Any (kept f u read)
  unfolding kept
  kept_maintains f u read g = record { maintains = λ h i. if_maintained (u.count == bit_count f.access) _ _ (λ b. ok_maintained 0 h i tt) (λ b. kept_by_maintained f.update read g h i) }

-- ---- a field of a buffer

module _ (claim : Claim) where
  -- a field whose buffer is seen
  abbrev pub BufferFieldFits : BufferField → Type 0
  BufferFieldFits b = BitsFit claim b.bits × claim.Seen b.buffer

  buffer_field_fits : (c : Bool) (x b : BufferField) (e : Refusal) → BufferFieldFits x → (if c then Ok x else Err e) ≡ Ok b → BufferFieldFits b
  buffer_field_fits true x b e fit is = ok_fits BufferFieldFits x b is fit
  buffer_field_fits false x b e fit is = absurd (cc is)

  pub new_buffer_field_maintains : (o offset count : ℕ) → BitsFit claim count → claim.Seen o → Maintains (ObjectsFit claim) BufferFieldFits (new_buffer_field o offset count)
  unfolding new_buffer_field
  new_buffer_field_maintains o offset count fit seen = then_maintains _ _ (buffer_at_maintains claim o) (λ bytes h. settle_maintains _ (λ b e. buffer_field_fits (lies_within offset count bytes) (record { buffer = o; bit_offset = offset; bits = count }) b _ (fit, seen) e))

  read_buffer_field_maintains : (b : BufferField) → BitsFit claim b.bits → Maintains (ObjectsFit claim) (FieldFits claim) (read_buffer_field b)
  unfolding read_buffer_field
  read_buffer_field_maintains b fit = then_maintains _ _ (buffer_at_maintains claim b.buffer) (λ bytes h. then_maintains {Fit = Any} _ _ (settle_maintains _ (λ a e. tt)) (λ whole u. give_maintains _ (packed_fits (field_bits bytes b.bit_offset b.bits) (λ m. let e = length_extended b.bits (drop b.bit_offset (field_bits_of bytes)) in let few = fit m in omega arith))))
    where
      packed_fits : (bits : List Bool) → (claim.Measured → length bits ≤ 64 * (8388608 + 1)) → FieldFits claim (packed bits)
      packed_fits bits l = (bits_are_bytes (byte_count (length bits)) bits, λ m. byte_count_fits claim.width (length bits) _ (l m) (bytes_within_length (byte_count (length bits)) bits))

  write_buffer_field_maintains : (b : BufferField) (source : List ℕ) → claim.Seen b.buffer → Maintains (ObjectsFit claim) Any (write_buffer_field b source)
  unfolding write_buffer_field
  write_buffer_field_maintains b source seen = then_maintains _ _ (buffer_at_maintains claim b.buffer) (λ bytes h. then_maintains {Fit = Any} _ _ (settle_maintains _ (λ a e. tt)) (λ whole u. then_maintains _ _ (exchange_buffer_maintains claim b.buffer (with_field b source bytes) seen (λ m. (bits_are_bytes (length bytes) _, let e = bytes_within_length (length bytes) (put b.bit_offset (field_bits source 0 b.bits) (field_bits_of bytes)) in let l = (h m).1 in omega arith))) (λ old v. give_maintains _ tt)))

-- ---- a field of a region

module _ {S : Type 0} (accesses : Accesses S) (claim : Claim) where
  abbrev AnySpace : S → Type 0
  AnySpace s = Unit {0}

  read_unit_maintains : (r : Region) (w : Width) (u : Access) → Maintains AnySpace Any (read_unit accesses r w u)
  unfolding read_unit read_access
  read_unit_maintains r w u = then_maintains {Fit = Any} _ _ (settle_maintains _ (λ a e. tt)) (λ p v. record { maintains = λ s i. settled_maintained _ _ tt (λ a e. tt) })

  read_field_maintains : (r : Region) (f : FieldUnit) → BitsFit claim f.bits → Maintains AnySpace (FieldFits claim) (read_field accesses r f)
  read_field_maintains r f fit = bits_read_maintains claim _ (read_unit_maintains r f.access) f fit

module _ (S : Type 0) (claim : Claim) where
  abbrev pub RunWithin : State S × ℕ → Type 0
  RunWithin s = WorldFits claim s.0

  pub lift_maintains : {A : Type 0} {Fit : A → Type 0} (m : Change (State S) A) → Maintains (WorldWithin S claim) Fit m → Maintains RunWithin Fit (lift m)
  unfolding lift
  lift_maintains m h = record { maintains = λ s i. let g = h.maintains s.0 i in record { state = g.state; gives = g.gives } }

  pub charge_maintains : Maintains RunWithin Any charge
  unfolding charge
  charge_maintains = record { maintains = λ s i. if_maintained (s.1 == 0) _ _ (λ b. err_maintained _ _ i) (λ b. ok_maintained _ _ i tt) }

  on_space_maintains : {A : Type 0} {Fit : A → Type 0} (m : Change S A) → Maintains (λ s. Unit {0}) Fit m → Maintains (WorldWithin S claim) Fit (on_space m)
  unfolding on_space
  on_space_maintains m h = record { maintains = λ w i. record { state = record { wide = i.wide; names = i.names; objects = i.objects; frames = i.frames; next = i.next; latest = i.latest }; gives = (h.maintains w.space tt).gives } }

  pub any_on_space_maintains : {A : Type 0} (m : Change S A) → Maintains (WorldWithin S claim) Any (on_space m)
  unfolding on_space
  any_on_space_maintains m = record { maintains = λ w i. record { state = record { wide = i.wide; names = i.names; objects = i.objects; frames = i.frames; next = i.next; latest = i.latest }; gives = λ a e. tt } }

  region_declared_maintains : (n : ℕ) → Maintains (WorldWithin S claim) Any (region_declared n)
  unfolding region_declared
  region_declared_maintains n = then_maintains _ _ (declaration_maintains S claim n) (λ e f. then_maintains {Fit = Any} _ _ (settle_maintains _ (λ a e. tt)) (λ r u. give_maintains _ tt))

  field_declared_maintains : (n : ℕ) → Maintains (WorldWithin S claim) Any (field_declared n)
  unfolding field_declared
  field_declared_maintains n = then_maintains _ _ (declaration_maintains S claim n) (λ e f. settle_maintains _ (λ a e. tt))

  pci_function_maintains : (scope : List Seg) → Maintains (WorldWithin S claim) Any (pci_function scope)
  unfolding pci_function nearest behind_asked
  pci_function_maintains scope =
      then_maintains {Fit = Any} _ _ (record { maintains = λ w i. settled_maintained _ w i (λ a e. tt) }) (λ near u. then_maintains {Fit = Any} _ _ (settle_maintains _ (λ a e. tt)) (λ q v.
      then_maintains {Fit = Any} _ _ (record { maintains = λ w i. settled_maintained _ w i (λ a e. tt) }) (λ bridge x. then_maintains {Fit = Any} _ _ (record { maintains = λ w i. settled_maintained _ w i (λ a e. tt) }) (λ reached y. give_maintains _ tt))))

  pub integer_of_bits_maintains : (bytes : List ℕ) → AreBytes bytes → Maintains (WorldWithin S claim) (IntegerFits claim) (integer_of_bits bytes)
  unfolding integer_of_bits
  integer_of_bits_maintains bytes h = record { maintains = λ w i. settled_maintained _ w i (λ n e. integer_at_width S claim w n i (λ m. integer_in_buffer_fits w.width bytes n h e)) }

  value_of_bits_maintains : (count : ℕ) (bytes : List ℕ) → AreBytes bytes → Maintains (WorldWithin S claim) (ValueFits claim) (value_of_bits count bytes)
  unfolding value_of_bits integer_value
  value_of_bits_maintains count bytes h = record { maintains = λ w i. if_maintained (nat_lt (bits_of w.width) count) _ _ (λ b. (on_objects_maintains S claim (make_buffer bytes) (make_buffer_maintains claim bytes (λ m. h))).maintains w i) (λ b. (then_maintains (integer_of_bits bytes) _ (integer_of_bits_maintains bytes h) (λ n f. give_maintains _ f)).maintains w i) }

  integer_alone_maintains : (count : ℕ) (bytes : List ℕ) → AreBytes bytes → Maintains (WorldWithin S claim) (IntegerFits claim) (integer_alone count bytes)
  unfolding integer_alone
  integer_alone_maintains count bytes h = record { maintains = λ w i. if_maintained (nat_lt (bits_of w.width) count) _ _ (λ b. err_maintained _ w i) (λ b. (integer_of_bits_maintains bytes h).maintains w i) }

  seen_referent_fits : (r : Outcome ℕ) (x : Referent) → ((n : ℕ) → r ≡ Ok n → IntegerFits claim n) → seen integer_referent r ≡ Ok x → ReferentFits claim x
  seen_referent_fits (Ok n) x h e = ok_fits (ReferentFits claim) _ x e (h n refl)
  seen_referent_fits (Err y) x h e = absurd (cc e)

  referent_of_bits_maintains : (count : ℕ) (bytes : List ℕ) → FieldFits claim bytes → Maintains (WorldWithin S claim) (ReferentFits claim) (referent_of_bits count bytes)
  unfolding referent_of_bits
  referent_of_bits_maintains count bytes h = record { maintains = λ w i. if_maintained (nat_lt (bits_of w.width) count) _ _ (λ b. ok_maintained (referent.Bytes (length bytes)) w i h.1) (λ b. settled_maintained _ w i (λ x e. seen_referent_fits _ x (λ n is. integer_at_width S claim w n i (λ m. integer_in_buffer_fits w.width bytes n h.0 is)) e)) }

  seen_given_fits : (r : Outcome ℕ) (x : Given) → ((n : ℕ) → r ≡ Ok n → IntegerFits claim n) → seen Integer r ≡ Ok x → GivenFits claim x
  seen_given_fits (Ok n) x h e = ok_fits (GivenFits claim) _ x e (h n refl)
  seen_given_fits (Err y) x h e = absurd (cc e)

  given_of_bits_maintains : (count : ℕ) (bytes : List ℕ) → AreBytes bytes → Maintains (WorldWithin S claim) (GivenFits claim) (given_of_bits count bytes)
  unfolding given_of_bits
  given_of_bits_maintains count bytes h = record { maintains = λ w i. if_maintained (nat_lt (bits_of w.width) count) _ _ (λ b. ok_maintained (Bytes bytes) w i (λ m. h)) (λ b. settled_maintained _ w i (λ x e. seen_given_fits _ x (λ n is. integer_at_width S claim w n i (λ m. integer_in_buffer_fits w.width bytes n h is)) e)) }

module _ (S : Type 0) (claim : Claim) (accesses : Accesses S) (call : List Seg → Run S ℕ) (each : (q : List Seg) → Maintains (RunWithin S claim) Any (call q)) where
  part_in_maintains : (s : Seg) (o : Option (List Seg)) → Maintains (RunWithin S claim) Any (part_in accesses call s o)
  part_in_maintains s None = give_maintains _ tt
  part_in_maintains s (Some q) = each _

  inherited_maintains : (s : Seg) (q : List Seg) → Maintains (RunWithin S claim) Any (inherited accesses call s q)
  unfolding inherited nearest
  inherited_maintains s q = then_maintains {Fit = Any} _ _ (lift_maintains S claim _ (record { maintains = λ w i. settled_maintained _ w i (λ a e. tt) })) (λ o u. part_in_maintains s o)

  bus_behind_maintains : (seg bus : ℕ) (q : List Seg) → Maintains (RunWithin S claim) Any (bus_behind accesses call seg bus q)
  unfolding bus_behind
  bus_behind_maintains seg bus q = then_maintains _ _ (each _) (λ address u. lift_maintains S claim _ (any_on_space_maintains S claim (secondary_bus accesses seg bus address)))

  bus_behind_all_maintains : (seg bus : ℕ) (qs : List (List Seg)) → Maintains (RunWithin S claim) Any (bus_behind_all accesses call seg bus qs)
  unfolding bus_behind_all
  bus_behind_all_maintains seg bus [] = give_maintains _ tt
  bus_behind_all_maintains seg bus (q ∷ qs) = then_maintains _ _ (bus_behind_maintains seg bus q) (λ behind u. bus_behind_all_maintains seg behind qs)

  bridges_above_maintains : (q : List Seg) → Maintains (RunWithin S claim) Any (lift (bridges_above q))
  unfolding bridges_above
  bridges_above_maintains q = lift_maintains S claim _ (record { maintains = λ w i. settled_maintained _ w i (λ a e. tt) })

  space_at_maintains : (k : RegionSpace) (scope : List Seg) → Maintains (RunWithin S claim) Any (space_at accesses call k scope)
  unfolding pci_address
  space_at_maintains kinds.SystemMemory scope = give_maintains _ tt
  space_at_maintains kinds.SystemIo scope = give_maintains _ tt
  space_at_maintains kinds.PciConfig scope = then_maintains _ _ (lift_maintains S claim _ (pci_function_maintains S claim scope)) (λ q u. then_maintains _ _ (bridges_above_maintains q) (λ bridges b. then_maintains _ _ (inherited_maintains _ q) (λ seg v. then_maintains _ _ (inherited_maintains _ q) (λ bus x. then_maintains _ _ (bus_behind_all_maintains seg bus bridges) (λ behind z. then_maintains _ _ (each _) (λ address y. settle_maintains _ (λ a e. tt)))))))
  space_at_maintains kinds.Other scope = stop_maintains _

  located_maintains : (n : ℕ) → Maintains (RunWithin S claim) Any (located accesses call n)
  unfolding located
  located_maintains n = then_maintains _ _ (lift_maintains S claim _ (region_declared_maintains S claim n)) (λ d u. then_maintains _ _ (space_at_maintains _ d.0) (λ space v. give_maintains _ tt))

  region_bits_maintains : (f : RegionField) → BitsFit claim f.unit.bits → Maintains (RunWithin S claim) (FieldFits claim) (region_bits accesses call f)
  unfolding region_bits
  region_bits_maintains f fit = then_maintains _ _ (located_maintains f.region) (λ r u. lift_maintains S claim _ (on_space_maintains S claim _ (read_field_maintains accesses claim r f.unit fit)))

  any_region_bits_maintains : (f : RegionField) → Maintains (RunWithin S claim) Any (region_bits accesses call f)
  unfolding region_bits
  any_region_bits_maintains f = then_maintains _ _ (located_maintains f.region) (λ r u. lift_maintains S claim _ (any_on_space_maintains S claim _))

  region_written_maintains : (f : RegionField) (bytes : List ℕ) → Maintains (RunWithin S claim) Any (region_written accesses call f bytes)
  unfolding region_written
  region_written_maintains f bytes = then_maintains _ _ (located_maintains f.region) (λ r u. lift_maintains S claim _ (any_on_space_maintains S claim _))

  index_unit_maintains : (index behind : RegionField) (w : Width) (u : Access) → Maintains (RunWithin S claim) Any (index_unit accesses call index behind w u)
  unfolding index_unit
  index_unit_maintains index behind w u = then_maintains _ _ (region_written_maintains index _) (λ chosen v. then_maintains _ _ (any_region_bits_maintains behind) (λ bytes x. give_maintains _ tt))

  index_unit_written_maintains : (index behind : RegionField) (f : FieldUnit) (bytes : List ℕ) (u : Access) → Maintains (RunWithin S claim) Any (index_unit_written accesses call index behind f bytes u)
  unfolding index_unit_written
  index_unit_written_maintains index behind f bytes u = then_maintains _ _ (kept_maintains f u _ (index_unit_maintains index behind f.access u)) (λ old v. then_maintains _ _ (region_written_maintains index _) (λ chosen x. region_written_maintains behind _))

  bank_selected_maintains : (bank : RegionField) (value : ℕ) → Maintains (RunWithin S claim) Any (bank_selected accesses call bank value)
  unfolding bank_selected
  bank_selected_maintains bank value = then_maintains {Fit = Any} _ _ (settle_maintains _ (λ a e. tt)) (λ held v. region_written_maintains bank _)

  bank_unit_maintains : (bank : RegionField) (value : ℕ) (r : Region) (w : Width) (u : Access) → Maintains (RunWithin S claim) Any (bank_unit accesses call bank value r w u)
  unfolding bank_unit
  bank_unit_maintains bank value r w u = then_maintains _ _ (bank_selected_maintains bank value) (λ selected v. lift_maintains S claim _ (any_on_space_maintains S claim _))

  bank_unit_written_maintains : (bank : RegionField) (value : ℕ) (r : Region) (f : FieldUnit) (bytes : List ℕ) (u : Access) → Maintains (RunWithin S claim) Any (bank_unit_written accesses call bank value r f bytes u)
  unfolding bank_unit_written
  bank_unit_written_maintains bank value r f bytes u = then_maintains _ _ (kept_maintains f u _ (bank_unit_maintains bank value r f.access u)) (λ old v. then_maintains _ _ (bank_selected_maintains bank value) (λ selected x. lift_maintains S claim _ (any_on_space_maintains S claim _)))

  field_unit_bits_maintains : (source : FieldSource) (f : FieldUnit) → BitsFit claim f.bits → Maintains (RunWithin S claim) (FieldFits claim) (field_unit_bits accesses call source f)
  unfolding index_bits bank_bits
  field_unit_bits_maintains (sources.Region n) f fit = region_bits_maintains _ fit
  field_unit_bits_maintains (sources.Index i d) f fit = then_maintains _ _ (lift_maintains S claim _ (field_declared_maintains S claim i)) (λ index u. then_maintains _ _ (lift_maintains S claim _ (field_declared_maintains S claim d)) (λ behind v. bits_read_maintains claim _ (index_unit_maintains index behind f.access) f fit))
  field_unit_bits_maintains (sources.Bank n b) f fit = then_maintains _ _ (lift_maintains S claim _ (field_declared_maintains S claim b.field)) (λ bank u. then_maintains _ _ (located_maintains n) (λ r v. bits_read_maintains claim _ (bank_unit_maintains bank b.value r f.access) f fit))

  field_unit_written_maintains : (source : FieldSource) (f : FieldUnit) (bytes : List ℕ) → Maintains (RunWithin S claim) Any (field_unit_written accesses call source f bytes)
  unfolding index_written bank_written
  field_unit_written_maintains (sources.Region n) f bytes = region_written_maintains _ bytes
  field_unit_written_maintains (sources.Index i d) f bytes = then_maintains _ _ (lift_maintains S claim _ (field_declared_maintains S claim i)) (λ index u. then_maintains _ _ (lift_maintains S claim _ (field_declared_maintains S claim d)) (λ behind v. write_units_maintains _ (index_unit_written_maintains index behind f bytes) (units_of f.bit_offset f.bits f.access)))
  field_unit_written_maintains (sources.Bank n b) f bytes = then_maintains _ _ (lift_maintains S claim _ (field_declared_maintains S claim b.field)) (λ bank u. then_maintains _ _ (located_maintains n) (λ r v. write_units_maintains _ (bank_unit_written_maintains bank b.value r f bytes) (units_of f.bit_offset f.bits f.access)))

  bits_in_maintains : (f : Field) → DeclaredFits claim f → Maintains (RunWithin S claim) (FieldFits claim) (bits_in accesses call f)
  bits_in_maintains (field.Unit u) fit = field_unit_bits_maintains u.source u fit
  bits_in_maintains (field.Buffer b) fit = lift_maintains S claim _ (on_objects_maintains S claim _ (read_buffer_field_maintains claim b fit.0))

  written_in_maintains : (f : Field) (bytes : List ℕ) → DeclaredFits claim f → Maintains (RunWithin S claim) Any (written_in accesses call f bytes)
  written_in_maintains (field.Unit u) bytes fit = field_unit_written_maintains u.source u bytes
  written_in_maintains (field.Buffer b) bytes fit = lift_maintains S claim _ (on_objects_maintains S claim _ (write_buffer_field_maintains claim b bytes fit.1))

  pub field_value_maintains : (f : Field) → DeclaredFits claim f → Maintains (RunWithin S claim) (ValueFits claim) (field_value accesses call f)
  unfolding field_value
  field_value_maintains f fit = then_maintains _ _ (bits_in_maintains f fit) (λ bytes h. lift_maintains S claim _ (value_of_bits_maintains S claim (bits_of_field f) bytes h.0))

  pub field_integer_maintains : (f : Field) → DeclaredFits claim f → Maintains (RunWithin S claim) (IntegerFits claim) (field_integer accesses call f)
  unfolding field_integer
  field_integer_maintains f fit = then_maintains _ _ (bits_in_maintains f fit) (λ bytes h. lift_maintains S claim _ (integer_of_bits_maintains S claim bytes h.0))

  pub field_part_maintains : (f : Field) → DeclaredFits claim f → Maintains (RunWithin S claim) (IntegerFits claim) (field_part accesses call f)
  unfolding field_part
  field_part_maintains f fit = then_maintains _ _ (bits_in_maintains f fit) (λ bytes h. lift_maintains S claim _ (integer_alone_maintains S claim (bits_of_field f) bytes h.0))

  pub field_referent_maintains : (f : Field) → DeclaredFits claim f → Maintains (RunWithin S claim) (ReferentFits claim) (field_referent accesses call f)
  unfolding field_referent
  field_referent_maintains f fit = then_maintains _ _ (bits_in_maintains f fit) (λ bytes h. lift_maintains S claim _ (referent_of_bits_maintains S claim (bits_of_field f) bytes h))

  pub field_given_maintains : (f : Field) → DeclaredFits claim f → Maintains (RunWithin S claim) (GivenFits claim) (field_given accesses call f)
  unfolding field_given
  field_given_maintains f fit = then_maintains _ _ (bits_in_maintains f fit) (λ bytes h. lift_maintains S claim _ (given_of_bits_maintains S claim (bits_of_field f) bytes h.0))

  pub field_stored_maintains : (f : Field) (v : Value) → DeclaredFits claim f → ValueFits claim v → Maintains (RunWithin S claim) Any (field_stored accesses call f v)
  unfolding field_stored
  field_stored_maintains f v declared fit = then_maintains _ _ (lift_maintains S claim _ (bytes_in_maintains S claim v fit)) (λ bytes h. written_in_maintains f bytes declared)
