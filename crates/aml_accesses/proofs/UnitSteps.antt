-- Accesses of fields behind an index field, one unit after another: each step keeps what is left of the access.
use Rattle.std.proofs.Common.{◌≡◌, ◌≤◌, ◌<◌, ◌+◌, ◌*◌, ℕ, List, [], ◌∷◌, ◌++◌, length, take, drop, true, false, Ok, Err, IfOk, refl, ◌∙◌, ap, sym, arith}
use Rattle.std.proofs.Math.Nat.{mul-le-mul_right}
use Rattle.std.proofs.Math.Seq.{take-append_seam}
use Rattle.ar_space.specs.Accesses.{Accesses}
use Rattle.ar_space.specs.Outcome.{Outcome, Answers}
use Rattle.ar_space.specs.Change.{give, settle, go_on, ◌>>=◌}
use Rattle.aml_objects.specs.declared.entry.Field.TheVariants as field
use Rattle.aml_objects.specs.declared.entry.FieldSource.TheVariants as sources
use Rattle.aml_objects.specs.declared.entry.FieldUnit.{FieldUnit}
use Rattle.aml_fields.specs.declared.field_units.Unit.{Unit as UnitAccess}
use Rattle.aml_fields.specs.Units.{units_of}
use Rattle.aml_fields.specs.UnitByUnit.{kept}
use Rattle.aml_world.specs.declared.fields.regions.RegionField.{RegionField}
use Rattle.aml_world.specs.state.State.{State}
use Rattle.aml_world.specs.state.Run.{Run}
use Rattle.aml_world.specs.fields.Regions.{integer_only}
use Rattle.aml_world.specs.fields.Fields.{unit_bytes, unit_of, index_unit, region_bits, region_written}
use Rattle.aml_meaning.specs.declared.flow.Flow.{Flow}
use Rattle.aml_meaning.specs.declared.flow.Flow.TheVariants as flow
use Rattle.aml_meaning.specs.Meaning.{meaning}
use Rattle.aml_meaning.specs.Calls.{value_of_call}
use Rattle.aml_frames.specs.declared.frames.Frame.{Frame}
use Rattle.aml_frames.specs.declared.frames.Frame.TheVariants as frames
use Rattle.aml_frames.specs.declared.frames.Next.{Next}
use Rattle.aml_frames.specs.declared.frames.Next.TheVariants as next
use Rattle.aml_frames.specs.declared.indexed.UnitReads.{UnitReads}
use Rattle.aml_frames.specs.declared.indexed.UnitWrites.{UnitWrites}
use Rattle.aml_frames.specs.declared.indexed.UnitsLeft.{UnitsLeft}
use Rattle.aml_frames.specs.declared.indexed.UnitsLeft.TheVariants as units_left
use Rattle.aml_frames.specs.declared.uses.Accessed.TheVariants as object
use Rattle.aml_frames.specs.declared.uses.Doing.{Doing}
use Rattle.aml_frames.specs.declared.uses.Doing.TheVariants as doing
use Rattle.aml_frames.specs.declared.uses.Reading.TheVariants as reading
use Rattle.aml_frames.specs.Places.{Site}
use Rattle.aml_frames.specs.Uses.{asking, access_done, read_as}
use Rattle.aml_frames.specs.Indexed.{field_accessed, is_kept, put_unit, merged_unit, unit_read, reads_left, written_over, writes_left, unit_met, unit_given, unit_behind, unit_chosen, writes_done, indexed_done}
use Rattle.aml_frames.specs.Weights.{part_weight, region_weight, field_weight, units_weight, next_weight}
use Rattle.aml_frames.specs.Follow.{number_written_then, resumed, Leads}
use Rattle.aml_frames.proofs.Stepping.{bind_bind, stepping, leads_settle_ok}
use Rattle.aml_frames.proofs.Targeting.{bind_same}
use Rattle.aml_frames.proofs.Using.{given_one}
use Rattle.aml_frames.proofs.Indexing.{bound, after_same, units_are, kept_read, kept_none, many_on, few_units}

-- ---- what units ask for

more_units : (calls : ℕ) (xs ys : List UnitAccess) (u : UnitAccess) → xs ≡ u ∷ ys → units_weight calls xs ≡ units_weight calls ys + (4 * region_weight calls + 20)
unfolding units_weight
more_units calls xs ys u e = rw e (many_on (length ys) (4 * region_weight calls + 20))

all_units : (calls : ℕ) (f : FieldUnit) → f.bits < 4294967296 → units_weight calls (units_of f.bit_offset f.bits f.access) + 40 ≤ field_weight calls
unfolding units_weight part_weight
all_units calls f few = let h = mul-le-mul_right (4 * region_weight calls + 20) (few_units f few) in omega (arith, h)

-- all units of a field ask for less than any field; one that is read first, and one that isn't, for less than it gives back
pub falls_units : (r : Outcome Next) (calls : ℕ) (f : FieldUnit) → f.bits < 4294967296 → IfOk r (λ n. next_weight n < units_weight calls (units_of f.bit_offset f.bits f.access) + 4) → IfOk r (λ n. next_weight n < field_weight calls)
falls_units (Ok n) calls f few h = let i = all_units calls f few in omega (arith, h, i)
falls_units (Err e) calls f few h = tt

pub falls_read : (r : Outcome Next) (calls : ℕ) (xs ys : List UnitAccess) (u : UnitAccess) → xs ≡ u ∷ ys → IfOk r (λ n. next_weight n < units_weight calls ys + 4 * region_weight calls + 2) → IfOk r (λ n. next_weight n < units_weight calls xs + 4)
falls_read (Ok n) calls xs ys u e h = let i = more_units calls xs ys u e in omega (arith, h, i)
falls_read (Err x) calls xs ys u e h = tt

pub falls_written : (r : Outcome Next) (calls : ℕ) (xs ys : List UnitAccess) (u : UnitAccess) → xs ≡ u ∷ ys → IfOk r (λ n. next_weight n < units_weight calls ys + 2 * region_weight calls + 2) → IfOk r (λ n. next_weight n < units_weight calls xs + 4)
falls_written (Ok n) calls xs ys u e h = let i = more_units calls xs ys u e in omega (arith, h, i)
falls_written (Err x) calls xs ys u e h = tt

-- ---- the bytes of a read, over which a unit was put

pub items_put : (n : ℕ) (xs ys : List ℕ) → length xs ≡ n → take n (xs ++ drop (length xs) ys) ≡ xs
items_put n xs ys e = ap (λ k. take k (xs ++ drop (length xs) ys)) (sym e) ∙ take-append_seam xs (drop (length xs) ys)

module _ {S : Type 0} (ac : Accesses S) where
  -- a unit is read, and what is done with what it holds
  read_is : (l : UnitsLeft) (u : UnitAccess) (s : State S × ℕ) → (unit_read ac (meaning ac) (field_accessed l) u >>= unit_met ac (meaning ac) l u) s ≡ unit_chosen ac (meaning ac) l u s
  unfolding index_unit
  read_is l u s =
      let call = asking ac (meaning ac) (field_accessed l).calls in
      let chosen = region_written ac call (field_accessed l).index (unit_bytes u.offset) in
      let bits = region_bits ac call (field_accessed l).behind in
      let w = (field_accessed l).field.access in
      let k = unit_met ac (meaning ac) l u in
      bind_bind chosen (λ o. bits >>= (λ bytes. give (unit_of w bytes))) k s
      ∙ bind_same chosen _ _ s (λ o i. bind_bind bits (λ bytes. give (unit_of w bytes)) k i ∙ bind_same bits _ _ i (λ bytes j. given_one (unit_of w bytes) k j))

  unit_told : (l : UnitsLeft) (u : UnitAccess) (count : ℕ) (bytes : List ℕ) (s : State S × ℕ) → (read_as (reading.Unit (field_accessed l).field.access) count bytes >>= unit_given ac (meaning ac) l u) s ≡ unit_met ac (meaning ac) l u (unit_of (field_accessed l).field.access bytes) s
  unfolding read_as give settle ◌>>=◌ go_on
  unit_told l u count bytes s = refl

module _ {S : Type 0} {ac : Accesses S} where
  pub leads_indexed : {r : Outcome Next} {c : Site} {s s1 : State S × ℕ} (calls i d : ℕ) (f : FieldUnit) (x : Doing) → f.bits < 4294967296 → f.source ≡ sources.Index i d → Leads ac (meaning ac) r c s1 (indexed_done ac (meaning ac) calls i d f x) s → Leads ac (meaning ac) r c s1 (access_done ac (meaning ac) calls (object.Field (field.Unit f)) x) s
  leads_indexed {s = s} calls i d f x few e h = record { is = λ ne. units_are ac calls i d f x s few e ∙ h.is ne }

  -- ---- accesses of the index field and of the data field

  pub leads_written_then : {c : Site} {s : State S × ℕ} (calls : ℕ) (f : RegionField) (n : ℕ) (bytes : List ℕ) (x : Frame) → bytes ≡ unit_bytes n → Leads ac (meaning ac) (Ok (next.AccessThen (record { calls = calls; object = object.Unit f; doing = doing.Write bytes }) x)) c s (number_written_then ac (meaning ac) calls f n x c) s
  leads_written_then {c = c} {s = s} calls f n bytes x e =
      let written : List ℕ → Run S (Unit {0}) = λ bs. region_written ac (asking ac (meaning ac) calls) f bs in
      let k = resumed ac (meaning ac) x c in
      record {
        is = λ _.
            ap (λ bs. (written bs >>= (λ done. k flow.Next)) s) (sym e)
            ∙ sym (bind_bind (written bytes) (λ done. give flow.Next) k s ∙ bind_same (written bytes) _ _ s (λ done i. given_one flow.Next k i));
      }

  pub leads_behind : {c : Site} {s : State S × ℕ} (l : UnitsLeft) (u : UnitAccess)
      → Leads ac (meaning ac) (Ok (next.AccessThen (record { calls = (field_accessed l).calls; object = object.Unit (field_accessed l).behind; doing = doing.Read (reading.Unit (field_accessed l).field.access) }) (frames.UnitRead l u))) c s (unit_behind ac (meaning ac) l u) s
  leads_behind {s = s} l u =
      let bits = region_bits ac (asking ac (meaning ac) (field_accessed l).calls) (field_accessed l).behind in
      let read = read_as (reading.Unit (field_accessed l).field.access) (field_accessed l).behind.unit.bits in
      record { is = λ _. sym (bind_bind bits read (unit_given ac (meaning ac) l u) s ∙ bind_same bits _ _ s (λ bytes i. unit_told ac l u (field_accessed l).behind.unit.bits bytes i)) }

  -- ---- the next unit

  pub leads_read : {r : Outcome Next} {c : Site} {s s1 : State S × ℕ} (x : UnitReads) (u : UnitAccess) (us : List UnitAccess) → us ≡ u ∷ x.left → Leads ac (meaning ac) r c s1 (unit_chosen ac (meaning ac) (units_left.Reads x) u) s → Leads ac (meaning ac) r c s1 (reads_left ac (meaning ac) x.field x.reading x.bytes.items us) s
  unfolding reads_left
  leads_read {s = s} x u us e h = record { is = λ ne. ap (λ l. reads_left ac (meaning ac) x.field x.reading x.bytes.items l s) e ∙ read_is ac (units_left.Reads x) u s ∙ h.is ne }

  pub leads_all_read : {r : Outcome Next} {c : Site} {s s1 : State S × ℕ} (x : UnitReads) (us : List UnitAccess) → us ≡ [] → Leads ac (meaning ac) r c s1 (read_as x.reading x.field.field.bits x.bytes.items) s → Leads ac (meaning ac) r c s1 (reads_left ac (meaning ac) x.field x.reading x.bytes.items us) s
  unfolding reads_left
  leads_all_read {s = s} x us e h = record { is = λ ne. ap (λ l. reads_left ac (meaning ac) x.field x.reading x.bytes.items l s) e ∙ h.is ne }

  pub leads_kept : {r : Outcome Next} {c : Site} {s s1 : State S × ℕ} (x : UnitWrites) (u : UnitAccess) (us : List UnitAccess) → us ≡ u ∷ x.left → is_kept x.field.field u ≡ true → Leads ac (meaning ac) r c s1 (unit_chosen ac (meaning ac) (units_left.Writes x) u) s → Leads ac (meaning ac) r c s1 (writes_left ac (meaning ac) x.field x.bytes us) s
  unfolding writes_left
  leads_kept {s = s} x u us e i h =
      let read = unit_read ac (meaning ac) x.field u in
      record {
        is = λ ne.
            ap (λ l. writes_left ac (meaning ac) x.field x.bytes l s) e
            ∙ after_same (kept x.field.field u read) read (unit_met ac (meaning ac) (units_left.Writes x) u) s (kept_read ac x.field.field u read s i)
            ∙ read_is ac (units_left.Writes x) u s
            ∙ h.is ne;
      }

  pub leads_unkept : {r : Outcome Next} {c : Site} {s s1 : State S × ℕ} (x : UnitWrites) (u : UnitAccess) (us : List UnitAccess) → us ≡ u ∷ x.left → is_kept x.field.field u ≡ false → Leads ac (meaning ac) r c s1 (unit_met ac (meaning ac) (units_left.Writes x) u 0) s → Leads ac (meaning ac) r c s1 (writes_left ac (meaning ac) x.field x.bytes us) s
  unfolding writes_left
  leads_unkept {s = s} x u us e i h =
      let read = unit_read ac (meaning ac) x.field u in
      record {
        is = λ ne.
            ap (λ l. writes_left ac (meaning ac) x.field x.bytes l s) e
            ∙ bound (kept x.field.field u read) (unit_met ac (meaning ac) (units_left.Writes x) u) s s 0 (kept_none ac x.field.field u read s i)
            ∙ h.is ne;
      }

  pub leads_all_written : {c : Site} {s : State S × ℕ} (x : UnitWrites) (us : List UnitAccess) → us ≡ [] → Leads ac (meaning ac) (Ok (next.Flow flow.Next)) c s (writes_left ac (meaning ac) x.field x.bytes us) s
  unfolding writes_left
  leads_all_written {s = s} x us e = record { is = λ _. ap (λ l. writes_left ac (meaning ac) x.field x.bytes l s) e }

  -- a unit is written over what it holds
  pub leads_over : {r : Outcome Next} {c : Site} {s s1 : State S × ℕ} (x : UnitWrites) (u : UnitAccess) (old n : ℕ) → n ≡ merged_unit x.field.field x.bytes u old → Leads ac (meaning ac) r c s1 (number_written_then ac (meaning ac) x.field.calls x.field.index u.offset (frames.UnitMerged x n) c) s → Leads ac (meaning ac) r c s1 (unit_met ac (meaning ac) (units_left.Writes x) u old) s
  unfolding written_over
  leads_over {s = s} x u old n e h =
      let call = asking ac (meaning ac) x.field.calls in
      let chosen = region_written ac call x.field.index (unit_bytes u.offset) in
      let written : ℕ → Run S (Unit {0}) = λ m. region_written ac call x.field.behind (unit_bytes m) in
      let last : Unit {0} → Run S Flow = λ done. writes_done ac (meaning ac) x in
      record {
        is = λ ne.
            bind_bind chosen (λ o. written (merged_unit x.field.field x.bytes u old)) last s
            ∙ ap (λ m. (chosen >>= (λ o. written m >>= last)) s) (sym e)
            ∙ h.is ne;
      }

  -- a unit that was read is put over the bits that were read before
  pub leads_put : {r : Outcome Next} {c : Site} {s s1 : State S × ℕ} (x : UnitReads) (u : UnitAccess) (f : Flow) (n : ℕ) (bits : List ℕ) → Answers (Ok n) (integer_only (value_of_call f)) → bits ≡ put_unit x.bytes.items u n → Leads ac (meaning ac) r c s1 (reads_left ac (meaning ac) x.field x.reading bits x.left) s → Leads ac (meaning ac) r c s1 (unit_given ac (meaning ac) (units_left.Reads x) u f) s
  leads_put {s = s} x u f n bits i e h = leads_settle_ok (integer_only (value_of_call f)) (unit_met ac (meaning ac) (units_left.Reads x) u) i (rw e at h)

pub ruleset indexed = (stepping, leads_indexed, falls_units)

pub ruleset numbers_written = (stepping, leads_written_then)

pub ruleset unit_by_unit = (stepping, leads_behind, leads_read, leads_all_read, leads_kept, leads_unkept, leads_all_written, leads_over, falls_read, falls_written)
