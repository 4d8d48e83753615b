-- Fields of a bank: units that are accessed one by one are what the field's access means.
use Rattle.std.proofs.Common.{◌≡◌, ◌≤◌, ◌<◌, ◌+◌, ℕ, List, [], ◌∷◌, ◌++◌, length, drop, replicate, Bool, refl, ◌∙◌, ap, sym, subst, length-append}
use Rattle.std.proofs.lemmas.List.{append_assoc}
use Rattle.ar_space.specs.Accesses.{Accesses}
use Rattle.ar_space.specs.Change.{give, ◌>>=◌}
use Rattle.aml_fields.specs.Bits.{bits_from, byte_count, extended, packed}
use Rattle.aml_fields.specs.Regions.{write_whole}
use Rattle.aml_fields.specs.UnitByUnit.{read_units, bits_read, write_units, kept}
use Rattle.aml_fields.specs.declared.region.Region.{Region}
use Rattle.aml_fields.specs.declared.field_units.Unit.{Unit as UnitAccess}
use Rattle.aml_fields.specs.Covering.{Cover}
use Rattle.aml_fields.specs.Units.{units_of}
use Rattle.aml_fields.proofs.Covers.{units_cover}
use Rattle.aml_fields.proofs.Putting.{length_extended}
use Rattle.aml_fields.proofs.UnitLoops.{in_unit, in_field}
use Rattle.aml_objects.specs.declared.entry.Bank.{Bank}
use Rattle.aml_objects.specs.declared.entry.Field.TheVariants as field
use Rattle.aml_objects.specs.declared.entry.FieldSource.TheVariants as sources
use Rattle.aml_objects.specs.declared.entry.FieldUnit.{FieldUnit}
use Rattle.aml_world.specs.declared.fields.regions.RegionField.{RegionField}
use Rattle.aml_world.specs.state.State.{State, on_space}
use Rattle.aml_world.specs.state.Run.{Run, lift}
use Rattle.aml_world.specs.fields.Regions.{space_numbered, region_declared, field_declared}
use Rattle.aml_world.specs.fields.Fields.{space_at, located, bank_unit_written, bank_bits, bank_written, field_unit_bits, field_unit_written}
use Rattle.aml_meaning.specs.declared.flow.Flow.{Flow}
use Rattle.aml_meaning.specs.declared.flow.Flow.TheVariants as flow
use Rattle.aml_meaning.specs.Meaning.{meaning}
use Rattle.aml_frames.specs.declared.banked.BankedField.{BankedField}
use Rattle.aml_frames.specs.declared.banked.Selector.{Selector}
use Rattle.aml_frames.specs.declared.uses.Accessed.TheVariants as object
use Rattle.aml_frames.specs.declared.uses.Doing.{Doing}
use Rattle.aml_frames.specs.declared.uses.Doing.TheVariants as doing
use Rattle.aml_frames.specs.declared.uses.Reading.{Reading}
use Rattle.aml_frames.specs.Uses.{asking, access_done, read_as}
use Rattle.aml_frames.specs.Indexed.{merged_bits, put_unit, merged_unit}
use Rattle.aml_frames.specs.Banked.{field_at, selected, unit_read, reads_left, written_over, writes_left, units_done}
use Rattle.aml_frames.specs.Addresses.{bank_access, banked_done, space_known}
use Rattle.aml_frames.proofs.Stepping.{bind_bind}
use Rattle.aml_frames.proofs.Targeting.{bind_as, bind_same}
use Rattle.aml_frames.proofs.Using.{given_one}
use Rattle.aml_frames.proofs.Indexing.{Holds, all_within, none_held, one_more_held, all_held, after_same}

module _ {S : Type 0} (ac : Accesses S) where
  -- ---- reads

  reads_are : (x : BankedField) (r : Reading) (done : List Bool) (bytes : List ℕ) (left : List UnitAccess) → x.field.bits < 4294967296 → Cover x.field.bit_offset x.field.bits x.field.access (length done) left → Holds x.field bytes done → (s : State S × ℕ)
      → (read_units (unit_read ac (meaning ac) x) left >>= (λ bits. give (packed (done ++ bits))) >>= read_as r x.field.bits) s ≡ reads_left ac (meaning ac) x r bytes left s
  unfolding read_units reads_left
  reads_are x r done bytes [] few c h s =
      bind_bind (give []) (λ bits. give (packed (done ++ bits))) (read_as r x.field.bits) s
      ∙ given_one [] (λ bits. give (packed (done ++ bits)) >>= read_as r x.field.bits) s
      ∙ given_one (packed (done ++ [])) (read_as r x.field.bits) s
      ∙ ap (λ l. read_as r x.field.bits l s) (sym (all_held x.field bytes done c h))
  reads_are x r done bytes (u ∷ us) few c h s =
      let read = unit_read ac (meaning ac) x in
      let new : ℕ → List Bool = λ n. extended u.count (drop u.first (bits_from n 0 64)) in
      let rest : ℕ → Run S (List Bool) = λ n. read_units read us >>= (λ bits. give (new n ++ bits)) in
      let end : List Bool → Run S (List ℕ) = λ bits. give (packed (done ++ bits)) in
      let k = read_as r x.field.bits in
      bind_bind (read u >>= rest) end k s
      ∙ bind_bind (read u) rest (λ bits. end bits >>= k) s
      ∙ bind_same (read u) _ _ s (λ n t.
      bind_bind (read_units read us) (λ bits. give (new n ++ bits)) (λ bits. end bits >>= k) t
      ∙ bind_same (read_units read us) _ _ t (λ bits v. given_one (new n ++ bits) (λ all. end all >>= k) v ∙ ap (λ l. (give (packed l) >>= k) v) (sym (append_assoc done (new n) bits)))
      ∙ sym (bind_bind (read_units read us) (λ bits. give (packed ((done ++ new n) ++ bits))) k t)
      ∙ reads_are x r (done ++ new n) (put_unit bytes u n) us few (subst (λ i. Cover x.field.bit_offset x.field.bits x.field.access i us) (sym (length-append done (new n) ∙ ap (λ i. length done + i) (length_extended u.count (drop u.first (bits_from n 0 64))))) c.2) (one_more_held x.field bytes done n u us few c h) t)

  -- ---- writes

  written_is : (x : BankedField) (bytes : List ℕ) (u : UnitAccess) → u.first + u.count ≤ 64 → u.position + u.count ≤ x.field.bits → (s : State S × ℕ)
      → (kept x.field u (unit_read ac (meaning ac) x u) >>= written_over ac (meaning ac) x bytes u) s ≡ bank_unit_written ac (asking ac (meaning ac) x.calls) x.bank.field x.bank.value x.region x.field bytes u s
  unfolding bank_unit_written written_over merged_unit
  written_is x bytes u h i s =
      ap (λ (v : UnitAccess). (kept x.field u (unit_read ac (meaning ac) x u) >>= (λ old. selected ac (meaning ac) x >>= (λ chosen. lift (on_space (write_whole ac x.region x.field.access u.offset (merged_bits x.field bytes v old)))))) s) (all_within x.field.bits u h i)

  writes_are : (x : BankedField) (bytes : List ℕ) (done : ℕ) (left : List UnitAccess) → Cover x.field.bit_offset x.field.bits x.field.access done left → (s : State S × ℕ)
      → (write_units (bank_unit_written ac (asking ac (meaning ac) x.calls) x.bank.field x.bank.value x.region x.field bytes) left >>= (λ done. give flow.Next)) s ≡ writes_left ac (meaning ac) x bytes left s
  unfolding write_units writes_left
  writes_are x bytes done [] c s = given_one tt (λ done. give flow.Next) s
  writes_are x bytes done (u ∷ us) c s =
      let write = bank_unit_written ac (asking ac (meaning ac) x.calls) x.bank.field x.bank.value x.region x.field bytes in
      let old = kept x.field u (unit_read ac (meaning ac) x u) in
      let unit = in_unit x.field.bit_offset x.field.bits done x.field.access u us (u ∷ us) refl c in
      let within = in_field x.field.bit_offset x.field.bits done x.field.access u us (u ∷ us) refl c in
      bind_bind (write u) (λ o. write_units write us) (λ o. give flow.Next) s
      ∙ bind_same (write u) _ _ s (λ o t. writes_are x bytes (done + u.count) us c.2 t)
      ∙ after_same (write u) (old >>= written_over ac (meaning ac) x bytes u) (λ o. writes_left ac (meaning ac) x bytes us) s (sym (written_is x bytes u unit within s))
      ∙ bind_bind old (written_over ac (meaning ac) x bytes u) (λ o. writes_left ac (meaning ac) x bytes us) s

  -- ---- a field

  -- what follows where a region is
  located_then : (calls n : ℕ) (bank : Selector) (f : FieldUnit) (d : Doing) (k : Region → Run S Flow) → ((q : Region) (i : State S × ℕ) → k q i ≡ units_done ac (meaning ac) (field_at calls bank q f) d i) → (s : State S × ℕ)
      → (located ac (asking ac (meaning ac) calls) n >>= k) s
      ≡ (lift (region_declared n) >>= (λ x. space_at ac (asking ac (meaning ac) calls) (space_numbered x.1.space) x.0 >>= (λ space. space_known ac (meaning ac) (bank_access ac (meaning ac) calls n bank f d x.1) space))) s
  unfolding located
  located_then calls n bank f d k e s =
      let at = space_at ac (asking ac (meaning ac) calls) in
      bind_bind (lift (region_declared n)) _ k s
      ∙ bind_same (lift (region_declared n)) _ _ s (λ x i. bind_bind (at (space_numbered x.1.space) x.0) _ k i
      ∙ bind_same (at (space_numbered x.1.space) x.0) _ _ i (λ space j.
      let q : Region = record { space = space; offset = x.1.offset; length = x.1.length } in
      given_one q k j ∙ e q j))

  pub banks_are : (calls n : ℕ) (b : Bank) (f : FieldUnit) (x : Doing) (s : State S × ℕ) → f.bits < 4294967296 → f.source ≡ sources.Bank n b → access_done ac (meaning ac) calls (object.Field (field.Unit f)) x s ≡ banked_done ac (meaning ac) calls n b f x s
  unfolding bank_bits bank_written bits_read
  banks_are calls n b f (doing.Read r) s few e =
      let at : RegionField → Selector = λ (bank : RegionField). record { field = bank; value = b.value } in
      bind_as _ _ (read_as r f.bits) s (ap (λ y. field_unit_bits ac (asking ac (meaning ac) calls) y f) e)
      ∙ bind_bind (lift (field_declared b.field)) _ (read_as r f.bits) s
      ∙ bind_same (lift (field_declared b.field)) _ _ s (λ bank t. bind_bind (located ac (asking ac (meaning ac) calls) n) _ (read_as r f.bits) t
      ∙ located_then calls n (at bank) f (doing.Read r) _ (λ q i. reads_are (field_at calls (at bank) q f) r [] (replicate (byte_count f.bits) 0) (units_of f.bit_offset f.bits f.access) few (units_cover f.bit_offset f.bits f.access) (none_held f) i) t)
  banks_are calls n b f (doing.Write bytes) s few e =
      let at : RegionField → Selector = λ (bank : RegionField). record { field = bank; value = b.value } in
      bind_as _ _ (λ done. give flow.Next) s (ap (λ y. field_unit_written ac (asking ac (meaning ac) calls) y f bytes) e)
      ∙ bind_bind (lift (field_declared b.field)) _ (λ done. give flow.Next) s
      ∙ bind_same (lift (field_declared b.field)) _ _ s (λ bank t. bind_bind (located ac (asking ac (meaning ac) calls) n) _ (λ done. give flow.Next) t
      ∙ located_then calls n (at bank) f (doing.Write bytes) _ (λ q i. writes_are (field_at calls (at bank) q f) bytes 0 (units_of f.bit_offset f.bits f.access) (units_cover f.bit_offset f.bits f.access) i) t)
