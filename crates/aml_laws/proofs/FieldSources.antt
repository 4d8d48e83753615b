-- A field is accessed by what it was declared in.
use Rattle.std.specs.Prelude.{◌≡◌, ℕ, List, Ok, Err, refl}
use Rattle.std.proofs.Common.{ap, ◌∙◌}
use Rattle.ar_space.specs.Accesses.{Accesses}
use Rattle.ar_space.specs.Change.{go_on, ◌>>=◌}
use Rattle.ar_space.specs.declared.refusal.Refusal.{Refusal}
use Rattle.aml_path.specs.declared.segment.Seg.{Seg}
use Rattle.aml_objects.specs.declared.entry.Bank.{Bank}
use Rattle.aml_objects.specs.declared.entry.BufferField.{BufferField}
use Rattle.aml_objects.specs.declared.entry.Field.TheVariants as field
use Rattle.aml_objects.specs.declared.entry.FieldSource.{FieldSource}
use Rattle.aml_objects.specs.declared.entry.FieldSource.TheVariants as sources
use Rattle.aml_objects.specs.declared.entry.FieldUnit.{FieldUnit}
use Rattle.aml_fields.specs.declared.region.Region.{Region}
use Rattle.aml_fields.specs.BufferFields.{read_buffer_field, write_buffer_field}
use Rattle.aml_fields.specs.Regions.{read_field, write_field}
use Rattle.aml_world.specs.fields.Regions.{field_declared}
use Rattle.aml_world.specs.state.State.{State, on_objects, on_space}
use Rattle.aml_world.specs.state.Run.{Run, lift}
use Rattle.aml_world.specs.fields.Fields.{bits_in, written_in, located, field_unit_bits, field_unit_written, region_bits, region_written, index_bits, index_written, bank_bits, bank_written}
use Rattle.aml_laws.specs.PlainRegions.{IsPlainRegion}
use Rattle.aml_laws.proofs.IndexedFields.{located_is}

module _ {S : Type 0} (accesses : Accesses S) (call : List Seg → Run S ℕ) (f : FieldUnit) where
  by_source : (source : FieldSource) → f.source ≡ source → (bits_in accesses call (field.Unit f) ≡ field_unit_bits accesses call source f) × ((bytes : List ℕ) → written_in accesses call (field.Unit f) bytes ≡ field_unit_written accesses call source f bytes)
  by_source source e = (ap (λ q. field_unit_bits accesses call q f) e, λ bytes. ap (λ q. field_unit_written accesses call q f bytes) e)

  pub in_region : (n : ℕ) → f.source ≡ sources.Region n → (bits_in accesses call (field.Unit f) ≡ region_bits accesses call (record { region = n; unit = f })) × ((bytes : List ℕ) → written_in accesses call (field.Unit f) bytes ≡ region_written accesses call (record { region = n; unit = f }) bytes)
  in_region n e = by_source (sources.Region n) e

  pub by_index : (i d : ℕ) → f.source ≡ sources.Index i d → (bits_in accesses call (field.Unit f) ≡ index_bits accesses call i d f) × ((bytes : List ℕ) → written_in accesses call (field.Unit f) bytes ≡ index_written accesses call i d f bytes)
  by_index i d e = by_source (sources.Index i d) e

  pub in_bank : (n : ℕ) (bank : Bank) → f.source ≡ sources.Bank n bank → (bits_in accesses call (field.Unit f) ≡ bank_bits accesses call n bank f) × ((bytes : List ℕ) → written_in accesses call (field.Unit f) bytes ≡ bank_written accesses call n bank f bytes)
  in_bank n bank e = by_source (sources.Bank n bank) e

  pub bank_gone_read : (n : ℕ) (bank : Bank) (s : State S × ℕ) (e : Refusal) → lift (field_declared bank.field) s ≡ (Err e, s) → bank_bits accesses call n bank f s ≡ (Err e, s)
  unfolding bank_bits ◌>>=◌ go_on
  bank_gone_read n bank s e h = rw h refl

  pub bank_gone_written : (n : ℕ) (bank : Bank) (bytes : List ℕ) (s : State S × ℕ) (e : Refusal) → lift (field_declared bank.field) s ≡ (Err e, s) → bank_written accesses call n bank f bytes s ≡ (Err e, s)
  unfolding bank_written ◌>>=◌ go_on
  bank_gone_written n bank bytes s e h = rw h refl

-- a field of a buffer: bits of the buffer
module _ {S : Type 0} (accesses : Accesses S) (call : List Seg → Run S ℕ) (b : BufferField) where
  pub in_buffer : (bits_in accesses call (field.Buffer b) ≡ lift (on_objects (read_buffer_field b))) × ((bytes : List ℕ) → written_in accesses call (field.Buffer b) bytes ≡ lift (on_objects (write_buffer_field b bytes)))
  in_buffer = (refl, λ bytes. refl)

-- ---- in a region, where it is located

module _ {S : Type 0} (accesses : Accesses S) (call : List Seg → Run S ℕ) (f : FieldUnit) (n : ℕ) (source : f.source ≡ sources.Region n) (s after : State S × ℕ) where
  pub read_there : (region : Region) → located accesses call n s ≡ (Ok region, after) → bits_in accesses call (field.Unit f) s ≡ lift (on_space (read_field accesses region f)) after
  unfolding region_bits ◌>>=◌ go_on
  read_there region is = ap (λ m. m s) (in_region accesses call f n source).0 ∙ rw is refl

  pub written_there : (region : Region) (bytes : List ℕ) → located accesses call n s ≡ (Ok region, after) → written_in accesses call (field.Unit f) bytes s ≡ lift (on_space (write_field accesses region f bytes)) after
  unfolding region_written ◌>>=◌ go_on
  written_there region bytes is = ap (λ m. m s) ((in_region accesses call f n source).1 bytes) ∙ rw is refl

  pub nowhere_read : (e : Refusal) → located accesses call n s ≡ (Err e, after) → bits_in accesses call (field.Unit f) s ≡ (Err e, after)
  unfolding region_bits ◌>>=◌ go_on
  nowhere_read e is = ap (λ m. m s) (in_region accesses call f n source).0 ∙ rw is refl

  pub nowhere_written : (e : Refusal) (bytes : List ℕ) → located accesses call n s ≡ (Err e, after) → written_in accesses call (field.Unit f) bytes s ≡ (Err e, after)
  unfolding region_written ◌>>=◌ go_on
  nowhere_written e bytes is = ap (λ m. m s) ((in_region accesses call f n source).1 bytes) ∙ rw is refl

module _ {S : Type 0} (accesses : Accesses S) (call : List Seg → Run S ℕ) (f : FieldUnit) (n : ℕ) (w : State S) (steps : ℕ) (region : Region) (plain : IsPlainRegion w n region) (source : f.source ≡ sources.Region n) where
  pub plain_read : bits_in accesses call (field.Unit f) (w, steps) ≡ lift (on_space (read_field accesses region f)) (w, steps)
  plain_read = read_there accesses call f n source (w, steps) (w, steps) region (located_is accesses call w steps n region plain)

  pub plain_written : (bytes : List ℕ) → written_in accesses call (field.Unit f) bytes (w, steps) ≡ lift (on_space (write_field accesses region f bytes)) (w, steps)
  plain_written bytes = written_there accesses call f n source (w, steps) (w, steps) region bytes (located_is accesses call w steps n region plain)

pub ruleset a_field_is_accessed_by_its_source = (in_region, by_index, in_bank, in_buffer)

pub ruleset a_field_of_a_region_is_accessed_in_it = (located_is, plain_read, plain_written, read_there, written_there)
