-- The units of a field in a bank are read and written one after another, each right behind a write of the bank register.
use Rattle.std.specs.Prelude.{◌≡◌, ℕ, ◌<◌, ◌^◌, ◌==◌, Bool, true, false, List, Ok, refl, if◌then◌else◌}
use Rattle.std.proofs.Common.{ap, sym, subst, ◌∙◌}
use Rattle.std.proofs.Math.Nat.{mod-eq_of_lt}
use Rattle.std.proofs.lemmas.Bool.{lt-ltb}
use Rattle.ar_space.specs.declared.space.Width.{Width}
use Rattle.ar_space.specs.Accesses.{Accesses, bit_count}
use Rattle.ar_space.specs.Outcome.{Outcome}
use Rattle.ar_space.specs.Change.{Change, settle, go_on, ◌>>=◌}
use Rattle.aml_path.specs.declared.segment.Seg.{Seg}
use Rattle.aml_objects.specs.declared.entry.Bank.{Bank}
use Rattle.aml_objects.specs.declared.entry.FieldUnit.{FieldUnit}
use Rattle.aml_objects.specs.declared.entry.UpdateRule.{UpdateRule}
use Rattle.aml_objects.specs.declared.entry.UpdateRule.TheVariants.{Preserve, WriteAsOnes, WriteAsZeros}
use Rattle.aml_fields.specs.declared.region.Region.{Region}
use Rattle.aml_fields.specs.declared.field_units.Unit.{Unit as Access}
use Rattle.aml_fields.specs.Units.{units_of}
use Rattle.aml_fields.specs.UnitByUnit.{kept_by, kept, bits_read, write_units}
use Rattle.aml_fields.specs.Regions.{read_unit, write_access, write_whole}
use Rattle.aml_world.specs.fields.Regions.{bank_held}
use Rattle.aml_world.specs.state.State.{State, on_space}
use Rattle.aml_world.specs.state.Run.{Run, lift}
use Rattle.aml_world.specs.fields.Fields.{unit_bytes, region_written, bank_selected, bank_unit, bank_unit_written, bank_bits, bank_written}
use Rattle.aml_laws.specs.IndexRegisters.{Register, IsRegister}
use Rattle.aml_laws.specs.BankRegisters.{selected_and_read, selected_and_written}
use Rattle.aml_laws.specs.PlainRegions.{IsPlainRegion}
use Rattle.aml_laws.proofs.IndexedFields.{Over, with_space, over, then_over, space_over, bits_read_over, write_units_over, located_over, declared_over, chosen_over}

-- a register as wide as this holds the value
register_holds : {S : Type 0} (w : State S) (n : ℕ) (register : Register) (is : IsRegister w n register) (value : ℕ) → value < 2 ^ bit_count register.width → bank_held is.field value ≡ Ok tt
register_holds w n register is value fits = held_if _ _ (lt-ltb value (2 ^ is.field.unit.bits) (subst (λ b. value < 2 ^ b) (sym is.whole) fits))
  where
    held_if : (b : Bool) (x : Outcome (Unit {0})) → b ≡ true → (if b then Ok tt else x) ≡ Ok tt
    held_if true x e = refl
    held_if false x e = absurd (cc e)

module _ {S : Type 0} (w : State S) (steps : ℕ) where
  kept_or_over : (rule : UpdateRule) (whole : Bool) (m : Run S ℕ) (k : Change S ℕ) → Over w steps m k → Over w steps (λ h. if whole then (Ok 0, h) else kept_by rule m h) (λ s. if whole then (Ok 0, s) else kept_by rule k s)
  kept_or_over rule true m k h = record { over_is = λ s. refl }
  kept_or_over Preserve false m k h = record { over_is = h.over_is }
  kept_or_over WriteAsOnes false m k h = record { over_is = λ s. refl }
  kept_or_over WriteAsZeros false m k h = record { over_is = λ s. refl }

  pub kept_over : (f : FieldUnit) (u : Access) (m : Run S ℕ) (k : Change S ℕ) → Over w steps m k → Over w steps (kept f u m) (kept f u k)
  unfolding kept
  kept_over f u m k h = kept_or_over f.update (u.count == bit_count f.access) m k h

module _ {S : Type 0} (w : State S) (steps : ℕ) (accesses : Accesses S) (call : List Seg → Run S ℕ) (n : ℕ) (b : Bank) (register : Register) (region : Region) (is : IsRegister w b.field register) (plain : IsPlainRegion w n region) (fits : b.value < 2 ^ bit_count register.width) where
  selected_over : Over w steps (bank_selected accesses call is.field b.value) (write_access accesses register.at register.width b.value)
  unfolding bank_selected settle ◌>>=◌ go_on
  selected_over = record {
    over_is = λ s.
        ap (λ o. (settle o >>= (λ held. region_written accesses call is.field (unit_bytes b.value))) (with_space w steps s)) (register_holds w b.field register is b.value fits)
        ∙ (chosen_over w steps accesses call b.field register is b.value).over_is s
        ∙ ap (λ v. over w steps (write_access accesses register.at register.width v s)) (mod-eq_of_lt fits);
  }

  unit_read_over : (width : Width) (u : Access) → Over w steps (bank_unit accesses call is.field b.value region width u) (selected_and_read accesses register b.value region width u)
  unfolding bank_unit selected_and_read
  unit_read_over width u = then_over w steps _ _ _ _ selected_over (λ selected. space_over w steps _ (read_unit accesses region width u) (λ s. refl))

  pub read_in_bank : (f : FieldUnit) → bank_bits accesses call n b f (w, steps) ≡ lift (on_space (bits_read (selected_and_read accesses register b.value region f.access) f)) (w, steps)
  unfolding bank_bits lift on_space
  read_in_bank f =
      (declared_over w steps accesses call b.field register is _ _
      (located_over w steps accesses call n region _ _ plain
      (bits_read_over w steps _ _ (unit_read_over f.access) f))).over_is w.space

  unit_written_over : (f : FieldUnit) (bytes : List ℕ) (u : Access) → Over w steps (bank_unit_written accesses call is.field b.value region f bytes u) (selected_and_written accesses register b.value region f bytes u)
  unfolding bank_unit_written selected_and_written
  unit_written_over f bytes u =
      then_over w steps _ _ _ _ (kept_over w steps f u _ _ (unit_read_over f.access u))
      (λ old. then_over w steps _ _ _ _ selected_over (λ selected. space_over w steps _ (write_whole accesses region f.access u.offset _) (λ s. refl)))

  pub written_in_bank : (f : FieldUnit) (bytes : List ℕ) → bank_written accesses call n b f bytes (w, steps) ≡ lift (on_space (write_units (selected_and_written accesses register b.value region f bytes) (units_of f.bit_offset f.bits f.access))) (w, steps)
  unfolding bank_written lift on_space
  written_in_bank f bytes =
      (declared_over w steps accesses call b.field register is _ _
      (located_over w steps accesses call n region _ _ plain
      (write_units_over w steps _ _ (unit_written_over f bytes) (units_of f.bit_offset f.bits f.access)))).over_is w.space
