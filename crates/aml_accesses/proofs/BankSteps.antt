-- Accesses of fields of a bank, one unit after another: each step keeps what is left of the access.
use Rattle.std.proofs.Common.{◌≡◌, ◌≤◌, ◌<◌, ◌+◌, ◌*◌, ℕ, List, [], ◌∷◌, length, true, false, None, Some, Ok, Err, IfOk, ◌∙◌, ap, sym, arith}
use Rattle.std.proofs.Math.Nat.{mul-le-mul_right}
use Rattle.ar_space.specs.Accesses.{Accesses}
use Rattle.ar_space.specs.Outcome.{Outcome}
use Rattle.ar_space.specs.Change.{settle, ◌>>=◌}
use Rattle.aml_objects.specs.declared.entry.Bank.{Bank}
use Rattle.aml_objects.specs.declared.entry.Field.TheVariants as field
use Rattle.aml_objects.specs.declared.entry.FieldSource.TheVariants as sources
use Rattle.aml_objects.specs.declared.entry.FieldUnit.{FieldUnit}
use Rattle.aml_fields.specs.declared.field_units.Unit.{Unit as UnitAccess}
use Rattle.aml_fields.specs.declared.region.AddressSpace.{AddressSpace}
use Rattle.aml_fields.specs.Regions.{read_unit, write_whole}
use Rattle.aml_fields.specs.Units.{units_of}
use Rattle.aml_fields.specs.UnitByUnit.{kept}
use Rattle.aml_world.specs.state.State.{State, on_space}
use Rattle.aml_world.specs.state.Run.{Run, lift}
use Rattle.aml_world.specs.fields.Regions.{bank_held}
use Rattle.aml_world.specs.fields.Fields.{unit_bytes, bank_selected, bank_unit, region_written}
use Rattle.aml_meaning.specs.declared.flow.Flow.{Flow}
use Rattle.aml_meaning.specs.declared.flow.Flow.TheVariants as flow
use Rattle.aml_meaning.specs.Meaning.{meaning}
use Rattle.aml_frames.specs.declared.addresses.RegionAccess.{RegionAccess}
use Rattle.aml_frames.specs.declared.banked.BankReads.{BankReads}
use Rattle.aml_frames.specs.declared.banked.BankWrites.{BankWrites}
use Rattle.aml_frames.specs.declared.banked.BanksLeft.{BanksLeft}
use Rattle.aml_frames.specs.declared.banked.BanksLeft.TheVariants as banks_left
use Rattle.aml_frames.specs.declared.banked.Selector.{Selector}
use Rattle.aml_frames.specs.declared.frames.Frame.TheVariants as frames
use Rattle.aml_frames.specs.declared.frames.Next.{Next}
use Rattle.aml_frames.specs.declared.frames.Next.TheVariants as next
use Rattle.aml_frames.specs.declared.uses.Accessed.TheVariants as object
use Rattle.aml_frames.specs.declared.uses.Doing.{Doing}
use Rattle.aml_frames.specs.Places.{Site}
use Rattle.aml_frames.specs.Uses.{asking, access_done, read_as}
use Rattle.aml_frames.specs.Indexed.{is_kept, put_unit, merged_unit}
use Rattle.aml_frames.specs.Banked.{field_at, field_accessed, selected, unit_read, reads_left, written_over, writes_left, units_done, unit_met, unit_behind, unit_chosen, writes_done}
use Rattle.aml_frames.specs.Addresses.{done_in, located_done, space_known, banked_done}
use Rattle.aml_frames.specs.Weights.{part_weight, region_weight, field_weight, units_weight, banked_weight, behind_weight, next_weight}
use Rattle.aml_frames.specs.Follow.{selected_then, Leads}
use Rattle.aml_frames.proofs.Stepping.{bind_bind, stepping}
use Rattle.aml_frames.proofs.Indexing.{bound, after_same, kept_read, kept_none, many_on, fewer_units}
use Rattle.aml_accesses.proofs.UnitSteps.{falls_written}
use Rattle.aml_accesses.proofs.BankUnits.{banks_are}

-- ---- what units ask for

-- the region is located, and then all units of the field are accessed
all_banked : (calls : ℕ) (f : FieldUnit) → f.bits < 4294967296 → region_weight calls + units_weight calls (units_of f.bit_offset f.bits f.access) ≤ field_weight calls
unfolding units_weight part_weight
all_banked calls f few =
    let n = length (units_of f.bit_offset f.bits f.access) in
    let h = mul-le-mul_right (4 * region_weight calls + 20) (fewer_units f few) in
    let i = many_on n (4 * region_weight calls + 20) in
    omega (arith, h, i)

pub falls_banked : (r : Outcome Next) (calls : ℕ) (f : FieldUnit) → f.bits < 4294967296 → IfOk r (λ n. next_weight n < region_weight calls + units_weight calls (units_of f.bit_offset f.bits f.access)) → IfOk r (λ n. next_weight n < field_weight calls)
falls_banked (Ok n) calls f few h = let i = all_banked calls f few in omega (arith, h, i)
falls_banked (Err e) calls f few h = tt

more_units : (calls : ℕ) (xs ys : List UnitAccess) (u : UnitAccess) → xs ≡ u ∷ ys → units_weight calls xs ≡ units_weight calls ys + (4 * region_weight calls + 20)
unfolding units_weight
more_units calls xs ys u e = rw e (many_on (length ys) (4 * region_weight calls + 20))

-- a unit that isn't read before it is written
pub falls_over : (r : Outcome Next) (calls : ℕ) (xs ys : List UnitAccess) (u : UnitAccess) → xs ≡ u ∷ ys → IfOk r (λ n. next_weight n < units_weight calls ys + region_weight calls + 2) → IfOk r (λ n. next_weight n < units_weight calls xs + 4)
falls_over (Ok n) calls xs ys u e h = let i = more_units calls xs ys u e in omega (arith, h, i)
falls_over (Err x) calls xs ys u e h = tt

-- a region that is located
pub falls_plain : (r : Outcome Next) (k : ℕ) → IfOk r (λ n. next_weight n < 4) → IfOk r (λ n. next_weight n < 4 + k)
falls_plain (Ok n) k h = omega (arith, h)
falls_plain (Err e) k h = tt

behind_bank : (a : RegionAccess) (bank : Selector) → a.bank ≡ Some bank → behind_weight a ≡ units_weight a.calls (units_of a.field.unit.bit_offset a.field.unit.bits a.field.unit.access)
unfolding behind_weight
behind_bank a bank e = ap (λ b. banked_weight a.calls b a.field.unit) e

pub falls_located : (r : Outcome Next) (a : RegionAccess) (bank : Selector) → a.bank ≡ Some bank → IfOk r (λ n. next_weight n < units_weight a.calls (units_of a.field.unit.bit_offset a.field.unit.bits a.field.unit.access) + 4) → IfOk r (λ n. next_weight n < 4 + behind_weight a)
falls_located (Ok n) a bank e h = let i = behind_bank a bank e in omega (arith, h, i)
falls_located (Err x) a bank e h = tt

module _ {S : Type 0} (ac : Accesses S) where
  -- a unit is read, and what is done with what it holds
  read_is : (l : BanksLeft) (u : UnitAccess) (s : State S × ℕ) → (unit_read ac (meaning ac) (field_accessed l) u >>= unit_met ac (meaning ac) l u) s ≡ unit_chosen ac (meaning ac) l u s
  unfolding bank_unit
  read_is l u s = bind_bind (selected ac (meaning ac) (field_accessed l)) (λ o. lift (on_space (read_unit ac (field_accessed l).region (field_accessed l).field.access u))) (unit_met ac (meaning ac) l u) s

module _ {S : Type 0} {ac : Accesses S} where
  pub leads_banked : {r : Outcome Next} {c : Site} {s s1 : State S × ℕ} (calls n : ℕ) (b : Bank) (f : FieldUnit) (x : Doing) → f.bits < 4294967296 → f.source ≡ sources.Bank n b → Leads ac (meaning ac) r c s1 (banked_done ac (meaning ac) calls n b f x) s → Leads ac (meaning ac) r c s1 (access_done ac (meaning ac) calls (object.Field (field.Unit f)) x) s
  leads_banked {s = s} calls n b f x few e h = record { is = λ ne. banks_are ac calls n b f x s few e ∙ h.is ne }

  -- ---- where a region is known

  pub leads_plain : {r : Outcome Next} {c : Site} {s s1 : State S × ℕ} (a : RegionAccess) (space : AddressSpace) → a.bank ≡ None → Leads ac (meaning ac) r c s1 (done_in ac a.doing a.field (record { space = space; offset = a.offset; length = a.length })) s → Leads ac (meaning ac) r c s1 (space_known ac (meaning ac) a space) s
  leads_plain {s = s} a space e h = record { is = λ ne. ap (λ b. located_done ac (meaning ac) b a (record { space = space; offset = a.offset; length = a.length }) s) e ∙ h.is ne }

  pub leads_located : {r : Outcome Next} {c : Site} {s s1 : State S × ℕ} (a : RegionAccess) (space : AddressSpace) (bank : Selector) → a.bank ≡ Some bank → Leads ac (meaning ac) r c s1 (units_done ac (meaning ac) (field_at a.calls bank (record { space = space; offset = a.offset; length = a.length }) a.field.unit) a.doing) s → Leads ac (meaning ac) r c s1 (space_known ac (meaning ac) a space) s
  leads_located {s = s} a space bank e h = record { is = λ ne. ap (λ b. located_done ac (meaning ac) b a (record { space = space; offset = a.offset; length = a.length }) s) e ∙ h.is ne }

  -- ---- the bank is selected

  pub leads_chosen : {r : Outcome Next} {c : Site} {s s1 : State S × ℕ} (l : BanksLeft) (u : UnitAccess) → Leads ac (meaning ac) r c s1 (selected_then ac (meaning ac) (field_accessed l) (frames.BankRead l u) c) s → Leads ac (meaning ac) r c s1 (unit_chosen ac (meaning ac) l u) s
  unfolding bank_selected
  leads_chosen {s = s} l u h =
      let x = field_accessed l in
      record { is = λ ne. bind_bind (settle (bank_held x.bank.field x.bank.value)) (λ held. region_written ac (asking ac (meaning ac) x.calls) x.bank.field (unit_bytes x.bank.value)) (λ o. unit_behind ac (meaning ac) l u) s ∙ h.is ne }

  -- a unit is written over what it holds
  pub leads_over : {r : Outcome Next} {c : Site} {s s1 : State S × ℕ} (x : BankWrites) (u : UnitAccess) (old n : ℕ) → n ≡ merged_unit x.field.field x.bytes u old → Leads ac (meaning ac) r c s1 (selected_then ac (meaning ac) x.field (frames.BankWrite x u.offset n) c) s → Leads ac (meaning ac) r c s1 (unit_met ac (meaning ac) (banks_left.Writes x) u old) s
  unfolding written_over bank_selected
  leads_over {s = s} x u old n e h =
      let bank = x.field.bank in
      let held = settle (bank_held bank.field bank.value) in
      let put = region_written ac (asking ac (meaning ac) x.field.calls) bank.field (unit_bytes bank.value) in
      let written : ℕ → Run S (Unit {0}) = λ m. lift (on_space (write_whole ac x.field.region x.field.field.access u.offset m)) in
      let last : Unit {0} → Run S Flow = λ done. writes_done ac (meaning ac) x in
      record {
        is = λ ne.
            bind_bind (held >>= (λ o. put)) (λ o. written (merged_unit x.field.field x.bytes u old)) last s
            ∙ ap (λ m. (held >>= (λ o. put) >>= (λ o. written m >>= last)) s) (sym e)
            ∙ bind_bind held (λ o. put) (λ o. written n >>= last) s
            ∙ h.is ne;
      }

  -- ---- the next unit

  pub leads_read : {r : Outcome Next} {c : Site} {s s1 : State S × ℕ} (x : BankReads) (u : UnitAccess) (us : List UnitAccess) → us ≡ u ∷ x.left → Leads ac (meaning ac) r c s1 (unit_chosen ac (meaning ac) (banks_left.Reads x) u) s → Leads ac (meaning ac) r c s1 (reads_left ac (meaning ac) x.field x.reading x.bytes.items us) s
  unfolding reads_left
  leads_read {s = s} x u us e h = record { is = λ ne. ap (λ l. reads_left ac (meaning ac) x.field x.reading x.bytes.items l s) e ∙ read_is ac (banks_left.Reads x) u s ∙ h.is ne }

  pub leads_all_read : {r : Outcome Next} {c : Site} {s s1 : State S × ℕ} (x : BankReads) (us : List UnitAccess) → us ≡ [] → Leads ac (meaning ac) r c s1 (read_as x.reading x.field.field.bits x.bytes.items) s → Leads ac (meaning ac) r c s1 (reads_left ac (meaning ac) x.field x.reading x.bytes.items us) s
  unfolding reads_left
  leads_all_read {s = s} x us e h = record { is = λ ne. ap (λ l. reads_left ac (meaning ac) x.field x.reading x.bytes.items l s) e ∙ h.is ne }

  pub leads_kept : {r : Outcome Next} {c : Site} {s s1 : State S × ℕ} (x : BankWrites) (u : UnitAccess) (us : List UnitAccess) → us ≡ u ∷ x.left → is_kept x.field.field u ≡ true → Leads ac (meaning ac) r c s1 (unit_chosen ac (meaning ac) (banks_left.Writes x) u) s → Leads ac (meaning ac) r c s1 (writes_left ac (meaning ac) x.field x.bytes us) s
  unfolding writes_left
  leads_kept {s = s} x u us e i h =
      let read = unit_read ac (meaning ac) x.field u in
      record {
        is = λ ne.
            ap (λ l. writes_left ac (meaning ac) x.field x.bytes l s) e
            ∙ after_same (kept x.field.field u read) read (unit_met ac (meaning ac) (banks_left.Writes x) u) s (kept_read ac x.field.field u read s i)
            ∙ read_is ac (banks_left.Writes x) u s
            ∙ h.is ne;
      }

  pub leads_unkept : {r : Outcome Next} {c : Site} {s s1 : State S × ℕ} (x : BankWrites) (u : UnitAccess) (us : List UnitAccess) → us ≡ u ∷ x.left → is_kept x.field.field u ≡ false → Leads ac (meaning ac) r c s1 (unit_met ac (meaning ac) (banks_left.Writes x) u 0) s → Leads ac (meaning ac) r c s1 (writes_left ac (meaning ac) x.field x.bytes us) s
  unfolding writes_left
  leads_unkept {s = s} x u us e i h =
      let read = unit_read ac (meaning ac) x.field u in
      record {
        is = λ ne.
            ap (λ l. writes_left ac (meaning ac) x.field x.bytes l s) e
            ∙ bound (kept x.field.field u read) (unit_met ac (meaning ac) (banks_left.Writes x) u) s s 0 (kept_none ac x.field.field u read s i)
            ∙ h.is ne;
      }

  pub leads_all_written : {c : Site} {s : State S × ℕ} (x : BankWrites) (us : List UnitAccess) → us ≡ [] → Leads ac (meaning ac) (Ok (next.Flow flow.Next)) c s (writes_left ac (meaning ac) x.field x.bytes us) s
  unfolding writes_left
  leads_all_written {s = s} x us e = record { is = λ _. ap (λ l. writes_left ac (meaning ac) x.field x.bytes l s) e }

  -- a unit that was read is put over the bits that were read before
  pub leads_put : {r : Outcome Next} {c : Site} {s s1 : State S × ℕ} (x : BankReads) (u : UnitAccess) (n : ℕ) (bits : List ℕ) → bits ≡ put_unit x.bytes.items u n → Leads ac (meaning ac) r c s1 (reads_left ac (meaning ac) x.field x.reading bits x.left) s → Leads ac (meaning ac) r c s1 (unit_met ac (meaning ac) (banks_left.Reads x) u n) s
  leads_put x u n bits e h = rw e at h

pub ruleset banked = (stepping)

pub ruleset banks = (leads_banked)

pub ruleset spaces = (stepping, falls_plain, leads_plain, falls_located, leads_located)

pub ruleset selecting = (stepping)

pub ruleset bank_by_bank = (stepping, leads_chosen, leads_read, leads_all_read, leads_kept, leads_unkept, leads_all_written, falls_written, falls_over)
