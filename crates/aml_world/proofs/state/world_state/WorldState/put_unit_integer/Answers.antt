use Rattle.std.proofs.Common.{◌≡◌, ◌∙◌, ℕ, List, ap, sym, subst, Ok, Err, false}
use Rattle.std.specs.Prelude.{nat_lt}
use Rattle.ar_space.specs.Change.{Does}
use Rattle.aml_path.specs.declared.segment.Seg.{Seg}
use Rattle.aml_objects.specs.declared.entry.Field.TheVariants as field
use Rattle.aml_objects.specs.declared.value.Value.TheVariants.{Integer}
use Rattle.aml_convert.specs.Integers.{bits_of}
use Rattle.aml_fields.specs.Bits.{bits_from, field_bits}
use Rattle.aml_fields.specs.Regions.{write_field}
use Rattle.aml_world.specs.state.State.{State}
use Rattle.aml_world.specs.state.Run.{Run}
use Rattle.aml_world.specs.fields.Fields.{field_stored}
use Rattle.aml_world.specs.fields.PlainRegions.{IsPlainRegion}
use Rattle.aml_world.proofs.UnitIntegers.{unit_written, written_by, refused_by}
use Rattle.aml_world.proofs.state.world_state.WorldState.put_unit_integer.Goals as goal

pub returns-clause-written : goal.returns-clause-written
returns-clause-written g c =
    let i = c.self.inside in
    let w : State g.row.S.Denot = record { names = i.declarations.names; arities = i.declarations.arities; objects = i.heap; frames = i.frames.items; started = i.started; space = i.space; osi = i.osi.items; width = i.width; profile = i.profile; nesting = i.nesting; passed = i.passed } in
    let u = c.args.unit in
    let q = c.in-Some.region in
    let plain : IsPlainRegion w u.source q = subst (λ (s : State g.row.S.Denot). IsPlainRegion s u.source q) (sym c.self.view_is) c.in-Some.ensures in
    let narrow : nat_lt (bits_of w.width) u.bits ≡ false = sym c.is_wide.ensures ∙ c.if-is_wide.false in
    let after = c.write_number.new.space in
    let n = c.args.number in
    written_by c.write_number.result
    ((source : List ℕ) → field_bits source 0 u.bits ≡ bits_from n 0 u.bits → Does (Ok tt) after (write_field g.S.Space.accesses q u source) i.space)
    ((call : List Seg → Run g.row.S.Denot ℕ) (steps : ℕ) → Does (Ok tt) (record w { space = after }, steps) (field_stored g.S.Space.accesses call (field.Unit u) (Integer n)) (c.args.self.now, steps))
    (after ≡ i.space) (record w { space = after } ≡ c.args.self.now)
    (λ h call steps. subst (λ (s : State g.row.S.Denot). Does (Ok tt) (record w { space = after }, steps) (field_stored g.S.Space.accesses call (field.Unit u) (Integer n)) (s, steps)) c.self.view_is
    (unit_written g.S.Space.accesses call w steps u q plain after n (Ok tt) narrow h))
    (λ same. ap (λ (s : g.row.S.Denot). record w { space = s }) same ∙ c.self.view_is)
    c.write_number.ensures.written

pub returns-clause-refused : goal.returns-clause-refused
returns-clause-refused g c =
    let i = c.self.inside in
    let w : State g.row.S.Denot = record { names = i.declarations.names; arities = i.declarations.arities; objects = i.heap; frames = i.frames.items; started = i.started; space = i.space; osi = i.osi.items; width = i.width; profile = i.profile; nesting = i.nesting; passed = i.passed } in
    let u = c.args.unit in
    let q = c.in-Some.region in
    let plain : IsPlainRegion w u.source q = subst (λ (s : State g.row.S.Denot). IsPlainRegion s u.source q) (sym c.self.view_is) c.in-Some.ensures in
    let narrow : nat_lt (bits_of w.width) u.bits ≡ false = sym c.is_wide.ensures ∙ c.if-is_wide.false in
    let after = c.write_number.new.space in
    let n = c.args.number in
    refused_by c.write_number.result
    (λ e. (source : List ℕ) → field_bits source 0 u.bits ≡ bits_from n 0 u.bits → Does {A = Unit {0}} (Err e) after (write_field g.S.Space.accesses q u source) i.space)
    (λ e. (call : List Seg → Run g.row.S.Denot ℕ) (steps : ℕ) → Does (Err e) (record w { space = after }, steps) (field_stored g.S.Space.accesses call (field.Unit u) (Integer n)) (c.args.self.now, steps))
    (λ e h call steps. subst (λ (s : State g.row.S.Denot). Does (Err e) (record w { space = after }, steps) (field_stored g.S.Space.accesses call (field.Unit u) (Integer n)) (s, steps)) c.self.view_is
    (unit_written g.S.Space.accesses call w steps u q plain after n (Err e) narrow h))
    c.write_number.ensures.refused
