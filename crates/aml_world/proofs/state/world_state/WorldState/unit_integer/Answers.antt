use Rattle.std.proofs.Common.{◌≡◌, ◌<◌, ◌^◌, ◌∙◌, ℕ, List, ap, sym, subst, Ok, Err, false}
use Rattle.std.specs.Prelude.{nat_lt}
use Rattle.ar_space.specs.Change.{Does}
use Rattle.aml_path.specs.declared.segment.Seg.{Seg}
use Rattle.aml_objects.specs.declared.entry.Field.TheVariants as field
use Rattle.aml_objects.specs.declared.value.Value.TheVariants.{Integer}
use Rattle.aml_convert.specs.Integers.{bits_of}
use Rattle.aml_fields.specs.Bits.{bits_from, packed}
use Rattle.aml_fields.specs.Regions.{read_field}
use Rattle.aml_world.specs.state.State.{State}
use Rattle.aml_world.specs.state.Run.{Run}
use Rattle.aml_world.specs.fields.Fields.{field_value}
use Rattle.aml_world.specs.fields.PlainRegions.{IsPlainRegion}
use Rattle.aml_world.proofs.UnitIntegers.{unit_read, unit_refused, read_by, refused_by}
use Rattle.aml_world.proofs.state.world_state.WorldState.unit_integer.Goals as goal

pub returns-clause-read : goal.returns-clause-read
returns-clause-read g c =
    let i = c.self.inside in
    let w : State g.row.S.Denot = record { names = i.declarations.names; arities = i.declarations.arities; objects = i.heap; frames = i.frames.items; started = i.started; space = i.space; osi = i.osi.items; width = i.width; profile = i.profile; nesting = i.nesting; passed = i.passed } in
    let u = c.args.unit in
    let q = c.in-Some.region in
    let plain : IsPlainRegion w u.source q = subst (λ (s : State g.row.S.Denot). IsPlainRegion s u.source q) (sym c.self.view_is) c.in-Some.ensures in
    let narrow : nat_lt (bits_of w.width) u.bits ≡ false = sym c.is_wide.ensures ∙ c.if-is_wide.false in
    let after = c.read_number.new.space in
    read_by c.read_number.result (after ≡ i.space) (record w { space = after } ≡ c.args.self.now)
    (λ n. Does (Ok (packed (bits_from n 0 u.bits))) after (read_field g.S.Space.accesses q u) i.space)
    (λ n. (call : List Seg → Run g.row.S.Denot ℕ) (steps : ℕ) → Does (Ok (Integer n)) (record w { space = after }, steps) (field_value g.S.Space.accesses call (field.Unit u)) (c.args.self.now, steps))
    (λ n. (0 < u.bits) × (n < 2 ^ u.bits))
    (λ same. ap (λ (s : g.row.S.Denot). record w { space = s }) same ∙ c.self.view_is)
    (λ n fits d call steps. subst (λ (s : State g.row.S.Denot). Does (Ok (Integer n)) (record w { space = after }, steps) (field_value g.S.Space.accesses call (field.Unit u)) (s, steps)) c.self.view_is
    (unit_read g.S.Space.accesses call w steps u q plain after n narrow fits.0 fits.1 d))
    c.read_number.ensures.fits c.read_number.ensures.read

pub returns-clause-refused : goal.returns-clause-refused
returns-clause-refused g c =
    let i = c.self.inside in
    let w : State g.row.S.Denot = record { names = i.declarations.names; arities = i.declarations.arities; objects = i.heap; frames = i.frames.items; started = i.started; space = i.space; osi = i.osi.items; width = i.width; profile = i.profile; nesting = i.nesting; passed = i.passed } in
    let u = c.args.unit in
    let q = c.in-Some.region in
    let plain : IsPlainRegion w u.source q = subst (λ (s : State g.row.S.Denot). IsPlainRegion s u.source q) (sym c.self.view_is) c.in-Some.ensures in
    let narrow : nat_lt (bits_of w.width) u.bits ≡ false = sym c.is_wide.ensures ∙ c.if-is_wide.false in
    let after = c.read_number.new.space in
    refused_by c.read_number.result (λ e. Does {A = List ℕ} (Err e) after (read_field g.S.Space.accesses q u) i.space)
    (λ e. (call : List Seg → Run g.row.S.Denot ℕ) (steps : ℕ) → Does (Err e) (record w { space = after }, steps) (field_value g.S.Space.accesses call (field.Unit u)) (c.args.self.now, steps))
    (λ e d call steps. subst (λ (s : State g.row.S.Denot). Does (Err e) (record w { space = after }, steps) (field_value g.S.Space.accesses call (field.Unit u)) (s, steps)) c.self.view_is
    (unit_refused g.S.Space.accesses call w steps u q plain after e d))
    c.read_number.ensures.refused
