use Rattle.std.proofs.Common.{◌≡◌, ◌<◌, ◌-◌, ◌∙◌, ap, sym, subst, Some, Ok, List, length, arith}
use Rattle.std.specs.Prelude.{slice_get, slice_set}
use Rattle.std.proofs.lemmas.Option.{slice_get_read}
use Rattle.ar_space.specs.Change.{Does}
use Rattle.aml_objects.specs.declared.value.Value.TheVariants.{Integer}
use Rattle.aml_world.specs.declared.state.frame.Frame.{Frame}
use Rattle.aml_world.specs.declared.values.store_target.StoreTarget.TheVariants as targets
use Rattle.aml_world.specs.declared.values.store_target.Stored.TheVariants.{Done}
use Rattle.aml_world.specs.state.State.{State}
use Rattle.aml_world.specs.values.StoreTargets.{last_index}
use Rattle.aml_world.specs.values.Stores.{stored}
use Rattle.aml_world.proofs.SlotIntegers.{last_is, integer_stored, reference_owned, nothing_owned}
use Rattle.aml_world.proofs.state.world_state.WorldState.put_slot_integer.Goals as goal

pub returns-clause-change : goal.returns-clause-change
returns-clause-change g c = λ yes.
    let i = c.self.inside in
    let xs = i.frames.items in
    let w : State g.row.S.Denot = record { names = i.declarations.names; arities = i.declarations.arities; objects = i.heap; frames = xs; started = i.started; space = i.space; osi = i.osi.items; width = i.width; profile = i.profile; nesting = i.nesting; passed = i.passed } in
    let n = c.len-count.result in
    let k = n - 1 in
    let f = c.index_mut.result.now in
    let count : n ≡ length xs = c.len-count.ensures ∙ c.self.inside.frames.ok.0 in
    let some : 0 < n = omega arith in
    let at : slice_get xs k ≡ Some f = slice_get_read xs n k f count (omega arith) c.index_mut.ensures.value in
    let last : last_index (length xs) ≡ Some k = ap last_index (sym count) ∙ last_is n some in
    subst (λ (s : State g.row.S.Denot). Does (Ok Done) (record w { frames = slice_set xs k c.put_integer.new.self }) (stored (targets.Slot c.args.slot) (Integer c.args.number)) s) c.self.view_is
    (subst (λ (x : Frame). Does (Ok Done) (record w { frames = slice_set xs k x }) (stored (targets.Slot c.args.slot) (Integer c.args.number)) w) (sym (c.put_integer.ensures.put yes))
    (integer_stored w c.args.slot k f last at c.args.number (sym c.put_integer.ensures.taken ∙ yes)))

pub returns-then-count-eq0-clause-reference : goal.returns-then-count-eq0-clause-reference
returns-then-count-eq0-clause-reference g c = λ no.
    let xs = c.self.inside.frames.items in
    let n : length xs ≡ 0 = sym c.self.inside.frames.ok.0 ∙ sym c.len-count.ensures ∙ c.if-count-eq0.true in
    nothing_owned c.args.self.now c.args.slot (ap (λ (s : State g.row.S.Denot). length s.frames) (sym c.self.view_is) ∙ n)

pub returns-clause-reference : goal.returns-clause-reference
returns-clause-reference g c = λ no.
    let xs = c.self.inside.frames.items in
    let n = c.len-count.result in
    let k = n - 1 in
    let w = c.args.self.now in
    let f = c.index_mut.result.now in
    let frames : w.frames ≡ xs = ap (λ (s : State g.row.S.Denot). s.frames) (sym c.self.view_is) in
    let count : n ≡ length xs = c.len-count.ensures ∙ c.self.inside.frames.ok.0 in
    let some : 0 < n = omega arith in
    let at : slice_get w.frames k ≡ Some f = ap (λ (fs : List Frame). slice_get fs k) frames ∙ slice_get_read xs n k f count (omega arith) c.index_mut.ensures.value in
    let last : last_index (length w.frames) ≡ Some k = ap (λ (fs : List Frame). last_index (length fs)) frames ∙ ap last_index (sym count) ∙ last_is n some in
    reference_owned w c.args.slot k f last at (sym c.put_integer.ensures.taken ∙ no)
