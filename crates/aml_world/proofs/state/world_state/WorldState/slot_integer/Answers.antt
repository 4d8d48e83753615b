use Rattle.std.proofs.Common.{◌≡◌, ◌<◌, ◌-◌, ◌∙◌, ap, sym, Some, List, length, arith}
use Rattle.std.specs.Prelude.{slice_get}
use Rattle.std.proofs.lemmas.Option.{slice_get_read}
use Rattle.aml_world.specs.declared.state.frame.Frame.{Frame}
use Rattle.aml_world.specs.state.State.{State}
use Rattle.aml_world.specs.values.StoreTargets.{last_index}
use Rattle.aml_world.proofs.SlotIntegers.{last_is, integer_given, integer_missed, nothing_read}
use Rattle.aml_world.proofs.state.world_state.WorldState.slot_integer.Goals as goal

pub returns-then-count-eq0-clause-other : goal.returns-then-count-eq0-clause-other
returns-then-count-eq0-clause-other g c =
    let xs = c.self.inside.frames.items in
    let n : length xs ≡ 0 = sym c.self.inside.frames.ok.0 ∙ sym c.len-count.ensures ∙ c.if-count-eq0.true in
    nothing_read c.args.self.now c.args.slot (ap (λ (s : State g.row.S.Denot). length s.frames) (sym c.self.view_is) ∙ n)

pub returns-clause-held : goal.returns-clause-held
returns-clause-held g c =
    let xs = c.self.inside.frames.items in
    let n = c.len-count.result in
    let k = n - 1 in
    let w = c.args.self.now in
    let f = c.index.result.now in
    let frames : w.frames ≡ xs = ap (λ (s : State g.row.S.Denot). s.frames) (sym c.self.view_is) in
    let count : n ≡ length xs = c.len-count.ensures ∙ c.self.inside.frames.ok.0 in
    let some : 0 < n = omega arith in
    let at : slice_get w.frames k ≡ Some f = ap (λ (fs : List Frame). slice_get fs k) frames ∙ slice_get_read xs n k f count (omega arith) c.index.ensures in
    let last : last_index (length w.frames) ≡ Some k = ap (λ (fs : List Frame). last_index (length fs)) frames ∙ ap last_index (sym count) ∙ last_is n some in
    integer_given w c.args.slot k f last at c.integer.result c.integer.ensures

pub returns-clause-other : goal.returns-clause-other
returns-clause-other g c =
    let xs = c.self.inside.frames.items in
    let n = c.len-count.result in
    let k = n - 1 in
    let w = c.args.self.now in
    let f = c.index.result.now in
    let frames : w.frames ≡ xs = ap (λ (s : State g.row.S.Denot). s.frames) (sym c.self.view_is) in
    let count : n ≡ length xs = c.len-count.ensures ∙ c.self.inside.frames.ok.0 in
    let some : 0 < n = omega arith in
    let at : slice_get w.frames k ≡ Some f = ap (λ (fs : List Frame). slice_get fs k) frames ∙ slice_get_read xs n k f count (omega arith) c.index.ensures in
    let last : last_index (length w.frames) ≡ Some k = ap (λ (fs : List Frame). last_index (length fs)) frames ∙ ap last_index (sym count) ∙ last_is n some in
    integer_missed w c.args.slot k f last at c.integer.result c.integer.ensures
