use Rattle.std.specs.Prelude.{◌<◌}
use Rattle.std.proofs.Common.{◌∙◌, arith}
use Rattle.aml_marks.specs.Marked.{count_at, first}
use Rattle.aml_frames.specs.declared.at_once.short_terms.Short.TheVariants as shorts
use Rattle.aml_frames.specs.at_once.ShortTerms.{row_alone, IsShort}
use Rattle.aml_frames.proofs.ShortTerms.{charged_one, does_short_slot, behind_slot}
use Rattle.aml_frames.proofs.at_once.short_terms.slot_value.Goals as goal

pub returns-clause-value : goal.returns-clause-value
returns-clause-value g c =
    let a = c.args.act.now in
    let lt : 0 < c.args.levels = omega (arith, c.if-levels-eq0.false) in
    let paid = charged_one c.run.inside.world c.run.inside.steps (omega (arith, c.if-run-eq0.false)) in
    let short : IsShort (shorts.Slot c.in-Slot.slot) (row_alone (first a.place.rest)) = rw (c.in-Slot.is, c.next_byte.ensures) at c.short_at.ensures.short in
    rw (← c.run.view_is) (does_short_slot g.S.Space.accesses a.scope a.depth (count_at a.marks) c.args.levels a.place c.in-Slot.slot _ lt short paid c.in-Ok.ensures.change)

pub returns-clause-behind : goal.returns-clause-behind
returns-clause-behind g c =
    let a = c.args.act.now in
    let lt : 0 < c.args.levels = omega (arith, c.if-levels-eq0.false) in
    let short : IsShort (shorts.Slot c.in-Slot.slot) (row_alone (first a.place.rest)) = rw (c.in-Slot.is, c.next_byte.ensures) at c.short_at.ensures.short in
    c.advance.ensures ∙ behind_slot g.S.Space.accesses a c.args.levels lt short.1.1
