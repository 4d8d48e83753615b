use Rattle.std.proofs.Common.{◌∙◌, arith, refl, rules}
use Rattle.aml_marks.specs.Marked.{first}
use Rattle.aml_frames.specs.declared.at_once.short_terms.Short.TheVariants as shorts
use Rattle.aml_frames.specs.at_once.ShortTerms.{row_alone, IsShort}
use Rattle.aml_frames.proofs.ShortTerms.{does_count_slot, behind_slot_target}
use Rattle.aml_frames.proofs.at_once.short_terms.count_slot.Goals as goal

pub returns : goal.returns
returns g c = record {
  counted =
      let short : IsShort (shorts.Slot c.in-Slot.slot) (row_alone (first c.args.act.now.place.rest)) = search rules in
      rw (← c.run.view_is) (does_count_slot g.S.Space.accesses c.args.act.now c.args.levels c.run.inside.steps c.args.kind c.in-Slot.slot c.in-Some.before c.count_integer-after.result (omega (arith, c.if-levels-eq0.false)) short c.in-Some.ensures.held c.count_integer-after.ensures (c.if-not-put_slot_integer.ensures.change refl));
  behind =
      let short : IsShort (shorts.Slot c.in-Slot.slot) (row_alone (first c.args.act.now.place.rest)) = search rules in
      c.advance.ensures ∙ behind_slot_target g.S.Space.accesses c.args.act.now c.args.levels (omega (arith, c.if-levels-eq0.false)) short.1.1;
  spent = first_of (search rules, grind arith);
  none = first_of (search rules, grind arith);
  stays = first_of (search rules, grind arith);
}
