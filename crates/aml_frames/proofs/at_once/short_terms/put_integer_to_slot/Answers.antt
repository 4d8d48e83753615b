use Rattle.std.proofs.Common.{◌∙◌, arith, refl, rules}
use Rattle.aml_marks.specs.Marked.{first}
use Rattle.aml_objects.specs.declared.value.Value.TheVariants as values
use Rattle.aml_frames.specs.declared.at_once.short_terms.Short.TheVariants as shorts
use Rattle.aml_frames.specs.at_once.ShortTerms.{row_alone, IsShort}
use Rattle.aml_frames.proofs.ShortTerms.{does_put_slot, behind_slot_target}
use Rattle.aml_frames.proofs.at_once.short_terms.put_integer_to_slot.Goals as goal

pub returns : goal.returns
returns g c = record {
  done =
      λ done.
      let short : IsShort (shorts.Slot c.in-Slot.slot) (row_alone (first c.args.act.now.place.rest)) = search rules in
      rw (← c.run.view_is) (does_put_slot g.S.Space.accesses c.args.act.now c.args.levels c.run.inside.steps c.in-Slot.slot (values.Integer c.args.number) (omega (arith, c.if-levels-eq0.false)) short (c.if-not-put_slot_integer.ensures.change refl));
  behind =
      λ done.
      let short : IsShort (shorts.Slot c.in-Slot.slot) (row_alone (first c.args.act.now.place.rest)) = search rules in
      c.advance.ensures ∙ behind_slot_target g.S.Space.accesses c.args.act.now c.args.levels (omega (arith, c.if-levels-eq0.false)) short.1.1;
  spent = first_of (search rules, grind arith);
  none = first_of (search rules, grind arith);
  stays = first_of (search rules, grind arith);
}
