use Rattle.std.specs.Prelude.{◌≡◌, ◌<◌}
use Rattle.std.proofs.Common.{◌∙◌, ap, arith, refl, subst, sym, rules}
use Rattle.aml_marks.specs.Marked.{count_at, first, over, an_integer}
use Rattle.aml_objects.specs.declared.value.Value.TheVariants as values
use Rattle.aml_frames.specs.declared.at_once.short_terms.Short.TheVariants as shorts
use Rattle.aml_frames.specs.Places.{Site, at_place}
use Rattle.aml_frames.specs.at_once.ShortTerms.{row_alone, IsShort}
use Rattle.aml_frames.proofs.ShortTerms.{charged_one, does_kept, does_short_slot, does_short_constant, does_short_number, behind_slot, behind_integer}
use Rattle.aml_frames.proofs.at_once.short_terms.short_integer.Goals as goal
use Rattle.aml_frames.proofs.at_once.short_terms.short_integer.Goals.{in-Slot+in-Some, in-Constant, in-Number}

pub returns : goal.returns
returns g c = record {
  integer =
      let a = c.args.act.now in
      let lt : 0 < c.args.levels = omega (arith, c.if-levels-eq0.false) in
      let paid = charged_one c.run.inside.world c.run.inside.steps (omega (arith, c.if-run-eq0.false)) in
      elim c.match-short_at.branch [
        | in-Slot+in-Some w ↦
            let short : IsShort (shorts.Slot w.in-Slot.slot) (row_alone (first a.place.rest)) = rw (w.in-Slot.is, c.next_byte.ensures) at c.short_at.ensures.short in
            rw (← c.run.view_is, w.number-is) (does_short_slot g.S.Space.accesses a.scope a.depth (count_at a.marks) c.args.levels a.place w.in-Slot.slot _ lt short paid w.in-Some.ensures.held)
        | in-Constant w ↦
            let short : IsShort (shorts.Constant w.in-Constant.number) (row_alone (first a.place.rest)) = rw (w.in-Constant.is, c.next_byte.ensures) at c.short_at.ensures.short in
            let kept = does_kept c.run.inside.world w.truncate_integer-number.result w.in-Constant.number (rw w.width.ensures at w.truncate_integer-number.ensures.value) in
            rw (← c.run.view_is, w.number-is) (does_short_constant g.S.Space.accesses a.scope a.depth (count_at a.marks) c.args.levels a.place w.in-Constant.number _ lt short paid kept)
        | in-Number w ↦
            let short : IsShort (shorts.Number w.in-Number.count) (row_alone (first a.place.rest)) = rw (w.in-Number.is, c.next_byte.ensures) at c.short_at.ensures.short in
            let is : _ ≡ (an_integer w.in-Number.count (over 1 a.place)).0 = w.number_at-number.ensures ∙ ap (λ (x : Site). (an_integer w.in-Number.count x.place).0) w.advance-in-Number.ensures in
            let kept = does_kept c.run.inside.world w.truncate_integer-number-in-Number.result w.number_at-number.result (rw w.width-in-Number.ensures at w.truncate_integer-number-in-Number.ensures.value) in
            rw (← c.run.view_is, w.number-is) (does_short_number g.S.Space.accesses a.scope a.depth (count_at a.marks) c.args.levels a.place w.in-Number.count _ _ lt short is paid kept)
      ];
  behind =
      let a = c.args.act.now in
      let lt : 0 < c.args.levels = omega (arith, c.if-levels-eq0.false) in
      elim c.match-short_at.branch [
        | in-Slot+in-Some w ↦
            let short : IsShort (shorts.Slot w.in-Slot.slot) (row_alone (first a.place.rest)) = rw (w.in-Slot.is, c.next_byte.ensures) at c.short_at.ensures.short in
            w.act-is ∙ (w.advance.ensures ∙ behind_slot g.S.Space.accesses a c.args.levels lt short.1.1)
        | in-Constant w ↦
            let short : IsShort (shorts.Constant w.in-Constant.number) (row_alone (first a.place.rest)) = rw (w.in-Constant.is, c.next_byte.ensures) at c.short_at.ensures.short in
            w.act-is ∙ (w.advance-in-Constant.ensures ∙ behind_slot g.S.Space.accesses a c.args.levels lt short.1)
        | in-Number w ↦
            let short : IsShort (shorts.Number w.in-Number.count) (row_alone (first a.place.rest)) = rw (w.in-Number.is, c.next_byte.ensures) at c.short_at.ensures.short in
            w.act-is ∙ (w.advance-in-Number-2.ensures ∙ ap (λ (x : Site). at_place x (over w.in-Number.count x.place)) w.advance-in-Number.ensures ∙ behind_integer g.S.Space.accesses a c.args.levels w.in-Number.count lt short)
      ];
  kept = first_of (search rules, grind arith);
  paid = first_of (search rules, grind arith);
  none = first_of (search rules, grind arith);
  stays = first_of (search rules, grind arith);
}
