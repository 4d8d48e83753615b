use Rattle.std.proofs.Common.{rules, ap, sym, ◌∙◌}
use Rattle.ar_space.specs.Change.{stop}
use Rattle.aml_world.specs.state.Invocations.{left}
use Rattle.aml_meaning.specs.Meaning.{meaning}
use Rattle.aml_frames.specs.Stack.{then_all}
use Rattle.aml_evaluation.proofs.Machine.{popped_frame, popped_item, popped_leave}
use Rattle.aml_evaluation.proofs.Unwinding.{popped_lighter, falls_passed}
use Rattle.aml_evaluation.proofs.stack.unwind.Goals as goal

pub returns-then-is_passable-clause-falls : goal.returns-then-is_passable-clause-falls
returns-then-is_passable-clause-falls g c =
    falls_passed c.pass_item_over.result c.pass_item_over.new.stack.entries.items c.pop.new.self.items c.entries.stack.entries.items c.in-Some-Item.field-0 c.in-Some-Item.item _ _ c.pass_item_over.ensures.stack c.in-Some-Item.ensures.items (search rules) c.entries.invariant.lighter c.pass_item_over.ensures.next

pub entries-preserved-in-Some-Frame : goal.entries-preserved-in-Some-Frame
entries-preserved-in-Some-Frame g c =
    record {
      steps = c.entries.invariant.steps;
      lighter = popped_lighter _ _ _ _ c.in-Some-Frame.ensures.items c.entries.invariant.lighter;
      same =
          c.entries.invariant.same
          ∙ popped_frame g.S.Space.accesses (meaning g.S.Space.accesses) c.args.refusal c.entries.stack.act c.entries.stack.entries.items c.pop.new.self.items c.in-Some-Frame.frame c.in-Some-Frame.field-0 c.entries.run c.in-Some-Frame.ensures.items (search rules)
          ∙ ap (λ a. then_all g.S.Space.accesses (meaning g.S.Space.accesses) (stop c.args.refusal) a c.pop.new.self.items c.entries.run) (sym c.give_up.ensures);
    }

pub entries-preserved-in-Some-Item : goal.entries-preserved-in-Some-Item
entries-preserved-in-Some-Item g c =
    record {
      steps = c.entries.invariant.steps;
      lighter = popped_lighter _ _ _ _ c.in-Some-Item.ensures.items c.entries.invariant.lighter;
      same =
          c.entries.invariant.same
          ∙ popped_item g.S.Space.accesses (meaning g.S.Space.accesses) c.args.refusal c.entries.stack.act c.entries.stack.entries.items c.pop.new.self.items c.in-Some-Item.item c.in-Some-Item.field-0 c.entries.run c.in-Some-Item.ensures.items (search rules) (search rules);
    }

pub entries-preserved : goal.entries-preserved
entries-preserved g c =
    record {
      steps = ap (λ r. r.1) c.end_call.ensures ∙ (ap (λ r. r.1) c.tell_place.ensures ∙ c.entries.invariant.steps);
      lighter = popped_lighter _ _ _ _ c.in-Some-Leave.ensures.items c.entries.invariant.lighter;
      same =
          c.entries.invariant.same
          ∙ popped_leave g.S.Space.accesses (meaning g.S.Space.accesses) c.args.refusal c.entries.stack.act c.in-Some-Leave.caller c.in-Some-Leave.method c.entries.stack.entries.items c.pop.new.self.items c.in-Some-Leave.field-0 c.entries.run c.in-Some-Leave.ensures.items (search rules)
          ∙ ap (λ r. then_all g.S.Space.accesses (meaning g.S.Space.accesses) (stop c.args.refusal) c.in-Some-Leave.caller c.pop.new.self.items r)
          (ap (λ p. (left p c.entries.run.0, c.entries.run.1)) (sym c.path.ensures) ∙ ap (λ r. (left c.path.result.now r.0, r.1)) (sym c.tell_place.ensures) ∙ sym c.end_call.ensures)
          ∙ ap (λ a. then_all g.S.Space.accesses (meaning g.S.Space.accesses) (stop c.args.refusal) a c.pop.new.self.items c.end_call.new.run) (sym c.into_inner-in-Some-Leave.ensures);
    }
