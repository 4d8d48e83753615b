use Rattle.std.proofs.Common.{◌+◌}
use Rattle.aml_meaning.specs.Meaning.{meaning}
use Rattle.aml_frames.specs.Weights.{charged}
use Rattle.aml_frames.specs.Stack.{stack_weight, control_weight}
use Rattle.aml_evaluation.proofs.Answering.{falls_popped, less_within, popped_within, refused_within, same_popped}
use Rattle.aml_evaluation.proofs.stack.take_steps.Goals as goal

pub returns-in_err-control-in-Some-clause-refused : goal.returns-in_err-control-in-Some-clause-refused
returns-in_err-control-in-Some-clause-refused g c =
    refused_within c.from_residual-in_err-control-in-Some.result _ _ _ _ c.in_err-control-in-Some.ensures.refused (popped_within (charged c.steps.run.1) _ c.steps.stack.entries.items c.pop.new.self.items c.in-Some.top c.steps.control c.in-Flow.flow c.steps.invariant.lighter c.in-Some.ensures.items c.in-Flow.is) c.from_residual-in_err-control-in-Some.ensures

pub steps-smaller : goal.steps-smaller
steps-smaller g c =
    falls_popped (charged c.step_entry.new.run.1 + (stack_weight c.step_entry.new.stack.entries.items + control_weight c.in_ok-control-in-Some.control)) (charged c.steps.run.1) c.steps.stack.entries.items c.pop.new.self.items c.in-Some.top c.steps.control c.in-Flow.flow c.in_ok-control-in-Some.ensures.falls c.in-Some.ensures.items c.in-Flow.is

pub steps-preserved : goal.steps-preserved
steps-preserved g c =
    record {
      lighter = less_within _ _ _ c.in_ok-control-in-Some.ensures.falls (popped_within (charged c.steps.run.1) _ c.steps.stack.entries.items c.pop.new.self.items c.in-Some.top c.steps.control c.in-Flow.flow c.steps.invariant.lighter c.in-Some.ensures.items c.in-Flow.is);
      same = same_popped g.S.Space.accesses (meaning g.S.Space.accesses) c.steps.stack.act c.steps.stack.entries.items c.pop.new.self.items c.in-Some.top c.steps.control c.in_ok-control-in-Some.control c.in-Flow.flow c.steps.invariant.same c.in-Flow.is c.in-Some.ensures.items c.in_ok-control-in-Some.ensures.means;
    }
