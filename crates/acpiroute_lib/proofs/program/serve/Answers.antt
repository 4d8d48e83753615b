use Rattle.std.proofs.Common.{ap, ◌∙◌, ◌++◌}
use Rattle.acpiroute_lib.specs.Passed.{request_passed}
use Rattle.acpiroute_lib.proofs.Deliveries.{answered, stopped}
use Rattle.acpiroute_lib.proofs.program.serve.Goals as goal

pub returns-in-Ok-clause-served : goal.returns-in-Ok-clause-served
returns-in-Ok-clause-served g c =
    answered c.args.request (g.R.Source.left c.args.reader.now) (g.R.Source.has_failed c.read_input.new.reader) _ _ _ _ _ c.in-Ok.input.items c.answer_request-outcome.new.told.items c.answer_request-outcome.result c.in-Ok.ensures.input
    c.answer_request-outcome.ensures.answer (λ ne. c.answer_request-outcome.ensures.told ne ∙ ap (λ t. t ++ request_passed c.args.request c.in-Ok.input.items) c.new-told.ensures.items) (rw c.as_slice.ensures.value at c.deliver_outcome.ensures)

pub returns-in-Err-clause-served : goal.returns-in-Err-clause-served
returns-in-Err-clause-served g c = stopped c.args.request (g.R.Source.left c.args.reader.now) (g.R.Source.has_failed c.read_input.new.reader) _ _ _ _ _ c.in-Err.stop c.line.result.now c.in-Err.ensures.input c.line.ensures c.deliver.ensures
