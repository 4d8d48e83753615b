use Rattle.aml_laws.proofs.ConversionsAnswered.{buffer_answers}
use Rattle.aml_laws.proofs.values.conversions_answer.Goals as goal

pub returns-clause-of_buffer : goal.returns-clause-of_buffer
returns-clause-of_buffer c = λ width bytes. buffer_answers width bytes
