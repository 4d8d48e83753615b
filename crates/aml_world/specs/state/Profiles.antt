-- What is asked of the profile of a world.
use Rattle.std.specs.Prelude.{Ok, Err, Bool, true, false}
use Rattle.ar_space.specs.declared.refusal.Refusal.TheVariants as refusal
use Rattle.ar_space.specs.declared.refusal.EvaluationFault.TheVariants.{Unsupported}
use Rattle.ar_space.specs.Outcome.{Outcome}
use Rattle.ar_space.specs.Change.{Change}
use Rattle.aml_grammar.specs.declared.opcode.Opcode.{Opcode}
use Rattle.aml_grammar.specs.Opcodes as opcodes
use Rattle.aml_world.specs.declared.state.profile.Profile.{Profile}
use Rattle.aml_world.specs.declared.state.profile.Profile.TheVariants as profiles
use Rattle.aml_world.specs.state.State.{State}

-- whether a profile evaluates a term of the wide one
abbrev pub evaluated_in : Profile → Opcode → Outcome (Unit {0})
evaluated_in profiles.Wide op = Ok tt
evaluated_in profiles.Core op = Err (refusal.Evaluation (Unsupported (opcodes.number_of op)))

unfoldable pub asked_for : {S : Type 0} → Opcode → Change (State S) (Unit {0})
asked_for op w = (evaluated_in w.profile op, w)

abbrev pub is_wide : Profile → Bool
is_wide profiles.Core = false
is_wide profiles.Wide = true
