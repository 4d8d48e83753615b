use Rattle.aml_laws.proofs.ReferencesSought.{referable_is_referred, empty_is_zero, debug_is_refused, none_is_refused}
use Rattle.aml_laws.proofs.referring.a_conditional_reference_finds_what_a_term_names.Goals as goal

pub returns-clause-with_value : goal.returns-clause-with_value
returns-clause-with_value g c = referable_is_referred

pub returns-clause-empty : goal.returns-clause-empty
returns-clause-empty g c = empty_is_zero

pub returns-clause-debug : goal.returns-clause-debug
returns-clause-debug g c = debug_is_refused

pub returns-clause-unnamed : goal.returns-clause-unnamed
returns-clause-unnamed g c = none_is_refused
