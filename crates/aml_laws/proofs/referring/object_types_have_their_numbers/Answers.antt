use Rattle.aml_laws.proofs.ObjectsAsked.{type_told, kind_told, empty_told, debug_told}
use Rattle.aml_laws.proofs.PartsAsked.{part_typed}
use Rattle.aml_laws.proofs.referring.object_types_have_their_numbers.Goals as goal

pub returns-clause-values : goal.returns-clause-values
returns-clause-values g c = type_told

pub returns-clause-names : goal.returns-clause-names
returns-clause-names g c = kind_told

pub returns-clause-parts : goal.returns-clause-parts
returns-clause-parts g c = part_typed

pub returns-clause-nothing_yet : goal.returns-clause-nothing_yet
returns-clause-nothing_yet g c = empty_told

pub returns-clause-debug : goal.returns-clause-debug
returns-clause-debug g c = debug_told
