use Rattle.aml_laws.proofs.ObjectsAsked.{integer_unsized, nothing_unsized, no_value_unsized, kind_unsized, debug_unsized}
use Rattle.aml_laws.proofs.PartsAsked.{part_unsized}
use Rattle.aml_laws.proofs.PartsRefused.{no_part_indexed}
use Rattle.aml_laws.proofs.referring.what_has_no_parts_is_neither_counted_nor_indexed.Goals as goal

pub returns-clause-size : goal.returns-clause-size
returns-clause-size g c = integer_unsized

pub returns-clause-nothing_yet : goal.returns-clause-nothing_yet
returns-clause-nothing_yet g c = nothing_unsized

pub returns-clause-no_value : goal.returns-clause-no_value
returns-clause-no_value g c = no_value_unsized

pub returns-clause-names : goal.returns-clause-names
returns-clause-names g c = kind_unsized

pub returns-clause-debug : goal.returns-clause-debug
returns-clause-debug g c = debug_unsized

pub returns-clause-parts : goal.returns-clause-parts
returns-clause-parts g c = part_unsized

pub returns-clause-index : goal.returns-clause-index
returns-clause-index g c = no_part_indexed
