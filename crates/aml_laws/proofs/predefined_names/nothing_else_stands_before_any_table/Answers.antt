use Rattle.aml_laws.proofs.NamesPredefined.{no_other_name, no_other_count, no_frame}
use Rattle.aml_laws.proofs.predefined_names.nothing_else_stands_before_any_table.Goals as goal

pub returns-clause-names : goal.returns-clause-names
returns-clause-names g c = no_other_name

pub returns-clause-counts : goal.returns-clause-counts
returns-clause-counts g c = no_other_count

pub returns-clause-frames : goal.returns-clause-frames
returns-clause-frames g c = no_frame
