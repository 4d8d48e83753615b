use Rattle.std.specs.Prelude.{[]}
use Rattle.aml_laws.proofs.UnreferencedSlots.{term_leaves_alone, list_leaves_alone}
use Rattle.aml_laws.proofs.slots.slots_change_through_references_alone.Goals as goal

pub returns-clause-terms : goal.returns-clause-terms
returns-clause-terms g c = λ accesses n s t rise there. term_leaves_alone accesses n s [] rise t there

pub returns-clause-lists : goal.returns-clause-lists
returns-clause-lists g c = λ accesses n s scope depth ts rise there. list_leaves_alone accesses n s [] rise scope depth ts there
