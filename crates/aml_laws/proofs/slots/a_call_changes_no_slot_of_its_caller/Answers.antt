use Rattle.aml_laws.proofs.UnreferencedSlots.{call_leaves_alone}
use Rattle.aml_laws.proofs.slots.a_call_changes_no_slot_of_its_caller.Goals as goal

pub returns : goal.returns
returns g c = λ accesses n s depth p body arguments rise there. call_leaves_alone accesses n s arguments rise depth p body there
