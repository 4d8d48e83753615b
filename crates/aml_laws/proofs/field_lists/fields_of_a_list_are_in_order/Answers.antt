use Rattle.aml_laws.proofs.FieldsInOrder.{fields_in_order}
use Rattle.aml_laws.proofs.field_lists.fields_of_a_list_are_in_order.Goals as goal

pub returns : goal.returns
returns g c = record { in_order = λ group scope depth ts at w after e. fields_in_order group scope depth ts at w after e }
