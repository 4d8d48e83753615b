use Rattle.aml_laws.proofs.FieldsLaidOut.{fields_laid_out}
use Rattle.aml_laws.proofs.field_lists.fields_lie_where_their_list_lays_them_out.Goals as goal

pub returns : goal.returns
returns g c = λ group scope depth ts at w after e. fields_laid_out group scope depth ts at w after e
