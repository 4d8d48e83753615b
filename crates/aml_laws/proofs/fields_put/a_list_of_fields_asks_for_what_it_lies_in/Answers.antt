use Rattle.aml_laws.proofs.RegionsDeclared.{region_asked, index_asked, data_asked}
use Rattle.aml_laws.proofs.fields_put.a_list_of_fields_asks_for_what_it_lies_in.Goals as goal

pub returns-clause-region : goal.returns-clause-region
returns-clause-region g c = λ accesses scope depth flags fields w steps takes region e none. region_asked accesses scope depth flags fields w steps takes region e none

pub returns-clause-index : goal.returns-clause-index
returns-clause-index g c = λ accesses scope depth flags fields w steps takes index behind e none. index_asked accesses scope depth flags fields w steps takes index behind e none

pub returns-clause-data : goal.returns-clause-data
returns-clause-data g c = λ accesses scope depth flags fields w steps takes index behind i p e one none. data_asked accesses scope depth flags fields w steps takes index behind i p e one none
