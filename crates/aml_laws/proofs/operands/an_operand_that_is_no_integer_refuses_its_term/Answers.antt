use Rattle.aml_laws.proofs.IntegersAsked.{no_integer_asked, index_asked, offset_asked, length_asked, length_of_text_asked, start_asked, count_asked}
use Rattle.aml_laws.proofs.operands.an_operand_that_is_no_integer_refuses_its_term.Goals as goal

pub returns-clause-alone : goal.returns-clause-alone
returns-clause-alone g c = no_integer_asked

pub returns-clause-index : goal.returns-clause-index
returns-clause-index g c = λ accesses scope depth x y w steps v u after h e indexed is p. index_asked accesses scope depth x y w steps v u after h e indexed is p

pub returns-clause-offset : goal.returns-clause-offset
returns-clause-offset g c = λ accesses scope depth x y w steps v u after h e is n space. offset_asked accesses scope depth x y w steps v u after h e is n space

pub returns-clause-extent : goal.returns-clause-extent
returns-clause-extent g c = λ accesses scope depth x y w steps v u after h e a begins is n space. length_asked accesses scope depth x y w steps v u after h e a begins is n space

pub returns-clause-text : goal.returns-clause-text
returns-clause-text g c = λ accesses scope depth x y w steps v u after h e is_wide bytes source is p. length_of_text_asked accesses scope depth x y w steps v u after h e is_wide bytes source is p

pub returns-clause-start : goal.returns-clause-start
returns-clause-start g c = λ accesses scope depth x y z w steps v u r behind after h third e is_wide whole made has is p. start_asked accesses scope depth x y z w steps v u r behind after h third e is_wide whole made has is p

pub returns-clause-count : goal.returns-clause-count
returns-clause-count g c = λ accesses scope depth x y z w steps v u r behind after h third e is_wide whole made has i starts is p. count_asked accesses scope depth x y z w steps v u r behind after h third e is_wide whole made has i starts is p
