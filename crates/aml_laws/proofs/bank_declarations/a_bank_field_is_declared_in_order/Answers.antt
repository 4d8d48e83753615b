use Rattle.aml_laws.proofs.BanksDeclared.{region_refused, other_region_refused, bank_refused, other_bank_refused, banked_bank_refused, indexed_bank_refused, value_refused, nothing_refused, no_integer_refused, fields_declared}
use Rattle.aml_laws.proofs.bank_declarations.a_bank_field_is_declared_in_order.Goals as goal

pub returns-clause-no_region : goal.returns-clause-no_region
returns-clause-no_region g c = λ accesses scope depth region bank value flags fields s e wide lost. region_refused accesses scope depth region bank value flags fields s wide e lost

pub returns-clause-no_bank : goal.returns-clause-no_bank
returns-clause-no_bank g c = λ accesses scope depth region bank value flags fields s n r e wide there lost. bank_refused accesses scope depth region bank value flags fields s wide n r there e lost

pub returns-clause-banked : goal.returns-clause-banked
returns-clause-banked g c = λ accesses scope depth region bank value flags fields s n r b q held wide there f. banked_bank_refused accesses scope depth region bank value flags fields s wide n r there b q held f

pub returns-clause-indexed : goal.returns-clause-indexed
returns-clause-indexed g c = λ accesses scope depth region bank value flags fields s n r b i d wide there f. indexed_bank_refused accesses scope depth region bank value flags fields s wide n r there b i d f

pub returns-clause-no_value : goal.returns-clause-no_value
returns-clause-no_value g c = λ accesses scope depth region bank value flags fields s after n r b q e wide there f is. value_refused accesses scope depth region bank value flags fields s wide n r there b q f e after is

pub returns-clause-nothing_given : goal.returns-clause-nothing_given
returns-clause-nothing_given g c = λ accesses scope depth region bank value flags fields s after n r b q wide there f is. nothing_refused accesses scope depth region bank value flags fields s wide n r there b q f after is

pub returns-clause-no_integer : goal.returns-clause-no_integer
returns-clause-no_integer g c = λ accesses scope depth region bank value flags fields s after n r b q v e wide there f is none. no_integer_refused accesses scope depth region bank value flags fields s wide n r there b q f v e after is none

pub returns-clause-declared : goal.returns-clause-declared
returns-clause-declared g c = λ accesses scope depth region bank value flags fields s after n r b q v number wide there f is one. fields_declared accesses scope depth region bank value flags fields s wide n r there b q f v number after is one

pub returns-clause-other_region : goal.returns-clause-other_region
returns-clause-other_region g c = λ accesses scope depth region bank value flags fields s n o wide there other. other_region_refused accesses scope depth region bank value flags fields s wide n o there other

pub returns-clause-other_bank : goal.returns-clause-other_bank
returns-clause-other_bank g c = λ accesses scope depth region bank value flags fields s n r b o wide there found other. other_bank_refused accesses scope depth region bank value flags fields s wide n r there b o found other
