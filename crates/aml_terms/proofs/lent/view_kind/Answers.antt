use Rattle.std.proofs.Common.{refl}
use Rattle.aml_marks.specs.Marked.{a_name, a_text, all_left, an_operand}
use Rattle.aml_terms.proofs.lent.view_kind.Goals as goal

pub returns-in-NameString : goal.returns-in-NameString
unfolding an_operand
returns-in-NameString c = ((a_name c.args.cursor.now).0, rw c.in-NameString.is refl)

pub returns-in-ScopeName : goal.returns-in-ScopeName
unfolding an_operand
returns-in-ScopeName c = ((a_name c.args.cursor.now).0, rw c.in-ScopeName.is refl)

pub returns-in-AliasSource : goal.returns-in-AliasSource
unfolding an_operand
returns-in-AliasSource c = ((a_name c.args.cursor.now).0, rw c.in-AliasSource.is refl)

pub returns-in-AliasName : goal.returns-in-AliasName
unfolding an_operand
returns-in-AliasName c = ((a_name c.args.cursor.now).0, rw c.in-AliasName.is refl)

pub returns-in-DeclaredName : goal.returns-in-DeclaredName
unfolding an_operand
returns-in-DeclaredName c = ((a_name c.args.cursor.now).0, rw c.in-DeclaredName.is refl)

pub returns-in-ExternalName : goal.returns-in-ExternalName
unfolding an_operand
returns-in-ExternalName c = ((a_name c.args.cursor.now).0, rw c.in-ExternalName.is refl)

pub returns-in-AsciiCharList : goal.returns-in-AsciiCharList
unfolding an_operand
returns-in-AsciiCharList c = ((a_text c.args.cursor.now).0, rw c.in-AsciiCharList.is refl)

pub returns-in-ByteList : goal.returns-in-ByteList
unfolding an_operand
returns-in-ByteList c = ((all_left c.args.cursor.now).0, rw c.in-ByteList.is refl)
