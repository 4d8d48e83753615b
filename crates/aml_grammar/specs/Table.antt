-- The table of terms (ACPI 6.5, 20.2): where each may stand, and its operands.
use Rattle.std.specs.Prelude.{ℕ, zero, suc, List, [], ◌∷◌, true, false, Option, ◌==◌}
use Rattle.std.specs.List.{find}
use Rattle.aml_grammar.specs.declared.opcode.Opcode.{Opcode}
use Rattle.aml_grammar.specs.declared.opcode.Opcode.TheVariants as opcodes
use Rattle.aml_grammar.specs.declared.kinds.Class.{Class}
use Rattle.aml_grammar.specs.declared.kinds.Class.TheVariants as classes
use Rattle.aml_grammar.specs.declared.kinds.OperandKind.{OperandKind}
use Rattle.aml_grammar.specs.declared.kinds.OperandKind.TheVariants as kinds
use Rattle.aml_grammar.specs.declared.kinds.OperandKinds.{OperandKinds}
use Rattle.aml_grammar.specs.declared.kinds.Row.{Row}
use Rattle.aml_grammar.specs.Opcodes.{number_of}

-- one kind after another, and nothing after the last
abbrev pub kind_at : List OperandKind → ℕ → OperandKind
kind_at [] i = kinds.Nothing
kind_at (k ∷ ks) zero = k
kind_at (k ∷ ks) (suc i) = kind_at ks i

abbrev pub kinds_in_order : List OperandKind → OperandKinds
kinds_in_order ks = record { 0 = kind_at ks 0; 1 = kind_at ks 1; 2 = kind_at ks 2; 3 = kind_at ks 3; 4 = kind_at ks 4; 5 = kind_at ks 5 }

-- a term whose operands follow its opcode
abbrev pub plain : Opcode → Class → List OperandKind → Row
plain opcode class ks = record { 0 = opcode; 1 = class; 2 = false; 3 = kinds_in_order ks }

-- a term whose operands stand in a package: a PkgLength comes first
abbrev pub packaged : Opcode → Class → List OperandKind → Row
packaged opcode class ks = record { 0 = opcode; 1 = class; 2 = true; 3 = kinds_in_order ks }

abbrev pub table : List Row
table =
    -- written by tools/opcodes.py from tables/opcodes.txt: rows: begin
    plain opcodes.Zero classes.Data [] ∷
    plain opcodes.One classes.Data [] ∷
    plain opcodes.Alias classes.ModuleLevel (kinds.AliasSource ∷ kinds.AliasName ∷ []) ∷
    plain opcodes.Name classes.Statement (kinds.DeclaredName ∷ kinds.DataObject ∷ []) ∷
    plain opcodes.BytePrefix classes.Data (kinds.ByteData ∷ []) ∷
    plain opcodes.WordPrefix classes.Data (kinds.WordData ∷ []) ∷
    plain opcodes.DWordPrefix classes.Data (kinds.DWordData ∷ []) ∷
    plain opcodes.StringPrefix classes.Data (kinds.AsciiCharList ∷ []) ∷
    plain opcodes.QWordPrefix classes.Data (kinds.QWordData ∷ []) ∷
    packaged opcodes.Scope classes.ModuleLevel (kinds.ScopeName ∷ kinds.TermList ∷ []) ∷
    packaged opcodes.Buffer classes.Data (kinds.TermArg ∷ kinds.ByteList ∷ []) ∷
    packaged opcodes.Package classes.Data (kinds.ByteData ∷ kinds.PackageElementList ∷ []) ∷
    packaged opcodes.VarPackage classes.Data (kinds.TermArg ∷ kinds.PackageElementList ∷ []) ∷
    packaged opcodes.Method classes.ModuleLevel (kinds.DeclaredName ∷ kinds.MethodFlags ∷ kinds.ByteList ∷ []) ∷
    plain opcodes.External classes.ModuleLevel (kinds.ExternalName ∷ kinds.ObjectType ∷ kinds.ArgumentCount ∷ []) ∷
    plain opcodes.Local0 classes.Slot [] ∷
    plain opcodes.Local1 classes.Slot [] ∷
    plain opcodes.Local2 classes.Slot [] ∷
    plain opcodes.Local3 classes.Slot [] ∷
    plain opcodes.Local4 classes.Slot [] ∷
    plain opcodes.Local5 classes.Slot [] ∷
    plain opcodes.Local6 classes.Slot [] ∷
    plain opcodes.Local7 classes.Slot [] ∷
    plain opcodes.Arg0 classes.Slot [] ∷
    plain opcodes.Arg1 classes.Slot [] ∷
    plain opcodes.Arg2 classes.Slot [] ∷
    plain opcodes.Arg3 classes.Slot [] ∷
    plain opcodes.Arg4 classes.Slot [] ∷
    plain opcodes.Arg5 classes.Slot [] ∷
    plain opcodes.Arg6 classes.Slot [] ∷
    plain opcodes.Store classes.Expression (kinds.TermArg ∷ kinds.SuperName ∷ []) ∷
    plain opcodes.RefOf classes.Reference (kinds.SuperName ∷ []) ∷
    plain opcodes.Add classes.Expression (kinds.TermArg ∷ kinds.TermArg ∷ kinds.Target ∷ []) ∷
    plain opcodes.Concat classes.Expression (kinds.TermArg ∷ kinds.TermArg ∷ kinds.Target ∷ []) ∷
    plain opcodes.Subtract classes.Expression (kinds.TermArg ∷ kinds.TermArg ∷ kinds.Target ∷ []) ∷
    plain opcodes.Increment classes.Expression (kinds.SuperName ∷ []) ∷
    plain opcodes.Decrement classes.Expression (kinds.SuperName ∷ []) ∷
    plain opcodes.Multiply classes.Expression (kinds.TermArg ∷ kinds.TermArg ∷ kinds.Target ∷ []) ∷
    plain opcodes.Divide classes.Expression (kinds.TermArg ∷ kinds.TermArg ∷ kinds.Target ∷ kinds.Target ∷ []) ∷
    plain opcodes.ShiftLeft classes.Expression (kinds.TermArg ∷ kinds.TermArg ∷ kinds.Target ∷ []) ∷
    plain opcodes.ShiftRight classes.Expression (kinds.TermArg ∷ kinds.TermArg ∷ kinds.Target ∷ []) ∷
    plain opcodes.And classes.Expression (kinds.TermArg ∷ kinds.TermArg ∷ kinds.Target ∷ []) ∷
    plain opcodes.Nand classes.Expression (kinds.TermArg ∷ kinds.TermArg ∷ kinds.Target ∷ []) ∷
    plain opcodes.Or classes.Expression (kinds.TermArg ∷ kinds.TermArg ∷ kinds.Target ∷ []) ∷
    plain opcodes.Nor classes.Expression (kinds.TermArg ∷ kinds.TermArg ∷ kinds.Target ∷ []) ∷
    plain opcodes.Xor classes.Expression (kinds.TermArg ∷ kinds.TermArg ∷ kinds.Target ∷ []) ∷
    plain opcodes.Not classes.Expression (kinds.TermArg ∷ kinds.Target ∷ []) ∷
    plain opcodes.FindSetLeftBit classes.Expression (kinds.TermArg ∷ kinds.Target ∷ []) ∷
    plain opcodes.FindSetRightBit classes.Expression (kinds.TermArg ∷ kinds.Target ∷ []) ∷
    plain opcodes.DerefOf classes.Reference (kinds.TermArg ∷ []) ∷
    plain opcodes.ConcatRes classes.Expression (kinds.TermArg ∷ kinds.TermArg ∷ kinds.Target ∷ []) ∷
    plain opcodes.Mod classes.Expression (kinds.TermArg ∷ kinds.TermArg ∷ kinds.Target ∷ []) ∷
    plain opcodes.Notify classes.Statement (kinds.SuperName ∷ kinds.TermArg ∷ []) ∷
    plain opcodes.SizeOf classes.Expression (kinds.SuperName ∷ []) ∷
    plain opcodes.Index classes.Reference (kinds.TermArg ∷ kinds.TermArg ∷ kinds.Target ∷ []) ∷
    plain opcodes.Match classes.Expression (kinds.TermArg ∷ kinds.ByteData ∷ kinds.TermArg ∷ kinds.ByteData ∷ kinds.TermArg ∷ kinds.TermArg ∷ []) ∷
    plain opcodes.CreateDWordField classes.Statement (kinds.TermArg ∷ kinds.TermArg ∷ kinds.DeclaredName ∷ []) ∷
    plain opcodes.CreateWordField classes.Statement (kinds.TermArg ∷ kinds.TermArg ∷ kinds.DeclaredName ∷ []) ∷
    plain opcodes.CreateByteField classes.Statement (kinds.TermArg ∷ kinds.TermArg ∷ kinds.DeclaredName ∷ []) ∷
    plain opcodes.CreateBitField classes.Statement (kinds.TermArg ∷ kinds.TermArg ∷ kinds.DeclaredName ∷ []) ∷
    plain opcodes.ObjectType classes.Expression (kinds.SuperName ∷ []) ∷
    plain opcodes.CreateQWordField classes.Statement (kinds.TermArg ∷ kinds.TermArg ∷ kinds.DeclaredName ∷ []) ∷
    plain opcodes.LAnd classes.Expression (kinds.TermArg ∷ kinds.TermArg ∷ []) ∷
    plain opcodes.LOr classes.Expression (kinds.TermArg ∷ kinds.TermArg ∷ []) ∷
    plain opcodes.LNot classes.Expression (kinds.TermArg ∷ []) ∷
    plain opcodes.LEqual classes.Expression (kinds.TermArg ∷ kinds.TermArg ∷ []) ∷
    plain opcodes.LGreater classes.Expression (kinds.TermArg ∷ kinds.TermArg ∷ []) ∷
    plain opcodes.LLess classes.Expression (kinds.TermArg ∷ kinds.TermArg ∷ []) ∷
    plain opcodes.ToBuffer classes.Expression (kinds.TermArg ∷ kinds.Target ∷ []) ∷
    plain opcodes.ToDecimalString classes.Expression (kinds.TermArg ∷ kinds.Target ∷ []) ∷
    plain opcodes.ToHexString classes.Expression (kinds.TermArg ∷ kinds.Target ∷ []) ∷
    plain opcodes.ToInteger classes.Expression (kinds.TermArg ∷ kinds.Target ∷ []) ∷
    plain opcodes.ToString classes.Expression (kinds.TermArg ∷ kinds.TermArg ∷ kinds.Target ∷ []) ∷
    plain opcodes.CopyObject classes.Expression (kinds.TermArg ∷ kinds.SimpleName ∷ []) ∷
    plain opcodes.Mid classes.Expression (kinds.TermArg ∷ kinds.TermArg ∷ kinds.TermArg ∷ kinds.Target ∷ []) ∷
    plain opcodes.Continue classes.InLoop [] ∷
    packaged opcodes.If classes.Statement (kinds.TermArg ∷ kinds.TermList ∷ []) ∷
    packaged opcodes.Else classes.AfterIf (kinds.TermList ∷ []) ∷
    packaged opcodes.While classes.Statement (kinds.TermArg ∷ kinds.LoopTermList ∷ []) ∷
    plain opcodes.Noop classes.Statement [] ∷
    plain opcodes.Return classes.InBody (kinds.TermArg ∷ []) ∷
    plain opcodes.Break classes.InLoop [] ∷
    plain opcodes.BreakPoint classes.Statement [] ∷
    plain opcodes.Ones classes.Data [] ∷
    plain opcodes.Mutex classes.Statement (kinds.DeclaredName ∷ kinds.ByteData ∷ []) ∷
    plain opcodes.Event classes.Statement (kinds.DeclaredName ∷ []) ∷
    plain opcodes.CondRefOf classes.Expression (kinds.SuperName ∷ kinds.Target ∷ []) ∷
    plain opcodes.CreateField classes.Statement (kinds.TermArg ∷ kinds.TermArg ∷ kinds.TermArg ∷ kinds.DeclaredName ∷ []) ∷
    plain opcodes.LoadTable classes.Expression (kinds.TermArg ∷ kinds.TermArg ∷ kinds.TermArg ∷ kinds.TermArg ∷ kinds.TermArg ∷ kinds.TermArg ∷ []) ∷
    plain opcodes.Load classes.Expression (kinds.NameString ∷ kinds.Target ∷ []) ∷
    plain opcodes.Stall classes.Statement (kinds.TermArg ∷ []) ∷
    plain opcodes.Sleep classes.Statement (kinds.TermArg ∷ []) ∷
    plain opcodes.Acquire classes.Expression (kinds.SuperName ∷ kinds.WordData ∷ []) ∷
    plain opcodes.Signal classes.Statement (kinds.SuperName ∷ []) ∷
    plain opcodes.Wait classes.Expression (kinds.SuperName ∷ kinds.TermArg ∷ []) ∷
    plain opcodes.Reset classes.Statement (kinds.SuperName ∷ []) ∷
    plain opcodes.Release classes.Statement (kinds.SuperName ∷ []) ∷
    plain opcodes.FromBcd classes.Expression (kinds.TermArg ∷ kinds.Target ∷ []) ∷
    plain opcodes.ToBcd classes.Expression (kinds.TermArg ∷ kinds.Target ∷ []) ∷
    plain opcodes.Revision classes.Data [] ∷
    plain opcodes.Debug classes.DebugObject [] ∷
    plain opcodes.Fatal classes.Statement (kinds.ByteData ∷ kinds.DWordData ∷ kinds.TermArg ∷ []) ∷
    plain opcodes.Timer classes.Expression [] ∷
    plain opcodes.OpRegion classes.Statement (kinds.DeclaredName ∷ kinds.ByteData ∷ kinds.TermArg ∷ kinds.TermArg ∷ []) ∷
    packaged opcodes.Field classes.Statement (kinds.NameString ∷ kinds.ByteData ∷ kinds.FieldList ∷ []) ∷
    packaged opcodes.Device classes.ModuleLevel (kinds.DeclaredName ∷ kinds.TermList ∷ []) ∷
    packaged opcodes.Processor classes.ModuleLevel (kinds.DeclaredName ∷ kinds.ByteData ∷ kinds.DWordData ∷ kinds.ByteData ∷ kinds.TermList ∷ []) ∷
    packaged opcodes.PowerRes classes.ModuleLevel (kinds.DeclaredName ∷ kinds.ByteData ∷ kinds.WordData ∷ kinds.TermList ∷ []) ∷
    packaged opcodes.ThermalZone classes.ModuleLevel (kinds.DeclaredName ∷ kinds.TermList ∷ []) ∷
    packaged opcodes.IndexField classes.Statement (kinds.NameString ∷ kinds.NameString ∷ kinds.ByteData ∷ kinds.FieldList ∷ []) ∷
    packaged opcodes.BankField classes.Statement (kinds.NameString ∷ kinds.NameString ∷ kinds.TermArg ∷ kinds.ByteData ∷ kinds.FieldList ∷ []) ∷
    plain opcodes.DataRegion classes.Statement (kinds.DeclaredName ∷ kinds.TermArg ∷ kinds.TermArg ∷ kinds.TermArg ∷ []) ∷ []
    -- written by tools/opcodes.py from tables/opcodes.txt: rows: end

-- the row of an opcode
unfoldable pub row_of : ℕ → Option Row
row_of number = find (λ r. number_of r.0 == number) table
