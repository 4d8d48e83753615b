-- What the objects of the address of a PCI function answer: `_SEG`, `_BBN` and `_ADR` (ACPI 6.5, 6.1.1, 6.5.5 and
-- 6.5.6).
use Rattle.std.specs.Prelude.{◌≡◌, ◌≢◌, ◌≤◌, ◌<◌, ◌+◌, ◌%◌, ℕ, List, [], Some, Ok, Err}
use Rattle.std.specs.FinMap.{get}
use Rattle.ar_space.specs.declared.refusal.Refusal.{Refusal}
use Rattle.ar_space.specs.declared.refusal.Refusal.TheVariants as refusal
use Rattle.ar_space.specs.declared.refusal.EvaluationFault.TheVariants.{NoValue}
use Rattle.ar_space.specs.declared.refusal.ValueFault.TheVariants.{WrongType}
use Rattle.ar_space.specs.Accesses.{Accesses}
use Rattle.ar_space.specs.Outcome.{Outcome}
use Rattle.aml_path.specs.declared.segment.Seg.{Seg}
use Rattle.aml_objects.specs.Contents.{Buffer}
use Rattle.aml_objects.specs.declared.value.Reference.{Reference}
use Rattle.aml_objects.specs.declared.value.Value.{Value}
use Rattle.aml_objects.specs.declared.value.Value.TheVariants as value
use Rattle.aml_objects.specs.declared.entry.Entry.{Entry}
use Rattle.aml_objects.specs.declared.entry.Field.{Field}
use Rattle.aml_objects.specs.declared.entry.Method.{Method}
use Rattle.aml_objects.specs.declared.entry.NamedObject.{NamedObject}
use Rattle.aml_objects.specs.declared.entry.NamedObject.TheVariants as named
use Rattle.aml_convert.specs.Conversions.{to_integer_of}
use Rattle.aml_convert.specs.Integers.{bits_of}
use Rattle.aml_world.specs.state.State.{State}
use Rattle.aml_meaning.specs.Calls.{method_value}
use Rattle.aml_meaning.specs.Meaning.{meaning}
use Rattle.aml_laws.specs.DeclaredObjects.{method_of}
use Rattle.aml_laws.specs.FieldNames.{IsField, bits_read_at}
use Rattle.aml_laws.specs.Histories.{numbered_entry}
use Rattle.aml_laws.specs.NamesFound.{LeadsTo}
use Rattle.aml_laws.specs.StoredParts.{HoldsNothing}

-- what is asked for at a path is this object, which stands there or where an alias leads to
pub record IsAskedAt {S : Type 0} (w : State S) (path at : List Seg) (o : NamedObject) : Type 0 where
  pub first : Entry
  pub stands : get w.names.map path ≡ Some first
  pub number : ℕ
  pub leads : LeadsTo w.names.map path first (Ok (at, numbered_entry number o))

-- it is no control method that takes arguments
abbrev pub TakesNoArguments : NamedObject → Type 0
TakesNoArguments o = (m : Method) → o ≡ named.Method m → m.flags.byte % 8 ≡ 0

-- a part of an address is an integer; what would convert to one is none
pub data IsPartOfAddress : Value → Outcome ℕ → Type 0 where
  an_integer : (n : ℕ) → IsPartOfAddress (value.Integer n) (Ok n)
  no_value : IsPartOfAddress value.Uninitialized (Err (refusal.Evaluation NoValue))
  a_string : (o : ℕ) → IsPartOfAddress (value.String o) (Err (refusal.Value WrongType))
  a_buffer : (o : ℕ) → IsPartOfAddress (value.Buffer o) (Err (refusal.Value WrongType))
  a_package : (o : ℕ) → IsPartOfAddress (value.Package o) (Err (refusal.Value WrongType))
  a_reference : (r : Reference) → IsPartOfAddress (value.Reference r) (Err (refusal.Value WrongType))

-- What an object answers where an address is asked for, and the world then, where so many control methods are being
-- called: a name what it holds, a field what its bits make where they are no more than an integer has, and a control
-- method what a call without arguments gives. The objects of the address of that field are asked one call deeper, and
-- so are the terms of the control method evaluated.
pub data ObjectAnswers {S : Type 0} (accesses : Accesses S) (depth : ℕ) (s : State S × ℕ) (at : List Seg) : NamedObject → Outcome ℕ → State S × ℕ → Type 0 where
  of_data : (v : Value) (r : Outcome ℕ) → IsPartOfAddress v r → ObjectAnswers accesses depth s at (named.Data v) r s
  of_field : (o : NamedObject) (f : Field) (bits : ℕ) (bytes : List ℕ) (after : State S × ℕ) → IsField o f bits → bits_read_at accesses (depth + 1) f s ≡ (Ok bytes, after) → bits ≤ bits_of after.0.width
      → ObjectAnswers accesses depth s at o (to_integer_of after.0.width (Buffer bytes)) after
  of_wide_field : (o : NamedObject) (f : Field) (bits : ℕ) (bytes : List ℕ) (after : State S × ℕ) → IsField o f bits → bits_read_at accesses (depth + 1) f s ≡ (Ok bytes, after) → bits_of after.0.width < bits
      → ObjectAnswers accesses depth s at o (Err (refusal.Value WrongType)) after
  of_refused_field : (o : NamedObject) (f : Field) (bits : ℕ) (e : Refusal) (after : State S × ℕ) → IsField o f bits → bits_read_at accesses (depth + 1) f s ≡ (Err e, after) → ObjectAnswers accesses depth s at o (Err e) after
  of_method : (flags : ℕ) (body : List ℕ) (v : Value) (r : Outcome ℕ) (after : State S × ℕ) → flags % 8 ≡ 0 → method_value (meaning accesses) depth at body [] s ≡ (Ok v, after) → IsPartOfAddress v r
      → ObjectAnswers accesses depth s at (method_of flags body) r after
  of_refused_method : (flags : ℕ) (body : List ℕ) (e : Refusal) (after : State S × ℕ) → flags % 8 ≡ 0 → method_value (meaning accesses) depth at body [] s ≡ (Err e, after)
      → ObjectAnswers accesses depth s at (method_of flags body) (Err e) after

-- what is asked for at a path holds neither a value nor the bits of a field, and is no control method: so a Device or a
-- mutex
pub record HoldsNoValueAt {S : Type 0} (w : State S) (path : List Seg) : Type 0 where
  pub place : List Seg
  pub object : NamedObject
  pub asked_there : IsAskedAt w path place object
  pub holds_nothing : HoldsNothing object
  pub no_method : (m : Method) → object ≢ named.Method m
