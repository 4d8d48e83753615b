-- The objects, each by its number: what makes one, what reads one, and what writes into one.
use Rattle.std.specs.Prelude.{ℕ, ◌-◌, ◌==◌, List, [], ◌∷◌, ◌++◌, length, take, replicate, slice_get, slice_set, nat_le, nat_lt, Option, Some, None, Ok, Err, if◌then◌else◌}
use Rattle.ar_space.specs.declared.refusal.Refusal.TheVariants as refusal
use Rattle.ar_space.specs.declared.refusal.EvaluationFault.TheVariants.{DeadReference, ObjectLimit}
use Rattle.ar_space.specs.declared.refusal.ValueFault.TheVariants.{WrongType}
use Rattle.ar_space.specs.Outcome.{Outcome}
use Rattle.ar_space.specs.Change.{Change, give, settle, ◌>>=◌, ◌>>◌}
use Rattle.aml_objects.specs.declared.value.Value.{Value}
use Rattle.aml_objects.specs.declared.value.Value.TheVariants as value
use Rattle.aml_objects.specs.declared.object.Element.{Element}
use Rattle.aml_objects.specs.declared.object.Object.{Object}
use Rattle.aml_objects.specs.declared.object.Object.TheVariants as object

abbrev pub Objects : Type 0
Objects = List Object

-- a new object at the end: at most 262,144 of them
unfoldable pub make : Object → Change Objects ℕ
make o h = if nat_le 262144 (length h) then (Err (refusal.Evaluation ObjectLimit), h) else (Ok (length h), h ++ o ∷ [])

-- a string's or a buffer's bytes: at most 1,048,576
unfoldable pub fits : List ℕ → Outcome (Unit {0})
fits bs = if nat_lt 1048576 (length bs) then Err (refusal.Evaluation ObjectLimit) else Ok tt

-- a string, a buffer, and a package: at most 65,535 elements
unfoldable pub make_string : List ℕ → Change Objects Value
make_string bs = do
  settle (fits bs)
  n ← make (object.String bs)
  give (value.String n)

unfoldable pub make_buffer : List ℕ → Change Objects Value
make_buffer bs = do
  settle (fits bs)
  n ← make (object.Buffer bs)
  give (value.Buffer n)

unfoldable pub few : List Element → Outcome (Unit {0})
few es = if nat_lt 65535 (length es) then Err (refusal.Evaluation ObjectLimit) else Ok tt

unfoldable pub make_package : List Element → Change Objects Value
make_package es = do
  settle (few es)
  n ← make (object.Package es)
  give (value.Package n)

-- what an object holds, where it is of the kind that is asked for
abbrev pub string_in : Option Object → Outcome (List ℕ)
string_in None = Err (refusal.Value WrongType)
string_in (Some (object.String bs)) = Ok bs
string_in (Some (object.Buffer bs)) = Err (refusal.Value WrongType)
string_in (Some (object.Package es)) = Err (refusal.Value WrongType)

abbrev pub buffer_in : Option Object → Outcome (List ℕ)
buffer_in None = Err (refusal.Value WrongType)
buffer_in (Some (object.String bs)) = Err (refusal.Value WrongType)
buffer_in (Some (object.Buffer bs)) = Ok bs
buffer_in (Some (object.Package es)) = Err (refusal.Value WrongType)

abbrev pub elements_in : Option Object → Outcome (List Element)
elements_in None = Err (refusal.Value WrongType)
elements_in (Some (object.String bs)) = Err (refusal.Value WrongType)
elements_in (Some (object.Buffer bs)) = Err (refusal.Value WrongType)
elements_in (Some (object.Package es)) = Ok es

unfoldable pub string_at : ℕ → Change Objects (List ℕ)
string_at o h = (string_in (slice_get h o), h)

unfoldable pub buffer_at : ℕ → Change Objects (List ℕ)
buffer_at o h = (buffer_in (slice_get h o), h)

unfoldable pub elements_at : ℕ → Change Objects (List Element)
elements_at o h = (elements_in (slice_get h o), h)

-- a buffer's bytes after a store: cut or zero-filled to its length, and an empty one takes the source's
abbrev pub fitted_to : ℕ → List ℕ → List ℕ
fitted_to room new = if room == 0 then new else take room new ++ replicate (room - length new) 0

-- with an object of so many bytes or fewer in place of an earlier one
abbrev pub with_sized : List ℕ → ℕ → Object → Change Objects (Unit {0})
with_sized bs o ob h = if nat_lt 1048576 (length bs) then (Err (refusal.Evaluation ObjectLimit), h) else (Ok tt, slice_set h o ob)

abbrev pub with_buffer : Option Object → ℕ → List ℕ → Change Objects (Unit {0})
with_buffer None o new h = (Err (refusal.Value WrongType), h)
with_buffer (Some (object.String bs)) o new h = (Err (refusal.Value WrongType), h)
with_buffer (Some (object.Buffer bs)) o new h = with_sized (fitted_to (length bs) new) o (object.Buffer (fitted_to (length bs) new)) h
with_buffer (Some (object.Package es)) o new h = (Err (refusal.Value WrongType), h)

-- a store into a buffer writes into its object
unfoldable pub write_buffer : ℕ → List ℕ → Change Objects (Unit {0})
write_buffer o new h = with_buffer (slice_get h o) o new h

abbrev pub with_string : Option Object → ℕ → List ℕ → Change Objects (Unit {0})
with_string None o new h = (Err (refusal.Value WrongType), h)
with_string (Some (object.String bs)) o new h = with_sized new o (object.String new) h
with_string (Some (object.Buffer bs)) o new h = (Err (refusal.Value WrongType), h)
with_string (Some (object.Package es)) o new h = (Err (refusal.Value WrongType), h)

-- a store into a string writes into its object, which takes the new length
unfoldable pub write_string : ℕ → List ℕ → Change Objects (Unit {0})
write_string o new h = with_string (slice_get h o) o new h

-- whether one byte of an object can be written, and the object after it
abbrev pub byte_outcome : ℕ → Object → Outcome (Unit {0})
byte_outcome i (object.String bs) = if nat_lt i (length bs) then Ok tt else Err (refusal.Evaluation DeadReference)
byte_outcome i (object.Buffer bs) = if nat_lt i (length bs) then Ok tt else Err (refusal.Evaluation DeadReference)
byte_outcome i (object.Package es) = Err (refusal.Evaluation DeadReference)

abbrev pub byte_set : ℕ → ℕ → List ℕ → List ℕ
byte_set i x bs = if nat_lt i (length bs) then slice_set bs i x else bs

abbrev pub byte_written : ℕ → ℕ → Object → Object
byte_written i x (object.String bs) = object.String (byte_set i x bs)
byte_written i x (object.Buffer bs) = object.Buffer (byte_set i x bs)
byte_written i x (object.Package es) = object.Package es

abbrev pub with_byte : Option Object → ℕ → ℕ → ℕ → Change Objects (Unit {0})
with_byte None o i x h = (Err (refusal.Evaluation DeadReference), h)
with_byte (Some ob) o i x h = (byte_outcome i ob, slice_set h o (byte_written i x ob))

unfoldable pub write_byte : ℕ → ℕ → ℕ → Change Objects (Unit {0})
write_byte o i x h = with_byte (slice_get h o) o i x h

-- a buffer's bytes, exchanged for others: the earlier ones are the answer
abbrev pub exchanged_with : List ℕ → Object → Object
exchanged_with new (object.String bs) = object.String bs
exchanged_with new (object.Buffer bs) = object.Buffer new
exchanged_with new (object.Package es) = object.Package es

abbrev pub with_exchanged : Option Object → ℕ → List ℕ → Change Objects (List ℕ)
with_exchanged None o new h = (Err (refusal.Value WrongType), h)
with_exchanged (Some ob) o new h = (buffer_in (Some ob), slice_set h o (exchanged_with new ob))

unfoldable pub exchange_buffer : ℕ → List ℕ → Change Objects (List ℕ)
exchange_buffer o new h = with_exchanged (slice_get h o) o new h

-- one element of a package, one byte of a string or a buffer: a reference past the end is dead
abbrev pub or_dead : {A : Type 0} → Option A → Outcome A
or_dead None = Err (refusal.Evaluation DeadReference)
or_dead (Some a) = Ok a

abbrev pub element_in : ℕ → Option Object → Outcome Element
element_in i None = Err (refusal.Evaluation DeadReference)
element_in i (Some (object.String bs)) = Err (refusal.Evaluation DeadReference)
element_in i (Some (object.Buffer bs)) = Err (refusal.Evaluation DeadReference)
element_in i (Some (object.Package es)) = or_dead (slice_get es i)

unfoldable pub element_at : ℕ → ℕ → Change Objects Element
element_at o i h = (element_in i (slice_get h o), h)

abbrev pub byte_in : ℕ → Option Object → Outcome ℕ
byte_in i None = Err (refusal.Evaluation DeadReference)
byte_in i (Some (object.String bs)) = or_dead (slice_get bs i)
byte_in i (Some (object.Buffer bs)) = or_dead (slice_get bs i)
byte_in i (Some (object.Package es)) = Err (refusal.Evaluation DeadReference)

unfoldable pub byte_at : ℕ → ℕ → Change Objects ℕ
byte_at o i h = (byte_in i (slice_get h o), h)

-- an element after a store
abbrev pub element_outcome : ℕ → Object → Outcome (Unit {0})
element_outcome i (object.String bs) = Err (refusal.Evaluation DeadReference)
element_outcome i (object.Buffer bs) = Err (refusal.Evaluation DeadReference)
element_outcome i (object.Package es) = if nat_lt i (length es) then Ok tt else Err (refusal.Evaluation DeadReference)

abbrev pub element_stands : ℕ → Option Object → Outcome (Unit {0})
element_stands i None = Err (refusal.Evaluation DeadReference)
element_stands i (Some ob) = element_outcome i ob

-- a package has an element there, which is tested before it is stored to
unfoldable pub element_there : ℕ → ℕ → Change Objects (Unit {0})
element_there o i h = (element_stands i (slice_get h o), h)

abbrev pub element_written : ℕ → Element → Object → Object
element_written i e (object.String bs) = object.String bs
element_written i e (object.Buffer bs) = object.Buffer bs
element_written i e (object.Package es) = object.Package (if nat_lt i (length es) then slice_set es i e else es)

abbrev pub with_element : Option Object → ℕ → ℕ → Element → Change Objects (Unit {0})
with_element None o i e h = (Err (refusal.Evaluation DeadReference), h)
with_element (Some ob) o i e h = (element_outcome i ob, slice_set h o (element_written i e ob))

unfoldable pub write_element : ℕ → ℕ → Element → Change Objects (Unit {0})
write_element o i e h = with_element (slice_get h o) o i e h
