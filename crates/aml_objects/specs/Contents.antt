-- What a value holds, as conversions and operators see it (ACPI 6.5, 19.3.5).
use Rattle.std.specs.Prelude.{ℕ, List, slice_get, Option, Some, None}
use Rattle.aml_objects.specs.declared.value.Value.{Value}
use Rattle.aml_objects.specs.declared.value.Value.TheVariants as value
use Rattle.aml_objects.specs.declared.object.Object.{Object}
use Rattle.aml_objects.specs.declared.object.Object.TheVariants as object
use Rattle.aml_objects.specs.declared.content.Content as code
use Rattle.aml_objects.specs.declared.content.Content.TheVariants as held

-- an integer, the bytes of a string or of a buffer, or something else
pub data Content : Type 0 where
  Integer : ℕ → Content
  String : List ℕ → Content
  Buffer : List ℕ → Content
  Other : Content

-- what the code's type stands for
abbrev pub content_of : code.Content → Content
content_of (held.Integer n) = Integer n
content_of (held.String bytes) = String bytes.now
content_of (held.Buffer bytes) = Buffer bytes.now
content_of held.Other = Other

abbrev pub string_held : Option Object → Content
string_held None = Other
string_held (Some (object.String bytes)) = String bytes
string_held (Some (object.Buffer bytes)) = Other
string_held (Some (object.Package elements)) = Other

abbrev pub buffer_held : Option Object → Content
buffer_held None = Other
buffer_held (Some (object.String bytes)) = Other
buffer_held (Some (object.Buffer bytes)) = Buffer bytes
buffer_held (Some (object.Package elements)) = Other

-- what a value holds, among these objects
abbrev pub content_in : List Object → Value → Content
content_in objects value.Uninitialized = Other
content_in objects (value.Integer n) = Integer n
content_in objects (value.String o) = string_held (slice_get objects o)
content_in objects (value.Buffer o) = buffer_held (slice_get objects o)
content_in objects (value.Package o) = Other
content_in objects (value.Reference r) = Other
