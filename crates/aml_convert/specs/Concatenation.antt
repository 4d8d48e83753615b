-- Concatenate and ConcatenateResTemplate (ACPI 6.5, 19.6.12 and 19.6.13).
use Rattle.std.specs.Prelude.{ℕ, List, [], ◌∷◌, ◌++◌, take, Option, Some, None, Ok, Err}
use Rattle.ar_space.specs.Outcome.{Outcome, ◌>>=◌}
use Rattle.ar_space.specs.declared.integer_width.IntegerWidth.{IntegerWidth}
use Rattle.ar_space.specs.declared.refusal.Refusal.TheVariants as refusal
use Rattle.ar_space.specs.declared.refusal.ValueFault.TheVariants.{WrongType}
use Rattle.ar_space.specs.declared.refusal.ResourceFault.TheVariants.{NoEnd}
use Rattle.acpi_resources.specs.Items.{items_of}
use Rattle.acpi_resources.specs.EndTags.{length_before_end}
use Rattle.aml_objects.specs.Contents.{Content, Integer, String, Buffer, Other}
use Rattle.aml_convert.specs.Conversions.{to_integer_of, to_text_of, to_buffer_of, integer_bytes}

-- the second converted to the first's type; two integers are joined as buffers
unfoldable pub concatenated : IntegerWidth → Content → Content → Outcome Content
concatenated w (Integer n) b = to_integer_of w b >>= (λ m. Ok (Buffer (integer_bytes w n ++ integer_bytes w m)))
concatenated w (String s) b = to_text_of w b >>= (λ t. Ok (String (s ++ t)))
concatenated w (Buffer s) b = to_buffer_of w b >>= (λ t. Ok (Buffer (s ++ t)))
concatenated w Other b = Err (refusal.Value WrongType)

-- the items before the end tag; an empty buffer counts as an end tag alone
abbrev pub front_of : List ℕ → Option ℕ → Outcome (List ℕ)
front_of bytes None = Err (refusal.Resource NoEnd)
front_of bytes (Some n) = Ok (take n bytes)

abbrev pub before_end : List ℕ → Outcome (List ℕ)
before_end [] = Ok []
before_end (b ∷ bs) = front_of (b ∷ bs) (length_before_end (items_of (b ∷ bs)))

abbrev pub buffer_bytes : Content → Outcome (List ℕ)
buffer_bytes (Integer n) = Err (refusal.Value WrongType)
buffer_bytes (String s) = Err (refusal.Value WrongType)
buffer_bytes (Buffer b) = Ok b
buffer_bytes Other = Err (refusal.Value WrongType)

-- the items of both before their end tags, and an end tag
unfoldable pub resources_joined : Content → Content → Outcome (List ℕ)
resources_joined a b = do
  s ← buffer_bytes a
  t ← buffer_bytes b
  front ← before_end s
  back ← before_end t
  Ok (front ++ back ++ 0x79 ∷ 0x00 ∷ [])
