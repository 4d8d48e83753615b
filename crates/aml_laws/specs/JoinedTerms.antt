-- Strings and buffers that terms form of others (ACPI 6.5, 19.6: Concatenate, Mid, ToString).
use Rattle.std.specs.Prelude.{◌≡◌, ◌≢◌, ◌⊎◌, ◌<◌, ◌≤◌, ◌-◌, ℕ, min, List, [], ◌∷◌, ◌++◌, length, slice_get, Some, Ok, Err}
use Rattle.ar_space.specs.declared.integer_width.IntegerWidth.{IntegerWidth}
use Rattle.ar_space.specs.declared.refusal.Refusal.{Refusal}
use Rattle.ar_space.specs.declared.refusal.Refusal.TheVariants as refusal
use Rattle.ar_space.specs.declared.refusal.ResourceFault.TheVariants.{NoEnd}
use Rattle.ar_space.specs.declared.refusal.ValueFault.TheVariants.{WrongType}
use Rattle.ar_space.specs.Accesses.{Accesses}
use Rattle.acpi_resources.specs.Items.{items_of}
use Rattle.aml_path.specs.declared.segment.Seg.{Seg}
use Rattle.aml_grammar.specs.declared.opcode.Opcode.TheVariants as opcodes
use Rattle.aml_grammar.specs.Tree.{Tree, Part, inner, no_parts, part}
use Rattle.aml_objects.specs.Contents.{Content, Integer, String, Buffer, Other, content_in}
use Rattle.aml_objects.specs.declared.object.Object.{Object}
use Rattle.aml_objects.specs.declared.object.Object.TheVariants as object
use Rattle.aml_objects.specs.declared.value.Value.{Value}
use Rattle.aml_objects.specs.declared.value.Value.TheVariants as value
use Rattle.aml_convert.specs.Conversions.{to_integer_of, to_text_of, to_buffer_of}
use Rattle.aml_world.specs.declared.state.profile.Profile.TheVariants as profiles
use Rattle.aml_world.specs.state.State.{State}
use Rattle.aml_world.specs.state.Readings.{integer_in}
use Rattle.aml_laws.specs.OperatorTerms.{of_opcode, GivesValue}
use Rattle.aml_laws.specs.ResourceLists.{HasEndTag}
use Rattle.aml_laws.specs.TestTerms.{TwoValues}

-- the same world with one object more, which is the last one, and the value that it is
abbrev pub with_object : {S : Type 0} → State S → Object → State S
with_object w x = record w { objects = w.objects ++ x ∷ [] }

abbrev pub Fits : {S : Type 0} → State S → List ℕ → Type 0
Fits w bytes = (length bytes ≤ 1048576) × (length w.objects < 262144)

-- ---- Concatenate

-- what two contents are joined to, the second one converted to the type of the first, and the bytes of that
pub data IsJoined (width : IntegerWidth) : Content → Content → Content → List ℕ → Type 0 where
  strings : (s t : List ℕ) (second : Content) → to_text_of width second ≡ Ok t → IsJoined width (String s) second (String (s ++ t)) (s ++ t)
  buffers : (s t : List ℕ) (second : Content) → to_buffer_of width second ≡ Ok t → IsJoined width (Buffer s) second (Buffer (s ++ t)) (s ++ t)
  integers : (n m : ℕ) (s t : List ℕ) (second : Content) → to_integer_of width second ≡ Ok m → to_buffer_of width (Integer n) ≡ Ok s → to_buffer_of width (Integer m) ≡ Ok t
      → IsJoined width (Integer n) second (Buffer (s ++ t)) (s ++ t)

-- the second one has no conversion to the type of the first, and how that is refused
pub data IsUnjoined (width : IntegerWidth) : Content → Content → Refusal → Type 0 where
  no_integer : (n : ℕ) (second : Content) (e : Refusal) → to_integer_of width second ≡ Err e → IsUnjoined width (Integer n) second e
  no_text : (s : List ℕ) (second : Content) (e : Refusal) → to_text_of width second ≡ Err e → IsUnjoined width (String s) second e
  no_bytes : (s : List ℕ) (second : Content) (e : Refusal) → to_buffer_of width second ≡ Err e → IsUnjoined width (Buffer s) second e

-- ---- ConcatenateResTemplate

-- a content that is no buffer
pub data HoldsNoBuffer : Content → Type 0 where
  holds_integer : (n : ℕ) → HoldsNoBuffer (Integer n)
  holds_string : (s : List ℕ) → HoldsNoBuffer (String s)
  holds_other : HoldsNoBuffer Other

-- bytes that are no list of resource items: there are some, and no end tag is among their items
pub data HasNoEnd : List ℕ → Type 0 where
  without_end : (b : ℕ) (bytes : List ℕ) → (HasEndTag (items_of (b ∷ bytes)) → ⊥) → HasNoEnd (b ∷ bytes)

-- two contents that aren't both buffers of resource items, and how that is refused: first it is asked whether both are buffers
pub data AreNoTemplates : Content → Content → Refusal → Type 0 where
  first_is_none : (a b : Content) → HoldsNoBuffer a → AreNoTemplates a b (refusal.Value WrongType)
  second_is_none : (s : List ℕ) (b : Content) → HoldsNoBuffer b → AreNoTemplates (Buffer s) b (refusal.Value WrongType)
  first_has_no_end : (s t : List ℕ) → HasNoEnd s → AreNoTemplates (Buffer s) (Buffer t) (refusal.Resource NoEnd)
  second_has_no_end : (s t : List ℕ) → (s ≡ []) ⊎ HasEndTag (items_of s) → HasNoEnd t → AreNoTemplates (Buffer s) (Buffer t) (refusal.Resource NoEnd)

-- ---- new objects

-- a value is a new object of a content, and the world has it
pub data IsNew {S : Type 0} (w : State S) : Content → Value → State S → Type 0 where
  new_string : (bytes : List ℕ) → IsNew w (String bytes) (value.String (length w.objects)) (with_object w (object.String bytes))
  new_buffer : (bytes : List ℕ) → IsNew w (Buffer bytes) (value.Buffer (length w.objects)) (with_object w (object.Buffer bytes))

-- ---- Mid

-- the source, the index and the length, and the target
abbrev pub middle : Tree → Tree → Tree → Part → Tree
middle x y z p = of_opcode opcodes.Mid (part (inner x) (part (inner y) (part (inner z) (part p no_parts))))

-- the part of some bytes from a place on, with so many bytes, or with those up to the end where these are fewer
pub record IsPart (start count : ℕ) (whole bytes : List ℕ) : Type 0 where
  pub front : List ℕ
  pub back : List ℕ
  pub is : front ++ bytes ++ back ≡ whole
  pub begins : length front ≡ min start (length whole)
  pub long : length bytes ≡ min count (length whole - start)

-- the operands of a Mid, one behind another, in the wide profile
pub record TakesPart {S : Type 0} (accesses : Accesses S) (scope : List Seg) (depth : ℕ) (x y z : Tree) (s : State S × ℕ) (v : Value) (start count : ℕ) (after : State S × ℕ) : Type 0 where
  pub wide : s.0.profile ≡ profiles.Wide
  pub u : Value
  pub r : Value
  pub behind : State S × ℕ
  pub operands : TwoValues accesses scope depth x y s v u behind
  pub third : GivesValue accesses scope depth z behind r after
  pub starts : integer_in u after.0 ≡ (Ok start, after.0)
  pub counts : integer_in r after.0 ≡ (Ok count, after.0)

-- what a part is taken of: the bytes of a string, of a buffer, or of an integer as a buffer, and what the part of them is
pub data HasBytes (width : IntegerWidth) : Content → List ℕ → (List ℕ → Content) → Type 0 where
  of_string : (s : List ℕ) → HasBytes width (String s) s String
  of_buffer : (s : List ℕ) → HasBytes width (Buffer s) s Buffer
  of_integer : (n : ℕ) (s : List ℕ) → to_buffer_of width (Integer n) ≡ Ok s → HasBytes width (Integer n) s Buffer

-- ---- ToString

-- a value, as the bytes of a buffer, and a value that converts to a number of bytes, in the wide profile
pub record TakesText {S : Type 0} (accesses : Accesses S) (scope : List Seg) (depth : ℕ) (x y : Tree) (s : State S × ℕ) (bytes : List ℕ) (count : ℕ) (after : State S × ℕ) : Type 0 where
  pub wide : s.0.profile ≡ profiles.Wide
  pub v : Value
  pub u : Value
  pub operands : TwoValues accesses scope depth x y s v u after
  pub source : to_buffer_of after.0.width (content_in after.0.objects v) ≡ Ok bytes
  pub counts : integer_in u after.0 ≡ (Ok count, after.0)

-- the bytes before the first that is 0, at most so many
pub record IsTextOf (count : ℕ) (bytes text : List ℕ) : Type 0 where
  pub back : List ℕ
  pub is : text ++ back ≡ bytes
  pub whole : (k : ℕ) → slice_get text k ≢ Some 0
  pub few : length text ≤ count
  pub ends : length text < count → (back ≡ []) ⊎ (slice_get back 0 ≡ Some 0)
