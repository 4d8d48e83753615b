-- The predefined control method \_OSI: which texts the machine says it knows (ACPI 6.5, 5.7.2).
use Rattle.std.specs.Prelude.{ℕ, List, Bool, Ok, Err, slice_index_or}
use Rattle.std.specs.List.{list_any}
use Rattle.std.specs.Ordering.{is_eq, nat_cmp}
use Rattle.std.specs.Cmp.Lexicographic.{slice_cmp}
use Rattle.ar_space.specs.declared.integer_width.IntegerWidth.{IntegerWidth}
use Rattle.ar_space.specs.declared.refusal.Refusal.TheVariants as refusal
use Rattle.ar_space.specs.declared.refusal.ValueFault.TheVariants.{WrongType}
use Rattle.ar_space.specs.Outcome.{Outcome}
use Rattle.ar_space.specs.Change.{Change}
use Rattle.aml_objects.specs.Contents.{Content, Integer, String, Buffer, Other, content_in}
use Rattle.aml_objects.specs.declared.value.Value.{Value}
use Rattle.aml_objects.specs.declared.value.Value.TheVariants as value
use Rattle.aml_convert.specs.Integers.{truth}
use Rattle.aml_world.specs.state.State.{State}

abbrev pub same_text : List ℕ → List ℕ → Bool
same_text a b = is_eq (slice_cmp nat_cmp a b)

-- whether a text is among those that are known
abbrev pub is_known : List (List ℕ) → List ℕ → Bool
is_known texts text = list_any (λ t. same_text t text) texts

-- what it answers of what its argument holds: True or False of a string
abbrev pub osi_answer : IntegerWidth → List (List ℕ) → Content → Outcome Value
osi_answer width texts (String text) = Ok (value.Integer (truth width (is_known texts text)))
osi_answer width texts (Integer n) = Err (refusal.Value WrongType)
osi_answer width texts (Buffer bytes) = Err (refusal.Value WrongType)
osi_answer width texts Other = Err (refusal.Value WrongType)

-- what it answers to these arguments, of which the first counts
unfoldable pub osi_answered : {S : Type 0} → List Value → Change (State S) Value
osi_answered arguments w = (osi_answer w.width w.osi (content_in w.objects (slice_index_or arguments 0 value.Uninitialized)), w)
