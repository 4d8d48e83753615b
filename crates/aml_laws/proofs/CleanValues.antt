-- Paths, conversions, operators and units of fields answer with no fault of the register space.
use Rattle.std.specs.Prelude.{Bool, List, None, Option, Some, [], false, length, nat_lt, refl, true, ℕ, ◌+◌, ◌==◌, ◌∷◌, ◌≡◌}
use Rattle.ar_space.specs.Accesses.{byte_count}
use Rattle.ar_space.specs.declared.integer_width.IntegerWidth.{IntegerWidth}
use Rattle.ar_space.specs.declared.space.Place.{Place}
use Rattle.ar_space.specs.declared.space.Width.{Width}
use Rattle.aml_path.specs.Characters.{is_segment}
use Rattle.aml_path.specs.Paths.{Name, from_prefix, is_null, resolved}
use Rattle.aml_path.specs.Segments.{seg_of, tested}
use Rattle.aml_path.proofs.Segments.{segments}
use Rattle.aml_path.specs.declared.name.Prefix.TheVariants.{Parents, Root}
use Rattle.aml_path.specs.declared.name.Prefix.{Prefix}
use Rattle.aml_path.specs.declared.segment.Seg.{Seg}
use Rattle.aml_objects.specs.Contents.{Buffer, Content, Integer, Other, String}
use Rattle.aml_convert.specs.Concatenation.{before_end, buffer_bytes, concatenated, front_of, resources_joined}
use Rattle.aml_convert.specs.Conversions.{compared, explicit_integer_of, integer_in_buffer, integer_in_string, numeral, to_buffer_of, to_integer_of, to_text_of}
use Rattle.aml_convert.specs.Operators.{divided, remainder, result_of}
use Rattle.aml_convert.specs.declared.operators.BinaryOperator.TheVariants.{Mod}
use Rattle.aml_convert.specs.declared.operators.BinaryOperator.{BinaryOperator}
use Rattle.aml_fields.specs.Regions.{or_limit, place_in, unit_place}
use Rattle.aml_fields.specs.declared.region.Region.{Region}
use Rattle.aml_laws.proofs.CleanOutcomes.{Clean, followed_clean, if_clean}

-- ---- paths

tested_clean : (bs : List ℕ) (b : Bool) (is : is_segment bs ≡ b) → Clean (tested bs b is)
tested_clean bs true is = tt
tested_clean bs false is = tt

pub seg_of_clean : (bs : List ℕ) → Clean (seg_of bs)
unfolding seg_of
seg_of_clean bs = tested_clean bs (is_segment bs) refl

pub from_prefix_clean : (before : Prefix) (segments scope : List Seg) → Clean (from_prefix before segments scope)
from_prefix_clean Root segments scope = tt
from_prefix_clean (Parents count) segments scope = if_clean (nat_lt (length scope) count) _ _ tt tt

pub resolved_clean : (n : Name) (scope : List Seg) → Clean (resolved n scope)
unfolding resolved
resolved_clean n scope = if_clean (is_null n) _ _ tt (from_prefix_clean n.prefix n.segments scope)

-- ---- integers, strings and buffers

pub integer_in_string_clean : (w : IntegerWidth) (bs : List ℕ) → Clean (integer_in_string w bs)
integer_in_string_clean w [] = tt
integer_in_string_clean w (c ∷ cs) = tt

pub integer_in_buffer_clean : (w : IntegerWidth) (bs : List ℕ) → Clean (integer_in_buffer w bs)
integer_in_buffer_clean w [] = tt
integer_in_buffer_clean w (b ∷ bs) = tt

pub to_integer_of_clean : (w : IntegerWidth) (c : Content) → Clean (to_integer_of w c)
to_integer_of_clean w (Integer n) = tt
to_integer_of_clean w (String s) = integer_in_string_clean w s
to_integer_of_clean w (Buffer b) = integer_in_buffer_clean w b
to_integer_of_clean w Other = tt

pub numeral_clean : (w : IntegerWidth) (bs : List ℕ) → Clean (numeral w bs)
numeral_clean w [] = tt
numeral_clean w (c ∷ []) = tt
numeral_clean w (c ∷ d ∷ cs) = tt

pub explicit_integer_of_clean : (w : IntegerWidth) (c : Content) → Clean (explicit_integer_of w c)
explicit_integer_of_clean w (Integer n) = tt
explicit_integer_of_clean w (String s) = numeral_clean w s
explicit_integer_of_clean w (Buffer b) = integer_in_buffer_clean w b
explicit_integer_of_clean w Other = tt

pub to_text_of_clean : (w : IntegerWidth) (c : Content) → Clean (to_text_of w c)
to_text_of_clean w (Integer n) = tt
to_text_of_clean w _ = tt

pub to_buffer_of_clean : (w : IntegerWidth) (c : Content) → Clean (to_buffer_of w c)
to_buffer_of_clean w (Integer n) = tt
to_buffer_of_clean w _ = tt

pub compared_clean : (w : IntegerWidth) (c b : Content) → Clean (compared w c b)
unfolding compared
compared_clean w (Integer n) b = followed_clean _ _ (to_integer_of_clean w b) (λ m. tt)
compared_clean w (String s) b = followed_clean _ _ (to_text_of_clean w b) (λ t. tt)
compared_clean w (Buffer s) b = followed_clean _ _ (to_buffer_of_clean w b) (λ t. tt)
compared_clean w Other b = tt

pub concatenated_clean : (w : IntegerWidth) (c b : Content) → Clean (concatenated w c b)
unfolding concatenated
concatenated_clean w (Integer n) b = followed_clean _ _ (to_integer_of_clean w b) (λ m. tt)
concatenated_clean w (String s) b = followed_clean _ _ (to_text_of_clean w b) (λ t. tt)
concatenated_clean w (Buffer s) b = followed_clean _ _ (to_buffer_of_clean w b) (λ t. tt)
concatenated_clean w Other b = tt

pub front_of_clean : (bytes : List ℕ) (o : Option ℕ) → Clean (front_of bytes o)
front_of_clean bytes None = tt
front_of_clean bytes (Some n) = tt

pub before_end_clean : (bs : List ℕ) → Clean (before_end bs)
before_end_clean [] = tt
before_end_clean (b ∷ bs) = front_of_clean (b ∷ bs) _

pub buffer_bytes_clean : (c : Content) → Clean (buffer_bytes c)
buffer_bytes_clean (Integer n) = tt
buffer_bytes_clean _ = tt

pub resources_joined_clean : (a b : Content) → Clean (resources_joined a b)
unfolding resources_joined
resources_joined_clean a b = followed_clean _ _ (buffer_bytes_clean a) (λ s. followed_clean _ _ (buffer_bytes_clean b) (λ t. followed_clean _ _ (before_end_clean s) (λ front. followed_clean _ _ (before_end_clean t) (λ back. tt))))

pub remainder_clean : (x y : ℕ) → Clean (remainder x y)
remainder_clean x y = if_clean (y == 0) _ _ tt tt

pub result_of_clean : (op : BinaryOperator) (w : IntegerWidth) (x y : ℕ) → Clean (result_of op w x y)
result_of_clean Mod w x y = remainder_clean x y
result_of_clean _ w x y = tt

pub divided_clean : (x y : ℕ) → Clean (divided x y)
divided_clean x y = if_clean (y == 0) _ _ tt tt

-- ---- units of fields

pub or_limit_clean : (o : Option Place) → Clean (or_limit o)
or_limit_clean None = tt
or_limit_clean (Some p) = tt

pub unit_place_clean : (r : Region) (w : Width) (offset : ℕ) → Clean (unit_place r w offset)
unfolding unit_place
unit_place_clean r w offset = if_clean (nat_lt r.length (offset + byte_count w)) _ _ tt (or_limit_clean (place_in r.space (r.offset + offset)))
