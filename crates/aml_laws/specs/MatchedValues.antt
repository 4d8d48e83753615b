-- A Match term over a package of any values and names (ACPI 6.5, 19.6: Match).
use Rattle.std.specs.Prelude.{◌≡◌, ◌≢◌, ◌⊎◌, ◌<◌, ◌≤◌, ◌∷◌, ℕ, suc, List, length, take, slice_get, Some, Ok, Err}
use Rattle.std.specs.declared.cmp.Ordering.{Ordering}
use Rattle.std.specs.declared.cmp.Ordering.TheVariants.{Less, Equal, Greater}
use Rattle.ar_space.specs.Accesses.{Accesses}
use Rattle.ar_space.specs.declared.integer_width.IntegerWidth.{IntegerWidth}
use Rattle.ar_space.specs.declared.refusal.Refusal.{Refusal}
use Rattle.ar_space.specs.declared.refusal.Refusal.TheVariants as refusal
use Rattle.ar_space.specs.declared.refusal.EvaluationFault.TheVariants.{ObjectLimit}
use Rattle.ar_space.specs.declared.refusal.NamespaceFault.TheVariants.{NotFound}
use Rattle.aml_path.specs.declared.segment.Seg.{Seg}
use Rattle.aml_path.specs.Paths.{Name}
use Rattle.aml_grammar.specs.Tree.{Tree}
use Rattle.aml_objects.specs.Contents.{Content, Integer, Buffer, Other, content_in}
use Rattle.aml_objects.specs.declared.entry.Entry.{Entry}
use Rattle.aml_objects.specs.declared.entry.Field.{Field}
use Rattle.aml_objects.specs.declared.object.Element.{Element}
use Rattle.aml_objects.specs.declared.object.Element.TheVariants as element
use Rattle.aml_objects.specs.declared.object.Object.TheVariants as object
use Rattle.aml_objects.specs.declared.value.Value.{Value}
use Rattle.aml_objects.specs.declared.value.Value.TheVariants as value
use Rattle.aml_convert.specs.Conversions.{compared}
use Rattle.aml_convert.specs.Integers.{bits_of, bytes_of}
use Rattle.aml_convert.specs.declared.matching.MatchOperator.{MatchOperator}
use Rattle.aml_convert.specs.declared.matching.MatchOperator.TheVariants as operators
use Rattle.aml_namespace.specs.Search.{found}
use Rattle.aml_world.specs.state.State.{State}
use Rattle.aml_world.specs.state.Readings.{integer_in}
use Rattle.aml_laws.specs.FieldNames.{NamesField, bits_read_at}
use Rattle.aml_laws.specs.IntegersOfValues.{lowest_first}
use Rattle.aml_laws.specs.JoinedTerms.{with_object, Fits}
use Rattle.aml_laws.specs.MatchedTerms.{GivesOperands, HoldsNone}
use Rattle.aml_laws.specs.StoredNames.{data_entry}
use Rattle.aml_laws.specs.StoredParts.{HoldsNothing}

-- ---- tests

-- the orders of the object and an element that an operator asks for, whose left side is the element
pub data AsksOrder : MatchOperator → Ordering → Type 0 where
  meq_if_equal : AsksOrder operators.Equal Equal
  mle_if_equal : AsksOrder operators.LessOrEqual Equal
  mle_if_greater : AsksOrder operators.LessOrEqual Greater
  mlt_if_greater : AsksOrder operators.Less Greater
  mge_if_equal : AsksOrder operators.GreaterOrEqual Equal
  mge_if_less : AsksOrder operators.GreaterOrEqual Less
  mgt_if_less : AsksOrder operators.Greater Less

-- What an element holds meets a test: MTR in any case, and each other one where the object and the element, which is
-- converted to the type of the object, are in an order that it asks for.
pub data MeetsTest (width : IntegerWidth) (o e : Content) : MatchOperator → Type 0 where
  by_mtr : MeetsTest width o e operators.Always
  by_order : (k : MatchOperator) (order : Ordering) → compared width o e ≡ Ok order → AsksOrder k order → MeetsTest width o e k

-- both tests, with the objects of these values
abbrev pub MeetsTests : {S : Type 0} → State S → MatchOperator → MatchOperator → Value → Value → Content → Type 0
MeetsTests w k l u v e = MeetsTest w.width (content_in w.objects u) e k × MeetsTest w.width (content_in w.objects v) e l

-- ---- elements

-- An element holds a content, and looking at it leaves another world and other steps. It is a value, or a name that
-- finds a value, a field, which is read then, or an object that holds neither; the name is searched for from the
-- scope that stands beside it.
pub data ElementHolds {S : Type 0} (accesses : Accesses S) (depth : ℕ) (s : State S × ℕ) : Element → Content → State S × ℕ → Type 0 where
  a_value : (v : Value) → v ≢ value.Uninitialized → ElementHolds accesses depth s (element.Value v) (content_in s.0.objects v) s
  a_named_value : (n : Name) (home path : List Seg) (number : ℕ) (v : Value) → found s.0.names.map home n ≡ Ok (path, data_entry number v) → v ≢ value.Uninitialized → ElementHolds accesses depth s (element.Name n home) (content_in s.0.objects v) s
  a_named_object : (n : Name) (home path : List Seg) (e : Entry) → found s.0.names.map home n ≡ Ok (path, e) → HoldsNothing e.object → ElementHolds accesses depth s (element.Name n home) Other s
  few_bits : (n : Name) (home : List Seg) (f : Field) (bits b : ℕ) (bytes : List ℕ) (after : State S × ℕ) → NamesField s.0 home n f bits → bits_read_at accesses depth f s ≡ (Ok (b ∷ bytes), after) → bits ≤ bits_of after.0.width
      → ElementHolds accesses depth s (element.Name n home) (Integer (lowest_first (take (bytes_of after.0.width) (b ∷ bytes)))) after
  many_bits : (n : Name) (home : List Seg) (f : Field) (bits : ℕ) (bytes : List ℕ) (after : State S × ℕ) → NamesField s.0 home n f bits → bits_read_at accesses depth f s ≡ (Ok bytes, after) → bits_of after.0.width < bits → Fits after.0 bytes
      → ElementHolds accesses depth s (element.Name n home) (Buffer bytes) (with_object after.0 (object.Buffer bytes), after.1)

-- bytes don't become a buffer: there are too many, or there is no room for an object
abbrev pub Exceeds : {S : Type 0} → State S → List ℕ → Type 0
Exceeds w bytes = (1048576 < length bytes) ⊎ (262144 ≤ length w.objects)

-- An element can't be looked at: its search is refused, unless nothing is found; the field that it names can't be
-- read; or the field has more bits than an integer, and there is no room for them.
pub data ElementRefuses {S : Type 0} (accesses : Accesses S) (depth : ℕ) (s : State S × ℕ) : Element → Refusal → State S × ℕ → Type 0 where
  unsearched : (n : Name) (home : List Seg) (x : Refusal) → found s.0.names.map home n ≡ Err x → x ≢ refusal.Namespace NotFound → ElementRefuses accesses depth s (element.Name n home) x s
  unread : (n : Name) (home : List Seg) (f : Field) (bits : ℕ) (x : Refusal) (after : State S × ℕ) → NamesField s.0 home n f bits → bits_read_at accesses depth f s ≡ (Err x, after) → ElementRefuses accesses depth s (element.Name n home) x after
  no_room : (n : Name) (home : List Seg) (f : Field) (bits : ℕ) (bytes : List ℕ) (after : State S × ℕ) → NamesField s.0 home n f bits → bits_read_at accesses depth f s ≡ (Ok bytes, after) → bits_of after.0.width < bits → Exceeds after.0 bytes
      → ElementRefuses accesses depth s (element.Name n home) (refusal.Evaluation ObjectLimit) after

-- a package has an element at an index
pub record ElementStands {S : Type 0} (w : State S) (source i : ℕ) (e : Element) : Type 0 where
  pub elements : List Element
  pub holds : slice_get w.objects source ≡ Some (object.Package elements)
  pub stands : slice_get elements i ≡ Some e

-- an element is passed over: it holds nothing, or it doesn't meet both tests
pub data IsPassed {S : Type 0} (accesses : Accesses S) (depth : ℕ) (k l : MatchOperator) (u v : Value) (s : State S × ℕ) (e : Element) : State S × ℕ → Type 0 where
  holds_nothing : HoldsNone s.0 e → IsPassed accesses depth k l u v s e s
  unmet : (c : Content) (after : State S × ℕ) → ElementHolds accesses depth s e c after → (MeetsTests after.0 k l u v c → ⊥) → IsPassed accesses depth k l u v s e after

-- the elements from an index up to another one are passed over, one after another
pub data ArePassed {S : Type 0} (accesses : Accesses S) (depth : ℕ) (k l : MatchOperator) (u v : Value) (source : ℕ) : ℕ → State S × ℕ → ℕ → State S × ℕ → Type 0 where
  no_more : (i : ℕ) (s : State S × ℕ) → ArePassed accesses depth k l u v source i s i s
  one_more : (i j : ℕ) (s between after : State S × ℕ) (e : Element) → ElementStands s.0 source i e → IsPassed accesses depth k l u v s e between → ArePassed accesses depth k l u v source (suc i) between j after → ArePassed accesses depth k l u v source i s j after

-- ---- operands

-- what elements are compared with
pub data IsCompared : Value → Type 0 where
  an_integer : (n : ℕ) → IsCompared (value.Integer n)
  a_string : (o : ℕ) → IsCompared (value.String o)
  a_buffer : (o : ℕ) → IsCompared (value.Buffer o)

-- the operands give a package of so many elements, two values that elements are compared with, and a value that
-- converts to the index
pub record Searches {S : Type 0} (accesses : Accesses S) (scope : List Seg) (depth : ℕ) (p x y i : Tree) (s : State S × ℕ) (source count : ℕ) (u v : Value) (start : ℕ) (after : State S × ℕ) : Type 0 where
  pub t : Value
  pub operands : GivesOperands accesses scope depth p x y i s (value.Package source) u v t after
  pub elements : List Element
  pub holds : slice_get after.0.objects source ≡ Some (object.Package elements)
  pub counts : length elements ≡ count
  pub first : IsCompared u
  pub second : IsCompared v
  pub converts : integer_in t after.0 ≡ (Ok start, after.0)
