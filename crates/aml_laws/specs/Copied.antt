-- Values of which one is a copy of the other (ACPI 6.5, 19.6: CopyObject).
use Rattle.std.specs.Prelude.{◌≡◌, ◌≤◌, ℕ, List, [], ◌∷◌, Some, slice_get}
use Rattle.aml_path.specs.declared.segment.Seg.{Seg}
use Rattle.aml_path.specs.Paths.{Name}
use Rattle.aml_objects.specs.Objects.{Objects}
use Rattle.aml_objects.specs.declared.object.Element.{Element}
use Rattle.aml_objects.specs.declared.object.Element.TheVariants as element
use Rattle.aml_objects.specs.declared.object.Object.TheVariants as object
use Rattle.aml_objects.specs.declared.value.Value.{Value}
use Rattle.aml_objects.specs.declared.value.Value.TheVariants as value
use Rattle.aml_objects.specs.declared.value.Reference.{Reference}

mutual
  -- The second value holds the same integers, bytes and references as the first. Each of its objects is another one: it has a number from
  -- `first` on, which no earlier object has.
  pub data IsCopy (first : ℕ) (objects : Objects) : Value → Value → Type 0 where
    nothing : IsCopy first objects value.Uninitialized value.Uninitialized
    integer : (n : ℕ) → IsCopy first objects (value.Integer n) (value.Integer n)
    reference : (r : Reference) → IsCopy first objects (value.Reference r) (value.Reference r)
    string : (o p : ℕ) (bytes : List ℕ) → slice_get objects o ≡ Some (object.String bytes) → slice_get objects p ≡ Some (object.String bytes) → first ≤ p → IsCopy first objects (value.String o) (value.String p)
    buffer : (o p : ℕ) (bytes : List ℕ) → slice_get objects o ≡ Some (object.Buffer bytes) → slice_get objects p ≡ Some (object.Buffer bytes) → first ≤ p → IsCopy first objects (value.Buffer o) (value.Buffer p)
    of_package : (o p : ℕ) (es fs : List Element) → slice_get objects o ≡ Some (object.Package es) → slice_get objects p ≡ Some (object.Package fs) → first ≤ p → AreCopies first objects es fs → IsCopy first objects (value.Package o) (value.Package p)

  -- element by element; a name in a package stays the same name
  pub data AreCopies (first : ℕ) (objects : Objects) : List Element → List Element → Type 0 where
    no_elements : AreCopies first objects [] []
    copied_value : (v u : Value) (es fs : List Element) → IsCopy first objects v u → AreCopies first objects es fs → AreCopies first objects (element.Value v ∷ es) (element.Value u ∷ fs)
    same_name : (n : Name) (scope : List Seg) (es fs : List Element) → AreCopies first objects es fs → AreCopies first objects (element.Name n scope ∷ es) (element.Name n scope ∷ fs)

-- The object with a number stands in a value at a place: this counts, from the outermost package inwards, the elements that lead to it.
pub data StandsAt (objects : Objects) : List ℕ → ℕ → Value → Type 0 where
  a_string : (o : ℕ) → StandsAt objects [] o (value.String o)
  a_buffer : (o : ℕ) → StandsAt objects [] o (value.Buffer o)
  a_package : (o : ℕ) → StandsAt objects [] o (value.Package o)
  inside : (i : ℕ) (place : List ℕ) (o p : ℕ) (es : List Element) (v : Value) → slice_get objects p ≡ Some (object.Package es) → slice_get es i ≡ Some (element.Value v) → StandsAt objects place o v → StandsAt objects (i ∷ place) o (value.Package p)
