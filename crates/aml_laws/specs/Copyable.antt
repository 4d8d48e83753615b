-- Values that a copy answers, and how many objects it makes.
use Rattle.std.specs.Prelude.{◌≡◌, ◌≤◌, ◌+◌, ℕ, suc, List, [], ◌∷◌, length, Some, slice_get}
use Rattle.aml_path.specs.declared.segment.Seg.{Seg}
use Rattle.aml_path.specs.Paths.{Name}
use Rattle.aml_objects.specs.Objects.{Objects}
use Rattle.aml_objects.specs.declared.object.Element.{Element}
use Rattle.aml_objects.specs.declared.object.Element.TheVariants as element
use Rattle.aml_objects.specs.declared.object.Object.TheVariants as object
use Rattle.aml_objects.specs.declared.value.Value.{Value}
use Rattle.aml_objects.specs.declared.value.Value.TheVariants as value
use Rattle.aml_objects.specs.declared.value.Reference.{Reference}

mutual
  -- All objects of the value stand, its strings and buffers have at most 1,048,576 bytes, and its packages nest at most so deep. It has so
  -- many objects, one that is found twice counted twice.
  pub data IsCopyable (objects : Objects) : ℕ → ℕ → Value → Type 0 where
    nothing : (deep : ℕ) → IsCopyable objects deep 0 value.Uninitialized
    integer : (deep n : ℕ) → IsCopyable objects deep 0 (value.Integer n)
    reference : (deep : ℕ) (r : Reference) → IsCopyable objects deep 0 (value.Reference r)
    string : (deep o : ℕ) (bytes : List ℕ) → slice_get objects o ≡ Some (object.String bytes) → length bytes ≤ 1048576 → IsCopyable objects deep 1 (value.String o)
    buffer : (deep o : ℕ) (bytes : List ℕ) → slice_get objects o ≡ Some (object.Buffer bytes) → length bytes ≤ 1048576 → IsCopyable objects deep 1 (value.Buffer o)
    of_package : (deep count o : ℕ) (es : List Element) → slice_get objects o ≡ Some (object.Package es) → AreCopyable objects deep count es → IsCopyable objects (suc deep) (suc count) (value.Package o)

  pub data AreCopyable (objects : Objects) : ℕ → ℕ → List Element → Type 0 where
    no_elements : (deep : ℕ) → AreCopyable objects deep 0 []
    of_value : (deep count rest : ℕ) (v : Value) (es : List Element) → IsCopyable objects deep count v → AreCopyable objects deep rest es → AreCopyable objects deep (count + rest) (element.Value v ∷ es)
    of_name : (deep count : ℕ) (n : Name) (scope : List Seg) (es : List Element) → AreCopyable objects deep count es → AreCopyable objects deep count (element.Name n scope ∷ es)
