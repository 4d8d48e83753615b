-- Names that stand in packages, where they are used (ACPI 6.5, 19.6: DerefOf, Package).
use Rattle.std.specs.Prelude.{◌≡◌, ℕ, List, slice_get, Some, Ok, Err}
use Rattle.ar_space.specs.declared.refusal.Refusal.{Refusal}
use Rattle.aml_path.specs.declared.segment.Seg.{Seg}
use Rattle.aml_path.specs.Paths.{Name, resolved}
use Rattle.aml_objects.specs.declared.entry.Entry.{Entry}
use Rattle.aml_objects.specs.declared.entry.NamedObject.{NamedObject}
use Rattle.aml_objects.specs.declared.entry.NamedObject.TheVariants as named
use Rattle.aml_objects.specs.declared.object.Element.{Element}
use Rattle.aml_objects.specs.declared.object.Element.TheVariants as element
use Rattle.aml_objects.specs.declared.object.Object.TheVariants as object
use Rattle.aml_objects.specs.declared.value.Reference.{Reference}
use Rattle.aml_objects.specs.declared.value.Value.TheVariants as value
use Rattle.aml_namespace.specs.Search.{found}
use Rattle.aml_world.specs.state.Given.{Given, Nothing, Integer, Text, Bytes, Named}
use Rattle.aml_world.specs.state.State.{State}
use Rattle.aml_laws.specs.StoredParts.{HoldsNothing}

-- the element of a package at an index is a name, with the scope where the package was made
pub record HoldsName {S : Type 0} (w : State S) (o i : ℕ) (n : Name) (home : List Seg) : Type 0 where
  pub elements : List Element
  pub stands : slice_get w.objects o ≡ Some (object.Package elements)
  pub is : slice_get elements i ≡ Some (element.Name n home)

-- what a name stands for that is handed out as its path: it holds neither data nor the bits of a field
pub data IsHandedOutAsPath : NamedObject → Type 0 where
  holds_nothing : (o : NamedObject) → HoldsNothing o → IsHandedOutAsPath o
  a_reference : (r : Reference) → IsHandedOutAsPath (named.Data (value.Reference r))

-- what an object stands for that is handed out as the data that it holds
pub data IsHandedOutAs {S : Type 0} (w : State S) : NamedObject → Given → Type 0 where
  nothing : IsHandedOutAs w (named.Data value.Uninitialized) Nothing
  an_integer : (k : ℕ) → IsHandedOutAs w (named.Data (value.Integer k)) (Integer k)
  a_string : (o : ℕ) (text : List ℕ) → slice_get w.objects o ≡ Some (object.String text) → IsHandedOutAs w (named.Data (value.String o)) (Text text)
  a_buffer : (o : ℕ) (bytes : List ℕ) → slice_get w.objects o ≡ Some (object.Buffer bytes) → IsHandedOutAs w (named.Data (value.Buffer o)) (Bytes bytes)

-- a name in a package is handed out as the data that it finds, and else as the path where it stands; where nothing is
-- found, as the path that it would have
pub data NameIsHandedOut {S : Type 0} (w : State S) (n : Name) (home : List Seg) : Given → Type 0 where
  as_data : (path : List Seg) (e : Entry) (g : Given) → found w.names.map home n ≡ Ok (path, e) → IsHandedOutAs w e.object g → NameIsHandedOut w n home g
  as_path : (path : List Seg) (e : Entry) → found w.names.map home n ≡ Ok (path, e) → IsHandedOutAsPath e.object → NameIsHandedOut w n home (Named path)
  as_missing : (path : List Seg) (e : Refusal) → found w.names.map home n ≡ Err e → resolved n home ≡ Ok path → NameIsHandedOut w n home (Named path)
