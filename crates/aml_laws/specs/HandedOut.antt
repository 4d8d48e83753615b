-- What an answer hands out of a value, of its elements, and of what the names among these find (ACPI 6.5, 19.6:
-- Package).
use Rattle.std.specs.Prelude.{◌≡◌, ◌≢◌, ◌<◌, ◌≤◌, ℕ, suc, List, [], ◌∷◌, take, slice_get, Some, None, Ok, Err}
use Rattle.std.specs.FinMap.{get}
use Rattle.ar_space.specs.Accesses.{Accesses}
use Rattle.ar_space.specs.declared.refusal.Refusal.{Refusal}
use Rattle.ar_space.specs.declared.refusal.Refusal.TheVariants as refusal
use Rattle.ar_space.specs.declared.refusal.EvaluationFault.TheVariants.{ObjectLimit, OutOfSteps}
use Rattle.aml_path.specs.declared.segment.Seg.{Seg}
use Rattle.aml_path.specs.Paths.{Name, resolved}
use Rattle.aml_objects.specs.declared.entry.Entry.{Entry}
use Rattle.aml_objects.specs.declared.entry.Field.{Field}
use Rattle.aml_objects.specs.declared.entry.NamedObject.TheVariants as named
use Rattle.aml_objects.specs.declared.object.Element.{Element}
use Rattle.aml_objects.specs.declared.object.Element.TheVariants as element
use Rattle.aml_objects.specs.declared.object.Object.TheVariants as object
use Rattle.aml_objects.specs.declared.value.Reference.{Reference}
use Rattle.aml_objects.specs.declared.value.Reference.TheVariants as reference
use Rattle.aml_objects.specs.declared.value.Slot.{Slot}
use Rattle.aml_objects.specs.declared.value.Value.{Value}
use Rattle.aml_objects.specs.declared.value.Value.TheVariants as value
use Rattle.aml_convert.specs.Integers.{bits_of, bytes_of}
use Rattle.aml_namespace.specs.Namespace.{numbered}
use Rattle.aml_namespace.specs.Numbering.{Numbered}
use Rattle.aml_namespace.specs.Search.{found}
use Rattle.aml_world.specs.state.Given as given
use Rattle.aml_world.specs.state.State.{State}
use Rattle.aml_laws.specs.FieldNames.{NamesField, bits_read_at}
use Rattle.aml_laws.specs.IntegersOfValues.{lowest_first}
use Rattle.aml_laws.specs.NamesInPackages.{IsHandedOutAsPath}

-- a reference that has no path: to a declaration that is gone, to a slot, to an element and to a byte
pub data HasNoPath {S : Type 0} (w : State S) : Reference → Type 0 where
  gone : (n : ℕ) → numbered n w.names.map ≡ None → HasNoPath w (reference.Name n)
  a_slot : (s : Slot) (n : ℕ) → HasNoPath w (reference.Slot s n)
  an_element : (o i : ℕ) → HasNoPath w (reference.Element o i)
  a_byte : (o i : ℕ) → HasNoPath w (reference.Byte o i)

module _ {S : Type 0} (accesses : Accesses S) where
  mutual
    -- a value whose packages nest at most so deep: a package element by element, a reference to a declaration as its
    -- path, and any other without one
    pub data IsHandedOut : ℕ → Value → State S × ℕ → given.Given → State S × ℕ → Type 0 where
      nothing : (deep : ℕ) (s : State S × ℕ) → IsHandedOut deep value.Uninitialized s given.Nothing s
      an_integer : (deep k : ℕ) (s : State S × ℕ) → IsHandedOut deep (value.Integer k) s (given.Integer k) s
      a_string : (deep o : ℕ) (text : List ℕ) (s : State S × ℕ) → slice_get s.0.objects o ≡ Some (object.String text) → IsHandedOut deep (value.String o) s (given.Text text) s
      a_buffer : (deep o : ℕ) (bytes : List ℕ) (s : State S × ℕ) → slice_get s.0.objects o ≡ Some (object.Buffer bytes) → IsHandedOut deep (value.Buffer o) s (given.Bytes bytes) s
      a_package : (deep o : ℕ) (es : List Element) (s : State S × ℕ) (gs : List given.Given) (end : State S × ℕ) → slice_get s.0.objects o ≡ Some (object.Package es) → AreHandedOut deep es s gs end
          → IsHandedOut (suc deep) (value.Package o) s (given.Package (given.givens gs)) end
      a_path : (deep : ℕ) (path : List Seg) (e : Entry) (s : State S × ℕ) → Numbered s.0.names → get s.0.names.map path ≡ Some e → IsHandedOut deep (value.Reference (reference.Name e.number)) s (given.Named path) s
      no_path : (deep : ℕ) (r : Reference) (s : State S × ℕ) → HasNoPath s.0 r → IsHandedOut deep (value.Reference r) s given.Reference s

    -- elements from the first on, each of which costs a step
    pub data AreHandedOut : ℕ → List Element → State S × ℕ → List given.Given → State S × ℕ → Type 0 where
      no_elements : (deep : ℕ) (s : State S × ℕ) → AreHandedOut deep [] s [] s
      one_more : (deep : ℕ) (e : Element) (es : List Element) (w : State S) (steps : ℕ) (g : given.Given) (gs : List given.Given) (between end : State S × ℕ) → HandsOut deep e (w, steps) g between → AreHandedOut deep es between gs end
          → AreHandedOut deep (e ∷ es) (w, suc steps) (g ∷ gs) end

    -- An element is its value. One that is a name is searched for from the scope where the package was made: it is
    -- the data that it finds, also a package with all its elements; of a field its bits, which are an integer where
    -- they are no more than an integer has, and else bytes; and else the path of what it finds, or the one that it
    -- would have.
    pub data HandsOut : ℕ → Element → State S × ℕ → given.Given → State S × ℕ → Type 0 where
      a_value : (deep : ℕ) (v : Value) (s : State S × ℕ) (g : given.Given) (end : State S × ℕ) → IsHandedOut deep v s g end → HandsOut deep (element.Value v) s g end
      its_data : (deep : ℕ) (n : Name) (home : List Seg) (s : State S × ℕ) (path : List Seg) (e : Entry) (v : Value) (g : given.Given) (end : State S × ℕ) → found s.0.names.map home n ≡ Ok (path, e) → e.object ≡ named.Data v
          → ((r : Reference) → v ≢ value.Reference r) → IsHandedOut deep v s g end → HandsOut deep (element.Name n home) s g end
      its_integer : (deep : ℕ) (n : Name) (home : List Seg) (s : State S × ℕ) (f : Field) (bits b : ℕ) (bytes : List ℕ) (end : State S × ℕ) → NamesField s.0 home n f bits → bits_read_at accesses 1 f s ≡ (Ok (b ∷ bytes), end) → bits ≤ bits_of end.0.width
          → HandsOut deep (element.Name n home) s (given.Integer (lowest_first (take (bytes_of end.0.width) (b ∷ bytes)))) end
      its_bytes : (deep : ℕ) (n : Name) (home : List Seg) (s : State S × ℕ) (f : Field) (bits : ℕ) (bytes : List ℕ) (end : State S × ℕ) → NamesField s.0 home n f bits → bits_read_at accesses 1 f s ≡ (Ok bytes, end) → bits_of end.0.width < bits
          → HandsOut deep (element.Name n home) s (given.Bytes bytes) end
      its_path : (deep : ℕ) (n : Name) (home : List Seg) (s : State S × ℕ) (path : List Seg) (e : Entry) → found s.0.names.map home n ≡ Ok (path, e) → IsHandedOutAsPath e.object → HandsOut deep (element.Name n home) s (given.Named path) s
      path_it_would_have : (deep : ℕ) (n : Name) (home : List Seg) (s : State S × ℕ) (path : List Seg) (x : Refusal) → found s.0.names.map home n ≡ Err x → resolved n home ≡ Ok path → HandsOut deep (element.Name n home) s (given.Named path) s

  -- ---- what isn't handed out

  mutual
    -- a package below the last level, and one with an element that isn't handed out
    pub data IsKeptBack : ℕ → Value → State S × ℕ → Refusal → State S × ℕ → Type 0 where
      too_deep : (o : ℕ) (s : State S × ℕ) → IsKeptBack 0 (value.Package o) s (refusal.Evaluation ObjectLimit) s
      in_package : (deep o : ℕ) (es : List Element) (s : State S × ℕ) (x : Refusal) (end : State S × ℕ) → slice_get s.0.objects o ≡ Some (object.Package es) → AreKeptBack deep es s x end → IsKeptBack (suc deep) (value.Package o) s x end

    -- no step is left for an element; the first one isn't handed out; or one behind it isn't
    pub data AreKeptBack : ℕ → List Element → State S × ℕ → Refusal → State S × ℕ → Type 0 where
      no_step : (deep : ℕ) (e : Element) (es : List Element) (w : State S) → AreKeptBack deep (e ∷ es) (w, 0) (refusal.Evaluation OutOfSteps) (w, 0)
      the_first : (deep : ℕ) (e : Element) (es : List Element) (w : State S) (steps : ℕ) (x : Refusal) (end : State S × ℕ) → KeepsBack deep e (w, steps) x end → AreKeptBack deep (e ∷ es) (w, suc steps) x end
      a_later_one : (deep : ℕ) (e : Element) (es : List Element) (w : State S) (steps : ℕ) (g : given.Given) (between : State S × ℕ) (x : Refusal) (end : State S × ℕ) → HandsOut deep e (w, steps) g between → AreKeptBack deep es between x end
          → AreKeptBack deep (e ∷ es) (w, suc steps) x end

    -- an element's value isn't handed out, nor the data that its name finds; the field that it finds can't be read;
    -- or its name finds nothing and has no path
    pub data KeepsBack : ℕ → Element → State S × ℕ → Refusal → State S × ℕ → Type 0 where
      kept_value : (deep : ℕ) (v : Value) (s : State S × ℕ) (x : Refusal) (end : State S × ℕ) → IsKeptBack deep v s x end → KeepsBack deep (element.Value v) s x end
      kept_data : (deep : ℕ) (n : Name) (home : List Seg) (s : State S × ℕ) (path : List Seg) (e : Entry) (v : Value) (x : Refusal) (end : State S × ℕ) → found s.0.names.map home n ≡ Ok (path, e) → e.object ≡ named.Data v
          → ((r : Reference) → v ≢ value.Reference r) → IsKeptBack deep v s x end → KeepsBack deep (element.Name n home) s x end
      kept_field : (deep : ℕ) (n : Name) (home : List Seg) (s : State S × ℕ) (f : Field) (bits : ℕ) (x : Refusal) (end : State S × ℕ) → NamesField s.0 home n f bits → bits_read_at accesses 1 f s ≡ (Err x, end) → KeepsBack deep (element.Name n home) s x end
      kept_name : (deep : ℕ) (n : Name) (home : List Seg) (s : State S × ℕ) (x y : Refusal) → found s.0.names.map home n ≡ Err x → resolved n home ≡ Err y → KeepsBack deep (element.Name n home) s y s
