-- That every frame is open and integers are below two to the width is claimed of a world just where `AllWithin` holds of it.
use Rattle.std.specs.Prelude.{ℕ, List, [], ◌∷◌}
use Rattle.ar_space.specs.declared.integer_width.IntegerWidth.{IntegerWidth}
use Rattle.aml_objects.specs.declared.value.Reference.{Reference}
use Rattle.aml_objects.specs.declared.value.Reference.TheVariants as reference
use Rattle.aml_objects.specs.declared.value.Slot.TheVariants.{Local, Argument}
use Rattle.aml_objects.specs.declared.value.Value.{Value}
use Rattle.aml_objects.specs.declared.value.Value.TheVariants as value
use Rattle.aml_objects.specs.declared.object.Element.{Element}
use Rattle.aml_objects.specs.declared.object.Element.TheVariants as element
use Rattle.aml_objects.specs.declared.object.Object.{Object}
use Rattle.aml_objects.specs.declared.object.Object.TheVariants as object
use Rattle.aml_objects.specs.declared.entry.MethodBody.{MethodBody}
use Rattle.aml_objects.specs.declared.entry.MethodBody.TheVariants.{Osi, Aml}
use Rattle.aml_objects.specs.declared.entry.NamedObject.{NamedObject}
use Rattle.aml_objects.specs.declared.entry.NamedObject.TheVariants as named
use Rattle.aml_world.specs.declared.state.frame.Frame.{Frame}
use Rattle.aml_world.specs.state.State.{State}
use Rattle.aml_laws.specs.Within.{WithinWidth}
use Rattle.aml_laws.specs.AllWithin.{Each, AllWithin}
use Rattle.aml_laws.specs.AllWithin as within
use Rattle.aml_laws.specs.Numbers.{numbers_of}
use Rattle.aml_laws.proofs.Claims.{Claim, integers_within, ReferenceFits, ValueFits, ElementFits, ObjectFits, BodyFits, NamedFits, SlotsFit, FrameFits, LastOpen, WorldFits}
use Rattle.std.proofs.Common.{arith, subst}
use Rattle.aml_laws.proofs.Invariants.{each_map, each_at, each_from, index_fits, index_is}

module _ (width : IntegerWidth) where
  abbrev K : Claim
  K = integers_within width

  -- ---- where integers are below two to the width, it is claimed

  value_claimed : (v : Value) → WithinWidth width v → ValueFits K v
  value_claimed value.Uninitialized h = tt
  value_claimed (value.Integer n) h = λ m. h
  value_claimed (value.String o) h = tt
  value_claimed (value.Buffer o) h = tt
  value_claimed (value.Package o) h = tt
  value_claimed (value.Reference r) h = any_reference r
    where
      any_reference : (r : Reference) → ReferenceFits K r
      any_reference (reference.Name n) = tt
      any_reference (reference.Slot slot n) = tt
      any_reference (reference.Element o i) = tt
      any_reference (reference.Byte o i) = tt

  pub values_claimed : (vs : List Value) → Each (WithinWidth width) vs → Each (ValueFits K) vs
  values_claimed vs h = each_map value_claimed vs h

  element_claimed : (e : Element) → within.ElementFits width e → ElementFits K e
  element_claimed (element.Value v) h = value_claimed v h
  element_claimed (element.Name n scope) h = tt

  object_claimed : (n : ℕ) (o : Object) → within.ObjectFits width o → ObjectFits K n o
  object_claimed n (object.String bs) h = λ m. h
  object_claimed n (object.Buffer bs) h = λ m. h
  object_claimed n (object.Package es) h = (λ seen. each_map element_claimed es h.0, λ m. h.1)

  body_claimed : (body : MethodBody) → within.BodyFits body → BodyFits K body
  body_claimed Osi h = tt
  body_claimed (Aml bs) h = λ m. h

  named_claimed : (o : NamedObject) → within.NamedFits width o → NamedFits K o
  named_claimed (named.Data v) h = value_claimed v h
  named_claimed (named.FieldUnit u) h = λ m. h
  named_claimed (named.BufferField b) h = (λ m. h, tt)
  named_claimed (named.Method method) h = body_claimed method.body h
  named_claimed _ h = tt

  slot_claimed : (f : Frame) → within.FrameFits width f → SlotsFit K f
  slot_claimed f h (Local i) is_open = index_fits (ValueFits K) f.locals i value.Uninitialized (values_claimed f.locals h.0) tt
  slot_claimed f h (Argument i) is_open = index_fits (ValueFits K) f.arguments i value.Uninitialized (values_claimed f.arguments h.1) tt

  frame_claimed : (f : Frame) → within.FrameFits width f → FrameFits K f
  frame_claimed f h = (slot_claimed f h, tt)

  pub any_frame_is_open : (ns : List ℕ) → LastOpen K ns
  any_frame_is_open [] = tt
  any_frame_is_open (n ∷ []) = λ slot. tt
  any_frame_is_open (n ∷ m ∷ ms) = any_frame_is_open (m ∷ ms)

  pub world_claimed : {S : Type 0} (w : State S) → AllWithin width w → WorldFits K w
  world_claimed w a = record {
    wide = λ m. a.wide;
    names = λ path e is. named_claimed e.object (a.names path e is);
    objects = record { fit = λ n o at. object_claimed n o (each_at (within.ObjectFits width) w.objects n o a.objects at); kept = λ n o at. tt; enough = omega arith; unused = λ n le. tt };
    frames = each_map frame_claimed w.frames a.frames;
    next = λ n le slot. tt;
    latest = any_frame_is_open (numbers_of w.frames);
  }

  -- ---- where it is claimed, they are

  pub value_within : (v : Value) → ValueFits K v → WithinWidth width v
  value_within value.Uninitialized h = tt
  value_within (value.Integer n) h = h tt
  value_within (value.String o) h = tt
  value_within (value.Buffer o) h = tt
  value_within (value.Package o) h = tt
  value_within (value.Reference r) h = tt

  element_within : (e : Element) → ElementFits K e → within.ElementFits width e
  element_within (element.Value v) h = value_within v h
  element_within (element.Name n scope) h = tt

  object_within : (n : ℕ) (o : Object) → ObjectFits K n o → within.ObjectFits width o
  object_within n (object.String bs) h = h tt
  object_within n (object.Buffer bs) h = h tt
  object_within n (object.Package es) h = (each_map element_within es (h.0 tt), h.1 tt)

  body_within : (body : MethodBody) → BodyFits K body → within.BodyFits body
  body_within Osi h = tt
  body_within (Aml bs) h = h tt

  named_within : (o : NamedObject) → NamedFits K o → within.NamedFits width o
  named_within (named.Data v) h = value_within v h
  named_within (named.FieldUnit u) h = h tt
  named_within (named.BufferField b) h = h.0 tt
  named_within (named.Method method) h = body_within method.body h
  named_within _ h = tt

  frame_within : (f : Frame) → FrameFits K f → within.FrameFits width f
  frame_within f h =
      (each_from f.locals (λ i v at. value_within v (subst (ValueFits K) (index_is f.locals i value.Uninitialized v at) (h.0 (Local i) tt))), each_from f.arguments (λ i v at. value_within v (subst (ValueFits K) (index_is f.arguments i value.Uninitialized v at) (h.0 (Argument i) tt))))

  pub world_within : {S : Type 0} (w : State S) → WorldFits K w → AllWithin width w
  world_within w a = record {
    wide = a.wide tt;
    names = λ path e is. named_within e.object (a.names path e is);
    objects = each_from w.objects (λ n o at. object_within n o (a.objects.fit n o at));
    frames = each_map frame_within w.frames a.frames;
  }
