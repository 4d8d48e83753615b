-- Worlds whose integers are below two to the width, and whose bytes are below 256.
use Rattle.std.specs.Prelude.{◌≡◌, ◌≤◌, ℕ, List, [], ◌∷◌, length, Some}
use Rattle.std.specs.FinMap.{get}
use Rattle.ar_space.specs.declared.integer_width.IntegerWidth.{IntegerWidth}
use Rattle.aml_path.specs.declared.segment.Seg.{Seg}
use Rattle.aml_objects.specs.declared.object.Element.{Element}
use Rattle.aml_objects.specs.declared.object.Element.TheVariants as element
use Rattle.aml_objects.specs.declared.object.Object.{Object}
use Rattle.aml_objects.specs.declared.object.Object.TheVariants as object
use Rattle.aml_objects.specs.declared.entry.Entry.{Entry}
use Rattle.aml_objects.specs.declared.entry.MethodBody.{MethodBody}
use Rattle.aml_objects.specs.declared.entry.MethodBody.TheVariants.{Osi, Aml}
use Rattle.aml_objects.specs.declared.entry.NamedObject.{NamedObject}
use Rattle.aml_objects.specs.declared.entry.NamedObject.TheVariants as named
use Rattle.aml_world.specs.declared.state.frame.Frame.{Frame}
use Rattle.aml_world.specs.state.State.{State}
use Rattle.aml_laws.specs.Plain.{AreBytes}
use Rattle.aml_laws.specs.Within.{WithinWidth}

abbrev pub Each : {A : Type 0} → (A → Type 0) → List A → Type 0
Each Fit [] = Unit {0}
Each Fit (x ∷ xs) = Fit x × Each Fit xs

-- a string or a buffer has at most 1,048,576 bytes, a package at most 65,535 elements, a field at most 8,388,608 bits
abbrev pub BytesFit : List ℕ → Type 0
BytesFit bytes = AreBytes bytes × (length bytes ≤ 1048576)

abbrev pub FewBits : ℕ → Type 0
FewBits bits = bits ≤ 8388608

abbrev pub BodyFits : MethodBody → Type 0
BodyFits Osi = Unit {0}
BodyFits (Aml body) = AreBytes body

module _ (width : IntegerWidth) where
  abbrev pub ElementFits : Element → Type 0
  ElementFits (element.Value v) = WithinWidth width v
  ElementFits (element.Name n scope) = Unit {0}

  abbrev pub ElementsFit : List Element → Type 0
  ElementsFit elements = Each ElementFits elements × (length elements ≤ 65535)

  abbrev pub ObjectFits : Object → Type 0
  ObjectFits (object.String bytes) = BytesFit bytes
  ObjectFits (object.Buffer bytes) = BytesFit bytes
  ObjectFits (object.Package elements) = ElementsFit elements

  abbrev pub NamedFits : NamedObject → Type 0
  NamedFits (named.Data v) = WithinWidth width v
  NamedFits (named.FieldUnit u) = FewBits u.bits
  NamedFits (named.BufferField b) = FewBits b.bits
  NamedFits (named.Method m) = BodyFits m.body
  NamedFits _ = Unit {0}

  abbrev pub FrameFits : Frame → Type 0
  FrameFits f = Each (WithinWidth width) f.locals × Each (WithinWidth width) f.arguments

pub record AllWithin {S : Type 0} (width : IntegerWidth) (w : State S) : Type 0 where
  pub wide : w.width ≡ width
  pub names : (path : List Seg) (e : Entry) → get w.names.map path ≡ Some e → NamedFits width e.object
  pub objects : Each (ObjectFits width) w.objects
  pub frames : Each (FrameFits width) w.frames
