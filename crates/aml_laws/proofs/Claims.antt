-- What is claimed of every value of a world: integers are below two to the width and bytes below 256, where they are measured, no
-- reference is to a slot that is not open, and no value is or refers to an object that is not seen. A slot that is not open and an object
-- that is not seen are as they were.
use Rattle.std.specs.Prelude.{◌≡◌, ◌<◌, ◌≤◌, ◌^◌, ℕ, zero, suc, List, [], ◌∷◌, ◌++◌, length, Some, slice_get, slice_set, slice_index_or, refl}
use Rattle.std.proofs.Common.{arith, ap, subst, ◌∙◌}
use Rattle.std.specs.FinMap.{get}
use Rattle.ar_space.specs.declared.integer_width.IntegerWidth.{IntegerWidth}
use Rattle.ar_space.specs.declared.integer_width.IntegerWidth.TheVariants.{Bits64}
use Rattle.aml_path.specs.declared.segment.Seg.{Seg}
use Rattle.aml_grammar.specs.Tree.{Tree, Trees, Part, Parts}
use Rattle.aml_objects.specs.declared.value.Reference.{Reference}
use Rattle.aml_objects.specs.declared.value.Reference.TheVariants as reference
use Rattle.aml_objects.specs.declared.value.Slot.{Slot}
use Rattle.aml_objects.specs.declared.value.Slot.TheVariants.{Local, Argument}
use Rattle.aml_objects.specs.declared.value.Value.{Value}
use Rattle.aml_objects.specs.declared.value.Value.TheVariants as value
use Rattle.aml_objects.specs.declared.object.Element.{Element}
use Rattle.aml_objects.specs.declared.object.Element.TheVariants as element
use Rattle.aml_objects.specs.declared.object.Object.{Object}
use Rattle.aml_objects.specs.declared.object.Object.TheVariants as object
use Rattle.aml_objects.specs.Objects.{Objects}
use Rattle.aml_objects.specs.declared.entry.Entry.{Entry}
use Rattle.aml_objects.specs.declared.entry.MethodBody.{MethodBody}
use Rattle.aml_objects.specs.declared.entry.MethodBody.TheVariants.{Osi, Aml}
use Rattle.aml_objects.specs.declared.entry.NamedObject.{NamedObject}
use Rattle.aml_objects.specs.declared.entry.NamedObject.TheVariants as named
use Rattle.aml_convert.specs.Integers.{bits_of}
use Rattle.aml_world.specs.declared.state.frame.Frame.{Frame}
use Rattle.aml_world.specs.state.State.{State}
use Rattle.aml_world.specs.state.Given.{Given}
use Rattle.aml_world.specs.state.Slots.{slot_in, with_slot}
use Rattle.aml_world.specs.values.StoreTargets.{last_index}
use Rattle.aml_laws.specs.Plain.{AreBytes, PlainTree, PlainTrees, PlainPart, PlainParts}
use Rattle.aml_laws.specs.AllWithin.{Each, BytesFit, FewBits}
use Rattle.aml_laws.specs.Handed.{GivenWithin}
use Rattle.aml_laws.specs.Numbers.{numbers_of}
use Rattle.aml_objects.specs.declared.entry.Field.{Field}
use Rattle.aml_objects.specs.declared.entry.Field.TheVariants as field

-- Open: a slot of the frame with a number
pub record Claim : Type 1 where
  pub Measured : Type 0
  pub width : IntegerWidth
  pub Open : Slot → ℕ → Type 0
  pub Seen : ℕ → Type 0
  pub Stands : Frame → Type 0
  pub Keeps : ℕ → Object → Type 0
  pub least : ℕ
  pub open_stands : (f : Frame) → ((slot : Slot) → Open slot f.number) → Stands f
  pub written_stands : (f : Frame) (slot : Slot) (v : Value) → Open slot f.number → Stands f → Stands (with_slot f slot v)
  pub seen_keeps : (number : ℕ) (o : Object) → Seen number → Keeps number o

-- integers are below two to the width, and every slot is open
abbrev pub integers_within : IntegerWidth → Claim
integers_within width = record {
  Measured = Unit {0};
  width = width;
  Open = λ slot n. Unit {0};
  Seen = λ o. Unit {0};
  Stands = λ f. Unit {0};
  Keeps = λ number o. Unit {0};
  least = 0;
  open_stands = λ f is_open. tt;
  written_stands = λ f slot v is_open stands. tt;
  seen_keeps = λ number o seen. tt;
}

-- ---- slots of a frame, where one takes a value

other_index : (vs : List Value) (i j : ℕ) (v u : Value) → (i ≡ j → ⊥) → slice_index_or (slice_set vs i v) j u ≡ slice_index_or vs j u
other_index [] i j v u apart = refl
other_index (x ∷ vs) zero zero v u apart = absurd (apart refl)
other_index (x ∷ vs) zero (suc j) v u apart = refl
other_index (x ∷ vs) (suc i) zero v u apart = refl
other_index (x ∷ vs) (suc i) (suc j) v u apart = other_index vs i j v u (λ same. apart (ap suc same))

pub other_slot : (f : Frame) (slot other : Slot) (v : Value) → (slot ≡ other → ⊥) → slot_in (with_slot f slot v) other ≡ slot_in f other
other_slot f (Local i) (Local j) v apart = other_index f.locals i j v _ (λ same. apart (ap Local same))
other_slot f (Local i) (Argument j) v apart = refl
other_slot f (Argument i) (Local j) v apart = refl
other_slot f (Argument i) (Argument j) v apart = other_index f.arguments i j v _ (λ same. apart (ap Argument same))

-- the slots of this frame that are not exposed hold what those of that one hold
abbrev pub HoldsAsIn : (Slot → Type 0) → Frame → Frame → Type 0
HoldsAsIn exposed frame f = (slot : Slot) → (exposed slot → ⊥) → slot_in f slot ≡ slot_in frame slot

pub still_holds : (exposed : Slot → Type 0) (frame f : Frame) (slot : Slot) (v : Value) → exposed slot → HoldsAsIn exposed frame f → HoldsAsIn exposed frame (with_slot f slot v)
still_holds exposed frame f slot v is_open h other hidden = other_slot f slot other v (λ same. hidden (subst exposed same is_open)) ∙ h other hidden

pub number_stays : {n : ℕ} (f : Frame) (slot : Slot) (v : Value) → (with_slot f slot v).number ≡ n → f.number ≡ n
number_stays f (Local i) v is = is
number_stays f (Argument i) v is = is

-- of the frame with a number only the slots that are exposed are open, and the others hold what they hold; all slots of other frames are
-- open; and every object is seen but some, which are as they are
abbrev pub apart_from : ℕ → (Slot → Type 0) → Frame → (ℕ → Type 0) → Objects → Claim
apart_from n exposed frame seen objects = record {
  Measured = ⊥;
  width = Bits64;
  Open = λ slot m. m ≡ n → exposed slot;
  Seen = seen;
  Stands = λ f. f.number ≡ n → HoldsAsIn exposed frame f;
  Keeps = λ number o. (seen number → ⊥) → slice_get objects number ≡ Some o;
  least = length objects;
  open_stands = λ f is_open is slot hidden. absurd (hidden (is_open slot is));
  written_stands = λ f slot v is_open stands is. let same = number_stays f slot v is in still_holds exposed frame f slot v (is_open same) (stands same);
  seen_keeps = λ number o there unseen. absurd (unseen there);
}

module _ (claim : Claim) where
  -- ---- values

  abbrev pub IntegerFits : ℕ → Type 0
  IntegerFits n = claim.Measured → n < 2 ^ bits_of claim.width

  abbrev pub ReferenceFits : Reference → Type 0
  ReferenceFits (reference.Name n) = Unit {0}
  ReferenceFits (reference.Slot slot n) = claim.Open slot n
  ReferenceFits (reference.Element o i) = claim.Seen o
  ReferenceFits (reference.Byte o i) = claim.Seen o

  abbrev pub ValueFits : Value → Type 0
  ValueFits value.Uninitialized = Unit {0}
  ValueFits (value.Integer n) = IntegerFits n
  ValueFits (value.String o) = claim.Seen o
  ValueFits (value.Buffer o) = claim.Seen o
  ValueFits (value.Package o) = claim.Seen o
  ValueFits (value.Reference r) = ReferenceFits r

  -- ---- bytes, and terms that hold them

  abbrev pub AreClaimedBytes : List ℕ → Type 0
  AreClaimedBytes bs = claim.Measured → AreBytes bs

  abbrev pub IsClaimedByte : ℕ → Type 0
  IsClaimedByte b = claim.Measured → b < 256

  abbrev pub TreeFits : Tree → Type 0
  TreeFits t = claim.Measured → PlainTree t

  abbrev pub TreesFit : Trees → Type 0
  TreesFit ts = claim.Measured → PlainTrees ts

  abbrev pub PartFits : Part → Type 0
  PartFits p = claim.Measured → PlainPart p

  abbrev pub PartsFit : Parts → Type 0
  PartsFit ps = claim.Measured → PlainParts ps

  -- ---- what holds values

  abbrev pub ElementFits : Element → Type 0
  ElementFits (element.Value v) = ValueFits v
  ElementFits (element.Name n scope) = Unit {0}

  abbrev pub ElementsFit : List Element → Type 0
  ElementsFit elements = Each ElementFits elements × (claim.Measured → length elements ≤ 65535)

  abbrev pub SizedBytesFit : List ℕ → Type 0
  SizedBytesFit bs = claim.Measured → BytesFit bs

  abbrev pub ObjectFits : ℕ → Object → Type 0
  ObjectFits number (object.String bs) = SizedBytesFit bs
  ObjectFits number (object.Buffer bs) = SizedBytesFit bs
  ObjectFits number (object.Package elements) = (claim.Seen number → Each ElementFits elements) × (claim.Measured → length elements ≤ 65535)

  -- an object that is not seen is kept, and a new one is seen
  pub record ObjectsFit (objects : Objects) : Type 0 where
    pub fit : (number : ℕ) (o : Object) → slice_get objects number ≡ Some o → ObjectFits number o
    pub kept : (number : ℕ) (o : Object) → slice_get objects number ≡ Some o → claim.Keeps number o
    pub enough : claim.least ≤ length objects
    pub unused : (number : ℕ) → length objects ≤ number → claim.Seen number

  abbrev pub BitsFit : ℕ → Type 0
  BitsFit bits = claim.Measured → FewBits bits

  abbrev pub DeclaredFits : Field → Type 0
  DeclaredFits (field.Unit u) = BitsFit u.bits
  DeclaredFits (field.Buffer b) = BitsFit b.bits × claim.Seen b.buffer

  abbrev pub BodyFits : MethodBody → Type 0
  BodyFits Osi = Unit {0}
  BodyFits (Aml body) = AreClaimedBytes body

  abbrev pub NamedFits : NamedObject → Type 0
  NamedFits (named.Data v) = ValueFits v
  NamedFits (named.FieldUnit u) = BitsFit u.bits
  NamedFits (named.BufferField b) = BitsFit b.bits × claim.Seen b.buffer
  NamedFits (named.Method m) = BodyFits m.body
  NamedFits _ = Unit {0}

  -- what is handed out
  abbrev pub GivenFits : Given → Type 0
  GivenFits g = claim.Measured → GivenWithin claim.width g

  -- ---- frames

  abbrev pub SlotsFit : Frame → Type 0
  SlotsFit f = (slot : Slot) → claim.Open slot f.number → ValueFits (slot_in f slot)

  abbrev pub FrameFits : Frame → Type 0
  FrameFits f = SlotsFit f × claim.Stands f

  -- the slots of a frame are open
  abbrev pub AllOpen : ℕ → Type 0
  AllOpen n = (slot : Slot) → claim.Open slot n

  -- of some numbers of frames the last one is open
  abbrev pub LastOpen : List ℕ → Type 0
  LastOpen [] = Unit {0}
  LastOpen (n ∷ []) = AllOpen n
  LastOpen (n ∷ m ∷ ms) = LastOpen (m ∷ ms)

-- ---- worlds

-- where control methods are called
pub record AllFit {S : Type 0} (claim : Claim) (w : State S) : Type 0 where
  pub wide : claim.Measured → w.width ≡ claim.width
  pub names : (path : List Seg) (e : Entry) → get w.names.map path ≡ Some e → NamedFits claim e.object
  pub objects : ObjectsFit claim w.objects
  pub frames : Each (FrameFits claim) w.frames
  pub next : (n : ℕ) → w.started ≤ n → AllOpen claim n

-- where terms are evaluated: the latest frame is open, too
pub record WorldFits {S : Type 0} (claim : Claim) (w : State S) : Type 0 where
  pub wide : claim.Measured → w.width ≡ claim.width
  pub names : (path : List Seg) (e : Entry) → get w.names.map path ≡ Some e → NamedFits claim e.object
  pub objects : ObjectsFit claim w.objects
  pub frames : Each (FrameFits claim) w.frames
  pub next : (n : ℕ) → w.started ≤ n → AllOpen claim n
  pub latest : LastOpen claim (numbers_of w.frames)

pub all_fit : {S : Type 0} {claim : Claim} {w : State S} → WorldFits claim w → AllFit claim w
all_fit i = record { wide = i.wide; names = i.names; objects = i.objects; frames = i.frames; next = i.next }

pub world_fits : {S : Type 0} {claim : Claim} {w : State S} → AllFit claim w → LastOpen claim (numbers_of w.frames) → WorldFits claim w
world_fits i latest = record { wide = i.wide; names = i.names; objects = i.objects; frames = i.frames; next = i.next; latest = latest }

-- ---- the latest frame

module _ (claim : Claim) where
  pub last_open_pushed : (ns : List ℕ) (n : ℕ) → AllOpen claim n → LastOpen claim (ns ++ n ∷ [])
  last_open_pushed [] n is_open = is_open
  last_open_pushed (m ∷ []) n is_open = is_open
  last_open_pushed (m ∷ k ∷ ks) n is_open = last_open_pushed (k ∷ ks) n is_open

  pub latest_is_open : (frames : List Frame) (k : ℕ) (f : Frame) → LastOpen claim (numbers_of frames) → last_index (length frames) ≡ Some k → slice_get frames k ≡ Some f → AllOpen claim f.number
  latest_is_open [] k f is_open is at = absurd (cc is)
  latest_is_open (x ∷ []) zero f is_open is at = let same : x ≡ f = cc at in subst (λ (g : Frame). AllOpen claim g.number) same is_open
  latest_is_open (x ∷ []) (suc k) f is_open is at = absurd (cc at)
  latest_is_open (x ∷ y ∷ ys) zero f is_open is at = absurd (cc is)
  latest_is_open (x ∷ y ∷ ys) (suc k) f is_open is at = latest_is_open (y ∷ ys) k f is_open (let same : suc (length ys) ≡ suc k = cc is in let fewer : length ys ≡ k = omega (arith, same) in ap Some fewer) at
