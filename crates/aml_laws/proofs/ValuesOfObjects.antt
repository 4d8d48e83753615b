-- Changes of objects maintain that what they hold fits a claim.
use Rattle.std.specs.Prelude.{◌≡◌, ◌≤◌, ◌<◌, ℕ, zero, suc, ◌+◌, ◌==◌, nat_le, nat_lt, List, [], ◌∷◌, ◌++◌, length, slice_get, slice_set, Bool, true, false, Option, Some, None, Ok, Err, refl, if◌then◌else◌}
use Rattle.std.proofs.Common.{arith, subst}
use Rattle.std.proofs.lemmas.Bool.{ltb-false}
use Rattle.std.proofs.lemmas.List.{length_push}
use Rattle.ar_space.specs.declared.refusal.Refusal.{Refusal}
use Rattle.ar_space.specs.Outcome.{Outcome}
use Rattle.ar_space.specs.Change.{Change, settle}
use Rattle.aml_objects.specs.declared.value.Value.{Value}
use Rattle.aml_objects.specs.declared.value.Value.TheVariants as value
use Rattle.aml_objects.specs.declared.object.Element.{Element}
use Rattle.aml_objects.specs.declared.object.Element.TheVariants as element
use Rattle.aml_objects.specs.declared.object.Object.{Object}
use Rattle.aml_objects.specs.declared.object.Object.TheVariants as object
use Rattle.aml_objects.specs.Objects.{Objects, make, fits, few, make_string, make_buffer, make_package, string_in, buffer_in, elements_in, string_at, buffer_at, elements_at, fitted_to, with_sized, with_buffer, write_buffer, with_string, write_string, byte_written, with_byte, write_byte, exchanged_with, with_exchanged, exchange_buffer, or_dead, element_in, element_at, byte_in, byte_at, element_there, element_written, with_element, write_element}
use Rattle.aml_objects.specs.Copies.{string_copy, buffer_copy, value_copy, held_copy, element_copy, copies_of, whole_copy, package_copy, if_whole, whole, copied}
use Rattle.aml_laws.specs.Plain.{AreBytes}
use Rattle.aml_laws.proofs.ReadingStepsGiveBytes.{Any}
use Rattle.aml_laws.proofs.Invariants.{Maintained, Maintains, ok_fits, ok_maintained, err_maintained, settled_maintained, if_maintained, give_maintains, stop_maintains, settle_maintains, then_maintains, each_push, each_at, each_set, pushed_fits, set_fits, set_length, zero_bytes, set_bytes, bytes_by_room}
use Rattle.aml_laws.specs.AllWithin.{Each, BytesFit}
use Rattle.aml_laws.proofs.Claims.{Claim, ValueFits, AreClaimedBytes, IsClaimedByte, SizedBytesFit, ElementFits, ElementsFit, ObjectFits, ObjectsFit}

-- a count that is not refused
count_at_most : (limit count : ℕ) (b : Bool) (e : Refusal) (u : Unit {0}) → nat_lt limit count ≡ b → ◌≡◌ {A = Outcome (Unit {0})} (if b then Err e else Ok tt) (Ok u) → count ≤ limit
count_at_most limit count true e u over is = absurd (cc is)
count_at_most limit count false e u over is = ltb-false limit count over

module _ (claim : Claim) where
  pushed_maintained : (h : Objects) (o : Object) → ObjectsFit claim h → ((number : ℕ) → ObjectFits claim number o) → ObjectsFit claim (h ++ o ∷ [])
  pushed_maintained h o i f =
      let longer = length_push h o in
      record {
        fit = λ number x at. pushed_fits (ObjectFits claim) h o number x i.fit (f (length h)) at;
        kept = λ number x at. pushed_fits claim.Keeps h o number x i.kept (claim.seen_keeps (length h) o (i.unused (length h) (omega arith))) at;
        enough = let l = i.enough in omega (arith, l, longer);
        unused = λ number le. i.unused number (omega (arith, le, longer));
      }

  written_maintained : (h : Objects) (n : ℕ) (o : Object) → ObjectsFit claim h → claim.Seen n → ObjectFits claim n o → ObjectsFit claim (slice_set h n o)
  written_maintained h n o i seen f =
      let same = set_length h n o in
      record {
        fit = λ number x at. set_fits (ObjectFits claim) h n o number x i.fit f at;
        kept = λ number x at. set_fits claim.Keeps h n o number x i.kept (claim.seen_keeps n o seen) at;
        enough = let l = i.enough in omega (arith, l, same);
        unused = λ number le. i.unused number (omega (arith, le, same));
      }

  make_maintains : (o : Object) → ((number : ℕ) → ObjectFits claim number o) → Maintains (ObjectsFit claim) claim.Seen (make o)
  unfolding make
  make_maintains o f = record { maintains = λ h i. if_maintained (nat_le 262144 (length h)) _ _ (λ b. err_maintained _ h i) (λ b. ok_maintained (length h) _ (pushed_maintained h o i f) (i.unused (length h) (omega arith))) }

  fits_maintains : (bs : List ℕ) → Maintains (ObjectsFit claim) (λ u. length bs ≤ 1048576) (settle (fits bs))
  unfolding fits
  fits_maintains bs = settle_maintains _ (λ u. count_at_most 1048576 (length bs) _ _ u refl)

  few_maintains : (es : List Element) → Maintains (ObjectsFit claim) (λ u. length es ≤ 65535) (settle (few es))
  unfolding few
  few_maintains es = settle_maintains _ (λ u. count_at_most 65535 (length es) _ _ u refl)

  pub make_string_maintains : (bs : List ℕ) → AreClaimedBytes claim bs → Maintains (ObjectsFit claim) (ValueFits claim) (make_string bs)
  unfolding make_string
  make_string_maintains bs h = then_maintains _ _ (fits_maintains bs) (λ u l. then_maintains _ _ (make_maintains (object.String bs) (λ number m. (h m, l))) (λ n v. give_maintains _ v))

  pub make_buffer_maintains : (bs : List ℕ) → AreClaimedBytes claim bs → Maintains (ObjectsFit claim) (ValueFits claim) (make_buffer bs)
  unfolding make_buffer
  make_buffer_maintains bs h = then_maintains _ _ (fits_maintains bs) (λ u l. then_maintains _ _ (make_maintains (object.Buffer bs) (λ number m. (h m, l))) (λ n v. give_maintains _ v))

  pub make_package_maintains : (es : List Element) → Each (ElementFits claim) es → Maintains (ObjectsFit claim) (ValueFits claim) (make_package es)
  unfolding make_package
  make_package_maintains es h = then_maintains _ _ (few_maintains es) (λ u l. then_maintains _ _ (make_maintains (object.Package es) (λ number. (λ seen. h, λ m. l))) (λ n v. give_maintains _ v))

  -- what an object holds
  abbrev Held : ℕ → Option Object → Type 0
  Held n None = Unit {0}
  Held n (Some o) = ObjectFits claim n o

  pub held_there : (h : Objects) (n : ℕ) (o : Option Object) → ObjectsFit claim h → slice_get h n ≡ o → Held n o
  held_there h n None i at = tt
  held_there h n (Some o) i at = i.fit n o at

  string_in_fits : (n : ℕ) (o : Option Object) (bs : List ℕ) → Held n o → string_in o ≡ Ok bs → SizedBytesFit claim bs
  string_in_fits n None bs h e = absurd (cc e)
  string_in_fits n (Some (object.String b)) bs h e = ok_fits (SizedBytesFit claim) b bs e h
  string_in_fits n (Some (object.Buffer b)) bs h e = absurd (cc e)
  string_in_fits n (Some (object.Package es)) bs h e = absurd (cc e)

  buffer_in_fits : (n : ℕ) (o : Option Object) (bs : List ℕ) → Held n o → buffer_in o ≡ Ok bs → SizedBytesFit claim bs
  buffer_in_fits n None bs h e = absurd (cc e)
  buffer_in_fits n (Some (object.String b)) bs h e = absurd (cc e)
  buffer_in_fits n (Some (object.Buffer b)) bs h e = ok_fits (SizedBytesFit claim) b bs e h
  buffer_in_fits n (Some (object.Package es)) bs h e = absurd (cc e)

  elements_in_fits : (n : ℕ) (o : Option Object) (es : List Element) → claim.Seen n → Held n o → elements_in o ≡ Ok es → ElementsFit claim es
  elements_in_fits n None es seen h e = absurd (cc e)
  elements_in_fits n (Some (object.String b)) es seen h e = absurd (cc e)
  elements_in_fits n (Some (object.Buffer b)) es seen h e = absurd (cc e)
  elements_in_fits n (Some (object.Package xs)) es seen h e = ok_fits (ElementsFit claim) xs es e (h.0 seen, h.1)

  pub string_at_maintains : (o : ℕ) → Maintains (ObjectsFit claim) (SizedBytesFit claim) (string_at o)
  unfolding string_at
  string_at_maintains o = record { maintains = λ h i. settled_maintained _ h i (λ bs e. string_in_fits o (slice_get h o) bs (held_there h o _ i refl) e) }

  pub buffer_at_maintains : (o : ℕ) → Maintains (ObjectsFit claim) (SizedBytesFit claim) (buffer_at o)
  unfolding buffer_at
  buffer_at_maintains o = record { maintains = λ h i. settled_maintained _ h i (λ bs e. buffer_in_fits o (slice_get h o) bs (held_there h o _ i refl) e) }

  pub elements_at_maintains : (o : ℕ) → claim.Seen o → Maintains (ObjectsFit claim) (ElementsFit claim) (elements_at o)
  unfolding elements_at
  elements_at_maintains o seen = record { maintains = λ h i. settled_maintained _ h i (λ es e. elements_in_fits o (slice_get h o) es seen (held_there h o _ i refl) e) }

  element_in_by_cases : (x : Option Element) (es : List Element) (i : ℕ) (e : Element) → Each (ElementFits claim) es → slice_get es i ≡ x → or_dead x ≡ Ok e → ElementFits claim e
  element_in_by_cases None es i e h at is = absurd (cc is)
  element_in_by_cases (Some y) es i e h at is = ok_fits (ElementFits claim) y e is (each_at _ es i y h at)

  element_in_fits : (n i : ℕ) (o : Option Object) (e : Element) → claim.Seen n → Held n o → element_in i o ≡ Ok e → ElementFits claim e
  element_in_fits n i None e seen h is = absurd (cc is)
  element_in_fits n i (Some (object.String b)) e seen h is = absurd (cc is)
  element_in_fits n i (Some (object.Buffer b)) e seen h is = absurd (cc is)
  element_in_fits n i (Some (object.Package es)) e seen h is = element_in_by_cases (slice_get es i) es i e (h.0 seen) refl is

  pub element_at_maintains : (o i : ℕ) → claim.Seen o → Maintains (ObjectsFit claim) (ElementFits claim) (element_at o i)
  unfolding element_at
  element_at_maintains o i seen = record { maintains = λ h s. settled_maintained _ h s (λ e is. element_in_fits o i (slice_get h o) e seen (held_there h o _ s refl) is) }

  pub element_there_maintains : (o i : ℕ) → Maintains (ObjectsFit claim) Any (element_there o i)
  unfolding element_there
  element_there_maintains o i = record { maintains = λ h s. settled_maintained _ h s (λ e is. tt) }

  pub byte_at_maintains : (o i : ℕ) → Maintains (ObjectsFit claim) Any (byte_at o i)
  unfolding byte_at
  byte_at_maintains o i = record { maintains = λ h s. settled_maintained _ h s (λ e is. tt) }

  byte_is_below_256 : (bs : List ℕ) (i b : ℕ) → AreBytes bs → slice_get bs i ≡ Some b → b < 256
  byte_is_below_256 [] i b h e = absurd (cc e)
  byte_is_below_256 (c ∷ bs) zero b h e = let same : c ≡ b = cc e in subst (λ (x : ℕ). x < 256) same (h 0)
  byte_is_below_256 (c ∷ bs) (suc i) b h e = byte_is_below_256 bs i b (λ j. h (suc j)) e

  byte_in_by_cases : (x : Option ℕ) (bs : List ℕ) (i b : ℕ) → AreBytes bs → slice_get bs i ≡ x → or_dead x ≡ Ok b → b < 256
  byte_in_by_cases None bs i b h at is = absurd (cc is)
  byte_in_by_cases (Some c) bs i b h at is = ok_fits (λ (y : ℕ). y < 256) c b is (byte_is_below_256 bs i c h at)

  byte_in_is_below_256 : (n i : ℕ) (o : Option Object) (b : ℕ) → Held n o → byte_in i o ≡ Ok b → IsClaimedByte claim b
  byte_in_is_below_256 n i None b h is = absurd (cc is)
  byte_in_is_below_256 n i (Some (object.String bs)) b h is = λ m. byte_in_by_cases (slice_get bs i) bs i b (h m).0 refl is
  byte_in_is_below_256 n i (Some (object.Buffer bs)) b h is = λ m. byte_in_by_cases (slice_get bs i) bs i b (h m).0 refl is
  byte_in_is_below_256 n i (Some (object.Package es)) b h is = absurd (cc is)

  pub byte_at_maintains_byte : (o i : ℕ) → Maintains (ObjectsFit claim) (IsClaimedByte claim) (byte_at o i)
  unfolding byte_at
  byte_at_maintains_byte o i = record { maintains = λ h s. settled_maintained _ h s (λ b is. byte_in_is_below_256 o i (slice_get h o) b (held_there h o _ s refl) is) }

  -- ---- objects that are written to

  with_sized_maintained : (bs : List ℕ) (h : Objects) (o : ℕ) (x : Object) → ObjectsFit claim h → claim.Seen o → (length bs ≤ 1048576 → ObjectFits claim o x) → Maintained (ObjectsFit claim) Any (with_sized bs o x h)
  with_sized_maintained bs h o x i seen f = if_maintained (nat_lt 1048576 (length bs)) _ _ (λ b. err_maintained _ h i) (λ b. ok_maintained _ _ (written_maintained h o x i seen (f (ltb-false 1048576 (length bs) b))) tt)

  with_buffer_maintained : (x : Option Object) (o : ℕ) (new : List ℕ) (h : Objects) → ObjectsFit claim h → claim.Seen o → AreClaimedBytes claim new → Maintained (ObjectsFit claim) Any (with_buffer x o new h)
  with_buffer_maintained None o new h i seen b = err_maintained _ h i
  with_buffer_maintained (Some (object.String bs)) o new h i seen b = err_maintained _ h i
  with_buffer_maintained (Some (object.Buffer bs)) o new h i seen b = with_sized_maintained (fitted_to (length bs) new) h o (object.Buffer (fitted_to (length bs) new)) i seen (λ l m. (bytes_by_room (length bs == 0) new _ (length bs) (b m) (zero_bytes _), l))
  with_buffer_maintained (Some (object.Package es)) o new h i seen b = err_maintained _ h i

  pub write_buffer_maintains : (o : ℕ) (new : List ℕ) → claim.Seen o → AreClaimedBytes claim new → Maintains (ObjectsFit claim) Any (write_buffer o new)
  unfolding write_buffer
  write_buffer_maintains o new seen b = record { maintains = λ h i. with_buffer_maintained (slice_get h o) o new h i seen b }

  with_string_maintained : (x : Option Object) (o : ℕ) (new : List ℕ) (h : Objects) → ObjectsFit claim h → claim.Seen o → AreClaimedBytes claim new → Maintained (ObjectsFit claim) Any (with_string x o new h)
  with_string_maintained None o new h i seen b = err_maintained _ h i
  with_string_maintained (Some (object.String bs)) o new h i seen b = with_sized_maintained new h o (object.String new) i seen (λ l m. (b m, l))
  with_string_maintained (Some (object.Buffer bs)) o new h i seen b = err_maintained _ h i
  with_string_maintained (Some (object.Package es)) o new h i seen b = err_maintained _ h i

  pub write_string_maintains : (o : ℕ) (new : List ℕ) → claim.Seen o → AreClaimedBytes claim new → Maintains (ObjectsFit claim) Any (write_string o new)
  unfolding write_string
  write_string_maintains o new seen b = record { maintains = λ h i. with_string_maintained (slice_get h o) o new h i seen b }

  bytes_after_set_fit : (b : Bool) (i x : ℕ) (bs : List ℕ) → x < 256 → BytesFit bs → BytesFit (if b then slice_set bs i x else bs)
  bytes_after_set_fit true i x bs l h = (set_bytes bs i x h.0 l, let e = set_length bs i x in let k = h.1 in omega arith)
  bytes_after_set_fit false i x bs l h = h

  byte_written_fits : (n i x : ℕ) (o : Object) → IsClaimedByte claim x → ObjectFits claim n o → ObjectFits claim n (byte_written i x o)
  byte_written_fits n i x (object.String bs) l h = λ m. bytes_after_set_fit (nat_lt i (length bs)) i x bs (l m) (h m)
  byte_written_fits n i x (object.Buffer bs) l h = λ m. bytes_after_set_fit (nat_lt i (length bs)) i x bs (l m) (h m)
  byte_written_fits n i x (object.Package es) l h = h

  with_byte_maintained : (ob : Option Object) (o i x : ℕ) (h : Objects) → ObjectsFit claim h → claim.Seen o → IsClaimedByte claim x → Held o ob → Maintained (ObjectsFit claim) Any (with_byte ob o i x h)
  with_byte_maintained None o i x h s seen l f = err_maintained _ h s
  with_byte_maintained (Some ob) o i x h s seen l f = settled_maintained _ _ (written_maintained h o _ s seen (byte_written_fits o i x ob l f)) (λ a e. tt)

  pub write_byte_maintains : (o i x : ℕ) → claim.Seen o → IsClaimedByte claim x → Maintains (ObjectsFit claim) Any (write_byte o i x)
  unfolding write_byte
  write_byte_maintains o i x seen l = record { maintains = λ h s. with_byte_maintained (slice_get h o) o i x h s seen l (held_there h o _ s refl) }

  elements_after_set_fit : (n : ℕ) (b : Bool) (i : ℕ) (e : Element) (es : List Element) → ElementFits claim e → ObjectFits claim n (object.Package es) → ObjectFits claim n (object.Package (if b then slice_set es i e else es))
  elements_after_set_fit n true i e es f h = (λ seen. each_set _ es i e (h.0 seen) f, λ m. let k = set_length es i e in let l = h.1 m in omega arith)
  elements_after_set_fit n false i e es f h = h

  element_written_fits : (n i : ℕ) (e : Element) (o : Object) → ElementFits claim e → ObjectFits claim n o → ObjectFits claim n (element_written i e o)
  element_written_fits n i e (object.String bs) f h = h
  element_written_fits n i e (object.Buffer bs) f h = h
  element_written_fits n i e (object.Package es) f h = elements_after_set_fit n (nat_lt i (length es)) i e es f h

  with_element_maintained : (ob : Option Object) (o i : ℕ) (e : Element) (h : Objects) → ObjectsFit claim h → claim.Seen o → ElementFits claim e → Held o ob → Maintained (ObjectsFit claim) Any (with_element ob o i e h)
  with_element_maintained None o i e h s seen f k = err_maintained _ h s
  with_element_maintained (Some ob) o i e h s seen f k = settled_maintained _ _ (written_maintained h o _ s seen (element_written_fits o i e ob f k)) (λ a is. tt)

  pub write_element_maintains : (o i : ℕ) (e : Element) → claim.Seen o → ElementFits claim e → Maintains (ObjectsFit claim) Any (write_element o i e)
  unfolding write_element
  write_element_maintains o i e seen f = record { maintains = λ h s. with_element_maintained (slice_get h o) o i e h s seen f (held_there h o _ s refl) }

  exchanged_with_fits : (n : ℕ) (new : List ℕ) (o : Object) → SizedBytesFit claim new → ObjectFits claim n o → ObjectFits claim n (exchanged_with new o)
  exchanged_with_fits n new (object.String bs) b h = h
  exchanged_with_fits n new (object.Buffer bs) b h = b
  exchanged_with_fits n new (object.Package es) b h = h

  with_exchanged_maintained : (ob : Option Object) (o : ℕ) (new : List ℕ) (h : Objects) → ObjectsFit claim h → claim.Seen o → SizedBytesFit claim new → Held o ob → Maintained (ObjectsFit claim) Any (with_exchanged ob o new h)
  with_exchanged_maintained None o new h i seen b k = err_maintained _ h i
  with_exchanged_maintained (Some ob) o new h i seen b k = settled_maintained _ _ (written_maintained h o _ i seen (exchanged_with_fits o new ob b k)) (λ a e. tt)

  pub exchange_buffer_maintains : (o : ℕ) (new : List ℕ) → claim.Seen o → SizedBytesFit claim new → Maintains (ObjectsFit claim) Any (exchange_buffer o new)
  unfolding exchange_buffer
  exchange_buffer_maintains o new seen b = record { maintains = λ h i. with_exchanged_maintained (slice_get h o) o new h i seen b (held_there h o _ i refl) }

  -- ---- copies

  module _ (pk : ℕ → Change Objects Value) (packs : (o : ℕ) → claim.Seen o → Maintains (ObjectsFit claim) (ValueFits claim) (pk o)) where
    value_copy_maintains : (v : Value) → ValueFits claim v → Maintains (ObjectsFit claim) (ValueFits claim) (value_copy pk v)
    unfolding value_copy string_copy buffer_copy
    value_copy_maintains value.Uninitialized f = give_maintains _ tt
    value_copy_maintains (value.Integer n) f = give_maintains _ f
    value_copy_maintains (value.String o) f = then_maintains _ _ (string_at_maintains o) (λ bs h. make_string_maintains bs (λ m. (h m).0))
    value_copy_maintains (value.Buffer o) f = then_maintains _ _ (buffer_at_maintains o) (λ bs h. make_buffer_maintains bs (λ m. (h m).0))
    value_copy_maintains (value.Package o) f = packs o f
    value_copy_maintains (value.Reference r) f = give_maintains _ f

    element_copy_maintains : (e : Element) → ElementFits claim e → Maintains (ObjectsFit claim) (ElementFits claim) (element_copy pk e)
    unfolding element_copy held_copy
    element_copy_maintains (element.Value v) f = then_maintains _ _ (value_copy_maintains v f) (λ u g. give_maintains _ g)
    element_copy_maintains (element.Name n s) f = give_maintains _ tt

    copies_of_maintains : (es done : List Element) → Each (ElementFits claim) es → Each (ElementFits claim) done → (claim.Measured → length done + length es ≤ 65535) → Maintains (ObjectsFit claim) (ElementsFit claim) (copies_of pk es done)
    unfolding copies_of
    copies_of_maintains [] done f g l = give_maintains _ (g, λ m. let k = l m in omega arith)
    copies_of_maintains (e ∷ es) done f g l = then_maintains _ _ (element_copy_maintains e f.0) (λ c k. copies_of_maintains es (done ++ c ∷ []) f.1 (each_push _ done c g k) (λ m. let p = length_push done c in let q = l m in omega arith))

    whole_copy_maintains : (o : ℕ) → claim.Seen o → Maintains (ObjectsFit claim) (ValueFits claim) (whole_copy pk o)
    unfolding whole_copy
    whole_copy_maintains o seen = then_maintains _ _ (elements_at_maintains o seen) (λ es f. then_maintains _ _ (copies_of_maintains es [] f.0 tt (λ m. let l = f.1 m in omega arith)) (λ cs g. then_maintains _ _ (make_maintains (object.Package cs) (λ number. (λ there. g.0, g.1))) (λ n u. give_maintains _ u)))

  package_copy_maintains : (n o : ℕ) → claim.Seen o → Maintains (ObjectsFit claim) (ValueFits claim) (package_copy n o)
  unfolding package_copy
  package_copy_maintains zero o seen = stop_maintains _
  package_copy_maintains (suc n) o seen = whole_copy_maintains (package_copy n) (package_copy_maintains n) o seen

  if_whole_maintained : {A : Type 0} {Fit : A → Type 0} (h : Objects) (r : Outcome A) (k : Objects) → ObjectsFit claim h → Maintained (ObjectsFit claim) Fit (r, k) → Maintained (ObjectsFit claim) Fit (if_whole h r k)
  if_whole_maintained h (Ok a) k i g = g
  if_whole_maintained h (Err e) k i g = err_maintained e h i

  pub copied_maintains : (v : Value) → ValueFits claim v → Maintains (ObjectsFit claim) (ValueFits claim) (copied v)
  unfolding copied whole
  copied_maintains v f = record { maintains = λ h i. if_whole_maintained h _ _ i ((value_copy_maintains (package_copy 64) (package_copy_maintains 64) v f).maintains h i) }
