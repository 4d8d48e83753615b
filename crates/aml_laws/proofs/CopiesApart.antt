-- A copy holds what its source holds, and all its objects are new.
use Rattle.std.specs.Prelude.{◌≡◌, ◌⊎◌, ◌≤◌, ◌<◌, ℕ, zero, suc, nat_le, Bool, true, false, List, [], ◌∷◌, ◌++◌, length, slice_get, Option, Some, None, Ok, Err, refl, if◌then◌else◌}
use Rattle.std.proofs.Common.{arith, inl, inr, ap, sym, subst, ◌∙◌, append-nil, append_assoc, length-append}
use Rattle.ar_space.specs.declared.refusal.Refusal.{Refusal}
use Rattle.ar_space.specs.declared.refusal.Refusal.TheVariants as refusal
use Rattle.ar_space.specs.declared.refusal.EvaluationFault.TheVariants.{ObjectLimit}
use Rattle.ar_space.specs.Outcome.{Outcome}
use Rattle.ar_space.specs.Change.{Change, give, stop, go_on, ◌>>=◌}
use Rattle.aml_path.specs.declared.segment.Seg.{Seg}
use Rattle.aml_path.specs.Paths.{Name}
use Rattle.aml_objects.specs.Copies.{string_copy, buffer_copy, value_copy, held_copy, element_copy, copies_of, whole_copy, package_copy, if_whole, whole, copied}
use Rattle.aml_objects.specs.Objects.{Objects, make, make_string, make_buffer, string_in, buffer_in, elements_in, string_at, buffer_at, elements_at}
use Rattle.aml_objects.specs.declared.object.Element.{Element}
use Rattle.aml_objects.specs.declared.object.Element.TheVariants as element
use Rattle.aml_objects.specs.declared.object.Object.{Object}
use Rattle.aml_objects.specs.declared.object.Object.TheVariants as object
use Rattle.aml_objects.specs.declared.value.Value.{Value}
use Rattle.aml_objects.specs.declared.value.Value.TheVariants as value
use Rattle.aml_laws.specs.Copied.{IsCopy, AreCopies, nothing, integer, reference, string, buffer, of_package, no_elements, copied_value, same_name, StandsAt}
use Rattle.aml_laws.proofs.CopiedParts.{Ordered, AllOrdered, each_stands_once}
use Rattle.aml_laws.proofs.CopiedParts as parts
use Rattle.aml_laws.proofs.ObjectsMade.{MadeOrNot, string_made, buffer_made, stands_there}

-- ---- what stands stays, where objects are made

pub stays : (h later : Objects) (o : ℕ) (x : Object) → slice_get h o ≡ Some x → slice_get (h ++ later) o ≡ Some x
stays [] later o x e = absurd (cc e)
stays (a ∷ h) later zero x e = e
stays (a ∷ h) later (suc o) x e = stays h later o x e

mutual
  copy_stays : (first : ℕ) (h later : Objects) (v u : Value) → IsCopy first h v u → IsCopy first (h ++ later) v u
  copy_stays first h later v u nothing = nothing
  copy_stays first h later v u (integer n) = integer n
  copy_stays first h later v u (reference r) = reference r
  copy_stays first h later v u (string o p bytes at there le) = string o p bytes (stays h later o (object.String bytes) at) (stays h later p (object.String bytes) there) le
  copy_stays first h later v u (buffer o p bytes at there le) = buffer o p bytes (stays h later o (object.Buffer bytes) at) (stays h later p (object.Buffer bytes) there) le
  copy_stays first h later v u (of_package o p es fs at there le all) = of_package o p es fs (stays h later o (object.Package es) at) (stays h later p (object.Package fs) there) le (copies_stay first h later es fs all)

  copies_stay : (first : ℕ) (h later : Objects) (es fs : List Element) → AreCopies first h es fs → AreCopies first (h ++ later) es fs
  copies_stay first h later es fs no_elements = no_elements
  copies_stay first h later es fs (copied_value v u ds gs one all) = copied_value v u ds gs (copy_stays first h later v u one) (copies_stay first h later ds gs all)
  copies_stay first h later es fs (same_name n scope ds gs all) = same_name n scope ds gs (copies_stay first h later ds gs all)

mutual
  order_stays : (h later : Objects) (first last : ℕ) (v : Value) → Ordered h first last v → Ordered (h ++ later) first last v
  order_stays h later first last v (parts.nothing f l le) = parts.nothing f l le
  order_stays h later first last v (parts.integer n f l le) = parts.integer n f l le
  order_stays h later first last v (parts.reference r f l le) = parts.reference r f l le
  order_stays h later first last v (parts.string o f l ge lt) = parts.string o f l ge lt
  order_stays h later first last v (parts.buffer o f l ge lt) = parts.buffer o f l ge lt
  order_stays h later first last v (parts.of_package o f middle l es at all ge lt) = parts.of_package o f middle l es (stays h later o (object.Package es) at) (orders_stay h later f middle es all) ge lt

  orders_stay : (h later : Objects) (first last : ℕ) (es : List Element) → AllOrdered h first last es → AllOrdered (h ++ later) first last es
  orders_stay h later first last es (parts.no_elements f l le) = parts.no_elements f l le
  orders_stay h later first last es (parts.of_value f middle l v ds one all) = parts.of_value f middle l v ds (order_stays h later f middle v one) (orders_stay h later middle l ds all)
  orders_stay h later first last es (parts.of_name f l n scope ds all) = parts.of_name f l n scope ds (orders_stay h later f l ds all)

same_length : (h : Objects) → length h ≤ length h
same_length h = omega arith

one_longer : (h : Objects) (x : Object) → length h < length (h ++ x ∷ [])
one_longer h x = let sum = length-append h (x ∷ []) in omega (arith, sum)

-- ---- what a copy comes to

record Copy (first : ℕ) (h : Objects) (v u : Value) (after : Objects) : Type 0 where
  made : Objects
  adds : after ≡ h ++ made
  copy : IsCopy first after v u
  ordered : Ordered after (length h) (length after) u

abbrev CopyIf : ℕ → Objects → Value → Outcome Value → Objects → Type 0
CopyIf first h v (Ok u) after = Copy first h v u after
CopyIf first h v (Err e) after = Unit {0}

record CopyAll (first : ℕ) (h : Objects) (es done fs : List Element) (after : Objects) : Type 0 where
  new : List Element
  are : fs ≡ done ++ new
  made : Objects
  adds : after ≡ h ++ made
  copies : AreCopies first after es new
  ordered : AllOrdered after (length h) (length after) new

abbrev CopyAllIf : ℕ → Objects → List Element → List Element → Outcome (List Element) → Objects → Type 0
CopyAllIf first h es done (Ok fs) after = CopyAll first h es done fs after
CopyAllIf first h es done (Err e) after = Unit {0}

same_copy : (first : ℕ) (h : Objects) (v : Value) → IsCopy first h v v → Ordered h (length h) (length h) v → Copy first h v v h
same_copy first h v is none = record { made = []; adds = sym (append-nil h); copy = is; ordered = none }

pub there_now : (h : Objects) (x : Object) → slice_get (h ++ x ∷ []) (length h) ≡ Some x
there_now h x = ap (λ xs. slice_get xs (length h)) (sym (append-nil (h ++ x ∷ []))) ∙ stands_there h [] x

-- ---- strings and buffers

string_by : (first : ℕ) (h : Objects) (o : ℕ) (bytes : List ℕ) → first ≤ length h → slice_get h o ≡ Some (object.String bytes) → (p : Outcome Value × Objects) → MadeOrNot value.String (object.String bytes) h p → CopyIf first h (value.String o) p.0 p.1
string_by first h o bytes le at p (inl (e, is)) = subst (λ (q : Outcome Value × Objects). CopyIf first h (value.String o) q.0 q.1) (sym is) tt
string_by first h o bytes le at p (inr is) = subst (λ (q : Outcome Value × Objects). CopyIf first h (value.String o) q.0 q.1) (sym is)
    (record { made = object.String bytes ∷ []; adds = refl; copy = string o (length h) bytes (stays h (object.String bytes ∷ []) o (object.String bytes) at) (there_now h (object.String bytes)) le; ordered = parts.string (length h) (length h) (length (h ++ object.String bytes ∷ [])) (same_length h) (one_longer h (object.String bytes)) })

buffer_by : (first : ℕ) (h : Objects) (o : ℕ) (bytes : List ℕ) → first ≤ length h → slice_get h o ≡ Some (object.Buffer bytes) → (p : Outcome Value × Objects) → MadeOrNot value.Buffer (object.Buffer bytes) h p → CopyIf first h (value.Buffer o) p.0 p.1
buffer_by first h o bytes le at p (inl (e, is)) = subst (λ (q : Outcome Value × Objects). CopyIf first h (value.Buffer o) q.0 q.1) (sym is) tt
buffer_by first h o bytes le at p (inr is) = subst (λ (q : Outcome Value × Objects). CopyIf first h (value.Buffer o) q.0 q.1) (sym is)
    (record { made = object.Buffer bytes ∷ []; adds = refl; copy = buffer o (length h) bytes (stays h (object.Buffer bytes ∷ []) o (object.Buffer bytes) at) (there_now h (object.Buffer bytes)) le; ordered = parts.buffer (length h) (length h) (length (h ++ object.Buffer bytes ∷ [])) (same_length h) (one_longer h (object.Buffer bytes)) })

string_copy_by : (first : ℕ) (h : Objects) (o : ℕ) (x : Option Object) → first ≤ length h → slice_get h o ≡ x → CopyIf first h (value.String o) (go_on (string_in x) h (λ bs. make_string bs)).0 (go_on (string_in x) h (λ bs. make_string bs)).1
unfolding go_on
string_copy_by first h o None le at = tt
string_copy_by first h o (Some (object.Buffer bs)) le at = tt
string_copy_by first h o (Some (object.Package es)) le at = tt
string_copy_by first h o (Some (object.String bs)) le at = string_by first h o bs le at (make_string bs h) (string_made bs h)

buffer_copy_by : (first : ℕ) (h : Objects) (o : ℕ) (x : Option Object) → first ≤ length h → slice_get h o ≡ x → CopyIf first h (value.Buffer o) (go_on (buffer_in x) h (λ bs. make_buffer bs)).0 (go_on (buffer_in x) h (λ bs. make_buffer bs)).1
unfolding go_on
buffer_copy_by first h o None le at = tt
buffer_copy_by first h o (Some (object.String bs)) le at = tt
buffer_copy_by first h o (Some (object.Package es)) le at = tt
buffer_copy_by first h o (Some (object.Buffer bs)) le at = buffer_by first h o bs le at (make_buffer bs h) (buffer_made bs h)

-- ---- packages: pk, how they are copied one level further in

module _ (pk : ℕ → Change Objects Value) (first : ℕ) (packs : (o : ℕ) (h : Objects) → first ≤ length h → CopyIf first h (value.Package o) (pk o h).0 (pk o h).1) where
  value_is_copied : (v : Value) (h : Objects) → first ≤ length h → CopyIf first h v (value_copy pk v h).0 (value_copy pk v h).1
  unfolding value_copy string_copy buffer_copy string_at buffer_at give ◌>>=◌
  value_is_copied value.Uninitialized h le = same_copy first h value.Uninitialized nothing (parts.nothing (length h) (length h) (same_length h))
  value_is_copied (value.Integer n) h le = same_copy first h (value.Integer n) (integer n) (parts.integer n (length h) (length h) (same_length h))
  value_is_copied (value.Reference r) h le = same_copy first h (value.Reference r) (reference r) (parts.reference r (length h) (length h) (same_length h))
  value_is_copied (value.String o) h le = string_copy_by first h o (slice_get h o) le refl
  value_is_copied (value.Buffer o) h le = buffer_copy_by first h o (slice_get h o) le refl
  value_is_copied (value.Package o) h le = packs o h le

  -- an element, and then the others
  joined : (h : Objects) (v u : Value) (es done fs : List Element) (h1 h2 : Objects) → Copy first h v u h1 → CopyAll first h1 es (done ++ element.Value u ∷ []) fs h2 → CopyAll first h (element.Value v ∷ es) done fs h2
  joined h v u es done fs h1 h2 one all = record {
    new = element.Value u ∷ all.new;
    are = all.are ∙ append_assoc done (element.Value u ∷ []) all.new;
    made = one.made ++ all.made;
    adds = all.adds ∙ ap (λ xs. xs ++ all.made) one.adds ∙ append_assoc h one.made all.made;
    copies = copied_value v u es all.new (subst (λ xs. IsCopy first xs v u) (sym all.adds) (copy_stays first h1 all.made v u one.copy)) all.copies;
    ordered = parts.of_value (length h) (length h1) (length h2) u all.new (subst (λ xs. Ordered xs (length h) (length h1) u) (sym all.adds) (order_stays h1 all.made (length h) (length h1) u one.ordered)) all.ordered;
  }

  named : (h : Objects) (n : Name) (scope : List Seg) (es done fs : List Element) (h2 : Objects) → CopyAll first h es (done ++ element.Name n scope ∷ []) fs h2 → CopyAll first h (element.Name n scope ∷ es) done fs h2
  named h n scope es done fs h2 all = record {
    new = element.Name n scope ∷ all.new;
    are = all.are ∙ append_assoc done (element.Name n scope ∷ []) all.new;
    made = all.made;
    adds = all.adds;
    copies = same_name n scope es all.new all.copies;
    ordered = parts.of_name (length h) (length h2) n scope all.new all.ordered;
  }

  joined_if : (h : Objects) (v u : Value) (es done : List Element) (h1 : Objects) → Copy first h v u h1 → (r : Outcome (List Element)) (h2 : Objects) → CopyAllIf first h1 es (done ++ element.Value u ∷ []) r h2 → CopyAllIf first h (element.Value v ∷ es) done r h2
  joined_if h v u es done h1 one (Err e) h2 all = tt
  joined_if h v u es done h1 one (Ok fs) h2 all = joined h v u es done fs h1 h2 one all

  named_if : (h : Objects) (n : Name) (scope : List Seg) (es done : List Element) (r : Outcome (List Element)) (h2 : Objects) → CopyAllIf first h es (done ++ element.Name n scope ∷ []) r h2 → CopyAllIf first h (element.Name n scope ∷ es) done r h2
  named_if h n scope es done (Err e) h2 all = tt
  named_if h n scope es done (Ok fs) h2 all = named h n scope es done fs h2 all

  longer : (h : Objects) (v u : Value) (h1 : Objects) → first ≤ length h → Copy first h v u h1 → first ≤ length h1
  longer h v u h1 le one = let long = ap length one.adds in let sum = length-append h one.made in omega (arith, long, sum, le)

  value_then : (h : Objects) (v : Value) (es done : List Element) → first ≤ length h → (r : Outcome Value) (h1 : Objects) → CopyIf first h v r h1
      → ((u : Value) (x : Objects) → first ≤ length x → CopyAllIf first x es (done ++ element.Value u ∷ []) (copies_of pk es (done ++ element.Value u ∷ []) x).0 (copies_of pk es (done ++ element.Value u ∷ []) x).1)
      → CopyAllIf first h (element.Value v ∷ es) done (go_on (go_on r h1 (λ u. give (element.Value u))).0 (go_on r h1 (λ u. give (element.Value u))).1 (λ c. copies_of pk es (done ++ c ∷ []))).0
      (go_on (go_on r h1 (λ u. give (element.Value u))).0 (go_on r h1 (λ u. give (element.Value u))).1 (λ c. copies_of pk es (done ++ c ∷ []))).1
  unfolding go_on give
  value_then h v es done le (Err e) h1 one further = tt
  value_then h v es done le (Ok u) h1 one further = joined_if h v u es done h1 one (copies_of pk es (done ++ element.Value u ∷ []) h1).0 (copies_of pk es (done ++ element.Value u ∷ []) h1).1 (further u h1 (longer h v u h1 le one))

  elements_are_copied : (es done : List Element) (h : Objects) → first ≤ length h → CopyAllIf first h es done (copies_of pk es done h).0 (copies_of pk es done h).1
  unfolding copies_of element_copy held_copy give go_on ◌>>=◌
  elements_are_copied [] done h le = record { new = []; are = sym (append-nil done); made = []; adds = sym (append-nil h); copies = no_elements; ordered = parts.no_elements (length h) (length h) (same_length h) }
  elements_are_copied (element.Value v ∷ es) done h le = value_then h v es done le (value_copy pk v h).0 (value_copy pk v h).1 (value_is_copied v h le) (λ u x more. elements_are_copied es (done ++ element.Value u ∷ []) x more)
  elements_are_copied (element.Name n scope ∷ es) done h le =
      named_if h n scope es done (copies_of pk es (done ++ element.Name n scope ∷ []) h).0 (copies_of pk es (done ++ element.Name n scope ∷ []) h).1 (elements_are_copied es (done ++ element.Name n scope ∷ []) h le)

  -- ---- the package itself

  abbrev made_of : List Element → Change Objects Value
  made_of cs = make (object.Package cs) >>= (λ n. give (value.Package n))

  abbrev PackMade : Objects → List Element → Outcome Value × Objects → Type 0
  PackMade h cs p = ((e : Refusal) × (p ≡ (Err e, h))) ⊎ (p ≡ (Ok (value.Package (length h)), h ++ object.Package cs ∷ []))

  pack_room : (b : Bool) (h : Objects) (cs : List Element)
      → PackMade h cs (go_on (if◌then◌else◌ {A = Outcome ℕ × Objects} b (Err (refusal.Evaluation ObjectLimit), h) (Ok (length h), h ++ object.Package cs ∷ [])).0 (if◌then◌else◌ {A = Outcome ℕ × Objects} b (Err (refusal.Evaluation ObjectLimit), h) (Ok (length h), h ++ object.Package cs ∷ [])).1 (λ n. give (value.Package n)))
  unfolding go_on give
  pack_room true h cs = inl (refusal.Evaluation ObjectLimit, refl)
  pack_room false h cs = inr refl

  pack_made : (h : Objects) (cs : List Element) → PackMade h cs (made_of cs h)
  unfolding make ◌>>=◌
  pack_made h cs = pack_room (nat_le 262144 (length h)) h cs

  pack_by : (h : Objects) (o : ℕ) (es fs : List Element) (h1 : Objects) → first ≤ length h → slice_get h o ≡ Some (object.Package es) → CopyAll first h es [] fs h1 → (p : Outcome Value × Objects) → PackMade h1 fs p → CopyIf first h (value.Package o) p.0 p.1
  pack_by h o es fs h1 le at all p (inl (e, is)) = subst (λ (q : Outcome Value × Objects). CopyIf first h (value.Package o) q.0 q.1) (sym is) tt
  pack_by h o es fs h1 le at all p (inr is) = subst (λ (q : Outcome Value × Objects). CopyIf first h (value.Package o) q.0 q.1) (sym is) (record {
    made = all.made ++ object.Package fs ∷ [];
    adds = ap (λ xs. xs ++ object.Package fs ∷ []) all.adds ∙ append_assoc h all.made (object.Package fs ∷ []);
    copy = of_package o (length h1) es fs
        (stays h1 (object.Package fs ∷ []) o (object.Package es) (subst (λ xs. slice_get xs o ≡ Some (object.Package es)) (sym all.adds) (stays h all.made o (object.Package es) at)))
        (there_now h1 (object.Package fs))
        (let long = ap length all.adds in let sum = length-append h all.made in omega (arith, long, sum, le))
        (copies_stay first h1 (object.Package fs ∷ []) es fs (subst (λ xs. AreCopies first h1 es xs) (sym all.are) all.copies));
    ordered = parts.of_package (length h1) (length h) (length h1) (length (h1 ++ object.Package fs ∷ [])) fs (there_now h1 (object.Package fs))
        (orders_stay h1 (object.Package fs ∷ []) (length h) (length h1) fs (subst (λ xs. AllOrdered h1 (length h) (length h1) xs) (sym all.are) all.ordered))
        (same_length h1) (one_longer h1 (object.Package fs));
  })

  pack_after : (h : Objects) (o : ℕ) (es : List Element) → first ≤ length h → slice_get h o ≡ Some (object.Package es) → (r : Outcome (List Element)) (h1 : Objects) → CopyAllIf first h es [] r h1
      → CopyIf first h (value.Package o) (go_on r h1 (λ cs. made_of cs)).0 (go_on r h1 (λ cs. made_of cs)).1
  unfolding go_on
  pack_after h o es le at (Err e) h1 all = tt
  pack_after h o es le at (Ok fs) h1 all = pack_by h o es fs h1 le at all (made_of fs h1) (pack_made h1 fs)

  whole_by : (h : Objects) (o : ℕ) → first ≤ length h → (x : Option Object) → slice_get h o ≡ x
      → CopyIf first h (value.Package o) (go_on (elements_in x) h (λ es. copies_of pk es [] >>= (λ cs. made_of cs))).0 (go_on (elements_in x) h (λ es. copies_of pk es [] >>= (λ cs. made_of cs))).1
  unfolding go_on ◌>>=◌
  whole_by h o le None at = tt
  whole_by h o le (Some (object.String bs)) at = tt
  whole_by h o le (Some (object.Buffer bs)) at = tt
  whole_by h o le (Some (object.Package es)) at = pack_after h o es le at (copies_of pk es [] h).0 (copies_of pk es [] h).1 (elements_are_copied es [] h le)

  whole_is_copied : (o : ℕ) (h : Objects) → first ≤ length h → CopyIf first h (value.Package o) (whole_copy pk o h).0 (whole_copy pk o h).1
  unfolding whole_copy elements_at ◌>>=◌
  whole_is_copied o h le = whole_by h o le (slice_get h o) refl

package_is_copied : (n first o : ℕ) (h : Objects) → first ≤ length h → CopyIf first h (value.Package o) (package_copy n o h).0 (package_copy n o h).1
unfolding package_copy stop
package_is_copied zero first o h le = tt
package_is_copied (suc n) first o h le = whole_is_copied (package_copy n) first (λ p x more. package_is_copied n first p x more) o h le

-- ---- the law

whole_kept : (h : Objects) (v u : Value) (r : Outcome Value) (h1 after : Objects) → CopyIf (length h) h v r h1 → if_whole h r h1 ≡ (Ok u, after) → Copy (length h) h v u after
whole_kept h v u (Ok x) h1 after one e =
    let same : x ≡ u = cc (ap (λ (p : Outcome Value × Objects). p.0) e) in
    subst (λ y. Copy (length h) h v y after) same (subst (λ z. Copy (length h) h v x z) (ap (λ (p : Outcome Value × Objects). p.1) e) one)
whole_kept h v u (Err x) h1 after one e = absurd (cc (ap (λ (p : Outcome Value × Objects). p.0) e))

kept_copy : (h after : Objects) (v u : Value) → copied v h ≡ (Ok u, after) → Copy (length h) h v u after
unfolding copied whole
kept_copy h after v u e =
    whole_kept h v u (value_copy (package_copy 64) v h).0 (value_copy (package_copy 64) v h).1 after (value_is_copied (package_copy 64) (length h) (λ o x more. package_is_copied 64 (length h) o x more) v h (omega arith)) e

pub copy_is_apart : (h after : Objects) (v u : Value) → copied v h ≡ (Ok u, after) → IsCopy (length h) after v u
copy_is_apart h after v u e = let one = kept_copy h after v u e in one.copy

pub copy_adds : (h after : Objects) (v u : Value) → copied v h ≡ (Ok u, after) → (made : Objects) × (after ≡ h ++ made)
copy_adds h after v u e = let one = kept_copy h after v u e in (one.made, one.adds)

pub copy_stands_once : (h after : Objects) (v u : Value) → copied v h ≡ (Ok u, after) → (place other : List ℕ) (o : ℕ) → StandsAt after place o u → StandsAt after other o u → place ≡ other
copy_stands_once h after v u e place other o = let one = kept_copy h after v u e in each_stands_once after (length h) (length after) u place other o one.ordered
