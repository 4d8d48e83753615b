-- What follows of copies.
use Rattle.std.specs.Prelude.{◌≡◌, ℕ, zero, suc, ◌+◌, ◌-◌, ◌<◌, ◌≤◌, List, [], ◌∷◌, ◌++◌, length, take, drop, get_or, nat_le, Bool, true, false, Ok, Err, if◌then◌else◌}
use Rattle.std.proofs.Common.{arith, ap, sym, ◌∙◌, sub-one, refl, append_assoc, rules, drop-cons, add-one}
use Rattle.std.proofs.Math.Seq.{take-append_seam}
use Rattle.std.proofs.lemmas.List.{drop_all}
use Rattle.ar_space.specs.declared.refusal.Refusal.{Refusal}
use Rattle.ar_space.specs.declared.refusal.Refusal.TheVariants as refusal
use Rattle.ar_space.specs.declared.refusal.EvaluationFault.TheVariants.{ObjectLimit}
use Rattle.aml_objects.specs.declared.value.Value.{Value}
use Rattle.aml_objects.specs.declared.value.Value.TheVariants as value
use Rattle.aml_objects.specs.declared.object.Element.{Element}
use Rattle.aml_objects.specs.declared.object.Element.TheVariants as element
use Rattle.aml_objects.specs.declared.object.Object.{Object}
use Rattle.ar_space.specs.Change.{Change, Does, Same, give, stop, settle, go_on, ◌>>=◌}
use Rattle.ar_space.specs.Outcome.{Outcome}
use Rattle.aml_objects.specs.Objects.{Objects, make, fits, make_string, make_buffer, string_at, buffer_at, elements_at}
use Rattle.aml_objects.specs.Copies.{if_whole, string_copy, buffer_copy, value_copy, held_copy, element_copy, copies_of, whole_copy, package_copy, whole, copied}

-- with a level left a package is copied
pub level_is : (n o : ℕ) (h : Objects) → 0 < n → package_copy n o h ≡ whole_copy (package_copy (n - 1)) o h
unfolding package_copy
level_is zero o h l = absurd (omega arith)
level_is (suc n) o h l = rw sub-one refl

pub level_none : (n o : ℕ) (h : Objects) → n ≡ 0 → package_copy n o h ≡ (Err (refusal.Evaluation ObjectLimit), h)
unfolding package_copy stop
level_none n o h e = rw e refl

pub does_level : {r : Outcome Value} {h1 : Objects} (n o : ℕ) (h : Objects) → 0 < n → Does r h1 (whole_copy (package_copy (n - 1)) o) h → Does r h1 (package_copy n o) h
does_level n o h l i = record { is = λ ne. level_is n o h l ∙ i.is ne }

pub does_deep : (n o : ℕ) {h : Objects} → n ≡ 0 → Does (Err (refusal.Evaluation ObjectLimit)) h (package_copy n o) h
does_deep n o {h} e = record { is = λ _. level_none n o h e }

-- loops over elements
pub same_each : {h0 h : Objects} {m : Change Objects (List Element)} (pk : ℕ → Change Objects Value) (es done : List Element) (i : ℕ) (e : Element) → Same m h0 (copies_of pk (drop i es) done) h → i < length es → e ≡ get_or es i e → Same m h0 (element_copy pk e >>= (λ c. copies_of pk (drop (i + 1) es) (done ++ c ∷ []))) h
unfolding copies_of
same_each pk es done i e h l at = record { is = h.is ∙ rw (drop-cons es i e l, ← at, add-one) refl }

pub same_more : {h0 h : Objects} {m : Change Objects (List Element)} (pk : ℕ → Change Objects Value) (rest done more : List Element) → Same m h0 (copies_of pk rest done) h → more ≡ done → Same m h0 (copies_of pk rest more) h
same_more pk rest done more h e = rw e h

pub each_end : {h0 h : Objects} {m : Change Objects (List Element)} (pk : ℕ → Change Objects Value) (es done : List Element) (i : ℕ) → Same m h0 (copies_of pk (drop i es) done) h → length es ≤ i → Does (Ok done) h m h0
unfolding copies_of give
each_end pk es done i h l = record { is = λ _. h.is ∙ rw (drop_all i es l) refl }

-- what only adds objects
pub record Grows {A : Type 0} (m : Change Objects A) : Type 0 where
  pub more : (h : Objects) → (k : List Object) × ((m h).1 ≡ h ++ k)

grows_give : {A : Type 0} (a : A) → Grows (give a)
unfolding give
grows_give a = record { more = λ h. ([], search rules) }

grows_stop : {A : Type 0} (e : Refusal) → Grows {A = A} (stop e)
unfolding stop
grows_stop e = record { more = λ h. ([], search rules) }

go_on_grows : {A B : Type 0} (r : Outcome A) (h h1 : Objects) (k : List Object) (f : A → Change Objects B) → h1 ≡ h ++ k → ((a : A) → Grows (f a)) → (j : List Object) × ((go_on r h1 f).1 ≡ h ++ j)
unfolding go_on
go_on_grows (Ok a) h h1 k f e g = (k ++ ((g a).more h1).0, ((g a).more h1).1 ∙ rw (e, append_assoc) refl)
go_on_grows (Err x) h h1 k f e g = (k, e)

grows_bind : {A B : Type 0} (m : Change Objects A) (f : A → Change Objects B) → Grows m → ((a : A) → Grows (f a)) → Grows (m >>= f)
unfolding ◌>>=◌
grows_bind m f g gs = record { more = λ h. go_on_grows (m h).0 h (m h).1 (g.more h).0 f (g.more h).1 gs }

if_grows : (b : Bool) (r s : Outcome ℕ) (h : Objects) (k : List Object) → (j : List Object) × ((if◌then◌else◌ {A = Outcome ℕ × Objects} b (r, h) (s, h ++ k)).1 ≡ h ++ j)
if_grows true r s h k = ([], search rules)
if_grows false r s h k = (k, refl)

grows_make : (o : Object) → Grows (make o)
unfolding make
grows_make o = record { more = λ h. if_grows (nat_le 262144 (length h)) _ _ h (o ∷ []) }

grows_settle : {A : Type 0} (r : Outcome A) → Grows (settle r)
unfolding settle
grows_settle r = record { more = λ h. ([], search rules) }

grows_make_string : (bs : List ℕ) → Grows (make_string bs)
unfolding make_string
grows_make_string bs = grows_bind _ _ (grows_settle (fits bs)) (λ _. grows_bind _ _ (grows_make _) (λ n. grows_give _))

grows_make_buffer : (bs : List ℕ) → Grows (make_buffer bs)
unfolding make_buffer
grows_make_buffer bs = grows_bind _ _ (grows_settle (fits bs)) (λ _. grows_bind _ _ (grows_make _) (λ n. grows_give _))

grows_elements_at : (o : ℕ) → Grows (elements_at o)
unfolding elements_at
grows_elements_at o = record { more = λ h. ([], search rules) }

grows_string_copy : (o : ℕ) → Grows (string_copy o)
unfolding string_copy string_at
grows_string_copy o = grows_bind _ _ (record { more = λ h. ([], search rules) }) grows_make_string

grows_buffer_copy : (o : ℕ) → Grows (buffer_copy o)
unfolding buffer_copy buffer_at
grows_buffer_copy o = grows_bind _ _ (record { more = λ h. ([], search rules) }) grows_make_buffer

module _ (pk : ℕ → Change Objects Value) (all : (o : ℕ) → Grows (pk o)) where
  pub grows_value : (v : Value) → Grows (value_copy pk v)
  unfolding value_copy
  grows_value value.Uninitialized = grows_give _
  grows_value (value.Integer n) = grows_give _
  grows_value (value.String o) = grows_string_copy o
  grows_value (value.Buffer o) = grows_buffer_copy o
  grows_value (value.Package o) = all o
  grows_value (value.Reference r) = grows_give _

  grows_element : (e : Element) → Grows (element_copy pk e)
  unfolding element_copy held_copy
  grows_element (element.Value v) = grows_bind _ _ (grows_value v) (λ u. grows_give _)
  grows_element (element.Name n s) = grows_give _

  grows_each : (es done : List Element) → Grows (copies_of pk es done)
  unfolding copies_of
  grows_each [] done = grows_give _
  grows_each (e ∷ es) done = grows_bind _ _ (grows_element e) (λ c. grows_each es (done ++ c ∷ []))

  grows_whole : (o : ℕ) → Grows (whole_copy pk o)
  unfolding whole_copy
  grows_whole o = grows_bind _ _ (grows_elements_at o) (λ es. grows_bind _ _ (grows_each es []) (λ cs. grows_bind _ _ (grows_make _) (λ n. grows_give _)))

pub grows_package : (n o : ℕ) → Grows (package_copy n o)
unfolding package_copy
grows_package zero o = grows_stop _
grows_package (suc n) o = grows_whole (package_copy n) (grows_package n) o

-- what was taken back after a refusal
pub does_whole_ok : {A : Type 0} {a : A} {h h1 : Objects} (m : Change Objects A) → Does (Ok a) h1 m h → Does (Ok a) h1 (whole m) h
unfolding whole
does_whole_ok m i = record { is = λ ne. rw (i.is tt) refl }

pub does_whole_err : {A : Type 0} {e : Refusal} {h h1 : Objects} (m : Change Objects A) → Grows m → Does (Err e) h1 m h → Does (Err e) (take (length h) h1) (whole m) h
unfolding whole
does_whole_err {e = e} {h = h} {h1 = h1} m g i = record {
  is = λ ne.
      let same : h1 ≡ h ++ (g.more h).0 = ap (λ x. x.1) (sym (i.is ne)) ∙ (g.more h).1 in
      let cut : take (length h) h1 ≡ h = rw same (take-append_seam h _) in
      rw (i.is ne, cut) refl;
}

pub does_copied_ok : {h h1 : Objects} {u : Value} (v : Value) → Does (Ok u) h1 (value_copy (package_copy 64) v) h → Does (Ok u) h1 (copied v) h
unfolding copied
does_copied_ok v i = does_whole_ok _ i

pub does_copied_err : {h h1 : Objects} {e : Refusal} (v : Value) → Does (Err e) h1 (value_copy (package_copy 64) v) h → Does (Err e) (take (length h) h1) (copied v) h
unfolding copied
does_copied_err v i = does_whole_err _ (grows_value (package_copy 64) (grows_package 64) v) i

pub ruleset copying = (does_level, does_deep, does_copied_ok, does_copied_err)

-- a copy adds objects, and leaves those that were there
whole_grows : {A : Type 0} (r : Outcome A) (h h1 : Objects) (k : List Object) → h1 ≡ h ++ k → (j : List Object) × ((if_whole h r h1).1 ≡ h ++ j)
whole_grows (Ok a) h h1 k e = (k, e)
whole_grows (Err x) h h1 k e = ([], search rules)

pub copy_grows : (v : Value) (h : Objects) → (k : List Object) × ((copied v h).1 ≡ h ++ k)
unfolding copied whole
copy_grows v h = whole_grows (value_copy (package_copy 64) v h).0 h (value_copy (package_copy 64) v h).1 ((grows_value (package_copy 64) (grows_package 64) v).more h).0 ((grows_value (package_copy 64) (grows_package 64) v).more h).1
