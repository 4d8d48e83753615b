-- A copy and data that is handed in, where they are refused, leave no object.
use Rattle.std.specs.Prelude.{◌≡◌, ℕ, zero, suc, List, [], ◌∷◌, ◌++◌, length, take, Ok, Err, refl}
use Rattle.std.proofs.Common.{inl, inr, ap, sym, ◌∙◌, append-nil, append_assoc}
use Rattle.std.proofs.Math.Seq.{take-append_seam}
use Rattle.ar_space.specs.declared.refusal.Refusal.{Refusal}
use Rattle.ar_space.specs.Outcome.{Outcome}
use Rattle.ar_space.specs.Change.{Change}
use Rattle.aml_path.specs.declared.segment.Seg.{Seg}
use Rattle.aml_objects.specs.Copies.{value_copy, package_copy, if_whole, whole, copied}
use Rattle.aml_objects.specs.Objects.{Objects, make_string, make_buffer, make_package}
use Rattle.aml_objects.specs.declared.object.Element.{Element}
use Rattle.aml_objects.specs.declared.object.Object.{Object}
use Rattle.aml_objects.specs.declared.object.Object.TheVariants as object
use Rattle.aml_objects.specs.declared.value.Value.{Value}
use Rattle.aml_objects.specs.declared.value.Value.TheVariants as value
use Rattle.aml_world.specs.state.Given.{Given, Nothing, Integer, Text, Bytes, Package, Named, Reference as Unnamed, Givens, none, more}
use Rattle.aml_world.specs.state.State.{State, on_objects}
use Rattle.aml_world.specs.state.Readings.{integer_kept, entry_found}
use Rattle.aml_world.specs.state.Importing.{reference_to, imported_by, each_imported, elements_imported, package_imported, taken_back, imported}
use Rattle.aml_laws.proofs.ObjectsMade.{MadeOrNot, string_made, buffer_made, package_made}
use Rattle.aml_laws.proofs.Preorders.{Preorder, Respects, give_respects, stop_respects, then_respects}

-- ---- copies

none_kept : (h h1 after : Objects) (r : Outcome Value) (e : Refusal) → if_whole h r h1 ≡ (Err e, after) → after ≡ h
none_kept h h1 after (Ok v) e is = absurd (cc (ap (λ (p : Outcome Value × Objects). p.0) is))
none_kept h h1 after (Err x) e is = sym (ap (λ (p : Outcome Value × Objects). p.1) is)

pub refused_copy_leaves_none : (h after : Objects) (v : Value) (e : Refusal) → copied v h ≡ (Err e, after) → after ≡ h
unfolding copied whole
refused_copy_leaves_none h after v e is = none_kept h (value_copy (package_copy 64) v h).1 after (value_copy (package_copy 64) v h).0 e is

-- ---- data that is handed in adds objects behind those that stand, and changes nothing else

record AddsObjects {S : Type 0} (w v : State S) : Type 0 where
  made : Objects
  is : v ≡ record w { objects = w.objects ++ made }

adding_reflexive : {S : Type 0} (w : State S) → AddsObjects w w
adding_reflexive {S} w = record { made = []; is = ap (λ (l : Objects). record w { objects = l }) (sym (append-nil w.objects)) }

adding_transitive : {S : Type 0} (w v u : State S) → AddsObjects w v → AddsObjects v u → AddsObjects w u
adding_transitive {S} w v u h i = record {
  made = h.made ++ i.made;
  is = i.is ∙ (ap {A = State S} (λ x. record x { objects = x.objects ++ i.made }) h.is ∙ ap (λ (l : Objects). record w { objects = l }) (append_assoc w.objects h.made i.made));
}

abbrev adding_preorder : (S : Type 0) → Preorder (State S)
adding_preorder S = record { Leads = AddsObjects; reflexive = adding_reflexive; transitive = adding_transitive }

adds_by : {S : Type 0} (w : State S) (kind : ℕ → Value) (x : Object) (p : Outcome Value × Objects) → MadeOrNot kind x w.objects p → AddsObjects w (record w { objects = p.1 })
adds_by w kind x p (inl (e, is)) = record { made = []; is = ap (λ (q : Outcome Value × Objects). record w { objects = q.1 }) is ∙ ap (λ (l : Objects). record w { objects = l }) (sym (append-nil w.objects)) }
adds_by w kind x p (inr is) = record { made = x ∷ []; is = ap (λ (q : Outcome Value × Objects). record w { objects = q.1 }) is }

module _ {S : Type 0} where
  string_adds : (bytes : List ℕ) → Respects (adding_preorder S) (on_objects (make_string bytes))
  unfolding on_objects
  string_adds bytes = record { respects = λ w. adds_by w value.String (object.String bytes) (make_string bytes w.objects) (string_made bytes w.objects) }

  buffer_adds : (bytes : List ℕ) → Respects (adding_preorder S) (on_objects (make_buffer bytes))
  unfolding on_objects
  buffer_adds bytes = record { respects = λ w. adds_by w value.Buffer (object.Buffer bytes) (make_buffer bytes w.objects) (buffer_made bytes w.objects) }

  package_adds : (es : List Element) → Respects (adding_preorder S) (on_objects (make_package es))
  unfolding on_objects
  package_adds es = record { respects = λ w. adds_by w value.Package (object.Package es) (make_package es w.objects) (package_made es w.objects) }

  integer_adds : (n : ℕ) → Respects (adding_preorder S) (integer_kept n)
  unfolding integer_kept
  integer_adds n = record { respects = adding_reflexive }

  name_adds : (p : List Seg) → Respects (adding_preorder S) (reference_to p)
  unfolding reference_to entry_found
  name_adds p = then_respects _ _ (record { respects = adding_reflexive }) (λ e. give_respects _)

  module _ (pack : Givens → Change (State S) Value) (packs : (gs : Givens) → Respects (adding_preorder S) (pack gs)) where
    given_adds : (g : Given) → Respects (adding_preorder S) (imported_by pack g)
    given_adds Nothing = give_respects _
    given_adds (Integer n) = integer_adds n
    given_adds (Text bytes) = string_adds bytes
    given_adds (Bytes bytes) = buffer_adds bytes
    given_adds (Package gs) = packs gs
    given_adds (Named p) = name_adds p
    given_adds Unnamed = stop_respects _

    each_adds : (gs : Givens) (done : List Element) → Respects (adding_preorder S) (each_imported pack gs done)
    unfolding each_imported
    each_adds none done = give_respects _
    each_adds (more g gs) done = then_respects _ _ (given_adds g) (λ v. each_adds gs _)

    elements_add : (gs : Givens) → Respects (adding_preorder S) (elements_imported pack gs)
    unfolding elements_imported
    elements_add gs = then_respects _ _ (each_adds gs []) (λ es. package_adds es)

  packages_add : (n : ℕ) (gs : Givens) → Respects (adding_preorder S) (package_imported n gs)
  unfolding package_imported
  packages_add zero gs = stop_respects _
  packages_add (suc n) gs = elements_add (package_imported n) (packages_add n) gs

  none_left : (w v after : State S) (r : Outcome Value) (e : Refusal) → AddsObjects w v → taken_back (length w.objects) (r, v) ≡ (Err e, after) → after ≡ w
  none_left w v after (Ok x) e adds is = absurd (cc (ap (λ (p : Outcome Value × State S). p.0) is))
  none_left w v after (Err x) e adds is =
      sym (ap (λ (p : Outcome Value × State S). p.1) is)
      ∙ (ap {A = State S} (λ y. record y { objects = take (length w.objects) y.objects }) adds.is ∙ ap (λ (l : Objects). record w { objects = l }) (take-append_seam w.objects adds.made))

  pub refused_data_leaves_none : (w after : State S) (g : Given) (e : Refusal) → imported g w ≡ (Err e, after) → after ≡ w
  unfolding imported
  refused_data_leaves_none w after g e is =
      let adds = given_adds (package_imported 64) (packages_add 64) g in
      none_left w (imported_by (package_imported 64) g w).1 after (imported_by (package_imported 64) g w).0 e (adds.respects w) is
