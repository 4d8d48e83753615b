-- What is within a limit is taken; packages are refused exactly where they nest deeper than their limit.
use Rattle.std.specs.Prelude.{◌≡◌, ◌≤◌, ◌<◌, ◌+◌, ℕ, zero, suc, nat_lt, false, List, [], ◌∷◌, ◌++◌, length, Ok, Err, refl}
use Rattle.std.proofs.Common.{arith, ap}
use Rattle.std.proofs.lemmas.Bool.Decides.{nat_tests}
use Rattle.std.proofs.lemmas.List.{length_push}
use Rattle.ar_space.specs.declared.refusal.Refusal.TheVariants as refusal
use Rattle.ar_space.specs.declared.refusal.EvaluationFault.TheVariants.{ObjectLimit}
use Rattle.ar_space.specs.Accesses.{Accesses}
use Rattle.ar_space.specs.Outcome.{Outcome}
use Rattle.ar_space.specs.Change.{give, stop, settle, go_on, ◌>>=◌}
use Rattle.aml_path.specs.declared.segment.Seg.{Seg}
use Rattle.aml_objects.specs.Objects.{Objects, few, make_string, make_buffer, make_package, elements_at}
use Rattle.aml_objects.specs.declared.object.Element.{Element}
use Rattle.aml_objects.specs.declared.object.Element.TheVariants as element
use Rattle.aml_objects.specs.declared.object.Object.TheVariants as object
use Rattle.aml_objects.specs.declared.value.Value.{Value}
use Rattle.aml_objects.specs.declared.value.Value.TheVariants as value
use Rattle.aml_world.specs.state.State.{State, on_objects}
use Rattle.aml_world.specs.state.Run.{lift}
use Rattle.aml_world.specs.state.Importing.{imported_by, each_imported, elements_imported, package_imported, taken_back, imported}
use Rattle.aml_meaning.specs.Exporting.{value_exported, held_exported, element_exported, each_exported, elements_exported, package_exported, exported}
use Rattle.aml_laws.specs.Calls.{body_frame}
use Rattle.aml_laws.specs.Limits.{nested, IsNested, innermost, round}
use Rattle.aml_laws.proofs.Charges.{charge_one}
use Rattle.aml_laws.proofs.LimitsRefused.{object_made, bytes_fit, call_is_allowed}

pub string_made : (bytes : List ℕ) (h : Objects) → length bytes ≤ 1048576 → length h < 262144 → make_string bytes h ≡ (Ok (value.String (length h)), h ++ object.String bytes ∷ [])
unfolding make_string settle give go_on ◌>>=◌
string_made bytes h short room = rw (bytes_fit bytes short, object_made (object.String bytes) h room) refl

pub buffer_made : (bytes : List ℕ) (h : Objects) → length bytes ≤ 1048576 → length h < 262144 → make_buffer bytes h ≡ (Ok (value.Buffer (length h)), h ++ object.Buffer bytes ∷ [])
unfolding make_buffer settle give go_on ◌>>=◌
buffer_made bytes h short room = rw (bytes_fit bytes short, object_made (object.Buffer bytes) h room) refl

few_enough : (es : List Element) → length es ≤ 65535 → few es ≡ Ok tt
unfolding few
few_enough es short = let test : nat_lt 65535 (length es) ≡ false = grind (arith, nat_tests) in rw test refl

pub package_made : (es : List Element) (h : Objects) → length es ≤ 65535 → length h < 262144 → make_package es h ≡ (Ok (value.Package (length h)), h ++ object.Package es ∷ [])
unfolding make_package settle give go_on ◌>>=◌
package_made es h short room = rw (few_enough es short, object_made (object.Package es) h room) refl

pub call_begins : {S : Type 0} (depth : ℕ) (p : List Seg) (body : List ℕ) (arguments : List Value) (w : State S) → depth < 32 → depth < w.nesting.calls → body_frame depth p body arguments w ≡ body_frame 0 p body arguments w
unfolding body_frame go_on ◌>>=◌
call_begins depth p body arguments w less few =
    let some : 0 < w.nesting.calls = omega arith in
    rw (call_is_allowed depth w less few, call_is_allowed 0 w (omega arith) some) refl

-- ---- packages that are handed in

module _ {S : Type 0} where
  too_deep : (n m : ℕ) (w : State S) → n < m → (imported_by (package_imported n) (nested m) w).0 ≡ Err (refusal.Evaluation ObjectLimit)
  unfolding package_imported elements_imported each_imported stop go_on ◌>>=◌
  too_deep n zero w less = absurd (omega arith)
  too_deep zero (suc m) w less = refl
  too_deep (suc n) (suc m) w less = rw (too_deep n m w (omega arith)) refl

  taken_refused : (x : Outcome Value × State S) (n : ℕ) → x.0 ≡ Err (refusal.Evaluation ObjectLimit) → (taken_back n x).0 ≡ Err (refusal.Evaluation ObjectLimit)
  taken_refused (Ok v, w) n is = absurd (cc is)
  taken_refused (Err e, w) n is = let same : e ≡ refusal.Evaluation ObjectLimit = cc is in ap Err same

  pub deep_package_refused : (n : ℕ) (w : State S) → 64 < n → (imported (nested n) w).0 ≡ Err (refusal.Evaluation ObjectLimit)
  unfolding imported
  deep_package_refused n w more = taken_refused (imported_by (package_imported 64) (nested n) w) (length w.objects) (too_deep 64 n w more)

  -- packages that were taken, each as an object of its own
  record Taken (m : ℕ) (w : State S) (x : Outcome Value × State S) : Type 0 where
    v : Value
    objects : Objects
    many : length objects ≡ length w.objects + m
    is : x ≡ (Ok v, record w { objects = objects })

  deep_enough : (n m : ℕ) (w : State S) → m ≤ n → length w.objects + m ≤ 262144 → Taken m w (imported_by (package_imported n) (nested m) w)
  unfolding package_imported elements_imported each_imported give on_objects go_on ◌>>=◌
  deep_enough n zero w le room = record { v = value.Uninitialized; objects = w.objects; many = omega arith; is = refl }
  deep_enough zero (suc m) w le room = absurd (omega arith)
  deep_enough (suc n) (suc m) w le room =
      let t = deep_enough n m w (omega arith) (omega arith) in
      let many = t.many in
      let es = element.Value t.v ∷ [] in
      let made = package_made es t.objects (omega arith) (omega (arith, many, room)) in
      let longer = length_push t.objects (object.Package es) in
      record { v = value.Package (length t.objects); objects = t.objects ++ object.Package es ∷ []; many = omega (arith, many, longer); is = rw (t.is, made) refl }

  pub package_taken : (n : ℕ) (w : State S) → n ≤ 64 → length w.objects + n ≤ 262144 → (v : Value) × ((imported (nested n) w).0 ≡ Ok v)
  unfolding imported
  package_taken n w le room = let t = deep_enough 64 n w le room in (t.v, ap (λ (x : Outcome Value × State S). (taken_back (length w.objects) x).0) t.is)

-- ---- packages that are handed out

module _ {S : Type 0} (accesses : Accesses S) where
  nested_refused : (n m o steps : ℕ) (w : State S) → IsNested w.objects n o → m < n → m ≤ steps → (package_exported accesses m o (w, steps)).0 ≡ Err (refusal.Evaluation ObjectLimit)
  unfolding package_exported elements_exported each_exported element_exported held_exported value_exported elements_at on_objects lift stop go_on ◌>>=◌
  nested_refused n zero o steps w h less enough = refl
  nested_refused n (suc m) o steps w (innermost _ es at) less enough = absurd (omega arith)
  nested_refused n (suc m) o zero w (round k _ p es at h) less enough = absurd (omega arith)
  nested_refused n (suc m) o (suc steps) w (round k _ p es at h) less enough = rw (at, charge_one w steps, nested_refused k m p steps w h (omega arith) (omega arith)) refl

  pub handed_out_refused : (w : State S) (n o steps : ℕ) → IsNested w.objects n o → 64 < n → 64 ≤ steps → (exported accesses (value.Package o) (w, steps)).0 ≡ Err (refusal.Evaluation ObjectLimit)
  unfolding exported value_exported
  handed_out_refused w n o steps h more enough = nested_refused n 64 o steps w h more enough

pub ruleset what_is_within_the_limits_is_taken = (string_made, buffer_made, package_made, call_begins)

pub ruleset packages_nest_at_most_64_deep = (package_taken, deep_package_refused, handed_out_refused)
