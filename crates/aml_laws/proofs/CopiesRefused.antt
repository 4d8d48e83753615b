-- A copy is refused where its source nests more than 64 deep, and where there is no room for its objects.
use Rattle.std.specs.Prelude.{◌≡◌, ◌⊎◌, ◌≤◌, ◌<◌, ◌+◌, ℕ, zero, suc, nat_le, Bool, true, false, List, [], ◌∷◌, ◌++◌, length, slice_get, Some, Ok, Err, refl}
use Rattle.std.proofs.Common.{arith, inl, inr, ap, sym, subst, ◌∙◌, append-nil, append_assoc, length-append}
use Rattle.std.proofs.lemmas.Bool.Decides.{nat_tests}
use Rattle.ar_space.specs.declared.refusal.Refusal.{Refusal}
use Rattle.ar_space.specs.declared.refusal.Refusal.TheVariants as refusal
use Rattle.ar_space.specs.declared.refusal.EvaluationFault.TheVariants.{ObjectLimit}
use Rattle.ar_space.specs.Outcome.{Outcome}
use Rattle.ar_space.specs.Change.{Change, give, stop, settle, go_on, ◌>>=◌}
use Rattle.aml_path.specs.declared.segment.Seg.{Seg}
use Rattle.aml_path.specs.Paths.{Name}
use Rattle.aml_objects.specs.Copies.{string_copy, buffer_copy, value_copy, held_copy, element_copy, copies_of, whole_copy, package_copy, if_whole, whole, copied}
use Rattle.aml_objects.specs.Objects.{Objects, make, make_string, make_buffer, string_in, buffer_in, elements_in, string_at, buffer_at, elements_at}
use Rattle.aml_objects.specs.declared.object.Element.{Element}
use Rattle.aml_objects.specs.declared.object.Element.TheVariants as element
use Rattle.aml_objects.specs.declared.object.Object.TheVariants as object
use Rattle.aml_objects.specs.declared.value.Value.{Value}
use Rattle.aml_objects.specs.declared.value.Value.TheVariants as value
use Rattle.aml_laws.specs.Copyable.{IsCopyable, AreCopyable, nothing, integer, reference, string, buffer, of_package, no_elements, of_value, of_name}
use Rattle.aml_laws.specs.Limits.{IsNested, innermost, round}
use Rattle.aml_laws.proofs.CopiesApart.{stays}
use Rattle.aml_laws.proofs.CopiesAnswered.{Answers, none_made, two_lots, string_answers, buffer_answers, package_answers, held_answers}
use Rattle.aml_laws.proofs.LimitsRefused.{object_refused, bytes_fit}

abbrev limit : Refusal
limit = refusal.Evaluation ObjectLimit

-- ---- one after another

-- a copy was made, which is within the limits, and there was room for its objects
record Made {A : Type 0} (Within : Type 0) (count : ℕ) (h : Objects) (p : Outcome A × Objects) : Type 0 where
  answers : Answers count h p
  within : Within
  room : length h ≤ 262144 → length h + count ≤ 262144

abbrev MadeOrRefused : {A : Type 0} → Type 0 → ℕ → Objects → Outcome A × Objects → Type 0
MadeOrRefused Within count h p = (p.0 ≡ Err limit) ⊎ Made Within count h p

refused_then : {A B : Type 0} (p : Outcome A × Objects) (k : A → Change Objects B) → p.0 ≡ Err limit → (go_on p.0 p.1 k).0 ≡ Err limit
unfolding go_on
refused_then (Ok a, h) k is = absurd (cc is)
refused_then (Err e, h) k is = let same : e ≡ limit = cc is in ap Err same

within_so : {A : Type 0} (First Second : Type 0) (count : ℕ) (h : Objects) (p : Outcome A × Objects) → (First → Second) → MadeOrRefused First count h p → MadeOrRefused Second count h p
within_so First Second count h p so (inl refused) = inl refused
within_so First Second count h p so (inr made) = inr (record { answers = made.answers; within = so made.within; room = made.room })

module _ {A B : Type 0} (First Second : Type 0) (m n : ℕ) (h : Objects) (p : Outcome A × Objects) (k : A → Change Objects B) where
  second_by : (one : Made First m h p) → MadeOrRefused Second n (h ++ one.answers.made) (k one.answers.given (h ++ one.answers.made)) → MadeOrRefused (First × Second) (m + n) h (go_on p.0 p.1 k)
  unfolding go_on
  second_by one (inl refused) = inl (ap (λ (x : Outcome A × Objects). (go_on x.0 x.1 k).0) one.answers.is ∙ refused)
  second_by one (inr two) =
      let sum = length-append h one.answers.made in
      let many = one.answers.many in
      inr (record {
        answers = two_lots m n h one.answers.made two.answers.made two.answers.given (go_on p.0 p.1 k) one.answers.many two.answers.many (ap (λ (x : Outcome A × Objects). go_on x.0 x.1 k) one.answers.is ∙ two.answers.is);
        within = (one.within, two.within);
        room = λ le. let first = one.room le in let second = two.room (omega (arith, first, sum, many)) in omega (arith, second, sum, many);
      })

  one_then : MadeOrRefused First m h p → ((a : A) (made : Objects) → length made ≡ m → MadeOrRefused Second n (h ++ made) (k a (h ++ made))) → MadeOrRefused (First × Second) (m + n) h (go_on p.0 p.1 k)
  one_then (inl refused) further = inl (refused_then p k refused)
  one_then (inr one) further = second_by one (further one.answers.given one.answers.made one.answers.many)

-- ---- values of which all objects stand, whatever is made meanwhile

no_string : (bytes : List ℕ) (h : Objects) → length bytes ≤ 1048576 → 262144 ≤ length h → make_string bytes h ≡ (Err limit, h)
unfolding make_string settle give go_on ◌>>=◌
no_string bytes h short full = rw (bytes_fit bytes short, object_refused (object.String bytes) h full) refl

no_buffer : (bytes : List ℕ) (h : Objects) → length bytes ≤ 1048576 → 262144 ≤ length h → make_buffer bytes h ≡ (Err limit, h)
unfolding make_buffer settle give go_on ◌>>=◌
no_buffer bytes h short full = rw (bytes_fit bytes short, object_refused (object.Buffer bytes) h full) refl

no_package : (cs : List Element) (h : Objects) → 262144 ≤ length h → ((make (object.Package cs) >>= (λ n. give (value.Package n))) h).0 ≡ Err limit
unfolding give go_on ◌>>=◌
no_package cs h full = ap (λ (p : Outcome ℕ × Objects). (go_on p.0 p.1 (λ n. give (value.Package n))).0) (object_refused (object.Package cs) h full)

module _ (h : Objects) where
  string_by : (deep : ℕ) (later : Objects) (o : ℕ) (bytes : List ℕ) → slice_get h o ≡ Some (object.String bytes) → length bytes ≤ 1048576 → (b : Bool) → nat_le 262144 (length (h ++ later)) ≡ b
      → MadeOrRefused (IsCopyable h deep 1 (value.String o)) 1 (h ++ later) (string_copy o (h ++ later))
  unfolding string_copy string_at go_on ◌>>=◌
  string_by deep later o bytes at short true is =
      let full : 262144 ≤ length (h ++ later) = grind (arith, nat_tests) in
      inl (ap (λ x. (go_on (string_in x) (h ++ later) make_string).0) (stays h later o (object.String bytes) at) ∙ ap (λ (p : Outcome Value × Objects). p.0) (no_string bytes (h ++ later) short full))
  string_by deep later o bytes at short false is =
      let some : length (h ++ later) + 1 ≤ 262144 = grind (arith, nat_tests) in
      inr (record { answers = string_answers h later o bytes at short some; within = string deep o bytes at short; room = λ le. some })

  buffer_by : (deep : ℕ) (later : Objects) (o : ℕ) (bytes : List ℕ) → slice_get h o ≡ Some (object.Buffer bytes) → length bytes ≤ 1048576 → (b : Bool) → nat_le 262144 (length (h ++ later)) ≡ b
      → MadeOrRefused (IsCopyable h deep 1 (value.Buffer o)) 1 (h ++ later) (buffer_copy o (h ++ later))
  unfolding buffer_copy buffer_at go_on ◌>>=◌
  buffer_by deep later o bytes at short true is =
      let full : 262144 ≤ length (h ++ later) = grind (arith, nat_tests) in
      inl (ap (λ x. (go_on (buffer_in x) (h ++ later) make_buffer).0) (stays h later o (object.Buffer bytes) at) ∙ ap (λ (p : Outcome Value × Objects). p.0) (no_buffer bytes (h ++ later) short full))
  buffer_by deep later o bytes at short false is =
      let some : length (h ++ later) + 1 ≤ 262144 = grind (arith, nat_tests) in
      inr (record { answers = buffer_answers h later o bytes at short some; within = buffer deep o bytes at short; room = λ le. some })

  -- a package, once its elements were copied
  module _ (deep count o : ℕ) (later : Objects) (es : List Element) (at : slice_get h o ≡ Some (object.Package es)) where
    package_then : (p : Outcome (List Element) × Objects) → copies_of (package_copy deep) es [] (h ++ later) ≡ p → (go_on p.0 p.1 (λ cs. make (object.Package cs) >>= (λ n. give (value.Package n)))).0 ≡ Err limit → (package_copy (suc deep) o (h ++ later)).0 ≡ Err limit
    unfolding package_copy whole_copy elements_at go_on ◌>>=◌
    package_then p is refused =
        ap (λ x. (go_on (elements_in x) (h ++ later) (λ ds. copies_of (package_copy deep) ds [] >>= (λ cs. make (object.Package cs) >>= (λ n. give (value.Package n))))).0) (stays h later o (object.Package es) at)
        ∙ ap (λ (x : Outcome (List Element) × Objects). (go_on x.0 x.1 (λ cs. make (object.Package cs) >>= (λ n. give (value.Package n)))).0) is ∙ refused

    package_by : (one : Made (AreCopyable h deep count es) count (h ++ later) (copies_of (package_copy deep) es [] (h ++ later))) (b : Bool) → nat_le 262144 (length (h ++ later) + count) ≡ b
        → MadeOrRefused (IsCopyable h (suc deep) (suc count) (value.Package o)) (suc count) (h ++ later) (package_copy (suc deep) o (h ++ later))
    unfolding go_on
    package_by one true is =
        let sum = length-append (h ++ later) one.answers.made in
        let many = one.answers.many in
        let more : 262144 ≤ length (h ++ later) + count = grind (arith, nat_tests) in
        inl (package_then (Ok one.answers.given, (h ++ later) ++ one.answers.made) one.answers.is (no_package one.answers.given ((h ++ later) ++ one.answers.made) (omega (arith, sum, many, more))))
    package_by one false is =
        let some : length (h ++ later) + suc count ≤ 262144 = grind (arith, nat_tests) in
        inr (record { answers = package_answers h deep count o later es at some one.answers; within = of_package deep count o es at one.within; room = λ le. some })

    package_made : MadeOrRefused (AreCopyable h deep count es) count (h ++ later) (copies_of (package_copy deep) es [] (h ++ later)) → MadeOrRefused (IsCopyable h (suc deep) (suc count) (value.Package o)) (suc count) (h ++ later) (package_copy (suc deep) o (h ++ later))
    package_made (inl refused) = inl (package_then (copies_of (package_copy deep) es [] (h ++ later)) refl (refused_then (copies_of (package_copy deep) es [] (h ++ later)) (λ cs. make (object.Package cs) >>= (λ n. give (value.Package n))) refused))
    package_made (inr one) = package_by one (nat_le 262144 (length (h ++ later) + count)) refl

  held_made : (deep count : ℕ) (v : Value) (later : Objects) → MadeOrRefused (IsCopyable h deep count v) count (h ++ later) (value_copy (package_copy deep) v (h ++ later)) → MadeOrRefused (IsCopyable h deep count v) count (h ++ later) (held_copy (package_copy deep) v (h ++ later))
  unfolding held_copy ◌>>=◌
  held_made deep count v later (inl refused) = inl (refused_then (value_copy (package_copy deep) v (h ++ later)) (λ u. give (element.Value u)) refused)
  held_made deep count v later (inr one) = inr (record { answers = held_answers h deep count v later one.answers; within = one.within; room = one.room })

  named_made : (deep count : ℕ) (n : Name) (scope : List Seg) (es done : List Element) (later : Objects) → MadeOrRefused (AreCopyable h deep count es) count (h ++ later) (copies_of (package_copy deep) es (done ++ element.Name n scope ∷ []) (h ++ later))
      → MadeOrRefused (AreCopyable h deep count (element.Name n scope ∷ es)) count (h ++ later) (copies_of (package_copy deep) (element.Name n scope ∷ es) done (h ++ later))
  unfolding copies_of element_copy give go_on ◌>>=◌
  named_made deep count n scope es done later all = within_so _ _ count (h ++ later) _ (λ them. of_name deep count n scope es them) all

  mutual
    unfolding value_copy copies_of element_copy package_copy stop give ◌>>=◌

    value_made : (limit deep count : ℕ) (v : Value) (later : Objects) → IsCopyable h deep count v → MadeOrRefused (IsCopyable h limit count v) count (h ++ later) (value_copy (package_copy limit) v (h ++ later))
    value_made limit deep _ _ later (nothing _) = inr (record { answers = none_made (h ++ later) value.Uninitialized; within = nothing limit; room = λ le. omega (arith, le) })
    value_made limit deep _ _ later (integer _ n) = inr (record { answers = none_made (h ++ later) (value.Integer n); within = integer limit n; room = λ le. omega (arith, le) })
    value_made limit deep _ _ later (reference _ r) = inr (record { answers = none_made (h ++ later) (value.Reference r); within = reference limit r; room = λ le. omega (arith, le) })
    value_made limit deep _ _ later (string _ o bytes at short) = string_by limit later o bytes at short (nat_le 262144 (length (h ++ later))) refl
    value_made limit deep _ _ later (buffer _ o bytes at short) = buffer_by limit later o bytes at short (nat_le 262144 (length (h ++ later))) refl
    value_made zero _ _ _ later (of_package deep count o es at all) = inl refl
    value_made (suc limit) _ _ _ later (of_package deep count o es at all) = package_made limit count o later es at (elements_made limit deep count es [] later all)

    elements_made : (limit deep count : ℕ) (es done : List Element) (later : Objects) → AreCopyable h deep count es → MadeOrRefused (AreCopyable h limit count es) count (h ++ later) (copies_of (package_copy limit) es done (h ++ later))
    elements_made limit deep _ _ done later (no_elements _) = inr (record { answers = none_made (h ++ later) done; within = no_elements limit; room = λ le. omega (arith, le) })
    elements_made limit deep _ _ done later (of_value _ count rest v es one all) =
        within_so _ _ (count + rest) (h ++ later) _ (λ (them : IsCopyable h limit count v × AreCopyable h limit rest es). of_value limit count rest v es them.0 them.1)
        (one_then (IsCopyable h limit count v) (AreCopyable h limit rest es) count rest (h ++ later) (held_copy (package_copy limit) v (h ++ later)) (λ c. copies_of (package_copy limit) es (done ++ c ∷ []))
        (held_made limit count v later (value_made limit deep count v later one))
        (λ c made many.
        subst (λ x. MadeOrRefused (AreCopyable h limit rest es) rest x (copies_of (package_copy limit) es (done ++ c ∷ []) x)) (sym (append_assoc h later made))
        (elements_made limit deep rest es (done ++ c ∷ []) (later ++ made) all)))
    elements_made limit deep _ _ done later (of_name _ count n scope es all) = named_made limit count n scope es done later (elements_made limit deep count es (done ++ element.Name n scope ∷ []) later all)

-- ---- the law

copy_made : (h : Objects) (deep count : ℕ) (v : Value) → IsCopyable h deep count v → MadeOrRefused (IsCopyable h 64 count v) count h (value_copy (package_copy 64) v h)
copy_made h deep count v is = subst (λ x. MadeOrRefused (IsCopyable h 64 count v) count x (value_copy (package_copy 64) v x)) (append-nil h) (value_made h 64 deep count v [] is)

refused_whole : (h : Objects) (p : Outcome Value × Objects) → p.0 ≡ Err limit → if_whole h p.0 p.1 ≡ (Err limit, h)
refused_whole h p is = ap (λ (r : Outcome Value). if_whole h r p.1) is

not_made : (h : Objects) (count : ℕ) (v : Value) → MadeOrRefused (IsCopyable h 64 count v) count h (value_copy (package_copy 64) v h) → (Made (IsCopyable h 64 count v) count h (value_copy (package_copy 64) v h) → ⊥) → copied v h ≡ (Err limit, h)
unfolding copied whole
not_made h count v (inl refused) never = refused_whole h (value_copy (package_copy 64) v h) refused
not_made h count v (inr made) never = absurd (never made)

pub deep_copy_refused : (h : Objects) (deep count : ℕ) (v : Value) → IsCopyable h deep count v → (IsCopyable h 64 count v → ⊥) → copied v h ≡ (Err (refusal.Evaluation ObjectLimit), h)
deep_copy_refused h deep count v is never = not_made h count v (copy_made h deep count v is) (λ made. never made.within)

pub full_copy_refused : (h : Objects) (deep count : ℕ) (v : Value) → IsCopyable h deep count v → length h ≤ 262144 → 262144 < length h + count → copied v h ≡ (Err (refusal.Evaluation ObjectLimit), h)
full_copy_refused h deep count v is le more = not_made h count v (copy_made h deep count v is) (λ made. let room = made.room le in absurd (omega (arith, room, more)))

nested_refused : (h : Objects) (n m o : ℕ) → IsNested h n o → m < n → (package_copy m o h).0 ≡ Err limit
unfolding package_copy whole_copy elements_at copies_of element_copy held_copy value_copy stop go_on ◌>>=◌
nested_refused h n zero o is less = refl
nested_refused h n (suc m) o (innermost _ es at) less = absurd (omega arith)
nested_refused h n (suc m) o (round k _ p es at is) less = rw (at, nested_refused h k m p is (omega arith)) refl

pub nested_copy_refused : (h : Objects) (n o : ℕ) → IsNested h n o → 64 < n → copied (value.Package o) h ≡ (Err (refusal.Evaluation ObjectLimit), h)
unfolding copied whole value_copy
nested_copy_refused h n o is more = refused_whole h (package_copy 64 o h) (nested_refused h n 64 o is more)

pub ruleset what_is_beyond_the_limits_is_not_copied = (deep_copy_refused, full_copy_refused, nested_copy_refused)
