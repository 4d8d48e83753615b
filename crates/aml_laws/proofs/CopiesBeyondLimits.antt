-- A copy for whose objects there is no room is refused.
use Rattle.std.specs.Prelude.{◌≡◌, ◌⊎◌, ◌≤◌, ◌<◌, ◌+◌, ℕ, suc, List, [], ◌∷◌, ◌++◌, length, slice_get, Some, Ok, Err, refl}
use Rattle.std.proofs.Common.{arith, inl, inr, ap, sym, subst, ◌∙◌, append-nil, append_assoc, length-append}
use Rattle.std.proofs.lemmas.Bool.{cases_lt}
use Rattle.ar_space.specs.declared.refusal.Refusal.{Refusal}
use Rattle.ar_space.specs.declared.refusal.Refusal.TheVariants as refusal
use Rattle.ar_space.specs.declared.refusal.EvaluationFault.TheVariants.{ObjectLimit}
use Rattle.ar_space.specs.Outcome.{Outcome}
use Rattle.ar_space.specs.Change.{Change, give, go_on, ◌>>=◌}
use Rattle.aml_objects.specs.Copies.{string_copy, buffer_copy, value_copy, held_copy, element_copy, copies_of, whole_copy, package_copy, if_whole, whole, copied}
use Rattle.aml_objects.specs.Objects.{Objects, make, make_string, make_buffer, string_in, buffer_in, elements_in, string_at, buffer_at, elements_at}
use Rattle.aml_objects.specs.declared.object.Element.{Element}
use Rattle.aml_objects.specs.declared.object.Element.TheVariants as element
use Rattle.aml_objects.specs.declared.object.Object.TheVariants as object
use Rattle.aml_objects.specs.declared.value.Value.{Value}
use Rattle.aml_objects.specs.declared.value.Value.TheVariants as value
use Rattle.aml_laws.specs.Copyable.{IsCopyable, AreCopyable, nothing, integer, reference, string, buffer, of_package, no_elements, of_value, of_name}
use Rattle.aml_laws.proofs.BeyondLimits.{no_room_for_string, no_room_for_buffer}
use Rattle.aml_laws.proofs.CopiesAnswered.{Answers, value_answers, elements_answer}
use Rattle.aml_laws.proofs.CopiesApart.{stays}
use Rattle.aml_laws.proofs.LimitsRefused.{object_refused}

-- it is refused as too much, whatever was made before
abbrev pub IsTooMuch : {A B : Type 0} → Outcome A × B → Type 0
IsTooMuch p = p.0 ≡ Err (refusal.Evaluation ObjectLimit)

pub then_too_much : {A B S : Type 0} (p : Outcome A × S) (k : A → Change S B) → IsTooMuch p → IsTooMuch (go_on p.0 p.1 k)
unfolding go_on
then_too_much p k is = ap (λ (x : Outcome _). (go_on x p.1 k).0) is

pub behind_too_much : {A B S : Type 0} (p : Outcome A × S) (k : A → Change S B) (a : A) (s : S) → p ≡ (Ok a, s) → IsTooMuch (k a s) → IsTooMuch (go_on p.0 p.1 k)
unfolding go_on
behind_too_much p k a s is stops = ap (λ (x : Outcome _ × _). (go_on x.0 x.1 k).0) is ∙ stops

pub too_much : {A B : Type 0} (p : Outcome A × B) (s : B) → p ≡ (Err (refusal.Evaluation ObjectLimit), s) → IsTooMuch p
too_much p s is = ap (λ (x : Outcome _ × _). x.0) is

-- what stands is what it was, whatever is made meanwhile
module _ (h : Objects) where
  string_has_no_room : (later : Objects) (o : ℕ) (bytes : List ℕ) → slice_get h o ≡ Some (object.String bytes) → 262144 ≤ length (h ++ later) → IsTooMuch (string_copy o (h ++ later))
  unfolding string_copy string_at go_on ◌>>=◌
  string_has_no_room later o bytes at full =
      too_much _ (h ++ later) (ap (λ x. go_on (string_in x) (h ++ later) make_string) (stays h later o (object.String bytes) at) ∙ no_room_for_string bytes (h ++ later) full)

  buffer_has_no_room : (later : Objects) (o : ℕ) (bytes : List ℕ) → slice_get h o ≡ Some (object.Buffer bytes) → 262144 ≤ length (h ++ later) → IsTooMuch (buffer_copy o (h ++ later))
  unfolding buffer_copy buffer_at go_on ◌>>=◌
  buffer_has_no_room later o bytes at full =
      too_much _ (h ++ later) (ap (λ x. go_on (buffer_in x) (h ++ later) make_buffer) (stays h later o (object.Buffer bytes) at) ∙ no_room_for_buffer bytes (h ++ later) full)

  abbrev packed : List Element → Change Objects Value
  packed cs = make (object.Package cs) >>= (λ n. give (value.Package n))

  package_by : (n o : ℕ) (later : Objects) (es : List Element) → slice_get h o ≡ Some (object.Package es) → IsTooMuch ((copies_of (package_copy n) es [] >>= packed) (h ++ later)) → IsTooMuch (package_copy (suc n) o (h ++ later))
  unfolding package_copy whole_copy elements_at go_on ◌>>=◌
  package_by n o later es at stops = ap (λ x. (go_on (elements_in x) (h ++ later) (λ es. copies_of (package_copy n) es [] >>= packed)).0) (stays h later o (object.Package es) at) ∙ stops

  not_packed : (cs : List Element) (h1 : Objects) → 262144 ≤ length h1 → IsTooMuch (packed cs h1)
  unfolding go_on ◌>>=◌
  not_packed cs h1 full = ap (λ (p : Outcome ℕ × Objects). (go_on p.0 p.1 (λ n. give (value.Package n))).0) (object_refused (object.Package cs) h1 full)

  -- the elements have no room, or the package itself
  package_has_no_room : (n count o : ℕ) (later : Objects) (es : List Element) → slice_get h o ≡ Some (object.Package es) → length (h ++ later) ≤ 262144 → 262144 < length (h ++ later) + suc count → AreCopyable h n count es
      → (262144 < length (h ++ later) + count → IsTooMuch (copies_of (package_copy n) es [] (h ++ later))) → (262144 < length (h ++ later) + count) ⊎ (length (h ++ later) + count ≤ 262144) → IsTooMuch (package_copy (suc n) o (h ++ later))
  unfolding ◌>>=◌
  package_has_no_room n count o later es at room full all stops (inl many) = package_by n o later es at (then_too_much (copies_of (package_copy n) es [] (h ++ later)) packed (stops many))
  package_has_no_room n count o later es at room full all stops (inr few) =
      let a = elements_answer h n count es [] later all few in
      let sum = length-append (h ++ later) a.made in
      let so_many = a.many in
      package_by n o later es at (behind_too_much (copies_of (package_copy n) es [] (h ++ later)) packed a.given ((h ++ later) ++ a.made) a.is (not_packed a.given ((h ++ later) ++ a.made) (omega (arith, sum, so_many, full))))

  held_too_much : (deep : ℕ) (v : Value) (h1 : Objects) → IsTooMuch (value_copy (package_copy deep) v h1) → IsTooMuch (held_copy (package_copy deep) v h1)
  unfolding held_copy ◌>>=◌
  held_too_much deep v h1 stops = then_too_much (value_copy (package_copy deep) v h1) (λ u. give (element.Value u)) stops

  held_is : (deep : ℕ) (v u : Value) (h1 h2 : Objects) → value_copy (package_copy deep) v h1 ≡ (Ok u, h2) → held_copy (package_copy deep) v h1 ≡ (Ok (element.Value u), h2)
  unfolding held_copy give go_on ◌>>=◌
  held_is deep v u h1 h2 is = ap (λ (p : Outcome Value × Objects). go_on p.0 p.1 (λ u. give (element.Value u))) is

  -- the first has no room, or those behind it
  elements_by : (deep count rest : ℕ) (v : Value) (es done : List Element) (later : Objects) → IsCopyable h deep count v → length (h ++ later) ≤ 262144 → 262144 < length (h ++ later) + (count + rest)
      → (262144 < length (h ++ later) + count → IsTooMuch (value_copy (package_copy deep) v (h ++ later)))
      → ((made : Objects) (c : Element) → length (h ++ (later ++ made)) ≤ 262144 → 262144 < length (h ++ (later ++ made)) + rest → IsTooMuch (copies_of (package_copy deep) es (done ++ c ∷ []) (h ++ (later ++ made))))
      → (262144 < length (h ++ later) + count) ⊎ (length (h ++ later) + count ≤ 262144) → IsTooMuch (copies_of (package_copy deep) (element.Value v ∷ es) done (h ++ later))
  unfolding element_copy copies_of ◌>>=◌
  elements_by deep count rest v es done later is room full stops further (inl many) = then_too_much (held_copy (package_copy deep) v (h ++ later)) (λ c. copies_of (package_copy deep) es (done ++ c ∷ [])) (held_too_much deep v (h ++ later) (stops many))
  elements_by deep count rest v es done later is room full stops further (inr few) =
      let a = value_answers h deep count v later is few in
      let sum = length-append (h ++ later) a.made in
      let so_many = a.many in
      let behind = append_assoc h later a.made in
      let same = ap length behind in
      behind_too_much (held_copy (package_copy deep) v (h ++ later)) (λ c. copies_of (package_copy deep) es (done ++ c ∷ [])) (element.Value a.given) ((h ++ later) ++ a.made) (held_is deep v a.given (h ++ later) ((h ++ later) ++ a.made) a.is)
      (subst (λ x. IsTooMuch (copies_of (package_copy deep) es (done ++ element.Value a.given ∷ []) x)) (sym behind)
      (further a.made (element.Value a.given) (omega (arith, sum, so_many, same, few)) (omega (arith, sum, so_many, same, full))))

  mutual
    unfolding value_copy element_copy copies_of give ◌>>=◌ go_on

    value_has_no_room : (deep count : ℕ) (v : Value) (later : Objects) → IsCopyable h deep count v → length (h ++ later) ≤ 262144 → 262144 < length (h ++ later) + count → IsTooMuch (value_copy (package_copy deep) v (h ++ later))
    value_has_no_room deep _ _ later (nothing _) room full = absurd (omega (arith, room, full))
    value_has_no_room deep _ _ later (integer _ n) room full = absurd (omega (arith, room, full))
    value_has_no_room deep _ _ later (reference _ r) room full = absurd (omega (arith, room, full))
    value_has_no_room deep _ _ later (string _ o bytes at short) room full = string_has_no_room later o bytes at (omega (arith, full))
    value_has_no_room deep _ _ later (buffer _ o bytes at short) room full = buffer_has_no_room later o bytes at (omega (arith, full))
    value_has_no_room _ _ _ later (of_package deep count o es at all) room full =
        package_has_no_room deep count o later es at room full all (λ many. elements_have_no_room deep count es [] later all room many) (cases_lt 262144 (length (h ++ later) + count))

    elements_have_no_room : (deep count : ℕ) (es done : List Element) (later : Objects) → AreCopyable h deep count es → length (h ++ later) ≤ 262144 → 262144 < length (h ++ later) + count → IsTooMuch (copies_of (package_copy deep) es done (h ++ later))
    elements_have_no_room deep _ _ done later (no_elements _) room full = absurd (omega (arith, room, full))
    elements_have_no_room deep _ _ done later (of_value _ count rest v es one all) room full =
        elements_by deep count rest v es done later one room full (λ many. value_has_no_room deep count v later one room many)
        (λ made c short long. elements_have_no_room deep rest es (done ++ c ∷ []) (later ++ made) all short long) (cases_lt 262144 (length (h ++ later) + count))
    elements_have_no_room deep _ _ done later (of_name _ count n scope es all) room full = elements_have_no_room deep count es (done ++ element.Name n scope ∷ []) later all room full

too_much_whole : (h : Objects) (p : Outcome Value × Objects) → IsTooMuch p → if_whole h p.0 p.1 ≡ (Err (refusal.Evaluation ObjectLimit), h)
too_much_whole h p is = ap (λ (x : Outcome Value). if_whole h x p.1) is

pub copy_has_no_room : (h : Objects) (count : ℕ) (v : Value) → IsCopyable h 64 count v → length h ≤ 262144 → 262144 < length h + count → copied v h ≡ (Err (refusal.Evaluation ObjectLimit), h)
unfolding copied whole
copy_has_no_room h count v is room full =
    let same = append-nil h in
    let long = ap length same in
    too_much_whole h (value_copy (package_copy 64) v h) (subst (λ x. IsTooMuch (value_copy (package_copy 64) v x)) same (value_has_no_room h 64 count v [] is (omega (arith, long, room)) (omega (arith, long, full))))
