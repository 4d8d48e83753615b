-- A copy answers where its source nests at most 64 deep and there is room for its objects.
use Rattle.std.specs.Prelude.{◌≡◌, ◌≤◌, ◌<◌, ◌+◌, ℕ, suc, List, [], ◌∷◌, ◌++◌, length, slice_get, Some, Ok, refl}
use Rattle.std.proofs.Common.{arith, ap, sym, subst, ◌∙◌, append-nil, append_assoc, length-append}
use Rattle.ar_space.specs.Outcome.{Outcome}
use Rattle.ar_space.specs.Change.{Change, give, go_on, ◌>>=◌}
use Rattle.aml_path.specs.declared.segment.Seg.{Seg}
use Rattle.aml_path.specs.Paths.{Name}
use Rattle.aml_objects.specs.Copies.{string_copy, buffer_copy, value_copy, held_copy, element_copy, copies_of, whole_copy, package_copy, if_whole, whole, copied}
use Rattle.aml_objects.specs.Objects.{Objects, make, make_string, make_buffer, string_in, buffer_in, elements_in, string_at, buffer_at, elements_at}
use Rattle.aml_objects.specs.declared.object.Element.{Element}
use Rattle.aml_objects.specs.declared.object.Element.TheVariants as element
use Rattle.aml_objects.specs.declared.object.Object.TheVariants as object
use Rattle.aml_objects.specs.declared.value.Value.{Value}
use Rattle.aml_objects.specs.declared.value.Value.TheVariants as value
use Rattle.aml_laws.specs.Copyable.{IsCopyable, AreCopyable, nothing, integer, reference, string, buffer, of_package, no_elements, of_value, of_name}
use Rattle.aml_laws.proofs.CopiesApart.{stays}
use Rattle.aml_laws.proofs.LimitsRefused.{object_made}
use Rattle.aml_laws.proofs.LimitsTaken.{string_made, buffer_made}

-- a value is given, and so many objects are made for it
pub record Answers {A : Type 0} (count : ℕ) (h : Objects) (p : Outcome A × Objects) : Type 0 where
  pub given : A
  pub made : Objects
  pub is : p ≡ (Ok given, h ++ made)
  pub many : length made ≡ count

pub none_made : {A : Type 0} (h : Objects) (a : A) → Answers 0 h (Ok a, h)
none_made h a = record { given = a; made = []; is = ap (λ x. (Ok a, x)) (sym (append-nil h)); many = refl }

-- so many objects, and then so many more
pub two_lots : {A : Type 0} (m n : ℕ) (h first second : Objects) (a : A) (p : Outcome A × Objects) → length first ≡ m → length second ≡ n → p ≡ (Ok a, (h ++ first) ++ second) → Answers (m + n) h p
two_lots m n h first second a p is_m is_n is = record {
  given = a;
  made = first ++ second;
  is = is ∙ ap (λ x. (Ok a, x)) (append_assoc h first second);
  many = let sum = length-append first second in omega (arith, sum, is_m, is_n);
}

-- a value is given, and then another
then_answers : {A B : Type 0} (m n : ℕ) (h : Objects) (p : Outcome A × Objects) (k : A → Change Objects B) → Answers m h p → ((a : A) (made : Objects) → length made ≡ m → Answers n (h ++ made) (k a (h ++ made))) → Answers (m + n) h (go_on p.0 p.1 k)
unfolding go_on
then_answers m n h p k first further =
    let second = further first.given first.made first.many in
    two_lots m n h first.made second.made second.given _ first.many second.many (ap (λ (x : Outcome _ × Objects). go_on x.0 x.1 k) first.is ∙ second.is)

-- an object is made of it
object_answers : (cs : List Element) (h : Objects) → length h < 262144 → Answers 1 h ((make (object.Package cs) >>= (λ n. give (value.Package n))) h)
unfolding give go_on ◌>>=◌
object_answers cs h room = record {
  given = value.Package (length h);
  made = object.Package cs ∷ [];
  is = ap (λ (p : Outcome ℕ × Objects). go_on p.0 p.1 (λ n. give (value.Package n))) (object_made (object.Package cs) h room);
  many = refl;
}

-- what stands is what it was, whatever is made meanwhile
module _ (h : Objects) where
  pub string_answers : (later : Objects) (o : ℕ) (bytes : List ℕ) → slice_get h o ≡ Some (object.String bytes) → length bytes ≤ 1048576 → length (h ++ later) + 1 ≤ 262144 → Answers 1 (h ++ later) (string_copy o (h ++ later))
  unfolding string_copy string_at go_on ◌>>=◌
  string_answers later o bytes at short room = record {
    given = value.String (length (h ++ later));
    made = object.String bytes ∷ [];
    is = ap (λ x. go_on (string_in x) (h ++ later) make_string) (stays h later o (object.String bytes) at) ∙ string_made bytes (h ++ later) short (omega (arith, room));
    many = refl;
  }

  pub buffer_answers : (later : Objects) (o : ℕ) (bytes : List ℕ) → slice_get h o ≡ Some (object.Buffer bytes) → length bytes ≤ 1048576 → length (h ++ later) + 1 ≤ 262144 → Answers 1 (h ++ later) (buffer_copy o (h ++ later))
  unfolding buffer_copy buffer_at go_on ◌>>=◌
  buffer_answers later o bytes at short room = record {
    given = value.Buffer (length (h ++ later));
    made = object.Buffer bytes ∷ [];
    is = ap (λ x. go_on (buffer_in x) (h ++ later) make_buffer) (stays h later o (object.Buffer bytes) at) ∙ buffer_made bytes (h ++ later) short (omega (arith, room));
    many = refl;
  }

  pub package_answers : (n count o : ℕ) (later : Objects) (es : List Element) → slice_get h o ≡ Some (object.Package es) → length (h ++ later) + suc count ≤ 262144 → Answers count (h ++ later) (copies_of (package_copy n) es [] (h ++ later)) → Answers (suc count) (h ++ later) (package_copy (suc n) o (h ++ later))
  unfolding package_copy whole_copy elements_at go_on ◌>>=◌
  package_answers n count o later es at room all =
      let more : count + 1 ≡ suc count = omega arith in
      let found = stays h later o (object.Package es) at in
      subst (λ k. Answers k (h ++ later) (package_copy (suc n) o (h ++ later))) more
      (subst (λ x. Answers (count + 1) (h ++ later) (go_on (elements_in x) (h ++ later) (λ es. copies_of (package_copy n) es [] >>= (λ cs. make (object.Package cs) >>= (λ n. give (value.Package n)))))) (sym found)
      (then_answers count 1 (h ++ later) (copies_of (package_copy n) es [] (h ++ later)) (λ cs. make (object.Package cs) >>= (λ n. give (value.Package n))) all
      (λ cs made many. let sum = length-append (h ++ later) made in object_answers cs ((h ++ later) ++ made) (omega (arith, sum, many, room)))))

  -- ---- values, and elements one after another

  pub held_answers : (deep count : ℕ) (v : Value) (later : Objects) → Answers count (h ++ later) (value_copy (package_copy deep) v (h ++ later)) → Answers count (h ++ later) (held_copy (package_copy deep) v (h ++ later))
  unfolding held_copy give go_on ◌>>=◌
  held_answers deep count v later one = record { given = element.Value one.given; made = one.made; is = ap (λ (p : Outcome Value × Objects). go_on p.0 p.1 (λ u. give (element.Value u))) one.is; many = one.many }

  named_answers : (deep count : ℕ) (n : Name) (scope : List Seg) (es done : List Element) (later : Objects) → Answers count (h ++ later) (copies_of (package_copy deep) es (done ++ element.Name n scope ∷ []) (h ++ later)) → Answers count (h ++ later) (copies_of (package_copy deep) (element.Name n scope ∷ es) done (h ++ later))
  unfolding element_copy copies_of give go_on ◌>>=◌
  named_answers deep count n scope es done later all = all

  mutual
    unfolding value_copy held_copy element_copy copies_of give ◌>>=◌

    pub value_answers : (deep count : ℕ) (v : Value) (later : Objects) → IsCopyable h deep count v → length (h ++ later) + count ≤ 262144 → Answers count (h ++ later) (value_copy (package_copy deep) v (h ++ later))
    value_answers deep _ _ later (nothing _) room = none_made (h ++ later) value.Uninitialized
    value_answers deep _ _ later (integer _ n) room = none_made (h ++ later) (value.Integer n)
    value_answers deep _ _ later (reference _ r) room = none_made (h ++ later) (value.Reference r)
    value_answers deep _ _ later (string _ o bytes at short) room = string_answers later o bytes at short room
    value_answers deep _ _ later (buffer _ o bytes at short) room = buffer_answers later o bytes at short room
    value_answers _ _ _ later (of_package deep count o es at all) room = package_answers deep count o later es at room (elements_answer deep count es [] later all (omega (arith, room)))

    pub elements_answer : (deep count : ℕ) (es done : List Element) (later : Objects) → AreCopyable h deep count es → length (h ++ later) + count ≤ 262144 → Answers count (h ++ later) (copies_of (package_copy deep) es done (h ++ later))
    elements_answer deep _ _ done later (no_elements _) room = none_made (h ++ later) done
    elements_answer deep _ _ done later (of_value _ count rest v es one all) room =
        then_answers count rest (h ++ later) (held_copy (package_copy deep) v (h ++ later)) (λ c. copies_of (package_copy deep) es (done ++ c ∷ []))
        (held_answers deep count v later (value_answers deep count v later one (omega (arith, room))))
        (λ c made many.
        let sum = length-append (h ++ later) made in
        let behind = append_assoc h later made in
        subst (λ x. Answers rest x (copies_of (package_copy deep) es (done ++ c ∷ []) x)) (sym behind)
        (elements_answer deep rest es (done ++ c ∷ []) (later ++ made) all (let same = ap length behind in omega (arith, sum, many, same, room))))
    elements_answer deep _ _ done later (of_name _ count n scope es all) room = named_answers deep count n scope es done later (elements_answer deep count es (done ++ element.Name n scope ∷ []) later all room)

whole_of : (h : Objects) (count : ℕ) (p : Outcome Value × Objects) → Answers count h p → (u : Value) × ((made : Objects) × ((if_whole h p.0 p.1 ≡ (Ok u, h ++ made)) × (length made ≡ count)))
whole_of h count p a = (a.given, (a.made, (ap (λ (x : Outcome Value × Objects). if_whole h x.0 x.1) a.is, a.many)))

pub copy_answers : (h : Objects) (count : ℕ) (v : Value) → IsCopyable h 64 count v → length h + count ≤ 262144 → (u : Value) × ((made : Objects) × ((copied v h ≡ (Ok u, h ++ made)) × (length made ≡ count)))
unfolding copied whole
copy_answers h count v is room =
    let same = append-nil h in
    whole_of h count (value_copy (package_copy 64) v h) (subst (λ x. Answers count x (value_copy (package_copy 64) v x)) same (value_answers h 64 count v [] is (let long = ap length same in omega (arith, long, room))))
