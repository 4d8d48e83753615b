-- Where the objects of a value have numbers one behind another, each stands at one place of it.
use Rattle.std.specs.Prelude.{◌≡◌, ◌≢◌, ◌≤◌, ◌<◌, ℕ, zero, suc, List, [], ◌∷◌, Some, slice_get, refl}
use Rattle.std.proofs.Common.{arith, ap, sym, subst, ◌∙◌}
use Rattle.aml_path.specs.declared.segment.Seg.{Seg}
use Rattle.aml_path.specs.Paths.{Name}
use Rattle.aml_objects.specs.Objects.{Objects}
use Rattle.aml_objects.specs.declared.object.Element.{Element}
use Rattle.aml_objects.specs.declared.object.Element.TheVariants as element
use Rattle.aml_objects.specs.declared.object.Object.TheVariants as object
use Rattle.aml_objects.specs.declared.value.Value.{Value}
use Rattle.aml_objects.specs.declared.value.Value.TheVariants as value
use Rattle.aml_objects.specs.declared.value.Reference.{Reference}
use Rattle.aml_laws.specs.Copied.{StandsAt, a_string, a_buffer, a_package, inside}

mutual
  -- the objects of a value have numbers from the first on and below the last; those of the elements of a package, one element behind another,
  -- are all before that of the package
  pub data Ordered (objects : Objects) : ℕ → ℕ → Value → Type 0 where
    nothing : (first last : ℕ) → first ≤ last → Ordered objects first last value.Uninitialized
    integer : (n first last : ℕ) → first ≤ last → Ordered objects first last (value.Integer n)
    reference : (r : Reference) (first last : ℕ) → first ≤ last → Ordered objects first last (value.Reference r)
    string : (o first last : ℕ) → first ≤ o → o < last → Ordered objects first last (value.String o)
    buffer : (o first last : ℕ) → first ≤ o → o < last → Ordered objects first last (value.Buffer o)
    of_package : (o first middle last : ℕ) (es : List Element) → slice_get objects o ≡ Some (object.Package es) → AllOrdered objects first middle es → middle ≤ o → o < last → Ordered objects first last (value.Package o)

  pub data AllOrdered (objects : Objects) : ℕ → ℕ → List Element → Type 0 where
    no_elements : (first last : ℕ) → first ≤ last → AllOrdered objects first last []
    of_value : (first middle last : ℕ) (v : Value) (es : List Element) → Ordered objects first middle v → AllOrdered objects middle last es → AllOrdered objects first last (element.Value v ∷ es)
    of_name : (first last : ℕ) (n : Name) (scope : List Seg) (es : List Element) → AllOrdered objects first last es → AllOrdered objects first last (element.Name n scope ∷ es)

mutual
  spans : (objects : Objects) (first last : ℕ) (v : Value) → Ordered objects first last v → first ≤ last
  spans objects first last v (nothing f l le) = le
  spans objects first last v (integer n f l le) = le
  spans objects first last v (reference r f l le) = le
  spans objects first last v (string o f l ge lt) = omega (arith, ge, lt)
  spans objects first last v (buffer o f l ge lt) = omega (arith, ge, lt)
  spans objects first last v (of_package o f middle l es at all ge lt) = let le = all_span objects f middle es all in omega (arith, le, ge, lt)

  all_span : (objects : Objects) (first last : ℕ) (es : List Element) → AllOrdered objects first last es → first ≤ last
  all_span objects first last es (no_elements f l le) = le
  all_span objects first last es (of_value f middle l v fs one all) = let le = spans objects f middle v one in let more = all_span objects middle l fs all in omega (arith, le, more)
  all_span objects first last es (of_name f l n scope fs all) = all_span objects f l fs all

same_package : (objects : Objects) (o : ℕ) (es fs : List Element) → slice_get objects o ≡ Some (object.Package es) → slice_get objects o ≡ Some (object.Package fs) → fs ≡ es
same_package objects o es fs at there = let e : Some (object.Package fs) ≡ Some (object.Package es) = sym there ∙ at in cc e

abbrev Between : ℕ → ℕ → ℕ → Type 0
Between first last o = (first ≤ o) × (o < last)

mutual
  bounds : (objects : Objects) (first last : ℕ) (v : Value) (place : List ℕ) (o : ℕ) → Ordered objects first last v → StandsAt objects place o v → Between first last o
  bounds objects first last v place o (nothing f l le) stands = elim stands [ ]
  bounds objects first last v place o (integer n f l le) stands = elim stands [ ]
  bounds objects first last v place o (reference r f l le) stands = elim stands [ ]
  bounds objects first last v place o (string p f l ge lt) (a_string q) = (ge, lt)
  bounds objects first last v place o (buffer p f l ge lt) (a_buffer q) = (ge, lt)
  bounds objects first last v place o (of_package p f middle l es at all ge lt) (a_package q) = let le = all_span objects f middle es all in (omega (arith, le, ge), lt)
  bounds objects first last v place o (of_package p f middle l es at all ge lt) (inside i rest q r fs u there is stands) =
      let within = all_bounds objects f middle es i u rest q all (subst (λ xs. slice_get xs i ≡ Some (element.Value u)) (same_package objects p es fs at there) is) stands in
      let below = within.1 in
      (within.0, omega (arith, below, ge, lt))

  all_bounds : (objects : Objects) (first last : ℕ) (es : List Element) (i : ℕ) (v : Value) (place : List ℕ) (o : ℕ) → AllOrdered objects first last es → slice_get es i ≡ Some (element.Value v) → StandsAt objects place o v → Between first last o
  all_bounds objects first last es i v place o (no_elements f l le) is stands = absurd (cc is)
  all_bounds objects first last es zero v place o (of_value f middle l u fs one all) is stands =
      let same : u ≡ v = cc is in
      let within = bounds objects f middle u place o one (subst (λ x. StandsAt objects place o x) (sym same) stands) in
      let below = within.1 in
      let more = all_span objects middle l fs all in
      (within.0, omega (arith, below, more))
  all_bounds objects first last es (suc i) v place o (of_value f middle l u fs one all) is stands =
      let within = all_bounds objects middle l fs i v place o all is stands in
      let above = within.0 in
      let le = spans objects f middle u one in
      (omega (arith, le, above), within.1)
  all_bounds objects first last es zero v place o (of_name f l n scope fs all) is stands = absurd (cc is)
  all_bounds objects first last es (suc i) v place o (of_name f l n scope fs all) is stands = all_bounds objects f l fs i v place o all is stands

apart : (first middle last o m : ℕ) → Between first middle o → Between middle last m → o ≢ m
apart first middle last o m one other same = let below = one.1 in let above = other.0 in omega (arith, below, above, same)

mutual
  stands_once : (objects : Objects) (first last : ℕ) (v : Value) (place other : List ℕ) (o m : ℕ) → Ordered objects first last v → StandsAt objects place o v → StandsAt objects other m v → o ≡ m → place ≡ other
  stands_once objects first last v place other o m (nothing f l le) stands again same = elim stands [ ]
  stands_once objects first last v place other o m (integer n f l le) stands again same = elim stands [ ]
  stands_once objects first last v place other o m (reference r f l le) stands again same = elim stands [ ]
  stands_once objects first last v place other o m (string p f l ge lt) (a_string q) (a_string x) same = refl
  stands_once objects first last v place other o m (buffer p f l ge lt) (a_buffer q) (a_buffer x) same = refl
  stands_once objects first last v place other o m (of_package p f middle l es at all ge lt) (a_package q) (a_package x) same = refl
  stands_once objects first last v place other o m (of_package p f middle l es at all ge lt) (a_package q) (inside i rest x y fs u there is stands) same =
      let within = all_bounds objects f middle es i u rest x all (subst (λ xs. slice_get xs i ≡ Some (element.Value u)) (same_package objects p es fs at there) is) stands in
      let below = within.1 in
      absurd (omega (arith, below, ge, same))
  stands_once objects first last v place other o m (of_package p f middle l es at all ge lt) (inside i rest x y fs u there is stands) (a_package q) same =
      let within = all_bounds objects f middle es i u rest x all (subst (λ xs. slice_get xs i ≡ Some (element.Value u)) (same_package objects p es fs at there) is) stands in
      let below = within.1 in
      absurd (omega (arith, below, ge, same))
  stands_once objects first last v place other o m (of_package p f middle l es at all ge lt) (inside i rest x y fs u there is stands) (inside j others z y2 gs u2 there2 is2 again) same =
      let both = all_once objects f middle es i j u u2 rest others x z all (subst (λ xs. slice_get xs i ≡ Some (element.Value u)) (same_package objects p es fs at there) is) (subst (λ xs. slice_get xs j ≡ Some (element.Value u2)) (same_package objects p es gs at there2) is2) stands again same in
      ap (λ k. k ∷ rest) both.0 ∙ ap (λ more. j ∷ more) both.1

  all_once : (objects : Objects) (first last : ℕ) (es : List Element) (i j : ℕ) (v u : Value) (place other : List ℕ) (o m : ℕ) → AllOrdered objects first last es → slice_get es i ≡ Some (element.Value v) → slice_get es j ≡ Some (element.Value u)
      → StandsAt objects place o v → StandsAt objects other m u → o ≡ m → (i ≡ j) × (place ≡ other)
  all_once objects first last es i j v u place other o m (no_elements f l le) is is2 stands again same = absurd (cc is)
  all_once objects first last es zero zero v u place other o m (of_value f middle l x fs one all) is is2 stands again same =
      let one_is : x ≡ v = cc is in
      let two_is : x ≡ u = cc is2 in
      (refl, stands_once objects f middle x place other o m one (subst (λ y. StandsAt objects place o y) (sym one_is) stands) (subst (λ y. StandsAt objects other m y) (sym two_is) again) same)
  all_once objects first last es zero (suc j) v u place other o m (of_value f middle l x fs one all) is is2 stands again same =
      let one_is : x ≡ v = cc is in
      absurd (apart f middle l o m (bounds objects f middle x place o one (subst (λ y. StandsAt objects place o y) (sym one_is) stands)) (all_bounds objects middle l fs j u other m all is2 again) same)
  all_once objects first last es (suc i) zero v u place other o m (of_value f middle l x fs one all) is is2 stands again same =
      let two_is : x ≡ u = cc is2 in
      absurd (apart f middle l m o (bounds objects f middle x other m one (subst (λ y. StandsAt objects other m y) (sym two_is) again)) (all_bounds objects middle l fs i v place o all is stands) (sym same))
  all_once objects first last es (suc i) (suc j) v u place other o m (of_value f middle l x fs one all) is is2 stands again same =
      let both = all_once objects middle l fs i j v u place other o m all is is2 stands again same in
      (ap suc both.0, both.1)
  all_once objects first last es zero j v u place other o m (of_name f l n scope fs all) is is2 stands again same = absurd (cc is)
  all_once objects first last es (suc i) zero v u place other o m (of_name f l n scope fs all) is is2 stands again same = absurd (cc is2)
  all_once objects first last es (suc i) (suc j) v u place other o m (of_name f l n scope fs all) is is2 stands again same =
      let both = all_once objects f l fs i j v u place other o m all is is2 stands again same in
      (ap suc both.0, both.1)

pub each_stands_once : (objects : Objects) (first last : ℕ) (v : Value) (place other : List ℕ) (o : ℕ) → Ordered objects first last v → StandsAt objects place o v → StandsAt objects other o v → place ≡ other
each_stands_once objects first last v place other o ordered stands again = stands_once objects first last v place other o o ordered stands again refl
