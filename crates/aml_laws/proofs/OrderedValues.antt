-- Two values of one type are in a total order.
use Rattle.std.specs.Prelude.{◌≡◌, ◌⊎◌, ◌<◌, ℕ, List, [], ◌∷◌, ◌++◌, Ok, refl}
use Rattle.std.proofs.Common.{inl, inr, ap, sym, ◌∙◌}
use Rattle.std.specs.Ordering.{nat_cmp, ordering_reverse}
use Rattle.std.specs.Cmp.{IsTotalOrder, nat_cmp_is}
use Rattle.std.specs.Cmp.Lexicographic.{slice_cmp}
use Rattle.std.specs.FinMap.{IsAntisymmetric, nat_cmp-IsAntisymmetric, slice_cmp-IsAntisymmetric}
use Rattle.std.specs.declared.cmp.Ordering.{Ordering}
use Rattle.std.specs.declared.cmp.Ordering.TheVariants.{Less, Equal, Greater}
use Rattle.std.proofs.lemmas.Cmp.{nat_cmp_total, nat_list_cmp_total}
use Rattle.ar_space.specs.Outcome.{Outcome, ◌>>=◌}
use Rattle.ar_space.specs.declared.integer_width.IntegerWidth.{IntegerWidth}
use Rattle.aml_objects.specs.Contents.{Integer, String, Buffer}
use Rattle.aml_convert.specs.Conversions.{compared}
use Rattle.aml_laws.specs.Ordered.{IsTotal}

reversed_equal : (o : Ordering) → o ≡ ordering_reverse o → o ≡ Equal
reversed_equal Less e = absurd (cc e)
reversed_equal Equal e = refl
reversed_equal Greater e = absurd (cc e)

answered : (o p : Ordering) → ◌≡◌ {A = Outcome Ordering} (Ok o) (Ok p) → o ≡ p
answered o p e = cc e

each_order : (o : Ordering) → (◌≡◌ {A = Outcome Ordering} (Ok o) (Ok Less)) ⊎ ((◌≡◌ {A = Outcome Ordering} (Ok o) (Ok Equal)) ⊎ (◌≡◌ {A = Outcome Ordering} (Ok o) (Ok Greater)))
each_order Less = inl refl
each_order Equal = inr (inl refl)
each_order Greater = inr (inr refl)

module _ {A : Type 0} {order : A → A → Ordering} (total : IsTotalOrder order) (exact : IsAntisymmetric order) where
  pub total_itself : (a : A) → order a a ≡ Equal
  total_itself a = reversed_equal (order a a) (total.antisymm a a)

  pub total_answers : IsTotal (λ a b. Ok (order a b))
  total_answers = record {
    itself = λ a. ap (λ o. Ok o) (total_itself a);
    no_other = λ a b e. exact a b (answered (order a b) Equal e);
    less_or_not = λ a b. each_order (order a b);
    turned = λ a b e. ap (λ o. Ok o) (total.antisymm b a ∙ ap ordering_reverse (answered (order a b) Less e));
    turned_back = λ a b e. ap (λ o. Ok o) (total.antisymm b a ∙ ap ordering_reverse (answered (order a b) Greater e));
    on = λ a b c e f. ap (λ o. Ok o) (total.trans a b c (answered (order a b) Less e) (answered (order b c) Less f));
  }

pub integers_are_ordered : (w : IntegerWidth) → IsTotal (λ n m. compared w (Integer n) (Integer m))
unfolding compared ◌>>=◌
integers_are_ordered w = total_answers nat_cmp_total nat_cmp-IsAntisymmetric

pub strings_are_ordered : (w : IntegerWidth) → IsTotal (λ s t. compared w (String s) (String t))
unfolding compared ◌>>=◌
strings_are_ordered w = total_answers nat_list_cmp_total (slice_cmp-IsAntisymmetric nat_cmp-IsAntisymmetric)

pub buffers_are_ordered : (w : IntegerWidth) → IsTotal (λ s t. compared w (Buffer s) (Buffer t))
unfolding compared ◌>>=◌
buffers_are_ordered w = total_answers nat_list_cmp_total (slice_cmp-IsAntisymmetric nat_cmp-IsAntisymmetric)

-- ---- which is less

is_less : (a b : ℕ) → a < b → nat_cmp a b ≡ Less
is_less a b h = sym (nat_cmp_is a b Less h)

is_equal : (a : ℕ) → nat_cmp a a ≡ Equal
is_equal a = reversed_equal (nat_cmp a a) (nat_cmp_total.antisymm a a)

pub lesser_integer : (w : IntegerWidth) (n m : ℕ) → n < m → compared w (Integer n) (Integer m) ≡ Ok Less
unfolding compared ◌>>=◌
lesser_integer w n m h = ap (λ o. Ok o) (is_less n m h)

first_less : (front : List ℕ) (a b : ℕ) (s t : List ℕ) → a < b → slice_cmp nat_cmp (front ++ a ∷ s) (front ++ b ∷ t) ≡ Less
first_less [] a b s t h = rw (is_less a b h) refl
first_less (c ∷ front) a b s t h = rw (is_equal c) (first_less front a b s t h)

front_less : (front : List ℕ) (a : ℕ) (s : List ℕ) → slice_cmp nat_cmp front (front ++ a ∷ s) ≡ Less
front_less [] a s = refl
front_less (c ∷ front) a s = rw (is_equal c) (front_less front a s)

pub lesser_string : (w : IntegerWidth) (front : List ℕ) (a b : ℕ) (s t : List ℕ) → a < b → compared w (String (front ++ a ∷ s)) (String (front ++ b ∷ t)) ≡ Ok Less
unfolding compared ◌>>=◌
lesser_string w front a b s t h = ap (λ o. Ok o) (first_less front a b s t h)

pub shorter_string : (w : IntegerWidth) (front : List ℕ) (a : ℕ) (s : List ℕ) → compared w (String front) (String (front ++ a ∷ s)) ≡ Ok Less
unfolding compared ◌>>=◌
shorter_string w front a s = ap (λ o. Ok o) (front_less front a s)

pub lesser_buffer : (w : IntegerWidth) (front : List ℕ) (a b : ℕ) (s t : List ℕ) → a < b → compared w (Buffer (front ++ a ∷ s)) (Buffer (front ++ b ∷ t)) ≡ Ok Less
unfolding compared ◌>>=◌
lesser_buffer w front a b s t h = ap (λ o. Ok o) (first_less front a b s t h)

pub shorter_buffer : (w : IntegerWidth) (front : List ℕ) (a : ℕ) (s : List ℕ) → compared w (Buffer front) (Buffer (front ++ a ∷ s)) ≡ Ok Less
unfolding compared ◌>>=◌
shorter_buffer w front a s = ap (λ o. Ok o) (front_less front a s)

pub ruleset values_of_one_type_are_in_a_total_order = (integers_are_ordered, strings_are_ordered, buffers_are_ordered, lesser_integer, lesser_string, shorter_string, lesser_buffer, shorter_buffer)
