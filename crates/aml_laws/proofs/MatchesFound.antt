-- Match finds the first element that meets both tests.
use Rattle.std.specs.Prelude.{◌≡◌, ◌⊎◌, ◌<◌, ◌≤◌, ◌+◌, ◌-◌, ◌^◌, ℕ, zero, suc, nat_lt, List, length, slice_get, get_or, Bool, true, false, Some, Ok, Err, refl, if◌then◌else◌}
use Rattle.std.proofs.Common.{inl, inr, arith, ap, sym, subst, ◌∙◌}
use Rattle.std.proofs.Math.Nat.{eq-or-lt_of_le}
use Rattle.std.proofs.lemmas.Bool.Decides.{nat_tests}
use Rattle.std.proofs.lemmas.Cmp.{ranked}
use Rattle.std.proofs.lemmas.Option.{slice_get_within, slice_get-get_or}
use Rattle.std.specs.Ordering.{nat_cmp}
use Rattle.std.specs.declared.cmp.Ordering.{Ordering}
use Rattle.std.specs.declared.cmp.Ordering.TheVariants.{Less, Equal, Greater}
use Rattle.ar_space.specs.declared.integer_width.IntegerWidth.{IntegerWidth}
use Rattle.ar_space.specs.declared.refusal.Refusal.TheVariants as refusal
use Rattle.ar_space.specs.declared.refusal.EvaluationFault.TheVariants.{IndexLimit}
use Rattle.ar_space.specs.Accesses.{Accesses}
use Rattle.ar_space.specs.Change.{give, settle, go_on, ◌>>=◌}
use Rattle.ar_space.specs.Outcome as outcome
use Rattle.aml_path.specs.declared.segment.Seg.{Seg}
use Rattle.aml_grammar.specs.declared.opcode.Opcode.TheVariants as opcodes
use Rattle.aml_grammar.specs.Tree.{Tree}
use Rattle.aml_objects.specs.Contents.{Integer}
use Rattle.aml_objects.specs.Objects.{element_at}
use Rattle.aml_objects.specs.declared.object.Element.{Element}
use Rattle.aml_objects.specs.declared.object.Element.TheVariants as element
use Rattle.aml_objects.specs.declared.object.Object.TheVariants as object
use Rattle.aml_objects.specs.declared.value.Value.TheVariants as value
use Rattle.aml_convert.specs.Integers.{bits_of}
use Rattle.aml_convert.specs.Conversions.{compared}
use Rattle.aml_convert.specs.Matching.{match_operator, is_met, is_match}
use Rattle.aml_convert.specs.declared.matching.MatchOperator.{MatchOperator}
use Rattle.aml_convert.specs.declared.matching.MatchOperator.TheVariants as operators
use Rattle.aml_world.specs.declared.values.searches.Search.{Search}
use Rattle.aml_world.specs.state.State.{State, on_objects}
use Rattle.aml_world.specs.state.Run.{Run, lift}
use Rattle.aml_world.specs.state.Readings.{integer_kept}
use Rattle.aml_world.specs.values.Operations.{size_held}
use Rattle.aml_world.specs.values.Searches.{search_begun, name_held, element_held, meets}
use Rattle.aml_meaning.specs.declared.flow.Flow.{Flow}
use Rattle.aml_meaning.specs.declared.flow.Flow.TheVariants as flow
use Rattle.aml_meaning.specs.Tasks.{task, operand_value, value_at}
use Rattle.aml_meaning.specs.MatchTerms.{none_matches, held_meets, element_meets, searched_last, match_rule}
use Rattle.aml_meaning.specs.Evaluation.{rule}
use Rattle.aml_meaning.specs.Meaning.{meaning}
use Rattle.aml_laws.specs.OperatorTerms.{Gives, IsRefused}
use Rattle.aml_laws.specs.MatchedTerms.{match, IsNumberOf, mtr, meq, mle, mlt, mge, mgt, IsMet, HoldsInteger, an_integer, a_name, HoldsNone, uninitialized, unfound, without_value, IsLookedAt, with_integer, with_none, Matches, MeetsBoth}
use Rattle.aml_laws.proofs.TreesCost.{term_begins}
use Rattle.aml_laws.proofs.ConstantsGiven.{all_kept}
use Rattle.aml_laws.proofs.WideAsked.{asked_in_wide}

-- ---- tests

pub numbered : (k : ℕ) (op : MatchOperator) → IsNumberOf k op → match_operator k ≡ Some op
numbered _ _ mtr = refl
numbered _ _ meq = refl
numbered _ _ mle = refl
numbered _ _ mlt = refl
numbered _ _ mge = refl
numbered _ _ mgt = refl

-- whether something holds is what a test says
abbrev pub IsTold : Bool → Type 0 → Type 0
IsTold b Holds = (b ≡ true → Holds) × (b ≡ false → Holds → ⊥)

yes : (Holds : Type 0) → Holds → IsTold true Holds
yes Holds h = (λ e. h, λ e. absurd (cc e))

no : (Holds : Type 0) → (Holds → ⊥) → IsTold false Holds
no Holds not = (λ e. absurd (cc e), λ e h. not h)

-- an integer that is compared
told_by : (op : MatchOperator) (n m : ℕ) (o : Ordering) → o ≡ nat_cmp m n → IsTold (is_met op o) (IsMet op n m)
told_by operators.Always n m o e = yes (IsMet operators.Always n m) tt
told_by operators.Equal n m Less e = no (n ≡ m) (λ h. absurd (omega (arith, ranked m n Less e, h)))
told_by operators.Equal n m Equal e = yes (n ≡ m) (sym (ranked m n Equal e))
told_by operators.Equal n m Greater e = no (n ≡ m) (λ h. absurd (omega (arith, ranked m n Greater e, h)))
told_by operators.LessOrEqual n m Less e = no (n ≤ m) (λ h. absurd (omega (arith, ranked m n Less e, h)))
told_by operators.LessOrEqual n m Equal e = yes (n ≤ m) (omega (arith, ranked m n Equal e))
told_by operators.LessOrEqual n m Greater e = yes (n ≤ m) (omega (arith, ranked m n Greater e))
told_by operators.Less n m Less e = no (n < m) (λ h. absurd (omega (arith, ranked m n Less e, h)))
told_by operators.Less n m Equal e = no (n < m) (λ h. absurd (omega (arith, ranked m n Equal e, h)))
told_by operators.Less n m Greater e = yes (n < m) (ranked m n Greater e)
told_by operators.GreaterOrEqual n m Less e = yes (m ≤ n) (omega (arith, ranked m n Less e))
told_by operators.GreaterOrEqual n m Equal e = yes (m ≤ n) (omega (arith, ranked m n Equal e))
told_by operators.GreaterOrEqual n m Greater e = no (m ≤ n) (λ h. absurd (omega (arith, ranked m n Greater e, h)))
told_by operators.Greater n m Less e = yes (m < n) (ranked m n Less e)
told_by operators.Greater n m Equal e = no (m < n) (λ h. absurd (omega (arith, ranked m n Equal e, h)))
told_by operators.Greater n m Greater e = no (m < n) (λ h. absurd (omega (arith, ranked m n Greater e, h)))

pub told : (width : IntegerWidth) (op : MatchOperator) (n m : ℕ) → IsTold (is_match width op (Integer m) (Integer n)) (IsMet op n m)
unfolding compared outcome.◌>>=◌
told width operators.Always n m = yes (IsMet operators.Always n m) tt
told width operators.Equal n m = told_by operators.Equal n m (nat_cmp m n) refl
told width operators.LessOrEqual n m = told_by operators.LessOrEqual n m (nat_cmp m n) refl
told width operators.Less n m = told_by operators.Less n m (nat_cmp m n) refl
told width operators.GreaterOrEqual n m = told_by operators.GreaterOrEqual n m (nat_cmp m n) refl
told width operators.Greater n m = told_by operators.Greater n m (nat_cmp m n) refl

module _ {S : Type 0} (accesses : Accesses S) (depth : ℕ) (k l : MatchOperator) (es : List Element) (a b o : ℕ) (w : State S) (steps : ℕ) (holds : slice_get w.objects o ≡ Some (object.Package es)) where
  abbrev sought : Search
  sought = record { source = o; count = length es; first = record { operator = k; object = value.Integer a }; second = record { operator = l; object = value.Integer b } }

  abbrev both : ℕ → Bool
  both n = if is_match w.width k (Integer a) (Integer n) then is_match w.width l (Integer b) (Integer n) else false

  met_by : (p q : Bool) (n : ℕ) → IsTold p (IsMet k n a) → IsTold q (IsMet l n b) → IsMet k n a → IsMet l n b → (if p then q else false) ≡ true
  met_by true true n f g x y = refl
  met_by true false n f g x y = absurd (g.1 refl y)
  met_by false q n f g x y = absurd (f.1 refl x)

  missed_by : (p q : Bool) (n : ℕ) → IsTold p (IsMet k n a) → IsTold q (IsMet l n b) → (IsMet k n a → IsMet l n b → ⊥) → (if p then q else false) ≡ false
  missed_by true true n f g not = absurd (not (f.0 refl) (g.0 refl))
  missed_by true false n f g not = refl
  missed_by false q n f g not = refl

  abbrev asked : ℕ → Run S Bool
  asked = element_meets accesses (meaning accesses) depth sought

  -- an element with an integer, and one with none
  integer_told : (i n : ℕ) (e : Element) → slice_get es i ≡ Some e → HoldsInteger w e n → asked i (w, steps) ≡ (Ok (both n), (w, steps))
  unfolding element_meets element_held name_held held_meets meets on_objects element_at lift give go_on ◌>>=◌
  integer_told i _ _ at (an_integer n) = rw (holds, at) refl
  integer_told i _ _ at (a_name name home path number n finds) = rw (holds, at, finds) refl

  none_told : (i : ℕ) (e : Element) → slice_get es i ≡ Some e → HoldsNone w e → asked i (w, steps) ≡ (Ok false, (w, steps))
  unfolding element_meets element_held name_held held_meets on_objects element_at lift give go_on ◌>>=◌
  none_told i _ at uninitialized = rw (holds, at) refl
  none_told i _ at (unfound name home finds) = rw (holds, at, finds) refl
  none_told i _ at (without_value name home path number finds) = rw (holds, at, finds) refl

  met : (i : ℕ) → MeetsBoth w k l es a b i → asked i (w, steps) ≡ (Ok true, (w, steps))
  met i h =
      integer_told i h.n h.e h.stands h.holds
      ∙ ap (λ (m : Bool). (Ok m, (w, steps))) (met_by (is_match w.width k (Integer a) (Integer h.n)) (is_match w.width l (Integer b) (Integer h.n)) h.n (told w.width k h.n a) (told w.width l h.n b) h.first h.second)

  missed : (i : ℕ) (e : Element) → slice_get es i ≡ Some e → IsLookedAt w e → (MeetsBoth w k l es a b i → ⊥) → asked i (w, steps) ≡ (Ok false, (w, steps))
  missed i e at (with_integer n h) not =
      integer_told i n e at h
      ∙ ap (λ (m : Bool). (Ok m, (w, steps)))
      (missed_by (is_match w.width k (Integer a) (Integer n)) (is_match w.width l (Integer b) (Integer n)) n (told w.width k n a) (told w.width l n b) (λ x y. not (record { e = e; n = n; stands = at; holds = h; first = x; second = y })))
  missed i e at (with_none h) not = none_told i e at h

  abbrev searched : ℕ → Run S Flow
  searched = searched_last accesses (meaning accesses) depth sought

  found_here : (n i : ℕ) → length es - suc n ≡ i → asked i (w, steps) ≡ (Ok true, (w, steps)) → searched (suc n) (w, steps) ≡ (Ok (flow.Value (value.Integer i)), (w, steps))
  unfolding searched_last give go_on ◌>>=◌
  found_here n i e is = rw (e, is) refl

  found_later : (n i : ℕ) → length es - suc n ≡ i → asked i (w, steps) ≡ (Ok false, (w, steps)) → searched (suc n) (w, steps) ≡ searched n (w, steps)
  unfolding searched_last go_on ◌>>=◌
  found_later n i e is = rw (e, is) refl

  none_left : searched zero (w, steps) ≡ (Ok (flow.Value (value.Integer (2 ^ bits_of w.width - 1))), (w, steps))
  unfolding searched_last none_matches integer_kept lift give go_on ◌>>=◌
  none_left = ap (λ (n : ℕ). (Ok (flow.Value (value.Integer n)), (w, steps))) (all_kept w.width)

  module _ (all : (q : ℕ) (e : Element) → slice_get es q ≡ Some e → IsLookedAt w e) where
    passed_over : (i : ℕ) → i < length es → (MeetsBoth w k l es a b i → ⊥) → asked i (w, steps) ≡ (Ok false, (w, steps))
    passed_over i inside not =
        let e = get_or es i (element.Value value.Uninitialized) in
        let at : slice_get es i ≡ Some e = slice_get-get_or es i (element.Value value.Uninitialized) inside in
        missed i e at (all i e at) not

    found_by : (n i j : ℕ) → ((i ≡ j) ⊎ (i < j)) → length es - suc n ≡ i → i < length es → MeetsBoth w k l es a b j → ((q : ℕ) → i ≤ q → q < j → MeetsBoth w k l es a b q → ⊥) → (i < j → searched n (w, steps) ≡ (Ok (flow.Value (value.Integer j)), (w, steps)))
        → searched (suc n) (w, steps) ≡ (Ok (flow.Value (value.Integer j)), (w, steps))
    found_by n i j (inl same) index inside h first later = found_here n i index (met i (subst (MeetsBoth w k l es a b) (sym same) h)) ∙ ap (λ (q : ℕ). (Ok (flow.Value (value.Integer q)), (w, steps))) same
    found_by n i j (inr less) index inside h first later = found_later n i index (passed_over i inside (first i (omega arith) less)) ∙ later less

    found_from : (n i j : ℕ) → i + n ≡ length es → i ≤ j → MeetsBoth w k l es a b j → ((q : ℕ) → i ≤ q → q < j → MeetsBoth w k l es a b q → ⊥) → searched n (w, steps) ≡ (Ok (flow.Value (value.Integer j)), (w, steps))
    found_from zero i j sum le h first = let within = slice_get_within es j h.e h.stands in absurd (omega (arith, sum, le, within))
    found_from (suc n) i j sum le h first =
        let index : length es - suc n ≡ i = omega (arith, sum) in
        let inside : i < length es = omega (arith, sum) in
        found_by n i j (eq-or-lt_of_le le) index inside h first (λ less. found_from n (i + 1) j (omega (arith, sum)) (omega (arith, less)) h (λ q from before. first q (omega (arith, from)) before))

    none_from : (n i : ℕ) → i + n ≡ length es → ((q : ℕ) → i ≤ q → q < length es → MeetsBoth w k l es a b q → ⊥) → searched n (w, steps) ≡ (Ok (flow.Value (value.Integer (2 ^ bits_of w.width - 1))), (w, steps))
    none_from zero i sum none = none_left
    none_from (suc n) i sum none =
        let index : length es - suc n ≡ i = omega (arith, sum) in
        let inside : i < length es = omega (arith, sum) in
        found_later n i index (passed_over i inside (none i (omega arith) inside)) ∙ none_from n (i + 1) (omega (arith, sum)) (λ q from before. none q (omega (arith, from)) before)

-- ---- the term

pub is_below : (i n : ℕ) → i < n → nat_lt i n ≡ true
is_below i n l = grind (arith, nat_tests)

pub is_past : (i n : ℕ) → n ≤ i → nat_lt i n ≡ false
is_past i n l = grind (arith, nat_tests)

module _ {S : Type 0} (accesses : Accesses S) (scope : List Seg) (depth : ℕ) (p x y i : Tree) (w : State S) (steps : ℕ) (es : List Element) (a b start : ℕ) (after : State S × ℕ) (h : Matches accesses scope depth p x y i (w, steps) es a b start after) (j m : ℕ) (k l : MatchOperator) (one : IsNumberOf j k) (other : IsNumberOf m l) where
  ruled : rule accesses (meaning accesses) (task scope depth (match p j x m y i)) (w, steps) ≡ match_rule accesses (meaning accesses) scope depth (match p j x m y i) (w, steps)
  unfolding rule
  ruled = asked_in_wide opcodes.Match w steps h.operands.wide (match_rule accesses (meaning accesses) scope depth (match p j x m y i))

  searched_by : start < length es → match_rule accesses (meaning accesses) scope depth (match p j x m y i) (w, steps) ≡ searched accesses depth k l es a b h.source after.0 after.1 h.holds (length es - start) after
  unfolding match_rule search_begun size_held value_at operand_value settle lift give go_on ◌>>=◌
  searched_by less = rw (h.operands.gives_package, h.operands.gives_first, h.operands.gives_second, h.operands.gives_start, numbered j k one, numbered m l other, h.converts, h.holds, is_below start (length es) less) refl

  searched_so : start < length es → rule accesses (meaning accesses) (task scope depth (match p j x m y i)) (w, steps) ≡ searched accesses depth k l es a b h.source after.0 after.1 h.holds (length es - start) after
  searched_so less = ruled ∙ searched_by less

  refused_by : length es ≤ start → match_rule accesses (meaning accesses) scope depth (match p j x m y i) (w, steps) ≡ (Err (refusal.Evaluation IndexLimit), after)
  unfolding match_rule search_begun size_held value_at operand_value settle lift give go_on ◌>>=◌
  refused_by past = rw (h.operands.gives_package, h.operands.gives_first, h.operands.gives_second, h.operands.gives_start, numbered j k one, numbered m l other, h.converts, h.holds, is_past start (length es) past) refl

  refused_so : length es ≤ start → rule accesses (meaning accesses) (task scope depth (match p j x m y i)) (w, steps) ≡ (Err (refusal.Evaluation IndexLimit), after)
  refused_so past = ruled ∙ refused_by past

  pub match_found : (q : ℕ) → start ≤ q → MeetsBoth after.0 k l es a b q → ((e : ℕ) → start ≤ e → e < q → MeetsBoth after.0 k l es a b e → ⊥) → Gives accesses scope depth (match p j x m y i) (w, suc steps) q after
  match_found q from meets first =
      let within = slice_get_within es q meets.e meets.stands in
      let less : start < length es = omega (arith, from, within) in
      let sum : start + (length es - start) ≡ length es = omega (arith, less) in
      (term_begins accesses (task scope depth (match p j x m y i))).paid w steps
      ∙ (searched_so less ∙ found_from accesses depth k l es a b h.source after.0 after.1 h.holds h.looked_at (length es - start) start q sum from meets first)

  pub none_found : start < length es → ((e : ℕ) → start ≤ e → e < length es → MeetsBoth after.0 k l es a b e → ⊥) → Gives accesses scope depth (match p j x m y i) (w, suc steps) (2 ^ bits_of after.0.width - 1) after
  none_found inside none =
      let less : start < length es = omega (arith, inside) in
      let sum : start + (length es - start) ≡ length es = omega (arith, less) in
      (term_begins accesses (task scope depth (match p j x m y i))).paid w steps
      ∙ (searched_so less ∙ none_from accesses depth k l es a b h.source after.0 after.1 h.holds h.looked_at (length es - start) start sum none)

  pub past_the_end : length es ≤ start → IsRefused accesses scope depth (match p j x m y i) (w, suc steps) (refusal.Evaluation IndexLimit) after
  past_the_end past = let over : length es ≤ start = omega (arith, past) in (term_begins accesses (task scope depth (match p j x m y i))).paid w steps ∙ refused_so over
