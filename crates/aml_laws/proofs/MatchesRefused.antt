-- Match is refused for an operator that there isn't and for operands of another type, and an element that doesn't convert matches no object.
use Rattle.std.specs.Prelude.{◌≡◌, ◌⊎◌, ◌<◌, ◌==◌, ℕ, suc, List, true, false, Option, Some, None, Ok, Err, refl}
use Rattle.std.proofs.Common.{arith, inl, inr, ◌∙◌}
use Rattle.std.proofs.lemmas.Bool.Decides.{nat_tests}
use Rattle.ar_space.specs.declared.integer_width.IntegerWidth.{IntegerWidth}
use Rattle.ar_space.specs.declared.refusal.Refusal.{Refusal}
use Rattle.ar_space.specs.declared.refusal.Refusal.TheVariants as refusal
use Rattle.ar_space.specs.declared.refusal.ValueFault.TheVariants.{WrongType}
use Rattle.ar_space.specs.Accesses.{Accesses}
use Rattle.ar_space.specs.Change.{give, settle, go_on, ◌>>=◌}
use Rattle.aml_path.specs.declared.segment.Seg.{Seg}
use Rattle.aml_grammar.specs.declared.opcode.Opcode.TheVariants as opcodes
use Rattle.aml_grammar.specs.Tree.{Tree}
use Rattle.aml_objects.specs.Contents.{Content}
use Rattle.aml_objects.specs.declared.object.Element.{Element}
use Rattle.aml_objects.specs.declared.value.Value.{Value}
use Rattle.aml_objects.specs.declared.value.Value.TheVariants as value
use Rattle.aml_convert.specs.Conversions.{compared}
use Rattle.aml_convert.specs.Matching.{match_operator, is_match}
use Rattle.aml_convert.specs.declared.matching.MatchOperator.{MatchOperator}
use Rattle.aml_world.specs.declared.values.searches.MatchTest.{MatchTest}
use Rattle.aml_world.specs.state.State.{State}
use Rattle.aml_world.specs.state.Run.{lift}
use Rattle.aml_world.specs.values.Searches.{package_of, test_with, test_of, search_begun}
use Rattle.aml_meaning.specs.Tasks.{task, operand_value, value_at}
use Rattle.aml_meaning.specs.MatchTerms.{match_rule}
use Rattle.aml_meaning.specs.Evaluation.{rule}
use Rattle.aml_meaning.specs.Meaning.{meaning}
use Rattle.aml_laws.specs.OperatorTerms.{IsRefused}
use Rattle.aml_laws.specs.MatchedTerms.{match, IsNumberOf, mtr, meq, mle, mlt, mge, mgt, GivesOperands, Matches, IsNoPackage}
use Rattle.aml_laws.specs.StoredParts.{IsNoData, uninitialized, a_package, a_reference}
use Rattle.aml_laws.proofs.TreesCost.{term_begins}
use Rattle.aml_laws.proofs.MatchesFound.{numbered}
use Rattle.aml_laws.proofs.WideAsked.{asked_in_wide}

no_operator : (n : ℕ) → 5 < n → match_operator n ≡ None
no_operator n more =
    let a : (n == 0) ≡ false = grind (arith, nat_tests) in
    let b : (n == 1) ≡ false = grind (arith, nat_tests) in
    let c : (n == 2) ≡ false = grind (arith, nat_tests) in
    let d : (n == 3) ≡ false = grind (arith, nat_tests) in
    let e : (n == 4) ≡ false = grind (arith, nat_tests) in
    let f : (n == 5) ≡ false = grind (arith, nat_tests) in
    rw (a, b, c, d, e, f) refl

module _ {S : Type 0} (accesses : Accesses S) (scope : List Seg) (depth : ℕ) (p x y i : Tree) (w : State S) (steps : ℕ) (es : List Element) (a b start : ℕ) (after : State S × ℕ) (h : Matches accesses scope depth p x y i (w, steps) es a b start after) (j m : ℕ) where
  asked_so : rule accesses (meaning accesses) (task scope depth (match p j x m y i)) (w, steps) ≡ match_rule accesses (meaning accesses) scope depth (match p j x m y i) (w, steps)
  unfolding rule
  asked_so = asked_in_wide opcodes.Match w steps h.operands.wide (match_rule accesses (meaning accesses) scope depth (match p j x m y i))

  first_stops : 5 < j → match_rule accesses (meaning accesses) scope depth (match p j x m y i) (w, steps) ≡ (Err (refusal.Value WrongType), after)
  unfolding match_rule search_begun value_at operand_value settle lift give go_on ◌>>=◌
  first_stops more = rw (h.operands.gives_package, h.operands.gives_first, h.operands.gives_second, h.operands.gives_start, no_operator j more) refl

  second_stops : (k : MatchOperator) → IsNumberOf j k → 5 < m → match_rule accesses (meaning accesses) scope depth (match p j x m y i) (w, steps) ≡ (Err (refusal.Value WrongType), after)
  unfolding match_rule search_begun value_at operand_value settle lift give go_on ◌>>=◌
  second_stops k one more = rw (h.operands.gives_package, h.operands.gives_first, h.operands.gives_second, h.operands.gives_start, numbered j k one, no_operator m more) refl

  pub no_first_operator : 5 < j → IsRefused accesses scope depth (match p j x m y i) (w, suc steps) (refusal.Value WrongType) after
  no_first_operator more = (term_begins accesses (task scope depth (match p j x m y i))).paid w steps ∙ (asked_so ∙ first_stops more)

  pub no_second_operator : (k : MatchOperator) → IsNumberOf j k → 5 < m → IsRefused accesses scope depth (match p j x m y i) (w, suc steps) (refusal.Value WrongType) after
  no_second_operator k one more = (term_begins accesses (task scope depth (match p j x m y i))).paid w steps ∙ (asked_so ∙ second_stops k one more)

-- ---- operands that are no package or no data

no_package : (c : Value) → IsNoPackage c → package_of c ≡ Err (refusal.Value WrongType)
no_package value.Uninitialized not = refl
no_package (value.Integer n) not = refl
no_package (value.String o) not = refl
no_package (value.Buffer o) not = refl
no_package (value.Package o) not = absurd (not o refl)
no_package (value.Reference r) not = refl

no_test : (j : ℕ) (u : Value) → IsNoData u → test_of j u ≡ Err (refusal.Value WrongType)
no_test j u none = by (match_operator j) u none
  where
    by : (operator : Option MatchOperator) (u : Value) → IsNoData u → test_with operator u ≡ Err (refusal.Value WrongType)
    by None _ none = refl
    by (Some k) _ uninitialized = refl
    by (Some k) _ (a_package o) = refl
    by (Some k) _ (a_reference r) = refl

-- a refusal of these operands is one of the type
package_or_not : (c : Value) → ((o : ℕ) × (package_of c ≡ Ok o)) ⊎ (package_of c ≡ Err (refusal.Value WrongType))
package_or_not value.Uninitialized = inr refl
package_or_not (value.Integer n) = inr refl
package_or_not (value.String o) = inr refl
package_or_not (value.Buffer o) = inr refl
package_or_not (value.Package o) = inl (o, refl)
package_or_not (value.Reference r) = inr refl

test_or_not : (j : ℕ) (u : Value) → ((t : MatchTest) × (test_of j u ≡ Ok t)) ⊎ (test_of j u ≡ Err (refusal.Value WrongType))
test_or_not j u = by (match_operator j) u
  where
    by : (operator : Option MatchOperator) (u : Value) → ((t : MatchTest) × (test_with operator u ≡ Ok t)) ⊎ (test_with operator u ≡ Err (refusal.Value WrongType))
    by None u = inr refl
    by (Some k) value.Uninitialized = inr refl
    by (Some k) (value.Integer n) = inl (record { operator = k; object = value.Integer n }, refl)
    by (Some k) (value.String o) = inl (record { operator = k; object = value.String o }, refl)
    by (Some k) (value.Buffer o) = inl (record { operator = k; object = value.Buffer o }, refl)
    by (Some k) (value.Package o) = inr refl
    by (Some k) (value.Reference r) = inr refl

module _ {S : Type 0} (w : State S) (c u v t : Value) (j m : ℕ) where
  begun_without_package : package_of c ≡ Err (refusal.Value WrongType) → search_begun c j u m v t w ≡ (Err (refusal.Value WrongType), w)
  unfolding search_begun settle go_on ◌>>=◌
  begun_without_package none = rw none refl

  begun_without_first : (o : ℕ) → package_of c ≡ Ok o → test_of j u ≡ Err (refusal.Value WrongType) → search_begun c j u m v t w ≡ (Err (refusal.Value WrongType), w)
  unfolding search_begun settle go_on ◌>>=◌
  begun_without_first o is none = rw (is, none) refl

  begun_without_second : (o : ℕ) (x : MatchTest) → package_of c ≡ Ok o → test_of j u ≡ Ok x → test_of m v ≡ Err (refusal.Value WrongType) → search_begun c j u m v t w ≡ (Err (refusal.Value WrongType), w)
  unfolding search_begun settle go_on ◌>>=◌
  begun_without_second o x is one none = rw (is, one, none) refl

  begun_without_tests : (test_of j u ≡ Err (refusal.Value WrongType)) ⊎ (test_of m v ≡ Err (refusal.Value WrongType)) → search_begun c j u m v t w ≡ (Err (refusal.Value WrongType), w)
  begun_without_tests (inl none) = by (package_or_not c)
    where
      by : ((o : ℕ) × (package_of c ≡ Ok o)) ⊎ (package_of c ≡ Err (refusal.Value WrongType)) → search_begun c j u m v t w ≡ (Err (refusal.Value WrongType), w)
      by (inl is) = begun_without_first is.0 is.1 none
      by (inr not) = begun_without_package not
  begun_without_tests (inr none) = by (package_or_not c) (test_or_not j u)
    where
      by : ((o : ℕ) × (package_of c ≡ Ok o)) ⊎ (package_of c ≡ Err (refusal.Value WrongType)) → ((x : MatchTest) × (test_of j u ≡ Ok x)) ⊎ (test_of j u ≡ Err (refusal.Value WrongType)) → search_begun c j u m v t w ≡ (Err (refusal.Value WrongType), w)
      by (inl is) (inl one) = begun_without_second is.0 one.0 is.1 one.1 none
      by (inl is) (inr not) = begun_without_first is.0 is.1 not
      by (inr not) first = begun_without_package not

  begun_without_operators : (5 < j) ⊎ (5 < m) → search_begun c j u m v t w ≡ (Err (refusal.Value WrongType), w)
  begun_without_operators (inl more) = begun_without_tests (inl (rw (no_operator j more) refl))
  begun_without_operators (inr more) = begun_without_tests (inr (rw (no_operator m more) refl))

  begun_not : IsNoPackage c ⊎ (IsNoData u ⊎ IsNoData v) → search_begun c j u m v t w ≡ (Err (refusal.Value WrongType), w)
  begun_not (inl none) = begun_without_package (no_package c none)
  begun_not (inr (inl none)) = begun_without_tests (inl (no_test j u none))
  begun_not (inr (inr none)) = begun_without_tests (inr (no_test m v none))

module _ {S : Type 0} (accesses : Accesses S) (scope : List Seg) (depth : ℕ) (p x y i : Tree) (w : State S) (steps : ℕ) (c u v t : Value) (after : State S × ℕ) (h : GivesOperands accesses scope depth p x y i (w, steps) c u v t after) (j m : ℕ) where
  operands_asked : rule accesses (meaning accesses) (task scope depth (match p j x m y i)) (w, steps) ≡ match_rule accesses (meaning accesses) scope depth (match p j x m y i) (w, steps)
  unfolding rule
  operands_asked = asked_in_wide opcodes.Match w steps h.wide (match_rule accesses (meaning accesses) scope depth (match p j x m y i))

  operands_stop : search_begun c j u m v t after.0 ≡ (Err (refusal.Value WrongType), after.0) → match_rule accesses (meaning accesses) scope depth (match p j x m y i) (w, steps) ≡ (Err (refusal.Value WrongType), after)
  unfolding match_rule value_at operand_value settle lift give go_on ◌>>=◌
  operands_stop is = rw (h.gives_package, h.gives_first, h.gives_second, h.gives_start, is) refl

  pub no_operators : (5 < j) ⊎ (5 < m) → IsRefused accesses scope depth (match p j x m y i) (w, suc steps) (refusal.Value WrongType) after
  no_operators more = (term_begins accesses (task scope depth (match p j x m y i))).paid w steps ∙ (operands_asked ∙ operands_stop (begun_without_operators after.0 c u v t j m more))

  pub no_match : IsNoPackage c ⊎ (IsNoData u ⊎ IsNoData v) → IsRefused accesses scope depth (match p j x m y i) (w, suc steps) (refusal.Value WrongType) after
  no_match none = (term_begins accesses (task scope depth (match p j x m y i))).paid w steps ∙ (operands_asked ∙ operands_stop (begun_not after.0 c u v t j m none))

-- ---- elements

pub unordered_matches_not : (width : IntegerWidth) (j : ℕ) (k : MatchOperator) (o e : Content) (r : Refusal) → IsNumberOf j k → 0 < j → compared width o e ≡ Err r → is_match width k o e ≡ false
unordered_matches_not width _ _ o e r mtr some is = absurd (omega (arith, some))
unordered_matches_not width _ _ o e r meq some is = rw is refl
unordered_matches_not width _ _ o e r mle some is = rw is refl
unordered_matches_not width _ _ o e r mlt some is = rw is refl
unordered_matches_not width _ _ o e r mge some is = rw is refl
unordered_matches_not width _ _ o e r mgt some is = rw is refl

pub always_matches : (width : IntegerWidth) (k : MatchOperator) (o e : Content) → IsNumberOf 0 k → is_match width k o e ≡ true
always_matches width k o e is = by 0 k is refl
  where
    by : (j : ℕ) (k : MatchOperator) → IsNumberOf j k → j ≡ 0 → is_match width k o e ≡ true
    by _ _ mtr none = refl
    by _ _ meq none = absurd (omega arith)
    by _ _ mle none = absurd (omega arith)
    by _ _ mlt none = absurd (omega arith)
    by _ _ mge none = absurd (omega arith)
    by _ _ mgt none = absurd (omega arith)
