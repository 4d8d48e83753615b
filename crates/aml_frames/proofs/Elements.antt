-- Elements of packages: a name, or a term whose value is the element.
use Rattle.std.specs.Prelude.{◌≡◌, ◌≢◌, ◌<◌, ◌-◌, ℕ, zero, suc, List, [], ◌∷◌, Bool, true, false, Option, Some, None, Ok, Err, refl}
use Rattle.std.proofs.Common.{◌∙◌, ap, sym, arith}
use Rattle.ar_space.specs.Accesses.{Accesses}
use Rattle.ar_space.specs.Outcome.{Outcome}
use Rattle.ar_space.specs.Change.{give, settle, stop, go_on, ◌>>=◌, ◌>>◌}
use Rattle.aml_path.specs.declared.segment.Seg.{Seg}
use Rattle.aml_grammar.specs.declared.opcode.TermCode.TheVariants as codes
use Rattle.aml_grammar.specs.declared.kinds.Row.{Row}
use Rattle.aml_grammar.specs.Apart.{code_of}
use Rattle.aml_grammar.specs.Names.{starts_name}
use Rattle.aml_grammar.specs.Shape.{parts_of}
use Rattle.aml_grammar.specs.Table.{row_of}
use Rattle.aml_grammar.specs.Tree.{Tree, term, name}
use Rattle.aml_marks.specs.Marked.{Place, Below, first, a_name, an_opcode, a_coded, a_call, a_term, a_term_in, with_row, after, gives, no_term}
use Rattle.aml_marks.proofs.Walking.{some_levels}
use Rattle.aml_grammar.specs.Grammar.{is_if}
use Rattle.aml_world.specs.state.State.{State}
use Rattle.aml_world.specs.state.Run.{Run, charge}
use Rattle.aml_meaning.specs.Tasks.{task, operand_value}
use Rattle.aml_meaning.specs.Meaning.{meaning}
use Rattle.aml_meaning.specs.Evaluation.{rule}
use Rattle.aml_meaning.specs.DataTerms.{named_element, valued_element, element_by}
use Rattle.aml_meaning.proofs.Meanings.{meaning_is}
use Rattle.aml_frames.proofs.OperandShapes.{code_stands}

code_same : (x y : Tree × Place) → x ≡ y → code_of x.0 ≡ code_of y.0
code_same x y e = rw e refl

not_called : (b : Below) (x : Option Row) (p : Place) → code_of (with_row b x p).0 ≢ codes.MethodInvocation
unfolding with_row gives
not_called b None p e = absurd (cc e)
not_called b (Some row) p e = absurd (cc (sym (code_stands b row p (is_if row.0) refl) ∙ e))

module _ (count : ℕ → ℕ) where
  -- a name stands where the term would be a call
  pub named_term : (levels : ℕ) (p : Place) → a_term count levels false p ≡ a_call (a_term count (levels - 1)) count p → 0 < levels → a_term count levels true p ≡ (term codes.Name (parts_of (name (a_name p).0 ∷ [])), (a_name p).1)
  unfolding a_term_in a_coded a_call after gives
  named_term levels p e lt = by (starts_name (first p.rest)) refl
    where
      by : (x : Bool) → starts_name (first p.rest) ≡ x → a_term count levels true p ≡ (term codes.Name (parts_of (name (a_name p).0 ∷ [])), (a_name p).1)
      by true s = some_levels count levels true p lt ∙ rw s refl
      by false s =
          let coded : a_term count levels false p ≡ with_row (a_term count (levels - 1)) (row_of (an_opcode p).0) (an_opcode p).1 = some_levels count levels false p lt ∙ rw s refl in
          absurd (not_called (a_term count (levels - 1)) (row_of (an_opcode p).0) (an_opcode p).1 (sym (code_same _ _ coded) ∙ code_same _ _ e))

  -- and any other term stands as it does elsewhere
  pub other_term : (levels : ℕ) (p : Place) → code_of (a_term count levels false p).0 ≢ codes.MethodInvocation → a_term count levels true p ≡ a_term count levels false p
  unfolding a_term a_term_in a_call after gives
  other_term zero p e = refl
  other_term (suc n) p e = by (starts_name (first p.rest)) refl
    where
      by : (x : Bool) → starts_name (first p.rest) ≡ x → a_term count (suc n) true p ≡ a_term count (suc n) false p
      by true s = absurd (e (rw s refl))
      by false s = rw s refl

module _ {S : Type 0} (accesses : Accesses S) (scope : List Seg) (depth : ℕ) where
  no_term_by : (s : State S × ℕ) (c : Outcome (Unit {0}) × (State S × ℕ)) → charge s ≡ c → valued_element (meaning accesses) scope depth no_term s ≡ named_element (meaning accesses) scope no_term s
  unfolding valued_element operand_value named_element rule settle stop ◌>>=◌ go_on
  no_term_by s (Ok u, t) e = rw (meaning_is accesses (task scope depth no_term) s, e) refl
  no_term_by s (Err x, t) e = rw (meaning_is accesses (task scope depth no_term) s, e) refl

  no_term_same : (s : State S × ℕ) → valued_element (meaning accesses) scope depth no_term s ≡ named_element (meaning accesses) scope no_term s
  no_term_same s = no_term_by s (charge s) refl

  row_same : (b : Below) (x : Option Row) (p : Place) (s : State S × ℕ) → element_by (meaning accesses) (code_of (with_row b x p).0) scope depth (with_row b x p).0 s ≡ valued_element (meaning accesses) scope depth (with_row b x p).0 s
  unfolding with_row gives
  row_same b None p s = sym (no_term_same s)
  row_same b (Some row) p s = rw (code_stands b row p (is_if row.0) refl) refl

  tree_same : (t u : Tree) (s : State S × ℕ) → t ≡ u → element_by (meaning accesses) (code_of u) scope depth u s ≡ valued_element (meaning accesses) scope depth u s → element_by (meaning accesses) (code_of t) scope depth t s ≡ valued_element (meaning accesses) scope depth t s
  tree_same t u s e f = rw e f

  coded_term : (count : ℕ → ℕ) (n : ℕ) (p : Place) → starts_name (first p.rest) ≡ false → (a_term count (suc n) false p).0 ≡ (with_row (a_term count n) (row_of (an_opcode p).0) (an_opcode p).1).0
  unfolding a_term a_term_in a_coded after gives
  coded_term count n p e = rw e refl

  called_term : (count : ℕ → ℕ) (n : ℕ) (p : Place) → starts_name (first p.rest) ≡ true → code_of (a_term count (suc n) false p).0 ≡ codes.MethodInvocation
  unfolding a_term a_term_in a_call after gives
  called_term count n p e = rw e refl

  no_levels_term : (count : ℕ → ℕ) (p : Place) → (a_term count zero false p).0 ≡ no_term
  unfolding a_term gives
  no_levels_term count p = refl

  -- a term that is no call is evaluated
  pub valued_term : (count : ℕ → ℕ) (levels : ℕ) (p : Place) (s : State S × ℕ) → code_of (a_term count levels false p).0 ≢ codes.MethodInvocation → element_by (meaning accesses) (code_of (a_term count levels false p).0) scope depth (a_term count levels false p).0 s ≡ valued_element (meaning accesses) scope depth (a_term count levels false p).0 s
  valued_term count zero p s e = tree_same (a_term count zero false p).0 no_term s (no_levels_term count p) (sym (no_term_same s))
  valued_term count (suc n) p s e = by (starts_name (first p.rest)) refl
    where
      by : (x : Bool) → starts_name (first p.rest) ≡ x → element_by (meaning accesses) (code_of (a_term count (suc n) false p).0) scope depth (a_term count (suc n) false p).0 s ≡ valued_element (meaning accesses) scope depth (a_term count (suc n) false p).0 s
      by true q = absurd (e (called_term count n p q))
      by false q = tree_same (a_term count (suc n) false p).0 (with_row (a_term count n) (row_of (an_opcode p).0) (an_opcode p).1).0 s (coded_term count n p q) (row_same (a_term count n) (row_of (an_opcode p).0) (an_opcode p).1 s)
