-- What follows for steps that read terms one level below, and for the operands of a term.
use Rattle.std.specs.Prelude.{◌≡◌, ℕ, suc, ◌+◌, ◌-◌, ◌<◌, ◌≤◌, List, [], ◌∷◌, ◌++◌, length, drop, true, false, Some, None, Ok, Err, IsErr, IsErrAnd, refl}
use Rattle.std.proofs.Common.{◌∙◌, ap, get_or, add-one, drop-cons, arith}
use Rattle.std.proofs.lemmas.List.{drop_all}
use Rattle.ar_space.specs.declared.refusal.Refusal.{Refusal}
use Rattle.ar_space.specs.declared.refusal.Refusal.TheVariants as refusals
use Rattle.ar_space.specs.declared.refusal.TermFault.TheVariants.{TooDeep}
use Rattle.ar_space.specs.Outcome.{Outcome, seen}
use Rattle.ar_space.specs.Change.{Does, Same, give, stop, go_on, ◌>>=◌}
use Rattle.aml_path.specs.declared.segment.Seg.{Seg}
use Rattle.aml_grammar.specs.declared.kinds.OperandKind.{OperandKind}
use Rattle.aml_grammar.specs.declared.context.Context.{Context}
use Rattle.aml_grammar.specs.declared.context.Earlier.{Earlier}
use Rattle.aml_grammar.specs.State.{State, Step}
use Rattle.aml_grammar.specs.Operands.{Read}
use Rattle.aml_grammar.specs.Tree.{Part}
use Rattle.aml_grammar.specs.Grammar.{Inner, Counting, keeping, deeper, below, term_at, operand, operands, is_nothing}
use Rattle.aml_scan.proofs.Loops.{with_front, before, front_init, front_turn, front_err, front_done}

pub below_none : (counting : Counting) (levels : ℕ) → levels ≡ 0 → below counting levels ≡ None
unfolding below
below_none counting levels e = rw e refl

pub below_some : (counting : Counting) (levels : ℕ) → 0 < levels → below counting levels ≡ Some (term_at counting (levels - 1))
unfolding below term_at
below_some counting levels some = let k : levels ≡ suc (levels - 1) = omega arith in ap (below counting) k

-- ---- the operands of a term, one after another

pub at_index : (ks : List OperandKind) (i : ℕ) (d : OperandKind) → i < length ks → drop i ks ≡ get_or ks i d ∷ drop (i + 1) ks
at_index ks i d lt = rw (add-one, drop-cons ks i d lt)

module _ (inner : Inner) (scope : List Seg) (context : Context) (start : ℕ) where
  pub operands_is : (k : OperandKind) (ks : List OperandKind) (earlier : Earlier) → is_nothing k ≡ false
      → operands inner scope context start (k ∷ ks) earlier ≡ (operand inner scope context start k earlier >>= (λ x. before x.0 (operands inner scope context start ks x.1)))
  unfolding operands
  operands_is k ks earlier some = rw some refl

  pub operands_none : (k : OperandKind) (ks : List OperandKind) (earlier : Earlier) (s : State) → is_nothing k ≡ true → operands inner scope context start (k ∷ ks) earlier s ≡ (Ok [], s)
  unfolding operands give
  operands_none k ks earlier s none = rw none refl

  pub operands_nil : (ks : List OperandKind) (earlier : Earlier) (s : State) → ks ≡ [] → operands inner scope context start ks earlier s ≡ (Ok [], s)
  unfolding operands give
  operands_nil ks earlier s none = rw none refl

  pub operands_init : (ks : List OperandKind) (earlier : Earlier) (s : State) → Same (operands inner scope context start ks earlier) s (with_front [] (operands inner scope context start (drop 0 ks) earlier)) s
  operands_init ks earlier s = front_init (operands inner scope context start ks earlier) s

  module _ {T : Step (List Part)} {first here : State} (front : List Part) (ks : List OperandKind) (i : ℕ) (d : OperandKind) (earlier : Earlier) (lt : i < length ks)
      (so_far : Same T first (with_front front (operands inner scope context start (drop i ks) earlier)) here) where
    operands_at : is_nothing (get_or ks i d) ≡ false → Same T first (with_front front (operand inner scope context start (get_or ks i d) earlier >>= (λ x. before x.0 (operands inner scope context start (drop (i + 1) ks) x.1)))) here
    operands_at some = rw (at_index ks i d lt, operands_is (get_or ks i d) (drop (i + 1) ks) earlier some) at so_far

    pub operands_turn : {after : State} {x : Part} {later : Earlier} → is_nothing (get_or ks i d) ≡ false → Does (Ok (x, later)) after (operand inner scope context start (get_or ks i d) earlier) here
        → Same T first (with_front (front ++ x ∷ []) (operands inner scope context start (drop (i + 1) ks) later)) after
    operands_turn some h = front_turn front (λ x. x.0) (operand inner scope context start (get_or ks i d) earlier) (λ x. operands inner scope context start (drop (i + 1) ks) x.1) (operands_at some) h

    pub operands_err : {C : Type 0} {after : State} {e : Refusal} (r : Outcome C) (view : C → List Part) → is_nothing (get_or ks i d) ≡ false → Does {A = Read} (Err e) after (operand inner scope context start (get_or ks i d) earlier) here
        → IsErr r × IsErrAnd r (λ z. z ≡ e) → Does (seen view r) after T first
    operands_err r view some h f = front_err r view front (operand inner scope context start (get_or ks i d) earlier) (λ x. before x.0 (operands inner scope context start (drop (i + 1) ks) x.1)) (operands_at some) h f

    pub operands_end : is_nothing (get_or ks i d) ≡ true → Does (Ok front) here T first
    operands_end none = front_done front (operands inner scope context start (drop i ks) earlier) (ap (λ l. operands inner scope context start l earlier here) (at_index ks i d lt) ∙ operands_none (get_or ks i d) (drop (i + 1) ks) earlier here none) so_far

  pub operands_done : {T : Step (List Part)} {first here : State} (front : List Part) (ks : List OperandKind) (i : ℕ) (earlier : Earlier) → length ks ≤ i → Same T first (with_front front (operands inner scope context start (drop i ks) earlier)) here → Does (Ok front) here T first
  operands_done {here = here} front ks i earlier le so_far = front_done front (operands inner scope context start (drop i ks) earlier) (operands_nil (drop i ks) earlier here (drop_all i ks le)) so_far
