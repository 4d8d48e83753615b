-- The target that a term is, by its kind; RefOf is what its operand names.
use Rattle.std.specs.Prelude.{◌≡◌, ℕ, List, Some, Ok, Err, refl}
use Rattle.std.proofs.Common.{◌∙◌}
use Rattle.ar_space.specs.Outcome.{Outcome}
use Rattle.ar_space.specs.Change.{Change, Does, settle, go_on, ◌>>=◌}
use Rattle.aml_path.specs.declared.segment.Seg.{Seg}
use Rattle.aml_grammar.specs.declared.opcode.TermCode.{TermCode}
use Rattle.aml_grammar.specs.Tree.{Tree, term, Part, null, name, number, bytes, inner, list, Parts, no_parts, part}
use Rattle.aml_grammar.specs.Apart.{code_of}
use Rattle.aml_world.specs.declared.values.store_target.StoreTarget.{StoreTarget}
use Rattle.aml_world.specs.state.State.{State}
use Rattle.aml_world.specs.state.Run.{Run, charge}
use Rattle.aml_meaning.specs.declared.flow.Flow.{Flow}
use Rattle.aml_meaning.specs.declared.term_kind.TargetKind.{TargetKind}
use Rattle.aml_meaning.specs.declared.term_kind.TargetKind.TheVariants as kinds
use Rattle.aml_meaning.specs.Tasks.{Task}
use Rattle.aml_meaning.specs.Terms.{target_kind}
use Rattle.aml_meaning.specs.TargetTerms.{name_target, target_by_kind, target_of, first_target, part_target, target_by, target_at}

go_same : {H A B : Type 0} (r : Outcome A) (h : H) (k l : A → Change H B) → ((a : A) (i : H) → k a i ≡ l a i) → go_on r h k ≡ go_on r h l
unfolding go_on
go_same (Ok a) h k l e = e a h
go_same (Err x) h k l e = refl

module _ {S : Type 0} (ev : Task → Run S Flow) where
  part_is : (scope : List Seg) (depth : ℕ) (c : TermCode) (p : Part) (qs : Parts) (s : State S × ℕ) → part_target ev scope depth p s ≡ target_by ev scope depth (term c (part p qs)) 0 (Some p) s
  unfolding part_target name_target settle ◌>>=◌ go_on
  part_is scope depth c null qs s = refl
  part_is scope depth c (name n) qs s = refl
  part_is scope depth c (number n) qs s = refl
  part_is scope depth c (bytes bs) qs s = refl
  part_is scope depth c (inner u) qs s = refl
  part_is scope depth c (list ts) qs s = refl

  first_is : (scope : List Seg) (depth : ℕ) (c : TermCode) (ps : Parts) (s : State S × ℕ) → first_target ev scope depth ps s ≡ target_at ev scope depth (term c ps) 0 s
  unfolding first_target
  first_is scope depth c no_parts s = refl
  first_is scope depth c (part p qs) s = part_is scope depth c p qs s

  by_kind_is : (scope : List Seg) (depth : ℕ) (t : Tree) (m k : Run S StoreTarget) (kind : TargetKind) (s : State S × ℕ) → ((u : State S × ℕ) → m u ≡ k u) → target_by_kind ev scope depth t m kind s ≡ target_by_kind ev scope depth t k kind s
  unfolding ◌>>=◌
  by_kind_is scope depth t m k kinds.Nowhere s e = refl
  by_kind_is scope depth t m k (kinds.Slot slot) s e = refl
  by_kind_is scope depth t m k kinds.RefOf s e = go_same (charge s).0 (charge s).1 _ _ (λ a u. e u)
  by_kind_is scope depth t m k kinds.DerefOf s e = refl
  by_kind_is scope depth t m k kinds.Index s e = refl
  by_kind_is scope depth t m k kinds.Other s e = refl

  target_is : (scope : List Seg) (depth : ℕ) (t : Tree) (s : State S × ℕ) → target_of ev scope depth t s ≡ target_by_kind ev scope depth t (target_at ev scope depth t 0) (target_kind (code_of t)) s
  unfolding target_of
  target_is scope depth (term c ps) s = by_kind_is scope depth (term c ps) _ _ (target_kind c) s (first_is scope depth c ps)

  pub does_target_of : {r : Outcome StoreTarget} {s s1 : State S × ℕ} (scope : List Seg) (depth : ℕ) (t : Tree) → Does r s1 (target_by_kind ev scope depth t (target_at ev scope depth t 0) (target_kind (code_of t))) s → Does r s1 (target_of ev scope depth t) s
  does_target_of {s = s} scope depth t h = record { is = λ ne. target_is scope depth t s ∙ h.is ne }
