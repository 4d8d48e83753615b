-- A table that is read over a world whose arities are taken out meanwhile.
use Rattle.std.specs.Prelude.{◌≡◌, ℕ, List, Ok, Err, OnErr}
use Rattle.std.proofs.Common.{◌∙◌, ap, sym}
use Rattle.ar_space.specs.Outcome.{Outcome, Answers, seen}
use Rattle.ar_space.specs.Change.{Does}
use Rattle.aml_arities.specs.declared.arities.Arity.{Arity}
use Rattle.aml_grammar.specs.Tree.{Tree}
use Rattle.aml_grammar.specs.Shape.{trees_of}
use Rattle.aml_grammar.specs.Grammar.{table_reading_within}
use Rattle.aml_world.specs.state.State.{State}
use Rattle.aml_meaning.specs.Calling.{table_terms, terms_kept}

pub table_read : {S V : Type 0} (view : V → List Tree) (r : Outcome V) (bytes : List ℕ) (w : State S) (after : List Arity) → Answers (seen (λ v. (view v, after)) r) (table_reading_within w.nesting.levels bytes w.arities) → OnErr r (after ≡ w.arities)
    → Does (seen (λ v. trees_of (view v)) r) (record w { arities = after }) (table_terms bytes) w
unfolding table_terms
table_read view (Ok v) bytes w after h same = record { is = λ ne. ap (λ x. terms_kept x w) (h.is tt) }
table_read view (Err e) bytes w after h same = record { is = λ ne. ap (λ x. terms_kept x w) (h.is ne) ∙ ap (λ a. (Err e, record w { arities = a })) (sym same) }
