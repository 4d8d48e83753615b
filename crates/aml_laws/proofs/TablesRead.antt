-- Which arguments names take while a table is read, and what the world keeps of them.
use Rattle.std.specs.Prelude.{◌≡◌, ℕ, List, Ok, Err, refl}
use Rattle.std.proofs.Common.{ap}
use Rattle.ar_space.specs.Accesses.{Accesses}
use Rattle.ar_space.specs.Change.{go_on, ◌>>=◌}
use Rattle.ar_space.specs.declared.refusal.Refusal.{Refusal}
use Rattle.aml_arities.specs.declared.arities.Arity.{Arity}
use Rattle.aml_grammar.specs.Grammar.{table_reading_within}
use Rattle.aml_grammar.specs.Shape.{trees_of}
use Rattle.aml_grammar.specs.Tree.{Tree}
use Rattle.aml_namespace.specs.Namespace.{mutexes_released}
use Rattle.aml_world.specs.state.State.{State}
use Rattle.aml_meaning.specs.Calling.{terms_kept, table_terms, table_run, ending, loaded}

module _ {S : Type 0} (w : State S) (bytes : List ℕ) where
  pub table_read : (ts : List Tree) (told : List Arity) → table_reading_within w.nesting.levels bytes w.arities ≡ Ok (ts, told) → table_terms bytes w ≡ (Ok (trees_of ts), record w { arities = told })
  unfolding table_terms
  table_read ts told is = ap (λ r. terms_kept r w) is

  pub table_unread : (e : Refusal) → table_reading_within w.nesting.levels bytes w.arities ≡ Err e → table_terms bytes w ≡ (Err e, w)
  unfolding table_terms
  table_unread e is = ap (λ r. terms_kept r w) is

pub table_not_loaded : {S : Type 0} (accesses : Accesses S) (w : State S) (bytes : List ℕ) (steps : ℕ) (e : Refusal) → table_reading_within w.nesting.levels bytes w.arities ≡ Err e → loaded accesses bytes steps w ≡ (Err e, record w { names = mutexes_released w.names })
unfolding loaded ending table_run go_on ◌>>=◌
table_not_loaded accesses w bytes steps e is = rw (table_unread w bytes e is) refl
