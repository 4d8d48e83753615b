-- A row of the table of terms without operands reads nothing.
use Rattle.std.specs.Prelude.{◌≡◌, ℕ, List, Bool, true, false, not, Ok, ◌&&◌, refl}
use Rattle.aml_grammar.specs.declared.kinds.Row.{Row}
use Rattle.aml_grammar.specs.declared.context.Context.{Context}
use Rattle.aml_grammar.specs.State.{State}
use Rattle.aml_grammar.specs.Grammar.{Inner, is_nothing, operands, row_operands}
use Rattle.aml_path.specs.declared.segment.Seg.{Seg}
use Rattle.ar_space.specs.Change.{Does, give}
use Rattle.aml_scan.specs.Scanned.{kept, scanned, has_no_operands}

none_read : (inner_term : Inner) (scope : List Seg) (context : Context) (start : ℕ) (row : Row) (in_package nothing : Bool) → row.2 ≡ in_package → is_nothing row.3.0 ≡ nothing → (not in_package && nothing) ≡ true → (s : State) → scanned (row_operands inner_term scope context start row) s ≡ (Ok tt, s)
unfolding kept operands give
none_read inner_term scope context start row false true p q e s = rw (p, q) refl
none_read inner_term scope context start row true nothing p q e s = absurd (cc e)
none_read inner_term scope context start row false false p q e s = absurd (cc e)

pub kept_none : (inner_term : Inner) (scope : List Seg) (context : Context) (start : ℕ) (row : Row) (s : State) → has_no_operands row ≡ true → Does (Ok tt) s (scanned (row_operands inner_term scope context start row)) s
unfolding has_no_operands
kept_none inner_term scope context start row s e = record { is = λ _. none_read inner_term scope context start row row.2 (is_nothing row.3.0) refl refl e s }
