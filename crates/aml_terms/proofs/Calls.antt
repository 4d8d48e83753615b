-- Which terms are calls: those that begin with a name, where one stands that is no element of a package.
use Rattle.std.specs.Prelude.{◌≡◌, ◌≢◌, ◌<◌, ◌-◌, ℕ, zero, suc, Bool, true, false, Option, Some, None, if◌then◌else◌, refl}
use Rattle.std.proofs.Common.{◌∙◌, sym, ap, arith, sub-one}
use Rattle.aml_grammar.specs.declared.opcode.TermCode.TheVariants as codes
use Rattle.aml_grammar.specs.declared.kinds.Row.{Row}
use Rattle.aml_grammar.specs.Apart.{code_of}
use Rattle.aml_grammar.specs.Grammar.{is_if}
use Rattle.aml_grammar.specs.Names.{starts_name}
use Rattle.aml_grammar.specs.Table.{row_of}
use Rattle.aml_grammar.specs.Tree.{Tree}
use Rattle.aml_marks.specs.Marked.{Place, Below, first, after, gives, with_row, an_opcode, a_coded, an_else, a_call, a_named, a_term_in, a_term}

code_by : (b : Below) (row : Row) (p : Place) (other : Bool) → is_if row.0 ≡ other → code_of (with_row b (Some row) p).0 ≡ codes.Opcode row.0
unfolding with_row after gives
code_by b row p true e = rw e refl
code_by b row p false e = rw e refl

pub coded_no_call : (b : Below) (x : Option Row) (p : Place) → code_of (with_row b x p).0 ≢ codes.MethodInvocation
unfolding with_row gives
coded_no_call b None p e = absurd (cc e)
coded_no_call b (Some row) p e = absurd (cc (sym (code_by b row p (is_if row.0) refl) ∙ e))

pub else_no_call : (b : Below) (p : Place) → code_of (an_else b p).0 ≢ codes.MethodInvocation
unfolding an_else after gives
else_no_call b p e = absurd (cc e)

unnamed : (b : Below) (count : ℕ → ℕ) (element : Bool) (p : Place) → starts_name (first p.rest) ≡ false → code_of (a_term_in b count element p).0 ≢ codes.MethodInvocation
unfolding a_term_in a_coded after
unnamed b count element p e = rw e (coded_no_call b _ _)

in_element : (b : Below) (count : ℕ → ℕ) (p : Place) (x : Bool) → starts_name (first p.rest) ≡ x → code_of (a_term_in b count true p).0 ≢ codes.MethodInvocation
unfolding a_term_in after gives
in_element b count p true e = rw e (λ h. absurd (cc h))
in_element b count p false e = unnamed b count true p e

pub element_no_call : (count : ℕ → ℕ) (levels : ℕ) (p : Place) → code_of (a_term count levels true p).0 ≢ codes.MethodInvocation
unfolding a_term gives
element_no_call count zero p e = absurd (cc e)
element_no_call count (suc levels) p e = in_element (a_term count levels) count p (starts_name (first p.rest)) refl e

pub no_call : (count : ℕ → ℕ) (levels : ℕ) (p : Place) → starts_name (first p.rest) ≡ false → code_of (a_term count levels false p).0 ≢ codes.MethodInvocation
unfolding a_term gives
no_call count zero p e h = absurd (cc h)
no_call count (suc levels) p e h = unnamed (a_term count levels) count false p e h

pub no_level : (count : ℕ → ℕ) (levels : ℕ) (p : Place) → levels ≡ 0 → code_of (a_term count levels false p).0 ≢ codes.MethodInvocation
unfolding a_term gives
no_level count zero p e h = absurd (cc h)
no_level count (suc levels) p e h = absurd (omega (arith, e))

pub a_call_there : (count : ℕ → ℕ) (levels : ℕ) (p : Place) → 0 < levels → starts_name (first p.rest) ≡ true → a_term count levels false p ≡ a_call (a_term count (levels - 1)) count p
unfolding a_term a_term_in
a_call_there count zero p lt e = absurd (omega (arith, lt))
a_call_there count (suc levels) p lt e = rw (e, sub-one) refl

pub ruleset calls = (coded_no_call, else_no_call, element_no_call, no_call, no_level, a_call_there)
