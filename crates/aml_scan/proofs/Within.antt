-- What follows for a list that is gone over within fewer levels.
use Rattle.std.specs.Prelude.{◌≡◌, ◌≢◌, true, false, Bool, ℕ, nat_lt, Ok, Err, refl}
use Rattle.std.proofs.Common.{◌∙◌, ap, sym}
use Rattle.ar_space.specs.declared.refusal.Refusal.{Refusal}
use Rattle.ar_space.specs.declared.refusal.Refusal.TheVariants as refusals
use Rattle.ar_space.specs.declared.refusal.TermFault.{TermFault}
use Rattle.ar_space.specs.declared.refusal.TermFault.TheVariants as faults
use Rattle.ar_space.specs.Outcome.{Outcome, Answers, NotMemory, seen}
use Rattle.aml_grammar.specs.Grammar.{max_depth, fault_within, refusal_within, within}

-- memory runs out within any number of levels
memory_within : (levels : ℕ) (e : Refusal) → e ≡ refusals.OutOfMemory → refusal_within levels e ≡ refusals.OutOfMemory
memory_within levels e is = rw is refl

pub answers_within_ok : {A B : Type 0} (levels : ℕ) (a : A) (view : A → B) (x : Outcome B) → Answers (seen view (Ok a)) x → Answers (seen view (Ok a)) (within levels x)
answers_within_ok levels a view x h = record { is = λ ne. ap (within levels) (h.is tt) }

pub answers_within_err : {A B : Type 0} (levels : ℕ) (e f : Refusal) (view : A → B) (x : Outcome B) → f ≡ refusal_within levels e → Answers {A = B} (Err e) x → Answers (seen view (Err f)) (within levels x)
answers_within_err levels e f view x is h = record { is = λ ne. ap (within levels) (h.is (λ q. ne (is ∙ memory_within levels e q))) ∙ ap (λ y. Err y) (sym is) }

pub ruleset scanning = (answers_within_ok, answers_within_err)
