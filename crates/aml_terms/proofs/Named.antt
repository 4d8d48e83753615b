-- What follows for names that are read where bytes stand.
use Rattle.std.specs.Prelude.{◌≡◌, ◌≢◌, Ok, Err, refl}
use Rattle.std.proofs.Common.{ap}
use Rattle.ar_space.specs.declared.refusal.Refusal.{Refusal}
use Rattle.ar_space.specs.declared.refusal.Refusal.TheVariants.{OutOfMemory}
use Rattle.ar_space.specs.Outcome.{Outcome, Answers}
use Rattle.ar_space.proofs.Outcomes.{answering}
use Rattle.aml_path.specs.Paths.{Name}
use Rattle.aml_grammar.specs.Names.{name_string}
use Rattle.aml_marks.specs.Marked.{Place, bare_state, or_root, a_name}

pub named_ok : {n : Name} (p : Place) → Answers (Ok n) (name_string (bare_state p)).0 → Answers (Ok n) (Ok (a_name p).0)
unfolding a_name
named_ok p h = record { is = λ ne. ap (λ (r : Outcome Name). Ok (or_root r)) (h.is tt) }

pub named_none : {e : Refusal} (p : Place) → e ≢ OutOfMemory → Answers {A = Name} (Err e) (name_string (bare_state p)).0 → Answers (Ok (or_root (Err e))) (Ok (a_name p).0)
unfolding a_name
named_none p ne h = record { is = λ _. ap (λ (r : Outcome Name). Ok (or_root r)) (h.is ne) }

pub no_memory : {A : Type 0} (x : Outcome A) → Answers {A = A} (Err OutOfMemory) x
no_memory x = record { is = λ ne. absurd (ne refl) }

pub ruleset naming = (named_ok, named_none, no_memory, answering)
