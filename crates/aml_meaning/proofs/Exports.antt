-- Steps of handing out.
use Rattle.std.specs.Prelude.{◌≡◌, ℕ, zero, suc, ◌+◌, ◌-◌, ◌<◌, ◌≤◌, List, [], ◌∷◌, ◌++◌, length, drop, get_or, Ok, Err}
use Rattle.std.proofs.Common.{arith, refl, ◌∙◌, sub-one, drop-cons, add-one}
use Rattle.std.proofs.lemmas.List.{drop_all}
use Rattle.ar_space.specs.declared.refusal.Refusal.TheVariants as refusal
use Rattle.ar_space.specs.declared.refusal.EvaluationFault.TheVariants.{ObjectLimit}
use Rattle.ar_space.specs.Accesses.{Accesses}
use Rattle.ar_space.specs.Outcome.{Outcome}
use Rattle.ar_space.specs.Change.{Does, Same, stop, give, ◌>>=◌}
use Rattle.aml_objects.specs.declared.object.Element.{Element}
use Rattle.aml_world.specs.state.State.{State}
use Rattle.aml_world.specs.state.Given.{Given}
use Rattle.aml_world.specs.state.Run.{Run}
use Rattle.aml_meaning.proofs.Runs.{running}
use Rattle.aml_meaning.specs.Exporting.{each_exported, element_exported, elements_exported, package_exported}

out_is : {S : Type 0} (accesses : Accesses S) (n o : ℕ) (s : State S × ℕ) → 0 < n → package_exported accesses n o s ≡ elements_exported accesses (package_exported accesses (n - 1)) o s
unfolding package_exported
out_is accesses zero o s l = absurd (omega arith)
out_is accesses (suc n) o s l = rw sub-one refl

out_none : {S : Type 0} (accesses : Accesses S) (n o : ℕ) (s : State S × ℕ) → n ≡ 0 → package_exported accesses n o s ≡ (Err (refusal.Evaluation ObjectLimit), s)
unfolding package_exported stop
out_none accesses n o s e = rw e refl

pub does_deeper : {S : Type 0} {r : Outcome Given} {s1 : State S × ℕ} (accesses : Accesses S) (n o : ℕ) (s : State S × ℕ) → 0 < n → Does r s1 (elements_exported accesses (package_exported accesses (n - 1)) o) s → Does r s1 (package_exported accesses n o) s
does_deeper accesses n o s l i = record { is = λ ne. out_is accesses n o s l ∙ i.is ne }

pub does_too_deep : {S : Type 0} (accesses : Accesses S) (n o : ℕ) {s : State S × ℕ} → n ≡ 0 → Does (Err (refusal.Evaluation ObjectLimit)) s (package_exported accesses n o) s
does_too_deep accesses n o {s} e = record { is = λ _. out_none accesses n o s e }

pub same_each : {S : Type 0} {s0 s : State S × ℕ} {m : Run S (List Given)} (accesses : Accesses S) (pk : ℕ → Run S Given) (es : List Element) (done : List Given) (i : ℕ) (e : Element) → Same m s0 (each_exported accesses pk (drop i es) done) s → i < length es → e ≡ get_or es i e → Same m s0 (element_exported accesses pk e >>= (λ g. each_exported accesses pk (drop (i + 1) es) (done ++ g ∷ []))) s
unfolding each_exported
same_each accesses pk es done i e h l at = record { is = h.is ∙ rw (drop-cons es i e l, ← at, add-one) refl }

pub same_more : {S : Type 0} {s0 s : State S × ℕ} {m : Run S (List Given)} (accesses : Accesses S) (pk : ℕ → Run S Given) (rest : List Element) (done more : List Given) → Same m s0 (each_exported accesses pk rest done) s → more ≡ done → Same m s0 (each_exported accesses pk rest more) s
same_more accesses pk rest done more h e = rw e h

pub each_end : {S : Type 0} {s0 s : State S × ℕ} {m : Run S (List Given)} (accesses : Accesses S) (pk : ℕ → Run S Given) (es : List Element) (done : List Given) (i : ℕ) → Same m s0 (each_exported accesses pk (drop i es) done) s → length es ≤ i → Does (Ok done) s m s0
unfolding each_exported give
each_end accesses pk es done i h l = record { is = λ _. h.is ∙ rw (drop_all i es l) refl }

pub ruleset exporting = (running, does_deeper, does_too_deep)
