-- Outcomes that no fault of a reader or a writer refuses. A lemma `x_streamless` says so of x.
use Rattle.std.specs.Prelude.{◌≡◌, Ok, Err}
use Rattle.std.proofs.Common.{subst}
use Rattle.ar_space.specs.declared.refusal.Refusal.{Refusal}
use Rattle.ar_space.specs.declared.refusal.Refusal.TheVariants as refusals
use Rattle.ar_space.specs.Accesses.{Accesses}
use Rattle.ar_space.specs.Outcome.{Outcome, ◌>>=◌}
use Rattle.aml_laws.proofs.CleanOutcomes.{Clean, CleanRefusal, IsOfLine}
use Rattle.aml_laws.proofs.FaultsOfChanges.{Explained, RefusalExplained}

abbrev pub OfNoStream : Refusal → Type 0
OfNoStream (refusals.Input fault) = IsOfLine fault
OfNoStream _ = Unit {0}

abbrev pub Streamless : {A : Type 0} → Outcome A → Type 0
Streamless (Ok a) = Unit {0}
Streamless (Err e) = OfNoStream e

clean_refusal : (e : Refusal) → CleanRefusal e → OfNoStream e
clean_refusal (refusals.Space fault) apart = tt
clean_refusal (refusals.Input fault) apart = apart
clean_refusal _ apart = tt

pub clean_streamless : {A : Type 0} (x : Outcome A) → Clean x → Streamless x
clean_streamless (Ok a) clean = tt
clean_streamless (Err e) clean = clean_refusal e clean

module _ {S : Type 0} (accesses : Accesses S) where
  explained_refusal : (e : Refusal) (s t : S) → RefusalExplained accesses e s t → OfNoStream e
  explained_refusal (refusals.Input fault) s t h = h.0
  explained_refusal _ s t h = tt

  pub explained_streamless : {A : Type 0} (x : Outcome A) (s t : S) → Explained accesses x s t → Streamless x
  explained_streamless (Ok a) s t h = tt
  explained_streamless (Err e) s t h = explained_refusal e s t h

pub followed_streamless : {A B : Type 0} (x : Outcome A) (k : A → Outcome B) → Streamless x → ((a : A) → Streamless (k a)) → Streamless (x >>= k)
unfolding ◌>>=◌
followed_streamless (Ok a) k h all = all a
followed_streamless (Err e) k h all = h

-- a refusal that is answered as another call's
pub refused_streamless : {A : Type 0} (x : Outcome A) (e : Refusal) → x ≡ Err e → Streamless x → OfNoStream e
refused_streamless x e is h = subst (λ (y : Outcome _). Streamless y) is h
