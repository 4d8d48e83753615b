-- What follows a search for a declaration goes on with what stands there, at whatever path.
use Rattle.std.specs.Prelude.{◌≡◌, ℕ, List, Ok, Err, IsErr, IsErrAnd}
use Rattle.std.proofs.Common.{◌∙◌, ap, sym}
use Rattle.ar_space.specs.declared.refusal.Refusal.{Refusal}
use Rattle.ar_space.specs.Outcome.{Outcome, NotMemory, seen}
use Rattle.ar_space.specs.Change.{Change, Does, go_on, ◌>>=◌}
use Rattle.aml_path.specs.declared.segment.Seg.{Seg}
use Rattle.aml_objects.specs.declared.entry.Entry.{Entry}
use Rattle.aml_world.specs.state.State.{State}
use Rattle.aml_world.specs.values.StoreTargets.{declaration, entry_declared}

there : {S A : Type 0} {e : Entry} {r : Outcome A} {w after : State S} (x : Outcome (List Seg × Entry)) (k : List Seg × Entry → Change (State S) A)
    → seen (λ f. f.1) x ≡ Ok e → ((p : List Seg) → Does r after (k (p, e)) w) → NotMemory r → go_on x w k ≡ (r, after)
unfolding go_on
there {e = e} {w = w} (Ok f) k h i ne = let same : f.1 ≡ e = cc h in ap (λ x. k (f.0, x) w) same ∙ (i f.0).is ne
there (Err x) k h i ne = absurd (cc h)

gone : {S A : Type 0} {e : Refusal} {w : State S} (x : Outcome (List Seg × Entry)) (k : List Seg × Entry → Change (State S) A)
    → seen (λ f. f.1) x ≡ Err e → go_on x w k ≡ (Err e, w)
unfolding go_on
gone (Ok f) k h = absurd (cc h)
gone {e = e} {w = w} (Err x) k h = let same : x ≡ e = cc h in ap (λ y. (Err y, w)) same

pub declared_ok : {S A : Type 0} {e : Entry} {r : Outcome A} {w after : State S} (n : ℕ) (k : List Seg × Entry → Change (State S) A)
    → Does (Ok e) w (entry_declared n) w → ((p : List Seg) → Does r after (k (p, e)) w) → Does r after (declaration n >>= k) w
unfolding ◌>>=◌ declaration entry_declared
declared_ok n k h i = record { is = λ ne. there _ k (ap (λ x. x.0) (h.is tt)) i ne }

pub declared_err : {S A : Type 0} {e : Refusal} {r : Outcome A} {w : State S} (n : ℕ) (k : List Seg × Entry → Change (State S) A)
    → Does {A = Entry} (Err e) w (entry_declared n) w → IsErr r × IsErrAnd r (λ y. y ≡ e) → Does r w (declaration n >>= k) w
unfolding ◌>>=◌ declaration entry_declared
declared_err {r = Ok x} n k h i = absurd (cc i.0)
declared_err {r = Err x} {w = w} n k h i = record { is = λ ne. gone _ k (ap (λ y. y.0) (h.is (λ q. ne (i.1 ∙ q)))) ∙ ap (λ y. (Err y, w)) (sym i.1) }

pub ruleset declared = (declared_ok, declared_err)
