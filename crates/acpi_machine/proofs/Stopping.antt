-- How it is known where a call stopped.
use Rattle.std.specs.Prelude.{◌≡◌, ◌≢◌, ◌⊎◌, ℕ, suc, ◌+◌, ◌<◌, List, [], ◌∷◌, length, drop, get_or, true, false, Ok, Err, IfErr}
use Rattle.std.proofs.Common.{refl, sym, ◌∙◌, ap, subst, inl, inr, drop-cons, add-one}
use Rattle.ar_space.specs.declared.refusal.Refusal.{Refusal}
use Rattle.ar_space.specs.declared.refusal.Refusal.TheVariants as refusal
use Rattle.ar_space.specs.Accesses.{Accesses}
use Rattle.ar_space.specs.Outcome.{Outcome, Answers, seen}
use Rattle.ar_space.specs.Change.{Change, Does, give, settle, go_on, ◌>>=◌}
use Rattle.ar_space.proofs.Changes.{changing}
use Rattle.aml_path.specs.declared.segment.Seg.{Seg}
use Rattle.aml_world.specs.state.Given.{Given}
use Rattle.acpi_machine.specs.MachineStates.{MachineState}
use Rattle.acpi_machine.specs.Calls.{evaluated_object}
use Rattle.acpi_machine.specs.Stops.{AllOrNone, Made, Stop, StopsEach, StopsThen}

memory_or_not : (e : Refusal) → (e ≡ refusal.OutOfMemory) ⊎ (e ≢ refusal.OutOfMemory)
memory_or_not refusal.OutOfMemory = inl refl
memory_or_not (refusal.Space f) = inr (λ q. cc q)
memory_or_not (refusal.Table f) = inr (λ q. cc q)
memory_or_not (refusal.Name f) = inr (λ q. cc q)
memory_or_not (refusal.Term f n) = inr (λ q. cc q)
memory_or_not (refusal.Value f) = inr (λ q. cc q)
memory_or_not (refusal.Field f) = inr (λ q. cc q)
memory_or_not (refusal.Namespace f) = inr (λ q. cc q)
memory_or_not (refusal.Evaluation f) = inr (λ q. cc q)
memory_or_not (refusal.Machine f) = inr (λ q. cc q)
memory_or_not (refusal.Resource f) = inr (λ q. cc q)
memory_or_not (refusal.RoutingTable f) = inr (λ q. cc q)
memory_or_not (refusal.Routing f) = inr (λ q. cc q)
memory_or_not (refusal.Report f) = inr (λ q. cc q)
memory_or_not (refusal.Input f) = inr (λ q. cc q)

-- a change, however it ends, where want of memory in it leaves a machine spent that wasn't
pub made : {S A B : Type 0} {after : MachineState S} (m : Change (MachineState S) B) (before : MachineState S) (r : Outcome A) (view : A → B)
    → Does (seen view r) after m before → IfErr r (λ e. e ≡ refusal.OutOfMemory → after.spent ≡ true) → before.spent ≡ false → Made m before after
made m before (Ok a) view d h unspent = record { is = inr (ap (λ x. x.1) (d.is tt)) }
made {after = after} m before (Err e) view d h unspent = by (memory_or_not e)
  where
    by : (e ≡ refusal.OutOfMemory) ⊎ (e ≢ refusal.OutOfMemory) → Made m before after
    by (inl q) = record { is = inl (unspent, h q) }
    by (inr ne) = record { is = inr (ap (λ x. x.1) (d.is ne)) }

-- the same, where the value is the change's own
pub made_plain : {S B : Type 0} {after : MachineState S} (m : Change (MachineState S) B) (before : MachineState S) (r : Outcome B)
    → Does r after m before → IfErr r (λ e. e ≡ refusal.OutOfMemory → after.spent ≡ true) → before.spent ≡ false → Made m before after
made_plain m before (Ok b) d h unspent = made m before (Ok b) (λ x. x) d h unspent
made_plain m before (Err e) d h unspent = made m before (Err e) (λ x. x) d h unspent

-- nothing is made
pub none_made : {S A : Type 0} {m : Change (MachineState S) A} {s : MachineState S} → AllOrNone m s s
none_made = record { is = inl refl }

pub all_made : {S A : Type 0} {m : Change (MachineState S) A} {s t : MachineState S} → Made m s t → AllOrNone m s t
all_made h = record { is = inr h }

-- an object that is evaluated without arguments
pub made_asked : {S : Type 0} {s t : MachineState S} (accesses : Accesses S) (p : List Seg) (arguments : List Given) → Made (evaluated_object accesses p arguments) s t → arguments ≡ [] → AllOrNone (evaluated_object accesses p []) s t
made_asked {s = s} {t = t} accesses p arguments h none = all_made (subst (λ gs. Made (evaluated_object accesses p gs) s t) none h)

-- two changes that leave the same
pub made_as : {S A B : Type 0} {s t : MachineState S} (m : Change (MachineState S) A) (n : Change (MachineState S) B) → (m s).1 ≡ (n s).1 → AllOrNone m s t → AllOrNone n s t
made_as {s = s} {t = t} m n e h = record { is = by h.is }
  where
    by_made : ((s.spent ≡ false) × (t.spent ≡ true)) ⊎ ((m s).1 ≡ t) → ((s.spent ≡ false) × (t.spent ≡ true)) ⊎ ((n s).1 ≡ t)
    by_made (inl spent) = inl spent
    by_made (inr x) = inr (sym e ∙ x)

    by : (s ≡ t) ⊎ Made m s t → (s ≡ t) ⊎ Made n s t
    by (inl same) = inl same
    by (inr x) = inr (record { is = by_made x.is })

-- what comes before it leaves the machine as it was
pub made_settled : {S A B : Type 0} {a : A} {s t : MachineState S} (x : Outcome A) (k : A → Change (MachineState S) B) → Answers (Ok a) x → AllOrNone (k a) s t → AllOrNone (settle x >>= k) s t
unfolding ◌>>=◌ go_on settle
made_settled {a = a} {s = s} x k h i = made_as (k a) (settle x >>= k) (rw (h.is tt) refl) i

pub made_after : {S A B : Type 0} {a : A} {s t : MachineState S} (m : Change (MachineState S) A) (k : A → Change (MachineState S) B) → Does (Ok a) s m s → AllOrNone (k a) s t → AllOrNone (m >>= k) s t
unfolding ◌>>=◌ go_on
made_after {a = a} {s = s} m k h i = made_as (k a) (m >>= k) (rw (h.is tt) refl) i

-- what comes behind it leaves the machine as it is
pub keeps : {S A B : Type 0} (r : Outcome A) (u : MachineState S) (k : A → Change (MachineState S) B) → ((a : A) → (k a u).1 ≡ u) → (go_on r u k).1 ≡ u
unfolding go_on
keeps (Ok a) u k same = same a
keeps (Err e) u k same = refl

pub made_before : {S A B : Type 0} {s t : MachineState S} (m : Change (MachineState S) A) (k : A → Change (MachineState S) B) → ((a : A) (u : MachineState S) → (k a u).1 ≡ u) → AllOrNone m s t → AllOrNone (m >>= k) s t
unfolding ◌>>=◌
made_before {s = s} m k same i = made_as m (m >>= k) (sym (keeps (m s).0 (m s).1 k (λ a. same a (m s).1))) i

pub made_given : {S A B : Type 0} {s t : MachineState S} (m : Change (MachineState S) A) (g : A → B) → AllOrNone m s t → AllOrNone (m >>= (λ a. give (g a))) s t
unfolding give
made_given m g i = made_before m (λ a. give (g a)) (λ a u. refl) i

pub made_then_settled : {S A B : Type 0} {s t : MachineState S} (m : Change (MachineState S) A) (g : A → Outcome B) → AllOrNone m s t → AllOrNone (m >>= (λ a. settle (g a))) s t
unfolding settle
made_then_settled m g i = made_before m (λ a. settle (g a)) (λ a u. refl) i

pub made_then_tested : {S A B C : Type 0} {s t : MachineState S} (m : Change (MachineState S) A) (x : A → Outcome B) (g : A → B → C) → AllOrNone m s t → AllOrNone (m >>= (λ a. settle (x a) >>= (λ b. give (g a b)))) s t
unfolding give settle ◌>>=◌
made_then_tested m x g i = made_before m (λ a. settle (x a) >>= (λ b. give (g a b))) (λ a u. keeps (x a) u (λ b. give (g a b)) (λ b. refl)) i

-- these close a chain in which one object is evaluated at most
pub ruleset making = (none_made, all_made, made_asked, made_settled, made_after, made_given, made_then_settled, made_then_tested)

-- and these its value too
pub ruleset evaluating = (changing, making)

pub stops_first : {S A : Type 0} {first : Change (MachineState S) A} {within : Stop S} {next : A → Stop S} {s t : MachineState S} → within s t → StopsThen first within next s t
stops_first h = record { is = inl h }

pub stops_next : {S A : Type 0} {first : Change (MachineState S) A} {within : Stop S} {next : A → Stop S} {a : A} {s t u : MachineState S} → Does (Ok a) t first s → next a t u → StopsThen first within next s u
stops_next {a = a} {t = t} d h = record { is = inr (a, t, d.is tt, h) }

-- a loop so far: what stops in the rest from here stops in all from the start
pub record Goes {S : Type 0} (all : Stop S) (start : MachineState S) (rest : Stop S) (here : MachineState S) : Type 0 where
  pub is : (after : MachineState S) → rest here after → all start after

pub goes_start : {S : Type 0} {all : Stop S} {s : MachineState S} → Goes all s all s
goes_start = record { is = λ _ h. h }

module _ {S A B : Type 0} (f : A → Change (MachineState S) B) (within : A → Stop S) where
  -- before the first
  each_start : ((x : A) (s : MachineState S) → within x s s) → (xs : List A) (s : MachineState S) → StopsEach f within xs s s
  each_start none [] s = refl
  each_start none (x ∷ xs) s = stops_first (none x s)

  module _ {all : Stop S} {start here : MachineState S} where
    pub stops_here : ((x : A) (s : MachineState S) → within x s s) → (xs : List A) → Goes all start (StopsEach f within xs) here → all start here
    stops_here none xs h = h.is here (each_start none xs here)

    turned : (xs : List A) (i : ℕ) (x : A) → Goes all start (StopsEach f within (drop i xs)) here → i < length xs → x ≡ get_or xs i x
        → Goes all start (StopsThen (f x) (within x) (λ _. StopsEach f within (drop (i + 1) xs))) here
    turned xs i x h l at =
        let first : drop i xs ≡ x ∷ drop (i + 1) xs = rw add-one (drop-cons xs i x l ∙ ap (λ y. y ∷ drop (suc i) xs) (sym at)) in
        subst (λ ys. Goes all start (StopsEach f within ys) here) first h

    pub stops_in : {after : MachineState S} (xs : List A) (i : ℕ) (x : A) → Goes all start (StopsEach f within (drop i xs)) here → i < length xs → x ≡ get_or xs i x → within x here after → all start after
    stops_in {after = after} xs i x h l at w = (turned xs i x h l at).is after (stops_first w)

    pub goes_on : {after : MachineState S} {b : B} (xs : List A) (i : ℕ) (x : A) → Goes all start (StopsEach f within (drop i xs)) here → i < length xs → x ≡ get_or xs i x → Does (Ok b) after (f x) here
        → Goes all start (StopsEach f within (drop (i + 1) xs)) after
    goes_on xs i x h l at d = record { is = λ u w. (turned xs i x h l at).is u (stops_next d w) }
