-- A name that is found is used as what it was found to be.
use Rattle.std.specs.Prelude.{◌≡◌, ℕ, List, Option, Some, Ok, Err, refl}
use Rattle.std.proofs.Common.{◌∙◌}
use Rattle.ar_space.specs.declared.refusal.Refusal.{Refusal}
use Rattle.ar_space.specs.Outcome.{Outcome, seen}
use Rattle.ar_space.specs.Change.{Change, Does, go_on, ◌>>=◌, give, settle}
use Rattle.aml_path.specs.declared.segment.Seg.{Seg}
use Rattle.aml_path.specs.Paths.{Name}
use Rattle.aml_objects.specs.declared.entry.Entry.{Entry}
use Rattle.aml_namespace.specs.Search.{found}
use Rattle.aml_world.specs.declared.state.invocation.Invocation.{Invocation}
use Rattle.aml_world.specs.state.State.{State}
use Rattle.aml_world.specs.state.Readings.{arguments_of, arguments_found, entry_found, as_many}
use Rattle.aml_world.specs.state.Invocations.{invocation_of_object, invocation_found, use_found, named_use}

-- what a search found that answers by ids
pub found_is : (v : Option (List Seg × Entry)) (x : Outcome (List Seg × Entry)) → Ok v ≡ seen Some x → (f : List Seg × Entry) × (x ≡ Ok f) × (v ≡ Some f)
found_is v (Ok f) is = (f, refl, cc is)
found_is v (Err e) is = absurd (cc is)

pub refused_is : (e : Refusal) (x : Outcome (List Seg × Entry)) → Err e ≡ seen {A = List Seg × Entry} {B = Option (List Seg × Entry)} Some x → x ≡ Err e
refused_is e (Ok f) is = absurd (cc is)
refused_is e (Err d) is = cc is

-- changes that agree on a state go on alike
same_next : {S A B : Type 0} (s : S) (x : Outcome A) (k j : A → Change S B) → ((a : A) → k a s ≡ j a s) → go_on x s k ≡ go_on x s j
unfolding go_on
same_next s (Ok a) k j h = h a
same_next s (Err e) k j h = refl

module _ {S : Type 0} (w : State S) (scope : List Seg) (n : Name) (count : ℕ) where
  pub used : (f : List Seg × Entry) → found w.names.map scope n ≡ Ok f → invocation_found scope n count w ≡ use_found f count w
  unfolding invocation_found use_found arguments_found entry_found named_use ◌>>=◌ go_on give settle
  used f is = rw is (same_next w (as_many (arguments_of f.1.object) count) (λ many. named_use scope n) (λ many. settle (invocation_of_object f.0 f.1.number f.1.object)) (λ a. rw is refl))

  pub refused : (e : Refusal) → found w.names.map scope n ≡ Err e → invocation_found scope n count w ≡ (Err e, w)
  unfolding invocation_found arguments_found entry_found ◌>>=◌ go_on give settle
  refused e is = rw is refl

  pub does_use : (f : List Seg × Entry) (r : Outcome Invocation) → found w.names.map scope n ≡ Ok f → Does r w (use_found f count) w → Does r w (invocation_found scope n count) w
  does_use f r is h = record { is = λ ne. used f is ∙ h.is ne }

  pub does_refuse : (e : Refusal) → found w.names.map scope n ≡ Err e → Does (Err e) w (invocation_found scope n count) w
  does_refuse e is = record { is = λ ne. refused e is }
