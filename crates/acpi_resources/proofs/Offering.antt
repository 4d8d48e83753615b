-- One item more of a _PRS.
use Rattle.std.proofs.Common.{◌≡◌, ℕ, List, [], ◌∷◌, Option, Some, Ok, Err, sym, ap, ◌∙◌}
use Rattle.std.specs.Prelude.{IsErr, IsErrAnd, ok_or}
use Rattle.ar_space.specs.Outcome.{Outcome, Answers, ◌>>=◌}
use Rattle.ar_space.proofs.Outcomes.{answers_ok, answers_err, answers_itself}
use Rattle.ar_space.specs.declared.refusal.Refusal.{Refusal}
use Rattle.ar_space.specs.declared.refusal.Refusal.TheVariants.{Resource}
use Rattle.ar_space.specs.declared.refusal.ResourceFault.TheVariants as fault
use Rattle.acpi_resources.specs.declared.descriptor.Descriptor.{Descriptor}
use Rattle.acpi_resources.specs.declared.descriptor.Descriptor.TheVariants.{Interrupts, DependentFunctions, EndTag, Other}
use Rattle.acpi_resources.specs.declared.exclusives.Exclusives.{Exclusives}
use Rattle.acpi_resources.specs.Items.{ResourceItem}
use Rattle.acpi_resources.specs.Records.{InterruptDescriptor, InterruptOffer}
use Rattle.acpi_resources.specs.Descriptors.{descriptor_of}
use Rattle.acpi_resources.specs.Offers.{the_offer, offered_from, offered, possible_as}

pub answers_same : {A : Type 0} {r x y : Outcome A} → y ≡ x → Answers r x → Answers r y
answers_same e h = record { is = λ ne. e ∙ h.is ne }

pub answers_equal : {A : Type 0} {r x : Outcome A} → r ≡ x → Answers r x
answers_equal e = record { is = λ _. sym e }

-- which variant a descriptor is
pub arm : (item : ResourceItem) (d e : Descriptor) → Ok d ≡ descriptor_of item → d ≡ e → Ok e ≡ descriptor_of item
arm item d e is same = ap (λ x. Ok x) (sym same) ∙ is

module _ (exclusives : Exclusives) (bytes : List ℕ) (found : Option InterruptOffer) (items rest : List ResourceItem) (item : ResourceItem) (so_far : possible_as exclusives bytes ≡ offered exclusives found items) (first : items ≡ item ∷ rest) where
  turn : possible_as exclusives bytes ≡ (descriptor_of item >>= (λ d. offered_from exclusives (λ now. offered exclusives now rest) found d))
  unfolding offered
  turn = so_far ∙ ap (λ all. offered exclusives found all) first

  pub item_refused : (r : Outcome InterruptOffer) (e : Refusal) → Err e ≡ descriptor_of item → IsErr r × IsErrAnd r (λ x. x ≡ e) → Answers r (possible_as exclusives bytes)
  item_refused r e is i = answers_same turn (answers_err {r = r} (descriptor_of item) _ (answers_equal is) i)

  pub item_taken : (r : Outcome InterruptOffer) (d : Descriptor) → Ok d ≡ descriptor_of item → Answers r (offered_from exclusives (λ now. offered exclusives now rest) found d) → Answers r (possible_as exclusives bytes)
  item_taken r d is h = answers_same turn (answers_ok {r = r} (descriptor_of item) _ (answers_equal is) h)

  pub interrupts_refused : (r : Outcome InterruptOffer) (d : InterruptDescriptor) (e : Refusal) → Ok (Interrupts d) ≡ descriptor_of item → Answers (Err e) (the_offer exclusives found d) → IsErr r × IsErrAnd r (λ x. x ≡ e) → Answers r (possible_as exclusives bytes)
  unfolding offered_from
  interrupts_refused r d e is h i = item_taken r (Interrupts d) is (answers_err {r = r} (the_offer exclusives found d) _ h i)

  pub interrupts_taken : (d : InterruptDescriptor) (offer : InterruptOffer) → Ok (Interrupts d) ≡ descriptor_of item → Answers (Ok offer) (the_offer exclusives found d) → possible_as exclusives bytes ≡ offered exclusives (Some offer) rest
  unfolding offered_from ◌>>=◌
  interrupts_taken d offer is h =
      turn
      ∙ ap (λ x. x >>= (λ d. offered_from exclusives (λ now. offered exclusives now rest) found d)) (sym is)
      ∙ ap (λ x. x >>= (λ offer. offered exclusives (Some offer) rest)) (h.is tt)

  pub dependent_functions : Ok DependentFunctions ≡ descriptor_of item → Answers (Err (Resource fault.Dependent)) (possible_as exclusives bytes)
  unfolding offered_from
  dependent_functions is = item_taken _ DependentFunctions is answers_itself

  pub other_descriptor : (tag : ℕ) → Ok (Other tag) ≡ descriptor_of item → Answers (Err (Resource (fault.Descriptor tag))) (possible_as exclusives bytes)
  unfolding offered_from
  other_descriptor tag is = item_taken _ (Other tag) is answers_itself

  pub end_tag : (r : Outcome InterruptOffer) → Ok EndTag ≡ descriptor_of item → r ≡ ok_or found (Resource fault.NoInterrupt) → Answers r (possible_as exclusives bytes)
  unfolding offered_from
  end_tag r is e = item_taken r EndTag is (answers_equal e)

pub no_end : (exclusives : Exclusives) (bytes : List ℕ) (found : Option InterruptOffer) (items : List ResourceItem) → possible_as exclusives bytes ≡ offered exclusives found items → items ≡ [] → Answers (Err (Resource fault.NoEnd)) (possible_as exclusives bytes)
unfolding offered
no_end exclusives bytes found items so_far none =
    answers_same (so_far ∙ ap (λ all. offered exclusives found all) none) answers_itself
