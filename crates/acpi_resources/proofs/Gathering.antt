-- One item more of a _CRS.
use Rattle.std.proofs.Common.{◌≡◌, ℕ, List, [], ◌∷◌, ◌++◌, Ok, Err, refl, sym, ap, ◌∙◌}
use Rattle.std.specs.Prelude.{IsErr, IsErrAnd}
use Rattle.std.specs.Ordering.{nat_cmp}
use Rattle.std.specs.BTreeSet.{insert_key}
use Rattle.ar_space.specs.Outcome.{Outcome, Answers, ◌>>=◌}
use Rattle.ar_space.specs.declared.refusal.Refusal.{Refusal}
use Rattle.ar_space.specs.declared.refusal.Refusal.TheVariants.{Resource}
use Rattle.ar_space.specs.declared.refusal.ResourceFault.TheVariants.{NoEnd}
use Rattle.acpi_resources.specs.declared.descriptor.Descriptor.{Descriptor}
use Rattle.acpi_resources.specs.declared.descriptor.Descriptor.TheVariants.{Interrupts, DependentFunctions, EndTag, Other}
use Rattle.acpi_resources.specs.Items.{ResourceItem}
use Rattle.acpi_resources.specs.Records.{InterruptDescriptor}
use Rattle.acpi_resources.specs.Numbers.{with_numbers}
use Rattle.acpi_resources.specs.Descriptors.{descriptor_of}
use Rattle.acpi_resources.specs.Current.{numbers_from, all_numbers, current_of}
use Rattle.acpi_resources.proofs.Offering.{answers_same, answers_equal}

-- the numbers of the items, added to those before them
unfoldable pub gathered : List ℕ → List ResourceItem → Outcome (List ℕ)
gathered set items = all_numbers items >>= (λ numbers. Ok (with_numbers set numbers))

with_numbers-append : (set xs ys : List ℕ) → with_numbers set (xs ++ ys) ≡ with_numbers (with_numbers set xs) ys
unfolding with_numbers
with_numbers-append set [] ys = refl
with_numbers-append set (x ∷ xs) ys = with_numbers-append (insert_key nat_cmp set x) xs ys

joined : (set numbers : List ℕ) (behind : Outcome (List ℕ)) → ((behind >>= (λ more. Ok (numbers ++ more))) >>= (λ all. Ok (with_numbers set all))) ≡ (behind >>= (λ more. Ok (with_numbers (with_numbers set numbers) more)))
unfolding ◌>>=◌
joined set numbers (Ok more) = ap (λ x. Ok x) (with_numbers-append set numbers more)
joined set numbers (Err e) = refl

module _ (bytes set : List ℕ) (items rest : List ResourceItem) (item : ResourceItem) (so_far : current_of bytes ≡ gathered set items) (first : items ≡ item ∷ rest) where
  turn : (r : Outcome Descriptor) → r ≡ descriptor_of item → current_of bytes ≡ ((r >>= (λ d. numbers_from (all_numbers rest) d)) >>= (λ numbers. Ok (with_numbers set numbers)))
  unfolding all_numbers gathered
  turn r is =
      so_far
      ∙ ap (λ all. gathered set all) first
      ∙ ap (λ x. (x >>= (λ d. numbers_from (all_numbers rest) d)) >>= (λ numbers. Ok (with_numbers set numbers))) (sym is)

  pub item_refused : (r : Outcome (List ℕ)) (e : Refusal) → Err e ≡ descriptor_of item → IsErr r × IsErrAnd r (λ x. x ≡ e) → Answers r (current_of bytes)
  unfolding ◌>>=◌
  item_refused (Ok x) e is i = absurd (cc i.0)
  item_refused (Err x) e is i = answers_same (turn (Err e) is) (answers_equal (ap (λ y. Err y) i.1))

  pub interrupts_added : (d : InterruptDescriptor) (set' : List ℕ) → Ok (Interrupts d) ≡ descriptor_of item → set' ≡ with_numbers set d.numbers → current_of bytes ≡ gathered set' rest
  unfolding ◌>>=◌ numbers_from gathered
  interrupts_added d set' is e =
      turn (Ok (Interrupts d)) is ∙ joined set d.numbers (all_numbers rest) ∙ ap (λ s. gathered s rest) (sym e)

  pub dependent_functions : Ok DependentFunctions ≡ descriptor_of item → current_of bytes ≡ gathered set rest
  unfolding ◌>>=◌ numbers_from gathered
  dependent_functions is = turn (Ok DependentFunctions) is

  pub other_descriptor : (tag : ℕ) → Ok (Other tag) ≡ descriptor_of item → current_of bytes ≡ gathered set rest
  unfolding ◌>>=◌ numbers_from gathered
  other_descriptor tag is = turn (Ok (Other tag)) is

  pub end_tag : (numbers : List ℕ) → Ok EndTag ≡ descriptor_of item → numbers ≡ set → Answers (Ok numbers) (current_of bytes)
  unfolding ◌>>=◌ numbers_from with_numbers
  end_tag numbers is e = answers_same (turn (Ok EndTag) is) (answers_equal (ap (λ x. Ok x) e))

pub no_end : (bytes set : List ℕ) (items : List ResourceItem) → current_of bytes ≡ gathered set items → items ≡ [] → Answers (Err (Resource NoEnd)) (current_of bytes)
unfolding ◌>>=◌ gathered all_numbers
no_end bytes set items so_far none =
    answers_same (so_far ∙ ap (λ all. gathered set all) none) (answers_equal refl)
