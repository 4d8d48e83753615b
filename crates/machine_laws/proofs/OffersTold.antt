-- What interrupt descriptors offer.
use Rattle.std.specs.Prelude.{◌≡◌, ◌<◌, ◌+◌, ◌==◌, ℕ, zero, suc, List, [], ◌∷◌, length, slice_index, false, true, Contains, Some, None, Ok, Err, refl}
use Rattle.std.specs.List.{AllByRecursion}
use Rattle.std.specs.List.Sorted.{IsStrictlyIncreasing}
use Rattle.std.specs.Ordering.{nat_cmp, match_ordering, MatchOrdering}
use Rattle.std.specs.Cmp.{ranks}
use Rattle.std.specs.declared.cmp.Ordering.TheVariants.{Less, Equal, Greater}
use Rattle.std.specs.BTreeSet.{insert_key}
use Rattle.std.proofs.Common.{Ordering, subst, arith}
use Rattle.std.proofs.lemmas.Bool.{ne_eqb}
use Rattle.ar_space.specs.declared.refusal.Refusal.TheVariants.{Resource}
use Rattle.ar_space.specs.declared.refusal.ResourceFault.TheVariants as fault
use Rattle.acpi_resources.specs.declared.exclusives.Exclusives.{Exclusives}
use Rattle.acpi_resources.specs.declared.exclusives.Exclusives.TheVariants.{Refused, Taken}
use Rattle.acpi_resources.specs.Numbers.{with_numbers, set_of}
use Rattle.acpi_resources.specs.Offers.{is_barred, offer_of, the_offer}
use Rattle.acpi_resources.specs.Records.{InterruptDescriptor, InterruptOffer, interrupt_offer}
use Rattle.acpi_resources.proofs.Members.{members_of_set}
use Rattle.machine_laws.specs.InterruptFlags.{HasFlags}
use Rattle.machine_laws.specs.InterruptOffers.{MayBeOffered, shared, exclusive, IsOfferOf}
use Rattle.machine_laws.proofs.FlagsTold.{edge_told, level_told, low_told, high_told, shared_told, exclusive_told}

-- ---- a set ascends

-- each number is below all behind it
abbrev Rises : List ℕ → Type 0
Rises [] = Unit {0}
Rises (x ∷ xs) = AllByRecursion (λ y. x < y) xs × Rises xs

further : (k x : ℕ) (set : List ℕ) → k < x → AllByRecursion (λ y. x < y) set → AllByRecursion (λ y. k < y) set
further k x [] l all = tt
further k x (y ∷ set) l all = (let h = all.0 in omega (arith, l, h), further k x set l all.1)

kept_above : (x k : ℕ) (set : List ℕ) → x < k → AllByRecursion (λ y. x < y) set → AllByRecursion (λ y. x < y) (insert_key nat_cmp set k)
kept_above x k [] l all = (l, tt)
kept_above x k (y ∷ set) l all =
    elim (nat_cmp k y) as (λ (o : Ordering). AllByRecursion (λ z. x < z) (match_ordering o (k ∷ y ∷ set) (y ∷ set) (y ∷ insert_key nat_cmp set k))) [
      | Less ↦ (l, all)
      | Equal ↦ all
      | Greater ↦ (all.0, kept_above x k set l all.1)
    ]

inserted_rises : (set : List ℕ) (k : ℕ) → Rises set → Rises (insert_key nat_cmp set k)
inserted_rises [] k r = (tt, tt)
inserted_rises (x ∷ set) k r =
    elim (nat_cmp k x) as (λ (o : Ordering). MatchOrdering o (k < x) (k ≡ x) (x < k) → Rises (match_ordering o (k ∷ x ∷ set) (x ∷ set) (x ∷ insert_key nat_cmp set k))) [
      | Less ↦ λ l. ((l, further k x set l r.0), r)
      | Equal ↦ λ e. r
      | Greater ↦ λ l. (kept_above x k set l r.0, inserted_rises set k r.1)
    ] (ranks k x)

all_rise : (set numbers : List ℕ) → Rises set → Rises (with_numbers set numbers)
unfolding with_numbers
all_rise set [] r = r
all_rise set (n ∷ numbers) r = all_rise (insert_key nat_cmp set n) numbers (inserted_rises set n r)

increasing : (set : List ℕ) → Rises set → IsStrictlyIncreasing set
increasing [] r k l = absurd (omega (arith, l))
increasing (x ∷ []) r k l = absurd (omega (arith, l))
increasing (x ∷ y ∷ set) r zero l = r.0.0
increasing (x ∷ y ∷ set) r (suc k) l =
    subst (λ n. slice_index (y ∷ set) k < slice_index (x ∷ y ∷ set) n) {x = suc (k + 1)} {y = suc k + 1} (omega arith) (increasing (y ∷ set) r.1 k (omega (arith, l)))

pub set_ascends : (numbers : List ℕ) → IsStrictlyIncreasing (set_of numbers)
set_ascends numbers = increasing (set_of numbers) (all_rise [] numbers tt)

-- a set of some number has a number
some_number : (numbers : List ℕ) (n : ℕ) → Contains numbers n → (length (set_of numbers) == 0) ≡ false
some_number numbers n has = ne_eqb (length (set_of numbers)) 0 (λ e. let c = ((members_of_set numbers n).1 has).1 in omega (arith, e, c))

-- ---- what is refused

pub edge_refused : (exclusives : Exclusives) (d : InterruptDescriptor) (polarity sharing : ℕ) → HasFlags d.form d.flags 1 polarity sharing → offer_of exclusives d ≡ Err (Resource fault.Edge)
unfolding offer_of
edge_refused exclusives d polarity sharing h = rw (edge_told d.form d.flags polarity sharing h) refl

pub exclusive_refused : (d : InterruptDescriptor) (polarity : ℕ) → HasFlags d.form d.flags 0 polarity 0 → offer_of Refused d ≡ Err (Resource fault.Exclusive)
unfolding offer_of
exclusive_refused d polarity h = rw (level_told d.form d.flags polarity 0 h, exclusive_told d.form d.flags 0 polarity h) refl

not_barred : (exclusives : Exclusives) (d : InterruptDescriptor) (polarity sharing : ℕ) → HasFlags d.form d.flags 0 polarity sharing → MayBeOffered exclusives sharing → is_barred exclusives d.form d.flags ≡ false
not_barred Refused d polarity _ h (shared _) = rw (shared_told d.form d.flags 0 polarity h) refl
not_barred Taken d polarity sharing h may = refl

module _ (exclusives : Exclusives) (d : InterruptDescriptor) (polarity sharing : ℕ) (flags : HasFlags d.form d.flags 0 polarity sharing) (may : MayBeOffered exclusives sharing) where
  pub source_refused : d.has_source ≡ true → offer_of exclusives d ≡ Err (Resource fault.Source)
  unfolding offer_of
  source_refused source = rw (level_told d.form d.flags polarity sharing flags, not_barred exclusives d polarity sharing flags may, source) refl

  module _ (none : d.has_source ≡ false) where
    pub no_number_refused : d.numbers ≡ [] → offer_of exclusives d ≡ Err (Resource fault.NoInterrupt)
    unfolding offer_of with_numbers
    no_number_refused empty = rw (level_told d.form d.flags polarity sharing flags, not_barred exclusives d polarity sharing flags may, none, empty) refl

    -- ---- what is offered

    offer_is : (n : ℕ) → Contains d.numbers n → offer_of exclusives d ≡ Ok (interrupt_offer (set_of d.numbers) d.form d.flags)
    unfolding offer_of
    offer_is n has = rw (level_told d.form d.flags polarity sharing flags, not_barred exclusives d polarity sharing flags may, none, some_number d.numbers n has) refl

    told : IsOfferOf d polarity (interrupt_offer (set_of d.numbers) d.form d.flags)
    told = record {
      same_numbers = members_of_set d.numbers;
      ascending = set_ascends d.numbers;
      same_form = refl;
      same_flags = refl;
      low = λ is. low_told d.form d.flags 0 sharing (subst (λ p. HasFlags d.form d.flags 0 p sharing) is flags);
      high = λ is. high_told d.form d.flags 0 sharing (subst (λ p. HasFlags d.form d.flags 0 p sharing) is flags);
    }

    pub numbers_offered : (n : ℕ) → Contains d.numbers n → (offer : InterruptOffer) × ((offer_of exclusives d ≡ Ok offer) × IsOfferOf d polarity offer)
    numbers_offered n has = (interrupt_offer (set_of d.numbers) d.form d.flags, (offer_is n has, told))

-- ---- one after another

pub first_offer : (exclusives : Exclusives) (d : InterruptDescriptor) → the_offer exclusives None d ≡ offer_of exclusives d
unfolding the_offer
first_offer exclusives d = refl

pub further_offer : (exclusives : Exclusives) (found : InterruptOffer) (d : InterruptDescriptor) → the_offer exclusives (Some found) d ≡ Err (Resource fault.Several)
unfolding the_offer
further_offer exclusives found d = refl
