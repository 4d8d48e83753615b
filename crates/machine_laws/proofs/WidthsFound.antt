-- How wide integers are, by the DSDT that is found.
use Rattle.std.specs.Prelude.{◌≡◌, ◌≤◌, ◌<◌, ℕ, true, false, nat_lt, slice_index, Ok, Err, refl}
use Rattle.std.specs.FinMap.{FinMap}
use Rattle.std.specs.Ordering.{nat_cmp}
use Rattle.std.proofs.Common.{arith, subst, ◌∙◌}
use Rattle.std.proofs.lemmas.Bool.Decides.{nat_tests}
use Rattle.ar_space.specs.Outcome.{Outcome, ◌>>=◌}
use Rattle.ar_space.specs.declared.integer_width.IntegerWidth.TheVariants.{Bits32, Bits64}
use Rattle.ar_tables.specs.FindTables.{width_of, tables_in, tables_of}
use Rattle.ar_tables.specs.declared.tables.Tables.{Tables}

by_result : {A : Type 0} (o : Outcome A) (f : A → Outcome Tables) (t : Tables) (P : Tables → Type 0) → (o >>= f) ≡ Ok t → ((a : A) → f a ≡ Ok t → P t) → P t
unfolding ◌>>=◌
by_result (Ok a) f t P is h = h a is
by_result (Err e) f t P is h = absurd (cc is)

abbrev HasItsWidth : Tables → Type 0
HasItsWidth t = t.width ≡ width_of t.dsdt

last : (s t : Tables) → ◌≡◌ {A = Outcome Tables} (Ok s) (Ok t) → HasItsWidth s → HasItsWidth t
last s t is h = let same : s ≡ t = cc is in subst HasItsWidth same h

pub width_found : (image : FinMap nat_cmp ℕ) (rsdp : ℕ) (t : Tables) → tables_of image rsdp ≡ Ok t → t.width ≡ width_of t.dsdt
unfolding tables_of tables_in
width_found image rsdp t is =
    by_result _ _ t HasItsWidth is (λ _ is. by_result _ _ t HasItsWidth is (λ _ is. by_result _ _ t HasItsWidth is (λ _ is.
    by_result _ _ t HasItsWidth is (λ _ is. by_result _ _ t HasItsWidth is (λ _ is. by_result _ _ t HasItsWidth is (λ _ is. by_result _ _ t HasItsWidth is (λ _ is.
    by_result _ _ t HasItsWidth is (λ _ is. by_result _ _ t HasItsWidth is (λ _ is. by_result _ _ t HasItsWidth is (λ _ is. by_result _ _ t HasItsWidth is (λ _ is.
    last _ t is refl)))))))))))

pub narrow_found : (image : FinMap nat_cmp ℕ) (rsdp : ℕ) (t : Tables) → tables_of image rsdp ≡ Ok t → slice_index t.dsdt 8 < 2 → t.width ≡ Bits32
narrow_found image rsdp t is early = let test : nat_lt (slice_index t.dsdt 8) 2 ≡ true = grind (arith, nat_tests) in width_found image rsdp t is ∙ rw test refl

pub wide_found : (image : FinMap nat_cmp ℕ) (rsdp : ℕ) (t : Tables) → tables_of image rsdp ≡ Ok t → 2 ≤ slice_index t.dsdt 8 → t.width ≡ Bits64
wide_found image rsdp t is late = let test : nat_lt (slice_index t.dsdt 8) 2 ≡ false = grind (arith, nat_tests) in width_found image rsdp t is ∙ rw test refl

pub ruleset the_dsdt_says_how_wide_integers_are = (narrow_found, wide_found)
