-- A total order, as a comparison answers it.
use Rattle.std.specs.Prelude.{◌≡◌, ◌⊎◌, Ok}
use Rattle.std.specs.declared.cmp.Ordering.{Ordering}
use Rattle.std.specs.declared.cmp.Ordering.TheVariants.{Less, Equal, Greater}
use Rattle.ar_space.specs.Outcome.{Outcome}

-- each value is equal to itself and to no other, less is the other way round of greater, and what is less than a lesser one is less
pub record IsTotal {A : Type 0} (compare : A → A → Outcome Ordering) : Type 0 where
  pub itself : (a : A) → compare a a ≡ Ok Equal
  pub no_other : (a b : A) → compare a b ≡ Ok Equal → a ≡ b
  pub less_or_not : (a b : A) → (compare a b ≡ Ok Less) ⊎ ((compare a b ≡ Ok Equal) ⊎ (compare a b ≡ Ok Greater))
  pub turned : (a b : A) → compare a b ≡ Ok Less → compare b a ≡ Ok Greater
  pub turned_back : (a b : A) → compare a b ≡ Ok Greater → compare b a ≡ Ok Less
  pub on : (a b c : A) → compare a b ≡ Ok Less → compare b c ≡ Ok Less → compare a c ≡ Ok Less
