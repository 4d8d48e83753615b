-- Units that are accessed one after another (ACPI 6.5, 19.6.46).
use Rattle.std.specs.Prelude.{◌≡◌, ℕ, List, [], ◌∷◌, ◌++◌, Bool, Ok, Err}
use Rattle.ar_space.specs.declared.refusal.Refusal.{Refusal}
use Rattle.ar_space.specs.Change.{Change}
use Rattle.aml_fields.specs.declared.field_units.Unit.{Unit as Access}
use Rattle.aml_fields.specs.Bits.{bits_from}

module _ {H A : Type 0} (access : Access → Change H A) where
  -- each unit is accessed where those in front of it are done, and answers
  pub data InTurn : List Access → H → List A → H → Type 0 where
    none : (h : H) → InTurn [] h [] h
    one : (u : Access) (us : List Access) (h t after : H) (a : A) (answers : List A) → access u h ≡ (Ok a, t) → InTurn us t answers after → InTurn (u ∷ us) h (a ∷ answers) after

  -- a unit is refused where those in front of it are done; none behind it is accessed
  pub data EndsRefused (e : Refusal) : List Access → H → H → Type 0 where
    here : (u : Access) (us : List Access) (h after : H) → access u h ≡ (Err e, after) → EndsRefused e (u ∷ us) h after
    later : (u : Access) (us : List Access) (h t after : H) (a : A) → access u h ≡ (Ok a, t) → EndsRefused e us t after → EndsRefused e (u ∷ us) h after

-- the bits of a field in units that hold these numbers, one unit behind another
abbrev pub bits_in_units : List Access → List ℕ → List Bool
bits_in_units [] ns = []
bits_in_units (u ∷ us) [] = []
bits_in_units (u ∷ us) (n ∷ ns) = bits_from n u.first u.count ++ bits_in_units us ns
