-- Units are accessed one after another, the lowest first.
use Rattle.std.specs.Prelude.{◌≡◌, ◌≤◌, ◌+◌, ◌-◌, ℕ, zero, suc, List, ◌∷◌, ◌++◌, false, length, take, drop, replicate, Ok, Err, refl}
use Rattle.std.proofs.Common.{arith, ap, ◌∙◌}
use Rattle.std.proofs.lemmas.List.{append-nil}
use Rattle.ar_space.specs.declared.refusal.Refusal.{Refusal}
use Rattle.ar_space.specs.declared.space.Width.{Width}
use Rattle.ar_space.specs.Change.{Change, give, go_on, ◌>>=◌}
use Rattle.aml_objects.specs.declared.entry.FieldUnit.{FieldUnit}
use Rattle.aml_fields.specs.declared.field_units.Unit.{Unit as Access}
use Rattle.aml_fields.specs.Bits.{bit, bits_from, extended, packed}
use Rattle.aml_fields.specs.Covering.{Cover}
use Rattle.aml_fields.specs.Units.{units_of}
use Rattle.aml_fields.specs.UnitByUnit.{read_units, bits_read, write_units}
use Rattle.aml_fields.proofs.BitLists.{length_from}
use Rattle.aml_fields.proofs.Covers.{units_cover}
use Rattle.aml_fields.proofs.UnitWrites.{narrow}
use Rattle.aml_laws.specs.UnitsInTurn.{InTurn, none, one, EndsRefused, here, later, bits_in_units}

-- ---- the bits of a unit that are the field's

dropped : (n i k f : ℕ) → f ≤ k → drop f (bits_from n i k) ≡ bits_from n (i + f) (k - f)
unfolding bits_from
dropped n i k zero l = let same : i + 0 ≡ i = omega arith in let all : k - 0 ≡ k = omega arith in rw (same, all) refl
dropped n i zero (suc f) l = absurd (omega (arith, l))
dropped n i (suc k) (suc f) l =
    let further : i + 1 + f ≡ i + suc f = omega arith in
    let fewer : k - f ≡ suc k - suc f = omega arith in
    dropped n (i + 1) k f (omega (arith, l)) ∙ (ap (λ m. bits_from n m (k - f)) further ∙ ap (λ m. bits_from n (i + suc f) m) fewer)

taken : (n i k c : ℕ) → c ≤ k → take c (bits_from n i k) ≡ bits_from n i c
unfolding bits_from
taken n i k zero l = refl
taken n i zero (suc c) l = absurd (omega (arith, l))
taken n i (suc k) (suc c) l = ap (λ bs. bit n i ∷ bs) (taken n (i + 1) k c (omega (arith, l)))

in_unit : (n f c : ℕ) → f + c ≤ 64 → extended c (drop f (bits_from n 0 64)) ≡ bits_from n f c
in_unit n f c l =
    let first : 0 + f ≡ f = omega arith in
    let long = length_from n (0 + f) (64 - f) in
    let none : c - length (bits_from n (0 + f) (64 - f)) ≡ 0 = omega (arith, long, l) in
    ap (extended c) (dropped n 0 64 f (omega (arith, l)))
    ∙ (ap (λ m. take c (bits_from n (0 + f) (64 - f)) ++ replicate m false) none
    ∙ (append-nil (take c (bits_from n (0 + f) (64 - f))) ∙ (taken n (0 + f) (64 - f) c (omega (arith, l)) ∙ ap (λ m. bits_from n m c) first)))

-- ---- reads

module _ {H : Type 0} (read : Access → Change H ℕ) where
  units_read : (o n : ℕ) (w : Width) (done : ℕ) (us : List Access) (h : H) (ns : List ℕ) (after : H) → InTurn read us h ns after → Cover o n w done us → read_units read us h ≡ (Ok (bits_in_units us ns), after)
  unfolding read_units give go_on ◌>>=◌
  units_read o n w done _ _ _ _ (none h) cover = refl
  units_read o n w done _ _ _ _ (one u us h t after m ms first others) (unit, fits, rest) =
      let small : u.first + u.count ≤ 64 = let k = narrow w in let i = unit.inside in omega (arith, k, i) in
      rw (first, units_read o n w (done + u.count) us t ms after others rest, in_unit m u.first u.count small) refl

  units_unread : (e : Refusal) (us : List Access) (h after : H) → EndsRefused read e us h after → read_units read us h ≡ (Err e, after)
  unfolding read_units go_on ◌>>=◌
  units_unread e _ _ _ (here u us h after is) = rw is refl
  units_unread e _ _ _ (later u us h t after m first rest) = rw (first, units_unread e us t after rest) refl

  module _ (f : FieldUnit) where
    abbrev units : List Access
    units = units_of f.bit_offset f.bits f.access

    pub field_read : (h : H) (ns : List ℕ) (after : H) → InTurn read units h ns after → bits_read read f h ≡ (Ok (packed (bits_in_units units ns)), after)
    unfolding bits_read give go_on ◌>>=◌
    field_read h ns after turns = rw (units_read f.bit_offset f.bits f.access 0 units h ns after turns (units_cover f.bit_offset f.bits f.access)) refl

    pub field_unread : (e : Refusal) (h after : H) → EndsRefused read e units h after → bits_read read f h ≡ (Err e, after)
    unfolding bits_read go_on ◌>>=◌
    field_unread e h after ends = rw (units_unread e units h after ends) refl

-- ---- writes

module _ {H : Type 0} (write : Access → Change H (Unit {0})) where
  pub units_written : (us : List Access) (h : H) (answers : List (Unit {0})) (after : H) → InTurn write us h answers after → write_units write us h ≡ (Ok tt, after)
  unfolding write_units give go_on ◌>>=◌
  units_written _ _ _ _ (none h) = refl
  units_written _ _ _ _ (one u us h t after a answers first others) = rw (first, units_written us t answers after others) refl

  pub units_unwritten : (e : Refusal) (us : List Access) (h after : H) → EndsRefused write e us h after → write_units write us h ≡ (Err e, after)
  unfolding write_units go_on ◌>>=◌
  units_unwritten e _ _ _ (here u us h after is) = rw is refl
  units_unwritten e _ _ _ (later u us h t after a first rest) = rw (first, units_unwritten e us t after rest) refl
