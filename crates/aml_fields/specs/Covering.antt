-- What the units of a field are, without saying which they are.
use Rattle.std.specs.Prelude.{◌≡◌, ◌<◌, ◌≤◌, ℕ, ◌+◌, ◌*◌, ◌%◌, List, [], ◌∷◌}
use Rattle.ar_space.specs.declared.space.Width.{Width}
use Rattle.ar_space.specs.Accesses.{byte_count, bit_count}
use Rattle.aml_fields.specs.declared.field_units.Unit.{Unit}

-- a unit is aligned, lies at the right bit of the region, and has a bit of the field at least and no more than it has bits
pub record IsUnit (bit_offset : ℕ) (w : Width) (done : ℕ) (u : Unit) : Type 0 where
  pub aligned : u.offset % byte_count w ≡ 0
  pub here : u.position ≡ done
  pub there : u.offset * 8 + u.first ≡ bit_offset + done
  pub some : 0 < u.count
  pub inside : u.first + u.count ≤ bit_count w

-- the units hold the bits of a field from one on, in order, each bit once
abbrev pub Cover : ℕ → ℕ → Width → ℕ → List Unit → Type 0
Cover bit_offset bits w done [] = done ≡ bits
Cover bit_offset bits w done (u ∷ us) = IsUnit bit_offset w done u × (done + u.count ≤ bits) × Cover bit_offset bits w (done + u.count) us
