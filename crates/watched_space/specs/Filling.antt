-- A register space in which the bytes that another one doesn't have are 0 until they are written.
use Rattle.std.specs.Prelude.{◌≡◌, ℕ, ◌+◌, ◌-◌, ◌*◌, ◌/◌, ◌%◌, Bool, true, false, Option, Some, None, Result, Ok, Err, IsErr, IsErrAnd, refl}
use Rattle.std.specs.Coded.{Coded, code_by, coded×}
use Rattle.std.proofs.Common.{◌∙◌, ap, sym}
use Rattle.ar_space.specs.Accesses.{Accesses, byte_count, place_on}
use Rattle.ar_space.specs.declared.refusal.SpaceFault.{SpaceFault}
use Rattle.ar_space.specs.declared.refusal.SpaceFault.TheVariants.{NoRegister, Device}
use Rattle.ar_space.specs.declared.space.Place.{Place}
use Rattle.ar_space.specs.declared.space.Width.{Width}
use Rattle.ar_space.specs.declared.space.Width.TheVariants.{W8, W16, W32, W64}
use Rattle.watched_space.specs.MissingPlaces.{Missing, missing_code, missing_read, missing_written}

-- the space below, and the bytes that it doesn't have
pub record Filled (S : Type 0) : Type 0 where
  pub inner : S
  pub missing : Missing

abbrev pub filled_code : {S : Type 0} → Coded S → Coded (Filled S)
filled_code {S = S} code =
    code_by (S × Missing) (coded× code missing_code) (λ f. (f.inner, f.missing)) (λ p. record { inner = p.0; missing = p.1 }) (λ _. refl)

abbrev pub Step : Type 0 → Type 0 → Type 0
Step S A = S → Result A SpaceFault × S

-- the call answered and left what the step gives
pub record Makes {S A : Type 0} (r : Result A SpaceFault) (after : S) (step : Step S A) (before : S) : Type 0 where
  pub is : step before ≡ (r, after)

unfoldable pub give : {S A : Type 0} → A → Step S A
give a s = (Ok a, s)

unfoldable pub go_on : {S A B : Type 0} → Result A SpaceFault → S → (A → Step S B) → Result B SpaceFault × S
go_on (Ok a) s k = k a s
go_on (Err e) s k = (Err e, s)

-- one step after another: the first fault ends them
infixl 10 ◌>>=◌
unfoldable pub ◌>>=◌ : {S A B : Type 0} → Step S A → (A → Step S B) → Step S B
◌>>=◌ m k s = let a = m s in go_on a.0 a.1 k

infixl 10 ◌>>◌
abbrev pub ◌>>◌ : {S A B : Type 0} → Step S A → Step S B → Step S B
◌>>◌ m k = m >>= (λ _. k)

abbrev pub zero_answer : Option ℕ → Result ℕ SpaceFault
zero_answer None = Err NoRegister
zero_answer (Some byte) = Ok byte

abbrev pub room_answer : Bool → Result (Unit {0}) SpaceFault
room_answer true = Ok tt
room_answer false = Err NoRegister

abbrev pub zero_read : {S : Type 0} → Place → Step (Filled S) ℕ
zero_read place f = let z = missing_read f.missing place in (zero_answer z.0, record f { missing = z.1 })

abbrev pub zero_written : {S : Type 0} → Place → ℕ → Step (Filled S) (Unit {0})
zero_written place byte f = let z = missing_written f.missing place byte in (room_answer z.0, record f { missing = z.1 })

-- what the space below answers, or where it has no register there, another step
abbrev pub unless_missing : {S A : Type 0} → Result A SpaceFault → Step S A → Step S A
unless_missing (Ok a) step s = (Ok a, s)
unless_missing (Err NoRegister) step s = step s
unless_missing (Err Device) step s = (Err Device, s)

-- below: what the space below makes of accesses
module _ {S : Type 0} (below : Accesses S) where
  abbrev pub byte_read : Place → Step (Filled S) ℕ
  byte_read place f = let done = below.reads f.inner place W8 in unless_missing done.0 (zero_read place) (record f { inner = done.1 })

  abbrev pub byte_written : Place → ℕ → Step (Filled S) (Unit {0})
  byte_written place byte f = let done = below.writes f.inner place W8 byte in unless_missing done.0 (zero_written place byte) (record f { inner = done.1 })

  abbrev pub read_at : Option Place → Step (Filled S) ℕ
  read_at None f = (Err NoRegister, f)
  read_at (Some place) f = byte_read place f

  abbrev pub write_at : Option Place → ℕ → Step (Filled S) (Unit {0})
  write_at None byte f = (Err NoRegister, f)
  write_at (Some place) byte f = byte_written place byte f

  -- ---- each byte of an access alone, the lowest first; n places on

  unfoldable pub read_8 : Place → ℕ → Step (Filled S) ℕ
  read_8 place n = read_at (place_on place n)

  unfoldable pub read_16 : Place → ℕ → Step (Filled S) ℕ
  read_16 place n = do
    low ← read_8 place n
    high ← read_8 place (n + 1)
    give (low + 256 * high)

  unfoldable pub read_32 : Place → ℕ → Step (Filled S) ℕ
  read_32 place n = do
    low ← read_16 place n
    high ← read_16 place (n + 2)
    give (low + 65536 * high)

  unfoldable pub read_64 : Place → Step (Filled S) ℕ
  read_64 place = do
    low ← read_32 place 0
    high ← read_32 place 4
    give (low + 4294967296 * high)

  abbrev pub bytes_read : Place → Width → Step (Filled S) ℕ
  bytes_read place W8 = read_8 place 0
  bytes_read place W16 = read_16 place 0
  bytes_read place W32 = read_32 place 0
  bytes_read place W64 = read_64 place

  unfoldable pub write_8 : Place → ℕ → ℕ → Step (Filled S) (Unit {0})
  write_8 place n value = write_at (place_on place n) (value % 256)

  unfoldable pub write_16 : Place → ℕ → ℕ → Step (Filled S) (Unit {0})
  write_16 place n value = do
    write_8 place n value
    write_8 place (n + 1) (value / 256)

  unfoldable pub write_32 : Place → ℕ → ℕ → Step (Filled S) (Unit {0})
  write_32 place n value = do
    write_16 place n value
    write_16 place (n + 2) (value / 65536)

  unfoldable pub write_64 : Place → ℕ → Step (Filled S) (Unit {0})
  write_64 place value = do
    write_32 place 0 value
    write_32 place 4 (value / 4294967296)

  abbrev pub bytes_written : Place → Width → ℕ → Step (Filled S) (Unit {0})
  bytes_written place W8 value = write_8 place 0 value
  bytes_written place W16 value = write_16 place 0 value
  bytes_written place W32 value = write_32 place 0 value
  bytes_written place W64 value = write_64 place value

  -- nothing stands past the last place
  abbrev pub if_place : {A : Type 0} → Option Place → Step (Filled S) A → Step (Filled S) A
  if_place None step f = (Err NoRegister, f)
  if_place (Some last) step f = step f

  unfoldable pub read_within : Place → Width → Step (Filled S) ℕ
  read_within place width = if_place (place_on place (byte_count width - 1)) (bytes_read place width)

  unfoldable pub write_within : Place → Width → ℕ → Step (Filled S) (Unit {0})
  write_within place width value = if_place (place_on place (byte_count width - 1)) (bytes_written place width value)

-- each access does what it does in the space below, and where a register is missing there each byte of it alone
abbrev pub filled : {S : Type 0} → Accesses S → Accesses (Filled S)
filled below = record {
  reads = λ f place width. let done = below.reads f.inner place width in unless_missing done.0 (read_within below place width) (record f { inner = done.1 });
  writes = λ f place width value. let done = below.writes f.inner place width value in unless_missing done.0 (write_within below place width value) (record f { inner = done.1 });
}
