-- The values of options.
use Rattle.std.specs.Prelude.{ℕ, ◌+◌, ◌*◌, ◌-◌, ◌==◌, ◌&&◌, nat_le, nat_lt, Bool, false, List, [], ◌∷◌, length, Option, Some, None, Result, Ok, Err, codes, option_and_then, option_map, if◌then◌else◌}
use Rattle.std.specs.List.{slice_split}
use Rattle.std.specs.Str.{bytes_eq}
use Rattle.clap.specs.Words.{Text}
use Rattle.hex.specs.Hex.{decode_of}
use Rattle.aml_world.specs.declared.state.profile.Profile.{Profile}
use Rattle.aml_world.specs.declared.state.profile.Profile.TheVariants.{Core, Wide}
use Rattle.acpiroute_shell.specs.declared.arguments.Argument.{Argument}
use Rattle.acpiroute_shell.specs.declared.arguments.Argument.TheVariants as variant
use Rattle.ar_tables.specs.declared.mode.Mode.{Mode}
use Rattle.ar_tables.specs.declared.mode.Mode.TheVariants.{Apic, Pic}

-- a value, and where there is one what follows from it
infixl 10 ◌>>=◌
abbrev pub ◌>>=◌ : {A B : Type 0} → Option A → (A → Option B) → Option B
m >>= f = option_and_then f m

-- n with one decimal digit more behind it, where that is below 2^64
unfoldable pub with_digit : ℕ → ℕ → Option ℕ
with_digit n c = if nat_le 48 c && (nat_le c 57 && nat_le (n * 10 + (c - 48)) 18446744073709551615) then Some (n * 10 + (c - 48)) else None

-- the number below 2^64 that n and then these decimal digits make
unfoldable pub number_from : ℕ → List ℕ → Option ℕ
number_from n [] = Some n
number_from n (c ∷ cs) = do
  m ← with_digit n c
  number_from m cs

-- one digit at least, and nothing else: no sign
unfoldable pub number : Text → Option ℕ
number word = if nat_lt 0 (length word) then number_from 0 word else None

abbrev pub mode_named : Option Text → Option Mode
mode_named None = Some Apic
mode_named (Some t) = if bytes_eq t (codes "apic") then Some Apic else if bytes_eq t (codes "pic") then Some Pic else None

abbrev pub profile_named : Option Text → Option Profile
profile_named None = Some Core
profile_named (Some t) = if bytes_eq t (codes "core") then Some Core else if bytes_eq t (codes "wide") then Some Wide else None

abbrev pub within_steps : ℕ → Option ℕ
within_steps n = if nat_le 1 n && nat_le n 1000000000 then Some n else None

-- a budget of steps
abbrev pub steps_named : Option Text → Option ℕ
steps_named None = Some 1000000
steps_named (Some t) = do
  n ← number t
  within_steps n

-- how many calls may be made one inside another
abbrev pub within_calls : ℕ → Option ℕ
within_calls n = if nat_le 1 n && nat_le n 32 then Some n else None

abbrev pub calls_named : Option Text → Option ℕ
calls_named None = Some 32
calls_named (Some t) = do
  n ← number t
  within_calls n

-- how many terms may be one inside another
abbrev pub within_levels : ℕ → Option ℕ
within_levels n = if nat_le 1 n && nat_le n 64 then Some n else None

abbrev pub levels_named : Option Text → Option ℕ
levels_named None = Some 64
levels_named (Some t) = do
  n ← number t
  within_levels n

-- a bound of accesses, and none where none is given
abbrev pub accesses_named : Option Text → Option (Option ℕ)
accesses_named None = Some None
accesses_named (Some t) = option_map Some (number t)

-- the bytes of pairs of hexadecimal digits
abbrev pub decoded : {E : Type 0} → Result (List ℕ) E → Option (List ℕ)
decoded (Ok bytes) = Some bytes
decoded (Err e) = None

unfoldable pub bytes_of_digits : Text → Option (List ℕ)
bytes_of_digits digits = decoded (decode_of digits)

-- `s:` and the bytes of a string, `b:` and those of a buffer in hexadecimal digits, or a number
unfoldable pub argument : Text → Option Argument
argument [] = None
argument (c ∷ []) = option_map variant.Integer (number (c ∷ []))
argument (c ∷ d ∷ rest) =
    if (c == 115) && (d == 58) then Some (variant.Text rest)
    else if (c == 98) && (d == 58) then option_map variant.Bytes (bytes_of_digits rest)
    else option_map variant.Integer (number (c ∷ d ∷ rest))

-- each argument of some texts
unfoldable pub arguments : List Text → Option (List Argument)
arguments [] = Some []
arguments (word ∷ words) = do
  a ← argument word
  others ← arguments words
  Some (a ∷ others)

-- none where no text is given
abbrev pub arguments_named : Option (List Text) → Option (List Argument)
arguments_named None = Some []
arguments_named (Some words) = arguments words

-- the number of an interrupt, below 2^32
unfoldable pub interrupt : Text → Option ℕ
interrupt word = do
  n ← number word
  if nat_lt n 4294967296 then Some n else None

unfoldable pub interrupts : List Text → Option (List ℕ)
interrupts [] = Some []
interrupts (word ∷ words) = do
  n ← interrupt word
  ns ← interrupts words
  Some (n ∷ ns)

abbrev pub few_interrupts : List ℕ → Option (List ℕ)
few_interrupts ns = if nat_le (length ns) 255 then Some ns else None

-- 1 to 255 interrupts, separated by commas
unfoldable pub interrupts_listed : Text → Option (List ℕ)
interrupts_listed text = do
  ns ← interrupts (slice_split (λ b. b == 44) text)
  few_interrupts ns

-- no interrupt where no text is given
abbrev pub interrupts_named : Option Text → Option (List ℕ)
interrupts_named None = Some []
interrupts_named (Some t) = interrupts_listed t

abbrev pub is_true : Option Text → Bool
is_true None = false
is_true (Some t) = bytes_eq t (codes "true")
