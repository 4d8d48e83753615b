-- Reading a list of terms: what is left of it, and the steps that take from its front.
use Rattle.std.specs.Prelude.{ℕ, zero, suc, ◌+◌, ◌-◌, ◌*◌, ◌/◌, ◌%◌, List, [], ◌∷◌, ◌++◌, length, take, drop, Bool, false, Ok, Err, nat_lt, ◌==◌, ◌||◌, if◌then◌else◌}
use Rattle.std.specs.List.{take_while}
use Rattle.ar_space.specs.declared.refusal.Refusal.TheVariants as refusals
use Rattle.ar_space.specs.declared.refusal.NameFault.TheVariants.{BadName}
use Rattle.ar_space.specs.declared.refusal.TermFault.{TermFault}
use Rattle.ar_space.specs.declared.refusal.TermFault.TheVariants.{BadPkgLength, Truncated}
use Rattle.ar_space.specs.Change.{Change, give, stop, ◌>>=◌}
use Rattle.aml_path.specs.declared.segment.Seg.{Seg}
use Rattle.aml_arities.specs.declared.arities.Arity.{Arity}
use Rattle.aml_grammar.specs.declared.marks.Mark.{Mark}

-- what is left of the list or package and where it begins, the arities so far, and the marks of the calls so far
pub record State : Type 0 where
  pub at : ℕ
  pub rest : List ℕ
  pub arities : List Arity
  pub marks : List Mark

-- a step takes from the front, or refuses
abbrev pub Step : Type 0 → Type 0
Step A = Change State A

-- a fault of the bytes, and its offset
abbrev pub fault : {A : Type 0} → TermFault → ℕ → Step A
fault f offset = stop (refusals.Term f offset)

abbrev pub bad_name : {A : Type 0} → Step A
bad_name = stop (refusals.Name BadName)

-- what is known of the state, without a step
unfoldable pub look : {A : Type 0} → (State → A) → Step A
look f s = (Ok (f s), s)

-- where the next byte stands
abbrev pub offset : Step ℕ
offset = look (λ s. s.at)

-- ---- bytes

-- n bytes on
abbrev pub past : ℕ → State → State
past n s = record s { at = s.at + n; rest = drop n s.rest }

abbrev pub byte_of : List ℕ → Step ℕ
byte_of [] s = (Err (refusals.Term Truncated s.at), s)
byte_of (b ∷ bs) s = (Ok b, record s { at = s.at + 1; rest = bs })

unfoldable pub byte : Step ℕ
byte s = byte_of s.rest s

-- the next byte, which stays
abbrev pub peek_of : List ℕ → Step ℕ
peek_of [] s = (Err (refusals.Term Truncated s.at), s)
peek_of (b ∷ bs) s = (Ok b, s)

unfoldable pub peek : Step ℕ
peek s = peek_of s.rest s

-- whether this byte stands next
abbrev pub is_next : ℕ → List ℕ → Bool
is_next b [] = false
is_next b (c ∷ bs) = c == b

-- the next n bytes: a missing one is a fault at the end
unfoldable pub next_bytes : ℕ → Step (List ℕ)
next_bytes n s = if nat_lt (length s.rest) n then (Err (refusals.Term Truncated (s.at + length s.rest)), s) else (Ok (take n s.rest), past n s)

-- all bytes that are left
unfoldable pub all_bytes : Step (List ℕ)
all_bytes s = (Ok s.rest, record s { at = s.at + length s.rest; rest = [] })

-- how many bytes stand before a zero
abbrev pub text_length : List ℕ → ℕ
text_length bs = length (take_while (λ b. nat_lt 0 b) bs)

-- bytes up to a zero, and it
unfoldable pub text : Step (List ℕ)
text = do
  n ← look (λ s. text_length s.rest)
  bs ← next_bytes (n + 1)
  give (take n bs)

-- the integer that bytes stand for, the lowest first
abbrev pub little_endian : List ℕ → ℕ
little_endian [] = 0
little_endian (b ∷ bs) = b + 256 * little_endian bs

unfoldable pub integer : ℕ → Step ℕ
integer n = do
  bs ← next_bytes n
  give (little_endian bs)

-- ---- package lengths (PkgLength, 20.2.4): bits 7 and 6 of the lead byte count the bytes after it

abbrev pub length_of : ℕ → ℕ → ℕ
length_of lead more = if nat_lt lead 64 then lead else lead % 16 + 16 * more

-- the same bytes as a number of bits
unfoldable pub bit_count : Step ℕ
bit_count = do
  lead ← byte
  more ← integer (lead / 64)
  give (length_of lead more)

-- How many bytes of a package follow its length, of which some bytes are read: the length counts itself, and may not lead
-- past the end. A fault stands at the length's first byte.
unfoldable pub size_after : ℕ → ℕ → ℕ → Step ℕ
size_after start spent total s = if nat_lt total spent || nat_lt (length s.rest) (total - spent) then (Err (refusals.Term BadPkgLength start), s) else (Ok (total - spent), s)

unfoldable pub package_size : Step ℕ
package_size = do
  start ← offset
  lead ← byte
  more ← integer (lead / 64)
  size_after start (lead / 64 + 1) (length_of lead more)

-- the next n bytes alone are left; gives where those after them begin, and them
abbrev pub narrow : ℕ → Step (ℕ × List ℕ)
narrow n s = (Ok (s.at + n, drop n s.rest), record s { rest = take n s.rest })

-- the bytes of a package alone are left
unfoldable pub enter : Step (ℕ × List ℕ)
enter = do
  n ← package_size
  narrow n

-- on with what stands after the package, and the value that was read in it
abbrev pub leave : {A : Type 0} → ℕ × List ℕ → A → Step A
leave outer a s = (Ok a, record s { at = outer.0; rest = outer.1 })

-- ---- one step again and again

-- n times
unfoldable pub times : {A : Type 0} → Step A → ℕ → Step (List A)
times m zero = give []
times m (suc n) = do
  x ← m
  xs ← times m n
  give (x ∷ xs)

-- until nothing is left; the number bounds the turns, and the count of the bytes is always enough
abbrev pub until_of : {A : Type 0} → Step A → Step (List A) → List ℕ → Step (List A)
until_of m more [] = give []
until_of m more (b ∷ bs) = do
  x ← m
  xs ← more
  give (x ∷ xs)

unfoldable pub until_end : {A : Type 0} → Step A → ℕ → Step (List A)
until_end m zero s = (Ok [], s)
until_end m (suc n) s = until_of m (until_end m n) s.rest s

-- ---- what is declared

-- one more path among the arities
abbrev pub adding : List Seg → ℕ → Bool → State → State
adding path n external s = record s { arities = s.arities ++ record { path = path; count = n; external = external } ∷ [] }

-- one more call among the marks, where it has arguments
abbrev pub marking : ℕ → ℕ → State → State
marking start n s = if n == 0 then s else record s { marks = s.marks ++ record { offset = start; count = n } ∷ [] }
