-- The machine text: what each line says, and what all lines say together.
use Rattle.std.specs.Prelude.{ℕ, ◌+◌, ◌==◌, ◌&&◌, nat_le, nat_lt, Bool, true, List, [], ◌∷◌, ◌++◌, length, Option, Some, None, Ok, Err, codes, is_some, ok_or, if◌then◌else◌}
use Rattle.std.specs.List.{before_first, list_all}
use Rattle.std.specs.Str.{bytes_eq}
use Rattle.std.specs.Str.Lines.{lines}
use Rattle.ar_space.specs.Outcome.{Outcome, ◌>>=◌}
use Rattle.ar_space.specs.Bytes.{Bytes, with_byte, no_bytes}
use Rattle.ar_space.specs.declared.space.Place.{Place}
use Rattle.ar_space.specs.declared.space.Place.TheVariants as place
use Rattle.ar_space.specs.declared.refusal.Refusal.TheVariants.{Input}
use Rattle.ar_space.specs.declared.refusal.InputFault.TheVariants.{MachineLine}
use Rattle.text_words.specs.Words.{words_left, tail_of}
use Rattle.machine_text.specs.Words.{number, word_bytes}
use Rattle.machine_text.specs.declared.address_space.AddressSpace.{AddressSpace}
use Rattle.machine_text.specs.declared.address_space.AddressSpace.TheVariants.{Memory, Io, Pci}
use Rattle.machine_text.specs.declared.draft.Draft.{Draft}
use Rattle.machine_text.specs.declared.machine_lines.MachineText.{MachineText}

-- the last place of an address space
abbrev pub last_of : AddressSpace → ℕ
last_of Memory = 0xFFFFFFFFFFFFFFFF
last_of Io = 0xFFFF
last_of (Pci seg bus dev func) = 0xFFF

abbrev pub place_in : AddressSpace → ℕ → Place
place_in Memory n = place.Memory n
place_in Io n = place.Io n
place_in (Pci seg bus dev func) n = place.Pci seg bus dev func n

-- bytes, put one by one from a place on: a later byte replaces an earlier one
unfoldable pub put_all : AddressSpace → Bytes → ℕ → List ℕ → Bytes
put_all in_space bytes at [] = bytes
put_all in_space bytes at (b ∷ bs) = put_all in_space (with_byte bytes (place_in in_space at) b) (at + 1) bs

-- 1 to 255 bytes of ASCII
abbrev pub is_text : List ℕ → Bool
is_text t = nat_lt 0 (length t) && (nat_le (length t) 255 && list_all (λ b. nat_lt b 128) t)

module _ (n : ℕ) where
  abbrev pub bad_line : {A : Type 0} → Outcome A
  bad_line = Err (Input (MachineLine n))

  -- what is there, or the line is refused
  abbrev pub here : {A : Type 0} → Option A → Outcome A
  here found = ok_or found (Input (MachineLine n))

  -- the first of the words, and the others
  abbrev pub word : List (List ℕ) → Outcome (List ℕ × List (List ℕ))
  word [] = bad_line
  word (w ∷ ws) = Ok (w, ws)

  -- no word is left
  abbrev pub ended : List (List ℕ) → Outcome (Unit {0})
  ended [] = Ok tt
  ended (w ∷ ws) = bad_line

  -- the first of the words as a number, and the others
  unfoldable pub numbered : ℕ → List (List ℕ) → Outcome (ℕ × List (List ℕ))
  numbered most ws = do
    p ← word ws
    a ← here (number most p.0)
    Ok (a, p.1)

  -- the bytes of one word, after those before
  unfoldable pub with_word : List ℕ → List ℕ → Outcome (List ℕ)
  with_word before w = do
    bs ← here (word_bytes w)
    Ok (before ++ bs)

  -- the bytes of the words, after those before
  unfoldable pub bytes_after : List ℕ → List (List ℕ) → Outcome (List ℕ)
  bytes_after before [] = Ok before
  bytes_after before (w ∷ ws) = do
    all ← with_word before w
    bytes_after all ws

  -- the bytes of all words, of which there is one at least
  unfoldable pub all_bytes : List (List ℕ) → Outcome (List ℕ)
  all_bytes ws = do
    w ← word ws
    bytes_after [] (w.0 ∷ w.1)

  -- `A bytes..`: the bytes from A on, none of them past the last place
  unfoldable pub placed : AddressSpace → Bytes → List (List ℕ) → Outcome Bytes
  placed in_space bytes ws = do
    a ← numbered (last_of in_space) ws
    bs ← all_bytes a.1
    if nat_le (a.0 + length bs) (last_of in_space + 1) then Ok (put_all in_space bytes a.0 bs) else bad_line

  -- `S B D F R bytes..`: segment group, bus, device and function, and the bytes from register R on
  unfoldable pub configured : Bytes → List (List ℕ) → Outcome Bytes
  configured bytes ws = do
    s ← numbered 0xFFFF ws
    b ← numbered 0xFF s.1
    d ← numbered 0x1F b.1
    f ← numbered 7 d.1
    placed (Pci s.0 b.0 d.0 f.0) bytes f.1

  -- `A`, once
  unfoldable pub root : Option ℕ → List (List ℕ) → Outcome (Option ℕ)
  root rsdp ws = do
    a ← numbered 0xFFFFFFFFFFFFFFFF ws
    _ ← ended a.1
    if is_some rsdp then bad_line else Ok (Some a.0)

  -- the rest of the line, in at most 64 lines
  unfoldable pub text : List (List ℕ) → Option (List ℕ) → Outcome (List (List ℕ))
  text osi None = bad_line
  text osi (Some t) = if is_text t && nat_lt (length osi) 64 then Ok (osi ++ t ∷ []) else bad_line

  -- a line by its first word
  unfoldable pub keyed : List ℕ → Option (List ℕ) → Draft → Outcome Draft
  keyed key tail d =
      if bytes_eq key (codes "mem") then (do
        bytes ← placed Memory d.space (words_left tail)
        Ok (record d { space = bytes }))
      else if bytes_eq key (codes "io") then (do
        bytes ← placed Io d.space (words_left tail)
        Ok (record d { space = bytes }))
      else if bytes_eq key (codes "pci") then (do
        bytes ← configured d.space (words_left tail)
        Ok (record d { space = bytes }))
      else if bytes_eq key (codes "osi") then (do
        texts ← text d.osi tail
        Ok (record d { osi = texts }))
      else if bytes_eq key (codes "rsdp") then (do
        address ← root d.rsdp (words_left tail)
        Ok (record d { rsdp = address }))
      else bad_line

  -- a blank line and a line that begins with # say nothing
  abbrev pub is_silent : List ℕ → Bool
  is_silent [] = true
  is_silent (b ∷ bs) = b == 35

  unfoldable pub line : List ℕ → Draft → Outcome Draft
  line l d = if is_silent l then Ok d else keyed (before_first (λ b. b == 32) l) (tail_of l) d

-- the lines from the n-th on, and what was said before them
unfoldable pub lines_read : ℕ → List (List ℕ) → Draft → Outcome Draft
lines_read n [] d = Ok d
lines_read n (l ∷ ls) d = do
  e ← line n l d
  lines_read (n + 1) ls e

abbrev pub nothing_said : Draft
nothing_said = record { rsdp = None; space = no_bytes; osi = [] }

-- what all lines said: the RSDP's address is among it, or line 0 is refused
abbrev pub finished_with : Option ℕ → Bytes → List (List ℕ) → Outcome MachineText
finished_with None space osi = bad_line 0
finished_with (Some address) space osi = Ok (record { rsdp = address; space = space; osi = osi })

abbrev pub finished : Draft → Outcome MachineText
finished d = finished_with d.rsdp d.space d.osi

-- what a machine text says
unfoldable pub machine_text : List ℕ → Outcome MachineText
machine_text bytes = do
  d ← lines_read 1 (lines bytes) nothing_said
  finished d
