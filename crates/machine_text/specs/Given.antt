-- Which line of a machine text gives which byte at which place, and which byte a place has by the lines of a text.
use Rattle.std.specs.Prelude.{◌≡◌, ℕ, ◌+◌, ◌<◌, List, [], ◌∷◌, ◌++◌, length, map, slice_index, Some, All, codes}
use Rattle.std.specs.List.{concat}
use Rattle.ar_space.specs.declared.space.Place.{Place}
use Rattle.text_words.specs.Words.{words}
use Rattle.machine_text.specs.Words.{number, word_bytes}
use Rattle.machine_text.specs.MachineText.{last_of, place_in}
use Rattle.machine_text.specs.declared.address_space.AddressSpace.{AddressSpace}
use Rattle.machine_text.specs.declared.address_space.AddressSpace.TheVariants.{Memory, Io, Pci}

-- `pci S B D F` names the registers of a function by its segment group, bus, device and number
pub record NamesFunction (name : List (List ℕ)) (seg bus dev func : ℕ) : Type 0 where
  pub s : List ℕ
  pub b : List ℕ
  pub d : List ℕ
  pub f : List ℕ
  pub is : name ≡ codes "pci" ∷ s ∷ b ∷ d ∷ f ∷ []
  pub seg_is : number 0xFFFF s ≡ Some seg
  pub bus_is : number 0xFF b ≡ Some bus
  pub dev_is : number 0x1F d ≡ Some dev
  pub func_is : number 7 f ≡ Some func

-- `mem` names memory, and `io` the ports
abbrev pub Names : List (List ℕ) → AddressSpace → Type 0
Names name Memory = name ≡ codes "mem" ∷ []
Names name Io = name ≡ codes "io" ∷ []
Names name (Pci seg bus dev func) = NamesFunction name seg bus dev func

-- the words of a line are the name of an address space, a number that is a place in it, and words that are bytes: the
-- line gives these bytes, in their order, from that place on
pub record GivesBytes (line : List ℕ) (in_space : AddressSpace) (first : ℕ) (bytes : List ℕ) : Type 0 where
  pub name : List (List ℕ)
  pub address : List ℕ
  pub others : List (List ℕ)
  pub parts : List (List ℕ)
  pub words_are : words line ≡ name ++ address ∷ others
  pub names : Names name in_space
  pub first_is : number (last_of in_space) address ≡ Some first
  pub parts_are : map word_bytes others ≡ map Some parts
  pub bytes_are : bytes ≡ concat parts

-- a line gives a byte at a place: it is the n-th of the bytes that the line gives, n places behind the first
pub record Gives (line : List ℕ) (place : Place) (byte : ℕ) : Type 0 where
  pub in_space : AddressSpace
  pub first : ℕ
  pub bytes : List ℕ
  pub given : GivesBytes line in_space first bytes
  pub n : ℕ
  pub within : n < length bytes
  pub place_is : place ≡ place_in in_space (first + n)
  pub byte_is : byte ≡ slice_index bytes n

-- no line of a list gives a byte at a place
abbrev pub NoneGives : List (List ℕ) → Place → Type 0
NoneGives ls place = All (λ line. (byte : ℕ) → Gives line place byte → ⊥) ls

-- the last line of a list that gives a byte at a place gives this one: no later line gives one there
pub record LastGives (ls : List (List ℕ)) (place : Place) (byte : ℕ) : Type 0 where
  pub earlier : List (List ℕ)
  pub line : List ℕ
  pub later : List (List ℕ)
  pub lines_are : ls ≡ earlier ++ line ∷ later
  pub gives : Gives line place byte
  pub last : NoneGives later place
