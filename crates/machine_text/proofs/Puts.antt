-- Bytes that a space puts from a place on are those put one by one.
use Rattle.std.proofs.Common.{◌≡◌, ℕ, ◌+◌, ◌^◌, ◌≤◌, cond, List, [], ◌∷◌, length, Some, None, refl, ap, ◌∙◌, arith}
use Rattle.std.specs.Prelude.{◌==◌, true}
use Rattle.std.proofs.lemmas.Bool.{lt-ltb, eqb-true}
use Rattle.ar_space.specs.Accesses.{place_on}
use Rattle.ar_space.specs.Bytes.{Bytes, with_byte, put_at, put_on, HasRoom}
use Rattle.ar_space.specs.declared.space.Place.TheVariants as place
use Rattle.machine_text.specs.MachineText.{last_of, place_in, put_all}
use Rattle.machine_text.specs.declared.address_space.AddressSpace.{AddressSpace}
use Rattle.machine_text.specs.declared.address_space.AddressSpace.TheVariants.{Memory, Io, Pci}

-- a place further on in the address space
place_behind : (in_space : AddressSpace) (first n : ℕ) → first + n ≤ last_of in_space → place_on (place_in in_space first) n ≡ Some (place_in in_space (first + n))
place_behind Memory first n le = ap (λ b. cond b (Some (place.Memory (first + n))) None) (lt-ltb (first + n) (2 ^ 64) (omega (arith, le)))
place_behind Io first n le = ap (λ b. cond b (Some (place.Io (first + n))) None) (lt-ltb (first + n) (2 ^ 16) (omega (arith, le)))
place_behind (Pci s u d f) first n le = ap (λ b. cond b (Some (place.Pci s u d f (first + n))) None) (lt-ltb (first + n) 4096 (omega (arith, le)))

pub within : (in_space : AddressSpace) (first count : ℕ) → first + count ≤ last_of in_space + 1 → HasRoom (place_in in_space first) count
within Memory first count le = omega (arith, le)
within Io first count le = omega (arith, le)
within (Pci s u d f) first count le = omega (arith, le)

put_behind : (in_space : AddressSpace) (b : Bytes) (first n : ℕ) (xs : List ℕ) → first + n + length xs ≤ last_of in_space + 1 → put_on b (place_in in_space first) n xs ≡ put_all in_space b (first + n) xs
unfolding put_all
put_behind in_space b first n [] room = refl
put_behind in_space b first n (x ∷ xs) room =
    ap (λ p. put_on (put_at b p x) (place_in in_space first) (n + 1) xs) (place_behind in_space first n (omega (arith, room)))
    ∙ put_behind in_space (with_byte b (place_in in_space (first + n)) x) first (n + 1) xs (omega (arith, room))
    ∙ ap (λ k. put_all in_space (with_byte b (place_in in_space (first + n)) x) k xs) (omega arith)

pub put_from : (in_space : AddressSpace) (b : Bytes) (first : ℕ) (xs : List ℕ) → first + length xs ≤ last_of in_space + 1 → put_on b (place_in in_space first) 0 xs ≡ put_all in_space b first xs
put_from in_space b first xs room = put_behind in_space b first 0 xs (omega (arith, room)) ∙ ap (λ k. put_all in_space b k xs) (omega arith)

pub put_none : (in_space : AddressSpace) (b : Bytes) (first : ℕ) (xs : List ℕ) → (length xs == 0) ≡ true → b ≡ put_all in_space b first xs
unfolding put_all
put_none in_space b first [] none = refl
put_none in_space b first (x ∷ xs) none = absurd (omega (arith, eqb-true (length (x ∷ xs)) 0 none))
