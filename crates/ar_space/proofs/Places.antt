-- The bytes behind a place, in the map of its address space.
use Rattle.std.proofs.Common.{◌≡◌, ℕ, zero, suc, ◌+◌, ◌-◌, ◌*◌, ◌/◌, ◌%◌, ◌^◌, ◌<◌, ◌≤◌, Bool, true, false, cond, List, [], ◌∷◌, length, take, inl, inr, Option, Some, None, refl, ap, sym, ◌∙◌, subst, arith}
use Rattle.std.specs.Prelude.{option_and_then, is_some, Result, Ok, Err}
use Rattle.std.specs.Option.{option_map}
use Rattle.std.specs.Int.{bytes_low_first, to_le_bytes, w64}
use Rattle.std.proofs.Math.Nat.{div-div-eq-div-mul, pow-succ', mul_comm}
use Rattle.std.proofs.lemmas.Bool.{cases_lt, lt-ltb, le-ltb}
use Rattle.std.specs.FinMap.{FinMap, get, insert, get-insert}
use Rattle.std.specs.Ordering.{nat_cmp, eq_by_cmp}
use Rattle.std.specs.declared.cmp.Ordering.{Ordering}
use Rattle.std.specs.Cmp.{IsTotalOrder, nat_cmp_total}
use Rattle.ar_space.specs.declared.refusal.SpaceFault.TheVariants.{NoRegister}
use Rattle.ar_space.specs.declared.refusal.SpaceFault.{SpaceFault}
use Rattle.ar_space.specs.declared.space.Width.{Width}
use Rattle.ar_space.specs.declared.space.Width.TheVariants.{W8, W16, W32, W64}
use Rattle.ar_space.specs.declared.space.Place.{Place}
use Rattle.ar_space.specs.declared.space.Place.TheVariants.{Memory, Io, Pci}
use Rattle.ar_space.specs.Accesses.{byte_count, place_on}
use Rattle.ar_space.specs.Registers.{register_cmp, register_on, with_registers}
use Rattle.ar_space.proofs.RegisterOrder.{register_cmp_total}
use Rattle.ar_space.specs.Runs.{with_bytes, number_from, low_bytes}
use Rattle.ar_space.specs.Bytes.{Bytes, byte_at, number_on, put_at, put_on, HasRoom, replaced_on, written_on, write_step}
use Rattle.ar_space.proofs.PageMaps.{same_number, no_number}
use Rattle.ar_space.proofs.RegisterNumbers.{chosen}

-- the byte so many bytes behind a place
abbrev pub behind : Bytes → Place → ℕ → Option ℕ
behind b place n = option_and_then (byte_at b) (place_on place n)

number_behind : (b : Bytes) (place : Place) (n count : ℕ) → number_on b place n count ≡ number_from (behind b place) n count
number_behind b place n zero = refl
number_behind b place n (suc count) = ap (λ x. option_and_then (λ low. option_map (λ high. low + 256 * high) x) (behind b place n)) (number_behind b place (n + 1) count)

memory_on : (a i : ℕ) → a + i < 2 ^ 64 → place_on (Memory a) i ≡ Some (Memory (a + i))
memory_on a i lt = ap (λ b. cond b (Some (Memory (a + i))) None) (lt-ltb (a + i) (2 ^ 64) lt)

port_on : (a i : ℕ) → a + i < 2 ^ 16 → place_on (Io a) i ≡ Some (Io (a + i))
port_on a i lt = ap (λ b. cond b (Some (Io (a + i))) None) (lt-ltb (a + i) (2 ^ 16) lt)

pci_on : (s u d f a i : ℕ) → a + i < 4096 → place_on (Pci s u d f a) i ≡ Some (Pci s u d f (a + i))
pci_on s u d f a i lt = ap (λ b. cond b (Some (Pci s u d f (a + i))) None) (lt-ltb (a + i) 4096 lt)

-- a number, read in one map
pub memory_number : (b : Bytes) (a count : ℕ) → a + count ≤ 2 ^ 64 → number_from (get b.memory) a count ≡ number_on b (Memory a) 0 count
memory_number b a count room = same_number (get b.memory) (behind b (Memory a)) a 0 count (λ i lt.
    sym (ap (behind b (Memory a)) (omega arith) ∙ ap (option_and_then (byte_at b)) (memory_on a i (omega (arith, room, lt))))) ∙ sym (number_behind b (Memory a) 0 count)

pub port_number : (b : Bytes) (a count : ℕ) → a + count ≤ 2 ^ 16 → number_from (get b.ports) a count ≡ number_on b (Io a) 0 count
port_number b a count room = same_number (get b.ports) (behind b (Io a)) a 0 count (λ i lt.
    sym (ap (behind b (Io a)) (omega arith) ∙ ap (option_and_then (byte_at b)) (port_on a i (omega (arith, room, lt))))) ∙ sym (number_behind b (Io a) 0 count)

pub pci_number : (b : Bytes) (s u d f a count : ℕ) → a + count ≤ 4096
    → number_from (λ n. get b.registers (register_on (record { seg = s; bus = u; dev = d; func = f; reg = a }) n)) 0 count ≡ number_on b (Pci s u d f a) 0 count
pci_number b s u d f a count room = same_number (λ n. get b.registers (register_on (record { seg = s; bus = u; dev = d; func = f; reg = a }) n)) (behind b (Pci s u d f a)) 0 0 count (λ i lt.
    ap (λ n. get b.registers (register_on (record { seg = s; bus = u; dev = d; func = f; reg = a }) n)) (omega arith)
    ∙ sym (ap (behind b (Pci s u d f a)) (omega arith) ∙ ap (option_and_then (byte_at b)) (pci_on s u d f a i (omega (arith, room, lt))))) ∙ sym (number_behind b (Pci s u d f a) 0 count)

-- past the last place there is no number
pub past_the_last : (b : Bytes) (place : Place) (count last : ℕ) → 0 < count → last ≡ count - 1 → place_on place last ≡ None → number_on b place 0 count ≡ None
past_the_last b place count last some is none = number_behind b place 0 count ∙ no_number (behind b place) 0 count last (omega (arith, some, is))
    (ap (behind b place) (omega arith) ∙ ap (option_and_then (byte_at b)) none)

-- where the last byte has a place, all have
pub has_room : (place q : Place) (count last : ℕ) → 0 < count → last ≡ count - 1 → place_on place last ≡ Some q → HasRoom place count
has_room (Memory a) q count last some is there = elim (cases_lt (a + last) (2 ^ 64)) [
  | inl lt ↦ omega (arith, lt, some, is)
  | inr le ↦ (let none : None ≡ Some q = sym (ap (λ b. cond b (Some (Memory (a + last))) None) (le-ltb (a + last) (2 ^ 64) le)) ∙ there in absurd (cc none))
]
has_room (Io a) q count last some is there = elim (cases_lt (a + last) (2 ^ 16)) [
  | inl lt ↦ omega (arith, lt, some, is)
  | inr le ↦ (let none : None ≡ Some q = sym (ap (λ b. cond b (Some (Io (a + last))) None) (le-ltb (a + last) (2 ^ 16) le)) ∙ there in absurd (cc none))
]
has_room (Pci s u d f a) q count last some is there = elim (cases_lt (a + last) 4096) [
  | inl lt ↦ omega (arith, lt, some, is)
  | inr le ↦ (let none : None ≡ Some q = sym (ap (λ b. cond b (Some (Pci s u d f (a + last))) None) (le-ltb (a + last) 4096 le)) ∙ there in absurd (cc none))
]

-- bytes put in one map
memory_put : (b : Bytes) (a n : ℕ) (xs : List ℕ) → a + n + length xs ≤ 2 ^ 64 → put_on b (Memory a) n xs ≡ record b { memory = with_bytes b.memory (a + n) xs }
unfolding with_bytes
memory_put b a n [] room = refl
memory_put b a n (x ∷ xs) room =
    let after : Bytes = record b { memory = insert b.memory (a + n) x } in
    ap (λ p. put_on (put_at b p x) (Memory a) (n + 1) xs) (memory_on a n (omega (arith, room))) ∙ memory_put after a (n + 1) xs (omega (arith, room))
    ∙ ap (λ k. record b { memory = with_bytes after.memory k xs }) (omega arith)

ports_put : (b : Bytes) (a n : ℕ) (xs : List ℕ) → a + n + length xs ≤ 2 ^ 16 → put_on b (Io a) n xs ≡ record b { ports = with_bytes b.ports (a + n) xs }
unfolding with_bytes
ports_put b a n [] room = refl
ports_put b a n (x ∷ xs) room =
    let after : Bytes = record b { ports = insert b.ports (a + n) x } in
    ap (λ p. put_on (put_at b p x) (Io a) (n + 1) xs) (port_on a n (omega (arith, room))) ∙ ports_put after a (n + 1) xs (omega (arith, room))
    ∙ ap (λ k. record b { ports = with_bytes after.ports k xs }) (omega arith)

registers_put : (b : Bytes) (s u d f a n : ℕ) (xs : List ℕ) → a + n + length xs ≤ 4096
    → put_on b (Pci s u d f a) n xs ≡ record b { registers = with_registers b.registers (record { seg = s; bus = u; dev = d; func = f; reg = a + n }) xs }
unfolding with_registers
registers_put b s u d f a n [] room = refl
registers_put b s u d f a n (x ∷ xs) room =
    let after : Bytes = record b { registers = insert b.registers (record { seg = s; bus = u; dev = d; func = f; reg = a + n }) x } in
    ap (λ p. put_on (put_at b p x) (Pci s u d f a) (n + 1) xs) (pci_on s u d f a n (omega (arith, room))) ∙ registers_put after s u d f a (n + 1) xs (omega (arith, room))
    ∙ ap (λ k. record b { registers = with_registers after.registers (record { seg = s; bus = u; dev = d; func = f; reg = k }) xs }) (omega arith)

pub put_in_memory : (b : Bytes) (a : ℕ) (xs : List ℕ) → a + length xs ≤ 2 ^ 64 → record b { memory = with_bytes b.memory a xs } ≡ put_on b (Memory a) 0 xs
put_in_memory b a xs room = ap (λ k. record b { memory = with_bytes b.memory k xs }) (omega arith) ∙ sym (memory_put b a 0 xs (omega (arith, room)))

pub put_in_ports : (b : Bytes) (a : ℕ) (xs : List ℕ) → a + length xs ≤ 2 ^ 16 → record b { ports = with_bytes b.ports a xs } ≡ put_on b (Io a) 0 xs
put_in_ports b a xs room = ap (λ k. record b { ports = with_bytes b.ports k xs }) (omega arith) ∙ sym (ports_put b a 0 xs (omega (arith, room)))

pub put_in_registers : (b : Bytes) (s u d f a : ℕ) (xs : List ℕ) → a + length xs ≤ 4096
    → record b { registers = with_registers b.registers (record { seg = s; bus = u; dev = d; func = f; reg = a }) xs } ≡ put_on b (Pci s u d f a) 0 xs
put_in_registers b s u d f a xs room =
    ap (λ k. record b { registers = with_registers b.registers (record { seg = s; bus = u; dev = d; func = f; reg = k }) xs }) (omega arith) ∙ sym (registers_put b s u d f a 0 xs (omega (arith, room)))

-- where a byte stands, to replace it is to put it
replaced_is_put : (b : Bytes) (p : Option Place) (x : ℕ) → is_some (option_and_then (byte_at b) p) ≡ true → replaced_on b p x ≡ put_at b p x
replaced_is_put b None x stands = absurd (cc stands)
replaced_is_put b (Some (Memory a)) x stands = ap (λ t. record b { memory = cond t (insert b.memory a x) b.memory }) stands
replaced_is_put b (Some (Io a)) x stands = ap (λ t. record b { ports = cond t (insert b.ports a x) b.ports }) stands
replaced_is_put b (Some (Pci s u d f a)) x stands =
    ap (λ t. record b { registers = cond t (insert b.registers (record { seg = s; bus = u; dev = d; func = f; reg = a }) x) b.registers }) stands

still_there : {K : Type 0} {R : K → K → Ordering} → IsTotalOrder R → (m : FinMap R ℕ) (k q : K) (x : ℕ) → is_some (get m q) ≡ true → is_some (get (insert m k x) q) ≡ true
still_there {R = R} total m k q x there = ap is_some (get-insert total m k x q) ∙ by_key (eq_by_cmp R q k)
  where
    by_key : (t : Bool) → is_some (cond t (Some x) (get m q)) ≡ true
    by_key true = refl
    by_key false = there

stands_on : (b : Bytes) (p q : Option Place) (x : ℕ) → is_some (option_and_then (byte_at b) q) ≡ true → is_some (option_and_then (byte_at (put_at b p x)) q) ≡ true
stands_on b None q x there = there
stands_on b (Some p) None x there = there
stands_on b (Some (Memory a)) (Some (Memory k)) x there = still_there nat_cmp_total b.memory a k x there
stands_on b (Some (Memory a)) (Some (Io k)) x there = there
stands_on b (Some (Memory a)) (Some (Pci s u d f k)) x there = there
stands_on b (Some (Io a)) (Some (Memory k)) x there = there
stands_on b (Some (Io a)) (Some (Io k)) x there = still_there nat_cmp_total b.ports a k x there
stands_on b (Some (Io a)) (Some (Pci s u d f k)) x there = there
stands_on b (Some (Pci s u d f a)) (Some (Memory k)) x there = there
stands_on b (Some (Pci s u d f a)) (Some (Io k)) x there = there
stands_on b (Some (Pci s u d f a)) (Some (Pci s' u' d' f' k)) x there = still_there register_cmp_total b.registers _ _ x there

written_is_put : (b : Bytes) (place : Place) (n count value : ℕ) → ((i : ℕ) → n ≤ i → i < n + count → is_some (behind b place i) ≡ true)
    → written_on b place n count value ≡ put_on b place n (low_bytes count value)
written_is_put b place n zero value stands = refl
written_is_put b place n (suc count) value stands =
    let x = value % 256 in
    ap (λ c. written_on c place (n + 1) count (value / 256)) (replaced_is_put b (place_on place n) x (stands n (omega arith) (omega arith)))
    ∙ written_is_put (put_at b (place_on place n) x) place (n + 1) count (value / 256) (λ i from lt. stands_on b (place_on place n) (place_on place i) x (stands i (omega (arith, from)) (omega (arith, lt))))

each_stands : (b : Bytes) (place : Place) (count : ℕ) → is_some (number_on b place 0 count) ≡ true → (i : ℕ) → i < count → is_some (behind b place i) ≡ true
each_stands b place count there i lt = by_byte (behind b place i) refl
  where
    by_byte : (x : Option ℕ) → behind b place i ≡ x → is_some x ≡ true
    by_byte (Some x) is = refl
    by_byte None is = sym (ap is_some (number_behind b place 0 count ∙ no_number (behind b place) 0 count i lt (ap (behind b place) (omega arith) ∙ is))) ∙ there

-- the lowest bytes of a value, as `to_le_bytes` gives them
low_first : (i k n : ℕ) → bytes_low_first (suc i) k n ≡ low_bytes k (n / 256 ^ suc i)
low_first i zero n = refl
low_first i (suc k) n =
    let product : 256 ^ suc i * 256 ≡ 256 ^ suc (suc i) = mul_comm (256 ^ suc i) 256 ∙ sym (pow-succ' 256 (suc i)) in
    ap (λ xs. n / 256 ^ suc i % 256 ∷ xs) (low_first (suc i) k n ∙ ap (low_bytes k) (sym (div-div-eq-div-mul n (256 ^ suc i) 256 ∙ ap (λ x. n / x) product)))

eight : (n : ℕ) → to_le_bytes w64 n ≡ low_bytes 8 n
eight n = ap (λ xs. n % 256 ∷ xs) (low_first 0 7 n)

fewer : (count k n : ℕ) → count ≤ k → take count (low_bytes k n) ≡ low_bytes count n
fewer zero k n few = refl
fewer (suc count) zero n few = absurd (omega (arith, few))
fewer (suc count) (suc k) n few = ap (λ xs. n % 256 ∷ xs) (fewer count k (n / 256) (omega (arith, few)))

-- a write whose bytes all stand
write_is_put : (b : Bytes) (place : Place) (count value : ℕ) (bytes : List ℕ) → count ≤ 8 → bytes ≡ take count (to_le_bytes w64 value) → is_some (number_on b place 0 count) ≡ true
    → put_on b place 0 bytes ≡ written_on b place 0 count value
write_is_put b place count value bytes few are there =
    ap (put_on b place 0) (are ∙ ap (take count) (eight value) ∙ fewer count 8 value few)
    ∙ sym (written_is_put b place 0 count value (λ i from lt. each_stands b place count there i (omega (arith, lt))))

abbrev pub of_maps : FinMap nat_cmp ℕ → FinMap nat_cmp ℕ → FinMap register_cmp ℕ → Bytes
of_maps memory ports registers = record { memory = memory; ports = ports; registers = registers }

-- one address space of a whole space: what is read in its map, and what its new map makes of the space
module _ (m p : FinMap nat_cmp ℕ) (r : FinMap register_cmp ℕ) (b : Bytes) (view : of_maps m p r ≡ b) (place : Place) where
  pub number_of_memory : (a count : ℕ) → place ≡ Memory a → HasRoom place count → number_from (get m) a count ≡ number_on b place 0 count
  number_of_memory a count is room = memory_number (of_maps m p r) a count (subst (λ q. HasRoom q count) is room) ∙ ap (λ x. number_on x (Memory a) 0 count) view ∙ ap (λ q. number_on b q 0 count) (sym is)

  pub number_of_ports : (a count : ℕ) → place ≡ Io a → HasRoom place count → number_from (get p) a count ≡ number_on b place 0 count
  number_of_ports a count is room = port_number (of_maps m p r) a count (subst (λ q. HasRoom q count) is room) ∙ ap (λ x. number_on x (Io a) 0 count) view ∙ ap (λ q. number_on b q 0 count) (sym is)

  pub number_of_registers : (s u d f a count : ℕ) → place ≡ Pci s u d f a → HasRoom place count
      → number_from (λ n. get r (register_on (record { seg = s; bus = u; dev = d; func = f; reg = a }) n)) 0 count ≡ number_on b place 0 count
  number_of_registers s u d f a count is room =
      pci_number (of_maps m p r) s u d f a count (subst (λ q. HasRoom q count) is room) ∙ ap (λ x. number_on x (Pci s u d f a) 0 count) view ∙ ap (λ q. number_on b q 0 count) (sym is)

  pub memory_with : (a : ℕ) (xs : List ℕ) (new : FinMap nat_cmp ℕ) → place ≡ Memory a → HasRoom place (length xs) → new ≡ with_bytes m a xs → of_maps new p r ≡ put_on b place 0 xs
  memory_with a xs new is room put = ap (λ x. of_maps x p r) put ∙ put_in_memory (of_maps m p r) a xs (subst (λ q. HasRoom q (length xs)) is room) ∙ ap (λ x. put_on x (Memory a) 0 xs) view ∙ ap (λ q. put_on b q 0 xs) (sym is)

  pub ports_with : (a : ℕ) (xs : List ℕ) (new : FinMap nat_cmp ℕ) → place ≡ Io a → HasRoom place (length xs) → new ≡ with_bytes p a xs → of_maps m new r ≡ put_on b place 0 xs
  ports_with a xs new is room put = ap (λ x. of_maps m x r) put ∙ put_in_ports (of_maps m p r) a xs (subst (λ q. HasRoom q (length xs)) is room) ∙ ap (λ x. put_on x (Io a) 0 xs) view ∙ ap (λ q. put_on b q 0 xs) (sym is)

  pub registers_with : (s u d f a : ℕ) (xs : List ℕ) (new : FinMap register_cmp ℕ) → place ≡ Pci s u d f a → HasRoom place (length xs)
      → new ≡ with_registers r (record { seg = s; bus = u; dev = d; func = f; reg = a }) xs → of_maps m p new ≡ put_on b place 0 xs
  registers_with s u d f a xs new is room put =
      ap (λ x. of_maps m p x) put ∙ put_in_registers (of_maps m p r) s u d f a xs (subst (λ q. HasRoom q (length xs)) is room) ∙ ap (λ x. put_on x (Pci s u d f a) 0 xs) view ∙ ap (λ q. put_on b q 0 xs) (sym is)

  pub memory_replaced : (a : ℕ) (xs : List ℕ) (new : FinMap nat_cmp ℕ) (stood : Bool) → place ≡ Memory a → HasRoom place (length xs) → new ≡ cond stood (with_bytes m a xs) m → of_maps new p r ≡ cond stood (put_on b place 0 xs) b
  memory_replaced a xs new stood is room put =
      ap (λ x. of_maps x p r) put ∙ chosen stood (λ x. of_maps x p r) (with_bytes m a xs) m ∙ ap (λ x. cond stood x (of_maps m p r)) (memory_with a xs (with_bytes m a xs) is room refl) ∙ ap (cond stood (put_on b place 0 xs)) view

  pub ports_replaced : (a : ℕ) (xs : List ℕ) (new : FinMap nat_cmp ℕ) (stood : Bool) → place ≡ Io a → HasRoom place (length xs) → new ≡ cond stood (with_bytes p a xs) p → of_maps m new r ≡ cond stood (put_on b place 0 xs) b
  ports_replaced a xs new stood is room put =
      ap (λ x. of_maps m x r) put ∙ chosen stood (λ x. of_maps m x r) (with_bytes p a xs) p ∙ ap (λ x. cond stood x (of_maps m p r)) (ports_with a xs (with_bytes p a xs) is room refl) ∙ ap (cond stood (put_on b place 0 xs)) view

  pub registers_replaced : (s u d f a : ℕ) (xs : List ℕ) (new : FinMap register_cmp ℕ) (stood : Bool) → place ≡ Pci s u d f a → HasRoom place (length xs)
      → new ≡ cond stood (with_registers r (record { seg = s; bus = u; dev = d; func = f; reg = a }) xs) r → of_maps m p new ≡ cond stood (put_on b place 0 xs) b
  registers_replaced s u d f a xs new stood is room put =
      let after : FinMap register_cmp ℕ = with_registers r (record { seg = s; bus = u; dev = d; func = f; reg = a }) xs in
      ap (λ x. of_maps m p x) put ∙ chosen stood (λ x. of_maps m p x) after r ∙ ap (λ x. cond stood x (of_maps m p r)) (registers_with s u d f a xs after is room refl) ∙ ap (cond stood (put_on b place 0 xs)) view

low_length : (count n : ℕ) → length (low_bytes count n) ≡ count
low_length zero n = refl
low_length (suc count) n = ap suc (low_length count (n / 256))

few_bytes : (width : Width) → byte_count width ≤ 8
few_bytes W8 = omega arith
few_bytes W16 = omega arith
few_bytes W32 = omega arith
few_bytes W64 = omega arith

first_of : {A : Type 0} (t : Bool) (x y : A) → t ≡ true → x ≡ cond t x y
first_of t x y is = sym (ap (λ b. cond b x y) is)

abbrev Answer : Type 0
Answer = Result (Unit {0}) SpaceFault × Bytes

state_of : (t : Bool) (after b : Bytes) → cond t after b ≡ (cond {A = Answer} t (Ok tt, after) (Err NoRegister, b)).1
state_of true after b = refl
state_of false after b = refl

-- what a write leaves where all bytes stand
pub write_state : (b new : Bytes) (place : Place) (width : Width) (value : ℕ) (bytes : List ℕ) (stood : Bool) → bytes ≡ take (byte_count width) (to_le_bytes w64 value)
    → stood ≡ is_some (number_on b place 0 (length bytes)) → stood ≡ true → new ≡ cond stood (put_on b place 0 bytes) b → new ≡ (write_step b place width value).1
unfolding write_step
write_state b new place width value bytes stood are stood_is done put =
    let count : length bytes ≡ byte_count width = ap length (are ∙ ap (take (byte_count width)) (eight value) ∙ fewer (byte_count width) 8 value (few_bytes width)) ∙ low_length (byte_count width) value in
    let there : is_some (number_on b place 0 (byte_count width)) ≡ true = ap (λ n. is_some (number_on b place 0 n)) (sym count) ∙ sym stood_is ∙ done in
    let after : Bytes = written_on b place 0 (byte_count width) value in
    put ∙ ap (λ t. cond t (put_on b place 0 bytes) b) done ∙ write_is_put b place (byte_count width) value bytes (few_bytes width) are there
    ∙ first_of (is_some (number_on b place 0 (byte_count width))) after b there ∙ state_of (is_some (number_on b place 0 (byte_count width))) after b
