-- What stands where bytes were put, and where none were.
use Rattle.std.proofs.Common.{◌≡◌, ◌≢◌, ◌<◌, ℕ, zero, suc, ◌+◌, true, false, cond, List, [], ◌∷◌, length, ◌⊎◌, inl, inr, Some, refl, ap, sym, ◌∙◌, arith}
use Rattle.std.specs.Prelude.{slice_index}
use Rattle.std.specs.FinMap.{FinMap, get, insert, get-insert, IsAntisymmetric}
use Rattle.std.specs.declared.cmp.Ordering.{Ordering}
use Rattle.std.specs.declared.cmp.Ordering.TheVariants.{Less, Equal, Greater}
use Rattle.std.specs.Ordering.{nat_cmp, is_eq}
use Rattle.std.specs.Cmp.{IsTotalOrder, nat_cmp_total, eq_by_cmp_equiv}
use Rattle.std.specs.FinMap.{nat_cmp-IsAntisymmetric}
use Rattle.ar_space.specs.declared.space.Place.{Place}
use Rattle.ar_space.specs.declared.space.Place.TheVariants as place
use Rattle.ar_space.specs.declared.register_map.Register.{Register}
use Rattle.ar_space.specs.Registers.{register_cmp}
use Rattle.ar_space.proofs.RegisterOrder.{register_cmp_total, register_cmp_exact}
use Rattle.ar_space.specs.Bytes.{Bytes, byte_at, with_byte}
use Rattle.machine_text.specs.MachineText.{place_in, put_all}
use Rattle.machine_text.specs.declared.address_space.AddressSpace.{AddressSpace}
use Rattle.machine_text.specs.declared.address_space.AddressSpace.TheVariants.{Memory, Io, Pci}

-- one entry of a map is put in
module _ {K : Type 0} (R : K → K → Ordering) (total : IsTotalOrder R) (exact : IsAntisymmetric R) where
  entry_put : (m : FinMap R ℕ) (k : K) (x : ℕ) → get (insert m k x) k ≡ Some x
  entry_put m k x = get-insert total m k x k ∙ ap (λ b. cond b (Some x) (get m k)) ((eq_by_cmp_equiv total).refl k)

  entry_kept : (m : FinMap R ℕ) (k q : K) (x : ℕ) → is_eq (R q k) ≡ false → get (insert m k x) q ≡ get m q
  entry_kept m k q x e = get-insert total m k x q ∙ ap (λ b. cond b (Some x) (get m q)) e

  entry_cases : (k q : K) → (k ≡ q) ⊎ ((k ≢ q) × (is_eq (R q k) ≡ false))
  entry_cases k q = by_order (R q k) refl
    where
      itself : is_eq (R q q) ≡ true
      itself = (eq_by_cmp_equiv total).refl q

      apart : is_eq (R q k) ≡ false → k ≢ q
      apart e same = let is : true ≡ false = sym itself ∙ (ap (λ x. is_eq (R q x)) (sym same) ∙ e) in absurd (cc is)

      by_order : (r : Ordering) → R q k ≡ r → (k ≡ q) ⊎ ((k ≢ q) × (is_eq (R q k) ≡ false))
      by_order Less e = inr (apart (ap is_eq e), ap is_eq e)
      by_order Equal e = inl (sym (exact q k e))
      by_order Greater e = inr (apart (ap is_eq e), ap is_eq e)

-- the place that was put at
pub put_here : (b : Bytes) (p : Place) (x : ℕ) → byte_at (with_byte b p x) p ≡ Some x
put_here b (place.Memory n) x = entry_put nat_cmp nat_cmp_total nat_cmp-IsAntisymmetric b.memory n x
put_here b (place.Io n) x = entry_put nat_cmp nat_cmp_total nat_cmp-IsAntisymmetric b.ports n x
put_here b (place.Pci seg bus dev func reg) x =
    entry_put register_cmp register_cmp_total register_cmp_exact b.registers (record { seg = seg; bus = bus; dev = dev; func = func; reg = reg }) x

same_register : (s t d f m s' t' d' f' n : ℕ) → place.Pci s t d f m ≡ place.Pci s' t' d' f' n
    → ◌≡◌ {A = Register} (record { seg = s; bus = t; dev = d; func = f; reg = m }) (record { seg = s'; bus = t'; dev = d'; func = f'; reg = n })
same_register s t d f m s' t' d' f' n e = ap register_at e
  where
    register_at : Place → Register
    register_at (place.Memory a) = record { seg = 0; bus = 0; dev = 0; func = 0; reg = a }
    register_at (place.Io a) = record { seg = 0; bus = 0; dev = 0; func = 0; reg = a }
    register_at (place.Pci a b c g h) = record { seg = a; bus = b; dev = c; func = g; reg = h }

-- another place
pub put_or_kept : (b : Bytes) (p q : Place) (x : ℕ) → (p ≡ q) ⊎ ((p ≢ q) × (byte_at (with_byte b p x) q ≡ byte_at b q))
put_or_kept b (place.Memory m) (place.Memory n) x = elim (entry_cases nat_cmp nat_cmp_total nat_cmp-IsAntisymmetric m n) [
  | inl e ↦ inl (ap place.Memory e)
  | inr e ↦ inr ((λ same. e.0 (cc same)), entry_kept nat_cmp nat_cmp_total nat_cmp-IsAntisymmetric b.memory m n x e.1)
]
put_or_kept b (place.Io m) (place.Io n) x = elim (entry_cases nat_cmp nat_cmp_total nat_cmp-IsAntisymmetric m n) [
  | inl e ↦ inl (ap place.Io e)
  | inr e ↦ inr ((λ same. e.0 (cc same)), entry_kept nat_cmp nat_cmp_total nat_cmp-IsAntisymmetric b.ports m n x e.1)
]
put_or_kept b (place.Pci s t d f m) (place.Pci s' t' d' f' n) x =
    let k : Register = record { seg = s; bus = t; dev = d; func = f; reg = m } in
    let q : Register = record { seg = s'; bus = t'; dev = d'; func = f'; reg = n } in
    elim (entry_cases register_cmp register_cmp_total register_cmp_exact k q) [
      | inl e ↦ inl (ap (λ (r : Register). place.Pci r.seg r.bus r.dev r.func r.reg) e)
      | inr e ↦ inr ((λ same. e.0 (same_register s t d f m s' t' d' f' n same)), entry_kept register_cmp register_cmp_total register_cmp_exact b.registers k q x e.1)
    ]
put_or_kept b (place.Memory m) (place.Io n) x = inr ((λ e. absurd (cc e)), refl)
put_or_kept b (place.Memory m) (place.Pci s t d f n) x = inr ((λ e. absurd (cc e)), refl)
put_or_kept b (place.Io m) (place.Memory n) x = inr ((λ e. absurd (cc e)), refl)
put_or_kept b (place.Io m) (place.Pci s t d f n) x = inr ((λ e. absurd (cc e)), refl)
put_or_kept b (place.Pci s t d f m) (place.Memory n) x = inr ((λ e. absurd (cc e)), refl)
put_or_kept b (place.Pci s t d f m) (place.Io n) x = inr ((λ e. absurd (cc e)), refl)

abbrev number_in : Place → ℕ
number_in (place.Memory n) = n
number_in (place.Io n) = n
number_in (place.Pci seg bus dev func n) = n

number_of_place : (in_space : AddressSpace) (n : ℕ) → number_in (place_in in_space n) ≡ n
number_of_place Memory n = refl
number_of_place Io n = refl
number_of_place (Pci seg bus dev func) n = refl

same_number : (in_space : AddressSpace) (m n : ℕ) → place_in in_space m ≡ place_in in_space n → m ≡ n
same_number in_space m n e = sym (number_of_place in_space m) ∙ (ap number_in e ∙ number_of_place in_space n)

-- a place at which none of some bytes was put has what it had
pub put_beside : (in_space : AddressSpace) (b : Bytes) (first : ℕ) (xs : List ℕ) (q : Place) → ((n : ℕ) → n < length xs → q ≢ place_in in_space (first + n))
    → byte_at (put_all in_space b first xs) q ≡ byte_at b q
unfolding put_all
put_beside in_space b first [] q none = refl
put_beside in_space b first (x ∷ xs) q none =
    put_beside in_space (with_byte b (place_in in_space first) x) (first + 1) xs q (λ n lt e. none (n + 1) (omega arith) (e ∙ ap (place_in in_space) (omega arith)))
    ∙ elim (put_or_kept b (place_in in_space first) q x) [
      | inl e ↦ absurd (none 0 (omega arith) (sym e ∙ ap (place_in in_space) (omega arith)))
      | inr e ↦ e.1
    ]

-- the n-th of the bytes that were put
pub put_at : (in_space : AddressSpace) (b : Bytes) (first : ℕ) (xs : List ℕ) (n : ℕ) → n < length xs
    → byte_at (put_all in_space b first xs) (place_in in_space (first + n)) ≡ Some (slice_index xs n)
unfolding put_all
put_at in_space b first [] n lt = absurd (omega arith)
put_at in_space b first (x ∷ xs) zero lt =
    let here : place_in in_space (first + 0) ≡ place_in in_space first = ap (place_in in_space) (omega arith) in
    let b' = with_byte b (place_in in_space first) x in
    ap (byte_at (put_all in_space b' (first + 1) xs)) here
    ∙ (put_beside in_space b' (first + 1) xs (place_in in_space first) (λ n lt e. let same = same_number in_space first (first + 1 + n) e in absurd (omega arith))
    ∙ put_here b (place_in in_space first) x)
put_at in_space b first (x ∷ xs) (suc n) lt =
    let here : place_in in_space (first + suc n) ≡ place_in in_space (first + 1 + n) = ap (place_in in_space) (omega arith) in
    let b' = with_byte b (place_in in_space first) x in
    ap (byte_at (put_all in_space b' (first + 1) xs)) here ∙ put_at in_space b' (first + 1) xs n (omega arith)

-- whether a place is one of those that bytes are put at
pub record IsPut (in_space : AddressSpace) (first count : ℕ) (q : Place) : Type 0 where
  pub n : ℕ
  pub within : n < count
  pub is : q ≡ place_in in_space (first + n)

first_or_later : (in_space : AddressSpace) (first count n : ℕ) (q : Place) → n < suc count → q ≡ place_in in_space (first + n)
    → place_in in_space first ≢ q → (IsPut in_space (first + 1) count q → ⊥) → ⊥
first_or_later in_space first count zero q lt is not_first none = not_first (ap (place_in in_space) (omega arith) ∙ sym is)
first_or_later in_space first count (suc n) q lt is not_first none = none (record { n = n; within = omega arith; is = is ∙ ap (place_in in_space) (omega arith) })

pub put_cases : (in_space : AddressSpace) (b : Bytes) (first : ℕ) (xs : List ℕ) (q : Place)
    → IsPut in_space first (length xs) q ⊎ ((IsPut in_space first (length xs) q → ⊥) × (byte_at (put_all in_space b first xs) q ≡ byte_at b q))
unfolding put_all
put_cases in_space b first [] q = inr ((λ p. let lt = p.within in absurd (omega arith)), refl)
put_cases in_space b first (x ∷ xs) q =
    let b' = with_byte b (place_in in_space first) x in
    elim (put_cases in_space b' (first + 1) xs q) [
      | inl p ↦ (let lt = p.within in inl (record { n = p.n + 1; within = omega arith; is = p.is ∙ ap (place_in in_space) (omega arith) }))
      | inr e ↦ elim (put_or_kept b (place_in in_space first) q x) [
        | inl h ↦ inl (record { n = 0; within = omega arith; is = sym h ∙ ap (place_in in_space) (omega arith) })
        | inr h ↦ inr ((λ p. first_or_later in_space first (length xs) p.n q p.within p.is h.0 e.0), e.1 ∙ h.1)
      ]
    ]
