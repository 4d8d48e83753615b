-- Registers and their numbers.
use Rattle.std.proofs.Common.{◌≡◌, ℕ, ◌+◌, ◌<◌, ◌≤◌, Bool, true, false, cond, List, [], ◌∷◌, length, map, inl, inr, Some, None, refl, ap, sym, ◌∙◌, arith}
use Rattle.std.proofs.lemmas.Bool.{cases_eq, cases_Bool}
use Rattle.std.specs.FinMap.{FinMap, empty, get-empty, find, get, insert, entries, get-entries, get-from_entries, get-insert, same_map}
use Rattle.std.specs.declared.cmp.Ordering.{Ordering}
use Rattle.std.specs.declared.cmp.Ordering.TheVariants.{Less, Equal, Greater}
use Rattle.std.specs.Ordering.{nat_cmp, eq_by_cmp, is_eq}
use Rattle.std.specs.Cmp.{nat_cmp_total, eq_by_cmp_equiv}
use Rattle.ar_space.specs.declared.register_map.Register.{Register}
use Rattle.ar_space.specs.Registers.{register_cmp, register_on, with_registers, counted, register_at, by_register}
use Rattle.ar_space.proofs.RegisterOrder.{register_cmp_total, register_cmp_exact}
use Rattle.ar_space.specs.Runs.{with_bytes, number_from}
use Rattle.ar_space.proofs.Cells.{here, apart}
use Rattle.ar_space.proofs.PageMaps.{same_number}

-- a register that fits its fields
pub record Fitting (r : Register) : Type 0 where
  pub bus : r.bus < 256
  pub dev : r.dev < 256
  pub func : r.func < 256
  pub reg : r.reg < 65536

same_fields : (a b : Register) → a.seg ≡ b.seg → a.bus ≡ b.bus → a.dev ≡ b.dev → a.func ≡ b.func → a.reg ≡ b.reg → a ≡ b
same_fields a b s u d f g = λ i. record { seg = s i; bus = u i; dev = d i; func = f i; reg = g i }

pub register_back : (r : Register) → Fitting r → register_at (counted r) ≡ r
register_back r fits =
    let bus = fits.bus in
    let dev = fits.dev in
    let func = fits.func in
    let reg = fits.reg in
    same_fields (register_at (counted r)) r (omega (arith, bus, dev, func, reg)) (omega (arith, bus, dev, func, reg)) (omega (arith, bus, dev, func, reg)) (omega (arith, bus, dev, func, reg)) (omega (arith, bus, dev, func, reg))

number_back : (n : ℕ) → counted (register_at n) ≡ n
number_back n = omega arith

tied : (p q : Register) → eq_by_cmp register_cmp p q ≡ true → p ≡ q
tied p q e = register_cmp_exact p q (by_order (register_cmp p q) refl e)
  where
    by_order : (r : Ordering) → register_cmp p q ≡ r → is_eq r ≡ true → register_cmp p q ≡ Equal
    by_order Less e t = absurd (cc t)
    by_order Equal e t = e
    by_order Greater e t = absurd (cc t)

itself : (p : Register) → eq_by_cmp register_cmp p p ≡ true
itself p = (eq_by_cmp_equiv register_cmp_total).refl p

one_number : (n k : ℕ) → eq_by_cmp register_cmp (register_at n) (register_at k) ≡ eq_by_cmp nat_cmp n k
one_number n k = elim (cases_eq n k) [
  | inl e ↦ ap (λ x. eq_by_cmp register_cmp (register_at n) (register_at x)) (sym e) ∙ itself (register_at n) ∙ sym (here n) ∙ ap (λ x. eq_by_cmp nat_cmp n x) e
  | inr ne ↦ elim (cases_Bool (eq_by_cmp register_cmp (register_at n) (register_at k))) [
    | inl t ↦ absurd (ne (sym (number_back n) ∙ ap counted (tied (register_at n) (register_at k) t) ∙ number_back k))
    | inr f ↦ f ∙ sym (apart n k ne)
  ]
]

abbrev named : ℕ × ℕ → Register × ℕ
named e = (register_at e.0, e.1)

found_named : (es : List (ℕ × ℕ)) (n : ℕ) → find register_cmp (register_at n) (map named es) ≡ find nat_cmp n es
found_named [] n = refl
found_named (e ∷ es) n = ap (λ b. cond b (Some e.1) (find register_cmp (register_at n) (map named es))) (one_number n e.0) ∙ ap (cond (eq_by_cmp nat_cmp n e.0) (Some e.1)) (found_named es n)

-- what a register has, by its number
pub get_named : (m : FinMap nat_cmp ℕ) (n : ℕ) → get (by_register m) (register_at n) ≡ get m n
unfolding by_register
get_named m n = get-from_entries register_cmp_total (map named (entries m)) (register_at n) ∙ found_named (entries m) n ∙ sym (get-entries m n)

-- a register that no number stands for
apart_from : (q : Register) → eq_by_cmp register_cmp q (register_at (counted q)) ≡ false → (n : ℕ) → eq_by_cmp register_cmp q (register_at n) ≡ false
apart_from q off n = elim (cases_Bool (eq_by_cmp register_cmp q (register_at n))) [
  | inl t ↦
      let is : q ≡ register_at n = tied q (register_at n) t in
      let number : counted q ≡ n = ap counted is ∙ number_back n in
      let same : eq_by_cmp register_cmp q (register_at (counted q)) ≡ true = ap (λ x. eq_by_cmp register_cmp q (register_at x)) number ∙ t in
      let both : true ≡ false = sym same ∙ off in
      absurd (cc both)
  | inr f ↦ f
]

not_found : (q : Register) → eq_by_cmp register_cmp q (register_at (counted q)) ≡ false → (es : List (ℕ × ℕ)) → find register_cmp q (map named es) ≡ None
not_found q off [] = refl
not_found q off (e ∷ es) = ap (λ b. cond b (Some e.1) (find register_cmp q (map named es))) (apart_from q off e.0) ∙ not_found q off es

get_none : (m : FinMap nat_cmp ℕ) (q : Register) → eq_by_cmp register_cmp q (register_at (counted q)) ≡ false → get (by_register m) q ≡ None
unfolding by_register
get_none m q off = get-from_entries register_cmp_total (map named (entries m)) q ∙ not_found q off (entries m)

insert_each : (m : FinMap nat_cmp ℕ) (n x : ℕ) (q : Register) → get (by_register (insert m n x)) q ≡ get (insert (by_register m) (register_at n) x) q
insert_each m n x q = elim (cases_Bool (eq_by_cmp register_cmp q (register_at (counted q)))) [
  | inl t ↦
      let is : q ≡ register_at (counted q) = tied q (register_at (counted q)) t in
      ap (get (by_register (insert m n x))) is ∙ get_named (insert m n x) (counted q) ∙ get-insert nat_cmp_total m n x (counted q)
      ∙ ap (cond (eq_by_cmp nat_cmp (counted q) n) (Some x)) (sym (get_named m (counted q)))
      ∙ ap (λ b. cond b (Some x) (get (by_register m) (register_at (counted q)))) (sym (one_number (counted q) n))
      ∙ sym (get-insert register_cmp_total (by_register m) (register_at n) x (register_at (counted q))) ∙ ap (get (insert (by_register m) (register_at n) x)) (sym is)
  | inr off ↦ get_none (insert m n x) q off
      ∙ sym (get-insert register_cmp_total (by_register m) (register_at n) x q ∙ ap (λ b. cond b (Some x) (get (by_register m) q)) (apart_from q off n) ∙ get_none m q off)
]

-- a byte put at the number of a register
pub insert_named : (m : FinMap nat_cmp ℕ) (n x : ℕ) → by_register (insert m n x) ≡ insert (by_register m) (register_at n) x
insert_named m n x = same_map register_cmp_total register_cmp_exact _ _ (insert_each m n x)

pub put_named : (m : FinMap nat_cmp ℕ) (r : Register) (bytes : List ℕ) → r.bus < 256 → r.dev < 256 → r.func < 256 → r.reg + length bytes ≤ 65536
    → by_register (with_bytes m (counted r) bytes) ≡ with_registers (by_register m) r bytes
unfolding with_bytes with_registers
put_named m r [] bus dev func room = refl
put_named m r (b ∷ bs) bus dev func room =
    let back : register_at (counted r) ≡ r = register_back r (record { bus = bus; dev = dev; func = func; reg = omega (arith, room) }) in
    let next : counted r + 1 ≡ counted (register_on r 1) = omega arith in
    ap (λ n. by_register (with_bytes (insert m (counted r) b) n bs)) next
    ∙ put_named (insert m (counted r) b) (register_on r 1) bs bus dev func (omega (arith, room))
    ∙ ap (λ x. with_registers x (register_on r 1) bs) (insert_named m (counted r) b ∙ ap (λ x. insert (by_register m) x b) back)

pub number_named : (m : FinMap nat_cmp ℕ) (r : Register) (count : ℕ) → r.bus < 256 → r.dev < 256 → r.func < 256 → r.reg + count ≤ 65536
    → number_from (get m) (counted r) count ≡ number_from (λ n. get (by_register m) (register_on r n)) 0 count
number_named m r count bus dev func room = same_number (get m) (λ n. get (by_register m) (register_on r n)) (counted r) 0 count (λ i lt.
    let back : register_at (counted (register_on r i)) ≡ register_on r i = register_back (register_on r i) (record { bus = bus; dev = dev; func = func; reg = omega (arith, room, lt) }) in
    let is : counted r + i ≡ counted (register_on r i) = omega arith in
    ap (get m) is ∙ sym (get_named m (counted (register_on r i))) ∙ ap (get (by_register m)) (back ∙ ap (register_on r) (omega arith)))

pub no_registers : (m : FinMap nat_cmp ℕ) → m ≡ empty → by_register m ≡ empty
no_registers m is = same_map register_cmp_total register_cmp_exact (by_register m) empty (λ q. elim (cases_Bool (eq_by_cmp register_cmp q (register_at (counted q)))) [
  | inl t ↦ ap (get (by_register m)) (tied q (register_at (counted q)) t) ∙ get_named m (counted q) ∙ ap (λ x. get x (counted q)) is ∙ get-empty nat_cmp (counted q) ∙ sym (get-empty register_cmp q)
  | inr off ↦ get_none m q off ∙ sym (get-empty register_cmp q)
])

pub chosen : {A B : Type 0} (b : Bool) (f : A → B) (x y : A) → f (cond b x y) ≡ cond b (f x) (f y)
chosen true f x y = refl
chosen false f x y = refl
