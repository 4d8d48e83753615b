-- How many mutexes are acquired, through every change of the slots.
use Rattle.std.proofs.Common.{◌≡◌, ◌≢◌, ap, sym, refl, ℕ, zero, suc, ◌+◌, ◌-◌, ◌≤◌, List, [], ◌∷◌, length, Bool, true, false, Option, Some, None, arith}
use Rattle.std.specs.Prelude.{◌==◌, if◌then◌else◌}
use Rattle.std.specs.Option.{option_map}
use Rattle.std.proofs.lemmas.Bool.Decides.{nat_tests}
use Rattle.aml_objects.specs.declared.entry.NamedObject.{NamedObject}
use Rattle.aml_objects.specs.declared.entry.NamedObject.TheVariants as object
use Rattle.aml_namespace.specs.declared.node.Node.{Node}
use Rattle.aml_namespace.specs.Namespace.{released}
use Rattle.aml_namespace.specs.Mutexes.{acquired}
use Rattle.aml_namespace.specs.Nodes.{slot_of, acquired_at, acquired_in, node_released}

abbrev Slots : Type 0
Slots = List (Option Node)

either : (b : Bool) → (if b then 0 else 1) ≤ 1
either true = omega arith
either false = omega arith

pub at_most_one : (o : NamedObject) → acquired o ≤ 1
at_most_one (object.Mutex n) = either (n == 0)
at_most_one o = omega arith

one_at_most : (o : Option Node) → acquired_at o ≤ 1
one_at_most None = omega arith
one_at_most (Some x) = at_most_one x.entry.object

pub at_most_all : (xs : Slots) → acquired_in xs ≤ length xs
at_most_all [] = omega arith
at_most_all (x ∷ xs) = omega (arith, one_at_most x, at_most_all xs)

-- slots that have the same count the same
pub same_count : (xs ys : Slots) → ((j : ℕ) → slot_of ys j ≡ slot_of xs j) → acquired_in ys ≡ acquired_in xs
same_count [] [] h = refl
same_count [] (y ∷ ys) h = omega (arith, ap acquired_at (h 0), same_count [] ys (λ j. h (suc j)))
same_count (x ∷ xs) [] h = omega (arith, ap acquired_at (h 0), same_count xs [] (λ j. h (suc j)))
same_count (x ∷ xs) (y ∷ ys) h = omega (arith, ap acquired_at (h 0), same_count xs ys (λ j. h (suc j)))

-- one slot changes
pub one_changed : (xs ys : Slots) (k : ℕ) → ((j : ℕ) → j ≢ k → slot_of ys j ≡ slot_of xs j) → acquired_in ys + acquired_at (slot_of xs k) ≡ acquired_in xs + acquired_at (slot_of ys k)
one_changed [] [] k h = refl
one_changed [] (y ∷ ys) zero h = omega (arith, same_count [] ys (λ j. h (suc j) (λ e. absurd (cc e))))
one_changed [] (y ∷ ys) (suc k) h = omega (arith, ap acquired_at (h 0 (λ e. absurd (cc e))), one_changed [] ys k (λ j ne. h (suc j) (λ e. ne (cc e))))
one_changed (x ∷ xs) [] zero h = omega (arith, same_count xs [] (λ j. h (suc j) (λ e. absurd (cc e))))
one_changed (x ∷ xs) [] (suc k) h = omega (arith, ap acquired_at (h 0 (λ e. absurd (cc e))), one_changed xs [] k (λ j ne. h (suc j) (λ e. ne (cc e))))
one_changed (x ∷ xs) (y ∷ ys) zero h = omega (arith, same_count xs ys (λ j. h (suc j) (λ e. absurd (cc e))))
one_changed (x ∷ xs) (y ∷ ys) (suc k) h = omega (arith, ap acquired_at (h 0 (λ e. absurd (cc e))), one_changed xs ys k (λ j ne. h (suc j) (λ e. ne (cc e))))

pub one_within : (xs : Slots) (k : ℕ) → acquired_at (slot_of xs k) ≤ acquired_in xs
one_within [] k = omega arith
one_within (x ∷ xs) zero = omega arith
one_within (x ∷ xs) (suc k) = omega (arith, one_within xs k)

-- ---- mutexes released

free_by : (b : Bool) (n : ℕ) → (n == 0) ≡ b → ◌≡◌ {A = ℕ} (if b then 0 else 1) 0 → object.Mutex 0 ≡ object.Mutex n
free_by true n is none = ap object.Mutex (zero_is n is)
  where
    zero_is : (n : ℕ) → (n == 0) ≡ true → 0 ≡ n
    zero_is n is = grind (arith, nat_tests)
free_by false n is none = absurd (cc none)

-- what isn't acquired stays as it is
free : (o : NamedObject) → acquired o ≡ 0 → released o ≡ o
free (object.Mutex n) none = free_by (n == 0) n refl none
free o none = refl

free_at : (o : Option Node) → acquired_at o ≡ 0 → o ≡ option_map node_released o
free_at None none = refl
free_at (Some x) none = ap (λ (o : NamedObject). Some (record x { entry = record x.entry { object = o } })) (sym (free x.entry.object none))

pub none_acquired : (xs : Slots) (j : ℕ) → acquired_in xs ≡ 0 → slot_of xs j ≡ option_map node_released (slot_of xs j)
none_acquired xs j none = free_at (slot_of xs j) (omega (arith, one_within xs j, none))

freed : (o : NamedObject) → acquired (released o) ≡ 0
freed (object.Mutex n) = refl
freed o = refl

freed_at : (o : Option Node) → acquired_at (option_map node_released o) ≡ 0
freed_at None = refl
freed_at (Some x) = freed x.entry.object

pub all_released : (xs ys : Slots) → ((j : ℕ) → slot_of ys j ≡ option_map node_released (slot_of xs j)) → acquired_in ys ≡ 0
all_released xs [] h = refl
all_released [] (y ∷ ys) h = omega (arith, ap acquired_at (h 0), all_released [] ys (λ j. h (suc j)))
all_released (x ∷ xs) (y ∷ ys) h = omega (arith, ap acquired_at (h 0), freed_at x, all_released xs ys (λ j. h (suc j)))

-- ---- the same of a count that is kept

pub count_put : (xs ys : Slots) (k count more : ℕ) (x : Node) → count ≡ acquired_in xs → more ≡ acquired x.entry.object → slot_of xs k ≡ None → slot_of ys k ≡ Some x → ((j : ℕ) → j ≢ k → slot_of ys j ≡ slot_of xs j)
    → count + more ≡ acquired_in ys
count_put xs ys k count more x is one vacant at beside = omega (arith, one_changed xs ys k beside, ap acquired_at vacant, ap acquired_at at, is, one)

pub taken_within : (xs : Slots) (k count less : ℕ) (x : Node) → count ≡ acquired_in xs → less ≡ acquired x.entry.object → slot_of xs k ≡ Some x → less ≤ count
taken_within xs k count less x is one at = omega (arith, one_within xs k, ap acquired_at at, is, one)

pub count_taken : (xs ys : Slots) (k count less : ℕ) (x : Node) → count ≡ acquired_in xs → less ≡ acquired x.entry.object → slot_of xs k ≡ Some x → slot_of ys k ≡ None → ((j : ℕ) → j ≢ k → slot_of ys j ≡ slot_of xs j)
    → count - less ≡ acquired_in ys
count_taken xs ys k count less x is one at gone beside = omega (arith, one_changed xs ys k beside, one_within xs k, ap acquired_at at, ap acquired_at gone, is, one)

pub count_over : (xs ys : Slots) (k count before after : ℕ) (x y : Node) → count ≡ acquired_in xs → before ≡ acquired x.entry.object → after ≡ acquired y.entry.object → slot_of xs k ≡ Some x → slot_of ys k ≡ Some y → ((j : ℕ) → j ≢ k → slot_of ys j ≡ slot_of xs j)
    → count - before + after ≡ acquired_in ys
count_over xs ys k count before after x y is one other at now beside = omega (arith, one_changed xs ys k beside, one_within xs k, ap acquired_at at, ap acquired_at now, is, one, other)
