-- What steps pay for, and what accesses ask for.
use Rattle.std.specs.Prelude.{◌≡◌, ◌≤◌, ◌<◌, ◌+◌, ◌*◌, ◌-◌, ℕ, zero, suc, Option, Some, None, IfSome, Ok, Err, IfOk, refl}
use Rattle.std.proofs.Common.{arith, ap, subst, ◌∙◌, sub-one}
use Rattle.std.proofs.Math.Nat.{mul-le-mul_right, add-mul, one-mul}
use Rattle.ar_space.specs.Outcome.{Outcome}
use Rattle.aml_frames.specs.declared.frames.Control.{Control}
use Rattle.aml_frames.specs.declared.frames.Next.{Next}
use Rattle.aml_frames.specs.Stack.{control_weight}
use Rattle.aml_frames.specs.Weights.{part_weight, field_weight, most, most_elements, search_weight, most_searched, next_weight, step_weight, charged}

times_up : (k a b : ℕ) → a ≤ b → k * a ≤ k * b
times_up zero a b h = omega arith
times_up (suc k) a b h = let i = times_up k a b h in omega (arith, i, h)

times_paid : (k a b : ℕ) → a < b → k * a + k ≤ k * b
times_paid zero a b h = omega arith
times_paid (suc k) a b h = let i = times_paid k a b h in omega (arith, i, h)

pub charged_less : (a b : ℕ) → a ≤ b → charged a ≤ charged b
unfolding charged
charged_less a b h = times_up step_weight a b h

pub charged_step : (a b : ℕ) → a < b → charged a + step_weight ≤ charged b
unfolding charged
charged_step a b h = times_paid step_weight a b h

-- a term that is no Match asks for less than the step that it pays
pub step_enough : 3 * most + 100 ≤ step_weight
unfolding step_weight
step_enough = omega arith

pub match_enough : most_searched + 4 < step_weight
unfolding step_weight
match_enough = omega arith

pub charged_paid : (a b : ℕ) → a < b → charged a + (3 * most + 100) ≤ charged b
charged_paid a b h = let p = charged_step a b h in let q = step_enough in omega (arith, p, q)

-- an access with fewer calls left asks for less
part_more : (n : ℕ) → part_weight n ≤ part_weight (suc n)
unfolding part_weight
part_more zero = omega arith
part_more (suc n) = let i = part_more n in omega (arith, i)

part_up : (n k m : ℕ) → m ≡ k + n → part_weight n ≤ part_weight m
part_up n zero m e = let same : n ≡ m = omega (arith, e) in subst (λ x. part_weight n ≤ part_weight x) same (omega arith)
part_up n (suc k) m e =
    let i = part_up n k (k + n) refl in
    let j = part_more (k + n) in
    let same : suc (k + n) ≡ m = omega (arith, e) in
    subst (λ x. part_weight n ≤ part_weight x) same (omega (arith, i, j))

pub few_calls : (depth : ℕ) → field_weight (32 - depth) ≤ most
unfolding most
few_calls depth = part_up (suc (32 - depth)) (32 - (32 - depth)) 33 (omega arith)

-- a read by a term asks for less than the most that an access of a term does
pub read_free : (r : Outcome Next) (depth : ℕ) → IfOk r (λ n. next_weight n < field_weight (32 - depth)) → IfOk r (λ n. next_weight n < most)
read_free (Ok n) depth h = let p = few_calls depth in omega (arith, p, h)
read_free (Err e) depth h = tt

-- what a step leaves that took no step back
pub charged_free : (r : Outcome Next) (a b v u : ℕ) → a ≤ b → v ≤ u → IfOk r (λ n. next_weight n < v) → IfOk r (λ n. charged a + next_weight n < charged b + u)
charged_free (Ok n) a b v u h i j = let p = charged_less a b h in omega (arith, p, i, j)
charged_free (Err e) a b v u h i j = tt

-- a term that asks for less than the step that it pays
pub falls_begun : (r : Outcome Next) → IfOk r (λ n. next_weight n < 3 * most + 100) → IfOk r (λ n. next_weight n < step_weight)
falls_begun (Ok n) h = let p = step_enough in omega (arith, p, h)
falls_begun (Err e) h = tt

-- ---- Match: an element that is looked at gives back more than the field of one asks for

pub search_fewer : (n : ℕ) → 0 < n → search_weight (n - 1) + (most + 10) ≤ search_weight n
unfolding search_weight
search_fewer zero h = omega (arith, h)
search_fewer (suc n) h = rw sub-one (let e : suc n * (most + 10) ≡ n * (most + 10) + (most + 10) = many n (most + 10) in omega (arith, e))
  where
    many : (n k : ℕ) → suc n * k ≡ n * k + k
    many n k = let e : suc n ≡ n + 1 = omega arith in ap (λ m. m * k) e ∙ add-mul n 1 k ∙ ap (λ m. n * k + m) (one-mul k)

pub search_up : (m n : ℕ) → m ≤ n → search_weight m ≤ search_weight n
unfolding search_weight
search_up m n h = mul-le-mul_right (most + 10) h

pub search_enough : (n : ℕ) → n ≤ 18446744073709551616 → search_weight n ≤ most_searched
unfolding search_weight most_searched
search_enough n h = mul-le-mul_right (most + 10) h

pub falls_search : (r : Outcome Next) (left : ℕ) → left ≤ 18446744073709551616 → IfOk r (λ n. next_weight n < search_weight left + 4) → IfOk r (λ n. next_weight n < most_searched + 7)
falls_search (Ok n) left h i = let p = search_enough left h in omega (arith, p, i)
falls_search (Err e) left h i = tt

-- ---- the sum falls: what is left weighs w, and what was taken from the stack v; what follows weighs no more

-- with a step that is paid
pub falls_paid : (r : Outcome Control) (a b w n x y : ℕ) → a < b → w < step_weight → IfOk r (λ c. n + (x + control_weight c) ≤ charged a + (y + w)) → IfOk r (λ c. n + (x + control_weight c) < charged b + y)
falls_paid (Ok c) a b w n x y h i j = let p = charged_step a b h in omega (arith, p, i, j)
falls_paid (Err z) a b w n x y h i j = tt

-- without one
pub falls_free : (r : Outcome Control) (a b w v n x y : ℕ) → a ≤ b → w < v → IfOk r (λ c. n + (x + control_weight c) ≤ charged a + (y + w)) → IfOk r (λ c. n + (x + control_weight c) < charged b + (y + v))
falls_free (Ok c) a b w v n x y h i j = let p = charged_less a b h in omega (arith, p, i, j)
falls_free (Err z) a b w v n x y h i j = tt

-- a frame that meets a flow
pub falls_met : (r : Outcome Control) (a b w u n x y : ℕ) → charged a + w < charged b + (u + 3) → IfOk r (λ c. n + (x + control_weight c) ≤ charged a + (y + w)) → IfOk r (λ c. n + (x + control_weight c) < charged b + (y + u + 3))
falls_met (Ok c) a b w u n x y h j = omega (arith, h, j)
falls_met (Err z) a b w u n x y h j = tt

-- a target that costs a step or weighs less
pub falls_found : (r : Outcome Control) (a b w v n x y : ℕ) → charged a + w < charged b + v → IfOk r (λ c. n + (x + control_weight c) ≤ charged a + (y + w)) → IfOk r (λ c. n + (x + control_weight c) < charged b + (y + v))
falls_found (Ok c) a b w v n x y h j = omega (arith, h, j)
falls_found (Err z) a b w v n x y h j = tt

pub ruleset falling = (falls_paid, falls_free, falls_met, falls_found)
