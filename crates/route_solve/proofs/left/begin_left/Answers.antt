use Rattle.std.proofs.Common.{◌≡◌, ◌≤◌, ◌<◌, ◌+◌, ◌/◌, ◌%◌, ℕ, set, arith, inl, inr, ◌∙◌, sym, ap, get_or-set_same, get_or-set_other}
use Rattle.std.specs.Prelude.{◌⊎◌, slice_index_or}
use Rattle.std.specs.Int.{bit_at}
use Rattle.std.proofs.lemmas.Bool.{cases_eq, cases_lt}
use Rattle.route_solve.specs.Rows.{HasBit}
use Rattle.route_solve.proofs.LeftBits.{no_bit_past}
use Rattle.route_solve.proofs.left.begin_left.Goals as goal

pub loop-w-preserved : goal.loop-w-preserved
loop-w-preserved c = record { all = λ j b le lt. all j b le lt (cases_eq (j / 64) w); only = λ j b h. only j b h (cases_eq (j / 64) w) }
  where
    w : ℕ
    w = c.loop-w.w

    all : (j : ℕ) → j / 64 < c.loop-w.w + 1 → c.args.low ≤ j → j < c.args.end → (j / 64 ≡ c.loop-w.w) ⊎ (j / 64 ≡ c.loop-w.w → ⊥) → HasBit (set c.loop-w.left c.loop-w.w c.bits_between.result) j
    all j b le lt (inl e) = rw e (ap (λ x. bit_at x (j % 64)) (get_or-set_same c.loop-w.left c.loop-w.w c.bits_between.result 0 (let f = c.loop-w.auto.left in let g = c.requires in let t = c.loop-w-test.true in omega arith)) ∙ c.bits_between.ensures.all j e le lt)
    all j b le lt (inr ne) = ap (λ x. bit_at x (j % 64)) (get_or-set_other c.loop-w.left c.loop-w.w (j / 64) c.bits_between.result 0 ne) ∙ c.loop-w.invariant.all j (omega arith) le lt

    only : (j : ℕ) → j / 64 < c.loop-w.w + 1 → HasBit (set c.loop-w.left c.loop-w.w c.bits_between.result) j → (j / 64 ≡ c.loop-w.w) ⊎ (j / 64 ≡ c.loop-w.w → ⊥) → c.args.low ≤ j
    only j b h (inl e) = c.bits_between.ensures.only j e (sym (ap (λ x. bit_at x (j % 64)) (ap (λ m. slice_index_or (set c.loop-w.left c.loop-w.w c.bits_between.result) m 0) e ∙ get_or-set_same c.loop-w.left c.loop-w.w c.bits_between.result 0 (let f = c.loop-w.auto.left in let g = c.requires in let t = c.loop-w-test.true in omega arith))) ∙ h)
    only j b h (inr ne) = c.loop-w.invariant.only j (omega arith) (sym (ap (λ x. bit_at x (j % 64)) (get_or-set_other c.loop-w.left c.loop-w.w (j / 64) c.bits_between.result 0 ne)) ∙ h)

pub returns-clause-all : goal.returns-clause-all
returns-clause-all c j b le lt = c.loop-w.invariant.all j (let t = c.loop-w-test.false in omega arith) le lt

pub returns-clause-only : goal.returns-clause-only
returns-clause-only c j h = go (cases_lt (j / 64) 4)
  where
    go : (j / 64 < 4) ⊎ (4 ≤ j / 64) → c.args.low ≤ j
    go (inl b) = c.loop-w.invariant.only j (let t = c.loop-w-test.false in omega arith) h
    go (inr past) = absurd (no_bit_past c.loop-w.left j (let f = c.loop-w.auto.left in let g = c.requires in omega arith) h)
