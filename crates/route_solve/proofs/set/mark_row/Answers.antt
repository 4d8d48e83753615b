use Rattle.std.proofs.Common.{◌≡◌, ◌+◌, ◌*◌, ◌/◌, ◌%◌, ◌∙◌, ℕ, zero, true, length, arith, ap, subst, sym, below_more, inl, inr}
use Rattle.std.specs.Prelude.{◌⊎◌}
use Rattle.std.specs.Int.{bit_at}
use Rattle.std.proofs.lemmas.Bool.{false≢true}
use Rattle.std.proofs.lemmas.Nat.Bits.{bit_at-zero}
use Rattle.route_model.specs.Placement.{is_reached}
use Rattle.route_solve.specs.Capacities.{at}
use Rattle.route_solve.specs.Rows.{bit_of}
use Rattle.route_solve.proofs.Marked.{marked_within}
use Rattle.route_solve.proofs.Placing.{zero_there}
use Rattle.route_solve.proofs.set.mark_row.Goals as goal
use Rattle.route_solve.proofs.set.mark_row.Goals.{then-is_marked, else-is_marked}

pub loop-l-init : goal.loop-l-init
loop-l-init c = record {
  all = λ k b m. absurd (omega arith);
  only = λ k b h. absurd (let z = ap (λ ws. bit_at (at ws (4 * 0 + k / 64)) (k % 64)) (c.fill.ensures.after (λ y e. e)) ∙ (ap (λ w. bit_at w (k % 64)) (zero_there (length c.args.row.now) (4 * 0 + k / 64)) ∙ bit_at-zero (k % 64)) in omega arith);
}

pub loop-l-preserved : goal.loop-l-preserved
loop-l-preserved c =
    let inv = c.loop-l.invariant in
    elim c.if-is_marked.branch [
      | then-is_marked w ↦
          let here = sym c.is_marked.ensures ∙ w.if-is_marked.true in
          rw w.row-is (record {
            all = below_more (λ k. is_reached c.args.marks.now k ≡ true → bit_of w.set_bit.new.words 0 k ≡ 1) c.loop-l.l (λ k b m. w.set_bit.ensures.kept k 0 (inv.all k b m)) (λ m. w.set_bit.ensures.set);
            only = λ k b h. either k (w.set_bit.ensures.only k 0 b h) (inv.only k b) here;
          })
      | else-is_marked w ↦
          let no = sym c.is_marked.ensures ∙ w.if-is_marked.false in
          rw w.row-is (record {
            all = below_more (λ k. is_reached c.args.marks.now k ≡ true → bit_of c.loop-l.row 0 k ≡ 1) c.loop-l.l inv.all (λ m. absurd (false≢true (sym no ∙ m)));
            only = inv.only;
          })
    ]
  where
    either : (k : ℕ) → (bit_of c.loop-l.row 0 k ≡ 1) ⊎ ((zero ≡ zero) × (k ≡ c.loop-l.l)) → (bit_of c.loop-l.row 0 k ≡ 1 → is_reached c.args.marks.now k ≡ true) → is_reached c.args.marks.now c.loop-l.l ≡ true → is_reached c.args.marks.now k ≡ true
    either k (inl old) f here = f old
    either k (inr new) f here = subst (λ j. is_reached c.args.marks.now j ≡ true) (sym new.1) here

pub returns-clause-all : goal.returns-clause-all
returns-clause-all c l m = c.loop-l.invariant.all l (let w = marked_within c.args.marks.now l m in let t = c.loop-l-test.false in omega arith) m
