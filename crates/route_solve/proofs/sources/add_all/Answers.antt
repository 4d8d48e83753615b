use Rattle.std.proofs.Common.{◌≡◌, ◌≤◌, ◌<◌, ◌+◌, ℕ, List, Bool, true, false, set, length, get_or, sym, ◌∙◌, ap, arith, inl, inr, get_or-set_same, get_or-set_other}
use Rattle.std.specs.Prelude.{◌⊎◌, ◌==◌, if◌then◌else◌, Contains}
use Rattle.std.proofs.lemmas.Bool.{cases_eq, eq-eqb, ne_eqb}
use Rattle.std.proofs.lemmas.List.{take_all}
use Rattle.std.proofs.lemmas.List.Elements.{Contains-get_or}
use Rattle.std.proofs.lemmas.List.Sums.{sum_by_more, sum_by_more_le_part}
use Rattle.std.specs.List.Sorted.{IsStrictlyIncreasing}
use Rattle.route_model.specs.Routing.{wired_to}
use Rattle.route_numbers.specs.Numbers.{number_at}
use Rattle.route_solve.specs.Capacities.{at}
use Rattle.route_numbers.proofs.Numbered.{one_place}
use Rattle.route_solve.proofs.sources.add_all.Goals as goal
use Rattle.route_solve.proofs.sources.add_all.Goals.{in-Some, in-None}

part : (b : Bool) (n : ℕ) → (if b then n else 0) ≤ n
part true n = omega arith
part false n = omega arith

here : (m n k : ℕ) → m ≡ n → (if m == n then k else 0) ≡ k
here m n k e = ap (λ b. if b then k else 0) (eq-eqb m n e)

elsewhere : (m n k : ℕ) → (m ≡ n → ⊥) → (if m == n then k else 0) ≡ 0
elsewhere m n k ne = ap (λ b. if b then k else 0) (ne_eqb m n ne)

pub loop-w-init : goal.loop-w-init
loop-w-init c = λ i b. c.requires.none i

pub add_at-requires-clause-few : goal.add_at-requires-clause-few
add_at-requires-clause-few c =
    let n = number_at c.args.numbers.now c.in-Some.i in
    let whole = sum_by_more_le_part (λ w. if w.0 == n then w.1 else 0) (λ w. w.1) c.args.wired.now c.loop-w.w-index (0, 0) c.loop-w-test.true (λ w. part (w.0 == n) w.1) in
    let e = c.loop-w.invariant c.in-Some.i c.in-Some.ensures.0 in
    let f = c.requires.counts in
    omega arith

pub add_at-requires-clause-known : goal.add_at-requires-clause-known
add_at-requires-clause-known c = let a = c.in-Some.ensures.0 in let b = c.requires.long in let d = c.loop-w.auto.sources in omega arith

pub loop-w-preserved : goal.loop-w-preserved
loop-w-preserved c i b =
    let w0 = get_or c.args.wired.now c.loop-w.w-index (0, 0) in
    let more = sum_by_more (λ w. if w.0 == number_at c.args.numbers.now i then w.1 else 0) c.args.wired.now c.loop-w.w-index (0, 0) c.loop-w-test.true in
    let old = c.loop-w.invariant i b in
    let next : at c.match-place_among.sources i ≡ at c.loop-w.sources i + (if w0.0 == number_at c.args.numbers.now i then w0.1 else 0) =
    elim c.match-place_among.branch [
      | in-Some w ↦
          rw (w.sources-is, w.add_at.ensures) (found c.args.numbers.now c.loop-w.sources w.in-Some.i w0.0 w0.1 i c.requires.ascending (let e = c.loop-w.auto.sources in let f = c.requires.long in omega arith) w.in-Some.ensures.0 w.in-Some.ensures.1 b)
      | in-None w ↦
          let z = elsewhere w0.0 (number_at c.args.numbers.now i) w0.1 (λ e. w.in-None.ensures (contains c.args.numbers.now i w0.0 b e)) in
          rw w.sources-is (omega arith)
    ] in
    omega arith
  where
    contains : (numbers : List ℕ) (i n : ℕ) → i < length numbers → n ≡ number_at numbers i → Contains numbers n
    contains numbers i n b e = rw e (Contains-get_or numbers i 0 b)

    found : (numbers sources : List ℕ) (k n more i : ℕ) → IsStrictlyIncreasing numbers → length sources ≡ length numbers → k < length numbers → get_or numbers k 0 ≡ n → i < length numbers → at (set sources k (at sources k + more)) i ≡ at sources i + (if n == number_at numbers i then more else 0)
    found numbers sources k n more i up long bk is b = go (cases_eq i k)
      where
        go : (i ≡ k) ⊎ (i ≡ k → ⊥) → at (set sources k (at sources k + more)) i ≡ at sources i + (if n == number_at numbers i then more else 0)
        go (inl e) =
            let s = get_or-set_same sources k (at sources k + more) 0 (omega arith) in
            let t : at (set sources k (at sources k + more)) i ≡ at sources k + more = ap (at (set sources k (at sources k + more))) e ∙ s in
            let h = here n (number_at numbers i) more (sym is ∙ ap (number_at numbers) (sym e)) in
            let f : at sources i ≡ at sources k = ap (at sources) e in
            omega arith
        go (inr ne) =
            let s = get_or-set_other sources k i (at sources k + more) 0 ne in
            let h = elsewhere n (number_at numbers i) more (λ e. ne (one_place numbers up i k b bk (sym e ∙ sym is))) in
            omega arith

pub returns : goal.returns
returns c = record {
  long = let e = c.loop-w.auto.sources in let f = c.requires.long in omega arith;
  each = λ i b. c.loop-w.invariant i b ∙ ap (λ ws. wired_to ws (number_at c.args.numbers.now i)) (take_all c.loop-w.w-index c.args.wired.now (let t = c.loop-w-test.false in omega arith));
}
