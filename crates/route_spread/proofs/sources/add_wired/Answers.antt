use Rattle.std.proofs.Common.{◌≡◌, ◌≤◌, ◌<◌, ◌+◌, ◌*◌, ◌^◌, ℕ, List, take, Bool, true, false, set, length, get_or, sym, ◌∙◌, ap, arith, inl, inr, get_or-set_same, get_or-set_other}
use Rattle.std.specs.Prelude.{◌⊎◌, ◌==◌, if◌then◌else◌, Contains}
use Rattle.std.proofs.lemmas.Bool.{cases_eq, eq-eqb, ne_eqb}
use Rattle.std.proofs.lemmas.List.{take_all}
use Rattle.std.proofs.lemmas.List.Elements.{Contains-get_or}
use Rattle.std.proofs.lemmas.List.Sums.{sum_by_more}
use Rattle.std.specs.List.Sorted.{IsStrictlyIncreasing}
use Rattle.route_model.specs.Routing.{wired_to}
use Rattle.route_numbers.specs.Numbers.{number_at}
use Rattle.route_spread.specs.Marks.{at}
use Rattle.route_numbers.proofs.Numbered.{one_place}
use Rattle.route_spread.proofs.sources.add_wired.Goals as goal
use Rattle.route_spread.proofs.sources.add_wired.Goals.{in-Some, in-None}

part : (b : Bool) (n : ℕ) → (if b then n else 0) ≤ n
part true n = omega arith
part false n = omega arith

here : (m n k : ℕ) → m ≡ n → (if m == n then k else 0) ≡ k
here m n k e = ap (λ b. if b then k else 0) (eq-eqb m n e)

elsewhere : (m n k : ℕ) → (m ≡ n → ⊥) → (if m == n then k else 0) ≡ 0
elsewhere m n k ne = ap (λ b. if b then k else 0) (ne_eqb m n ne)

contains : (numbers : List ℕ) (i n : ℕ) → i < length numbers → n ≡ number_at numbers i → Contains numbers n
contains numbers i n b e = rw e (Contains-get_or numbers i 0 b)

found : (numbers sources : List ℕ) (k n more i : ℕ) → IsStrictlyIncreasing numbers → length sources ≡ length numbers → k < length numbers → get_or numbers k 0 ≡ n → i < length numbers → at (set sources k (at sources k + more)) i ≡ at sources i + (if n == number_at numbers i then more else 0)
found numbers sources k n more i up long bk is b = go (cases_eq i k)
  where
    go : (i ≡ k) ⊎ (i ≡ k → ⊥) → at (set sources k (at sources k + more)) i ≡ at sources i + (if n == number_at numbers i then more else 0)
    go (inl e) =
        let s = get_or-set_same sources k (at sources k + more) 0 (omega arith) in
        let t : at (set sources k (at sources k + more)) i ≡ at sources k + more = ap (at (set sources k (at sources k + more))) e ∙ s in
        let h = here n (number_at numbers i) more (sym is ∙ ap (number_at numbers) (sym e)) in
        let f : at sources i ≡ at sources k = ap (at sources) e in
        omega arith
    go (inr ne) =
        let s = get_or-set_other sources k i (at sources k + more) 0 ne in
        let h = elsewhere n (number_at numbers i) more (λ e. ne (one_place numbers up i k b bk (sym e ∙ sym is))) in
        omega arith

more_at : (loads : List ℕ) (k i more limit : ℕ) → k < length loads → at loads i ≤ limit → at loads k ≤ limit → more < 2 ^ 32 → at (set loads k (at loads k + more)) i ≤ limit + 2 ^ 32
more_at loads k i more limit b h g small = go (cases_eq i k)
  where
    go : (i ≡ k) ⊎ (i ≡ k → ⊥) → at (set loads k (at loads k + more)) i ≤ limit + 2 ^ 32
    go (inl e) = let s = get_or-set_same loads k (at loads k + more) 0 b in rw (e, s) (omega arith)
    go (inr ne) = let s = get_or-set_other loads k i (at loads k + more) 0 ne in omega arith

pub loop-w-init : goal.loop-w-init
loop-w-init c = record { sum = λ i b. c.requires.none i; small = λ i. let z = c.requires.none i in omega arith }

pub add_at-requires-clause-few : goal.add_at-requires-clause-few
add_at-requires-clause-few c = let s = c.loop-w.invariant.small c.in-Some.i in omega arith

pub add_at-requires-clause-known : goal.add_at-requires-clause-known
add_at-requires-clause-known c = let a = c.in-Some.ensures.0 in let b = c.requires.long in let d = c.loop-w.auto.loads in omega arith

pub loop-w-preserved : goal.loop-w-preserved
loop-w-preserved c = record { sum = sum; small = small }
  where
    sum : (i : ℕ) → i < length c.args.numbers.now → at c.match-place_among.loads i ≡ wired_to (take (c.loop-w.w-index + 1) c.args.wired.now) (number_at c.args.numbers.now i)
    sum i b =
        let w0 = get_or c.args.wired.now c.loop-w.w-index (0, 0) in
        let more = sum_by_more (λ w. if w.0 == number_at c.args.numbers.now i then w.1 else 0) c.args.wired.now c.loop-w.w-index (0, 0) c.loop-w-test.true in
        let old = c.loop-w.invariant.sum i b in
        let next : at c.match-place_among.loads i ≡ at c.loop-w.loads i + (if w0.0 == number_at c.args.numbers.now i then w0.1 else 0) =
        elim c.match-place_among.branch [
          | in-Some w ↦
              rw (w.loads-is, w.add_at.ensures.added) (found c.args.numbers.now c.loop-w.loads w.in-Some.i w0.0 w0.1 i c.requires.ascending (let e = c.loop-w.auto.loads in let f = c.requires.long in omega arith) w.in-Some.ensures.0 w.in-Some.ensures.1 b)
          | in-None w ↦
              let z = elsewhere w0.0 (number_at c.args.numbers.now i) w0.1 (λ e. w.in-None.ensures (contains c.args.numbers.now i w0.0 b e)) in
              rw w.loads-is (omega arith)
        ] in
        omega arith

    small : (i : ℕ) → at c.match-place_among.loads i ≤ (c.loop-w.w-index + 1) * 2 ^ 32
    small i =
        elim c.match-place_among.branch [
          | in-Some w ↦ let m = more_at c.loop-w.loads w.in-Some.i i (get_or c.args.wired.now c.loop-w.w-index (0, 0)).1 (c.loop-w.w-index * 2 ^ 32) (let e = c.loop-w.auto.loads in let f = c.requires.long in let b = w.in-Some.ensures.0 in omega arith) (c.loop-w.invariant.small i) (c.loop-w.invariant.small w.in-Some.i) w.add_at.ensures.small in rw (w.loads-is, w.add_at.ensures.added) (omega arith)
          | in-None w ↦ let s = c.loop-w.invariant.small i in rw w.loads-is (omega arith)
        ]

pub returns-clause-sources : goal.returns-clause-sources
returns-clause-sources c = record {
  long = let e = c.loop-w.auto.loads in let f = c.requires.long in omega arith;
  each = λ i b. c.loop-w.invariant.sum i b ∙ ap (λ ws. wired_to ws (number_at c.args.numbers.now i)) (take_all c.loop-w.w-index c.args.wired.now (let t = c.loop-w-test.false in omega arith));
}
