use Rattle.std.proofs.Common.{◌≡◌, ◌<◌, ◌+◌, ◌*◌, ◌/◌, ◌%◌, ℕ, List, [], arith, subst, sym, ◌∙◌, ap, get_or, inl, inr}
use Rattle.std.specs.Prelude.{◌⊎◌, Contains}
use Rattle.std.proofs.lemmas.Bool.{cases_eq}
use Rattle.std.proofs.lemmas.Nat.Bits.{bit_at-zero}
use Rattle.route_model.specs.Placement.{Offers}
use Rattle.route_numbers.specs.Numbers.{lists_of}
use Rattle.route_solve.specs.Rows.{bit_of}
use Rattle.route_numbers.proofs.Numbered.{lists_at, offers_within}
use Rattle.route_numbers.proofs.Numbered.{lists_length}
use Rattle.std.specs.Int.{bit_at}
use Rattle.route_solve.proofs.rows.add_links.Goals as goal

pub add_link-requires-clause-within : goal.add_link-requires-clause-within
add_link-requires-clause-within c i h =
    let at = lists_at c.args.places.now c.loop-link.link c.index-places-link.result c.loop-link-test.true c.index-places-link.is ∙ sym c.deref.ensures.value in
    let e = c.loop-link.auto.words in
    let b = c.requires.within c.loop-link.link i (subst (λ (xs : List ℕ). Contains xs i) (sym at) h) in
    omega arith

pub loop-link-init : goal.loop-link-init
loop-link-init c = record {
  has = λ k i b. absurd (omega arith);
  only = λ k i b h. absurd (let z = ap (λ w. bit_at w (k % 64)) (c.requires.clear (4 * i + k / 64)) ∙ bit_at-zero (k % 64) in omega arith);
}

pub loop-link-preserved : goal.loop-link-preserved
loop-link-preserved c =
    record {
      has = λ k i b o. go k i b o (cases_eq k c.loop-link.link);
      only = λ k i b h. back k i b (c.add_link.ensures.only k i b h);
    }
  where
    at : get_or (lists_of c.args.places.now) c.loop-link.link [] ≡ c.deref.result.now
    at = lists_at c.args.places.now c.loop-link.link c.index-places-link.result c.loop-link-test.true c.index-places-link.is ∙ sym c.deref.ensures.value

    go : (k i : ℕ) → k < c.loop-link.link + 1 → Offers (lists_of c.args.places.now) k i → (k ≡ c.loop-link.link) ⊎ (k ≡ c.loop-link.link → ⊥) → bit_of c.add_link.new.words i k ≡ 1
    go k i b o (inl e) = subst (λ l. bit_of c.add_link.new.words i l ≡ 1) (sym e) (c.add_link.ensures.set i (subst (λ (xs : List ℕ). Contains xs i) at (subst (λ l. Offers (lists_of c.args.places.now) l i) e o)))
    go k i b o (inr ne) = c.add_link.ensures.kept k i (c.loop-link.invariant.has k i (omega arith) o)

    back : (k i : ℕ) → k < 256 → (bit_of c.loop-link.words i k ≡ 1) ⊎ (Contains c.deref.result.now i × (k ≡ c.loop-link.link)) → Offers (lists_of c.args.places.now) k i
    back k i b (inl old) = c.loop-link.invariant.only k i b old
    back k i b (inr new) = subst (λ l. Offers (lists_of c.args.places.now) l i) (sym new.1) (subst (λ (xs : List ℕ). Contains xs i) (sym at) new.0)

pub returns-clause-has : goal.returns-clause-has
returns-clause-has c l i o = c.loop-link.invariant.has l i (let w = offers_within (lists_of c.args.places.now) l i o in let long = lists_length c.args.places.now in let t = c.loop-link-test.false in omega arith) o
