use Rattle.std.proofs.Common.{◌≡◌, ◌<◌, ◌+◌, ◌∙◌, ◌++◌, ◌∷◌, [], ℕ, List, arith, ap, sym, length, map, take, get_or, inl, inr}
use Rattle.std.specs.Prelude.{◌⊎◌, Contains}
use Rattle.std.proofs.lemmas.List.{map-append, take_more}
use Rattle.std.proofs.lemmas.List.Elements.{Contains-push_cases, Contains-get_or}
use Rattle.route_numbers.specs.Numbers.{number_at}
use Rattle.route_numbers.proofs.places.places_of.Goals as goal
use Rattle.route_numbers.proofs.places.places_of.Goals.{in-Some+in_ok-push-in-Some, in-None}

record Turn (numbers offers places : List ℕ) (m : ℕ) : Type 0 where
  below : (i : ℕ) → Contains places i → i < length numbers
  named : map (number_at numbers) places ≡ take m offers

more : (numbers offers old new : List ℕ) (m i : ℕ) → new ≡ old ++ i ∷ [] → m < length offers → i < length numbers → get_or numbers i 0 ≡ get_or offers m 0 → Turn numbers offers old m → Turn numbers offers new (m + 1)
more numbers offers old new m i is bm bi e t = rw is (record {
  below = λ k c. go k (Contains-push_cases old i k c);
  named = map-append (number_at numbers) old (i ∷ []) ∙ (ap (λ (xs : List ℕ). xs ++ get_or numbers i 0 ∷ []) t.named ∙ (ap (λ (n : ℕ). take m offers ++ n ∷ []) e ∙ sym (take_more offers m 0 bm)));
})
  where
    go : (k : ℕ) → Contains old k ⊎ (i ≡ k) → k < length numbers
    go k (inl c) = t.below k c
    go k (inr f) = omega arith

pub loop-n-preserved : goal.loop-n-preserved
loop-n-preserved c =
    let inv = c.loop-n.invariant in
    let old : Turn c.args.numbers.now c.args.offers.now c.loop-n.places.items c.loop-n.n-index = record { below = inv.below; named = inv.named } in
    let turn : Turn c.args.numbers.now c.args.offers.now c.match-place_from.places.items (c.loop-n.n-index + 1) =
    elim c.match-place_from.branch [
      | in-Some+in_ok-push-in-Some w ↦ rw w.places-is (more c.args.numbers.now c.args.offers.now c.loop-n.places.items _ c.loop-n.n-index _ w.in_ok-push-in-Some.ensures.items c.loop-n-test.true w.in-Some.ensures.0 w.in-Some.ensures.1 old)
      | in-None w ↦ absurd (w.in-None.ensures (c.requires.all _ (Contains-get_or c.args.offers.now c.loop-n.n-index 0 c.loop-n-test.true)))
    ] in
    record { below = turn.below; named = turn.named }
