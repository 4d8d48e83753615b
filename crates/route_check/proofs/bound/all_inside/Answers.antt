use Rattle.std.proofs.Common.{◌≡◌, ◌∙◌, false, sym, arith, get_or}
use Rattle.std.specs.Prelude.{Contains}
use Rattle.std.proofs.lemmas.Bool.{false≢true}
use Rattle.std.proofs.lemmas.List.{get_or_default, map-id}
use Rattle.route_model.specs.Avoided.{is_avoided}
use Rattle.route_model.proofs.NotAvoided.{all_left, from_left}
use Rattle.route_check.proofs.Loops.{yes, no, all_taken, all_more, shown, refuted}
use Rattle.route_check.proofs.bound.all_inside.Goals as goal
use Rattle.route_check.proofs.bound.all_inside.Goals.{else-not-has_number-via-then-not-has_number+else-not-has, else-not-has_number-via-else-not-has_number}

pub loop-n-preserved : goal.loop-n-preserved
loop-n-preserved c =
    let avoid = c.args.avoided.now in
    let offers = c.args.offers.now in
    let inside = Contains c.args.interrupts.now in
    let i = c.loop-n.n-index in
    let n = get_or offers i 0 in
    let here : is_avoided avoid n ≡ false → inside n =
    elim c.else-not-has_number.branch [
      | else-not-has_number-via-then-not-has_number+else-not-has w ↦ λ e. absurd (false≢true (sym e ∙ (sym w.has.ensures ∙ w.if-not-has.false)))
      | else-not-has_number-via-else-not-has_number w ↦ λ e. shown c.has_number.result (rw (map-id c.args.interrupts.now) at c.has_number.ensures) w.if-not-has_number.false
    ] in
    all_more (λ m. is_avoided avoid m ≡ false → inside m) offers i n (omega arith) (get_or_default offers i 0 n (omega arith)) c.loop-n.invariant here

pub returns-then-not-has : goal.returns-then-not-has
returns-then-not-has c =
    let avoid = c.args.avoided.now in
    let offers = c.args.offers.now in
    let inside = Contains c.args.interrupts.now in
    let out = refuted c.has_number.result (rw (map-id c.args.interrupts.now) at c.has_number.ensures) c.if-not-has_number.true in
    no (λ a. out (from_left inside avoid offers a c.loop-n.n-index 0 (omega arith) (sym c.has.ensures ∙ c.if-not-has.true)))

pub returns : goal.returns
returns c =
    let avoid = c.args.avoided.now in
    let offers = c.args.offers.now in
    let inside = Contains c.args.interrupts.now in
    yes (all_left inside avoid offers (all_taken (λ m. is_avoided avoid m ≡ false → inside m) offers c.loop-n.n-index (omega arith) c.loop-n.invariant))
