use Rattle.std.proofs.Common.{arith, sym, ◌∙◌, ◌≡◌, ◌<◌, ap, get_or, ℕ, length, List, [], take, map, ◌+◌, ◌++◌}
use Rattle.std.specs.Prelude.{option_to_list}
use Rattle.std.proofs.lemmas.List.{get_or-map, length-map, take_all}
use Rattle.route_model.specs.Routing.{wired_to, greatest}
use Rattle.route_check.specs.Valid.{keys_of, effective_counts}
use Rattle.route_check.proofs.Counts.{keys_counted}
use Rattle.route_check.proofs.Sums.{greatest_both, greatest_more}
use Rattle.route_check.proofs.loads.busiest_wired.Goals as goal

pub loop-w-init : goal.loop-w-init
loop-w-init c =
    let claim = c.args.claim.now in
    let at = wired_to (effective_counts claim) in
    let all = greatest_both at (option_to_list claim.sci) [] in
    let e = c.wired_at_sci-greatest.ensures in
    let goal' : c.wired_at_sci-greatest.result ≡ greatest (map at (option_to_list claim.sci ++ [])) = omega arith in
    goal'

pub loop-w-preserved : goal.loop-w-preserved
loop-w-preserved c =
    let claim = c.args.claim.now in
    let wired = claim.wired in
    let at = wired_to (effective_counts claim) in
    let front = option_to_list claim.sci in
    let i = c.loop-w.w-index in
    let items = c.wired-w-items.ensures in
    let n : ℕ = (get_or {A = ℕ × ℕ} c.wired-w-items.result.now i (0, 0)).0 in
    let long = ap length items in
    let test = c.loop-w-test.true in
    let within : i < length wired = omega arith in
    let is : n ≡ get_or (keys_of wired) i n = ap (λ (xs : List (ℕ × ℕ)). (get_or xs i (0, 0)).0) items ∙ sym (get_or-map (λ (w : ℕ × ℕ). w.0) wired i (0, 0) n within) in
    let longer = length-map wired (λ (w : ℕ × ℕ). w.0) in
    let more = greatest_more at front (keys_of wired) i n (omega arith) is in
    let e = c.max-greatest.ensures in
    let f = c.sources_at.ensures.value in
    let inv = c.loop-w.invariant in
    let goal' : c.max-greatest.result ≡ greatest (map at (front ++ take (i + 1) (keys_of wired))) = omega arith in
    goal'

pub returns : goal.returns
returns c =
    let claim = c.args.claim.now in
    let sci = option_to_list claim.sci in
    let keys = keys_of claim.wired in
    let i = c.loop-w.w-index in
    let long = ap length c.wired-w-items.ensures in
    let longer = length-map claim.wired (λ (w : ℕ × ℕ). w.0) in
    let test = c.loop-w-test.false in
    let all : take i keys ≡ keys = take_all i keys (omega arith) in
    let same : sci ++ take i keys ≡ keys_of (effective_counts claim) = ap (λ ns. sci ++ ns) all ∙ keys_counted claim.sci claim.wired in
    c.loop-w.invariant ∙ ap (λ ns. greatest (map (wired_to (effective_counts claim)) ns)) same
