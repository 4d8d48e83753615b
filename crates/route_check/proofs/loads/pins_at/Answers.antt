use Rattle.std.proofs.Common.{◌∙◌, sym, ℕ, rules}
use Rattle.std.specs.Ordering.{nat_cmp}
use Rattle.std.proofs.lemmas.Fn.{always_returns_same}
use Rattle.route_check.proofs.Ascending.{nat_exact, ascending_distinct, place_found, none_there}
use Rattle.route_check.proofs.Counts.{wired_at, none_wired}
use Rattle.route_check.proofs.loads.pins_at.Goals as goal

pub returns-in-Ok-clause-value : goal.returns-in-Ok-clause-value
returns-in-Ok-clause-value c =
    let wired = c.args.wired.now in
    let n = c.args.n in
    let key = λ (w : ℕ × ℕ). w.0 in
    let found = c.in-Ok.ensures.position (λ w. nat_cmp w.0 n) (always_returns_same _ _ _ (λ a r f' k. search rules)) in
    let distinct = ascending_distinct nat_cmp nat_exact key wired (c.requires c.if-not-ascend.false) in
    c.from.ensures ∙ sym (wired_at wired c.in-Ok.i n distinct c.in-Ok.ensures.bound (place_found nat_cmp nat_exact key wired n c.in-Ok.i found (0, 0)))

pub returns-in-Err-clause-value : goal.returns-in-Err-clause-value
returns-in-Err-clause-value c =
    let wired = c.args.wired.now in
    let n = c.args.n in
    let key = λ (w : ℕ × ℕ). w.0 in
    let missed = c.in-Err.ensures.position (λ w. nat_cmp w.0 n) (always_returns_same _ _ _ (λ a r f' k. search rules)) in
    sym (none_wired wired n (none_there nat_cmp nat_exact key wired n c.in-Err.field-0 missed (c.requires c.if-not-ascend.false)))
