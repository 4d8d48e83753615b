use Rattle.std.proofs.Common.{◌≡◌, ◌∙◌, ap, sym, true, false, Err}
use Rattle.std.specs.Prelude.{codes}
use Rattle.std.specs.Str.{bytes_eq}
use Rattle.ar_space.proofs.Outcomes.{answers_is}
use Rattle.route_report.specs.Reading.{with_next}
use Rattle.route_report.proofs.Steps.{until_key, until_on, until_fail, until_none}
use Rattle.route_report.proofs.line.add_offers.Goals as goal

pub returns-then-eq : goal.returns-then-eq
returns-then-eq c =
    let same : bytes_eq c.in-Some.word.now (codes "now") ≡ true = ap (bytes_eq c.in-Some.word.now) (sym c.as_slice.ensures) ∙ (sym c.eq.ensures ∙ c.if-eq.true) in
    answers_is (sym (until_key c.args.n (codes "now") (with_next c.args.n) c.loop-word.offers.items c.in-Some.word.now c.loop-word.words c.take.new.self _ c.in-Some.ensures.some c.loop-word.invariant same))

pub loop-word-preserved : goal.loop-word-preserved
loop-word-preserved c =
    let other : bytes_eq c.in-Some.word.now (codes "now") ≡ false = ap (bytes_eq c.in-Some.word.now) (sym c.as_slice.ensures) ∙ (sym c.eq.ensures ∙ c.if-eq.false) in
    until_on c.args.n (codes "now") (with_next c.args.n) c.loop-word.offers.items c.in-Some.word.now c.loop-word.words c.take.new.self _ c.in-Some.ensures.some c.loop-word.invariant c.add_next.new.numbers.items other c.in_ok-add_next.ensures

pub returns-in_err-add_next : goal.returns-in_err-add_next
returns-in_err-add_next c =
    let other : bytes_eq c.in-Some.word.now (codes "now") ≡ false = ap (bytes_eq c.in-Some.word.now) (sym c.as_slice.ensures) ∙ (sym c.eq.ensures ∙ c.if-eq.false) in
    until_fail c.args.n (codes "now") (with_next c.args.n) c.loop-word.offers.items c.in-Some.word.now c.loop-word.words c.take.new.self _ c.in-Some.ensures.some c.loop-word.invariant c.in_err-add_next.field-0.0 c.from_residual.result _ other c.in_err-add_next.ensures c.from_residual.ensures

pub returns : goal.returns
returns c = answers_is (ap Err c.bad_line.ensures ∙ sym (until_none c.args.n (codes "now") (with_next c.args.n) c.loop-word.offers.items c.loop-word.words _ c.in_default.ensures.none c.loop-word.invariant))
