use Rattle.std.proofs.Common.{arith, sym, ◌∙◌, ap, ◌≡◌, subst}
use Rattle.std.specs.Str.{IsUtf8}
use Rattle.std.specs.Prelude.{decimal}
use Rattle.std.proofs.lemmas.Bool.{false≢true}
use Rattle.std.proofs.lemmas.Fmt.{parse-decimal, IsAscii-decimal}
use Rattle.std.proofs.lemmas.Str.{IsUtf8-from_ascii}
use Rattle.std.proofs.lemmas.Slice.Eq.{slice_eq-Decides}
use Rattle.std.proofs.lemmas.Bool.Decides.{Decides-eqb}
use Rattle.route_report.proofs.numerals.of_any_length.Goals as goal

pub returns-in-Err : goal.returns-in-Err
returns-in-Err c n small is = c.in-Err.ensures.cases.0 (subst IsUtf8 (sym is) (IsUtf8-from_ascii (decimal n) (IsAscii-decimal n (omega arith))))

pub returns-else-eq : goal.returns-else-eq
returns-else-eq c n small is =
    let same : c.in-Ok.text.now ≡ decimal n = c.in-Ok.ensures.cases.0 ∙ is in
    let r = parse-decimal 32 n c.in-Ok.text.now c.parse.result (omega arith) (omega arith) same c.parse.ensures.value.0 in
    let w = c.in-Ok-parse.is in
    let e : c.in-Ok-parse.n ≡ n = cc in
    let written : c.format.result.now ≡ c.in-Ok.text.now = c.format.ensures.text ∙ (ap decimal e ∙ sym same) in
    false≢true (sym c.if-eq.false ∙ (slice_eq-Decides Decides-eqb c.format.result.now c.in-Ok.text.now c.eq.result c.eq.ensures).1 written)

pub returns-in-Err-parse : goal.returns-in-Err-parse
returns-in-Err-parse c n small is =
    let same : c.in-Ok.text.now ≡ decimal n = c.in-Ok.ensures.cases.0 ∙ is in
    let r = parse-decimal 32 n c.in-Ok.text.now c.parse.result (omega arith) (omega arith) same c.parse.ensures.value.0 in
    let w = c.in-Err-parse.is in
    cc
