use Rattle.std.proofs.Common.{refl, arith, ℕ, List, map, ◌++◌, ◌∷◌, get_or}
use Rattle.std.proofs.lemmas.List.{get_or_default}
use Rattle.std.specs.Prelude.{decimal}
use Rattle.route_report.specs.Lines.{spaced}
use Rattle.acpi_explain.proofs.Texts.{put_more, all_put, first_number}
use Rattle.acpi_explain.proofs.link_lines.put_numbers.Goals as goal

pub loop-number-preserved : goal.loop-number-preserved
loop-number-preserved c =
    let ns = c.args.numbers.now in
    let i = c.loop-number.number-index in
    let n = get_or ns i 0 in
    put_more (λ (xs : List ℕ). spaced (map decimal xs)) (λ m. 32 ∷ decimal m) first_number ns i n c.loop-number.text.items c.put_next.new.text.items (c.args.text.now.items ++ spaced (map decimal ns)) (omega arith) (get_or_default ns i 0 n (omega arith)) c.loop-number.invariant c.in_ok-put_next.ensures

pub returns : goal.returns
returns c = all_put (λ (ns : List ℕ). spaced (map decimal ns)) (λ n. 32 ∷ decimal n) first_number c.args.numbers.now c.loop-number.number-index c.loop-number.text.items _ refl c.loop-number-test.false c.loop-number.invariant
