use Rattle.std.proofs.Common.{◌≡◌, ◌≢◌, ◌<◌, ◌+◌, ◌/◌, sym, rules, arith}
use Rattle.aml_scan.specs.RowPlaces.{place_of}
use Rattle.aml_scan.proofs.RowPlaces.{place_held, no_place}
use Rattle.aml_scan.proofs.table.place_of.Goals as goal

pub returns-in-0 : goal.returns-in-0
unfolding place_of
returns-in-0 c =
    let lt : c.from-last.result < 256 = omega arith in
    let e : 0 + c.from-last.result ≡ c.args.number = omega arith in
    search (rules, place_held 0)

pub returns-in-91 : goal.returns-in-91
unfolding place_of
returns-in-91 c =
    let lt : c.from-last.result < 256 = omega arith in
    let e : 0x5B00 + c.from-last.result ≡ c.args.number = omega arith in
    search (rules, place_held 0x5B00)

pub returns-in_default : goal.returns-in_default
returns-in_default c =
    let a : c.args.number / 256 ≢ 0 = omega arith in
    let b : c.args.number / 256 ≢ 0x5B = omega arith in
    sym (no_place c.args.number a b)
