use Rattle.std.specs.Prelude.{Contains, get_or, zip}
use Rattle.std.proofs.Common.{arith, refl, sym, subst, ap, ◌∙◌, ◌++◌}
use Rattle.acpi_configure.proofs.Settled.{offered_at}
use Rattle.acpi_configure.proofs.Stopped.{zip_within, pair_at}
use Rattle.acpi_explain.specs.LinkLines.{IsLinkSet}
use Rattle.acpi_explain.proofs.Texts.{all_told, told_turned, zip_short}
use Rattle.acpi_explain.proofs.links.set_links.Goals as goal

pub loop-i-preserved : goal.loop-i-preserved
loop-i-preserved g c =
    let links = c.args.links.now in
    let choice = c.args.choice.now in
    let i = c.loop-i.i in
    told_turned (IsLinkSet g.S.Space.accesses c.args.evaluation.steps) (zip links choice) i (c.index-links-i.result, get_or choice i 0) (c.index-links-i.result, get_or choice i 0) c.args.machine.now c.loop-i.machine c.set_link.new.machine c.loop-i.text.items
    c.in_ok-lines.lines.items c.extend_from_slice.new.self.items (zip_within links choice i (omega arith) (omega arith)) (pair_at links choice i c.index-links-i.result (omega arith) (omega arith) c.index-links-i.is) c.loop-i.invariant c.in_ok-lines.ensures
    (c.in_ok-extend_from_slice.ensures.items ∙ ap (λ t. c.loop-i.text.items ++ t) c.deref.ensures.value)

pub set_link-requires : goal.set_link-requires
set_link-requires g c =
    subst (λ l. Contains l.1.numbers (get_or c.args.choice.now c.loop-i.i 0)) (sym c.index-links-i.is) (offered_at c.args.links.now c.args.choice.now c.loop-i.i c.index-links-i.result 0 c.requires.offered (omega arith))

pub returns : goal.returns
returns g c = all_told (IsLinkSet g.S.Space.accesses c.args.evaluation.steps) (zip c.args.links.now c.args.choice.now) c.loop-i.i c.args.machine.now c.loop-i.machine c.loop-i.text.items (zip_short c.args.links.now c.args.choice.now c.loop-i.i (omega arith)) c.loop-i.invariant
