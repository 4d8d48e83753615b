use Rattle.std.proofs.Common.{◌∙◌, ◌≡◌, ◌+◌, ◌*◌, ◌/◌, ap, arith}
use Rattle.ar_space.specs.Pages.{all_pages, map_of_pages}
use Rattle.ar_space.specs.Runs.{with_bytes}
use Rattle.ar_space.proofs.OnOk.{on_ok}
use Rattle.ar_space.proofs.byte_map.ByteMap.put_in_page.Goals as goal

pub returns-clause-ok : goal.returns-clause-ok
returns-clause-ok c =
    let place : 64 * (c.args.address / 64) + c.place_of.result ≡ c.args.address = omega (arith, c.place_of.ensures) in
    on_ok c.put_all.result (λ e. e ∙ ap (λ a. with_bytes (map_of_pages (all_pages c.self.inside.pages)) a c.args.bytes.now) place ∙ ap (λ m. with_bytes m c.args.address c.args.bytes.now) c.self.view_is) c.put_all.ensures.ok
