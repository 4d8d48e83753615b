use Rattle.std.proofs.Common.{◌∙◌, ◌≡◌, ◌+◌, ◌*◌, ◌/◌, cond, length, ap, arith}
use Rattle.std.specs.Prelude.{is_some}
use Rattle.std.specs.FinMap as map
use Rattle.ar_space.specs.Pages.{all_pages, map_of_pages}
use Rattle.ar_space.specs.Runs.{with_bytes, number_from}
use Rattle.ar_space.proofs.byte_map.ByteMap.replace_in_page.Goals as goal

pub returns-clause-stood : goal.returns-clause-stood
returns-clause-stood c =
    let place : 64 * (c.args.address / 64) + c.place_of.result ≡ c.args.address = omega (arith, c.place_of.ensures) in
    c.replace_all.ensures.stood ∙ ap (λ a. is_some (number_from (map.get (map_of_pages (all_pages c.self.inside.pages))) a (length c.args.bytes.now))) place
    ∙ ap (λ m. is_some (number_from (map.get m) c.args.address (length c.args.bytes.now))) c.self.view_is

pub returns-clause-new : goal.returns-clause-new
returns-clause-new c =
    let place : 64 * (c.args.address / 64) + c.place_of.result ≡ c.args.address = omega (arith, c.place_of.ensures) in
    c.replace_all.ensures.new ∙ ap (λ a. cond c.replace_all.result (with_bytes (map_of_pages (all_pages c.self.inside.pages)) a c.args.bytes.now) (map_of_pages (all_pages c.self.inside.pages))) place
    ∙ ap (λ m. cond c.replace_all.result (with_bytes m c.args.address c.args.bytes.now) m) c.self.view_is
