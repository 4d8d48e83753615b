use Rattle.std.proofs.Common.{◌≡◌, length, true, rules}
use Rattle.std.specs.Prelude.{is_some}
use Rattle.std.specs.FinMap as map
use Rattle.ar_space.specs.Runs.{number_from}
use Rattle.ar_space.proofs.PageMaps.{replaced_both}
use Rattle.ar_space.proofs.byte_map.ByteMap.replace_all.Goals as goal

pub returns-clause-new : goal.returns-clause-new
returns-clause-new c =
    let there : is_some (number_from (map.get c.args.self.now) c.args.address (length c.args.bytes.now)) ≡ true = search rules in
    replaced_both c.args.self.now c.replace_in_page-2.new.self c.replace_in_page-3.new.self c.args.address c.room_at-room.result c.args.bytes.now c.split_at.result.0.now c.split_at.result.1.now
    c.replace_in_page-2.result c.replace_in_page-3.result c.split_at.ensures.by_index.0 c.split_at.ensures.front_len there
    c.replace_in_page-2.ensures.stood c.replace_in_page-2.ensures.new c.replace_in_page-3.ensures.stood c.replace_in_page-3.ensures.new
