use Rattle.std.proofs.Common.{◌≡◌, ◌∙◌, ◌*◌, ◌/◌, ap, sym, drop, length, arith, map}
use Rattle.std.specs.Prelude.{not, ◌==◌, filter}
use Rattle.std.specs.List.{range_with_len}
use Rattle.byteorder.specs.Endian.{little_number}
use Rattle.ar_tables.specs.Lists.{address_size, addresses_in}
use Rattle.ar_tables.proofs.Turns.{number_kept, number_passed}
use Rattle.ar_tables.proofs.root_table.addresses_in.Goals as goal
use Rattle.ar_tables.proofs.root_table.addresses_in.Goals.{then-address-ne-NO_TABLE+in_ok-push, else-address-ne-NO_TABLE}

pub loop-n-preserved : goal.loop-n-preserved
loop-n-preserved c =
    let root = c.args.root in
    let list = c.args.list.now in
    let next : c.address-address.result ≡ little_number (address_size root) (drop (address_size root * c.loop-n.n) list) =
    c.address-address.ensures ∙ ap (little_number (address_size root)) (c.split_at.ensures.back ∙ ap (λ size. drop (size * c.loop-n.n) list) c.address_size-size.ensures) in
    elim c.if-address-ne-NO_TABLE.branch [
      | then-address-ne-NO_TABLE+in_ok-push w ↦ ap (λ v. v.items) w.addresses-is ∙ w.in_ok-push.ensures.items ∙ number_kept (λ n. little_number (address_size root) (drop (address_size root * n) list)) c.loop-n.n c.address-address.result c.loop-n.addresses.items c.loop-n.invariant next w.if-address-ne-NO_TABLE.true
      | else-address-ne-NO_TABLE w ↦ ap (λ v. v.items) w.addresses-is ∙ number_passed (λ n. little_number (address_size root) (drop (address_size root * n) list)) c.loop-n.n c.address-address.result c.loop-n.addresses.items c.loop-n.invariant next w.if-address-ne-NO_TABLE.false
    ]

pub returns : goal.returns
unfolding addresses_in
returns c =
    let end : c.loop-n.n ≡ length c.args.list.now / address_size c.args.root = rw (sym c.address_size-size.ensures) (omega arith) in
    c.loop-n.invariant ∙ ap (λ n. filter (λ address. not (address == 0)) (map (λ n. little_number (address_size c.args.root) (drop (address_size c.args.root * n) c.args.list.now)) (range_with_len 0 n))) end
