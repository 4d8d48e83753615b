use Rattle.std.proofs.Common.{◌+◌, ◌*◌, ◌<◌, ◌∙◌, ap, sym, subst, refl, length-set}
use Rattle.std.specs.Prelude.{slice_set}
use Rattle.ar_space.specs.Runs.{with_bytes}
use Rattle.ar_space.proofs.PageMaps.{put_in_old}
use Rattle.ar_space.proofs.PagePlaces.{page_at, set_places, written_updated, put_page, same_map_made, one_more}
use Rattle.ar_space.proofs.pages.Pages.put_all.Goals as goal

pub invariant_of-self-clause-placed : goal.invariant_of-self-clause-placed
invariant_of-self-clause-placed c k =
    let mid = c.place_to_put.new.self in
    let entry = c.index_mut.result.now in
    mid.placed k ∙ sym (set_places mid.made.items c.in_ok-place.place entry (entry.0, c.put_all.new.self) k c.index_mut.ensures.value refl)

pub invariant_of-self-clause-last_is : goal.invariant_of-self-clause-last_is
invariant_of-self-clause-last_is c within =
    let mid = c.place_to_put.new.self in
    let entry = c.index_mut.result.now in
    set_places mid.made.items c.in_ok-place.place entry (entry.0, c.put_all.new.self) mid.last_number c.index_mut.ensures.value refl ∙ mid.last_is (subst (λ n. mid.last < n) (length-set mid.made.items c.in_ok-place.place (entry.0, c.put_all.new.self)) within)

pub returns-clause-ok : goal.returns-clause-ok
returns-clause-ok c =
    let mid = c.place_to_put.new.self in
    let entry = c.index_mut.result.now in
    put_page mid.made.items (slice_set mid.made.items c.in_ok-place.place (entry.0, c.put_all.new.self)) c.args.number c.args.at c.args.bytes.now c.put_all.new.self c.requires.0 c.requires.1
    (written_updated mid.made.items c.args.number c.in_ok-place.place entry c.put_all.new.self c.in_ok-place.ensures.place c.index_mut.ensures.value)
    (put_in_old mid.made.items c.args.number c.args.at c.args.bytes.now entry.1 c.put_all.new.self
    (page_at mid.made.items c.args.number c.in_ok-place.place entry c.in_ok-place.ensures.place c.index_mut.ensures.value)
    c.put_all.ensures.put c.put_all.ensures.below c.put_all.ensures.above)
    ∙ ap (λ m. with_bytes m (64 * c.args.number + c.args.at) c.args.bytes.now) (same_map_made c.args.number c.args.self.now.made.items mid.made.items c.in_ok-place.ensures.made)

pub returns-clause-pages : goal.returns-clause-pages
returns-clause-pages c =
    let mid = c.place_to_put.new.self in
    length-set mid.made.items c.in_ok-place.place (c.index_mut.result.now.0, c.put_all.new.self)
    ∙ one_more c.args.number c.in_ok-place.place c.args.self.now.made.items mid.made.items c.in_ok-place.ensures.made c.in_ok-place.ensures.place
