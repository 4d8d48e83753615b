use Rattle.std.proofs.Common.{◌<◌, ◌∙◌, ap, sym, subst, length, refl, length-set}
use Rattle.std.specs.Prelude.{◌≡◌, is_some, slice_set, Some, None}
use Rattle.ar_space.specs.PagePlaces.{place_of}
use Rattle.ar_space.proofs.PagePlaces.{page_at, page_nowhere, set_places, written_updated, replaced_page, number_of_page, number_of_none}
use Rattle.ar_space.proofs.pages.Pages.replace_all.Goals as goal

pub invariant_of-self-clause-placed : goal.invariant_of-self-clause-placed
invariant_of-self-clause-placed c k =
    let old = c.args.self.now in
    let entry = c.index_mut.result.now in
    old.placed k ∙ sym (set_places old.made.items c.in-Some.place entry (entry.0, c.replace_all.new.self) k c.index_mut.ensures.value refl)

pub invariant_of-self-clause-last_is : goal.invariant_of-self-clause-last_is
invariant_of-self-clause-last_is c within =
    let old = c.args.self.now in
    let entry = c.index_mut.result.now in
    set_places old.made.items c.in-Some.place entry (entry.0, c.replace_all.new.self) old.last_number c.index_mut.ensures.value refl ∙ old.last_is (subst (λ n. old.last < n) (length-set old.made.items c.in-Some.place (entry.0, c.replace_all.new.self)) within)

pub returns-in-Some-clause-stood : goal.returns-in-Some-clause-stood
returns-in-Some-clause-stood c =
    let old = c.args.self.now in
    let entry = c.index_mut.result.now in
    let is : place_of old.made.items c.args.number ≡ Some c.in-Some.place = sym c.place.ensures ∙ c.in-Some.is in
    c.replace_all.ensures.stood ∙ ap is_some (number_of_page old.made.items c.args.number c.args.at (length c.args.bytes.now) c.requires.room.0 entry.1 c.requires.room.1
    (page_at old.made.items c.args.number c.in-Some.place entry is c.index_mut.ensures.value))

pub returns-in-Some-clause-new : goal.returns-in-Some-clause-new
returns-in-Some-clause-new c =
    let old = c.args.self.now in
    let entry = c.index_mut.result.now in
    let is : place_of old.made.items c.args.number ≡ Some c.in-Some.place = sym c.place.ensures ∙ c.in-Some.is in
    replaced_page old.made.items (slice_set old.made.items c.in-Some.place (entry.0, c.replace_all.new.self)) c.args.number c.args.at c.args.bytes.now c.replace_all.new.self c.requires.room.0 c.requires.room.1
    (written_updated old.made.items c.args.number c.in-Some.place entry c.replace_all.new.self is c.index_mut.ensures.value)
    entry.1 c.replace_all.result (page_at old.made.items c.args.number c.in-Some.place entry is c.index_mut.ensures.value)
    c.replace_all.ensures.kept c.replace_all.ensures.put c.replace_all.ensures.below c.replace_all.ensures.above

pub returns-in-None-clause-stood : goal.returns-in-None-clause-stood
returns-in-None-clause-stood c =
    let old = c.args.self.now in
    let is : place_of old.made.items c.args.number ≡ None = sym c.place.ensures ∙ c.in-None.is in
    sym (ap is_some (number_of_none old.made.items c.args.number c.args.at (length c.args.bytes.now) c.requires.room.0 c.requires.count.0 (page_nowhere old.made.items c.args.number is)))
