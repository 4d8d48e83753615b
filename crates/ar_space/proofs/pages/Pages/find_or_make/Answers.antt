use Rattle.std.proofs.Common.{◌∙◌, ap, sym, cond, length, rules}
use Rattle.std.specs.Prelude.{◌≡◌, ◌++◌, ◌∷◌, [], Some, None}
use Rattle.std.specs.Ordering.{nat_cmp}
use Rattle.std.specs.BTreeMap.{is_at}
use Rattle.ar_space.specs.PagePlaces.{place_of}
use Rattle.ar_space.proofs.PagePlaces.{pushed_places, pushed_here}
use Rattle.ar_space.proofs.pages.Pages.find_or_make.Goals as goal

pub invariant_of-self-in-None : goal.invariant_of-self-in-None
invariant_of-self-in-None c =
    let old = c.args.self.now in
    let items : c.push_reserved.new.self.items ≡ old.made.items ++ (c.args.number, c.new.result) ∷ [] = c.push_reserved.ensures.items ∙ ap (λ items. items ++ (c.args.number, c.new.result) ∷ []) c.reserve.ensures.items in
    let absent : place_of old.made.items c.args.number ≡ None = sym (old.placed c.args.number) ∙ sym c.in_ok-insert.ensures.old ∙ c.in-None.is in
    let next : c.len-next.result ≡ length old.made.items = search rules in
    record {
      placed = λ k. c.in_ok-insert.ensures.updates.0 k ∙ ap (cond (is_at (nat_cmp c.args.number) k) (Some c.len-next.result)) (old.placed k)
          ∙ ap (λ n. cond (is_at (nat_cmp c.args.number) k) (Some n) (place_of old.made.items k)) next
          ∙ sym (pushed_places old.made.items c.args.number c.new.result absent k) ∙ ap (λ items. place_of items k) (sym items);
      last_is = λ within. ap (λ items. place_of items c.args.number) items ∙ pushed_here old.made.items c.args.number c.new.result absent ∙ ap Some (sym next);
    }
