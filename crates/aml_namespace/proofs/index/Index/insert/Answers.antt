use Rattle.std.proofs.Common.{◌∙◌, ap, sym, cond, Some}
use Rattle.std.specs.Ordering.{eq_by_cmp}
use Rattle.aml_namespace.specs.Tree.{Index, index_cmp, child_in}
use Rattle.aml_namespace.specs.Places.{may_be}
use Rattle.aml_namespace.proofs.Marking.{put_in, put_apart, put_marked, all_marked}
use Rattle.aml_namespace.proofs.index.Index.insert.Goals as goal

pub returns-clause-children : goal.returns-clause-children
returns-clause-children c = λ p s.
    put_in c.self.inside.places.entries c.insert.new.self.entries c.args.parent c.args.segment c.args.id c.in_ok-insert.ensures.updates.0 p s
    ∙ ap (λ (es : Index). cond (eq_by_cmp index_cmp (c.args.parent, c.args.segment) (p, s)) (Some c.args.id.number) (child_in es p s)) c.self.view_is

pub invariant_of-self-2 : goal.invariant_of-self-2
invariant_of-self-2 c =
    let updated = put_in c.self.inside.places.entries c.insert.new.self.entries c.args.parent c.args.segment c.args.id c.in_ok-insert.ensures.updates.0 in (
      put_marked c.self.inside.places.entries c.insert.new.self.entries c.args.parent c.args.segment c.self.inside.parents c.self.invariant.0 c.insert-2.new.self c.args.id.number c.insert-2.ensures.here c.insert-2.ensures.others updated,
      all_marked c.make_room.new.taken c.insert-3.new.self c.insert.new.self.entries c.args.parent c.args.segment
          (put_apart c.self.inside.places.entries c.insert.new.self.entries c.args.parent c.args.segment c.make_room.new.taken c.make_room.ensures.marked c.args.id.number updated)
          (ap (may_be c.insert-3.new.self) (sym c.first_place.ensures) ∙ c.insert-3.ensures.here) c.insert-3.ensures.others,
    )
