use Rattle.std.proofs.Common.{◌∙◌, ◌||◌, arith, ap, sym}
use Rattle.std.specs.BTreeSet.{contains}
use Rattle.aml_path.specs.Paths.{path_cmp}
use Rattle.aml_namespace.specs.Walks.{is_named}
use Rattle.aml_namespace.proofs.Walking.{none_put, one_put}
use Rattle.aml_namespace.proofs.walk.put_named.Goals as goal

pub returns-then-depth-eq0-clause-put : goal.returns-then-depth-eq0-clause-put
returns-then-depth-eq0-clause-put c = λ q.
    none_put (contains path_cmp c.args.paths.now q) q c.in-Some.path (sym c.depth.ensures ∙ c.if-depth-eq0.true)
    ∙ ap (λ o. contains path_cmp c.args.paths.now q || is_named q o) (sym c.in-Some.is)

pub returns-in_ok-insert-in-Some-clause-put : goal.returns-in_ok-insert-in-Some-clause-put
returns-in_ok-insert-in-Some-clause-put c = λ q.
    c.in_ok-insert-in-Some.ensures.updates.0 q
    ∙ one_put (contains path_cmp c.args.paths.now q) q c.in-Some.path (omega (arith, c.depth.ensures, c.if-depth-eq0.false))
    ∙ ap (λ o. contains path_cmp c.args.paths.now q || is_named q o) (sym c.in-Some.is)
