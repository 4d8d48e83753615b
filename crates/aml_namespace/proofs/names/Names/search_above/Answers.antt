use Rattle.std.proofs.Common.{◌∙◌, ap, sym, Some}
use Rattle.std.specs.Option.{option_map}
use Rattle.aml_namespace.proofs.Searching.{some_is, none_is, up_here, up_end, up_step}
use Rattle.aml_namespace.proofs.names.Names.search_above.Goals as goal

pub returns-in-Some : goal.returns-in-Some
returns-in-Some c = λ f is.
    let a = c.scopes.invariant f is in
    let b = some_is _ _ (c.in-Some.ensures a.0 a.1) in
    ap Some b.2 ∙ sym (ap (option_map Some) (a.2 ∙ up_here c.args.self.now.map a.0.0 c.args.segments.now b.0 b.1))

pub returns-in-None : goal.returns-in-None
returns-in-None c = λ f is.
    let a = c.scopes.invariant f is in
    sym (ap (option_map Some) (a.2 ∙ up_end c.args.self.now.map a.0.0 c.args.segments.now (c.in-None.ensures.parent a.0 a.1) (none_is _ (c.in_default.ensures a.0 a.1))))

pub scopes-preserved : goal.scopes-preserved
scopes-preserved c = λ f is.
    let a = c.scopes.invariant f is in
    let b = c.in-Some-above.ensures.parent a.0 a.1 in
    (b.above, b.stands, a.2 ∙ up_step c.args.self.now.map a.0.0 b.above.0 c.in-Some-above.field-0-1 c.args.segments.now b.ends (none_is _ (c.in_default.ensures a.0 a.1)))
