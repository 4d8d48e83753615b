use Rattle.std.proofs.Common.{◌∙◌, ◌++◌, [], List, ap, sym, Ok}
use Rattle.aml_path.specs.declared.segment.Seg.{Seg}
use Rattle.aml_namespace.proofs.Searching.{resolved_null, resolved_root, resolved_past, resolved_up}
use Rattle.aml_namespace.proofs.names.Names.front_from.Goals as goal

pub returns-then-is_null-clause-front : goal.returns-then-is_null-clause-front
returns-then-is_null-clause-front c = λ f is. resolved_null c.args.self.now.map f.0 c.args.name.now (sym c.is_null.ensures ∙ c.if-is_null.true)

pub returns-in-Root-clause-front : goal.returns-in-Root-clause-front
returns-in-Root-clause-front c = λ f is. record { front = ([], c.root.ensures.0); stands = c.root.ensures.1; makes = resolved_root c.args.self.now.map f.0 c.args.name.now (sym c.is_null.ensures ∙ c.if-is_null.false) c.in-Root.ensures }

pub returns-in-None-clause-front : goal.returns-in-None-clause-front
returns-in-None-clause-front c = λ f is. resolved_past c.args.self.now.map f.0 c.args.name.now c.in-Parents.count (sym c.is_null.ensures ∙ c.if-is_null.false) c.in-Parents.ensures (c.in-None.ensures f is)

pub returns-in-Some-clause-front : goal.returns-in-Some-clause-front
returns-in-Some-clause-front c = λ f is.
    let a = c.in-Some.ensures f is in
    record {
      front = a.above;
      stands = a.stands;
      makes = resolved_up c.args.self.now.map f.0 c.args.name.now c.in-Parents.count (sym c.is_null.ensures ∙ c.if-is_null.false) c.in-Parents.ensures a.within ∙ ap (λ (p : List Seg). Ok (p ++ c.args.name.now.segments)) (sym a.is);
    }
