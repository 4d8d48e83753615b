use Rattle.std.proofs.Common.{◌∙◌, List, ap, sym, Option, Some, Ok}
use Rattle.std.specs.Option.{option_map}
use Rattle.ar_space.specs.Outcome.{seen}
use Rattle.aml_path.specs.declared.segment.Seg.{Seg}
use Rattle.aml_namespace.specs.Search.{Found, at_path, target_of}
use Rattle.aml_namespace.proofs.Searching.{some_is, none_is, target_plain, target_alias}
use Rattle.aml_namespace.proofs.names.Names.target.Goals as goal

pub returns-in-None : goal.returns-in-None
returns-in-None c = sym (ap (λ (o : Option Found). seen Some (target_of o)) (none_is _ (c.in-None.ensures ∙ ap (λ (p : List Seg). option_map Some (at_path c.args.self.now.map p)) c.segments.ensures)))

pub returns-in-None-alias_at : goal.returns-in-None-alias_at
returns-in-None-alias_at c =
    let b = some_is _ (at_path c.args.self.now.map c.args.path.now) (c.in-Some.ensures ∙ ap (λ (p : List Seg). option_map Some (at_path c.args.self.now.map p)) c.segments.ensures) in
    ap Ok b.2 ∙ sym (ap (seen Some) (target_plain _ b.0 b.1 (c.in-None-alias_at.ensures b.0 b.2)))

pub returns-in-Some-alias_at : goal.returns-in-Some-alias_at
returns-in-Some-alias_at c =
    let b = some_is _ (at_path c.args.self.now.map c.args.path.now) (c.in-Some.ensures ∙ ap (λ (p : List Seg). option_map Some (at_path c.args.self.now.map p)) c.segments.ensures) in
    sym (ap (seen Some) (target_alias _ b.0 c.in-Some-alias_at.field-0.now b.1 (c.in-Some-alias_at.ensures b.0 b.2)))
