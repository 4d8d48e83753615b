use Rattle.std.proofs.Common.{◌∙◌, ap, sym}
use Rattle.std.specs.Option.{option_copied}
use Rattle.std.specs.Ordering.{is_eq}
use Rattle.aml_path.specs.Paths.{path_cmp}
use Rattle.aml_namespace.proofs.Paths.{same_path}
use Rattle.aml_world.proofs.BodyMarks.{kept_read}
use Rattle.aml_world.proofs.state.known_names.Declarations.kept_marks.Goals as goal

pub returns-then-is_within : goal.returns-then-is_within
returns-then-is_within c =
    let i = c.self.inside in
    kept_read (λ k. is_eq (path_cmp c.args.path.now k)) i.kept.entries c.in-Some.kept.now c.args.levels c.args.path.now c.args.body.now (record { names = i.names; arities = i.arities }) c.args.self.now (λ k h. same_path c.args.path.now k h) c.self.view_is c.self.invariant (sym c.get.ensures.value ∙ ap option_copied c.in-Some.is)
    (c.is_within.ensures.levels c.if-is_within.true) (c.is_within.ensures.body c.if-is_within.true)
