use Rattle.std.proofs.Common.{◌≡◌, ◌∙◌, ◌++◌, ap, sym, length, take, List, Some, Ok}
use Rattle.std.specs.Prelude.{option_map}
use Rattle.aml_path.specs.declared.segment.Seg.{Seg}
use Rattle.aml_arities.specs.Arities.{is_known_below}
use Rattle.aml_scan.proofs.Searches.{greatest_within, search_is}
use Rattle.aml_scan.proofs.declarations.Declarations.search.Goals as goal

pub below_prefix-requires : goal.below_prefix-requires
below_prefix-requires g c = greatest_within (is_known_below c.args.self.now c.args.scope.now c.args.segments.now) (length c.args.scope.now) c.in-Some.depth (sym c.in-Some.ensures)

pub returns-in-None : goal.returns-in-None
returns-in-None g c = record {
  is = λ _. ap Ok (search_is c.args.self.now c.args.scope.now c.args.segments.now (length c.args.scope.now) ∙ ap (option_map (λ k. take k c.args.scope.now ++ c.args.segments.now)) (sym c.in-None.ensures));
}

pub returns-in_ok-below_prefix-in-Some : goal.returns-in_ok-below_prefix-in-Some
returns-in_ok-below_prefix-in-Some g c =
    let path : take c.in-Some.depth c.args.scope.now ++ c.args.segments.now ≡ c.in_ok-below_prefix-in-Some.field-0 = cc (c.in_ok-below_prefix-in-Some.ensures.is tt) in
    record {
      is = λ _. ap Ok (search_is c.args.self.now c.args.scope.now c.args.segments.now (length c.args.scope.now)
          ∙ ap (option_map (λ k. take k c.args.scope.now ++ c.args.segments.now)) (sym c.in-Some.ensures)
          ∙ ap Some path);
    }
