use Rattle.std.proofs.Common.{◌≡◌, ◌≤◌, ◌∙◌, ◌+◌, ◌<◌, ◌++◌, ◌∷◌, [], ℕ, ap, sym, subst, length, take, List, Option, Some, None, arith, refl}
use Rattle.std.specs.Prelude.{IfSome, if◌then◌else◌}
use Rattle.std.specs.Option.{option_map}
use Rattle.aml_path.specs.declared.segment.Seg.{Seg}
use Rattle.aml_namespace.specs.Namespace.{numbered}
use Rattle.aml_namespace.specs.Search.{Found, at_path}
use Rattle.aml_world.specs.fields.PciFunctions.{fits, nearest_from}
use Rattle.aml_world.proofs.NearestFunctions.{shown, taken, some_is, found_there, near_first, near_next, near_end, within_first, within_next, within_path}
use Rattle.aml_world.proofs.fields.pci_functions.nearest_depth.Goals as goal

pub loop-step-init : goal.loop-step-init
loop-step-init c =
    let m = c.args.names.now.map in
    let x = c.args.sought in
    let steps = c.segments-steps.result.now in
    let e = c.root-current.ensures in
    record {
      stands = (([], e.0), e.1, refl);
      depth = refl;
      near = ap (shown m x steps) c.nearer-nearest.ensures ∙ near_first m x steps c.fits.result (c.fits.ensures ([], e.0) e.1);
      within = subst (λ (o : Option ℕ). IfSome o (λ d. d ≤ 0)) (sym c.nearer-nearest.ensures) (within_first c.fits.result);
    }

pub returns-in-None-clause-depth : goal.returns-in-None-clause-depth
returns-in-None-clause-depth c =
    let m = c.args.names.now.map in
    let x = c.args.sought in
    let steps = c.segments-steps.result.now in
    let i = c.loop-step.step-index in
    let s = c.step-item.result in
    let f = c.loop-step.invariant.stands in
    let none : (rest : List Seg) → at_path m (take i steps ++ s ∷ rest) ≡ None = λ rest.
    ap (λ (p : List Seg). at_path m (p ++ s ∷ rest)) (sym f.2) ∙ c.child_of.ensures.deeper f.0 f.1 c.in-None.is rest in
    ap (λ (p : List Seg). option_map (λ (n : ℕ). take n p) c.loop-step.nearest) (sym c.segments-steps.ensures)
    ∙ c.loop-step.invariant.near ∙ near_end m x steps i s c.loop-step-test.true c.step-item.is none
    ∙ ap (λ (p : List Seg). nearest_from m x p (length p)) c.segments-steps.ensures

pub returns-in-None-clause-within : goal.returns-in-None-clause-within
returns-in-None-clause-within c = within_path c.loop-step.step-index c.loop-step.nearest c.segments-steps.result.now c.args.path.now c.segments-steps.ensures (let lt = c.loop-step-test.true in omega (arith, lt)) c.loop-step.invariant.within

pub overflow_add-depth : goal.overflow_add-depth
overflow_add-depth c =
    let d = c.loop-step.invariant.depth in
    let lt = c.loop-step-test.true in
    let few = c.segments-steps.type_inv.0 in
    omega (arith, d, lt, few)

pub loop-step-preserved : goal.loop-step-preserved
loop-step-preserved c =
    let m = c.args.names.now.map in
    let x = c.args.sought in
    let steps = c.segments-steps.result.now in
    let i = c.loop-step.step-index in
    let s = c.step-item.result in
    let f = c.loop-step.invariant.stands in
    let h = some_is (numbered c.in-Some.next.number m) (at_path m (f.0.0 ++ s ∷ [])) (c.in-Some.ensures.here f.0 f.1) in
    let path : h.0.0 ≡ take (i + 1) steps = found_there m (f.0.0 ++ s ∷ []) h.0 h.1 ∙ ap (λ (p : List Seg). p ++ s ∷ []) f.2 ∙ sym (taken steps i s c.loop-step-test.true c.step-item.is) in
    let depth : c.loop-step.depth + 1 ≡ i + 1 = ap (λ (n : ℕ). n + 1) c.loop-step.invariant.depth in
    let test : c.fits-in-loop-step.result ≡ fits m x (take (i + 1) steps) = c.fits-in-loop-step.ensures h.0 h.2 ∙ ap (fits m x) path in
    let nearer = c.nearer-nearest-in-loop-step.ensures ∙ ap (λ (n : ℕ). if c.fits-in-loop-step.result then Some n else c.loop-step.nearest) depth in
    record {
      stands = (h.0, h.2, path);
      depth = depth;
      near = ap (shown m x steps) nearer ∙ near_next m x steps i c.fits-in-loop-step.result c.loop-step.nearest test c.loop-step.invariant.near;
      within = subst (λ (o : Option ℕ). IfSome o (λ d. d ≤ i + 1)) (sym nearer) (within_next i c.fits-in-loop-step.result c.loop-step.nearest c.loop-step.invariant.within);
    }

pub returns-clause-depth : goal.returns-clause-depth
returns-clause-depth c =
    let m = c.args.names.now.map in
    let x = c.args.sought in
    let steps = c.segments-steps.result.now in
    let ends : c.loop-step.step-index ≡ length steps = (let le = c.loop-step.auto.step-index-end in let ge = c.loop-step-test.false in omega (arith, le, ge)) in
    ap (λ (p : List Seg). option_map (λ (n : ℕ). take n p) c.loop-step.nearest) (sym c.segments-steps.ensures)
    ∙ c.loop-step.invariant.near ∙ ap (nearest_from m x steps) ends
    ∙ ap (λ (p : List Seg). nearest_from m x p (length p)) c.segments-steps.ensures

pub returns-clause-within : goal.returns-clause-within
returns-clause-within c = within_path c.loop-step.step-index c.loop-step.nearest c.segments-steps.result.now c.args.path.now c.segments-steps.ensures c.loop-step.auto.step-index-end c.loop-step.invariant.within
