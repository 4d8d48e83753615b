use Rattle.std.proofs.Common.{◌≡◌, ◌∙◌, ◌++◌, ◌∷◌, [], ap, sym, List, Some, Ok, reverse, append_assoc, append-nil}
use Rattle.std.proofs.lemmas.List.{reverse-append}
use Rattle.std.specs.Option.{option_map}
use Rattle.aml_path.specs.declared.segment.Seg.{Seg}
use Rattle.aml_namespace.specs.Search.{Found}
use Rattle.aml_namespace.proofs.Searching.{stands_by, nothing_by}
use Rattle.aml_namespace.proofs.names.Names.path_of.Goals as goal

pub levels-preserved : goal.levels-preserved
levels-preserved c = λ f is.
    let a = c.levels.invariant f is in
    let b = c.in-Some-above.ensures.parent a.0 a.1 in
    (b.above, b.stands, rw (c.in_ok-push.ensures.items, reverse-append c.levels.segments.items (c.in-Some-above.segment ∷ [])) (a.2 ∙ ap (λ p. p ++ reverse c.levels.segments.items) b.ends ∙ append_assoc b.above.0 (c.in-Some-above.segment ∷ []) (reverse c.levels.segments.items)))

pub levels-init : goal.levels-init
levels-init c = λ f is. (f, is, rw c.new-segments.ensures.items (sym (append-nil f.0)))

pub returns-in_default : goal.returns-in_default
returns-in_default c = record { is = λ _. ap Ok (nothing_by _ c.in_default.ensures) }

pub returns : goal.returns
returns c =
    let f = stands_by _ _ c.in-Some.ensures in
    let a = c.levels.invariant f.0 f.1 in
    let root = c.in_default-above.ensures.parent a.0 a.1 in
    let path : f.0.0 ≡ c.from_vec.result = a.2 ∙ ap (λ (p : List Seg). p ++ reverse c.levels.segments.items) root ∙ sym (c.from_vec.ensures ∙ c.reverse.ensures.items) in
    record { is = λ _. ap Ok (ap (option_map (λ (g : Found). g.0)) f.1 ∙ ap Some path) }
