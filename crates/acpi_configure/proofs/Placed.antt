-- The links of the set are among those of the problem.
use Rattle.std.proofs.Common.{◌≡◌, ℕ, suc, ap, ◌+◌, ◌<◌, ◌≤◌, List, [], ◌∷◌, length, map, get_or, refl, sym, ◌∙◌, arith}
use Rattle.std.specs.Prelude.{All, Contains}
use Rattle.std.proofs.lemmas.List.{get_or_default}
use Rattle.std.proofs.lemmas.Slice.Zip.{AllZip-long}
use Rattle.route_model.specs.Links.{OfferingLink, offers_of}
use Rattle.route_solve.specs.Problems.{RoutingProblem, RoutingAnswer}
use Rattle.route_solve.specs.Shown.{Shown, Idle, Wired, Crowded}
use Rattle.acpi_configure.proofs.Fitting.{Fitting}

within : {offers : List (List ℕ)} {wired : List (ℕ × ℕ)} {k : ℕ} {links interrupts : List ℕ} → Shown offers wired k links interrupts
    → (j d : ℕ) → j < length links → get_or links j d < length offers
within Idle j d l = absurd (omega arith)
within (Wired a b c) j d l = absurd (omega arith)
within (Crowded k {links = links} h s) j d l =
    let c : Contains links (get_or links j d) = (j, l, get_or_default links j (get_or links j d) d l) in
    let low = ((s.is_link (get_or links j d)).0 c).0 in
    let high = s.within in
    omega arith

len : (ls : List OfferingLink) → length (offers_of ls) ≡ length ls
len [] = refl
len (l ∷ ls) = ap suc (len ls)

pub placed : (p : RoutingProblem) (a : RoutingAnswer) → Fitting p a → All (λ k. k < length p.links) a.links
placed p a s = λ j d l. let h = within s.shown j d l in let e = len p.links in omega arith

pub chosen_for_each : (p : RoutingProblem) (a : RoutingAnswer) → Fitting p a → length a.choice ≡ length p.links
chosen_for_each p a s = AllZip-long Contains (offers_of p.links) a.choice s.offered ∙ len p.links
