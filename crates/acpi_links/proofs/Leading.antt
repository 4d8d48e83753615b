-- The links named are those that the routes of pins lead to, in path order.
use Rattle.std.proofs.Common.{◌≡◌, ℕ, zero, suc, ◌<◌, ◌⊎◌, List, [], ◌∷◌, length, get_or, refl, sym, subst, inl, inr, arith, ap}
use Rattle.std.specs.Prelude.{Contains, Any, ◌↔◌}
use Rattle.std.specs.List.Sorted.{IsStrictlySortedBy}
use Rattle.std.specs.FinMap.{IsAntisymmetric, slice_cmp-IsAntisymmetric}
use Rattle.aml_path.specs.declared.segment.Seg.{Seg}
use Rattle.aml_path.proofs.Segments.{seg_cmp_exact}
use Rattle.aml_path.specs.Paths.{path_cmp}
use Rattle.acpi_prt.specs.declared.pin.Pin.{Pin}
use Rattle.acpi_prt.specs.declared.pin.Route.{Route}
use Rattle.acpi_prt.specs.declared.pin.Route.TheVariants.{Wired, Link}
use Rattle.route_model.proofs.Paths.{path_total}
use Rattle.acpi_links.specs.Links.{with_route, with_links, links_named}
use Rattle.acpi_links.proofs.Members.{no_member, inserted_has, inserted_keeps, inserted_only, inserted_ascends}

exact : IsAntisymmetric path_cmp
exact = slice_cmp-IsAntisymmetric seg_cmp_exact

-- a pin that leads to a link
abbrev LeadsTo : List Seg → List Seg × Pin → Type 0
LeadsTo link pin = pin.1.route ≡ Link link

here : (link : List Seg) (pin : List Seg × Pin) (pins : List (List Seg × Pin)) → LeadsTo link pin → Any (LeadsTo link) (pin ∷ pins)
here link pin pins e = (0, pin, omega arith, refl, e)

later : (link : List Seg) (pin : List Seg × Pin) (pins : List (List Seg × Pin)) → Any (LeadsTo link) pins → Any (LeadsTo link) (pin ∷ pins)
later link pin pins a = (suc a.0, a.1, (let h = a.2 in omega arith), a.3, a.4)

here_or_later : (link : List Seg) (pin : List Seg × Pin) (pins : List (List Seg × Pin)) → Any (LeadsTo link) (pin ∷ pins) → LeadsTo link pin ⊎ Any (LeadsTo link) pins
here_or_later link pin pins a = at a.0 a.1 a.2 a.3 a.4
  where
    at : (k : ℕ) (other : List Seg × Pin) → k < length (pin ∷ pins) → get_or (pin ∷ pins) k other ≡ other → LeadsTo link other → LeadsTo link pin ⊎ Any (LeadsTo link) pins
    at zero other h e leads = inl (subst (LeadsTo link) (sym e) leads)
    at (suc k) other h e leads = inr (k, other, omega arith, e, leads)

-- one route more
route_has : (set : List (List Seg)) (route : Route) (link : List Seg) → route ≡ Link link → Contains (with_route set route) link
route_has set (Wired n) link e = absurd (cc e)
route_has set (Link p) link e = let same : p ≡ link = cc e in subst (λ (q : List Seg). Contains (with_route set (Link p)) q) same (inserted_has path_cmp exact set p)

route_keeps : (set : List (List Seg)) (route : Route) (link : List Seg) → Contains set link → Contains (with_route set route) link
route_keeps set (Wired n) link c = c
route_keeps set (Link p) link c = inserted_keeps path_cmp set p link c

route_only : (set : List (List Seg)) (route : Route) (link : List Seg) → Contains (with_route set route) link → (route ≡ Link link) ⊎ Contains set link
route_only set (Wired n) link c = inr c
route_only set (Link p) link c = elim (inserted_only path_cmp set p link c) [ inl e ↦ inl (ap (λ q. Link q) e) | inr d ↦ inr d ]

route_ascends : (set : List (List Seg)) (route : Route) → IsStrictlySortedBy path_cmp set → IsStrictlySortedBy path_cmp (with_route set route)
route_ascends set (Wired n) up = up
route_ascends set (Link p) up = inserted_ascends path_cmp path_total set p up

-- all routes
links_keep : (set : List (List Seg)) (pins : List (List Seg × Pin)) (link : List Seg) → Contains set link → Contains (with_links set pins) link
unfolding with_links
links_keep set [] link c = c
links_keep set (pin ∷ pins) link c = links_keep (with_route set pin.1.route) pins link (route_keeps set pin.1.route link c)

links_have : (set : List (List Seg)) (pins : List (List Seg × Pin)) (link : List Seg) → Any (LeadsTo link) pins → Contains (with_links set pins) link
unfolding with_links
links_have set [] link a = absurd (let h = a.2 in omega arith)
links_have set (pin ∷ pins) link a = elim (here_or_later link pin pins a) [
  | inl e ↦ links_keep (with_route set pin.1.route) pins link (route_has set pin.1.route link e)
  | inr b ↦ links_have (with_route set pin.1.route) pins link b
]

links_only : (set : List (List Seg)) (pins : List (List Seg × Pin)) (link : List Seg) → Contains (with_links set pins) link → Contains set link ⊎ Any (LeadsTo link) pins
unfolding with_links
links_only set [] link c = inl c
links_only set (pin ∷ pins) link c = elim (links_only (with_route set pin.1.route) pins link c) [
  | inl d ↦ elim (route_only set pin.1.route link d) [ inl e ↦ inr (here link pin pins e) | inr b ↦ inl b ]
  | inr a ↦ inr (later link pin pins a)
]

links_ascend : (set : List (List Seg)) (pins : List (List Seg × Pin)) → IsStrictlySortedBy path_cmp set → IsStrictlySortedBy path_cmp (with_links set pins)
unfolding with_links
links_ascend set [] up = up
links_ascend set (pin ∷ pins) up = links_ascend (with_route set pin.1.route) pins (route_ascends set pin.1.route up)

none_ascends : IsStrictlySortedBy path_cmp []
unfolding IsStrictlySortedBy
none_ascends = tt

pub links_led_to : (pins : List (List Seg × Pin)) (link : List Seg) → Contains (links_named pins) link ↔ Any (λ pin. pin.1.route ≡ Link link) pins
links_led_to pins link = (
  λ c. elim (links_only [] pins link c) [ inl d ↦ absurd (no_member link d) | inr a ↦ a ],
  λ a. links_have [] pins link a,
)

pub links_in_order : (pins : List (List Seg × Pin)) → IsStrictlySortedBy path_cmp (links_named pins)
links_in_order pins = links_ascend [] pins none_ascends
