-- The links found are some of the links named, in their order.
use Rattle.std.proofs.Common.{◌≡◌, ℕ, List, [], ◌∷◌, ◌++◌, Bool, true, false, Option, Some, None, Ok, Err, map, refl, sym, ◌∙◌, ap, append_assoc, append-nil}
use Rattle.std.specs.List.{items_where_true}
use Rattle.std.specs.Option.{is_some}
use Rattle.std.proofs.lemmas.List.{map-append}
use Rattle.ar_space.specs.Accesses.{Accesses}
use Rattle.ar_space.specs.Outcome.{Outcome}
use Rattle.ar_space.specs.Change.{Change, give, go_on, ◌>>=◌}
use Rattle.aml_path.specs.declared.segment.Seg.{Seg}
use Rattle.acpi_machine.specs.MachineStates.{MachineState}
use Rattle.acpi_prt.specs.declared.pin.Pin.{Pin}
use Rattle.acpi_links.specs.Folds.{folded}
use Rattle.acpi_links.specs.Gatherings.{links_found}
use Rattle.acpi_links.specs.Presence.{is_present}
use Rattle.acpi_links.specs.Links.{PresentLink, IsAt, with_link, link_asked, link_if, link_found, links_named}

-- what goes before an answer
before_ok : {T A B : Type 0} (m : Change T A) (k : A → Change T B) (b : B) (s t : T) → (m >>= k) s ≡ (Ok b, t) → (a : A) × (u : T) × (k a u ≡ (Ok b, t)) × (m s ≡ (Ok a, u))
unfolding ◌>>=◌ go_on
before_ok {T} {A} {B} m k b s t e = by (m s).0 (m s).1 refl e
  where
    by : (o : Outcome A) (u : T) → m s ≡ (o, u) → go_on o u k ≡ (Ok b, t) → (a : A) × (u : T) × (k a u ≡ (Ok b, t)) × (m s ≡ (Ok a, u))
    by (Ok a) u is e = (a, u, e, is)
    by (Err f) u is e = let h = ap (λ (r : Outcome B × T). r.0) e in absurd (cc h)

given_ok : {T A : Type 0} (a b : A) (s t : T) → give a s ≡ (Ok b, t) → b ≡ a
unfolding give
given_ok {T} {A} a b s t e = let h = ap (λ (r : Outcome A × T). r.0) e in cc h

abbrev paths : List PresentLink → List (List Seg)
paths list = map (λ link. link.0) list

module _ {S : Type 0} (accesses : Accesses S) (avoid : List ℕ) where
  -- a link that is found is that at the path
  at_path : (p : List Seg) (present : Bool) (found : Option PresentLink) (s t : MachineState S) → link_if accesses avoid present p s ≡ (Ok found, t) → IsAt p found
  unfolding link_if link_found
  at_path p true found s t e =
      let offer = before_ok _ _ found s t e in
      let left = before_ok _ _ found offer.1 t offer.2 in
      let now = before_ok _ _ found left.1 t left.2 in
      let is : found ≡ Some (p, offer.0, now.0) = given_ok _ found now.1 t now.2 in
      rw is refl
  at_path p false found s t e = let is : found ≡ None = given_ok None found s t e in rw is tt

  found_at : (p : List Seg) (found : Option PresentLink) (s t : MachineState S) → link_asked accesses avoid p s ≡ (Ok found, t) → IsAt p found
  unfolding link_asked
  found_at p found s t e = let present = before_ok _ _ found s t e in at_path p present.0 found present.1 t present.2

  -- one link after another
  each_found : (named : List (List Seg)) (list links : List PresentLink) (s t : MachineState S) → folded with_link (link_asked accesses avoid) named list s ≡ (Ok links, t)
      → (found : List Bool) × (paths links ≡ paths list ++ items_where_true found named)
  unfolding folded
  each_found [] list links s t e = ([], ap paths (given_ok list links s t e) ∙ sym (append-nil (paths list)))
  each_found (p ∷ named) list links s t e =
      let asked = before_ok _ _ links s t e in
      by asked.0 (found_at p asked.0 s asked.1 asked.3) (each_found named (with_link list asked.0) links asked.1 t asked.2)
    where
      by : (o : Option PresentLink) → IsAt p o → (found : List Bool) × (paths links ≡ paths (with_link list o) ++ items_where_true found named)
          → (found : List Bool) × (paths links ≡ paths list ++ items_where_true found (p ∷ named))
      by None at rest = (false ∷ rest.0, rest.1)
      by (Some link) at rest = (
        true ∷ rest.0,
        rest.1 ∙ (ap (λ ps. ps ++ items_where_true rest.0 named) (map-append (λ (l : PresentLink). l.0) list (link ∷ []))
            ∙ (append_assoc (paths list) (link.0 ∷ []) (items_where_true rest.0 named) ∙ ap (λ q. paths list ++ q ∷ items_where_true rest.0 named) at)),
      )

  all_found : (pins : List (List Seg × Pin)) (links : List PresentLink) (before after : MachineState S) → links_found accesses avoid pins before ≡ (Ok links, after)
      → (found : List Bool) × (paths links ≡ items_where_true found (links_named pins))
  unfolding links_found
  all_found pins links before after e =
      let named = before_ok _ _ links before after e in
      let few = before_ok _ _ links named.1 after named.2 in
      let each = before_ok _ _ links few.1 after few.2 in
      let one = before_ok _ _ links each.1 after each.2 in
      let is : named.0 ≡ links_named pins = given_ok (links_named pins) named.0 before named.1 named.3 in
      let same : links ≡ each.0 = given_ok each.0 links one.1 after one.2 in
      let so = each_found named.0 [] each.0 few.1 each.1 each.3 in
      (so.0, ap paths same ∙ (so.1 ∙ ap (items_where_true so.0) is))

pub found_named : {S : Type 0} (accesses : Accesses S) (avoid : List ℕ) (pins : List (List Seg × Pin)) (links : List PresentLink) (before after : MachineState S) → links_found accesses avoid pins before ≡ (Ok links, after)
    → (found : List Bool) × (map (λ link. link.0) links ≡ items_where_true found (links_named pins))
found_named accesses avoid = all_found accesses avoid

-- a link that is asked is found if it is present, and only then
found_if : {S : Type 0} (accesses : Accesses S) (avoid : List ℕ) (link : List Seg) (present : Bool) (found : Option PresentLink) (s t : MachineState S) → link_if accesses avoid present link s ≡ (Ok found, t) → present ≡ is_some found
unfolding link_if link_found
found_if accesses avoid link true found s t e =
    let offer = before_ok _ _ found s t e in
    let left = before_ok _ _ found offer.1 t offer.2 in
    let now = before_ok _ _ found left.1 t left.2 in
    let is : found ≡ Some (link, offer.0, now.0) = given_ok _ found now.1 t now.2 in
    rw is refl
found_if accesses avoid link false found s t e = let is : found ≡ None = given_ok None found s t e in rw is refl

pub found_present : {S : Type 0} (accesses : Accesses S) (avoid : List ℕ) (link : List Seg) (found : Option PresentLink) (before after : MachineState S) → link_asked accesses avoid link before ≡ (Ok found, after)
    → (asked : MachineState S) × (is_present accesses link before ≡ (Ok (is_some found), asked))
unfolding link_asked
found_present accesses avoid link found before after e =
    let present = before_ok _ _ found before after e in
    (present.1, present.3 ∙ ap (λ b. (Ok b, present.1)) (found_if accesses avoid link present.0 found present.1 after present.2))
