-- Each link that is found offers what its own `_PRS` gave.
use Rattle.std.specs.Prelude.{◌≡◌, ⊤, ℕ, List, [], ◌∷◌, Bool, true, false, Option, Some, None, Ok, Contains}
use Rattle.std.proofs.Common.{inl, inr, sym, subst}
use Rattle.std.proofs.lemmas.List.Elements.{Contains-append_cases}
use Rattle.ar_space.specs.Accesses.{Accesses}
use Rattle.ar_space.specs.Change.{give, settle}
use Rattle.aml_path.specs.declared.segment.Seg.{Seg}
use Rattle.acpi_machine.specs.MachineStates.{MachineState}
use Rattle.acpi_prt.specs.declared.pin.Pin.{Pin}
use Rattle.acpi_links.specs.Folds.{folded}
use Rattle.acpi_links.specs.Gatherings.{links_found}
use Rattle.acpi_links.specs.Links.{PresentLink, some_left, with_link, link_found, link_if, link_asked}
use Rattle.acpi_links.specs.Presence.{is_present}
use Rattle.acpi_links.specs.Resources.{possible_resources, current_resources}
use Rattle.acpi_links.proofs.Members.{first_or_behind, no_member}
use Rattle.machine_laws.proofs.RunsFound.{before_ok, same_value, FoundSoFar}

module _ {S : Type 0} (accesses : Accesses S) (avoid : List ℕ) where
  -- what a link's own `_PRS` offered in this run
  abbrev pub Offered : PresentLink → Type 0
  Offered link = (asked : MachineState S) × (left : MachineState S) × (possible_resources accesses link.0 asked ≡ (Ok link.1, left))

  abbrev IfOffered : Option PresentLink → Type 0
  IfOffered None = ⊤
  IfOffered (Some link) = Offered link

  found_offered : (p : List Seg) (s t : MachineState S) (found : Option PresentLink) → link_found accesses avoid p s ≡ (Ok found, t) → IfOffered found
  unfolding link_found give
  found_offered p s t found e =
      let offer = before_ok (possible_resources accesses p) _ found s t e in
      let left = before_ok (settle (some_left avoid p offer.0)) _ found offer.1 t offer.3 in
      let now = before_ok (current_resources accesses p) _ found left.1 t left.3 in
      let same : Some (p, offer.0, now.0) ≡ found = same_value _ found now.1 t now.3 in
      subst IfOffered same (s, offer.1, offer.2)

  if_offered : (present : Bool) (p : List Seg) (s t : MachineState S) (found : Option PresentLink) → link_if accesses avoid present p s ≡ (Ok found, t) → IfOffered found
  unfolding link_if give
  if_offered true p s t found e = found_offered p s t found e
  if_offered false p s t found e = let same : None ≡ found = same_value None found s t e in subst IfOffered same tt

  asked_offered : (p : List Seg) (s t : MachineState S) (found : Option PresentLink) → link_asked accesses avoid p s ≡ (Ok found, t) → IfOffered found
  unfolding link_asked
  asked_offered p s t found e = let x = before_ok (is_present accesses p) (λ present. link_if accesses avoid present p) found s t e in if_offered x.0 p x.1 t found x.3

  -- one after another
  each_offered : (named : List (List Seg)) (done links : List PresentLink) (s t : MachineState S) → ((l : PresentLink) → Contains done l → Offered l) → folded with_link (link_asked accesses avoid) named done s ≡ (Ok links, t) → (l : PresentLink) → Contains links l → Offered l
  unfolding folded give
  each_offered [] done links s t so e l c = so l (subst (λ (ls : List PresentLink). Contains ls l) (sym (same_value done links s t e)) c)
  each_offered (p ∷ named) done links s t so e l c =
      let x = before_ok (link_asked accesses avoid p) _ links s t e in
      each_offered named (with_link done x.0) links x.1 t (more x.0 (asked_offered p s x.1 x.0 x.2)) x.3 l c
    where
      more : (o : Option PresentLink) → IfOffered o → (k : PresentLink) → Contains (with_link done o) k → Offered k
      more None h k d = so k d
      more (Some link) h k d = elim (Contains-append_cases done (link ∷ []) k d) [
        | inl i ↦ so k i
        | inr i ↦ elim (first_or_behind link k [] i) [ inl same ↦ subst (Offered) same h | inr none ↦ absurd (no_member k none) ]
      ]

  pub link_offered : (before after : MachineState S) (pins : List (List Seg × Pin)) (links : List PresentLink) → FoundSoFar accesses avoid before after pins links → (l : PresentLink) → Contains links l → Offered l
  unfolding links_found give
  link_offered before after pins links found l c =
      let named = before_ok _ _ links found.between after found.links_are in
      let few = before_ok _ _ links named.1 after named.3 in
      let each = before_ok _ _ links few.1 after few.3 in
      let one = before_ok _ _ links each.1 after each.3 in
      let same : each.0 ≡ links = same_value each.0 links one.1 after one.3 in
      each_offered named.0 [] each.0 few.1 each.1 (λ k d. absurd (no_member k d)) each.2 l (subst (λ (ls : List PresentLink). Contains ls l) (sym same) c)
