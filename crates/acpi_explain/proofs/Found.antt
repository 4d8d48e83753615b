-- Gathering that is made again: what halts it, and what comes of it where nothing does.
use Rattle.std.proofs.Common.{◌≡◌, ◌∙◌, refl, sym, subst, inl, inr}
use Rattle.std.specs.Prelude.{ℕ, ◌+◌, Result, IfOk, IfErr, Bool, true, false, List, [], ◌++◌, length, nat_lt, Option, Ok, Err, codes, option_to_list, if◌then◌else◌}
use Rattle.ar_space.specs.Accesses.{Accesses}
use Rattle.ar_space.specs.Change.{Change, Does, give, settle, go_on, ◌>>=◌}
use Rattle.ar_space.specs.Outcome.{Outcome}
use Rattle.ar_space.specs.declared.refusal.Refusal.{Refusal}
use Rattle.ar_space.specs.declared.refusal.Refusal.TheVariants as refusal
use Rattle.ar_space.specs.declared.refusal.RoutingFault.TheVariants.{Avoided, MixedPolarity, TooMany}
use Rattle.acpi_explain.specs.Refused.{AreAnswered, IsAsked, IsFirstRefused}
use Rattle.acpi_explain.specs.Stages.{IsOfLink, IsOfNoObject, IsRefusedAt, IsStage}
use Rattle.acpi_explain.specs.Halting.{IsHalted, IsHaltBy, IsHaltOf, IsNamed, IsUnread, IsInLink, IsInLinks, IsTogether}
use Rattle.acpi_explain.proofs.Answered.{fold_answered, fold_refused}
use Rattle.aml_path.specs.declared.segment.Seg.{Seg}
use Rattle.acpi_machine.specs.MachineStates.{MachineState, sci_of}
use Rattle.acpi_prt.specs.declared.pin.Pin.{Pin}
use Rattle.acpi_prt.specs.Children.{child_named}
use Rattle.acpi_resources.specs.Records.{InterruptOffer}
use Rattle.acpi_links.specs.Links.{PresentLink, mixed, few_links, few_pins, link_asked, link_found, link_if, links_named, links_of_each, one_polarity, some_left, with_link}
use Rattle.acpi_links.specs.Gatherings.{Gathering, gathered, gathering, links_found, pins_found, sci_shown}
use Rattle.acpi_links.specs.Devices.{devices, devices_listed, pins_of_device, pins_of_each}
use Rattle.acpi_links.specs.Presence.{is_present}
use Rattle.acpi_links.specs.Resources.{possible_resources, current_resources}
use Rattle.acpi_links.specs.Stops.{offer_asked}
use Rattle.acpi_explain.specs.declared.stage.Stage.{Stage}
use Rattle.acpi_explain.specs.declared.stage.Stage.TheVariants.{Loading, Calling, RoutingTable, Reading, Setting, ReadingAgain, Gathering as Together}
use Rattle.acpi_explain.specs.declared.halt.Halt.{Halt}
use Rattle.acpi_explain.specs.declared.halt.Halt.TheVariants.{Memory, At}
use Rattle.aml_path.specs.Text.{text_of}
use Rattle.route_model.specs.Avoided.{are_all_avoided}

-- ---- what has no object

refused_only : (b : Bool) (x e : Refusal) → (if b then Err x else Ok (tt {0})) ≡ Err e → e ≡ x
refused_only true x e h = cc h
refused_only false x e h = absurd (cc h)

pub pins_only : (sci : Option ℕ) (pins : List (List Seg × Pin)) (e : Refusal) → few_pins sci pins ≡ Err e → IsOfNoObject {A = Gathering} (Err e)
pins_only sci pins e h = inl (refused_only (nat_lt 4096 (length pins + length (option_to_list sci))) (refusal.Routing TooMany) e h)

pub links_only : (links : List (List Seg)) (e : Refusal) → few_links links ≡ Err e → IsOfNoObject {A = Gathering} (Err e)
links_only links e h = inl (refused_only (nat_lt 256 (length links)) (refusal.Routing TooMany) e h)

pub left_only : (avoid : List ℕ) (link : List Seg) (offer : InterruptOffer) (e : Refusal) → some_left avoid link offer ≡ Err e → IsOfNoObject {A = Gathering} (Err e)
left_only avoid link offer e h = inr (inl (text_of link, refused_only (are_all_avoided avoid offer.numbers) (refusal.Routing (Avoided (text_of link))) e h))

polarity_only : (links : List PresentLink) (e : Refusal) → one_polarity links ≡ Err e → IsOfNoObject {A = Gathering} (Err e)
polarity_only links e h = inr (inr (refused_only (mixed links) (refusal.Routing MixedPolarity) e h))

-- ---- halts

-- a refusal that is told
pub halted_by : {S A : Type 0} (m : Change S A) (IsIt : Stage → Type 0) (before after : S) (e : Refusal) (halt : Halt) → Does {A = A} (Err e) after m before → IsHaltBy e IsIt halt → IsHalted m (λ stage s x. IsIt stage) before after halt
halted_by m IsIt before after e Memory d h = tt
halted_by m IsIt before after e (At stage) d h = (e, d.is h.0, h.1)

named_at : (link : List Seg) (name : List ℕ) (stage : Stage) → IsNamed link name stage → (p : List Seg) × (stage ≡ Reading p) × (child_named link name ≡ Ok p)
named_at link name (Loading n) h = absurd h
named_at link name (Calling p) h = absurd h
named_at link name (RoutingTable p) h = absurd h
named_at link name (Reading p) h = (p, refl, h)
named_at link name (Setting p) h = absurd h
named_at link name (ReadingAgain p) h = absurd h
named_at link name Together h = absurd h

module _ {S : Type 0} (accesses : Accesses S) where
  -- ---- routing tables

  pub unread_in : (list : List (List Seg)) (device : List Seg) (n : ℕ) (before after here : MachineState S) (halt : Halt) → IsHalted (pins_of_device accesses device) (λ stage s e. stage ≡ RoutingTable device) here after halt
      → ((e : Refusal) → pins_of_device accesses device here ≡ (Err e, after) → IsFirstRefused (pins_of_device accesses) list n device before after e)
      → IsHalted (pins_of_each accesses list) (IsUnread accesses list before) before after halt
  unread_in list device n before after here Memory h first = tt
  unread_in list device n before after here (At stage) h first =
      let f = first h.0 h.1 in
      (h.0, fold_refused (pins_of_device accesses) ◌++◌ list n device [] before after h.0 f, subst (λ x. IsUnread accesses list before x after h.0) (sym h.2) (n, f))

  -- ---- links; avoid: the interrupts that no link is to be given

  module _ (avoid : List ℕ) where
    is_asked : (link : List Seg) (before there : MachineState S) → is_present accesses link before ≡ (Ok true, there) → link_asked accesses avoid link before ≡ link_found accesses avoid link there
    unfolding link_asked link_if ◌>>=◌ go_on
    is_asked link before there h = rw h refl

    pub status_halted : (link : List Seg) (before after : MachineState S) (halt : Halt) → IsHalted (is_present accesses link) (λ stage s e. IsNamed link (codes "_STA") stage) before after halt
        → IsHalted (link_asked accesses avoid link) (IsInLink accesses avoid link before) before after halt
    unfolding link_asked ◌>>=◌ go_on
    status_halted link before after Memory h = tt
    status_halted link before after (At stage) h =
        let n = named_at link (codes "_STA") stage h.2 in
        (h.0, rw h.1 refl, subst (λ x. IsInLink accesses avoid link before x after h.0) (sym n.1) (inl (record { is_path = n.2; is_refused = h.1 })))

    pub absent : (link : List Seg) (before after : MachineState S) → is_present accesses link before ≡ (Ok false, after) → IsAsked (link_asked accesses avoid link) before after
    unfolding link_asked link_if ◌>>=◌ go_on give
    absent link before after h = rw h (_, refl)

    found_to_offer : (link : List Seg) (there after : MachineState S) (e : Refusal) → possible_resources accesses link there ≡ (Err e, after) → link_found accesses avoid link there ≡ (Err e, after)
    unfolding link_found ◌>>=◌ go_on
    found_to_offer link there after e h = rw h refl

    pub offer_halted : (link : List Seg) (before there after : MachineState S) (halt : Halt) → is_present accesses link before ≡ (Ok true, there)
        → IsHalted (possible_resources accesses link) (λ stage s e. IsNamed link (codes "_PRS") stage) there after halt → IsHalted (link_asked accesses avoid link) (IsInLink accesses avoid link before) before after halt
    offer_halted link before there after Memory is h = tt
    offer_halted link before there after (At stage) is h =
        let n = named_at link (codes "_PRS") stage h.2 in (
          h.0,
          is_asked link before there is ∙ found_to_offer link there after h.0 h.1,
          subst (λ x. IsInLink accesses avoid link before x after h.0) (sym n.1) (inr (inl (record { is_path = n.2; there = there; present = is; is_refused = h.1 }))),
        )

    found_to_left : (link : List Seg) (there after : MachineState S) (offer : InterruptOffer) (e : Refusal) → possible_resources accesses link there ≡ (Ok offer, after) → some_left avoid link offer ≡ Err e → link_found accesses avoid link there ≡ (Err e, after)
    unfolding link_found settle ◌>>=◌ go_on
    found_to_left link there after offer e is h = rw (is, h) refl

    pub left_halted : (link : List Seg) (before there after : MachineState S) (offer : InterruptOffer) (halt : Halt) → is_present accesses link before ≡ (Ok true, there) → possible_resources accesses link there ≡ (Ok offer, after)
        → IsHaltOf (some_left avoid link offer) halt → IsHalted (link_asked accesses avoid link) (IsInLink accesses avoid link before) before after halt
    left_halted link before there after offer Memory is offered h = tt
    left_halted link before there after offer (At stage) is offered h = (
      h.0,
      is_asked link before there is ∙ found_to_left link there after offer h.0 offered h.3,
      subst (λ s. IsInLink accesses avoid link before s after h.0) (sym h.1) (left_only avoid link offer h.0 h.3),
    )

    offer_left : (link : List Seg) (there after : MachineState S) (offer : InterruptOffer) → possible_resources accesses link there ≡ (Ok offer, after) → some_left avoid link offer ≡ Ok tt → offer_asked accesses avoid link there ≡ (Ok tt, after)
    unfolding offer_asked settle ◌>>=◌ go_on
    offer_left link there after offer is h = rw (is, h) refl

    found_to_setting : (link : List Seg) (there middle after : MachineState S) (offer : InterruptOffer) (e : Refusal) → possible_resources accesses link there ≡ (Ok offer, middle) → some_left avoid link offer ≡ Ok tt
        → current_resources accesses link middle ≡ (Err e, after) → link_found accesses avoid link there ≡ (Err e, after)
    unfolding link_found settle ◌>>=◌ go_on
    found_to_setting link there middle after offer e is left h = rw (is, left, h) refl

    pub setting_halted : (link : List Seg) (before there middle after : MachineState S) (offer : InterruptOffer) (halt : Halt) → is_present accesses link before ≡ (Ok true, there) → possible_resources accesses link there ≡ (Ok offer, middle)
        → some_left avoid link offer ≡ Ok tt → IsHalted (current_resources accesses link) (λ stage s e. IsNamed link (codes "_CRS") stage) middle after halt
        → IsHalted (link_asked accesses avoid link) (IsInLink accesses avoid link before) before after halt
    setting_halted link before there middle after offer Memory is offered left h = tt
    setting_halted link before there middle after offer (At stage) is offered left h =
        let n = named_at link (codes "_CRS") stage h.2 in (
          h.0,
          is_asked link before there is ∙ found_to_setting link there middle after offer h.0 offered left h.1,
          subst (λ x. IsInLink accesses avoid link before x after h.0) (sym n.1)
              (inr (inr (record { is_path = n.2; asked = there; present = is; there = middle; offered = offer_left link there middle offer offered left; is_refused = h.1 }))),
        )

    found_whole : (link : List Seg) (there middle after : MachineState S) (offer : InterruptOffer) (now : Option (List ℕ)) → possible_resources accesses link there ≡ (Ok offer, middle) → some_left avoid link offer ≡ Ok tt
        → current_resources accesses link middle ≡ (Ok now, after) → IsAsked (link_found accesses avoid link) there after
    unfolding link_found settle give ◌>>=◌ go_on
    found_whole link there middle after offer now is left h = rw (is, left, h) (_, refl)

    pub present_asked : (link : List Seg) (before there middle after : MachineState S) (offer : InterruptOffer) (now : Option (List ℕ)) → is_present accesses link before ≡ (Ok true, there) → possible_resources accesses link there ≡ (Ok offer, middle)
        → some_left avoid link offer ≡ Ok tt → current_resources accesses link middle ≡ (Ok now, after) → IsAsked (link_asked accesses avoid link) before after
    present_asked link before there middle after offer now is offered left h =
        let f = found_whole link there middle after offer now offered left h in (f.0, is_asked link before there is ∙ f.1)

    -- one of some links halts
    pub link_halted : (list : List (List Seg)) (link : List Seg) (n : ℕ) (before here after : MachineState S) (halt : Halt) → IsHalted (link_asked accesses avoid link) (IsInLink accesses avoid link here) here after halt
        → ((e : Refusal) → link_asked accesses avoid link here ≡ (Err e, after) → (f : IsFirstRefused (link_asked accesses avoid) list n link before after e) × (f.there ≡ here))
        → IsHalted (links_of_each accesses avoid list) (IsInLinks accesses avoid list before) before after halt
    link_halted list link n before here after Memory h first = tt
    link_halted list link n before here after (At stage) h first =
        let f = first h.0 h.1 in
        (h.0, fold_refused (link_asked accesses avoid) with_link list n link [] before after h.0 f.0, go stage h.0 f h.2)
      where
        go : (stage : Stage) (e : Refusal) → (f : IsFirstRefused (link_asked accesses avoid) list n link before after e) × (f.there ≡ here) → IsInLink accesses avoid link here stage after e → IsInLinks accesses avoid list before stage after e
        go (Loading k) e f i = absurd i
        go (Calling p) e f i = absurd i
        go (RoutingTable p) e f i = absurd i
        go (Reading p) e f i = (link, n, f.0, subst (λ s. IsOfLink accesses avoid link p s after e) (sym f.1) i)
        go (Setting p) e f i = absurd i
        go (ReadingAgain p) e f i = absurd i
        go Together e f i = i

    -- ---- all of it

    tables_refused : (before after : MachineState S) (e : Refusal) → pins_of_each accesses (devices before) before ≡ (Err e, after) → gathered accesses avoid before ≡ (Err e, after)
    unfolding gathered sci_shown pins_found devices_listed ◌>>=◌ go_on
    tables_refused before after e h = rw h refl

    pub tables_halted : (before after : MachineState S) (halt : Halt) → IsHalted (pins_of_each accesses (devices before)) (IsUnread accesses (devices before) before) before after halt
        → IsHalted (gathered accesses avoid) (λ stage s e. IsRefusedAt accesses avoid stage before s e) before after halt
    tables_halted before after Memory h = tt
    tables_halted before after (At stage) h = (h.0, tables_refused before after h.0 h.1, go stage h.2)
      where
        go : (stage : Stage) → IsUnread accesses (devices before) before stage after h.0 → IsRefusedAt accesses avoid stage before after h.0
        go (Loading k) i = absurd i
        go (Calling p) i = absurd i
        go (RoutingTable p) i = i
        go (Reading p) i = absurd i
        go (Setting p) i = absurd i
        go (ReadingAgain p) i = absurd i
        go Together i = absurd i

    pins_refused : (before after : MachineState S) (pins : List (List Seg × Pin)) (e : Refusal) → pins_of_each accesses (devices before) before ≡ (Ok pins, after) → few_pins (sci_of before) pins ≡ Err e → gathered accesses avoid before ≡ (Err e, after)
    unfolding gathered sci_shown pins_found devices_listed settle ◌>>=◌ go_on
    pins_refused before after pins e h few = rw (h, few) refl

    pub pins_halted : (before after : MachineState S) (pins : List (List Seg × Pin)) (halt : Halt) → pins_of_each accesses (devices before) before ≡ (Ok pins, after) → IsHaltOf (few_pins (sci_of before) pins) halt
        → IsHalted (gathered accesses avoid) (λ stage s e. IsRefusedAt accesses avoid stage before s e) before after halt
    pins_halted before after pins Memory is h = tt
    pins_halted before after pins (At stage) is h =
        let few : few_pins (sci_of before) pins ≡ Err h.0 = h.3 in
        (h.0, pins_refused before after pins h.0 is few, subst (λ s. IsRefusedAt accesses avoid s before after h.0) (sym h.1) (pins_only (sci_of before) pins h.0 few))

    pub pins_are_found : (before after : MachineState S) (pins : List (List Seg × Pin)) → pins_of_each accesses (devices before) before ≡ (Ok pins, after) → few_pins (sci_of before) pins ≡ Ok tt → pins_found accesses (sci_of before) before ≡ (Ok pins, after)
    unfolding pins_found devices_listed settle give ◌>>=◌ go_on
    pins_are_found before after pins h few = rw (h, few) refl

    links_refused : (before middle after : MachineState S) (pins : List (List Seg × Pin)) (e : Refusal) → pins_found accesses (sci_of before) before ≡ (Ok pins, middle) → links_found accesses avoid pins middle ≡ (Err e, after) → gathered accesses avoid before ≡ (Err e, after)
    unfolding gathered sci_shown ◌>>=◌ go_on
    links_refused before middle after pins e is h = rw (is, h) refl

    many_links : (here : MachineState S) (pins : List (List Seg × Pin)) (e : Refusal) → few_links (links_named pins) ≡ Err e → links_found accesses avoid pins here ≡ (Err e, here)
    unfolding links_found settle give ◌>>=◌ go_on
    many_links here pins e h = rw h refl

    pub many_halted : (before after : MachineState S) (pins : List (List Seg × Pin)) (halt : Halt) → pins_found accesses (sci_of before) before ≡ (Ok pins, after) → IsHaltOf (few_links (links_named pins)) halt
        → IsHalted (gathered accesses avoid) (λ stage s e. IsRefusedAt accesses avoid stage before s e) before after halt
    many_halted before after pins Memory is h = tt
    many_halted before after pins (At stage) is h =
        let few : few_links (links_named pins) ≡ Err h.0 = h.3 in
        (h.0, links_refused before after after pins h.0 is (many_links after pins h.0 few), subst (λ s. IsRefusedAt accesses avoid s before after h.0) (sym h.1) (links_only (links_named pins) h.0 few))

    each_refused : (here after : MachineState S) (pins : List (List Seg × Pin)) (e : Refusal) → few_links (links_named pins) ≡ Ok tt → links_of_each accesses avoid (links_named pins) here ≡ (Err e, after) → links_found accesses avoid pins here ≡ (Err e, after)
    unfolding links_found settle give ◌>>=◌ go_on
    each_refused here after pins e few h = rw (few, h) refl

    pub links_halted : (before middle after : MachineState S) (pins : List (List Seg × Pin)) (halt : Halt) → pins_found accesses (sci_of before) before ≡ (Ok pins, middle) → few_links (links_named pins) ≡ Ok tt
        → IsHalted (links_of_each accesses avoid (links_named pins)) (IsInLinks accesses avoid (links_named pins) middle) middle after halt
        → IsHalted (gathered accesses avoid) (λ stage s e. IsRefusedAt accesses avoid stage before s e) before after halt
    links_halted before middle after pins Memory is few h = tt
    links_halted before middle after pins (At stage) is few h = (h.0, links_refused before middle after pins h.0 is (each_refused middle after pins h.0 few h.1), go stage h.2)
      where
        go : (stage : Stage) → IsInLinks accesses avoid (links_named pins) middle stage after h.0 → IsRefusedAt accesses avoid stage before after h.0
        go (Loading k) i = absurd i
        go (Calling p) i = absurd i
        go (RoutingTable p) i = absurd i
        go (Reading p) i = record { pins = pins; asked = middle; are_found = is; few = few; link = i.0; number = i.1; is_first = i.2; is_object = i.3 }
        go (Setting p) i = absurd i
        go (ReadingAgain p) i = absurd i
        go Together i = i

    links_put : (before middle after : MachineState S) (pins : List (List Seg × Pin)) (links : List PresentLink) (x : Outcome (Unit {0})) → pins_found accesses (sci_of before) before ≡ (Ok pins, middle) → few_links (links_named pins) ≡ Ok tt
        → links_of_each accesses avoid (links_named pins) middle ≡ (Ok links, after) → one_polarity links ≡ x → IsTogether accesses avoid before
    unfolding gathered sci_shown links_found settle give ◌>>=◌ go_on
    links_put before middle after pins links (Ok u) is few h one = (Ok (gathering avoid (sci_of before) pins links), after, rw (is, few, h, one) refl, tt)
    links_put before middle after pins links (Err e) is few h one = (Err e, after, rw (is, few, h, one) refl, polarity_only links e one)

    pub links_answered : (before middle after : MachineState S) (pins : List (List Seg × Pin)) → pins_found accesses (sci_of before) before ≡ (Ok pins, middle) → few_links (links_named pins) ≡ Ok tt
        → AreAnswered (link_asked accesses avoid) (links_named pins) middle after → IsTogether accesses avoid before
    links_answered before middle after pins is few h =
        let r = fold_answered (link_asked accesses avoid) with_link (links_named pins) [] middle after h in links_put before middle after pins r.0 (one_polarity r.0) is few r.1 refl

    -- the stage that is told
    pub stage_told : (before after : MachineState S) (stage : Stage) → IsHalted (gathered accesses avoid) (λ st s e. IsRefusedAt accesses avoid st before s e) before after (At stage) → IsStage accesses avoid before stage
    stage_told before after stage h = inl (h.0, record { after = after; is_stage = h.2; is_run = h.1 })

    pub together_told : (before : MachineState S) → IsTogether accesses avoid before → IsStage accesses avoid before Together
    together_told before h = go h.0 h.1 h.2 h.3
      where
        go : (r : Outcome Gathering) (after : MachineState S) → gathered accesses avoid before ≡ (r, after) → IsOfNoObject r → IsStage accesses avoid before Together
        go (Ok g) after is i = inr (record { is_stage = refl; found = g; after = after; is_run = is })
        go (Err e) after is i = inl (e, record { after = after; is_stage = i; is_run = is })

    pub all_asked : (before middle after : MachineState S) (pins : List (List Seg × Pin)) (list : List (List Seg)) (r : Result (Unit {0}) Halt) → pins_found accesses (sci_of before) before ≡ (Ok pins, middle) → few_links (links_named pins) ≡ Ok tt → list ≡ links_named pins
        → IfOk r (λ _. AreAnswered (link_asked accesses avoid) list middle after) → IfOk r (λ _. IsTogether accesses avoid before)
    all_asked before middle after pins list (Ok u) is few same h = links_answered before middle after pins is few (subst (λ xs. AreAnswered (link_asked accesses avoid) xs middle after) same h)
    all_asked before middle after pins list (Err halt) is few same h = tt

    pub all_halted : (before middle after : MachineState S) (pins : List (List Seg × Pin)) (list : List (List Seg)) (r : Result (Unit {0}) Halt) → pins_found accesses (sci_of before) before ≡ (Ok pins, middle) → few_links (links_named pins) ≡ Ok tt → list ≡ links_named pins
        → IfErr r (IsHalted (links_of_each accesses avoid list) (IsInLinks accesses avoid list middle) middle after)
        → IfErr r (IsHalted (gathered accesses avoid) (λ stage s e. IsRefusedAt accesses avoid stage before s e) before after)
    all_halted before middle after pins list (Ok u) is few same h = tt
    all_halted before middle after pins list (Err halt) is few same h =
        links_halted before middle after pins halt is few (subst (λ xs. IsHalted (links_of_each accesses avoid xs) (IsInLinks accesses avoid xs middle) middle after halt) same h)

    pub stage_handed : {E : Type 0} (before after : MachineState S) (halt : Halt) (r : Result Stage E) → IfOk r (λ stage. halt ≡ At stage) → IsHalted (gathered accesses avoid) (λ st s e. IsRefusedAt accesses avoid st before s e) before after halt
        → IfOk r (IsStage accesses avoid before)
    stage_handed before after halt (Ok stage) same h = stage_told before after stage (subst (λ x. IsHalted (gathered accesses avoid) (λ st s e. IsRefusedAt accesses avoid st before s e) before after x) same h)
    stage_handed before after halt (Err e) same h = tt
