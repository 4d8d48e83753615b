-- What a report claims: the answer to its problem, and rightly so.
use Rattle.std.proofs.Common.{◌≡◌, ◌∙◌, ap, sym, subst, refl, ℕ, ◌+◌, ◌<◌, ◌≤◌, Bool, true, List, [], ◌∷◌, Option, length, map, arith, inl, inr}
use Rattle.std.specs.Prelude.{◌⊎◌, ◌==◌, All, count_by, option_to_list, slice_index_or}
use Rattle.std.specs.List.Sorted.{IsStrictlyIncreasing, IsStrictlySortedBy}
use Rattle.std.proofs.lemmas.List.{length-map}
use Rattle.aml_path.specs.declared.segment.Seg.{Seg}
use Rattle.aml_path.specs.Paths.{path_cmp}
use Rattle.acpi_machine.specs.MachineStates.{MachineState}
use Rattle.acpi_links.specs.Gatherings.{Gathering}
use Rattle.acpi_links.specs.Links.{PresentLink}
use Rattle.acpi_links.specs.Problems.{pin_counts, offering, problem_of}
use Rattle.acpi_links.specs.Wiring.{is_wired_to}
use Rattle.acpi_prt.specs.declared.pin.Pin.{Pin}
use Rattle.acpi_resources.specs.Numbers.{set_of}
use Rattle.route_model.specs.Avoided.{is_avoided, without}
use Rattle.route_model.specs.Bound.{IsLowerBound}
use Rattle.route_model.specs.Links.{OfferingLink, offers_of, paths_of}
use Rattle.route_model.specs.Routing.{busiest, wired_to, IsAssignment}
use Rattle.route_solve.specs.Fits.{Fits}
use Rattle.route_solve.specs.Problems.{RoutingProblem, RoutingAnswer}
use Rattle.route_solve.specs.Shown.{Shown, Idle, Wired, Crowded}
use Rattle.route_check.specs.Claimed.{gives_of, paths_at, bound_for, claim_of}
use Rattle.route_check.specs.Claims.{RoutingClaim}
use Rattle.route_check.specs.Shared.{IsClaimShared, Holds}
use Rattle.route_check.specs.Valid.{Valid, choice_of, effective_offers, effective_counts, sci_counts}
use Rattle.route_check.proofs.Claimed.{choice_given}
use Rattle.route_report.specs.Ordered.{barred_by, claim_in_order, IsInOrder}
use Rattle.route_report.specs.Readable.{IsReadable, IsReadableOffer, claim_of_report, link_of, rule_by, spared_by, spared_devices}
use Rattle.route_report.specs.Reports.{ReportedOptions, RoutingReport, is_spread}
use Rattle.route_spread.specs.Sharing.{IsLeastShared}
use Rattle.acpi_configure.specs.Lines.{row_of, whole_offer}
use Rattle.acpi_configure.specs.Configured.{report_of}
use Rattle.acpi_configure.specs.WithOptions.{with_options}
use Rattle.acpi_configure.proofs.Barring.{barred_up, same_without}
use Rattle.acpi_configure.proofs.Fitting.{Fitting}
use Rattle.acpi_configure.proofs.Placed.{placed, chosen_for_each}
use Rattle.acpi_configure.proofs.Sources.{beside, sci_counted, same_busiest, same_bound, same_sharing}

abbrev pub Bounded : RoutingProblem → RoutingAnswer → Type 0
Bounded p a = (a.busiest ≡ 0) ⊎ IsLowerBound (offers_of p.links) p.wired a.busiest a.links a.interrupts

-- the law of claims, as `route_check` has it
abbrev pub LawOfClaims : Type 0
LawOfClaims = (links : List OfferingLink) (wired : List (ℕ × ℕ)) (sci : Option ℕ) (avoid choice : List ℕ) (k : ℕ) (places interrupts : List ℕ)
    → let claim = claim_of links wired sci avoid choice k places interrupts in
    let offers = map (effective_offers claim) links in
    let counts = effective_counts claim in
    IsStrictlySortedBy path_cmp (paths_of links) → IsStrictlyIncreasing (map (λ w. w.0) wired) → IsAssignment offers choice → busiest counts choice ≡ k
    → (k ≡ 0) ⊎ IsLowerBound offers counts k places interrupts → Valid claim

-- the laws of claims in order, as `route_report` has them
abbrev pub LawOfOrder : Type 0
LawOfOrder = (links : List OfferingLink) (wired : List (ℕ × ℕ)) (sci : Option ℕ) (avoid choice : List ℕ) (k : ℕ) (places interrupts : List ℕ) → IsStrictlyIncreasing avoid → IsStrictlySortedBy path_cmp (paths_of links)
    → IsStrictlyIncreasing (map (λ w. w.0) wired) → IsStrictlyIncreasing places → All (λ l. l < length links) places → IsStrictlyIncreasing interrupts → IsInOrder (claim_of links wired sci avoid choice k places interrupts)

abbrev pub LawOfStays : Type 0
LawOfStays = (claim : RoutingClaim) → IsInOrder claim → claim_in_order claim ≡ claim

-- the laws of counts, as `acpi_links` has them
abbrev pub LawOfPins : Type 0
LawOfPins = (pins : List (List Seg × Pin)) (interrupt : ℕ) → wired_to (pin_counts pins) interrupt ≡ count_by (λ pin. is_wired_to interrupt pin.1.route) pins

abbrev pub LawOfSources : Type 0
LawOfSources = (avoid : List ℕ) (sci : Option ℕ) (links : List PresentLink) (pins : List (List Seg × Pin)) (interrupt : ℕ)
    → wired_to (problem_of avoid sci links pins).wired interrupt ≡ count_by (λ pin. is_wired_to interrupt pin.1.route) pins + count_by (λ n. n == interrupt) (option_to_list sci)

abbrev pub LawOfAscent : Type 0
LawOfAscent = (pins : List (List Seg × Pin)) → IsStrictlyIncreasing (map (λ w. w.0) (pin_counts pins))

abbrev pub LawOfSets : Type 0
LawOfSets = (numbers : List ℕ) → IsStrictlyIncreasing (set_of numbers)

pub record Laws : Type 0 where
  pub claims : LawOfClaims
  pub order : LawOfOrder
  pub stays : LawOfStays
  pub pins : LawOfPins
  pub sources : LawOfSources
  pub ascent : LawOfAscent
  pub sets : LawOfSets

set_in_order : {offers : List (List ℕ)} {wired : List (ℕ × ℕ)} {k : ℕ} {links interrupts : List ℕ} → Shown offers wired k links interrupts → IsStrictlyIncreasing links × IsStrictlyIncreasing interrupts
set_in_order Idle = ((λ k l. absurd (omega arith)), (λ k l. absurd (omega arith)))
set_in_order (Wired a b c) = ((λ k l. absurd (omega arith)), (λ k l. absurd (omega arith)))
set_in_order (Crowded k h s) = (s.links_ascend, s.interrupts_ascend)

-- ---- links with all that they offer, and with what is left

links_again : (links : List PresentLink) → map link_of (map row_of links) ≡ map whole_offer links
links_again [] = refl
links_again (l ∷ ls) = ap (λ rest. whole_offer l ∷ rest) (links_again ls)

same_paths : (barred : List ℕ) (links : List PresentLink) → paths_of (map (offering barred) links) ≡ paths_of (map whole_offer links)
same_paths barred [] = refl
same_paths barred (l ∷ ls) = ap (λ rest. l.0 ∷ rest) (same_paths barred ls)

same_gives : (barred : List ℕ) (links : List PresentLink) (ns : List ℕ) → gives_of (map (offering barred) links) ns ≡ gives_of (map whole_offer links) ns
same_gives barred [] ns = refl
same_gives barred (l ∷ ls) [] = refl
same_gives barred (l ∷ ls) (n ∷ ns) = ap (λ rest. (l.0, n) ∷ rest) (same_gives barred ls ns)

-- a claim that says of the sharing what it wants is as valid as another
valid_said : (c : RoutingClaim) (said : Bool) → Valid c → Valid (record c { spread = said })
valid_said c said v = record {
  none_repeated = record { links = v.none_repeated.links; gives = v.none_repeated.gives; wired = v.none_repeated.wired; set = v.none_repeated.set; interrupts = v.none_repeated.interrupts };
  none_missing = record { given = v.none_missing.given; known = v.none_missing.known; set_known = v.none_missing.set_known };
  all_offered = v.all_offered;
  busiest_right = v.busiest_right;
  bound = v.bound;
}

in_order_said : (c : RoutingClaim) (said : Bool) → IsInOrder c → IsInOrder (record c { spread = said })
in_order_said c said h = record { links = h.links; wired = h.wired; avoid = h.avoid; gives = h.gives; set = h.set; interrupts = h.interrupts }

-- what is claimed of an answer to what was gathered, where these interrupts are barred, and with what is said of the sharing
abbrev claim_by : Option ℕ → List ℕ → Bool → Gathering → RoutingAnswer → RoutingClaim
claim_by sci bar said g a = record (claim_of (map whole_offer g.links) (pin_counts g.pins) sci bar a.choice a.busiest a.links a.interrupts) { spread = said }

module _ (bar barred : List ℕ) (alike : (n : ℕ) → is_avoided bar n ≡ is_avoided barred n) where
  same_offers : (links : List PresentLink) → offers_of (map (offering barred) links) ≡ map (λ (l : OfferingLink). without bar l.offers) (map whole_offer links)
  same_offers [] = refl
  same_offers (l ∷ ls) = rw (same_without bar barred alike l.1.numbers) (ap (λ rest. without barred l.1.numbers ∷ rest) (same_offers ls))

-- avoid: the interrupts to avoid; o: what options add to the report; barred: the interrupts that no link offers in the problem
module _ {S : Type 0} (after : MachineState S) (sci : Option ℕ) (avoid barred : List ℕ) (o : Option ReportedOptions) (g : Gathering) (a : RoutingAnswer) (posed : g.problem ≡ problem_of barred sci g.links g.pins)
    (alike : (n : ℕ) → is_avoided (barred_by (set_of avoid) (spared_by o)) n ≡ is_avoided barred n) where
  abbrev bar : List ℕ
  bar = barred_by (set_of avoid) (spared_by o)

  abbrev said : Bool
  said = is_spread (rule_by o)

  abbrev the_report : RoutingReport
  the_report = with_options (report_of after sci avoid g a) o

  abbrev the_claim : RoutingClaim
  the_claim = claim_by sci bar said g a

  posed_links : g.problem.links ≡ map (offering barred) g.links
  unfolding problem_of
  posed_links = ap (λ (p : RoutingProblem). p.links) posed

  as_long : length g.problem.links ≡ length (map whole_offer g.links)
  as_long = ap (λ (ls : List OfferingLink). length ls) posed_links ∙ (length-map g.links (offering barred) ∙ sym (length-map g.links whole_offer))

  paths_alike : paths_of g.problem.links ≡ paths_of (map whole_offer g.links)
  paths_alike = ap paths_of posed_links ∙ same_paths barred g.links

  gives_alike : gives_of g.problem.links a.choice ≡ gives_of (map whole_offer g.links) a.choice
  gives_alike = ap (λ ls. gives_of ls a.choice) posed_links ∙ same_gives barred g.links a.choice

  places_alike : paths_at g.problem.links a.links ≡ paths_at (map whole_offer g.links) a.links
  places_alike = ap (λ (ps : List (List Seg)). map (λ (l : ℕ). slice_index_or ps l []) a.links) paths_alike

  offers_alike : offers_of g.problem.links ≡ map (λ (l : OfferingLink). without bar l.offers) (map whole_offer g.links)
  offers_alike = ap offers_of posed_links ∙ same_offers bar barred alike g.links

  -- a claim of these links, of what they are given, and of the paths of the set
  claim_with : List OfferingLink → List (List Seg × ℕ) → List (List Seg) → RoutingClaim
  claim_with links gives set = record {
    links = links;
    wired = pin_counts g.pins;
    sci = sci;
    avoid = bar;
    gives = gives;
    busiest = a.busiest;
    bound = bound_for a.busiest (record { links = set; interrupts = a.interrupts });
    spread = said;
  }

  claim_alike : claim_with (map link_of (map row_of g.links)) (gives_of g.problem.links a.choice) (paths_at g.problem.links a.links) ≡ the_claim
  unfolding claim_with
  claim_alike = rw (links_again g.links, gives_alike, places_alike) refl

  module _ (laws : Laws) (fits : Fits g.problem) (s : Fitting g.problem a) where
    paths_in_order : IsStrictlySortedBy path_cmp (paths_of (map whole_offer g.links))
    paths_in_order = subst (IsStrictlySortedBy path_cmp) paths_alike fits.in_order

    answer_stays : claim_in_order the_claim ≡ the_claim
    answer_stays =
        let set = set_in_order s.shown in
        let places = subst (λ k. All (λ l. l < k) a.links) as_long (placed g.problem a s) in
        laws.stays the_claim
        (in_order_said _ said (laws.order (map whole_offer g.links) (pin_counts g.pins) sci bar a.choice a.busiest a.links a.interrupts (barred_up (set_of avoid) o (laws.sets avoid)) paths_in_order (laws.ascent g.pins) set.0 places set.1))

    pub claims_answer : claim_of_report the_report ≡ the_claim
    unfolding claim_with
    claims_answer = ap claim_in_order claim_alike ∙ answer_stays

    counts_alike : (n : ℕ) → wired_to g.problem.wired n ≡ wired_to (effective_counts the_claim) n
    counts_alike n =
        let posed_counts = ap (λ (p : RoutingProblem). wired_to p.wired n) posed in
        let sources = laws.sources barred sci g.links g.pins n in
        let pins = laws.pins g.pins n in
        let both = beside (sci_counts sci) (pin_counts g.pins) n in
        let one = sci_counted sci n in
        omega arith

    bounded : Bounded g.problem a → (a.busiest ≡ 0) ⊎ IsLowerBound (map (effective_offers the_claim) (map whole_offer g.links)) (effective_counts the_claim) a.busiest a.links a.interrupts
    bounded (inl e) = inl e
    bounded (inr b) = inr (subst (λ offers. IsLowerBound offers (effective_counts the_claim) a.busiest a.links a.interrupts) offers_alike (same_bound _ _ _ _ _ _ counts_alike b))

    pub same_links : paths_of (claim_of_report the_report).links ≡ paths_of g.problem.links
    same_links = ap (λ (c : RoutingClaim). paths_of c.links) claims_answer ∙ sym paths_alike

    pub same_offered : map (effective_offers (claim_of_report the_report)) (claim_of_report the_report).links ≡ offers_of g.problem.links
    same_offered = ap (λ (c : RoutingClaim). map (effective_offers c) c.links) claims_answer ∙ sym offers_alike

    pub same_counts : (i : ℕ) → wired_to (effective_counts (claim_of_report the_report)) i ≡ wired_to g.problem.wired i
    same_counts i = ap (λ (c : RoutingClaim). wired_to (effective_counts c) i) claims_answer ∙ sym (counts_alike i)

    claim_valid : Bounded g.problem a → Valid the_claim
    claim_valid bound =
        let busy = same_busiest (effective_counts the_claim) g.problem.wired a.choice (λ n. sym (counts_alike n)) in
        let offered = subst (λ offers. IsAssignment offers a.choice) offers_alike s.offered in
        valid_said _ said
        (laws.claims (map whole_offer g.links) (pin_counts g.pins) sci bar a.choice a.busiest a.links a.interrupts paths_in_order (laws.ascent g.pins) offered (busy ∙ s.busiest_is) (bounded bound))

    pub is_valid : Bounded g.problem a → Valid (claim_of_report the_report)
    is_valid bound = subst Valid (sym claims_answer) (claim_valid bound)

    -- links share as little as they can by the claim as by the problem
    choice_said : Valid the_claim → choice_of (map whole_offer g.links) (gives_of (map whole_offer g.links) a.choice) ≡ a.choice
    choice_said v = choice_given (map whole_offer g.links) a.choice v.none_repeated.links (sym (chosen_for_each g.problem a s ∙ as_long))

    claim_shared : Valid the_claim → IsLeastShared (offers_of g.problem.links) g.problem.wired a.choice → IsClaimShared the_claim
    claim_shared v h =
        subst (λ choice. IsLeastShared (map (effective_offers the_claim) (map whole_offer g.links)) (effective_counts the_claim) choice) (sym (choice_said v))
        (subst (λ offers. IsLeastShared offers (effective_counts the_claim) a.choice) offers_alike (same_sharing _ _ _ _ counts_alike h))

    claim_holds : Bounded g.problem a → (said ≡ true → IsLeastShared (offers_of g.problem.links) g.problem.wired a.choice) → Holds the_claim
    claim_holds bound shared = let v = claim_valid bound in record { valid = v; shared = λ e. claim_shared v (shared e) }

    pub it_holds : Bounded g.problem a → (said ≡ true → IsLeastShared (offers_of g.problem.links) g.problem.wired a.choice) → Holds (claim_of_report the_report)
    it_holds bound shared = subst Holds (sym claims_answer) (claim_holds bound shared)

  module _ (laws : Laws) (fits : Fits g.problem) where
    few_links : length (map row_of g.links) ≤ 256
    few_links =
        let h = fits.few in
        let e = as_long in
        let f = length-map g.links whole_offer in
        let m = length-map g.links row_of in
        omega arith

    pub is_readable : length (pin_counts g.pins) ≤ 4096 → All (λ l. IsReadableOffer l.offers) (map row_of g.links) → All (λ s. 0 < length s.interrupts) (spared_devices o) → IsReadable the_report
    is_readable few offers spared = record { few_links = few_links; few_wired = few; offers = offers; avoid = laws.sets avoid; spared = spared }
