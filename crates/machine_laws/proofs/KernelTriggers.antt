-- How the interrupts of a report are triggered, and that each of its sources has one line that tells so.
use Rattle.std.specs.Prelude.{◌≡◌, ◌+◌, ◌*◌, ◌/◌, ◌%◌, ◌==◌, ℕ, List, [], ◌∷◌, ◌++◌, map, Bool, true, false, Option, Some, None, option_to_list, Contains, refl, if◌then◌else◌}
use Rattle.std.specs.List.{filter_map}
use Rattle.std.proofs.Common.{inl, inr, ap, sym, subst, ◌∙◌, arith}
use Rattle.std.proofs.lemmas.Bool.{eqb-true, eqb-false}
use Rattle.std.proofs.lemmas.List.{map-append}
use Rattle.std.proofs.lemmas.Nat.{div-mul-add, mod-mul-add}
use Rattle.std.proofs.lemmas.List.Elements.{Contains-append_cases}
use Rattle.ar_tables.specs.declared.madt.MadtEntry.{MadtEntry}
use Rattle.ar_tables.specs.declared.madt.MadtEntry.TheVariants.{IoApic, SourceOverride}
use Rattle.ar_tables.specs.declared.mode.Mode.{Mode}
use Rattle.ar_tables.specs.declared.mode.Mode.TheVariants.{Pic, Apic}
use Rattle.aml_path.specs.declared.segment.Seg.{Seg}
use Rattle.acpi_resources.specs.declared.form.Polarity.TheVariants.{High, Low}
use Rattle.acpi_machine.specs.MachineStates.{MachineState}
use Rattle.acpi_configure.specs.Lines.{override_of, entries_of, overrides_of}
use Rattle.acpi_configure.specs.Triggers.{polarity_by, trigger_by, triggered_by, flags_to, flags_of, overrides_used, link_trigger, wired_trigger, sci_trigger, triggers_with, triggers_of}
use Rattle.route_report.specs.declared.report.BusLine.{BusLine}
use Rattle.route_report.specs.declared.report.InterruptSource.{InterruptSource}
use Rattle.route_report.specs.declared.report.InterruptSource.TheVariants as source
use Rattle.route_report.specs.declared.report.OverrideLine.{OverrideLine}
use Rattle.route_report.specs.declared.report.Trigger.TheVariants.{Edge, Level}
use Rattle.route_report.specs.declared.report.TriggerLine.{TriggerLine}
use Rattle.route_report.specs.ForKernels.{kernel_options}
use Rattle.route_report.specs.Readable.{triggers_told, buses_told}
use Rattle.route_report.specs.Reports.{ReportedLink, ReportedOptions, RoutingReport}
use Rattle.machine_laws.specs.KernelLines.{sources_in, madt_entries, IsOverrideTo, IsOverrideOf, Governs, by_controllers, by_default, by_override, HasFields, IsTriggeredBy, Follows}
use Rattle.machine_laws.proofs.OneOfList.{Apart, apart_append, mapped_from, mapped_has}
use Rattle.acpi_links.proofs.Members.{first, behind, first_or_behind, no_member}

-- ---- lines behind a report

pub triggers_behind : (o : Option ReportedOptions) (ts : List TriggerLine) (bs : List BusLine) → triggers_told (Some (kernel_options o ts bs)) ≡ ts
triggers_behind None ts bs = refl
triggers_behind (Some o) ts bs = refl

pub buses_behind : (o : Option ReportedOptions) (ts : List TriggerLine) (bs : List BusLine) → buses_told (Some (kernel_options o ts bs)) ≡ bs
buses_behind None ts bs = refl
buses_behind (Some o) ts bs = refl

-- ---- the sources of the lines

abbrev of_source : TriggerLine → InterruptSource
of_source line = line.source

of_links : (links : List ReportedLink) → map of_source (map link_trigger links) ≡ map (λ (l : ReportedLink). source.Link l.path) links
of_links [] = refl
of_links (l ∷ ls) = ap (λ s. source.Link l.path ∷ s) (of_links ls)

of_wired : (overrides : List OverrideLine) (wired : List (ℕ × ℕ)) → map of_source (map (wired_trigger overrides) wired) ≡ map (λ (w : ℕ × ℕ). source.Wired w.0) wired
of_wired overrides [] = refl
of_wired overrides (w ∷ ws) = ap (λ s. source.Wired w.0 ∷ s) (of_wired overrides ws)

of_sci : (overrides : List OverrideLine) (own : ℕ) (sci : Option ℕ) → map of_source (sci_trigger overrides own sci) ≡ map source.Sci (option_to_list sci)
of_sci overrides own None = refl
of_sci overrides own (Some n) = refl

in_order : (overrides : List OverrideLine) (own : ℕ) (r : RoutingReport) → map of_source (triggers_with overrides own r) ≡ sources_in r
in_order overrides own r =
    map-append of_source (map link_trigger r.links) (map (wired_trigger overrides) r.wired ++ sci_trigger overrides own r.sci)
    ∙ (ap (λ s. s ++ map of_source (map (wired_trigger overrides) r.wired ++ sci_trigger overrides own r.sci)) (of_links r.links)
    ∙ (ap (λ s. map (λ (l : ReportedLink). source.Link l.path) r.links ++ s) (map-append of_source (map (wired_trigger overrides) r.wired) (sci_trigger overrides own r.sci))
    ∙ (ap (λ s. map (λ (l : ReportedLink). source.Link l.path) r.links ++ (s ++ map of_source (sci_trigger overrides own r.sci))) (of_wired overrides r.wired)
    ∙ ap (λ s. map (λ (l : ReportedLink). source.Link l.path) r.links ++ (map (λ (w : ℕ × ℕ). source.Wired w.0) r.wired ++ s)) (of_sci overrides own r.sci))))

pub sources_in_order : (own : ℕ) (r : RoutingReport) → map of_source (triggers_of own r) ≡ sources_in r
unfolding triggers_of
sources_in_order own r = in_order (overrides_used r.mode r.overrides) own r

-- no two sources are the same where the links' paths are apart, and the wired interrupts
pub sources_apart : (r : RoutingReport) → Apart (map (λ (l : ReportedLink). l.path) r.links) → Apart (map (λ (w : ℕ × ℕ). w.0) r.wired) → Apart (sources_in r)
sources_apart r links wired =
    apart_append (map (λ (l : ReportedLink). source.Link l.path) r.links) (map (λ (w : ℕ × ℕ). source.Wired w.0) r.wired ++ map source.Sci (option_to_list r.sci))
    (both r.links links)
    (apart_append (map (λ (w : ℕ × ℕ). source.Wired w.0) r.wired) (map source.Sci (option_to_list r.sci)) (each r.wired wired) (alone r.sci) other_sci)
    other
  where
    both : (ls : List ReportedLink) → Apart (map (λ (l : ReportedLink). l.path) ls) → Apart (map (λ (l : ReportedLink). source.Link l.path) ls)
    both [] a = tt
    both (l ∷ ls) a = (
      λ y c same. let x = mapped_from (λ (k : ReportedLink). source.Link k.path) ls y c in
          let at : l.path ≡ x.0.path = cc (same, x.2) in a.0 x.0.path (mapped_has (λ (k : ReportedLink). k.path) ls x.0 x.1) at,
      both ls a.1,
    )

    each : (ws : List (ℕ × ℕ)) → Apart (map (λ (w : ℕ × ℕ). w.0) ws) → Apart (map (λ (w : ℕ × ℕ). source.Wired w.0) ws)
    each [] a = tt
    each (w ∷ ws) a = (
      λ y c same. let x = mapped_from (λ (k : ℕ × ℕ). source.Wired k.0) ws y c in
          let at : w.0 ≡ x.0.0 = cc (same, x.2) in a.0 x.0.0 (mapped_has (λ (k : ℕ × ℕ). k.0) ws x.0 x.1) at,
      each ws a.1,
    )

    alone : (sci : Option ℕ) → Apart (map source.Sci (option_to_list sci))
    alone None = tt
    alone (Some n) = (λ y c same. no_member y c, tt)

    other_sci : (x y : InterruptSource) → Contains (map (λ (w : ℕ × ℕ). source.Wired w.0) r.wired) x → Contains (map source.Sci (option_to_list r.sci)) y → x ≡ y → ⊥
    other_sci x y c d same =
        let u = mapped_from (λ (w : ℕ × ℕ). source.Wired w.0) r.wired x c in
        let v = mapped_from source.Sci (option_to_list r.sci) y d in
        cc (u.2, v.2, same)

    other : (x y : InterruptSource) → Contains (map (λ (l : ReportedLink). source.Link l.path) r.links) x → Contains (map (λ (w : ℕ × ℕ). source.Wired w.0) r.wired ++ map source.Sci (option_to_list r.sci)) y → x ≡ y → ⊥
    other x y c d same =
        let u = mapped_from (λ (l : ReportedLink). source.Link l.path) r.links x c in
        elim (Contains-append_cases (map (λ (w : ℕ × ℕ). source.Wired w.0) r.wired) (map source.Sci (option_to_list r.sci)) y d) [
          | inl e ↦ let v = mapped_from (λ (w : ℕ × ℕ). source.Wired w.0) r.wired y e in cc (u.2, v.2, same)
          | inr e ↦ let v = mapped_from source.Sci (option_to_list r.sci) y e in cc (u.2, v.2, same)
        ]

-- ---- the flags that govern an interrupt

abbrev flags_or_none : Option ℕ → ℕ
flags_or_none None = 0
flags_or_none (Some flags) = flags

differ : (n : ℕ) → (n == n) ≡ false → ⊥
differ n e = eqb-false n n e refl

same_entries : (madt : Option (List ℕ)) → madt_entries madt ≡ entries_of madt
same_entries None = refl
same_entries (Some bytes) = refl

-- by_flags finds the flags of the first override whose number is n, and 0 where there is none
module _ (by_flags : List OverrideLine → ℕ) (number : OverrideLine → ℕ) (n : ℕ) (Such : MadtEntry → Type 0) (without : by_flags [] ≡ 0)
    (next : (o : OverrideLine) (os : List OverrideLine) → by_flags (o ∷ os) ≡ (if number o == n then o.flags else by_flags os))
    (such : (bus source gsi flags : ℕ) → number (record { source = source; gsi = gsi; flags = flags }) ≡ n → Such (SourceOverride bus source gsi flags))
    (so : (bus source gsi flags : ℕ) → Such (SourceOverride bus source gsi flags) → number (record { source = source; gsi = gsi; flags = flags }) ≡ n) where
  none_such : (es : List MadtEntry) → ((e : MadtEntry) → Contains es e → Such e → ⊥) → by_flags (filter_map override_of es) ≡ 0
  none_such [] h = without
  none_such (IoApic id address gsi_base ∷ es) h = none_such es (λ e c i. h e (behind (IoApic id address gsi_base) e es c) i)
  none_such (SourceOverride bus source gsi flags ∷ es) h =
      next (record { source = source; gsi = gsi; flags = flags }) (filter_map override_of es) ∙ by (number (record { source = source; gsi = gsi; flags = flags }) == n) refl (none_such es (λ e c i. h e (behind (SourceOverride bus source gsi flags) e es c) i))
    where
      by : (b : Bool) → (number (record { source = source; gsi = gsi; flags = flags }) == n) ≡ b → by_flags (filter_map override_of es) ≡ 0 → (if b then flags else by_flags (filter_map override_of es)) ≡ 0
      by true is more = absurd (h (SourceOverride bus source gsi flags) (first (SourceOverride bus source gsi flags) es) (such bus source gsi flags (eqb-true _ n is)))
      by false is more = more

  first_such : (es later : List MadtEntry) (bus source gsi flags : ℕ) → Such (SourceOverride bus source gsi flags) → ((e : MadtEntry) → Contains es e → Such e → ⊥)
      → by_flags (filter_map override_of (es ++ SourceOverride bus source gsi flags ∷ later)) ≡ flags
  first_such [] later bus source gsi flags is h =
      next (record { source = source; gsi = gsi; flags = flags }) (filter_map override_of later)
      ∙ ap (λ (k : ℕ). if k == n then flags else by_flags (filter_map override_of later)) (so bus source gsi flags is) ∙ by (n == n) refl
    where
      by : (b : Bool) → (n == n) ≡ b → (if b then flags else by_flags (filter_map override_of later)) ≡ flags
      by true e = refl
      by false e = absurd (differ n e)
  first_such (IoApic id address gsi_base ∷ es) later bus source gsi flags is h = first_such es later bus source gsi flags is (λ e c i. h e (behind (IoApic id address gsi_base) e es c) i)
  first_such (SourceOverride b s g f ∷ es) later bus source gsi flags is h =
      next (record { source = s; gsi = g; flags = f }) (filter_map override_of (es ++ SourceOverride bus source gsi flags ∷ later)) ∙ by (number (record { source = s; gsi = g; flags = f }) == n) refl (first_such es later bus source gsi flags is (λ x c i. h x (behind (SourceOverride b s g f) x es c) i))
    where
      by : (t : Bool) → (number (record { source = s; gsi = g; flags = f }) == n) ≡ t → by_flags (filter_map override_of (es ++ SourceOverride bus source gsi flags ∷ later)) ≡ flags → (if t then f else by_flags (filter_map override_of (es ++ SourceOverride bus source gsi flags ∷ later))) ≡ flags
      by true e more = absurd (h (SourceOverride b s g f) (first (SourceOverride b s g f) es) (such b s g f (eqb-true _ n e)))
      by false e more = more

  governed : {S : Type 0} (m : MachineState S) (o : Option ℕ) → Governs m Such o → by_flags (overrides_used m.mode (overrides_of m.tables.madt)) ≡ flags_or_none o
  unfolding overrides_of
  governed m _ (by_controllers pic) = ap (λ (k : Mode). by_flags (overrides_used k (filter_map override_of (entries_of m.tables.madt)))) pic ∙ without
  governed m _ (by_default none) = in_mode m.mode
    where
      in_mode : (k : Mode) → by_flags (overrides_used k (filter_map override_of (entries_of m.tables.madt))) ≡ 0
      in_mode Pic = without
      in_mode Apic = subst (λ (es : List MadtEntry). by_flags (filter_map override_of es) ≡ 0) (same_entries m.tables.madt) (none_such (madt_entries m.tables.madt) none)
  governed m _ (by_override earlier later bus source gsi flags apic are is none) =
      ap (λ (k : Mode). by_flags (overrides_used k (filter_map override_of (entries_of m.tables.madt)))) apic
      ∙ (ap (λ (es : List MadtEntry). by_flags (filter_map override_of es)) (sym (same_entries m.tables.madt) ∙ are) ∙ first_such earlier later bus source gsi flags is none)

pub governed_to : {S : Type 0} (m : MachineState S) (n : ℕ) (o : Option ℕ) → Governs m (IsOverrideTo n) o → flags_to n (overrides_used m.mode (overrides_of m.tables.madt)) ≡ flags_or_none o
governed_to m n o = governed (flags_to n) (λ (l : OverrideLine). l.gsi) n (IsOverrideTo n) refl (λ o os. refl) (λ bus source gsi flags e. e) (λ bus source gsi flags e. e) m o

pub governed_of : {S : Type 0} (m : MachineState S) (n : ℕ) (o : Option ℕ) → Governs m (IsOverrideOf n) o → flags_of n (overrides_used m.mode (overrides_of m.tables.madt)) ≡ flags_or_none o
governed_of m n o = governed (flags_of n) (λ (l : OverrideLine). l.source) n (IsOverrideOf n) refl (λ o os. refl) (λ bus source gsi flags e. e) (λ bus source gsi flags e. e) m o

-- ---- what flags say

low_field : (flags p t : ℕ) → HasFields flags p t → flags % 4 ≡ p
low_field flags p t h =
    let small = h.small in
    let is : flags ≡ (t + 4 * h.further) * 4 + p = omega (arith, h.is) in
    ap (λ n. n % 4) is ∙ mod-mul-add (t + 4 * h.further) 4 p small

high_field : (flags p t : ℕ) → HasFields flags p t → flags / 4 % 4 ≡ t
high_field flags p t h =
    let is : flags ≡ (t + 4 * h.further) * 4 + p = omega (arith, h.is) in
    let up : t + 4 * h.further ≡ h.further * 4 + t = omega arith in
    ap (λ n. n / 4 % 4) is ∙ (ap (λ n. n % 4) (div-mul-add (t + 4 * h.further) 4 p h.small) ∙ (ap (λ n. n % 4) up ∙ mod-mul-add h.further 4 t h.few))

other_number : {A : Type 0} (n k : ℕ) (a b : A) → (n ≡ k → ⊥) → (if n == k then a else b) ≡ b
other_number {A} n k a b differ = by (n == k) refl
  where
    by : (c : Bool) → (n == k) ≡ c → (if c then a else b) ≡ b
    by true is = absurd (differ (eqb-true n k is))
    by false is = refl

triggered_by_flags : (flags : ℕ) (s : InterruptSource) → IsTriggeredBy flags (triggered_by flags s)
triggered_by_flags flags s = record {
  high = λ t h. ap (λ (n : ℕ). if n == 1 then High else Low) (low_field flags 1 t h);
  low = λ p t h differ. ap (λ (n : ℕ). if n == 1 then High else Low) (low_field flags p t h) ∙ other_number p 1 High Low differ;
  edge = λ p h. ap (λ (n : ℕ). if n == 1 then Edge else Level) (high_field flags p 1 h);
  level = λ p t h differ. ap (λ (n : ℕ). if n == 1 then Edge else Level) (high_field flags p t h) ∙ other_number t 1 Edge Level differ;
}

pub follows : (o : Option ℕ) (flags : ℕ) (s : InterruptSource) → flags ≡ flags_or_none o → Follows o (triggered_by flags s)
follows None flags s is = record { level = ap (λ (n : ℕ). trigger_by n) is; low = ap (λ (n : ℕ). polarity_by n) is }
follows (Some k) flags s is = subst (λ (n : ℕ). IsTriggeredBy k (triggered_by n s)) (sym is) (triggered_by_flags k s)

-- ---- which line it is

link_line : (links : List ReportedLink) (line : TriggerLine) (p : List Seg) → Contains (map link_trigger links) line → line.source ≡ source.Link p → (l : ReportedLink) × Contains links l × (l.path ≡ p) × (link_trigger l ≡ line)
link_line links line p c is =
    let r = mapped_from link_trigger links line c in
    let at : r.0.path ≡ p = cc (ap of_source r.2 ∙ is) in
    (r.0, r.1, at, r.2)

module _ (overrides : List OverrideLine) (own : ℕ) (r : RoutingReport) (line : TriggerLine) where
  abbrev pub AmongTriggers : Type 0
  AmongTriggers = Contains (triggers_with overrides own r) line

  pub line_of_link : (p : List Seg) → AmongTriggers → line.source ≡ source.Link p → (l : ReportedLink) × Contains r.links l × (l.path ≡ p) × (link_trigger l ≡ line)
  line_of_link p c is = elim (Contains-append_cases (map link_trigger r.links) (map (wired_trigger overrides) r.wired ++ sci_trigger overrides own r.sci) line c) [
    | inl d ↦ link_line r.links line p d is
    | inr d ↦ elim (Contains-append_cases (map (wired_trigger overrides) r.wired) (sci_trigger overrides own r.sci) line d) [
      | inl e ↦ let w = mapped_from (wired_trigger overrides) r.wired line e in absurd (cc (ap of_source w.2, is))
      | inr e ↦ absurd (not_sci r.sci e)
    ]
  ]
    where
      not_sci : (sci : Option ℕ) → Contains (sci_trigger overrides own sci) line → ⊥
      not_sci None e = no_member line e
      not_sci (Some n) e = elim (first_or_behind (triggered_by (flags_of own overrides) (source.Sci n)) line [] e) [
        | inl at ↦ cc (at, is)
        | inr f ↦ no_member line f
      ]

  pub line_of_wired : (n : ℕ) → AmongTriggers → line.source ≡ source.Wired n → triggered_by (flags_to n overrides) (source.Wired n) ≡ line
  line_of_wired n c is = elim (Contains-append_cases (map link_trigger r.links) (map (wired_trigger overrides) r.wired ++ sci_trigger overrides own r.sci) line c) [
    | inl d ↦ let l = mapped_from link_trigger r.links line d in absurd (cc (ap of_source l.2, is))
    | inr d ↦ elim (Contains-append_cases (map (wired_trigger overrides) r.wired) (sci_trigger overrides own r.sci) line d) [
      | inl e ↦ let w = mapped_from (wired_trigger overrides) r.wired line e in
          let at : w.0.0 ≡ n = cc (ap of_source w.2 ∙ is) in
          ap (λ (k : ℕ). triggered_by (flags_to k overrides) (source.Wired k)) (sym at) ∙ w.2
      | inr e ↦ absurd (not_sci r.sci e)
    ]
  ]
    where
      not_sci : (sci : Option ℕ) → Contains (sci_trigger overrides own sci) line → ⊥
      not_sci None e = no_member line e
      not_sci (Some k) e = elim (first_or_behind (triggered_by (flags_of own overrides) (source.Sci k)) line [] e) [
        | inl at ↦ cc (at, is)
        | inr f ↦ no_member line f
      ]

  pub line_of_sci : (n : ℕ) → AmongTriggers → line.source ≡ source.Sci n → triggered_by (flags_of own overrides) (source.Sci n) ≡ line
  line_of_sci n c is = elim (Contains-append_cases (map link_trigger r.links) (map (wired_trigger overrides) r.wired ++ sci_trigger overrides own r.sci) line c) [
    | inl d ↦ let l = mapped_from link_trigger r.links line d in absurd (cc (ap of_source l.2, is))
    | inr d ↦ elim (Contains-append_cases (map (wired_trigger overrides) r.wired) (sci_trigger overrides own r.sci) line d) [
      | inl e ↦ let w = mapped_from (wired_trigger overrides) r.wired line e in absurd (cc (ap of_source w.2, is))
      | inr e ↦ of_sci_alone r.sci e
    ]
  ]
    where
      of_sci_alone : (sci : Option ℕ) → Contains (sci_trigger overrides own sci) line → triggered_by (flags_of own overrides) (source.Sci n) ≡ line
      of_sci_alone None e = absurd (no_member line e)
      of_sci_alone (Some k) e = elim (first_or_behind (triggered_by (flags_of own overrides) (source.Sci k)) line [] e) [
        | inl at ↦ let same : k ≡ n = cc (at, is) in ap (λ (m : ℕ). triggered_by (flags_of own overrides) (source.Sci m)) (sym same) ∙ at
        | inr f ↦ absurd (no_member line f)
      ]
