-- What is read of a term's first bytes, where a fault stands there.
use Rattle.std.proofs.Common.{◌≡◌, ℕ, suc, ◌+◌, ◌<◌, List, [], ◌∷◌, ◌++◌, length, Bool, true, false, Option, Err, refl, subst, ◌∙◌, sym, ap, lt-ltb, ◌⊎◌}
use Rattle.std.specs.Prelude.{◌&&◌, if◌then◌else◌}
use Rattle.std.proofs.lemmas.Bool.{eq-eqb, ne_eqb}
use Rattle.ar_space.specs.Change.{stop}
use Rattle.ar_space.specs.declared.refusal.Refusal.{Refusal}
use Rattle.ar_space.specs.declared.refusal.Refusal.TheVariants as refusals
use Rattle.ar_space.specs.declared.refusal.NameFault.TheVariants.{BadName, AboveRoot}
use Rattle.ar_space.specs.declared.refusal.TermFault.TheVariants.{BadOpcode, BadPkgLength, Truncated, TooDeep, NotInBody}
use Rattle.aml_path.specs.declared.segment.Seg.{Seg}
use Rattle.aml_path.specs.declared.name.Prefix.{Prefix}
use Rattle.aml_path.specs.declared.name.Prefix.TheVariants.{Parents}
use Rattle.aml_path.specs.Paths.{Name, is_null, from_prefix, resolved}
use Rattle.aml_grammar.specs.declared.kinds.Class.{Class}
use Rattle.aml_grammar.specs.declared.kinds.Class.TheVariants as classes
use Rattle.aml_grammar.specs.declared.context.Position.{Position}
use Rattle.aml_grammar.specs.declared.context.Position.TheVariants as positions
use Rattle.aml_grammar.specs.declared.context.Context.{Context}
use Rattle.aml_grammar.specs.Names.{starts_name}
use Rattle.aml_grammar.specs.State.{State, Step}
use Rattle.aml_grammar.specs.Grammar.{Inner, is_module_level, stands, opcode, row_at, deeper, coded_term, term_in, below, by_arities}
use Rattle.aml_scan.specs.Spelling.{may_call, IsOpcode}
use Rattle.aml_scan.proofs.SpelledRows.{around_of, place_of}
use Rattle.aml_spelling.specs.Faults.{Spot, BeginsName, IsCode, AtLength, AtResolved, IsCount, Short, Wrong, LeadsOut, only_outside, NameAdmitted, NoTerm, AtTerm}
use Rattle.aml_spelling.proofs.FaultNameStrings.{begins_name, name_begun}
use Rattle.aml_spelling.proofs.FaultTerms.{TermPart}
use Rattle.aml_spelling.proofs.FaultWhole.{Outside, Deep}
use Rattle.aml_spelling.proofs.Gets.{Gets, gets_then, gets_give, gets_map, gets_value, gets_yes, gets_no, gets_byte}
use Rattle.aml_spelling.proofs.Refused.{Refused, refused_first, refused_as}

-- ---- what stands at a term's first bytes, case by case

abbrev pub Above : Spot → Position → Type 0
Above spot position = NameAdmitted spot (place_of position) × (may_call (place_of position) ≡ true) × AtResolved spot (refusals.Name AboveRoot)

module _ (spot : Spot) (G : Refusal → Type 0) where
  pub at_cases : (position : Position) → (NoTerm spot (place_of position) → G (refusals.Term BadOpcode spot.at)) → (Outside spot position → G (refusals.Term NotInBody spot.at)) → (Deep spot position → G (refusals.Term TooDeep spot.item))
      → (Above spot position → G (refusals.Name AboveRoot)) → ((r : Refusal) → TermPart spot (place_of position) r → G r) → (r : Refusal) → AtTerm spot (place_of position) r → G r
  at_cases positions.ListItem bad out deep above part (refusals.Term BadOpcode o) h = subst (λ (i : ℕ). G (refusals.Term BadOpcode i)) (sym h.1) (bad h.0)
  at_cases positions.ListItem bad out deep above part (refusals.Term NotInBody o) h = subst (λ (i : ℕ). G (refusals.Term NotInBody i)) (sym h.5) (out (h.0, h.1, h.2, h.3, h.4))
  at_cases positions.ListItem bad out deep above part (refusals.Term TooDeep o) h = subst (λ (i : ℕ). G (refusals.Term TooDeep i)) (sym h.1) (deep h.0)
  at_cases positions.ListItem bad out deep above part (refusals.Name AboveRoot) h = above (h.0, h.1, h.2)
  at_cases positions.ListItem bad out deep above part r h = part r h
  at_cases positions.TermArg bad out deep above part (refusals.Term BadOpcode o) h = subst (λ (i : ℕ). G (refusals.Term BadOpcode i)) (sym h.1) (bad h.0)
  at_cases positions.TermArg bad out deep above part (refusals.Term NotInBody o) h = subst (λ (i : ℕ). G (refusals.Term NotInBody i)) (sym h.5) (out (h.0, h.1, h.2, h.3, h.4))
  at_cases positions.TermArg bad out deep above part (refusals.Term TooDeep o) h = subst (λ (i : ℕ). G (refusals.Term TooDeep i)) (sym h.1) (deep h.0)
  at_cases positions.TermArg bad out deep above part (refusals.Name AboveRoot) h = above (h.0, h.1, h.2)
  at_cases positions.TermArg bad out deep above part r h = part r h
  at_cases positions.DataObject bad out deep above part (refusals.Term BadOpcode o) h = subst (λ (i : ℕ). G (refusals.Term BadOpcode i)) (sym h.1) (bad h.0)
  at_cases positions.DataObject bad out deep above part (refusals.Term NotInBody o) h = subst (λ (i : ℕ). G (refusals.Term NotInBody i)) (sym h.5) (out (h.0, h.1, h.2, h.3, h.4))
  at_cases positions.DataObject bad out deep above part (refusals.Term TooDeep o) h = subst (λ (i : ℕ). G (refusals.Term TooDeep i)) (sym h.1) (deep h.0)
  at_cases positions.DataObject bad out deep above part (refusals.Name AboveRoot) h = above (h.0, h.1, h.2)
  at_cases positions.DataObject bad out deep above part r h = part r h
  at_cases positions.PackageElement bad out deep above part (refusals.Term BadOpcode o) h = subst (λ (i : ℕ). G (refusals.Term BadOpcode i)) (sym h.1) (bad h.0)
  at_cases positions.PackageElement bad out deep above part (refusals.Term NotInBody o) h = subst (λ (i : ℕ). G (refusals.Term NotInBody i)) (sym h.5) (out (h.0, h.1, h.2, h.3, h.4))
  at_cases positions.PackageElement bad out deep above part (refusals.Term TooDeep o) h = subst (λ (i : ℕ). G (refusals.Term TooDeep i)) (sym h.1) (deep h.0)
  at_cases positions.PackageElement bad out deep above part (refusals.Name AboveRoot) h = above (h.0, h.1, h.2)
  at_cases positions.PackageElement bad out deep above part r h = part r h
  at_cases positions.SuperName bad out deep above part (refusals.Term BadOpcode o) h = subst (λ (i : ℕ). G (refusals.Term BadOpcode i)) (sym h.1) (bad h.0)
  at_cases positions.SuperName bad out deep above part (refusals.Term NotInBody o) h = subst (λ (i : ℕ). G (refusals.Term NotInBody i)) (sym h.5) (out (h.0, h.1, h.2, h.3, h.4))
  at_cases positions.SuperName bad out deep above part (refusals.Term TooDeep o) h = subst (λ (i : ℕ). G (refusals.Term TooDeep i)) (sym h.1) (deep h.0)
  at_cases positions.SuperName bad out deep above part (refusals.Name AboveRoot) h = above (h.0, h.1, h.2)
  at_cases positions.SuperName bad out deep above part r h = part r h

-- ---- what is read of a term's first bytes

pub code_opcode : (n : ℕ) (code : List ℕ) → IsCode n code → IsOpcode n code
code_opcode n [] h = absurd h
code_opcode n (b ∷ []) h = h.0
code_opcode n (b ∷ e ∷ []) h = h
code_opcode n (b ∷ e ∷ f ∷ bs) h = absurd h

pub gets_code : {s : State} {rest : List ℕ} (n : ℕ) (code : List ℕ) → IsCode n code → s.rest ≡ code ++ rest → Gets opcode s n rest s.arities
unfolding opcode
gets_code n [] h is = absurd h
gets_code n (b ∷ []) h is = gets_value (sym h.0) (gets_then _ (gets_byte is refl) (λ s1 is1 ar1. gets_no _ (ne_eqb b 0x5B h.1) (gets_give b is1 ar1)))
gets_code n (b ∷ e ∷ []) h is = gets_value (sym h.1) (gets_then _ (gets_byte is refl) (λ s1 is1 ar1. gets_yes _ (eq-eqb b 0x5B h.0) (gets_map (λ x. 0x5B00 + x) (gets_byte is1 ar1))))
gets_code n (b ∷ e ∷ f ∷ bs) h is = absurd h

pub code_first : (n : ℕ) (code : List ℕ) → IsCode n code → (b : ℕ) × (left : List ℕ) × (code ≡ b ∷ left)
code_first n [] h = absurd h
code_first n (b ∷ code) h = (b, code, refl)

pub outside_is : (class : Class) (position : Position) (context : Context) → only_outside (around_of context) class (place_of position) ≡ true → (stands class position context ≡ true) × ((context.body && is_module_level class) ≡ true)
outside_is classes.ModuleLevel positions.ListItem context e = (refl, and_true context.body e)
  where
    and_true : (b : Bool) → b ≡ true → (b && true) ≡ true
    and_true true f = refl
    and_true false f = absurd (cc f)
outside_is classes.ModuleLevel positions.TermArg context e = absurd (cc e)
outside_is classes.ModuleLevel positions.DataObject context e = absurd (cc e)
outside_is classes.ModuleLevel positions.PackageElement context e = absurd (cc e)
outside_is classes.ModuleLevel positions.SuperName context e = absurd (cc e)
outside_is _ position context e = absurd (cc e)

above_from : (prefix : Prefix) (segments scope : List Seg) (count : ℕ) → prefix ≡ Parents count → length scope < count → from_prefix prefix segments scope ≡ Err (refusals.Name AboveRoot)
above_from prefix segments scope count is less = rw (is, lt-ltb (length scope) count less) refl

pub leads_refused : (n : Name) (scope : List Seg) → is_null n ≡ false → LeadsOut n scope → resolved n scope ≡ Err (refusals.Name AboveRoot)
unfolding resolved
leads_refused n scope some l = ap (λ (c : Bool). if c then Err (refusals.Name BadName) else from_prefix n.prefix n.segments scope) some ∙ above_from n.prefix n.segments scope l.0 l.1 l.2

pub length_same : (a b : Spot) → a.at ≡ b.at → a.rest ≡ b.rest → (r : Refusal) → AtLength a r → AtLength b r
length_same a b e f (refusals.Term BadPkgLength o) h = (h.0, h.1, h.2, sym f ∙ h.3, h.4, subst (λ (l : List ℕ). (h.0 < length h.1) ⊎ (length l < h.0)) f h.5, h.6 ∙ e)
length_same a b e f (refusals.Term Truncated o) h = (subst (λ (l : List ℕ). Short IsCount l) f h.0, h.1 ∙ ap (λ (i : ℕ). i + length a.rest) e ∙ ap (λ (l : List ℕ). b.at + length l) f)
length_same a b e f (refusals.Name BadName) h = subst (λ (l : List ℕ). Wrong IsCount l) f h
length_same a b e f r h = absurd h

pub name_byte : (bs : List ℕ) → BeginsName bs → (b : ℕ) × (left : List ℕ) × (bs ≡ b ∷ left) × (starts_name b ≡ true)
name_byte [] h = absurd h
name_byte (b ∷ bs) h = (b, bs, refl, name_begun b h.0 h.1)

pub not_begun : (b : ℕ) (bs : List ℕ) (c : Bool) → starts_name b ≡ c → (BeginsName (b ∷ bs) → ⊥) → starts_name b ≡ false
not_begun b bs true e h = absurd (h (begins_name b e))
not_begun b bs false e h = e

pub refused_deeper : {A : Type 0} {s : State} {r : Refusal} (levels l item : ℕ) (go : Inner → Step A) → levels ≡ suc l → Refused (go (term_in by_arities (below by_arities l))) s r → Refused (deeper (below by_arities levels) item go) s r
unfolding deeper below
refused_deeper {s = s} levels l item go is h = refused_as (ap (λ (n : ℕ). deeper (below by_arities n) item go s) is) h

pub refused_lowest : {A : Type 0} {s : State} (levels item : ℕ) (go : Inner → Step A) → levels ≡ 0 → Refused (deeper (below by_arities levels) item go) s (refusals.Term TooDeep item)
unfolding deeper below stop
refused_lowest {s = s} levels item go is = record { is = ap (λ (n : ℕ). (deeper (below by_arities n) item go s).0) is }

pub opcode_first : (below : Option Inner) (position : Position) (scope : List Seg) (context : Context) (s : State) (r : Refusal) → Refused opcode s r → Refused (coded_term below position scope context s.at) s r
unfolding coded_term row_at
opcode_first below position scope context s r h = refused_first _ (refused_first _ h)
