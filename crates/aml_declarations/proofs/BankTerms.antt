-- BankField: how it begins, and what its rule comes to.
use Rattle.std.specs.Prelude.{◌≡◌, ◌<◌, ℕ, Ok, Err, IfOk, refl}
use Rattle.std.proofs.Common.{◌∙◌, ap, sym, subst, arith}
use Rattle.ar_space.specs.Accesses.{Accesses}
use Rattle.ar_space.specs.Outcome.{Outcome}
use Rattle.ar_space.specs.Change.{Does, settle, go_on, ◌>>=◌}
use Rattle.aml_grammar.specs.Tree.{Trees}
use Rattle.aml_marks.specs.Marked.{a_name, an_integer, first, over}
use Rattle.aml_objects.specs.declared.entry.FieldSource.{FieldSource}
use Rattle.aml_world.specs.state.State.{State}
use Rattle.aml_world.specs.state.Run.{lift}
use Rattle.aml_world.specs.fields.FieldLayouts.{field_found}
use Rattle.aml_meaning.specs.declared.flow.Flow.{Flow}
use Rattle.aml_meaning.specs.declared.term_kind.WideKind.TheVariants as wides
use Rattle.aml_meaning.specs.Meaning.{meaning}
use Rattle.aml_meaning.specs.Tasks.{value_at}
use Rattle.aml_meaning.specs.FieldTerms.{fields_laid}
use Rattle.aml_meaning.specs.BankTerms.{bank_list_rule}
use Rattle.aml_frames.specs.declared.position.Position.{Position}
use Rattle.aml_frames.specs.declared.frames.DeclarationPart.TheVariants as parts
use Rattle.aml_frames.specs.declared.frames.Frame.TheVariants as frames
use Rattle.aml_frames.specs.declared.frames.Next.{Next}
use Rattle.aml_frames.specs.declared.frames.Next.TheVariants as next
use Rattle.aml_frames.specs.Places.{Site, at_place, terms, behind_term}
use Rattle.aml_frames.specs.Operands.{inside_at, outside_at, fields_at}
use Rattle.aml_frames.specs.RegionTerms.{behind_name, bank_names_run, bank_value_run, bank_declared}
use Rattle.aml_frames.specs.Weights.{next_weight, step_weight}
use Rattle.aml_frames.specs.Follow.{place_of, at_position, wide_run, Leads, EndsAt}
use Rattle.aml_frames.proofs.Declaring.{leads_done, leads_refused}
use Rattle.aml_frames.proofs.Forming.{count_is}
use Rattle.aml_frames.proofs.Stepping.{leads_value, stepping}
use Rattle.aml_frames.proofs.Weighing.{step_enough}

-- it asks for less than the step that it pays
pub falls_few : (r : Outcome Next) → IfOk r (λ n. next_weight n < 6) → IfOk r (λ n. next_weight n < step_weight)
falls_few (Ok n) h = let p = step_enough in omega (arith, p, h)
falls_few (Err e) h = tt

-- where evaluation goes on behind the package
pub ends_bank : (r : Outcome Next) (e c d : Site) (o : Position) → d ≡ at_place c (inside_at c.place) → place_of c o ≡ outside_at c.place → EndsAt r e (at_position d o) → EndsAt r e (at_place c (outside_at c.place))
ends_bank (Ok n) e c d o h i l = l ∙ ap (λ (x : Site). at_position x o) h ∙ ap (at_place c) i
ends_bank (Err x) e c d o h i l = tt

-- the fields behind flags
pub laid_behind : {S : Type 0} {r : Outcome Flow} {s s1 : State S × ℕ} (c d : Site) (levels n : ℕ) (source : FieldSource) (ts : Trees) → d ≡ at_place c (over 1 c.place) → n ≡ first c.place.rest → ts ≡ fields_at (terms d levels) d.place
    → Does r s1 (fields_laid d.scope d.depth source n ts) s → Does r s1 (fields_laid c.scope c.depth source (an_integer 1 c.place).0 (fields_at (terms c levels) (over 1 c.place))) s
laid_behind {r = r} {s = s} {s1 = s1} c d levels n source ts e i j h =
    subst (λ k. Does r s1 (fields_laid c.scope c.depth source k (fields_at (terms c levels) (over 1 c.place))) s) (i ∙ sym (count_is c.place))
    (subst (λ (x : Site). Does r s1 (fields_laid x.scope x.depth source n (fields_at (terms x levels) x.place)) s) e
    (subst (λ l. Does r s1 (fields_laid d.scope d.depth source n l) s) j h))

-- the bank field behind the region
pub bank_behind : {S : Type 0} {r : Outcome ℕ} {s s1 : State S × ℕ} (c d : Site) → d ≡ behind_name c → Does r s1 (lift (field_found d.scope (a_name d.place).0)) s → Does r s1 (lift (field_found c.scope (a_name (a_name c.place).1).0)) s
bank_behind {r = r} {s = s} {s1 = s1} c d e h = subst (λ (x : Site). Does r s1 (lift (field_found x.scope (a_name x.place).0)) s) e h

module _ {S : Type 0} {ac : Accesses S} where
  pub leads_bank_list : {r : Outcome Next} {e : Site} {s s1 : State S × ℕ} (c d : Site) (levels : ℕ) → d ≡ at_place c (inside_at c.place) → Leads ac (meaning ac) r e s1 (bank_names_run (meaning ac) levels d) s → Leads ac (meaning ac) r e s1 (wide_run ac (meaning ac) wides.BankField c levels) s
  unfolding bank_list_rule bank_names_run value_at settle ◌>>=◌ go_on
  leads_bank_list {r = r} {e = e} {s = s} {s1 = s1} c d levels h l = subst (λ (x : Site). Leads ac (meaning ac) r e s1 (bank_names_run (meaning ac) levels x) s) h l

  -- the value that selects the bank
  pub leads_bank_value : {c : Site} {s : State S × ℕ} (levels region bank : ℕ) (o : Position) → Leads ac (meaning ac) (Ok (next.Term levels (frames.Declaration (parts.BankValue levels o region bank)))) c s (bank_value_run (meaning ac) levels region bank c) s
  leads_bank_value {c = c} levels region bank o = leads_value levels (frames.Declaration (parts.BankValue levels o region bank)) (λ v. bank_declared levels region bank v (behind_term c levels)) refl

  -- the value that selects the bank, behind both names
  pub leads_bank_value_behind : {s : State S × ℕ} (c d e : Site) (levels region bank : ℕ) (o : Position) → d ≡ behind_name c → e ≡ behind_name d → Leads ac (meaning ac) (Ok (next.Term levels (frames.Declaration (parts.BankValue levels o region bank)))) e s (bank_value_run (meaning ac) levels region bank (behind_name (behind_name c))) s
  leads_bank_value_behind {s = s} c d e levels region bank o h i =
      let at : e ≡ behind_name (behind_name c) = i ∙ ap behind_name h in
      subst (λ (x : Site). Leads ac (meaning ac) (Ok (next.Term levels (frames.Declaration (parts.BankValue levels o region bank)))) e s (bank_value_run (meaning ac) levels region bank x) s) at (leads_bank_value levels region bank o)

pub ruleset beginning_banks = (stepping, leads_bank_list, ends_bank)

pub ruleset naming_banks = (stepping, leads_bank_value_behind, bank_behind)

pub ruleset declaring_banks = (stepping, leads_done, leads_refused)
