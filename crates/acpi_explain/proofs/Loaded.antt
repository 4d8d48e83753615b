-- Tables that are loaded one after another, up to the first that is refused.
use Rattle.std.proofs.Common.{◌≡◌, ◌∙◌, ◌<◌, ◌≤◌, ap, arith, length, refl, sym, subst}
use Rattle.std.proofs.lemmas.Bool.Decides.{Decides-ltb}
use Rattle.std.specs.Prelude.{ℕ, Bool, true, false, nat_lt, List, [], ◌∷◌, ◌++◌, Option, Some, None, Result, IfOk, Ok, Err, if◌then◌else◌}
use Rattle.ar_space.specs.Accesses.{Accesses}
use Rattle.ar_space.specs.Change.{give, settle, go_on, ◌>>=◌}
use Rattle.ar_space.specs.Outcome.{Outcome}
use Rattle.ar_space.specs.declared.refusal.Refusal.{Refusal}
use Rattle.ar_space.specs.declared.refusal.Refusal.TheVariants as refusal
use Rattle.ar_space.specs.declared.refusal.EvaluationFault.TheVariants.{ObjectLimit}
use Rattle.aml_world.specs.state.State.{State}
use Rattle.acpi_machine.specs.Loading.{few_texts, table_loaded, each_loaded, all_loaded, loaded_tables}
use Rattle.ar_tables.specs.declared.tables.Tables.{Tables}
use Rattle.aml_world.specs.declared.state.settings.EvaluationSettings.{EvaluationSettings}
use Rattle.aml_world.specs.state.Predefined.{predefined, fresh_as}
use Rattle.acpi_explain.specs.Refused.{AreAnswered, IsHowFar}
use Rattle.acpi_explain.specs.Stages.{IsTable}

module _ {S : Type 0} (accesses : Accesses S) (steps : ℕ) where
  each_to : (earlier : List (List ℕ)) (table : List ℕ) (later : List (List ℕ)) (s t u : State S) (e : Refusal) → AreAnswered (table_loaded accesses steps) earlier s t → table_loaded accesses steps table t ≡ (Err e, u)
      → each_loaded accesses steps (earlier ++ table ∷ later) s ≡ (Err e, u)
  unfolding each_loaded ◌>>=◌ go_on
  each_to [] table later s t u e h is = let at : table_loaded accesses steps table s ≡ (Err e, u) = subst (λ z. table_loaded accesses steps table z ≡ (Err e, u)) (sym h) is in rw at refl
  each_to (x ∷ xs) table later s t u e h is = rw h.2 (each_to xs table later h.1 t u e h.3 is)

  each_all : (tables : List (List ℕ)) (s t : State S) → AreAnswered (table_loaded accesses steps) tables s t → each_loaded accesses steps tables s ≡ (Ok tt, t)
  unfolding each_loaded give ◌>>=◌ go_on
  each_all [] s t h = ap (λ z. (Ok tt, z)) h
  each_all (x ∷ xs) s t h = rw h.2 (each_all xs h.1 t h.3)

  from_all : (t : Tables) (osi : List (List ℕ)) (start world after : State S) (r : Outcome (Unit {0})) → few_texts osi ≡ Ok tt → predefined start ≡ (Ok tt, world) → each_loaded accesses steps (t.dsdt ∷ t.ssdts) world ≡ (r, after)
      → loaded_tables accesses t steps osi start ≡ (r, after)
  unfolding loaded_tables all_loaded each_loaded settle ◌>>=◌ go_on
  from_all t osi start world after r few is h = rw (few, is) h

  table_found : (found : Option ℕ) (settings : EvaluationSettings) (t : Tables) (osi : List (List ℕ)) (space : S) (world after : State S) → few_texts osi ≡ Ok tt → predefined (fresh_as settings t.width osi space) ≡ (Ok tt, world)
      → IsHowFar (table_loaded accesses steps) (t.dsdt ∷ t.ssdts) world after found → IsTable accesses settings t steps osi space found
  table_found None settings t osi space world after few is h = λ _. (after, from_all t osi (fresh_as settings t.width osi space) world after (Ok tt) few is (each_all (t.dsdt ∷ t.ssdts) world after h))
  table_found (Some n) settings t osi space world after few is h = record {
    world = world;
    is_world = is;
    after = after;
    refusal = h.0;
    table = h.1;
    is_first = h.2;
    is_run = from_all t osi (fresh_as settings t.width osi space) world after (Err h.0) few is
        (ap (λ xs. each_loaded accesses steps xs world) h.2.are_all ∙ each_to h.2.earlier h.1 h.2.later world h.2.there after h.0 h.2.are_answered h.2.is_refused);
  }

  -- `_OSI` is to know too many texts, and no table is loaded; or it isn't
  pub too_many : (settings : EvaluationSettings) (t : Tables) (osi : List (List ℕ)) (space : S) → 64 < length osi → IsTable accesses settings t steps osi space None
  too_many settings t osi space many = λ few. absurd (never (nat_lt 64 (length osi)) ((Decides-ltb 64 (length osi)).1 many) few)
    where
      never : (b : Bool) → b ≡ true → (if b then Err (refusal.Evaluation ObjectLimit) else Ok (tt {0})) ≡ Ok tt → ⊥
      never true h few = cc few
      never false h few = cc h

  few_enough : (osi : List (List ℕ)) → length osi ≤ 64 → few_texts osi ≡ Ok tt
  few_enough osi few = go (nat_lt 64 (length osi)) refl
    where
      go : (b : Bool) → nat_lt 64 (length osi) ≡ b → few_texts osi ≡ Ok tt
      go true h = let many : 64 < length osi = (Decides-ltb 64 (length osi)).0 h in absurd (omega arith)
      go false h = ap (λ b. if b then Err (refusal.Evaluation ObjectLimit) else Ok tt) h

  pub tables_found : {E : Type 0} (r : Result (Option ℕ) E) (settings : EvaluationSettings) (t : Tables) (osi : List (List ℕ)) (space : S) (world after : State S) → length osi ≤ 64 → predefined (fresh_as settings t.width osi space) ≡ (Ok tt, world)
      → IfOk r (IsHowFar (table_loaded accesses steps) (t.dsdt ∷ t.ssdts) world after) → IfOk r (IsTable accesses settings t steps osi space)
  tables_found (Ok found) settings t osi space world after few is h = table_found found settings t osi space world after (few_enough osi few) is h
  tables_found (Err e) settings t osi space world after few is h = tt
