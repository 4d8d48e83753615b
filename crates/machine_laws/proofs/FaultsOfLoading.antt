-- Where the tables of a machine are refused by a fault of the register space, the last access answered with it.
use Rattle.std.specs.Prelude.{ℕ, List, [], ◌∷◌, length, nat_lt, refl}
use Rattle.ar_space.specs.Accesses.{Accesses}
use Rattle.ar_tables.specs.declared.tables.Tables.{Tables}
use Rattle.aml_path.specs.declared.segment.Seg.{Seg}
use Rattle.aml_objects.specs.declared.entry.NamedObject.{NamedObject}
use Rattle.aml_world.specs.state.Predefined.{takes, at_root, predefined_scopes, predefined_objects, predefined}
use Rattle.aml_laws.proofs.CleanOutcomes.{Clean, if_clean}
use Rattle.aml_laws.proofs.CleanValues.{seg_of_clean}
use Rattle.aml_laws.proofs.CleanNames.{declared_clean}
use Rattle.aml_laws.proofs.CleanObjects.{make_string_clean}
use Rattle.aml_laws.proofs.FaultsOfChanges.{EvaluationExplains, direct_explains, give_explains, settle_explains, then_explains, on_objects_explains, on_names_explains}
use Rattle.aml_laws.proofs.FaultsOfEvaluations.{loaded_explains}
use Rattle.acpi_machine.specs.Loading.{few_texts, table_loaded, each_loaded, all_loaded, loaded_tables}

few_texts_clean : (texts : List (List ℕ)) → Clean (few_texts texts)
few_texts_clean texts = if_clean (nat_lt 64 (length texts)) _ _ tt tt

module _ {S : Type 0} {accesses : Accesses S} where
  -- ---- the predefined names

  takes_explains : (path : List Seg) (count : ℕ) → EvaluationExplains accesses (takes path count)
  unfolding takes
  takes_explains path count = direct_explains _ (λ w. tt) (λ w. refl)

  at_root_explains : (text : List ℕ) (object : NamedObject) (count : ℕ) → EvaluationExplains accesses (at_root text object count)
  unfolding at_root
  at_root_explains text object count =
      then_explains _ _ (settle_explains _ (seg_of_clean text)) (λ s. then_explains _ _ (settle_explains _ tt) (λ p. then_explains _ _ (on_names_explains _ (declared_clean p object)) (λ n. then_explains _ _ (settle_explains _ tt) (λ q. takes_explains q count))))

  predefined_scopes_explains : EvaluationExplains accesses predefined_scopes
  unfolding predefined_scopes
  predefined_scopes_explains =
      then_explains _ _ (at_root_explains _ _ _) (λ a. then_explains _ _ (at_root_explains _ _ _) (λ b. then_explains _ _ (at_root_explains _ _ _) (λ c. then_explains _ _ (at_root_explains _ _ _) (λ d. at_root_explains _ _ _))))

  predefined_objects_explains : EvaluationExplains accesses predefined_objects
  unfolding predefined_objects
  predefined_objects_explains =
      then_explains _ _ (at_root_explains _ _ _) (λ a. then_explains _ _ (on_objects_explains _ (make_string_clean _)) (λ text. then_explains _ _ (at_root_explains _ _ _) (λ b. then_explains _ _ (at_root_explains _ _ _) (λ c. at_root_explains _ _ _))))

  predefined_explains : EvaluationExplains accesses predefined
  unfolding predefined
  predefined_explains = then_explains _ _ predefined_scopes_explains (λ u. predefined_objects_explains)

module _ {S : Type 0} (accesses : Accesses S) where
  table_loaded_explains : (steps : ℕ) (table : List ℕ) → EvaluationExplains accesses (table_loaded accesses steps table)
  unfolding table_loaded
  table_loaded_explains steps table = loaded_explains accesses _ steps

  each_loaded_explains : (steps : ℕ) (tables : List (List ℕ)) → EvaluationExplains accesses (each_loaded accesses steps tables)
  unfolding each_loaded
  each_loaded_explains steps [] = give_explains _
  each_loaded_explains steps (table ∷ tables) = then_explains _ _ (table_loaded_explains steps table) (λ u. each_loaded_explains steps tables)

  all_loaded_explains : (t : Tables) (steps : ℕ) → EvaluationExplains accesses (all_loaded accesses t steps)
  unfolding all_loaded
  all_loaded_explains t steps = then_explains _ _ (table_loaded_explains steps t.dsdt) (λ u. each_loaded_explains steps t.ssdts)

  pub loaded_tables_explains : (t : Tables) (steps : ℕ) (osi : List (List ℕ)) → EvaluationExplains accesses (loaded_tables accesses t steps osi)
  unfolding loaded_tables
  loaded_tables_explains t steps osi = then_explains _ _ (settle_explains _ (few_texts_clean osi)) (λ u. then_explains _ _ predefined_explains (λ v. all_loaded_explains t steps))
