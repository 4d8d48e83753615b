-- The predefined world's integers are below two to the width.
use Rattle.std.specs.Prelude.{◌≡◌, ℕ, List, [], codes, Bool, true, false, Option, Some, None, refl, cond}
use Rattle.std.proofs.Common.{arith, sym, ◌∙◌, subst}
use Rattle.std.specs.Ordering.{eq_by_cmp}
use Rattle.std.specs.FinMap.{get, empty, get-insert, get-empty}
use Rattle.ar_space.specs.declared.integer_width.IntegerWidth.{IntegerWidth}
use Rattle.aml_path.specs.declared.segment.Seg.{Seg}
use Rattle.aml_path.specs.Paths.{path_cmp}
use Rattle.aml_objects.specs.declared.entry.Entry.{Entry}
use Rattle.aml_objects.specs.declared.entry.NamedObject.{NamedObject}
use Rattle.aml_objects.specs.declared.entry.NamedObject.TheVariants as object
use Rattle.aml_namespace.proofs.Paths.{path_total}
use Rattle.aml_world.specs.declared.state.settings.EvaluationSettings.{EvaluationSettings}
use Rattle.aml_world.specs.state.Predefined.{fresh_as, takes, at_root, predefined_scopes, predefined_objects, predefined}
use Rattle.aml_laws.proofs.ReadingStepsGiveBytes.{Any}
use Rattle.aml_laws.proofs.Invariants.{Maintains, ok_maintained, then_maintains}
use Rattle.aml_laws.proofs.ValuesOfObjects.{make_string_maintains}
use Rattle.aml_laws.proofs.IntegersOfOperators.{small_number_fits}
use Rattle.aml_laws.proofs.IntegersOfContents.{bytes_by_test, all_below_256}
use Rattle.aml_laws.proofs.ValuesOfWorlds.{WorldWithin, declared_maintains, on_objects_maintains}
use Rattle.aml_laws.proofs.ValuesOfOperands.{any_settle_maintains}
use Rattle.aml_laws.specs.AllWithin.{AllWithin}
use Rattle.aml_laws.proofs.Claims.{integers_within, NamedFits, WorldFits}
use Rattle.aml_laws.proofs.IntegersClaimed.{world_within}

root_fits_by_cases : (width : IntegerWidth) (b : Bool) (v e : Entry) (o : Option Entry) → NamedFits (integers_within width) v.object → o ≡ None → cond b (Some v) o ≡ Some e → NamedFits (integers_within width) e.object
root_fits_by_cases width true v e o f none is = let same : v ≡ e = cc is in subst (λ (x : Entry). NamedFits (integers_within width) x.object) same f
root_fits_by_cases width false v e o f none is = absurd (cc (sym none ∙ is))

module _ (S : Type 0) (width : IntegerWidth) where
  fresh_world_within : (settings : EvaluationSettings) (osi : List (List ℕ)) (space : S) → WorldFits (integers_within width) (fresh_as settings width osi space)
  fresh_world_within settings osi space = record {
    wide = λ m. refl;
    names = λ path e is. root_fits_by_cases width (eq_by_cmp path_cmp path []) (record { number = 0; object = object.Scope }) e (get (empty {X = Entry} {R = path_cmp}) path) tt (get-empty path_cmp path) (sym (get-insert path_total empty [] (record { number = 0; object = object.Scope }) path) ∙ is);
    objects = record { fit = λ n o at. absurd (cc at); kept = λ n o at. tt; enough = omega arith; unused = λ n le. tt };
    frames = tt;
    next = λ n le slot. tt;
    latest = tt;
  }

  takes_maintains : (path : List Seg) (count : ℕ) → Maintains (WorldWithin S (integers_within width)) Any (takes path count)
  unfolding takes
  takes_maintains path count = record { maintains = λ w a. ok_maintained tt _ (record { wide = a.wide; names = a.names; objects = a.objects; frames = a.frames; next = a.next; latest = a.latest }) tt }

  predefined_at_root_maintains : (text : List ℕ) (o : NamedObject) (count : ℕ) → NamedFits (integers_within width) o → Maintains (WorldWithin S (integers_within width)) Any (at_root text o count)
  unfolding at_root
  predefined_at_root_maintains text o count f = then_maintains _ _ (any_settle_maintains _) (λ s u. then_maintains _ _ (any_settle_maintains _) (λ p v. then_maintains _ _ (declared_maintains S (integers_within width) p o f) (λ n x. then_maintains _ _ (any_settle_maintains _) (λ q y. takes_maintains q count))))

  predefined_maintains : Maintains (WorldWithin S (integers_within width)) Any predefined
  unfolding predefined predefined_scopes predefined_objects all_below_256
  predefined_maintains =
      then_maintains _ _ (then_maintains _ _ (predefined_at_root_maintains _ _ _ tt) (λ a u. then_maintains _ _ (predefined_at_root_maintains _ _ _ tt) (λ b v. then_maintains _ _ (predefined_at_root_maintains _ _ _ tt) (λ c x. then_maintains _ _ (predefined_at_root_maintains _ _ _ tt) (λ d y. predefined_at_root_maintains _ _ _ tt))))) (λ z k.
      then_maintains _ _ (predefined_at_root_maintains _ _ _ tt) (λ a u. then_maintains _ _ (on_objects_maintains S (integers_within width) _ (make_string_maintains (integers_within width) _ (λ m. bytes_by_test (codes "Microsoft Windows NT") refl))) (λ text f. then_maintains _ _ (predefined_at_root_maintains _ _ _ f) (λ b v. then_maintains _ _ (predefined_at_root_maintains _ _ _ (λ m. small_number_fits width 2 (omega arith))) (λ c x. predefined_at_root_maintains _ _ _ tt)))))

pub predefined_world_within : {S : Type 0} (settings : EvaluationSettings) (width : IntegerWidth) (osi : List (List ℕ)) (space : S) → AllWithin width (predefined (fresh_as settings width osi space)).1
predefined_world_within {S} settings width osi space = world_within width _ ((predefined_maintains S width).maintains (fresh_as settings width osi space) (fresh_world_within S width settings osi space)).state
