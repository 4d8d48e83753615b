-- What a world is made with stays while its predefined names are declared.
use Rattle.std.specs.Prelude.{◌≡◌, ℕ, List, Ok, refl}
use Rattle.std.proofs.Common.{ap, sym, ◌∙◌}
use Rattle.ar_space.specs.declared.integer_width.IntegerWidth.{IntegerWidth}
use Rattle.ar_space.specs.Outcome.{Outcome}
use Rattle.ar_space.specs.Change.{Change}
use Rattle.aml_path.specs.declared.segment.Seg.{Seg}
use Rattle.aml_objects.specs.Objects.{Objects}
use Rattle.aml_objects.specs.declared.entry.NamedObject.{NamedObject}
use Rattle.aml_namespace.specs.Namespace.{Namespace}
use Rattle.aml_world.specs.state.State.{State, on_names, on_objects}
use Rattle.aml_world.specs.state.Predefined.{fresh, takes, at_root, predefined_scopes, predefined_objects, predefined}
use Rattle.aml_world.specs.declared.state.profile.Profile.TheVariants.{Core}
use Rattle.aml_laws.proofs.Preorders.{Preorder, Respects, then_respects, settle_then_respects}

record SameSettings {S : Type 0} (before after : State S) : Type 0 where
  profile : after.profile ≡ before.profile
  nesting : after.nesting ≡ before.nesting

module _ {S : Type 0} where
  abbrev same_settings : Preorder (State S)
  same_settings = record {
    Leads = SameSettings;
    reflexive = λ w. record { profile = refl; nesting = refl };
    transitive = λ u v w h i. record { profile = i.profile ∙ h.profile; nesting = i.nesting ∙ h.nesting };
  }

  names_keep : {A : Type 0} (m : Change Namespace A) → Respects same_settings (on_names {S = S} m)
  unfolding on_names
  names_keep m = record { respects = λ w. record { profile = refl; nesting = refl } }

  objects_keep : {A : Type 0} (m : Change Objects A) → Respects same_settings (on_objects {S = S} m)
  unfolding on_objects
  objects_keep m = record { respects = λ w. record { profile = refl; nesting = refl } }

  count_keeps : (path : List Seg) (count : ℕ) → Respects same_settings (takes {S = S} path count)
  unfolding takes
  count_keeps path count = record { respects = λ w. record { profile = refl; nesting = refl } }

  name_keeps : (text : List ℕ) (o : NamedObject) (count : ℕ) → Respects same_settings (at_root {S = S} text o count)
  unfolding at_root
  name_keeps text o count = settle_then_respects _ _ (λ s e. settle_then_respects _ _ (λ p f. then_respects _ _ (names_keep _) (λ u. settle_then_respects _ _ (λ q g. count_keeps q count))))

  scopes_keep : Respects same_settings (predefined_scopes {S = S})
  unfolding predefined_scopes
  scopes_keep = then_respects _ _ (name_keeps _ _ _) (λ a. then_respects _ _ (name_keeps _ _ _) (λ b. then_respects _ _ (name_keeps _ _ _) (λ c. then_respects _ _ (name_keeps _ _ _) (λ d. name_keeps _ _ _))))

  objects_named_keep : Respects same_settings (predefined_objects {S = S})
  unfolding predefined_objects
  objects_named_keep = then_respects _ _ (name_keeps _ _ _) (λ a. then_respects _ _ (objects_keep _) (λ text. then_respects _ _ (name_keeps _ _ _) (λ c. then_respects _ _ (name_keeps _ _ _) (λ d. name_keeps _ _ _))))

  all_keep : Respects same_settings (predefined {S = S})
  unfolding predefined
  all_keep = then_respects _ _ scopes_keep (λ a. objects_named_keep)

  pub default_world : (width : IntegerWidth) (osi : List (List ℕ)) (space : S) (w : State S) → predefined (fresh width osi space) ≡ (Ok tt, w) → (w.profile ≡ Core) × ((w.nesting.calls ≡ 32) × (w.nesting.levels ≡ 64))
  default_world width osi space w is =
      let kept = all_keep.respects (fresh width osi space) in
      let there : w ≡ (predefined (fresh width osi space)).1 = sym (ap (λ (p : Outcome (Unit {0}) × State S). p.1) is) in (
        ap (λ (v : State S). v.profile) there ∙ kept.profile,
        (
          ap (λ (v : State S). v.nesting.calls) there ∙ ap (λ n. n.calls) kept.nesting,
          ap (λ (v : State S). v.nesting.levels) there ∙ ap (λ n. n.levels) kept.nesting,
        ),
      )
