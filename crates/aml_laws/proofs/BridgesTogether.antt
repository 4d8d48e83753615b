-- Bridges above a function of PCI_Config are passed the same way over two register spaces, until these part, or until a profile refuses
-- what lies behind a bridge.
use Rattle.std.specs.Prelude.{◌≡◌, ◌⊎◌, ℕ, List, Option, Some, None, refl}
use Rattle.std.proofs.Common.{inl, inr, ap, sym, subst, ◌∙◌}
use Rattle.ar_space.specs.declared.refusal.Refusal.{Refusal}
use Rattle.ar_space.specs.declared.refusal.Refusal.TheVariants as refusal
use Rattle.ar_space.specs.declared.refusal.EvaluationFault.TheVariants.{DeepPci}
use Rattle.ar_space.specs.Accesses.{Accesses}
use Rattle.aml_path.specs.declared.segment.Seg.{Seg}
use Rattle.aml_world.specs.declared.state.profile.Profile.{Profile}
use Rattle.aml_world.specs.declared.state.profile.Profile.TheVariants as profiles
use Rattle.aml_world.specs.state.State.{State}
use Rattle.aml_world.specs.fields.PciFunctions.{or_behind, behind_asked}
use Rattle.aml_world.specs.fields.Bridges.{bridges_above, secondary_bus}
use Rattle.aml_laws.specs.Widened.{LeftOut}
use Rattle.aml_laws.proofs.Together.{Sides, Together, Comes, IsEnded, spaces, plain, settle_together, then_together}
use Rattle.aml_laws.proofs.WorldsTogether.{world_over, worlds}
use Rattle.aml_laws.proofs.UnitsTogether.{read_unit_together}

-- no bridge is behind none, in any profile
none_behind : (p q : Profile) → or_behind p None ≡ or_behind q None
none_behind profiles.Core profiles.Core = refl
none_behind profiles.Core profiles.Wide = refl
none_behind profiles.Wide profiles.Core = refl
none_behind profiles.Wide profiles.Wide = refl

behind_comes : {S T : Type 0} {accesses : Accesses S} {accesses2 : Accesses T} (side : Sides accesses accesses2) (bridge : Option (List Seg)) (w : State S) (t : T) (p : Profile) → w.profile ≡ p → (side.raise.0 profiles.Core ≡ profiles.Core) ⊎ ((e : Refusal) → LeftOut e → side.Ends e) → side.beside.InStep w.space t
    → Comes side worlds (or_behind w.profile bridge, w) (or_behind (side.raise.0 w.profile) bridge, world_over side.raise w t)
behind_comes side bridge w t profiles.Wide is core i = inr (inr (t, ap (λ r. (or_behind r bridge, world_over side.raise w t)) (ap side.raise.0 is ∙ side.wide_stays ∙ sym is), i))
behind_comes side bridge w t profiles.Core is (inl stays) i = inr (inr (t, ap (λ r. (or_behind r bridge, world_over side.raise w t)) (ap side.raise.0 is ∙ stays ∙ sym is), i))
behind_comes side None w t profiles.Core is (inr ends) i = inr (inr (t, ap (λ o. (o, world_over side.raise w t)) (none_behind (side.raise.0 w.profile) w.profile), i))
behind_comes side (Some q) w t profiles.Core is (inr ends) i = inr (inl (subst (λ p. IsEnded side.Ends (or_behind p (Some q))) (sym is) (ends (refusal.Evaluation DeepPci) (inr refl))))

module _ {S T : Type 0} {accesses : Accesses S} {accesses2 : Accesses T} {side : Sides accesses accesses2} where
  pub behind_asked_together : (bridge : Option (List Seg)) → Together side worlds (behind_asked bridge) (behind_asked bridge)
  unfolding behind_asked
  behind_asked_together bridge = record {
    left_parted = λ w t p. p;
    right_parted = λ s w p. p;
    goes = λ w t i. behind_comes side bridge w t w.profile refl side.core_stays i;
  }

  pub bridges_above_together : (q : List Seg) → Together side worlds (bridges_above q) (bridges_above q)
  unfolding bridges_above
  bridges_above_together q = plain (λ w. refl) (λ w. refl) (λ w t. refl)

  pub secondary_bus_together : (seg bus address : ℕ) → Together side spaces (secondary_bus accesses seg bus address) (secondary_bus accesses2 seg bus address)
  unfolding secondary_bus
  secondary_bus_together seg bus address =
      then_together (settle_together _) (λ function. then_together (read_unit_together _ _ _) (λ kind. then_together (settle_together _) (λ bridge. read_unit_together _ _ _)))
