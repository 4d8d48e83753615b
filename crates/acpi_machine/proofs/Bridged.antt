-- Bridges that are passed one behind another, from the outermost on.
use Rattle.std.specs.Prelude.{◌≡◌, ℕ, List, [], ◌∷◌, length, Ok, refl}
use Rattle.ar_space.specs.Accesses.{Accesses}
use Rattle.ar_space.specs.Change.{Does, Same, give, ◌>>=◌}
use Rattle.aml_path.specs.declared.segment.Seg.{Seg}
use Rattle.aml_world.specs.state.State.{State}
use Rattle.aml_world.specs.state.Run.{Run}
use Rattle.aml_world.specs.fields.Fields.{bus_behind, bus_behind_all}
use Rattle.aml_world.proofs.Lifted.{parts}
use Rattle.aml_meaning.proofs.Runs.{running}

pub no_bridges : (l : List (List Seg)) → length l ≡ 0 → l ≡ []
no_bridges [] h = refl
no_bridges (q ∷ qs) h = absurd (cc h)

module _ {S : Type 0} (accesses : Accesses S) (call : List Seg → Run S ℕ) (seg : ℕ) where
  pub bridge_next : {start here : State S × ℕ} {m : Run S ℕ} (bus : ℕ) (l : List (List Seg)) (q : List Seg) (qs : List (List Seg)) → l ≡ q ∷ qs
      → Same m start (bus_behind_all accesses call seg bus l) here → Same m start (bus_behind accesses call seg bus q >>= (λ behind. bus_behind_all accesses call seg behind qs)) here
  unfolding bus_behind_all
  bridge_next bus l q qs e h = rw e at h

  pub bridges_end : {start here : State S × ℕ} {m : Run S ℕ} (bus : ℕ) (l : List (List Seg)) → l ≡ [] → Same m start (bus_behind_all accesses call seg bus l) here → Does (Ok bus) here m start
  unfolding bus_behind_all give
  bridges_end bus l e h = let i = rw e at h in record { is = λ ne. i.is }

-- these close the steps over one bridge
pub ruleset bridging = (running, parts)
