-- Bridges above a function of PCI_Config, from the outermost on, while the address of one is asked for.
use Rattle.std.specs.Prelude.{◌≡◌, ◌≤◌, ◌<◌, ◌+◌, ◌*◌, ℕ, List, [], ◌∷◌, ◌++◌, length, Ok, Err, IfOk, refl}
use Rattle.std.proofs.Common.{◌∙◌, arith}
use Rattle.std.proofs.Math.Nat.{mul-le-mul_right}
use Rattle.ar_space.specs.Accesses.{Accesses}
use Rattle.ar_space.specs.Outcome.{Outcome}
use Rattle.ar_space.specs.Change.{give, settle, go_on, ◌>>=◌}
use Rattle.aml_path.specs.declared.segment.Seg.{Seg}
use Rattle.aml_world.specs.state.State.{State, on_space}
use Rattle.aml_world.specs.state.Run.{lift}
use Rattle.aml_world.specs.fields.Bridges.{secondary_bus}
use Rattle.aml_world.specs.fields.PciFunctions.{adr}
use Rattle.aml_world.specs.fields.Fields.{bus_behind, bus_behind_all}
use Rattle.aml_meaning.specs.Meaning.{meaning}
use Rattle.aml_frames.specs.declared.addresses.PciAccess.{PciAccess}
use Rattle.aml_frames.specs.declared.addresses.RegionAccess.{RegionAccess}
use Rattle.aml_frames.specs.declared.frames.Frame.TheVariants as frames
use Rattle.aml_frames.specs.declared.frames.Next.{Next}
use Rattle.aml_frames.specs.declared.frames.Next.TheVariants as next
use Rattle.aml_frames.specs.Places.{Site}
use Rattle.aml_frames.specs.Addresses.{bus_known, bridges_left, bridge_asked, bridge_known, part_known}
use Rattle.aml_frames.specs.Uses.{asking}
use Rattle.aml_frames.specs.Weights.{part_weight, bridges_weight, region_weight, next_weight}
use Rattle.aml_frames.specs.Follow.{Leads}
use Rattle.aml_frames.proofs.Stepping.{bind_bind, stepping}
use Rattle.aml_frames.proofs.Indexing.{many_on}
use Rattle.aml_accesses.proofs.Addressing.{parts_known}

-- ---- what bridges ask for

more_bridges : (calls : ℕ) (l : List (List Seg)) (q : List Seg) (qs : List (List Seg)) → l ≡ q ∷ qs → bridges_weight calls (length l) ≡ bridges_weight calls (length qs) + (part_weight calls + 20)
unfolding bridges_weight
more_bridges calls l q qs e = rw e (many_on (length qs) (part_weight calls + 20))

pub no_bridges : (l : List (List Seg)) → length l ≡ 0 → l ≡ []
no_bridges [] h = refl
no_bridges (q ∷ qs) h = absurd (cc h)

pub falls_bridge : (r : Outcome Next) (calls k : ℕ) (l : List (List Seg)) (q : List Seg) (qs : List (List Seg)) → l ≡ q ∷ qs → IfOk r (λ n. next_weight n < bridges_weight calls (length qs) + 2 * part_weight calls + 34 + k) → IfOk r (λ n. next_weight n < bridges_weight calls (length l) + part_weight calls + 14 + k)
falls_bridge (Ok n) calls k l q qs e h = let i = more_bridges calls l q qs e in omega (arith, h, i)
falls_bridge (Err x) calls k l q qs e h = tt

pub falls_no_bridge : (r : Outcome Next) (calls k n : ℕ) → IfOk r (λ n. next_weight n < part_weight calls + 14 + k) → IfOk r (λ m. next_weight m < bridges_weight calls n + part_weight calls + 14 + k)
falls_no_bridge (Ok n) calls k m h = omega (arith, h)
falls_no_bridge (Err x) calls k m h = tt

pub falls_device : (r : Outcome Next) (calls k n : ℕ) → n ≤ 18446744073709551616 → IfOk r (λ m. next_weight m < bridges_weight calls n + 3 * part_weight calls + 40 + k) → IfOk r (λ m. next_weight m < region_weight calls + k)
unfolding bridges_weight
falls_device (Ok m) calls k n few h = let i = mul-le-mul_right (part_weight calls + 20) few in omega (arith, h, i)
falls_device (Err x) calls k n few h = tt

module _ {S : Type 0} (ac : Accesses S) where
  next_bridge : (a : RegionAccess) (device q : List Seg) (qs : List (List Seg)) (seg bus : ℕ) (s : State S × ℕ) → bridges_left ac (meaning ac) a device (q ∷ qs) seg bus s ≡ bridge_asked ac (meaning ac) a device q qs seg bus s
  unfolding bridges_left bridge_asked bridge_known bus_behind bus_behind_all
  next_bridge a device q qs seg bus s =
      let call = asking ac (meaning ac) a.calls in
      let k = bus_known ac (meaning ac) a device seg in
      bind_bind (bus_behind ac call seg bus q) (λ b. bus_behind_all ac call seg b qs) k s
      ∙ bind_bind (call (q ++ adr ∷ [])) (λ address. lift (on_space (secondary_bus ac seg bus address))) (λ b. bus_behind_all ac call seg b qs >>= k) s

module _ {S : Type 0} {ac : Accesses S} where
  pub leads_no_bridge : {r : Outcome Next} {c : Site} {s s1 : State S × ℕ} (a : RegionAccess) (device : List Seg) (l : List (List Seg)) (seg bus : ℕ) → l ≡ [] → Leads ac (meaning ac) r c s1 (bus_known ac (meaning ac) a device seg bus) s → Leads ac (meaning ac) r c s1 (bridges_left ac (meaning ac) a device l seg bus) s
  unfolding bridges_left bus_behind_all give ◌>>=◌ go_on
  leads_no_bridge a device l seg bus e h = rw e (record { is = λ ne. h.is ne })

  pub leads_bridge : {r : Outcome Next} {c : Site} {s s1 : State S × ℕ} (a : RegionAccess) (device : List Seg) (l : List (List Seg)) (q : List Seg) (qs : List (List Seg)) (seg bus : ℕ) → l ≡ q ∷ qs → Leads ac (meaning ac) r c s1 (bridge_asked ac (meaning ac) a device q qs seg bus) s → Leads ac (meaning ac) r c s1 (bridges_left ac (meaning ac) a device l seg bus) s
  leads_bridge {s = s} a device l q qs seg bus e h = rw e (record { is = λ ne. next_bridge ac a device q qs seg bus s ∙ h.is ne })

  -- a part that is known is handed to what waits for it
  pub leads_part_known : {c : Site} {s : State S × ℕ} (x : PciAccess) (n : ℕ) → Leads ac (meaning ac) (Ok (next.IntegerThen n (frames.Address x))) c s (part_known ac (meaning ac) x n) s
  unfolding give settle ◌>>=◌ go_on
  leads_part_known x n = record { is = λ _. refl }

pub ruleset bridges = (stepping, leads_no_bridge, leads_bridge, falls_bridge, falls_no_bridge)

pub ruleset devices = (stepping, falls_device)

pub ruleset parts_given = (parts_known, leads_part_known)
