-- Accesses of fields of regions, and the parts of addresses that they ask for.
use Rattle.std.specs.Prelude.{◌≡◌, ◌≢◌, ◌≤◌, ◌<◌, ◌-◌, ℕ, zero, suc, List, [], ◌∷◌, ◌++◌, None, Ok, Err, IfOk, IsErr, IsErrAnd, refl}
use Rattle.std.proofs.Common.{◌∙◌, ap, sym, arith, sub-one}
use Rattle.ar_space.specs.Accesses.{Accesses}
use Rattle.ar_space.specs.Outcome.{Outcome, Answers}
use Rattle.ar_space.specs.Change.{Change, Does, give, settle, stop, go_on, ◌>>=◌}
use Rattle.ar_space.specs.declared.refusal.Refusal.{Refusal}
use Rattle.ar_space.specs.declared.refusal.Refusal.TheVariants as refusal
use Rattle.ar_space.specs.declared.refusal.EvaluationFault.TheVariants.{CallDepth}
use Rattle.aml_path.specs.declared.segment.Seg.{Seg}
use Rattle.aml_fields.specs.Regions.{read_field, write_field}
use Rattle.aml_objects.specs.declared.entry.Field.{Field}
use Rattle.aml_objects.specs.declared.entry.Field.TheVariants as field
use Rattle.aml_objects.specs.declared.entry.FieldSource.TheVariants as sources
use Rattle.aml_objects.specs.declared.entry.FieldUnit.{FieldUnit}
use Rattle.aml_objects.specs.declared.value.Value.TheVariants as value
use Rattle.aml_world.specs.declared.state.invocation.Invocation.{Invocation}
use Rattle.aml_world.specs.declared.fields.regions.RegionField.{RegionField}
use Rattle.aml_world.specs.state.State.{State, on_space}
use Rattle.aml_world.specs.state.Run.{Run, lift}
use Rattle.aml_world.specs.fields.PciFunctions.{adr, segment_group, base_bus, pci_function}
use Rattle.aml_world.specs.fields.Bridges.{bridges_above}
use Rattle.aml_world.specs.fields.Regions.{space_numbered, region_declared, integer_only, integer_alone, pci_space}
use Rattle.aml_world.specs.fields.Fields.{field_unit_bits, field_unit_written, region_bits, region_written, located, space_at, pci_address, inherited, bus_behind_all, field_part, bits_in}
use Rattle.aml_world.specs.state.Invocations.{call_allowed}
use Rattle.aml_meaning.specs.declared.flow.Flow.{Flow}
use Rattle.aml_meaning.specs.declared.flow.Flow.TheVariants as flow
use Rattle.aml_meaning.specs.Meaning.{meaning}
use Rattle.aml_meaning.specs.FieldCalls.{asked, answer_within, answer_over, method_integer}
use Rattle.aml_meaning.specs.Calls.{invoked, method_value, value_of_call}
use Rattle.aml_meaning.proofs.Runs.{running, does_lift}
use Rattle.aml_frames.specs.declared.addresses.Asked.{Asked}
use Rattle.aml_frames.specs.declared.addresses.Asked.TheVariants as answers
use Rattle.aml_frames.specs.declared.addresses.PciAccess.{PciAccess}
use Rattle.aml_frames.specs.declared.addresses.RegionAccess.{RegionAccess}
use Rattle.aml_frames.specs.declared.addresses.Waited.{Waited}
use Rattle.aml_frames.specs.declared.addresses.Waited.TheVariants as waits
use Rattle.aml_frames.specs.declared.frames.Frame.TheVariants as frames
use Rattle.aml_frames.specs.declared.frames.Next.{Next}
use Rattle.aml_frames.specs.declared.frames.Next.TheVariants as next
use Rattle.aml_frames.specs.declared.uses.Accessed.TheVariants as object
use Rattle.aml_frames.specs.declared.uses.Doing.{Doing}
use Rattle.aml_frames.specs.declared.uses.Doing.TheVariants as doing
use Rattle.aml_frames.specs.declared.uses.Reading.TheVariants as reading
use Rattle.aml_frames.specs.Places.{Site}
use Rattle.aml_frames.specs.Addresses.{done_in, space_known, function_known, bus_known, bridges_left, segment_known, bridges_known, device_known, pci_run, part_known, waited_run, waited_met, part_met, Asks}
use Rattle.aml_frames.specs.Uses.{access_done, asking, read_as}
use Rattle.aml_frames.specs.Weights.{part_weight, region_weight, field_weight, next_weight}
use Rattle.aml_frames.specs.Follow.{entered_then, Leads}
use Rattle.aml_frames.proofs.Lent.{lent}
use Rattle.aml_frames.proofs.Stepping.{bind_bind, stepping, leads_ok, leads_err}
use Rattle.aml_frames.proofs.Targeting.{bind_as, bind_same, leads_nested, leads_given, leads_stopped}
use Rattle.aml_frames.proofs.Using.{given_one}

-- an answer takes one of the calls that are left
pub part_before : (calls : ℕ) → calls ≢ 0 → field_weight (calls - 1) ≤ part_weight calls
part_before zero h = absurd (h refl)
part_before (suc n) h = rw sub-one (omega arith)

-- a field asks for more than one of a region, and for more than what gives a flow
pub region_less : (r : Outcome Next) (calls : ℕ) → IfOk r (λ n. next_weight n < region_weight calls) → IfOk r (λ n. next_weight n < field_weight calls)
unfolding part_weight
region_less (Ok n) calls h = omega (arith, h)
region_less (Err e) calls h = tt

pub flow_less : (r : Outcome Next) (calls : ℕ) → IfOk r (λ n. next_weight n < 4) → IfOk r (λ n. next_weight n < field_weight calls)
unfolding part_weight
flow_less (Ok n) calls h = omega (arith, h)
flow_less (Err e) calls h = tt

module _ {S : Type 0} (ac : Accesses S) where
  region_is : (calls : ℕ) (f : RegionField) (d : Doing) (s : State S × ℕ) → access_done ac (meaning ac) calls (object.Unit f) d s ≡ (located ac (asking ac (meaning ac) calls) f.region >>= done_in ac d f) s
  unfolding region_bits region_written
  region_is calls f (doing.Read r) s = bind_bind (located ac (asking ac (meaning ac) calls) f.region) (λ x. lift (on_space (read_field ac x f.unit))) (read_as r f.unit.bits) s
  region_is calls f (doing.Write bytes) s = bind_bind (located ac (asking ac (meaning ac) calls) f.region) (λ x. lift (on_space (write_field ac x f.unit bytes))) (λ done. give flow.Next) s

  -- the access of a region that was declared
  abbrev declared_access : ℕ → RegionField → Doing → ℕ → ℕ → RegionAccess
  declared_access calls f d offset length = record { calls = calls; field = f; bank = None; offset = offset; length = length; doing = d }

  located_is : (calls : ℕ) (f : RegionField) (d : Doing) (s : State S × ℕ) → (located ac (asking ac (meaning ac) calls) f.region >>= done_in ac d f) s
      ≡ (lift (region_declared f.region) >>= (λ x. space_at ac (asking ac (meaning ac) calls) (space_numbered x.1.space) x.0 >>= (λ space. space_known ac (meaning ac) (declared_access calls f d x.1.offset x.1.length) space))) s
  unfolding located
  located_is calls f d s =
      bind_bind (lift (region_declared f.region)) _ (done_in ac d f) s
      ∙ bind_same (lift (region_declared f.region)) _ _ s (λ x i. bind_bind (space_at ac (asking ac (meaning ac) calls) (space_numbered x.1.space) x.0) _ (done_in ac d f) i
      ∙ bind_same (space_at ac (asking ac (meaning ac) calls) (space_numbered x.1.space) x.0) _ _ i (λ space j. given_one (record { space = space; offset = x.1.offset; length = x.1.length }) (done_in ac d f) j))

  pci_is : (a : RegionAccess) (scope : List Seg) (s : State S × ℕ) → pci_run ac (meaning ac) a scope s ≡ (lift (pci_function scope) >>= (λ p. device_known ac (meaning ac) a p)) s
  unfolding pci_address device_known bridges_known segment_known bridges_left bus_known function_known
  pci_is a scope s =
      let call = asking ac (meaning ac) a.calls in
      let k = space_known ac (meaning ac) a in
      bind_bind (lift (pci_function scope)) _ k s
      ∙ bind_same (lift (pci_function scope)) _ _ s (λ p h. bind_bind (lift (bridges_above p)) _ k h
      ∙ bind_same (lift (bridges_above p)) _ _ h (λ bridges i. bind_bind (inherited ac call segment_group p) _ k i
      ∙ bind_same (inherited ac call segment_group p) _ _ i (λ seg j. bind_bind (inherited ac call base_bus p) _ k j
      ∙ bind_same (inherited ac call base_bus p) _ _ j (λ bus l. bind_bind (bus_behind_all ac call seg bus bridges) _ k l
      ∙ bind_same (bus_behind_all ac call seg bus bridges) _ _ l (λ behind n. bind_bind (call (p ++ adr ∷ [])) (λ address. settle (pci_space seg behind address)) k n)))))

  -- what a control method gives, and what is left to do behind it
  method_is : (depth : ℕ) (p : List Seg) (body : List ℕ) (x : PciAccess) (s : State S × ℕ) → waited_met ac (meaning ac) (waits.Method depth p body) x s ≡ (invoked (meaning ac) depth p body [] >>= part_met ac (meaning ac) x) s
  unfolding method_integer method_value
  method_is depth p body x s =
      let m = invoked (meaning ac) depth p body [] in
      bind_bind (m >>= (λ f. give (value_of_call f))) (λ v. settle (integer_only v)) (part_known ac (meaning ac) x) s
      ∙ bind_bind m (λ f. give (value_of_call f)) (λ v. settle (integer_only v) >>= part_known ac (meaning ac) x) s
      ∙ bind_same m _ _ s (λ f i. given_one (value_of_call f) (λ v. settle (integer_only v) >>= part_known ac (meaning ac) x) i)

  part_told : (o : Outcome ℕ) (s : State S × ℕ) (k : ℕ → Run S Flow) → go_on o s k ≡ go_on (go_on o s (λ x. give (flow.Value (value.Integer x)))).0 (go_on o s (λ x. give (flow.Value (value.Integer x)))).1 (λ f. settle (integer_only (value_of_call f)) >>= k)
  unfolding go_on give settle stop ◌>>=◌
  part_told (Ok x) s k = refl
  part_told (Err e) s k = refl

  part_one : (count : ℕ) (bytes : List ℕ) (k : ℕ → Run S Flow) (s : State S × ℕ) → (lift (integer_alone count bytes) >>= k) s ≡ (lift (integer_alone count bytes) >>= (λ n. give (flow.Value (value.Integer n))) >>= (λ f. settle (integer_only (value_of_call f)) >>= k)) s
  unfolding lift ◌>>=◌
  part_one count bytes k s = part_told (integer_alone count bytes s.0).0 ((integer_alone count bytes s.0).1, s.1) k

  -- the bits of a field, and what is left to do behind them
  field_is : (calls : ℕ) (f : Field) (x : PciAccess) (s : State S × ℕ) → waited_met ac (meaning ac) (waits.Field calls f) x s ≡ (access_done ac (meaning ac) calls (object.Field f) (doing.Read reading.Part) >>= part_met ac (meaning ac) x) s
  unfolding field_part read_as
  field_is calls f x s =
      let m = bits_in ac (asking ac (meaning ac) calls) f in
      let k = part_known ac (meaning ac) x in
      bind_bind m (λ bytes. lift (integer_alone _ bytes)) k s
      ∙ bind_same m _ (λ bytes. lift (integer_alone _ bytes) >>= (λ n. give (flow.Value (value.Integer n))) >>= part_met ac (meaning ac) x) s (λ bytes i. part_one _ bytes k i)
      ∙ sym (bind_bind m (λ bytes. lift (integer_alone _ bytes) >>= (λ n. give (flow.Value (value.Integer n)))) (part_met ac (meaning ac) x) s)

module _ {S : Type 0} {ac : Accesses S} where
  pub leads_region : {r : Outcome Next} {c : Site} {s s1 : State S × ℕ} (calls : ℕ) (f : RegionField) (d : Doing)
      → Leads ac (meaning ac) r c s1 (lift (region_declared f.region) >>= (λ x. space_at ac (asking ac (meaning ac) calls) (space_numbered x.1.space) x.0 >>= (λ space. space_known ac (meaning ac) (declared_access ac calls f d x.1.offset x.1.length) space))) s
      → Leads ac (meaning ac) r c s1 (access_done ac (meaning ac) calls (object.Unit f) d) s
  leads_region {s = s} calls f d h = record { is = λ ne. region_is ac calls f d s ∙ located_is ac calls f d s ∙ h.is ne }

  pub leads_pci : {r : Outcome Next} {c : Site} {s s1 : State S × ℕ} (a : RegionAccess) (scope : List Seg) → Leads ac (meaning ac) r c s1 (lift (pci_function scope) >>= (λ p. device_known ac (meaning ac) a p)) s → Leads ac (meaning ac) r c s1 (pci_run ac (meaning ac) a scope) s
  leads_pci {s = s} a scope h = record { is = λ ne. pci_is ac a scope s ∙ h.is ne }

  pub leads_unit : {r : Outcome Next} {c : Site} {s s1 : State S × ℕ} (calls n : ℕ) (u : FieldUnit) (d : Doing) → u.source ≡ sources.Region n → Leads ac (meaning ac) r c s1 (access_done ac (meaning ac) calls (object.Unit (record { region = n; unit = u })) d) s → Leads ac (meaning ac) r c s1 (access_done ac (meaning ac) calls (object.Field (field.Unit u)) d) s
  leads_unit {s = s} calls n u (doing.Read r) e h = record { is = λ ne. bind_as _ _ (read_as r u.bits) s (ap (λ x. field_unit_bits ac (asking ac (meaning ac) calls) x u) e) ∙ h.is ne }
  leads_unit {s = s} calls n u (doing.Write bytes) e h = record { is = λ ne. bind_as _ _ (λ done. give flow.Next) s (ap (λ x. field_unit_written ac (asking ac (meaning ac) calls) x u bytes) e) ∙ h.is ne }

  -- ---- what is asked for

  pub leads_known : {r : Outcome Next} {c : Site} {s s1 s2 : State S × ℕ} (x : Asked) (n : ℕ) (m : Run S ℕ) (k : ℕ → Run S Flow) → Asks ac (meaning ac) (Ok x) s1 m s → x ≡ answers.Known n → Leads ac (meaning ac) r c s2 (k n) s1 → Leads ac (meaning ac) r c s2 (m >>= k) s
  unfolding ◌>>=◌ go_on give
  leads_known x n m k h e i = let j = rw e at h in record { is = λ ne. rw (j.is tt) (i.is ne) }

  pub leads_waits : {r : Outcome Next} {c : Site} {s s1 s2 : State S × ℕ} (x : Asked) (w : Waited) (m : Run S ℕ) (k : ℕ → Run S Flow) → Asks ac (meaning ac) (Ok x) s1 m s → x ≡ answers.Waits w → Leads ac (meaning ac) r c s2 (waited_run ac (meaning ac) w >>= k) s1 → Leads ac (meaning ac) r c s2 (m >>= k) s
  unfolding ◌>>=◌ go_on
  leads_waits x w m k h e i = let j = rw e at h in record { is = λ ne. rw (j.is tt) (i.is ne) }

  pub leads_unasked : {r : Outcome Next} {c : Site} {e : Refusal} {s s1 : State S × ℕ} (m : Run S ℕ) (k : ℕ → Run S Flow) → Asks ac (meaning ac) (Err e) s1 m s → IsErr r × IsErrAnd r (λ x. x ≡ e) → Leads ac (meaning ac) r c s1 (m >>= k) s
  unfolding ◌>>=◌ go_on stop
  leads_unasked {r = Ok x} m k h i = absurd (cc i.0)
  leads_unasked {r = Err x} m k h i = record { is = λ ne. rw (h.is (λ q. ne (i.1 ∙ q)), i.1) refl }

  -- ---- what is waited for

  pub leads_method : {r : Outcome Next} {c : Site} {s s1 : State S × ℕ} (depth : ℕ) (p : List Seg) (body : List ℕ) (x : PciAccess) → Leads ac (meaning ac) r c s1 (entered_then ac (meaning ac) depth p body (frames.Address x) c) s → Leads ac (meaning ac) r c s1 (waited_met ac (meaning ac) (waits.Method depth p body) x) s
  leads_method {s = s} depth p body x h = record { is = λ ne. method_is ac depth p body x s ∙ h.is ne }

  pub leads_part : {c : Site} {s : State S × ℕ} (calls : ℕ) (f : Field) (x : PciAccess) → Leads ac (meaning ac) (Ok (next.AccessThen (record { calls = calls; object = object.Field f; doing = doing.Read reading.Part }) (frames.Address x))) c s (waited_met ac (meaning ac) (waits.Field calls f) x) s
  leads_part {s = s} calls f x = record { is = λ _. field_is ac calls f x s }

  -- ---- how an answer is asked for

  pub asks_known : {s : State S × ℕ} (n : ℕ) → Asks ac (meaning ac) (Ok (answers.Known n)) s (give n) s
  asks_known n = record { is = λ _. refl }

  pub asks_settled : {s : State S × ℕ} (n : ℕ) (o : Outcome ℕ) → Answers (Ok n) o → Asks ac (meaning ac) (Ok (answers.Known n)) s (settle o) s
  unfolding settle give
  asks_settled n o h = record { is = λ _. rw (h.is tt) refl }

  pub asks_unsettled : {r : Outcome Asked} {e : Refusal} {s : State S × ℕ} (o : Outcome ℕ) → Answers {A = ℕ} (Err e) o → IsErr r × IsErrAnd r (λ x. x ≡ e) → Asks ac (meaning ac) r s (settle o) s
  unfolding settle stop
  asks_unsettled {r = Ok x} o h i = absurd (cc i.0)
  asks_unsettled {r = Err x} o h i = record { is = λ ne. rw (h.is (λ q. ne (i.1 ∙ q)), i.1) refl }

  pub asks_stop : {s : State S × ℕ} (e : Refusal) → Asks ac (meaning ac) (Err e) s (stop e) s
  asks_stop e = record { is = λ _. refl }

  pub asks_field : {s : State S × ℕ} (calls : ℕ) (f : Field) → Asks ac (meaning ac) (Ok (answers.Waits (waits.Field calls f))) s (field_part ac (asked (answer_within ac (meaning ac) calls)) f) s
  asks_field calls f = record { is = λ _. refl }

  pub asks_method : {s : State S × ℕ} (d depth : ℕ) (p : List Seg) (body : List ℕ) → d ≡ depth → Asks ac (meaning ac) (Ok (answers.Waits (waits.Method d p body))) s (method_integer ac (meaning ac) depth p body) s
  asks_method d depth p body e = rw e (record { is = λ _. refl })

  pub asks_ok : {A : Type 0} {x : A} {r : Outcome Asked} {w w1 : State S} {s2 : State S × ℕ} (b : ℕ) (m : Change (State S) A) (k : A → Run S ℕ) → Does (Ok x) w1 m w → Asks ac (meaning ac) r s2 (k x) (w1, b) → Asks ac (meaning ac) r s2 (lift m >>= k) (w, b)
  unfolding ◌>>=◌ go_on lift
  asks_ok b m k h i = record { is = λ ne. rw (h.is tt) (i.is ne) }

  pub asks_err : {A : Type 0} {e : Refusal} {r : Outcome Asked} {w w1 : State S} (b : ℕ) (m : Change (State S) A) (k : A → Run S ℕ) → Does {A = A} (Err e) w1 m w → IsErr r × IsErrAnd r (λ x. x ≡ e) → Asks ac (meaning ac) r (w1, b) (lift m >>= k) (w, b)
  unfolding ◌>>=◌ go_on lift stop
  asks_err {r = Ok x} b m k h i = absurd (cc i.0)
  asks_err {r = Err x} b m k h i = record { is = λ ne. rw (h.is (λ q. ne (i.1 ∙ q)), i.1) refl }

  pub asks_over : {r : Outcome Asked} {s s1 : State S × ℕ} (calls : ℕ) (i : Invocation) → calls ≢ 0 → Asks ac (meaning ac) r s1 (lift (call_allowed (32 - calls)) >>= (λ few. answer_over ac (meaning ac) (calls - 1) (asked (answer_within ac (meaning ac) (calls - 1))) i)) s → Asks ac (meaning ac) r s1 (answer_within ac (meaning ac) calls i) s
  unfolding answer_within
  asks_over zero i l h = absurd (l refl)
  asks_over (suc n) i l h = let made : 32 - suc n ≡ 31 - n = omega arith in rw (sub-one, made) at h

  pub asks_none : {s : State S × ℕ} (calls : ℕ) (i : Invocation) → calls ≡ 0 → Asks ac (meaning ac) (Err (refusal.Evaluation CallDepth)) s (answer_within ac (meaning ac) calls i) s
  unfolding answer_within
  asks_none calls i e = rw e (record { is = λ _. refl })

pub ruleset reading_as = (stepping, lent)

pub ruleset fields = (stepping, lent, leads_unit, region_less, flow_less)

pub ruleset regions = (stepping, leads_region, leads_pci)

pub ruleset spaces_known = (stepping, leads_given, leads_stopped)

pub ruleset parts_known = (stepping, leads_known, leads_waits, leads_unasked)

pub ruleset waiting = (stepping, leads_method, leads_part)

pub ruleset entering = (stepping, leads_nested)

pub ruleset answering = (running, part_before, asks_known, asks_settled, asks_unsettled, asks_stop, asks_field, asks_method, asks_ok, asks_err, asks_over, asks_none)
