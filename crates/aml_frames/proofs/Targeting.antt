-- Targets that stand next, and what their rules come to.
use Rattle.std.specs.Prelude.{◌≡◌, ◌≢◌, ◌-◌, ◌==◌, ℕ, zero, suc, List, true, false, Some, Ok, Err, refl}
use Rattle.std.proofs.Common.{◌∙◌, ap, sym, subst}
use Rattle.ar_space.specs.Accesses.{Accesses}
use Rattle.ar_space.specs.Outcome.{Outcome}
use Rattle.ar_space.specs.Change.{Change, Does, give, settle, stop, go_on, ◌>>=◌}
use Rattle.aml_path.specs.declared.segment.Seg.{Seg}
use Rattle.aml_grammar.specs.Names.{starts_name}
use Rattle.aml_grammar.specs.declared.opcode.TermCode.{TermCode}
use Rattle.aml_grammar.specs.declared.opcode.TermCode.TheVariants as codes
use Rattle.aml_grammar.specs.Tree.{Tree, term, Part, null, name, number, bytes, inner, list, Parts, no_parts, part}
use Rattle.aml_grammar.specs.Apart.{code_of, part_at}
use Rattle.aml_marks.specs.Marked.{Place, Below, first, over, count_at, a_term, a_name, a_super_name, a_target, with_row}
use Rattle.aml_scan.specs.RowsAt.{row_at}
use Rattle.aml_scan.specs.declared.row_places.RowPlace.{RowPlace}
use Rattle.aml_objects.specs.declared.value.Value.{Value}
use Rattle.aml_objects.specs.declared.value.Reference.{Reference}
use Rattle.aml_objects.specs.declared.value.Slot.{Slot}
use Rattle.ar_space.specs.declared.refusal.Refusal.{Refusal}
use Rattle.ar_space.specs.declared.refusal.Refusal.TheVariants as refusal
use Rattle.ar_space.specs.declared.refusal.NameFault.TheVariants.{BadName}
use Rattle.aml_world.specs.declared.values.store_target.StoreTarget.{StoreTarget}
use Rattle.aml_world.specs.declared.values.store_target.StoreTarget.TheVariants as targets
use Rattle.aml_world.specs.state.State.{State}
use Rattle.aml_world.specs.state.Run.{Run, lift, charge}
use Rattle.aml_world.specs.values.StoreTargets.{tested, reference_in, target_named}
use Rattle.aml_meaning.specs.declared.flow.Flow.{Flow}
use Rattle.aml_meaning.specs.declared.term_kind.TargetKind.{TargetKind}
use Rattle.aml_meaning.specs.declared.term_kind.TargetKind.TheVariants as kinds
use Rattle.aml_meaning.specs.Tasks.{Task, operand_value, value_at}
use Rattle.aml_meaning.specs.Terms.{target_kind}
use Rattle.aml_meaning.specs.Meaning.{meaning}
use Rattle.aml_meaning.proofs.Agree.{not_zero}
use Rattle.aml_meaning.specs.TargetTerms.{name_target, target_by_kind, target_of, first_target, part_target, target_at, indexed_target, dereferenced_target}
use Rattle.aml_frames.specs.declared.frames.Frame.TheVariants as frames
use Rattle.aml_frames.specs.declared.frames.Next.TheVariants as next
use Rattle.aml_frames.specs.declared.uses.TargetUse.{TargetUse}
use Rattle.aml_frames.specs.Places.{Site, at_place, terms, next_term, behind_term}
use Rattle.aml_frames.specs.Operands.{behind_one}
use Rattle.aml_frames.specs.Uses.{super, optional, operand_used, dereferenced_used, target_run, target_ends, use_ends, used}
use Rattle.aml_frames.specs.Follow.{Leads, EndsAt}
use Rattle.aml_frames.proofs.OperandShapes.{refers, a_super, an_argument}
use Rattle.aml_frames.proofs.Stepping.{bind_bind, leads_ok, leads_value}

-- ---- an operand that names a target: what the rules of trees say of it

name_part : {S : Type 0} (ev : Task → Run S Flow) (scope : List Seg) (c : TermCode) (ps : Parts) (i : ℕ) (n : _) → part_at ps i ≡ Some (name n) → name_target ev scope (term c ps) i ≡ lift (target_named scope n)
unfolding name_target settle ◌>>=◌ go_on
name_part ev scope c ps i n e = rw e refl

pub target_part_is : {S : Type 0} (ev : Task → Run S Flow) (scope : List Seg) (depth : ℕ) (c : TermCode) (ps : Parts) (i : ℕ) (z : Part) → part_at ps i ≡ Some z → target_at ev scope depth (term c ps) i ≡ part_target ev scope depth z
unfolding part_target
target_part_is ev scope depth c ps i null e = rw e refl
target_part_is ev scope depth c ps i (name n) e = rw e (name_part ev scope c ps i n e)
target_part_is ev scope depth c ps i (number n) e = rw e refl
target_part_is ev scope depth c ps i (bytes bs) e = rw e refl
target_part_is ev scope depth c ps i (inner u) e = rw e refl
target_part_is ev scope depth c ps i (list ts) e = rw e refl

first_is : {S : Type 0} (ev : Task → Run S Flow) (scope : List Seg) (depth : ℕ) (c : TermCode) (ps : Parts) → first_target ev scope depth ps ≡ target_at ev scope depth (term c ps) 0
unfolding first_target
first_is ev scope depth c no_parts = refl
first_is ev scope depth c (part p qs) = sym (target_part_is ev scope depth c (part p qs) 0 p refl)

target_is : {S : Type 0} (ev : Task → Run S Flow) (scope : List Seg) (depth : ℕ) (t : Tree) → target_of ev scope depth t ≡ target_by_kind ev scope depth t (target_at ev scope depth t 0) (target_kind (code_of t))
unfolding target_of
target_is ev scope depth (term c ps) = ap (λ m. target_by_kind ev scope depth (term c ps) m (target_kind c)) (first_is ev scope depth c ps)

-- ---- a name, a term or nothing stands next

pub named_part : (b : Below) (p : Place) → starts_name (first p.rest) ≡ true → a_super_name b p ≡ (name (a_name p).0, (a_name p).1)
unfolding a_super_name
named_part b p e = rw e refl

pub term_part : (b : Below) (p : Place) → starts_name (first p.rest) ≡ false → a_super_name b p ≡ (inner (b false p).0, behind_one b p)
unfolding a_super_name
term_part b p e = rw e refl

null_part : (b : Below) (p : Place) → first p.rest ≡ 0 → a_target b p ≡ (null, over 1 p)
unfolding a_target
null_part b p e = rw e refl

nonzero : (n : ℕ) → n ≢ 0 → (n == 0) ≡ false
nonzero zero e = absurd (e refl)
nonzero (suc n) e = not_zero n

some_part : (b : Below) (p : Place) → first p.rest ≢ 0 → a_target b p ≡ a_super_name b p
unfolding a_target a_super_name
some_part b p e = rw (nonzero (first p.rest) e) refl

go_same : {H A B : Type 0} (r : Outcome A) (h : H) (k l : A → Change H B) → ((a : A) (i : H) → k a i ≡ l a i) → go_on r h k ≡ go_on r h l
unfolding go_on
go_same (Ok a) h k l e = e a h
go_same (Err x) h k l e = refl

pub bind_same : {H A B : Type 0} (m : Change H A) (k l : A → Change H B) (h : H) → ((a : A) (i : H) → k a i ≡ l a i) → (m >>= k) h ≡ (m >>= l) h
unfolding ◌>>=◌
bind_same m k l h e = go_same (m h).0 (m h).1 k l e

pub bind_as : {H A B : Type 0} (m n : Change H A) (k : A → Change H B) (h : H) → m ≡ n → (m >>= k) h ≡ (n >>= k) h
bind_as m n k h e = ap (λ (x : Change _ _). (x >>= k) h) e

-- ---- what stands next names a target

part_name : {S : Type 0} (ev : Task → Run S Flow) (scope : List Seg) (depth : ℕ) (n : _) → part_target ev scope depth (name n) ≡ lift (target_named scope n)
unfolding part_target
part_name ev scope depth n = refl

part_inner : {S : Type 0} (ev : Task → Run S Flow) (scope : List Seg) (depth : ℕ) (u : Tree) → part_target ev scope depth (inner u) ≡ target_of ev scope depth u
unfolding part_target
part_inner ev scope depth u = refl

part_null : {S : Type 0} (ev : Task → Run S Flow) (scope : List Seg) (depth : ℕ) → part_target ev scope depth null ≡ give targets.Nowhere
unfolding part_target
part_null ev scope depth = refl

-- the target that an operand names, used where evaluation stands behind it
abbrev aimed : {S : Type 0} → Accesses S → TargetUse → Site → Part × Place → Run S Flow
aimed ac u c y = part_target (meaning ac) c.scope c.depth y.0 >>= used ac (meaning ac) u (at_place c y.1)

pub ends_named : (c : Site) (levels : ℕ) (u : TargetUse) (x : Site) → starts_name (first c.place.rest) ≡ true → x ≡ use_ends u (at_place c (a_name c.place).1) → x ≡ target_ends (super levels) u c
ends_named c levels u x e h = h ∙ ap (λ (y : Part × Place). use_ends u (at_place c y.1)) (sym (named_part (terms c levels) c.place e))

pub ends_term : (c : Site) (levels : ℕ) (u : TargetUse) (x : Site) → starts_name (first c.place.rest) ≡ false → x ≡ use_ends u (behind_term c levels) → x ≡ target_ends (super levels) u c
ends_term c levels u x e h = h ∙ ap (λ (y : Part × Place). use_ends u (at_place c y.1)) (sym (term_part (terms c levels) c.place e))

pub ends_nowhere : (c : Site) (levels : ℕ) (u : TargetUse) (x : Site) → first c.place.rest ≡ 0 → x ≡ use_ends u (at_place c (over 1 c.place)) → x ≡ target_ends (optional levels) u c
ends_nowhere c levels u x e h = h ∙ ap (λ (y : Part × Place). use_ends u (at_place c y.1)) (sym (null_part (terms c levels) c.place e))

pub ends_somewhere : (r : _) (d c : Site) (levels : ℕ) (u : TargetUse) → first c.place.rest ≢ 0 → EndsAt r d (target_ends (super levels) u c) → EndsAt r d (target_ends (optional levels) u c)
ends_somewhere r d c levels u e h = subst (λ (y : Part × Place). EndsAt r d (use_ends u (at_place c y.1))) (sym (some_part (terms c levels) c.place e)) h

index_run : {S A : Type 0} (o : Outcome A) (m : A → StoreTarget) (k : StoreTarget → Run S Flow) (s : State S × ℕ) → (settle o >>= (λ r. give (m r)) >>= k) s ≡ (settle o >>= (λ r. k (m r))) s
unfolding settle give stop ◌>>=◌ go_on
index_run (Ok a) m k s = refl
index_run (Err e) m k s = refl

tested_run : {S : Type 0} (o : Outcome Reference) (k : StoreTarget → Run S Flow) (s : State S × ℕ) → (settle o >>= (λ r. lift (tested r) >>= (λ there. give (targets.Refers r))) >>= k) s ≡ (settle o >>= (λ r. lift (tested r) >>= (λ there. k (targets.Refers r)))) s
unfolding settle give stop ◌>>=◌ go_on
tested_run (Ok r) k s = bind_bind (lift (tested r)) (λ there. give (targets.Refers r)) k s
tested_run (Err e) k s = refl

module _ {S : Type 0} {ac : Accesses S} where
  pub leads_nested : {A B : Type 0} {r : _} {c : Site} {s s1 : State S × ℕ} (m : Run S A) (l : A → Run S B) (k : B → Run S Flow) → Leads ac (meaning ac) r c s1 (m >>= (λ a. l a >>= k)) s → Leads ac (meaning ac) r c s1 (m >>= l >>= k) s
  leads_nested {s = s} m l k h = record { is = λ ne. bind_bind m l k s ∙ h.is ne }

  pub leads_given : {A : Type 0} {r : _} {c : Site} {s s1 : State S × ℕ} (x : A) (k : A → Run S Flow) → Leads ac (meaning ac) r c s1 (k x) s → Leads ac (meaning ac) r c s1 (give x >>= k) s
  unfolding give ◌>>=◌ go_on
  leads_given x k h = record { is = λ ne. h.is ne }

  leads_as : {A : Type 0} {r : _} {d : Site} {s s1 : State S × ℕ} (m n : Run S A) (k : A → Run S Flow) → m ≡ n → Leads ac (meaning ac) r d s1 (n >>= k) s → Leads ac (meaning ac) r d s1 (m >>= k) s
  leads_as {r = r} {d = d} {s = s} {s1 = s1} m n k e h = subst (λ (x : Run S _). Leads ac (meaning ac) r d s1 (x >>= k) s) (sym e) h

  pub leads_stopped : {A : Type 0} {d : Site} {s : State S × ℕ} (x : Refusal) (k : A → Run S Flow) → Leads ac (meaning ac) (Err x) d s (stop x >>= k) s
  unfolding stop ◌>>=◌ go_on
  leads_stopped x k = record { is = λ _. refl }

  pub leads_named : {r : _} {d : Site} {s s1 : State S × ℕ} (c : Site) (levels : ℕ) (u : TargetUse) → starts_name (first c.place.rest) ≡ true → Leads ac (meaning ac) r d s1 (lift (target_named c.scope (a_name c.place).0) >>= used ac (meaning ac) u (at_place c (a_name c.place).1)) s → Leads ac (meaning ac) r d s1 (target_run ac (meaning ac) (super levels) u c) s
  leads_named {r = r} {d = d} {s = s} {s1 = s1} c levels u e h =
      subst (λ (y : Part × Place). Leads ac (meaning ac) r d s1 (aimed ac u c y) s) (sym (named_part (terms c levels) c.place e))
      (leads_as _ _ _ (part_name (meaning ac) c.scope c.depth (a_name c.place).0) h)

  pub leads_by_kind : {r : _} {d : Site} {s s1 : State S × ℕ} (c : Site) (levels : ℕ) (u : TargetUse) (k : TargetKind) → starts_name (first c.place.rest) ≡ false → k ≡ target_kind (code_of (next_term c levels))
      → Leads ac (meaning ac) r d s1 (target_by_kind (meaning ac) c.scope c.depth (next_term c levels) (target_at (meaning ac) c.scope c.depth (next_term c levels) 0) k >>= used ac (meaning ac) u (behind_term c levels)) s
      → Leads ac (meaning ac) r d s1 (target_run ac (meaning ac) (super levels) u c) s
  leads_by_kind {r = r} {d = d} {s = s} {s1 = s1} c levels u k e i h =
      let t = next_term c levels in
      subst (λ (y : Part × Place). Leads ac (meaning ac) r d s1 (aimed ac u c y) s) (sym (term_part (terms c levels) c.place e))
      (leads_as _ _ _ (part_inner (meaning ac) c.scope c.depth t ∙ target_is (meaning ac) c.scope c.depth t ∙ ap (target_by_kind (meaning ac) c.scope c.depth t (target_at (meaning ac) c.scope c.depth t 0)) (sym i)) h)

  pub leads_debug : {r : _} {d : Site} {s s1 : State S × ℕ} (c : Site) (levels : ℕ) (u : TargetUse) (k : TargetKind) → starts_name (first c.place.rest) ≡ false → k ≡ target_kind (code_of (next_term c levels)) → k ≡ kinds.Nowhere → Leads ac (meaning ac) r d s1 (used ac (meaning ac) u (behind_term c levels) targets.Nowhere) s → Leads ac (meaning ac) r d s1 (target_run ac (meaning ac) (super levels) u c) s
  leads_debug c levels u k e i j h = leads_by_kind c levels u kinds.Nowhere e (sym j ∙ i) (leads_given targets.Nowhere _ h)

  pub leads_slot : {r : _} {d : Site} {s s1 : State S × ℕ} (c : Site) (levels : ℕ) (u : TargetUse) (k : TargetKind) (slot : Slot) → starts_name (first c.place.rest) ≡ false → k ≡ target_kind (code_of (next_term c levels)) → k ≡ kinds.Slot slot → Leads ac (meaning ac) r d s1 (used ac (meaning ac) u (behind_term c levels) (targets.Slot slot)) s → Leads ac (meaning ac) r d s1 (target_run ac (meaning ac) (super levels) u c) s
  leads_slot c levels u k slot e i j h = leads_by_kind c levels u (kinds.Slot slot) e (sym j ∙ i) (leads_given (targets.Slot slot) _ h)

  pub leads_operand : {r : _} {d : Site} {s s1 : State S × ℕ} (c : Site) (levels : ℕ) (u : TargetUse) (k : TargetKind) → starts_name (first c.place.rest) ≡ false → k ≡ target_kind (code_of (next_term c levels)) → k ≡ kinds.RefOf → Leads ac (meaning ac) r d s1 (operand_used ac (meaning ac) levels u c) s → Leads ac (meaning ac) r d s1 (target_run ac (meaning ac) (super levels) u c) s
  leads_operand c levels u k e i j h = leads_by_kind c levels u kinds.RefOf e (sym j ∙ i) h

  pub leads_dereferenced : {r : _} {d : Site} {s s1 : State S × ℕ} (c : Site) (levels : ℕ) (u : TargetUse) (k : TargetKind) → starts_name (first c.place.rest) ≡ false → k ≡ target_kind (code_of (next_term c levels)) → k ≡ kinds.DerefOf → Leads ac (meaning ac) r d s1 (dereferenced_used ac (meaning ac) levels u c) s → Leads ac (meaning ac) r d s1 (target_run ac (meaning ac) (super levels) u c) s
  leads_dereferenced c levels u k e i j h = leads_by_kind c levels u kinds.DerefOf e (sym j ∙ i) h

  pub leads_nowhere : {r : _} {d : Site} {s s1 : State S × ℕ} (c : Site) (levels : ℕ) (u : TargetUse) → first c.place.rest ≡ 0 → Leads ac (meaning ac) r d s1 (used ac (meaning ac) u (at_place c (over 1 c.place)) targets.Nowhere) s → Leads ac (meaning ac) r d s1 (target_run ac (meaning ac) (optional levels) u c) s
  leads_nowhere {r = r} {d = d} {s = s} {s1 = s1} c levels u e h =
      subst (λ (y : Part × Place). Leads ac (meaning ac) r d s1 (aimed ac u c y) s) (sym (null_part (terms c levels) c.place e))
      (leads_as _ _ _ (part_null (meaning ac) c.scope c.depth) (leads_given targets.Nowhere _ h))

  pub leads_somewhere : {r : _} {d : Site} {s s1 : State S × ℕ} (c : Site) (levels : ℕ) (u : TargetUse) → first c.place.rest ≢ 0 → Leads ac (meaning ac) r d s1 (target_run ac (meaning ac) (super levels) u c) s → Leads ac (meaning ac) r d s1 (target_run ac (meaning ac) (optional levels) u c) s
  leads_somewhere {r = r} {d = d} {s = s} {s1 = s1} c levels u e h = subst (λ (y : Part × Place). Leads ac (meaning ac) r d s1 (aimed ac u c y) s) (sym (some_part (terms c levels) c.place e)) h

  pub leads_index : {c : Site} {s : State S × ℕ} (levels : ℕ) (u : TargetUse) → Leads ac (meaning ac) (Ok (next.Term levels (frames.IndexTarget u))) c s (indexed_target (meaning ac) c.scope c.depth (next_term c levels) >>= used ac (meaning ac) u (behind_term c levels)) s
  unfolding indexed_target
  leads_index {c = c} {s = s} levels u =
      let k = used ac (meaning ac) u (behind_term c levels) in
      let v = operand_value (meaning ac) c.scope c.depth (next_term c levels) in
      record {
        is = λ _.
            bind_bind v (λ x. settle (reference_in x) >>= (λ r. give (targets.Refers r))) k s
            ∙ bind_same v _ _ s (λ x i. index_run (reference_in x) targets.Refers k i)
            ∙ (leads_value {c = c} {s = s} levels (frames.IndexTarget u) (λ x. settle (reference_in x) >>= (λ r. k (targets.Refers r))) refl).is tt;
      }

  pub leads_indexed : {s : State S × ℕ} (c : Site) (levels : ℕ) (u : TargetUse) (k : TargetKind) → starts_name (first c.place.rest) ≡ false → k ≡ target_kind (code_of (next_term c levels)) → k ≡ kinds.Index → Leads ac (meaning ac) (Ok (next.Term levels (frames.IndexTarget u))) c s (target_run ac (meaning ac) (super levels) u c) s
  leads_indexed c levels u k e i j = leads_by_kind c levels u kinds.Index e (sym j ∙ i) (leads_index levels u)

  pub leads_no_target : {d : Site} {s : State S × ℕ} (c : Site) (levels : ℕ) (u : TargetUse) (k : TargetKind) → starts_name (first c.place.rest) ≡ false → k ≡ target_kind (code_of (next_term c levels)) → k ≡ kinds.Other → Leads ac (meaning ac) (Err (refusal.Name BadName)) d s (target_run ac (meaning ac) (super levels) u c) s
  leads_no_target {s = s} c levels u k e i j = leads_by_kind c levels u kinds.Other e (sym j ∙ i) (leads_stopped _ _)

-- a term that refers to a target has an opcode
no_other_ref : kinds.Other ≢ kinds.RefOf
no_other_ref e = absurd (cc e)

no_other_deref : kinds.Other ≢ kinds.DerefOf
no_other_deref e = absurd (cc e)

kind_behind : (k : TargetKind) (t u : Tree) → t ≡ u → target_kind (code_of t) ≡ k → target_kind (code_of u) ≡ k
kind_behind k t u e h = ap (λ x. target_kind (code_of x)) (sym e) ∙ h

module _ (b : Below) (o : RowPlace) (q : Place) (x : Tree × Place) where
  -- RefOf: its operand names a target
  behind_named : x ≡ with_row b (row_at o) q → target_kind (code_of x.0) ≡ kinds.RefOf → (a_super_name b q).1 ≡ x.1
  behind_named e k =
      let r = refers kinds.RefOf b o q (kind_behind kinds.RefOf x.0 (with_row b (row_at o) q).0 (ap (λ y. y.0) e) k) no_other_ref in
      sym (ap (λ y. y.1) e ∙ rw (r.1.0, a_super b r.0 q r.1.1) refl)

  is_named : {S : Type 0} (ev : Task → Run S Flow) (scope : List Seg) (depth : ℕ) → x ≡ with_row b (row_at o) q → target_kind (code_of x.0) ≡ kinds.RefOf → target_at ev scope depth x.0 0 ≡ part_target ev scope depth (a_super_name b q).0
  is_named ev scope depth e k =
      let r = refers kinds.RefOf b o q (kind_behind kinds.RefOf x.0 (with_row b (row_at o) q).0 (ap (λ y. y.0) e) k) no_other_ref in
      rw (e, r.1.0, a_super b r.0 q r.1.1) (target_part_is ev scope depth (codes.Opcode r.0.0) (part (a_super_name b q).0 no_parts) 0 (a_super_name b q).0 refl)

  -- DerefOf: its operand has a value
  behind_valued : x ≡ with_row b (row_at o) q → target_kind (code_of x.0) ≡ kinds.DerefOf → behind_one b q ≡ x.1
  behind_valued e k =
      let r = refers kinds.DerefOf b o q (kind_behind kinds.DerefOf x.0 (with_row b (row_at o) q).0 (ap (λ y. y.0) e) k) no_other_deref in
      sym (ap (λ y. y.1) e ∙ rw (r.1.0, an_argument b r.0 q r.1.1) refl)

  is_valued : {S : Type 0} (ev : Task → Run S Flow) (scope : List Seg) (depth : ℕ) → x ≡ with_row b (row_at o) q → target_kind (code_of x.0) ≡ kinds.DerefOf → value_at ev scope depth x.0 0 ≡ operand_value ev scope depth (b false q).0
  unfolding value_at settle ◌>>=◌ go_on
  is_valued ev scope depth e k =
      let r = refers kinds.DerefOf b o q (kind_behind kinds.DerefOf x.0 (with_row b (row_at o) q).0 (ap (λ y. y.0) e) k) no_other_deref in
      rw (e, r.1.0, an_argument b r.0 q r.1.1) refl

module _ {S : Type 0} {ac : Accesses S} where
  ref_of : {s : State S × ℕ} (c : Site) (q : Place) (levels : ℕ) (o : RowPlace) (u : TargetUse) → a_term (count_at c.marks) levels false c.place ≡ with_row (a_term (count_at c.marks) (levels - 1)) (row_at o) q → target_kind (code_of (next_term c levels)) ≡ kinds.RefOf
      → Leads ac (meaning ac) (Ok (next.Target (super (levels - 1)) u)) (at_place c q) s (target_at (meaning ac) c.scope c.depth (next_term c levels) 0 >>= used ac (meaning ac) u (behind_term c levels)) s
  ref_of {s = s} c q levels o u e k =
      let b = a_term (count_at c.marks) (levels - 1) in
      let x = a_term (count_at c.marks) levels false c.place in
      record { is = λ _. bind_as _ _ (used ac (meaning ac) u (at_place c x.1)) s (is_named b o q x (meaning ac) c.scope c.depth e k) ∙ ap (λ p. (part_target (meaning ac) c.scope c.depth (a_super_name b q).0 >>= used ac (meaning ac) u (at_place c p)) s) (sym (behind_named b o q x e k)) }

  pub leads_ref_of : {s : State S × ℕ} (c d : Site) (levels : ℕ) (o : RowPlace) (u : TargetUse) → a_term (count_at c.marks) levels false c.place ≡ with_row (a_term (count_at c.marks) (levels - 1)) (row_at o) d.place → d ≡ at_place c d.place → target_kind (code_of (next_term c levels)) ≡ kinds.RefOf
      → Leads ac (meaning ac) (Ok (next.Target (super (levels - 1)) u)) d s (target_at (meaning ac) c.scope c.depth (next_term c levels) 0 >>= used ac (meaning ac) u (behind_term c levels)) s
  leads_ref_of {s = s} c d levels o u e i k = subst (λ (x : Site). Leads ac (meaning ac) (Ok (next.Target (super (levels - 1)) u)) x s (target_at (meaning ac) c.scope c.depth (next_term c levels) 0 >>= used ac (meaning ac) u (behind_term c levels)) s) (sym i) (ref_of c d.place levels o u e k)

  deref : {s : State S × ℕ} (c : Site) (q : Place) (levels : ℕ) (o : RowPlace) (u : TargetUse) → a_term (count_at c.marks) levels false c.place ≡ with_row (a_term (count_at c.marks) (levels - 1)) (row_at o) q → target_kind (code_of (next_term c levels)) ≡ kinds.DerefOf
      → Leads ac (meaning ac) (Ok (next.Term (levels - 1) (frames.DerefTarget u))) (at_place c q) s (value_at (meaning ac) c.scope c.depth (next_term c levels) 0 >>= (λ v. settle (reference_in v) >>= (λ r. lift (tested r) >>= (λ there. give (targets.Refers r)))) >>= used ac (meaning ac) u (behind_term c levels)) s
  deref {s = s} c q levels o u e k =
      let b = a_term (count_at c.marks) (levels - 1) in
      let x = a_term (count_at c.marks) levels false c.place in
      let aim : Place → StoreTarget → Run S Flow = λ p. used ac (meaning ac) u (at_place c p) in
      let v = operand_value (meaning ac) c.scope c.depth (b false q).0 in
      record {
        is = λ _.
            ap (λ (m : Run S Value). (m >>= (λ v. settle (reference_in v) >>= (λ r. lift (tested r) >>= (λ there. give (targets.Refers r)))) >>= aim x.1) s) (is_valued b o q x (meaning ac) c.scope c.depth e k)
            ∙ bind_bind v (λ v. settle (reference_in v) >>= (λ r. lift (tested r) >>= (λ there. give (targets.Refers r)))) (aim x.1) s
            ∙ bind_same v _ _ s (λ a i. tested_run (reference_in a) (aim x.1) i)
            ∙ ap (λ p. (v >>= (λ a. settle (reference_in a) >>= (λ r. lift (tested r) >>= (λ there. aim p (targets.Refers r))))) s) (sym (behind_valued b o q x e k))
            ∙ (leads_value {c = at_place c q} {s = s} (levels - 1) (frames.DerefTarget u) (λ a. settle (reference_in a) >>= (λ r. lift (tested r) >>= (λ there. aim (b false q).1 (targets.Refers r)))) refl).is tt;
      }

  pub leads_deref : {s : State S × ℕ} (c d : Site) (levels : ℕ) (o : RowPlace) (u : TargetUse) → a_term (count_at c.marks) levels false c.place ≡ with_row (a_term (count_at c.marks) (levels - 1)) (row_at o) d.place → d ≡ at_place c d.place → target_kind (code_of (next_term c levels)) ≡ kinds.DerefOf
      → Leads ac (meaning ac) (Ok (next.Term (levels - 1) (frames.DerefTarget u))) d s (value_at (meaning ac) c.scope c.depth (next_term c levels) 0 >>= (λ v. settle (reference_in v) >>= (λ r. lift (tested r) >>= (λ there. give (targets.Refers r)))) >>= used ac (meaning ac) u (behind_term c levels)) s
  leads_deref {s = s} c d levels o u e i k = subst (λ (x : Site). Leads ac (meaning ac) (Ok (next.Term (levels - 1) (frames.DerefTarget u))) x s (value_at (meaning ac) c.scope c.depth (next_term c levels) 0 >>= (λ v. settle (reference_in v) >>= (λ r. lift (tested r) >>= (λ there. give (targets.Refers r)))) >>= used ac (meaning ac) u (behind_term c levels)) s) (sym i) (deref c d.place levels o u e k)

  -- the step of each is paid
  pub leads_ref_paid : {x : Unit {0}} {s s1 : State S × ℕ} (c d : Site) (levels : ℕ) (o : RowPlace) (u : TargetUse) → Does (Ok x) s1 charge s → a_term (count_at c.marks) levels false c.place ≡ with_row (a_term (count_at c.marks) (levels - 1)) (row_at o) d.place → d ≡ at_place c d.place → target_kind (code_of (next_term c levels)) ≡ kinds.RefOf
      → Leads ac (meaning ac) (Ok (next.Target (super (levels - 1)) u)) d s1 (operand_used ac (meaning ac) levels u c) s
  leads_ref_paid c d levels o u h e i k = leads_nested charge _ _ (leads_ok charge _ h (leads_ref_of c d levels o u e i k))

  pub leads_deref_paid : {x : Unit {0}} {s s1 : State S × ℕ} (c d : Site) (levels : ℕ) (o : RowPlace) (u : TargetUse) → Does (Ok x) s1 charge s → a_term (count_at c.marks) levels false c.place ≡ with_row (a_term (count_at c.marks) (levels - 1)) (row_at o) d.place → d ≡ at_place c d.place → target_kind (code_of (next_term c levels)) ≡ kinds.DerefOf
      → Leads ac (meaning ac) (Ok (next.Term (levels - 1) (frames.DerefTarget u))) d s1 (dereferenced_used ac (meaning ac) levels u c) s
  unfolding dereferenced_target
  leads_deref_paid c d levels o u h e i k = leads_nested charge _ _ (leads_ok charge _ h (leads_deref c d levels o u e i k))

-- where they end
pub ends_ref_of : (c d : Site) (levels : ℕ) (o : RowPlace) (u : TargetUse) → a_term (count_at c.marks) levels false c.place ≡ with_row (a_term (count_at c.marks) (levels - 1)) (row_at o) d.place → d ≡ at_place c d.place → target_kind (code_of (next_term c levels)) ≡ kinds.RefOf → target_ends (super (levels - 1)) u d ≡ use_ends u (behind_term c levels)
ends_ref_of c d levels o u e i k = ap (λ (x : Site). target_ends (super (levels - 1)) u (at_place x d.place)) i ∙ ap (λ p. use_ends u (at_place c p)) (behind_named (a_term (count_at c.marks) (levels - 1)) o d.place (a_term (count_at c.marks) levels false c.place) e k)

pub ends_deref : (c d : Site) (levels : ℕ) (o : RowPlace) (u : TargetUse) → a_term (count_at c.marks) levels false c.place ≡ with_row (a_term (count_at c.marks) (levels - 1)) (row_at o) d.place → d ≡ at_place c d.place → target_kind (code_of (next_term c levels)) ≡ kinds.DerefOf → use_ends u (behind_term d (levels - 1)) ≡ use_ends u (behind_term c levels)
ends_deref c d levels o u e i k = ap (λ (x : Site). use_ends u (behind_term (at_place x d.place) (levels - 1))) i ∙ ap (λ p. use_ends u (at_place c p)) (behind_valued (a_term (count_at c.marks) (levels - 1)) o d.place (a_term (count_at c.marks) levels false c.place) e k)

pub ruleset aiming = (leads_nowhere, ends_nowhere, leads_somewhere, ends_somewhere)

pub ruleset kinds_of_targets = (leads_debug, leads_slot, leads_operand, leads_dereferenced, leads_indexed, leads_no_target, ends_term)

pub ruleset names_of_targets = (leads_named, ends_named)

pub ruleset operands_of_targets = (leads_nested, leads_ref_of, leads_deref, ends_ref_of, ends_deref)
