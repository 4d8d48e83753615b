-- Match: steps keep what its rule means.
use Rattle.std.specs.Prelude.{◌≡◌, ◌<◌, ◌-◌, ℕ, zero, suc, Bool, true, false, Option, Some, None, Ok, Err, IfErr, IsErr, IsErrAnd, refl}
use Rattle.std.proofs.Common.{◌∙◌, ap, sym, subst, arith, sub-one}
use Rattle.ar_space.specs.Accesses.{Accesses}
use Rattle.ar_space.specs.Outcome.{Outcome}
use Rattle.ar_space.specs.Change.{Does, give, settle, go_on, ◌>>=◌}
use Rattle.ar_space.specs.declared.refusal.Refusal.{Refusal}
use Rattle.aml_grammar.specs.declared.opcode.TermCode.TheVariants as codes
use Rattle.aml_grammar.specs.Tree.{term}
use Rattle.aml_marks.specs.Marked.{Place, first, an_integer, over}
use Rattle.aml_objects.specs.declared.entry.Field.{Field}
use Rattle.aml_objects.specs.declared.value.Value.{Value}
use Rattle.aml_objects.specs.declared.value.Value.TheVariants as value
use Rattle.aml_world.specs.declared.values.searches.Search.{Search}
use Rattle.aml_world.specs.declared.values.store_target.Held.{Held}
use Rattle.aml_world.specs.declared.values.store_target.Held.TheVariants as held
use Rattle.aml_world.specs.state.State.{State}
use Rattle.aml_world.specs.state.Run.{Run, lift}
use Rattle.aml_world.specs.fields.Fields.{field_value}
use Rattle.aml_world.specs.values.Searches.{element_held, value_meets}
use Rattle.aml_meaning.specs.declared.flow.Flow.{Flow}
use Rattle.aml_meaning.specs.declared.flow.Flow.TheVariants as flow
use Rattle.aml_meaning.specs.Tasks.{value_in, operand_value, value_at}
use Rattle.aml_meaning.specs.Meaning.{meaning}
use Rattle.aml_meaning.specs.FieldCalls.{asked, answer_within}
use Rattle.aml_meaning.specs.MatchTerms.{held_meets, if_held, element_meets, found_or, none_matches, searched_last, match_rule}
use Rattle.aml_meaning.proofs.Runs.{does_lift, running}
use Rattle.aml_frames.specs.declared.frames.Frame.{Frame}
use Rattle.aml_frames.specs.declared.frames.Frame.TheVariants as frames
use Rattle.aml_frames.specs.declared.frames.MatchPart.TheVariants as parts
use Rattle.aml_frames.specs.declared.frames.Next.{Next}
use Rattle.aml_frames.specs.declared.frames.Next.TheVariants as next
use Rattle.aml_frames.specs.declared.uses.Reading.TheVariants as reading
use Rattle.aml_frames.specs.Places.{Site, at_place, terms, next_term, behind_term}
use Rattle.aml_frames.specs.Operands.{match_at}
use Rattle.aml_frames.specs.Matching.{next_byte, behind_byte, match_run, match_left, element_read}
use Rattle.aml_frames.specs.Follow.{read_access, resumed, Leads}
use Rattle.aml_frames.specs.Uses.{access_run}
use Rattle.aml_frames.proofs.Stepping.{bind_bind, leads_value, leads_value_at, leads_lift_err, stepping}
use Rattle.aml_frames.proofs.Targeting.{bind_same}
use Rattle.aml_frames.proofs.Using.{given_one, value_read}
use Rattle.aml_frames.proofs.Indexing.{bound, after_same}
use Rattle.aml_frames.proofs.Weighing.{match_enough}

pub some_is : (o : Option Held) (h k : Held) → o ≡ Some h → h ≡ k → o ≡ Some k
some_is o h k e f = e ∙ ap Some f

module _ {S : Type 0} (ac : Accesses S) (depth : ℕ) (x : Search) where
  -- the elements from one on, of which so many are left: that one, and then the others
  abbrev pub others : ℕ → Bool → Run S Flow
  others left met = found_or met (x.count - left) (searched_last ac (meaning ac) depth x (left - 1))

  abbrev pub last : ℕ → Run S Flow
  last left = searched_last ac (meaning ac) depth x left

  -- what the element at an index holds
  abbrev pub Holds : State S → ℕ → Outcome (Option Held) → Type 0
  Holds w index o = Does o w (element_held x.source index) w

  one_at : (n m : ℕ) → m ≡ n → (s : State S × ℕ) → last (suc n) s ≡ (lift (element_held x.source (x.count - suc n)) >>= (λ o. if_held ac (meaning ac) depth x o >>= (λ met. found_or met (x.count - suc n) (last m)))) s
  unfolding searched_last element_meets
  one_at n m e s = rw e (bind_bind (lift (element_held x.source (x.count - suc n))) (λ o. if_held ac (meaning ac) depth x o) (λ met. found_or met (x.count - suc n) (last n)) s)

  one_is : (left : ℕ) → 0 < left → (s : State S × ℕ) → last left s ≡ (lift (element_held x.source (x.count - left)) >>= (λ o. if_held ac (meaning ac) depth x o >>= others left)) s
  one_is zero h s = absurd (omega (arith, h))
  one_is (suc n) h s = one_at n (suc n - 1) (omega arith) s

  held_is : (w : State S) (b left index : ℕ) (o : Option Held) → 0 < left → index ≡ x.count - left → Holds w index (Ok o) → last left (w, b) ≡ (if_held ac (meaning ac) depth x o >>= others left) (w, b)
  held_is w b left index o h k i =
      let j = rw k at i in
      one_is left h (w, b) ∙ bound (lift (element_held x.source (x.count - left))) (λ o. if_held ac (meaning ac) depth x o >>= others left) (w, b) (w, b) o ((does_lift b (element_held x.source (x.count - left)) j).is tt)

  value_held : (v : Value) (k : Bool → Run S Flow) (s : State S × ℕ) → (held_meets ac (meaning ac) depth x (held.Value v) >>= k) s ≡ (lift (value_meets x v) >>= k) s
  unfolding held_meets
  value_held v k s = bind_bind (give v) (λ v. lift (value_meets x v)) k s ∙ given_one v (λ v. lift (value_meets x v) >>= k) s

  -- a value that meets the tests, or not
  value_is : (w : State S) (b left index : ℕ) (o : Option Held) (v : Value) (met : Bool) → 0 < left → index ≡ x.count - left → Holds w index (Ok o) → o ≡ Some (held.Value v) → Does (Ok met) w (value_meets x v) w → last left (w, b) ≡ others left met (w, b)
  value_is w b left index o v met h k i e j =
      let l = rw e at i in
      held_is w b left index (Some (held.Value v)) h k l ∙ value_held v (others left) (w, b) ∙ bound (lift (value_meets x v)) (others left) (w, b) (w, b) met ((does_lift b (value_meets x v) j).is tt)

  pub passed_unheld : (w : State S) (b left index : ℕ) (o : Option Held) → 0 < left → index ≡ x.count - left → Holds w index (Ok o) → o ≡ None → last left (w, b) ≡ last (left - 1) (w, b)
  passed_unheld w b left index o h k i e = let l = rw e at i in held_is w b left index None h k l ∙ given_one false (others left) (w, b)

  pub passed_value : (w : State S) (b left index : ℕ) (o : Option Held) (v : Value) (met : Bool) → 0 < left → index ≡ x.count - left → Holds w index (Ok o) → o ≡ Some (held.Value v) → Does (Ok met) w (value_meets x v) w → met ≡ false → last left (w, b) ≡ last (left - 1) (w, b)
  passed_value w b left index o v met h k i e j f = value_is w b left index o v met h k i e j ∙ ap (λ (y : Bool). others left y (w, b)) f

  pub leads_found : {c : Site} (w : State S) (b left index : ℕ) (o : Option Held) (v : Value) (met : Bool) → 0 < left → index ≡ x.count - left → Holds w index (Ok o) → o ≡ Some (held.Value v) → Does (Ok met) w (value_meets x v) w → met ≡ true
      → Leads ac (meaning ac) (Ok (next.Flow (flow.Value (value.Integer index)))) c (w, b) (last left) (w, b)
  leads_found w b left index o v met h k i e j f = record { is = λ _. value_is w b left index o v met h k i e j ∙ ap (λ (y : Bool). others left y (w, b)) f ∙ ap (λ n. give (flow.Value (value.Integer n)) (w, b)) (sym k) }

  -- no element is left
  pub leads_none : {r : Outcome Next} {c : Site} {s : State S × ℕ} (left rest : ℕ) → last left s ≡ last rest s → rest ≡ 0 → Leads ac (meaning ac) r c s none_matches s → Leads ac (meaning ac) r c s (last left) s
  unfolding searched_last
  leads_none {s = s} left rest e h l = record { is = λ ne. e ∙ ap (λ n. last n s) h ∙ l.is ne }

  pub leads_same : {n : Next} {c : Site} {s : State S × ℕ} (left rest : ℕ) → last left s ≡ last rest s → Leads ac (meaning ac) (Ok n) c s (last rest) s → Leads ac (meaning ac) (Ok n) c s (last left) s
  leads_same left rest e l = record { is = λ ne. e ∙ l.is ne }

  -- ---- refusals

  leads_unheld_err : {c : Site} (w : State S) (b left index : ℕ) (e : Refusal) → 0 < left → index ≡ x.count - left → Holds w index (Err e) → Leads ac (meaning ac) (Err e) c (w, b) (last left) (w, b)
  leads_unheld_err {c = c} w b left index e h k i =
      let j = rw k at i in
      record { is = λ ne. one_is left h (w, b) ∙ (leads_lift_err {ac = ac} {r = Err e} {c = c} b (element_held x.source (x.count - left)) (λ o. if_held ac (meaning ac) depth x o >>= others left) j (refl, refl)).is ne }

  leads_value_err : {c : Site} (w : State S) (b left index : ℕ) (o : Option Held) (v : Value) (e : Refusal) → 0 < left → index ≡ x.count - left → Holds w index (Ok o) → o ≡ Some (held.Value v) → Does {A = Bool} (Err e) w (value_meets x v) w → Leads ac (meaning ac) (Err e) c (w, b) (last left) (w, b)
  leads_value_err {c = c} w b left index o v e h k i f j =
      let l = rw f at i in
      record { is = λ ne. held_is w b left index (Some (held.Value v)) h k l ∙ value_held v (others left) (w, b) ∙ (leads_lift_err {ac = ac} {r = Err e} {c = c} b (value_meets x v) (others left) j (refl, refl)).is ne }

  -- as the refusals of a step that gives something else
  abbrev pub Refused : {X : Type 0} → Outcome X → Site → State S × ℕ → ℕ → Type 0
  Refused r c s left = IfErr r (λ e. Leads ac (meaning ac) (Err e) c s (last left) s)

  pub refused_unheld : {X : Type 0} (c : Site) (r : Outcome X) (w : State S) (b left index : ℕ) (e : Refusal) → 0 < left → index ≡ x.count - left → Holds w index (Err e) → IsErr r × IsErrAnd r (λ y. y ≡ e) → Refused r c (w, b) left
  refused_unheld c (Ok a) w b left index e h k i j = tt
  refused_unheld c (Err y) w b left index e h k i j = rw j.1 (leads_unheld_err w b left index e h k i)

  pub refused_value : {X : Type 0} (c : Site) (r : Outcome X) (w : State S) (b left index : ℕ) (o : Option Held) (v : Value) (e : Refusal) → 0 < left → index ≡ x.count - left → Holds w index (Ok o) → o ≡ Some (held.Value v) → Does {A = Bool} (Err e) w (value_meets x v) w → IsErr r × IsErrAnd r (λ y. y ≡ e)
      → Refused r c (w, b) left
  refused_value c (Ok a) w b left index o v e h k i f j m = tt
  refused_value c (Err y) w b left index o v e h k i f j m = rw m.1 (leads_value_err w b left index o v e h k i f j)

module _ {S : Type 0} (ac : Accesses S) (x : Search) where
  -- ---- the field of an element is read

  field_told : (depth left : ℕ) (v : Value) (s : State S × ℕ) → (lift (value_meets x v) >>= others ac depth x left) s ≡ (settle (value_in (flow.Value v)) >>= element_read ac (meaning ac) depth (record { search = x; left = left })) s
  unfolding element_read settle ◌>>=◌ go_on
  field_told depth left v s = refl

  leads_field : (c : Site) (w : State S) (b left index : ℕ) (f : Field) → 0 < left → index ≡ x.count - left → Does (Ok (Some (held.Field f))) w (element_held x.source index) w
      → Leads ac (meaning ac) (Ok (next.AccessThen (read_access c f reading.Value) (frames.Matched (record { search = x; left = left })))) c (w, b) (searched_last ac (meaning ac) c.depth x left) (w, b)
  unfolding held_meets
  leads_field c w b left index f h e i =
      let s : State S × ℕ = (w, b) in
      let bits = field_value ac (asked (answer_within ac (meaning ac) (32 - c.depth))) f in
      let k : Flow → Run S Flow = resumed ac (meaning ac) (frames.Matched (record { search = x; left = left })) c in
      let told : Value → Run S Flow = λ v. give (flow.Value v) in
      record {
        is = λ _.
            held_is ac c.depth x w b left index (Some (held.Field f)) h e i
            ∙ bind_bind bits (λ v. lift (value_meets x v)) (others ac c.depth x left) s
            ∙ bind_same bits _ _ s (λ v t. field_told c.depth left v t ∙ sym (given_one (flow.Value v) k t))
            ∙ sym (bind_bind bits told k s)
            ∙ after_same (bits >>= told) (access_run ac (meaning ac) (read_access c f reading.Value)) k s (value_read ac c f s);
      }

  pub leads_element : (c : Site) (w : State S) (b left index : ℕ) (o : Option Held) (f : Field) (n : Next) → 0 < left → index ≡ x.count - left → Does (Ok o) w (element_held x.source index) w → o ≡ Some (held.Field f) → n ≡ next.AccessThen (read_access c f reading.Value) (frames.Matched (record { search = x; left = left }))
      → Leads ac (meaning ac) (Ok n) c (w, b) (searched_last ac (meaning ac) c.depth x left) (w, b)
  leads_element c w b left index o f n h k i e j = let l = rw e at i in rw j (leads_field c w b left index f h k l)

module _ {S : Type 0} {ac : Accesses S} where
  -- ---- the operands

  pub leads_package : {c : Site} {s : State S × ℕ} (levels : ℕ) (x : Next) → x ≡ next.Term levels (frames.Match levels parts.Package) → Leads ac (meaning ac) (Ok x) c s (match_run ac (meaning ac) c levels) s
  unfolding match_rule value_at settle ◌>>=◌ go_on
  leads_package {c = c} {s = s} levels x e = rw e (leads_value_at {c = c} {s = s} levels (frames.Match levels parts.Package) (term codes.Name (match_at (terms c levels) c.place)) 0 _ refl refl)

  pub leads_first : {s : State S × ℕ} (c d : Site) (levels n : ℕ) (p : Value) (x : Next) → n ≡ next_byte c → d ≡ behind_byte c → x ≡ next.Term levels (frames.Match levels (parts.First p n)) → Leads ac (meaning ac) (Ok x) d s (match_left ac (meaning ac) parts.Package levels p c) s
  leads_first {s = s} c d levels n p x e h i = rw (i, e, h) (leads_value {c = behind_byte c} {s = s} levels (frames.Match levels (parts.First p (next_byte c))) _ refl)

  pub leads_second : {s : State S × ℕ} (c d : Site) (levels n k : ℕ) (p v : Value) (x : Next) → n ≡ next_byte c → d ≡ behind_byte c → x ≡ next.Term levels (frames.Match levels (parts.Second p (k, v) n)) → Leads ac (meaning ac) (Ok x) d s (match_left ac (meaning ac) (parts.First p k) levels v c) s
  leads_second {s = s} c d levels n k p v x e h i = rw (i, e, h) (leads_value {c = behind_byte c} {s = s} levels (frames.Match levels (parts.Second p (k, v) (next_byte c))) _ refl)

  pub leads_start : {s : State S × ℕ} (c : Site) (levels l : ℕ) (p v : Value) (y : ℕ × Value) (x : Next) → x ≡ next.Term levels (frames.Match levels (parts.Start p y (l, v))) → Leads ac (meaning ac) (Ok x) c s (match_left ac (meaning ac) (parts.Second p y l) levels v c) s
  leads_start {s = s} c levels l p v y x i = rw i (leads_value {c = c} {s = s} levels (frames.Match levels (parts.Start p y (l, v))) _ refl)

pub ruleset beginning = (stepping, leads_package, match_enough)

pub ruleset looking = (running)

pub ruleset matching = (stepping, leads_first, leads_second, leads_start)
