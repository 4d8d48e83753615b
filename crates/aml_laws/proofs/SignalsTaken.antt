-- A Wait takes what a Signal gave, and leaves the world as it was before both, unless it is refused for its timeout.
use Rattle.std.specs.Prelude.{◌≡◌, ℕ, ◌+◌, ◌-◌, ◌^◌, ◌==◌, List, Bool, true, false, Some, Ok, Err, refl, cond}
use Rattle.std.proofs.Common.{ap, sym, subst, ◌∙◌, arith}
use Rattle.std.proofs.lemmas.Bool.Decides.{nat_tests}
use Rattle.std.specs.Ordering.{eq_by_cmp}
use Rattle.std.specs.FinMap.{get, insert, get-insert, same_map}
use Rattle.ar_space.specs.Outcome.{Outcome}
use Rattle.ar_space.specs.Change.{settle, give, go_on, ◌>>=◌}
use Rattle.ar_space.specs.declared.refusal.Refusal.{Refusal}
use Rattle.ar_space.specs.declared.refusal.Refusal.TheVariants as refusal
use Rattle.ar_space.specs.declared.refusal.EvaluationFault.TheVariants.{ObjectLimit}
use Rattle.aml_path.specs.declared.segment.Seg.{Seg}
use Rattle.aml_path.specs.Paths.{path_cmp}
use Rattle.aml_objects.specs.declared.entry.Entry.{Entry}
use Rattle.aml_objects.specs.declared.entry.NamedObject.TheVariants as object
use Rattle.aml_objects.specs.declared.value.Value.{Value}
use Rattle.aml_objects.specs.declared.value.Value.TheVariants as value
use Rattle.aml_namespace.specs.Namespace.{Map, numbered, replaced}
use Rattle.aml_namespace.specs.Numbering.{Numbered}
use Rattle.aml_namespace.proofs.Paths.{path_total, only_equal, same_path, path_itself}
use Rattle.aml_namespace.proofs.Finding.{numbered_found}
use Rattle.aml_world.specs.declared.values.operation_kind.EventChange.TheVariants as changes
use Rattle.aml_world.specs.state.State.{State, on_names}
use Rattle.aml_world.specs.state.Readings.{integer_in}
use Rattle.aml_world.specs.values.StoreTargets.{declaration, entry_declared}
use Rattle.aml_world.specs.state.Events.{signals_under, put_signals, event_changed, signal_taken, waited}
use Rattle.aml_laws.specs.Events.{event_entry, with_signals}
use Rattle.aml_laws.proofs.NumbersKept.{numbered_replaced}

-- an entry put over another one, and then the first again
module _ (m : Map) (path : List Seg) (d e : Entry) (at : get m path ≡ Some e) where
  again_at : (q : List Seg) (b : Bool) → eq_by_cmp path_cmp q path ≡ b → cond b (Some e) (cond b (Some d) (get m q)) ≡ get m q
  again_at q true is = sym at ∙ sym (ap (get m) (same_path q path is))
  again_at q false is = refl

  put_back : insert (insert m path d) path e ≡ m
  put_back = same_map path_total only_equal (insert (insert m path d) path e) m
      (λ q. get-insert path_total (insert m path d) path e q
      ∙ ap (cond (eq_by_cmp path_cmp q path) (Some e)) (get-insert path_total m path d q)
      ∙ again_at q (eq_by_cmp path_cmp q path) refl)

module _ {S : Type 0} (w : State S) (path : List Seg) (n count : ℕ) (standing : Numbered w.names) (at : get w.names.map path ≡ Some (event_entry n count)) where
  here : numbered n w.names.map ≡ Some (path, event_entry n count)
  here = numbered_found w.names standing path (event_entry n count) at

  pub put_is : (more : ℕ) → put_signals n more w ≡ (Ok tt, with_signals w path n more)
  unfolding put_signals declaration on_names replaced ◌>>=◌ go_on
  put_is more = rw (here, at) refl

  pub under_is : signals_under n w ≡ (Ok count, w)
  unfolding signals_under entry_declared settle ◌>>=◌ go_on
  under_is = rw here refl

  pub signaled : (count == 2 ^ 64 - 1) ≡ false → event_changed changes.Signal (Some n) w ≡ (Ok tt, with_signals w path n (count + 1))
  unfolding event_changed settle ◌>>=◌ go_on
  signaled fits = rw (under_is, fits, put_is (count + 1)) refl

  pub refused : (count == 2 ^ 64 - 1) ≡ true → event_changed changes.Signal (Some n) w ≡ (Err (refusal.Evaluation ObjectLimit), w)
  unfolding event_changed settle ◌>>=◌ go_on
  refused full = rw (under_is, full) refl

  pub taken : (timeout : Value) (time : ℕ) → integer_in timeout w ≡ (Ok time, w) → (count == 0) ≡ false → waited (Some n) timeout w ≡ (Ok (value.Integer 0), with_signals w path n (count - 1))
  unfolding waited signal_taken settle give ◌>>=◌ go_on
  taken timeout time is some = rw (under_is, is, some, put_is (count - 1)) refl

  pub wait_refused : (timeout : Value) (e : Refusal) → integer_in timeout w ≡ (Err e, w) → waited (Some n) timeout w ≡ (Err e, w)
  unfolding waited settle ◌>>=◌ go_on
  wait_refused timeout e is = rw (under_is, is) refl

module _ {S : Type 0} (w after : State S) (path : List Seg) (n count : ℕ) (standing : Numbered w.names) (at : get w.names.map path ≡ Some (event_entry n count)) where
  next_at : get (with_signals w path n (count + 1)).names.map path ≡ Some (event_entry n (count + 1))
  next_at = get-insert path_total w.names.map path (event_entry n (count + 1)) path ∙ ap (λ b. cond b (Some (event_entry n (count + 1))) (get w.names.map path)) (path_itself path)

  whole : with_signals (with_signals w path n (count + 1)) path n (count + 1 - 1) ≡ w
  whole =
      let same : count + 1 - 1 ≡ count = omega arith in
      ap (with_signals (with_signals w path n (count + 1)) path n) same
      ∙ ap (λ (m : Map). record w { names = record w.names { map = m } }) (put_back w.names.map path (event_entry n (count + 1)) (event_entry n count) at)

  taken_from : (timeout : Value) (time : ℕ) (v : State S) → v ≡ with_signals w path n (count + 1) → integer_in timeout v ≡ (Ok time, v) → waited (Some n) timeout v ≡ (Ok (value.Integer 0), w)
  taken_from timeout time v is reads =
      let u = with_signals w path n (count + 1) in
      let some : (count + 1 == 0) ≡ false = grind (arith, nat_tests) in
      ap (waited (Some n) timeout) is
      ∙ taken u path n (count + 1) (numbered_replaced w.names path (object.Event (count + 1)) (event_entry n count) standing at) next_at timeout time (subst (λ (x : State S). integer_in timeout x ≡ (Ok time, x)) is reads) some
      ∙ ap (λ x. (Ok (value.Integer 0), x)) whole

  left_in : (timeout : Value) (e : Refusal) (v : State S) → v ≡ with_signals w path n (count + 1) → integer_in timeout v ≡ (Err e, v) → waited (Some n) timeout v ≡ (Err e, v)
  left_in timeout e v is reads =
      let u = with_signals w path n (count + 1) in
      let fails = subst (λ (x : State S). integer_in timeout x ≡ (Err e, x)) is reads in
      subst (λ (x : State S). waited (Some n) timeout x ≡ (Err e, x)) (sym is) (wait_refused u path n (count + 1) (numbered_replaced w.names path (object.Event (count + 1)) (event_entry n count) standing at) next_at timeout e fails)

  by_limit : (b : Bool) → (count == 2 ^ 64 - 1) ≡ b → event_changed changes.Signal (Some n) w ≡ (Ok tt, after) → after ≡ with_signals w path n (count + 1)
  by_limit true is e =
      let outcomes : Err (refusal.Evaluation ObjectLimit) ≡ Ok (tt {0}) = ap (λ (x : Outcome (Unit {0}) × State S). x.0) (sym (refused w path n count standing at is) ∙ e) in
      absurd (cc outcomes)
  by_limit false is e = sym (ap (λ (x : Outcome (Unit {0}) × State S). x.1) (sym (signaled w path n count standing at is) ∙ e))

  pub signal_taken_back : (timeout : Value) (time : ℕ) → event_changed changes.Signal (Some n) w ≡ (Ok tt, after) → integer_in timeout after ≡ (Ok time, after) → waited (Some n) timeout after ≡ (Ok (value.Integer 0), w)
  signal_taken_back timeout time e reads = taken_from timeout time after (by_limit (count == 2 ^ 64 - 1) refl e) reads

  pub signal_left : (timeout : Value) (x : Refusal) → event_changed changes.Signal (Some n) w ≡ (Ok tt, after) → integer_in timeout after ≡ (Err x, after) → waited (Some n) timeout after ≡ (Err x, after)
  signal_left timeout x e reads = left_in timeout x after (by_limit (count == 2 ^ 64 - 1) refl e) reads
