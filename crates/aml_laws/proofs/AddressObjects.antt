-- What is asked for an address answers an integer, one call deeper.
use Rattle.std.specs.Prelude.{◌≡◌, ◌≢◌, ◌≤◌, ◌<◌, ◌+◌, ◌-◌, ◌%◌, ◌==◌, ℕ, suc, nat_lt, Bool, true, false, List, [], Ok, Err, refl}
use Rattle.std.proofs.Common.{ap, ◌∙◌, arith}
use Rattle.std.proofs.lemmas.Bool.{eqb-true}
use Rattle.std.proofs.lemmas.Bool.Decides.{nat_tests}
use Rattle.ar_space.specs.declared.refusal.Refusal.{Refusal}
use Rattle.ar_space.specs.declared.refusal.Refusal.TheVariants as refusal
use Rattle.ar_space.specs.declared.refusal.EvaluationFault.TheVariants.{ArityChanged, CallDepth, DepthSetting}
use Rattle.ar_space.specs.declared.refusal.ValueFault.TheVariants.{WrongType}
use Rattle.ar_space.specs.Accesses.{Accesses}
use Rattle.ar_space.specs.Change.{give, stop, settle, go_on, ◌>>=◌}
use Rattle.ar_space.specs.Outcome.{Outcome, seen}
use Rattle.aml_path.specs.declared.segment.Seg.{Seg}
use Rattle.aml_path.specs.Paths.{resolved}
use Rattle.aml_objects.specs.Contents.{Buffer}
use Rattle.aml_objects.specs.Fields.{bits_of_field}
use Rattle.aml_objects.specs.declared.value.Reference.TheVariants as reference
use Rattle.aml_objects.specs.declared.value.Value.{Value}
use Rattle.aml_objects.specs.declared.value.Value.TheVariants as value
use Rattle.aml_objects.specs.declared.entry.Entry.{Entry}
use Rattle.aml_objects.specs.declared.entry.Field.{Field}
use Rattle.aml_objects.specs.declared.entry.Method.{Method}
use Rattle.aml_objects.specs.declared.entry.MethodBody.{MethodBody}
use Rattle.aml_objects.specs.declared.entry.MethodBody.TheVariants.{Osi, Aml}
use Rattle.aml_objects.specs.declared.entry.NamedObject.{NamedObject}
use Rattle.aml_objects.specs.declared.entry.NamedObject.TheVariants as named
use Rattle.aml_convert.specs.Conversions.{to_integer_of}
use Rattle.aml_convert.specs.Integers.{bits_of}
use Rattle.aml_namespace.specs.Search.{Found, found}
use Rattle.aml_world.specs.declared.state.invocation.Invocation.{Invocation}
use Rattle.aml_world.specs.declared.state.invocation.Invocation.TheVariants as invocation
use Rattle.aml_world.specs.fields.Fields.{bits_in, field_part}
use Rattle.aml_world.specs.state.Invocations.{invocation_of, invocation_of_object, named_use, invocation_found}
use Rattle.aml_world.specs.state.Readings.{absolute, arguments_of, entry_found, arguments_found, read_as}
use Rattle.aml_world.specs.fields.Regions.{integer_only, integer_of_bits, integer_alone}
use Rattle.aml_world.specs.state.Run.{Run, lift}
use Rattle.aml_world.specs.state.State.{State}
use Rattle.aml_meaning.specs.FieldCalls.{asked, method_integer, answer_over, answer_within, called_at}
use Rattle.aml_meaning.specs.Calls.{method_value}
use Rattle.aml_meaning.specs.Meaning.{meaning}
use Rattle.aml_laws.specs.AddressObjects.{IsAskedAt, TakesNoArguments, HoldsNoValueAt, IsPartOfAddress, an_integer, no_value, a_string, a_buffer, a_package, a_reference}
use Rattle.aml_laws.specs.AddressObjects.{ObjectAnswers, of_data, of_field, of_wide_field, of_refused_field, of_method, of_refused_method}
use Rattle.aml_laws.specs.DeclaredObjects.{method_of}
use Rattle.aml_laws.specs.FieldNames.{IsField, of_unit, of_buffer}
use Rattle.aml_laws.specs.Histories.{numbered_entry}
use Rattle.aml_laws.proofs.LimitsRefused.{call_is_allowed, call_set}
use Rattle.aml_laws.proofs.NamesGiven.{itself_used}
use Rattle.aml_laws.proofs.NamesSearched.{one_path_found}

-- ---- values and objects

part_is : (v : Value) (r : Outcome ℕ) → IsPartOfAddress v r → integer_only v ≡ r
part_is _ _ (an_integer n) = refl
part_is _ _ no_value = refl
part_is _ _ (a_string o) = refl
part_is _ _ (a_buffer o) = refl
part_is _ _ (a_package o) = refl
part_is _ _ (a_reference r) = refl

read_part : (n : ℕ) (v : Value) (r : Outcome ℕ) → IsPartOfAddress v r → integer_only (read_as n v) ≡ r
read_part n _ _ (an_integer k) = refl
read_part n _ _ no_value = refl
read_part n _ _ (a_string o) = refl
read_part n _ _ (a_buffer o) = refl
read_part n _ _ (a_package o) = refl
read_part n _ _ (a_reference r) = refl

field_used : (p : List Seg) (n : ℕ) (o : NamedObject) (f : Field) (bits : ℕ) → IsField o f bits → invocation_of_object p n o ≡ Ok (invocation.Field f)
field_used p n _ _ _ (of_unit u) = refl
field_used p n _ _ _ (of_buffer b) = refl

field_taken : (o : NamedObject) (f : Field) (bits : ℕ) → IsField o f bits → arguments_of o ≡ 0
field_taken _ _ _ (of_unit u) = refl
field_taken _ _ _ (of_buffer b) = refl

field_has : (o : NamedObject) (f : Field) (bits : ℕ) → IsField o f bits → bits_of_field f ≡ bits
field_has _ _ _ (of_unit u) = refl
field_has _ _ _ (of_buffer b) = refl

none_taken : (o : NamedObject) → TakesNoArguments o → arguments_of o ≡ 0
none_taken (named.Method m) h = h m refl
none_taken (named.Data v) h = refl
none_taken named.Scope h = refl
none_taken named.Device h = refl
none_taken named.Processor h = refl
none_taken named.PowerResource h = refl
none_taken named.ThermalZone h = refl
none_taken (named.OperationRegion r) h = refl
none_taken (named.FieldUnit u) h = refl
none_taken (named.BufferField b) h = refl
none_taken (named.Mutex n) h = refl
none_taken (named.Event n) h = refl
none_taken (named.Alias p) h = refl

body_used : (p : List Seg) (n : ℕ) (m : Method) (b : MethodBody) → m.body ≡ b → (i : Invocation) × (invocation_of_object p n (named.Method m) ≡ Ok i)
body_used p n m Osi is = (invocation.Osi, rw is refl)
body_used p n m (Aml body) is = (invocation.Method p body, rw is refl)

used : (p : List Seg) (n : ℕ) (o : NamedObject) → (i : Invocation) × (invocation_of_object p n o ≡ Ok i)
used p n (named.Method m) = body_used p n m m.body refl
used p n (named.Data v) = (_, refl)
used p n named.Scope = (_, refl)
used p n named.Device = (_, refl)
used p n named.Processor = (_, refl)
used p n named.PowerResource = (_, refl)
used p n named.ThermalZone = (_, refl)
used p n (named.OperationRegion r) = (_, refl)
used p n (named.FieldUnit u) = (_, refl)
used p n (named.BufferField b) = (_, refl)
used p n (named.Mutex c) = (_, refl)
used p n (named.Event c) = (_, refl)
used p n (named.Alias q) = (_, refl)

differs : (n k : ℕ) (b : Bool) → (n == k) ≡ b → n ≢ k → b ≡ false
differs n k true is h = absurd (h (eqb-true n k is))
differs n k false is h = refl

-- ---- what a path leads to

module _ {S : Type 0} (accesses : Accesses S) (w : State S) (steps : ℕ) (path at : List Seg) (o : NamedObject) (is : IsAskedAt w path at o) where
  found_at : found w.names.map [] (absolute path) ≡ Ok (at, numbered_entry is.number o)
  unfolding resolved
  found_at = one_path_found w.names.map [] (absolute path) path is.first (Ok (at, numbered_entry is.number o)) refl refl is.stands is.leads

  arguments_so : (n : ℕ) → arguments_of o ≡ n → arguments_found [] (absolute path) w ≡ (Ok n, w)
  unfolding arguments_found entry_found give go_on ◌>>=◌
  arguments_so n many =
      ap (λ (f : Outcome Found). go_on (seen (λ (x : Found). x.1) f) w (λ (x : Entry). give {S = State S} (arguments_of x.object))) found_at ∙ ap (λ (k : ℕ). (Ok k, w)) many

  -- with other than no arguments it isn't used
  pub takes_arguments : (m : Method) → o ≡ named.Method m → m.flags.byte % 8 ≢ 0 → (depth : ℕ) → called_at accesses (meaning accesses) depth path (w, steps) ≡ (Err (refusal.Evaluation ArityChanged), (w, steps))
  unfolding asked invocation_found lift settle go_on ◌>>=◌
  takes_arguments m method some depth = rw (arguments_so (m.flags.byte % 8) (ap arguments_of method), differs (m.flags.byte % 8) 0 (m.flags.byte % 8 == 0) refl some) refl

  module _ (i : Invocation) (none : arguments_of o ≡ 0) (used_so : invocation_of_object at is.number o ≡ Ok i) where
    use_so : named_use [] (absolute path) w ≡ (Ok i, w)
    unfolding named_use
    use_so = ap (λ (f : Outcome Found). (invocation_of f, w)) found_at ∙ ap (λ (x : Outcome Invocation). (x, w)) used_so

    invocation_told : invocation_found [] (absolute path) 0 w ≡ (Ok i, w)
    unfolding invocation_found settle go_on ◌>>=◌
    invocation_told = rw (arguments_so 0 none) use_so

    answered_so : (k : ℕ) → 31 - k < w.nesting.calls → asked (answer_within accesses (meaning accesses) (suc k)) path (w, steps) ≡ answer_over accesses (meaning accesses) k (asked (answer_within accesses (meaning accesses) k)) i (w, steps)
    unfolding asked answer_within lift go_on ◌>>=◌
    answered_so k few = rw (invocation_told, call_is_allowed (31 - k) w (omega arith) few) refl

    called_so : (depth : ℕ) → depth < 32 → depth < w.nesting.calls
        → called_at accesses (meaning accesses) depth path (w, steps) ≡ answer_over accesses (meaning accesses) (31 - depth) (called_at accesses (meaning accesses) (depth + 1)) i (w, steps)
    called_so depth less few =
        let one : 32 - depth ≡ suc (31 - depth) = omega (arith, less) in
        let next : 31 - depth ≡ 32 - (depth + 1) = omega (arith, less) in
        let here : 31 - (31 - depth) < w.nesting.calls = omega (arith, less, few) in
        ap (λ k. asked (answer_within accesses (meaning accesses) k) path (w, steps)) one
        ∙ answered_so (31 - depth) here
        ∙ ap (λ k. answer_over accesses (meaning accesses) (31 - depth) (asked (answer_within accesses (meaning accesses) k)) i (w, steps)) next

    too_deep : (depth : ℕ) → 32 ≤ depth → called_at accesses (meaning accesses) depth path (w, steps) ≡ (Err (refusal.Evaluation CallDepth), (w, steps))
    unfolding asked answer_within lift stop go_on ◌>>=◌
    too_deep depth more =
        let no_more : 32 - depth ≡ 0 = omega (arith, more) in
        rw (no_more, invocation_told) refl

    not_set : (k : ℕ) → w.nesting.calls ≤ 31 - k → asked (answer_within accesses (meaning accesses) (suc k)) path (w, steps) ≡ (Err (refusal.Evaluation DepthSetting), (w, steps))
    unfolding asked answer_within lift go_on ◌>>=◌
    not_set k many = rw (invocation_told, call_set (31 - k) w (omega arith) many) refl

    beyond_setting : (depth : ℕ) → depth < 32 → w.nesting.calls ≤ depth → called_at accesses (meaning accesses) depth path (w, steps) ≡ (Err (refusal.Evaluation DepthSetting), (w, steps))
    beyond_setting depth less many =
        let one : 32 - depth ≡ suc (31 - depth) = omega (arith, less) in
        let here : w.nesting.calls ≤ 31 - (31 - depth) = omega (arith, less, many) in
        ap (λ k. asked (answer_within accesses (meaning accesses) k) path (w, steps)) one ∙ not_set (31 - depth) here

  pub deep : TakesNoArguments o → (depth : ℕ) → 32 ≤ depth → called_at accesses (meaning accesses) depth path (w, steps) ≡ (Err (refusal.Evaluation CallDepth), (w, steps))
  deep none depth more = let u = used at is.number o in too_deep u.0 (none_taken o none) u.1 depth more

  pub not_allowed : TakesNoArguments o → (depth : ℕ) → depth < 32 → w.nesting.calls ≤ depth → called_at accesses (meaning accesses) depth path (w, steps) ≡ (Err (refusal.Evaluation DepthSetting), (w, steps))
  not_allowed none depth less many = let u = used at is.number o in beyond_setting u.0 (none_taken o none) u.1 depth less many

-- ---- what each object answers

module _ {S : Type 0} (accesses : Accesses S) (call : List Seg → Run S ℕ) (f : Field) (s : State S × ℕ) where
  narrow : (bytes : List ℕ) (after : State S × ℕ) → bits_in accesses call f s ≡ (Ok bytes, after) → bits_of_field f ≤ bits_of after.0.width → field_part accesses call f s ≡ (to_integer_of after.0.width (Buffer bytes), after)
  unfolding field_part integer_alone integer_of_bits lift go_on ◌>>=◌
  narrow bytes after is le =
      let fits : nat_lt (bits_of after.0.width) (bits_of_field f) ≡ false = not_below (bits_of after.0.width) (bits_of_field f) le in
      rw (is, fits) refl
    where
      not_below : (n k : ℕ) → k ≤ n → nat_lt n k ≡ false
      not_below n k le = grind (arith, nat_tests)

  wide : (bytes : List ℕ) (after : State S × ℕ) → bits_in accesses call f s ≡ (Ok bytes, after) → bits_of after.0.width < bits_of_field f → field_part accesses call f s ≡ (Err (refusal.Value WrongType), after)
  unfolding field_part integer_alone lift go_on ◌>>=◌
  wide bytes after is more =
      let beyond : nat_lt (bits_of after.0.width) (bits_of_field f) ≡ true = below (bits_of after.0.width) (bits_of_field f) more in
      rw (is, beyond) refl
    where
      below : (n k : ℕ) → n < k → nat_lt n k ≡ true
      below n k less = grind (arith, nat_tests)

  stopped : (e : Refusal) (after : State S × ℕ) → bits_in accesses call f s ≡ (Err e, after) → field_part accesses call f s ≡ (Err e, after)
  unfolding field_part go_on ◌>>=◌
  stopped e after is = rw is refl

module _ {S : Type 0} (accesses : Accesses S) (depth : ℕ) (at : List Seg) (body : List ℕ) (s : State S × ℕ) where
  returned : (v : Value) (r : Outcome ℕ) (after : State S × ℕ) → method_value (meaning accesses) depth at body [] s ≡ (Ok v, after) → IsPartOfAddress v r → method_integer accesses (meaning accesses) depth at body s ≡ (r, after)
  unfolding method_integer settle go_on ◌>>=◌
  returned v r after is part = rw is (ap (λ x. (x, after)) (part_is v r part))

  not_returned : (e : Refusal) (after : State S × ℕ) → method_value (meaning accesses) depth at body [] s ≡ (Err e, after) → method_integer accesses (meaning accesses) depth at body s ≡ (Err e, after)
  unfolding method_integer settle go_on ◌>>=◌
  not_returned e after is = rw is refl

module _ {S : Type 0} (accesses : Accesses S) (depth : ℕ) (less : depth < 32) (w : State S) (few : depth < w.nesting.calls) (steps : ℕ) (path at : List Seg) where
  same_depth : 31 - (31 - depth) ≡ depth
  same_depth = omega (arith, less)

  held : (v : Value) (r : Outcome ℕ) → IsAskedAt w path at (named.Data v) → IsPartOfAddress v r → called_at accesses (meaning accesses) depth path (w, steps) ≡ (r, (w, steps))
  unfolding settle
  held v r is part = called_so accesses w steps path at (named.Data v) is (invocation.Value (read_as is.number v)) refl refl depth less few ∙ ap (λ x. (x, (w, steps))) (read_part is.number v r part)

  of_bits : (o : NamedObject) (f : Field) (bits : ℕ) (r : Outcome ℕ) (after : State S × ℕ) → IsAskedAt w path at o → IsField o f bits → field_part accesses (called_at accesses (meaning accesses) (depth + 1)) f (w, steps) ≡ (r, after)
      → called_at accesses (meaning accesses) depth path (w, steps) ≡ (r, after)
  of_bits o f bits r after is kind part = called_so accesses w steps path at o is (invocation.Field f) (field_taken o f bits kind) (field_used at is.number o f bits kind) depth less few ∙ part

  of_body : (flags : ℕ) (body : List ℕ) (r : Outcome ℕ) (after : State S × ℕ) → IsAskedAt w path at (method_of flags body) → flags % 8 ≡ 0 → method_integer accesses (meaning accesses) depth at body (w, steps) ≡ (r, after)
      → called_at accesses (meaning accesses) depth path (w, steps) ≡ (r, after)
  of_body flags body r after is none value =
      called_so accesses w steps path at (method_of flags body) is (invocation.Method at body) none refl depth less few
      ∙ ap (λ k. method_integer accesses (meaning accesses) k at body (w, steps)) same_depth
      ∙ value

  pub answers : (o : NamedObject) → IsAskedAt w path at o → (r : Outcome ℕ) (after : State S × ℕ) → ObjectAnswers accesses depth (w, steps) at o r after → called_at accesses (meaning accesses) depth path (w, steps) ≡ (r, after)
  answers _ is _ _ (of_data v r part) = held v r is part
  answers _ is _ _ (of_field o f bits bytes after kind read le) =
      let many = field_has o f bits kind in
      of_bits o f bits _ after is kind (narrow accesses (called_at accesses (meaning accesses) (depth + 1)) f (w, steps) bytes after read (omega (arith, le, many)))
  answers _ is _ _ (of_wide_field o f bits bytes after kind read more) =
      let many = field_has o f bits kind in
      of_bits o f bits _ after is kind (wide accesses (called_at accesses (meaning accesses) (depth + 1)) f (w, steps) bytes after read (omega (arith, more, many)))
  answers _ is _ _ (of_refused_field o f bits e after kind read) = of_bits o f bits (Err e) after is kind (stopped accesses (called_at accesses (meaning accesses) (depth + 1)) f (w, steps) e after read)
  answers _ is _ _ (of_method flags body v r after none value part) = of_body flags body r after is none (returned accesses depth at body (w, steps) v r after value part)
  answers _ is _ _ (of_refused_method flags body e after none value) = of_body flags body (Err e) after is none (not_returned accesses depth at body (w, steps) e after value)

-- ---- what holds no value

module _ {S : Type 0} (accesses : Accesses S) (depth : ℕ) (less : depth < 32) (w : State S) (few : depth < w.nesting.calls) (steps : ℕ) (path : List Seg) where
  pub tells_none : HoldsNoValueAt w path → called_at accesses (meaning accesses) depth path (w, steps) ≡ (Err (refusal.Value WrongType), (w, steps))
  unfolding settle
  tells_none h =
      called_so accesses w steps path h.place h.object h.asked_there (invocation.Value (value.Reference (reference.Name h.asked_there.number)))
      (none_taken h.object (λ m is. absurd (h.no_method m is))) (itself_used h.place h.asked_there.number h.object h.holds_nothing h.no_method) depth less few
