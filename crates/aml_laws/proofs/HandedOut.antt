-- What an answer hands out of packages, and of what the names in them find.
use Rattle.std.specs.Prelude.{◌≡◌, ◌≢◌, ◌<◌, ◌≤◌, ◌++◌, ◌∷◌, [], ℕ, suc, nat_lt, true, false, List, take, slice_get, Some, Ok, Err, refl}
use Rattle.std.proofs.Common.{arith, ap, sym, ◌∙◌, append-nil, append_assoc}
use Rattle.std.proofs.lemmas.Bool.Decides.{nat_tests}
use Rattle.std.specs.FinMap.{get}
use Rattle.ar_space.specs.Accesses.{Accesses}
use Rattle.ar_space.specs.Change.{give, stop, go_on, ◌>>=◌}
use Rattle.ar_space.specs.Outcome.{Outcome, seen}
use Rattle.ar_space.specs.declared.refusal.Refusal.{Refusal}
use Rattle.ar_space.specs.declared.refusal.Refusal.TheVariants as refusal
use Rattle.ar_space.specs.declared.refusal.EvaluationFault.TheVariants.{ObjectLimit, OutOfSteps}
use Rattle.aml_path.specs.declared.segment.Seg.{Seg}
use Rattle.aml_path.specs.Paths.{Name, resolved}
use Rattle.aml_objects.specs.Objects.{string_at, buffer_at, elements_at}
use Rattle.aml_objects.specs.Fields.{bits_of_field}
use Rattle.aml_objects.specs.declared.entry.Entry.{Entry}
use Rattle.aml_objects.specs.declared.entry.Field.{Field}
use Rattle.aml_objects.specs.declared.entry.NamedObject.{NamedObject}
use Rattle.aml_objects.specs.declared.entry.NamedObject.TheVariants as named
use Rattle.aml_objects.specs.declared.object.Element.{Element}
use Rattle.aml_objects.specs.declared.object.Element.TheVariants as element
use Rattle.aml_objects.specs.declared.object.Object.TheVariants as object
use Rattle.aml_objects.specs.declared.value.Reference.{Reference}
use Rattle.aml_objects.specs.declared.value.Reference.TheVariants as reference
use Rattle.aml_objects.specs.declared.value.Value.{Value}
use Rattle.aml_objects.specs.declared.value.Value.TheVariants as value
use Rattle.aml_convert.specs.Integers.{bits_of, bytes_of}
use Rattle.aml_namespace.specs.Numbering.{Numbered}
use Rattle.aml_namespace.specs.Search.{found}
use Rattle.aml_namespace.proofs.Finding.{numbered_found}
use Rattle.aml_world.specs.declared.state.name_use.NameUse.{NameUse}
use Rattle.aml_world.specs.declared.state.name_use.NameUse.TheVariants as uses
use Rattle.aml_world.specs.state.Given.{Given, Integer, Text, Bytes, Package, Named, Reference as NoPath, givens}
use Rattle.aml_world.specs.state.State.{State, on_objects}
use Rattle.aml_world.specs.state.Run.{Run, lift}
use Rattle.aml_world.specs.fields.Regions.{given_of_bits}
use Rattle.aml_world.specs.fields.Fields.{field_given}
use Rattle.aml_world.specs.state.NameUses.{path_of, held_or_path, name_use}
use Rattle.aml_meaning.specs.FieldCalls.{called_at}
use Rattle.aml_meaning.specs.Meaning.{meaning}
use Rattle.aml_meaning.specs.Exporting.{reference_exported, text_exported, bytes_exported, value_exported, use_exported, name_exported, held_exported, element_exported, each_exported, elements_exported, package_exported, exported}
use Rattle.aml_laws.specs.FieldNames.{IsField, of_unit, of_buffer, NamesField, bits_read_at}
use Rattle.aml_laws.specs.HandedOut.{HasNoPath, gone, a_slot, an_element, a_byte, IsHandedOut, nothing, an_integer, a_string, a_buffer, a_package, a_path, no_path, AreHandedOut, no_elements, one_more, HandsOut, a_value, its_data, its_integer, its_bytes, its_path, path_it_would_have, IsKeptBack, too_deep, in_package, AreKeptBack, no_step, the_first, a_later_one, KeepsBack, kept_value, kept_data, kept_field, kept_name}
use Rattle.aml_laws.specs.IntegersOfValues.{lowest_first}
use Rattle.aml_laws.specs.NamesInPackages.{IsHandedOutAsPath}
use Rattle.aml_laws.proofs.Charges.{charge_none, charge_one}
use Rattle.aml_laws.proofs.FieldNamesUsed.{bits_are}
use Rattle.aml_laws.proofs.IntegersOfValues.{little_is}
use Rattle.aml_laws.proofs.NamesHandedOut.{path_for}

-- ---- references

module _ {S : Type 0} (w : State S) (steps : ℕ) where
  path_out : (path : List Seg) (e : Entry) → Numbered w.names → get w.names.map path ≡ Some e → reference_exported (reference.Name e.number) (w, steps) ≡ (Ok (Named path), (w, steps))
  unfolding reference_exported path_of lift
  path_out path e apart at = rw (numbered_found w.names apart path e at) refl

  no_path_out : (r : Reference) → HasNoPath w r → reference_exported r (w, steps) ≡ (Ok NoPath, (w, steps))
  unfolding reference_exported path_of lift give
  no_path_out _ (gone n none) = rw none refl
  no_path_out _ (a_slot s n) = refl
  no_path_out _ (an_element o i) = refl
  no_path_out _ (a_byte o i) = refl

-- ---- what a name is used as

data_for : (v : Value) (path : List Seg) → ((r : Reference) → v ≢ value.Reference r) → held_or_path (named.Data v) (Ok path) ≡ Ok (uses.Value v)
data_for value.Uninitialized path not = refl
data_for (value.Integer n) path not = refl
data_for (value.String o) path not = refl
data_for (value.Buffer o) path not = refl
data_for (value.Package o) path not = refl
data_for (value.Reference r) path not = absurd (not r refl)

field_for : (o : NamedObject) (f : Field) (bits : ℕ) (path : List Seg) → IsField o f bits → held_or_path o (Ok path) ≡ Ok (uses.Field f)
field_for _ _ _ path (of_unit u) = refl
field_for _ _ _ path (of_buffer b) = refl

module _ {S : Type 0} (accesses : Accesses S) (within : ℕ → Run S Given) (n : Name) (home : List Seg) (s : State S × ℕ) where
  used_as : (path : List Seg) (e : Entry) (u : NameUse) → found s.0.names.map home n ≡ Ok (path, e) → held_or_path e.object (Ok path) ≡ Ok u → name_exported accesses within n home s ≡ use_exported accesses within u s
  unfolding name_exported name_use lift go_on ◌>>=◌
  used_as path e u finds is = rw (finds, is) refl

  data_used : (path : List Seg) (e : Entry) (v : Value) → found s.0.names.map home n ≡ Ok (path, e) → e.object ≡ named.Data v → ((r : Reference) → v ≢ value.Reference r) → name_exported accesses within n home s ≡ value_exported accesses within v s
  unfolding use_exported
  data_used path e v finds is not = used_as path e (uses.Value v) finds (ap (λ o. held_or_path o (Ok path)) is ∙ data_for v path not)

  field_used : (f : Field) (bits : ℕ) → NamesField s.0 home n f bits → name_exported accesses within n home s ≡ field_given accesses (called_at accesses (meaning accesses) 1) f s
  unfolding use_exported
  field_used f bits h = used_as h.path (record { number = h.number; object = h.object }) (uses.Field f) h.finds (field_for h.object f bits h.path h.is)

  path_used : (path : List Seg) (e : Entry) → found s.0.names.map home n ≡ Ok (path, e) → IsHandedOutAsPath e.object → name_exported accesses within n home s ≡ (Ok (Named path), s)
  unfolding use_exported give
  path_used path e finds is = used_as path e (uses.Path path) finds (path_for e.object path is)

  missing_used : (path : List Seg) (x : Refusal) → found s.0.names.map home n ≡ Err x → resolved n home ≡ Ok path → name_exported accesses within n home s ≡ (Ok (Named path), s)
  unfolding name_exported name_use use_exported lift give go_on ◌>>=◌
  missing_used path x finds resolves = rw (finds, resolves) refl

  pathless_used : (x y : Refusal) → found s.0.names.map home n ≡ Err x → resolved n home ≡ Err y → name_exported accesses within n home s ≡ (Err y, s)
  unfolding name_exported name_use lift go_on ◌>>=◌
  pathless_used x y finds resolves = rw (finds, resolves) refl

-- ---- bits as they are handed out

module _ {S : Type 0} (w : State S) (bits : ℕ) where
  integer_given : (b : ℕ) (bytes : List ℕ) → bits ≤ bits_of w.width → given_of_bits bits (b ∷ bytes) w ≡ (Ok (Integer (lowest_first (take (bytes_of w.width) (b ∷ bytes)))), w)
  unfolding given_of_bits
  integer_given b bytes few = let short : nat_lt (bits_of w.width) bits ≡ false = grind (arith, nat_tests) in rw short (ap (λ (n : ℕ). (Ok (Integer n), w)) (little_is (bytes_of w.width) (b ∷ bytes)))

  bytes_given : (bytes : List ℕ) → bits_of w.width < bits → given_of_bits bits bytes w ≡ (Ok (Bytes bytes), w)
  unfolding given_of_bits
  bytes_given bytes many = let long : nat_lt (bits_of w.width) bits ≡ true = grind (arith, nat_tests) in rw long refl

module _ {S : Type 0} (accesses : Accesses S) (f : Field) (s end : State S × ℕ) where
  field_out : (bytes : List ℕ) (g : Given) → bits_read_at accesses 1 f s ≡ (Ok bytes, end) → given_of_bits (bits_of_field f) bytes end.0 ≡ (Ok g, end.0) → field_given accesses (called_at accesses (meaning accesses) 1) f s ≡ (Ok g, end)
  unfolding field_given lift go_on ◌>>=◌
  field_out bytes g is makes = rw (is, makes) refl

  field_stops : (x : Refusal) → bits_read_at accesses 1 f s ≡ (Err x, end) → field_given accesses (called_at accesses (meaning accesses) 1) f s ≡ (Err x, end)
  unfolding field_given go_on ◌>>=◌
  field_stops x is = rw is refl

-- ---- packages and their elements, by what comes of each

module _ {S : Type 0} (accesses : Accesses S) (deep : ℕ) where
  package_out : (o : ℕ) (es : List Element) (w : State S) (steps : ℕ) (gs : List Given) (end : State S × ℕ) → slice_get w.objects o ≡ Some (object.Package es) → each_exported accesses (package_exported accesses deep) es [] (w, steps) ≡ (Ok gs, end)
      → value_exported accesses (package_exported accesses (suc deep)) (value.Package o) (w, steps) ≡ (Ok (Package (givens gs)), end)
  unfolding value_exported package_exported elements_exported lift on_objects elements_at give go_on ◌>>=◌
  package_out o es w steps gs end at all = rw (at, all) refl

  package_stops : (o : ℕ) (es : List Element) (w : State S) (steps : ℕ) (x : Refusal) (end : State S × ℕ) → slice_get w.objects o ≡ Some (object.Package es) → each_exported accesses (package_exported accesses deep) es [] (w, steps) ≡ (Err x, end)
      → value_exported accesses (package_exported accesses (suc deep)) (value.Package o) (w, steps) ≡ (Err x, end)
  unfolding value_exported package_exported elements_exported lift on_objects elements_at go_on ◌>>=◌
  package_stops o es w steps x end at all = rw (at, all) refl

  string_out : (o : ℕ) (text : List ℕ) (s : State S × ℕ) → slice_get s.0.objects o ≡ Some (object.String text) → value_exported accesses (package_exported accesses deep) (value.String o) s ≡ (Ok (Text text), s)
  unfolding value_exported text_exported lift on_objects string_at give go_on ◌>>=◌
  string_out o text s at = rw at refl

  buffer_out : (o : ℕ) (bytes : List ℕ) (s : State S × ℕ) → slice_get s.0.objects o ≡ Some (object.Buffer bytes) → value_exported accesses (package_exported accesses deep) (value.Buffer o) s ≡ (Ok (Bytes bytes), s)
  unfolding value_exported bytes_exported lift on_objects buffer_at give go_on ◌>>=◌
  buffer_out o bytes s at = rw at refl

  none_out : (done : List Given) (s : State S × ℕ) → each_exported accesses (package_exported accesses deep) [] done s ≡ (Ok (done ++ []), s)
  unfolding each_exported give
  none_out done s = ap (λ xs. (Ok xs, s)) (sym (append-nil done))

  next_out : (e : Element) (es : List Element) (w : State S) (steps : ℕ) (g : Given) (between : State S × ℕ) (done : List Given) → held_exported accesses (package_exported accesses deep) e (w, steps) ≡ (Ok g, between)
      → each_exported accesses (package_exported accesses deep) (e ∷ es) done (w, suc steps) ≡ each_exported accesses (package_exported accesses deep) es (done ++ g ∷ []) between
  unfolding each_exported element_exported go_on ◌>>=◌
  next_out e es w steps g between done is = rw (charge_one w steps, is) refl

  first_stops : (e : Element) (es : List Element) (w : State S) (steps : ℕ) (x : Refusal) (end : State S × ℕ) (done : List Given) → held_exported accesses (package_exported accesses deep) e (w, steps) ≡ (Err x, end)
      → each_exported accesses (package_exported accesses deep) (e ∷ es) done (w, suc steps) ≡ (Err x, end)
  unfolding each_exported element_exported go_on ◌>>=◌
  first_stops e es w steps x end done is = rw (charge_one w steps, is) refl

  step_missing : (e : Element) (es : List Element) (w : State S) (done : List Given) → each_exported accesses (package_exported accesses deep) (e ∷ es) done (w, 0) ≡ (Err (refusal.Evaluation OutOfSteps), (w, 0))
  unfolding each_exported element_exported go_on ◌>>=◌
  step_missing e es w done = rw (charge_none w) refl

deeper_stops : {S : Type 0} (accesses : Accesses S) (o : ℕ) (s : State S × ℕ) → value_exported accesses (package_exported accesses 0) (value.Package o) s ≡ (Err (refusal.Evaluation ObjectLimit), s)
unfolding value_exported package_exported stop
deeper_stops accesses o s = refl

-- ---- all of them

module _ {S : Type 0} (accesses : Accesses S) where
  mutual
    unfolding value_exported held_exported give

    value_out : (deep : ℕ) (v : Value) (s : State S × ℕ) (g : Given) (end : State S × ℕ) → IsHandedOut accesses deep v s g end → value_exported accesses (package_exported accesses deep) v s ≡ (Ok g, end)
    value_out _ _ _ _ _ (nothing deep s) = refl
    value_out _ _ _ _ _ (an_integer deep k s) = refl
    value_out _ _ _ _ _ (a_string deep o text s at) = string_out accesses deep o text s at
    value_out _ _ _ _ _ (a_buffer deep o bytes s at) = buffer_out accesses deep o bytes s at
    value_out _ _ _ _ _ (a_package deep o es s gs end at all) = package_out accesses deep o es s.0 s.1 gs end at (elements_out deep es s gs end [] all)
    value_out _ _ _ _ _ (a_path deep path e s apart at) = path_out s.0 s.1 path e apart at
    value_out _ _ _ _ _ (no_path deep r s is) = no_path_out s.0 s.1 r is

    elements_out : (deep : ℕ) (es : List Element) (s : State S × ℕ) (gs : List Given) (end : State S × ℕ) (done : List Given) → AreHandedOut accesses deep es s gs end → each_exported accesses (package_exported accesses deep) es done s ≡ (Ok (done ++ gs), end)
    elements_out _ _ _ _ _ done (no_elements deep s) = none_out accesses deep done s
    elements_out _ _ _ _ _ done (one_more deep e es w steps g gs between end first rest) =
        next_out accesses deep e es w steps g between done (element_out deep e (w, steps) g between first)
        ∙ (elements_out deep es between gs end (done ++ g ∷ []) rest ∙ ap (λ xs. (Ok xs, end)) (append_assoc done (g ∷ []) gs))

    element_out : (deep : ℕ) (e : Element) (s : State S × ℕ) (g : Given) (end : State S × ℕ) → HandsOut accesses deep e s g end → held_exported accesses (package_exported accesses deep) e s ≡ (Ok g, end)
    element_out _ _ _ _ _ (a_value deep v s g end is) = value_out deep v s g end is
    element_out _ _ _ _ _ (its_data deep n home s path e v g end finds is not out) = data_used accesses (package_exported accesses deep) n home s path e v finds is not ∙ value_out deep v s g end out
    element_out _ _ _ _ _ (its_integer deep n home s f bits b bytes end h is few) =
        field_used accesses (package_exported accesses deep) n home s f bits h ∙ field_out accesses f s end (b ∷ bytes) (Integer (lowest_first (take (bytes_of end.0.width) (b ∷ bytes)))) is (rw (bits_are h.object f bits h.is) (integer_given end.0 bits b bytes few))
    element_out _ _ _ _ _ (its_bytes deep n home s f bits bytes end h is many) = field_used accesses (package_exported accesses deep) n home s f bits h ∙ field_out accesses f s end bytes (Bytes bytes) is (rw (bits_are h.object f bits h.is) (bytes_given end.0 bits bytes many))
    element_out _ _ _ _ _ (its_path deep n home s path e finds is) = path_used accesses (package_exported accesses deep) n home s path e finds is
    element_out _ _ _ _ _ (path_it_would_have deep n home s path x finds resolves) = missing_used accesses (package_exported accesses deep) n home s path x finds resolves

  mutual
    unfolding held_exported

    value_stops : (deep : ℕ) (v : Value) (s : State S × ℕ) (x : Refusal) (end : State S × ℕ) → IsKeptBack accesses deep v s x end → value_exported accesses (package_exported accesses deep) v s ≡ (Err x, end)
    value_stops _ _ _ _ _ (too_deep o s) = deeper_stops accesses o s
    value_stops _ _ _ _ _ (in_package deep o es s x end at some) = package_stops accesses deep o es s.0 s.1 x end at (elements_stop deep es s x end [] some)

    elements_stop : (deep : ℕ) (es : List Element) (s : State S × ℕ) (x : Refusal) (end : State S × ℕ) (done : List Given) → AreKeptBack accesses deep es s x end → each_exported accesses (package_exported accesses deep) es done s ≡ (Err x, end)
    elements_stop _ _ _ _ _ done (no_step deep e es w) = step_missing accesses deep e es w done
    elements_stop _ _ _ _ _ done (the_first deep e es w steps x end first) = first_stops accesses deep e es w steps x end done (element_stops deep e (w, steps) x end first)
    elements_stop _ _ _ _ _ done (a_later_one deep e es w steps g between x end first rest) = next_out accesses deep e es w steps g between done (element_out deep e (w, steps) g between first) ∙ elements_stop deep es between x end (done ++ g ∷ []) rest

    element_stops : (deep : ℕ) (e : Element) (s : State S × ℕ) (x : Refusal) (end : State S × ℕ) → KeepsBack accesses deep e s x end → held_exported accesses (package_exported accesses deep) e s ≡ (Err x, end)
    element_stops _ _ _ _ _ (kept_value deep v s x end is) = value_stops deep v s x end is
    element_stops _ _ _ _ _ (kept_data deep n home s path e v x end finds is not stops) = data_used accesses (package_exported accesses deep) n home s path e v finds is not ∙ value_stops deep v s x end stops
    element_stops _ _ _ _ _ (kept_field deep n home s f bits x end h stops) = field_used accesses (package_exported accesses deep) n home s f bits h ∙ field_stops accesses f s end x stops
    element_stops _ _ _ _ _ (kept_name deep n home s x y finds resolves) = pathless_used accesses (package_exported accesses deep) n home s x y finds resolves

  pub handed_out : (v : Value) (s : State S × ℕ) (g : Given) (end : State S × ℕ) → IsHandedOut accesses 64 v s g end → exported accesses v s ≡ (Ok g, end)
  unfolding exported
  handed_out v s g end is = value_out 64 v s g end is

  pub kept_back : (v : Value) (s : State S × ℕ) (x : Refusal) (end : State S × ℕ) → IsKeptBack accesses 64 v s x end → exported accesses v s ≡ (Err x, end)
  unfolding exported
  kept_back v s x end is = value_stops 64 v s x end is
