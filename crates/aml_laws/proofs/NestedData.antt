-- What is handed in and what is handed out nests at most 64 deep.
use Rattle.std.specs.Prelude.{◌≡◌, ℕ, zero, suc, Bool, true, false, List, [], ◌∷◌, ◌++◌, length, nat_lt, Option, Some, None, Ok, Err, if◌then◌else◌}
use Rattle.std.proofs.Common.{subst}
use Rattle.ar_space.specs.Accesses.{Accesses}
use Rattle.ar_space.specs.Outcome.{Outcome, seen}
use Rattle.ar_space.specs.Change.{give, stop, ◌>>=◌}
use Rattle.aml_path.specs.declared.segment.Seg.{Seg}
use Rattle.aml_objects.specs.declared.object.Element.{Element}
use Rattle.aml_objects.specs.declared.object.Element.TheVariants as element
use Rattle.aml_objects.specs.declared.entry.Entry.{Entry}
use Rattle.aml_objects.specs.declared.entry.Field.{Field}
use Rattle.aml_objects.specs.declared.value.Value.{Value}
use Rattle.aml_objects.specs.declared.value.Value.TheVariants as value
use Rattle.aml_objects.specs.declared.value.Reference.{Reference}
use Rattle.aml_objects.specs.declared.value.Reference.TheVariants as reference
use Rattle.aml_objects.specs.Objects.{make_package}
use Rattle.aml_convert.specs.Integers.{bits_of}
use Rattle.aml_convert.specs.Conversions.{to_integer_of}
use Rattle.aml_objects.specs.Contents as contents
use Rattle.aml_namespace.specs.Namespace.{numbered}
use Rattle.aml_world.specs.declared.state.invocation.Invocation.{Invocation}
use Rattle.aml_world.specs.declared.state.invocation.Invocation.TheVariants as invocation
use Rattle.aml_world.specs.declared.state.name_use.NameUse.{NameUse}
use Rattle.aml_world.specs.declared.state.name_use.NameUse.TheVariants as uses
use Rattle.aml_world.specs.state.Given as given
use Rattle.aml_world.specs.state.Given.{Given, Givens, givens}
use Rattle.aml_world.specs.state.State.{State, on_objects}
use Rattle.aml_world.specs.state.Run.{lift}
use Rattle.aml_world.specs.fields.Regions.{given_of_bits}
use Rattle.aml_world.specs.fields.Fields.{field_given}
use Rattle.aml_world.specs.state.Importing.{imported_by, each_imported, elements_imported, package_imported, taken_back, imported}
use Rattle.aml_world.specs.state.NameUses.{standing, path_of}
use Rattle.aml_meaning.specs.Exporting.{text_exported, bytes_exported, reference_exported, field_exported, value_exported, use_exported, name_exported, held_exported, element_exported, each_exported, elements_exported, package_exported, exported}
use Rattle.aml_meaning.specs.Calling.{ending, with_steps, invocation_exported, answer_exported, answered}
use Rattle.aml_laws.specs.AllWithin.{Each}
use Rattle.aml_laws.specs.HandedIn.{NestsWithin, AllNestWithin}
use Rattle.aml_laws.proofs.LocatedRegions.{Gives, then_gives, gave_both}

give_gives : {H A : Type 0} {Such : A → Type 0} (a : A) → Such a → Gives {H = H} Such (give a)
unfolding give
give_gives {Such = Such} a h = record { gives = λ s b e. let same : a ≡ b = cc e in subst Such same h }

each_pushed : {A : Type 0} (Fit : A → Type 0) (xs : List A) (x : A) → Each Fit xs → Fit x → Each Fit (xs ++ x ∷ [])
each_pushed Fit [] x h f = (f, tt)
each_pushed Fit (y ∷ ys) x h f = (h.0, each_pushed Fit ys x h.1 f)

givens_nest : (n : ℕ) (gs : List Given) → Each (NestsWithin n) gs → AllNestWithin n (givens gs)
givens_nest n [] h = tt
givens_nest n (g ∷ gs) h = (h.0, givens_nest n gs h.1)

-- ---- what is handed out

standing_nests : (n : ℕ) (o : Option (List Seg × Entry)) → NestsWithin n (standing o)
standing_nests n None = tt
standing_nests n (Some e) = tt

bits_nest_by_cases : {S : Type 0} (n : ℕ) (b : Bool) (bytes : List ℕ) (x : Outcome ℕ) (w : State S) (g : Given) → (if◌then◌else◌ {A = Outcome Given × State S} b (Ok (given.Bytes bytes), w) (seen given.Integer x, w)).0 ≡ Ok g → NestsWithin n g
bits_nest_by_cases n true bytes x w g e = let same : given.Bytes bytes ≡ g = cc e in subst (NestsWithin n) same tt
bits_nest_by_cases n false bytes (Ok k) w g e = let same : given.Integer k ≡ g = cc e in subst (NestsWithin n) same tt
bits_nest_by_cases n false bytes (Err x) w g e = absurd (cc e)

module _ {S : Type 0} (accesses : Accesses S) where
  bits_nest : (n count : ℕ) (bytes : List ℕ) → Gives {H = State S × ℕ} (NestsWithin n) (lift (given_of_bits count bytes))
  unfolding lift given_of_bits
  bits_nest n count bytes = record { gives = λ s g e. bits_nest_by_cases n (nat_lt (bits_of s.0.width) count) bytes (to_integer_of s.0.width (contents.Buffer bytes)) s.0 g e }

  field_nests : (n : ℕ) (f : Field) → Gives {H = State S × ℕ} (NestsWithin n) (field_exported accesses f)
  unfolding field_given
  field_nests n f = then_gives _ _ (λ bytes. bits_nest n _ bytes)

  text_nests : (n o : ℕ) → Gives {H = State S × ℕ} (NestsWithin n) (text_exported o)
  unfolding text_exported
  text_nests n o = then_gives _ _ (λ bytes. give_gives (given.Text bytes) tt)

  bytes_nest : (n o : ℕ) → Gives {H = State S × ℕ} (NestsWithin n) (bytes_exported o)
  unfolding bytes_exported
  bytes_nest n o = then_gives _ _ (λ bytes. give_gives (given.Bytes bytes) tt)

  reference_nests : (n : ℕ) (r : Reference) → Gives {H = State S × ℕ} (NestsWithin n) (reference_exported r)
  unfolding reference_exported path_of lift
  reference_nests n (reference.Name k) = record { gives = λ s g e. let same : standing (numbered k s.0.names.map) ≡ g = cc e in subst (NestsWithin n) same (standing_nests n (numbered k s.0.names.map)) }
  reference_nests n (reference.Slot slot k) = give_gives given.Reference tt
  reference_nests n (reference.Element o i) = give_gives given.Reference tt
  reference_nests n (reference.Byte o i) = give_gives given.Reference tt

  -- packs: packages nest at most so deep
  module _ (n : ℕ) (packs : (o : ℕ) → Gives {H = State S × ℕ} (NestsWithin n) (package_exported accesses n o)) where
    value_nests : (v : Value) → Gives {H = State S × ℕ} (NestsWithin n) (value_exported accesses (package_exported accesses n) v)
    unfolding value_exported
    value_nests value.Uninitialized = give_gives given.Nothing tt
    value_nests (value.Integer k) = give_gives (given.Integer k) tt
    value_nests (value.String o) = text_nests n o
    value_nests (value.Buffer o) = bytes_nest n o
    value_nests (value.Package o) = packs o
    value_nests (value.Reference r) = reference_nests n r

    use_nests : (u : NameUse) → Gives {H = State S × ℕ} (NestsWithin n) (use_exported accesses (package_exported accesses n) u)
    unfolding use_exported
    use_nests (uses.Value v) = value_nests v
    use_nests (uses.Field f) = field_nests n f
    use_nests (uses.Path p) = give_gives (given.Named p) tt

    held_nests : (e : Element) → Gives {H = State S × ℕ} (NestsWithin n) (held_exported accesses (package_exported accesses n) e)
    unfolding held_exported name_exported
    held_nests (element.Value v) = value_nests v
    held_nests (element.Name k scope) = then_gives _ _ use_nests

    element_nests : (e : Element) → Gives {H = State S × ℕ} (NestsWithin n) (element_exported accesses (package_exported accesses n) e)
    unfolding element_exported
    element_nests e = then_gives _ _ (λ step. held_nests e)

    all_nest : (es : List Element) (done : List Given) → Each (NestsWithin n) done → (s : State S × ℕ) (gs : List Given) → (each_exported accesses (package_exported accesses n) es done s).0 ≡ Ok gs → Each (NestsWithin n) gs
    unfolding each_exported give
    all_nest [] done h s gs e = let same : done ≡ gs = cc e in subst (Each (NestsWithin n)) same h
    all_nest (x ∷ es) done h s gs e =
        let both = gave_both (element_exported accesses (package_exported accesses n) x) (λ g. each_exported accesses (package_exported accesses n) es (done ++ g ∷ [])) s gs e in
        all_nest es (done ++ both.first ∷ []) (each_pushed (NestsWithin n) done both.first h ((element_nests x).gives s both.first both.gave)) _ gs both.then_gave

    package_of_nests : (es : List Element) → Gives {H = State S × ℕ} (NestsWithin (suc n)) (each_exported accesses (package_exported accesses n) es [] >>= (λ gs. give (given.Package (givens gs))))
    unfolding give
    package_of_nests es = record {
      gives = λ s g e.
          let both = gave_both (each_exported accesses (package_exported accesses n) es []) (λ gs. give (given.Package (givens gs))) s g e in
          let same : given.Package (givens both.first) ≡ g = cc both.then_gave in
          subst (NestsWithin (suc n)) same (givens_nest n both.first (all_nest es [] tt s both.first both.gave));
    }

    elements_nest : (o : ℕ) → Gives {H = State S × ℕ} (NestsWithin (suc n)) (elements_exported accesses (package_exported accesses n) o)
    unfolding elements_exported
    elements_nest o = then_gives _ _ package_of_nests

  package_nests : (n o : ℕ) → Gives {H = State S × ℕ} (NestsWithin n) (package_exported accesses n o)
  unfolding package_exported stop
  package_nests zero o = record { gives = λ s g e. absurd (cc e) }
  package_nests (suc n) o = elements_nest n (package_nests n) o

  exported_nests : (v : Value) → Gives {H = State S × ℕ} (NestsWithin 64) (exported accesses v)
  unfolding exported
  exported_nests v = value_nests 64 (package_nests 64) v

  invocation_nests : (i : Invocation) (arguments : List Value) → Gives {H = State S × ℕ} (NestsWithin 64) (invocation_exported accesses i arguments)
  invocation_nests (invocation.Field f) arguments = field_nests 64 f
  invocation_nests (invocation.Value v) arguments = then_gives _ _ exported_nests
  invocation_nests (invocation.Method p body) arguments = then_gives _ _ exported_nests
  invocation_nests invocation.Osi arguments = then_gives _ _ exported_nests

  pub answer_nests : (p : List Seg) (arguments : List Given) (steps : ℕ) (w : State S) (g : Given) → (answered accesses p arguments steps w).0 ≡ Ok g → NestsWithin 64 g
  unfolding answered ending with_steps answer_exported
  answer_nests p arguments steps w g e = (then_gives _ _ (λ i. then_gives _ _ (λ vs. invocation_nests i vs))).gives (w, steps) g e

-- ---- what is handed in

pub not_taken_back : {S : Type 0} (n : ℕ) (r : Outcome Value) (u : State S) (v : Value) → (taken_back n (r, u)).0 ≡ Ok v → r ≡ Ok v
not_taken_back n (Ok x) u v e = e
not_taken_back n (Err x) u v e = absurd (cc e)

module _ {S : Type 0} where
  mutual
    unfolding package_imported elements_imported each_imported stop

    given_nests : (n : ℕ) (g : Given) (w : State S) (v : Value) → (imported_by (package_imported n) g w).0 ≡ Ok v → NestsWithin n g
    given_nests n given.Nothing w v e = tt
    given_nests n (given.Integer k) w v e = tt
    given_nests n (given.Text bytes) w v e = tt
    given_nests n (given.Bytes bytes) w v e = tt
    given_nests zero (given.Package gs) w v e = absurd (cc e)
    given_nests (suc n) (given.Package gs) w v e =
        let both = gave_both (each_imported (package_imported n) gs []) (λ es. on_objects (make_package es)) w v e in
        givens_are_nested n gs [] w both.first both.gave
    given_nests n (given.Named p) w v e = tt
    given_nests n given.Reference w v e = tt

    givens_are_nested : (n : ℕ) (gs : Givens) (done : List Element) (w : State S) (es : List Element) → (each_imported (package_imported n) gs done w).0 ≡ Ok es → AllNestWithin n gs
    givens_are_nested n given.none done w es e = tt
    givens_are_nested n (given.more g gs) done w es e =
        let both = gave_both (imported_by (package_imported n) g) (λ v. each_imported (package_imported n) gs (done ++ element.Value v ∷ [])) w es e in
        (given_nests n g w both.first both.gave, givens_are_nested n gs (done ++ element.Value both.first ∷ []) _ es both.then_gave)

  pub handed_in_nests : (g : Given) (w : State S) (v : Value) → (imported g w).0 ≡ Ok v → NestsWithin 64 g
  unfolding imported
  handed_in_nests g w v e = given_nests 64 g w v (not_taken_back (length w.objects) (imported_by (package_imported 64) g w).0 (imported_by (package_imported 64) g w).1 v e)
