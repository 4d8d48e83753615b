-- What is handed in is handed out again.
use Rattle.std.specs.Prelude.{◌≡◌, ◌<◌, ◌+◌, ◌^◌, ℕ, zero, suc, List, [], ◌∷◌, ◌++◌, length, Some, Ok, Err, refl}
use Rattle.std.proofs.Common.{arith, inl, inr, ap, sym, subst, ◌∙◌, append-nil, append_assoc}
use Rattle.std.proofs.Math.Nat.{mod-eq_of_lt}
use Rattle.ar_space.specs.Accesses.{Accesses}
use Rattle.ar_space.specs.Outcome.{Outcome, seen}
use Rattle.ar_space.specs.Change.{give, stop, go_on, ◌>>=◌}
use Rattle.aml_path.specs.declared.segment.Seg.{Seg}
use Rattle.aml_path.specs.Paths.{resolved}
use Rattle.aml_objects.specs.Objects.{make_string, make_buffer, make_package, string_in, buffer_in, elements_in, string_at, buffer_at, elements_at}
use Rattle.aml_objects.specs.declared.object.Element.{Element}
use Rattle.aml_objects.specs.declared.object.Element.TheVariants as element
use Rattle.aml_objects.specs.declared.object.Object.{Object}
use Rattle.aml_objects.specs.declared.object.Object.TheVariants as object
use Rattle.aml_objects.specs.declared.entry.Entry.{Entry}
use Rattle.aml_objects.specs.declared.value.Value.{Value}
use Rattle.aml_objects.specs.declared.value.Value.TheVariants as value
use Rattle.aml_objects.specs.declared.value.Reference.TheVariants as reference
use Rattle.aml_namespace.specs.Namespace.{Map, numbered}
use Rattle.aml_namespace.specs.Numbering.{Numbered}
use Rattle.aml_namespace.specs.Search.{found}
use Rattle.aml_convert.specs.Integers.{bits_of}
use Rattle.aml_world.specs.state.Given.{Given, Nothing, Integer, Text, Bytes, Package, Named, Reference, Givens, none, more, givens}
use Rattle.aml_world.specs.state.State.{State, on_objects}
use Rattle.aml_world.specs.state.Run.{lift}
use Rattle.aml_world.specs.state.Readings.{absolute, integer_kept, entry_found}
use Rattle.aml_world.specs.state.Importing.{reference_to, imported_by, each_imported, elements_imported, package_imported, taken_back, imported}
use Rattle.aml_world.specs.state.NameUses.{standing, path_of}
use Rattle.aml_meaning.specs.Exporting.{text_exported, bytes_exported, reference_exported, value_exported, held_exported, element_exported, each_exported, elements_exported, package_exported, exported}
use Rattle.aml_laws.specs.HandedBack as handed
use Rattle.aml_laws.specs.HandedBack.{StandsItself, ComesBack, AllComeBack, elements_of}
use Rattle.aml_laws.specs.NamesFound.{itself}
use Rattle.aml_laws.proofs.Charges.{charge_one}
use Rattle.aml_laws.proofs.NamesSearched.{one_path_found}
use Rattle.aml_laws.proofs.ObjectsMade.{MadeOrNot, string_made, buffer_made, package_made, stands_there}
use Rattle.aml_laws.proofs.ReferencesToNames.{numbered_finds}

abbrev over : {S : Type 0} → State S → List Object → State S
over w hs = record w { objects = hs }

listed : Givens → List Given
listed none = []
listed (more g gs) = g ∷ listed gs

givens_listed : (gs : Givens) → givens (listed gs) ≡ gs
unfolding listed
givens_listed none = refl
givens_listed (more g gs) = ap (more g) (givens_listed gs)

listed_none : listed none ≡ []
unfolding listed
listed_none = refl

listed_more : (g : Given) (gs : Givens) → listed (more g gs) ≡ g ∷ listed gs
unfolding listed
listed_more g gs = refl

absolute_resolved : (p : List Seg) → resolved (absolute p) [] ≡ Ok p
unfolding resolved
absolute_resolved p = refl

module _ {S : Type 0} (accesses : Accesses S) where
  -- ---- what comes of handing in, and then of handing out, whatever objects are made meanwhile

  record Back (n : ℕ) (w : State S) (g : Given) (v : Value) (after : State S) : Type 0 where
    made : List Object
    adds : after ≡ over w (w.objects ++ made)
    back : (later : List Object) (steps rest : ℕ) → steps ≡ elements_of g + rest
        → value_exported accesses (package_exported accesses n) v (over w ((w.objects ++ made) ++ later), steps) ≡ (Ok g, (over w ((w.objects ++ made) ++ later), rest))

  abbrev BackIf : ℕ → State S → Given → Outcome Value → State S → Type 0
  BackIf n w g (Ok v) after = Back n w g v after
  BackIf n w g (Err e) after = Unit {0}

  record AllBack (n : ℕ) (w : State S) (gs : Givens) (done es : List Element) (after : State S) : Type 0 where
    new : List Element
    are : es ≡ done ++ new
    made : List Object
    adds : after ≡ over w (w.objects ++ made)
    back : (later : List Object) (steps rest : ℕ) (before : List Given) → steps ≡ handed.elements_in gs + rest
        → each_exported accesses (package_exported accesses n) new before (over w ((w.objects ++ made) ++ later), steps) ≡ (Ok (before ++ listed gs), (over w ((w.objects ++ made) ++ later), rest))

  abbrev AllBackIf : ℕ → State S → Givens → List Element → Outcome (List Element) → State S → Type 0
  AllBackIf n w gs done (Ok es) after = AllBack n w gs done es after
  AllBackIf n w gs done (Err e) after = Unit {0}

  -- ---- values that hold no others

  same_steps : (g : Given) (u : State S) (steps rest : ℕ) → steps ≡ 0 + rest → ◌≡◌ {A = Outcome Given × (State S × ℕ)} (Ok g, (u, steps)) (Ok g, (u, rest))
  same_steps g u steps rest e = let same : steps ≡ rest = omega arith in ap (λ k. (Ok g, (u, k))) same

  nothing_back : (n : ℕ) (w : State S) → BackIf n w Nothing (Ok value.Uninitialized) w
  unfolding value_exported give
  nothing_back n w = record { made = []; adds = ap (over w) (sym (append-nil w.objects)); back = λ later steps rest e. same_steps Nothing (over w ((w.objects ++ []) ++ later)) steps rest e }

  integer_back : (n : ℕ) (w : State S) (k : ℕ) → k < 2 ^ bits_of w.width → BackIf n w (Integer k) (integer_kept k w).0 (integer_kept k w).1
  unfolding integer_kept value_exported give
  integer_back n w k small = record {
    made = [];
    adds = ap (over w) (sym (append-nil w.objects));
    back = λ later steps rest e. ap (λ m. (Ok (Integer m), (over w ((w.objects ++ []) ++ later), steps))) (mod-eq_of_lt small) ∙ same_steps (Integer k) (over w ((w.objects ++ []) ++ later)) steps rest e;
  }

  text_out : (n : ℕ) (w : State S) (h later : List Object) (bs : List ℕ) (steps rest : ℕ) → steps ≡ 0 + rest
      → value_exported accesses (package_exported accesses n) (value.String (length h)) (over w ((h ++ object.String bs ∷ []) ++ later), steps) ≡ (Ok (Text bs), (over w ((h ++ object.String bs ∷ []) ++ later), rest))
  unfolding value_exported text_exported lift on_objects string_at give go_on ◌>>=◌
  text_out n w h later bs steps rest e =
      ap (λ o. go_on (string_in o) (over w ((h ++ object.String bs ∷ []) ++ later), steps) (λ bytes. give (Text bytes))) (stands_there h later (object.String bs))
      ∙ same_steps (Text bs) (over w ((h ++ object.String bs ∷ []) ++ later)) steps rest e

  bytes_out : (n : ℕ) (w : State S) (h later : List Object) (bs : List ℕ) (steps rest : ℕ) → steps ≡ 0 + rest
      → value_exported accesses (package_exported accesses n) (value.Buffer (length h)) (over w ((h ++ object.Buffer bs ∷ []) ++ later), steps) ≡ (Ok (Bytes bs), (over w ((h ++ object.Buffer bs ∷ []) ++ later), rest))
  unfolding value_exported bytes_exported lift on_objects buffer_at give go_on ◌>>=◌
  bytes_out n w h later bs steps rest e =
      ap (λ o. go_on (buffer_in o) (over w ((h ++ object.Buffer bs ∷ []) ++ later), steps) (λ bytes. give (Bytes bytes))) (stands_there h later (object.Buffer bs))
      ∙ same_steps (Bytes bs) (over w ((h ++ object.Buffer bs ∷ []) ++ later)) steps rest e

  text_by : (n : ℕ) (w : State S) (bs : List ℕ) (p : Outcome Value × List Object) → MadeOrNot value.String (object.String bs) w.objects p → BackIf n w (Text bs) p.0 (over w p.1)
  text_by n w bs p (inl (e, is)) = subst (λ (q : Outcome Value × List Object). BackIf n w (Text bs) q.0 (over w q.1)) (sym is) tt
  text_by n w bs p (inr is) = subst (λ (q : Outcome Value × List Object). BackIf n w (Text bs) q.0 (over w q.1)) (sym is)
      (record { made = object.String bs ∷ []; adds = refl; back = λ later steps rest e. text_out n w w.objects later bs steps rest e })

  bytes_by : (n : ℕ) (w : State S) (bs : List ℕ) (p : Outcome Value × List Object) → MadeOrNot value.Buffer (object.Buffer bs) w.objects p → BackIf n w (Bytes bs) p.0 (over w p.1)
  bytes_by n w bs p (inl (e, is)) = subst (λ (q : Outcome Value × List Object). BackIf n w (Bytes bs) q.0 (over w q.1)) (sym is) tt
  bytes_by n w bs p (inr is) = subst (λ (q : Outcome Value × List Object). BackIf n w (Bytes bs) q.0 (over w q.1)) (sym is)
      (record { made = object.Buffer bs ∷ []; adds = refl; back = λ later steps rest e. bytes_out n w w.objects later bs steps rest e })

  text_back : (n : ℕ) (w : State S) (bs : List ℕ) → BackIf n w (Text bs) (on_objects {S = S} (make_string bs) w).0 (on_objects {S = S} (make_string bs) w).1
  unfolding on_objects
  text_back n w bs = text_by n w bs (make_string bs w.objects) (string_made bs w.objects)

  bytes_back : (n : ℕ) (w : State S) (bs : List ℕ) → BackIf n w (Bytes bs) (on_objects {S = S} (make_buffer bs) w).0 (on_objects {S = S} (make_buffer bs) w).1
  unfolding on_objects
  bytes_back n w bs = bytes_by n w bs (make_buffer bs w.objects) (buffer_made bs w.objects)

  -- ---- names

  name_out : (n : ℕ) (u : State S) (p : List Seg) (entry : Entry) (steps rest : ℕ) → numbered entry.number u.names.map ≡ Some (p, entry) → steps ≡ 0 + rest
      → value_exported accesses (package_exported accesses n) (value.Reference (reference.Name entry.number)) (u, steps) ≡ (Ok (Named p), (u, rest))
  unfolding value_exported reference_exported path_of lift
  name_out n u p entry steps rest is e = ap (λ o. (Ok (standing o), (u, steps))) is ∙ same_steps (Named p) u steps rest e

  name_stands : (names : Map) (p : List Seg) (s : StandsItself names p) → found names [] (absolute p) ≡ Ok (p, s.entry)
  name_stands names p s = one_path_found names [] (absolute p) p s.entry (Ok (p, s.entry)) refl (absolute_resolved p) s.stands (itself s.no_alias)

  name_in : (w : State S) (p : List Seg) (s : StandsItself w.names.map p) → reference_to p w ≡ (Ok (value.Reference (reference.Name s.entry.number)), w)
  unfolding reference_to entry_found give go_on ◌>>=◌
  name_in w p s = ap (λ x. go_on {S = State S} (seen (λ f. f.1) x) w (λ e. give (value.Reference (reference.Name e.number)))) (name_stands w.names.map p s)

  name_back : (n : ℕ) (w : State S) (p : List Seg) → Numbered w.names → StandsItself w.names.map p → BackIf n w (Named p) (reference_to p w).0 (reference_to p w).1
  name_back n w p apart s = subst (λ (q : Outcome Value × State S). BackIf n w (Named p) q.0 q.1) (sym (name_in w p s)) (record {
    made = [];
    adds = ap (over w) (sym (append-nil w.objects));
    back = λ later steps rest e. name_out n (over w ((w.objects ++ []) ++ later)) p s.entry steps rest (numbered_finds w.names p s.entry apart s.stands) e;
  })

  -- ---- packages

  package_out : (n : ℕ) (w : State S) (gs : Givens) (es : List Element) (h later : List Object) (steps rest : ℕ)
      → each_exported accesses (package_exported accesses n) es [] (over w ((h ++ object.Package es ∷ []) ++ later), steps) ≡ (Ok ([] ++ listed gs), (over w ((h ++ object.Package es ∷ []) ++ later), rest))
      → value_exported accesses (package_exported accesses (suc n)) (value.Package (length h)) (over w ((h ++ object.Package es ∷ []) ++ later), steps) ≡ (Ok (Package gs), (over w ((h ++ object.Package es ∷ []) ++ later), rest))
  unfolding value_exported package_exported elements_exported lift on_objects elements_at give go_on ◌>>=◌
  package_out n w gs es h later steps rest out =
      let hs = (h ++ object.Package es ∷ []) ++ later in
      ap (λ o. go_on (elements_in o) (over w hs, steps) (λ es. each_exported accesses (package_exported accesses n) es [] >>= (λ gs. give (Package (givens gs))))) (stands_there h later (object.Package es))
      ∙ ap (λ (p : Outcome (List Given) × (State S × ℕ)). go_on p.0 p.1 (λ gs. give (Package (givens gs)))) out
      ∙ ap (λ gs. (Ok (Package gs), (over w hs, rest))) (givens_listed gs)

  elements_out : (n : ℕ) (w : State S) (gs : Givens) (es : List Element) (w1 : State S) (all : AllBack n w gs [] es w1) (later : List Object) (steps rest : ℕ) → steps ≡ handed.elements_in gs + rest
      → each_exported accesses (package_exported accesses n) es [] (over w (((w.objects ++ all.made) ++ object.Package es ∷ []) ++ later), steps) ≡ (Ok ([] ++ listed gs), (over w (((w.objects ++ all.made) ++ object.Package es ∷ []) ++ later), rest))
  elements_out n w gs es w1 all later steps rest e =
      let hs = ((w.objects ++ all.made) ++ object.Package es ∷ []) ++ later in
      subst (λ xs. each_exported accesses (package_exported accesses n) xs [] (over w hs, steps) ≡ (Ok ([] ++ listed gs), (over w hs, rest))) (sym all.are)
      (subst (λ xs. each_exported accesses (package_exported accesses n) all.new [] (over w xs, steps) ≡ (Ok ([] ++ listed gs), (over w xs, rest))) (sym (append_assoc (w.objects ++ all.made) (object.Package es ∷ []) later))
      (all.back (object.Package es ∷ later) steps rest [] e))

  pack_made : (n : ℕ) (w : State S) (gs : Givens) (es : List Element) (w1 : State S) → AllBack n w gs [] es w1 → Back (suc n) w (Package gs) (value.Package (length w1.objects)) (over w1 (w1.objects ++ object.Package es ∷ []))
  pack_made n w gs es w1 all = subst (λ u. Back (suc n) w (Package gs) (value.Package (length u.objects)) (over u (u.objects ++ object.Package es ∷ []))) (sym all.adds) (record {
    made = all.made ++ object.Package es ∷ [];
    adds = ap (over w) (append_assoc w.objects all.made (object.Package es ∷ []));
    back = λ later steps rest e.
        subst (λ hs. value_exported accesses (package_exported accesses (suc n)) (value.Package (length (w.objects ++ all.made))) (over w (hs ++ later), steps) ≡ (Ok (Package gs), (over w (hs ++ later), rest))) (append_assoc w.objects all.made (object.Package es ∷ []))
        (package_out n w gs es (w.objects ++ all.made) later steps rest (elements_out n w gs es w1 all later steps rest e));
  })

  pack_by : (n : ℕ) (w : State S) (gs : Givens) (es : List Element) (w1 : State S) → AllBack n w gs [] es w1 → (p : Outcome Value × List Object) → MadeOrNot value.Package (object.Package es) w1.objects p → BackIf (suc n) w (Package gs) p.0 (over w1 p.1)
  pack_by n w gs es w1 all p (inl (e, is)) = subst (λ (q : Outcome Value × List Object). BackIf (suc n) w (Package gs) q.0 (over w1 q.1)) (sym is) tt
  pack_by n w gs es w1 all p (inr is) = subst (λ (q : Outcome Value × List Object). BackIf (suc n) w (Package gs) q.0 (over w1 q.1)) (sym is) (pack_made n w gs es w1 all)

  pack_after : (n : ℕ) (w : State S) (gs : Givens) (r : Outcome (List Element)) (w1 : State S) → AllBackIf n w gs [] r w1
      → BackIf (suc n) w (Package gs) (go_on r w1 (λ es. on_objects (make_package es))).0 (go_on r w1 (λ es. on_objects (make_package es))).1
  unfolding go_on on_objects
  pack_after n w gs (Err e) w1 all = tt
  pack_after n w gs (Ok es) w1 all = pack_by n w gs es w1 all (make_package es w1.objects) (package_made es w1.objects)

  -- ---- elements, one after another

  element_out : (n : ℕ) (u : State S) (g : Given) (v : Value) (steps rest : ℕ) → steps ≡ 1 + elements_of g + rest
      → ((b : ℕ) → b ≡ elements_of g + rest → value_exported accesses (package_exported accesses n) v (u, b) ≡ (Ok g, (u, rest)))
      → element_exported accesses (package_exported accesses n) (element.Value v) (u, steps) ≡ (Ok g, (u, rest))
  unfolding element_exported held_exported go_on ◌>>=◌
  element_out n u g v steps rest e out =
      let next : steps ≡ suc (elements_of g + rest) = omega arith in
      ap (λ k. element_exported accesses (package_exported accesses n) (element.Value v) (u, k)) next
      ∙ ap (λ (p : Outcome (Unit {0}) × (State S × ℕ)). go_on p.0 p.1 (λ step. held_exported accesses (package_exported accesses n) (element.Value v))) (charge_one u (elements_of g + rest))
      ∙ out (elements_of g + rest) refl

  more_out : (n : ℕ) (u : State S) (g : Given) (gs : Givens) (v : Value) (new : List Element) (steps rest : ℕ) (before : List Given) → steps ≡ 1 + elements_of g + handed.elements_in gs + rest
      → ((b r : ℕ) → b ≡ elements_of g + r → value_exported accesses (package_exported accesses n) v (u, b) ≡ (Ok g, (u, r)))
      → ((k : ℕ) → k ≡ handed.elements_in gs + rest → each_exported accesses (package_exported accesses n) new (before ++ g ∷ []) (u, k) ≡ (Ok ((before ++ g ∷ []) ++ listed gs), (u, rest)))
      → each_exported accesses (package_exported accesses n) (element.Value v ∷ new) before (u, steps) ≡ (Ok (before ++ g ∷ listed gs), (u, rest))
  unfolding each_exported go_on ◌>>=◌
  more_out n u g gs v new steps rest before e out further =
      ap (λ (p : Outcome Given × (State S × ℕ)). go_on p.0 p.1 (λ x. each_exported accesses (package_exported accesses n) new (before ++ x ∷ []))) (element_out n u g v steps (handed.elements_in gs + rest) (omega arith) (λ b is. out b (handed.elements_in gs + rest) is))
      ∙ further (handed.elements_in gs + rest) refl
      ∙ ap (λ xs. (Ok xs, (u, rest))) (append_assoc before (g ∷ []) (listed gs))

  joined_at : (n : ℕ) (w : State S) (g : Given) (gs : Givens) (done es : List Element) (v : Value) (w2 : State S) (made : List Object)
      → ((later : List Object) (steps rest : ℕ) → steps ≡ elements_of g + rest → value_exported accesses (package_exported accesses n) v (over w ((w.objects ++ made) ++ later), steps) ≡ (Ok g, (over w ((w.objects ++ made) ++ later), rest)))
      → AllBack n (over w (w.objects ++ made)) gs (done ++ element.Value v ∷ []) es w2 → AllBack n w (more g gs) done es w2
  joined_at n w g gs done es v w2 made back second = record {
    new = element.Value v ∷ second.new;
    are = second.are ∙ append_assoc done (element.Value v ∷ []) second.new;
    made = made ++ second.made;
    adds = second.adds ∙ ap (over w) (append_assoc w.objects made second.made);
    back = λ later steps rest before e.
        let apart : (w.objects ++ (made ++ second.made)) ++ later ≡ ((w.objects ++ made) ++ second.made) ++ later = ap (λ xs. xs ++ later) (sym (append_assoc w.objects made second.made)) in
        let behind : (w.objects ++ (made ++ second.made)) ++ later ≡ (w.objects ++ made) ++ (second.made ++ later) = apart ∙ append_assoc (w.objects ++ made) second.made later in
        more_out n (over w ((w.objects ++ (made ++ second.made)) ++ later)) g gs v second.new steps rest before e
        (λ b r is. subst (λ xs. value_exported accesses (package_exported accesses n) v (over w xs, b) ≡ (Ok g, (over w xs, r))) (sym behind) (back (second.made ++ later) b r is))
        (λ k is. subst (λ xs. each_exported accesses (package_exported accesses n) second.new (before ++ g ∷ []) (over w xs, k) ≡ (Ok ((before ++ g ∷ []) ++ listed gs), (over w xs, rest))) (sym apart) (second.back later k rest (before ++ g ∷ []) is))
        ∙ ap (λ xs. (Ok (before ++ xs), (over w ((w.objects ++ (made ++ second.made)) ++ later), rest))) (sym (listed_more g gs));
  }

  joined_if : (n : ℕ) (w : State S) (g : Given) (gs : Givens) (done : List Element) (v : Value) (w1 : State S) → Back n w g v w1 → (r : Outcome (List Element)) (w2 : State S) → AllBackIf n w1 gs (done ++ element.Value v ∷ []) r w2 → AllBackIf n w (more g gs) done r w2
  joined_if n w g gs done v w1 first (Err e) w2 second = tt
  joined_if n w g gs done v w1 first (Ok es) w2 second = joined_at n w g gs done es v w2 first.made first.back (subst (λ u. AllBack n u gs (done ++ element.Value v ∷ []) es w2) first.adds second)

  more_by : (n : ℕ) (w : State S) (g : Given) (gs : Givens) (done : List Element) (r : Outcome Value) (w1 : State S) → BackIf n w g r w1
      → ((v : Value) (u : State S) → Back n w g v u → AllBackIf n u gs (done ++ element.Value v ∷ []) (each_imported (package_imported n) gs (done ++ element.Value v ∷ []) u).0 (each_imported (package_imported n) gs (done ++ element.Value v ∷ []) u).1)
      → AllBackIf n w (more g gs) done (go_on r w1 (λ v. each_imported (package_imported n) gs (done ++ element.Value v ∷ []))).0 (go_on r w1 (λ v. each_imported (package_imported n) gs (done ++ element.Value v ∷ []))).1
  unfolding go_on
  more_by n w g gs done (Err e) w1 first further = tt
  more_by n w g gs done (Ok v) w1 first further =
      joined_if n w g gs done v w1 first (each_imported (package_imported n) gs (done ++ element.Value v ∷ []) w1).0 (each_imported (package_imported n) gs (done ++ element.Value v ∷ []) w1).1 (further v w1 first)

  none_back : (n : ℕ) (w : State S) (done : List Element) → AllBack n w none done done w
  unfolding each_exported give
  none_back n w done = record {
    new = [];
    are = sym (append-nil done);
    made = [];
    adds = ap (over w) (sym (append-nil w.objects));
    back = λ later steps rest before e.
        let same : steps ≡ rest = omega arith in
        ap (λ k. (Ok before, (over w ((w.objects ++ []) ++ later), k))) same
        ∙ ap (λ xs. (Ok xs, (over w ((w.objects ++ []) ++ later), rest))) (sym (ap (λ xs. before ++ xs) listed_none ∙ append-nil before));
  }

  mutual
    unfolding package_imported elements_imported each_imported give stop ◌>>=◌

    given_back : (n : ℕ) (w : State S) (g : Given) → Numbered w.names → ComesBack w.width w.names.map g → BackIf n w g (imported_by (package_imported n) g w).0 (imported_by (package_imported n) g w).1
    given_back n w Nothing apart h = nothing_back n w
    given_back n w (Integer k) apart h = integer_back n w k h
    given_back n w (Text bs) apart h = text_back n w bs
    given_back n w (Bytes bs) apart h = bytes_back n w bs
    given_back zero w (Package gs) apart h = tt
    given_back (suc n) w (Package gs) apart h = pack_after n w gs (each_imported (package_imported n) gs [] w).0 (each_imported (package_imported n) gs [] w).1 (all_back n w gs [] apart h)
    given_back n w (Named p) apart h = name_back n w p apart h
    given_back n w Reference apart h = absurd h

    all_back : (n : ℕ) (w : State S) (gs : Givens) (done : List Element) → Numbered w.names → AllComeBack w.width w.names.map gs → AllBackIf n w gs done (each_imported (package_imported n) gs done w).0 (each_imported (package_imported n) gs done w).1
    all_back n w none done apart h = none_back n w done
    all_back n w (more g gs) done apart h =
        more_by n w g gs done (imported_by (package_imported n) g w).0 (imported_by (package_imported n) g w).1 (given_back n w g apart h.0)
        (λ v u first. all_back n u gs (done ++ element.Value v ∷ []) (subst (λ x. Numbered x.names) (sym first.adds) apart) (subst (λ x. AllComeBack x.width x.names.map gs) (sym first.adds) h.1))

  -- ---- the law

  kept : (w : State S) (g : Given) (count : ℕ) (r : Outcome Value) (u : State S) (v : Value) (after : State S) → BackIf 64 w g r u → taken_back count (r, u) ≡ (Ok v, after) → Back 64 w g v after
  kept w g count (Ok x) u v after h e =
      let same : x ≡ v = cc (ap (λ (p : Outcome Value × State S). p.0) e) in
      subst (λ y. Back 64 w g y after) same (subst (λ z. Back 64 w g x z) (ap (λ (p : Outcome Value × State S). p.1) e) h)
  kept w g count (Err x) u v after h e = absurd (cc (ap (λ (p : Outcome Value × State S). p.0) e))

  pub handed_back : (g : Given) (v : Value) (w after : State S) (steps rest : ℕ) → Numbered w.names → ComesBack w.width w.names.map g → imported g w ≡ (Ok v, after) → steps ≡ elements_of g + rest → exported accesses v (after, steps) ≡ (Ok g, (after, rest))
  unfolding imported exported
  handed_back g v w after steps rest apart h e many =
      let b = kept w g (length w.objects) (imported_by (package_imported 64) g w).0 (imported_by (package_imported 64) g w).1 v after (given_back 64 w g apart h) e in
      subst (λ u. value_exported accesses (package_exported accesses 64) v (u, steps) ≡ (Ok g, (u, rest))) (ap (over w) (append-nil (w.objects ++ b.made)) ∙ sym b.adds) (b.back [] steps rest many)
