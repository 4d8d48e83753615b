-- The body of a control method that is read over a world, which it leaves alone; and what stays kept of bodies.
use Rattle.std.specs.Prelude.{◌≡◌, ℕ, List, [], ◌∷◌, Bool, true, false, Some, Result, Ok, Err, OnOk, OnErr, cond}
use Rattle.std.proofs.Common.{◌∙◌, ap, sym, subst, refl}
use Rattle.std.specs.BTreeMap.{insert_entry}
use Rattle.std.specs.Map.{lookup}
use Rattle.std.specs.declared.cmp.Ordering.{Ordering}
use Rattle.std.specs.declared.cmp.Ordering.TheVariants.{Less, Equal, Greater}
use Rattle.std.specs.Ordering.{match_ordering}
use Rattle.ar_space.specs.declared.integer_width.IntegerWidth.{IntegerWidth}
use Rattle.ar_space.specs.Outcome.{Outcome, Answers, seen}
use Rattle.ar_space.specs.Change.{Does}
use Rattle.aml_path.specs.declared.segment.Seg.{Seg}
use Rattle.aml_path.specs.Paths.{path_cmp}
use Rattle.aml_namespace.proofs.Paths.{only_equal}
use Rattle.aml_arities.specs.declared.arities.Arity.{Arity}
use Rattle.aml_grammar.specs.Tree.{Tree}
use Rattle.aml_grammar.specs.Shape.{trees_of}
use Rattle.aml_grammar.specs.declared.marks.Mark.{Mark}
use Rattle.aml_grammar.specs.Grammar.{reading_within}
use Rattle.aml_marks.specs.Marked.{trees_by}
use Rattle.aml_objects.specs.Objects.{Objects}
use Rattle.aml_world.specs.declared.state.frame.Frame.{Frame}
use Rattle.aml_world.specs.declared.state.profile.Profile.{Profile}
use Rattle.aml_world.specs.declared.state.settings.Nesting.{Nesting}
use Rattle.aml_world.specs.state.PassedOver.{PassedOver}
use Rattle.aml_world.specs.state.State.{State}
use Rattle.aml_world.specs.state.Invocations.{body_terms, body_arities}
use Rattle.aml_world.specs.declared.state.known_names.ScannedBody.{ScannedBody}
use Rattle.aml_world.specs.state.Known.{Known, known_arities}
use Rattle.aml_world.specs.state.KeptBodies.{IsScanned, AreKept}

pub body_read : {S V : Type 0} (view : V → List Tree) (r : Outcome V) (path : List Seg) (body : List ℕ) (w : State S) → Answers (seen view r) (reading_within w.nesting.levels body path true (body_arities w))
    → Does (seen (λ v. trees_of (view v)) r) w (body_terms path body) w
unfolding body_terms
body_read view (Ok v) path body w h = record { is = λ ne. ap (λ x. (seen trees_of x, w)) (h.is tt) }
body_read view (Err e) path body w h = record { is = λ ne. ap (λ x. (seen trees_of x, w)) (h.is ne) }

pub body_of_world : {S V : Type 0} (view : V → List Tree) (r : Outcome V) (path : List Seg) (body : List ℕ) (k k1 : Known) (o : Objects) (f : List Frame) (n : ℕ) (p : S) (i : List (List ℕ)) (d : IntegerWidth) (g : Profile) (z : Nesting) (q : PassedOver) (w : State S)
    → record { names = k.names; arities = k.arities; objects = o; frames = f; started = n; space = p; osi = i; width = d; profile = g; nesting = z; passed = q } ≡ w → k1 ≡ k → Answers (seen view r) (reading_within z.levels body path true (known_arities k))
    → Does (seen (λ v. trees_of (view v)) r) (record { names = k1.names; arities = k1.arities; objects = o; frames = f; started = n; space = p; osi = i; width = d; profile = g; nesting = z; passed = q }) (body_terms path body) w
body_of_world {S = S} view r path body k k1 o f n p i d g z q w e same h =
    let before : State S = record { names = k.names; arities = k.arities; objects = o; frames = f; started = n; space = p; osi = i; width = d; profile = g; nesting = z; passed = q } in
    subst (λ (x : State S). Does (seen (λ v. trees_of (view v)) r) (record { names = k1.names; arities = k1.arities; objects = o; frames = f; started = n; space = p; osi = i; width = d; profile = g; nesting = z; passed = q }) (body_terms path body) x) e
    (subst (λ (x : Known). Does (seen (λ v. trees_of (view v)) r) (record { names = x.names; arities = x.arities; objects = o; frames = f; started = n; space = p; osi = i; width = d; profile = g; nesting = z; passed = q }) (body_terms path body) before) (sym same)
    (body_read view r path body before h))

pub none_kept : (arities : List Arity) → AreKept arities []
unfolding AreKept
none_kept arities = tt

-- what is kept stays where the arguments are the same
pub stays_kept : (before after : List Arity) (k : List (List Seg × ScannedBody)) → after ≡ before → AreKept before k → AreKept after k
stays_kept before after k same h = subst (λ a. AreKept a k) (sym same) h

-- what is kept, or nothing
pub kept_where : (b : Bool) (before after : List Arity) (k k1 : List (List Seg × ScannedBody)) → (b ≡ true → k1 ≡ k) → (b ≡ false → k1 ≡ []) → (b ≡ true → after ≡ before) → AreKept before k → AreKept after k1
kept_where true before after k k1 stays goes same h = subst (AreKept after) (sym (stays refl)) (stays_kept before after k (same refl) h)
kept_where false before after k k1 stays goes same h = subst (AreKept after) (sym (goes refl)) (none_kept after)

pub forgotten : (arities : List Arity) (k : List (List Seg × ScannedBody)) → k ≡ [] → AreKept arities k
forgotten arities k is = subst (AreKept arities) (sym is) (none_kept arities)

-- one that is found among those that are kept
module _ (arities : List Arity) (path : List Seg) (test : List Seg → Bool) (same : (k : List Seg) → test k ≡ true → path ≡ k) where
  found_first : (t : Bool) (e : List Seg × ScannedBody) (es : List (List Seg × ScannedBody)) (b : ScannedBody) → (t ≡ true → path ≡ e.0) → (lookup test es ≡ Some b → IsScanned arities path b) → cond t (Some e.1) (lookup test es) ≡ Some b → IsScanned arities e.0 e.1 → IsScanned arities path b
  found_first true e es b here later is h = subst (λ p. IsScanned arities p b) (sym (here refl)) (subst (IsScanned arities e.0) (cc is) h)
  found_first false e es b here later is h = later is

  found_kept : (es : List (List Seg × ScannedBody)) (b : ScannedBody) → lookup test es ≡ Some b → AreKept arities es → IsScanned arities path b
  unfolding AreKept
  found_kept [] b is h = absurd (cc is)
  found_kept (e ∷ es) b is h = found_first (test e.0) e es b (same e.0) (λ there. found_kept es b there h.1) is h.0

-- one that is kept beside the others, or in place of one of them
module _ (arities : List Arity) (path : List Seg) (b : ScannedBody) (read : IsScanned arities path b) where
  put_before : (r : Ordering) (e : List Seg × ScannedBody) (es : List (List Seg × ScannedBody)) → (r ≡ Equal → path ≡ e.0) → AreKept arities (insert_entry path_cmp es path b) → IsScanned arities e.0 e.1 → AreKept arities es → AreKept arities (match_ordering r ((path, b) ∷ e ∷ es) ((e.0, b) ∷ es) (e ∷ insert_entry path_cmp es path b))
  unfolding AreKept
  put_before Less e es same later h hs = (read, (h, hs))
  put_before Equal e es same later h hs = (subst (λ p. IsScanned arities p b) (same refl) read, hs)
  put_before Greater e es same later h hs = (h, later)

  put_kept : (es : List (List Seg × ScannedBody)) → AreKept arities es → AreKept arities (insert_entry path_cmp es path b)
  unfolding AreKept
  put_kept [] h = (read, tt)
  put_kept (e ∷ es) h = put_before (path_cmp path e.0) e es (only_equal path e.0) (put_kept es h.1) h.0 h.1

-- by what is kept its body reads as it would read now
pub kept_read : (test : List Seg → Bool) (k : List (List Seg × ScannedBody)) (b : ScannedBody) (levels : ℕ) (path : List Seg) (body : List ℕ) (known now : Known) → ((q : List Seg) → test q ≡ true → path ≡ q) → known ≡ now → AreKept (known_arities known) k → lookup test k ≡ Some b → b.levels ≡ levels → b.body ≡ body
    → reading_within levels body path true (known_arities now) ≡ Ok (trees_by b.marks body)
kept_read test k b levels path body known now at same h is deep bytes =
    let read : reading_within b.levels b.body path true (known_arities known) ≡ Ok (trees_by b.marks b.body) = found_kept (known_arities known) path test at k b is h in
    let there : reading_within levels b.body path true (known_arities known) ≡ Ok (trees_by b.marks b.body) = ap (λ n. reading_within n b.body path true (known_arities known)) (sym deep) ∙ read in
    ap (λ w. reading_within levels body path true (known_arities w)) (sym same) ∙ ap (λ bs. reading_within levels bs path true (known_arities known)) (sym bytes) ∙ there ∙ ap (λ bs. Ok (trees_by b.marks bs)) bytes

scanned_now : (b : ScannedBody) (levels : ℕ) (path : List Seg) (body : List ℕ) (marks : List Mark) (arities : List Arity) → record { body = body; levels = levels; marks = marks } ≡ b → reading_within levels body path true arities ≡ Ok (trees_by marks body) → IsScanned arities path b
scanned_now b levels path body marks arities is read = subst (IsScanned arities path) is read

-- what is kept with that of a scan now, or without it where there is no memory
pub newly_kept : {A B : Type 0} (r : Result A B) (b : ScannedBody) (k k1 : List (List Seg × ScannedBody)) (levels : ℕ) (at path : List Seg) (body : List ℕ) (marks : List Mark) (known now : Known) → known ≡ now → Answers (Ok at) (Ok path) → Answers (Ok b) (Ok (record { body = body; levels = levels; marks = marks })) → OnOk r (k1 ≡ insert_entry path_cmp k at b) → OnErr r (k1 ≡ k)
    → reading_within levels body path true (known_arities now) ≡ Ok (trees_by marks body) → AreKept (known_arities known) k → AreKept (known_arities known) k1
newly_kept (Err e) b k k1 levels at path body marks known now same copied h put stays read kept = subst (AreKept (known_arities known)) (sym stays) kept
newly_kept (Ok a) b k k1 levels at path body marks known now same copied h put stays read kept =
    let made : ◌≡◌ {A = ScannedBody} (record { body = body; levels = levels; marks = marks }) b = cc (h.is tt) in
    let scanned : IsScanned (known_arities known) path b = scanned_now b levels path body marks (known_arities known) made (ap (λ w. reading_within levels body path true (known_arities w)) same ∙ read) in
    let there : ◌≡◌ {A = List Seg} path at = cc (copied.is tt) in
    let placed : IsScanned (known_arities known) at b = subst (λ p. IsScanned (known_arities known) p b) there scanned in
    subst (AreKept (known_arities known)) (sym put) (put_kept (known_arities known) at b placed k kept)
