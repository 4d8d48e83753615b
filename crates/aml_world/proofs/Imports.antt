-- Arguments are imported one after another, and packages at most so deep.
use Rattle.std.specs.Prelude.{◌≡◌, ℕ, zero, suc, ◌+◌, ◌-◌, ◌<◌, ◌≤◌, List, [], ◌∷◌, ◌++◌, length, drop, get_or, map, Ok, Err, refl}
use Rattle.std.proofs.Common.{arith, ◌∙◌, ap, sym, sub-one, drop-cons, add-one, append-nil}
use Rattle.std.proofs.Math.Seq.{take-append_seam}
use Rattle.std.proofs.lemmas.List.{drop_all}
use Rattle.ar_space.specs.declared.refusal.Refusal.{Refusal}
use Rattle.ar_space.specs.declared.refusal.Refusal.TheVariants as refusal
use Rattle.ar_space.specs.declared.refusal.EvaluationFault.TheVariants.{ObjectLimit}
use Rattle.ar_space.specs.Outcome.{Outcome}
use Rattle.ar_space.specs.Change.{Change, Does, Same, stop, give, go_on, ◌>>=◌}
use Rattle.ar_space.proofs.Changes.{does_memory, changing}
use Rattle.aml_path.specs.declared.segment.Seg.{Seg}
use Rattle.aml_objects.specs.declared.object.Object.{Object}
use Rattle.aml_objects.specs.Objects.{Objects}
use Rattle.aml_objects.specs.declared.value.Value.{Value}
use Rattle.aml_objects.specs.declared.value.Value.TheVariants as value
use Rattle.aml_objects.specs.declared.value.Reference.TheVariants as reference
use Rattle.aml_objects.specs.declared.entry.Entry.{Entry}
use Rattle.aml_objects.specs.declared.object.Element.{Element}
use Rattle.aml_objects.specs.declared.object.Element.TheVariants as element
use Rattle.aml_world.specs.declared.state.datum.Datum.{Datum}
use Rattle.aml_world.specs.state.Given.{Given, Givens, given_of, givens}
use Rattle.aml_world.specs.state.State.{State, on_objects}
use Rattle.aml_world.specs.state.Drafted.{drafted}
use Rattle.aml_world.specs.state.Readings.{integer_kept, entry_found}
use Rattle.aml_world.specs.state.Importing.{reference_to, imported_by, each_imported, elements_imported, package_imported, imported, all_imported}

package_is : {S : Type 0} (n : ℕ) (gs : Givens) (w : State S) → 0 < n → package_imported n gs w ≡ elements_imported (package_imported (n - 1)) gs w
unfolding package_imported
package_is zero gs w l = absurd (omega arith)
package_is (suc n) gs w l = rw sub-one refl

package_none : {S : Type 0} (n : ℕ) (gs : Givens) (w : State S) → n ≡ 0 → package_imported n gs w ≡ (Err (refusal.Evaluation ObjectLimit), w)
unfolding package_imported stop
package_none n gs w e = rw e refl

pub does_package : {S : Type 0} {r : Outcome Value} {w1 : State S} (n : ℕ) (gs : Givens) (w : State S) → 0 < n → Does r w1 (elements_imported (package_imported (n - 1)) gs) w → Does r w1 (package_imported n gs) w
does_package n gs w l h = record { is = λ ne. package_is n gs w l ∙ h.is ne }

pub does_no_package : {S : Type 0} (n : ℕ) (gs : Givens) {w : State S} → n ≡ 0 → Does (Err (refusal.Evaluation ObjectLimit)) w (package_imported n gs) w
does_no_package n gs {w} e = record { is = λ _. package_none n gs w e }

-- ---- drafts

-- what a draft makes behind the objects of a world
pub does_drafted : {S A : Type 0} {r : Outcome A} (m : Change Objects A) (w : State S) (before after : List Object) → Does r (w.objects ++ after) m (w.objects ++ before) → Does r (drafted w after) (on_objects m) (drafted w before)
unfolding on_objects
does_drafted m w before after h = record { is = λ ne. rw (h.is ne) refl }

-- what is read of the world, and of no object
pub integer_drafted : {S : Type 0} {r : Outcome Value} (n : ℕ) (w : State S) (made : List Object) → Does r w (integer_kept n) w → Does r (drafted w made) (integer_kept n) (drafted w made)
unfolding integer_kept
integer_drafted n w made h = record { is = λ ne. ap (λ x. (x.0, drafted w made)) (h.is ne) }

named_is : {S : Type 0} (r : Outcome Entry) (w v : State S) → go_on r v (λ e. give (value.Reference (reference.Name e.number))) ≡ ((go_on r w (λ e. give (value.Reference (reference.Name e.number)))).0, v)
unfolding go_on give
named_is (Ok e) w v = refl
named_is (Err e) w v = refl

reference_is : {S : Type 0} (p : List Seg) (w : State S) (made : List Object) → reference_to p (drafted w made) ≡ ((reference_to p w).0, drafted w made)
unfolding reference_to entry_found ◌>>=◌
reference_is p w made = named_is _ w (drafted w made)

pub reference_drafted : {S : Type 0} {r : Outcome Value} (p : List Seg) (w : State S) (made : List Object) → Does r w (reference_to p) w → Does r (drafted w made) (reference_to p) (drafted w made)
reference_drafted p w made h = record { is = λ ne. reference_is p w made ∙ ap (λ x. (x.0, drafted w made)) (h.is ne) }

pub ruleset importing = (changing, does_package, does_no_package, does_drafted, integer_drafted, reference_drafted)

-- a value whose objects are appended, and one that is refused
nothing_drafted : {S : Type 0} (w : State S) → drafted w [] ≡ w
nothing_drafted w = rw append-nil refl

pub does_appended : {S : Type 0} {v : Value} {w1 : State S} (g : Given) (w : State S) → Does (Ok v) w1 (imported_by (package_imported 64) g) (drafted w []) → Does (Ok v) w1 (imported g) w
unfolding imported
does_appended {v = v} {w1 = w1} g w h = record {
  is = λ ne.
      let is : imported_by (package_imported 64) g w ≡ (Ok v, w1) = ap (imported_by (package_imported 64) g) (sym (nothing_drafted w)) ∙ h.is ne in
      rw is refl;
}

pub does_refused : {S : Type 0} {e : Refusal} (g : Given) (w : State S) (made : List Object) → Does (Err e) (drafted w made) (imported_by (package_imported 64) g) (drafted w []) → Does (Err e) w (imported g) w
unfolding imported
does_refused {e = e} g w made h = record {
  is = λ ne.
      let is : imported_by (package_imported 64) g w ≡ (Err e, drafted w made) = ap (imported_by (package_imported 64) g) (sym (nothing_drafted w)) ∙ h.is ne in
      rw (is, take-append_seam w.objects made) refl;
}

pub ruleset appending = (does_appended, does_refused, does_memory)

-- ---- loops

pub same_each : {S : Type 0} {w0 w : State S} {m : Change (State S) (List Element)} (pk : Givens → Change (State S) Value) (ds : List Datum) (done : List Element) (i : ℕ) (d : Datum) → Same m w0 (each_imported pk (givens (map given_of (drop i ds))) done) w → i < length ds → d ≡ get_or ds i d
    → Same m w0 (imported_by pk (given_of d) >>= (λ v. each_imported pk (givens (map given_of (drop (i + 1) ds))) (done ++ element.Value v ∷ []))) w
unfolding each_imported
same_each pk ds done i d h l at = record { is = h.is ∙ rw (drop-cons ds i d l, ← at, add-one) refl }

pub each_end : {S : Type 0} {w0 w : State S} {m : Change (State S) (List Element)} (pk : Givens → Change (State S) Value) (ds : List Datum) (done : List Element) (i : ℕ) → Same m w0 (each_imported pk (givens (map given_of (drop i ds))) done) w → length ds ≤ i → Does (Ok done) w m w0
unfolding each_imported give
each_end pk ds done i h l = record { is = λ _. h.is ∙ rw (drop_all i ds l) refl }

pub same_argument : {S : Type 0} {w0 w : State S} {m : Change (State S) (List Value)} (ds : List Datum) (done : List Value) (i : ℕ) (d : Datum) → Same m w0 (all_imported (map given_of (drop i ds)) done) w → i < length ds → d ≡ get_or ds i d
    → Same m w0 (imported (given_of d) >>= (λ v. all_imported (map given_of (drop (i + 1) ds)) (done ++ v ∷ []))) w
unfolding all_imported
same_argument ds done i d h l at = record { is = h.is ∙ rw (drop-cons ds i d l, ← at, add-one) refl }

pub arguments_end : {S : Type 0} {w0 w : State S} {m : Change (State S) (List Value)} (ds : List Datum) (done : List Value) (i : ℕ) → Same m w0 (all_imported (map given_of (drop i ds)) done) w → length ds ≤ i → Does (Ok done) w m w0
unfolding all_imported give
arguments_end ds done i h l = record { is = λ _. h.is ∙ rw (drop_all i ds l) refl }
