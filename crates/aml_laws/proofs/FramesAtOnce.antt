-- At most 33 frames stand at once: it doesn't matter what a term does where more stand.
use Rattle.std.specs.Prelude.{◌≡◌, ◌≤◌, ◌+◌, ℕ, zero, suc, nat_le, List, length, true, refl}
use Rattle.std.proofs.Common.{arith, sym}
use Rattle.std.proofs.lemmas.Bool.Decides.{nat_tests}
use Rattle.ar_space.specs.Accesses.{Accesses}
use Rattle.aml_path.specs.declared.segment.Seg.{Seg}
use Rattle.aml_grammar.specs.Tree.{Trees}
use Rattle.aml_objects.specs.declared.value.Value.{Value}
use Rattle.aml_world.specs.state.State.{State}
use Rattle.aml_world.specs.state.Run.{Run}
use Rattle.aml_meaning.specs.declared.flow.Flow.{Flow}
use Rattle.aml_meaning.specs.Tasks.{Task, in_turn}
use Rattle.aml_meaning.specs.Calls.{invoked}
use Rattle.aml_meaning.specs.Evaluation.{rule}
use Rattle.aml_meaning.specs.Meaning.{evaluated_within, meaning}
use Rattle.aml_laws.specs.FramesAtOnce.{evaluated_but, meaning_but}
use Rattle.aml_laws.specs.Numbers.{numbers_of}
use Rattle.aml_laws.proofs.InFrames.{InFrames}
use Rattle.aml_laws.proofs.TermsInFrames.{in_turn_in_frames, invoked_in_frames, rule_in_frames}

module _ {S : Type 0} (accesses : Accesses S) (other : Task → Run S Flow) where
  -- with a step more than the parts have
  module _ (n : ℕ) (t : Task) (h : InFrames t.depth (rule accesses (evaluated_within accesses n) t) (rule accesses (evaluated_but accesses other n) t)) where
    step_same : (w : State S) (b : ℕ) → t.depth ≤ 32 → length w.frames ≤ t.depth + 1 → evaluated_within accesses (suc n) t (w, b) ≡ evaluated_but accesses other (suc n) t (w, b)
    unfolding evaluated_within evaluated_but
    step_same w zero deep few = refl
    step_same w (suc b) deep few = let test : nat_le (length w.frames) 33 ≡ true = grind (arith, nat_tests) in rw test (h.same (w, b) deep few)

    step_kept : (w : State S) (b : ℕ) → numbers_of (evaluated_within accesses (suc n) t (w, b)).1.0.frames ≡ numbers_of w.frames
    unfolding evaluated_within
    step_kept w zero = refl
    step_kept w (suc b) = h.kept (w, b)

  none_in_frames : (t : Task) → InFrames t.depth (evaluated_within accesses zero t) (evaluated_but accesses other zero t)
  unfolding evaluated_within evaluated_but
  none_in_frames t = record { same = λ s deep few. refl; kept = λ s. refl }

  bounded_in_frames : (n : ℕ) (t : Task) → InFrames t.depth (evaluated_within accesses n t) (evaluated_but accesses other n t)
  bounded_in_frames zero t = none_in_frames t
  bounded_in_frames (suc n) t =
      let h = rule_in_frames accesses (evaluated_within accesses n) (evaluated_but accesses other n) (bounded_in_frames n) t in
      record { same = λ s deep few. step_same n t h s.0 s.1 deep few; kept = λ s. step_kept n t h s.0 s.1 }

  meaning_in_frames : (t : Task) → InFrames t.depth (meaning accesses t) (meaning_but accesses other t)
  unfolding meaning meaning_but
  meaning_in_frames t = record { same = λ s deep few. (bounded_in_frames s.1 t).same s deep few; kept = λ s. (bounded_in_frames s.1 t).kept s }

pub term_at_once : {S : Type 0} (accesses : Accesses S) (other : Task → Run S Flow) (t : Task) (s : State S × ℕ) → t.depth ≤ 32 → length s.0.frames ≤ t.depth + 1 → meaning_but accesses other t s ≡ meaning accesses t s
term_at_once accesses other t s deep few = sym ((meaning_in_frames accesses other t).same s deep few)

pub list_at_once : {S : Type 0} (accesses : Accesses S) (other : Task → Run S Flow) (scope : List Seg) (depth : ℕ) (ts : Trees) (s : State S × ℕ) → depth ≤ 32 → length s.0.frames ≤ depth + 1 → in_turn (meaning_but accesses other) scope depth ts s ≡ in_turn (meaning accesses) scope depth ts s
list_at_once accesses other scope depth ts s deep few = sym ((in_turn_in_frames accesses (meaning accesses) (meaning_but accesses other) (meaning_in_frames accesses other) scope depth ts).same s deep few)

pub call_at_once : {S : Type 0} (accesses : Accesses S) (other : Task → Run S Flow) (depth : ℕ) (p : List Seg) (body : List ℕ) (arguments : List Value) (s : State S × ℕ) → depth ≤ 32 → length s.0.frames ≤ depth + 1 → invoked (meaning_but accesses other) depth p body arguments s ≡ invoked (meaning accesses) depth p body arguments s
call_at_once accesses other depth p body arguments s deep few = sym ((invoked_in_frames accesses (meaning accesses) (meaning_but accesses other) (meaning_in_frames accesses other) depth p body arguments).same s deep few)
