-- What the depth of a world decides goes the same way in a world that is as deep, or deeper, until it is refused.
use Rattle.std.specs.Prelude.{◌≡◌, ◌⊎◌, ◌≤◌, ℕ, List, Bool, true, false, nat_lt, Ok, Err, refl, if◌then◌else◌}
use Rattle.std.proofs.Common.{inl, inr, ap, sym, subst, arith}
use Rattle.std.proofs.lemmas.Bool.Decides.{nat_tests}
use Rattle.ar_space.specs.Accesses.{Accesses}
use Rattle.ar_space.specs.Outcome.{Outcome, seen}
use Rattle.ar_space.specs.declared.refusal.Refusal.{Refusal}
use Rattle.ar_space.specs.declared.refusal.Refusal.TheVariants as refusal
use Rattle.ar_space.specs.declared.refusal.EvaluationFault.TheVariants.{CallDepth, DepthSetting}
use Rattle.aml_path.specs.declared.segment.Seg.{Seg}
use Rattle.aml_arities.specs.declared.arities.Arity.{Arity}
use Rattle.aml_grammar.specs.Shape.{trees_of}
use Rattle.aml_grammar.specs.Grammar.{reading_within, table_reading_within}
use Rattle.aml_marks.proofs.FewerLevels.{reading_less, table_less}
use Rattle.aml_world.specs.declared.state.settings.Nesting.{Nesting}
use Rattle.aml_world.specs.state.State.{State}
use Rattle.aml_world.specs.state.Invocations.{body_terms, body_arities, call_allowed, call_allowed_within}
use Rattle.aml_laws.proofs.Together.{Sides, Deepens, Together, Comes, IsEnded}
use Rattle.aml_laws.proofs.WorldsTogether.{world_over, worlds}

set_so : Refusal
set_so = refusal.Evaluation DepthSetting

-- ---- more calls, and more levels

abbrev allowed : Bool → Bool → Outcome (Unit {0})
allowed below few = if below then (if few then Ok tt else Err (refusal.Evaluation DepthSetting)) else Err (refusal.Evaluation CallDepth)

calls_by : (a b c : Bool) → (b ≡ true → c ≡ true) → (allowed a c ≡ allowed a b) ⊎ (allowed a b ≡ Err (refusal.Evaluation DepthSetting))
calls_by false b c h = inl refl
calls_by true false c h = inr refl
calls_by true true true h = inl refl
calls_by true true false h = absurd (cc (h refl))

more_calls : (calls more depth : ℕ) → calls ≤ more → (call_allowed_within more depth ≡ call_allowed_within calls depth) ⊎ (call_allowed_within calls depth ≡ Err (refusal.Evaluation DepthSetting))
more_calls calls more depth le = calls_by (nat_lt depth 32) (nat_lt depth calls) (nat_lt depth more) (λ e. grind (arith, nat_tests, e, le))

turned : {A : Type 0} {E : Type 0} (x y : Outcome A) → E → (x ≡ y) ⊎ (x ≡ Err (refusal.Evaluation DepthSetting)) → (y ≡ x) ⊎ (E × (x ≡ Err (refusal.Evaluation DepthSetting)))
turned x y ends (inl same) = inl (sym same)
turned x y ends (inr set) = inr (ends, set)

set_or_same : {A : Type 0} {E : Type 0} (x y : Outcome A) → E → (y ≡ x) ⊎ (x ≡ Err (refusal.Evaluation DepthSetting)) → (y ≡ x) ⊎ (E × (x ≡ Err (refusal.Evaluation DepthSetting)))
set_or_same x y ends (inl same) = inl same
set_or_same x y ends (inr set) = inr (ends, set)

seen_so : {A B : Type 0} {E : Type 0} (view : A → B) (x y : Outcome A) → (y ≡ x) ⊎ (E × (x ≡ Err (refusal.Evaluation DepthSetting))) → (seen view y ≡ seen view x) ⊎ (E × (seen view x ≡ Err (refusal.Evaluation DepthSetting)))
seen_so view x y (inl same) = inl (ap (seen view) same)
seen_so view x y (inr set) = inr (set.0, ap (seen view) set.1)

module _ {S T : Type 0} {accesses : Accesses S} {accesses2 : Accesses T} (side : Sides accesses accesses2) where
  -- what is told of a world, and changes nothing: the same of the right one, or a refusal that ends the likeness
  told_goes : {A : Type 0} (x y : Outcome A) (w : State S) (t : T) → (y ≡ x) ⊎ (side.Ends (refusal.Evaluation DepthSetting) × (x ≡ Err (refusal.Evaluation DepthSetting))) → side.beside.InStep w.space t → Comes side worlds (x, w) (y, world_over side.raise w t)
  told_goes {A = A} x y w t (inl same) i = inr (inr (t, ap (λ (o : Outcome A). (o, world_over side.raise w t)) same, i))
  told_goes {A = A} x y w t (inr set) i = inr (inl (subst (λ (o : Outcome A). IsEnded side.Ends o) (sym set.1) set.0))

  call_allowed_so : (depth : ℕ) (d : Nesting) → Deepens side.raise side.Ends → (call_allowed_within (side.raise.1 d).calls depth ≡ call_allowed_within d.calls depth) ⊎ (side.Ends (refusal.Evaluation DepthSetting) × (call_allowed_within d.calls depth ≡ Err (refusal.Evaluation DepthSetting)))
  call_allowed_so depth d (inl same) = inl (ap (λ (n : Nesting). call_allowed_within n.calls depth) (same d))
  call_allowed_so depth d (inr h) = set_or_same _ _ h.0 (more_calls d.calls (side.raise.1 d).calls depth (h.1 d).0)

  body_so : (q : List Seg) (body : List ℕ) (arities : List Arity) (d : Nesting) → Deepens side.raise side.Ends
      → (reading_within (side.raise.1 d).levels body q true arities ≡ reading_within d.levels body q true arities) ⊎ (side.Ends (refusal.Evaluation DepthSetting) × (reading_within d.levels body q true arities ≡ Err (refusal.Evaluation DepthSetting)))
  body_so q body arities d (inl same) = inl (ap (λ (n : Nesting). reading_within n.levels body q true arities) (same d))
  body_so q body arities d (inr h) = turned _ _ h.0 (reading_less d.levels (side.raise.1 d).levels (h.1 d).1 body q true arities)

  pub table_so : (bytes : List ℕ) (arities : List Arity) (d : Nesting) → Deepens side.raise side.Ends
      → (table_reading_within (side.raise.1 d).levels bytes arities ≡ table_reading_within d.levels bytes arities) ⊎ (side.Ends (refusal.Evaluation DepthSetting) × (table_reading_within d.levels bytes arities ≡ Err (refusal.Evaluation DepthSetting)))
  table_so bytes arities d (inl same) = inl (ap (λ (n : Nesting). table_reading_within n.levels bytes arities) (same d))
  table_so bytes arities d (inr h) = turned _ _ h.0 (table_less d.levels (side.raise.1 d).levels (h.1 d).1 bytes arities)

module _ {S T : Type 0} {accesses : Accesses S} {accesses2 : Accesses T} {side : Sides accesses accesses2} where
  pub call_allowed_together : (depth : ℕ) → Together side worlds (call_allowed depth) (call_allowed depth)
  unfolding call_allowed
  call_allowed_together depth = record {
    left_parted = λ w t p. p;
    right_parted = λ s w p. p;
    goes = λ w t i. told_goes side (call_allowed_within w.nesting.calls depth) (call_allowed_within (side.raise.1 w.nesting).calls depth) w t (call_allowed_so side depth w.nesting side.deepens) i;
  }

  pub body_terms_together : (q : List Seg) (body : List ℕ) → Together side worlds (body_terms q body) (body_terms q body)
  unfolding body_terms
  body_terms_together q body = record {
    left_parted = λ w t p. p;
    right_parted = λ s w p. p;
    goes = λ w t i.
        told_goes side (seen trees_of (reading_within w.nesting.levels body q true (body_arities w))) (seen trees_of (reading_within (side.raise.1 w.nesting).levels body q true (body_arities w))) w t
        (seen_so trees_of _ _ (body_so side q body (body_arities w) w.nesting side.deepens)) i;
  }
