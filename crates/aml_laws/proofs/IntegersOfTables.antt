-- Terms, tables and objects that are evaluated maintain that integers are below two to the width.
use Rattle.std.specs.Prelude.{◌≡◌, ℕ, false, List, [], Option, Some, None, Ok, Err, refl}
use Rattle.std.specs.Option.{option_map}
use Rattle.std.proofs.Common.{sym, ◌∙◌, subst}
use Rattle.std.specs.FinMap.{get}
use Rattle.ar_space.specs.declared.integer_width.IntegerWidth.{IntegerWidth}
use Rattle.ar_space.specs.Accesses.{Accesses}
use Rattle.ar_space.specs.Outcome.{Outcome}
use Rattle.ar_space.specs.Change.{Change}
use Rattle.aml_path.specs.declared.segment.Seg.{Seg}
use Rattle.aml_grammar.specs.State.{State as Reading}
use Rattle.aml_grammar.specs.Tree.{Tree, Trees}
use Rattle.aml_grammar.specs.Shape.{trees_of}
use Rattle.aml_grammar.specs.Grammar.{with_arities, term_list_within, by_arities, within, refusal_within}
use Rattle.aml_objects.specs.declared.value.Value.{Value}
use Rattle.aml_objects.specs.declared.value.Value.TheVariants as value
use Rattle.aml_objects.specs.declared.entry.Entry.{Entry}
use Rattle.aml_objects.specs.declared.entry.NamedObject.{NamedObject}
use Rattle.aml_objects.specs.declared.entry.NamedObject.TheVariants as object
use Rattle.aml_namespace.specs.Namespace.{released, entry_released, mutexes_released}
use Rattle.aml_namespace.proofs.Changes.{released_at}
use Rattle.aml_world.specs.declared.state.invocation.Invocation.{Invocation}
use Rattle.aml_world.specs.declared.state.invocation.Invocation.TheVariants as invocations
use Rattle.aml_world.specs.state.State.{State}
use Rattle.aml_world.specs.state.Run.{Run}
use Rattle.aml_world.specs.state.Slots.{closed}
use Rattle.aml_meaning.specs.Meaning.{meaning}
use Rattle.aml_laws.specs.Within.{WithinWidth}
use Rattle.aml_laws.proofs.ReadingStepsGiveBytes.{Any}
use Rattle.aml_laws.proofs.ReadTermsHoldBytes.{list_within_plain}
use Rattle.aml_laws.proofs.Invariants.{Maintained, Maintains, ok_fits, err_maintained, ok_maintained, give_maintains, then_maintains, each_take, each_replicate}
use Rattle.aml_laws.proofs.ValuesOfWorlds.{WorldWithin, osi_answered_maintains}
use Rattle.aml_laws.proofs.ValuesOfFields.{RunWithin, lift_maintains}
use Rattle.aml_laws.proofs.ValuesOfOperands.{InvocationFits, invocation_found_maintains, opened_maintains, field_read_maintains, method_value_maintains}
use Rattle.aml_meaning.specs.Calling.{ending, with_steps, framed, in_frame, terms_kept, table_terms, at_root, table_run, loaded, value_of, called, with_rest, counted, evaluated}
use Rattle.aml_meaning.specs.declared.flow.Flow.TheVariants as flow
use Rattle.aml_laws.specs.Plain.{AreBytes, PlainTree, PlainTrees}
use Rattle.aml_laws.specs.AllWithin.{Each, AllWithin}
use Rattle.aml_laws.proofs.Claims.{Claim, integers_within, ValueFits, NamedFits, FrameFits, WorldFits}
use Rattle.aml_laws.proofs.IntegersClaimed.{values_claimed, world_claimed, any_frame_is_open, value_within, world_within}
use Rattle.aml_laws.proofs.ValuesOfRules.{meaning_maintains, meaning_parts, list_maintains}
use Rattle.aml_meaning.specs.Tasks.{Task, in_turn}
use Rattle.aml_laws.specs.Numbers.{numbers_of}

released_fits : (claim : Claim) (o : NamedObject) → NamedFits claim o → NamedFits claim (released o)
released_fits claim (object.Mutex n) h = tt
released_fits claim (object.Data v) h = h
released_fits claim (object.FieldUnit u) h = h
released_fits claim (object.BufferField b) h = h
released_fits claim (object.Method m) h = h
released_fits claim _ h = tt

entry_released_fits : (claim : Claim) (o : Option Entry) (e : Entry) → ((x : Entry) → o ≡ Some x → NamedFits claim x.object) → option_map entry_released o ≡ Some e → NamedFits claim e.object
entry_released_fits claim None e h is = absurd (cc is)
entry_released_fits claim (Some d) e h is = let same : entry_released d ≡ e = cc is in subst (λ (x : Entry). NamedFits claim x.object) same (released_fits claim d.object (h d refl))

module _ (S : Type 0) (width : IntegerWidth) (accesses : Accesses S) where
  abbrev K : Claim
  K = integers_within width

  pub ending_maintains : {A : Type 0} (m : Change (State S) A) → Maintains (WorldWithin S K) Any m → Maintains (WorldWithin S K) Any (ending m)
  unfolding ending mutexes_released
  ending_maintains m h = record {
    maintains = λ w a. let g = (h.maintains w a).state in record {
      state = record { wide = g.wide; names = λ path e is. entry_released_fits K (get (m w).1.names.map path) e (λ x. g.names path x) (sym (released_at (m w).1.names path) ∙ is); objects = g.objects; frames = g.frames; next = g.next; latest = g.latest };
      gives = λ x e. tt;
    };
  }

  framed_maintains : {A : Type 0} (m : Change (State S) A) → Maintains (WorldWithin S K) Any m → Maintains (WorldWithin S K) Any (framed m)
  unfolding framed
  framed_maintains m h = record {
    maintains = λ w a. let g = (h.maintains w a).state in record { state = record { wide = g.wide; names = g.names; objects = g.objects; frames = each_take (FrameFits K) _ (m w).1.frames g.frames; next = g.next; latest = any_frame_is_open width (numbers_of (closed (m w).1).frames) }; gives = λ x e. tt };
  }

  pub with_steps_maintains : {A : Type 0} (steps : ℕ) (m : Run S A) → Maintains (RunWithin S K) Any m → Maintains (WorldWithin S K) Any (with_steps steps m)
  unfolding with_steps
  with_steps_maintains steps m h = record { maintains = λ w a. record { state = (h.maintains (w, steps) a).state; gives = λ x e. tt } }

  terms_kept_maintained : (levels : ℕ) (bytes : List ℕ) (w : State S) (r : Outcome (List Tree)) (s : Reading) → WorldFits K w → ((ts : List Tree) → r ≡ Ok ts → PlainTrees (trees_of ts)) → Maintained (WorldWithin S K) PlainTrees (terms_kept (within levels (with_arities (r, s))) w)
  terms_kept_maintained levels bytes w (Ok ts) s a h = ok_maintained (trees_of ts) _ (record { wide = a.wide; names = a.names; objects = a.objects; frames = a.frames; next = a.next; latest = a.latest }) (h ts refl)
  terms_kept_maintained levels bytes w (Err e) s a h = err_maintained (refusal_within levels e) w a

  table_terms_maintains : (bytes : List ℕ) → AreBytes bytes → Maintains (WorldWithin S K) PlainTrees (table_terms bytes)
  unfolding table_terms
  table_terms_maintains bytes h = record { maintains = λ w a. let list = term_list_within w.nesting.levels by_arities bytes [] false w.arities in terms_kept_maintained w.nesting.levels bytes w list.0 list.1 a (λ ts is. list_within_plain w.nesting.levels bytes [] false w.arities ts h is) }

  at_root_maintains : (ts : Trees) → PlainTrees ts → Maintains (RunWithin S K) Any (at_root accesses ts)
  unfolding at_root
  at_root_maintains ts h = then_maintains _ _ (list_maintains S K accesses [] 0 ts (λ m. h)) (λ last f. give_maintains _ tt)

  loaded_maintains : (bytes : List ℕ) (steps : ℕ) → AreBytes bytes → Maintains (WorldWithin S K) Any (loaded accesses bytes steps)
  unfolding loaded table_run in_frame
  loaded_maintains bytes steps h =
      ending_maintains _ (then_maintains _ _ (table_terms_maintains bytes h) (λ ts g. then_maintains _ _ (opened_maintains S K _ (each_replicate (ValueFits K) 7 value.Uninitialized tt)) (λ n u. framed_maintains _ (with_steps_maintains steps _ (at_root_maintains ts g)))))

  pub value_of_maintains : (i : Invocation) (arguments : List Value) → InvocationFits K i → Each (ValueFits K) arguments → Maintains (RunWithin S K) (ValueFits K) (value_of accesses i arguments)
  value_of_maintains (invocations.Value v) arguments f h = give_maintains _ f
  value_of_maintains (invocations.Field u) arguments f h = field_read_maintains S K accesses (meaning accesses) (meaning_parts S K accesses) 1 u f
  value_of_maintains invocations.Osi arguments f h = lift_maintains S K _ (osi_answered_maintains S K arguments)
  value_of_maintains (invocations.Method p body) arguments f h = method_value_maintains S K accesses (meaning accesses) (meaning_parts S K accesses) 0 p body arguments f h

  called_maintains : (p : List Seg) (arguments : List Value) → Each (ValueFits K) arguments → Maintains (RunWithin S K) (ValueFits K) (called accesses p arguments)
  unfolding called
  called_maintains p arguments h = then_maintains _ _ (lift_maintains S K _ (invocation_found_maintains S K _ _ _)) (λ i f. value_of_maintains i arguments f h)

pub term_within : {S : Type 0} (width : IntegerWidth) (accesses : Accesses S) (t : Task) (s : State S × ℕ) → PlainTree t.term → AllWithin width s.0 → AllWithin width (meaning accesses t s).1.0
term_within {S} width accesses t s h a = world_within width _ ((meaning_maintains S (integers_within width) accesses t (λ m. h)).maintains s (world_claimed width s.0 a)).state

pub term_value_within : {S : Type 0} (width : IntegerWidth) (accesses : Accesses S) (t : Task) (s : State S × ℕ) (v : Value) → PlainTree t.term → AllWithin width s.0 → (meaning accesses t s).0 ≡ Ok (flow.Value v) → WithinWidth width v
term_value_within {S} width accesses t s v h a e = value_within width v (((meaning_maintains S (integers_within width) accesses t (λ m. h)).maintains s (world_claimed width s.0 a)).gives (flow.Value v) e)

pub list_within : {S : Type 0} (width : IntegerWidth) (accesses : Accesses S) (scope : List Seg) (depth : ℕ) (ts : Trees) (s : State S × ℕ) → PlainTrees ts → AllWithin width s.0 → AllWithin width (in_turn (meaning accesses) scope depth ts s).1.0
list_within {S} width accesses scope depth ts s h a = world_within width _ ((list_maintains S (integers_within width) accesses scope depth ts (λ m. h)).maintains s (world_claimed width s.0 a)).state

with_rest_fits : (width : IntegerWidth) (r : Outcome Value) (rest : ℕ) (x : Value × ℕ) → ((v : Value) → r ≡ Ok v → WithinWidth width v) → with_rest r rest ≡ Ok x → WithinWidth width x.0
with_rest_fits width (Ok v) rest x h e = ok_fits {A = Value × ℕ} (λ y. WithinWidth width y.0) (v, rest) x e (h v refl)
with_rest_fits width (Err z) rest x h e = absurd (cc e)

pub table_within : {S : Type 0} (width : IntegerWidth) (accesses : Accesses S) (bytes : List ℕ) (steps : ℕ) (w : State S) → AreBytes bytes → AllWithin width w → AllWithin width (loaded accesses bytes steps w).1
table_within {S} width accesses bytes steps w h a = world_within width _ ((loaded_maintains S width accesses bytes steps h).maintains w (world_claimed width w a)).state

pub object_within : {S : Type 0} (width : IntegerWidth) (accesses : Accesses S) (p : List Seg) (arguments : List Value) (steps : ℕ) (w : State S) → Each (WithinWidth width) arguments → AllWithin width w → AllWithin width (evaluated accesses p arguments steps w).1
unfolding evaluated counted
object_within {S} width accesses p arguments steps w h a = world_within width _ ((called_maintains S width accesses p arguments (values_claimed width arguments h)).maintains (w, steps) (world_claimed width w a)).state

pub object_value_within : {S : Type 0} (width : IntegerWidth) (accesses : Accesses S) (p : List Seg) (arguments : List Value) (steps : ℕ) (w : State S) (x : Value × ℕ) → Each (WithinWidth width) arguments → AllWithin width w → (evaluated accesses p arguments steps w).0 ≡ Ok x → WithinWidth width x.0
unfolding evaluated counted
object_value_within {S} width accesses p arguments steps w x h a e = with_rest_fits width _ _ x (λ v is. value_within width v (((called_maintains S width accesses p arguments (values_claimed width arguments h)).maintains (w, steps) (world_claimed width w a)).gives v is)) e
