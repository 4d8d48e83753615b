-- Match maintains that what a world holds fits a claim: the index that it gives is below the size of a package.
use Rattle.std.specs.Prelude.{◌≡◌, ◌≤◌, ◌-◌, Bool, List, None, Ok, Err, Option, Some, false, nat_lt, suc, true, zero, ℕ, if◌then◌else◌, refl}
use Rattle.std.proofs.Common.{arith}
use Rattle.ar_space.specs.Accesses.{Accesses}
use Rattle.ar_space.specs.Outcome.{Outcome, seen}
use Rattle.ar_space.specs.declared.integer_width.IntegerWidth.{IntegerWidth}
use Rattle.ar_space.specs.declared.integer_width.IntegerWidth.TheVariants.{Bits32, Bits64}
use Rattle.ar_space.specs.declared.refusal.EvaluationFault.TheVariants.{IndexLimit}
use Rattle.ar_space.specs.declared.refusal.NamespaceFault.TheVariants.{NotFound}
use Rattle.ar_space.specs.declared.refusal.Refusal.TheVariants as refusal
use Rattle.aml_path.specs.declared.segment.Seg.{Seg}
use Rattle.aml_grammar.specs.Tree.{Tree}
use Rattle.aml_objects.specs.declared.entry.Entry.{Entry}
use Rattle.aml_objects.specs.declared.object.Element.{Element}
use Rattle.aml_objects.specs.declared.object.Element.TheVariants as element
use Rattle.aml_objects.specs.declared.value.Value.{Value}
use Rattle.aml_objects.specs.declared.value.Value.TheVariants as value
use Rattle.aml_namespace.specs.Search.{found}
use Rattle.aml_world.specs.declared.values.searches.Search.{Search}
use Rattle.aml_world.specs.declared.values.searches.Searching.{Searching}
use Rattle.aml_world.specs.declared.values.store_target.Held.{Held}
use Rattle.aml_world.specs.state.Run.{Run}
use Rattle.aml_world.specs.values.Searches.{package_of, search_begun, unless_uninitialized, where_named, name_held, held_by, element_held, meets, value_meets}
use Rattle.aml_meaning.specs.declared.flow.Flow.{Flow}
use Rattle.aml_meaning.specs.Tasks.{Task}
use Rattle.aml_meaning.specs.MatchTerms.{held_meets, if_held, element_meets, found_or, none_matches, searched_last, match_rule}
use Rattle.aml_laws.specs.Within.{WithinWidth}
use Rattle.aml_laws.proofs.FoundNamesStand.{found_stands}
use Rattle.aml_laws.proofs.ReadingStepsGiveBytes.{Any}
use Rattle.aml_laws.proofs.Invariants.{Maintains, ok_fits, settled_maintained, give_maintains, settle_maintains, then_maintains}
use Rattle.aml_laws.proofs.ValuesOfObjects.{element_at_maintains}
use Rattle.aml_laws.proofs.ValuesOfWorlds.{EntryFits, WorldWithin, integer_in_maintains, integer_kept_maintains, on_objects_maintains, seen_entry_fits}
use Rattle.aml_laws.proofs.ValuesOfTargets.{HeldFits, named_once_fits}
use Rattle.aml_laws.proofs.ValuesOfFields.{RunWithin, lift_maintains}
use Rattle.aml_laws.proofs.ValuesOfSizes.{SizeFits, size_held_maintains}
use Rattle.aml_laws.proofs.Claims.{Claim, ValueFits, TreeFits, ElementFits}
use Rattle.aml_laws.proofs.ValuesOfOperands.{PartsMaintain, FlowFits, any_settle_maintains, held_value_maintains, value_at_maintains}

fewer_are_below : (width : IntegerWidth) (m n : ℕ) → m ≤ n → WithinWidth width (value.Integer n) → WithinWidth width (value.Integer m)
fewer_are_below Bits32 m n l h = omega (arith, l, h)
fewer_are_below Bits64 m n l h = omega (arith, l, h)

fewer_fit : (claim : Claim) (m n : ℕ) → m ≤ n → SizeFits claim n → SizeFits claim m
fewer_fit claim m n l h measured = fewer_are_below claim.width m n l (h measured)

module _ (claim : Claim) where
  -- the package is seen, and its size fits
  abbrev SearchFits : Searching → Type 0
  SearchFits x = claim.Seen x.search.source × SizeFits claim x.search.count

  package_of_fits : (v : Value) (o : ℕ) → ValueFits claim v → package_of v ≡ Ok o → claim.Seen o
  package_of_fits (value.Package p) o f e = ok_fits claim.Seen p o e f
  package_of_fits value.Uninitialized o f e = absurd (cc e)
  package_of_fits (value.Integer n) o f e = absurd (cc e)
  package_of_fits (value.String p) o f e = absurd (cc e)
  package_of_fits (value.Buffer p) o f e = absurd (cc e)
  package_of_fits (value.Reference r) o f e = absurd (cc e)

  searching_fits : (b : Bool) (x : Search) (left : ℕ) (s : Searching) → claim.Seen x.source × SizeFits claim x.count → (if◌then◌else◌ {A = Outcome Searching} b (Ok (record { search = x; left = left })) (Err (refusal.Evaluation IndexLimit))) ≡ Ok s → SearchFits s
  searching_fits true x left s f e = ok_fits SearchFits _ s e f
  searching_fits false x left s f e = absurd (cc e)

  abbrev AnyHeldFits : Option Held → Type 0
  AnyHeldFits None = Unit {0}
  AnyHeldFits (Some h) = HeldFits claim h

  uninitialized_or_fits : (v : Value) → ValueFits claim v → AnyHeldFits (unless_uninitialized v)
  uninitialized_or_fits value.Uninitialized f = tt
  uninitialized_or_fits (value.Integer n) f = f
  uninitialized_or_fits (value.String o) f = f
  uninitialized_or_fits (value.Buffer o) f = f
  uninitialized_or_fits (value.Package o) f = f
  uninitialized_or_fits (value.Reference r) f = f

module _ (S : Type 0) (claim : Claim) where
  search_begun_maintains : (p : Value) (k : ℕ) (a : Value) (l : ℕ) (b start : Value) → ValueFits claim p → ValueFits claim start → Maintains (WorldWithin S claim) (SearchFits claim) (search_begun p k a l b start)
  unfolding search_begun
  search_begun_maintains p k a l b start seen f =
      then_maintains _ _ (settle_maintains {Fit = claim.Seen} _ (λ o e. package_of_fits claim p o seen e)) (λ o u. then_maintains _ _ (any_settle_maintains _) (λ x v. then_maintains _ _ (any_settle_maintains _) (λ y t. then_maintains _ _ (integer_in_maintains S claim start f) (λ i g. then_maintains _ _ (size_held_maintains S claim _) (λ n h. settle_maintains _ (λ s e. searching_fits claim (nat_lt i n) _ _ s (u, h) e))))))

  where_named_fits : (x : Outcome Entry) (o : Option Held) → ((e : Entry) → x ≡ Ok e → EntryFits claim e) → where_named x ≡ Ok o → AnyHeldFits claim o
  where_named_fits (Ok e) o f is = ok_fits (AnyHeldFits claim) _ o is (named_once_fits S claim e.number e.object (f e refl))
  where_named_fits (Err (refusal.Namespace NotFound)) o f is = ok_fits (AnyHeldFits claim) _ o is tt
  where_named_fits (Err x) o f is = absurd (cc is)

  held_by_maintains : (e : Element) → ElementFits claim e → Maintains (WorldWithin S claim) (AnyHeldFits claim) (held_by e)
  unfolding name_held
  held_by_maintains (element.Value v) f = give_maintains _ (uninitialized_or_fits claim v f)
  held_by_maintains (element.Name n scope) f = record { maintains = λ w i. settled_maintained _ w i (λ o is. where_named_fits _ o (λ e there. seen_entry_fits S claim w.names.map (found w.names.map scope n) e i.names (found_stands w.names.map scope n) there) is) }

  element_held_maintains : (o i : ℕ) → claim.Seen o → Maintains (WorldWithin S claim) (AnyHeldFits claim) (element_held o i)
  unfolding element_held
  element_held_maintains o i seen = then_maintains _ _ (on_objects_maintains S claim _ (element_at_maintains claim o i seen)) (λ e f. held_by_maintains e f)

  meets_maintains : (x : Search) (v : Value) → Maintains (WorldWithin S claim) Any (meets x v)
  unfolding meets
  meets_maintains x v = record { maintains = λ w i. settled_maintained _ w i (λ b e. tt) }

  value_meets_maintains : (x : Search) (v : Value) → Maintains (WorldWithin S claim) Any (value_meets x v)
  value_meets_maintains x value.Uninitialized = give_maintains _ tt
  value_meets_maintains x (value.Integer n) = meets_maintains x _
  value_meets_maintains x (value.String o) = meets_maintains x _
  value_meets_maintains x (value.Buffer o) = meets_maintains x _
  value_meets_maintains x (value.Package o) = meets_maintains x _
  value_meets_maintains x (value.Reference r) = meets_maintains x _

module _ (S : Type 0) (claim : Claim) (accesses : Accesses S) (ev : Task → Run S Flow) (parts : PartsMaintain S claim accesses ev) where
  if_held_maintains : (depth : ℕ) (x : Search) (o : Option Held) → AnyHeldFits claim o → Maintains (RunWithin S claim) Any (if_held accesses ev depth x o)
  unfolding held_meets
  if_held_maintains depth x None f = give_maintains _ tt
  if_held_maintains depth x (Some h) f = then_maintains _ _ (held_value_maintains S claim accesses ev parts depth h f) (λ v g. lift_maintains S claim _ (value_meets_maintains S claim x v))

  found_or_maintains : (met : Bool) (i : ℕ) (m : Run S Flow) → SizeFits claim i → Maintains (RunWithin S claim) (FlowFits claim) m → Maintains (RunWithin S claim) (FlowFits claim) (found_or met i m)
  found_or_maintains true i m f h = give_maintains _ f
  found_or_maintains false i m f h = h

  searched_last_maintains : (depth : ℕ) (x : Search) (left : ℕ) → claim.Seen x.source → SizeFits claim x.count → Maintains (RunWithin S claim) (FlowFits claim) (searched_last accesses ev depth x left)
  unfolding searched_last none_matches element_meets
  searched_last_maintains depth x zero seen f = then_maintains _ _ (lift_maintains S claim _ (integer_kept_maintains S claim _)) (λ v g. give_maintains _ g)
  searched_last_maintains depth x (suc n) seen f =
      then_maintains {Fit = Any} _ _ (then_maintains _ _ (lift_maintains S claim _ (element_held_maintains S claim x.source _ seen)) (λ o g. if_held_maintains depth x o g)) (λ met u. found_or_maintains met _ _ (fewer_fit claim (x.count - suc n) x.count (omega arith) f) (searched_last_maintains depth x n seen f))

  pub match_rule_maintains : (scope : List Seg) (depth : ℕ) (t : Tree) → TreeFits claim t → Maintains (RunWithin S claim) (FlowFits claim) (match_rule accesses ev scope depth t)
  unfolding match_rule
  match_rule_maintains scope depth t h =
      then_maintains _ _ (value_at_maintains S claim accesses ev parts scope depth t 0 h) (λ p f. then_maintains _ _ (any_settle_maintains _) (λ k u. then_maintains _ _ (value_at_maintains S claim accesses ev parts scope depth t 2 h) (λ a g. then_maintains _ _ (any_settle_maintains _) (λ l v. then_maintains _ _ (value_at_maintains S claim accesses ev parts scope depth t 4 h) (λ b k.
      then_maintains _ _ (value_at_maintains S claim accesses ev parts scope depth t 5 h) (λ i m. then_maintains _ _ (lift_maintains S claim _ (search_begun_maintains S claim p _ a _ b i f m)) (λ x y. searched_last_maintains depth x.search x.left y.0 y.1)))))))
