-- Data that terms form: steps keep what their rules mean.
use Rattle.std.specs.Prelude.{◌≡◌, ◌≢◌, ◌<◌, ◌-◌, ℕ, zero, suc, List, [], ◌∷◌, ◌++◌, length, true, false, Ok, refl}
use Rattle.std.proofs.Common.{◌∙◌, ap, sym, subst, arith, sub-one}
use Rattle.ar_space.specs.Accesses.{Accesses}
use Rattle.ar_space.specs.Outcome.{Outcome}
use Rattle.ar_space.specs.Change.{Change, give, settle, stop, go_on, ◌>>=◌}
use Rattle.aml_path.specs.declared.segment.Seg.{Seg}
use Rattle.aml_grammar.specs.declared.opcode.TermCode.TheVariants as codes
use Rattle.aml_grammar.specs.Apart.{code_of}
use Rattle.aml_grammar.specs.Shape.{trees_of, parts_of}
use Rattle.aml_grammar.specs.State.{little_endian}
use Rattle.aml_grammar.specs.Tree.{Tree, Trees, term, name, no_trees, tree}
use Rattle.aml_marks.specs.Marked.{Place, Walk, first, an_integer, over, count_at, a_name, a_call, a_term, all_items, to_end}
use Rattle.aml_marks.proofs.Walking.{one_more, at_end, no_more}
use Rattle.aml_objects.specs.declared.object.Element.{Element}
use Rattle.aml_objects.specs.declared.object.Element.TheVariants as element
use Rattle.aml_objects.specs.declared.value.Value.{Value}
use Rattle.aml_objects.specs.declared.value.Value.TheVariants as value
use Rattle.aml_world.specs.state.State.{State}
use Rattle.aml_world.specs.state.Run.{Run, lift, charge}
use Rattle.aml_world.specs.state.Readings.{integer_in}
use Rattle.aml_world.specs.state.NewObjects.{within, new_buffer}
use Rattle.aml_meaning.specs.declared.flow.Flow.{Flow}
use Rattle.aml_meaning.specs.declared.flow.Flow.TheVariants as flow
use Rattle.aml_meaning.specs.Tasks.{Task, operand_value}
use Rattle.aml_meaning.specs.Meaning.{meaning}
use Rattle.aml_meaning.specs.DataTerms.{buffer_rule, package_rule, var_package_rule, package_of, element_by, named_element, valued_element, elements_in_turn}
use Rattle.aml_frames.specs.declared.position.Position.{Position}
use Rattle.aml_frames.specs.declared.frames.Frame.TheVariants as frames
use Rattle.aml_frames.specs.declared.frames.Next.{Next}
use Rattle.aml_frames.specs.declared.frames.Next.TheVariants as next
use Rattle.aml_frames.specs.declared.frames.Package.{Package}
use Rattle.aml_frames.specs.Matching.{next_byte}
use Rattle.aml_frames.specs.Places.{Site, at_place, terms, next_term, behind_term}
use Rattle.aml_frames.specs.Operands.{inside_at, outside_at, elements_at}
use Rattle.aml_frames.specs.Data.{buffer_run, buffer_made, package_term_run, var_package_run, package_of_all, package_left, package_run, package_made, named_left, elements_left, unfilled, one_fewer}
use Rattle.aml_frames.specs.Follow.{place_of, resumed, next_ends, Leads}
use Rattle.aml_frames.proofs.Elements.{named_term, other_term, valued_term}
use Rattle.aml_frames.proofs.Stepping.{bind_bind, integer_run, leads_value, stepping}
use Rattle.aml_frames.proofs.Targeting.{bind_same}
use Rattle.aml_frames.proofs.Using.{given_one}
use Rattle.aml_frames.proofs.Weighing.{charged_less, charged_paid}

-- ---- the number of elements is the byte that stands first

byte_is : (bs : List ℕ) (p : Place) → p.rest ≡ bs → (an_integer 1 p).0 ≡ first p.rest
byte_is [] p e = rw e refl
byte_is (x ∷ xs) p e = rw e (omega arith)

pub count_is : (p : Place) → (an_integer 1 p).0 ≡ first p.rest
count_is p = byte_is p.rest p refl

-- ---- elements

after_same : {H A B : Type 0} (m n : Change H A) (k : A → Change H B) (s : H) → m s ≡ n s → (m >>= k) s ≡ (n >>= k) s
unfolding ◌>>=◌
after_same m n k s e = rw e refl

module _ {S : Type 0} (ac : Accesses S) where
  -- what is left behind an element, and where it stands
  abbrev behind_element : Package → Site → Place → Element → Run S Flow
  behind_element k c q e = package_left (meaning ac) (one_fewer k) (k.done ++ e ∷ []) (at_place c q)

  abbrev element_first : Package → Site → Tree × Place → Run S Flow
  element_first k c y = element_by (meaning ac) (code_of y.0) c.scope c.depth y.0 >>= behind_element k c y.1

  first_of : (scope : List Seg) (depth n : ℕ) (t : Tree) (ts : Trees) (done : List Element) → 0 < n → elements_in_turn (meaning ac) scope depth n (tree t ts) done ≡ (element_by (meaning ac) (code_of t) scope depth t >>= (λ e. elements_in_turn (meaning ac) scope depth (n - 1) ts (done ++ e ∷ [])))
  unfolding elements_in_turn
  first_of scope depth zero t ts done some = absurd (omega arith)
  first_of scope depth (suc n) t ts done some = rw sub-one refl

  element_is : (c : Site) (k : Package) (s : State S × ℕ) → 0 < k.left → 0 < k.turns → 0 < length c.place.rest → package_run (meaning ac) k c s ≡ element_first k c (terms c k.levels true c.place) s
  element_is c k s some turns bytes =
      let w : Walk Tree = terms c k.levels true in
      let t = (w c.place).0 in
      let ts = trees_of (to_end w (k.turns - 1) (w c.place).1).0 in
      ap (λ (us : Trees). (elements_in_turn (meaning ac) c.scope c.depth k.left us k.done >>= package_made k.count) s) (ap (λ (x : List Tree × Place). trees_of x.0) (one_more w k.turns c.place turns bytes))
      ∙ ap (λ (m : Run S (List Element)). (m >>= package_made k.count) s) (first_of c.scope c.depth k.left t ts k.done some)
      ∙ bind_bind (element_by (meaning ac) (code_of t) c.scope c.depth t) (λ e. elements_in_turn (meaning ac) c.scope c.depth (k.left - 1) ts (k.done ++ e ∷ [])) (package_made k.count) s

  -- the value of a term, and then what is left
  valued_is : (c : Site) (t : Tree) (k : Element → Run S Flow) (s : State S × ℕ) → (valued_element (meaning ac) c.scope c.depth t >>= k) s ≡ (operand_value (meaning ac) c.scope c.depth t >>= (λ v. k (element.Value v))) s
  unfolding valued_element
  valued_is c t k s =
      bind_bind (operand_value (meaning ac) c.scope c.depth t) (λ v. give (element.Value v)) k s
      ∙ bind_same (operand_value (meaning ac) c.scope c.depth t) _ _ s (λ v i. given_one (element.Value v) k i)

  -- a name, and then what is left
  named_is : (c : Site) (k : Package) (s : State S × ℕ) → element_first k c (term codes.Name (parts_of (name (a_name c.place).0 ∷ [])), (a_name c.place).1) s ≡ named_left (meaning ac) k c s
  unfolding named_element named_left settle ◌>>=◌ go_on
  named_is c k s =
      bind_bind charge (λ step. give (element.Name (a_name c.place).0 c.scope)) (behind_element k c (a_name c.place).1) s
      ∙ bind_same charge _ _ s (λ step i. given_one (element.Name (a_name c.place).0 c.scope) (behind_element k c (a_name c.place).1) i)

  no_elements : (scope : List Seg) (depth n : ℕ) (done : List Element) (k : List Element → Run S Flow) (s : State S × ℕ) → (elements_in_turn (meaning ac) scope depth n no_trees done >>= k) s ≡ k done s
  unfolding elements_in_turn give ◌>>=◌ go_on
  no_elements scope depth zero done k s = refl
  no_elements scope depth (suc n) done k s = refl

pub ends_buffer : (c d : Site) (levels : ℕ) (o : Position) → d ≡ at_place c (inside_at c.place) → place_of c o ≡ outside_at c.place → next_ends (next.Term levels (frames.Buffer o)) d ≡ at_place c (outside_at c.place)
ends_buffer c d levels o e h = rw (e, h) refl

module _ {S : Type 0} {ac : Accesses S} where
  -- ---- how buffers and packages begin

  pub leads_buffer : {s : State S × ℕ} (c d : Site) (levels : ℕ) (o : Position) → d ≡ at_place c (inside_at c.place) → Leads ac (meaning ac) (Ok (next.Term levels (frames.Buffer o))) d s (buffer_run (meaning ac) c levels) s
  unfolding buffer_rule ◌>>=◌ go_on settle
  leads_buffer {s = s} c d levels o e =
      let inside : Site = at_place c (inside_at c.place) in
      rw e (record { is = λ _. integer_run ac inside levels (λ n. lift (new_buffer n (behind_term inside levels).place.rest) >>= (λ v. give (flow.Value v))) s })

  -- a size that is there already
  pub buffer_known : {r : Outcome Next} {e : Site} {s s1 : State S × ℕ} (c : Site) (n : ℕ) (o : Position) → Leads ac (meaning ac) r e s1 (buffer_made n c) s → Leads ac (meaning ac) r e s1 (resumed ac (meaning ac) (frames.Buffer o) c (flow.Value (value.Integer n))) s
  unfolding settle lift integer_in give ◌>>=◌ go_on
  buffer_known c n o h = h

  pub leads_var_package : {s : State S × ℕ} (c d : Site) (levels : ℕ) (o : Position) → d ≡ at_place c (inside_at c.place) → Leads ac (meaning ac) (Ok (next.Term levels (frames.VarPackage levels o))) d s (var_package_run (meaning ac) c levels) s
  unfolding var_package_rule ◌>>=◌ go_on settle
  leads_var_package {s = s} c d levels o e =
      let inside : Site = at_place c (inside_at c.place) in
      rw e (record { is = λ _. integer_run ac inside levels (λ n. lift (within 65535 n) >>= (λ few. package_of_all (meaning ac) n levels (behind_term inside levels))) s })

  -- a package of so many elements, of which none is evaluated
  pub leads_unfilled : {s : State S × ℕ} (c : Site) (k : Package) (n levels : ℕ) (o : Position) → k ≡ unfilled n levels o c → Leads ac (meaning ac) (Ok (next.Package k)) c s (package_of_all (meaning ac) n levels c) s
  unfolding package_of package_made all_items
  leads_unfilled c k n levels o e = rw e (record { is = λ _. refl })

  pub leads_package : {s : State S × ℕ} (c d e : Site) (k : Package) (n levels : ℕ) (o : Position) → d ≡ at_place c (inside_at c.place) → n ≡ first d.place.rest → e ≡ at_place d (over 1 d.place) → k ≡ unfilled n levels o e → Leads ac (meaning ac) (Ok (next.Package k)) e s (package_term_run (meaning ac) c levels) s
  unfolding package_rule ◌>>=◌ go_on settle
  leads_package {s = s} c d e k n levels o i j h l =
      let inside : Site = at_place c (inside_at c.place) in
      let behind : Site = at_place inside (over 1 inside.place) in
      let at : e ≡ behind = h ∙ ap (λ (x : Site). at_place x (over 1 x.place)) i in
      let many : n ≡ (an_integer 1 inside.place).0 = j ∙ ap (λ (x : Site). first x.place.rest) i ∙ sym (count_is inside.place) in
      record {
        is = λ _. ap (λ (x : ℕ). package_of_all (meaning ac) x levels behind s) (sym many)
            ∙ ap (λ (x : Site). package_of_all (meaning ac) n levels x s) (sym at)
            ∙ (leads_unfilled {s = s} e k n levels o l).is tt;
      }

  -- ---- elements

  pub leads_element : {s : State S × ℕ} (c : Site) (k j : Package) → 0 < k.left → 0 < k.turns → 0 < length c.place.rest → code_of (next_term c k.levels) ≢ codes.MethodInvocation → j ≡ one_fewer k → Leads ac (meaning ac) (Ok (next.Term k.levels (frames.Element j))) c s (package_run (meaning ac) k c) s
  leads_element {s = s} c k j some turns bytes other e =
      let y = terms c k.levels false c.place in
      rw e (record {
        is = λ _. element_is ac c k s some turns bytes
            ∙ ap (λ (x : Tree × Place). element_first ac k c x s) (other_term (count_at c.marks) k.levels c.place other)
            ∙ after_same (element_by (meaning ac) (code_of y.0) c.scope c.depth y.0) (valued_element (meaning ac) c.scope c.depth y.0) (behind_element ac k c y.1) s (valued_term ac c.scope c.depth (count_at c.marks) k.levels c.place s other)
            ∙ valued_is ac c y.0 (behind_element ac k c y.1) s
            ∙ (leads_value {c = c} {s = s} k.levels (frames.Element (one_fewer k)) (λ v. behind_element ac k c y.1 (element.Value v)) refl).is tt;
      })

  pub leads_name : {r : Outcome Next} {d : Site} {s s1 : State S × ℕ} (c : Site) (k : Package) → 0 < k.left → 0 < k.turns → 0 < length c.place.rest → a_term (count_at c.marks) k.levels false c.place ≡ a_call (a_term (count_at c.marks) (k.levels - 1)) (count_at c.marks) c.place → 0 < k.levels → Leads ac (meaning ac) r d s1 (named_left (meaning ac) k c) s → Leads ac (meaning ac) r d s1 (package_run (meaning ac) k c) s
  leads_name {s = s} c k some turns bytes call levels h =
      record { is = λ ne. element_is ac c k s some turns bytes ∙ ap (λ (x : Tree × Place). element_first ac k c x s) (named_term (count_at c.marks) k.levels c.place call levels) ∙ named_is ac c k s ∙ h.is ne }

  -- all are there
  pub leads_filled : {r : Outcome Next} {d : Site} {s s1 : State S × ℕ} (c : Site) (k : Package) → k.left ≡ 0 → Leads ac (meaning ac) r d s1 (package_made k.count k.done) s → Leads ac (meaning ac) r d s1 (package_run (meaning ac) k c) s
  unfolding elements_in_turn give ◌>>=◌ go_on
  leads_filled {s = s} c k none h = record { is = λ ne. ap (λ (n : ℕ). (elements_in_turn (meaning ac) c.scope c.depth n (elements_left k c) k.done >>= package_made k.count) s) none ∙ h.is ne }

  pub leads_over : {r : Outcome Next} {d : Site} {s s1 : State S × ℕ} (c : Site) (k : Package) → k.turns ≡ 0 → Leads ac (meaning ac) r d s1 (package_made k.count k.done) s → Leads ac (meaning ac) r d s1 (package_run (meaning ac) k c) s
  leads_over {s = s} c k none h = record { is = λ ne. ap (λ (x : List Tree × Place). (elements_in_turn (meaning ac) c.scope c.depth k.left (trees_of x.0) k.done >>= package_made k.count) s) (no_more (terms c k.levels true) k.turns c.place none) ∙ no_elements ac c.scope c.depth k.left k.done (package_made k.count) s ∙ h.is ne }

  pub leads_no_bytes : {r : Outcome Next} {d : Site} {s s1 : State S × ℕ} (c : Site) (k : Package) → length c.place.rest ≡ 0 → Leads ac (meaning ac) r d s1 (package_made k.count k.done) s → Leads ac (meaning ac) r d s1 (package_run (meaning ac) k c) s
  leads_no_bytes {s = s} c k none h = record { is = λ ne. ap (λ (x : List Tree × Place). (elements_in_turn (meaning ac) c.scope c.depth k.left (trees_of x.0) k.done >>= package_made k.count) s) (at_end (terms c k.levels true) k.turns c.place none) ∙ no_elements ac c.scope c.depth k.left k.done (package_made k.count) s ∙ h.is ne }

  -- the elements behind those that are done
  pub leads_more : {s : State S × ℕ} (c d : Site) (k j : Package) (done : List Element) → d ≡ c → j ≡ record k { done = done } → Leads ac (meaning ac) (Ok (next.Package j)) d s (package_left (meaning ac) k done c) s
  leads_more c d k j done e h = rw (e, h) (record { is = λ _. refl })

-- what closes steps of data, of buffers and of packages
pub ruleset buffers = (leads_buffer)

pub ruleset packages = (leads_package, leads_var_package)

pub ruleset counting = (stepping, leads_unfilled, leads_more)

pub ruleset naming = (stepping, leads_more, charged_paid)

pub ruleset elements = (leads_element, leads_name, leads_filled, leads_over, leads_no_bytes, charged_less)

-- the byte that stands next, as the byte of an operator
pub byte_next : (n : ℕ) (c : Site) → n ≡ first c.place.rest → n ≡ next_byte c
byte_next n c e = e ∙ sym (count_is c.place)

pub ruleset bytes = (byte_next)
