-- Terms that declare regions and fields: steps keep what their rules mean.
use Rattle.std.specs.Prelude.{◌≡◌, ◌<◌, ◌%◌, ◌||◌, ℕ, List, Ok, true, false, Bool, refl}
use Rattle.std.proofs.Common.{◌∙◌, ap, sym, subst, arith}
use Rattle.std.proofs.Math.Nat.{mod-eq_of_lt}
use Rattle.ar_space.specs.Accesses.{Accesses}
use Rattle.ar_space.specs.Outcome.{Outcome}
use Rattle.ar_space.specs.Change.{Change, Does, Same, give, settle, go_on, ◌>>=◌}
use Rattle.ar_space.proofs.Changes.{changing}
use Rattle.aml_path.specs.declared.segment.Seg.{Seg}
use Rattle.aml_grammar.specs.Apart.{code_of}
use Rattle.aml_grammar.specs.Tree.{Tree, Trees, term, no_trees, tree}
use Rattle.aml_grammar.specs.declared.opcode.TermCode.{TermCode}
use Rattle.aml_grammar.specs.declared.opcode.TermCode.TheVariants as codes
use Rattle.aml_marks.specs.Marked.{Place, first, over, name_length, an_integer, a_name}
use Rattle.aml_scan.specs.RowsAt.{row_at}
use Rattle.aml_scan.specs.declared.row_places.RowPlace.{RowPlace}
use Rattle.aml_objects.specs.declared.entry.NamedObject.{NamedObject}
use Rattle.aml_objects.specs.declared.value.Value.{Value}
use Rattle.aml_world.specs.declared.fields.field_layout.FieldGroup.{FieldGroup}
use Rattle.aml_world.specs.declared.fields.field_layout.FieldLayout.{FieldLayout}
use Rattle.aml_world.specs.declared.values.operation_kind.BufferFieldSize.{BufferFieldSize}
use Rattle.aml_world.specs.state.State.{State}
use Rattle.aml_world.specs.state.Run.{Run}
use Rattle.aml_meaning.specs.declared.term_kind.RegionKind.{RegionKind}
use Rattle.aml_meaning.specs.declared.term_kind.TermKind.TheVariants as kinds
use Rattle.aml_meaning.specs.Terms.{count_of}
use Rattle.aml_meaning.specs.Tasks.{operand_value, value_at}
use Rattle.aml_meaning.specs.Meaning.{meaning}
use Rattle.aml_meaning.specs.DeclarationTerms.{declaring}
use Rattle.aml_meaning.specs.FieldTerms.{region_rule, sized_field_rule, bits_field_rule, element_laid, elements_laid, is_connection, has_connection}
use Rattle.aml_frames.specs.declared.position.Position.{Position}
use Rattle.aml_frames.specs.declared.frames.DeclarationPart.TheVariants as parts
use Rattle.aml_frames.specs.declared.frames.Frame.TheVariants as frames
use Rattle.aml_frames.specs.declared.frames.Next.{Next}
use Rattle.aml_frames.specs.declared.frames.Next.TheVariants as next
use Rattle.aml_frames.specs.Places.{Site, at_place, terms, next_term, behind_term}
use Rattle.aml_frames.specs.Operands.{row_kind}
use Rattle.aml_frames.specs.Declarations.{declared_at}
use Rattle.aml_frames.specs.RegionTerms.{behind_space, sized_field_at, bits_field_at, operation_region_run, region_term_run, behind_region_at, region_declared, sized_field_declared, bits_field_declared}
use Rattle.aml_frames.specs.Follow.{place_of, coded_run, behind_coded, Leads, EndsAt}
use Rattle.aml_frames.proofs.Declaring.{leads_done, leads_refused}
use Rattle.aml_frames.proofs.Forming.{count_is}
use Rattle.aml_frames.proofs.RuleShapes.{region_is, behind_region_is}
use Rattle.aml_frames.proofs.Stepping.{leads_value, leads_value_at}
use Rattle.aml_frames.proofs.Using.{two_run}

-- the address space is the byte behind the name
pub byte_read : (n : ℕ) (p : Place) → n ≡ first p.rest → n < 256 → n ≡ (an_integer 1 p).0 % 256
byte_read n p e few = sym (ap (λ x. x % 256) (count_is p ∙ sym e) ∙ mod-eq_of_lt few)

pub ends_region : (r : Outcome Next) (e c : Site) (levels : ℕ) (k : RegionKind) (o : RowPlace) → row_kind (row_at o) ≡ kinds.Region k → EndsAt r e (behind_region_at k o c levels) → EndsAt r e (behind_coded o c levels)
ends_region r e c levels k o h l = subst (EndsAt r e) (ap (at_place c) (sym (behind_region_is (terms c levels) k o c.place h))) l

module _ {S : Type 0} {ac : Accesses S} where
  -- ---- the first part is evaluated

  pub leads_operation_region : {s : State S × ℕ} (c m d : Site) (levels : ℕ) (space : ℕ) (o : Position) → place_of c o ≡ c.place → m ≡ at_place c (over (name_length c.place.rest) c.place) → space ≡ (an_integer 1 m.place).0 % 256 → d ≡ at_place m (over 1 m.place) → Leads ac (meaning ac) (Ok (next.Term levels (frames.Declaration (parts.RegionOffset space o levels)))) d s (operation_region_run (meaning ac) c levels) s
  unfolding a_name region_rule declaring region_declared declared_at value_at settle ◌>>=◌ go_on
  leads_operation_region {s = s} c m d levels space o h i j k =
      let q : Site = at_place c (behind_space c.place) in
      let e : d ≡ q = k ∙ ap (λ (x : Site). at_place x (over 1 x.place)) i in
      let read : space ≡ (an_integer 1 (a_name c.place).1).0 % 256 = j ∙ ap (λ (x : Site). (an_integer 1 x.place).0 % 256) i in
      let left : ℕ → Place → Value → Run S _ = λ n p v. operand_value (meaning ac) c.scope c.depth (next_term (behind_term q levels) levels) >>= (λ u. region_declared n p v u (behind_term (behind_term q levels) levels)) in
      let all : ℕ → Place → Run S _ = λ n p. operand_value (meaning ac) c.scope c.depth (next_term q levels) >>= left n p in
      rw e (record {
        is = λ _. ap (λ n. all n c.place s) (sym read)
            ∙ ap (λ p. all space p s) (sym h)
            ∙ (leads_value {c = q} {s = s} levels (frames.Declaration (parts.RegionOffset space o levels)) (left space (place_of c o)) refl).is tt;
      })

  pub leads_sized_field : {c : Site} {s : State S × ℕ} (levels : ℕ) (size : BufferFieldSize) → Leads ac (meaning ac) (Ok (next.Term levels (frames.Declaration (parts.SizedSource size levels)))) c s (sized_field_rule (meaning ac) size c.scope c.depth (term codes.Name (sized_field_at (terms c levels) c.place))) s
  unfolding sized_field_rule declaring sized_field_declared declared_at value_at settle ◌>>=◌ go_on
  leads_sized_field {c = c} {s = s} levels size =
      let t = term codes.Name (sized_field_at (terms c levels) c.place) in
      record { is = λ _. two_run ac c.scope c.depth t _ s ∙ (leads_value_at {c = c} {s = s} levels (frames.Declaration (parts.SizedSource size levels)) t 0 _ refl refl).is tt }

  pub leads_bits_field : {c : Site} {s : State S × ℕ} (levels : ℕ) → Leads ac (meaning ac) (Ok (next.Term levels (frames.Declaration (parts.BitsSource levels)))) c s (bits_field_rule (meaning ac) c.scope c.depth (term codes.Name (bits_field_at (terms c levels) c.place))) s
  unfolding bits_field_rule declaring bits_field_declared declared_at value_at settle ◌>>=◌ go_on
  leads_bits_field {c = c} {s = s} levels = leads_value_at {c = c} {s = s} levels (frames.Declaration (parts.BitsSource levels)) (term codes.Name (bits_field_at (terms c levels) c.place)) 0 _ refl refl

  -- ---- the name that stands next is declared

  pub leads_next_name : {r : Outcome Next} {e : Site} {s s1 : State S × ℕ} (c d : Site) (o : Position) (x : NamedObject) → place_of c o ≡ c.place → d ≡ at_place c (a_name c.place).1 → Leads ac (meaning ac) r e s1 (declared_at x (place_of d o) d) s → Leads ac (meaning ac) r e s1 (declared_at x c.place c) s
  unfolding declared_at
  leads_next_name {r = r} {e = e} {s = s} {s1 = s1} c d o x h i l = subst (λ (p : Place). Leads ac (meaning ac) r e s1 (declared_at x p c) s) h (subst (λ (y : Site). Leads ac (meaning ac) r e s1 (declared_at x (place_of y o) y) s) i l)

  -- ---- a term whose opcode was read

  pub leads_region_term : {r : Outcome Next} {e : Site} {s s1 : State S × ℕ} (c : Site) (levels : ℕ) (k : RegionKind) (o : RowPlace) → row_kind (row_at o) ≡ kinds.Region k
      → Leads ac (meaning ac) r e s1 (region_term_run (meaning ac) k o c levels) s
      → Leads ac (meaning ac) r e s1 (coded_run ac (meaning ac) o c levels) s
  leads_region_term c levels k o h l = rw (region_is ac (meaning ac) c.scope c.depth (terms c levels) k o c.place h) l

pub ruleset region_terms = (leads_sized_field, leads_bits_field, leads_done, leads_refused)

pub ruleset next_names = (leads_next_name)

pub ruleset coded_regions = (leads_region_term, ends_region)

-- ---- lists of fields

pub fewer : {t : Tree} {us : Trees} (ts : Trees) → ts ≡ tree t us → count_of us < count_of ts
fewer ts e = rw e (omega arith)

module _ {S : Type 0} (group : FieldGroup) (scope : List Seg) (depth : ℕ) where
  pub same_laid : {m : Change (State S) (Unit {0})} {w0 w : State S} (at : FieldLayout) (ts : Trees) {t : Tree} {us : Trees} → Same m w0 (elements_laid group scope depth at ts) w → ts ≡ tree t us
      → Same m w0 (element_laid group scope depth (code_of t) at t >>= (λ next. elements_laid group scope depth next us)) w
  unfolding elements_laid
  same_laid at ts h e = record { is = h.is ∙ rw e refl }

  pub laid_end : {m : Change (State S) (Unit {0})} {w0 w : State S} (at : FieldLayout) (ts : Trees) → Same m w0 (elements_laid group scope depth at ts) w → ts ≡ no_trees → Does (Ok tt) w m w0
  unfolding elements_laid give
  laid_end at ts h e = record { is = λ _. h.is ∙ rw e refl }

  pub laid_by : {r : Outcome FieldLayout} {w w1 : State S} (k c : TermCode) (at : FieldLayout) (t : Tree) → k ≡ c → Does r w1 (element_laid group scope depth k at t) w → Does r w1 (element_laid group scope depth c at t) w
  laid_by k c at t e h = rw (← e) h

pub connected : {t : Tree} {us : Trees} (ts : Trees) → ts ≡ tree t us → has_connection ts ≡ (is_connection (code_of t) || has_connection us)
unfolding has_connection
connected ts e = rw e refl

pub or_true : (c k : TermCode) (b : Bool) → is_connection k ≡ true → k ≡ c → (is_connection c || b) ≡ true
or_true c k b h e = rw (← e, h) refl

pub or_false : (c k : TermCode) (b : Bool) → is_connection k ≡ false → k ≡ c → (is_connection c || b) ≡ b
or_false c k b h e = rw (← e, h) refl

pub unconnected_end : (ts : Trees) → ts ≡ no_trees → has_connection ts ≡ false
unfolding has_connection
unconnected_end ts e = rw e refl

pub ruleset field_elements = (changing, laid_by)
