-- The fields of a list lie one behind another.
use Rattle.std.specs.Prelude.{◌≡◌, ◌≢◌, ◌⊎◌, ◌≤◌, ◌<◌, ◌+◌, ◌-◌, ◌^◌, ◌==◌, ◌||◌, nat_lt, cond, is_some, ℕ, Bool, true, false, List, [], ◌∷◌, Some, Ok, Err, refl, if◌then◌else◌}
use Rattle.std.proofs.Common.{arith, inl, inr, ap, sym, subst, ◌∙◌}
use Rattle.std.proofs.lemmas.Bool.Decides.{nat_tests}
use Rattle.std.proofs.lemmas.Cmp.{eq_by_cmp_equiv}
use Rattle.std.specs.Ordering.{eq_by_cmp}
use Rattle.std.specs.FinMap.{get, get-insert, insert, contains_key}
use Rattle.ar_space.specs.declared.refusal.Refusal.{Refusal}
use Rattle.ar_space.specs.declared.refusal.Refusal.TheVariants as refusal
use Rattle.ar_space.specs.declared.refusal.EvaluationFault.TheVariants.{ObjectLimit}
use Rattle.ar_space.specs.declared.refusal.FieldFault.TheVariants.{FieldLimit}
use Rattle.ar_space.specs.declared.refusal.NamespaceFault.TheVariants.{Exists, NotFound}
use Rattle.ar_space.specs.Outcome.{Outcome, ◌>>=◌}
use Rattle.ar_space.specs.Change.{settle, give, stop}
use Rattle.aml_path.specs.declared.segment.Seg.{Seg}
use Rattle.aml_path.specs.Paths.{Name, path_cmp, resolved}
use Rattle.aml_grammar.specs.declared.opcode.TermCode.{TermCode}
use Rattle.aml_grammar.specs.declared.opcode.TermCode.TheVariants as codes
use Rattle.aml_grammar.specs.Tree.{Tree, Trees, no_trees, tree}
use Rattle.aml_grammar.specs.Apart.{code_of, operand_of, name_of}
use Rattle.aml_objects.specs.declared.entry.Entry.{Entry}
use Rattle.aml_objects.specs.declared.entry.FieldUnit.{FieldUnit}
use Rattle.aml_objects.specs.declared.entry.NamedObject.{NamedObject}
use Rattle.aml_objects.specs.declared.entry.NamedObject.TheVariants as object
use Rattle.aml_namespace.specs.Namespace.{Map, Namespace, above, declared}
use Rattle.aml_namespace.proofs.Paths.{path_total}
use Rattle.aml_fields.proofs.UnitWrites.{steps}
use Rattle.aml_world.specs.declared.fields.field_layout.FieldLayout.{FieldLayout}
use Rattle.aml_world.specs.declared.fields.field_layout.FieldGroup.{FieldGroup}
use Rattle.aml_world.specs.state.State.{State, on_names}
use Rattle.aml_world.specs.state.Readings.{entry_found}
use Rattle.aml_world.specs.state.Declaring.{not_in_method, new_name}
use Rattle.aml_world.specs.fields.FieldLayouts.{access_width, sized, further, new_field, connection_buffer, connection_found}
use Rattle.aml_meaning.specs.Tasks.{module_level}
use Rattle.aml_meaning.specs.Terms.{number_of, is_named}
use Rattle.aml_meaning.specs.FieldTerms.{named_field, reserved_field, access_field, named_connection, connection_if, element_laid, elements_laid}
use Rattle.aml_laws.specs.FieldLists.{InOrder, IsFieldAt, AllStand, path_in, AreNamed, none, named, other}
use Rattle.aml_laws.proofs.NumbersKept.{same_path}

-- ---- steps that change nothing

pub settled : {S A : Type 0} (x : Outcome A) (s t : S) (a : A) → settle x s ≡ (Ok a, t) → (x ≡ Ok a) × (s ≡ t)
unfolding settle
settled x s t a e = (ap (λ p. p.0) e, ap (λ p. p.1) e)

same_given : {A : Type 0} (b a : A) → ◌≡◌ {A = Outcome A} (Ok b) (Ok a) → b ≡ a
same_given b a e = cc e

pub given : {S A : Type 0} (b a : A) (s t : S) → give b s ≡ (Ok a, t) → (b ≡ a) × (s ≡ t)
unfolding give
given b a s t e = (same_given b a (ap (λ p. p.0) e), ap (λ p. p.1) e)

pub never_stopped : {S A : Type 0} (x : Refusal) (a : A) (s t : S) → stop x s ≡ (Ok a, t) → ⊥
unfolding stop
never_stopped {A = A} x a s t e = let no : ◌≡◌ {A = Outcome A} (Err x) (Ok a) = ap (λ p. p.0) e in absurd (cc no)

-- ---- sizes and offsets

by_room : (b : Bool) (at next : FieldLayout) (count : ℕ) → (if b then Ok (record at { bit_offset = at.bit_offset + count }) else Err (refusal.Field FieldLimit)) ≡ Ok next → next.bit_offset ≡ at.bit_offset + count
by_room true at next count e = let same : record at { bit_offset = at.bit_offset + count } ≡ next = cc e in ap (λ (l : FieldLayout). l.bit_offset) (sym same)
by_room false at next count e = absurd (cc e)

further_is : (at next : FieldLayout) (count : ℕ) → further at count ≡ Ok next → next.bit_offset ≡ at.bit_offset + count
further_is at next count e = by_room (nat_lt (at.bit_offset + count) (2 ^ 64)) at next count e

first_false : (b c : Bool) → (b || c) ≡ false → b ≡ false
first_false true c e = absurd (cc e)
first_false false c e = refl

not_zero : (count : ℕ) → (count == 0) ≡ false → 0 < count
not_zero count e = grind (arith, nat_tests)

by_size : (b : Bool) (count bits : ℕ) → ((count == 0) || nat_lt 8388608 count) ≡ b → (if b then Err (refusal.Field FieldLimit) else Ok count) ≡ Ok bits → (count ≡ bits) × (0 < count)
by_size true count bits is e = absurd (cc e)
by_size false count bits is e = (cc e, not_zero count (first_false (count == 0) (nat_lt 8388608 count) is))

pub sized_is : (count bits : ℕ) → sized count ≡ Ok bits → (count ≡ bits) × (0 < count)
sized_is count bits e = by_size ((count == 0) || nat_lt 8388608 count) count bits refl e

-- ---- a new name

pub entry_put : (m : Map) (p : List Seg) (v : Entry) → get (insert m p v) p ≡ Some v
entry_put m p v = get-insert path_total m p v p ∙ ap (λ b. cond b (Some v) (get m p)) ((eq_by_cmp_equiv path_total).refl p)

entry_kept_by : (b : Bool) (m : Map) (p : List Seg) (v : Entry) (q : List Seg) (e : Entry) → eq_by_cmp path_cmp q p ≡ b → contains_key m p ≡ false → get m q ≡ Some e → cond b (Some v) (get m q) ≡ Some e
entry_kept_by true m p v q e is free at =
    let there : get m p ≡ Some e = ap (get m) (sym (same_path q p is)) ∙ at in
    let both : true ≡ false = sym (ap is_some there) ∙ free in
    absurd (cc both)
entry_kept_by false m p v q e is free at = at

pub entry_kept : (m : Map) (p : List Seg) (v : Entry) (q : List Seg) (e : Entry) → contains_key m p ≡ false → get m q ≡ Some e → get (insert m p v) q ≡ Some e
entry_kept m p v q e free at = get-insert path_total m p v q ∙ entry_kept_by (eq_by_cmp path_cmp q p) m p v q e refl free at

pub record Put (p : List Seg) (o : NamedObject) (before after : Map) : Type 0 where
  pub free : contains_key before p ≡ false
  pub number : ℕ
  pub is : after ≡ insert before p (record { number = number; object = o })

declared_by : (a b c : Bool) (x y z : Refusal) (k n : ℕ) (s t s2 : Namespace)
    → if◌then◌else◌ {A = Outcome ℕ × Namespace} a (if◌then◌else◌ {A = Outcome ℕ × Namespace} b (Err x, s) (if◌then◌else◌ {A = Outcome ℕ × Namespace} c (Err y, s) (Ok k, t))) (Err z, s) ≡ (Ok n, s2) → (b ≡ false) × (t ≡ s2)
declared_by true true c x y z k n s t s2 e = absurd (let no : ◌≡◌ {A = Outcome ℕ} (Err x) (Ok n) = ap (λ p. p.0) e in cc no)
declared_by true false true x y z k n s t s2 e = absurd (let no : ◌≡◌ {A = Outcome ℕ} (Err y) (Ok n) = ap (λ p. p.0) e in cc no)
declared_by true false false x y z k n s t s2 e = (refl, ap (λ p. p.1) e)
declared_by false b c x y z k n s t s2 e = absurd (let no : ◌≡◌ {A = Outcome ℕ} (Err z) (Ok n) = ap (λ p. p.0) e in cc no)

declared_puts : (p : List Seg) (o : NamedObject) (s s2 : Namespace) (n : ℕ) → declared p o s ≡ (Ok n, s2) → Put p o s.map s2.map
unfolding declared
declared_puts p o s s2 n e =
    let h = declared_by (contains_key s.map (above p)) (contains_key s.map p) (s.next == 2 ^ 64 - 1) (refusal.Namespace Exists) (refusal.Evaluation ObjectLimit) (refusal.Namespace NotFound) s.next n
    s (record { map = insert s.map p (record { number = s.next; object = o }); next = s.next + 1 }) s2 e in
    record { free = h.0; number = s.next; is = ap (λ (x : Namespace). x.map) (sym h.1) }

not_named : (t : Tree) (c : TermCode) → code_of t ≡ c → c ≢ codes.NamedField → code_of t ≢ codes.NamedField
not_named t c is apart e = apart (sym is ∙ e)

from_before : (a b : ℕ) (ds : List (List Seg × FieldUnit)) → a ≤ b → InOrder b ds → InOrder a ds
from_before a b [] le h = tt
from_before a b (d ∷ ds) le h = (omega (arith, le, h.0), h.1, h.2)

module _ {S : Type 0} where
  abbrev pub Kept : State S → State S → Type 0
  Kept w v = (q : List Seg) (e : Entry) → get w.names.map q ≡ Some e → get v.names.map q ≡ Some e

  names_put : (p : List Seg) (o : NamedObject) (w v : State S) (n : ℕ) → on_names (declared p o) w ≡ (Ok n, v) → Put p o w.names.map v.names.map
  unfolding on_names
  names_put p o w v n e = declared_puts p o w.names v.names n (ap (λ (x : Outcome ℕ × State S). (x.0, x.1.names)) e)

  pub same_world : (ml : Bool) (p : List Seg) (w v : State S) (u : Unit {0}) → not_in_method ml p w ≡ (Ok u, v) → w ≡ v
  unfolding not_in_method
  same_world ml p w v u e = ap (λ (x : Outcome (Unit {0}) × State S). x.1) e

  pub new_name_puts : (ml : Bool) (p : List Seg) (o : NamedObject) (w v : State S) (n : ℕ) → new_name ml p o w ≡ (Ok n, v) → Put p o w.names.map v.names.map
  unfolding new_name
  new_name_puts ml p o w v n e =
      let s = steps (not_in_method ml p) (λ free. on_names (declared p o)) w n v e in
      subst (λ (u : State S). Put p o u.names.map v.names.map) (sym (same_world ml p w s.middle s.value s.first)) (names_put p o s.middle v n s.second)

  -- ---- a new field

  record NewField (p : List Seg) (at : FieldLayout) (count : ℕ) (next : FieldLayout) (w v : State S) : Type 0 where
    field : FieldUnit
    bits_are : field.bits ≡ count
    begins : field.bit_offset ≡ at.bit_offset
    some : 0 < field.bits
    ends : next.bit_offset ≡ at.bit_offset + field.bits
    stands : IsFieldAt v.names.map p field
    kept : Kept w v

  field_put : (group : FieldGroup) (p : List Seg) (at : FieldLayout) (count bits : ℕ) (next : FieldLayout) (w v : State S) → count ≡ bits → 0 < count → next.bit_offset ≡ at.bit_offset + count
      → Put p (object.FieldUnit (record { source = group.source; bit_offset = at.bit_offset; bits = bits; access = at.access; update = group.update })) w.names.map v.names.map → NewField p at count next w v
  field_put group p at count bits next w v same some ends put = record {
    field = record { source = group.source; bit_offset = at.bit_offset; bits = bits; access = at.access; update = group.update };
    bits_are = sym same;
    begins = refl;
    some = omega (arith, same, some);
    ends = omega (arith, same, ends);
    stands = record {
      entry = record { number = put.number; object = object.FieldUnit (record { source = group.source; bit_offset = at.bit_offset; bits = bits; access = at.access; update = group.update }) };
      stands = ap (λ m. get m p) put.is ∙ entry_put w.names.map p _;
      is = refl;
    };
    kept = λ q e there. ap (λ m. get m q) put.is ∙ entry_kept w.names.map p _ q e put.free there;
  }

  new_field_is : (group : FieldGroup) (ml : Bool) (p : List Seg) (at : FieldLayout) (count : ℕ) (next : FieldLayout) (w v : State S) → new_field group ml p at count w ≡ (Ok next, v) → NewField p at count next w v
  unfolding new_field
  new_field_is group ml p at count next w v e =
      let one = steps _ _ w next v e in
      let sizes = settled (sized count) w one.middle one.value one.first in
      let two = steps _ _ one.middle next v one.second in
      let last = settled (further at count) two.middle v next two.second in
      let size = sized_is count one.value sizes.0 in
      let put = new_name_puts ml p _ one.middle two.middle two.value two.first in
      subst (λ (u : State S). NewField p at count next u v) (sym sizes.1)
      (subst (λ (u : State S). NewField p at count next one.middle u) last.1 (field_put group p at count one.value next one.middle two.middle size.0 size.1 (further_is at next count last.0) put))

  -- ---- elements

  module _ (group : FieldGroup) (scope : List Seg) (depth : ℕ) where
    record NamedHere (t : Tree) (at next : FieldLayout) (w v : State S) : Type 0 where
      path : List Seg
      count : ℕ
      path_is : path_in scope t ≡ Ok path
      count_is : number_of (operand_of t 1) ≡ Ok count
      new : NewField path at count next w v

    record OtherHere (t : Tree) (at next : FieldLayout) (w v : State S) : Type 0 where
      apart : code_of t ≢ codes.NamedField
      behind : at.bit_offset ≤ next.bit_offset
      kept : Kept w v

    named_is : (t : Tree) (at next : FieldLayout) (w v : State S) → named_field group scope depth at t w ≡ (Ok next, v) → NamedHere t at next w v
    unfolding named_field ◌>>=◌
    named_is t at next w v e =
        let one = steps _ _ w next v e in
        let name = settled (name_of (operand_of t 0)) w one.middle one.value one.first in
        let two = steps _ _ one.middle next v one.second in
        let path = settled (resolved one.value scope) one.middle two.middle two.value two.first in
        let three = steps _ _ two.middle next v two.second in
        let count = settled (number_of (operand_of t 1)) two.middle three.middle three.value three.first in
        record {
          path = two.value;
          count = three.value;
          path_is = ap (λ (x : Outcome Name). x >>= (λ n. resolved n scope)) name.0 ∙ path.0;
          count_is = count.0;
          new = subst (λ (u : State S). NewField two.value at three.value next u v) (sym (name.1 ∙ path.1 ∙ count.1)) (new_field_is group (module_level depth) two.value at three.value next three.middle v three.second);
        }

    pub unchanged : (w v : State S) → w ≡ v → Kept w v
    unchanged w v same q e at = subst (λ (u : State S). get u.names.map q ≡ Some e) same at

    reserved_is : (t : Tree) (at next : FieldLayout) (w v : State S) → code_of t ≢ codes.NamedField → reserved_field group scope depth at t w ≡ (Ok next, v) → OtherHere t at next w v
    unfolding reserved_field
    reserved_is t at next w v apart e =
        let one = steps _ _ w next v e in
        let count = settled (number_of (operand_of t 0)) w one.middle one.value one.first in
        let last = settled (further at one.value) one.middle v next one.second in
        let ends = further_is at next one.value last.0 in
        record { apart = apart; behind = omega (arith, ends); kept = unchanged w v (count.1 ∙ last.1) }

    access_is : (t : Tree) (at next : FieldLayout) (w v : State S) → code_of t ≢ codes.NamedField → access_field group scope depth at t w ≡ (Ok next, v) → OtherHere t at next w v
    unfolding access_field
    access_is t at next w v apart e =
        let one = steps _ _ w next v e in
        let flags = settled (number_of (operand_of t 0)) w one.middle one.value one.first in
        let last = given (record at { access = access_width one.value }) next one.middle v one.second in
        let same : at.bit_offset ≡ next.bit_offset = ap (λ (l : FieldLayout). l.bit_offset) last.0 in
        record { apart = apart; behind = omega (arith, same); kept = unchanged w v (flags.1 ∙ last.1) }

    pub buffer_found : (n : Name) (w v : State S) (b : ℕ) → connection_found scope n w ≡ (Ok b, v) → w ≡ v
    unfolding connection_found entry_found
    buffer_found n w v b e =
        let one = steps _ _ w b v e in
        ap (λ (x : Outcome Entry × State S). x.1) one.first ∙ (settled (connection_buffer one.value.object) one.middle v b one.second).1

    connection_is : (b : Bool) (t : Tree) (at next : FieldLayout) (w v : State S) → code_of t ≢ codes.NamedField → connection_if group scope depth b at t w ≡ (Ok next, v) → OtherHere t at next w v
    unfolding named_connection
    connection_is true t at next w v apart e =
        let one = steps _ _ w next v e in
        let name = settled (name_of (operand_of t 0)) w one.middle one.value one.first in
        let two = steps _ _ one.middle next v one.second in
        let buffer = buffer_found one.value one.middle two.middle two.value two.first in
        let last = given at next two.middle v two.second in
        let same : at.bit_offset ≡ next.bit_offset = ap (λ (l : FieldLayout). l.bit_offset) last.0 in
        record { apart = apart; behind = omega (arith, same); kept = unchanged w v (name.1 ∙ buffer ∙ last.1) }
    connection_is false t at next w v apart e =
        let last = given at next w v e in
        let same : at.bit_offset ≡ next.bit_offset = ap (λ (l : FieldLayout). l.bit_offset) last.0 in
        record { apart = apart; behind = omega (arith, same); kept = unchanged w v last.1 }

    element_is : (c : TermCode) (t : Tree) (at next : FieldLayout) (w v : State S) → code_of t ≡ c → element_laid group scope depth c at t w ≡ (Ok next, v) → NamedHere t at next w v ⊎ OtherHere t at next w v
    element_is codes.NamedField t at next w v is e = inl (named_is t at next w v e)
    element_is codes.ReservedField t at next w v is e = inr (reserved_is t at next w v (not_named t codes.ReservedField is (λ x. absurd (cc x))) e)
    element_is codes.AccessField t at next w v is e = inr (access_is t at next w v (not_named t codes.AccessField is (λ x. absurd (cc x))) e)
    element_is codes.ExtendedAccessField t at next w v is e = inr (access_is t at next w v (not_named t codes.ExtendedAccessField is (λ x. absurd (cc x))) e)
    element_is codes.ConnectField t at next w v is e = inr (connection_is (is_named (operand_of t 0)) t at next w v (not_named t codes.ConnectField is (λ x. absurd (cc x))) e)
    element_is codes.Name t at next w v is e = absurd (never_stopped _ next w v e)
    element_is codes.MethodInvocation t at next w v is e = absurd (never_stopped _ next w v e)
    element_is (codes.Opcode op) t at next w v is e = absurd (never_stopped _ next w v e)

    -- ---- the whole list

    record Laid (ts : Trees) (at : FieldLayout) (w after : State S) : Type 0 where
      fields : List (List Seg × FieldUnit)
      are : AreNamed scope ts fields
      order : InOrder at.bit_offset fields
      stand : AllStand after.names.map fields
      kept : Kept w after

    pub still_there : (p : List Seg) (field : FieldUnit) (w v : State S) → Kept w v → IsFieldAt w.names.map p field → IsFieldAt v.names.map p field
    still_there p field w v kept f = record { entry = f.entry; stands = kept p f.entry f.stands; is = f.is }

    laid_more : (t : Tree) (ts : Trees) (at next : FieldLayout) (w v after : State S) → NamedHere t at next w v ⊎ OtherHere t at next w v → Laid ts next v after → Laid (tree t ts) at w after
    laid_more t ts at next w v after (inl here) rest =
        let new = here.new in
        let same : next.bit_offset ≡ new.field.bit_offset + new.field.bits = let begins = new.begins in let ends = new.ends in omega (arith, begins, ends) in
        record {
          fields = (here.path, new.field) ∷ rest.fields;
          are = named t ts here.path new.field rest.fields here.path_is (here.count_is ∙ ap (λ (k : ℕ). Ok k) (sym new.bits_are)) rest.are;
          order = ((let begins = new.begins in omega (arith, begins)), new.some, subst (λ k. InOrder k rest.fields) same rest.order);
          stand = (still_there here.path new.field v after rest.kept new.stands, rest.stand);
          kept = λ q e there. rest.kept q e (new.kept q e there);
        }
    laid_more t ts at next w v after (inr here) rest = record {
      fields = rest.fields;
      are = other t ts rest.fields here.apart rest.are;
      order = from_before at.bit_offset next.bit_offset rest.fields here.behind rest.order;
      stand = rest.stand;
      kept = λ q e there. rest.kept q e (here.kept q e there);
    }

    laid : (ts : Trees) (at : FieldLayout) (w after : State S) → elements_laid group scope depth at ts w ≡ (Ok tt, after) → Laid ts at w after
    unfolding elements_laid
    laid no_trees at w after e = record { fields = []; are = none; order = tt; stand = tt; kept = unchanged w after (given tt tt w after e).1 }
    laid (tree t ts) at w after e =
        let s = steps _ _ w tt after e in
        laid_more t ts at s.value w s.middle after (element_is (code_of t) t at s.value w s.middle refl s.first) (laid ts s.value s.middle after s.second)

    pub fields_in_order : (ts : Trees) (at : FieldLayout) (w after : State S) → elements_laid group scope depth at ts w ≡ (Ok tt, after)
        → (fields : List (List Seg × FieldUnit)) × AreNamed scope ts fields × InOrder at.bit_offset fields × AllStand after.names.map fields
    fields_in_order ts at w after e = let l = laid ts at w after e in (l.fields, l.are, l.order, l.stand)
