-- The fields of a list lie where its elements lay them out.
use Rattle.std.specs.Prelude.{◌≡◌, ◌⊎◌, ℕ, ◌+◌, ◌^◌, nat_lt, Bool, true, false, List, [], ◌∷◌, Ok, Err, refl, if◌then◌else◌}
use Rattle.std.proofs.Common.{ap, inl, inr, sym, subst, ◌∙◌}
use Rattle.std.specs.FinMap.{get}
use Rattle.ar_space.specs.declared.refusal.Refusal.TheVariants as refusal
use Rattle.ar_space.specs.declared.refusal.FieldFault.TheVariants.{FieldLimit}
use Rattle.ar_space.specs.Outcome.{Outcome, ◌>>=◌}
use Rattle.aml_path.specs.declared.segment.Seg.{Seg}
use Rattle.aml_path.specs.Paths.{Name, resolved}
use Rattle.aml_grammar.specs.declared.opcode.TermCode.{TermCode}
use Rattle.aml_grammar.specs.declared.opcode.TermCode.TheVariants as codes
use Rattle.aml_grammar.specs.Tree.{Tree, Trees, no_trees, tree}
use Rattle.aml_grammar.specs.Apart.{code_of, operand_of, name_of}
use Rattle.aml_objects.specs.declared.entry.FieldUnit.{FieldUnit}
use Rattle.aml_objects.specs.declared.entry.NamedObject.TheVariants as object
use Rattle.aml_fields.proofs.UnitWrites.{steps}
use Rattle.aml_world.specs.declared.fields.field_layout.FieldLayout.{FieldLayout}
use Rattle.aml_world.specs.declared.fields.field_layout.FieldGroup.{FieldGroup}
use Rattle.aml_world.specs.state.State.{State}
use Rattle.aml_world.specs.fields.FieldLayouts.{access_width, sized, further, new_field}
use Rattle.aml_meaning.specs.Tasks.{module_level}
use Rattle.aml_meaning.specs.Terms.{number_of, is_named}
use Rattle.aml_meaning.specs.FieldTerms.{named_field, reserved_field, access_field, named_connection, connection_if, element_laid, elements_laid}
use Rattle.aml_laws.specs.FieldLists.{IsFieldAt, AllStand, path_in, unit_at, moved_on, AreLaidOut, no_fields, next_named, next_reserved, next_access, next_connection}
use Rattle.aml_laws.proofs.FieldsInOrder.{settled, given, never_stopped, sized_is, entry_put, entry_kept, Put, Kept, new_name_puts, unchanged, buffer_found, still_there}

moved_by : (b : Bool) (at next : FieldLayout) (count : ℕ) → (if b then Ok (moved_on at count) else Err (refusal.Field FieldLimit)) ≡ Ok next → moved_on at count ≡ next
moved_by true at next count e = cc e
moved_by false at next count e = absurd (cc e)

moved : (at next : FieldLayout) (count : ℕ) → further at count ≡ Ok next → moved_on at count ≡ next
moved at next count e = moved_by (nat_lt (at.bit_offset + count) (2 ^ 64)) at next count e

module _ {S : Type 0} (group : FieldGroup) where
  -- ---- a new field

  record NewUnit (p : List Seg) (at : FieldLayout) (count : ℕ) (next : FieldLayout) (w v : State S) : Type 0 where
    bits : ℕ
    same : count ≡ bits
    next_is : moved_on at bits ≡ next
    stands : IsFieldAt v.names.map p (unit_at group at bits)
    kept : Kept w v

  unit_put : (p : List Seg) (at : FieldLayout) (count bits : ℕ) (next : FieldLayout) (w v : State S) → count ≡ bits → moved_on at count ≡ next → Put p (object.FieldUnit (unit_at group at bits)) w.names.map v.names.map → NewUnit p at count next w v
  unit_put p at count bits next w v same next_is put = record {
    bits = bits;
    same = same;
    next_is = ap (moved_on at) (sym same) ∙ next_is;
    stands = record { entry = record { number = put.number; object = object.FieldUnit (unit_at group at bits) }; stands = ap (λ m. get m p) put.is ∙ entry_put w.names.map p _; is = refl };
    kept = λ q e there. ap (λ m. get m q) put.is ∙ entry_kept w.names.map p _ q e put.free there;
  }

  new_unit : (ml : Bool) (p : List Seg) (at : FieldLayout) (count : ℕ) (next : FieldLayout) (w v : State S) → new_field group ml p at count w ≡ (Ok next, v) → NewUnit p at count next w v
  unfolding new_field
  new_unit ml p at count next w v e =
      let one = steps _ _ w next v e in
      let sizes = settled (sized count) w one.middle one.value one.first in
      let two = steps _ _ one.middle next v one.second in
      let last = settled (further at count) two.middle v next two.second in
      let size = sized_is count one.value sizes.0 in
      let put = new_name_puts ml p _ one.middle two.middle two.value two.first in
      subst (λ (u : State S). NewUnit p at count next u v) (sym sizes.1)
      (subst (λ (u : State S). NewUnit p at count next one.middle u) last.1 (unit_put p at count one.value next one.middle two.middle size.0 (moved at next count last.0) put))

  -- ---- elements

  module _ (scope : List Seg) (depth : ℕ) where
    -- what the elements behind one lay out, and what that one adds
    record Adds (t : Tree) (at next : FieldLayout) (w v : State S) : Type 0 where
      more : List (List Seg × FieldUnit) → List (List Seg × FieldUnit)
      lays : (ts : Trees) (ds : List (List Seg × FieldUnit)) → AreLaidOut group scope next ts ds → AreLaidOut group scope at (tree t ts) (more ds)
      stand : (after : State S) (ds : List (List Seg × FieldUnit)) → Kept v after → AllStand after.names.map ds → AllStand after.names.map (more ds)
      kept : Kept w v

    named_adds : (t : Tree) (at next : FieldLayout) (w v : State S) → code_of t ≡ codes.NamedField → named_field group scope depth at t w ≡ (Ok next, v) → Adds t at next w v
    unfolding named_field ◌>>=◌
    named_adds t at next w v is e =
        let one = steps _ _ w next v e in
        let name = settled (name_of (operand_of t 0)) w one.middle one.value one.first in
        let two = steps _ _ one.middle next v one.second in
        let path = settled (resolved one.value scope) one.middle two.middle two.value two.first in
        let three = steps _ _ two.middle next v two.second in
        let count = settled (number_of (operand_of t 1)) two.middle three.middle three.value three.first in
        let new = new_unit (module_level depth) two.value at three.value next three.middle v three.second in
        let path_is : path_in scope t ≡ Ok two.value = ap (λ (x : Outcome Name). x >>= (λ n. resolved n scope)) name.0 ∙ path.0 in
        let count_is : number_of (operand_of t 1) ≡ Ok new.bits = count.0 ∙ ap (λ (k : ℕ). Ok k) new.same in
        record {
          more = λ ds. (two.value, unit_at group at new.bits) ∷ ds;
          lays = λ ts ds laid. next_named at t ts two.value new.bits ds is path_is count_is (subst (λ x. AreLaidOut group scope x ts ds) (sym new.next_is) laid);
          stand = λ after ds later all. (still_there group scope depth two.value (unit_at group at new.bits) v after later new.stands, all);
          kept = subst (λ (u : State S). Kept u v) (sym (name.1 ∙ path.1 ∙ count.1)) new.kept;
        }

    reserved_adds : (t : Tree) (at next : FieldLayout) (w v : State S) → code_of t ≡ codes.ReservedField → reserved_field group scope depth at t w ≡ (Ok next, v) → Adds t at next w v
    unfolding reserved_field
    reserved_adds t at next w v is e =
        let one = steps _ _ w next v e in
        let count = settled (number_of (operand_of t 0)) w one.middle one.value one.first in
        let last = settled (further at one.value) one.middle v next one.second in
        let next_is = moved at next one.value last.0 in
        record {
          more = λ ds. ds;
          lays = λ ts ds laid. next_reserved at t ts one.value ds is count.0 (subst (λ x. AreLaidOut group scope x ts ds) (sym next_is) laid);
          stand = λ after ds later all. all;
          kept = unchanged group scope depth w v (count.1 ∙ last.1);
        }

    access_adds : (t : Tree) (at next : FieldLayout) (w v : State S) → (code_of t ≡ codes.AccessField) ⊎ (code_of t ≡ codes.ExtendedAccessField) → access_field group scope depth at t w ≡ (Ok next, v) → Adds t at next w v
    unfolding access_field
    access_adds t at next w v is e =
        let one = steps _ _ w next v e in
        let flags = settled (number_of (operand_of t 0)) w one.middle one.value one.first in
        let last = given (record at { access = access_width one.value }) next one.middle v one.second in
        record {
          more = λ ds. ds;
          lays = λ ts ds laid. next_access at t ts one.value ds is flags.0 (subst (λ x. AreLaidOut group scope x ts ds) (sym last.0) laid);
          stand = λ after ds later all. all;
          kept = unchanged group scope depth w v (flags.1 ∙ last.1);
        }

    same_adds : (t : Tree) (at next : FieldLayout) (w v : State S) → code_of t ≡ codes.ConnectField → at ≡ next → w ≡ v → Adds t at next w v
    same_adds t at next w v is same unmoved = record {
      more = λ ds. ds;
      lays = λ ts ds laid. next_connection at t ts ds is (subst (λ x. AreLaidOut group scope x ts ds) (sym same) laid);
      stand = λ after ds later all. all;
      kept = unchanged group scope depth w v unmoved;
    }

    connection_adds : (b : Bool) (t : Tree) (at next : FieldLayout) (w v : State S) → code_of t ≡ codes.ConnectField → connection_if group scope depth b at t w ≡ (Ok next, v) → Adds t at next w v
    unfolding named_connection
    connection_adds true t at next w v is e =
        let one = steps _ _ w next v e in
        let name = settled (name_of (operand_of t 0)) w one.middle one.value one.first in
        let two = steps _ _ one.middle next v one.second in
        let buffer = buffer_found group scope depth one.value one.middle two.middle two.value two.first in
        let last = given at next two.middle v two.second in
        same_adds t at next w v is last.0 (name.1 ∙ buffer ∙ last.1)
    connection_adds false t at next w v is e = let last = given at next w v e in same_adds t at next w v is last.0 last.1

    element_adds : (c : TermCode) (t : Tree) (at next : FieldLayout) (w v : State S) → code_of t ≡ c → element_laid group scope depth c at t w ≡ (Ok next, v) → Adds t at next w v
    element_adds codes.NamedField t at next w v is e = named_adds t at next w v is e
    element_adds codes.ReservedField t at next w v is e = reserved_adds t at next w v is e
    element_adds codes.AccessField t at next w v is e = access_adds t at next w v (inl is) e
    element_adds codes.ExtendedAccessField t at next w v is e = access_adds t at next w v (inr is) e
    element_adds codes.ConnectField t at next w v is e = connection_adds (is_named (operand_of t 0)) t at next w v is e
    element_adds codes.Name t at next w v is e = absurd (never_stopped _ next w v e)
    element_adds codes.MethodInvocation t at next w v is e = absurd (never_stopped _ next w v e)
    element_adds (codes.Opcode op) t at next w v is e = absurd (never_stopped _ next w v e)

    -- ---- the whole list

    record All (ts : Trees) (at : FieldLayout) (w after : State S) : Type 0 where
      fields : List (List Seg × FieldUnit)
      laid : AreLaidOut group scope at ts fields
      stand : AllStand after.names.map fields
      kept : Kept w after

    all_laid : (ts : Trees) (at : FieldLayout) (w after : State S) → elements_laid group scope depth at ts w ≡ (Ok tt, after) → All ts at w after
    unfolding elements_laid
    all_laid no_trees at w after e = record { fields = []; laid = no_fields at; stand = tt; kept = unchanged group scope depth w after (given tt tt w after e).1 }
    all_laid (tree t ts) at w after e =
        let s = steps _ _ w tt after e in
        let one = element_adds (code_of t) t at s.value w s.middle refl s.first in
        let rest = all_laid ts s.value s.middle after s.second in
        record {
          fields = one.more rest.fields;
          laid = one.lays ts rest.fields rest.laid;
          stand = one.stand after rest.fields rest.kept rest.stand;
          kept = λ q f there. rest.kept q f (one.kept q f there);
        }

    pub fields_laid_out : (ts : Trees) (at : FieldLayout) (w after : State S) → elements_laid group scope depth at ts w ≡ (Ok tt, after) → (fields : List (List Seg × FieldUnit)) × (AreLaidOut group scope at ts fields × AllStand after.names.map fields)
    fields_laid_out ts at w after e = let l = all_laid ts at w after e in (l.fields, (l.laid, l.stand))
