-- What the elements of a list of fields declare one after another, where they may stand, and what refuses the list
-- (ACPI 6.5, 5.3 and 20.2.5.2: FieldList).
use Rattle.std.specs.Prelude.{◌≡◌, ◌≢◌, ◌⊎◌, ◌≤◌, ◌<◌, ◌+◌, ◌^◌, ℕ, List, Some, Ok, Err}
use Rattle.ar_space.specs.declared.refusal.Refusal.{Refusal}
use Rattle.ar_space.specs.declared.refusal.Refusal.TheVariants as refusal
use Rattle.ar_space.specs.declared.refusal.FieldFault.TheVariants.{FieldLimit}
use Rattle.ar_space.specs.declared.refusal.ValueFault.TheVariants.{WrongType}
use Rattle.ar_space.specs.Outcome.{Outcome}
use Rattle.aml_path.specs.declared.segment.Seg.{Seg}
use Rattle.aml_path.specs.Paths.{Name, resolved}
use Rattle.aml_grammar.specs.declared.opcode.TermCode.TheVariants as codes
use Rattle.aml_grammar.specs.Tree.{Tree, name, inner, Trees, no_trees, tree}
use Rattle.aml_grammar.specs.Apart.{code_of, operand_of, name_of}
use Rattle.aml_objects.specs.declared.entry.Bank.{Bank}
use Rattle.aml_objects.specs.declared.entry.FieldSource.{FieldSource}
use Rattle.aml_objects.specs.declared.entry.FieldSource.TheVariants as sources
use Rattle.aml_objects.specs.declared.entry.FieldUnit.{FieldUnit}
use Rattle.aml_objects.specs.declared.entry.NamedObject.{NamedObject}
use Rattle.aml_objects.specs.declared.entry.NamedObject.TheVariants as object
use Rattle.aml_objects.specs.declared.entry.OperationRegion.{OperationRegion}
use Rattle.aml_objects.specs.declared.value.Value.TheVariants as value
use Rattle.aml_namespace.specs.Search.{found}
use Rattle.aml_world.specs.declared.state.profile.Profile.TheVariants as profiles
use Rattle.aml_world.specs.declared.fields.field_layout.FieldLayout.{FieldLayout}
use Rattle.aml_world.specs.declared.fields.field_layout.FieldGroup.{FieldGroup}
use Rattle.aml_world.specs.fields.FieldLayouts.{access_width, update_rule}
use Rattle.aml_world.specs.state.State.{State}
use Rattle.aml_meaning.specs.Terms.{number_of}
use Rattle.aml_laws.specs.BankDeclarations.{Finds, FindsField}
use Rattle.aml_laws.specs.DeclaredObjects.{IsFree, TakesNoName, with_name}
use Rattle.aml_laws.specs.FieldLists.{unit_at, moved_on}
use Rattle.aml_laws.specs.ProfileTerms.{Connects}

-- an element of a list that names a field: the path of its name, and how many bits it has
pub record NamesBits (scope : List Seg) (t : Tree) (path : List Seg) (bits : ℕ) : Type 0 where
  pub n : Name
  pub code : code_of t ≡ codes.NamedField
  pub names : name_of (operand_of t 0) ≡ Ok n
  pub resolves : resolved n scope ≡ Ok path
  pub counts : number_of (operand_of t 1) ≡ Ok bits

-- a field has 1 to 8,388,608 bits
pub record IsSized (bits : ℕ) : Type 0 where
  pub some : 0 < bits
  pub few : bits ≤ 8388608

-- an element of a list that is a Connection, by its name
abbrev pub ConnectsTo : Tree → Name → Type 0
ConnectsTo t n = (code_of t ≡ codes.ConnectField) × (operand_of t 0 ≡ Some (name n))

-- Element by element, with how many control methods being called: a named one is declared where its path is free and
-- is refused where the path takes no name and where its name stands for no path, as each declaration is, and by the
-- limit of fields where it has no bit or too many. What elements in front of it declared stays. Where an element ends at 2^64 bits or behind them, the list
-- is refused by that limit: a named one is declared before. A Connection that is a term isn't evaluated, and one that is
-- a name has to find a buffer; neither moves the fields behind it.
pub data Puts {S : Type 0} (group : FieldGroup) (scope : List Seg) (depth : ℕ) : FieldLayout → Trees → State S → Outcome (Unit {0}) → State S → Type 0 where
  no_more : (at : FieldLayout) (w : State S) → Puts group scope depth at no_trees w (Ok tt) w
  a_field : (at : FieldLayout) (t : Tree) (ts : Trees) (w : State S) (path : List Seg) (bits : ℕ) (r : Outcome (Unit {0})) (after : State S) → NamesBits scope t path bits → IsSized bits → at.bit_offset + bits < 2 ^ 64 → IsFree depth w path
      → Puts group scope depth (moved_on at bits) ts (with_name w path (object.FieldUnit (unit_at group at bits))) r after → Puts group scope depth at (tree t ts) w r after
  no_name : (at : FieldLayout) (t : Tree) (ts : Trees) (w : State S) (path : List Seg) (bits : ℕ) (e : Refusal) → NamesBits scope t path bits → IsSized bits → TakesNoName depth w path e → Puts group scope depth at (tree t ts) w (Err e) w
  no_path : (at : FieldLayout) (t : Tree) (ts : Trees) (w : State S) (n : Name) (e : Refusal) → code_of t ≡ codes.NamedField → name_of (operand_of t 0) ≡ Ok n → resolved n scope ≡ Err e → Puts group scope depth at (tree t ts) w (Err e) w
  no_bits : (at : FieldLayout) (t : Tree) (ts : Trees) (w : State S) (path : List Seg) (bits : ℕ) → NamesBits scope t path bits → (bits ≡ 0) ⊎ (8388608 < bits) → Puts group scope depth at (tree t ts) w (Err (refusal.Field FieldLimit)) w
  reserved_bits : (at : FieldLayout) (t : Tree) (ts : Trees) (w : State S) (bits : ℕ) (r : Outcome (Unit {0})) (after : State S) → code_of t ≡ codes.ReservedField → number_of (operand_of t 0) ≡ Ok bits → at.bit_offset + bits < 2 ^ 64
      → Puts group scope depth (moved_on at bits) ts w r after → Puts group scope depth at (tree t ts) w r after
  a_field_too_far : (at : FieldLayout) (t : Tree) (ts : Trees) (w : State S) (path : List Seg) (bits : ℕ) → NamesBits scope t path bits → IsSized bits → 2 ^ 64 ≤ at.bit_offset + bits → IsFree depth w path
      → Puts group scope depth at (tree t ts) w (Err (refusal.Field FieldLimit)) (with_name w path (object.FieldUnit (unit_at group at bits)))
  reserved_too_far : (at : FieldLayout) (t : Tree) (ts : Trees) (w : State S) (bits : ℕ) → code_of t ≡ codes.ReservedField → number_of (operand_of t 0) ≡ Ok bits → 2 ^ 64 ≤ at.bit_offset + bits → Puts group scope depth at (tree t ts) w (Err (refusal.Field FieldLimit)) w
  an_access : (at : FieldLayout) (t : Tree) (ts : Trees) (w : State S) (flags : ℕ) (r : Outcome (Unit {0})) (after : State S) → (code_of t ≡ codes.AccessField) ⊎ (code_of t ≡ codes.ExtendedAccessField) → number_of (operand_of t 0) ≡ Ok flags
      → Puts group scope depth (record at { access = access_width flags }) ts w r after → Puts group scope depth at (tree t ts) w r after
  a_connection : (at : FieldLayout) (t u : Tree) (ts : Trees) (w : State S) (r : Outcome (Unit {0})) (after : State S) → code_of t ≡ codes.ConnectField → operand_of t 0 ≡ Some (inner u) → Puts group scope depth at ts w r after → Puts group scope depth at (tree t ts) w r after
  a_named_connection : (at : FieldLayout) (t : Tree) (ts : Trees) (w : State S) (n : Name) (number o : ℕ) (r : Outcome (Unit {0})) (after : State S) → ConnectsTo t n → Finds w scope n number (object.Data (value.Buffer o)) → Puts group scope depth at ts w r after
      → Puts group scope depth at (tree t ts) w r after
  no_connection : (at : FieldLayout) (t : Tree) (ts : Trees) (w : State S) (n : Name) (e : Refusal) → ConnectsTo t n → found w.names.map scope n ≡ Err e → Puts group scope depth at (tree t ts) w (Err e) w
  no_buffer : (at : FieldLayout) (t : Tree) (ts : Trees) (w : State S) (n : Name) (number : ℕ) (o : NamedObject) → ConnectsTo t n → Finds w scope n number o → ((b : ℕ) → o ≢ object.Data (value.Buffer b)) → Puts group scope depth at (tree t ts) w (Err (refusal.Value WrongType)) w

-- a list with these flags, from its first bit on
abbrev pub PutsAll : {S : Type 0} → List Seg → ℕ → FieldSource → ℕ → Trees → State S → Outcome (Unit {0}) → State S → Type 0
PutsAll scope depth source flags ts w r after = Puts (record { source = source; update = update_rule flags }) scope depth (record { bit_offset = 0; access = access_width flags }) ts w r after

-- a world takes a list of fields: each of the wide profile, and one of the core profile where no Connection stands in
-- it
pub data TakesList {S : Type 0} (w : State S) (fields : Trees) : Type 0 where
  of_any : w.profile ≡ profiles.Wide → TakesList w fields
  of_fields : (Connects fields → ⊥) → TakesList w fields

-- ---- what lists lie in

-- a name finds no operation region, and what refuses a list that asks for one
pub data FindsNoRegion {S : Type 0} (w : State S) (scope : List Seg) (n : Name) : Refusal → Type 0 where
  no_region : (e : Refusal) → found w.names.map scope n ≡ Err e → FindsNoRegion w scope n e
  other_object : (number : ℕ) (o : NamedObject) → Finds w scope n number o → ((r : OperationRegion) → o ≢ object.OperationRegion r) → FindsNoRegion w scope n (refusal.Value WrongType)

-- a name finds no field unit of a region
pub data FindsNoUnit {S : Type 0} (w : State S) (scope : List Seg) (n : Name) : Refusal → Type 0 where
  no_unit : (e : Refusal) → found w.names.map scope n ≡ Err e → FindsNoUnit w scope n e
  no_field : (number : ℕ) (o : NamedObject) → Finds w scope n number o → ((u : FieldUnit) → o ≢ object.FieldUnit u) → FindsNoUnit w scope n (refusal.Value WrongType)
  in_a_bank : (number region : ℕ) (bank : Bank) → FindsField w scope n number (sources.Bank region bank) → FindsNoUnit w scope n (refusal.Value WrongType)
  behind_an_index : (number index behind : ℕ) → FindsField w scope n number (sources.Index index behind) → FindsNoUnit w scope n (refusal.Value WrongType)
