-- Reading within fewer levels is reading within more, as far as it goes: it comes to the same, or is refused as too deep.
use Rattle.std.proofs.Common.{◌≡◌, ℕ, zero, suc, List, [], ◌∷◌, Bool, true, false, Option, Some, None, Ok, Err, refl, ◌∙◌, sym, ap, subst, inl, inr, arith}
use Rattle.std.proofs.lemmas.Bool.Decides.{nat_tests}
use Rattle.std.specs.Prelude.{◌≤◌, ◌⊎◌, ◌==◌, ◌||◌, nat_lt, length, if◌then◌else◌}
use Rattle.ar_space.specs.declared.refusal.Refusal.{Refusal}
use Rattle.ar_space.specs.declared.refusal.Refusal.TheVariants as refusals
use Rattle.ar_space.specs.declared.refusal.EvaluationFault.TheVariants.{DepthSetting}
use Rattle.ar_space.specs.declared.refusal.TermFault.{TermFault}
use Rattle.ar_space.specs.declared.refusal.TermFault.TheVariants.{BadOpcode, TooDeep}
use Rattle.ar_space.specs.declared.refusal.TermFault.TheVariants as faults
use Rattle.ar_space.specs.Outcome.{Outcome}
use Rattle.ar_space.specs.Change.{give, stop, go_on, ◌>>=◌}
use Rattle.aml_path.specs.declared.segment.Seg.{Seg}
use Rattle.aml_grammar.specs.declared.opcode.Opcode.TheVariants as opcodes
use Rattle.aml_grammar.specs.declared.opcode.TermCode.TheVariants as codes
use Rattle.aml_grammar.specs.declared.kinds.OperandKind.{OperandKind}
use Rattle.aml_grammar.specs.declared.kinds.OperandKind.TheVariants as kinds
use Rattle.aml_grammar.specs.declared.kinds.Row.{Row}
use Rattle.aml_grammar.specs.declared.context.Position.{Position}
use Rattle.aml_grammar.specs.declared.context.Position.TheVariants as positions
use Rattle.aml_grammar.specs.declared.context.Context.{Context}
use Rattle.aml_grammar.specs.declared.context.Earlier.{Earlier}
use Rattle.aml_arities.specs.declared.arities.Arity.{Arity}
use Rattle.aml_grammar.specs.State.{State, Step, fault, bad_name, is_next, enter, leave, times, until_of, until_end}
use Rattle.aml_grammar.specs.Names.{starts_name}
use Rattle.aml_grammar.specs.Operands.{Read, name_operand, reserved_field, access_field, extended_access_field, named_field}
use Rattle.aml_grammar.specs.Tree.{Tree, term, Part, null, inner, list}
use Rattle.aml_grammar.specs.Shape.{parts_of, trees_of}
use Rattle.aml_grammar.specs.Grammar.{Inner, Counting, is_if, is_nothing, is_slot, takes_name, costs_no_level, item_of, at_item, at_else, in_loop, scope_of, nothing_earlier, kinds_of, keeping, packed, items, term_operand, list_operand, super_name_at, super_name, target_at, target, simple_name_at, simple_name, connection_at, connection, connect_field, field_at, field, fields, fields_operand, operand, operands, row_operands, plain_term, else_term, else_operand, else_part, if_term, row_term, deeper, leveled, coded_term, element_name, argument_number, invocation, named_term, named, begun, term_in, below, term_at, by_arities, max_depth, levels_allowed, outermost, beginning, term_list, term_list_within, within, reading, reading_within, table_reading, table_reading_within, with_arities, refusal_within, fault_within}

-- an outcome is the refusal of a term that is too deep
abbrev pub IsTooDeep : {A : Type 0} → Outcome A → Type 0
IsTooDeep (Err (refusals.Term TooDeep item)) = Unit {0}
IsTooDeep _ = ⊥

-- the one comes to what the other comes to, or is too deep
pub record Sooner {A : Type 0} (m n : Step A) : Type 0 where
  pub is : (s : State) → (m s ≡ n s) ⊎ IsTooDeep (m s).0

-- ---- steps

same : {A : Type 0} (m : Step A) → Sooner m m
same m = record { is = λ s. inl refl }

gone_on : {A B : Type 0} (k l : A → Step B) → ((a : A) → Sooner (k a) (l a)) → (o : Outcome A) (t : State) → (go_on o t k ≡ go_on o t l) ⊎ IsTooDeep (go_on o t k).0
unfolding go_on
gone_on k l h (Ok a) t = (h a).is t
gone_on k l h (Err e) t = inl refl

stays_deep : {A B : Type 0} (k : A → Step B) (o : Outcome A) (t : State) → IsTooDeep o → IsTooDeep (go_on o t k).0
unfolding go_on
stays_deep k (Ok a) t d = absurd d
stays_deep k (Err e) t d = d

thens : {A B : Type 0} {m n : Step A} (k l : A → Step B) → Sooner m n → ((a : A) → Sooner (k a) (l a)) → Sooner (m >>= k) (n >>= l)
unfolding ◌>>=◌
thens {A = A} {m = m} {n = n} k l h i = record { is = λ s. by s (h.is s) }
  where
    by : (s : State) → (m s ≡ n s) ⊎ IsTooDeep (m s).0 → (go_on (m s).0 (m s).1 k ≡ go_on (n s).0 (n s).1 l) ⊎ IsTooDeep (go_on (m s).0 (m s).1 k).0
    by s (inl e) = subst (λ (q : Outcome A × State). (go_on (m s).0 (m s).1 k ≡ go_on q.0 q.1 l) ⊎ IsTooDeep (go_on (m s).0 (m s).1 k).0) e (gone_on k l i (m s).0 (m s).1)
    by s (inr d) = inr (stays_deep k (m s).0 (m s).1 d)

-- only what comes after differs
behind : {A B : Type 0} (m : Step A) (k l : A → Step B) → ((a : A) → Sooner (k a) (l a)) → Sooner (m >>= k) (m >>= l)
behind m k l i = thens k l (same m) i

-- and only what comes before
before : {A B : Type 0} {m n : Step A} (k : A → Step B) → Sooner m n → Sooner (m >>= k) (n >>= k)
before k h = thens k k h (λ a. same (k a))

too_deep : {A : Type 0} (item : ℕ) (n : Step A) → Sooner (fault TooDeep item) n
unfolding stop
too_deep item n = record { is = λ s. inr tt }

either : {A : Type 0} (b : Bool) {m n m2 n2 : Step A} → Sooner m n → Sooner m2 n2 → Sooner (if b then m else m2) (if b then n else n2)
either true h i = h
either false h i = i

again : {A : Type 0} {m n : Step A} → Sooner m n → (k : ℕ) → Sooner (times m k) (times n k)
unfolding times
again h zero = same _
again h (suc k) = thens _ _ h (λ x. before _ (again h k))

until_by : {A : Type 0} {m n : Step A} (rest : List ℕ) {more more2 : Step (List A)} → Sooner m n → Sooner more more2 → Sooner (until_of m more rest) (until_of n more2 rest)
until_by [] h i = same _
until_by (b ∷ bs) h i = thens _ _ h (λ x. before _ i)

until : {A : Type 0} {m n : Step A} → Sooner m n → (k : ℕ) → Sooner (until_end m k) (until_end n k)
unfolding until_end
until h zero = record { is = λ s. inl refl }
until h (suc k) = record { is = λ s. (until_by s.rest h (until h k)).is s }

-- ---- operands

abbrev Inners : Inner → Inner → Type 0
Inners i j = (position : Position) (scope : List Seg) (context : Context) → Sooner (i position scope context) (j position scope context)

module _ (i j : Inner) (h : Inners i j) where
  items_so : (position : Position) (scope : List Seg) (context : Context) → Sooner (items i position scope context) (items j position scope context)
  unfolding items
  items_so position scope context = record { is = λ s. (until (h position scope context) (length s.rest)).is s }

  term_so : (position : Position) (scope : List Seg) (context : Context) → Sooner (term_operand i position scope context) (term_operand j position scope context)
  unfolding term_operand
  term_so position scope context = before _ (h position scope context)

  list_so : (position : Position) (scope : List Seg) (context : Context) → Sooner (list_operand i position scope context) (list_operand j position scope context)
  unfolding list_operand
  list_so position scope context = before _ (items_so position scope context)

  super_at_so : (scope : List Seg) (context : Context) (b : ℕ) → Sooner (super_name_at i scope context b) (super_name_at j scope context b)
  super_at_so scope context b = either (b == 0) (same _) (either (starts_name b) (same _) (term_so positions.SuperName scope context))

  super_so : (scope : List Seg) (context : Context) → Sooner (super_name i scope context) (super_name j scope context)
  unfolding super_name
  super_so scope context = behind _ _ _ (λ b. super_at_so scope context b)

  target_at_so : (scope : List Seg) (context : Context) (b : ℕ) → Sooner (target_at i scope context b) (target_at j scope context b)
  target_at_so scope context b = either (b == 0) (same _) (super_so scope context)

  target_so : (scope : List Seg) (context : Context) → Sooner (target i scope context) (target j scope context)
  unfolding target
  target_so scope context = behind _ _ _ (λ b. target_at_so scope context b)

  simple_at_so : (scope : List Seg) (context : Context) (here b : ℕ) → Sooner (simple_name_at i scope context here b) (simple_name_at j scope context here b)
  simple_at_so scope context here b = either (b == 0 || starts_name b || is_slot b) (super_so scope context) (same _)

  simple_so : (scope : List Seg) (context : Context) → Sooner (simple_name i scope context) (simple_name j scope context)
  unfolding simple_name
  simple_so scope context = behind _ _ _ (λ here. behind _ _ _ (λ b. simple_at_so scope context here b))

  connection_at_so : (scope : List Seg) (context : Context) (b : ℕ) → Sooner (connection_at i scope context b) (connection_at j scope context b)
  connection_at_so scope context b = either (starts_name b) (same _) (either (b == 0x11) (term_so positions.DataObject scope context) (same _))

  connection_so : (scope : List Seg) (context : Context) → Sooner (connection i scope context) (connection j scope context)
  unfolding connection
  connection_so scope context = behind _ _ _ (λ b. connection_at_so scope context b)

  connect_so : (scope : List Seg) (context : Context) → Sooner (connect_field i scope context) (connect_field j scope context)
  unfolding connect_field
  connect_so scope context = behind _ _ _ (λ code. before _ (connection_so scope context))

  field_at_so : (scope : List Seg) (context : Context) (b : ℕ) → Sooner (field_at i scope context b) (field_at j scope context b)
  field_at_so scope context b = either (b == 0) (same _) (either (b == 1) (same _) (either (b == 2) (connect_so scope context) (either (b == 3) (same _) (same _))))

  field_so : (scope : List Seg) (context : Context) → Sooner (field i scope context) (field j scope context)
  unfolding field
  field_so scope context = behind _ _ _ (λ b. field_at_so scope context b)

  fields_so : (scope : List Seg) (context : Context) → Sooner (fields i scope context) (fields j scope context)
  unfolding fields
  fields_so scope context = record { is = λ s. (until (field_so scope context) (length s.rest)).is s }

  fields_operand_so : (scope : List Seg) (context : Context) → Sooner (fields_operand i scope context) (fields_operand j scope context)
  unfolding fields_operand
  fields_operand_so scope context = before _ (fields_so scope context)

  operand_so : (scope : List Seg) (context : Context) (start : ℕ) (k : OperandKind) (earlier : Earlier) → Sooner (operand i scope context start k earlier) (operand j scope context start k earlier)
  unfolding operand
  operand_so scope context start kinds.Nothing earlier = same _
  operand_so scope context start kinds.NameString earlier = same _
  operand_so scope context start kinds.ScopeName earlier = same _
  operand_so scope context start kinds.AliasSource earlier = same _
  operand_so scope context start kinds.AliasName earlier = same _
  operand_so scope context start kinds.DeclaredName earlier = same _
  operand_so scope context start kinds.MethodFlags earlier = same _
  operand_so scope context start kinds.ExternalName earlier = same _
  operand_so scope context start kinds.ObjectType earlier = same _
  operand_so scope context start kinds.ArgumentCount earlier = same _
  operand_so scope context start kinds.ByteData earlier = same _
  operand_so scope context start kinds.WordData earlier = same _
  operand_so scope context start kinds.DWordData earlier = same _
  operand_so scope context start kinds.QWordData earlier = same _
  operand_so scope context start kinds.AsciiCharList earlier = same _
  operand_so scope context start kinds.TermArg earlier = before _ (term_so positions.TermArg scope context)
  operand_so scope context start kinds.DataObject earlier = before _ (term_so positions.DataObject scope context)
  operand_so scope context start kinds.SuperName earlier = before _ (super_so scope context)
  operand_so scope context start kinds.Target earlier = before _ (target_so scope context)
  operand_so scope context start kinds.SimpleName earlier = before _ (simple_so scope context)
  operand_so scope context start kinds.TermList earlier = before _ (list_so positions.ListItem (scope_of scope earlier.path) context)
  operand_so scope context start kinds.LoopTermList earlier = before _ (list_so positions.ListItem (scope_of scope earlier.path) (in_loop context))
  operand_so scope context start kinds.ByteList earlier = same _
  operand_so scope context start kinds.PackageElementList earlier = before _ (list_so positions.PackageElement (scope_of scope earlier.path) context)
  operand_so scope context start kinds.FieldList earlier = before _ (fields_operand_so scope context)

  operands_so : (scope : List Seg) (context : Context) (start : ℕ) (ks : List OperandKind) (earlier : Earlier) → Sooner (operands i scope context start ks earlier) (operands j scope context start ks earlier)
  unfolding operands
  operands_so scope context start [] earlier = same _
  operands_so scope context start (k ∷ ks) earlier = either (is_nothing k) (same _) (thens _ _ (operand_so scope context start k earlier) (λ x. before _ (operands_so scope context start ks x.1)))

  packed_so : {A : Type 0} (b : Bool) {m n : Step A} → Sooner m n → Sooner (packed b m) (packed b n)
  packed_so false g = g
  packed_so true g = behind _ _ _ (λ outer. before _ g)

  row_operands_so : (scope : List Seg) (context : Context) (start : ℕ) (row : Row) → Sooner (row_operands i scope context start row) (row_operands j scope context start row)
  row_operands_so scope context start row = packed_so row.2 (operands_so scope context start (kinds_of row.3) nothing_earlier)

  plain_so : (scope : List Seg) (context : Context) (start : ℕ) (row : Row) → Sooner (plain_term i scope context start row) (plain_term j scope context start row)
  unfolding plain_term
  plain_so scope context start row = before _ (row_operands_so scope context start row)

  else_so : (scope : List Seg) (context : Context) → Sooner (else_operand i scope context) (else_operand j scope context)
  unfolding else_operand else_term
  else_so scope context = before _ (behind _ _ _ (λ code. before _ (packed_so true (list_so positions.ListItem scope context))))

  else_by : (b : Bool) (scope : List Seg) (context : Context) (start : ℕ) (s : State) → ((if b then else_operand i scope (at_else context start s.at) s else (Ok null, s)) ≡ (if b then else_operand j scope (at_else context start s.at) s else (Ok null, s)))
      ⊎ IsTooDeep (if b then else_operand i scope (at_else context start s.at) s else (Ok null, s)).0
  else_by true scope context start s = (else_so scope (at_else context start s.at)).is s
  else_by false scope context start s = inl refl

  else_part_so : (scope : List Seg) (context : Context) (start : ℕ) → Sooner (else_part i scope context start) (else_part j scope context start)
  unfolding else_part
  else_part_so scope context start = record { is = λ s. else_by (is_next 0xA1 s.rest) scope context start s }

  if_so : (scope : List Seg) (context : Context) (start : ℕ) (row : Row) → Sooner (if_term i scope context start row) (if_term j scope context start row)
  unfolding if_term
  if_so scope context start row = thens _ _ (row_operands_so scope context start row) (λ ps. before _ (else_part_so scope context start))

  row_so : (scope : List Seg) (context : Context) (start : ℕ) (row : Row) → Sooner (row_term i scope context start row) (row_term j scope context start row)
  unfolding row_term
  row_so scope context start row = either (is_if row.0) (if_so scope context start row) (plain_so scope context start row)

-- ---- terms

abbrev Belows : Option Inner → Option Inner → Type 0
Belows None o = Unit {0}
Belows (Some i) None = ⊥
Belows (Some i) (Some j) = Inners i j

module _ (counting : Counting) where
  module _ (o p : Option Inner) (h : Belows o p) where
    deeper_so : {A : Type 0} (o p : Option Inner) → Belows o p → (item : ℕ) (go : Inner → Step A) → ((i j : Inner) → Inners i j → Sooner (go i) (go j)) → Sooner (deeper o item go) (deeper p item go)
    unfolding deeper
    deeper_so None p h item go k = too_deep item _
    deeper_so (Some i) None h item go k = absurd h
    deeper_so (Some i) (Some j) h item go k = k i j h

    leveled_so : (position : Position) (scope : List Seg) (context : Context) (start : ℕ) (row : Row) → Sooner (leveled o position scope context start row) (leveled p position scope context start row)
    leveled_so position scope context start row = either (costs_no_level row.1 position) (same _) (deeper_so o p h (item_of context.item start) (λ i. row_term i scope context start row) (λ i j g. row_so i j g scope context start row))

    coded_so : (position : Position) (scope : List Seg) (context : Context) (start : ℕ) → Sooner (coded_term o position scope context start) (coded_term p position scope context start)
    unfolding coded_term
    coded_so position scope context start = behind _ _ _ (λ row. leveled_so position scope context start row)

    invocation_so : (i j : Inner) → Inners i j → (scope : List Seg) (context : Context) (start : ℕ) → Sooner (invocation counting i scope context start) (invocation counting j scope context start)
    unfolding invocation
    invocation_so i j g scope context start = behind _ _ _ (λ n. behind _ _ _ (λ path. behind _ _ _ (λ count. before _ (again (g positions.TermArg scope context) count))))

    named_term_so : (i j : Inner) → Inners i j → (position : Position) (scope : List Seg) (context : Context) (start : ℕ) → Sooner (named_term counting i position scope context start) (named_term counting j position scope context start)
    named_term_so i j g positions.PackageElement scope context start = same _
    named_term_so i j g positions.ListItem scope context start = invocation_so i j g scope context start
    named_term_so i j g positions.TermArg scope context start = invocation_so i j g scope context start
    named_term_so i j g positions.DataObject scope context start = invocation_so i j g scope context start
    named_term_so i j g positions.SuperName scope context start = invocation_so i j g scope context start

    named_so : (position : Position) (scope : List Seg) (context : Context) (start : ℕ) → Sooner (named counting o position scope context start) (named counting p position scope context start)
    unfolding named
    named_so position scope context start = either (takes_name position) (deeper_so o p h (item_of context.item start) (λ i. named_term counting i position scope context start) (λ i j g. named_term_so i j g position scope context start)) (same _)

    begun_so : (position : Position) (scope : List Seg) (context : Context) (start b : ℕ) → Sooner (begun counting o position scope context start b) (begun counting p position scope context start b)
    begun_so position scope context start b = either (starts_name b) (named_so position scope context start) (coded_so position scope context start)

    in_so : Inners (term_in counting o) (term_in counting p)
    unfolding term_in
    in_so position scope context = behind _ _ _ (λ start. behind _ _ _ (λ b. begun_so position scope (at_item context start) start b))

  below_so : (levels more : ℕ) → levels ≤ more → Belows (below counting levels) (below counting more)
  unfolding below
  below_so zero more le = tt
  below_so (suc levels) zero le = absurd (omega (arith, le))
  below_so (suc levels) (suc more) le = in_so (below counting levels) (below counting more) (below_so levels more (omega (arith, le)))

  term_at_so : (levels more : ℕ) → levels ≤ more → Inners (term_at counting levels) (term_at counting more)
  unfolding term_at
  term_at_so levels more le = in_so (below counting levels) (below counting more) (below_so levels more le)

-- ---- whole lists

allowed_by : (levels : ℕ) (b : Bool) → nat_lt levels max_depth ≡ b → (if b then levels else max_depth) ≤ max_depth
allowed_by levels true e = grind (arith, nat_tests, e)
allowed_by levels false e = omega arith

-- within a setting a list reads as without one, or a term is too deep
pub list_within : (levels : ℕ) (bs : List ℕ) (scope : List Seg) (body : Bool) (known : List Arity) → (term_list_within levels by_arities bs scope body known ≡ term_list by_arities bs scope body known) ⊎ IsTooDeep (term_list_within levels by_arities bs scope body known).0
unfolding term_list term_list_within
list_within levels bs scope body known =
    let n = levels_allowed levels in
    let few : n ≤ max_depth = allowed_by levels (nat_lt levels max_depth) refl in
    (items_so (term_at by_arities n) (term_at by_arities max_depth) (term_at_so by_arities n max_depth few) positions.ListItem scope (outermost body)).is (beginning bs known)

-- and so within fewer levels as within more
allowed_less : (levels more : ℕ) → levels ≤ more → levels_allowed levels ≤ levels_allowed more
allowed_less levels more le = by (nat_lt levels max_depth) (nat_lt more max_depth) refl refl
  where
    by : (b c : Bool) → nat_lt levels max_depth ≡ b → nat_lt more max_depth ≡ c → (if b then levels else max_depth) ≤ (if c then more else max_depth)
    by true true e f = le
    by true false e f = grind (arith, nat_tests, e)
    by false true e f = grind (arith, nat_tests, e, f, le)
    by false false e f = omega arith

pub list_less : (levels more : ℕ) → levels ≤ more → (bs : List ℕ) (scope : List Seg) (body : Bool) (known : List Arity)
    → (term_list_within levels by_arities bs scope body known ≡ term_list_within more by_arities bs scope body known) ⊎ IsTooDeep (term_list_within levels by_arities bs scope body known).0
unfolding term_list_within
list_less levels more le bs scope body known =
    (items_so (term_at by_arities (levels_allowed levels)) (term_at by_arities (levels_allowed more)) (term_at_so by_arities _ _ (allowed_less levels more le)) positions.ListItem scope (outermost body)).is (beginning bs known)

-- ---- what a setting refuses

abbrev set_so : Refusal
set_so = refusals.Evaluation DepthSetting

fault_all : (b : Bool) (f : TermFault) (n : ℕ) → b ≡ false → fault_within b f n ≡ refusals.Term f n
fault_all false f n e = refl
fault_all true f n e = absurd (cc e)

refusal_all : (levels : ℕ) (e : Refusal) → nat_lt levels max_depth ≡ false → refusal_within levels e ≡ e
refusal_all levels (refusals.Term f n) all = fault_all (nat_lt levels max_depth) f n all
refusal_all levels _ all = refl

within_all : {A : Type 0} (levels : ℕ) (o : Outcome A) → nat_lt levels max_depth ≡ false → within levels o ≡ o
within_all levels (Ok a) all = refl
within_all levels (Err e) all = ap (λ x. Err x) (refusal_all levels e all)

list_all_levels : (levels : ℕ) (bs : List ℕ) (scope : List Seg) (body : Bool) (known : List Arity) → nat_lt levels max_depth ≡ false → term_list_within levels by_arities bs scope body known ≡ term_list by_arities bs scope body known
unfolding term_list term_list_within
list_all_levels levels bs scope body known all = rw all refl

-- the levels that may ever be are no setting
pub reading_all : (levels : ℕ) (bs : List ℕ) (scope : List Seg) (body : Bool) (known : List Arity) → nat_lt levels max_depth ≡ false → reading_within levels bs scope body known ≡ reading bs scope body known
reading_all levels bs scope body known all = within_all levels _ all ∙ ap (λ (p : Outcome (List Tree) × State). p.0) (list_all_levels levels bs scope body known all)

pub table_all : (levels : ℕ) (bs : List ℕ) (known : List Arity) → nat_lt levels max_depth ≡ false → table_reading_within levels bs known ≡ table_reading bs known
table_all levels bs known all = within_all levels _ all ∙ ap with_arities (list_all_levels levels bs [] false known all)

deep_refused : {A : Type 0} (levels : ℕ) (o : Outcome A) → nat_lt levels max_depth ≡ true → IsTooDeep o → within levels o ≡ Err set_so
deep_refused levels (Err (refusals.Term TooDeep item)) few d = ap (λ b. Err (fault_within b TooDeep item)) few
deep_refused levels _ few d = absurd d

fault_two : (b c : Bool) (f : TermFault) (n : ℕ) → (b ≡ false → c ≡ false) → (fault_within b f n ≡ fault_within c f n) ⊎ (fault_within b f n ≡ set_so)
fault_two true c TooDeep n h = inr refl
fault_two true true f n h = inl refl
fault_two true false faults.BadOpcode n h = inl refl
fault_two true false faults.BadPkgLength n h = inl refl
fault_two true false faults.Truncated n h = inl refl
fault_two true false faults.NotInBody n h = inl refl
fault_two false c f n h = inl (ap (λ x. fault_within x f n) (sym (h refl)))

wrapped : {A : Type 0} (e f : Refusal) → (e ≡ f) ⊎ (e ≡ set_so) → (◌≡◌ {A = Outcome A} (Err e) (Err f)) ⊎ (◌≡◌ {A = Outcome A} (Err e) (Err set_so))
wrapped e f (inl is) = inl (ap (λ x. Err x) is)
wrapped e f (inr is) = inr (ap (λ x. Err x) is)

within_two : {A : Type 0} (levels more : ℕ) (o : Outcome A) → (nat_lt levels max_depth ≡ false → nat_lt more max_depth ≡ false) → (within levels o ≡ within more o) ⊎ (within levels o ≡ Err set_so)
within_two levels more (Ok a) h = inl refl
within_two levels more (Err (refusals.Term f n)) h = wrapped _ _ (fault_two (nat_lt levels max_depth) (nat_lt more max_depth) f n h)
within_two levels more (Err _) h = inl refl

above_all : (levels more : ℕ) → levels ≤ more → nat_lt levels max_depth ≡ false → nat_lt more max_depth ≡ false
above_all levels more le all = grind (arith, nat_tests, all, le)

with_arities_deep : (p : Outcome (List Tree) × State) → IsTooDeep p.0 → IsTooDeep (with_arities p)
with_arities_deep (Ok ts, s) d = absurd d
with_arities_deep (Err e, s) d = d

module _ (levels more : ℕ) (le : levels ≤ more) where
  reading_by : (bs : List ℕ) (scope : List Seg) (body : Bool) (known : List Arity) (b : Bool) → nat_lt levels max_depth ≡ b
      → (term_list_within levels by_arities bs scope body known ≡ term_list_within more by_arities bs scope body known) ⊎ IsTooDeep (term_list_within levels by_arities bs scope body known).0
      → (reading_within levels bs scope body known ≡ reading_within more bs scope body known) ⊎ (reading_within levels bs scope body known ≡ Err set_so)
  reading_by bs scope body known false all x = inl (reading_all levels bs scope body known all ∙ sym (reading_all more bs scope body known (above_all levels more le all)))
  reading_by bs scope body known true few (inl is) = subst (λ (p : Outcome (List Tree) × State). (reading_within levels bs scope body known ≡ within more p.0) ⊎ (reading_within levels bs scope body known ≡ Err set_so)) is (within_two levels more _ (above_all levels more le))
  reading_by bs scope body known true few (inr d) = inr (deep_refused levels _ few d)

  -- what more levels come to, fewer come to, or they are refused as a setting
  pub reading_less : (bs : List ℕ) (scope : List Seg) (body : Bool) (known : List Arity) → (reading_within levels bs scope body known ≡ reading_within more bs scope body known) ⊎ (reading_within levels bs scope body known ≡ Err set_so)
  reading_less bs scope body known = reading_by bs scope body known (nat_lt levels max_depth) refl (list_less levels more le bs scope body known)

  table_by : (bs : List ℕ) (known : List Arity) (b : Bool) → nat_lt levels max_depth ≡ b
      → (term_list_within levels by_arities bs [] false known ≡ term_list_within more by_arities bs [] false known) ⊎ IsTooDeep (term_list_within levels by_arities bs [] false known).0
      → (table_reading_within levels bs known ≡ table_reading_within more bs known) ⊎ (table_reading_within levels bs known ≡ Err set_so)
  table_by bs known false all x = inl (table_all levels bs known all ∙ sym (table_all more bs known (above_all levels more le all)))
  table_by bs known true few (inl is) = subst (λ (p : Outcome (List Tree) × State). (table_reading_within levels bs known ≡ within more (with_arities p)) ⊎ (table_reading_within levels bs known ≡ Err set_so)) is (within_two levels more _ (above_all levels more le))
  table_by bs known true few (inr d) = inr (deep_refused levels _ few (with_arities_deep (term_list_within levels by_arities bs [] false known) d))

  pub table_less : (bs : List ℕ) (known : List Arity) → (table_reading_within levels bs known ≡ table_reading_within more bs known) ⊎ (table_reading_within levels bs known ≡ Err set_so)
  table_less bs known = table_by bs known (nat_lt levels max_depth) refl (list_less levels more le bs [] false known)
