-- A region that is located is an operation region that stood when it was.
use Rattle.std.specs.Prelude.{◌≡◌, ℕ, ◌==◌, List, [], ◌∷◌, Bool, true, false, Option, Some, None, Ok, Err, refl, if◌then◌else◌}
use Rattle.std.proofs.Common.{ap, subst, sym, ◌∙◌}
use Rattle.std.proofs.lemmas.Bool.{eqb-true}
use Rattle.std.specs.FinMap.{entries}
use Rattle.ar_space.specs.Accesses.{Accesses}
use Rattle.ar_space.specs.Outcome.{Outcome}
use Rattle.ar_space.specs.Change.{Change, give, settle, stop, go_on, ◌>>=◌}
use Rattle.aml_path.specs.declared.segment.Seg.{Seg}
use Rattle.aml_objects.specs.declared.entry.Entry.{Entry}
use Rattle.aml_objects.specs.declared.entry.NamedObject.{NamedObject}
use Rattle.aml_objects.specs.declared.entry.NamedObject.TheVariants as object
use Rattle.aml_objects.specs.declared.entry.OperationRegion.{OperationRegion}
use Rattle.aml_fields.specs.declared.region.AddressSpace.{AddressSpace}
use Rattle.aml_fields.specs.declared.region.AddressSpace.TheVariants as spaces
use Rattle.aml_fields.specs.declared.region.Region.{Region}
use Rattle.aml_namespace.proofs.Numbering.{numbered_stands}
use Rattle.aml_namespace.specs.Namespace.{Map, with_number, numbered, above}
use Rattle.aml_world.specs.state.State.{State}
use Rattle.aml_world.specs.state.Run.{Run, lift}
use Rattle.aml_world.specs.values.StoreTargets.{or_gone, declaration}
use Rattle.aml_world.specs.fields.Regions.{space_numbered, region_of_object, region_declared}
use Rattle.aml_world.specs.fields.Fields.{pci_address, space_at, located}
use Rattle.aml_world.specs.declared.fields.regions.RegionSpace.TheVariants as kinds
use Rattle.aml_meaning.specs.declared.flow.Flow.{Flow}
use Rattle.aml_meaning.specs.FieldCalls.{called_at}
use Rattle.aml_meaning.specs.Meaning.{evaluated_within, meaning}
use Rattle.aml_meaning.specs.Tasks.{Task}
use Rattle.aml_laws.specs.Histories.{numbered_entry, RegionStands}
use Rattle.aml_laws.proofs.ChangesNothing.{region_declared_changes_nothing}
use Rattle.aml_laws.proofs.RegisterAccesses.{number_of_space, pci_space_numbered, IsRegion}

-- ---- what changes one after another give

-- whatever a change gives is such
pub record Gives {H A : Type 0} (Such : A → Type 0) (m : Change H A) : Type 0 where
  pub gives : (h : H) (a : A) → (m h).0 ≡ Ok a → Such a

go_on_gives : {H A B : Type 0} {Such : B → Type 0} (r : Outcome A) (h : H) (k : A → Change H B) → ((a : A) → Gives Such (k a)) → (b : B) → (go_on r h k).0 ≡ Ok b → Such b
unfolding go_on
go_on_gives (Ok a) h k all b e = (all a).gives h b e
go_on_gives (Err x) h k all b e = absurd (cc e)

pub then_gives : {H A B : Type 0} {Such : B → Type 0} (m : Change H A) (k : A → Change H B) → ((a : A) → Gives Such (k a)) → Gives Such (m >>= k)
unfolding ◌>>=◌
then_gives m k all = record { gives = λ h b e. go_on_gives (m h).0 (m h).1 k all b e }

-- the first of two gave something, from which the second gave this
pub record GaveBoth {H A B : Type 0} (m : Change H A) (k : A → Change H B) (h : H) (b : B) : Type 0 where
  pub first : A
  pub gave : (m h).0 ≡ Ok first
  pub then_gave : (k first (m h).1).0 ≡ Ok b

gave_by_cases : {H A B : Type 0} (m : Change H A) (k : A → Change H B) (h : H) (b : B) (r : Outcome A) → (m h).0 ≡ r → (go_on r (m h).1 k).0 ≡ Ok b → GaveBoth m k h b
unfolding go_on
gave_by_cases m k h b (Ok a) is e = record { first = a; gave = is; then_gave = e }
gave_by_cases m k h b (Err x) is e = absurd (cc e)

pub gave_both : {H A B : Type 0} (m : Change H A) (k : A → Change H B) (h : H) (b : B) → ((m >>= k) h).0 ≡ Ok b → GaveBoth m k h b
unfolding ◌>>=◌
gave_both m k h b e = gave_by_cases m k h b (m h).0 refl e

-- ---- the declaration of a region

pub declaration_found : (o : Option (List Seg × Entry)) (e : List Seg × Entry) → or_gone o ≡ Ok e → o ≡ Some e
declaration_found None e h = absurd (cc h)
declaration_found (Some x) e h = let same : x ≡ e = cc h in ap Some same

region_object : (o : NamedObject) (region : OperationRegion) → region_of_object o ≡ Ok region → o ≡ object.OperationRegion region
region_object (object.OperationRegion r) region h = let same : r ≡ region = cc h in ap object.OperationRegion same
region_object _ region h = absurd (cc h)

-- what is found by a number is declared under it
number_found : (n : ℕ) (es : List (List Seg × Entry)) (f : List Seg × Entry) → with_number n es ≡ Some f → f.1.number ≡ n
number_found n [] f is = absurd (cc is)
number_found n (e ∷ es) f is = by (e.1.number == n) refl is (number_found n es f)
  where
    by : (b : Bool) → (e.1.number == n) ≡ b → (if b then Some e else with_number n es) ≡ Some f → (with_number n es ≡ Some f → f.1.number ≡ n) → f.1.number ≡ n
    by true same is rest =
        let one : e ≡ f = cc is in
        ap (λ (g : List Seg × Entry). g.1.number) (sym one) ∙ eqb-true e.1.number n same
    by false other is rest = rest is

pub declared_under : (n : ℕ) (names : Map) (f : List Seg × Entry) → numbered n names ≡ Some f → f.1.number ≡ n
unfolding numbered
declared_under n names f is = number_found n (entries names) f is

-- a region stands under a number, and its scope is this one
record RegionInScope {S : Type 0} (w : State S) (n : ℕ) (scope : List Seg) (region : OperationRegion) : Type 0 where
  stands : RegionStands w.names.map region
  number : stands.number ≡ n
  scoped : scope ≡ above stands.path

region_stands : {S : Type 0} (w : State S) (n : ℕ) (x : List Seg × OperationRegion) → (region_declared n w).0 ≡ Ok x → RegionInScope w n x.0 x.1
unfolding region_declared declaration settle give
region_stands w n x h =
    let both = gave_both (declaration n) _ w x h in
    let found = declaration_found (numbered n w.names.map) both.first both.gave in
    let at = numbered_stands w.names.map n both.first found in
    let rest = gave_both (settle (region_of_object both.first.1.object)) _ w x both.then_gave in
    let is = region_object both.first.1.object rest.first rest.gave in
    let same : (above both.first.0, rest.first) ≡ x = cc rest.then_gave in
    record {
      stands = record {
        path = both.first.0;
        number = both.first.1.number;
        there = at ∙ ap (λ o. Some (numbered_entry both.first.1.number o)) is ∙ ap (λ (y : List Seg × OperationRegion). Some (numbered_entry both.first.1.number (object.OperationRegion y.1))) same;
      };
      number = declared_under n w.names.map both.first found;
      scoped = sym (ap (λ (y : List Seg × OperationRegion). y.0) same);
    }

-- how the address space of a region was found, by its path: of PCI_Config its scope was asked
pub data SpaceAnswers {S : Type 0} (accesses : Accesses S) (call : List Seg → Run S ℕ) (w : State S) (path : List Seg) : AddressSpace → Type 0 where
  memory : SpaceAnswers accesses call w path spaces.Memory
  io : SpaceAnswers accesses call w path spaces.Io
  asked : (space : AddressSpace) (steps : ℕ) → (pci_address accesses call (above path) (w, steps)).0 ≡ Ok space → SpaceAnswers accesses call w path space

-- what was located in a world, of the region with a number
pub record LocatedIn {S : Type 0} (accesses : Accesses S) (call : List Seg → Run S ℕ) (w : State S) (n : ℕ) (region : Region) : Type 0 where
  pub declared : OperationRegion
  pub stands : RegionStands w.names.map declared
  pub number : stands.number ≡ n
  pub is : IsRegion declared region
  pub answers : SpaceAnswers accesses call w stands.path region.space

-- parts of terms are evaluated as they mean, or so with some number of steps at most
pub data IsAsMeant {S : Type 0} (accesses : Accesses S) : (Task → Run S Flow) → Type 0 where
  meant : IsAsMeant accesses (meaning accesses)
  bounded : (n : ℕ) → IsAsMeant accesses (evaluated_within accesses n)

-- so the objects of an address are asked, inside some number of calls
pub record AsksObjects {S : Type 0} (accesses : Accesses S) (call : List Seg → Run S ℕ) : Type 0 where
  pub depth : ℕ
  pub ev : Task → Run S Flow
  pub as_meant : IsAsMeant accesses ev
  pub is : call ≡ called_at accesses ev depth

-- how the address space of a region was found, and how objects were asked then
pub record IsLocated {S : Type 0} (accesses : Accesses S) (w : State S) (path : List Seg) (space : AddressSpace) : Type 0 where
  pub call : List Seg → Run S ℕ
  pub asks : AsksObjects accesses call
  pub answers : SpaceAnswers accesses call w path space

-- ---- its address space

module _ {S : Type 0} (accesses : Accesses S) (call : List Seg → Run S ℕ) where
  abbrev Numbered : ℕ → AddressSpace → Type 0
  Numbered n space = number_of_space space ≡ n

  given_numbered : (n : ℕ) (space : AddressSpace) → number_of_space space ≡ n → Gives {H = State S × ℕ} (Numbered n) (give space)
  unfolding give
  given_numbered n space is = record { gives = λ s x e. let same : space ≡ x = cc e in subst (Numbered n) same is }

  pci_numbered : (n : ℕ) → 2 ≡ n → (scope : List Seg) → Gives (Numbered n) (pci_address accesses call scope)
  unfolding pci_address settle
  pci_numbered n is scope = then_gives _ _ (λ p. then_gives _ _ (λ bridges. then_gives _ _ (λ seg. then_gives _ _ (λ bus. then_gives _ _ (λ behind. then_gives _ _ (λ address. record { gives = λ s space e. pci_space_numbered seg behind address space e ∙ is }))))))

  space_numbered_by_cases : (n : ℕ) (scope : List Seg) (a b c : Bool) → (n == 0) ≡ a → (n == 1) ≡ b → (n == 2) ≡ c → Gives (Numbered n) (space_at accesses call (if a then kinds.SystemMemory else (if b then kinds.SystemIo else (if c then kinds.PciConfig else kinds.Other))) scope)
  unfolding stop
  space_numbered_by_cases n scope true b c is so too = given_numbered n spaces.Memory (sym (eqb-true n 0 is))
  space_numbered_by_cases n scope false true c is so too = given_numbered n spaces.Io (sym (eqb-true n 1 so))
  space_numbered_by_cases n scope false false true is so too = pci_numbered n (sym (eqb-true n 2 too)) scope
  space_numbered_by_cases n scope false false false is so too = record { gives = λ s space e. absurd (cc e) }

  -- ---- how it was found

  abbrev Found : State S → List Seg → AddressSpace → Type 0
  Found w path space = SpaceAnswers accesses call w path space

  space_answers_by_cases : (s : State S × ℕ) (path : List Seg) (space : AddressSpace) (a b c : Bool) → (space_at accesses call (if a then kinds.SystemMemory else (if b then kinds.SystemIo else (if c then kinds.PciConfig else kinds.Other))) (above path) s).0 ≡ Ok space
      → Found s.0 path space
  unfolding give stop
  space_answers_by_cases s path space true b c e = let same : spaces.Memory ≡ space = cc e in subst (Found s.0 path) same memory
  space_answers_by_cases s path space false true c e = let same : spaces.Io ≡ space = cc e in subst (Found s.0 path) same io
  space_answers_by_cases s path space false false true e = asked space s.1 e
  space_answers_by_cases s path space false false false e = absurd (cc e)

  -- ---- both

  pub located_in : (n : ℕ) (s : State S × ℕ) (region : Region) → (located accesses call n s).0 ≡ Ok region → LocatedIn accesses call s.0 n region
  unfolding located lift give
  located_in n s region h =
      let both = gave_both (lift (region_declared n)) _ s region h in
      let d = both.first in
      let found = (lift (region_declared n) s).1 in
      let rest = gave_both (space_at accesses call (space_numbered d.1.space) d.0) _ found region both.then_gave in
      let numbered = (space_numbered_by_cases d.1.space d.0 (d.1.space == 0) (d.1.space == 1) (d.1.space == 2) refl refl refl).gives found rest.first rest.gave in
      let same : record { space = rest.first; offset = d.1.offset; length = d.1.length } ≡ region = cc rest.then_gave in
      let at = region_stands s.0 n d both.gave in
      let scope_asked : (space_at accesses call (space_numbered d.1.space) (above at.stands.path) s).0 ≡ Ok rest.first =
      ap (λ p. (space_at accesses call (space_numbered d.1.space) p s).0) (sym at.scoped) ∙ ap (λ (w : State S). (space_at accesses call (space_numbered d.1.space) d.0 (w, s.1)).0) (sym (region_declared_changes_nothing n s.0)) ∙ rest.gave in
      let found_so = space_answers_by_cases s at.stands.path rest.first (d.1.space == 0) (d.1.space == 1) (d.1.space == 2) scope_asked in
      record {
        declared = d.1;
        stands = at.stands;
        number = at.number;
        is = subst (IsRegion d.1) same (record { space = numbered; offset = refl; length = refl });
        answers = subst (λ (r : Region). Found s.0 at.stands.path r.space) same found_so;
      }
