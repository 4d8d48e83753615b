-- The byte that lines leave at a place is that of the last of them to give one.
use Rattle.std.proofs.Common.{◌≡◌, ◌↔◌, ℕ, ◌+◌, List, [], ◌∷◌, ◌++◌, length, inl, inr, Option, Some, None, Ok, refl, ap, sym, ◌∙◌, subst}
use Rattle.std.specs.Prelude.{slice_index}
use Rattle.std.specs.Str.Lines.{lines}
use Rattle.std.specs.FinMap as map
use Rattle.std.specs.Ordering.{nat_cmp}
use Rattle.std.proofs.lemmas.List.Elements.{All-cons, All-head, All-tail, All-nil}
use Rattle.ar_space.specs.Bytes.{Bytes, byte_at, no_bytes}
use Rattle.ar_space.specs.Registers.{register_cmp}
use Rattle.ar_space.specs.declared.space.Place.{Place}
use Rattle.ar_space.specs.declared.space.Place.TheVariants as place
use Rattle.machine_text.specs.MachineText.{put_all, line, lines_read, nothing_said, finished_with, finished, machine_text}
use Rattle.machine_text.specs.Given.{GivesBytes, Gives, NoneGives, LastGives}
use Rattle.machine_text.specs.declared.draft.Draft.{Draft}
use Rattle.machine_text.specs.declared.machine_lines.MachineText.{MachineText}
use Rattle.machine_text.proofs.LineRuns.{came, Run, one_run, LineDoes, puts, stays, line_does}
use Rattle.machine_text.proofs.Runs.{put_at, put_cases, IsPut}

-- the byte that a line gives stands there behind it
given : (l : List ℕ) (p : Place) (byte : ℕ) (b b' : Bytes) → LineDoes l b b' → Gives l p byte → byte_at b' p ≡ Some byte
given l p byte b b' (stays none same) g = absurd (none (record { in_space = g.in_space; first = g.first; bytes = g.bytes }) g.given)
given l p byte b b' (puts r h put) g =
    let q : Run = record { in_space = g.in_space; first = g.first; bytes = g.bytes } in
    let is : r ≡ q = one_run l r q h g.given in
    let at : b' ≡ put_all g.in_space b g.first g.bytes = put ∙ ap (λ (x : Run). put_all x.in_space b x.first x.bytes) is in
    ap (λ x. byte_at x p) at ∙ (ap (byte_at (put_all g.in_space b g.first g.bytes)) g.place_is ∙ (put_at g.in_space b g.first g.bytes g.n g.within ∙ ap Some (sym g.byte_is)))

-- a line gives a byte there, or it gives none and what was there stays
data AtPlace (l : List ℕ) (p : Place) (b b' : Bytes) : Type 0 where
  gives : (byte : ℕ) → Gives l p byte → AtPlace l p b b'
  keeps : ((byte : ℕ) → Gives l p byte → ⊥) → byte_at b' p ≡ byte_at b p → AtPlace l p b b'

put_elsewhere : (l : List ℕ) (p : Place) (r : Run) → GivesBytes l r.in_space r.first r.bytes → (IsPut r.in_space r.first (length r.bytes) p → ⊥) → (byte : ℕ) → Gives l p byte → ⊥
put_elsewhere l p r h none byte g =
    let q : Run = record { in_space = g.in_space; first = g.first; bytes = g.bytes } in
    let is : q ≡ r = one_run l q r g.given h in
    let put : IsPut q.in_space q.first (length q.bytes) p = record { n = g.n; within = g.within; is = g.place_is } in
    none (subst (λ (x : Run). IsPut x.in_space x.first (length x.bytes) p) is put)

at_place : (l : List ℕ) (p : Place) (b b' : Bytes) → LineDoes l b b' → AtPlace l p b b'
at_place l p b b' (stays none same) = keeps (λ byte g. none (record { in_space = g.in_space; first = g.first; bytes = g.bytes }) g.given) (ap (λ x. byte_at x p) same)
at_place l p b b' (puts r h put) = elim (put_cases r.in_space b r.first r.bytes p) [
  | inl q ↦ gives (slice_index r.bytes q.n) (record {
    in_space = r.in_space;
    first = r.first;
    bytes = r.bytes;
    given = h;
    n = q.n;
    within = q.within;
    place_is = q.is;
    byte_is = refl;
  })
  | inr q ↦ keeps (put_elsewhere l p r h q.0) (ap (λ x. byte_at x p) put ∙ q.1)
]

-- lines give a byte there, or they give none and what was there stays
data Leave (ls : List (List ℕ)) (p : Place) (b b' : Bytes) : Type 0 where
  leaves : (byte : ℕ) → LastGives ls p byte → Leave ls p b b'
  leaves_alone : NoneGives ls p → byte_at b' p ≡ byte_at b p → Leave ls p b b'

after_one : (l : List ℕ) (ls : List (List ℕ)) (p : Place) (byte : ℕ) → LastGives ls p byte → LastGives (l ∷ ls) p byte
after_one l ls p byte g = record { earlier = l ∷ g.earlier; line = g.line; later = g.later; lines_are = ap (λ xs. l ∷ xs) g.lines_are; gives = g.gives; last = g.last }

in_all : (l : List ℕ) (ls : List (List ℕ)) (p : Place) (b b1 b2 : Bytes) → LineDoes l b b1 → Leave ls p b1 b2 → Leave (l ∷ ls) p b b2
in_all l ls p b b1 b2 does (leaves byte g) = leaves byte (after_one l ls p byte g)
in_all l ls p b b1 b2 does (leaves_alone none same) = elim (at_place l p b b1 does) [
  | gives byte g ↦ leaves byte (record { earlier = []; line = l; later = ls; lines_are = refl; gives = g; last = none })
  | keeps not_here before ↦ leaves_alone (All-cons (λ line. (byte : ℕ) → Gives line p byte → ⊥) l ls not_here none) (same ∙ before)
]

lines_leave : (n : ℕ) (ls : List (List ℕ)) (d e : Draft) (p : Place) → lines_read n ls d ≡ Ok e → Leave ls p d.space e.space
unfolding lines_read
lines_leave n [] d e p is =
    let same : d ≡ e = cc is in
    leaves_alone (All-nil (λ line. (byte : ℕ) → Gives line p byte → ⊥)) (ap (λ (x : Draft). byte_at x.space p) (sym same))
lines_leave n (l ∷ ls) d e p is =
    let c = came (line n l d) (λ f. lines_read (n + 1) ls f) e is in
    in_all l ls p d.space c.before.space e.space (line_does n l d c.before c.is) (lines_leave (n + 1) ls c.before e p c.rest)

-- where no line gives a byte
none_left : (n : ℕ) (ls : List (List ℕ)) (d e : Draft) (p : Place) → lines_read n ls d ≡ Ok e → NoneGives ls p → byte_at e.space p ≡ byte_at d.space p
none_left n ls d e p is none = elim (lines_leave n ls d e p is) [
  | leaves byte g ↦ absurd (none_of_them ls p byte none g)
  | leaves_alone all same ↦ same
]
  where
    none_in : (earlier later : List (List ℕ)) (line : List ℕ) (q : Place) (byte : ℕ) → NoneGives (earlier ++ line ∷ later) q → Gives line q byte → ⊥
    none_in [] later line q byte none g = All-head (λ l. (x : ℕ) → Gives l q x → ⊥) line later none byte g
    none_in (l ∷ earlier) later line q byte none g = none_in earlier later line q byte (All-tail (λ m. (x : ℕ) → Gives m q x → ⊥) l (earlier ++ line ∷ later) none) g

    none_of_them : (ms : List (List ℕ)) (q : Place) (byte : ℕ) → NoneGives ms q → LastGives ms q byte → ⊥
    none_of_them ms q byte none g = none_in g.earlier g.later g.line q byte (subst (λ xs. NoneGives xs q) g.lines_are none) g.gives

-- where a line gives the last
last_left : (n : ℕ) (earlier later ls : List (List ℕ)) (l : List ℕ) (d e : Draft) (p : Place) (byte : ℕ) → lines_read n ls d ≡ Ok e
    → ls ≡ earlier ++ l ∷ later → Gives l p byte → NoneGives later p → byte_at e.space p ≡ Some byte
unfolding lines_read
last_left n [] later [] l d e p byte is are g none = absurd (cc are)
last_left n (x ∷ earlier) later [] l d e p byte is are g none = absurd (cc are)
last_left n [] later (m ∷ ms) l d e p byte is are g none =
    let c = came (line n m d) (λ f. lines_read (n + 1) ms f) e is in
    let this : m ≡ l = cc are in
    let rest : ms ≡ later = cc are in
    none_left (n + 1) ms c.before e p c.rest (subst (λ xs. NoneGives xs p) (sym rest) none)
    ∙ given m p byte d.space c.before.space (line_does n m d c.before c.is) (subst (λ x. Gives x p byte) (sym this) g)
last_left n (x ∷ earlier) later (m ∷ ms) l d e p byte is are g none =
    let c = came (line n m d) (λ f. lines_read (n + 1) ms f) e is in
    let rest : ms ≡ earlier ++ l ∷ later = cc are in
    last_left (n + 1) earlier later ms l c.before e p byte c.rest rest g none

nothing_there : (p : Place) → byte_at no_bytes p ≡ None
nothing_there (place.Memory a) = map.get-empty nat_cmp a
nothing_there (place.Io a) = map.get-empty nat_cmp a
nothing_there (place.Pci s b d f r) = map.get-empty register_cmp (record { seg = s; bus = b; dev = d; func = f; reg = r })

-- the lines of a text that is read
record TextLines (bytes : List ℕ) (t : MachineText) : Type 0 where
  draft : Draft
  read : lines_read 1 (lines bytes) nothing_said ≡ Ok draft
  space_is : t.space ≡ draft.space

text_lines : (bytes : List ℕ) (t : MachineText) → machine_text bytes ≡ Ok t → TextLines bytes t
unfolding machine_text
text_lines bytes t is =
    let c = came (lines_read 1 (lines bytes) nothing_said) finished t is in
    record { draft = c.before; read = c.is; space_is = by_root c.before.rsdp c.before.space c.before.osi c.rest }
  where
    by_root : (o : Option ℕ) (space : Bytes) (osi : List (List ℕ)) → finished_with o space osi ≡ Ok t → t.space ≡ space
    by_root None space osi e = absurd (cc e)
    by_root (Some a) space osi e =
        let same : record { rsdp = a; space = space; osi = osi } ≡ t = cc e in
        ap (λ (x : MachineText). x.space) (sym same)

pub last_line_gives : (bytes : List ℕ) (t : MachineText) (p : Place) (byte : ℕ) → machine_text bytes ≡ Ok t → (byte_at t.space p ≡ Some byte) ↔ LastGives (lines bytes) p byte
last_line_gives bytes t p byte is =
    let u = text_lines bytes t is in
    let at : byte_at t.space p ≡ byte_at u.draft.space p = ap (λ x. byte_at x p) u.space_is in
    let left : (x : ℕ) → LastGives (lines bytes) p x → byte_at t.space p ≡ Some x =
    λ x g. at ∙ last_left 1 g.earlier g.later (lines bytes) g.line nothing_said u.draft p x u.read g.lines_are g.gives g.last in (
      (λ stands. elim (lines_leave 1 (lines bytes) nothing_said u.draft p u.read) [
        | leaves x g ↦ (let same : Some x ≡ Some byte = sym (left x g) ∙ stands in subst (λ y. LastGives (lines bytes) p y) (cc same) g)
        | leaves_alone none same ↦ (let bad : None ≡ Some byte = sym (at ∙ (same ∙ nothing_there p)) ∙ stands in absurd (cc bad))
      ]),
      left byte,
    )

pub no_line_gives : (bytes : List ℕ) (t : MachineText) (p : Place) → machine_text bytes ≡ Ok t → (byte_at t.space p ≡ None) ↔ NoneGives (lines bytes) p
no_line_gives bytes t p is =
    let u = text_lines bytes t is in
    let at : byte_at t.space p ≡ byte_at u.draft.space p = ap (λ x. byte_at x p) u.space_is in (
      (λ absent. elim (lines_leave 1 (lines bytes) nothing_said u.draft p u.read) [
        | leaves x g ↦ (let bad : None ≡ Some x = sym absent ∙ (last_line_gives bytes t p x is).1 g in absurd (cc bad))
        | leaves_alone none same ↦ none
      ]),
      λ none. at ∙ (none_left 1 (lines bytes) nothing_said u.draft p u.read none ∙ nothing_there p),
    )
