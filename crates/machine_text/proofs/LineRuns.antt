-- The bytes that a line gives, and what the line does where it is read.
use Rattle.std.proofs.Common.{◌≡◌, ap₂, ℕ, ◌+◌, ◌==◌, nat_le, Bool, true, false, List, [], ◌∷◌, ◌++◌, length, map, codes, ◌⊎◌, inl, inr, Option, Some, None, Ok, Err, option_and_then, if◌then◌else◌, refl, ap, sym, ◌∙◌, subst, arith, append_assoc, append-nil}
use Rattle.std.specs.List.{concat, before_first}
use Rattle.std.specs.Option.{option_map}
use Rattle.std.specs.Str.{bytes_eq}
use Rattle.std.specs.Cmp.Lexicographic.{same_text}
use Rattle.ar_space.specs.Outcome.{Outcome, ◌>>=◌}
use Rattle.ar_space.specs.Bytes.{Bytes}
use Rattle.text_words.specs.Words.{words, words_left, tail_of}
use Rattle.machine_text.specs.Words.{number, word_bytes}
use Rattle.machine_text.specs.MachineText.{last_of, put_all, here, bad_line, numbered, with_word, bytes_after, all_bytes, placed, configured, root, text, keyed, line, is_silent}
use Rattle.machine_text.specs.Given.{Names, GivesBytes}
use Rattle.machine_text.specs.declared.draft.Draft.{Draft}
use Rattle.machine_text.specs.declared.address_space.AddressSpace.{AddressSpace}
use Rattle.machine_text.specs.declared.address_space.AddressSpace.TheVariants.{Memory, Io, Pci}
use Rattle.text_words.proofs.Pieces.{words_cut}

-- a value that came of a value before it
pub record Came {A B : Type 0} (m : Outcome A) (k : A → Outcome B) (b : B) : Type 0 where
  pub before : A
  pub is : m ≡ Ok before
  pub rest : k before ≡ Ok b

pub came : {A B : Type 0} (m : Outcome A) (k : A → Outcome B) (b : B) → (m >>= k) ≡ Ok b → Came m k b
unfolding ◌>>=◌
came (Ok a) k b e = record { before = a; is = refl; rest = e }
came (Err x) k b e = absurd (cc e)

-- the words' parts
pub record Parts (ws : List (List ℕ)) (bytes : List ℕ) : Type 0 where
  pub parts : List (List ℕ)
  pub are : map word_bytes ws ≡ map Some parts
  pub bytes_are : bytes ≡ concat parts

found_here : {A : Type 0} (n : ℕ) (o : Option A) (a : A) → here n o ≡ Ok a → o ≡ Some a
found_here n (Some b) a e = cc e
found_here n None a e = absurd (cc e)

word_added : (n : ℕ) (before w all : List ℕ) → with_word n before w ≡ Ok all → (p : List ℕ) × ((word_bytes w ≡ Some p) × (all ≡ before ++ p))
unfolding with_word
word_added n before w all e =
    let c = came (here n (word_bytes w)) (λ bs. Ok (before ++ bs)) all e in
    let is : before ++ c.before ≡ all = cc c.rest in
    (c.before, (found_here n (word_bytes w) c.before c.is, sym is))

-- the parts of words whose bytes were read
pub parts_read : (n : ℕ) (before : List ℕ) (ws : List (List ℕ)) (all : List ℕ) → bytes_after n before ws ≡ Ok all → (bytes : List ℕ) × (Parts ws bytes × (all ≡ before ++ bytes))
unfolding bytes_after
parts_read n before [] all e = ([], (record { parts = []; are = refl; bytes_are = refl }, (let is : before ≡ all = cc e in sym is ∙ sym (append-nil before))))
parts_read n before (w ∷ ws) all e =
    let c = came (with_word n before w) (λ so_far. bytes_after n so_far ws) all e in
    let a = word_added n before w c.before c.is in
    let r = parts_read n c.before ws all c.rest in
    let ps = r.1.0 in (
      a.0 ++ r.0,
      (
        record { parts = a.0 ∷ ps.parts; are = ap₂ ◌∷◌ a.1.0 ps.are; bytes_are = ap (λ bs. a.0 ++ bs) ps.bytes_are },
        r.1.1 ∙ (ap (λ x. x ++ r.0) a.1.1 ∙ append_assoc before a.0 r.0),
      ),
    )

if_cases : {A : Type 0} (b : Bool) (x y z : A) → (if b then x else y) ≡ z → ((b ≡ true) × (x ≡ z)) ⊎ ((b ≡ false) × (y ≡ z))
if_cases true x y z e = inl (refl, e)
if_cases false x y z e = inr (refl, e)

-- the first word, as a number, and the others
record Number (most : ℕ) (ws : List (List ℕ)) (value : ℕ) (others : List (List ℕ)) : Type 0 where
  digits : List ℕ
  are : ws ≡ digits ∷ others
  value_is : number most digits ≡ Some value

number_read : (n most : ℕ) (ws : List (List ℕ)) (p : ℕ × List (List ℕ)) → numbered n most ws ≡ Ok p → Number most ws p.0 p.1
unfolding numbered ◌>>=◌
number_read n most [] p e = absurd (cc e)
number_read n most (w ∷ ws) p e =
    let c = came (here n (number most w)) (λ a. Ok (a, ws)) p e in
    let is : ◌≡◌ {A = ℕ × List (List ℕ)} (c.before, ws) p = cc c.rest in
    record { digits = w; are = ap (λ (q : ℕ × List (List ℕ)). w ∷ q.1) is; value_is = found_here n (number most w) c.before c.is ∙ ap (λ (q : ℕ × List (List ℕ)). Some q.0) is }

bytes_read : (n : ℕ) (ws : List (List ℕ)) (bytes : List ℕ) → all_bytes n ws ≡ Ok bytes → Parts ws bytes
unfolding all_bytes ◌>>=◌
bytes_read n [] bytes e = absurd (cc e)
bytes_read n (w ∷ ws) bytes e = let r = parts_read n [] (w ∷ ws) bytes e in subst (Parts (w ∷ ws)) (sym r.1.1) r.1.0

-- the words of a run of bytes, and what it makes of the bytes before
record PlacedRun (in_space : AddressSpace) (b : Bytes) (ws : List (List ℕ)) (b' : Bytes) : Type 0 where
  first : ℕ
  others : List (List ℕ)
  bytes : List ℕ
  number_is : Number (last_of in_space) ws first others
  parts : Parts others bytes
  put : b' ≡ put_all in_space b first bytes

placed_read : (n : ℕ) (in_space : AddressSpace) (b : Bytes) (ws : List (List ℕ)) (b' : Bytes) → placed n in_space b ws ≡ Ok b' → PlacedRun in_space b ws b'
unfolding placed
placed_read n in_space b ws b' e =
    let a = came (numbered n (last_of in_space) ws) _ b' e in
    let bs = came (all_bytes n a.before.1) _ b' a.rest in
    elim (if_cases (nat_le (a.before.0 + length bs.before) (last_of in_space + 1)) (Ok (put_all in_space b a.before.0 bs.before)) (bad_line n) (Ok b') bs.rest) [
      | inl t ↦ record {
        first = a.before.0;
        others = a.before.1;
        bytes = bs.before;
        number_is = number_read n (last_of in_space) ws a.before a.is;
        parts = bytes_read n a.before.1 bs.before bs.is;
        put = cc t.1;
      }
      | inr f ↦ absurd (cc f.1)
    ]

-- what words give, if they give bytes
pub record Run : Type 0 where
  pub in_space : AddressSpace
  pub first : ℕ
  pub bytes : List ℕ

abbrev bytes_of : List (List ℕ) → Option (List ℕ)
bytes_of [] = Some []
bytes_of (w ∷ ws) = option_and_then (λ bs. option_map (λ cs. bs ++ cs) (bytes_of ws)) (word_bytes w)

abbrev run_in : AddressSpace → List (List ℕ) → Option Run
run_in in_space [] = None
run_in in_space (a ∷ ws) = option_and_then (λ first. option_map (λ bs. record { in_space = in_space; first = first; bytes = bs }) (bytes_of ws)) (number (last_of in_space) a)

abbrev function_run : List (List ℕ) → Option Run
function_run (s ∷ b ∷ d ∷ f ∷ ws) =
    option_and_then (λ seg. option_and_then (λ bus. option_and_then (λ dev. option_and_then (λ func. run_in (Pci seg bus dev func) ws) (number 7 f)) (number 0x1F d)) (number 0xFF b)) (number 0xFFFF s)
function_run _ = None

abbrev run_of : List (List ℕ) → Option Run
run_of [] = None
run_of (key ∷ ws) =
    if bytes_eq key (codes "mem") then run_in Memory ws
    else if bytes_eq key (codes "io") then run_in Io ws
    else if bytes_eq key (codes "pci") then function_run ws
    else None

bytes_of_parts : (ws parts : List (List ℕ)) → map word_bytes ws ≡ map Some parts → bytes_of ws ≡ Some (concat parts)
bytes_of_parts [] [] e = refl
bytes_of_parts [] (p ∷ ps) e = absurd (cc e)
bytes_of_parts (w ∷ ws) [] e = absurd (cc e)
bytes_of_parts (w ∷ ws) (p ∷ ps) e =
    let first : word_bytes w ≡ Some p = cc e in
    let rest : map word_bytes ws ≡ map Some ps = cc e in
    rw (first, bytes_of_parts ws ps rest) refl

run_in_given : (in_space : AddressSpace) (address : List ℕ) (others : List (List ℕ)) (first : ℕ) (parts : List (List ℕ)) (bytes : List ℕ)
    → number (last_of in_space) address ≡ Some first → map word_bytes others ≡ map Some parts → bytes ≡ concat parts
    → run_in in_space (address ∷ others) ≡ Some (record { in_space = in_space; first = first; bytes = bytes })
run_in_given in_space address others first parts bytes n p b = rw (n, bytes_of_parts others parts p, b) refl

-- a line that gives bytes gives no others
run_given : (l : List ℕ) (in_space : AddressSpace) (first : ℕ) (bytes : List ℕ) → GivesBytes l in_space first bytes → run_of (words l) ≡ Some (record { in_space = in_space; first = first; bytes = bytes })
run_given l Memory first bytes g =
    let are : words l ≡ codes "mem" ∷ g.address ∷ g.others = g.words_are ∙ ap (λ x. x ++ g.address ∷ g.others) g.names in
    ap run_of are ∙ run_in_given Memory g.address g.others first g.parts bytes g.first_is g.parts_are g.bytes_are
run_given l Io first bytes g =
    let are : words l ≡ codes "io" ∷ g.address ∷ g.others = g.words_are ∙ ap (λ x. x ++ g.address ∷ g.others) g.names in
    ap run_of are ∙ run_in_given Io g.address g.others first g.parts bytes g.first_is g.parts_are g.bytes_are
run_given l (Pci seg bus dev func) first bytes g =
    let is = g.names in
    let are : words l ≡ codes "pci" ∷ is.s ∷ is.b ∷ is.d ∷ is.f ∷ g.address ∷ g.others = g.words_are ∙ ap (λ x. x ++ g.address ∷ g.others) is.is in
    ap run_of are ∙ (rw (is.seg_is, is.bus_is, is.dev_is, is.func_is) (run_in_given (Pci seg bus dev func) g.address g.others first g.parts bytes g.first_is g.parts_are g.bytes_are))

pub one_run : (l : List ℕ) (r q : Run) → GivesBytes l r.in_space r.first r.bytes → GivesBytes l q.in_space q.first q.bytes → r ≡ q
one_run l r q g h =
    let is : Some r ≡ Some q = sym (run_given l r.in_space r.first r.bytes g) ∙ run_given l q.in_space q.first q.bytes h in
    cc is

-- what a line does that is read: it gives bytes, which are put, or it gives none and the bytes stay
pub data LineDoes (l : List ℕ) (b b' : Bytes) : Type 0 where
  puts : (r : Run) → GivesBytes l r.in_space r.first r.bytes → b' ≡ put_all r.in_space b r.first r.bytes → LineDoes l b b'
  stays : ((r : Run) → GivesBytes l r.in_space r.first r.bytes → ⊥) → b' ≡ b → LineDoes l b b'

gives_none : (l : List ℕ) → run_of (words l) ≡ None → (r : Run) → GivesBytes l r.in_space r.first r.bytes → ⊥
gives_none l none r g =
    let is : None ≡ Some r = sym none ∙ run_given l r.in_space r.first r.bytes g in
    absurd (cc is)

words_keyed : (l key : List ℕ) → before_first (λ b. b == 32) l ≡ key → words l ≡ key ∷ words_left (tail_of l)
words_keyed l key is = words_cut l ∙ ap (λ k. k ∷ words_left (tail_of l)) is

-- a line that begins with the name of an address space
named : (n : ℕ) (l : List ℕ) (in_space : AddressSpace) (name ws : List (List ℕ)) (b b' : Bytes) → words l ≡ name ++ ws → Names name in_space → placed n in_space b ws ≡ Ok b' → LineDoes l b b'
named n l in_space name ws b b' are names e =
    let p = placed_read n in_space b ws b' e in
    puts (record { in_space = in_space; first = p.first; bytes = p.bytes })
    (record {
      name = name;
      address = p.number_is.digits;
      others = p.others;
      parts = p.parts.parts;
      words_are = are ∙ ap (λ x. name ++ x) p.number_is.are;
      names = names;
      first_is = p.number_is.value_is;
      parts_are = p.parts.are;
      bytes_are = p.parts.bytes_are;
    })
    p.put

four_words : (ws xs ys zs us : List (List ℕ)) (s b d f : List ℕ) → ws ≡ s ∷ xs → xs ≡ b ∷ ys → ys ≡ d ∷ zs → zs ≡ f ∷ us → codes "pci" ∷ ws ≡ (codes "pci" ∷ s ∷ b ∷ d ∷ f ∷ []) ++ us
four_words ws xs ys zs us s b d f i j k l = ap (λ x. codes "pci" ∷ x) (i ∙ ap (λ x. s ∷ x) (j ∙ ap (λ x. b ∷ x) (k ∙ ap (λ x. d ∷ x) l)))

four_numbers : (n : ℕ) (l : List ℕ) (ws xs ys zs us : List (List ℕ)) (seg bus dev func : ℕ) (b b' : Bytes) → words l ≡ codes "pci" ∷ ws
    → Number 0xFFFF ws seg xs → Number 0xFF xs bus ys → Number 0x1F ys dev zs → Number 7 zs func us → placed n (Pci seg bus dev func) b us ≡ Ok b' → LineDoes l b b'
four_numbers n l ws xs ys zs us seg bus dev func b b' are i j k m e =
    named n l (Pci seg bus dev func) (codes "pci" ∷ i.digits ∷ j.digits ∷ k.digits ∷ m.digits ∷ []) us b b'
    (are ∙ four_words ws xs ys zs us i.digits j.digits k.digits m.digits i.are j.are k.are m.are)
    (record { s = i.digits; b = j.digits; d = k.digits; f = m.digits; is = refl; seg_is = i.value_is; bus_is = j.value_is; dev_is = k.value_is; func_is = m.value_is })
    e

-- a line that begins with `pci`
function_named : (n : ℕ) (l : List ℕ) (ws : List (List ℕ)) (b b' : Bytes) → words l ≡ codes "pci" ∷ ws → configured n b ws ≡ Ok b' → LineDoes l b b'
unfolding configured
function_named n l ws b b' are e =
    let s = came (numbered n 0xFFFF ws) _ b' e in
    let t = came (numbered n 0xFF s.before.1) _ b' s.rest in
    let d = came (numbered n 0x1F t.before.1) _ b' t.rest in
    let f = came (numbered n 7 d.before.1) _ b' d.rest in
    four_numbers n l ws s.before.1 t.before.1 d.before.1 f.before.1 s.before.0 t.before.0 d.before.0 f.before.0 b b' are
    (number_read n 0xFFFF ws s.before s.is)
    (number_read n 0xFF s.before.1 t.before t.is)
    (number_read n 0x1F t.before.1 d.before d.is)
    (number_read n 7 d.before.1 f.before f.is)
    f.rest

other_key : (key : List ℕ) (ws : List (List ℕ)) → bytes_eq key (codes "mem") ≡ false → bytes_eq key (codes "io") ≡ false → bytes_eq key (codes "pci") ≡ false → run_of (key ∷ ws) ≡ None
other_key key ws mem io pci = rw (mem, io, pci) refl

module _ (n : ℕ) (l : List ℕ) (d e : Draft) where
  abbrev key : List ℕ
  key = before_first (λ b. b == 32) l

  abbrev others : List (List ℕ)
  others = words_left (tail_of l)

  put_in : (m : Outcome Bytes) → (m >>= (λ bytes. Ok (record d { space = bytes }))) ≡ Ok e → m ≡ Ok e.space
  put_in m is =
      let c = came m (λ bytes. Ok (record d { space = bytes })) e is in
      let same : record d { space = c.before } ≡ e = cc c.rest in
      c.is ∙ ap (λ (x : Draft). Ok x.space) same

  beside : {A : Type 0} (m : Outcome A) (f : A → Draft) → ((a : A) → (f a).space ≡ d.space) → (m >>= (λ a. Ok (f a))) ≡ Ok e → e.space ≡ d.space
  beside m f keeps is =
      let c = came m (λ a. Ok (f a)) e is in
      let same : f c.before ≡ e = cc c.rest in
      sym (ap (λ (x : Draft). x.space) same) ∙ keeps c.before

  keyed_does : keyed n key (tail_of l) d ≡ Ok e → LineDoes l d.space e.space
  unfolding keyed
  keyed_does is = elim (if_cases (bytes_eq key (codes "mem")) _ _ _ is) [
    | inl mem ↦ named n l Memory (codes "mem" ∷ []) others d.space e.space (words_keyed l (codes "mem") (same_text key (codes "mem") (sym mem.0))) refl (put_in _ mem.1)
    | inr not_mem ↦ elim (if_cases (bytes_eq key (codes "io")) _ _ _ not_mem.1) [
      | inl io ↦ named n l Io (codes "io" ∷ []) others d.space e.space (words_keyed l (codes "io") (same_text key (codes "io") (sym io.0))) refl (put_in _ io.1)
      | inr not_io ↦ elim (if_cases (bytes_eq key (codes "pci")) _ _ _ not_io.1) [
        | inl pci ↦ function_named n l others d.space e.space (words_keyed l (codes "pci") (same_text key (codes "pci") (sym pci.0))) (put_in _ pci.1)
        | inr not_pci ↦
            let none : run_of (words l) ≡ None = ap run_of (words_cut l) ∙ other_key key others not_mem.0 not_io.0 not_pci.0 in
            stays (gives_none l none) (elim (if_cases (bytes_eq key (codes "osi")) _ _ _ not_pci.1) [
              | inl osi ↦ beside (text n d.osi (tail_of l)) (λ texts. record d { osi = texts }) (λ _. refl) osi.1
              | inr not_osi ↦ elim (if_cases (bytes_eq key (codes "rsdp")) _ _ _ not_osi.1) [
                | inl rsdp ↦ beside (root n d.rsdp others) (λ address. record d { rsdp = address }) (λ _. refl) rsdp.1
                | inr none_of_them ↦ absurd (cc none_of_them.1)
              ]
            ])
      ]
    ]
  ]

-- a line that says nothing
comment_none : (bs : List ℕ) (ws : List (List ℕ)) → words bs ≡ ws → run_of (words (35 ∷ bs)) ≡ None
comment_none bs [] is = rw is refl
comment_none bs (w ∷ ws) is = rw is refl

silent_none : (n : ℕ) (l : List ℕ) → is_silent n l ≡ true → run_of (words l) ≡ None
silent_none n [] is = refl
silent_none n (b ∷ bs) is =
    let hash : b ≡ 35 = grind (arith, is) in
    ap (λ c. run_of (words (c ∷ bs))) hash ∙ comment_none bs (words bs) refl

pub line_does : (n : ℕ) (l : List ℕ) (d e : Draft) → line n l d ≡ Ok e → LineDoes l d.space e.space
unfolding line
line_does n l d e is = elim (if_cases (is_silent n l) _ _ _ is) [
  | inl silent ↦ (let same : d ≡ e = cc silent.1 in stays (gives_none l (silent_none n l silent.0)) (sym (ap (λ (x : Draft). x.space) same)))
  | inr spoken ↦ keyed_does n l d e spoken.1
]
