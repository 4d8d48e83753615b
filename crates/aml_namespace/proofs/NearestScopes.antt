-- The nearest scope in which something stands, going down from the root.
use Rattle.std.proofs.Common.{◌≡◌, ℕ, zero, suc, ◌+◌, ◌-◌, ◌<◌, ◌≤◌, ◌++◌, ◌∷◌, [], List, take, length, get_or, Option, Some, None, refl, ap, sym, ◌∙◌, arith, append_assoc, length-append}
use Rattle.std.specs.Prelude.{option_and_then}
use Rattle.std.specs.Option.{option_map}
use Rattle.std.proofs.lemmas.List.{length-take-le, take_more}
use Rattle.aml_path.specs.declared.segment.Seg.{Seg}
use Rattle.aml_objects.specs.declared.node.NodeId.{NodeId}
use Rattle.aml_namespace.specs.Namespace.{Map, numbered}
use Rattle.aml_namespace.specs.Search.{Found, at_path, or_else, search_up}
use Rattle.aml_namespace.proofs.Searching.{search_here, search_none, search_next, search_ends, found_there}

pub itself_through : (o : Option ℕ) → option_and_then (λ k. Some k) o ≡ o
itself_through None = refl
itself_through (Some k) = refl

pub taken : {A : Type 0} (xs : List A) (i : ℕ) (x : A) → i < length xs → x ≡ get_or xs i x → take (i + 1) xs ≡ take i xs ++ x ∷ []
taken xs i x lt at = take_more xs i x lt ∙ ap (λ y. take i xs ++ y ∷ []) (sym at)

take_past : {A : Type 0} (xs : List A) (i k : ℕ) (x : A) → i < length xs → x ≡ get_or xs i x → i < k → (rest : List A) × (take k xs ≡ take i xs ++ x ∷ rest)
take_past [] i k x lt at more = absurd (omega (arith, lt))
take_past (y ∷ ys) i zero x lt at more = absurd (omega (arith, more))
take_past (y ∷ ys) zero (suc k) x lt at more = (take k ys, ap (λ z. z ∷ take k ys) (sym at))
take_past (y ∷ ys) (suc i) (suc k) x lt at more = let h = take_past ys i k x (omega (arith, lt)) at (omega (arith, more)) in (h.0, ap (λ l. y ∷ l) h.1)

module _ (m : Map) (scope segments : List Seg) where
  -- a scope that was found, with its depth, and what the definition finds in at most n segments of the scope
  abbrev pub shown : Option (ℕ × NodeId) → Option (ℕ × Option Found)
  shown = option_map (λ near. (near.0, numbered near.1.number m))

  abbrev pub wanted : ℕ → Option (ℕ × Option Found)
  wanted n = option_map (λ f. (length f.0 - length segments, Some f)) (search_up m scope segments n)

  -- nothing was found here
  none_by : (here : Option NodeId) (o : Option Found) → option_map (λ (id : NodeId). numbered id.number m) here ≡ option_map Some o → o ≡ None → here ≡ None
  none_by None o is none = refl
  none_by (Some id) None is none = absurd (cc is)
  none_by (Some id) (Some f) is none = absurd (cc none)

  some_by : (here : Option NodeId) (f : Found) → option_map (λ (id : NodeId). numbered id.number m) here ≡ Some (Some f) → (id : NodeId) × (here ≡ Some id) × (numbered id.number m ≡ Some f)
  some_by None f is = absurd (cc is)
  some_by (Some id) f is = (id, refl, cc is)

  deep : (n : ℕ) (f : Found) → n ≤ length scope → at_path m (take n scope ++ segments) ≡ Some f → length f.0 - length segments ≡ n
  deep n f le at =
      let path : length f.0 ≡ length (take n scope) + length segments = ap length (found_there m (take n scope ++ segments) f at) ∙ length-append (take n scope) segments in
      let long : length (take n scope) ≡ n = length-take-le n scope le in
      omega (arith, path, long)

  found_by : (n : ℕ) (here : Option NodeId) (near : Option (ℕ × NodeId)) (f : Found) → n ≤ length scope
      → option_map (λ (id : NodeId). numbered id.number m) here ≡ option_map Some (at_path m (take n scope ++ segments)) → at_path m (take n scope ++ segments) ≡ Some f
      → shown (or_else (option_map (λ id. (n, id)) here) near) ≡ wanted n
  found_by n here near f le is at =
      let h = some_by here f (is ∙ ap (option_map Some) at) in
      ap (λ (o : Option NodeId). shown (or_else (option_map (λ id. (n, id)) o) near)) h.1
      ∙ ap (λ (o : Option Found). Some (n, o)) h.2
      ∙ ap (λ (k : ℕ). Some (k, Some f)) (sym (deep n f le at))
      ∙ sym (ap (option_map (λ (g : Found). (length g.0 - length segments, Some g))) (search_here m scope segments n f at))

  pub near_first : (here : Option NodeId) → option_map (λ (id : NodeId). numbered id.number m) here ≡ option_map Some (at_path m (take 0 scope ++ segments))
      → shown (or_else (option_map (λ id. (0, id)) here) None) ≡ wanted 0
  near_first here is = by (at_path m (take 0 scope ++ segments)) refl
    where
      by : (o : Option Found) → at_path m (take 0 scope ++ segments) ≡ o → shown (or_else (option_map (λ id. (0, id)) here) None) ≡ wanted 0
      by None at =
          ap (λ (o : Option NodeId). shown (or_else (option_map (λ id. (0, id)) o) None)) (none_by here (at_path m (take 0 scope ++ segments)) is at)
          ∙ sym (ap (option_map (λ (g : Found). (length g.0 - length segments, Some g))) (search_none m scope segments 0 at refl))
      by (Some f) at = found_by 0 here None f (omega arith) is at

  pub near_next : (n : ℕ) (here : Option NodeId) (near : Option (ℕ × NodeId)) → n < length scope
      → option_map (λ (id : NodeId). numbered id.number m) here ≡ option_map Some (at_path m (take (n + 1) scope ++ segments)) → shown near ≡ wanted n
      → shown (or_else (option_map (λ id. (n + 1, id)) here) near) ≡ wanted (n + 1)
  near_next n here near lt is so_far = by (at_path m (take (n + 1) scope ++ segments)) refl
    where
      by : (o : Option Found) → at_path m (take (n + 1) scope ++ segments) ≡ o → shown (or_else (option_map (λ id. (n + 1, id)) here) near) ≡ wanted (n + 1)
      by None at =
          ap (λ (o : Option NodeId). shown (or_else (option_map (λ id. (n + 1, id)) o) near)) (none_by here (at_path m (take (n + 1) scope ++ segments)) is at)
          ∙ so_far
          ∙ sym (ap (option_map (λ (g : Found). (length g.0 - length segments, Some g))) (search_next m scope segments (n + 1) at (λ e. absurd (omega (arith, e))) ∙ ap (search_up m scope segments) (omega arith)))
      by (Some f) at = found_by (n + 1) here near f (omega (arith, lt)) is at

  -- where no node stands at the next segment of the scope
  pub near_end : (n : ℕ) (s : Seg) → n < length scope → s ≡ get_or scope n s → ((rest : List Seg) → at_path m (take n scope ++ s ∷ rest) ≡ None) → wanted n ≡ wanted (length scope)
  near_end n s lt at none =
      sym (ap (option_map (λ (g : Found). (length g.0 - length segments, Some g))) (search_ends m scope segments n (length scope) (omega (arith, lt)) (λ k more.
      let h = take_past scope n k s lt at more in
      ap (λ (p : List Seg). at_path m (p ++ segments)) h.1 ∙ ap (at_path m) (append_assoc (take n scope) (s ∷ h.0) segments) ∙ none (h.0 ++ segments))))

  first_of : (x : Option (ℕ × NodeId)) (y : Option Found) → shown x ≡ option_map (λ f. (length f.0 - length segments, Some f)) y → option_map (λ (near : ℕ × NodeId). near.0) x ≡ option_map (λ (f : Found). length f.0 - length segments) y
  first_of None None is = refl
  first_of None (Some f) is = absurd (cc is)
  first_of (Some x) None is = absurd (cc is)
  first_of (Some x) (Some f) is = let same : (x.0, numbered x.1.number m) ≡ (length f.0 - length segments, Some f) = cc is in ap (λ (y : ℕ × Option Found). Some y.0) same

  second_of : (x : Option (ℕ × NodeId)) (y : Option Found) → shown x ≡ option_map (λ f. (length f.0 - length segments, Some f)) y → option_map (λ (near : ℕ × NodeId). numbered near.1.number m) x ≡ option_map Some y
  second_of None None is = refl
  second_of None (Some f) is = absurd (cc is)
  second_of (Some x) None is = absurd (cc is)
  second_of (Some x) (Some f) is = let same : (x.0, numbered x.1.number m) ≡ (length f.0 - length segments, Some f) = cc is in ap (λ (y : ℕ × Option Found). Some y.1) same

  pub near_depth : (x : Option (ℕ × NodeId)) → shown x ≡ wanted (length scope) → option_map (λ (near : ℕ × NodeId). near.0) x ≡ option_map (λ (f : Found). length f.0 - length segments) (search_up m scope segments (length scope))
  near_depth x is = first_of x (search_up m scope segments (length scope)) is

  pub near_node : (x : Option (ℕ × NodeId)) → shown x ≡ wanted (length scope) → option_map (λ (near : ℕ × NodeId). numbered near.1.number m) x ≡ option_map Some (search_up m scope segments (length scope))
  near_node x is = second_of x (search_up m scope segments (length scope)) is
