-- What is declared of a design are the signals that are no words of memories, by rising number.
use Rattle.std.proofs.Common.{◌≡◌, ◌≤◌, ◌<◌, ◌+◌, ◌-◌, ◌∙◌, ℕ, zero, suc, Bool, true, false, not, cond, List, [], ◌∷◌, length, map, slice_get, Option, None, Some, refl, sym, ap, subst, arith}
use Rattle.std.specs.Prelude.{◌||◌, is_some, nat_le, nat_lt}
use Rattle.std.specs.List.{filter, list_any, range_with_len}
use Rattle.std.proofs.lemmas.Bool.{and_parts}
use Rattle.std.proofs.lemmas.Bool.Decides.{nat_tests}
use Rattle.std.proofs.lemmas.List.{length-map}
use Rattle.gpi.specs.declared.design.Flat.{Flat}
use Rattle.gpi.specs.declared.design.Node.{Node}
use Rattle.gpi.specs.declared.design.Signal.{Signal}
use Rattle.gpi.specs.declared.design.Spot.{Spot}
use Rattle.gpi.specs.declared.design.Spot.TheVariants.{Inner, Sig, Words}
use Rattle.v_flat.specs.Paths.{NodeAt, Path, SignalAt, below, node_of, signal_of}
use Rattle.v_flat.specs.Design.{Design}
use Rattle.vcd_text.specs.Hierarchy.{declarations, declared_signals, instance_of, is_word, is_word_of, top_path, traced_signals}
use Rattle.v_laws.specs.Instances.{IsAt, IsSignalAt}
use Rattle.v_laws.proofs.Covered.{Covered, IsCovered, is_of, word_in, word_in_is}
use Rattle.v_laws.proofs.Ordered.{IsOrdered, any_name, by_word, plain}

-- ---- lists

record Found {A : Type 0} (f : A → Bool) (xs : List A) : Type 0 where
  at : ℕ
  item : A
  there : slice_get xs at ≡ Some item
  passes : f item ≡ true

found_later : {A : Type 0} (f : A → Bool) (x : A) (xs : List A) → Found f xs → Found f (x ∷ xs)
found_later f x xs h = record { at = suc h.at; item = h.item; there = h.there; passes = h.passes }

found : {A : Type 0} (f : A → Bool) (xs : List A) → list_any f xs ≡ true → Found f xs
found f [] h = absurd (cc)
found {A} f (x ∷ xs) h = by (f x) refl h (λ k. found f xs k)
  where
    by : (b : Bool) → f x ≡ b → (b || list_any f xs) ≡ true → (list_any f xs ≡ true → Found f xs) → Found f (x ∷ xs)
    by true e k later = record { at = 0; item = x; there = refl; passes = e }
    by false e k later = found_later f x xs (later k)

covered_at : (covers : ℕ → Bool) (n : ℕ) (ss : List SignalAt) (i : ℕ) (s : SignalAt) → Covered covers n ss → slice_get ss i ≡ Some s → is_some s.word ≡ true → covers (n + i) ≡ true
covered_at covers n [] i s h e w = absurd (cc)
covered_at covers n (x ∷ ss) zero s h e w =
    let same : x ≡ s = cc in let f : n ≡ n + 0 = omega arith in
    subst (λ (m : ℕ). covers m ≡ true) f (h.0 (ap (λ (y : SignalAt). is_some y.word) same ∙ w))
covered_at covers n (x ∷ ss) (suc i) s h e w =
    let f : (n + 1) + i ≡ n + suc i = omega arith in subst (λ (m : ℕ). covers m ≡ true) f (covered_at covers (n + 1) ss i s h.1 e w)

-- what passes no test of words are the signals without one
kept_by : (w : Option ℕ) (n : ℕ) (rest : List ℕ) → cond (not (is_some w)) (n ∷ rest) rest ≡ by_word w n rest
kept_by None n rest = refl
kept_by (Some i) n rest = refl

filter_plain : (test : ℕ → Bool) (n : ℕ) (ss : List SignalAt) → ((i : ℕ) (s : SignalAt) → slice_get ss i ≡ Some s → test (n + i) ≡ is_some s.word)
    → filter (λ m. not (test m)) (range_with_len n (length ss)) ≡ plain n ss
filter_plain test n [] h = refl
filter_plain test n (s ∷ ss) h =
    let e : n + 0 ≡ n = omega arith in
    let first : test n ≡ is_some s.word = ap test (sym e) ∙ h 0 s refl in
    let rest : filter (λ m. not (test m)) (range_with_len (n + 1) (length ss)) ≡ plain (n + 1) ss
    = filter_plain test (n + 1) ss (λ i x f. let k : (n + 1) + i ≡ n + suc i = omega arith in ap test k ∙ h (suc i) x f) in
    ap (λ (b : Bool). cond (not b) (n ∷ filter (λ m. not (test m)) (range_with_len (n + 1) (length ss))) (filter (λ m. not (test m)) (range_with_len (n + 1) (length ss)))) first
    ∙ ap (λ (l : List ℕ). cond (not (is_some s.word)) (n ∷ l) l) rest ∙ kept_by s.word n (plain (n + 1) ss)

-- ---- a design

module _ (d : Design)
    (places : (v j : ℕ) (x : NodeAt) (c : List ℕ × Spot) → slice_get d.nodes v ≡ Some x → slice_get x.children j ≡ Some c → IsAt d (below x.path c.0) c.1) where
  one_signal : (n : ℕ) (a b : SignalAt) → slice_get d.signals n ≡ Some a → slice_get d.signals n ≡ Some b → a ≡ b
  one_signal n a b e f = cc

  -- a signal that a name says to be a word is one
  named_word : (n : ℕ) (s : SignalAt) (path : Path) (name : List ℕ) (spot : Spot) → slice_get d.signals n ≡ Some s → is_word_of n (name, spot) ≡ true → IsAt d path spot → is_some s.word ≡ true
  named_word n s path name (Inner k) f e h = absurd (cc)
  named_word n s path name (Sig other) f e h = absurd (cc)
  named_word n s path name (Words first low count) f e h =
      let parts = and_parts (nat_le first.0 n) (nat_lt n (first.0 + count)) e in
      let a = parts.0 in
      let b = parts.1 in
      let least : first.0 ≤ n = grind (arith, nat_tests) in
      let most : n < first.0 + count = grind (arith, nat_tests) in
      let at : first.0 + (n - first.0) ≡ n = omega (arith, least) in
      let word : IsSignalAt d (first.0 + (n - first.0)) path (Some (low + (n - first.0))) = h (n - first.0) (omega (arith, least, most)) in
      let same : word.signal ≡ s = one_signal n word.signal s (ap (slice_get d.signals) (sym at) ∙ word.there) f in
      ap (λ (x : SignalAt). is_some x.word) (sym same) ∙ ap (λ (w : Option ℕ). is_some w) word.word_is

  is_named : (n : ℕ) (s : SignalAt) → slice_get d.signals n ≡ Some s → word_in d.nodes n ≡ true → is_some s.word ≡ true
  is_named n s f e =
      let v = found (λ node. is_of node.children n) d.nodes e in
      let c = found (is_word_of n) v.item.children v.passes in
      named_word n s (below v.item.path c.item.0) c.item.0 c.item.1 f c.passes (places v.at c.at v.item c.item v.there c.there)

  word_is : IsCovered d → (n : ℕ) (s : SignalAt) → slice_get d.signals n ≡ Some s → is_word (map node_of d.nodes) n ≡ is_some s.word
  word_is covered n s f = by (is_word (map node_of d.nodes) n) (is_some s.word) refl refl
    where
      by : (a b : Bool) → is_word (map node_of d.nodes) n ≡ a → is_some s.word ≡ b → a ≡ b
      by true b e w = sym (is_named n s f (sym (word_in_is d.nodes n) ∙ e)) ∙ w
      by false false e w = refl
      by false true e w = let z : n ≡ 0 + n = omega arith in sym e ∙ ap (is_word (map node_of d.nodes)) z ∙ covered_at (is_word (map node_of d.nodes)) 0 d.signals n s covered f w

  traced_plain : IsCovered d → filter (λ m. not (is_word (map node_of d.nodes) m)) (range_with_len 0 (length d.signals)) ≡ plain 0 d.signals
  traced_plain covered = filter_plain (is_word (map node_of d.nodes)) 0 d.signals (λ i s f. let z : 0 + i ≡ i = omega arith in ap (is_word (map node_of d.nodes)) z ∙ word_is covered i s f)

  pub numbered : (flat : Flat) → flat.signals ≡ map signal_of d.signals → flat.nodes ≡ map node_of d.nodes → IsOrdered d → IsCovered d
      → declared_signals (declarations flat.nodes) ≡ traced_signals flat
  numbered flat signals nodes ordered covered =
      any_name flat.nodes 65 (top_path flat.nodes) 0
      ∙ (ap (λ (l : List Node). declared_signals (instance_of l 65 [] 0)) nodes
      ∙ (ordered
      ∙ (sym (traced_plain covered)
      ∙ (ap (λ (n : ℕ). filter (λ m. not (is_word (map node_of d.nodes) m)) (range_with_len 0 n)) (sym (ap (λ (l : List Signal). length l) signals ∙ length-map d.signals signal_of))
      ∙ ap (λ (l : List Node). filter (λ m. not (is_word l m)) (range_with_len 0 (length flat.signals))) (sym nodes)))))
