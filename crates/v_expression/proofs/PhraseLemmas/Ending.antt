-- A whole text: what is read of it, and which of its tokens is refused.
use Rattle.std.proofs.Common.{◌≡◌, ℕ, suc, ◌+◌, ◌-◌, ◌≤◌, ◌<◌, Bool, true, List, [], ◌∷◌, ◌++◌, length, take, drop, Result, Ok, Err, refl, sym, ap, ◌∙◌, arith, ◌⊎◌, inl, inr}
use Rattle.std.proofs.lemmas.List.{take-append-drop, length-drop, length-append}
use Rattle.v_syntax.specs.declared.token.Token.{Token}
use Rattle.v_syntax.specs.Phrases.{Phrase}
use Rattle.v_expression.specs.Phrase.Stops.{Stop, Syntax, TooDeep, Answer, ◌>>=◌}
use Rattle.v_expression.proofs.PhraseLemmas.Extends.{Extends}
use Rattle.v_expression.proofs.PhraseLemmas.Passes.{Passes}
use Rattle.v_expression.proofs.PhraseLemmas.Suffixes.{IsSuffix}
use Rattle.v_expression.specs.Phrase.Readers.{Reader, at_the_end, to_the_end}
use Rattle.v_expression.specs.Phrase.Kinds.{AtEnd, Kinds}
use Rattle.v_expression.proofs.PhraseLemmas.Laws.{left, Goes, Reached, Laws}

-- Some partial tree spells the text through token number i. Only a whole tree spells its end.
abbrev pub ReachesTo : {A : Type 0} → Phrase Token A → List Token → ℕ → Type 0
ReachesTo {A} P text i = ((i < length text) × P.front text (drop (i + 1) text)) ⊎ ((i ≡ length text) × (x : A) × P.whole x text [])

abbrev pub All : {A : Type 0} → Result A Stop → Result A Stop → Type 0
All a b = a ≡ b

stop_same : {A : Type 0} (s t : Stop) → All {A = A} (Err s) (Err t) → s ≡ t
stop_same s t e = cc

ok_stop : {A : Type 0} (x : A) (s : Stop) → All {A = A} (Ok x) (Err s) → ⊥
ok_stop x s e = cc

stop_ok : {A : Type 0} (x : A) (s : Stop) → All {A = A} (Err s) (Ok x) → ⊥
stop_ok x s e = cc

all_same : {A : Type 0} (x y : A) → All {A = A} (Ok x) (Ok y) → x ≡ y
all_same x y e = cc

behind_drop : (i : ℕ) (text : List Token) → IsSuffix (drop i text) text
behind_drop i text = (take i text, sym (take-append-drop i text))

suffix_long : (rest here : List Token) → IsSuffix rest here → length rest ≤ length here
suffix_long rest here (xs, e) = let l : length here ≡ length (xs ++ rest) = ap length e in omega (arith, length-append xs rest)

module _ {A : Type 0} (P : ℕ → Phrase Token A) (s t : Kinds) (e : Bool) (p : ℕ → Reader A) (first : ℕ) (laws : (n : ℕ) → first ≤ n → Laws n P s e t p) (ends : t AtEnd ≡ true) where
  module _ (n : ℕ) (h : first ≤ n) (text : List Token) where
    abbrev r : Result A Stop
    r = to_the_end (p n) text

    pub all_found : (x : A) → r ≡ Ok x → (P n).whole x text []
    all_found x f = go (p n text) refl f
      where
        go : (a : Answer A) → p n text ≡ a → (a >>= at_the_end) ≡ Ok x → (P n).whole x text []
        go (Ok (y, [])) g k = (laws n h).reads.sound text x [] (g ∙ ap (λ z. Ok (z, [])) (all_same y x k))
        go (Ok (y, u ∷ us)) g k = absurd (stop_ok x (Syntax (length (u ∷ us))) k)
        go (Err z) g k = absurd (stop_ok x z k)

    pub all_read : (x : A) → (P n).whole x text [] → r ≡ Ok x
    all_read x w = rw ((laws n h).reads.again x text [] w ends) refl

    pub all_near : (stop : Stop) → (P n).missing → r ≡ Err stop → Reached (P n) text (left stop)
    all_near stop m f = go (p n text) refl f
      where
        go : (a : Answer A) → p n text ≡ a → (a >>= at_the_end) ≡ Err stop → Reached (P n) text (left stop)
        go (Ok (y, [])) g k = absurd (ok_stop y stop k)
        go (Ok (y, u ∷ us)) g k = (u ∷ us, (laws n h).spells.full y text (u ∷ us) ((laws n h).reads.sound text y (u ∷ us) g), ap left (stop_same {A = A} (Syntax (length (u ∷ us))) stop k))
        go (Err z) g k = (laws n h).reads.near text stop m (g ∙ ap (λ z. Err z) (stop_same {A = A} z stop k))

    pub all_through : (k : ℕ) → (P n).missing → r ≡ Err (TooDeep k) → Goes n P text k
    all_through k m f = go (p n text) refl f
      where
        go : (a : Answer A) → p n text ≡ a → (a >>= at_the_end) ≡ Err (TooDeep k) → Goes n P text k
        go (Ok (y, [])) g i = absurd (ok_stop y (TooDeep k) i)
        go (Ok (y, u ∷ us)) g i = absurd (let q : Syntax (length (u ∷ us)) ≡ TooDeep k = stop_same {A = A} (Syntax (length (u ∷ us))) (TooDeep k) i in cc)
        go (Err z) g i = (laws n h).reads.through text k m (g ∙ ap (λ z. Err z) (stop_same {A = A} z (TooDeep k) i))

    pub all_far : (stop : Stop) (rest : List Token) → r ≡ Err stop → (P n).front text rest → left stop ≤ length rest
    all_far stop rest f q = go (p n text) f ((laws n h).reads.far text rest q)
      where
        go : (a : Answer A) → (a >>= at_the_end) ≡ Err stop → Passes (length rest) a → left stop ≤ length rest
        go (Ok (y, [])) k b = absurd (ok_stop y stop k)
        go (Ok (y, u ∷ us)) k b = let z : suc (length us) ≡ left stop = ap left (stop_same {A = A} (Syntax (length (u ∷ us))) stop k) in omega arith
        go (Err (Syntax j)) k b = let z : j ≡ left stop = ap left (stop_same {A = A} (Syntax j) stop k) in omega arith
        go (Err (TooDeep j)) k b = let z : j ≡ left stop = ap left (stop_same {A = A} (TooDeep j) stop k) in omega arith

    pub all_kept : (m k : ℕ) → n ≤ m → r ≡ Err (Syntax k) → to_the_end (p m) text ≡ Err (Syntax k)
    all_kept m k z f = go (p n text) f ((laws n h).reads.kept m text z)
      where
        go : (a : Answer A) → (a >>= at_the_end) ≡ Err (Syntax k) → Extends a (p m text) → (p m text >>= at_the_end) ≡ Err (Syntax k)
        go (Ok x) g b = rw b g
        go (Err (Syntax j)) g b = rw b g
        go (Err (TooDeep j)) g b = absurd (let q : TooDeep j ≡ Syntax k = stop_same {A = A} (TooDeep j) (Syntax k) g in cc)

    -- ---- the refused token

    left_within : (stop : Stop) → (P n).missing → r ≡ Err stop → left stop ≤ length text
    left_within stop m f = let d = all_near stop m f in omega (arith, suffix_long d.0 text ((laws n h).spells.between text d.0 d.1), d.2)

    -- every token before it is reached
    pub reaches_before : (stop : Stop) → (P n).missing → r ≡ Err stop → (i : ℕ) → i < length text - left stop → ReachesTo (P n) text i
    reaches_before stop m f i z =
        let d = all_near stop m f in
        let g : length (drop (i + 1) text) ≡ length text - (i + 1) = length-drop (i + 1) text in
        inl (omega arith, (laws n h).spells.shorter text d.0 (drop (i + 1) text) d.1 (behind_drop (i + 1) text) (omega (arith, d.2)))

    -- and it is not
    pub reaches_no_further : (stop : Stop) → (P n).missing → r ≡ Err stop → ReachesTo (P n) text (length text - left stop) → ⊥
    reaches_no_further stop m f (inl (z, q)) =
        let g : length (drop (length text - left stop + 1) text) ≡ length text - (length text - left stop + 1) = length-drop (length text - left stop + 1) text in
        omega (arith, all_far stop (drop (length text - left stop + 1) text) f q, left_within stop m f)
    reaches_no_further stop m f (inr (z, x, w)) = ok_stop x stop (sym (all_read x w) ∙ f)

    pub reaches_above : (k : ℕ) → (P n).missing → r ≡ Err (TooDeep k) → (m : ℕ) × ReachesTo (P m) text (length text - k)
    reaches_above k m f =
        let d = all_through k m f in
        let b = left_within (TooDeep k) m f in
        let g : length (drop (length text - k + 1) text) ≡ length text - (length text - k + 1) = length-drop (length text - k + 1) text in
        (d.0, inl (omega (arith, d.4), (laws d.0 (omega (arith, d.1))).spells.shorter text d.2 (drop (length text - k + 1) text) d.3 (behind_drop (length text - k + 1) text) (omega (arith, d.4))))

  -- what a tree of some height spells, one of any greater height does
  reaches_more : (n m : ℕ) (text : List Token) (i : ℕ) → first ≤ n → n ≤ m → ReachesTo (P n) text i → ReachesTo (P m) text i
  reaches_more n m text i h z (inl (a, q)) = inl (a, (laws n h).spells.higher m text (drop (i + 1) text) z q)
  reaches_more n m text i h z (inr (a, x, w)) = inr (a, x, (laws n h).spells.taller m x text [] z w)

  pub never_reached : (n k : ℕ) (h : first ≤ n) (text : List Token) → (P n).missing → to_the_end (p n) text ≡ Err (Syntax k) → (m : ℕ) → first ≤ m → ReachesTo (P m) text (length text - k) → ⊥
  never_reached n k h text miss f m z q =
      reaches_no_further (n + m) (omega arith) text (Syntax k) ((laws n h).spells.more (n + m) (omega arith) miss) (all_kept n h text (n + m) k (omega arith) f)
      (reaches_more m (n + m) text (length text - k) z (omega arith) q)

  pub one_tree : (n m : ℕ) → first ≤ n → first ≤ m → (x y : A) (text : List Token) → (P n).whole x text [] → (P m).whole y text [] → x ≡ y
  one_tree n m h k x y text a b =
      let c = all_read (n + m) (omega arith) text x ((laws n h).spells.taller (n + m) x text [] (omega arith) a) in
      let d = all_read (n + m) (omega arith) text y ((laws m k).spells.taller (n + m) y text [] (omega arith) b) in
      all_same x y (sym c ∙ d)
