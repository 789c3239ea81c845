-- Many targets by their lower and their higher ones.
use Rattle.std.proofs.Common.{◌≡◌, ℕ, zero, suc, ◌+◌, ◌-◌, ◌*◌, ◌^◌, ◌≤◌, max, List, [], ◌∷◌, ◌++◌, length, take, drop, refl, sym, ap, ◌∙◌, subst, append_assoc, arith, Box, Global}
use Rattle.std.proofs.Math.Nat.{pow-suc}
use Rattle.std.proofs.lemmas.List.{append-nil, drop-drop, drop-take, length-append, length-drop, length-take-le, take-append-drop, take-take}
use Rattle.four_value.specs.declared.Digit.{Digit}
use Rattle.four_value.specs.Vector.{slice}
use Rattle.four_value.proofs.Lengths.{length_slice}
use Rattle.gpi.specs.declared.types.Update.{Update}
use Rattle.gpi.specs.declared.targets.Target.{Target, Join}
use Rattle.gpi.specs.Targets.{target_width, updates_of, MakesJoin}
use Rattle.v_process.specs.Target.Targets.{depth}
use Rattle.v_process.specs.Assign.Braces.{widths, updates_in, AreSoundTargets, deepest, MakesAll}

-- ---- the updates

pub slice_slice : (ds : List Digit) (k n j i l : ℕ) → k + j ≡ l → j + i ≤ n → slice (slice ds k n) j i ≡ slice ds l i
slice_slice ds k n j i l e h =
    ap (λ (w : ℕ). take i (drop j (take w (drop k ds)))) (let q : n ≡ j + (n - j) = omega (arith, h) in q)
    ∙ ap (λ (xs : List Digit). take i xs) (drop-take j (n - j) (drop k ds))
    ∙ take-take i (n - j) (drop j (drop k ds)) (omega (arith, h))
    ∙ ap (λ (xs : List Digit). take i xs) (drop-drop j k ds)
    ∙ ap (λ (w : ℕ). slice ds w i) e

pub widths_append : (xs ys : List Target) → widths (xs ++ ys) ≡ widths xs + widths ys
widths_append [] ys = omega arith
widths_append (t ∷ xs) ys = let e : widths (xs ++ ys) ≡ widths xs + widths ys = widths_append xs ys in omega (arith, e)

-- the digits beyond the widths don't count
updates_cut : (ys : List Target) (m : ℕ → List Digit) (ds : List Digit) → updates_in ys m (slice ds 0 (widths ys)) ≡ updates_in ys m ds
updates_cut [] m ds = refl
updates_cut (t ∷ ts) m ds =
    ap (λ (es : List Digit). updates_in ts m es ++ updates_of t m (slice (slice ds 0 (target_width t + widths ts)) 0 (target_width t)))
    (slice_slice ds 0 (target_width t + widths ts) (target_width t) (widths ts) (target_width t) (omega arith) (omega arith))
    ∙ ap (λ (es : List Digit). updates_in ts m (slice ds (target_width t) (widths ts)) ++ updates_of t m es)
    (slice_slice ds 0 (target_width t + widths ts) 0 (target_width t) 0 (omega arith) (omega arith))

pub updates_append : (xs ys : List Target) (m : ℕ → List Digit) (ds : List Digit)
    → updates_in (xs ++ ys) m ds ≡ updates_in ys m (slice ds (widths xs) (widths ys)) ++ updates_in xs m (slice ds 0 (widths xs))
updates_append [] ys m ds = sym (append-nil (updates_in ys m (slice ds 0 (widths ys))) ∙ updates_cut ys m ds)
updates_append (t ∷ xs) ys m ds =
    let w = target_width t in
    let e : widths (xs ++ ys) ≡ widths xs + widths ys = widths_append xs ys in
    let es = slice ds w (widths (xs ++ ys)) in
    ap (λ (us : List Update). us ++ updates_of t m (slice ds 0 w)) (updates_append xs ys m es)
    ∙ ap (λ (fs : List Digit). (updates_in ys m fs ++ updates_in xs m (slice es 0 (widths xs))) ++ updates_of t m (slice ds 0 w))
    (slice_slice ds w (widths (xs ++ ys)) (widths xs) (widths ys) (w + widths xs) refl (omega (arith, e)))
    ∙ ap (λ (fs : List Digit). (updates_in ys m (slice ds (w + widths xs) (widths ys)) ++ updates_in xs m fs) ++ updates_of t m (slice ds 0 w))
    (slice_slice ds w (widths (xs ++ ys)) 0 (widths xs) w (omega arith) (omega (arith, e)))
    ∙ append_assoc (updates_in ys m (slice ds (w + widths xs) (widths ys))) (updates_in xs m (slice ds w (widths xs))) (updates_of t m (slice ds 0 w))
    ∙ ap (λ (fs : List Digit). updates_in ys m (slice ds (w + widths xs) (widths ys)) ++ (updates_in xs m fs ++ updates_of t m (slice ds 0 w)))
    (sym (slice_slice ds 0 (w + widths xs) w (widths xs) w (omega arith) (omega arith)))
    ∙ ap (λ (fs : List Digit). updates_in ys m (slice ds (w + widths xs) (widths ys)) ++ (updates_in xs m (slice (slice ds 0 (w + widths xs)) w (widths xs)) ++ updates_of t m fs))
    (sym (slice_slice ds 0 (w + widths xs) 0 w 0 (omega arith) (omega arith)))

-- ---- soundness and depth

sound_lower : (xs ys : List Target) (ws : List ℕ) → AreSoundTargets (xs ++ ys) ws → AreSoundTargets xs ws
sound_lower [] ys ws h = tt
sound_lower (t ∷ xs) ys ws h = (h.0, sound_lower xs ys ws h.1)

sound_upper : (xs ys : List Target) (ws : List ℕ) → AreSoundTargets (xs ++ ys) ws → AreSoundTargets ys ws
sound_upper [] ys ws h = h
sound_upper (t ∷ xs) ys ws h = sound_upper xs ys ws h.1

pub deepest_append : (xs ys : List Target) → deepest (xs ++ ys) ≡ max (deepest xs) (deepest ys)
deepest_append [] ys = omega arith
deepest_append (t ∷ xs) ys = let e : deepest (xs ++ ys) ≡ max (deepest xs) (deepest ys) = deepest_append xs ys in omega (arith, e)

-- xs are the half of all, or one less
abbrev AreHalves : List Target → List Target → Type 0
AreHalves xs ys = (1 ≤ length xs) × (length xs ≤ length ys) × (length ys ≤ length xs + 1)

halves_balanced : (xs ys : List Target) (a b t : Target) (k : ℕ) → AreHalves xs ys → MakesAll xs b → MakesAll ys a → depth t ≡ 1 + max (depth a) (depth b)
    → length (xs ++ ys) ≤ 2 ^ k → depth t ≤ deepest (xs ++ ys) + k
halves_balanced xs ys a b t zero half low high e few =
    let n = length-append xs ys in let i = half.0 in let j = half.1 in absurd (omega (arith, n, i, j, few))
halves_balanced xs ys a b t (suc k) half low high e few =
    let n = length-append xs ys in let i = half.0 in let j = half.1 in let l = half.2 in
    let p : 2 ^ suc k ≡ 2 ^ k * 2 = pow-suc 2 k in
    let x : depth b ≤ deepest xs + k = low.balanced k (omega (arith, n, j, few, p)) in
    let y : depth a ≤ deepest ys + k = high.balanced k (omega (arith, n, l, few, p)) in
    let d = deepest_append xs ys in omega (arith, x, y, d, e)

-- ---- both halves

joined : (xs ys : List Target) (a b t : Target) → AreHalves xs ys → MakesAll xs b → MakesAll ys a → MakesJoin a b t → depth t ≡ 1 + max (depth a) (depth b)
    → MakesAll (xs ++ ys) t
joined xs ys a b t half low high made deep =
    let e : widths (xs ++ ys) ≡ widths xs + widths ys = widths_append xs ys in
    let p : target_width b ≡ widths xs = low.width_is in
    let q : target_width a ≡ widths ys = high.width_is in record {
      width_is = let w = made.width_is in omega (arith, e, p, q, w);
      gets = λ m ds l. made.updates_are m ds
          ∙ ap (λ (us : List Update). us ++ updates_of b m (slice ds 0 (target_width b)))
          (high.gets m (slice ds (target_width b) (target_width a)) (length_slice ds (target_width b) (target_width a) (omega (arith, e, p, q, l)) ∙ q))
          ∙ ap (λ (us : List Update). updates_in ys m (slice ds (target_width b) (target_width a)) ++ us)
          (low.gets m (slice ds 0 (target_width b)) (length_slice ds 0 (target_width b) (omega (arith, e, p, q, l)) ∙ p))
          ∙ ap (λ (w : ℕ). updates_in ys m (slice ds w (target_width a)) ++ updates_in xs m (slice ds 0 w)) p
          ∙ ap (λ (w : ℕ). updates_in ys m (slice ds (widths xs) w) ++ updates_in xs m (slice ds 0 (widths xs))) q
          ∙ sym (updates_append xs ys m ds);
      sound = λ ws h fits. made.sound ws (
        high.sound ws (sound_upper xs ys ws h) (omega (arith, e, fits)),
        low.sound ws (sound_lower xs ys ws h) (omega (arith, e, fits)),
        omega (arith, e, p, q, fits),
      );
      balanced = λ k few. halves_balanced xs ys a b t k half low high deep few;
    }

-- the parts below a place, and those from it on
joined_at : (ts : List Target) (k : ℕ) (a b t : Target) → 1 ≤ k → 2 * k ≤ length ts → length ts ≤ 2 * k + 1 → MakesAll (take k ts) b → MakesAll (drop k ts) a
    → MakesJoin a b t → depth t ≡ 1 + max (depth a) (depth b) → MakesAll ts t
joined_at ts k a b t some low_half high_half low high made deep =
    let n = length-take-le k ts (omega (arith, low_half)) in
    let d = length-drop k ts in
    subst (λ (xs : List Target). MakesAll xs t) (take-append-drop k ts)
    (joined (take k ts) (drop k ts) a b t
    (omega (arith, n, some), omega (arith, n, d, low_half), omega (arith, n, d, high_half)) low high made deep)

-- two targets on the heap
pub joined_boxes : (ts : List Target) (k : ℕ) (a b : Target) (p q : Box Target Global) → 1 ≤ k → 2 * k ≤ length ts → length ts ≤ 2 * k + 1 → MakesAll (take k ts) b
    → MakesAll (drop k ts) a → p.value ≡ a → q.value ≡ b → MakesAll ts (Join p q)
joined_boxes ts k a b p q some low_half high_half low high e f =
    joined_at ts k p.value q.value (Join p q) some low_half high_half
    (subst (λ (t : Target). MakesAll (take k ts) t) (sym f) low) (subst (λ (t : Target). MakesAll (drop k ts) t) (sym e) high)
    (record { updates_are = λ m ds. refl; width_is = refl; sound = λ ws h. h }) refl
