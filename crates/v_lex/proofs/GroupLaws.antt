-- A row breaks no rule just where its parts are unbroken and its conditionals are whole.
use Rattle.std.proofs.Common.{◌≡◌, ℕ, ◌+◌, Bool, true, false, not, ◌&&◌, List, [], ◌∷◌, ◌++◌, length, ap, inl, inr, ◌∙◌, sym, refl}
use Rattle.std.proofs.Common.{subst, append_assoc, if◌then◌else◌}
use Rattle.std.specs.List.{list_all}
use Rattle.std.proofs.lemmas.Bool.{false≢true}
use Rattle.v_lex.specs.declared.directive.Directive.{Directive}
use Rattle.v_lex.specs.declared.directive.Directive.TheVariants as directive
use Rattle.v_lex.specs.declared.directive.LexRule.TheVariants as rule
use Rattle.v_lex.specs.declared.directive.Conditional.{Conditional}
use Rattle.v_lex.specs.declared.directive.Content.{Content}
use Rattle.v_lex.specs.declared.directive.Content.TheVariants as content
use Rattle.v_lex.specs.Lexing.{State, Scan, innermost, outer, next_part, with_next_part, may_go_on, is_open, is_allowed, with_fault}
use Rattle.v_lex.specs.Lexing.{with_content, after_content, left_open, start}
use Rattle.v_lex.specs.Row.{Part, told_of, told}
use Rattle.v_lex.specs.Conditionals.{state_after, place_behind, Role, Opening, ElsIf, Else, Closing, Plain, role_of, is_unbroken, holds}
use Rattle.v_lex.specs.Conditionals.{IsGroup, NoPart, OnePart, OneConditional, IsRest, OneElsIf, OneElse, EndIf}
use Rattle.v_lex.specs.Conditionals.{IsFurther, IsClosed, Ends, Passes, Nests, Branches}
use Rattle.v_lex.proofs.ConditionalLaws.{innermost_is, outer_is, role_is, next_of, opened_one, closed}

-- ---- the rules of one part

-- A part with this role may stand where these conditionals are open.
abbrev may_stand : Role → List Conditional → Bool
may_stand ElsIf cs = may_go_on (innermost cs)
may_stand Else cs = may_go_on (innermost cs)
may_stand Closing cs = is_open (innermost cs)
may_stand _ cs = true

allowed_is : (s : State) (d : Directive)
    → is_allowed s d ≡ is_unbroken (content.Directive d) && may_stand (role_of (content.Directive d)) s.conditionals
unfolding is_allowed
allowed_is s directive.Else = refl
allowed_is s _ = refl

both_true : (a b : Bool) → a && b ≡ true → (a ≡ true) × (b ≡ true)
both_true true true e = (refl, refl)
both_true true false e = absurd (false≢true e)
both_true false b e = absurd (false≢true e)

-- ---- a row that breaks no rule

-- no rule is broken at a place, nor behind it
clean : (b : Bool) (place : ℕ) (scan : Scan) → (if b then scan else with_fault place rule.Directive scan).faults ≡ []
    → (scan.faults ≡ []) × (b ≡ true)
clean true place scan e = (e, refl)
clean false place scan e = absurd (let h : false ≡ true = cc in false≢true h)

part_clean : (s : State) (place : ℕ) (c : Content) (scan : Scan) → (with_content s place c scan).faults ≡ []
    → (scan.faults ≡ []) × (is_unbroken c ≡ true) × (may_stand (role_of c) s.conditionals ≡ true)
unfolding with_content
part_clean s place content.Gap scan e = (e, refl, refl)
part_clean s place (content.Token t) scan e = (e, refl, refl)
part_clean s place (content.Directive d) scan e =
    let k = clean (is_allowed s d) place scan e in
    let b = both_true (is_unbroken (content.Directive d)) _ (sym (allowed_is s d) ∙ k.1) in
    (k.0, b.0, b.1)
part_clean s place (content.Broken r) scan e = absurd (let h : false ≡ true = cc in false≢true h)

unbroken : (s : State) (place : ℕ) (ps : List Part) → (told_of s place ps).faults ≡ [] → list_all (λ p. is_unbroken p.content) ps ≡ true
unfolding told_of
unbroken s place [] e = refl
unbroken s place (p ∷ ps) e =
    let behind = after_content s place p.content in
    let k = part_clean s place p.content (told_of behind (place + length p.bytes) ps) e in
    rw (k.1, unbroken behind (place + length p.bytes) ps k.0) refl

-- whether each open conditional has its `else`, the innermost first
abbrev Open : List Bool → List Conditional → Type 0
Open [] cs = cs ≡ []
Open (e ∷ es) cs = (ds : List Conditional) × (c : Conditional) × (cs ≡ ds ++ c ∷ []) × (c.has_else ≡ e) × Open es ds

-- the parts close these conditionals, and hold whole ones besides
abbrev Close : List Bool → List Part → Type 0
Close [] ps = IsGroup ps
Close (e ∷ es) ps = (group rest behind : List Part) × (ps ≡ group ++ (rest ++ behind)) × IsGroup group × IsRest e rest × Close es behind

close_plain : (es : List Bool) (p : Part) (ps : List Part) → role_of p.content ≡ Plain → Close es ps → Close es (p ∷ ps)
close_plain [] p ps h k = OnePart p ps h k
close_plain (e ∷ es) p ps h k = (p ∷ k.0, k.1, k.2, ap (λ (xs : List Part). p ∷ xs) k.3, OnePart p k.0 h k.4, k.5, k.6)

close_opening : (es : List Bool) (p : Part) (ps : List Part) → role_of p.content ≡ Opening → Close (false ∷ es) ps → Close es (p ∷ ps)
close_opening [] p ps h k =
    subst (λ (xs : List Part). IsGroup xs) (ap (λ (xs : List Part). p ∷ xs) (sym k.3)) (OneConditional p k.0 k.1 k.2 h k.4 k.5 k.6)
close_opening (e ∷ es) p ps h k =
    let (group, rest, behind, is, g, r, l) = k.6 in
    let seam : (k.0 ++ (k.1 ++ group)) ++ (rest ++ behind) ≡ ps =
    append_assoc k.0 (k.1 ++ group) (rest ++ behind) ∙ ap (λ (xs : List Part). k.0 ++ xs) (append_assoc k.1 group (rest ++ behind))
    ∙ ap (λ (xs : List Part). k.0 ++ (k.1 ++ xs)) (sym is) ∙ sym k.3 in (
      p ∷ k.0 ++ (k.1 ++ group),
      rest,
      behind,
      ap (λ (xs : List Part). p ∷ xs) (sym seam),
      OneConditional p k.0 k.1 group h k.4 k.5 g,
      r,
      l,
    )

close_elsif : (es : List Bool) (p : Part) (ps : List Part) → role_of p.content ≡ ElsIf → Close (false ∷ es) ps
    → Close (false ∷ es) (p ∷ ps)
close_elsif es p ps h k =
    let seam = sym (append_assoc k.0 k.1 k.2 ∙ sym k.3) in
    ([], p ∷ k.0 ++ k.1, k.2, ap (λ (xs : List Part). p ∷ xs) seam, NoPart, OneElsIf p k.0 k.1 h k.4 k.5, k.6)

close_else : (es : List Bool) (p : Part) (ps : List Part) → role_of p.content ≡ Else → Close (true ∷ es) ps → Close (false ∷ es) (p ∷ ps)
close_else es p ps h k =
    let seam = sym (append_assoc k.0 k.1 k.2 ∙ sym k.3) in
    ([], p ∷ k.0 ++ k.1, k.2, ap (λ (xs : List Part). p ∷ xs) seam, NoPart, OneElse p k.0 k.1 h k.4 k.5, k.6)

close_closing : (e : Bool) (es : List Bool) (p : Part) (ps : List Part) → role_of p.content ≡ Closing → Close es ps
    → Close (e ∷ es) (p ∷ ps)
close_closing e es p ps h k = ([], p ∷ [], ps, refl, NoPart, EndIf e p h, k)

none_open : (cs : List Conditional) → cs ≡ [] → may_go_on (innermost cs) ≡ true → ⊥
none_open cs e h = false≢true (sym (ap (λ (xs : List Conditional). may_go_on (innermost xs)) e) ∙ h)

none_to_close : (cs : List Conditional) → cs ≡ [] → is_open (innermost cs) ≡ true → ⊥
none_to_close cs e h = false≢true (sym (ap (λ (xs : List Conditional). is_open (innermost xs)) e) ∙ h)

-- a further branch may stand where the `else` doesn't
no_else : (cs ds : List Conditional) (c : Conditional) → cs ≡ ds ++ c ∷ [] → may_go_on (innermost cs) ≡ not c.has_else
no_else cs ds c e = ap (λ (xs : List Conditional). may_go_on (innermost xs)) e ∙ rw (innermost_is ds c) refl

behind_else : (cs : List Conditional) (es : List Bool) → Open (true ∷ es) cs → may_go_on (innermost cs) ≡ true → ⊥
behind_else cs es o h = false≢true (sym (no_else cs o.0 o.1 o.2 ∙ ap (λ (b : Bool). not b) o.3) ∙ h)

-- an `elsif` or `else` is the next branch of the innermost conditional
open_next : (cs now : List Conditional) (t e : Bool) (es : List Bool) → Open (false ∷ es) cs
    → now ≡ with_next_part cs t e (innermost cs) → Open (e ∷ es) now
open_next cs now t e es o h =
    let there = ap (λ (xs : List Conditional). with_next_part xs t e (innermost xs)) o.2 in
    (o.0, next_part o.1 t e, next_of o.1 o.0 now t e (h ∙ there) o.3, refl, o.4)

one_more : (s : State) (place : ℕ) (p : Part) (ps : List Part) (es : List Bool) (r : Role) → role_of p.content ≡ r
    → may_stand r s.conditionals ≡ true → Open es s.conditionals
    → ((fs : List Bool) → Open fs (after_content s place p.content).conditionals → Close fs ps) → Close es (p ∷ ps)
one_more s place p ps es Opening h m o k =
    close_opening es p ps h
    (k (false ∷ es) (s.conditionals, opened_one s.conditionals place (holds s p.content), role_is s place p.content Opening h, refl, o))
one_more s place p ps [] ElsIf h m o k = absurd (none_open s.conditionals o m)
one_more s place p ps (true ∷ es) ElsIf h m o k = absurd (behind_else s.conditionals es o m)
one_more s place p ps (false ∷ es) ElsIf h m o k =
    let next = open_next s.conditionals _ (holds s p.content) false es o (role_is s place p.content ElsIf h) in
    close_elsif es p ps h (k (false ∷ es) next)
one_more s place p ps [] Else h m o k = absurd (none_open s.conditionals o m)
one_more s place p ps (true ∷ es) Else h m o k = absurd (behind_else s.conditionals es o m)
one_more s place p ps (false ∷ es) Else h m o k =
    let next = open_next s.conditionals _ (holds s p.content) true es o (role_is s place p.content Else h) in
    close_else es p ps h (k (true ∷ es) next)
one_more s place p ps [] Closing h m o k = absurd (none_to_close s.conditionals o m)
one_more s place p ps (e ∷ es) Closing h m o k =
    let is = role_is s place p.content Closing h ∙ ap (λ (xs : List Conditional). outer xs) o.2 ∙ outer_is o.0 o.1 in
    close_closing e es p ps h (k es (subst (λ (xs : List Conditional). Open es xs) (sym is) o.4))
one_more s place p ps es Plain h m o k =
    close_plain es p ps h (k es (subst (λ (xs : List Conditional). Open es xs) (sym (role_is s place p.content Plain h)) o))

left_some : (cs ds : List Conditional) (c : Conditional) → cs ≡ ds ++ c ∷ [] → left_open cs ≡ [] → ⊥
unfolding left_open
left_some cs ds c e h = go ds (sym (ap (λ (xs : List Conditional). left_open xs) e) ∙ h)
  where
    go : (xs : List Conditional) → left_open (xs ++ c ∷ []) ≡ [] → ⊥
    go [] k = cc
    go (x ∷ xs) k = cc

groups : (s : State) (place : ℕ) (ps : List Part) (es : List Bool) → Open es s.conditionals → (told_of s place ps).faults ≡ []
    → Close es ps
unfolding told_of
groups s place [] [] o e = NoPart
groups s place [] (b ∷ es) o e = absurd (left_some s.conditionals o.0 o.1 o.2 e)
groups s place (p ∷ ps) es o e =
    let behind = after_content s place p.content in
    let k = part_clean s place p.content (told_of behind (place + length p.bytes) ps) e in
    one_more s place p ps es (role_of p.content) refl k.2 o (λ fs q. groups behind (place + length p.bytes) ps fs q k.0)

pub is_balanced : (row : List Part) → (told row).faults ≡ [] → (list_all (λ p. is_unbroken p.content) row ≡ true) × IsGroup row
unfolding start
is_balanced row e = (unbroken start 0 row e, groups start 0 row [] refl e)

-- ---- whole conditionals are closed

closed_both : (inner : Bool) (ps qs : List Part) → IsClosed inner ps → IsClosed inner qs → IsClosed inner (ps ++ qs)
closed_both inner ps qs (Ends i) k = k
closed_both inner ps qs (Passes i p ps' h a) k = Passes inner p (ps' ++ qs) h (closed_both inner ps' qs a k)
closed_both inner ps qs (Nests i first last inside ps' o c h a) k =
    subst (λ (xs : List Part). IsClosed inner (first ∷ xs)) (sym (append_assoc inside (last ∷ ps') qs))
    (Nests inner first last inside (ps' ++ qs) o c h (closed_both inner ps' qs a k))
closed_both inner ps qs (Branches p ps' h a) k = Branches p (ps' ++ qs) h (closed_both true ps' qs a k)

-- what stands in a conditional behind one of its branches, and its `endif`
record Rest (rest : List Part) : Type 0 where
  inside : List Part
  last : Part
  is : rest ≡ inside ++ last ∷ []
  closes : role_of last.content ≡ Closing
  closed : IsClosed true inside

one_branch : (p : Part) (group rest : List Part) → IsFurther (role_of p.content) → IsClosed true group → Rest rest
    → Rest (p ∷ group ++ rest)
one_branch p group rest h g r = record {
  inside = p ∷ group ++ r.inside;
  last = r.last;
  is = ap (λ (xs : List Part). p ∷ group ++ xs) r.is ∙ ap (λ (xs : List Part). p ∷ xs) (sym (append_assoc group r.inside (r.last ∷ [])));
  closes = r.closes;
  closed = Branches p (group ++ r.inside) h (closed_both true group r.inside g r.closed);
}

one_whole : (inner : Bool) (p : Part) (group rest ps : List Part) → role_of p.content ≡ Opening → IsClosed true group → Rest rest
    → IsClosed inner ps → IsClosed inner (p ∷ group ++ (rest ++ ps))
one_whole inner p group rest ps h g r k =
    let behind = ap (λ (xs : List Part). xs ++ ps) r.is ∙ append_assoc r.inside (r.last ∷ []) ps in
    let seam = append_assoc group r.inside (r.last ∷ ps) ∙ ap (λ (xs : List Part). group ++ xs) (sym behind) in
    subst (λ (xs : List Part). IsClosed inner (p ∷ xs)) seam
    (Nests inner p r.last (group ++ r.inside) ps h r.closes (closed_both true group r.inside g r.closed) k)

mutual
  group_closed : (inner : Bool) (ps : List Part) → IsGroup ps → IsClosed inner ps
  group_closed inner ps NoPart = Ends inner
  group_closed inner ps (OnePart p qs h g) = Passes inner p qs h (group_closed inner qs g)
  group_closed inner ps (OneConditional p group rest qs h g r k) =
      one_whole inner p group rest qs h (group_closed true group g) (rest_closed false rest r) (group_closed inner qs k)

  rest_closed : (e : Bool) (ps : List Part) → IsRest e ps → Rest ps
  rest_closed e ps (OneElsIf p group rest h g r) = one_branch p group rest (inl h) (group_closed true group g) (rest_closed false rest r)
  rest_closed e ps (OneElse p group rest h g r) = one_branch p group rest (inr h) (group_closed true group g) (rest_closed true rest r)
  rest_closed e ps (EndIf i p h) = record { inside = []; last = p; is = refl; closes = h; closed = Ends true }

pub is_closed : (ps : List Part) → IsGroup ps → IsClosed false ps
is_closed ps g = group_closed false ps g

-- ---- whole conditionals break no rule

-- each part may stand where it stands
abbrev MayStand : State → ℕ → List Part → Type 0
MayStand s place [] = Unit {0}
MayStand s place (p ∷ ps) =
    (may_stand (role_of p.content) s.conditionals ≡ true) × MayStand (after_content s place p.content) (place + length p.bytes) ps

may_both : (s : State) (place : ℕ) (ps qs : List Part) → MayStand s place ps
    → MayStand (state_after s place ps) (place_behind place ps) qs → MayStand s place (ps ++ qs)
unfolding state_after
may_both s place [] qs h k = k
may_both s place (p ∷ ps) qs h k = (h.0, may_both (after_content s place p.content) (place + length p.bytes) ps qs h.1 k)

may_by : (c : Content) (r : Role) (cs : List Conditional) → role_of c ≡ r → may_stand r cs ≡ true → may_stand (role_of c) cs ≡ true
may_by c r cs e h = ap (λ (q : Role). may_stand q cs) e ∙ h

may_go : (cs ds : List Conditional) (c : Conditional) → cs ≡ ds ++ c ∷ [] → c.has_else ≡ false → may_go_on (innermost cs) ≡ true
may_go cs ds c e h = no_else cs ds c e ∙ ap (λ (b : Bool). not b) h

may_close : (cs ds : List Conditional) (c : Conditional) → cs ≡ ds ++ c ∷ [] → is_open (innermost cs) ≡ true
may_close cs ds c e = ap (λ (xs : List Conditional). is_open (innermost xs)) e ∙ rw (innermost_is ds c) refl

behind_group : (s : State) (place : ℕ) (ps : List Part) (cs : List Conditional) → IsGroup ps → s.conditionals ≡ cs
    → (state_after s place ps).conditionals ≡ cs
behind_group s place ps cs g e = closed s place ps (is_closed ps g) ∙ e

next_is : (s : State) (place : ℕ) (p : Part) (e : Bool) (cs : List Conditional) (c : Conditional)
    → (after_content s place p.content).conditionals ≡ with_next_part s.conditionals (holds s p.content) e (innermost s.conditionals)
    → s.conditionals ≡ cs ++ c ∷ [] → c.has_else ≡ false
    → (after_content s place p.content).conditionals ≡ cs ++ next_part c (holds s p.content) e ∷ []
next_is s place p e cs c h is lacks =
    let t = holds s p.content in
    next_of c cs _ t e (h ∙ ap (λ (xs : List Conditional). with_next_part xs t e (innermost xs)) is) lacks

mutual
  group_may : (ps : List Part) → IsGroup ps → (s : State) (place : ℕ) → MayStand s place ps
  group_may ps NoPart s place = tt
  group_may ps (OnePart p qs h g) s place =
      (may_by p.content Plain s.conditionals h refl, group_may qs g (after_content s place p.content) (place + length p.bytes))
  group_may ps (OneConditional p group rest qs h g r k) s place =
      let a = after_content s place p.content in
      let at = place + length p.bytes in
      let b = state_after a at group in
      let end = place_behind at group in
      let one = opened_one s.conditionals place (holds s p.content) in
      let is = behind_group a at group (s.conditionals ++ one ∷ []) g (role_is s place p.content Opening h) in
      let tail = group_may qs k (state_after b end rest) (place_behind end rest) in (
        may_by p.content Opening s.conditionals h refl,
        may_both a at group (rest ++ qs) (group_may group g a at)
            (may_both b end rest qs (rest_may false rest r b end s.conditionals one is refl) tail),
      )

  rest_may : (e : Bool) (ps : List Part) → IsRest e ps → (s : State) (place : ℕ) (cs : List Conditional) (c : Conditional)
      → s.conditionals ≡ cs ++ c ∷ [] → c.has_else ≡ e → MayStand s place ps
  rest_may e ps (OneElsIf p group rest h g r) s place cs c is lacks =
      let a = after_content s place p.content in
      let at = place + length p.bytes in
      let one = next_part c (holds s p.content) false in
      let next = next_is s place p false cs c (role_is s place p.content ElsIf h) is lacks in
      let behind = behind_group a at group (cs ++ one ∷ []) g next in (
        may_by p.content ElsIf s.conditionals h (may_go s.conditionals cs c is lacks),
        may_both a at group rest (group_may group g a at)
            (rest_may false rest r (state_after a at group) (place_behind at group) cs one behind refl),
      )
  rest_may e ps (OneElse p group rest h g r) s place cs c is lacks =
      let a = after_content s place p.content in
      let at = place + length p.bytes in
      let one = next_part c (holds s p.content) true in
      let next = next_is s place p true cs c (role_is s place p.content Else h) is lacks in
      let behind = behind_group a at group (cs ++ one ∷ []) g next in (
        may_by p.content Else s.conditionals h (may_go s.conditionals cs c is lacks),
        may_both a at group rest (group_may group g a at)
            (rest_may true rest r (state_after a at group) (place_behind at group) cs one behind refl),
      )
  rest_may e ps (EndIf i p h) s place cs c is lacks = (may_by p.content Closing s.conditionals h (may_close s.conditionals cs c is), tt)

part_keeps : (s : State) (place : ℕ) (c : Content) (scan : Scan) → is_unbroken c ≡ true → may_stand (role_of c) s.conditionals ≡ true
    → scan.faults ≡ [] → (with_content s place c scan).faults ≡ []
unfolding with_content
part_keeps s place content.Gap scan u m e = e
part_keeps s place (content.Token t) scan u m e = e
part_keeps s place (content.Directive d) scan u m e =
    let a : is_allowed s d ≡ true = allowed_is s d ∙ rw (u, m) refl in
    rw a e
part_keeps s place (content.Broken r) scan u m e = absurd (false≢true u)

no_fault : (s : State) (place : ℕ) (ps : List Part) → list_all (λ p. is_unbroken p.content) ps ≡ true → MayStand s place ps
    → (state_after s place ps).conditionals ≡ [] → (told_of s place ps).faults ≡ []
unfolding told_of state_after left_open
no_fault s place [] u m e = ap (λ (xs : List Conditional). left_open xs) e
no_fault s place (p ∷ ps) u m e =
    let behind = after_content s place p.content in
    let b = both_true (is_unbroken p.content) _ u in
    part_keeps s place p.content (told_of behind (place + length p.bytes) ps) b.0 m.0
    (no_fault behind (place + length p.bytes) ps b.1 m.1 e)

pub breaks_none : (row : List Part) → list_all (λ p. is_unbroken p.content) row ≡ true → IsGroup row → (told row).faults ≡ []
unfolding start
breaks_none row u g = no_fault start 0 row u (group_may row g start 0) (closed start 0 row (is_closed row g))
