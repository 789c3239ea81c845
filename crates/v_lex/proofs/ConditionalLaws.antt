-- The directives of a conditional take the first of its branches whose condition holds.
use Rattle.std.proofs.Common.{◌≡◌, ℕ, ◌+◌, ◌-◌, Bool, true, false, not, ◌&&◌, ◌||◌, List, [], ◌∷◌, ◌++◌, length, take, Some, slice_get}
use Rattle.std.proofs.Common.{get_or, eqb, ap, ◌⊎◌, ⊎_elim, inl, inr, ◌∙◌, sym, refl, subst, arith, if◌then◌else◌}
use Rattle.std.specs.Prelude.{◌≢◌}
use lib.Seq.{take-append_seam}
use Rattle.std.proofs.lemmas.Bool.{false≢true}
use Rattle.std.proofs.lemmas.List.{length-append}
use Rattle.v_lex.specs.declared.directive.DirectiveWord.{DirectiveWord}
use Rattle.v_lex.specs.declared.directive.DirectiveWord.TheVariants as word
use Rattle.v_lex.specs.declared.directive.Directive.{Directive}
use Rattle.v_lex.specs.declared.directive.Directive.TheVariants as directive
use Rattle.v_lex.specs.declared.directive.LexRule.TheVariants as rule
use Rattle.v_lex.specs.declared.directive.Conditional.{Conditional}
use Rattle.v_lex.specs.declared.directive.Content.{Content}
use Rattle.v_lex.specs.declared.directive.Content.TheVariants as content
use Rattle.v_lex.specs.Lexing.{State, innermost, outer, is_taken, opened, next_part, with_next_part, after_directive, after_content}
use Rattle.v_lex.specs.DirectiveWords.{directive_spelling}
use Rattle.v_lex.specs.Gaps.{BeginsComment}
use Rattle.v_lex.specs.Directives.{Parts, IsWhole, IsDirective, IsOfConditional, BeginsConditional}
use Rattle.v_lex.specs.Row.{Part, IsRow, CommentStands, SkippedStands, Stands, spelled}
use Rattle.v_lex.proofs.RowLaws.{covers}
use Rattle.v_lex.specs.Conditionals.{state_after, place_behind, Role, Opening, ElsIf, Else, Closing, Plain, role_of, IsFurther}
use Rattle.v_lex.specs.Conditionals.{MayBeSkipped, holds, IsClosed, Ends, Passes, Nests, Branches}
use Rattle.v_lex.specs.Conditionals.{Branch, written, GoOn, IsConditional, is_branch_taken, takes_one}

-- ---- the end of a list

seam : (cs : List Conditional) (c : Conditional) → slice_get (cs ++ c ∷ []) (length cs) ≡ Some c
seam [] c = refl
seam (d ∷ ds) c = seam ds c

one_less : (cs : List Conditional) (c : Conditional) → length (cs ++ c ∷ []) - 1 ≡ length cs
one_less cs c = omega (arith, length-append cs (c ∷ []))

pub innermost_is : (cs : List Conditional) (c : Conditional) → innermost (cs ++ c ∷ []) ≡ Some c
innermost_is cs c = ap (slice_get (cs ++ c ∷ [])) (one_less cs c) ∙ seam cs c

pub outer_is : (cs : List Conditional) (c : Conditional) → outer (cs ++ c ∷ []) ≡ cs
outer_is cs c = ap (λ (n : ℕ). take n (cs ++ c ∷ [])) (one_less cs c) ∙ take-append_seam cs (c ∷ [])

taken_is : (cs : List Conditional) (c : Conditional) → is_taken (cs ++ c ∷ []) ≡ c.is_taken
unfolding is_taken
taken_is cs c = rw (innermost_is cs c) refl

-- ---- one part of a text

-- the open conditionals behind a part with this role, at this place, whose condition holds or not
abbrev pub next_conditionals : Role → List Conditional → ℕ → Bool → List Conditional
next_conditionals Opening cs place t = opened cs place t
next_conditionals ElsIf cs place t = with_next_part cs t false (innermost cs)
next_conditionals Else cs place t = with_next_part cs t true (innermost cs)
next_conditionals Closing cs place t = outer cs
next_conditionals Plain cs place t = cs

by_role : (s : State) (place : ℕ) (c : Content)
    → (after_content s place c).conditionals ≡ next_conditionals (role_of c) s.conditionals place (holds s c)
unfolding after_content after_directive
by_role s place (content.Directive directive.Else) = refl
by_role s place _ = refl

pub role_is : (s : State) (place : ℕ) (c : Content) (r : Role) → role_of c ≡ r
    → (after_content s place c).conditionals ≡ next_conditionals r s.conditionals place (holds s c)
role_is s place c r e = by_role s place c ∙ ap (λ (q : Role). next_conditionals q s.conditionals place (holds s c)) e

-- an `else` is a conditional's last branch
is_last : (c : Content) → IsFurther (role_of c) → Bool
is_last c (inl h) = false
is_last c (inr h) = true

goes_on : (s : State) (place : ℕ) (c : Content) (h : IsFurther (role_of c))
    → (after_content s place c).conditionals ≡ with_next_part s.conditionals (holds s c) (is_last c h) (innermost s.conditionals)
unfolding is_last
goes_on s place c (inl h) = role_is s place c ElsIf h
goes_on s place c (inr h) = role_is s place c Else h

-- ---- parts behind one another

pub state_both : (s : State) (place : ℕ) (ps qs : List Part)
    → state_after s place (ps ++ qs) ≡ state_after (state_after s place ps) (place_behind place ps) qs
unfolding state_after
state_both s place [] qs = refl
state_both s place (p ∷ ps) qs = state_both (after_content s place p.content) (place + length p.bytes) ps qs

place_both : (place : ℕ) (ps qs : List Part) → place_behind place (ps ++ qs) ≡ place_behind (place_behind place ps) qs
place_both place [] qs = refl
place_both place (p ∷ ps) qs = place_both (place + length p.bytes) ps qs

pub stands_at : (s : State) (place : ℕ) (before : List Part) (p : Part) (ps : List Part) (text : List ℕ)
    → IsRow s place (before ++ p ∷ ps) text → Stands (is_taken (state_after s place before).conditionals) p.content p.bytes (spelled ps)
unfolding IsRow state_after
stands_at s place [] p ps text h =
    let all = covers (after_content s place p.content) (place + length p.bytes) ps h.0 h.3 in
    subst (λ (xs : List ℕ). Stands (is_taken s.conditionals) p.content p.bytes xs) (sym all) h.2
stands_at s place (q ∷ qs) p ps text h = stands_at (after_content s place q.content) (place + length q.bytes) qs p ps h.0 h.3

-- ---- what isn't taken

-- behind a backquote the words of conditionals, and no others, begin with e or i
begins_with_e_or_i : List ℕ → Bool
begins_with_e_or_i text = eqb (get_or text 1 0) 101 || eqb (get_or text 1 0) 105

conditional_letter : (w : DirectiveWord) (rest : List ℕ) → IsOfConditional w → begins_with_e_or_i (96 ∷ (directive_spelling w ++ rest))
    ≡ true
unfolding begins_with_e_or_i
conditional_letter word.IfDef rest h = refl
conditional_letter word.IfNDef rest h = refl
conditional_letter word.ElsIf rest h = refl
conditional_letter word.Else rest h = refl
conditional_letter word.EndIf rest h = refl
conditional_letter _ rest h = absurd h

begins_letter : (text : List ℕ) → BeginsConditional text → begins_with_e_or_i text ≡ true
begins_letter text h = ap begins_with_e_or_i h.3 ∙ conditional_letter h.0 h.1 h.2

abbrev is_plain : Role → Bool
is_plain Plain = true
is_plain _ = false

letter_is : (d : Directive) (w : DirectiveWord) (parts behind : List ℕ) → Parts d w parts behind
    → begins_with_e_or_i ((96 ∷ directive_spelling w ++ parts) ++ behind) ≡ not (is_plain (role_of (content.Directive d)))
unfolding begins_with_e_or_i
letter_is (directive.TimeScale u p) word.TimeScale parts behind h = refl
letter_is (directive.Define name) word.Define parts behind h = refl
letter_is (directive.Undef name) word.Undef parts behind h = refl
letter_is (directive.IfDef name) word.IfDef parts behind h = refl
letter_is (directive.IfNDef name) word.IfNDef parts behind h = refl
letter_is (directive.ElsIf name) word.ElsIf parts behind h = refl
letter_is directive.Else word.Else parts behind h = refl
letter_is directive.EndIf word.EndIf parts behind h = refl
letter_is directive.ResetAll word.ResetAll parts behind h = refl
letter_is directive.DefaultNetType word.DefaultNetType parts behind h = refl
letter_is _ _ parts behind h = absurd h

not_plain : (d : Directive) (bytes behind : List ℕ) → BeginsConditional (bytes ++ behind) → IsWhole d bytes behind
    → role_of (content.Directive d) ≢ Plain
not_plain d bytes behind b h = λ e.
    let letter = ap (λ (xs : List ℕ). begins_with_e_or_i (xs ++ behind)) h.is ∙ letter_is d h.word h.parts behind h.has in
    false≢true (sym (letter ∙ ap (λ (r : Role). not (is_plain r)) e) ∙ begins_letter (bytes ++ behind) b)

directive_skipped : (d : Directive) (bytes behind : List ℕ) → BeginsConditional (bytes ++ behind) → IsDirective d bytes behind
    → MayBeSkipped (content.Directive d) (bytes ++ behind)
directive_skipped directive.Unnamed bytes behind b h = λ e. false≢true (ap (λ (r : Role). is_plain r) e)
directive_skipped directive.Broken bytes behind b h = b
directive_skipped d bytes behind b h = not_plain d bytes behind b h

comment_skipped : (c : Content) (bytes behind : List ℕ) → CommentStands c bytes behind → MayBeSkipped c (bytes ++ behind)
comment_skipped content.Gap bytes behind h = tt
comment_skipped (content.Broken rule.UnclosedText) bytes behind h = tt
comment_skipped _ bytes behind h = absurd h

other_skipped : (c : Content) (bytes behind : List ℕ) → SkippedStands c bytes behind → MayBeSkipped c (bytes ++ behind)
other_skipped content.Gap bytes behind h = tt
other_skipped (content.Directive d) bytes behind h = directive_skipped d bytes behind h.0 h.1
other_skipped _ bytes behind h = absurd h

skipped : (t : Bool) (c : Content) (bytes behind : List ℕ) → t ≡ false → Stands t c bytes behind → MayBeSkipped c (bytes ++ behind)
skipped true c bytes behind e h = absurd (false≢true (sym e))
skipped false c bytes behind e h = ⊎_elim
    (λ (k : CommentStands c bytes behind). comment_skipped c bytes behind k)
    (λ (k : (BeginsComment (bytes ++ behind) → ⊥) × SkippedStands c bytes behind). other_skipped c bytes behind k.1)
    h

pub skipped_at : (s : State) (place : ℕ) (before : List Part) (p : Part) (ps : List Part) (text : List ℕ)
    → IsRow s place (before ++ p ∷ ps) text → is_taken (state_after s place before).conditionals ≡ false
    → MayBeSkipped p.content (p.bytes ++ spelled ps)
skipped_at s place before p ps text h e =
    skipped (is_taken (state_after s place before).conditionals) p.content p.bytes (spelled ps) e (stands_at s place before p ps text h)

-- ---- the state of a conditional

-- What a conditional that is open has become, behind parts in which each conditional that is opened is closed.
Kept : Bool → List Conditional → List Conditional → Type 0
Kept true before now = (cs : List Conditional) (c : Conditional) → before ≡ cs ++ c ∷ [] → (d : Conditional) × (now ≡ cs ++ d ∷ [])
Kept false before now = now ≡ before

kept_next : (inner : Bool) (a b c : List Conditional) → b ≡ a → Kept inner b c → Kept inner a c
unfolding Kept
kept_next true a b c e k = λ cs d h. k cs d (e ∙ h)
kept_next false a b c e k = k ∙ e

-- the next branch of a conditional, or the conditional as it was, behind its `else`
next_is : (cs : List Conditional) (c : Conditional) (t e : Bool) → (d : Conditional)
    × (with_next_part (cs ++ c ∷ []) t e (innermost (cs ++ c ∷ [])) ≡ cs ++ d ∷ []) × ((d ≡ c) ⊎ (d ≡ next_part c t e))
next_is cs c t e = rw (innermost_is cs c, outer_is cs c) (go c.has_else)
  where
    go : (b : Bool) → (d : Conditional)
        × ((if b then cs ++ c ∷ [] else cs ++ next_part c t e ∷ []) ≡ cs ++ d ∷ []) × ((d ≡ c) ⊎ (d ≡ next_part c t e))
    go true = (c, refl, inl refl)
    go false = (next_part c t e, refl, inr refl)

-- an `elsif` or `else` goes on to the next branch of the innermost conditional
further_is : (s : State) (place : ℕ) (p : Part) (h : IsFurther (role_of p.content)) (cs : List Conditional) (c : Conditional)
    → s.conditionals ≡ cs ++ c ∷ [] → (d : Conditional) × ((after_content s place p.content).conditionals ≡ cs ++ d ∷ [])
    × ((d ≡ c) ⊎ (d ≡ next_part c (holds s p.content) (is_last p.content h)))
further_is s place p h cs c e =
    let t = holds s p.content in
    let last = is_last p.content h in
    let n = next_is cs c t last in
    (n.0, goes_on s place p.content h ∙ ap (λ (xs : List Conditional). with_next_part xs t last (innermost xs)) e ∙ n.1, n.2)

goes_kept : (s : State) (place : ℕ) (p : Part) → IsFurther (role_of p.content)
    → Kept true s.conditionals (after_content s place p.content).conditionals
unfolding Kept
goes_kept s place p h = λ cs c e. let n = further_is s place p h cs c e in (n.0, n.1)

kept_both : (a b c : List Conditional) → Kept true a b → Kept true b c → Kept true a c
unfolding Kept
kept_both a b c h k = λ cs d e. let x = h cs d e in k cs x.0 x.1

-- ---- closed parts

kept_refl : (inner : Bool) (cs : List Conditional) → Kept inner cs cs
unfolding Kept
kept_refl true cs = λ ds c e. (c, e)
kept_refl false cs = refl

abbrev pub opened_one : List Conditional → ℕ → Bool → Conditional
opened_one cs place t = record { place = place; is_taken = is_taken cs && t; may_take = is_taken cs && not t; has_else = false }

-- what stands in a conditional, and its `endif`
closed_one : (cs now : List Conditional) (place : ℕ) (t : Bool) → Kept true (opened cs place t) now → outer now ≡ cs
unfolding Kept
closed_one cs now place t k = let d = k cs _ refl in ap (λ (xs : List Conditional). outer xs) d.1 ∙ outer_is cs d.0

abbrev opens : State → ℕ → Part → State
opens s place first = after_content s place first.content

abbrev inner_end : State → ℕ → Part → List Part → State
inner_end s place first inside = state_after (opens s place first) (place + length first.bytes) inside

abbrev end_place : ℕ → Part → List Part → ℕ
end_place place first inside = place_behind (place + length first.bytes) inside

-- the state behind an opening directive, what stands in its conditional, and its `endif`
abbrev nest_end : State → ℕ → Part → List Part → Part → State
nest_end s place first inside last = after_content (inner_end s place first inside) (end_place place first inside) last.content

nest_after : (s : State) (place : ℕ) (first last : Part) (inside ps : List Part)
    → state_after s place (first ∷ inside ++ last ∷ ps)
    ≡ state_after (nest_end s place first inside last) (end_place place first inside + length last.bytes) ps
unfolding state_after
nest_after s place first last inside ps = state_both (opens s place first) (place + length first.bytes) inside (last ∷ ps)

nest_same : (s : State) (place : ℕ) (first last : Part) (inside : List Part) → role_of first.content ≡ Opening
    → role_of last.content ≡ Closing → Kept true (opens s place first).conditionals (inner_end s place first inside).conditionals
    → (nest_end s place first inside last).conditionals ≡ s.conditionals
nest_same s place first last inside o c k =
    let b = inner_end s place first inside in
    let there = subst (λ (xs : List Conditional). Kept true xs b.conditionals) (role_is s place first.content Opening o) k in
    role_is b (end_place place first inside) last.content Closing c
    ∙ closed_one s.conditionals b.conditionals place (holds s first.content) there

closed_kept : (inner : Bool) (s : State) (place : ℕ) (ps : List Part) → IsClosed inner ps
    → Kept inner s.conditionals (state_after s place ps).conditionals
unfolding state_after
closed_kept inner s place ps (Ends i) = kept_refl inner s.conditionals
closed_kept inner s place ps (Passes i p qs h k) =
    kept_next inner s.conditionals (after_content s place p.content).conditionals _ (role_is s place p.content Plain h)
    (closed_kept inner (after_content s place p.content) (place + length p.bytes) qs k)
closed_kept inner s place ps (Nests i first last inside qs o c h k) =
    let d = nest_end s place first inside last in
    let within = closed_kept true (opens s place first) (place + length first.bytes) inside h in
    subst (λ (t : State). Kept inner s.conditionals t.conditionals) (sym (nest_after s place first last inside qs))
    (kept_next inner s.conditionals d.conditionals _ (nest_same s place first last inside o c within)
    (closed_kept inner d (end_place place first inside + length last.bytes) qs k))
closed_kept inner s place ps (Branches p qs h k) =
    kept_both s.conditionals (after_content s place p.content).conditionals _ (goes_kept s place p h)
    (closed_kept true (after_content s place p.content) (place + length p.bytes) qs k)

pub closed : (s : State) (place : ℕ) (ps : List Part) → IsClosed false ps → (state_after s place ps).conditionals ≡ s.conditionals
unfolding Kept
closed s place ps h = closed_kept false s place ps h

-- ---- inside of what isn't taken

-- Nothing is taken at the place before any of these parts, nor behind them.
abbrev AllOff : State → ℕ → List Part → Type 0
AllOff s place [] = is_taken s.conditionals ≡ false
AllOff s place (p ∷ ps) = (is_taken s.conditionals ≡ false) × AllOff (after_content s place p.content) (place + length p.bytes) ps

off_at : (s : State) (place : ℕ) (ps qs : List Part) → AllOff s place (ps ++ qs) → is_taken (state_after s place ps).conditionals ≡ false
unfolding state_after
off_at s place [] [] h = h
off_at s place [] (q ∷ qs) h = h.0
off_at s place (p ∷ ps) qs h = off_at (after_content s place p.content) (place + length p.bytes) ps qs h.1

off_end : (s : State) (place : ℕ) (ps : List Part) → AllOff s place ps → is_taken (state_after s place ps).conditionals ≡ false
unfolding state_after
off_end s place [] h = h
off_end s place (p ∷ ps) h = off_end (after_content s place p.content) (place + length p.bytes) ps h.1

off_both : (s : State) (place : ℕ) (ps qs : List Part) → AllOff s place ps
    → AllOff (state_after s place ps) (place_behind place ps) qs → AllOff s place (ps ++ qs)
unfolding state_after
off_both s place [] qs h k = k
off_both s place (p ∷ ps) qs h k = (h.0, off_both (after_content s place p.content) (place + length p.bytes) ps qs h.1 k)

-- Nothing is taken; `true`: nor will a further branch of the innermost conditional be.
abbrev Off : Bool → List Conditional → Type 0
Off true cs = (ds : List Conditional) × (c : Conditional) × (cs ≡ ds ++ c ∷ []) × (c.is_taken ≡ false) × (c.may_take ≡ false)
Off false cs = is_taken cs ≡ false

off_now : (inner : Bool) (cs : List Conditional) → Off inner cs → is_taken cs ≡ false
off_now true cs h = ap is_taken h.2 ∙ taken_is h.0 h.1 ∙ h.3
off_now false cs h = h

off_opened : (cs : List Conditional) (place : ℕ) (t : Bool) → is_taken cs ≡ false → Off true (opened cs place t)
off_opened cs place t e = (cs, opened_one cs place t, refl, ap (λ (b : Bool). b && t) e, ap (λ (b : Bool). b && not t) e)

off_further : (s : State) (place : ℕ) (p : Part) → IsFurther (role_of p.content) → Off true s.conditionals
    → Off true (after_content s place p.content).conditionals
off_further s place p h o =
    let n = further_is s place p h o.0 o.1 o.2 in
    let both = go n.0 n.2 in
    (o.0, n.0, n.1, both.0, both.1)
  where
    go : (d : Conditional) → (d ≡ o.1) ⊎ (d ≡ next_part o.1 (holds s p.content) (is_last p.content h))
        → (d.is_taken ≡ false) × (d.may_take ≡ false)
    go d (inl e) = (ap (λ (x : Conditional). x.is_taken) e ∙ o.3, ap (λ (x : Conditional). x.may_take) e ∙ o.4)
    go d (inr e) = (
      ap (λ (x : Conditional). x.is_taken) e ∙ ap (λ (b : Bool). b && holds s p.content) o.4,
      ap (λ (x : Conditional). x.may_take) e ∙ ap (λ (b : Bool). b && not (holds s p.content)) o.4,
    )

closed_off : (inner : Bool) (s : State) (place : ℕ) (ps : List Part) → IsClosed inner ps → Off inner s.conditionals → AllOff s place ps
closed_off inner s place ps (Ends i) o = off_now inner s.conditionals o
closed_off inner s place ps (Passes i p qs h k) o =
    let there = subst (λ (xs : List Conditional). Off inner xs) (sym (role_is s place p.content Plain h)) o in
    (off_now inner s.conditionals o, closed_off inner (after_content s place p.content) (place + length p.bytes) qs k there)
closed_off inner s place ps (Nests i first last inside qs f c h k) o =
    let a = opens s place first in
    let at = place + length first.bytes in
    let d = nest_end s place first inside last in
    let now = off_now inner s.conditionals o in
    let opening = subst (λ (xs : List Conditional). Off true xs) (sym (role_is s place first.content Opening f))
    (off_opened s.conditionals place (holds s first.content) now) in
    let within = closed_off true a at inside h opening in
    let same = nest_same s place first last inside f c (closed_kept true a at inside h) in
    let there = subst (λ (xs : List Conditional). Off inner xs) (sym same) o in
    let behind = closed_off inner d (end_place place first inside + length last.bytes) qs k there in
    (now, off_both a at inside (last ∷ qs) within (off_end a at inside within, behind))
closed_off inner s place ps (Branches p qs h k) o = (
  off_now true s.conditionals o,
  closed_off true (after_content s place p.content) (place + length p.bytes) qs k (off_further s place p h o),
)

pub off_inside : (s : State) (place : ℕ) (before rest : List Part) → is_taken s.conditionals ≡ false → IsClosed false (before ++ rest)
    → is_taken (state_after s place before).conditionals ≡ false
off_inside s place before rest o h = off_at s place before rest (closed_off false s place (before ++ rest) h o)

-- ---- the branches of one conditional

-- How a conditional stands behind some of its branches: what stands around it is taken or not, and one of these was taken or not.
record At (around before : Bool) (cs : List Conditional) (now : List Conditional) : Type 0 where
  one : Conditional
  is : now ≡ cs ++ one ∷ []
  may : one.may_take ≡ around && not before
  no_else : one.has_else ≡ false

pub next_of : (c : Conditional) (cs now : List Conditional) (t e : Bool)
    → now ≡ with_next_part (cs ++ c ∷ []) t e (innermost (cs ++ c ∷ [])) → c.has_else ≡ false → now ≡ cs ++ next_part c t e ∷ []
next_of c cs now t e h k = h ∙ rw (innermost_is cs c, outer_is cs c, k) refl

goes_at : (s : State) (place : ℕ) (p : Part) (around before : Bool) (cs : List Conditional) → (a : At around before cs s.conditionals)
    → (g : IsFurther (role_of p.content))
    → (after_content s place p.content).conditionals ≡ cs ++ next_part a.one (holds s p.content) (is_last p.content g) ∷ []
goes_at s place p around before cs a g =
    let t = holds s p.content in
    let last = is_last p.content g in
    let there = ap (λ (xs : List Conditional). with_next_part xs t last (innermost xs)) a.is in
    next_of a.one cs _ t last (goes_on s place p.content g ∙ there) a.no_else

-- the next branch is taken where what stands around is, none before it was, and its condition holds
takes_at : (s : State) (place : ℕ) (p : Part) (around before : Bool) (cs : List Conditional) → At around before cs s.conditionals
    → IsFurther (role_of p.content) → is_branch_taken s place p ≡ (around && not before) && holds s p.content
takes_at s place p around before cs a g =
    ap is_taken (goes_at s place p around before cs a g) ∙ taken_is cs (next_part a.one (holds s p.content) (is_last p.content g))
    ∙ ap (λ (b : Bool). b && holds s p.content) a.may

still_may : (around before t : Bool) → (around && not before) && not t ≡ around && not (before || ((around && not before) && t))
still_may true true t = refl
still_may true false true = refl
still_may true false false = refl
still_may false before t = refl

after_elsif : (s : State) (place : ℕ) (p : Part) (around before : Bool) (cs : List Conditional) → At around before cs s.conditionals
    → role_of p.content ≡ ElsIf → At around (before || is_branch_taken s place p) cs (after_content s place p.content).conditionals
unfolding is_last
after_elsif s place p around before cs a h =
    let t = holds s p.content in
    let takes = takes_at s place p around before cs a (inl h) in
    record {
      one = next_part a.one t false;
      is = goes_at s place p around before cs a (inl h);
      may = ap (λ (b : Bool). b && not t) a.may ∙ still_may around before t ∙ ap (λ (b : Bool). around && not (before || b)) (sym takes);
      no_else = refl;
    }

at_same : (around before : Bool) (cs now next : List Conditional) → next ≡ now → At around before cs now → At around before cs next
at_same around before cs now next e a = record { one = a.one; is = e ∙ a.is; may = a.may; no_else = a.no_else }

or_assoc : (a b c : Bool) → (a || b) || c ≡ a || (b || c)
or_assoc true b c = refl
or_assoc false b c = refl

-- the state behind the directive of a branch, and behind the branch
abbrev behind_branch : State → ℕ → Branch → State
behind_branch s place b = state_after (after_content s place b.directive.content) (place + length b.directive.bytes) b.body

abbrev branch_end : ℕ → Branch → ℕ
branch_end place b = place_behind (place + length b.directive.bytes) b.body

branch_after : (s : State) (place : ℕ) (b : Branch) (ps : List Part)
    → state_after s place (b.directive ∷ b.body ++ ps) ≡ state_after (behind_branch s place b) (branch_end place b) ps
unfolding state_after
branch_after s place b ps = state_both (after_content s place b.directive.content) (place + length b.directive.bytes) b.body ps

body_at : (s : State) (place : ℕ) (ps : List Part) (around before : Bool) (cs : List Conditional) → IsClosed false ps
    → At around before cs s.conditionals → At around before cs (state_after s place ps).conditionals
body_at s place ps around before cs h a = at_same around before cs s.conditionals _ (closed s place ps h) a

moved : (a b : State) (p q : ℕ) (x : Bool) (last : Part) → a ≡ b → p ≡ q → is_branch_taken b q last ≡ x && holds b last.content
    → is_branch_taken a p last ≡ x && holds a last.content
moved a b p q x last e f h = rw (e, f) h

-- the same, behind one branch and these
moved_on : (s : State) (place : ℕ) (b : Branch) (bs : List Branch) (x : Bool) (last : Part)
    → is_branch_taken (state_after (behind_branch s place b) (branch_end place b) (written bs))
    (place_behind (branch_end place b) (written bs)) last
    ≡ x && holds (state_after (behind_branch s place b) (branch_end place b) (written bs)) last.content
    → is_branch_taken (state_after s place (written (b ∷ bs))) (place_behind place (written (b ∷ bs))) last
    ≡ x && holds (state_after s place (written (b ∷ bs))) last.content
moved_on s place b bs x last h =
    moved (state_after s place (written (b ∷ bs))) (state_after (behind_branch s place b) (branch_end place b) (written bs))
    (place_behind place (written (b ∷ bs))) (place_behind (branch_end place b) (written bs)) x last
    (branch_after s place b (written bs)) (place_both (place + length b.directive.bytes) b.body (written bs)) h

chain : (s : State) (place : ℕ) (around before : Bool) (cs : List Conditional) (bs : List Branch) (last : Part)
    → At around before cs s.conditionals → GoOn bs last
    → is_branch_taken (state_after s place (written bs)) (place_behind place (written bs)) last
    ≡ (around && not (before || takes_one s place bs)) && holds (state_after s place (written bs)) last.content
unfolding state_after
chain s place around before cs [] last a h =
    takes_at s place last around before cs a h ∙ ap (λ (b : Bool). (around && not b) && holds s last.content) (or_none before)
  where
    or_none : (b : Bool) → b ≡ b || false
    or_none true = refl
    or_none false = refl
chain s place around before cs (b ∷ bs) last a h =
    let t = after_content s place b.directive.content in
    let at = place + length b.directive.bytes in
    let u = behind_branch s place b in
    let end = branch_end place b in
    let is = is_branch_taken s place b.directive in
    let inside = body_at t at b.body around (before || is) cs h.1 (after_elsif s place b.directive around before cs a h.0) in
    let ih = chain u end around (before || is) cs bs last inside h.2 in
    moved_on s place b bs (around && not (before || takes_one s place (b ∷ bs))) last
    (ih ∙ ap (λ (x : Bool). (around && not x) && holds (state_after u end (written bs)) last.content)
    (or_assoc before is (takes_one u end bs)))

first_may : (around t : Bool) → around && not t ≡ around && not (around && t)
first_may true t = refl
first_may false t = refl

-- the first branch of a conditional
pub takes_first : (s : State) (place : ℕ) (p : Part) → role_of p.content ≡ Opening
    → is_branch_taken s place p ≡ is_taken s.conditionals && holds s p.content
takes_first s place p o =
    ap is_taken (role_is s place p.content Opening o) ∙ taken_is s.conditionals (opened_one s.conditionals place (holds s p.content))

first_at : (s : State) (place : ℕ) (p : Part) → role_of p.content ≡ Opening
    → At (is_taken s.conditionals) (is_branch_taken s place p) s.conditionals (after_content s place p.content).conditionals
first_at s place p o = record {
  one = opened_one s.conditionals place (holds s p.content);
  is = role_is s place p.content Opening o;
  may = first_may (is_taken s.conditionals) (holds s p.content)
      ∙ ap (λ (b : Bool). is_taken s.conditionals && not b) (sym (takes_first s place p o));
  no_else = refl;
}

-- a further branch of a conditional
pub takes_further : (s : State) (place : ℕ) (first : Branch) (bs : List Branch) (last : Part) → IsConditional first bs last
    → is_branch_taken (state_after s place (written (first ∷ bs))) (place_behind place (written (first ∷ bs))) last
    ≡ (is_taken s.conditionals && not (takes_one s place (first ∷ bs))) && holds (state_after s place (written (first ∷ bs))) last.content
unfolding state_after
takes_further s place b bs last h =
    let t = after_content s place b.directive.content in
    let at = place + length b.directive.bytes in
    let around = is_taken s.conditionals in
    let is = is_branch_taken s place b.directive in
    let inside = body_at t at b.body around is s.conditionals h.1 (first_at s place b.directive h.0) in
    moved_on s place b bs (around && not (takes_one s place (b ∷ bs))) last
    (chain (behind_branch s place b) (branch_end place b) around is s.conditionals bs last inside h.2)

none_after : (around before t : Bool) → before ≡ true → (around && not before) && t ≡ false
none_after true before t e = rw e refl
none_after false before t e = refl

-- behind a branch that is taken none is
pub takes_none : (s : State) (place : ℕ) (first : Branch) (bs : List Branch) (last : Part) → IsConditional first bs last → takes_one s place (first ∷ bs) ≡ true
    → is_branch_taken (state_after s place (written (first ∷ bs))) (place_behind place (written (first ∷ bs))) last ≡ false
takes_none s place b bs last h e =
    takes_further s place b bs last h ∙ none_after (is_taken s.conditionals) (takes_one s place (b ∷ bs)) (holds (state_after s place (written (b ∷ bs))) last.content) e
