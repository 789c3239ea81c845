-- A name is defined where the last `define` or `undef` of it says so.
use Rattle.std.proofs.Common.{◌≡◌, ℕ, suc, ◌+◌, Bool, true, false, List, [], ◌∷◌, ◌++◌, length, ap, ◌⊎◌, inl, inr, ◌∙◌, sym, refl}
use Rattle.std.proofs.Common.{arith, if◌then◌else◌}
use Rattle.std.specs.Prelude.{◌≢◌, All}
use Rattle.std.specs.Str.{bytes_eq}
use Rattle.std.proofs.lemmas.Bool.{false≢true}
use Rattle.std.proofs.lemmas.List.Elements.{All-cons, All-nil}
use Rattle.std.proofs.lemmas.Slice.Eq.{bytes_eq-Decides}
use lib.Chars.{codes}
use Rattle.v_lex.specs.declared.directive.Directive.TheVariants as directive
use Rattle.v_lex.specs.declared.directive.Content.{Content}
use Rattle.v_lex.specs.declared.directive.Content.TheVariants as content
use Rattle.v_lex.specs.Lexing.{State, after_content, after_directive, start}
use Rattle.v_lex.specs.Row.{Part}
use Rattle.v_lex.specs.Conditionals.{state_after}
use Rattle.v_lex.specs.Defines.{Defines, Leaves, IsDefinedLast, IsDefined}

-- ---- one part

abbrev defining : List ℕ → Content
defining name = content.Directive (directive.Define name)

abbrev undefining : List ℕ → Content
undefining name = content.Directive (directive.Undef name)

abbrev is_define : Content → Bool
is_define (content.Directive (directive.Define name)) = true
is_define _ = false

abbrev is_undef : Content → Bool
is_undef (content.Directive (directive.Undef name)) = true
is_undef _ = false

abbrev name_in : Content → List ℕ
name_in (content.Directive (directive.Define name)) = name
name_in (content.Directive (directive.Undef name)) = name
name_in _ = []

-- A part defines the name, undefines it or leaves it, and so it is then.
abbrev Effect : State → ℕ → List ℕ → Content → Type 0
Effect s place name c =
    ((c ≡ defining name) × ((after_content s place c).defined name ≡ true))
    ⊎ (((c ≡ undefining name) × ((after_content s place c).defined name ≡ false))
    ⊎ ((c ≢ defining name) × (c ≢ undefining name) × ((after_content s place c).defined name ≡ s.defined name)))

other_name : (name other : List ℕ) → bytes_eq other name ≡ false → other ≢ name
other_name name other e = λ h. false≢true (sym e ∙ (bytes_eq-Decides other name).1 h)

not_define : (c : Content) (name : List ℕ) → is_define c ≡ false → c ≢ defining name
not_define c name e = λ h. false≢true (sym e ∙ ap (λ (x : Content). is_define x) h)

not_undef : (c : Content) (name : List ℕ) → is_undef c ≡ false → c ≢ undefining name
not_undef c name e = λ h. false≢true (sym e ∙ ap (λ (x : Content). is_undef x) h)

effect : (s : State) (place : ℕ) (name : List ℕ) (c : Content) → Effect s place name c
unfolding after_content after_directive
effect s place name (content.Directive (directive.Define other)) = go (bytes_eq other name) refl
  where
    go : (b : Bool) → bytes_eq other name ≡ b → Effect s place name (defining other)
    go true e = inl (ap (λ (n : List ℕ). defining n) ((bytes_eq-Decides other name).0 e), rw e refl)
    go false e =
        inr (inr (λ h. other_name name other e (ap (λ (x : Content). name_in x) h), not_undef (defining other) name refl, rw e refl))
effect s place name (content.Directive (directive.Undef other)) = go (bytes_eq other name) refl
  where
    go : (b : Bool) → bytes_eq other name ≡ b → Effect s place name (undefining other)
    go true e = inr (inl (ap (λ (n : List ℕ). undefining n) ((bytes_eq-Decides other name).0 e), rw e refl))
    go false e =
        inr (inr (not_define (undefining other) name refl, λ h. other_name name other e (ap (λ (x : Content). name_in x) h), rw e refl))
effect s place name c = inr (inr (not_define c name refl, not_undef c name refl, refl))

-- ---- the parts of a text

-- the last `define` or `undef` of the name is a `define`, or the name is defined before and there is none
abbrev IsLeftDefined : State → List ℕ → List Part → Type 0
IsLeftDefined s name ps = IsDefinedLast name ps ⊎ (All (Leaves name) ps × (s.defined name ≡ true))

one_before : (name : List ℕ) (p : Part) (ps : List Part) → IsDefinedLast name ps → IsDefinedLast name (p ∷ ps)
one_before name p ps h = record {
  before = p ∷ h.before;
  part = h.part;
  behind = h.behind;
  is = ap (λ (xs : List Part). p ∷ xs) h.is;
  defines = h.defines;
  leave = h.leave;
}

is_left : (s : State) (place : ℕ) (name : List ℕ) (ps : List Part) → (state_after s place ps).defined name ≡ true
    → IsLeftDefined s name ps
unfolding state_after
is_left s place name [] h = inr (All-nil (Leaves name), h)
is_left s place name (p ∷ ps) h =
    go (is_left (after_content s place p.content) (place + length p.bytes) name ps h) (effect s place name p.content)
  where
    go : IsLeftDefined (after_content s place p.content) name ps → Effect s place name p.content → IsLeftDefined s name (p ∷ ps)
    go (inl l) e = inl (one_before name p ps l)
    go (inr l) (inl e) = inl (record { before = []; part = p; behind = ps; is = refl; defines = e.0; leave = l.0 })
    go (inr l) (inr (inl e)) = absurd (false≢true (sym e.1 ∙ l.1))
    go (inr l) (inr (inr e)) = inr (All-cons (Leaves name) p ps (e.0, e.1) l.0, sym e.2 ∙ l.1)

tail_leaves : (name : List ℕ) (p : Part) (ps : List Part) → All (Leaves name) (p ∷ ps) → All (Leaves name) ps
tail_leaves name p ps h = λ k d less. h (suc k) d (omega arith)

left_as_it_was : (s : State) (place : ℕ) (name : List ℕ) (ps : List Part) → All (Leaves name) ps
    → (state_after s place ps).defined name ≡ s.defined name
unfolding state_after
left_as_it_was s place name [] h = refl
left_as_it_was s place name (p ∷ ps) h =
    left_as_it_was (after_content s place p.content) (place + length p.bytes) name ps (tail_leaves name p ps h)
    ∙ go (effect s place name p.content)
  where
    leaves : Leaves name p
    leaves = h 0 p (omega arith)

    go : Effect s place name p.content → (after_content s place p.content).defined name ≡ s.defined name
    go (inl e) = absurd (leaves.0 e.0)
    go (inr (inl e)) = absurd (leaves.1 e.0)
    go (inr (inr e)) = e.2

defined_last : (s : State) (place : ℕ) (name : List ℕ) (before : List Part) (p : Part) (ps : List Part) → Defines name p
    → All (Leaves name) ps → (state_after s place (before ++ p ∷ ps)).defined name ≡ true
unfolding state_after
defined_last s place name [] p ps d h =
    left_as_it_was (after_content s place p.content) (place + length p.bytes) name ps h ∙ go (effect s place name p.content)
  where
    go : Effect s place name p.content → (after_content s place p.content).defined name ≡ true
    go (inl e) = e.1
    go (inr (inl e)) = absurd (not_undef (defining name) name refl (sym d ∙ e.0))
    go (inr (inr e)) = absurd (e.0 d)
defined_last s place name (q ∷ qs) p ps d h = defined_last (after_content s place q.content) (place + length q.bytes) name qs p ps d h

-- ---- from the start of a text on

at_start : (name : List ℕ) → start.defined name ≡ true → name ≡ codes "COCOTB_SIM"
unfolding start
at_start name h = go (bytes_eq (codes "COCOTB_SIM") name) refl h
  where
    go : (b : Bool) → bytes_eq (codes "COCOTB_SIM") name ≡ b → (if b then true else false) ≡ true → name ≡ codes "COCOTB_SIM"
    go true e k = sym ((bytes_eq-Decides (codes "COCOTB_SIM") name).0 e)
    go false e k = absurd (false≢true k)

start_defines : (name : List ℕ) → name ≡ codes "COCOTB_SIM" → start.defined name ≡ true
unfolding start
start_defines name e = rw ((bytes_eq-Decides (codes "COCOTB_SIM") name).1 (sym e)) refl

pub is_defined : (name : List ℕ) (ps : List Part) → (state_after start 0 ps).defined name ≡ true → IsDefined name ps
is_defined name ps h = go (is_left start 0 name ps h)
  where
    go : IsLeftDefined start name ps → IsDefined name ps
    go (inl l) = inl l
    go (inr l) = inr (l.0, at_start name l.1)

pub defined_is : (name : List ℕ) (ps : List Part) → IsDefined name ps → (state_after start 0 ps).defined name ≡ true
defined_is name ps (inl l) =
    ap (λ (xs : List Part). (state_after start 0 xs).defined name) l.is
    ∙ defined_last start 0 name l.before l.part l.behind l.defines l.leave
defined_is name ps (inr l) = left_as_it_was start 0 name ps l.0 ∙ start_defines name l.1
