-- A means of proof: what the branches of a conditional are, and which of them is taken (IEEE 1364-2005, clause 19.4), for the laws of
-- Verilog's lexer: the first whose condition holds, where what stands around the conditional is taken. The laws of `laws.rt` say that the
-- directives of `Lexing` do so. A part is one of a text's row, as in `Row`; a branch is a directive with the parts up to the conditional's
-- next one.
use Rattle.std.specs.Prelude.{◌≡◌, ◌≢◌, ℕ, ◌+◌, Bool, true, false, not, ◌||◌, List, [], ◌∷◌, ◌++◌, length, ◌⊎◌}
use Rattle.v_lex.specs.declared.directive.Directive.TheVariants as directive
use Rattle.v_lex.specs.declared.directive.LexRule.TheVariants as rule
use Rattle.v_lex.specs.declared.directive.Content.{Content}
use Rattle.v_lex.specs.declared.directive.Content.TheVariants as content
use Rattle.v_lex.specs.Directives.{BeginsConditional}
use Rattle.v_lex.specs.Lexing.{State, is_taken, after_content}
use Rattle.v_lex.specs.Row.{Part}

-- the state behind these parts
unfoldable pub state_after : State → ℕ → List Part → State
state_after s place [] = s
state_after s place (p ∷ ps) = state_after (after_content s place p.content) (place + length p.bytes) ps

-- the place behind these parts
abbrev pub place_behind : ℕ → List Part → ℕ
place_behind place [] = place
place_behind place (p ∷ ps) = place_behind (place + length p.bytes) ps

-- ---- the directives of conditionals

-- what a part is to conditionals
pub data Role : Type 0 where
  Opening : Role
  ElsIf : Role
  Else : Role
  Closing : Role
  Plain : Role

-- A conditional without a name is opened, too.
abbrev pub role_of : Content → Role
role_of (content.Directive (directive.IfDef name)) = Opening
role_of (content.Directive (directive.IfNDef name)) = Opening
role_of (content.Directive directive.Unnamed) = Opening
role_of (content.Directive (directive.ElsIf name)) = ElsIf
role_of (content.Directive directive.Else) = Else
role_of (content.Directive directive.EndIf) = Closing
role_of _ = Plain

-- the directive of a branch behind the first
abbrev pub IsFurther : Role → Type 0
IsFurther r = (r ≡ ElsIf) ⊎ (r ≡ Else)

-- The part is no broken rule, and no directive that is broken or lacks its name.
abbrev pub is_unbroken : Content → Bool
is_unbroken (content.Broken r) = false
is_unbroken (content.Directive directive.Unnamed) = false
is_unbroken (content.Directive directive.Broken) = false
is_unbroken _ = true

-- What a part may hold that isn't taken, where this text begins with the part: a separator, a comment or skipped bytes, a comment
-- that isn't closed, or a directive of a conditional, which without its name may be broken. So it is no token, and no `define` or
-- `timescale`.
abbrev pub MayBeSkipped : Content → List ℕ → Type 0
MayBeSkipped content.Gap text = Unit {0}
MayBeSkipped (content.Broken rule.UnclosedText) text = Unit {0}
MayBeSkipped (content.Directive directive.Broken) text = BeginsConditional text
MayBeSkipped c text = role_of c ≢ Plain

-- The condition of a directive, with these names defined: of `ifdef X` and `elsif X` that X is defined, of `ifndef X` that it
-- isn't; an `else` has none, so that it holds. A conditional whose name is missing has no condition that holds.
abbrev pub holds : State → Content → Bool
holds s (content.Directive (directive.IfDef name)) = s.defined name
holds s (content.Directive (directive.IfNDef name)) = not (s.defined name)
holds s (content.Directive (directive.ElsIf name)) = s.defined name
holds s (content.Directive directive.Else) = true
holds s _ = false

-- ---- whole conditionals

-- The grammar of clause 19.4: a conditional is an `ifdef` or `ifndef`, a group, any number of `elsif`s with a group each, an `else`
-- with a group where there is one, and an `endif`; a group is parts that are no directive of a conditional, and whole conditionals.
mutual
  pub data IsGroup : List Part → Type 0 where
    NoPart : IsGroup []
    OnePart : (p : Part) (ps : List Part) → role_of p.content ≡ Plain → IsGroup ps → IsGroup (p ∷ ps)
    OneConditional : (p : Part) (group rest ps : List Part)
        → role_of p.content ≡ Opening → IsGroup group → IsRest false rest → IsGroup ps → IsGroup (p ∷ group ++ (rest ++ ps))

  -- what of a conditional stands behind one of its branches; `true`: that is its `else`
  pub data IsRest : Bool → List Part → Type 0 where
    OneElsIf : (p : Part) (group rest : List Part)
        → role_of p.content ≡ ElsIf → IsGroup group → IsRest false rest → IsRest false (p ∷ group ++ rest)
    OneElse : (p : Part) (group rest : List Part)
        → role_of p.content ≡ Else → IsGroup group → IsRest true rest → IsRest false (p ∷ group ++ rest)
    EndIf : (has_else : Bool) (p : Part) → role_of p.content ≡ Closing → IsRest has_else (p ∷ [])

-- Parts of a text in which each conditional that is opened is closed, with its `elsif`s and `else`s in any order. `true`: they stand
-- in a conditional, so that an `elsif` or an `else` of its own may stand between them; `false`: none may.
pub data IsClosed : Bool → List Part → Type 0 where
  Ends : (inner : Bool) → IsClosed inner []
  Passes : (inner : Bool) (p : Part) (ps : List Part) → role_of p.content ≡ Plain → IsClosed inner ps → IsClosed inner (p ∷ ps)
  Nests : (inner : Bool) (first last : Part) (inside ps : List Part) → role_of first.content ≡ Opening → role_of last.content ≡ Closing
      → IsClosed true inside → IsClosed inner ps → IsClosed inner (first ∷ inside ++ last ∷ ps)
  Branches : (p : Part) (ps : List Part) → IsFurther (role_of p.content) → IsClosed true ps → IsClosed true (p ∷ ps)

-- ---- the branches of one conditional

-- one branch of a conditional: its directive, and what stands in it
pub record Branch : Type 0 where
  pub directive : Part
  pub body : List Part

-- all parts of a text that the branches of a conditional are
abbrev pub written : List Branch → List Part
written [] = []
written (b ∷ bs) = b.directive ∷ b.body ++ written bs

-- further branches of a conditional, up to the directive of the last
abbrev pub GoOn : List Branch → Part → Type 0
GoOn [] last = IsFurther (role_of last.content)
GoOn (b ∷ bs) last = (role_of b.directive.content ≡ ElsIf) × IsClosed false b.body × GoOn bs last

-- a conditional up to the directive of one of its branches behind the first
abbrev pub IsConditional : Branch → List Branch → Part → Type 0
IsConditional first more last = (role_of first.directive.content ≡ Opening) × IsClosed false first.body × GoOn more last

-- the branch whose directive this is, is taken
abbrev pub is_branch_taken : State → ℕ → Part → Bool
is_branch_taken s place p = is_taken (after_content s place p.content).conditionals

-- one of these branches of a conditional is taken
abbrev pub takes_one : State → ℕ → List Branch → Bool
takes_one s place [] = false
takes_one s place (b ∷ bs) =
    let body = after_content s place b.directive.content in
    let at = place + length b.directive.bytes in
    is_branch_taken s place b.directive || takes_one (state_after body at b.body) (place_behind at b.body) bs
