-- Where a text stands behind a line, by what the code keeps.
use Rattle.std.specs.Prelude.{◌≡◌, ◌⊎◌, ◌||◌, ℕ, zero, suc, Bool, true, false, List, [], ◌∷◌, ◌++◌, length, Option, None, Some, MatchOption, slice_get, bytes_eq, if◌then◌else◌, refl}
use Rattle.std.specs.Option.{option_or}
use Rattle.std.proofs.Common.{ap, sym, subst, ◌∙◌, inl, inr}
use Rattle.std.proofs.lemmas.Bool.{true≢false}
use Rattle.std.proofs.lemmas.Slice.Eq.{bytes_eq-Decides}
use Rattle.name_table.specs.Places.{first_place, noted, nowhere}
use Rattle.vcd_text.specs.Spelling.{code}
use Rattle.vcd_text.specs.Rules.{OpenScope, ReadState, with_name}
use Rattle.vcd_text.specs.Reader.{AreCoded, IsKept, is_there, scope_of}
use Rattle.vcd_text.specs.declared.reader.Known.{Known}
use Rattle.vcd_text.specs.declared.reader.Scope.{Scope}

pub same_scope : (a b : OpenScope) → a.path ≡ b.path → ((name : List ℕ) → a.uses name ≡ b.uses name) → a ≡ b
same_scope a b p u = λ i. record { path = p i; uses = λ name. u name i }

pub same_state : (a b : ReadState) → a.part ≡ b.part → a.scope ≡ b.scope → a.outer ≡ b.outer → a.nodes ≡ b.nodes → a.fresh ≡ b.fresh → a.free ≡ b.free
    → a.known ≡ b.known → a.told ≡ b.told → a.time ≡ b.time → a.waits ≡ b.waits → a.changes ≡ b.changes → a ≡ b
same_state a b p s o n f r k t m w c = λ i. record {
  part = p i;
  scope = s i;
  outer = o i;
  nodes = n i;
  fresh = f i;
  free = r i;
  known = k i;
  told = t i;
  time = m i;
  waits = w i;
  changes = c i;
}

-- ---- names

note_uses : (o : Option ℕ) (b : Bool) (place : ℕ) → is_there (option_or o (if b then Some place else None)) ≡ (b || is_there o)
note_uses None true place = refl
note_uses None false place = refl
note_uses (Some x) true place = refl
note_uses (Some x) false place = refl

-- a name that is noted is used, and others are as before
pub noted_uses : (old new : List (List ℕ × ℕ)) (name : List ℕ) → ((n : List ℕ) → first_place new n ≡ noted name 0 (first_place old) n)
    → (other : List ℕ) → is_there (first_place new other) ≡ (bytes_eq other name || is_there (first_place old other))
noted_uses old new name h other = ap is_there (h other) ∙ note_uses (first_place old other) (bytes_eq other name) 0

pub noted_scope : (old new : Scope) (name : List ℕ) → new.path ≡ old.path → ((n : List ℕ) → first_place new.names n ≡ noted name 0 (first_place old.names) n) → scope_of new ≡ with_name name (scope_of old)
noted_scope old new name p h = same_scope (scope_of new) (with_name name (scope_of old)) p (noted_uses old.names new.names name h)

pub new_scope : (scope : Scope) (path : List ℕ) → scope.path ≡ path → ((name : List ℕ) → is_there (first_place scope.names name) ≡ false) → scope_of scope ≡ record { path = path; uses = λ name. false }
new_scope scope path p h = same_scope (scope_of scope) (record { path = path; uses = λ name. false }) p h

-- ---- signals and codes

pub get_left : {X : Type 0} (xs ys : List X) (i : ℕ) (x : X) → slice_get xs i ≡ Some x → slice_get (xs ++ ys) i ≡ Some x
get_left [] ys i x e = absurd (cc)
get_left (y ∷ xs) ys zero x e = e
get_left (y ∷ xs) ys (suc i) x e = get_left xs ys i x e

pub get_last : {X : Type 0} (xs : List X) (x : X) → slice_get (xs ++ x ∷ []) (length xs) ≡ Some x
get_last [] x = refl
get_last (y ∷ xs) x = get_last xs x

pub get_of_more : {X : Type 0} (xs : List X) (x : X) (i : ℕ) (y : X) → slice_get (xs ++ x ∷ []) i ≡ Some y → (slice_get xs i ≡ Some y) ⊎ (x ≡ y)
get_of_more [] x zero y e = let h : x ≡ y = cc in inr h
get_of_more [] x (suc i) y e = absurd (cc)
get_of_more (z ∷ xs) x zero y e = inl e
get_of_more (z ∷ xs) x (suc i) y e = get_of_more xs x i y e

abbrev Coded : Option ℕ → List Known → List ℕ → Type 0
Coded o known text = MatchOption o ((place : ℕ) (signal : Known) → slice_get known place ≡ Some signal → text ≡ code signal.number → ⊥)
    (λ place. (signal : Known) × (slice_get known place ≡ Some signal) × (text ≡ code signal.number))

coded_more : (known : List Known) (signal : Known) (text : List ℕ) (o : Option ℕ) (b : Bool) → bytes_eq text (code signal.number) ≡ b → Coded o known text
    → Coded (option_or o (if b then Some (length known) else None)) (known ++ signal ∷ []) text
coded_more known signal text (Some place) b e h = (h.0, get_left known (signal ∷ []) place h.0 h.1, h.2)
coded_more known signal text None true e h = (signal, get_last known signal, (bytes_eq-Decides text (code signal.number)).0 e)
coded_more known signal text None false e h = λ place other there is. by place other is (get_of_more known signal place other there)
  where
    by : (place : ℕ) (other : Known) → text ≡ code other.number → (slice_get known place ≡ Some other) ⊎ (signal ≡ other) → ⊥
    by place other is (inl there) = h place other there is
    by place other is (inr same) =
        true≢false (sym ((bytes_eq-Decides text (code signal.number)).1 (is ∙ ap (λ (k : Known). code k.number) (sym same))) ∙ e)

-- the code of one signal more
pub codes_more : (old new : List (List ℕ × ℕ)) (known : List Known) (signal : Known) → AreCoded old known
    → ((n : List ℕ) → first_place new n ≡ noted (code signal.number) (length known) (first_place old) n) → AreCoded new (known ++ signal ∷ [])
codes_more old new known signal h n text =
    subst (λ (o : Option ℕ). Coded o (known ++ signal ∷ []) text) (sym (n text))
    (coded_more known signal text (first_place old text) (bytes_eq text (code signal.number)) refl (h text))

pub codes_same : (old new : List (List ℕ × ℕ)) (known known' : List Known) → known' ≡ known → new ≡ old → AreCoded old known → AreCoded new known'
codes_same old new known known' k c h = subst (λ (l : List Known). AreCoded new l) (sym k) (subst (λ (l : List (List ℕ × ℕ)). AreCoded l known) (sym c) h)

-- no signal is known
nothing : (names : List (List ℕ × ℕ)) → first_place names ≡ nowhere → AreCoded names []
nothing names e text = subst (λ (o : Option ℕ). Coded o [] text) (sym (ap (λ (places : List ℕ → Option ℕ). places text) e)) (λ place signal there is. absurd (cc))

pub kept_none : (names : List (List ℕ × ℕ)) (known : List Known) → first_place names ≡ nowhere → known ≡ [] → IsKept names known 0
kept_none names known n k = subst (λ (l : List Known). IsKept names l 0) (sym k) (record {
  coded = nothing names n;
  numbered = record { below = λ i a e. absurd (cc); apart = λ i j a b p q e. absurd (cc) };
})
