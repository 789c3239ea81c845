-- A statement and its `else`, which belongs to the nearest `if`.
use Rattle.std.proofs.Common.{◌≡◌, ℕ, ◌≤◌, ◌<◌, Bool, true, false, List, length, Option, Some, None, Ok, Err, refl, sym, ap, subst, ◌∙◌, arith, ◌⊎◌, inl, inr, if◌then◌else◌}
use Rattle.v_syntax.specs.declared.token.Token.{Token}
use Rattle.v_syntax.specs.declared.word.Keyword.TheVariants as word
use Rattle.v_syntax.specs.StatementTrees.{StatementTree}
use Rattle.v_syntax.specs.Statements.{IsClosed, WholeBranches}
use Rattle.v_syntax.specs.Statements as rule
use Rattle.v_syntax.specs.Phrases.{Phrase}
use Rattle.v_syntax.specs.Phrases as phrase
use Rattle.v_expression.specs.Phrase.Stops.{Stop, TooDeep, Answer, ◌>>=◌}
use Rattle.v_expression.proofs.PhraseLemmas.Suffixes.{at_most_or_more}
use Rattle.v_expression.proofs.PhraseLemmas.Extends.{Extends, extends_then}
use Rattle.v_expression.proofs.PhraseLemmas.Passes.{Passes, passes_more, passes_then}
use Rattle.v_expression.proofs.PhraseLemmas.Suffixes.{IsSuffix, suffix_trans, suffix_within}
use Rattle.v_expression.specs.Phrase.Readers.{Reader, is_word, starts_with}
use Rattle.v_expression.specs.Phrase.Readers as read
use Rattle.v_expression.specs.Phrase.Kinds.{kind_at, Kinds, any_kind, a_word}
use Rattle.v_expression.proofs.PhraseLemmas.KindLaws.{true_or_false, tells_word}
use Rattle.v_expression.proofs.PhraseLemmas.Laws.{left, Goes, Reached, Starts, Takes, Spells, Laws, ok_same, ok_err, err_ok, err_same}
use Rattle.v_expression.proofs.PhraseLemmas.Tokens.{word_laws, as_long}
use Rattle.v_expression.proofs.PhraseLemmas.Both.{both_by, both_spells}
use Rattle.v_expression.proofs.PhraseLemmas.Change.{rewhole}

abbrev pub at_else : List Token → Bool
at_else rest = a_word word.Else (kind_at rest)

-- An `else` behind it is none of its own.
abbrev pub Ends : StatementTree → List Token → Type 0
Ends x rest = at_else rest ≡ true → IsClosed x

-- a statement that is read to its end
abbrev pub ended : Phrase Token StatementTree → Phrase Token StatementTree
ended s = record { whole = λ x here rest. s.whole x here rest × Ends x rest; front = λ here rest. s.front here rest; missing = s.missing }

-- an `else` and a statement
abbrev pub otherwise : Phrase Token StatementTree → Phrase Token StatementTree
otherwise s = phrase.both (λ x y. y) (rule.word_of word.Else) s

abbrev pub EndedBranches : Phrase Token StatementTree → StatementTree × Option StatementTree → List Token → List Token → Type 0
EndedBranches s (x, None) here rest = s.whole x here rest × (at_else rest ≡ true → ⊥)
EndedBranches s (x, Some y) here rest = (mid : List Token) × s.whole x here mid × IsClosed x × (otherwise s).whole y mid rest × Ends y rest

abbrev pub ended_branches : Phrase Token StatementTree → Phrase Token (StatementTree × Option StatementTree)
ended_branches s = record { whole = λ x here rest. EndedBranches s x here rest; front = λ here rest. (rule.branches s).front here rest; missing = s.missing }

-- what stands behind the `else` is read to its end
with_end : (s : Phrase Token StatementTree) (y : StatementTree) (here rest : List Token) → (otherwise s).whole y here rest → Ends y rest → (otherwise (ended s)).whole y here rest
with_end s y here rest (u, x, mid, e, w, q) o = (u, x, mid, e, (w, subst (λ z. Ends z rest) (sym q) o), q)

without_end : (s : Phrase Token StatementTree) (y : StatementTree) (here rest : List Token) → (otherwise (ended s)).whole y here rest → (otherwise s).whole y here rest × Ends y rest
without_end s y here rest (u, x, mid, e, (w, o), q) = ((u, x, mid, e, w, q), subst (λ z. Ends z rest) q o)

module _ (n : ℕ) {P : ℕ → Phrase Token StatementTree} {s : Kinds} {p : ℕ → Reader StatementTree} (l : Laws n (λ m. ended (P m)) s false any_kind p) where
  abbrev other : ℕ → Reader StatementTree
  other m = read.both (λ x y. y) (read.exactly (is_word word.Else)) (p m)

  el : Laws n (λ m. otherwise (ended (P m))) (a_word word.Else) false any_kind other
  el = both_by (λ x y. y) n (word_laws word.Else n) l (λ k h. refl)

  abbrev B : ℕ → Phrase Token (StatementTree × Option StatementTree)
  B m = ended_branches (P m)

  abbrev r : ℕ → Reader (StatementTree × Option StatementTree)
  r m = read.branches (p m)

  -- ---- trees

  closed_full : (x : StatementTree) (here mid : List Token) → (P n).whole x here mid → IsClosed x → (P n).front here mid
  closed_full x here mid w c = l.spells.full x here mid (w, λ h. c)

  taken : (x : StatementTree) (here mid : List Token) → (ended (P n)).whole x here mid → (s (kind_at here) ≡ true) × (length mid < length here)
  taken x here mid w = go (l.spells.begun x here mid w)
    where
      go : Takes s false here mid → (s (kind_at here) ≡ true) × (length mid < length here)
      go (inl (e, h)) = absurd (let f : false ≡ true = e in cc)
      go (inr h) = h

  branches_full : (x : StatementTree × Option StatementTree) (here rest : List Token) → (B n).whole x here rest → (B n).front here rest
  branches_full (x, None) here rest (w, o) = inl (l.spells.full x here rest (w, λ h. absurd (o h)))
  branches_full (x, Some y) here rest (mid, w, c, v, o) = inr (x, mid, w, c, el.spells.full y mid rest (with_end (P n) y mid rest v o))

  branches_roomy : (here rest : List Token) → (B n).front here rest → (P n).missing
  branches_roomy here rest (inl f) = l.spells.roomy here rest f
  branches_roomy here rest (inr (x, mid, w, c, f)) = l.spells.roomy here mid (closed_full x here mid w c)

  branches_higher : (m : ℕ) (here rest : List Token) → n ≤ m → (B n).front here rest → (B m).front here rest
  branches_higher m here rest h (inl f) = inl (l.spells.higher m here rest h f)
  branches_higher m here rest h (inr (x, mid, w, c, f)) = inr (x, mid, (l.spells.taller m x here mid h (w, λ h. c)).0, c, el.spells.higher m mid rest h f)

  branches_taller : (m : ℕ) (x : StatementTree × Option StatementTree) (here rest : List Token) → n ≤ m → (B n).whole x here rest → (B m).whole x here rest
  branches_taller m (x, None) here rest h (w, o) = ((l.spells.taller m x here rest h (w, λ h. absurd (o h))).0, o)
  branches_taller m (x, Some y) here rest h (mid, w, c, v, o) =
      (mid, (l.spells.taller m x here mid h (w, λ h. c)).0, c, (without_end (P m) y mid rest (el.spells.taller m y mid rest h (with_end (P n) y mid rest v o))).0, o)

  branches_between : (here rest : List Token) → (B n).front here rest → IsSuffix rest here
  branches_between here rest (inl f) = l.spells.between here rest f
  branches_between here rest (inr (x, mid, w, c, f)) = suffix_trans rest mid here (el.spells.between mid rest f) (l.spells.between here mid (closed_full x here mid w c))

  branches_shorter : (here rest mid : List Token) → (B n).front here rest → IsSuffix mid here → length rest ≤ length mid → (B n).front here mid
  branches_shorter here rest mid (inl f) z k = inl (l.spells.shorter here rest mid f z k)
  branches_shorter here rest mid (inr (x, us, w, c, f)) z k = go (at_most_or_more (length us) (length mid))
    where
      go : (length us ≤ length mid) ⊎ (length mid < length us) → (B n).front here mid
      go (inl h) = inl (l.spells.shorter here us mid (closed_full x here us w c) z h)
      go (inr h) = inr (x, us, w, c, el.spells.shorter us rest mid f (suffix_within here us mid (l.spells.between here us (closed_full x here us w c)) z (omega arith)) k)

  branches_starting : (here rest : List Token) → (B n).front here rest → Starts s here rest
  branches_starting here rest (inl f) = l.spells.starting here rest f
  branches_starting here rest (inr (x, mid, w, c, f)) = inr (taken x here mid (w, λ h. c)).0

  other_taken : (y : StatementTree) (mid rest : List Token) → (otherwise (ended (P n))).whole y mid rest → (at_else mid ≡ true) × (length rest < length mid)
  other_taken y mid rest w = go (el.spells.begun y mid rest w)
    where
      go : Takes (a_word word.Else) false mid rest → (at_else mid ≡ true) × (length rest < length mid)
      go (inl (e, h)) = absurd (let f : false ≡ true = e in cc)
      go (inr h) = h

  branches_begun : (x : StatementTree × Option StatementTree) (here rest : List Token) → (B n).whole x here rest → Takes s false here rest
  branches_begun (x, None) here rest (w, o) = l.spells.begun x here rest (w, λ h. absurd (o h))
  branches_begun (x, Some y) here rest (mid, w, c, v, o) =
      let d = taken x here mid (w, λ h. c) in
      let e = other_taken y mid rest (with_end (P n) y mid rest v o) in
      inr (d.0, omega (arith, d.1, e.1))

  branches_spells : Spells n (λ m. ended_branches (P m)) s false
  branches_spells = record {
    full = branches_full;
    none = λ here k. inl (l.spells.none here k);
    roomy = branches_roomy;
    higher = branches_higher;
    taller = branches_taller;
    more = λ m h k. l.spells.more m h k;
    between = branches_between;
    shorter = branches_shorter;
    starting = branches_starting;
    begun = branches_begun;
  }

  -- ---- readers

  abbrev joined : StatementTree → StatementTree × List Token → Answer (StatementTree × Option StatementTree)
  joined x y = Ok ((x, Some y.0), y.1)

  reads_other : (m : ℕ) (here : List Token) (x : StatementTree) (mid : List Token) → p m here ≡ Ok (x, mid) → at_else mid ≡ true → r m here ≡ (other m mid >>= joined x)
  reads_other m here x mid e h = rw (e, tells_word word.Else mid, h) refl

  reads_one : (m : ℕ) (here : List Token) (x : StatementTree) (mid : List Token) → p m here ≡ Ok (x, mid) → at_else mid ≡ false → r m here ≡ Ok ((x, None), mid)
  reads_one m here x mid e h = rw (e, tells_word word.Else mid, h) refl

  reads_stop : (m : ℕ) (here : List Token) (stop : Stop) → p m here ≡ Err stop → r m here ≡ Err stop
  reads_stop m here stop e = rw e refl

  -- how reading goes
  abbrev Course : List Token → Type 0
  Course here = ((stop : Stop) × (p n here ≡ Err stop)) ⊎ ((x : StatementTree) × (mid : List Token) × (p n here ≡ Ok (x, mid)) × ((at_else mid ≡ true) ⊎ (at_else mid ≡ false)))

  course : (here : List Token) → Course here
  course here = go (p n here) refl
    where
      go : (a : Answer StatementTree) → p n here ≡ a → Course here
      go (Ok (x, mid)) e = inr (x, mid, e, true_or_false (at_else mid))
      go (Err stop) e = inl (stop, e)

  joined_ok : (x : StatementTree) (a : Answer StatementTree) (z : StatementTree × Option StatementTree) (rest : List Token) → (a >>= joined x) ≡ Ok (z, rest) → (y : StatementTree) × (us : List Token) × (a ≡ Ok (y, us)) × ((x, Some y) ≡ z) × (us ≡ rest)
  joined_ok x (Ok (y, us)) z rest e = let d = ok_same (x, Some y) z us rest e in (y, us, refl, d.0, d.1)
  joined_ok x (Err stop) z rest e = absurd (err_ok (z, rest) stop e)

  joined_err : (x : StatementTree) (a : Answer StatementTree) (stop : Stop) → (a >>= joined x) ≡ Err stop → a ≡ Err stop
  joined_err x (Ok y) stop e = absurd (ok_err ((x, Some y.0), y.1) stop e)
  joined_err x (Err k) stop e = ap (λ z. Err z) (err_same {A = StatementTree × Option StatementTree} k stop e)

  branches_sound : (here : List Token) (z : StatementTree × Option StatementTree) (rest : List Token) → r n here ≡ Ok (z, rest) → (B n).whole z here rest
  branches_sound here z rest e = go (course here)
    where
      go : Course here → (B n).whole z here rest
      go (inl (stop, h)) = absurd (err_ok (z, rest) stop (sym (reads_stop n here stop h) ∙ e))
      go (inr (x, mid, h, inl k)) =
          let d = joined_ok x (other n mid) z rest (sym (reads_other n here x mid h k) ∙ e) in
          let w = l.reads.sound here x mid h in
          let v = without_end (P n) d.0 mid d.1 (el.reads.sound mid d.0 d.1 d.2) in
          subst (λ a. EndedBranches (P n) a here rest) d.3 (subst (λ us. EndedBranches (P n) (x, Some d.0) here us) d.4 (mid, w.0, w.1 k, v.0, v.1))
      go (inr (x, mid, h, inr k)) =
          let d = ok_same (x, None) z mid rest (sym (reads_one n here x mid h k) ∙ e) in
          let w = l.reads.sound here x mid h in
          subst (λ a. EndedBranches (P n) a here rest) d.0 (subst (λ us. EndedBranches (P n) (x, None) here us) d.1 (w.0, λ i. absurd (let f : true ≡ false = sym i ∙ k in cc)))

  branches_near : (here : List Token) (stop : Stop) → (P n).missing → r n here ≡ Err stop → Reached (B n) here (left stop)
  branches_near here stop m e = go (course here)
    where
      go : Course here → Reached (B n) here (left stop)
      go (inl (k, h)) = let d = l.reads.near here stop m (h ∙ ap (λ z. Err z) (err_same {A = StatementTree × Option StatementTree} k stop (sym (reads_stop n here k h) ∙ e))) in (d.0, inl d.1, d.2)
      go (inr (x, mid, h, inl k)) =
          let w = l.reads.sound here x mid h in
          let d = el.reads.near mid stop (tt, m) (joined_err x (other n mid) stop (sym (reads_other n here x mid h k) ∙ e)) in
          (d.0, inr (x, mid, w.0, w.1 k, d.1), d.2)
      go (inr (x, mid, h, inr k)) = absurd (ok_err ((x, None), mid) stop (sym (reads_one n here x mid h k) ∙ e))

  branches_through : (here : List Token) (j : ℕ) → (P n).missing → r n here ≡ Err (TooDeep j) → Goes n B here j
  branches_through here j m e = go (course here)
    where
      go : Course here → Goes n B here j
      go (inl (k, h)) = let d = l.reads.through here j m (h ∙ ap (λ z. Err z) (err_same {A = StatementTree × Option StatementTree} k (TooDeep j) (sym (reads_stop n here k h) ∙ e))) in (d.0, d.1, d.2, inl d.3, d.4)
      go (inr (x, mid, h, inl k)) =
          let w = l.reads.sound here x mid h in
          let d = el.reads.through mid j (tt, m) (joined_err x (other n mid) (TooDeep j) (sym (reads_other n here x mid h k) ∙ e)) in
          (d.0, d.1, d.2, inr (x, mid, (l.spells.taller d.0 x here mid d.1 w).0, w.1 k, d.3), d.4)
      go (inr (x, mid, h, inr k)) = absurd (ok_err ((x, None), mid) (TooDeep j) (sym (reads_one n here x mid h k) ∙ e))

  abbrev next : ℕ → StatementTree × List Token → Answer (StatementTree × Option StatementTree)
  next m x = if starts_with (is_word word.Else) x.1 then (other m x.1 >>= joined x.0) else Ok ((x.0, None), x.1)

  next_kept : (m : ℕ) → n ≤ m → (x : StatementTree × List Token) → Extends (next n x) (next m x)
  next_kept m h x = go (true_or_false (starts_with (is_word word.Else) x.1))
    where
      go : (starts_with (is_word word.Else) x.1 ≡ true) ⊎ (starts_with (is_word word.Else) x.1 ≡ false) → Extends (next n x) (next m x)
      go (inl k) = rw k (extends_then (joined x.0) (joined x.0) (λ y. refl) (other n x.1) (other m x.1) (el.reads.kept m x.1 h))
      go (inr k) = rw k refl

  branches_kept : (m : ℕ) (here : List Token) → n ≤ m → Extends (r n here) (r m here)
  branches_kept m here h = extends_then (next n) (next m) (next_kept m h) (p n here) (p m here) (l.reads.kept m here h)

  branches_again : (z : StatementTree × Option StatementTree) (here rest : List Token) → (B n).whole z here rest → r n here ≡ Ok (z, rest)
  branches_again (x, None) here rest (w, o) = go (true_or_false (at_else rest))
    where
      go : (at_else rest ≡ true) ⊎ (at_else rest ≡ false) → r n here ≡ Ok ((x, None), rest)
      go (inl h) = absurd (o h)
      go (inr h) = reads_one n here x rest (l.reads.again x here rest (w, λ h. absurd (o h)) refl) h
  branches_again (x, Some y) here rest (mid, w, c, v, o) =
      let u = with_end (P n) y mid rest v o in
      reads_other n here x mid (l.reads.again x here mid (w, λ h. c) refl) (other_taken y mid rest u).0 ∙ rw (el.reads.again y mid rest u refl) refl

  next_passes : (x : StatementTree) (us : List Token) (k : ℕ) → length us ≤ k → Passes k (next n (x, us))
  next_passes x us k h = go (true_or_false (starts_with (is_word word.Else) us))
    where
      go : (starts_with (is_word word.Else) us ≡ true) ⊎ (starts_with (is_word word.Else) us ≡ false) → Passes k (next n (x, us))
      go (inl i) = rw i (passes_then k (joined x) (λ y vs z. z) (other n us) (passes_more (length us) k (other n us) h (el.reads.forward us)))
      go (inr i) = rw i h

  branches_forward : (here : List Token) → Passes (length here) (r n here)
  branches_forward here = passes_then (length here) (next n) (λ x us h. next_passes x us (length here) h) (p n here) (l.reads.forward here)

  branches_far : (here rest : List Token) → (B n).front here rest → Passes (length rest) (r n here)
  branches_far here rest (inl f) = passes_then (length rest) (next n) (λ x us h. next_passes x us (length rest) h) (p n here) (l.reads.far here rest f)
  branches_far here rest (inr (x, mid, w, c, f)) = go (el.spells.starting mid rest f)
    where
      go : Starts (a_word word.Else) mid rest → Passes (length rest) (r n here)
      go (inl e) = passes_then (length rest) (next n) (λ x us h. next_passes x us (length rest) h) (p n here) (passes_more (length mid) (length rest) (p n here) (as_long mid rest e) (l.reads.far here mid (closed_full x here mid w c)))
      go (inr h) = rw (reads_other n here x mid (l.reads.again x here mid (w, λ h. c) refl) h) (passes_then (length rest) (joined x) (λ y vs z. z) (other n mid) (el.reads.far mid rest f))

  pub branches_laws : Laws n (λ m. ended_branches (P m)) s false any_kind (λ m. read.branches (p m))
  branches_laws = record {
    spells = branches_spells;
    reads = record {
      sound = branches_sound;
      near = branches_near;
      through = branches_through;
      kept = branches_kept;
      again = λ x here rest w h. branches_again x here rest w;
      forward = branches_forward;
      far = branches_far;
    };
  }

-- ---- a statement that is read to its end, and a statement

-- one that no `else` belongs to
pub closed_laws : {n : ℕ} {P : ℕ → Phrase Token StatementTree} {s t : Kinds} {e : Bool} {p : ℕ → Reader StatementTree} → Laws n P s e t p → ((m : ℕ) (x : StatementTree) (here rest : List Token) → (P m).whole x here rest → IsClosed x)
    → Laws n (λ m. ended (P m)) s e t p
closed_laws {P = P} l closed = rewhole l (λ m x here rest. (P m).whole x here rest × Ends x rest) (λ m x here rest w. (w, λ h. closed m x here rest w)) (λ m x here rest w. w.0)

-- before another token than `else`
abbrev pub no_else : Kinds
no_else k = if a_word word.Else k then false else true

not_else : (rest : List Token) → no_else (kind_at rest) ≡ true → at_else rest ≡ true → ⊥
not_else rest h k = let e : (if true then false else true) ≡ true = rw k at h in let f : false ≡ true = e in cc

pub plain_laws : {n : ℕ} {P : ℕ → Phrase Token StatementTree} {s : Kinds} {e : Bool} {p : ℕ → Reader StatementTree} → Spells n P s e → Laws n (λ m. ended (P m)) s e any_kind p → Laws n P s e no_else p
plain_laws q l = record {
  spells = q;
  reads = record {
    sound = λ here x rest h. (l.reads.sound here x rest h).0;
    near = l.reads.near;
    through = l.reads.through;
    kept = l.reads.kept;
    again = λ x here rest w h. l.reads.again x here rest (w, λ k. absurd (not_else rest h k)) refl;
    forward = l.reads.forward;
    far = l.reads.far;
  };
}

-- ---- trees alone

module _ (n : ℕ) {P : ℕ → Phrase Token StatementTree} {s : Kinds} (q : Spells n P s false) where
  other_spells : Spells n (λ m. otherwise (P m)) (a_word word.Else) false
  other_spells = both_spells (λ x y. y) n (word_laws word.Else n).spells q

  abbrev C : ℕ → Phrase Token (StatementTree × Option StatementTree)
  C m = rule.branches (P m)

  takes : {A : Type 0} (P : ℕ → Phrase Token A) (s : Kinds) → Spells n P s false → (x : A) (here mid : List Token) → (P n).whole x here mid → (s (kind_at here) ≡ true) × (length mid < length here)
  takes P s q x here mid w = go (q.begun x here mid w)
    where
      go : Takes s false here mid → (s (kind_at here) ≡ true) × (length mid < length here)
      go (inl (e, h)) = absurd (let f : false ≡ true = e in cc)
      go (inr h) = h

  plain_full : (x : StatementTree × Option StatementTree) (here rest : List Token) → (C n).whole x here rest → (C n).front here rest
  plain_full (x, None) here rest w = inl (q.full x here rest w)
  plain_full (x, Some y) here rest (mid, w, c, v) = inr (x, mid, w, c, other_spells.full y mid rest v)

  plain_roomy : (here rest : List Token) → (C n).front here rest → (P n).missing
  plain_roomy here rest (inl f) = q.roomy here rest f
  plain_roomy here rest (inr (x, mid, w, c, f)) = q.roomy here mid (q.full x here mid w)

  plain_higher : (m : ℕ) (here rest : List Token) → n ≤ m → (C n).front here rest → (C m).front here rest
  plain_higher m here rest h (inl f) = inl (q.higher m here rest h f)
  plain_higher m here rest h (inr (x, mid, w, c, f)) = inr (x, mid, q.taller m x here mid h w, c, other_spells.higher m mid rest h f)

  plain_taller : (m : ℕ) (x : StatementTree × Option StatementTree) (here rest : List Token) → n ≤ m → (C n).whole x here rest → (C m).whole x here rest
  plain_taller m (x, None) here rest h w = q.taller m x here rest h w
  plain_taller m (x, Some y) here rest h (mid, w, c, v) = (mid, q.taller m x here mid h w, c, other_spells.taller m y mid rest h v)

  plain_between : (here rest : List Token) → (C n).front here rest → IsSuffix rest here
  plain_between here rest (inl f) = q.between here rest f
  plain_between here rest (inr (x, mid, w, c, f)) = suffix_trans rest mid here (other_spells.between mid rest f) (q.between here mid (q.full x here mid w))

  plain_shorter : (here rest mid : List Token) → (C n).front here rest → IsSuffix mid here → length rest ≤ length mid → (C n).front here mid
  plain_shorter here rest mid (inl f) z k = inl (q.shorter here rest mid f z k)
  plain_shorter here rest mid (inr (x, us, w, c, f)) z k = go (at_most_or_more (length us) (length mid))
    where
      go : (length us ≤ length mid) ⊎ (length mid < length us) → (C n).front here mid
      go (inl h) = inl (q.shorter here us mid (q.full x here us w) z h)
      go (inr h) = inr (x, us, w, c, other_spells.shorter us rest mid f (suffix_within here us mid (q.between here us (q.full x here us w)) z (omega arith)) k)

  plain_starting : (here rest : List Token) → (C n).front here rest → Starts s here rest
  plain_starting here rest (inl f) = q.starting here rest f
  plain_starting here rest (inr (x, mid, w, c, f)) = inr (takes P s q x here mid w).0

  plain_begun : (x : StatementTree × Option StatementTree) (here rest : List Token) → (C n).whole x here rest → Takes s false here rest
  plain_begun (x, None) here rest w = q.begun x here rest w
  plain_begun (x, Some y) here rest (mid, w, c, v) =
      let d = takes P s q x here mid w in
      let e = takes (λ m. otherwise (P m)) (a_word word.Else) other_spells y mid rest v in
      inr (d.0, omega (arith, d.1, e.1))

  pub plain_spells : Spells n (λ m. rule.branches (P m)) s false
  plain_spells = record {
    full = plain_full;
    none = λ here k. inl (q.none here k);
    roomy = plain_roomy;
    higher = plain_higher;
    taller = plain_taller;
    more = λ m h k. q.more m h k;
    between = plain_between;
    shorter = plain_shorter;
    starting = plain_starting;
    begun = plain_begun;
  }
