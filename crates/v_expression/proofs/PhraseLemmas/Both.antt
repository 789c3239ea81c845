-- Two phrases one after the other.
use Rattle.std.proofs.Common.{◌≡◌, ℕ, ◌≤◌, ◌<◌, Bool, true, ◌&&◌, List, length, Ok, Err, refl, ap, ◌∙◌, arith, ◌⊎◌, inl, inr}
use Rattle.v_syntax.specs.declared.token.Token.{Token}
use Rattle.v_syntax.specs.Phrases.{Phrase}
use Rattle.v_syntax.specs.Phrases as phrase
use Rattle.v_expression.specs.Phrase.Stops.{Stop, TooDeep, Answer, ◌>>=◌}
use Rattle.v_expression.proofs.PhraseLemmas.Suffixes.{at_most_or_more}
use Rattle.v_expression.proofs.PhraseLemmas.Extends.{Extends, extends_then}
use Rattle.v_expression.proofs.PhraseLemmas.Passes.{Passes, passes_more, passes_then}
use Rattle.v_expression.proofs.PhraseLemmas.Suffixes.{IsSuffix, suffix_trans, suffix_within}
use Rattle.v_expression.specs.Phrase.Readers.{Reader}
use Rattle.v_expression.specs.Phrase.Readers as read
use Rattle.v_expression.specs.Phrase.Kinds.{Kind, kind_at, Kinds, first_of, last_of, Within}
use Rattle.v_expression.proofs.PhraseLemmas.KindLaws.{and_both, in_first, in_second, last_left, last_right, within}
use Rattle.v_expression.proofs.PhraseLemmas.Laws.{left, Goes, Reached, Starts, Takes, Spells, Laws, ok_same, ok_err, err_ok, length_same}

-- ---- what was read

abbrev pub BothRead : {A B C : Type 0} → (A → B → C) → Reader A → Reader B → List Token → C → List Token → Type 0
BothRead {A} {B} make p q here z rest = (x : A) × (y : B) × (mid : List Token) × (p here ≡ Ok (x, mid)) × (q mid ≡ Ok (y, rest)) × (make x y ≡ z)

abbrev pub BothFailed : {A B : Type 0} → Reader A → Reader B → List Token → Stop → Type 0
BothFailed {A} p q here s = (p here ≡ Err s) ⊎ ((x : A) × (mid : List Token) × (p here ≡ Ok (x, mid)) × (q mid ≡ Err s))

abbrev made : {A B C : Type 0} → (A → B → C) → A → B × List Token → Answer C
made make x y = Ok (make x y.0, y.1)

abbrev then_made : {A B C : Type 0} → (A → B → C) → Reader B → A × List Token → Answer C
then_made make q x = q x.1 >>= made make x.0

module _ {A B C : Type 0} (make : A → B → C) (p : Reader A) (q : Reader B) where
  pub both_read : (here : List Token) (z : C) (rest : List Token) → read.both make p q here ≡ Ok (z, rest) → BothRead make p q here z rest
  both_read here z rest e = go (p here) refl e
    where
      then : (x : A) (mid : List Token) (b : Answer B) → p here ≡ Ok (x, mid) → q mid ≡ b → (b >>= made make x) ≡ Ok (z, rest) → BothRead make p q here z rest
      then x mid (Ok (y, us)) h k f = let s = ok_same (make x y) z us rest f in (x, y, mid, h, k ∙ ap (λ v. Ok (y, v)) s.1, s.0)
      then x mid (Err s) h k f = absurd (err_ok (z, rest) s f)

      go : (a : Answer A) → p here ≡ a → (a >>= then_made make q) ≡ Ok (z, rest) → BothRead make p q here z rest
      go (Ok (x, mid)) h f = then x mid (q mid) h refl f
      go (Err s) h f = absurd (err_ok (z, rest) s f)

  pub both_failed : (here : List Token) (s : Stop) → read.both make p q here ≡ Err s → BothFailed p q here s
  both_failed here s e = go (p here) refl e
    where
      then : (x : A) (mid : List Token) (b : Answer B) → p here ≡ Ok (x, mid) → q mid ≡ b → (b >>= made make x) ≡ Err s
          → BothFailed p q here s
      then x mid (Ok (y, us)) h k f = absurd (ok_err (make x y, us) s f)
      then x mid (Err t) h k f = inr (x, mid, h, k ∙ cc)

      go : (a : Answer A) → p here ≡ a → (a >>= then_made make q) ≡ Err s
          → BothFailed p q here s
      go (Ok (x, mid)) h f = then x mid (q mid) h refl f
      go (Err t) h f = inl (h ∙ cc)

-- ---- trees

module _ {A B C : Type 0} (make : A → B → C) (n : ℕ) {P : ℕ → Phrase Token A} {Q : ℕ → Phrase Token B} {sp sq : Kinds} {ep eq : Bool} (p : Spells n P sp ep) (q : Spells n Q sq eq) where
  abbrev R : ℕ → Phrase Token C
  R m = phrase.both make (P m) (Q m)

  start_behind : (here mid rest : List Token) → Takes sp ep here mid → Starts sq mid rest → Starts (first_of ep sp sq) here rest
  start_behind here mid rest (inl (e, h)) (inl k) = inl (h ∙ k)
  start_behind here mid rest (inl (e, h)) (inr k) = inr (in_second ep sp sq (kind_at here) e (ap (λ z. sq (kind_at z)) h ∙ k))
  start_behind here mid rest (inr (h, l)) s = inr (in_first ep sp sq (kind_at here) h)

  both_starting : (here rest : List Token) → (R n).front here rest → Starts (first_of ep sp sq) here rest
  both_starting here rest (inl (f, k)) = go (p.starting here rest f)
    where
      go : Starts sp here rest → Starts (first_of ep sp sq) here rest
      go (inl h) = inl h
      go (inr h) = inr (in_first ep sp sq (kind_at here) h)
  both_starting here rest (inr (x, mid, w, f)) = start_behind here mid rest (p.begun x here mid w) (q.starting mid rest f)

  takes_both : (here mid rest : List Token) → IsSuffix rest mid → length rest ≤ length mid → Takes sp ep here mid → Takes sq eq mid rest → Takes (first_of ep sp sq) (ep && eq) here rest
  takes_both here mid rest z l (inl (e, h)) (inl (f, k)) = inl (and_both ep eq e f, h ∙ k)
  takes_both here mid rest z l (inl (e, h)) (inr (s, k)) = inr (in_second ep sp sq (kind_at here) e (ap (λ z. sq (kind_at z)) h ∙ s), (let g : length here ≡ length mid = length_same here mid h in omega arith))
  takes_both here mid rest z l (inr (s, k)) t = inr (in_first ep sp sq (kind_at here) s, omega arith)

  no_more : (us vs : List Token) → Takes sq eq us vs → length vs ≤ length us
  no_more us vs (inl (e, h)) = let g : length us ≡ length vs = length_same us vs h in omega arith
  no_more us vs (inr (s, k)) = omega arith

  both_begun : (z : C) (here rest : List Token) → (R n).whole z here rest → Takes (first_of ep sp sq) (ep && eq) here rest
  both_begun z here rest (x, y, mid, w, v, e) =
      takes_both here mid rest (q.between mid rest (q.full y mid rest v)) (no_more mid rest (q.begun y mid rest v)) (p.begun x here mid w) (q.begun y mid rest v)

  both_between : (here rest : List Token) → (R n).front here rest → IsSuffix rest here
  both_between here rest (inl (f, k)) = p.between here rest f
  both_between here rest (inr (x, mid, w, f)) = suffix_trans rest mid here (q.between mid rest f) (p.between here mid (p.full x here mid w))

  both_shorter : (here rest mid : List Token) → (R n).front here rest → IsSuffix mid here → length rest ≤ length mid → (R n).front here mid
  both_shorter here rest mid (inl (f, k)) s l = inl (p.shorter here rest mid f s l, k)
  both_shorter here rest mid (inr (x, us, w, f)) s l = go (at_most_or_more (length us) (length mid))
    where
      go : (length us ≤ length mid) ⊎ (length mid < length us) → (R n).front here mid
      go (inl h) = inl (p.shorter here us mid (p.full x here us w) s h, q.roomy us rest f)
      go (inr h) = inr (x, us, w, q.shorter us rest mid f (suffix_within here us mid (p.between here us (p.full x here us w)) s (omega arith)) l)

  both_full : (z : C) (here rest : List Token) → (R n).whole z here rest → (R n).front here rest
  both_full z here rest (x, y, mid, w, v, e) = inr (x, mid, w, q.full y mid rest v)

  both_roomy : (here rest : List Token) → (R n).front here rest → (R n).missing
  both_roomy here rest (inl (f, k)) = (p.roomy here rest f, k)
  both_roomy here rest (inr (x, mid, w, f)) = (p.roomy here mid (p.full x here mid w), q.roomy mid rest f)

  both_higher : (m : ℕ) (here rest : List Token) → n ≤ m → (R n).front here rest → (R m).front here rest
  both_higher m here rest h (inl (f, k)) = inl (p.higher m here rest h f, q.more m h k)
  both_higher m here rest h (inr (x, mid, w, f)) = inr (x, mid, p.taller m x here mid h w, q.higher m mid rest h f)

  both_taller : (m : ℕ) (z : C) (here rest : List Token) → n ≤ m → (R n).whole z here rest → (R m).whole z here rest
  both_taller m z here rest h (x, y, mid, w, v, e) = (x, y, mid, p.taller m x here mid h w, q.taller m y mid rest h v, e)

  pub both_spells : Spells n (λ m. phrase.both make (P m) (Q m)) (first_of ep sp sq) (ep && eq)
  both_spells = record {
    full = both_full;
    none = λ here k. inl (p.none here k.0, k.1);
    roomy = both_roomy;
    higher = both_higher;
    taller = both_taller;
    more = λ m h k. (p.more m h k.0, q.more m h k.1);
    between = both_between;
    shorter = both_shorter;
    starting = both_starting;
    begun = both_begun;
  }

-- ---- readers

module _ {A B C : Type 0} (make : A → B → C) (n : ℕ) {P : ℕ → Phrase Token A} {Q : ℕ → Phrase Token B} {sp sq tp tq : Kinds} {ep eq : Bool} {p : ℕ → Reader A} {q : ℕ → Reader B}
    (pl : Laws n P sp ep tp p) (ql : Laws n Q sq eq tq q) (ends : (k : Kind) → sq k ≡ true → tp k ≡ true) where
  abbrev S : ℕ → Phrase Token C
  S m = phrase.both make (P m) (Q m)

  abbrev r : ℕ → Reader C
  r m = read.both make (p m) (q m)

  both_sound : (here : List Token) (z : C) (rest : List Token) → r n here ≡ Ok (z, rest) → (S n).whole z here rest
  both_sound here z rest e = let (x, y, mid, a, b, f) = both_read make (p n) (q n) here z rest e in (x, y, mid, pl.reads.sound here x mid a, ql.reads.sound mid y rest b, f)

  both_near : (here : List Token) (s : Stop) → (S n).missing → r n here ≡ Err s → Reached (S n) here (left s)
  both_near here s (a, b) e = go (both_failed make (p n) (q n) here s e)
    where
      go : (p n here ≡ Err s) ⊎ ((x : A) × (mid : List Token) × (p n here ≡ Ok (x, mid)) × (q n mid ≡ Err s)) → Reached (S n) here (left s)
      go (inl f) = let d = pl.reads.near here s a f in (d.0, inl (d.1, b), d.2)
      go (inr (x, mid, f, g)) = let d = ql.reads.near mid s b g in (d.0, inr (x, mid, pl.reads.sound here x mid f, d.1), d.2)

  both_through : (here : List Token) (k : ℕ) → (S n).missing → r n here ≡ Err (TooDeep k) → Goes n S here k
  both_through here k (a, b) e = go (both_failed make (p n) (q n) here (TooDeep k) e)
    where
      go : (p n here ≡ Err (TooDeep k)) ⊎ ((x : A) × (mid : List Token) × (p n here ≡ Ok (x, mid)) × (q n mid ≡ Err (TooDeep k))) → Goes n S here k
      go (inl f) = let d = pl.reads.through here k a f in (d.0, d.1, d.2, inl (d.3, ql.spells.more d.0 d.1 b), d.4)
      go (inr (x, mid, f, g)) = let d = ql.reads.through mid k b g in (d.0, d.1, d.2, inr (x, mid, pl.spells.taller d.0 x here mid d.1 (pl.reads.sound here x mid f), d.3), d.4)

  both_kept : (m : ℕ) (here : List Token) → n ≤ m → Extends (r n here) (r m here)
  both_kept m here h = extends_then _ _ (λ x. extends_then _ _ (λ y. refl) (q n x.1) (q m x.1) (ql.reads.kept m x.1 h)) (p n here) (p m here) (pl.reads.kept m here h)

  -- the first is read to its end where the second begins, or where nothing goes on
  first_ends : (mid rest : List Token) → Takes sq eq mid rest → last_of eq tp tq (kind_at rest) ≡ true → tp (kind_at mid) ≡ true
  first_ends mid rest (inl (e, h)) k = ap (λ z. tp (kind_at z)) h ∙ last_left eq tp tq (kind_at rest) e k
  first_ends mid rest (inr (s, l)) k = ends (kind_at mid) s

  both_again : (z : C) (here rest : List Token) → (S n).whole z here rest → last_of eq tp tq (kind_at rest) ≡ true → r n here ≡ Ok (z, rest)
  both_again z here rest (x, y, mid, w, v, e) k =
      let a = pl.reads.again x here mid w (first_ends mid rest (ql.spells.begun y mid rest v) k) in
      let b = ql.reads.again y mid rest v (last_right eq tp tq (kind_at rest) k) in
      rw (a, b) (ap (λ c. Ok (c, rest)) e)

  second_forward : (x : A) (us : List Token) (k : ℕ) → length us ≤ k → Passes k (q n us >>= λ y. Ok (make x y.0, y.1))
  second_forward x us k h = passes_then k _ (λ y vs l. l) (q n us) (passes_more (length us) k (q n us) h (ql.reads.forward us))

  both_forward : (here : List Token) → Passes (length here) (r n here)
  both_forward here = passes_then (length here) _ (λ x us l. second_forward x us (length here) l) (p n here) (pl.reads.forward here)

  both_far : (here rest : List Token) → (S n).front here rest → Passes (length rest) (r n here)
  both_far here rest (inl (f, k)) = passes_then (length rest) _ (λ x us l. second_forward x us (length rest) l) (p n here) (pl.reads.far here rest f)
  both_far here rest (inr (x, mid, w, f)) = go (ql.spells.starting mid rest f)
    where
      go : Starts sq mid rest → Passes (length rest) (r n here)
      go (inl e) = passes_then (length rest) _ (λ y us l. second_forward y us (length rest) l) (p n here)
          (passes_more (length mid) (length rest) (p n here) (let g : length mid ≡ length rest = length_same mid rest e in omega arith) (pl.reads.far here mid (pl.spells.full x here mid w)))
      go (inr s) = rw (pl.reads.again x here mid w (ends (kind_at mid) s)) (passes_then (length rest) _ (λ y us l. l) (q n mid) (ql.reads.far mid rest f))

  pub both_by : Laws n (λ m. phrase.both make (P m) (Q m)) (first_of ep sp sq) (ep && eq) (last_of eq tp tq) (λ m. read.both make (p m) (q m))
  both_by = record {
    spells = both_spells make n pl.spells ql.spells;
    reads = record {
      sound = both_sound;
      near = both_near;
      through = both_through;
      kept = both_kept;
      again = both_again;
      forward = both_forward;
      far = both_far;
    };
  }

-- Where the second begins the first ends.
pub both_laws : {A B C : Type 0} (make : A → B → C) (n : ℕ) {P : ℕ → Phrase Token A} {Q : ℕ → Phrase Token B} {sp sq tp tq : Kinds} {ep eq : Bool} {p : ℕ → Reader A} {q : ℕ → Reader B}
    → Laws n P sp ep tp p → Laws n Q sq eq tq q → Within sq tp → Laws n (λ m. phrase.both make (P m) (Q m)) (first_of ep sp sq) (ep && eq) (last_of eq tp tq) (λ m. read.both make (p m) (q m))
both_laws make n {sq = sq} {tp = tp} pl ql h = both_by make n pl ql (within sq tp h)

-- a value that wants one more, and that one
pub apply_laws : {A B : Type 0} (n : ℕ) {P : ℕ → Phrase Token (A → B)} {Q : ℕ → Phrase Token A} {sp sq tp tq : Kinds} {ep eq : Bool} {p : ℕ → Reader (A → B)} {q : ℕ → Reader A}
    → Laws n P sp ep tp p → Laws n Q sq eq tq q → Within sq tp
    → Laws n (λ m. phrase.both (λ f x. f x) (P m) (Q m)) (first_of ep sp sq) (ep && eq) (last_of eq tp tq) (λ m. read.both (λ f x. f x) (p m) (q m))
apply_laws n pl ql h = both_laws (λ f x. f x) n pl ql h

-- of two the first has the value
pub keep_laws : {A B : Type 0} (n : ℕ) {P : ℕ → Phrase Token A} {Q : ℕ → Phrase Token B} {sp sq tp tq : Kinds} {ep eq : Bool} {p : ℕ → Reader A} {q : ℕ → Reader B}
    → Laws n P sp ep tp p → Laws n Q sq eq tq q → Within sq tp
    → Laws n (λ m. phrase.both (λ x y. x) (P m) (Q m)) (first_of ep sp sq) (ep && eq) (last_of eq tp tq) (λ m. read.both (λ x y. x) (p m) (q m))
keep_laws n pl ql h = both_laws (λ x y. x) n pl ql h

-- of two the second has the value
pub skip_laws : {A B : Type 0} (n : ℕ) {P : ℕ → Phrase Token A} {Q : ℕ → Phrase Token B} {sp sq tp tq : Kinds} {ep eq : Bool} {p : ℕ → Reader A} {q : ℕ → Reader B}
    → Laws n P sp ep tp p → Laws n Q sq eq tq q → Within sq tp
    → Laws n (λ m. phrase.both (λ x y. y) (P m) (Q m)) (first_of ep sp sq) (ep && eq) (last_of eq tp tq) (λ m. read.both (λ x y. y) (p m) (q m))
skip_laws n pl ql h = both_laws (λ x y. y) n pl ql h
