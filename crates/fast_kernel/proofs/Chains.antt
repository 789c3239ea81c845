-- Chains of links.
use Rattle.std.proofs.Common.{◌≡◌, ℕ, zero, suc, ◌+◌, ◌<◌, ◌≤◌, ◌==◌, ◌&&◌, ◌||◌, ◌⊎◌, ⊎_elim, Bool, true, false, List, [], ◌∷◌, ◌++◌, length, drop, get_or, drop-cons, add-one, refl, ap, subst, arith}
use Rattle.gpi.specs.declared.types.Report.{Report}
use Rattle.fast_kernel.specs.declared.waiters.Link.{Link}
use Rattle.fast_kernel.specs.declared.waiters.Chains.{Chains}
use Rattle.kernel_base.specs.Steps.{AreInside}
use Rattle.fast_kernel.specs.Waiters.{chain_within, chain, link_at, waiting_of, LeadBack, is_among, is_met, is_reached, chain_of}
use Rattle.kernel_base.proofs.Lists.{itself, apart}

last_or_less : (n k : ℕ) → n ≤ suc k → (n ≡ suc k) ⊎ (n ≤ k)
last_or_less n k h = grind arith

-- more links before which nothing is looked for change nothing
pub chain_down : (k n : ℕ) (ls : List Link) → n ≤ k → chain_within k ls n ≡ chain ls n
chain_down zero n ls h = let e : n ≡ 0 = omega arith in rw e refl
chain_down (suc k) n ls h =
    ⊎_elim
    (λ (e : n ≡ suc k). rw e refl)
    (λ (l : n ≤ k). rw (apart n (suc k) (omega arith)) (chain_down k n ls l))
    (last_or_less n k h)

-- a chain, link by link
pub chain_next : (ls : List Link) (k : ℕ) → (link_at ls k).next ≤ k → chain ls (suc k) ≡ waiting_of (link_at ls k) ∷ chain ls (link_at ls k).next
chain_next ls k h = rw (itself (suc k), chain_down k (link_at ls k).next ls h) refl

pub link_before : (ls : List Link) (l : Link) (k : ℕ) → k < length ls → link_at (ls ++ l ∷ []) k ≡ link_at ls k
link_before [] l k h = absurd (omega arith)
link_before (x ∷ ls) l zero h = refl
link_before (x ∷ ls) l (suc k) h = link_before ls l k (omega arith)

pub link_last : (ls : List Link) (l : Link) → link_at (ls ++ l ∷ []) (length ls) ≡ l
link_last [] l = refl
link_last (x ∷ ls) l = link_last ls l

within_before : (k n : ℕ) (ls : List Link) (l : Link) → k ≤ length ls → chain_within k (ls ++ l ∷ []) n ≡ chain_within k ls n
within_before zero n ls l h = refl
within_before (suc k) n ls l h =
    rw (link_before ls l k (omega arith), within_before k n ls l (omega arith), within_before k (link_at ls k).next ls l (omega arith)) refl

-- one more link leaves the chains of those before it
pub chain_before : (n : ℕ) (ls : List Link) (l : Link) → n ≤ length ls → chain (ls ++ l ∷ []) n ≡ chain ls n
chain_before n ls l h = within_before n n ls l h

-- and begins a chain
pub chain_last : (ls : List Link) (l : Link) → l.next ≤ length ls → chain (ls ++ l ∷ []) (suc (length ls)) ≡ waiting_of l ∷ chain ls l.next
chain_last ls l h =
    rw (itself (suc (length ls)), link_last ls l, within_before (length ls) l.next ls l (omega arith), chain_down (length ls) l.next ls h) refl

-- ---- who is among the links of a chain

or_turned : (a b : Bool) → (a || b) ≡ (b || a)
or_turned true true = refl
or_turned true false = refl
or_turned false true = refl
or_turned false false = refl

met_yes : (h e r : Bool) → ((h || e) || r) ≡ (h || ((e && true) || r))
met_yes true e r = refl
met_yes false true r = refl
met_yes false false r = refl

met_no : (h e r : Bool) → (h || r) ≡ (h || ((e && false) || r))
met_no true e r = refl
met_no false true r = refl
met_no false false r = refl

-- one link further, where it is met
pub further_met : (h : Bool) (q : ℕ) (c : Report) (ls : List Link) (n k : ℕ) (l : Link) (m r : Bool) → n ≡ suc k → l ≡ link_at ls k → l.next ≤ k
    → m ≡ is_met c l.edge → m ≡ true → r ≡ (h || (q == l.process)) → (r || is_among q c (chain ls l.next)) ≡ (h || is_among q c (chain ls n))
further_met h q c ls n k l m r en el b em t er =
    rw (er, en, chain_next ls k (subst (λ (x : Link). x.next ≤ k) el b), ← el, ← em, t) (met_yes h (q == l.process) (is_among q c (chain ls l.next)))

-- and where it isn't
pub further_unmet : (h : Bool) (q : ℕ) (c : Report) (ls : List Link) (n k : ℕ) (l : Link) (m : Bool) → n ≡ suc k → l ≡ link_at ls k → l.next ≤ k
    → m ≡ is_met c l.edge → m ≡ false → (h || is_among q c (chain ls l.next)) ≡ (h || is_among q c (chain ls n))
further_unmet h q c ls n k l m en el b em t =
    rw (en, chain_next ls k (subst (λ (x : Link). x.next ≤ k) el b), ← el, ← em, t) (met_no h (q == l.process) (is_among q c (chain ls l.next)))

-- the walk over the changes, from the last on
pub reached_more : (chains : Chains) (cs : List Report) (n : ℕ) (c : Report) (q : ℕ) (before after : Bool) → n < length cs → c ≡ get_or cs n c
    → before ≡ is_reached chains (drop (n + 1) cs) q → after ≡ (before || is_among q c (chain_of chains c.sig.0)) → after ≡ is_reached chains (drop n cs) q
reached_more chains cs n c q before after h e b a =
    rw (drop-cons cs n c, ← e, a, b, add-one) (or_turned (is_reached chains (drop (suc n) cs) q) (is_among q c (chain_of chains c.sig.0)))

pub inside_at : (cs : List Report) (n k : ℕ) (c : Report) → AreInside cs n → k < length cs → c ≡ get_or cs k c → c.sig.0 < n
inside_at [] n k c i h e = absurd (omega arith)
inside_at (x ∷ cs) n zero c i h e = let s : c.sig.0 ≡ x.sig.0 = ap (λ (r : Report). r.sig.0) e in let b = i.0 in omega arith
inside_at (x ∷ cs) n (suc k) c i h e = inside_at cs n k c i.1 (omega arith) e

pub link_is : (ls : List Link) (k : ℕ) (l : Link) → k < length ls → l ≡ get_or ls k l → l ≡ link_at ls k
link_is [] k l h e = absurd (omega arith)
link_is (x ∷ ls) zero l h e = e
link_is (x ∷ ls) (suc k) l h e = link_is ls k l (omega arith) e

pub next_before : (ls : List Link) (k : ℕ) (l : Link) → LeadBack ls → k < length ls → l ≡ link_at ls k → l.next ≤ k
next_before ls k l b h e = rw e (b k h)
