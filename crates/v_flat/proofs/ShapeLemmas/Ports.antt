-- The ports of an instance have different names where no rule is broken in its declarations.
use Rattle.std.proofs.Common.{◌≡◌, ◌||◌, ◌&&◌, ◌+◌, ◌⊎◌, inl, inr, ◌∙◌, ℕ, Bool, true, false, not, List, [], ◌∷◌, ◌++◌, map, nat_le, Option, Some, None, is_some, is_none, Result, Ok, Err, refl, sym, ap, subst, if◌then◌else◌}
use Rattle.std.specs.Prelude.{bytes_eq}
use Rattle.std.specs.List.{list_any}
use Rattle.std.specs.Option.{option_or}
use Rattle.v_syntax.specs.declared.statement.Identifier.{Identifier}
use Rattle.v_syntax.specs.declared.item.Direction.{Direction}
use Rattle.v_syntax.specs.SourceTrees.{Head, PortHeadTree, ItemTree, HeaderPortsTree, NamedPorts, DeclaredPorts, ModuleTree}
use Rattle.v_flat.specs.declared.scope.rule.Broken.{Broken}
use Rattle.v_flat.specs.declared.scope.rule.ElabRule.TheVariants as rule
use Rattle.v_flat.specs.declared.scope.found.Found.TheVariants.{Sound}
use Rattle.v_flat.specs.Scope.Found.{Holds, HoldsOk, ended, fine, needs}
use Rattle.v_flat.specs.declared.scope.meaning.Bounds.{Bounds}
use Rattle.v_flat.specs.Scope.Limits.{most_parts}
use Rattle.v_flat.specs.Objects.{count_of}
use Rattle.v_flat.specs.Headers.{HeadedPort, first_head, headed, headed_port, header_ports, items_in, port_name, ports_in, ports_of}
use Rattle.v_flat.specs.Declarations.{Declared, Place, are_halves, declarations, declare, declare_again, declare_all, declare_header, declare_lines, declare_ports, declared_as, declared_too, find_declared, find_direction, header_declared, is_free, is_input_reg, is_net_or_reg, is_port, known_names, names_checked, port_checked, same_bounds, signals_in, sort_of, vector_bounds, whole_of, with_declared}
use Rattle.v_flat.proofs.Holds.{holds_any, holds_ended, holds_needs, holds_next, holds_then, holds_wants}
use Rattle.v_flat.proofs.ShapeLemmas.Names.{Among, Differ, among_first, among_later, is_itself, one_of_more, same_name}

-- ---- truth values

first_true : (a b : Bool) → (a && b) ≡ true → a ≡ true
first_true true b h = refl
first_true false b h = cc

not_true : (a : Bool) → not a ≡ true → a ≡ true → ⊥
not_true true h k = cc
not_true false h k = cc

-- ---- what is declared with a direction

abbrev has_direction : Option Declared → Bool
has_direction None = false
has_direction (Some d) = is_some d.direction

abbrev Directed : List ℕ → List Declared → Type 0
Directed n ds = has_direction (find_declared n ds) ≡ true

pub found_name : (n : List ℕ) (ds : List Declared) (d : Declared) → find_declared n ds ≡ Some d → d.name ≡ n
found_name n [] d h = cc
found_name n (x ∷ xs) d h = go (bytes_eq x.name n) refl h (found_name n xs d)
  where
    go : (b : Bool) → bytes_eq x.name n ≡ b → (if b then Some x else find_declared n xs) ≡ Some d → (find_declared n xs ≡ Some d → d.name ≡ n) → d.name ≡ n
    go true e f later = let g : x.name ≡ n = same_name x.name n e in let k : x ≡ d = cc in ap (λ (y : Declared). y.name) (sym k) ∙ g
    go false e f later = later f

-- behind others it is found where they don't have its name
added : (d : Declared) (ds : List Declared) → find_declared d.name ds ≡ None → find_declared d.name (ds ++ (d ∷ [])) ≡ Some d
added d [] h = ap (λ b. if b then Some d else None) (is_itself d.name)
added d (x ∷ xs) h = go (bytes_eq x.name d.name) h (added d xs)
  where
    go : (b : Bool) → (if b then Some x else find_declared d.name xs) ≡ None → (find_declared d.name xs ≡ None → find_declared d.name (xs ++ (d ∷ [])) ≡ Some d)
        → (if b then Some x else find_declared d.name (xs ++ (d ∷ []))) ≡ Some d
    go true e later = cc
    go false e later = later e

-- what others have stays so behind one more
stays : (n : List ℕ) (d : Declared) (ds : List Declared) → Directed n ds → Directed n (ds ++ (d ∷ []))
stays n d [] h = cc
stays n d (x ∷ xs) h = go (bytes_eq x.name n) h (stays n d xs)
  where
    go : (b : Bool) → has_direction (if b then Some x else find_declared n xs) ≡ true → (Directed n xs → Directed n (xs ++ (d ∷ []))) → has_direction (if b then Some x else find_declared n (xs ++ (d ∷ []))) ≡ true
    go true e later = e
    go false e later = later e

-- one in its place is found, and the others stay
put : (x old : Declared) (ds : List Declared) → find_declared x.name ds ≡ Some old → find_declared x.name (with_declared x ds) ≡ Some x
put x old [] h = cc
put x old (d ∷ ds) h = go (bytes_eq d.name x.name) refl h (put x old ds)
  where
    go : (b : Bool) → bytes_eq d.name x.name ≡ b → (if b then Some d else find_declared x.name ds) ≡ Some old → (find_declared x.name ds ≡ Some old → find_declared x.name (with_declared x ds) ≡ Some x)
        → find_declared x.name (if b then x ∷ ds else d ∷ with_declared x ds) ≡ Some x
    go true e f later = ap (λ c. if c then Some x else find_declared x.name ds) (is_itself x.name)
    go false e f later = ap (λ c. if c then Some d else find_declared x.name (with_declared x ds)) e ∙ later f

put_stays : (n : List ℕ) (x : Declared) (ds : List Declared) → is_some x.direction ≡ true → Directed n ds → Directed n (with_declared x ds)
put_stays n x [] s h = h
put_stays n x (d ∷ ds) s h = go (bytes_eq d.name x.name) refl (bytes_eq d.name n) refl h (put_stays n x ds s)
  where
    go : (b : Bool) → bytes_eq d.name x.name ≡ b → (c : Bool) → bytes_eq d.name n ≡ c → has_direction (if c then Some d else find_declared n ds) ≡ true → (Directed n ds → Directed n (with_declared x ds))
        → Directed n (if b then x ∷ ds else d ∷ with_declared x ds)
    go true e true f k later =
        let g : bytes_eq x.name n ≡ true = ap (λ m. bytes_eq m n) (sym (same_name d.name x.name e)) ∙ f in
        ap (λ t. has_direction (if t then Some x else find_declared n ds)) g ∙ s
    go true e false f k later =
        let g : bytes_eq x.name n ≡ false = ap (λ m. bytes_eq m n) (sym (same_name d.name x.name e)) ∙ f in
        ap (λ t. has_direction (if t then Some x else find_declared n ds)) g ∙ k
    go false e true f k later = ap (λ t. has_direction (if t then Some d else find_declared n (with_declared x ds))) f ∙ k
    go false e false f k later = ap (λ t. has_direction (if t then Some d else find_declared n (with_declared x ds))) f ∙ later k

-- ---- one declaration with a direction

-- it was declared with none before, is declared with one then, and what was declared with one still is
record Directs (n : List ℕ) (ds es : List Declared) : Type 0 where
  new : Directed n ds → ⊥
  there : Directed n es
  stay : (k : List ℕ) → Directed k ds → Directed k es

-- of two halves one alone has a direction
one_direction : (o c : Option Direction) (a b e f : Bool) → is_some c ≡ true → (((is_some o && a) && (is_none c && b)) || ((is_none o && e) && (is_some c && f))) ≡ true → is_some o ≡ false
one_direction None c a b e f h k = refl
one_direction (Some x) None a b e f h k = cc
one_direction (Some x) (Some y) true b e f h k = cc
one_direction (Some x) (Some y) false b e f h k = cc

other_none : (old d : Declared) → is_some d.direction ≡ true → are_halves old d ≡ true → is_some old.direction ≡ false
other_none old d h e =
    one_direction old.direction d.direction (is_none old.sort) (is_net_or_reg d.sort && is_none d.words) (is_net_or_reg old.sort && is_none old.words) (is_none d.sort) h e

module _ (w : Place) where
  too_directs : (p : ℕ) (d : Declared) (ds : List Declared) → is_some d.direction ≡ true → find_declared d.name ds ≡ None → Holds (Directs d.name ds) (declared_too w p d ds)
  too_directs p d ds h e =
      holds_wants (Directs d.name ds) (nat_le (w.first + (signals_in ds + count_of d.words)) most_parts) rule.TooMany p (Sound (ds ++ (d ∷ [])))
      (λ t. record {
        new = λ k. (let f : false ≡ true = sym (ap has_direction e) ∙ k in cc);
        there = ap has_direction (added d ds e) ∙ h;
        stay = λ k a. stays k d ds a;
      })

  again_directs : (p : ℕ) (d : Declared) (ds : List Declared) (o : Option Declared) → is_some d.direction ≡ true → find_declared d.name ds ≡ o → Holds (Directs d.name ds) (declare_again w p d ds o)
  again_directs p d ds None h e =
      holds_wants (Directs d.name ds) (is_port d.direction d.name w.ports && not (is_input_reg d.direction d.sort)) rule.BadPort p (declared_too w p d ds) (λ t. too_directs p d ds h e)
  again_directs p d ds (Some old) h e =
      holds_needs (Directs d.name ds) (are_halves old d && same_bounds old.bounds d.bounds) rule.DuplicateName p (port_checked w p (whole_of old d) (Sound (with_declared (whole_of old d) ds)))
      (λ t. holds_wants (Directs d.name ds) (is_port (whole_of old d).direction (whole_of old d).name w.ports && not (is_input_reg (whole_of old d).direction (whole_of old d).sort)) rule.BadPort p
      (Sound (with_declared (whole_of old d) ds)) (λ u. whole (first_true (are_halves old d) (same_bounds old.bounds d.bounds) t)))
    where
      name : old.name ≡ d.name
      name = found_name d.name ds old e

      either : (o c : Option Direction) → is_some c ≡ true → is_some (option_or o c) ≡ true
      either None c k = k
      either (Some x) c k = refl

      whole : are_halves old d ≡ true → Directs d.name ds (with_declared (whole_of old d) ds)
      whole halves = record {
        new = λ k. (let f = sym (other_none old d h halves) ∙ sym (ap has_direction e) ∙ k in cc);
        there =
            ap (λ n. has_direction (find_declared n (with_declared (whole_of old d) ds))) (sym name)
            ∙ ap has_direction (put (whole_of old d) old ds (ap (λ n. find_declared n ds) name ∙ e)) ∙ either old.direction d.direction h;
        stay = λ k a. put_stays k (whole_of old d) ds (either old.direction d.direction h) a;
      }

  declare_directs : (p : ℕ) (d : Declared) (ds : List Declared) → is_some d.direction ≡ true → Holds (Directs d.name ds) (declare w p d ds)
  declare_directs p d ds h =
      holds_needs (Directs d.name ds) (is_free d.name w.constants) rule.DuplicateName p (declare_again w p d ds (find_declared d.name ds)) (λ t. again_directs p d ds (find_declared d.name ds) h refl)

  ports_direct : (g : PortHeadTree) (i : Identifier) (ds : List Declared) → Holds (Directs i.name ds) (declare_ports w g (i ∷ []) ds)
  ports_direct (Head d k r) i ds =
      holds_then (λ (b : Bounds). Unit {0}) (Directs i.name ds) (vector_bounds r (known_names w)) (λ b. declare_all w (Some d) (sort_of k) b (i ∷ []) ds) (holds_any (vector_bounds r (known_names w)))
      (λ b u. holds_then (Directs i.name ds) (Directs i.name ds) (declare w i.at (declared_as (Some d) (sort_of k) b None i.name) ds) (declare_all w (Some d) (sort_of k) b [])
      (declare_directs i.at (declared_as (Some d) (sort_of k) b None i.name) ds refl) (λ es h. h))

  -- ---- a header that declares its ports

  abbrev names_of : List HeadedPort → List (List ℕ)
  names_of ps = map port_name (map headed_port ps)

  -- the names differ, and none of them was declared with a direction before
  abbrev AreNew : List HeadedPort → List Declared → Type 0
  AreNew ps ds = Differ (names_of ps) × ((n : List ℕ) → Among n (names_of ps) → Directed n ds → ⊥)

  one_more : (p : HeadedPort) (ps : List HeadedPort) (ds es : List Declared) → Directs p.name.name ds es → AreNew ps es → AreNew (p ∷ ps) ds
  one_more p ps ds es h k = (((λ a. k.1 p.name.name a h.there), k.0), λ n a b. go n b (one_of_more n p.name.name (names_of ps) a))
    where
      go : (n : List ℕ) → Directed n ds → (n ≡ p.name.name) ⊎ Among n (names_of ps) → ⊥
      go n b (inl e) = h.new (subst (λ m. Directed m ds) e b)
      go n b (inr a) = k.1 n a (h.stay n b)

  header_new : (ps : List HeadedPort) (ds : List Declared) → HoldsOk (λ (es : List Declared). AreNew ps ds) (declare_header w ps ds)
  header_new [] ds = (tt, λ n a b. cc)
  header_new (p ∷ ps) ds =
      holds_next (Directs p.name.name ds) (λ (fs : List Declared). AreNew (p ∷ ps) ds) (ended (declare_ports w p.head (p.name ∷ []) ds)) (declare_header w ps)
      (holds_ended (Directs p.name.name ds) (declare_ports w p.head (p.name ∷ []) ds) (ports_direct p.head p.name ds))
      (λ es h. weaker es h (declare_header w ps es) (header_new ps es))
    where
      weaker : (es : List Declared) → Directs p.name.name ds es → (r : Result (List Declared) Broken) → HoldsOk (λ (fs : List Declared). AreNew ps es) r → HoldsOk (λ (fs : List Declared). AreNew (p ∷ ps) ds) r
      weaker es h (Ok fs) k = one_more p ps ds es h k
      weaker es h (Err b) k = tt

  -- ---- a header that only names them

  module _ (items : List ItemTree) where
    abbrev named : List Identifier → List (List ℕ)
    named is = map port_name (header_ports (NamedPorts is) items)

    -- the names differ, and none of them was seen before
    abbrev AreUnseen : List Identifier → List (List ℕ) → Type 0
    AreUnseen is seen = Differ (named is) × ((n : List ℕ) → Among n (named is) → Among n seen → ⊥)

    one_name : (i : Identifier) (is : List Identifier) (seen : List (List ℕ)) → not (list_any (bytes_eq i.name) seen) ≡ true → AreUnseen is (i.name ∷ seen) → AreUnseen (i ∷ is) seen
    one_name i is seen h k = (((λ a. k.1 i.name a (among_first i.name seen)), k.0), λ n a b. go n b (one_of_more n i.name (named is) a))
      where
        go : (n : List ℕ) → Among n seen → (n ≡ i.name) ⊎ Among n (named is) → ⊥
        go n b (inl e) = not_true (list_any (bytes_eq i.name) seen) h (subst (λ m. Among m seen) e b)
        go n b (inr a) = k.1 n a (among_later n i.name seen b)

    names_unseen : (is : List Identifier) (seen : List (List ℕ)) → HoldsOk (λ (u : Unit {0}). AreUnseen is seen) (names_checked w seen is)
    names_unseen [] seen = (tt, λ n a b. cc)
    names_unseen (i ∷ is) seen =
        holds_next (λ (u : Unit {0}). not (list_any (bytes_eq i.name) seen) ≡ true) (λ (u : Unit {0}). AreUnseen (i ∷ is) seen)
        (ended (needs (not (list_any (bytes_eq i.name) seen) && find_direction i.name w.ports) rule.BadPort i.at fine)) (λ u. names_checked w (i.name ∷ seen) is)
        (holds_ended (λ (u : Unit {0}). not (list_any (bytes_eq i.name) seen) ≡ true) (needs (not (list_any (bytes_eq i.name) seen) && find_direction i.name w.ports) rule.BadPort i.at fine)
        (holds_needs (λ (u : Unit {0}). not (list_any (bytes_eq i.name) seen) ≡ true) (not (list_any (bytes_eq i.name) seen) && find_direction i.name w.ports) rule.BadPort i.at fine
        (λ t. first_true (not (list_any (bytes_eq i.name) seen)) (find_direction i.name w.ports) t)))
        (λ u h. weaker h (names_checked w (i.name ∷ seen) is) (names_unseen is (i.name ∷ seen)))
      where
        weaker : not (list_any (bytes_eq i.name) seen) ≡ true → (r : Result (Unit {0}) Broken) → HoldsOk (λ (u : Unit {0}). AreUnseen is (i.name ∷ seen)) r → HoldsOk (λ (u : Unit {0}). AreUnseen (i ∷ is) seen) r
        weaker h (Ok u) k = one_name i is seen h k
        weaker h (Err b) k = tt

    by_header : (ps : HeaderPortsTree) → HoldsOk (λ (ds : List Declared). Differ (map port_name (header_ports ps items))) (header_declared w ps)
    by_header (NamedPorts is) =
        holds_next (λ (u : Unit {0}). AreUnseen is []) (λ (ds : List Declared). Differ (named is)) (names_checked w [] is) (λ u. Ok []) (names_unseen is []) (λ u h. h.0)
    by_header (DeclaredPorts ps) = weaker (declare_header w (headed first_head ps) []) (header_new (headed first_head ps) [])
      where
        weaker : (r : Result (List Declared) Broken) → HoldsOk (λ (fs : List Declared). AreNew (headed first_head ps) []) r → HoldsOk (λ (ds : List Declared). Differ (names_of (headed first_head ps))) r
        weaker (Ok es) h = h.0
        weaker (Err b) h = tt

  pub ports_differ : (m : ModuleTree) → HoldsOk (λ (ds : List Declared). Differ (map port_name (ports_of m))) (declarations w m)
  ports_differ m =
      holds_next (λ (ds : List Declared). Differ (map port_name (ports_of m))) (λ (ds : List Declared). Differ (map port_name (ports_of m))) (header_declared w (ports_in m)) (declare_lines w (items_in m))
      (by_header (items_in m) (ports_in m)) (λ ds h. known (declare_lines w (items_in m) ds) h)
    where
      known : (r : Result (List Declared) Broken) → Differ (map port_name (ports_of m)) → HoldsOk (λ (ds : List Declared). Differ (map port_name (ports_of m))) r
      known (Ok ds) h = h
      known (Err b) h = tt

-- the same where it is known what is declared
pub ports_apart : (w : Place) (m : ModuleTree) (ds : List Declared) → declarations w m ≡ Ok ds → Differ (map port_name (ports_of m))
ports_apart w m ds e = subst (HoldsOk (λ (xs : List Declared). Differ (map port_name (ports_of m)))) e (ports_differ w m)
