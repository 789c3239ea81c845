-- Along its instances, each with its signals before its instances, the signals of a design that are no words of memories have rising numbers.
use Rattle.std.proofs.Common.{◌≡◌, ◌+◌, ◌∙◌, ℕ, zero, suc, true, List, [], ◌∷◌, ◌++◌, length, map, nat_lt, slice_get, slice_set, Option, None, Some, Result, Ok, Err, refl, sym, ap, arith, length-append, append_assoc, append-nil}
use Rattle.four_value.specs.declared.Digit.{Digit}
use Rattle.gpi.specs.declared.design.Node.{Node}
use Rattle.gpi.specs.declared.design.Spot.{Spot}
use Rattle.gpi.specs.declared.design.Spot.TheVariants.{Inner, Sig, Words}
use Rattle.v_syntax.specs.declared.statement.Identifier.{Identifier}
use Rattle.v_syntax.specs.SourceTrees.{ConnectionsTree, KindTree, Ports, Nets, Registers, Integers, Parameters, Drivers, Always, Initial, Instance, ItemTree, ItemAt, ModuleTree}
use Rattle.v_flat.specs.declared.scope.meaning.Bounds.{Bounds}
use Rattle.v_flat.specs.declared.scope.rule.Broken.{Broken}
use Rattle.v_flat.specs.Scope.Found.{HoldsOk, ended, next}
use Rattle.v_flat.specs.Scope.Scope.{Scope, low_of, nothing, width_of}
use Rattle.v_flat.specs.Objects.{count_of}
use Rattle.v_flat.specs.Targets.{Drive}
use Rattle.v_flat.specs.Headers.{all_names, items_in, later, module_name, parameters_of, ports_of}
use Rattle.v_flat.specs.Declarations.{Declared, declarations, in_order, parameters}
use Rattle.v_flat.specs.Paths.{NodeAt, Path, SignalAt, below, node_of}
use Rattle.v_flat.specs.declared.timing.Timing.{Timing}
use Rattle.v_flat.specs.Design.{Design, Modules, Outside, State, Sub, all_signals, children, closed, find_module, flat_design, from_top, instance, instance_checked, instance_item, item, items, module_there, modules_checked, no_design, object_of, opened, place_of, plain_item, signals_of, spot_of, start_of, timing_of, top_of, walk, walk_items, with_child, word_signals}
use Rattle.v_flat.proofs.Holds.{holds_ended, holds_next}
use Rattle.v_flat.proofs.ShapeLemmas.Ends.{holds_next_so}
use Rattle.v_flat.proofs.ShapeLemmas.Kept.{Keeps, KeepsParts, joints_keep, plain_holds}
use Rattle.v_flat.proofs.ShapeLemmas.Nodes.{set_behind}
use Rattle.v_flat.proofs.ShapeLemmas.Walk.{opening, scope_of}
use Rattle.vcd_text.specs.Hierarchy.{Closes, Declaration, Declares, Opens, children_of, declared_signals, inner_instances, instance_of, own_signals}
use Rattle.v_laws.proofs.Along.{room_there}
use Rattle.v_laws.proofs.Names.{one_many}

abbrev Children : Type 0
Children = List (List ℕ × Spot)

-- ---- signals that are no words of memories

abbrev pub by_word : Option ℕ → ℕ → List ℕ → List ℕ
by_word None n rest = n ∷ rest
by_word (Some i) n rest = rest

-- their numbers, from n on
abbrev pub plain : ℕ → List SignalAt → List ℕ
plain n [] = []
plain n (s ∷ ss) = by_word s.word n (plain (n + 1) ss)

by_word_both : (w : Option ℕ) (n : ℕ) (xs ys : List ℕ) → by_word w n (xs ++ ys) ≡ by_word w n xs ++ ys
by_word_both None n xs ys = refl
by_word_both (Some i) n xs ys = refl

plain_both : (n : ℕ) (xs ys : List SignalAt) → plain n (xs ++ ys) ≡ plain n xs ++ plain (n + length xs) ys
plain_both n [] ys = let e : n ≡ n + 0 = omega arith in ap (λ (m : ℕ). plain m ys) e
plain_both n (x ∷ xs) ys =
    let e : (n + 1) + length xs ≡ n + suc (length xs) = omega arith in
    ap (λ (l : List ℕ). by_word x.word n l) (plain_both (n + 1) xs ys ∙ ap (λ (m : ℕ). plain (n + 1) xs ++ plain m ys) e)
    ∙ by_word_both x.word n (plain (n + 1) xs) (plain (n + suc (length xs)) ys)

no_plain : (n : ℕ) (path : Path) (w : ℕ) (start : Digit) (low count : ℕ) → plain n (word_signals path w start low count) ≡ []
no_plain n path w start low zero = refl
no_plain n path w start low (suc count) = no_plain (n + 1) path w start (low + 1) count

-- ---- declarations

declared_both : (xs ys : List Declaration) → declared_signals (xs ++ ys) ≡ declared_signals xs ++ declared_signals ys
declared_both [] ys = refl
declared_both (Opens name ∷ xs) ys = declared_both xs ys
declared_both (Declares signal name ∷ xs) ys = ap (λ (l : List ℕ). signal ∷ l) (declared_both xs ys)
declared_both (Closes ∷ xs) ys = declared_both xs ys

-- a name doesn't count
pub any_name : (nodes : List Node) (room : ℕ) (name : List ℕ) (k : ℕ) → declared_signals (instance_of nodes room name k) ≡ declared_signals (instance_of nodes room [] k)
any_name nodes zero name k = refl
any_name nodes (suc room) name k = refl

spot_plain : (path : Path) (first : ℕ) (d : Declared) (w : Option Bounds) (cs : Children) (rest : List SignalAt)
    → declared_signals (own_signals cs) ≡ plain (first + count_of w) rest
    → declared_signals (own_signals ((d.name, spot_of (object_of first d) w) ∷ cs)) ≡ plain first (signals_of path (object_of first d) w ++ rest)
spot_plain path first d None cs rest h = ap (λ (l : List ℕ). first ∷ l) h
spot_plain path first d (Some w) cs rest h =
    let words : List SignalAt = signals_of path (object_of first d) (Some w) in
    let many : length words ≡ count_of (Some w) = one_many path (object_of first d) (Some w) in
    h ∙ ap (λ (m : ℕ). plain (first + m) rest) (sym many)
    ∙ ap (λ (l : List ℕ). l ++ plain (first + length words) rest)
    (sym (no_plain first path (width_of (object_of first d).bounds) (start_of (object_of first d).kind) (low_of w) (width_of w)))
    ∙ sym (plain_both first words rest)

own_plain : (path : Path) (first : ℕ) (ds : List Declared) → declared_signals (own_signals (children first ds)) ≡ plain first (all_signals path first ds)
own_plain path first [] = refl
own_plain path first (d ∷ ds) =
    spot_plain (below path d.name) first d d.words (children (first + count_of d.words) ds) (all_signals path (first + count_of d.words) ds)
    (own_plain path (first + count_of d.words) ds)

module _ (g : List ℕ → ℕ → List Declaration) where
  no_inner_first : (d : Declared) (first : ℕ) (w : Option Bounds) (cs : Children) → inner_instances g cs ≡ [] → inner_instances g ((d.name, spot_of (object_of first d) w) ∷ cs) ≡ []
  no_inner_first d first None cs h = h
  no_inner_first d first (Some w) cs h = h

  no_inner : (first : ℕ) (ds : List Declared) → inner_instances g (children first ds) ≡ []
  no_inner first [] = refl
  no_inner first (d ∷ ds) = no_inner_first d first d.words (children (first + count_of d.words) ds) (no_inner (first + count_of d.words) ds)

  inner_more : (cs : Children) (name : List ℕ) (k : ℕ) → inner_instances g (cs ++ ((name, Inner k) ∷ [])) ≡ inner_instances g cs ++ g name k
  inner_more [] name k = append-nil (g name k)
  inner_more ((other, Inner node) ∷ cs) name k = ap (λ (l : List Declaration). g other node ++ l) (inner_more cs name k) ∙ sym (append_assoc (g other node) (inner_instances g cs) (g name k))
  inner_more ((other, Sig signal) ∷ cs) name k = inner_more cs name k
  inner_more ((other, Words first low count) ∷ cs) name k = inner_more cs name k

own_more : (cs : Children) (name : List ℕ) (k : ℕ) → own_signals (cs ++ ((name, Inner k) ∷ [])) ≡ own_signals cs
own_more [] name k = refl
own_more ((other, Inner node) ∷ cs) name k = own_more cs name k
own_more ((other, Sig signal) ∷ cs) name k = ap (λ (l : List Declaration). Declares signal.0 other ∷ l) (own_more cs name k)
own_more ((other, Words first low count) ∷ cs) name k = own_more cs name k

get_at : (pre : List NodeAt) (x : NodeAt) (rest : List NodeAt) → slice_get (map node_of (pre ++ (x ∷ rest))) (length pre) ≡ Some (node_of x)
get_at [] x rest = refl
get_at (y ∷ pre) x rest = get_at pre x rest

-- ---- along the walk

abbrev empty_node : Path → NodeAt
empty_node path = record { path = path; children = [] }

-- Behind the nodes of d stand those of an instance and all in it, in which so many stand inside one another at the most, itself among them. Its
-- signals stand behind those of d, and those that are no words are declared by rising number.
record Grows (room : ℕ) (d e : Design) : Type 0 where
  news : List NodeAt
  nodes : e.nodes ≡ d.nodes ++ news
  more : List SignalAt
  signals : e.signals ≡ d.signals ++ more
  order : (pre suffix : List NodeAt) → length pre ≡ length d.nodes
      → declared_signals (instance_of (map node_of (pre ++ (news ++ suffix))) room [] (length d.nodes)) ≡ plain (length d.signals) more

-- so it is between two items of an instance, which has no children yet
record Between (room : ℕ) (path : Path) (d : Design) (s : State) : Type 0 where
  news : List NodeAt
  nodes : s.design.nodes ≡ d.nodes ++ (empty_node path ∷ news)
  own : List SignalAt
  subs : List SignalAt
  signals : s.design.signals ≡ d.signals ++ (own ++ subs)
  owns : declared_signals (own_signals s.children) ≡ plain (length d.signals) own
  inner : (pre suffix : List NodeAt) (x : NodeAt) → length pre ≡ length d.nodes
      → declared_signals (inner_instances (instance_of (map node_of (pre ++ (x ∷ (news ++ suffix)))) room) s.children) ≡ plain (length d.signals + length own) subs

kept_between : (room : ℕ) (path : Path) (d : Design) (s t : State) → Between room path d s → Keeps s t → Between room path d t
kept_between room path d s t h k = record {
  news = h.news;
  nodes = k.nodes ∙ h.nodes;
  own = h.own;
  subs = h.subs;
  signals = k.signals ∙ h.signals;
  owns = ap (λ (cs : Children). declared_signals (own_signals cs)) k.children ∙ h.owns;
  inner = λ pre suffix x e.
      ap (λ (cs : Children). declared_signals (inner_instances (instance_of (map node_of (pre ++ (x ∷ (h.news ++ suffix)))) room) cs)) k.children ∙ h.inner pre suffix x e;
}

module _ (room : ℕ) (path : Path) (d : Design) where
  inner_between : (i : Identifier) (driven : List Drive) (s : State) (e : Design) → Between room path d s → Grows room s.design e
      → Between room path d (with_child i.name (length s.design.nodes) driven s e)
  inner_between i driven s e h g = record {
    news = h.news ++ g.news;
    nodes = g.nodes ∙ ap (λ (l : List NodeAt). l ++ g.news) h.nodes ∙ append_assoc d.nodes (empty_node path ∷ h.news) g.news;
    own = h.own;
    subs = h.subs ++ g.more;
    signals = g.signals ∙ ap (λ (l : List SignalAt). l ++ g.more) h.signals ∙ append_assoc d.signals (h.own ++ h.subs) g.more
        ∙ ap (λ (l : List SignalAt). d.signals ++ l) (append_assoc h.own h.subs g.more);
    owns = ap declared_signals (own_more s.children i.name (length s.design.nodes)) ∙ h.owns;
    inner = λ pre suffix x same. inner_at pre suffix x same;
  }
    where
      k : ℕ
      k = length s.design.nodes

      k_is : k ≡ length d.nodes + suc (length h.news)
      k_is = ap (λ (l : List NodeAt). length l) h.nodes ∙ length-append d.nodes (empty_node path ∷ h.news)

      first_is : length s.design.signals ≡ (length d.signals + length h.own) + length h.subs
      first_is =
          let a = ap (λ (l : List SignalAt). length l) h.signals ∙ length-append d.signals (h.own ++ h.subs) in let b = length-append h.own h.subs in omega (arith, a, b)

      inner_at : (pre suffix : List NodeAt) (x : NodeAt) → length pre ≡ length d.nodes
          → declared_signals (inner_instances (instance_of (map node_of (pre ++ (x ∷ ((h.news ++ g.news) ++ suffix)))) room) (s.children ++ ((i.name, Inner k) ∷ [])))
          ≡ plain (length d.signals + length h.own) (h.subs ++ g.more)
      inner_at pre suffix x same =
          let all : List NodeAt = pre ++ (x ∷ ((h.news ++ g.news) ++ suffix)) in
          let split : all ≡ pre ++ (x ∷ (h.news ++ (g.news ++ suffix))) = ap (λ (l : List NodeAt). pre ++ (x ∷ l)) (append_assoc h.news g.news suffix) in
          let apart : all ≡ (pre ++ (x ∷ h.news)) ++ (g.news ++ suffix) = split ∙ sym (append_assoc pre (x ∷ h.news) (g.news ++ suffix)) in
          let old : declared_signals (inner_instances (instance_of (map node_of all) room) s.children) ≡ plain (length d.signals + length h.own) h.subs
          = ap (λ (l : List NodeAt). declared_signals (inner_instances (instance_of (map node_of l) room) s.children)) split ∙ h.inner pre (g.news ++ suffix) x same in
          let before : length (pre ++ (x ∷ h.news)) ≡ k = (let a = length-append pre (x ∷ h.news) in let b = k_is in omega (arith, a, b, same)) in
          let new : declared_signals (instance_of (map node_of all) room i.name k) ≡ plain (length s.design.signals) g.more
          = any_name (map node_of all) room i.name k ∙ ap (λ (l : List NodeAt). declared_signals (instance_of (map node_of l) room [] k)) apart
          ∙ g.order (pre ++ (x ∷ h.news)) suffix before in
          ap declared_signals (inner_more (instance_of (map node_of all) room) s.children i.name k)
          ∙ declared_both (inner_instances (instance_of (map node_of all) room) s.children) (instance_of (map node_of all) room i.name k)
          ∙ ap (λ (l : List ℕ). l ++ declared_signals (instance_of (map node_of all) room i.name k)) old
          ∙ ap (λ (l : List ℕ). plain (length d.signals + length h.own) h.subs ++ l) (new ∙ ap (λ (n : ℕ). plain n g.more) first_is)
          ∙ sym (plain_both (length d.signals + length h.own) h.subs g.more)

  closes_grows : (t : State) → Between room path d t → Grows (suc room) d (closed path (length d.nodes) t)
  closes_grows t h = record {
    news = node ∷ h.news;
    nodes = ap (λ (l : List NodeAt). slice_set l (length d.nodes) node) h.nodes ∙ set_behind d.nodes (empty_node path) node h.news;
    more = h.own ++ h.subs;
    signals = h.signals;
    order = λ pre suffix same. order_at pre suffix same;
  }
    where
      node : NodeAt
      node = record { path = path; children = t.children }

      order_at : (pre suffix : List NodeAt) → length pre ≡ length d.nodes
          → declared_signals (instance_of (map node_of (pre ++ (node ∷ (h.news ++ suffix)))) (suc room) [] (length d.nodes)) ≡ plain (length d.signals) (h.own ++ h.subs)
      order_at pre suffix same =
          let all : List Node = map node_of (pre ++ (node ∷ (h.news ++ suffix))) in
          let there : slice_get all (length d.nodes) ≡ Some (node_of node) = ap (slice_get all) (sym same) ∙ get_at pre node (h.news ++ suffix) in
          let children_are : children_of all (length d.nodes) ≡ t.children = ap (λ (o : Option Node). elim o [ None ↦ [] | Some found ↦ found.children ]) there in
          let inners : List Declaration = inner_instances (instance_of all room) t.children in
          ap (λ (cs : Children). declared_signals ((own_signals cs ++ inner_instances (instance_of all room) cs) ++ (Closes ∷ []))) children_are
          ∙ declared_both (own_signals t.children ++ inners) (Closes ∷ []) ∙ append-nil (declared_signals (own_signals t.children ++ inners))
          ∙ declared_both (own_signals t.children) inners
          ∙ ap (λ (l : List ℕ). l ++ declared_signals inners) h.owns ∙ ap (λ (l : List ℕ). plain (length d.signals) h.own ++ l) (h.inner pre suffix node same)
          ∙ sym (plain_both (length d.signals) h.own h.subs)

  opens_between : (m : ModuleTree) (out : Outside) (s : Scope) (ds : List Declared) → Between room path d (opening m path out d s ds)
  opens_between m out s ds =
      let keeps : KeepsParts (opened path ds d) (opening m path out d s ds).design = joints_keep out.scope out.joints s (ports_of m) (opened path ds d) in
      record {
        news = [];
        nodes = keeps.nodes;
        own = all_signals path (length d.signals) ds;
        subs = [];
        signals = keeps.signals ∙ ap (λ (l : List SignalAt). d.signals ++ l) (sym (append-nil (all_signals path (length d.signals) ds)));
        owns = own_plain path (length d.signals) ds;
        inner = λ pre suffix x e. ap declared_signals (no_inner (instance_of (map node_of (pre ++ (x ∷ suffix))) room) (length d.signals) ds);
      }

module _ (ms : Modules) where
  -- what is known of the walk over an instance, below which there is room for so many levels, its own among them
  abbrev Good : Sub → ℕ → Type 0
  Good sub room = nat_lt 0 room ≡ true → (above : List (List ℕ)) (m : ModuleTree) (path : Path) (out : Outside) (d : Design) → HoldsOk (Grows room d) (sub above m path out d)

  module _ (q : Timing) (sub : Sub) (room : ℕ) (good : Good sub room) (above : List (List ℕ)) (path : Path) (d : Design) where
    instance_holds : (p : ℕ) (m : Identifier) (v : Option ConnectionsTree) (i : Identifier) (c : Option ConnectionsTree) (s : State) → Between room path d s
        → HoldsOk (Between room path d) (instance_item sub room ms above path p m v i c s)
    instance_holds p m v i c s h =
        holds_next_so (Between room path d) (ended (module_there m room above s.design (find_module m.name ms.list))) (λ inner.
        next (ended (instance_checked p v i c s inner)) (λ x.
        next (sub (m.name ∷ above) inner (below path i.name) (record { given = x.0; scope = s.scope; joints = x.1.list }) s.design) (λ e.
        Ok (with_child i.name (length s.design.nodes) x.1.driven s e))))
        (λ inner is. holds_next_so (Between room path d) (ended (instance_checked p v i c s inner)) (λ x.
        next (sub (m.name ∷ above) inner (below path i.name) (record { given = x.0; scope = s.scope; joints = x.1.list }) s.design) (λ e.
        Ok (with_child i.name (length s.design.nodes) x.1.driven s e)))
        (λ x checks. holds_next (Grows room s.design) (Between room path d)
        (sub (m.name ∷ above) inner (below path i.name) (record { given = x.0; scope = s.scope; joints = x.1.list }) s.design)
        (λ e. Ok (with_child i.name (length s.design.nodes) x.1.driven s e))
        (good (room_there m room above s.design (find_module m.name ms.list) inner is) (m.name ∷ above) inner (below path i.name)
        (record { given = x.0; scope = s.scope; joints = x.1.list }) s.design)
        (λ e k. inner_between room path d i x.1.driven s e h k)))

    plain_kept : (p : ℕ) (k : KindTree) (s : State) → Between room path d s → HoldsOk (Between room path d) (ended (plain_item q p k s))
    plain_kept p k s h =
        holds_ended (Between room path d) (plain_item q p k s) (plain_holds (Between room path d) q p k s (λ t keeps. kept_between room path d s t h keeps))

    item_holds : (i : ItemTree) (s : State) → Between room path d s → HoldsOk (Between room path d) (item q sub room ms above path i s)
    item_holds (ItemAt p (Instance m v i c)) s h = instance_holds p m v i c s h
    item_holds (ItemAt p (Nets r ns)) s h = plain_kept p (Nets r ns) s h
    item_holds (ItemAt p (Registers r rs)) s h = plain_kept p (Registers r rs) s h
    item_holds (ItemAt p (Drivers xs)) s h = plain_kept p (Drivers xs) s h
    item_holds (ItemAt p (Always c b)) s h = plain_kept p (Always c b) s h
    item_holds (ItemAt p (Initial b)) s h = plain_kept p (Initial b) s h
    item_holds (ItemAt p (Ports r is)) s h = plain_kept p (Ports r is) s h
    item_holds (ItemAt p (Integers is)) s h = plain_kept p (Integers is) s h
    item_holds (ItemAt p (Parameters k r ps)) s h = plain_kept p (Parameters k r ps) s h

    items_hold : (is : List ItemTree) (s : State) → Between room path d s → HoldsOk (Between room path d) (items q sub room ms above path is s)
    items_hold [] s h = h
    items_hold (i ∷ is) s h =
        holds_next (Between room path d) (Between room path d) (item q sub room ms above path i s) (items q sub room ms above path is) (item_holds i s h) (λ t k. items_hold is t k)

  instance_walk : (sub : Sub) (room : ℕ) → Good sub room → (above : List (List ℕ)) (m : ModuleTree) (path : Path) (out : Outside) (d : Design)
      → HoldsOk (Grows (suc room) d) (instance sub room ms above m path out d)
  instance_walk sub room good above m path out d =
      holds_next_so (Grows (suc room) d) (parameters (parameters_of m) out.given (later (all_names m)) []) (λ constants.
      next (declarations (place_of m constants d) m) (λ ds.
      walk_items sub room ms above m path out d (scope_of constants d (in_order (ports_of m) ds)) (in_order (ports_of m) ds)))
      (λ constants e. holds_next_so (Grows (suc room) d) (declarations (place_of m constants d) m) (λ ds.
      walk_items sub room ms above m path out d (scope_of constants d (in_order (ports_of m) ds)) (in_order (ports_of m) ds))
      (λ ds is. holds_next (Between room path d) (Grows (suc room) d)
      (items (timing_of ms (module_name m).name) sub room ms above path (items_in m) (opening m path out d (scope_of constants d (in_order (ports_of m) ds)) (in_order (ports_of m) ds)))
      (λ t. Ok (closed path (length d.nodes) t))
      (items_hold (timing_of ms (module_name m).name) sub room good above path d (items_in m)
      (opening m path out d (scope_of constants d (in_order (ports_of m) ds)) (in_order (ports_of m) ds))
      (opens_between room path d m out (scope_of constants d (in_order (ports_of m) ds)) (in_order (ports_of m) ds)))
      (λ t k. closes_grows room path d t k)))

  walk_grows : (room : ℕ) (above : List (List ℕ)) (m : ModuleTree) (path : Path) (out : Outside) (d : Design) → HoldsOk (Grows (suc room) d) (walk ms room above m path out d)
  unfolding walk
  walk_grows zero above m path out d = instance_walk (λ a n q o e. Ok e) 0 (λ t. cc) above m path out d
  walk_grows (suc room) above m path out d = instance_walk (walk ms room) (suc room) (λ t a n q o e. walk_grows room a n q o e) above m path out d

-- the signals of a design that are no words of memories are declared by rising number
abbrev pub IsOrdered : Design → Type 0
IsOrdered d = declared_signals (instance_of (map node_of d.nodes) 65 [] 0) ≡ plain 0 d.signals

top_ordered : (e : Design) → Grows 65 no_design e → IsOrdered e
top_ordered e g =
    ap (λ (l : List NodeAt). declared_signals (instance_of (map node_of l) 65 [] 0)) (g.nodes ∙ sym (append-nil g.news)) ∙ g.order [] [] refl
    ∙ ap (plain 0) (sym g.signals)

module _ (ms : Modules) where
  from_top_ordered : (top : Option ModuleTree) → HoldsOk IsOrdered (from_top ms top)
  from_top_ordered None = tt
  from_top_ordered (Some m) =
      by (walk ms 64 ((module_name m).name ∷ []) m ((module_name m).name ∷ []) (record { given = []; scope = nothing; joints = [] }) no_design)
      (walk_grows ms 64 ((module_name m).name ∷ []) m ((module_name m).name ∷ []) (record { given = []; scope = nothing; joints = [] }) no_design)
    where
      by : (r : Result Design Broken) → HoldsOk (Grows 65 no_design) r → HoldsOk IsOrdered r
      by (Ok e) h = top_ordered e h
      by (Err b) h = tt

  pub designs_ordered : (top : Option (List ℕ)) → HoldsOk IsOrdered (flat_design ms top)
  designs_ordered top = holds_next_so IsOrdered (modules_checked [] ms.list) (λ u. from_top ms (top_of ms.list top)) (λ u e. from_top_ordered (top_of ms.list top))
