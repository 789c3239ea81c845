-- The assignments of an instance's connected ports change no digit that was changed before, and no two of them change one.
use Rattle.std.proofs.Common.{◌≡◌, ◌<◌, ◌⊎◌, inl, inr, ◌∙◌, ℕ, List, [], ◌∷◌, length, map, Option, Some, None, refl, sym, ap, subst, arith}
use Rattle.std.specs.Prelude.{bytes_eq}
use Rattle.std.specs.List.{list_any}
use Rattle.four_value.proofs.Lengths.{length_resize}
use Rattle.four_value.specs.Vector.{resize}
use Rattle.gpi.specs.declared.design.Kind.TheVariants as process_kind
use Rattle.gpi.specs.Activation.{Map}
use Rattle.gpi.specs.Design.{Proc}
use Rattle.gpi.specs.Targets.{whole_update}
use Rattle.gpi.specs.Terms.{read}
use Rattle.v_syntax.specs.declared.item.Direction.{Direction}
use Rattle.v_syntax.specs.declared.item.Direction.TheVariants as direction
use Rattle.v_syntax.specs.ExpressionTrees.{Tree, TargetTree}
use Rattle.v_flat.specs.declared.scope.meaning.DataKind.TheVariants.{Input}
use Rattle.v_flat.specs.declared.scope.meaning.DataObject.{DataObject}
use Rattle.v_flat.specs.declared.scope.meaning.Meaning.{Meaning}
use Rattle.v_flat.specs.declared.scope.meaning.Meaning.TheVariants.{Constant, Object, Later}
use Rattle.v_flat.specs.Scope.Scope.{Scope, find, width_of}
use Rattle.v_flat.specs.Targets.{as_target, target_width, updates}
use Rattle.v_flat.specs.Statements.{assigned_value, reads}
use Rattle.v_flat.specs.Headers.{Port, port_name}
use Rattle.v_flat.specs.Declarations.{Declared}
use Rattle.v_flat.specs.Design.{Design, Joint, any_change, find_joint, input_joint, input_run, output_run, output_target, port_joint, port_joints, wakes_of, with_process}
use Rattle.v_flat.proofs.ShapeLemmas.Names.{Among, Differ, among_first, among_later}
use Rattle.v_laws.specs.Digits.{IsWritten}
use Rattle.v_laws.proofs.Members.{Member}
use Rattle.v_laws.proofs.Applied.{changed_written}
use Rattle.v_laws.proofs.Joined.{IsJoined}
use Rattle.v_laws.proofs.Places.{HasScope, IsPlaced, placed_in, placed_once}
use Rattle.v_laws.proofs.Taken.{Assigns, Once, Taken, once_last, taken_last}

-- signal n is that of the input p
pub record IsInput (first : ℕ) (ds : List Declared) (p : Port) (n : ℕ) : Type 0 where
  pub object : DataObject
  pub placed : IsPlaced p.name object first ds
  pub kind : object.kind ≡ Input
  pub is : object.first ≡ n

-- what is known of the design before an instance, and of what its outputs are joined to
pub record AreApart (outer : Scope) (js : List Joint) (all : List Port) (d : Design) : Type 0 where
  pub once : Once d.processes
  pub old : (n k : ℕ) → Taken d.processes n k → n < length d.signals
  pub low : (p : Port) (n k : ℕ) → Member p all → IsJoined outer js p n k → n < length d.signals
  pub new : (p : Port) (n k : ℕ) → Member p all → IsJoined outer js p n k → Taken d.processes n k → ⊥
  pub apart : (p q : Port) (n k : ℕ) → Member p all → Member q all → (p.name ≡ q.name → ⊥) → IsJoined outer js p n k → IsJoined outer js q n k → ⊥

module _ (outer : Scope) (js : List Joint) (all : List Port) (d : Design) (known : AreApart outer js all d) (ds : List Declared) (s : Scope) (scope : HasScope (length d.signals) ds s)
    (directions : (p : Port) (o : DataObject) → Member p all → IsPlaced p.name o (length d.signals) ds → (p.direction ≡ Some direction.Output) ⊎ ((p.direction ≡ Some direction.Input) × (o.kind ≡ Input))) where
  abbrev IsOf : Port → ℕ → ℕ → Type 0
  IsOf p n k = IsJoined outer js p n k ⊎ IsInput (length d.signals) ds p n

  -- it was changed before, or is changed for a port that isn't one of the rest
  abbrev Origin : List Port → ℕ → ℕ → Type 0
  Origin rest n k = Taken d.processes n k ⊎ ((p : Port) × Member p all × (Among p.name (map port_name rest) → ⊥) × IsOf p n k)

  record Amid (rest : List Port) (e : Design) : Type 0 where
    once : Once e.processes
    within : (n k : ℕ) → Taken e.processes n k → Origin rest n k

  origin_on : (r : Port) (rest : List Port) (n k : ℕ) → Origin (r ∷ rest) n k → Origin rest n k
  origin_on r rest n k (inl t) = inl t
  origin_on r rest n k (inr a) = inr (a.0, a.1, (λ m. a.2 (among_later a.0.name r.name (map port_name rest) m)), a.3)

  stays_amid : (r : Port) (rest : List Port) (e : Design) → Amid (r ∷ rest) e → Amid rest e
  stays_amid r rest e h = record { once = h.once; within = λ n k t. origin_on r rest n k (h.within n k t) }

  two_ports : (p r : Port) (n k : ℕ) → Member p all → Member r all → (p.name ≡ r.name → ⊥) → IsOf p n k → IsOf r n k → ⊥
  two_ports p r n k m l ne (inl a) (inl b) = known.apart p r n k m l ne a b
  two_ports p r n k m l ne (inl a) (inr b) =
      let u = known.low p n k m a in let v = (placed_in r.name b.object (length d.signals) ds b.placed).0 in let e = b.is in absurd (omega (arith, u, v, e))
  two_ports p r n k m l ne (inr a) (inl b) =
      let u = known.low r n k l b in let v = (placed_in p.name a.object (length d.signals) ds a.placed).0 in let e = a.is in absurd (omega (arith, u, v, e))
  two_ports p r n k m l ne (inr a) (inr b) = ne (placed_once p.name r.name a.object b.object (length d.signals) ds a.placed b.placed (a.is ∙ sym b.is)).0

  not_before : (r : Port) (n k : ℕ) → Member r all → IsOf r n k → Taken d.processes n k → ⊥
  not_before r n k m (inl a) t = known.new r n k m a t
  not_before r n k m (inr b) t =
      let u = known.old n k t in let v = (placed_in r.name b.object (length d.signals) ds b.placed).0 in let e = b.is in absurd (omega (arith, u, v, e))

  new_amid : (r : Port) (rest : List Port) (e : Design) (p : Proc) → Member r all → (Among r.name (map port_name rest) → ⊥) → ((n k : ℕ) → Assigns p n k → IsOf r n k) → Amid (r ∷ rest) e → Amid rest (with_process p e)
  new_amid r rest e p here none of h = record {
    once = once_last e.processes p h.once (λ n k a t. spares n k a (h.within n k t));
    within = λ n k t. within n k (taken_last e.processes p n k t);
  }
    where
      other : (q : Port) → (Among q.name (map port_name (r ∷ rest)) → ⊥) → q.name ≡ r.name → ⊥
      other q not f = not (ap (λ m. list_any (bytes_eq m) (map port_name (r ∷ rest))) f ∙ among_first r.name (map port_name rest))

      spares : (n k : ℕ) → Assigns p n k → Origin (r ∷ rest) n k → ⊥
      spares n k a (inl t) = not_before r n k here (of n k a) t
      spares n k a (inr b) = two_ports b.0 r n k b.1 here (other b.0 b.2) b.3 (of n k a)

      within : (n k : ℕ) → Taken e.processes n k ⊎ Assigns p n k → Origin rest n k
      within n k (inl t) = origin_on r rest n k (h.within n k t)
      within n k (inr a) = inr (r, here, none, of n k a)

  output_amid : (r : Port) (rest : List Port) (e : Design) (v : Tree) (o : DataObject) (t : Option TargetTree) → Member r all → (Among r.name (map port_name rest) → ⊥) → find_joint r.name js ≡ Some v
      → r.direction ≡ Some direction.Output → as_target v ≡ t → Amid (r ∷ rest) e → Amid rest (output_target outer o t e)
  output_amid r rest e v o None here none f c g h = stays_amid r rest e h
  output_amid r rest e v o (Some t) here none f c g h =
      new_amid r rest e (record { kind = process_kind.Assign; wakes = any_change o.first ∷ []; run = output_run outer o t }) here none (λ n k a. inl (joined n k a)) h
    where
      joined : (n k : ℕ) → Assigns (record { kind = process_kind.Assign; wakes = any_change o.first ∷ []; run = output_run outer o t }) n k → IsJoined outer js r n k
      joined n k a =
          let w = changed_written process_kind.Assign (any_change o.first ∷ []) (λ m. updates outer t (read m) (resize (read m o.first) (target_width outer t))) n k a.1 in
          record {
            value = v;
            found = f;
            output = c;
            target = t;
            is = g;
            map = read w.0;
            bits = resize (read w.0 o.first) (target_width outer t);
            few = let l = length_resize (read w.0 o.first) (target_width outer t) in omega (arith, l);
            written = w.1;
          }

  input_amid : (r : Port) (rest : List Port) (e : Design) (v : Tree) (o : DataObject) → Member r all → (Among r.name (map port_name rest) → ⊥) → IsPlaced r.name o (length d.signals) ds → o.kind ≡ Input
      → Amid (r ∷ rest) e → Amid rest (input_joint outer o v e)
  input_amid r rest e v o here none at kind h =
      new_amid r rest e (record { kind = process_kind.Assign; wakes = wakes_of (reads outer v) e; run = input_run outer o v }) here none (λ n k a. inr (input n k a)) h
    where
      written : (n k : ℕ) (m : Map) → IsWritten (whole_update (Some o.first) (assigned_value (width_of o.bounds) outer v (read m))) n k → o.first ≡ n
      written n k m (inl w) = w.0
      written n k m (inr w) = absurd w

      input : (n k : ℕ) → Assigns (record { kind = process_kind.Assign; wakes = wakes_of (reads outer v) e; run = input_run outer o v }) n k → IsInput (length d.signals) ds r n
      input n k a =
          let w = changed_written process_kind.Assign (wakes_of (reads outer v) e) (λ m. whole_update (Some o.first) (assigned_value (width_of o.bounds) outer v (read m))) n k a.1 in
          record { object = o; placed = at; kind = kind; is = written n k w.0 w.1 }

  object_amid : (r : Port) (rest : List Port) (e : Design) (v : Tree) (c : Option Direction) (o : DataObject) → Member r all → (Among r.name (map port_name rest) → ⊥) → find_joint r.name js ≡ Some v
      → r.direction ≡ c → IsPlaced r.name o (length d.signals) ds → Amid (r ∷ rest) e → Amid rest (port_joint outer (Some v) c (Some (Object o)) e)
  object_amid r rest e v c o here none f g at h = go c g (directions r o here at)
    where
      go : (b : Option Direction) → r.direction ≡ b → (r.direction ≡ Some direction.Output) ⊎ ((r.direction ≡ Some direction.Input) × (o.kind ≡ Input)) → Amid rest (port_joint outer (Some v) b (Some (Object o)) e)
      go (Some direction.Output) k x = output_amid r rest e v o (as_target v) here none f k refl h
      go (Some direction.Input) k (inl x) = absurd (let l : Some direction.Input ≡ Some direction.Output = sym k ∙ x in cc)
      go (Some direction.Input) k (inr x) = input_amid r rest e v o here none at x.1 h
      go None k (inl x) = absurd (let l : None ≡ Some direction.Output = sym k ∙ x in cc)
      go None k (inr x) = absurd (let l : None ≡ Some direction.Input = sym k ∙ x.0 in cc)

  port_amid : (r : Port) (rest : List Port) (e : Design) (v : Option Tree) (x : Option Meaning) → Member r all → (Among r.name (map port_name rest) → ⊥) → find_joint r.name js ≡ v → find r.name s ≡ x
      → Amid (r ∷ rest) e → Amid rest (port_joint outer v r.direction x e)
  port_amid r rest e None x here none f g h = stays_amid r rest e h
  port_amid r rest e (Some v) (Some (Object o)) here none f g h = object_amid r rest e v r.direction o here none f refl (scope r.name o g) h
  port_amid r rest e (Some v) (Some (Constant bits b)) here none f g h = other r.direction
    where
      other : (c : Option Direction) → Amid rest (port_joint outer (Some v) c (Some (Constant bits b)) e)
      other None = stays_amid r rest e h
      other (Some direction.Input) = stays_amid r rest e h
      other (Some direction.Output) = stays_amid r rest e h
  port_amid r rest e (Some v) (Some Later) here none f g h = other r.direction
    where
      other : (c : Option Direction) → Amid rest (port_joint outer (Some v) c (Some Later) e)
      other None = stays_amid r rest e h
      other (Some direction.Input) = stays_amid r rest e h
      other (Some direction.Output) = stays_amid r rest e h
  port_amid r rest e (Some v) None here none f g h = other r.direction
    where
      other : (c : Option Direction) → Amid rest (port_joint outer (Some v) c None e)
      other None = stays_amid r rest e h
      other (Some direction.Input) = stays_amid r rest e h
      other (Some direction.Output) = stays_amid r rest e h

  all_amid : (rest : List Port) (e : Design) → ((p : Port) → Member p rest → Member p all) → Differ (map port_name rest) → Amid rest e → Amid [] (port_joints outer js s rest e)
  all_amid [] e sub differ h = h
  all_amid (r ∷ rest) e sub differ h =
      all_amid rest (port_joint outer (find_joint r.name js) r.direction (find r.name s) e) (λ p m. sub p (inr m)) differ.1
      (port_amid r rest e (find_joint r.name js) (find r.name s) (sub r (inl refl)) differ.0 refl refl h)

  -- behind them
  pub record AreOpened (e : Design) : Type 0 where
    pub once : Once e.processes
    pub within : (n k : ℕ) → Taken e.processes n k → Taken d.processes n k ⊎ ((p : Port) × Member p all × (IsJoined outer js p n k ⊎ IsInput (length d.signals) ds p n))

  pub opened_apart : (e : Design) → e.processes ≡ d.processes → Differ (map port_name all) → AreOpened (port_joints outer js s all e)
  opened_apart e same differ = record { once = behind.once; within = λ n k t. origin n k (behind.within n k t) }
    where
      behind : Amid [] (port_joints outer js s all e)
      behind = all_amid all e (λ p m. m) differ (record {
        once = subst Once (sym same) known.once;
        within = λ n k t. inl (subst (λ ps. Taken ps n k) same t);
      })

      origin : (n k : ℕ) → Origin [] n k → Taken d.processes n k ⊎ ((p : Port) × Member p all × IsOf p n k)
      origin n k (inl t) = inl t
      origin n k (inr a) = inr (a.0, a.1, a.3)
