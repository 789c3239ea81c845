-- The staged writes go out, one after the other.
use Rattle.std.proofs.Common.{◌≡◌, ℕ, ◌||◌, ◌&&◌, Bool, true, false, not, List, [], ◌∷◌, Option, refl, sym, ap, subst, ◌∙◌}
use Rattle.port_io.specs.Means.{SinkMeans}
use Rattle.port_io.specs.declared.ports.SinkFault.{SinkFault}
use Rattle.gpi.specs.Content.{Content}
use Rattle.gpi.specs.Keys.{among, same_key}
use Rattle.gpi.specs.declared.design.Flat.{Flat}
use Rattle.gpi.specs.declared.types.Counts.{Counts}
use Rattle.gpi.specs.declared.types.Key.{Key}
use Rattle.gpi.specs.declared.types.Key.TheVariants.{ReadWrite}
use Rattle.run_view.specs.declared.signal_port.staged.Staged.{Staged}
use Rattle.await_tree.specs.WaitList.Waiting.{keys_of, phase_key}
use Rattle.rig_model.specs.Run.Rig.{Rig, Setup, After, is_any, followed_by, quiet}
use Rattle.rig_model.specs.Run.Serve.{deposit, flushed, flushed_if}
use Rattle.rig_model.specs.Parts.Fits.{AreSoundWrites, IsSoundWrite}
use Rattle.rig_model.specs.Parts.Queue.{Queue, queue_held, rig_amid}
use Rattle.scheduler.specs.Amid.{IsAmid, IsAmidHeld, Serves, StandsAmid}
use Rattle.scheduler.specs.Puts.{PutsOn}
use Rattle.run_state.proofs.QueueLemmas.KeyLaws.{same_is}
use Rattle.scheduler.proofs.DepositLaws.{among_held}
use Rattle.scheduler.proofs.PutLaws.{puts_on_none, puts_on_then}
use Rattle.scheduler.proofs.ServeLaws.{among_awaited}

abbrev pub rw_key : List Key
rw_key = ReadWrite ∷ []

-- ---- what isn't awaited whatever is staged

phase_free : (b : Bool) (x : Key) → among x rw_key ≡ false → among x (phase_key b) ≡ false
phase_free true x h = h
phase_free false x h = refl

-- but for the read-write phase the runner holds the same keys whatever is staged
held_free : (q : Queue) (ws : List Staged) (x : Key) → among x rw_key ≡ false → among x (queue_held q) ≡ among x (queue_held (record q { staged = ws }))
held_free q ws x h =
    among_held x q
    ∙ rw (phase_free (is_any q.staged) x h) (sym (among_held x (record q { staged = ws }) ∙ rw (phase_free (is_any ws) x h) refl))

pub same_unless : (w a b o : Bool) → (o ≡ false → a ≡ b) → ((w || a) && not o) ≡ ((w || b) && not o)
same_unless w a b false h = rw (h refl) refl
same_unless true a b true h = refl
same_unless false true true true h = refl
same_unless false true false true h = refl
same_unless false false true true h = refl
same_unless false false false true h = refl

module _ (flat : Flat) (room : ℕ) (counts : Counts) (held : List Key) (q : Queue) (k : Content) (s : StandsAmid flat room rw_key counts held q k) where
  -- while the read-write phase is served it isn't awaited, whatever is staged
  pub unstaged : (ws : List Staged) → AreSoundWrites flat.signals ws → StandsAmid flat room rw_key counts held (record q { staged = ws }) k
  unstaged ws sound = record {
    procs_are = s.procs_are;
    nets_are = s.nets_are;
    signals = s.signals;
    keys_are = λ x. s.keys_are x
        ∙ among_awaited x rw_key q
        ∙ same_unless (among x (keys_of q.waiting)) (among x (queue_held q)) (among x (queue_held (record q { staged = ws }))) (among x rw_key) (held_free q ws x)
        ∙ sym (among_awaited x rw_key (record q { staged = ws }));
    held_are = λ x h. s.held_are x h ∙ held_free q ws x h;
    counts_are = s.counts_are;
    writes = sound;
    room_is = s.room_is;
    still = s.still;
  }

-- the oldest write is sound, and so are the others
pub first_sound : (flat : Flat) (ws : List Staged) (write : Staged) (writes : List Staged) → AreSoundWrites flat.signals ws → ws ≡ write ∷ writes
    → IsSoundWrite flat.signals write × AreSoundWrites flat.signals writes
first_sound flat ws write writes h e = subst (AreSoundWrites flat.signals) e h

-- with the oldest write taken out, where the runner holds the read-write phase
pub amid_unstaged : (flat : Flat) (room : ℕ) (held : List Key) (q : Queue) (k : Content) (write : Staged) (writes : List Staged) → IsAmid flat room rw_key held q k → q.staged ≡ write ∷ writes
    → among ReadWrite held ≡ true → IsAmidHeld flat room held (record q { staged = writes }) k
amid_unstaged flat room held q k write writes a e h = record {
  fired = rw_key;
  amid = record { counts = a.counts; stands = unstaged flat room a.counts held q k a.stands writes (first_sound flat q.staged write writes a.stands.writes e).1 };
  covered = λ x m. covered x (same_key x ReadWrite) refl m;
}
  where
    covered : (x : Key) (b : Bool) → same_key x ReadWrite ≡ b → (same_key x ReadWrite || false) ≡ true → among x held ≡ true
    covered x true m n = ap (λ (y : Key). among y held) (same_is x ReadWrite m) ∙ h
    covered x false m n = absurd (let z : false ≡ true = sym (rw m refl) ∙ n in cc)

-- a write is staged
pub some_staged : (ws : List Staged) (write : Staged) (writes : List Staged) → ws ≡ write ∷ writes → is_any ws ≡ true
some_staged ws write writes e = ap is_any e

module _ {O : Type 0} (sink : SinkMeans O) (flat : Flat) (room : ℕ) (fired : List Key) where
  -- an effect, and then another
  pub serves_then : (one two : Rig → After) (n : Counts) (q : Queue) (k : Content) (held1 : List Key) (q1 : Queue) (k1 : Content) (held2 : List Key) (q2 : Queue) (k2 : Content)
      (f : Option SinkFault) (o : O) (g : Option SinkFault) (p : O) (h : Option SinkFault) (r : O)
      → (s : Serves sink one flat room fired n q k held1 q1 k1 f o g p) → Serves sink two flat room fired s.after q1 k1 held2 q2 k2 g p h r
      → Serves sink (λ c. followed_by (one c) two) flat room fired n q k held2 q2 k2 f o h r
  serves_then one two n q k held1 q1 k1 held2 q2 k2 f o g p h r s t = record {
    after = t.after;
    stands = t.stands;
    leads = λ c. ap (λ (d : Rig). (two d).rig) (s.leads c) ∙ t.leads c;
    puts = λ c. puts_on_then sink f o (one (rig_amid fired n q k.state c)).lines g p (two (one (rig_amid fired n q k.state c)).rig).lines h r (s.puts c)
        (subst (λ (d : Rig). PutsOn sink g p (two d).lines h r) (sym (s.leads c)) (t.puts c));
  }

  -- nothing is done
  pub serves_none : (n : Counts) (held : List Key) (q : Queue) (k : Content) (f : Option SinkFault) (o : O) → StandsAmid flat room fired n held q k
      → Serves sink quiet flat room fired n q k held q k f o f o
  serves_none n held q k f o s = record { after = n; stands = s; leads = λ c. refl; puts = λ c. puts_on_none sink f o }

module _ {O : Type 0} (sink : SinkMeans O) (flat : Flat) (room : ℕ) (setup : Setup) where
  -- Some of the writes have gone out: what comes from here is what comes from the start.
  pub record Flushing (start : Rig → After) (n0 : Counts) (q0 : Queue) (k0 : Content) (f0 : Option SinkFault) (o0 : O) (held : List Key) (q : Queue) (k : Content) (f : Option SinkFault) (o : O) : Type 0 where
    pub counts : Counts
    pub stands : StandsAmid flat room rw_key counts held q k
    pub rest : (held' : List Key) (q' : Queue) (k' : Content) (h : Option SinkFault) (r : O) → Serves sink (flushed setup q.staged) flat room rw_key counts q k held' q' k' f o h r
        → Serves sink start flat room rw_key n0 q0 k0 held' q' k' f0 o0 h r

  pub flushing_begins : (n : Counts) (held : List Key) (q : Queue) (k : Content) (f : Option SinkFault) (o : O) → StandsAmid flat room rw_key n held q k
      → Flushing (flushed setup q.staged) n q k f o held q k f o
  flushing_begins n held q k f o s = record { counts = n; stands = s; rest = λ held' q' k' h r t. t }

  pub flushing_ends : (start : Rig → After) (n0 : Counts) (q0 : Queue) (k0 : Content) (f0 : Option SinkFault) (o0 : O) (held : List Key) (q : Queue) (k : Content) (f : Option SinkFault) (o : O)
      → Flushing start n0 q0 k0 f0 o0 held q k f o → q.staged ≡ [] → Serves sink start flat room rw_key n0 q0 k0 held q k f0 o0 f o
  flushing_ends start n0 q0 k0 f0 o0 held q k f o m e =
      m.rest held q k f o
      (subst (λ (ws : List Staged). Serves sink (flushed setup ws) flat room rw_key m.counts q k held q k f o f o) (sym e) (serves_none sink flat room rw_key m.counts held q k f o m.stands))

  -- the effect on the configuration of a queue from which a write is taken out
  taken_out : (effect : Rig → After) (n : Counts) (q : Queue) (k : Content) (writes : List Staged) (held' : List Key) (q' : Queue) (k' : Content) (f : Option SinkFault) (o : O) (g : Option SinkFault) (p : O)
      → Serves sink effect flat room rw_key n (record q { staged = writes }) k held' q' k' f o g p
      → Serves sink (λ c. effect (record c { staged = writes })) flat room rw_key n q k held' q' k' f o g p
  taken_out effect n q k writes held' q' k' f o g p s = record { after = s.after; stands = s.stands; leads = s.leads; puts = s.puts }

  -- one write more goes out
  pub flushing_more : (start : Rig → After) (n0 : Counts) (q0 : Queue) (k0 : Content) (f0 : Option SinkFault) (o0 : O) (held : List Key) (q : Queue) (k : Content) (f : Option SinkFault) (o : O)
      → (m : Flushing start n0 q0 k0 f0 o0 held q k f o) → (write : Staged) (writes : List Staged) → q.staged ≡ write ∷ writes
      → (held' : List Key) (q' : Queue) (k' : Content) (g : Option SinkFault) (p : O) → q'.staged ≡ writes
      → ((counts : Counts) → StandsAmid flat room rw_key counts held (record q { staged = writes }) k
      → Serves sink (deposit setup write.sig write.act) flat room rw_key counts (record q { staged = writes }) k held' q' k' f o g p)
      → Flushing start n0 q0 k0 f0 o0 held' q' k' g p
  unfolding taken_out
  flushing_more start n0 q0 k0 f0 o0 held q k f o m write writes e held' q' k' g p e' put =
      let s : Serves sink (deposit setup write.sig write.act) flat room rw_key m.counts (record q { staged = writes }) k held' q' k' f o g p
      = put m.counts (unstaged flat room m.counts held q k m.stands writes (first_sound flat q.staged write writes m.stands.writes e).1) in
      let t : Serves sink (λ c. deposit setup write.sig write.act (record c { staged = writes })) flat room rw_key m.counts q k held' q' k' f o g p
      = taken_out (deposit setup write.sig write.act) m.counts q k writes held' q' k' f o g p s in
      record {
        counts = s.after;
        stands = s.stands;
        rest = λ held'' q'' k'' h r u. m.rest held'' q'' k'' h r
            (subst (λ (ws : List Staged). Serves sink (flushed setup ws) flat room rw_key m.counts q k held'' q'' k'' f o h r) (sym e)
            (serves_then sink flat room rw_key (λ c. deposit setup write.sig write.act (record c { staged = writes })) (flushed setup writes) m.counts q k held' q' k' held'' q'' k'' f o g p h r t
            (subst (λ (ws : List Staged). Serves sink (flushed setup ws) flat room rw_key s.after q' k' held'' q'' k'' g p h r) e' u)));
      }

-- ---- whether they go out

module _ {O : Type 0} (sink : SinkMeans O) (flat : Flat) (room : ℕ) (setup : Setup) (fired : List Key) (n : Counts) (q : Queue) (k : Content) (held' : List Key) (q' : Queue) (k' : Content)
    (f : Option SinkFault) (o : O) (g : Option SinkFault) (p : O) where
  -- they do, where the read-write phase has fired
  pub flushed_then : (held : List Key) → fired ≡ rw_key
      → (StandsAmid flat room rw_key n held q k → Serves sink (flushed setup q.staged) flat room rw_key n q k held' q' k' f o g p)
      → StandsAmid flat room fired n held q k → Serves sink (flushed_if setup (among ReadWrite fired)) flat room fired n q k held' q' k' f o g p
  flushed_then held e h s =
      subst (λ (ks : List Key). Serves sink (flushed_if setup (among ReadWrite ks)) flat room ks n q k held' q' k' f o g p) (sym e)
      (own (h (subst (λ (ks : List Key). StandsAmid flat room ks n held q k) e s)))
    where
      own : Serves sink (flushed setup q.staged) flat room rw_key n q k held' q' k' f o g p → Serves sink (flushed_if setup true) flat room rw_key n q k held' q' k' f o g p
      own t = record { after = t.after; stands = t.stands; leads = t.leads; puts = t.puts }

-- they don't, where it hasn't
pub flushed_else : {O : Type 0} (sink : SinkMeans O) (flat : Flat) (room : ℕ) (setup : Setup) (fired : List Key) (n : Counts) (held : List Key) (q : Queue) (k : Content)
    (f : Option SinkFault) (o : O) → among ReadWrite fired ≡ false → StandsAmid flat room fired n held q k
    → Serves sink (flushed_if setup (among ReadWrite fired)) flat room fired n q k held q k f o f o
flushed_else sink flat room setup fired n held q k f o e s =
    subst (λ (b : Bool). Serves sink (flushed_if setup b) flat room fired n q k held q k f o f o) (sym e)
    (record { after = n; stands = s; leads = λ c. refl; puts = λ c. puts_on_none sink f o })
