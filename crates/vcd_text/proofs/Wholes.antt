-- What is written for the lines of a run, and behind the lines that begin a text.
use Rattle.std.specs.Prelude.{◌≡◌, ℕ, false, List, [], ◌∷◌, ◌++◌, refl}
use Rattle.std.proofs.Common.{ap, sym, subst, ◌∙◌, append_assoc, append-nil}
use Rattle.port_io.specs.Ports.{TakesAll, Puts}
use Rattle.port_io.specs.PutLaws.{takes_then, puts_then}
use Rattle.gpi.specs.declared.design.Flat.{Flat}
use Rattle.vcd_text.specs.Changes.{ValueChange}
use Rattle.vcd_text.specs.Text.{begin_lines, change_lines}
use Rattle.vcd_text.specs.TracedLines.{Becomes, BecomeAll, TellAll}
use Rattle.vcd_text.specs.Sink.{TakesLine, IsSameSink}
use Rattle.vcd_text.specs.WholeTexts.{WritesWhole, WritesFront}
use Rattle.vcd_text.specs.declared.sink.VcdSink.{VcdSink}
use Rattle.vcd_text.proofs.Written.{lines_become_changes}

module _ {O : Type 0} (takes breaks : O → List ℕ → O → Type 0) where
  same_then : (a b c : VcdSink O) → IsSameSink a b → IsSameSink b c → IsSameSink a c
  same_then a b c x y = record { same_reference = y.same_reference ∙ x.same_reference; design = y.design ∙ x.design }

  -- what is written for lines that are all taken
  record WritesAll (flat : Flat) (before : VcdSink O) (texts : List (List ℕ)) (after : VcdSink O) : Type 0 where
    written : List (List ℕ)
    become : BecomeAll flat before.last texts written
    taken : TakesAll takes before.out.now written after.out.now
    same : IsSameSink before after

  all_more : (flat : Flat) (before mid after : VcdSink O) (text : List ℕ) (texts : List (List ℕ)) → before.signals.now.flat.now ≡ flat → TakesLine takes before text mid
      → WritesAll flat mid texts after → WritesAll flat before (text ∷ texts) after
  all_more flat before mid after text texts design line others = record {
    written = line.lines ++ others.written;
    become = (line.lines, mid.last, others.written, subst (λ (f : Flat). Becomes f before.last text line.lines mid.last) design line.becomes, others.become, refl);
    taken = takes_then takes breaks before.out.now line.lines mid.out.now others.written after.out.now line.taken others.taken;
    same = same_then before mid after line.same others.same;
  }

  writes_all : (flat : Flat) (before : VcdSink O) (texts : List (List ℕ)) (after : VcdSink O) → before.signals.now.flat.now ≡ flat → TakesAll (TakesLine takes) before texts after → WritesAll flat before texts after
  writes_all flat before [] after design stays = record {
    written = [];
    become = refl;
    taken = ap (λ (s : VcdSink O). s.out.now) stays;
    same = record { same_reference = ap (λ (s : VcdSink O). s.out.ghost_name) stays; design = ap (λ (s : VcdSink O). s.signals.now.flat.now) stays };
  }
  writes_all flat before (text ∷ texts) after design (mid, line, rest) =
      all_more flat before mid after text texts design line (writes_all flat mid texts after (line.same.design ∙ design) rest)

  pub writes_whole : WritesWhole takes
  writes_whole flat out before after texts begun taken = (
    tells.0,
    tells.1,
    takes_then takes breaks out (begin_lines flat) before.out.now (change_lines 0 tells.0) after.out.now begun.begun
        (subst (λ (l : List (List ℕ)). TakesAll takes before.out.now l after.out.now) tells.2 all.taken),
    all.same,
  )
    where
      all : WritesAll flat before texts after
      all = writes_all flat before texts after begun.design taken

      tells : (changes : List ValueChange) × TellAll flat texts changes × (all.written ≡ change_lines 0 changes)
      tells = lines_become_changes flat 0 texts all.written (subst (λ (last : ℕ). BecomeAll flat last texts all.written) begun.last all.become)

  -- lines, and one more
  become_more : (flat : Flat) (last mid next : ℕ) (texts written : List (List ℕ)) (text : List ℕ) (lines : List (List ℕ))
      → ((rest more : List (List ℕ)) → BecomeAll flat mid rest more → BecomeAll flat last (texts ++ rest) (written ++ more))
      → Becomes flat mid text lines next → BecomeAll flat last (texts ++ text ∷ []) (written ++ lines)
  become_more flat last mid next texts written text lines along becomes = along (text ∷ []) lines (lines, next, [], becomes, refl, sym (append-nil lines))

  -- the same, with what may follow
  record WritesOn (flat : Flat) (before : VcdSink O) (texts : List (List ℕ)) (after : VcdSink O) : Type 0 where
    written : List (List ℕ)
    along : (rest more : List (List ℕ)) → BecomeAll flat after.last rest more → BecomeAll flat before.last (texts ++ rest) (written ++ more)
    taken : TakesAll takes before.out.now written after.out.now
    same : IsSameSink before after

  on_more : (flat : Flat) (before mid after : VcdSink O) (text : List ℕ) (texts : List (List ℕ)) → before.signals.now.flat.now ≡ flat → TakesLine takes before text mid
      → WritesOn flat mid texts after → WritesOn flat before (text ∷ texts) after
  on_more flat before mid after text texts design line others = record {
    written = line.lines ++ others.written;
    along = λ more_texts more b. (
      line.lines,
      mid.last,
      others.written ++ more,
      subst (λ (f : Flat). Becomes f before.last text line.lines mid.last) design line.becomes,
      others.along more_texts more b,
      append_assoc line.lines others.written more,
    );
    taken = takes_then takes breaks before.out.now line.lines mid.out.now others.written after.out.now line.taken others.taken;
    same = same_then before mid after line.same others.same;
  }

  writes_on : (flat : Flat) (before : VcdSink O) (texts : List (List ℕ)) (after : VcdSink O) → before.signals.now.flat.now ≡ flat → TakesAll (TakesLine takes) before texts after → WritesOn flat before texts after
  writes_on flat before [] after design stays = record {
    written = [];
    along = λ rest more b. subst (λ (s : VcdSink O). BecomeAll flat s.last rest more) stays b;
    taken = ap (λ (s : VcdSink O). s.out.now) stays;
    same = record { same_reference = ap (λ (s : VcdSink O). s.out.ghost_name) stays; design = ap (λ (s : VcdSink O). s.signals.now.flat.now) stays };
  }
  writes_on flat before (text ∷ texts) after design (mid, line, rest) =
      on_more flat before mid after text texts design line (writes_on flat mid texts after (line.same.design ∙ design) rest)

  pub writes_front : WritesFront takes breaks
  writes_front flat out before after texts begun (front, broken, more, split, (mid, taken, last)) = (
    front ++ broken ∷ [],
    more,
    tells.0,
    split ∙ sym (append_assoc front (broken ∷ []) more),
    tells.1,
    puts_then takes breaks out (begin_lines flat) before.out.now (change_lines 0 tells.0) false after.out.now begun.begun
        (subst (λ (l : List (List ℕ)). Puts takes breaks before.out.now l false after.out.now) tells.2
        (puts_then takes breaks before.out.now all.written mid.out.now last.lines false after.out.now all.taken last.broken)),
    same_then before mid after all.same last.same,
  )
    where
      all : WritesOn flat before front mid
      all = writes_on flat before front mid begun.design taken

      become : BecomeAll flat 0 (front ++ broken ∷ []) (all.written ++ last.lines)
      become = subst (λ (time : ℕ). BecomeAll flat time (front ++ broken ∷ []) (all.written ++ last.lines)) begun.last
          (become_more flat before.last mid.last last.next front all.written broken last.lines all.along
          (subst (λ (f : Flat). Becomes f mid.last broken last.lines last.next) (all.same.design ∙ begun.design) last.becomes))

      tells : (changes : List ValueChange) × TellAll flat (front ++ broken ∷ []) changes × (all.written ++ last.lines ≡ change_lines 0 changes)
      tells = lines_become_changes flat 0 (front ++ broken ∷ []) (all.written ++ last.lines) become
