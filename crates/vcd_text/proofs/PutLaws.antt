-- Lines that are put one after the other, until one isn't taken.
use Rattle.std.specs.Prelude.{◌≡◌, ℕ, ◌+◌, List, [], ◌∷◌, ◌++◌, drop, Option, Some, Result, Ok, Err, OnOk, OnErr, IsErrOf, slice_get, refl}
use Rattle.std.specs.Result.{result_err}
use Rattle.std.proofs.Common.{ap, sym, subst, ◌∙◌, append_assoc, inl, inr}
use Rattle.port_io.specs.Ports.{AppendsPart}
use Rattle.port_io.specs.PutsPart.{IsPart}
use Rattle.port_io.specs.Means.{SinkMeans, PutsTo}
use Rattle.port_io.specs.PutLaws.{takes_one}
use Rattle.port_io.proofs.PartLaws.{part_one, puts_to_then}
use Rattle.port_io.specs.declared.ports.SinkFault.{SinkFault}
use Rattle.port_io.specs.declared.ports.SinkFault.TheVariants.{Failed, OutOfMemory}
use Rattle.gpi.proofs.Sound.{drop_next}

module _ {O : Type 0} (sink : SinkMeans O) where
  part_more : (mid : O) (rest more : List (List ℕ)) (after : O) → IsPart sink.told mid rest after → IsPart sink.told mid (rest ++ more) after
  part_more mid rest more after (inl same) = inl same
  part_more mid rest more after (inr (piece, others, e, p)) = inr (piece, others ++ more, ap (λ (l : List (List ℕ)). l ++ more) e, p)

  -- nothing is put behind a line that isn't taken
  pub puts_no_more : (out : O) (lines : List (List ℕ)) (fault : SinkFault) (out' : O) (more : List (List ℕ))
      → PutsTo sink out lines (Some fault) out' → PutsTo sink out (lines ++ more) (Some fault) out'
  puts_no_more out lines Failed out' more (front, broken, others, split, at) =
      (front, broken, others ++ more, ap (λ (l : List (List ℕ)). l ++ more) split ∙ append_assoc front (broken ∷ others) more, at)
  puts_no_more out lines OutOfMemory out' more p = record {
    front = p.front;
    rest = p.rest ++ more;
    split = ap (λ (l : List (List ℕ)). l ++ more) p.split ∙ append_assoc p.front p.rest more;
    mid = p.mid;
    taken = p.taken;
    part = part_more p.mid p.rest more out' p.part;
  }

  -- one line that isn't taken
  pub put_one : (fault : SinkFault) (out : O) (line : List ℕ) (out' : O) → (fault ≡ Failed → sink.breaks out line out') → AppendsPart (sink.told out) (sink.told out') line
      → PutsTo sink out (line ∷ []) (Some fault) out'
  put_one Failed out line out' b p = ([], line, [], refl, (out, refl, b refl))
  put_one OutOfMemory out line out' b p = part_one sink.takes sink.told out line out' p

  -- one line is put, by what the put answers
  pub put_done : {T : Type 0} (out : O) (line : List ℕ) (r : Result T SinkFault) (out' : O) → OnOk r (sink.takes out line out') → (IsErrOf r Failed → sink.breaks out line out')
      → OnErr r (AppendsPart (sink.told out) (sink.told out') line) → PutsTo sink out (line ∷ []) (result_err r) out'
  put_done out line (Ok x) out' t b p = takes_one sink.takes sink.breaks out line out' t
  put_done out line (Err fault) out' t b p = put_one fault out line out' (λ e. b (ap Err e)) p

  -- a line that is taken, and those behind it
  pub put_next : (out : O) (lines : List (List ℕ)) (at : ℕ) (line : List ℕ) (mid : O) (fault : Option SinkFault) (out' : O) → slice_get lines at ≡ Some line
      → sink.takes out line mid → PutsTo sink mid (drop (at + 1) lines) fault out' → PutsTo sink out (drop at lines) fault out'
  put_next out lines at line mid fault out' there taken rest =
      subst (λ (l : List (List ℕ)). PutsTo sink out l fault out') (sym (drop_next lines at line there))
      (puts_to_then sink out (line ∷ []) mid (drop (at + 1) lines) fault out' (takes_one sink.takes sink.breaks out line mid taken) rest)

  -- a line that isn't taken, before others
  pub put_last : (out : O) (lines : List (List ℕ)) (at : ℕ) (line : List ℕ) (fault : SinkFault) (out' : O) → slice_get lines at ≡ Some line
      → PutsTo sink out (line ∷ []) (Some fault) out' → PutsTo sink out (drop at lines) (Some fault) out'
  put_last out lines at line fault out' there put =
      subst (λ (l : List (List ℕ)). PutsTo sink out l (Some fault) out') (sym (drop_next lines at line there))
      (puts_no_more out (line ∷ []) fault out' (drop (at + 1) lines) put)
