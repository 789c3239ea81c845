-- Lines that are put one after the other, until a put fails.
use Rattle.std.proofs.Common.{◌≡◌, ℕ, List, [], ◌∷◌, ◌++◌, Option, None, Some, Result, Ok, Err, OnOk, OnErr, IsErrOf, refl, ap, subst, ◌∙◌, inl, inr, append_assoc}
use Rattle.std.specs.Result.{result_err}
use Rattle.port_io.specs.Ports.{AppendsPart}
use Rattle.port_io.specs.PutsPart.{IsPart}
use Rattle.port_io.specs.Means.{SinkMeans, PutsTo}
use Rattle.port_io.specs.PutLaws.{takes_one}
use Rattle.port_io.proofs.PartLaws.{part_one, puts_to_then}
use Rattle.port_io.specs.declared.ports.SinkFault.{SinkFault}
use Rattle.port_io.specs.declared.ports.SinkFault.TheVariants.{Failed, OutOfMemory}
use Rattle.scheduler.specs.Puts.{PutsOn}

module _ {O : Type 0} (sink : SinkMeans O) where
  -- no line is put
  pub puts_on_none : (fault : Option SinkFault) (out : O) → PutsOn sink fault out [] fault out
  puts_on_none None out = refl
  puts_on_none (Some f) out = (refl, refl)

  -- one line is put
  pub put_one : (fault : SinkFault) (out : O) (line : List ℕ) (out' : O) → (fault ≡ Failed → sink.breaks out line out') → AppendsPart (sink.told out) (sink.told out') line → PutsTo sink out (line ∷ []) (Some fault) out'
  put_one Failed out line out' b p = ([], line, [], refl, (out, refl, b refl))
  put_one OutOfMemory out line out' b p = part_one sink.takes sink.told out line out' p

  -- one line is put, by what the put answers
  pub put_done : {T : Type 0} (out : O) (line : List ℕ) (r : Result T SinkFault) (out' : O) → OnOk r (sink.takes out line out') → (IsErrOf r Failed → sink.breaks out line out')
      → OnErr r (AppendsPart (sink.told out) (sink.told out') line) → PutsTo sink out (line ∷ []) (result_err r) out'
  put_done out line (Ok x) out' t b p = takes_one sink.takes sink.breaks out line out' t
  put_done out line (Err fault) out' t b p = put_one fault out line out' (λ e. b (ap Err e)) p

  part_more : (mid : O) (rest ys : List (List ℕ)) (after : O) → IsPart sink.told mid rest after → IsPart sink.told mid (rest ++ ys) after
  part_more mid rest ys after (inl same) = inl same
  part_more mid rest ys after (inr (piece, more, e, p)) = inr (piece, more ++ ys, ap (λ (l : List (List ℕ)). l ++ ys) e, p)

  -- after a line that wasn't taken nothing more is put
  pub puts_no_more : (out : O) (xs : List (List ℕ)) (f : SinkFault) (out' : O) (ys : List (List ℕ)) → PutsTo sink out xs (Some f) out' → PutsTo sink out (xs ++ ys) (Some f) out'
  puts_no_more out xs Failed out' ys (front, broken, more, split, at) =
      (front, broken, more ++ ys, ap (λ (l : List (List ℕ)). l ++ ys) split ∙ append_assoc front (broken ∷ more) ys, at)
  puts_no_more out xs OutOfMemory out' ys p = record {
    front = p.front;
    rest = p.rest ++ ys;
    split = ap (λ (l : List (List ℕ)). l ++ ys) p.split ∙ append_assoc p.front p.rest ys;
    mid = p.mid;
    taken = p.taken;
    part = part_more p.mid p.rest ys out' p.part;
  }

  -- lines, and then others
  pub puts_on_then : (f : Option SinkFault) (a : O) (xs : List (List ℕ)) (g : Option SinkFault) (b : O) (ys : List (List ℕ)) (h : Option SinkFault) (c : O)
      → PutsOn sink f a xs g b → PutsOn sink g b ys h c → PutsOn sink f a (xs ++ ys) h c
  puts_on_then None a xs None b ys h c p q = puts_to_then sink a xs b ys h c p q
  puts_on_then None a xs (Some g) b ys h c p q = rw (q.0, q.1) (puts_no_more a xs g b ys p)
  puts_on_then (Some f) a xs g b ys h c p q =
      let q' : PutsOn sink (Some f) b ys h c = subst (λ (x : Option SinkFault). PutsOn sink x b ys h c) p.0 q in
      (q'.0, q'.1 ∙ p.1)
