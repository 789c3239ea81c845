-- Pieces that were put as far as memory went.
use Rattle.std.proofs.Common.{ℕ, false, List, [], ◌∷◌, ◌++◌, Option, None, Some, refl, ap, sym, append_assoc, ◌∙◌, inl, inr}
use Rattle.port_io.specs.Ports.{TakesAll, AppendsPart}
use Rattle.port_io.specs.PutsPart.{PutsPart}
use Rattle.port_io.specs.Means.{SinkMeans, PutsTo}
use Rattle.port_io.specs.PutLaws.{takes_then, puts_then}
use Rattle.port_io.specs.declared.ports.SinkFault.{SinkFault}
use Rattle.port_io.specs.declared.ports.SinkFault.TheVariants.{Failed, OutOfMemory}

module _ {O : Type 0} (takes : O → List ℕ → O → Type 0) (told : O → Option (List ℕ)) where
  -- nothing was put
  pub part_none : (a : O) (pieces : List (List ℕ)) → PutsPart takes told a pieces a
  part_none a pieces = record { front = []; rest = pieces; split = refl; mid = a; taken = refl; part = inl refl }

  -- a part of one piece was
  pub part_one : (a : O) (piece : List ℕ) (b : O) → AppendsPart (told a) (told b) piece → PutsPart takes told a (piece ∷ []) b
  part_one a piece b p = record { front = []; rest = piece ∷ []; split = refl; mid = a; taken = refl; part = inr (piece, [], refl, p) }

  -- after pieces that were taken
  pub part_then : (a : O) (xs : List (List ℕ)) (b : O) (ys : List (List ℕ)) (c : O) → TakesAll takes a xs b → PutsPart takes told b ys c → PutsPart takes told a (xs ++ ys) c
  part_then a xs b ys c t p = record {
    front = xs ++ p.front;
    rest = p.rest;
    split = ap (λ (zs : List (List ℕ)). xs ++ zs) p.split ∙ sym (append_assoc xs p.front p.rest);
    mid = p.mid;
    taken = takes_then takes takes a xs b p.front p.mid t p.taken;
    part = p.part;
  }

-- pieces that were taken, and then others
pub puts_to_then : {O : Type 0} (sink : SinkMeans O) (a : O) (xs : List (List ℕ)) (b : O) (ys : List (List ℕ)) (fault : Option SinkFault) (c : O) → TakesAll sink.takes a xs b → PutsTo sink b ys fault c → PutsTo sink a (xs ++ ys) fault c
puts_to_then sink a xs b ys None c t p = takes_then sink.takes sink.breaks a xs b ys c t p
puts_to_then sink a xs b ys (Some Failed) c t p = puts_then sink.takes sink.breaks a xs b ys false c t p
puts_to_then sink a xs b ys (Some OutOfMemory) c t p = part_then sink.takes sink.told a xs b ys c t p
