use Rattle.std.proofs.Common.{◌+◌, ◌++◌, ◌∷◌, [], None, ap, ◌∙◌}
use Rattle.trigger_table.proofs.RingLemmas.{grown_by, owners_stay}
use Rattle.trigger_table.proofs.rings.Rings.grow.Goals as goal

pub invariant_of-self-2 : goal.invariant_of-self-2
invariant_of-self-2 c = record {
  linked = (grown_by c.args.self.now.next.items c.args.self.now.prev.items _ _ c.args.self.now.owners.items _ c.len-head.result c.args.self.now.linked (c.len-head.ensures ∙ c.args.self.now.next.ok.0)
      (c.push_reserved-2.ensures.items ∙ ap (λ xs. xs ++ (c.len-head.result + 1) ∷ []) (c.push_reserved.ensures.items ∙ ap (λ xs. xs ++ c.len-head.result ∷ []) c.reserve.ensures.items))
      (c.push_reserved-4.ensures.items ∙ ap (λ xs. xs ++ (c.len-head.result + 1) ∷ []) (c.push_reserved-3.ensures.items ∙ ap (λ xs. xs ++ c.len-head.result ∷ []) c.reserve-2.ensures.items))
      (c.push_reserved-5.ensures.items ∙ ap (λ xs. xs ++ None ∷ []) c.reserve-3.ensures.items)).linked;
}

pub returns-clause-same : goal.returns-clause-same
returns-clause-same c = record {
  lists = (grown_by c.args.self.now.next.items c.args.self.now.prev.items _ _ c.args.self.now.owners.items _ c.len-head.result c.args.self.now.linked (c.len-head.ensures ∙ c.args.self.now.next.ok.0)
      (c.push_reserved-2.ensures.items ∙ ap (λ xs. xs ++ (c.len-head.result + 1) ∷ []) (c.push_reserved.ensures.items ∙ ap (λ xs. xs ++ c.len-head.result ∷ []) c.reserve.ensures.items))
      (c.push_reserved-4.ensures.items ∙ ap (λ xs. xs ++ (c.len-head.result + 1) ∷ []) (c.push_reserved-3.ensures.items ∙ ap (λ xs. xs ++ c.len-head.result ∷ []) c.reserve-2.ensures.items))
      (c.push_reserved-5.ensures.items ∙ ap (λ xs. xs ++ None ∷ []) c.reserve-3.ensures.items)).keys;
  keys = owners_stay c.args.self.now.owners.items _ (c.push_reserved-5.ensures.items ∙ ap (λ xs. xs ++ None ∷ []) c.reserve-3.ensures.items);
}
