-- An item before others.
use Rattle.std.proofs.Common.{◌≡◌, [], ◌∷◌, ◌++◌, Vec, Global}
use Rattle.v_process.specs.declared.act.cases.LabeledItem.{LabeledItem}
use Rattle.v_process.proofs.ActLemmas.Done.{was_made}
use Rattle.v_process.proofs.act.cases.with_item.Goals as goal

pub returns : goal.returns
returns c =
    let made = c.in_ok-items.ensures.made in record {
      width = c.max-width.ensures;
      items = was_made c.with_last.result c.in_ok-items.items
          (λ (xs : Vec LabeledItem Global). xs.items ≡ c.args.rest.items.items ++ ((record { labels = c.args.labels; statement = c.args.statement }) ∷ []))
          made.0 c.with_last.ensures;
      other = made.1;
    }
