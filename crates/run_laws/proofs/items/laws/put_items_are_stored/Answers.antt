use Rattle.run_laws.proofs.ItemsLemmas.Puts.{put_answered, put_made, put_refused, put_stored}
use Rattle.run_laws.proofs.items.laws.put_items_are_stored.Goals as goal

pub returns : goal.returns
returns c = record {
  stored = λ setup rig queue item. put_stored setup queue item rig;
  refused = λ setup rig queue item kind. put_refused setup queue item kind rig;
  answered = λ setup rig queue item. put_answered setup queue item rig;
  made = put_made;
}
