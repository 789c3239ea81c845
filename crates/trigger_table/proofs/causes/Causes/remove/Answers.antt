use Rattle.std.proofs.Common.{None, get_or, refl, sym}
use Rattle.trigger_table.specs.Entries.{cause_name}
use Rattle.trigger_table.specs.Name.{name_of}
use Rattle.trigger_table.proofs.IndexLemmas.{named, indexed_remove, sets_of, none_left}
use Rattle.trigger_table.proofs.NameLemmas.{name_same, name_self}
use Rattle.trigger_table.proofs.causes.Causes.remove.Goals as goal

pub invariant_of-self : goal.invariant_of-self
invariant_of-self c = record {
  indexed = indexed_remove _ name_same name_self cause_name c.args.self.now.slab.slots _ c.args.self.now.index c.remove.new.self c.args.self.now.indexed c.name_of.result c.args.number c.remove-record.result c.remove-record.ensures.value (sym c.name_of.ensures)
      (sets_of _ _ _ _ c.remove-record.ensures.updates) c.remove.ensures.updates;
}

pub returns-clause-gone : goal.returns-clause-gone
returns-clause-gone c other has =
    none_left _ name_same name_self cause_name c.args.self.now.slab.slots c.remove-record.new.self.slots c.args.self.now.index c.args.self.now.index c.args.self.now.indexed (name_of c.remove-record.result.on) c.args.number c.remove-record.result c.remove-record.ensures.value refl
    (sets_of _ _ _ _ c.remove-record.ensures.updates) other (named _ name_same name_self cause_name (name_of c.remove-record.result.on) (get_or c.remove-record.new.self.slots other None) (record { on = c.remove-record.result.on; held = has.0 }) has.1 refl)
