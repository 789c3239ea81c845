-- Modules that are read, with the places of their tokens, and tokens that spell none.
use Rattle.std.proofs.Common.{Err}
use Rattle.v_syntax.specs.SourceTrees.{view}
use Rattle.v_parse.proofs.ParseLaws.{parse_found, parse_only, parse_refused, made_tells, made_counts, placed_source}
use Rattle.v_parse.proofs.parser.parse.Goals as goal

pub returns-in-Ok-clause-found : goal.returns-in-Ok-clause-found
returns-in-Ok-clause-found c =
    parse_found view c.args.tokens.now.tokens c.as_slice.result.now c.as_slice.ensures.all c.placed.result
    (made_tells c.as_slice.result.now c.in-Ok.modules.items c.args.tokens.now c.placed.result c.in-Ok.ensures c.placed.ensures)

pub returns-in-Ok-clause-only : goal.returns-in-Ok-clause-only
returns-in-Ok-clause-only c =
    parse_only view c.args.tokens.now.tokens c.as_slice.result.now c.as_slice.ensures.all c.placed.result
    (made_tells c.as_slice.result.now c.in-Ok.modules.items c.args.tokens.now c.placed.result c.in-Ok.ensures c.placed.ensures)

pub returns-in-Ok-clause-refused : goal.returns-in-Ok-clause-refused
returns-in-Ok-clause-refused c =
    parse_refused view c.args.tokens.now.tokens c.as_slice.result.now c.as_slice.ensures.all c.placed.result
    (made_tells c.as_slice.result.now c.in-Ok.modules.items c.args.tokens.now c.placed.result c.in-Ok.ensures c.placed.ensures)

pub returns-in-Ok-clause-one_each : goal.returns-in-Ok-clause-one_each
returns-in-Ok-clause-one_each c =
    made_counts c.in-Ok.modules.items c.args.tokens.now c.placed.result c.placed.ensures (returns-in-Ok-clause-found c)

pub returns-in-Ok-clause-placed : goal.returns-in-Ok-clause-placed
returns-in-Ok-clause-placed c = placed_source c.in-Ok.modules.items c.args.tokens.now c.placed.result c.placed.ensures

pub returns-in-Err-clause-only : goal.returns-in-Err-clause-only
returns-in-Err-clause-only c =
    parse_only view c.args.tokens.now.tokens c.as_slice.result.now c.as_slice.ensures.all (Err c.in-Err.fault) c.in-Err.ensures

pub returns-in-Err-clause-refused : goal.returns-in-Err-clause-refused
returns-in-Err-clause-refused c =
    parse_refused view c.args.tokens.now.tokens c.as_slice.result.now c.as_slice.ensures.all (Err c.in-Err.fault) c.in-Err.ensures
