use Rattle.std.proofs.Common.{◌∙◌, ◌++◌, ap, refl, List}
use Rattle.v_exec.specs.declared.instruction.Instruction.{Instruction}
use Rattle.v_exec.proofs.Processes.{places_inside, code_stands, code_sound}
use Rattle.v_exec.proofs.code.Code.of.Goals as goal

pub starts_of-requires : goal.starts_of-requires
starts_of-requires c =
    places_inside c.processes.new.self c.processes.new.places.items c.deref.result.now c.args.flat.now.processes c.in_ok-needs.needs c.len.result
    c.in_ok-needs.ensures c.deref.ensures.value c.len.ensures

pub returns-clause-stands : goal.returns-clause-stands
returns-clause-stands c =
    let all = c.in_ok-move_behind.ensures.code ∙ ap (λ (xs : List Instruction). xs ++ c.processes.new.self) c.new-instructions.ensures.items in
    code_stands _ c.args.flat.now c.processes.new.self c.processes.new.places.items c.deref.result.now c.in_ok-needs.needs c.len.result
    c.in_ok-needs.ensures c.deref.ensures.value c.len.ensures all c.in_ok-starts.ensures

pub returns-clause-sound : goal.returns-clause-sound
returns-clause-sound c =
    let all = c.in_ok-move_behind.ensures.code ∙ ap (λ (xs : List Instruction). xs ++ c.processes.new.self) c.new-instructions.ensures.items in
    code_sound _ c.args.flat.now c.processes.new.self c.processes.new.places.items c.deref.result.now c.in_ok-needs.needs c.len.result
    c.in_ok-needs.ensures c.deref.ensures.value c.len.ensures all c.in_ok-starts.ensures refl refl c.requires.signals c.requires.bodies
