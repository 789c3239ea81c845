-- A means of proof: the heads and the ports of a header that the code tells, as the definition has them, for the proofs of elaboration.
use Rattle.std.specs.Prelude.{List, map}
use Rattle.v_syntax.specs.SourceTrees.{PortHeadTree, Head}
use Rattle.v_flat.specs.Headers.{HeadedPort}
use Rattle.v_header.specs.Parameters.{range_in}
use Rattle.v_header.specs.declared.heads.Head as code_head
use Rattle.v_header.specs.declared.heads.HeadedPort as code

-- a head with the range that the code refers to
abbrev pub head_in : code_head.Head → PortHeadTree
head_in h = Head h.direction h.kind (range_in h.range)

-- a port with its head and the name that the code refers to
abbrev pub headed_port_in : code.HeadedPort → HeadedPort
headed_port_in p = record { head = head_in p.head; name = p.name.now }

-- all of them, in order
abbrev pub headed_in : List code.HeadedPort → List HeadedPort
headed_in ps = map headed_port_in ps
