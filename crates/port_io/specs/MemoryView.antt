-- A means of proof: what contracts see of a store and a sink in memory, for the tests over them.
use Rattle.port_io.specs.Memory.{Files, Lines}
use Rattle.port_io.specs.declared.mem_store.MemStore.TheInside.{Inside as StoreInside}
use Rattle.port_io.specs.declared.mem_sink.MemSink.TheInside.{Inside as SinkInside}

abbrev pub store_view : StoreInside → Files
store_view store =
    record { files = store.files.items; calls = store.calls.made; failing = store.calls.failing.items; faults = store.calls.faults }

abbrev pub sink_view : SinkInside → Lines
sink_view sink =
    record { bytes = sink.bytes.items; calls = sink.calls.made; failing = sink.calls.failing.items; faults = sink.calls.faults }
