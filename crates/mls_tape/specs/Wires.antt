-- What contracts see of lanes that come over connections: their number.
use Rattle.std.specs.Prelude.{ℕ}
use Rattle.mls_tape.specs.declared.wire.Wire.{Wire}

abbrev pub wire_of : ℕ → Wire
wire_of lanes = record { lanes = lanes }

abbrev pub wire_lanes : Wire → ℕ
wire_lanes wire = wire.lanes
