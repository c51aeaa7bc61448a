-- What a reader of a tape answers, against the table's definition.
use Rattle.std.specs.Prelude.{◌≡◌, List, map, Result, Ok, Err}
use Rattle.mls_model.specs.Lanes.{Read, LaneBytes}
use Rattle.mls_tape.specs.declared.faults.TapeFault.{TapeFault}
use Rattle.mls_tape.specs.declared.faults.TapeFault.TheVariants as faults
use Rattle.mls_tape.specs.declared.lane_stretch.LaneStretch.{LaneStretch}

-- What a function returned, seen by view, is what reading gives, unless memory ran out.
abbrev pub Fails : {Y : Type 0} → TapeFault → Read Y → Type 0
Fails (faults.Bad at why) read = read ≡ Err (record { at = at; why = why })
Fails faults.Memory read = Unit {0}

abbrev pub Gives : {X Y : Type 0} → (X → Y) → Result X TapeFault → Read Y → Type 0
Gives view (Ok x) read = read ≡ Ok (view x)
Gives view (Err e) read = Fails e read

-- the lane's bytes, wherever they lie in memory
abbrev pub lane_bytes : LaneStretch → LaneBytes
lane_bytes p = record { rank = p.rank; kind = p.kind; at = p.at; bytes = p.bytes.now }

abbrev pub all_lane_bytes : List LaneStretch → List LaneBytes
all_lane_bytes parts = map lane_bytes parts
