-- A parameter as the code keeps it.
use Rattle.std.specs.Prelude.{List, map, string_bytes}
use Rattle.mls_model.specs.Studies.{Parameter}
use Rattle.mls_study.specs.declared.parameter.Parameter.{Parameter as Kept}

abbrev pub seen : Kept → Parameter
seen p = record { name = string_bytes p.name; low = p.low; high = p.high }

abbrev pub all_seen : List Kept → List Parameter
all_seen ps = map seen ps
