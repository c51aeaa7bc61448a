-- What a gathering output tells.
use Rattle.std.specs.Prelude.{ℕ, ◌==◌, cond, List, Option, None}
use Rattle.std.specs.Io.Buffered.{writer_contents}
use Rattle.std.specs.declared.io.buffered.BufWriter.{BufWriter}
use Rattle.std.specs.declared.alloc.Global.{Global}

-- until a write fails, what the writer holds and what is gathered, where the writer tells that
abbrev pub told_of : {W : Type 0} → (W → Option (List ℕ)) → BufWriter W Global → ℕ → Option (List ℕ)
told_of contents out faults = cond (faults == 0) (writer_contents contents out) None
