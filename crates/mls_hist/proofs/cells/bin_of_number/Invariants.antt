use Rattle.std.proofs.Common.{◌≡◌, ℕ, ◌<◌, false, take}
use Rattle.std.specs.Prelude.{sum}
use Rattle.mls_hist.specs.Quartiles.{reaches}
use Rattle.mls_hist.proofs.cells.bin_of_number.Given as goal

-- no bin before the loop's has so many samples in it and those before it
abbrev pub invariant-loop-bin : goal.invariant-loop-bin
invariant-loop-bin l = record {
  counted : l.before ≡ sum (take l.bin l.counts);
  fewer : (i : ℕ) → i < l.bin → reaches l.counts l.number i ≡ false;
}
