use Rattle.std.proofs.Common.{◌≡◌, ◌+◌, ◌*◌, ◌≤◌, ◌-◌, ◌++◌, length, take, vec_len, vec_capacity}
use Rattle.std.specs.List.{flat_map}
use Rattle.mls_model.specs.Frames.{u16}
use Rattle.mls_frame.proofs.putting.add_samples.Given as goal

abbrev pub invariant-loop-x : goal.invariant-loop-x
invariant-loop-x l = record {
  items : l.out.items ≡ l.fn.out.items ++ flat_map u16 (take l.x-index l.samples);
  room : vec_len l.out + 2 * (length l.samples - l.x-index) ≤ vec_capacity l.out;
}
