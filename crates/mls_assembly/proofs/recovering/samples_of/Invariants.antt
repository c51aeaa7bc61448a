use Rattle.std.proofs.Common.{◌≡◌, ◌-◌}
use Rattle.std.specs.Int.{w16}
use Rattle.mls_ckpt.specs.Places.{cursor_of}
use Rattle.mls_ckpt.specs.Reading.{many, number_at}
use Rattle.mls_ckpt.specs.Recovering.{behind_these}
use Rattle.mls_ckpt.specs.States.{after_one}
use Rattle.mls_assembly.proofs.recovering.samples_of.Given as goal

abbrev pub invariant-loop-place : goal.invariant-loop-place
invariant-loop-place l =
    behind_these l.samples.items (many (λ i from. number_at w16 65535 from) after_one (l.count - l._place) l._place (cursor_of l.from))
    ≡ many (λ i from. number_at w16 65535 from) after_one l.count 0 (cursor_of l.fn.from)
