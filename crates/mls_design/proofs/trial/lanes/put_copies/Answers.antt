use Rattle.std.proofs.Common.{arith, ◌≡◌, ◌++◌, replicate, ap, ◌∙◌}
use Rattle.mls_frame.specs.Owned.{owned_frame}
use Rattle.mls_design.specs.Trial.{frame_bytes}
use Rattle.mls_design.proofs.TrialWriting.{copy_more}
use Rattle.mls_design.proofs.trial.lanes.put_copies.Goals as goal

pub loop-preserved : goal.loop-preserved
loop-preserved c = copy_more c.loop.counter (owned_frame c.args.frame.now) c.args.out.now.items c.loop.out.items c.put.new.out.items c.loop.invariant c.in_ok-put.ensures.ok

pub returns : goal.returns
returns c =
    let all : c.loop.counter ≡ c.args.count = omega (arith, c.loop-test.false, c.loop.auto.counter-end) in
    c.loop.invariant ∙ ap (λ n. c.args.out.now.items ++ frame_bytes (replicate n (owned_frame c.args.frame.now))) all
