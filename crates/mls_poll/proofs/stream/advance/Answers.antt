use Rattle.std.proofs.Common.{◌∙◌, refl, arith}
use Rattle.mls_poll.proofs.Stepping.{gathers_more, comes_more, waits_more, is_taken, grows, comes}
use Rattle.mls_poll.proofs.stream.advance.Goals as goal

pub returns-in-Pending-clause-advances : goal.returns-in-Pending-clause-advances
returns-in-Pending-clause-advances g c = waits_more c.args.offset _ _ _ c.loop-link.invariant.so_far c.in-Pending.ensures.reads

pub returns-in-Ready-Some-clause-advances : goal.returns-in-Ready-Some-clause-advances
returns-in-Ready-Some-clause-advances g c =
    let r = c.in-Ready-Some in
    comes_more r.item c.args.offset _ _ _ c.loop-link.invariant.so_far (comes r.field-0 r.item c.args.offset _ _ r.field-0-is r.ensures.reads)

pub loop-link-preserved : goal.loop-link-preserved
loop-link-preserved g c =
    let r = c.in-Ready-None in
    let i = c.loop-link.invariant in
    let more = grows r.field-0 c.args.offset _ _ r.field-0-is r.ensures.reads in
    record {
      so_far = gathers_more c.args.offset _ _ _ i.so_far more.gathers;
      waits = r.ensures.waits ∙ i.waits;
      sound = λ s. r.ensures.sound (i.sound s);
      sure = omega (arith, i.sure, r.ensures.sure);
      kept = λ fact h. r.ensures.kept fact (i.kept fact h);
    }

pub returns-clause-advances : goal.returns-clause-advances
returns-clause-advances g c = record {
  mid = record { told = g.L.PollLink.told c.loop-link.link; faults = g.L.PollLink.faults c.loop-link.link; held = c.loop-link.held.items };
  gathers = c.loop-link.invariant.so_far;
  gives = is_taken c.take.result c.args.offset _ _ c.take.ensures refl refl;
}
