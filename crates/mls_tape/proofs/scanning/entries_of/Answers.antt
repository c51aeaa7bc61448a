use Rattle.std.proofs.Common.{◌≡◌, ◌+◌, ◌≤◌, ◌<◌, ◌++◌, List, length, drop, refl, sym, ap, subst, ◌∙◌, arith}
use Rattle.std.proofs.lemmas.List.{append-nil}
use Rattle.mls_model.specs.Lanes.{LaneBytes, lane_frames, most_events}
use Rattle.mls_tape.specs.declared.scanning.Entry.{Entry}
use Rattle.mls_tape.specs.Reading.{lane_bytes, all_lane_bytes}
use Rattle.mls_tape.specs.Scans.{lanes_made, entries_of}
use Rattle.mls_tape.proofs.Counting.{Goes, rest_step, rest_end, goes_on, goes_over, goes_done, entries_step}
use Rattle.mls_tape.proofs.scanning.entries_of.Goals as goal

pub returns-then-sum-gt-MOST_EVENTS : goal.returns-then-sum-gt-MOST_EVENTS
returns-then-sum-gt-MOST_EVENTS c =
    let all = all_lane_bytes c.args.parts.now in
    let rest = all_lane_bytes (drop (c.loop-part.part-index + 1) c.args.parts.now) in
    let step = rest_step c.args.parts.now c.loop-part.part-index c.part-item.result c.loop-part-test.true c.part-item.is in
    let many : most_events < c.loop-part.before + length (lane_frames c.part-item.result.bytes.now) = omega (arith, c.if-sum-gt-MOST_EVENTS.true, c.scan-found.ensures.events) in
    rw c.bad.ensures (goes_over c.loop-part.before (lane_bytes c.part-item.result) rest all (subst (λ (ps : List LaneBytes). Goes c.loop-part.before ps all) step c.loop-part.invariant.goes) many)

pub loop-part-preserved : goal.loop-part-preserved
loop-part-preserved c =
    let all = all_lane_bytes c.args.parts.now in
    let rest = all_lane_bytes (drop (c.loop-part.part-index + 1) c.args.parts.now) in
    let part = lane_bytes c.part-item.result in
    let next = c.loop-part.before + c.scan-found.result.events in
    let step = rest_step c.args.parts.now c.loop-part.part-index c.part-item.result c.loop-part-test.true c.part-item.is in
    let few : c.loop-part.before + length (lane_frames c.part-item.result.bytes.now) ≤ most_events = omega (arith, c.if-sum-gt-MOST_EVENTS.false, c.scan-found.ensures.events) in
    let same : next ≡ c.loop-part.before + length (lane_frames c.part-item.result.bytes.now) = omega (arith, c.scan-found.ensures.events) in
    let found = c.loop-part.entries.items in
    let pushed = ap (λ (es : List Entry). es ++ entries_of next (lanes_made rest)) c.in_ok-push.ensures.items in
    let one = entries_step found c.loop-part.before next part rest c.scan-found.result.events c.scan-found.result.end c.scan-found.ensures.events c.scan-found.ensures.end refl in
    record {
      goes = goes_on c.loop-part.before next part rest all (subst (λ (ps : List LaneBytes). Goes c.loop-part.before ps all) step c.loop-part.invariant.goes) few same;
      entries = pushed ∙ one ∙ ap (λ (ps : List LaneBytes). found ++ entries_of c.loop-part.before (lanes_made ps)) (sym step) ∙ c.loop-part.invariant.entries;
      few = omega (arith, c.if-sum-gt-MOST_EVENTS.false);
    }

pub returns : goal.returns
returns c =
    let all = all_lane_bytes c.args.parts.now in
    let end = rest_end c.args.parts.now c.loop-part.part-index c.loop-part-test.false in
    let found = c.loop-part.entries.items in (
      goes_done c.loop-part.before all (subst (λ (ps : List LaneBytes). Goes c.loop-part.before ps all) end c.loop-part.invariant.goes),
      sym (append-nil found) ∙ ap (λ (ps : List LaneBytes). found ++ entries_of c.loop-part.before (lanes_made ps)) (sym end) ∙ c.loop-part.invariant.entries,
    )
