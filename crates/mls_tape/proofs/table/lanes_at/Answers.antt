use Rattle.std.proofs.Common.{◌≡◌, ◌+◌, ◌==◌, true, false, length, ◌++◌, ◌∷◌, [], refl, arith, rules}
use Rattle.std.proofs.lemmas.Result.{err_from_is_err_and}
use Rattle.std.proofs.lemmas.List.{map_push}
use Rattle.mls_model.specs.Lanes.{lanes_at}
use Rattle.mls_tape.specs.Reading.{lane_bytes, all_lane_bytes}
use Rattle.mls_tape.proofs.Loop.{goes_on, ends, is_done, is_trailing}
use Rattle.mls_tape.proofs.table.lanes_at.Goals as goal

pub returns-in_err-part : goal.returns-in_err-part
returns-in_err-part c =
    let p = err_from_is_err_and c.from_residual.result c.from_residual.ensures.1 in
    rw (p.1, p.2) (ends c.in_err-part.field-0.0 (all_lane_bytes c.loop.parts.items) c.args.count c.loop.counter c.args.ranks c.loop.at c.loop.rest.now (lanes_at c.args.count c.args.ranks c.args.start c.args.bytes.now) c.loop-test.true c.in_err-part.ensures.exact c.loop.invariant.read)

pub loop-preserved : goal.loop-preserved
loop-preserved c =
    let n = c.in_ok-part.part in
    let e : all_lane_bytes c.push.new.self.items ≡ all_lane_bytes c.loop.parts.items ++ lane_bytes n ∷ [] = rw c.in_ok-push.ensures.items (map_push lane_bytes c.loop.parts.items n) in
    record {
      read = rw e (goes_on (all_lane_bytes c.loop.parts.items) c.args.count c.loop.counter c.args.ranks c.loop.at c.loop.rest.now (lane_bytes n) c.in_ok-part.after.now (c.loop.at + (7 + length n.bytes.now)) (lanes_at c.args.count c.args.ranks c.args.start c.args.bytes.now) c.loop-test.true c.in_ok-part.ensures.exact refl c.loop.invariant.read);
      place = omega (arith, c.in_ok-part.ensures.left, c.loop.invariant.place);
    }

pub returns-then-not-is_empty : goal.returns-then-not-is_empty
returns-then-not-is_empty c =
    let rest : (length c.loop.rest.now == 0) ≡ false = search rules in
    rw c.bad.ensures (is_trailing (all_lane_bytes c.loop.parts.items) c.args.count c.loop.counter c.args.ranks c.loop.at c.loop.rest.now (lanes_at c.args.count c.args.ranks c.args.start c.args.bytes.now) c.loop-test.false rest c.loop.invariant.read)

pub returns : goal.returns
returns c =
    let empty : (length c.loop.rest.now == 0) ≡ true = search rules in
    is_done (all_lane_bytes c.loop.parts.items) c.args.count c.loop.counter c.args.ranks c.loop.at c.loop.rest.now (lanes_at c.args.count c.args.ranks c.args.start c.args.bytes.now) c.loop-test.false empty c.loop.invariant.read
