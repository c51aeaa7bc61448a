use Rattle.std.proofs.Common.{◌≡◌, ◌<◌, ◌+◌, length, sym, arith}
use Rattle.std.proofs.lemmas.Bool.Decides.{nat_tests}
use Rattle.mls_launch.proofs.EventReading.{read_begins, read_goes_on, shorter, refused, all_events, no_event_at}
use Rattle.mls_launch.proofs.reading.read_events.Goals as goal

pub loop-rest-init : goal.loop-rest-init
loop-rest-init c = read_begins c.args.bytes.now c.new-events.result.items c.new-events.ensures.items

pub loop-rest-smaller : goal.loop-rest-smaller
loop-rest-smaller c = shorter c.loop-rest.rest.now c.in-Some.event c.in-Some.after.now (sym c.in-Some.ensures)

pub loop-rest-preserved : goal.loop-rest-preserved
loop-rest-preserved c = read_goes_on c.args.bytes.now c.loop-rest.events.items c.push.new.self.items c.loop-rest.rest.now c.in-Some.event c.in-Some.after.now c.loop-rest.invariant (sym c.in-Some.ensures) c.in_ok-push-in-Some.ensures.items

pub returns-in-None-clause-refused : goal.returns-in-None-clause-refused
returns-in-None-clause-refused c =
    let some : 0 < length c.loop-rest.rest.now = grind (arith, nat_tests, c.is_empty.ensures, c.loop-rest-test.ensures) in
    let line : c.len.result + 1 ≡ length c.loop-rest.events.items + 1 = omega (arith, c.len.ensures) in
    refused c.args.bytes.now c.loop-rest.events.items c.loop-rest.rest.now (c.len.result + 1) c.loop-rest.invariant some (sym c.in-None.ensures) line

pub returns-in-None-clause-exact : goal.returns-in-None-clause-exact
returns-in-None-clause-exact c =
    let some : 0 < length c.loop-rest.rest.now = grind (arith, nat_tests, c.is_empty.ensures, c.loop-rest-test.ensures) in
    let line : c.len.result + 1 ≡ length c.loop-rest.events.items + 1 = omega (arith, c.len.ensures) in
    no_event_at c.args.bytes.now c.loop-rest.events.items c.loop-rest.rest.now (c.len.result + 1) c.loop-rest.invariant some (sym c.in-None.ensures) line

pub returns-clause-exact : goal.returns-clause-exact
returns-clause-exact c =
    let none : length c.loop-rest.rest.now ≡ 0 = grind (arith, nat_tests, c.is_empty.ensures, c.loop-rest-test.ensures) in
    all_events c.args.bytes.now c.loop-rest.events.items c.loop-rest.rest.now c.loop-rest.invariant none
