use Rattle.std.proofs.Common.{◌≡◌, ◌+◌, ◌<◌, length, sym, refl, arith}
use Rattle.std.proofs.lemmas.Bool.Decides.{nat_tests}
use Rattle.mls_tape.proofs.Passing.{passes_for, own_within, lists_size}
use Rattle.mls_tape.proofs.ScheduleNumbers.{shorter}
use Rattle.mls_tape.proofs.ScheduleRun.{going_begins, going_on, no_line_refused, no_line_exact, line_refused, line_exact, all_exact}
use Rattle.mls_tape.proofs.lines.read_lists.Goals as goal

pub loop-rest-init : goal.loop-rest-init
loop-rest-init c = going_begins c.args.tape.now.ranks c.args.tape.now.lanes c.args.bytes.now c.in_ok-passed.passed c.in_ok-passed.ensures

pub loop-rest-smaller : goal.loop-rest-smaller
loop-rest-smaller c = shorter c.loop-rest.rest.now c.in-Some.found.0 c.in-Some.found.1.now (sym c.in-Some.ensures)

pub returns-in-None-clause-refused : goal.returns-in-None-clause-refused
returns-in-None-clause-refused c =
    let some : 0 < length c.loop-rest.rest.now = grind (arith, nat_tests, c.is_empty.ensures, c.loop-rest-test.ensures) in
    no_line_refused c.args.tape.now.ranks c.args.tape.now.lanes c.args.bytes.now c.loop-rest.passed c.loop-rest.line c.loop-rest.rest.now c.loop-rest.invariant some (sym c.in-None.ensures)

pub returns-in-None-clause-exact : goal.returns-in-None-clause-exact
returns-in-None-clause-exact c =
    let some : 0 < length c.loop-rest.rest.now = grind (arith, nat_tests, c.is_empty.ensures, c.loop-rest-test.ensures) in
    no_line_exact c.args.tape.now.ranks c.args.tape.now.lanes c.args.bytes.now c.loop-rest.passed c.loop-rest.line c.loop-rest.rest.now c.loop-rest.invariant some (sym c.in-None.ensures)

pub returns-clause-exact : goal.returns-clause-exact
returns-clause-exact c =
    let none : length c.loop-rest.rest.now ≡ 0 = grind (arith, nat_tests, c.is_empty.ensures, c.loop-rest-test.ensures) in
    all_exact c.args.tape.now.ranks c.args.tape.now.lanes c.args.bytes.now c.loop-rest.passed c.loop-rest.line c.loop-rest.rest.now c.loop-rest.invariant none

pub returns-in-Some-refusal-clause-refused : goal.returns-in-Some-refusal-clause-refused
returns-in-Some-refusal-clause-refused c =
    let some : 0 < length c.loop-rest.rest.now = grind (arith, nat_tests, c.is_empty.ensures, c.loop-rest-test.ensures) in
    line_refused c.args.tape.now.ranks c.args.tape.now.lanes c.args.bytes.now c.loop-rest.passed c.loop-rest.line c.loop-rest.rest.now c.in-Some.found.1.now c.in-Some.found.0 c.in-Some-refusal.why c.loop-rest.invariant some (sym c.in-Some.ensures)
    (sym (c.in-Some-refusal.ensures.exact c.loop-rest.invariant.lines c.loop-rest.invariant.stands))

pub returns-in-Some-refusal-clause-exact : goal.returns-in-Some-refusal-clause-exact
returns-in-Some-refusal-clause-exact c =
    let some : 0 < length c.loop-rest.rest.now = grind (arith, nat_tests, c.is_empty.ensures, c.loop-rest-test.ensures) in
    line_exact c.args.tape.now.ranks c.args.tape.now.lanes c.args.bytes.now c.loop-rest.passed c.loop-rest.line c.loop-rest.rest.now c.in-Some.found.1.now c.in-Some.found.0 c.in-Some-refusal.why c.loop-rest.invariant some (sym c.in-Some.ensures)
    (sym (c.in-Some-refusal.ensures.exact c.loop-rest.invariant.lines c.loop-rest.invariant.stands))

pub take-requires-clause-rank : goal.take-requires-clause-rank
take-requires-clause-rank c =
    let passes = passes_for c.args.tape.now.ranks c.args.tape.now.lanes c.loop-rest.invariant.lines c.in-Some.found.0 (sym (c.in-None-refusal.ensures.exact c.loop-rest.invariant.lines c.loop-rest.invariant.stands)) in
    let size = lists_size c.args.tape.now.ranks (length c.args.tape.now.lanes) c.loop-rest.passed c.loop-rest.invariant.lines c.loop-rest.invariant.stands in
    omega (arith, passes.rank, size)

pub take-requires-clause-lane : goal.take-requires-clause-lane
take-requires-clause-lane c =
    let passes = passes_for c.args.tape.now.ranks c.args.tape.now.lanes c.loop-rest.invariant.lines c.in-Some.found.0 (sym (c.in-None-refusal.ensures.exact c.loop-rest.invariant.lines c.loop-rest.invariant.stands)) in
    omega (arith, own_within c.args.tape.now.lanes c.in-Some.found.0.0 c.in-Some.found.0.1 passes.own, c.loop-rest.invariant.stands.size)

pub loop-rest-preserved : goal.loop-rest-preserved
loop-rest-preserved c =
    let lines = c.loop-rest.invariant.lines in
    going_on c.args.tape.now.ranks c.args.tape.now.lanes c.args.bytes.now c.loop-rest.passed c.take.new.self c.loop-rest.line (c.loop-rest.line + 1) c.loop-rest.rest.now c.in-Some.found.1.now c.in-Some.found.0 c.loop-rest.invariant (sym c.in-Some.ensures)
    (sym (c.in-None-refusal.ensures.exact lines c.loop-rest.invariant.stands))
    (c.in_ok-take-in-None-refusal.ensures c.args.tape.now.ranks (length c.args.tape.now.lanes) lines c.loop-rest.invariant.stands) refl
