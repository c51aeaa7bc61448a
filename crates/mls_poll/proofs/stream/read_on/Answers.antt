use Rattle.std.proofs.Common.{ap, ◌∙◌, arith}
use Rattle.mls_model.specs.Lanes.{end_at}
use Rattle.mls_poll.proofs.Stepping.{is_full, has_failed, no_memory, has_ended, failed_leaves, failed_counts, memory_leaves, memory_counts, ended_read, ended_counts}
use Rattle.mls_poll.proofs.stream.read_on.Goals as goal

pub returns-then-room-eq0-clause-reads : goal.returns-then-room-eq0-clause-reads
returns-then-room-eq0-clause-reads g c = is_full c.args.offset _ c.requires.more (omega (arith, c.len.ensures, c.if-room-eq0.true, c.requires.few, c.args.held.now.ok))

pub returns-in-Ready-Err-Failed-clause-reads : goal.returns-in-Ready-Err-Failed-clause-reads
returns-in-Ready-Err-Failed-clause-reads g c =
    let r = c.in-Ready-Err-Failed in
    let left = failed_leaves r.field-0 r.field-0-0 _ _ _ _ r.field-0-is r.field-0-0-is r.ensures.refused in
    has_failed c.args.offset _ _ c.requires.more (omega (arith, c.len.ensures, c.if-room-eq0.false, c.requires.few, c.args.held.now.ok)) left.0 left.1
    (failed_counts r.field-0 r.field-0-0 _ _ r.field-0-is r.field-0-0-is r.ensures.faults)

pub returns-in-Ready-Err-Memory-clause-reads : goal.returns-in-Ready-Err-Memory-clause-reads
returns-in-Ready-Err-Memory-clause-reads g c =
    let r = c.in-Ready-Err-Memory in
    let left = memory_leaves r.field-0 r.field-0-0 _ _ _ _ r.field-0-is r.field-0-0-is r.ensures.refused in
    no_memory c.args.offset _ _ c.requires.few left.0 left.1 (memory_counts r.field-0 r.field-0-0 _ _ r.field-0-is r.field-0-0-is r.ensures.faults)

pub returns-in-Ready-Ok-eq0-clause-reads : goal.returns-in-Ready-Ok-eq0-clause-reads
returns-in-Ready-Ok-eq0-clause-reads g c =
    let r = c.in-Ready-Ok-eq0 in
    has_ended _ c.args.offset _ _ c.requires.more (omega (arith, c.len.ensures, c.if-room-eq0.false, c.requires.few, c.args.held.now.ok))
    (ended_read r.field-0 r.field-0-0 _ _ _ _ r.field-0-is (omega (arith, r.field-0-0-test)) r.ensures.read)
    (ended_counts r.field-0 r.field-0-0 _ _ r.field-0-is r.ensures.faults)
    (c.input_end.ensures ∙ ap (λ xs. end_at c.args.offset xs) c.as_slice.ensures.value)
