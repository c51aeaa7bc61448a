use Rattle.mls_resume.proofs.Marks.{state_marks}
use Rattle.mls_resume.proofs.Lengths.{part_long}
use Rattle.mls_ckpt.specs.States.{marks_of_planes}
use Rattle.mls_rank.specs.Saving.{state_of}
use Rattle.mls_resume.proofs.old_ranks.recovered.Goals as goal

pub returns-in-Ok-clause-marks : goal.returns-in-Ok-clause-marks
returns-in-Ok-clause-marks c = state_marks c.in-Ok.core c.valid-in-Ok.ensures.marks

pub returns-in-Ok-clause-long : goal.returns-in-Ok-clause-long
returns-in-Ok-clause-long c =
    let s = c.args.old.now in
    let state = state_of c.in-Ok.core in
    let spells = c.saved_states_are_spelled.ensures s c.args.rank c.args.file.now state c.valid.ensures c.are_bytes.ensures c.in-Ok.ensures.read in
    part_long s c.args.rank (marks_of_planes s state.marks) state.part spells.valid.part

pub returns-in-Ok-clause-valid : goal.returns-in-Ok-clause-valid
returns-in-Ok-clause-valid c =
    (c.saved_states_are_spelled.ensures c.args.old.now c.args.rank c.args.file.now (state_of c.in-Ok.core) c.valid.ensures c.are_bytes.ensures c.in-Ok.ensures.read).valid
