use Rattle.std.proofs.Common.{◌<◌, length, subst, ap, sym, ◌∙◌}
use Rattle.std.specs.Prelude.{IsOk}
use Rattle.mls_ckpt.specs.CellParts.{part_at, IsSumsPart}
use Rattle.mls_ckpt.specs.Checkpoints.{checkpoint_of}
use Rattle.mls_ckpt.specs.States as states
use Rattle.mls_ckpt.specs.States.{IsState}
use Rattle.mls_rank.specs.Saving.{state_of}
use Rattle.mls_resume.specs.Reads.{lists_of}
use Rattle.mls_resume.proofs.Marks.{if_ok, if_both, on_ok, old_is}
use Rattle.mls_resume.proofs.Pieces.{at_list, files_long}
use Rattle.mls_resume.proofs.old_ranks.read_rank.Goals as goal

pub recovered-requires-clause-spelled : goal.recovered-requires-clause-spelled
recovered-requires-clause-spelled c =
    let here : c.args.rank < length c.args.files.now = files_long c.args.files.now c.args.rank c.args.old.now.ranks c.requires.files.one_each c.requires.rank_in in
    let file = c.as_slice.ensures.value ∙ at_list c.args.files.now c.args.rank c.index-files-rank.result here c.index-files-rank.is in
    subst (λ bytes. IsOk (checkpoint_of part_at c.args.old.now c.args.rank bytes)) (sym file) (c.requires.files.spelled c.args.rank c.requires.rank_in)

pub returns-clause-state : goal.returns-clause-state
returns-clause-state c =
    let here : c.args.rank < length c.args.files.now = files_long c.args.files.now c.args.rank c.args.old.now.ranks c.requires.files.one_each c.requires.rank_in in
    let file = c.as_slice.ensures.value ∙ at_list c.args.files.now c.args.rank c.index-files-rank.result here c.index-files-rank.is in
    if_ok _ _ c.recovered.result (λ core read. old_is c.args.old.now (lists_of c.args.files.now) c.args.rank c.as_slice.result.now (state_of core) file read) c.recovered.ensures.read

pub returns-clause-marks : goal.returns-clause-marks
returns-clause-marks c =
    if_both _ _ _ c.recovered.result (λ core state marks. λ group plane. marks group plane ∙ ap (λ (x : states.State). states.is_marked x.marks (record { group = group; plane = plane })) state) (returns-clause-state c) c.recovered.ensures.marks

pub returns-clause-valid : goal.returns-clause-valid
returns-clause-valid c =
    on_ok _ _ _ c.recovered.result (λ core state valid. subst (IsState IsSumsPart c.args.old.now c.args.rank) state valid) (returns-clause-state c) c.recovered.ensures.valid
