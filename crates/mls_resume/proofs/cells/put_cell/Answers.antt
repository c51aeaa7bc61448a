use Rattle.std.proofs.Common.{◌*◌, ◌-◌, length, arith, ap, ◌∙◌}
use Rattle.mls_model.specs.Studies.{planes}
use Rattle.mls_model.specs.Blocks.{block, width}
use Rattle.mls_resume.proofs.Pieces.{place_fits, at_list, files_long}
use Rattle.mls_resume.proofs.cells.put_cell.Goals as goal

pub put_place-requires : goal.put_place-requires
put_place-requires c =
    let s = c.args.old.now in
    let rank = c.rank_of-rank.result in
    let size = c.cell_size-size.result in
    let own = c.block-block.result in
    let plane = c.args.plane in
    let place = c.args.cell - own.first in
    let fits = place_fits (planes s) (width own) size plane place c.requires.plane_in (omega (arith, c.rank_of-rank.ensures.first, c.rank_of-rank.ensures.end, ap (λ b. b.first) c.block-block.ensures.value, ap (λ b. b.end) c.block-block.ensures.value)) in
    let part = c.as_slice.ensures.value ∙ at_list c.args.parts.now rank c.index-parts-rank.result (files_long c.args.parts.now rank s.ranks c.requires.parts.one_each c.rank_of-rank.ensures.within) c.index-parts-rank.is in
    let long = c.requires.parts.long rank c.rank_of-rank.ensures.within in
    let sized = ap (λ b. planes s * width b * size) c.block-block.ensures.value ∙ ap (λ n. planes s * width (block s rank) * n) c.cell_size-size.ensures.value in
    omega (arith, c.place_at-at.ensures, fits, ap length part, long, sized)
