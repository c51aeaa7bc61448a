use Rattle.std.proofs.Common.{length, replicate, [], ap, ◌∙◌}
use Rattle.mls_tape.proofs.Passing.{none_stand}
use Rattle.mls_tape.proofs.lines.Passed.none.Goals as goal

pub returns : goal.returns
returns c =
    none_stand c.args.tape.now.ranks (length c.args.tape.now.lanes) _
    (c.in_ok-lists.ensures ∙ ap (λ n. replicate n []) c.ranks.ensures)
    (c.in_ok-counts.ensures.items_if_clones_equal (λ y e. e) ∙ ap (λ n. replicate n 0) c.lane_count.ensures)
