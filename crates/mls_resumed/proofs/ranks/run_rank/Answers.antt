-- The rank that was opened goes on to the end of its list.
use Rattle.std.proofs.Common.{◌^◌, ap, ◌∙◌}
use Rattle.mls_model.specs.Histories.{history}
use Rattle.mls_rank.specs.declared.rank_core.RankCore.{RankCore}
use Rattle.mls_rank.specs.Cores.{sizes_of, rank_of}
use Rattle.mls_book.specs.Keepers.{keeper_seen}
use Rattle.mls_resume.specs.Opening.{OpensWith}
use Rattle.mls_resumed.proofs.Going.{begun, at_end, end_stands, end_runs, rank_stops, told_at}
use Rattle.mls_resumed.proofs.ranks.run_rank.Goals as goal

pub returns-in-Ok-answer-clause-sizes : goal.returns-in-Ok-answer-clause-sizes
returns-in-Ok-answer-clause-sizes g c =
    let s = c.args.shape.now in
    let opened = c.in-Ok.ensures in
    let start = begun {R = g.F.RowFold} {U = g.K.Keeper} s c.args.rank c.args.opening.items c.args.tape.now.lanes c.args.order.now c.args.keeper c.in-Ok.saved opened.sizes opened.rank opened.saved opened.total (opened.few (2 ^ 61) c.requires.opening) opened.goes_on opened.keeper in
    let end = c.in-Ok-answer.ensures.goes_on s c.args.rank c.args.opening.items c.args.keeper start in
    ap (λ (k : RankCore g.row.F.Denot g.F.RowFold). sizes_of k) c.into_parts-core.ensures.core ∙ end.sizes

pub returns-in-Ok-answer-clause-rank : goal.returns-in-Ok-answer-clause-rank
returns-in-Ok-answer-clause-rank g c =
    let s = c.args.shape.now in
    let opened = c.in-Ok.ensures in
    let start = begun {R = g.F.RowFold} {U = g.K.Keeper} s c.args.rank c.args.opening.items c.args.tape.now.lanes c.args.order.now c.args.keeper c.in-Ok.saved opened.sizes opened.rank opened.saved opened.total (opened.few (2 ^ 61) c.requires.opening) opened.goes_on opened.keeper in
    let end = c.in-Ok-answer.ensures.goes_on s c.args.rank c.args.opening.items c.args.keeper start in
    ap (λ (k : RankCore g.row.F.Denot g.F.RowFold). rank_of k) c.into_parts-core.ensures.core ∙ end.number

pub returns-in-Ok-answer-clause-stands : goal.returns-in-Ok-answer-clause-stands
returns-in-Ok-answer-clause-stands g c =
    let s = c.args.shape.now in
    let lanes = c.args.tape.now.lanes in
    let order = c.args.order.now in
    let opened = c.in-Ok.ensures in
    let start = begun {R = g.F.RowFold} {U = g.K.Keeper} s c.args.rank c.args.opening.items lanes order c.args.keeper c.in-Ok.saved opened.sizes opened.rank opened.saved opened.total (opened.few (2 ^ 61) c.requires.opening) opened.goes_on opened.keeper in
    let end = at_end s c.args.rank c.args.opening.items lanes order c.args.keeper c.take_all-answer.new.saved (c.in-Ok-answer.ensures.goes_on s c.args.rank c.args.opening.items c.args.keeper start) in
    end_stands s c.args.rank c.args.opening.items (history lanes order) c.args.keeper c.into_parts-core.result.1 c.into_parts-core.result.0 c.take_all-answer.new.saved end c.into_parts-core.ensures.core c.into_parts-core.ensures.keeper

pub returns-in-Ok-answer-clause-keeper : goal.returns-in-Ok-answer-clause-keeper
returns-in-Ok-answer-clause-keeper g c =
    let s = c.args.shape.now in
    let lanes = c.args.tape.now.lanes in
    let order = c.args.order.now in
    let opened = c.in-Ok.ensures in
    let start = begun {R = g.F.RowFold} {U = g.K.Keeper} s c.args.rank c.args.opening.items lanes order c.args.keeper c.in-Ok.saved opened.sizes opened.rank opened.saved opened.total (opened.few (2 ^ 61) c.requires.opening) opened.goes_on opened.keeper in
    let end = at_end s c.args.rank c.args.opening.items lanes order c.args.keeper c.take_all-answer.new.saved (c.in-Ok-answer.ensures.goes_on s c.args.rank c.args.opening.items c.args.keeper start) in
    end_runs s c.args.rank c.args.opening.items (history lanes order) c.args.keeper c.into_parts-core.result.1 c.take_all-answer.new.saved end c.into_parts-core.ensures.keeper

pub returns-in-Ok-answer-clause-quiet : goal.returns-in-Ok-answer-clause-quiet
returns-in-Ok-answer-clause-quiet g c = λ none.
    let s = c.args.shape.now in
    let opened = c.in-Ok.ensures in
    let start = begun {R = g.F.RowFold} {U = g.K.Keeper} s c.args.rank c.args.opening.items c.args.tape.now.lanes c.args.order.now c.args.keeper c.in-Ok.saved opened.sizes opened.rank opened.saved opened.total (opened.few (2 ^ 61) c.requires.opening) opened.goes_on opened.keeper in
    c.into_parts-core.ensures.keeper ∙ c.take_all-answer.ensures.quiet s c.args.rank c.args.opening.items c.args.keeper start none

pub returns-in-Err-answer-clause-keeper : goal.returns-in-Err-answer-clause-keeper
returns-in-Err-answer-clause-keeper g c =
    let s = c.args.shape.now in
    let lanes = c.args.tape.now.lanes in
    let order = c.args.order.now in
    let opened = c.in-Ok.ensures in
    let start = begun {R = g.F.RowFold} {U = g.K.Keeper} s c.args.rank c.args.opening.items lanes order c.args.keeper c.in-Ok.saved opened.sizes opened.rank opened.saved opened.total (opened.few (2 ^ 61) c.requires.opening) opened.goes_on opened.keeper in
    let says = c.in-Err-answer.ensures.goes_on s c.args.rank c.args.opening.items c.args.keeper start in
    rank_stops (RankCore g.row.F.Denot g.F.RowFold) g.F.RowFold.part_of g.F.RowFold.part_at s c.args.rank (OpensWith g.F.RowFold s c.args.rank c.args.opening.items) (history lanes order) (keeper_seen g.K.Keeper c.args.keeper) (keeper_seen g.K.Keeper c.into_parts-core.result.1) c.in-Err-answer.fault c.fault_at.result
    c.fault_at.ensures (told_at g.K.Keeper g.F.RowFold.part_at s c.args.rank (history lanes order) c.args.keeper _ c.into_parts-core.result.1 c.in-Err-answer.fault c.into_parts-core.ensures.keeper says)

pub returns-in-Err-answer-clause-quiet : goal.returns-in-Err-answer-clause-quiet
returns-in-Err-answer-clause-quiet g c = λ none.
    let s = c.args.shape.now in
    let opened = c.in-Ok.ensures in
    let start = begun {R = g.F.RowFold} {U = g.K.Keeper} s c.args.rank c.args.opening.items c.args.tape.now.lanes c.args.order.now c.args.keeper c.in-Ok.saved opened.sizes opened.rank opened.saved opened.total (opened.few (2 ^ 61) c.requires.opening) opened.goes_on opened.keeper in
    c.into_parts-core.ensures.keeper ∙ c.take_all-answer.ensures.quiet s c.args.rank c.args.opening.items c.args.keeper start none
