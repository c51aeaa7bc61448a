use Rattle.std.proofs.Common.{◌≡◌, ◌<◌, ◌^◌, false, ℕ, get_or, length, [], sym, ap, ◌∙◌, subst, arith, List}
use Rattle.std.specs.List.{list_any}
use Rattle.std.specs.Global.{Vec}
use Rattle.mls_model.specs.Studies.{Sizes}
use Rattle.mls_model.specs.Histories.{LaneEvent, history}
use Rattle.mls_model.specs.Survival.{is_save}
use Rattle.mls_model.specs.ResultText.{histories_of}
use Rattle.mls_tape.proofs.Complete.{legal_count, legal_order}
use Rattle.mls_rank.specs.declared.rank_core.RankCore.{RankCore}
use Rattle.mls_replay.proofs.Folds.{history_is, one_more}
use Rattle.mls_replay.proofs.Running.{quiet_more}
use Rattle.mls_resume.specs.Opening.{IsOpening}
use Rattle.mls_resume.specs.Reads.{lists_of}
use Rattle.mls_resume.proofs.Pieces.{files_long}
use Rattle.mls_resumed.specs.GoingOn.{AllOpen}
use Rattle.mls_resumed.proofs.Running.{one_ran, one_stopped, went_as, stopped_as, stands_as, opening_at, next_left}
use Rattle.mls_resumed.proofs.folding.run_ranks.Goals as goal

pub order-requires : goal.order-requires
order-requires g c =
    let count = legal_count c.args.study.now.sizes.ranks c.args.tape.now.lanes c.args.schedule.now c.requires.legal in
    let ranks = ap (λ (s : Sizes). s.ranks) c.shape-shape.ensures in
    omega (arith, count, c.loop-rank-test.true, c.ranks-rank-end.ensures.value, ranks)

pub fold_rank-requires-clause-legal : goal.fold_rank-requires-clause-legal
fold_rank-requires-clause-legal g c = legal_order c.args.study.now.sizes.ranks c.args.tape.now.lanes c.args.schedule.now c.loop-rank.rank c.order.result.now c.requires.legal c.order.ensures

pub fold_rank-requires-clause-opening : goal.fold_rank-requires-clause-opening
fold_rank-requires-clause-opening g c =
    let s = c.args.study.now.sizes in
    let rank = c.loop-rank.rank in
    let entry = c.args.openings.items in
    let ranks = ap (λ (z : Sizes). z.ranks) c.shape-shape.ensures in
    let within : rank < s.ranks = omega (arith, c.loop-rank-test.true, c.ranks-rank-end.ensures.value, ranks) in
    let here : rank < length entry = files_long entry rank s.ranks c.requires.openings.one_each within in
    let bytes = opening_at entry c.loop-rank.openings.items rank c.remove-opening.result c.loop-rank.invariant.left here c.remove-opening.ensures.value in
    subst (λ (z : Sizes). IsOpening g.F.RowFold.part_at z rank (2 ^ 61) c.remove-opening.result.items) (sym c.shape-shape.ensures)
    (subst (λ (l : List ℕ). IsOpening g.F.RowFold.part_at s rank (2 ^ 61) l) (sym bytes) (c.requires.openings.spelled rank within))

pub returns-in-Err-clause-untouched : goal.returns-in-Err-clause-untouched
returns-in-Err-clause-untouched g c = λ rank none.
    let lanes = c.args.tape.now.lanes in
    let own = history_is lanes c.args.schedule.now c.loop-rank.rank c.order.result.now c.order.ensures in
    quiet_more (histories_of lanes c.args.schedule.now) c.loop-rank.rank c.args.keepers.now.items c.loop-rank.keepers.items c.fold_rank.new.keepers.items c.loop-rank.invariant.ran.quiet
    c.in-Err.ensures.others (λ quiet. c.in-Err.ensures.quiet (subst (λ (h : List LaneEvent). list_any is_save h ≡ false) own quiet)) rank none

pub returns-in-Err-clause-keepers : goal.returns-in-Err-clause-keepers
returns-in-Err-clause-keepers g c =
    let lanes = c.args.tape.now.lanes in
    let s = c.args.study.now.sizes in
    let rank = c.loop-rank.rank in
    let entry = c.args.openings.items in
    let runs = histories_of lanes c.args.schedule.now in
    let own = history_is lanes c.args.schedule.now rank c.order.result.now c.order.ensures in
    let ranks = ap (λ (z : Sizes). z.ranks) c.shape-shape.ensures in
    let within : rank < s.ranks = omega (arith, c.loop-rank-test.true, c.ranks-rank-end.ensures.value, ranks) in
    let here : rank < length entry = files_long entry rank s.ranks c.requires.openings.one_each within in
    let bytes = opening_at entry c.loop-rank.openings.items rank c.remove-opening.result c.loop-rank.invariant.left here c.remove-opening.ensures.value in
    one_stopped (RankCore g.row.F.Denot g.F.RowFold) (Vec (RankCore g.row.F.Denot g.F.RowFold)) {T = g.F.RowFold} g.K.Keeper s (AllOpen g.F.RowFold s (lists_of entry)) runs rank c.args.keepers.now.items c.loop-rank.keepers.items c.fold_rank.new.keepers.items c.loop-rank.cores.items c.in-Err.fault
    c.loop-rank.invariant.ran within
    (stopped_as (RankCore g.row.F.Denot g.F.RowFold) g.F.RowFold g.K.Keeper s c.shape-shape.result rank c.remove-opening.result.items (get_or (lists_of entry) rank []) (history lanes c.order.result.now) (runs rank) c.loop-rank.keepers.items c.fold_rank.new.keepers.items c.in-Err.fault
    c.shape-shape.ensures bytes (sym own) c.in-Err.ensures.own)
    c.in-Err.ensures.others

pub returns-in-Err-push-clause-untouched : goal.returns-in-Err-push-clause-untouched
returns-in-Err-push-clause-untouched g c = λ rank none.
    let lanes = c.args.tape.now.lanes in
    let own = history_is lanes c.args.schedule.now c.loop-rank.rank c.order.result.now c.order.ensures in
    quiet_more (histories_of lanes c.args.schedule.now) c.loop-rank.rank c.args.keepers.now.items c.loop-rank.keepers.items c.fold_rank.new.keepers.items c.loop-rank.invariant.ran.quiet
    c.in-Ok.ensures.others (λ quiet. c.in-Ok.ensures.quiet (subst (λ (h : List LaneEvent). list_any is_save h ≡ false) own quiet)) rank none

pub loop-rank-preserved : goal.loop-rank-preserved
loop-rank-preserved g c =
    let lanes = c.args.tape.now.lanes in
    let s = c.args.study.now.sizes in
    let rank = c.loop-rank.rank in
    let entry = c.args.openings.items in
    let runs = histories_of lanes c.args.schedule.now in
    let own = history_is lanes c.args.schedule.now rank c.order.result.now c.order.ensures in
    let ranks = ap (λ (z : Sizes). z.ranks) c.shape-shape.ensures in
    let within : rank < s.ranks = omega (arith, c.loop-rank-test.true, c.ranks-rank-end.ensures.value, ranks) in
    let here : rank < length entry = files_long entry rank s.ranks c.requires.openings.one_each within in
    let bytes = opening_at entry c.loop-rank.openings.items rank c.remove-opening.result c.loop-rank.invariant.left here c.remove-opening.ensures.value in
    let first = get_or (lists_of entry) rank [] in
    let so = c.loop-rank.invariant.ran in
    let grown = c.in-Ok-push.ensures.items in
    let core = c.in-Ok.core in
    record {
      ran = one_ran {T = g.F.RowFold} g.K.Keeper s (AllOpen g.F.RowFold s (lists_of entry)) runs rank c.args.keepers.now.items c.loop-rank.keepers.items c.fold_rank.new.keepers.items c.loop-rank.cores.items c.push.new.self.items core
          so grown (one_more s rank c.loop-rank.cores.items c.push.new.self.items core so.first grown (c.in-Ok.ensures.sizes ∙ c.shape-shape.ensures) c.in-Ok.ensures.rank)
          (stands_as {T = g.F.RowFold} g.K.Keeper s c.shape-shape.result rank c.remove-opening.result.items first (history lanes c.order.result.now) (runs rank) c.fold_rank.new.keepers.items core c.shape-shape.ensures bytes (sym own) c.in-Ok.ensures.stands)
          (went_as {T = g.F.RowFold} g.K.Keeper s c.shape-shape.result rank c.remove-opening.result.items first (history lanes c.order.result.now) (runs rank) c.loop-rank.keepers.items c.fold_rank.new.keepers.items core c.shape-shape.ensures bytes (sym own) c.in-Ok.ensures.own)
          c.in-Ok.ensures.others
          (λ quiet. c.in-Ok.ensures.quiet (subst (λ (h : List LaneEvent). list_any is_save h ≡ false) own quiet));
      places = c.in-Ok.ensures.places ∙ c.loop-rank.invariant.places;
      left = next_left entry c.loop-rank.openings.items c.remove-opening.new.self.items rank c.loop-rank.invariant.left c.remove-opening.ensures.items;
    }
