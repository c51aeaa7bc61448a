use Rattle.std.proofs.Common.{◌≡◌, false, sym, ap, ◌∙◌, subst, arith, List}
use Rattle.std.specs.List.{list_any}
use Rattle.std.specs.Global.{Vec}
use Rattle.mls_model.specs.Studies.{Sizes}
use Rattle.mls_model.specs.Histories.{LaneEvent, history}
use Rattle.mls_model.specs.Survival.{is_save}
use Rattle.mls_model.specs.ResultText.{histories_of}
use Rattle.mls_tape.proofs.Complete.{legal_count, legal_order}
use Rattle.mls_rank.specs.declared.rank_core.RankCore.{RankCore}
use Rattle.mls_rank.specs.Standing.{StandsFor}
use Rattle.mls_book.specs.Histories.{Sure}
use Rattle.mls_replay.proofs.Folds.{history_is, one_more}
use Rattle.mls_replay.proofs.Running.{one_ran, one_ended, ran_of, ended_of, quiet_more}
use Rattle.mls_replay.proofs.folding.run_ranks.Goals as goal

pub order-requires : goal.order-requires
order-requires g c =
    let count = legal_count c.args.study.now.sizes.ranks c.args.tape.now.lanes c.args.schedule.now c.requires.legal in
    let ranks = ap (λ (s : Sizes). s.ranks) c.shape-shape.ensures in
    omega (arith, count, c.loop-rank-test.true, c.ranks-rank-end.ensures.value, ranks)

pub fold_rank-requires-clause-legal : goal.fold_rank-requires-clause-legal
fold_rank-requires-clause-legal g c = legal_order c.args.study.now.sizes.ranks c.args.tape.now.lanes c.args.schedule.now c.loop-rank.rank c.order.result.now c.requires.legal c.order.ensures

pub returns-in-Err-clause-untouched : goal.returns-in-Err-clause-untouched
returns-in-Err-clause-untouched g c = λ rank none.
    let lanes = c.args.tape.now.lanes in
    let own = history_is lanes c.args.schedule.now c.loop-rank.rank c.order.result.now c.order.ensures in
    quiet_more (histories_of lanes c.args.schedule.now) c.loop-rank.rank c.args.keepers.now.items c.loop-rank.keepers.items c.fold_rank.new.keepers.items c.loop-rank.invariant.0.quiet
    c.in-Err.ensures.others (λ quiet. c.in-Err.ensures.quiet (subst (λ (h : List LaneEvent). list_any is_save h ≡ false) own quiet)) rank none

pub returns-in-Err-clause-keepers : goal.returns-in-Err-clause-keepers
returns-in-Err-clause-keepers g c =
    let lanes = c.args.tape.now.lanes in
    let s = c.args.study.now.sizes in
    let own = history_is lanes c.args.schedule.now c.loop-rank.rank c.order.result.now c.order.ensures in
    let ranks = ap (λ (z : Sizes). z.ranks) c.shape-shape.ensures in
    one_ended (RankCore g.row.F.Denot g.F.RowFold) (Vec (RankCore g.row.F.Denot g.F.RowFold)) {T = g.F.RowFold} g.K.Keeper s (histories_of lanes c.args.schedule.now) c.loop-rank.rank c.args.keepers.now.items c.loop-rank.keepers.items c.fold_rank.new.keepers.items c.loop-rank.cores.items c.in-Err.fault
    c.loop-rank.invariant.0 (omega (arith, c.loop-rank-test.true, c.ranks-rank-end.ensures.value, ranks))
    (ended_of (RankCore g.row.F.Denot g.F.RowFold) g.K.Keeper g.F.RowFold.part_of g.F.RowFold.part_at s c.shape-shape.result c.loop-rank.rank (history lanes c.order.result.now) (histories_of lanes c.args.schedule.now c.loop-rank.rank) c.loop-rank.keepers.items c.fold_rank.new.keepers.items c.in-Err.fault
    c.shape-shape.ensures (sym own) c.in-Err.ensures.own)
    c.in-Err.ensures.others

pub returns-in-Err-push-clause-untouched : goal.returns-in-Err-push-clause-untouched
returns-in-Err-push-clause-untouched g c = λ rank none.
    let lanes = c.args.tape.now.lanes in
    let own = history_is lanes c.args.schedule.now c.loop-rank.rank c.order.result.now c.order.ensures in
    quiet_more (histories_of lanes c.args.schedule.now) c.loop-rank.rank c.args.keepers.now.items c.loop-rank.keepers.items c.fold_rank.new.keepers.items c.loop-rank.invariant.0.quiet
    c.in-Ok.ensures.others (λ quiet. c.in-Ok.ensures.quiet (subst (λ (h : List LaneEvent). list_any is_save h ≡ false) own quiet)) rank none

pub loop-rank-preserved : goal.loop-rank-preserved
loop-rank-preserved g c =
    let lanes = c.args.tape.now.lanes in
    let s = c.args.study.now.sizes in
    let rank = c.loop-rank.rank in
    let histories = histories_of lanes c.args.schedule.now in
    let own = history_is lanes c.args.schedule.now rank c.order.result.now c.order.ensures in
    let so = c.loop-rank.invariant.0 in
    let grown = c.in-Ok-push.ensures.items in
    let core = c.in-Ok.core in (
      one_ran {T = g.F.RowFold} g.K.Keeper s histories rank c.args.keepers.now.items c.loop-rank.keepers.items c.fold_rank.new.keepers.items c.loop-rank.cores.items c.push.new.self.items core
          so grown (one_more s rank c.loop-rank.cores.items c.push.new.self.items core so.first grown (c.in-Ok.ensures.sizes ∙ c.shape-shape.ensures) c.in-Ok.ensures.rank)
          (λ keeper there sure. subst (λ (h : List LaneEvent). StandsFor core h) (sym own) (c.in-Ok.ensures.stands keeper there (subst (λ (h : List LaneEvent). Sure (g.K.Keeper.held keeper) h) own sure)))
          (ran_of g.K.Keeper g.F.RowFold.part_of g.F.RowFold.part_at s c.shape-shape.result rank (history lanes c.order.result.now) (histories rank) c.loop-rank.keepers.items c.fold_rank.new.keepers.items core
          c.shape-shape.ensures (sym own) c.in-Ok.ensures.own)
          c.in-Ok.ensures.others
          (λ quiet. c.in-Ok.ensures.quiet (subst (λ (h : List LaneEvent). list_any is_save h ≡ false) own quiet)),
      c.in-Ok.ensures.places ∙ c.loop-rank.invariant.1,
    )
