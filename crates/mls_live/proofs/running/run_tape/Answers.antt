-- The run's pool says what the run answers.
use Rattle.std.proofs.Common.{◌≤◌, vec_capacity, length, ap, sym, ◌∙◌, subst, arith}
use Rattle.std.specs.Global.{Vec}
use Rattle.mls_live.proofs.Ranks.{back_count, called, on_tape, ran_not, ran_pool, room_left}
use Rattle.mls_live.proofs.running.run_tape.Goals as goal

pub returns-in-Err-clause-ran : goal.returns-in-Err-clause-ran
returns-in-Err-clause-ran g c = ran_not g.K.Keeper c.args.study.now c.args.tape.now.lanes c.args.name.now c.args.keepers.items _ c.in-Err.ensures.unstarted _ _

pub returns-in-Err-clause-places : goal.returns-in-Err-clause-places
returns-in-Err-clause-places g c = omega (arith, ap length c.in-Err.ensures.unstarted, c.in-Err.unstarted.keepers.ok.0, c.args.keepers.ok.0, c.requires.keepers)

pub drain-pooled-requires : goal.drain-pooled-requires
drain-pooled-requires g c =
    let few = c.valid.ensures.sizes.ranks in
    let count = c.in-Ok.ensures.pool.are.count in
    omega (arith, few, count, c.in-Ok.pooled.books.ok.0)

pub end_pool-requires-clause-books : goal.end_pool-requires-clause-books
end_pool-requires-clause-books g c =
    let ended = c.drain-pooled.ensures.ended c.args.tape.now.lanes c.args.study.now.sizes c.args.keepers.items c.in-Ok.ensures.pool in
    on_tape g.K.Keeper c.args.tape.now.lanes c.args.study.now.sizes c.args.keepers.items c.drain-pooled.result.books.items ended.pool.are c.valid.ensures.sizes.ranks (sym c.args.keepers.ok.0 ∙ c.requires.keepers)

pub end_pool-requires-clause-room : goal.end_pool-requires-clause-room
end_pool-requires-clause-room g c =
    let ended = c.drain-pooled.ensures.ended c.args.tape.now.lanes c.args.study.now.sizes c.args.keepers.items c.in-Ok.ensures.pool in
    let most = room_left c.args.keepers.items c.args.study.now.sizes.ranks c.drain-pooled.result.books.items c.drain-pooled.result.spare.items ended.pool.are.count c.valid.ensures.sizes.ranks (sym c.args.keepers.ok.0 ∙ c.requires.keepers) ended.pool.left in
    let room : 64 ≤ vec_capacity c.drain-pooled.result.spare = subst (λ (v : Vec _). 64 ≤ vec_capacity v) (sym c.drain-pooled.ensures.spare) c.in-Ok.ensures.room in
    omega (arith, most, room, c.drain-pooled.result.books.ok.0, c.drain-pooled.result.spare.ok.0)

pub end_pool-requires-clause-reported : goal.end_pool-requires-clause-reported
end_pool-requires-clause-reported g c =
    let ended = c.drain-pooled.ensures.ended c.args.tape.now.lanes c.args.study.now.sizes c.args.keepers.items c.in-Ok.ensures.pool in
    ended.pool.reported

pub returns-clause-ran : goal.returns-clause-ran
returns-clause-ran g c =
    let ended = c.drain-pooled.ensures.ended c.args.tape.now.lanes c.args.study.now.sizes c.args.keepers.items c.in-Ok.ensures.pool in
    ran_pool g.K.Keeper c.args.study.now c.args.tape.now.lanes c.args.name.now c.args.keepers.items c.drain-pooled.result.books.items c.drain-pooled.result.spare.items c.end_pool.result.1.items c.drain-pooled.result.fault
    c.no_rank_crashes.ensures.none_after_save c.result_text_has_the_plain_lines.ensures c.valid.ensures.sizes.ranks (sym c.args.keepers.ok.0 ∙ c.requires.keepers) ended _ _ _ _ c.end_pool.result.0 c.end_pool.ensures

pub returns-clause-places : goal.returns-clause-places
returns-clause-places g c =
    let ended = c.drain-pooled.ensures.ended c.args.tape.now.lanes c.args.study.now.sizes c.args.keepers.items c.in-Ok.ensures.pool in
    let most = room_left c.args.keepers.items c.args.study.now.sizes.ranks c.drain-pooled.result.books.items c.drain-pooled.result.spare.items ended.pool.are.count c.valid.ensures.sizes.ranks (sym c.args.keepers.ok.0 ∙ c.requires.keepers) ended.pool.left in
    let back = back_count g.K.Keeper c.args.study.now c.args.tape.now.lanes c.args.name.now c.drain-pooled.result.books.items c.drain-pooled.result.spare.items c.end_pool.result.1.items c.drain-pooled.result.fault _ _ _ _ c.end_pool.result.0 c.end_pool.ensures in
    omega (arith, most, back, c.end_pool.result.1.ok.0)

pub returns-clause-called : goal.returns-clause-called
returns-clause-called g c = called g.K.Keeper c.args.study.now c.args.tape.now.lanes c.args.name.now c.drain-pooled.result.books.items c.drain-pooled.result.spare.items c.end_pool.result.1.items c.drain-pooled.result.fault _ _ _ _ c.end_pool.result.0 c.end_pool.ensures
