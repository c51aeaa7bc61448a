use Rattle.std.proofs.Common.{◌≡◌, ◌<◌, length, refl, arith}
use Rattle.mls_desk.proofs.Saving.{saves_none, saves_more, saves_all, saves_kept, saves_stopped, seated_at, seated_set}
use Rattle.mls_desk.proofs.saves.last_saves.Goals as goal

pub loop-rank-init : goal.loop-rank-init
loop-rank-init g c = (saves_none {U = g.K.Keeper} {N = g.N.Run} c.args.books.now.items c.requires.seated, refl)

pub save_last-requires-clause-named : goal.save_last-requires-clause-named
save_last-requires-clause-named g c =
    (seated_at {U = g.K.Keeper} {N = g.N.Run} c.loop-rank.books.items c.loop-rank.rank c.index_mut.result.now c.loop-rank.invariant.0.seated
    (let lt = c.loop-rank-test.true in let end = c.len-rank-end.ensures in let same = c.loop-rank.invariant.1 in let own = c.loop-rank.books.ok.0 in omega (arith, lt, end, same, own)) c.index_mut.ensures.value).0

pub save_last-requires-clause-control : goal.save_last-requires-clause-control
save_last-requires-clause-control g c =
    let at = (seated_at {U = g.K.Keeper} {N = g.N.Run} c.loop-rank.books.items c.loop-rank.rank c.index_mut.result.now c.loop-rank.invariant.0.seated
    (let lt = c.loop-rank-test.true in let end = c.len-rank-end.ensures in let same = c.loop-rank.invariant.1 in let own = c.loop-rank.books.ok.0 in omega (arith, lt, end, same, own)) c.index_mut.ensures.value).1 in
    let lt = c.loop-rank-test.true in
    let end = c.len-rank-end.ensures in
    let lanes = c.requires.control in
    omega (arith, at, lt, end, lanes)

pub returns-in-Err-clause-seated : goal.returns-in-Err-clause-seated
returns-in-Err-clause-seated g c =
    let here : c.loop-rank.rank < length c.loop-rank.books.items = (let lt = c.loop-rank-test.true in let end = c.len-rank-end.ensures in let same = c.loop-rank.invariant.1 in let own = c.loop-rank.books.ok.0 in omega (arith, lt, end, same, own)) in
    let at = (seated_at {U = g.K.Keeper} {N = g.N.Run} c.loop-rank.books.items c.loop-rank.rank c.index_mut.result.now c.loop-rank.invariant.0.seated here c.index_mut.ensures.value).1 in
    let rank = c.in-Err.ensures.rank in
    seated_set {U = g.K.Keeper} {N = g.N.Run} c.loop-rank.books.items c.loop-rank.rank c.save_last.new.book c.loop-rank.invariant.0.seated c.in-Err.ensures.named (let own : c.save_last.new.book.core.rank ≡ c.loop-rank.rank = omega (arith, rank, at) in own)

pub returns-in-Err-clause-stopped : goal.returns-in-Err-clause-stopped
returns-in-Err-clause-stopped g c =
    let here : c.loop-rank.rank < length c.loop-rank.books.items = (let lt = c.loop-rank-test.true in let end = c.len-rank-end.ensures in let same = c.loop-rank.invariant.1 in let own = c.loop-rank.books.ok.0 in omega (arith, lt, end, same, own)) in
    saves_stopped {U = g.K.Keeper} {N = g.N.Run} c.args.books.now.items c.loop-rank.books.items c.loop-rank.rank c.save_last.new.book _ c.loop-rank.invariant.0 here refl c.in-Err.ensures.shown

pub returns-in-Err-clause-reported : goal.returns-in-Err-clause-reported
returns-in-Err-clause-reported g c =
    let here : c.loop-rank.rank < length c.loop-rank.books.items = (let lt = c.loop-rank-test.true in let end = c.len-rank-end.ensures in let same = c.loop-rank.invariant.1 in let own = c.loop-rank.books.ok.0 in omega (arith, lt, end, same, own)) in
    (saves_stopped {U = g.K.Keeper} {N = g.N.Run} c.args.books.now.items c.loop-rank.books.items c.loop-rank.rank c.save_last.new.book _ c.loop-rank.invariant.0 here refl c.in-Err.ensures.shown).reported

pub loop-rank-preserved : goal.loop-rank-preserved
loop-rank-preserved g c =
    let here : c.loop-rank.rank < length c.loop-rank.books.items = (let lt = c.loop-rank-test.true in let end = c.len-rank-end.ensures in let same = c.loop-rank.invariant.1 in let own = c.loop-rank.books.ok.0 in omega (arith, lt, end, same, own)) in
    let e = c.in-Ok.ensures in (
      saves_more {U = g.K.Keeper} {N = g.N.Run} c.args.books.now.items c.loop-rank.books.items c.loop-rank.rank c.index_mut.result.now c.save_last.new.book c.loop-rank.invariant.0 here c.index_mut.ensures.value
          e.named e.rank e.journal e.fault e.holds,
      c.loop-rank.invariant.1,
    )

pub returns-clause-saved : goal.returns-clause-saved
returns-clause-saved g c = λ _.
    saves_all {U = g.K.Keeper} {N = g.N.Run} c.args.books.now.items c.loop-rank.books.items c.loop-rank.rank c.loop-rank.invariant.0
    (let end = c.loop-rank-test.false in let len = c.len-rank-end.ensures in let same = c.loop-rank.invariant.1 in let own = c.loop-rank.books.ok.0 in omega (arith, end, len, same, own))

pub returns-clause-kept : goal.returns-clause-kept
returns-clause-kept g c = λ _ clean.
    saves_kept {U = g.K.Keeper} c.args.books.now.items c.loop-rank.books.items
    (saves_all {U = g.K.Keeper} {N = g.N.Run} c.args.books.now.items c.loop-rank.books.items c.loop-rank.rank c.loop-rank.invariant.0
    (let end = c.loop-rank-test.false in let len = c.len-rank-end.ensures in let same = c.loop-rank.invariant.1 in let own = c.loop-rank.books.ok.0 in omega (arith, end, len, same, own))) clean
