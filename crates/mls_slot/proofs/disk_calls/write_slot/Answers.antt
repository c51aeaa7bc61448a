use Rattle.mls_slot.proofs.Moments.{reach_sync}
use Rattle.mls_slot.proofs.Writes.{along, slot_begun, slot_filled}
use Rattle.mls_slot.proofs.disk_calls.write_slot.Goals as goal

pub returns-in_err-write_at-clause-moments : goal.returns-in_err-write_at-clause-moments
returns-in_err-write_at-clause-moments g c = λ t rest.
    let t0 = c.in_err-write_at.ensures.ceased t in
    let w = c.in_err-write_at.ensures.badly t in
    (slot_begun c.args.area c.requires.area _ _ (λ image left. g.met.D.Disk.only_now c.args.disk.now image t0 left) rest _ w.torn w.elsewhere).leaves

pub returns-in_err-write_at-2-clause-moments : goal.returns-in_err-write_at-2-clause-moments
returns-in_err-write_at-2-clause-moments g c = λ t rest.
    let t0 = along _ _ c.in_ok-write_at.ensures.tells (c.in_err-write_at-2.ensures.ceased t) in
    let w = c.in_ok-write_at.ensures.wrote t0 in
    let v = c.in_err-write_at-2.ensures.badly t in
    let begun = slot_begun c.args.area c.requires.area _ _ (λ image left. g.met.D.Disk.only_now c.args.disk.now image t0 left) rest _ w.torn w.elsewhere in
    (slot_filled c.args.area c.requires.area _ _ _ _ begun v.torn v.elsewhere).leaves

pub returns-in_err-sync-clause-moments : goal.returns-in_err-sync-clause-moments
returns-in_err-sync-clause-moments g c = λ t rest.
    let t1 = along _ _ c.in_ok-write_at-2.ensures.tells (c.in_err-sync.ensures.ceased t) in
    let t0 = along _ _ c.in_ok-write_at.ensures.tells t1 in
    let w = c.in_ok-write_at.ensures.wrote t0 in
    let v = c.in_ok-write_at-2.ensures.wrote t1 in
    let s = c.in_err-sync.ensures.badly t in
    let begun = slot_begun c.args.area c.requires.area _ _ (λ image left. g.met.D.Disk.only_now c.args.disk.now image t0 left) rest _ w.torn w.elsewhere in
    let filled = slot_filled c.args.area c.requires.area _ _ _ _ begun v.torn v.elsewhere in
    (reach_sync c.args.area c.requires.area _ _ _ _ _ filled s.fewer s.elsewhere).leaves

pub returns-clause-moments : goal.returns-clause-moments
returns-clause-moments g c = λ t rest.
    let t2 = along _ _ c.in_ok-sync.ensures.tells t in
    let t1 = along _ _ c.in_ok-write_at-2.ensures.tells t2 in
    let t0 = along _ _ c.in_ok-write_at.ensures.tells t1 in
    let w = c.in_ok-write_at.ensures.wrote t0 in
    let v = c.in_ok-write_at-2.ensures.wrote t1 in
    let s = c.in_ok-sync.ensures.synced t2 in
    let begun = slot_begun c.args.area c.requires.area _ _ (λ image left. g.met.D.Disk.only_now c.args.disk.now image t0 left) rest _ w.torn w.elsewhere in
    let filled = slot_filled c.args.area c.requires.area _ _ _ _ begun v.torn v.elsewhere in
    (reach_sync c.args.area c.requires.area _ _ _ _ _ filled s.fewer s.elsewhere).leaves
