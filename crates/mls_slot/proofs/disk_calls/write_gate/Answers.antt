use Rattle.mls_slot.proofs.Moments.{reach_sync}
use Rattle.mls_slot.proofs.Writes.{along, gate_written}
use Rattle.mls_slot.proofs.disk_calls.write_gate.Goals as goal

pub returns-in_err-write_at-clause-moments : goal.returns-in_err-write_at-clause-moments
returns-in_err-write_at-clause-moments g c = λ t rest.
    let t0 = c.in_err-write_at.ensures.ceased t in
    let w = c.in_err-write_at.ensures.badly t in
    (gate_written c.args.area c.requires _ _ (λ image left. g.met.D.Disk.only_now c.args.disk.now image t0 left) rest w.torn w.elsewhere).leaves

pub returns-in_err-sync-clause-moments : goal.returns-in_err-sync-clause-moments
returns-in_err-sync-clause-moments g c = λ t rest.
    let t0 = along _ _ c.in_ok-write_at.ensures.tells (c.in_err-sync.ensures.ceased t) in
    let w = c.in_ok-write_at.ensures.wrote t0 in
    let s = c.in_err-sync.ensures.badly t in
    (reach_sync c.args.area c.requires _ _ _ _ _ (gate_written c.args.area c.requires _ _ (λ image left. g.met.D.Disk.only_now c.args.disk.now image t0 left) rest w.torn w.elsewhere) s.fewer s.elsewhere).leaves

pub returns-clause-moments : goal.returns-clause-moments
returns-clause-moments g c = λ t rest.
    let t1 = along _ _ c.in_ok-sync.ensures.tells t in
    let t0 = along _ _ c.in_ok-write_at.ensures.tells t1 in
    let w = c.in_ok-write_at.ensures.wrote t0 in
    let s = c.in_ok-sync.ensures.synced t1 in
    (reach_sync c.args.area c.requires _ _ _ _ _ (gate_written c.args.area c.requires _ _ (λ image left. g.met.D.Disk.only_now c.args.disk.now image t0 left) rest w.torn w.elsewhere) s.fewer s.elsewhere).leaves
