use Rattle.std.proofs.Common.{◌≡◌, ◌≢◌, ℕ, ◌<◌, ◌^◌, List, length, inl, refl, sym, arith}
use Rattle.std.specs.Int.{w64, to_be_bytes}
use Rattle.std.proofs.lemmas.Nat.{from_be_bytes-to_be_bytes_8}
use Rattle.mls_slot.proofs.Moments.{weaker}
use Rattle.mls_slot.proofs.Writes.{along}
use Rattle.mls_slot.proofs.Storing.{Gives, filling, opening, kept, new_head, stored}
use Rattle.mls_slot.proofs.disk_calls.store.Goals as goal

pub returns-in_err-shut_gate-clause-moments : goal.returns-in_err-shut_gate-clause-moments
returns-in_err-shut_gate-clause-moments g c = λ t.
    let old = g.D.Disk.view c.args.disk.now in
    let known = c.requires.known (c.in_err-shut_gate.ensures.ceased t) in
    let target = c.target-area.ensures.target old.seen known.heads in
    weaker old _ _ (Gives old c.args.payload.now) (c.in_err-shut_gate.ensures.moments t c.target-area.result.1 target) (λ image is. inl is)

pub returns-in_err-write_slot-clause-moments : goal.returns-in_err-write_slot-clause-moments
returns-in_err-write_slot-clause-moments g c = λ t.
    let old = g.D.Disk.view c.args.disk.now in
    let t1 = c.in_err-write_slot.ensures.ceased t in
    let t0 = along _ _ c.in_ok-shut_gate.ensures.tells t1 in
    let target = c.target-area.ensures.target old.seen (c.requires.known t0).heads in
    let shuts = c.in_ok-shut_gate.ensures.shuts t0 in
    filling old _ _ c.target-area.result.1 c.args.payload.now target shuts (c.in_ok-shut_gate.ensures.moments t1 c.target-area.result.1 target) _ (c.in_err-write_slot.ensures.moments t shuts.rest)

pub returns-in_err-write_gate-clause-moments : goal.returns-in_err-write_gate-clause-moments
returns-in_err-write_gate-clause-moments g c = λ t.
    let old = g.D.Disk.view c.args.disk.now in
    let p = c.args.payload.now in
    let bound : length p < 2 ^ 64 = omega arith in
    let t2 = c.in_err-write_gate.ensures.ceased t in
    let t1 = along _ _ c.in_ok-write_slot.ensures.tells t2 in
    let t0 = along _ _ c.in_ok-shut_gate.ensures.tells t1 in
    let target = c.target-area.ensures.target old.seen (c.requires.known t0).heads in
    let shuts = c.in_ok-shut_gate.ensures.shuts t0 in
    let settled = c.in_ok-write_slot.ensures.settled t1 shuts.rest in
    opening old _ _ c.target-area.result.1 p target shuts (c.in_ok-shut_gate.ensures.moments t1 c.target-area.result.1 target) (to_be_bytes w64 (length p)) refl (from_be_bytes-to_be_bytes_8 (length p) bound) _ settled _
    (c.in_ok-write_slot.ensures.moments t2 shuts.rest) (c.in_err-write_gate.ensures.moments t settled.rest)

pub returns-clause-moments : goal.returns-clause-moments
returns-clause-moments g c = λ t.
    let old = g.D.Disk.view c.args.disk.now in
    let p = c.args.payload.now in
    let bound : length p < 2 ^ 64 = omega arith in
    let t2 = along _ _ c.in_ok-write_gate.ensures.tells t in
    let t1 = along _ _ c.in_ok-write_slot.ensures.tells t2 in
    let t0 = along _ _ c.in_ok-shut_gate.ensures.tells t1 in
    let target = c.target-area.ensures.target old.seen (c.requires.known t0).heads in
    let shuts = c.in_ok-shut_gate.ensures.shuts t0 in
    let settled = c.in_ok-write_slot.ensures.settled t1 shuts.rest in
    opening old _ _ c.target-area.result.1 p target shuts (c.in_ok-shut_gate.ensures.moments t1 c.target-area.result.1 target) (to_be_bytes w64 (length p)) refl (from_be_bytes-to_be_bytes_8 (length p) bound) _ settled _
    (c.in_ok-write_slot.ensures.moments t2 shuts.rest) (c.in_ok-write_gate.ensures.moments t settled.rest)

pub returns-clause-stores : goal.returns-clause-stores
returns-clause-stores g c = λ t0.
    let old = g.D.Disk.view c.args.disk.now in
    let p = c.args.payload.now in
    let bound : length p < 2 ^ 64 = omega arith in
    let n = c.target-area.result.1 in
    let b : List ℕ = to_be_bytes w64 (length p) in
    let codes = from_be_bytes-to_be_bytes_8 (length p) bound in
    let t1 = along _ _ (sym c.in_ok-shut_gate.ensures.tells) t0 in
    let t2 = along _ _ (sym c.in_ok-write_slot.ensures.tells) t1 in
    let known = (c.requires.known t0).heads in
    let target = c.target-area.ensures.target old.seen known in
    let shuts = c.in_ok-shut_gate.ensures.shuts t0 in
    let shutting = c.in_ok-shut_gate.ensures.moments t1 n target in
    let settled = c.in_ok-write_slot.ensures.settled t1 shuts.rest in
    let done = c.in_ok-write_gate.ensures.settled t2 settled.rest in
    let same = kept old _ _ n p target shuts shutting b refl codes _ settled _ done in
    let head = new_head old _ _ n p target shuts shutting b refl codes _ settled _ done in
    stored old _ _ n p target shuts shutting b refl codes _ settled _ done c.with.result (c.with.ensures old.seen (g.D.Disk.view c.write_gate.new.disk).seen known head same)

pub returns-clause-first : goal.returns-clause-first
returns-clause-first g c = λ t0 none.
    let old = g.D.Disk.view c.args.disk.now in
    let p = c.args.payload.now in
    let bound : length p < 2 ^ 64 = omega arith in
    let n = c.target-area.result.1 in
    let b : List ℕ = to_be_bytes w64 (length p) in
    let codes = from_be_bytes-to_be_bytes_8 (length p) bound in
    let t1 = along _ _ (sym c.in_ok-shut_gate.ensures.tells) t0 in
    let t2 = along _ _ (sym c.in_ok-write_slot.ensures.tells) t1 in
    let known = (c.requires.known t0).heads in
    let target = c.target-area.ensures.target old.seen known in
    let shuts = c.in_ok-shut_gate.ensures.shuts t0 in
    let shutting = c.in_ok-shut_gate.ensures.moments t1 n target in
    let settled = c.in_ok-write_slot.ensures.settled t1 shuts.rest in
    let done = c.in_ok-write_gate.ensures.settled t2 settled.rest in
    let zero : c.target-area.result.0 ≡ 0 = c.target-area.ensures.first old.seen known none in
    let second : 1 < 2 = omega arith in
    let apart : 1 ≢ c.target-area.result.0 = omega (arith, zero) in
    kept old _ _ n p target shuts shutting b refl codes _ settled _ done 1 second apart
