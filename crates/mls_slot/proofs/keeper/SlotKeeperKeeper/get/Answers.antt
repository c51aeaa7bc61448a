use Rattle.std.proofs.Common.{ℕ, List, Option, None, Some, sym, ◌∙◌, subst, inl}
use Rattle.mls_slot.specs.Runs.{IsOneOf}
use Rattle.mls_slot.proofs.Writes.{along}
use Rattle.mls_slot.proofs.Storing.{rest_value}
use Rattle.mls_slot.proofs.Giving.{quiet, quiet_again, seen_one, same_value, given_told, no_value, a_value}
use Rattle.mls_slot.proofs.keeper.SlotKeeperKeeper.get.Goals as goal

pub returns-in_default-slot-clause-moments : goal.returns-in_default-slot-clause-moments
returns-in_default-slot-clause-moments g c = λ t values gives. quiet (g.D.Disk.view c.args.self.now.disk) _ values gives (c.in-Ok.ensures.moments t)

pub returns-in_default-slot-clause-gives : goal.returns-in_default-slot-clause-gives
returns-in_default-slot-clause-gives g c = λ t0 values gives.
    let old = g.D.Disk.view c.args.self.now.disk in
    let mid = g.D.Disk.view c.heads.new.self.disk in
    let t1 = along _ _ (sym c.in-Ok.ensures.tells) t0 in
    let known = (c.in-Ok.ensures.knows t1).heads in
    let none = no_value mid.seen c.target-area.result.0 c.target-area.result.1 (c.target-area.ensures.target mid.seen known) (sym (c.head.ensures mid.seen known).slot ∙ c.in_default-slot.is) in
    subst (λ (v : Option (List ℕ)). IsOneOf v values) none (seen_one old mid values gives (c.in-Ok.ensures.moments t1) (g.met.D.Disk.seen_left c.heads.new.self.disk t1))

pub returns-in_default-slot-clause-given : goal.returns-in_default-slot-clause-given
returns-in_default-slot-clause-given g c =
    let old = g.D.Disk.view c.args.self.now.disk in
    let mid = g.D.Disk.view c.heads.new.self.disk in
    given_told (g.D.Disk.tells c.args.self.now.disk) c.args.self.now.faulted old.seen None (λ t0.
    let t1 = along _ _ (sym c.in-Ok.ensures.tells) t0 in
    let known = (c.in-Ok.ensures.knows t1).heads in
    sym (same_value old mid (c.in-Ok.ensures.seen t0)) ∙ no_value mid.seen c.target-area.result.0 c.target-area.result.1 (c.target-area.ensures.target mid.seen known) (sym (c.head.ensures mid.seen known).slot ∙ c.in_default-slot.is))

pub returns-in_err-bytes-clause-moments : goal.returns-in_err-bytes-clause-moments
returns-in_err-bytes-clause-moments g c = λ t values gives.
    let t1 = c.payload.ensures.ceased t in
    quiet_again (g.D.Disk.view c.args.self.now.disk) (g.D.Disk.view c.heads.new.self.disk) values gives (c.in-Ok.ensures.moments t1) (g.D.Disk.view c.payload.new.self.disk) (c.payload.ensures.moments t)

pub returns-clause-moments : goal.returns-clause-moments
returns-clause-moments g c = λ t values gives.
    let t1 = c.payload.ensures.ceased t in
    quiet_again (g.D.Disk.view c.args.self.now.disk) (g.D.Disk.view c.heads.new.self.disk) values gives (c.in-Ok.ensures.moments t1) (g.D.Disk.view c.payload.new.self.disk) (c.payload.ensures.moments t)

pub returns-clause-gives : goal.returns-clause-gives
returns-clause-gives g c = λ t0 values gives.
    let old = g.D.Disk.view c.args.self.now.disk in
    let mid = g.D.Disk.view c.heads.new.self.disk in
    let t1 = along _ _ (sym c.in-Ok.ensures.tells) t0 in
    let known = (c.in-Ok.ensures.knows t1).heads in
    let some = a_value mid.seen c.target-area.result.0 c.target-area.result.1 c.in-Some.slot c.in_ok-bytes.bytes.items (c.target-area.ensures.target mid.seen known) (sym (c.head.ensures mid.seen known).slot ∙ c.in-Some.is) (c.in_ok-bytes.ensures.bytes t1) in
    subst (λ (v : Option (List ℕ)). IsOneOf v values) some (seen_one old mid values gives (c.in-Ok.ensures.moments t1) (g.met.D.Disk.seen_left c.heads.new.self.disk t1))

pub returns-clause-given : goal.returns-clause-given
returns-clause-given g c =
    let old = g.D.Disk.view c.args.self.now.disk in
    let mid = g.D.Disk.view c.heads.new.self.disk in
    given_told (g.D.Disk.tells c.args.self.now.disk) c.args.self.now.faulted old.seen (Some c.in_ok-bytes.bytes.items) (λ t0.
    let t1 = along _ _ (sym c.in-Ok.ensures.tells) t0 in
    let known = (c.in-Ok.ensures.knows t1).heads in
    sym (same_value old mid (c.in-Ok.ensures.seen t0))
    ∙ a_value mid.seen c.target-area.result.0 c.target-area.result.1 c.in-Some.slot c.in_ok-bytes.bytes.items (c.target-area.ensures.target mid.seen known) (sym (c.head.ensures mid.seen known).slot ∙ c.in-Some.is) (c.in_ok-bytes.ensures.bytes t1))

pub returns-in_default-slot-clause-leaves : goal.returns-in_default-slot-clause-leaves
returns-in_default-slot-clause-leaves g c = λ t0 image left.
    let mid = g.D.Disk.view c.heads.new.self.disk in
    let known = c.in-Ok.ensures.knows (along _ _ (sym c.in-Ok.ensures.tells) t0) in
    let none = no_value mid.seen c.target-area.result.0 c.target-area.result.1 (c.target-area.ensures.target mid.seen known.heads) (sym (c.head.ensures mid.seen known.heads).slot ∙ c.in_default-slot.is) in
    inl (rest_value mid known.rest image left ∙ none)

pub returns-clause-leaves : goal.returns-clause-leaves
returns-clause-leaves g c = λ t0 image left.
    let mid = g.D.Disk.view c.heads.new.self.disk in
    let t1 = along _ _ (sym c.in-Ok.ensures.tells) t0 in
    let t2 = along _ _ (sym c.in_ok-bytes.ensures.tells) t1 in
    let known = c.in-Ok.ensures.knows t1 in
    let some = a_value mid.seen c.target-area.result.0 c.target-area.result.1 c.in-Some.slot c.in_ok-bytes.bytes.items (c.target-area.ensures.target mid.seen known.heads) (sym (c.head.ensures mid.seen known.heads).slot ∙ c.in-Some.is) (c.in_ok-bytes.ensures.bytes t1) in
    inl (rest_value mid known.rest image ((c.payload.ensures.moments t2).now image left) ∙ some)
