use Rattle.std.proofs.Common.{◌≡◌, ℕ, ◌+◌, ◌-◌, ◌++◌, length, ap, sym, subst, refl, ◌∙◌, arith, length-append, List}
use Rattle.std.proofs.lemmas.Result.{err_from_is_err_and}
use Rattle.mls_model.specs.declared.lanes.LaneEnd.{LaneEnd}
use Rattle.mls_model.specs.Frames.{sight, bad, more}
use Rattle.mls_model.specs.Lanes.{end_by}
use Rattle.mls_frame.specs.Feeding.{Fed, IsNoFrame}
use Rattle.mls_serve.specs.Readings.{HasRead, ReadMore, ReadLost, EndsFed}
use Rattle.mls_serve.proofs.Ends.{bad_end, bad_ends}
use Rattle.mls_serve.proofs.Lanes.{has_more}
use Rattle.mls_serve.proofs.Openings.{greeted, early, more_same, some_end, no_end}
use Rattle.mls_serve.proofs.opening.hear_first.Goals as goal

pub returns-in-Greeted-clause-opened : goal.returns-in-Greeted-clause-opened
returns-in-Greeted-clause-opened g c =
    let i = c.loop-greeting.invariant in
    (greeted c.in-Greeted.greeting c.args.shape.now (g.L.Link.told c.args.link.now) (g.L.Link.told c.loop-greeting.link) c.loop-greeting.feeder c.look_first.new.feeder i.read i.start i.few c.in-Greeted.ensures.fed c.in-Greeted.ensures.first, i.faultless)

pub returns-in-Bad-clause-opened : goal.returns-in-Bad-clause-opened
returns-in-Bad-clause-opened g c =
    let i = c.loop-greeting.invariant in
    let fed = c.loop-greeting.feeder in
    let fault = c.in-Bad.fault in
    let now = g.L.Link.told c.loop-greeting.link in
    let faults = g.L.Link.faults c.loop-greeting.link in
    let e : sight fed.rest ≡ bad fault = c.in-Bad.ensures.first in
    let zero : fed.offset - 0 ≡ 0 = omega (arith, i.start) in
    let is : c.bad_end.result ≡ end_by (fed.offset - 0) (bad fault) = c.bad_end.ensures ∙ ap (λ (n : ℕ). end_by n (bad fault)) (sym zero) in
    let ended : EndsFed c.bad_end.result 0 fed now now faults faults = subst (λ (end : LaneEnd). EndsFed end 0 fed now now faults faults) (sym is)
    (bad_ends fault (fed.offset - 0) fed.rest ((fed.offset + length fed.rest) - 0) now now faults faults (record { is_end = sym (bad_end (fed.offset - 0) fed.rest fault e); link = refl; faultless = refl })) in
    early c.bad_end.result (g.L.Link.told c.args.link.now) now now fed (g.L.Link.faults c.args.link.now) faults faults i.read i.start i.faultless (subst IsNoFrame (sym e) tt) ended

pub returns-in_err-end-in-More-clause-lost : goal.returns-in_err-end-in-More-clause-lost
returns-in_err-end-in-More-clause-lost g c =
    let p = err_from_is_err_and c.from_residual.result c.from_residual.ensures.1 in
    let lost = c.in_err-end-in-More.ensures.lost in
    let fed = c.loop-greeting.feeder in
    let all : ReadLost (g.L.Link.told c.args.link.now) (g.L.Link.told c.read_on.new.link) = record {
      piece = fed.rest ++ lost.piece;
      read = has_more fed.rest lost.piece (g.L.Link.told c.args.link.now) (g.L.Link.told c.loop-greeting.link) (g.L.Link.told c.read_on.new.link) c.loop-greeting.invariant.read lost.read;
    } in
    rw p.1 all

pub returns-in-Some-clause-opened : goal.returns-in-Some-clause-opened
returns-in-Some-clause-opened g c =
    let i = c.loop-greeting.invariant in
    let fed = c.loop-greeting.feeder in
    let e : sight fed.rest ≡ more = c.in-More.ensures.first in
    let same : c.look_first.new.feeder ≡ fed = more_same fed c.look_first.new.feeder c.in-More.ensures.fed e in
    let old = g.L.Link.told c.args.link.now in
    let now = g.L.Link.told c.loop-greeting.link in
    let next = g.L.Link.told c.read_on.new.link in
    let mid = g.L.Link.faults c.loop-greeting.link in
    let after = g.L.Link.faults c.read_on.new.link in
    let ended = some_end c.in_ok-end-in-More.field-0 c.in-Some.end (λ (end : LaneEnd). EndsFed end 0 c.look_first.new.feeder now next mid after) c.in-Some.is c.in_ok-end-in-More.ensures.ended in
    early c.in-Some.end old now next fed (g.L.Link.faults c.args.link.now) mid after i.read i.start i.faultless (subst IsNoFrame (sym e) tt) (subst (λ (x : Fed). EndsFed c.in-Some.end 0 x now next mid after) same ended)

pub loop-greeting-preserved : goal.loop-greeting-preserved
loop-greeting-preserved g c =
    let i = c.loop-greeting.invariant in
    let fed = c.loop-greeting.feeder in
    let e : sight fed.rest ≡ more = c.in-More.ensures.first in
    let same : c.look_first.new.feeder ≡ fed = more_same fed c.look_first.new.feeder c.in-More.ensures.fed e in
    let old = g.L.Link.told c.args.link.now in
    let now = g.L.Link.told c.loop-greeting.link in
    let next = g.L.Link.told c.read_on.new.link in
    let read = no_end c.in_ok-end-in-More.field-0 (ReadMore now next c.look_first.new.feeder c.read_on.new.feeder 0) c.in_default.not-Some c.in_ok-end-in-More.ensures.read in
    let faultless = no_end c.in_ok-end-in-More.field-0 (g.L.Link.faults c.read_on.new.link ≡ g.L.Link.faults c.loop-greeting.link) c.in_default.not-Some c.in_ok-end-in-More.ensures.faultless in
    let rest : c.read_on.new.feeder.rest ≡ fed.rest ++ read.piece = ap (λ (x : Fed). x.rest) read.fed ∙ ap (λ (x : Fed). x.rest ++ read.piece) same in
    record {
      read = subst (λ (xs : List ℕ). HasRead xs old next) (sym rest) (has_more fed.rest read.piece old now next i.read read.read);
      start = ap (λ (x : Fed). x.offset) read.fed ∙ ap (λ (x : Fed). x.offset) same ∙ i.start;
      few = omega (arith, ap length rest, length-append fed.rest read.piece, read.few, ap (λ (x : Fed). length x.rest) same, ap (λ (x : Fed). x.offset) same);
      faultless = faultless ∙ i.faultless;
    }
