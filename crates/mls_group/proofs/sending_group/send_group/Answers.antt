use Rattle.std.proofs.Common.{◌∙◌, subst, List, Bool}
use Rattle.std.specs.List.{AllByRecursion}
use Rattle.std.proofs.lemmas.Result.{err_from_is_err_and}
use Rattle.mls_wire.specs.Sessions.{IsPair, pairs_of}
use Rattle.mls_wire.specs.declared.pairing.Pair.{Pair}
use Rattle.mls_group.specs.Groups.{TellsOn, LastOne, Served, LinkLeft, AreEnough}
use Rattle.mls_group.proofs.Serving.{ServesTo, tells_more, stops_here, last_of}
use Rattle.mls_group.proofs.sending_group.send_group.Goals as goal

pub returns-in_err-send_link-clause-left : goal.returns-in_err-send_link-clause-left
returns-in_err-send_link-clause-left g c =
    let study = c.args.study.now in
    let all = pairs_of study.sizes in
    let pair = c.in-Some.pair.now in
    let left = c.in-Some.left.now in
    let old = g.D.Door.closed c.args.door.now in
    let mid = g.D.Door.closed c.loop-pair.door in
    let new = g.D.Door.closed c.send_link.new.door in
    let e = c.in-Some.ensures.cases.0 in
    let last = last_of left c.is_empty.result c.is_empty.ensures in
    let fault = c.in_err-send_link.field-0.0 in
    let p = err_from_is_err_and c.from_residual-in_err-send_link.result c.from_residual-in_err-send_link.ensures.1 in
    rw (p.1, p.2) (stops_here study c.args.group c.args.life all left pair fault old mid new c.loop-pair.invariant.silent
    (subst (λ (xs : List Pair). TellsOn (ServesTo study c.args.group c.args.life all xs) old mid) e c.loop-pair.invariant.serves)
    (subst (λ (b : Bool). LinkLeft fault study c.args.group c.args.life pair b mid new) last c.in_err-send_link.ensures.left))

pub loop-pair-preserved : goal.loop-pair-preserved
loop-pair-preserved g c =
    let study = c.args.study.now in
    let all = pairs_of study.sizes in
    let pair = c.in-Some.pair.now in
    let left = c.in-Some.left.now in
    let old = g.D.Door.closed c.args.door.now in
    let mid = g.D.Door.closed c.loop-pair.door in
    let new = g.D.Door.closed c.send_link.new.door in
    let e = c.in-Some.ensures.cases.0 in
    let last = last_of left c.is_empty.result c.is_empty.ensures in
    record {
      serves = tells_more study c.args.group c.args.life all left pair old mid new
          (subst (λ (xs : List Pair). TellsOn (ServesTo study c.args.group c.args.life all xs) old mid) e c.loop-pair.invariant.serves)
          (subst (λ (b : Bool). TellsOn (LastOne (Served study c.args.group c.args.life pair b)) mid new) last c.in_ok-send_link.ensures.sent);
      silent = λ none. c.in_ok-send_link.ensures.silent (c.loop-pair.invariant.silent none);
      each = (subst (λ (xs : List Pair). AllByRecursion (IsPair study.sizes) xs) e c.loop-pair.invariant.each).1;
      faults = c.in_ok-send_link.ensures.faults ∙ c.loop-pair.invariant.faults;
      link_faults = c.in_ok-send_link.ensures.link_faults ∙ c.loop-pair.invariant.link_faults;
      accepts = c.in_ok-send_link.ensures.accepts ∙ c.loop-pair.invariant.accepts;
      sound = λ s. c.in_ok-send_link.ensures.sound (c.loop-pair.invariant.sound s);
      enough = λ h. c.in_ok-send_link.ensures.surely left last (subst (λ (xs : List Pair). AreEnough study c.args.group c.args.life xs (g.D.Door.awaited c.loop-pair.door)) e (c.loop-pair.invariant.enough h));
    }
