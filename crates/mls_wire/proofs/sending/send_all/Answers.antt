use Rattle.std.proofs.Common.{◌++◌, take, length, ap, ◌∙◌, arith, length-drop}
use Rattle.std.proofs.lemmas.List.{take-append-drop}
use Rattle.mls_wire.proofs.Sent.{Sent-more}
use Rattle.mls_wire.proofs.sending.send_all.Goals as goal

pub loop-rest-preserved : goal.loop-rest-preserved
loop-rest-preserved g c =
    let n = c.in_ok-n.n in
    let rest = c.loop-rest.rest.now in
    record {
      written = Sent-more _ _ _ _ rest (take n rest) _ c.loop-rest.invariant.written (ap (λ xs. take n rest ++ xs) c.split_at.ensures.back ∙ take-append-drop n rest) c.in_ok-n.ensures.written;
      sound = λ s. c.in_ok-n.ensures.sound (c.loop-rest.invariant.sound s);
      sure = omega (arith, c.loop-rest.invariant.sure, c.in_ok-n.ensures.sure, c.in_ok-n.ensures.within, ap length c.split_at.ensures.back, length-drop n rest);
      faultless = c.in_ok-n.ensures.faultless ∙ c.loop-rest.invariant.faultless;
    }
